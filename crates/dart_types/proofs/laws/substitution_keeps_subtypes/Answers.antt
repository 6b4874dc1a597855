use Rattle.dart_types.proofs.SubstitutionLaw.{put_sub}
use Rattle.dart_types.proofs.laws.substitution_keeps_subtypes.Goals as goal

pub returns : goal.returns
returns c = λ scope σ s t within left right below.
    put_sub scope σ c.args._rows.now.table c.args._rows.now.formed c.requires within below left right
