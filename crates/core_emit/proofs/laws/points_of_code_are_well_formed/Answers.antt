use Rattle.core_emit.specs.Emitted.{emit}
use Rattle.core_emit.proofs.Formed.{forms, all_in, all_formed}
use Rattle.core_emit.proofs.laws.points_of_code_are_well_formed.Goals as goal

pub returns : goal.returns
returns c g id code next old id_in same has formed own =
    let p = c.args._program.now in
    let gives = forms g id p id_in same code next old has (all_in g id p id_in same old formed) own in
    record {
      formed = all_formed g id p id_in same (emit id code next old).points gives.all;
      entry_own = gives.entry_own;
      kept = gives.grown.functions;
    }
