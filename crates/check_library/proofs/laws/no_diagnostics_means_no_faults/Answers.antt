use Rattle.check_library.specs.Diagnostics.{diagnostics, faults_in}
use Rattle.check_library.specs.Faultless.{none_found}
use Rattle.check_library.proofs.laws.no_diagnostics_means_no_faults.Goals as goal

pub returns : goal.returns
unfolding diagnostics
returns c = none_found (faults_in c.args._text.now)
