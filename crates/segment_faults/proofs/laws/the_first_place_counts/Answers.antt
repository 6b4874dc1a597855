use Rattle.segment_faults.proofs.Firsts.{told, untold, decided}
use Rattle.segment_faults.proofs.laws.the_first_place_counts.Goals as goal

pub returns-clause-told : goal.returns-clause-told
returns-clause-told c = told c.args._text.now

pub returns-clause-untold : goal.returns-clause-untold
returns-clause-untold c = untold c.args._text.now

pub returns-clause-decided : goal.returns-clause-decided
returns-clause-decided c = decided c.args._text.now
