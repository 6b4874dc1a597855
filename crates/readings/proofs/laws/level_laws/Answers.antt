use Rattle.readings.specs.Levels.{sole_levels, levels_climb}
use Rattle.readings.proofs.laws.level_laws.Goals as goal

pub returns : goal.returns
returns types c = record {
  single = λ most room join right p rs. sole_levels most room join (λ r above. (right r above).parses) p.sole rs;
  climbed = levels_climb;
}
