use Rattle.readings.specs.Combinators.{sole_longest, parses_sole}
use Rattle.readings.specs.Commits.{sole_before, sole_only}
use Rattle.readings.specs.Groups.{sole_inside}
use Rattle.readings.proofs.laws.single_laws.Goals as goal

pub returns : goal.returns
returns types c = record {
  longest = λ p. sole_longest p.parses;
  before_some = λ p test. sole_before test p.sole;
  valued = λ p test. sole_only test p.sole;
  group = λ opens width past p. sole_inside opens width past p.parses;
  parses = λ p. parses_sole p.sole;
}
