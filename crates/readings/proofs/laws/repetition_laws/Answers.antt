use Rattle.readings.specs.Repetition.{offers_maybe, offers_many}
use Rattle.readings.specs.Commits.{offers_exactly}
use Rattle.readings.specs.Chains.{parses_chain, sole_once}
use Rattle.readings.proofs.laws.repetition_laws.Goals as goal

pub returns : goal.returns
returns types c = record {
  optional = λ p. offers_maybe p.parses;
  exact = λ p. offers_exactly p.parses;
  repeated = λ p far. offers_many p.parses far;
  left_nested = λ most room join p q. parses_chain most room join p.sole q.sole;
  one_side = λ room join p q. sole_once room join p.sole q.sole;
}
