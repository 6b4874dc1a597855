use Rattle.readings.specs.Choices.{parses_switch, parses_by, parses_where, parses_first, parses_second}
use Rattle.readings.specs.Commits.{parses_prefer}
use Rattle.readings.proofs.laws.choice_laws.Goals as goal

pub returns : goal.returns
returns types c = record {
  switch = λ p q far. parses_switch p.parses q.parses far;
  by = λ test p q d e. parses_by test p.parses q.parses d e;
  tested = λ test p q. parses_where test p.parses q.parses;
  preferred = λ p q. parses_prefer p.parses q.parses;
  first = λ p q w. parses_first p.parses q.parses w;
  second = λ p q w. parses_second p.parses q.parses w;
}
