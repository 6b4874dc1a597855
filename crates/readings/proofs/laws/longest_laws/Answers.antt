use Rattle.readings.specs.Longest.{parses_longest, parses_whole}
use Rattle.readings.specs.Falls.{parses_falls}
use Rattle.readings.proofs.laws.longest_laws.Goals as goal

pub returns : goal.returns
returns types c = record { longest = λ p. parses_longest p.parses; whole = λ p. parses_whole p.parses; falls = λ p. parses_falls p.parses }
