use Rattle.readings.specs.Combinators.{parses_token, parses_make, parses_seq, parses_within}
use Rattle.readings.specs.Repetition.{parses_last, parses_offered, offers_seq}
use Rattle.readings.proofs.laws.sequence_laws.Goals as goal

pub returns : goal.returns
returns types c = record {
  one_token = parses_token;
  made = λ p of. parses_make of p.parses;
  sequence = λ p q far. parses_seq p.parses q.parses far;
  last = λ p q far. parses_last p.parses q.offers far;
  offered = λ p q far. parses_offered p.offers q.parses far;
  both_offered = λ p q far. offers_seq p.offers q.offers far;
  weaker = λ p u v d e. parses_within u v d e p.parses;
}
