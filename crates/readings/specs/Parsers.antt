-- Rules with the descents that parse them.
use Rattle.readings.specs.Readings.{Rule, Test}
use Rattle.readings.specs.Descent.{Descent}
use Rattle.readings.specs.Leading.{Parses, Sole}
use Rattle.readings.specs.Repetition.{Offers}

-- a rule and a descent that finds the first of its longest readings
pub record Parser (T A : Type 0) : Type 0 where
  pub stops : Test T
  pub begins : Test T
  pub rule : Rule T A
  pub descent : Descent T A
  pub parses : Parses stops begins rule descent

-- a rule that has no other reading than its descent's
pub record Single (T A : Type 0) : Type 0 where
  pub begins : Test T
  pub rule : Rule T A
  pub descent : Descent T A
  pub sole : Sole begins rule descent

-- a rule that always reads, at least no tokens with a value
pub record Total (T A : Type 0) : Type 0 where
  pub stops : Test T
  pub begins : Test T
  pub idle : A
  pub rule : Rule T A
  pub descent : Descent T A
  pub offers : Offers stops begins idle rule descent
