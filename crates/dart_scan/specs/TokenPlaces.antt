-- Where tokens stand in a text.
use Rattle.std.specs.Prelude.{ℕ, ◌≡◌, ◌+◌, List, ◌++◌}
use Rattle.plain_text.specs.Units.{units_in}
use Rattle.dart_tokens.specs.declared.token.Token.{Token}

-- The word is the part of a text at which a token stands: so many code units are before it, and so many are of it.
pub record IsPart (text : List ℕ) (token : Token) (word : List ℕ) : Type 0 where
  pub before : List ℕ
  pub after : List ℕ
  pub split : text ≡ before ++ (word ++ after)
  pub start : token.start ≡ units_in before
  pub end : token.end ≡ token.start + units_in word
