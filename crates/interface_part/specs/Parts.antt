-- What an interface part is made of.
use Rattle.std.specs.Prelude.{ℕ, Bool, List}
use Rattle.dart_tokens.specs.declared.token.Kind.{Kind}

-- a lexeme, by its kind and its letters; of a `>` also whether the next token of the text follows it without a gap; or the mark that stands for a body or an initializer
pub data Part : Type 0 where
  mark : Part
  lexeme : (kind : Kind) (letters : List ℕ) (adjoins : Bool) → Part
