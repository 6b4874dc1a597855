-- Tokens with their places aside.
use Rattle.std.specs.Prelude.{ℕ, ◌≡◌, Bool, List, [], ◌∷◌}
use Rattle.dart_tokens.specs.declared.token.Kind.{Kind}
use Rattle.dart_tokens.specs.declared.token.Token.{Token}
use Rattle.dart_scan.specs.Scanned.{tokens_of, words_of}
use Rattle.tree_print.specs.Printed.{lexeme_of, adjoins, printed}

-- a token as it is seen wherever it stands: its kind, its lexeme, and whether the next one adjoins it
pub record Seen : Type 0 where
  pub kind : Kind
  pub lexeme : List ℕ
  pub adjoins : Bool

-- tokens with these words, one by one
abbrev pub seen : (words : List (List ℕ)) → List Token → List Seen
seen words [] = []
seen words (token ∷ behind) = record { kind = token.kind; lexeme = lexeme_of words token; adjoins = adjoins token behind } ∷ seen words behind

-- the text that is printed of the tokens of a text
abbrev pub printed_again : (text : List ℕ) → List ℕ
printed_again text = printed (words_of text) (tokens_of text)

-- the tokens of a text are seen as those of another
abbrev pub SeenAlike : (text other : List ℕ) → Type 0
SeenAlike text other = seen (words_of text) (tokens_of text) ≡ seen (words_of other) (tokens_of other)
