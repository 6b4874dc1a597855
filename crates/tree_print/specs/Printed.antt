-- The text that is printed of tokens: their lexemes, one after another, with gaps where the tokens have gaps between them.
use Rattle.std.specs.Prelude.{ℕ, ◌==◌, Bool, false, List, [], ◌∷◌, ◌++◌, codes, slice_index_or, if◌then◌else◌}
use denote.Enum.Bare.{sameb}
use Rattle.dart_tokens.specs.declared.token.Kind.TheVariants.{UnterminatedString}
use Rattle.dart_tokens.specs.contracts.token.Kind as kinds
use Rattle.dart_tokens.specs.declared.token.Token.{Token}

-- the lexeme of a token among the words of its text
abbrev pub lexeme_of : (words : List (List ℕ)) → Token → List ℕ
lexeme_of words token = slice_index_or words token.word []

-- the next of these tokens begins where that one ends
abbrev pub adjoins : Token → (behind : List Token) → Bool
adjoins token [] = false
adjoins token (next ∷ behind) = token.end == next.start

-- a gap behind a token: a string that never ends takes the rest of its line, so that only a line feed ends it
abbrev pub gap : Token → List ℕ
gap token = if sameb kinds.the_type token.kind UnterminatedString then codes "\n" else codes " "

-- what is printed between a token and those behind it: nothing where the next adjoins it, and nothing behind the last
abbrev pub gap_before : (behind : List Token) → Token → List ℕ
gap_before [] token = []
gap_before (next ∷ behind) token = if adjoins token (next ∷ behind) then [] else gap token

-- the text that is printed of tokens with these words
abbrev pub printed : (words : List (List ℕ)) → List Token → List ℕ
printed words [] = []
printed words (token ∷ behind) = lexeme_of words token ++ (gap_before behind token ++ printed words behind)
