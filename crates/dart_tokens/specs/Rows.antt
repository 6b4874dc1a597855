-- The words of the grammar by their first bytes.
use Rattle.std.specs.Prelude.{ℕ, ◌==◌, Bool, false, List, [], ◌∷◌, ◌++◌, if◌then◌else◌}
use Rattle.std.specs.List.{flat_map}
use Rattle.dart_tokens.specs.declared.token.Kind.{Kind}
use Rattle.dart_tokens.specs.Words.{reserved_words, built_in_identifiers, grammar_words}

-- all words that the grammar names, and their kinds
abbrev pub named_words : List (List ℕ × Kind)
named_words = reserved_words ++ (built_in_identifiers ++ grammar_words)

-- the word begins with a byte
abbrev pub begins_with : (first : ℕ) → List ℕ → Bool
begins_with first [] = false
begins_with first (byte ∷ word) = byte == first

-- those of the words that begin with a byte
abbrev pub words_from : (first : ℕ) → List (List ℕ × Kind)
words_from first = flat_map (λ row. if begins_with first row.0 then row ∷ [] else []) named_words
