-- The word of a token among those of its text is its lexeme.
use Rattle.std.proofs.Common.{◌≡◌, ℕ, zero, suc, ◌+◌, ◌||◌, not, Bool, true, false, List, [], ◌∷◌, ◌++◌, bytes_eq, if◌then◌else◌, Some, slice_get, slice_index_or, refl, sym, ap, arith}
use Rattle.std.specs.List.{list_any, position_or_len}
use Rattle.std.proofs.lemmas.Slice.Eq.{bytes_eq-Decides}
use Rattle.dart_scan.specs.Scanned.{Lexeme, with_word, words_behind, token_of}
use Rattle.tree_print.specs.Printed.{lexeme_of}

-- a word stands at its place once it is among the words
at_place : (word : List ℕ) (words : List (List ℕ)) (found : Bool) → list_any (bytes_eq word) words ≡ found → slice_get (if found then words else words ++ word ∷ []) (position_or_len (bytes_eq word) words) ≡ Some word
at_place word [] true h = absurd (cc)
at_place word [] false h = refl
at_place word (w ∷ words) found h = either (bytes_eq word w) found refl h (at_place word words)
  where
    one_more : 1 + position_or_len (bytes_eq word) words ≡ suc (position_or_len (bytes_eq word) words)
    one_more = omega arith

    either : (same found : Bool) → bytes_eq word w ≡ same → (same || list_any (bytes_eq word) words) ≡ found →
        ((found : Bool) → list_any (bytes_eq word) words ≡ found → slice_get (if found then words else words ++ word ∷ []) (position_or_len (bytes_eq word) words) ≡ Some word) →
        slice_get (if found then w ∷ words else w ∷ words ++ word ∷ []) (if not same then 1 + position_or_len (bytes_eq word) words else 0) ≡ Some word
    either true true e h more = ap (λ (x : List ℕ). Some x) (sym ((bytes_eq-Decides word w).0 e))
    either true false e h more = absurd (cc)
    either false true e h more = rw one_more (more true h)
    either false false e h more = rw one_more (more false h)

-- a word keeps its place
stays : (word : List ℕ) (words : List (List ℕ)) (place : ℕ) (x : List ℕ) → slice_get words place ≡ Some word → slice_get (words ++ x ∷ []) place ≡ Some word
stays word [] place x e = absurd (cc)
stays word (w ∷ words) zero x e = e
stays word (w ∷ words) (suc place) x e = stays word words place x e

stays_with : (word : List ℕ) (words : List (List ℕ)) (place : ℕ) (x : List ℕ) (found : Bool) → slice_get words place ≡ Some word → slice_get (if found then words else words ++ x ∷ []) place ≡ Some word
stays_with word words place x true e = e
stays_with word words place x false e = stays word words place x e

stays_behind : (word : List ℕ) (words : List (List ℕ)) (place : ℕ) (ls : List Lexeme) → slice_get words place ≡ Some word → slice_get (words_behind words ls) place ≡ Some word
unfolding words_behind
stays_behind word words place [] e = e
stays_behind word words place (lexeme ∷ more) e =
    stays_behind word (with_word words lexeme.bytes) place more (stays_with word words place lexeme.bytes (list_any (bytes_eq lexeme.bytes) words) e)

-- the word at a place where one stands
indexed : (words : List (List ℕ)) (place : ℕ) (word : List ℕ) → slice_get words place ≡ Some word → slice_index_or words place [] ≡ word
indexed [] place word e = absurd (cc)
indexed (w ∷ words) zero word e = cc
indexed (w ∷ words) (suc place) word e = indexed words place word e

-- The word of a lexeme that stands behind some words and before others.
pub lexeme-is : (words : List (List ℕ)) (lexeme : Lexeme) (more : List Lexeme) → lexeme_of (words_behind (with_word words lexeme.bytes) more) (token_of words lexeme) ≡ lexeme.bytes
lexeme-is words lexeme more =
    indexed (words_behind (with_word words lexeme.bytes) more) (position_or_len (bytes_eq lexeme.bytes) words) lexeme.bytes
    (stays_behind lexeme.bytes (with_word words lexeme.bytes) (position_or_len (bytes_eq lexeme.bytes) words) more (at_place lexeme.bytes words (list_any (bytes_eq lexeme.bytes) words) refl))
