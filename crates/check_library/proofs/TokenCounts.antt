-- A text has at most as many tokens as bytes.
use Rattle.std.proofs.Common.{◌≡◌, ℕ, zero, suc, ◌<◌, ◌≤◌, Bool, true, false, if◌then◌else◌, List, [], ◌∷◌, length, length-append, All, refl, ap, arith}
use Rattle.std.specs.List.{flat_map}
use Rattle.dart_scan.specs.Pieces.{Spelled, pieces}
use Rattle.dart_scan.specs.Scanned.{Lexeme, is_gap, lexemes, lexemes_from, tokens_behind, tokens_of, with_word}
use Rattle.dart_scan.specs.StepLemmas.{pieces-cover, pieces-some}

-- as many tokens as lexemes
length-tokens_behind : (words : List (List ℕ)) (ls : List Lexeme) → length (tokens_behind words ls) ≡ length ls
unfolding tokens_behind
length-tokens_behind words [] = refl
length-tokens_behind words (lexeme ∷ more) = ap suc (length-tokens_behind (with_word words lexeme.bytes) more)

-- one more or none
at_most_one : (gap : Bool) (more : List Lexeme) (l : Lexeme) (n : ℕ) → length more ≤ n → length (if gap then more else l ∷ more) ≤ suc n
at_most_one true more l n h = omega (arith, h)
at_most_one false more l n h = omega (arith, h)

-- at most as many lexemes as pieces
lexemes-few : (ps : List Spelled) (start : ℕ) → length (lexemes_from start ps) ≤ length ps
unfolding lexemes_from
lexemes-few [] start = omega arith
lexemes-few (piece ∷ more) start = at_most_one (is_gap piece.0) _ _ (length more) (lexemes-few more _)

-- at most as many pieces as bytes in them
pieces-few : (ps : List Spelled) → All (λ piece. 0 < length piece.1) ps → length ps ≤ length (flat_map (λ piece. piece.1) ps)
pieces-few [] some = omega arith
pieces-few (piece ∷ more) some =
    let here : 0 < length piece.1 = some zero piece (omega arith) in
    let there = pieces-few more (λ k d h. some (suc k) d (omega arith)) in
    omega (arith, here, there, length-append piece.1 (flat_map (λ p. p.1) more))

-- at most as many tokens as bytes
pub text_tokens-few : (text : List ℕ) → length (tokens_of text) ≤ length text
unfolding pieces
text_tokens-few text =
    let enough : length text ≤ length text = omega arith in
    let cover = ap (λ (bytes : List ℕ). length bytes) (pieces-cover (length text) true text enough) in
    omega (arith, length-tokens_behind [] (lexemes text), lexemes-few (pieces text) 0, pieces-few (pieces text) (pieces-some (length text) true text), cover)
