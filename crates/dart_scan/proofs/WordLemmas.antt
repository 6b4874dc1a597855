-- One word more.
use Rattle.std.proofs.Common.{◌+◌, ◌≤◌, ℕ, Bool, true, false, List, [], ◌∷◌, ◌++◌, bytes_eq, length, length-append, if◌then◌else◌, arith}
use Rattle.std.specs.List.{list_any}
use Rattle.dart_scan.specs.Scanned.{with_word}

chosen : (b : Bool) (words : List (List ℕ)) (word : List ℕ) → length (if b then words else words ++ word ∷ []) ≤ length words + 1
chosen true words word = omega arith
chosen false words word = omega (arith, length-append words (word ∷ []))

-- they are at most one more
pub few_with_word : (words : List (List ℕ)) (word : List ℕ) → length (with_word words word) ≤ length words + 1
few_with_word words word = chosen (list_any (bytes_eq word) words) words word
