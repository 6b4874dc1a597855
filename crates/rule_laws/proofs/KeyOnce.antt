-- What is in no list of numbers more often than in a run of numbers stands there once.
use Rattle.std.proofs.Common.{◌≡◌, ◌≢◌, ℕ, zero, suc, ◌+◌, ◌<◌, ◌≤◌, List, [], ◌∷◌, All, AllPairs, inl, inr, refl, subst, arith}
use Rattle.std.specs.List.{range_with_len}
use Rattle.std.proofs.lemmas.Bool.Decides.{eqb_tells, leb_tells}
use Rattle.std.proofs.lemmas.List.Elements.{All-nil, All-cons}
use Rattle.std.proofs.lemmas.List.Kept.{AllPairs-cons}
use Rattle.dart_tree.specs.Tree.{Tree}
use Rattle.dart_tree.specs.Numbers.{nodes_in, numbers_of, places_of}
use Rattle.tree_numbers.specs.PlaceLaws.{numbers_of-numbered}
use Rattle.judgement.specs.Surroundings.{Surroundings}
use Rattle.judgement.specs.Judgement.{run}
use Rattle.rule_laws.specs.Keys.{AreOnce, SpeaksOnce, numbers_said}
use Rattle.rule_laws.proofs.KeyCounts.{here-same, here-other, here-most, times, stands-times, spoken-times}
use Rattle.rule_laws.proofs.KeyForms.{of_statement}

-- in a run of numbers none stands that is below its first
none_below : (n a k : ℕ) → n < a → times n (range_with_len a k) ≡ 0
none_below n a zero low = refl
none_below n a (suc k) low = omega (arith, here-other n a (omega arith), none_below n (a + 1) k (omega arith))

-- so above
none_above : (n a k : ℕ) → a + k ≤ n → times n (range_with_len a k) ≡ 0
none_above n a zero high = refl
none_above n a (suc k) high = omega (arith, here-other n a (omega arith), none_above n (a + 1) k (omega arith))

-- and no more than once
at_most_once : (n a k : ℕ) → times n (range_with_len a k) ≤ 1
at_most_once n a zero = omega arith
at_most_once n a (suc k) = elim (eqb_tells n a) [
  | inl same ↦ omega (arith, here-most n a, none_below n (a + 1) k (omega (arith, same.1)))
  | inr differ ↦ omega (arith, here-other n a differ.1, at_most_once n (a + 1) k)
]

-- so what stands in it is one of its numbers
in_run_from : (first k n : ℕ) → 0 < times n (range_with_len first k) → first ≤ n
in_run_from first k n stood = elim (leb_tells first n) [
  | inl low ↦ low.1
  | inr high ↦ absurd (omega (arith, none_below n first k high.1))
]

-- and it is below its end
in_run_before : (first k n : ℕ) → 0 < times n (range_with_len first k) → n < first + k
in_run_before first k n stood = elim (leb_tells (first + k) n) [
  | inl low ↦ absurd (omega (arith, none_above n first k low.1))
  | inr high ↦ high.1
]

-- a number that stands in no rest differs from all in it
differs_from_all : (n : ℕ) (xs : List ℕ) → times n xs ≡ 0 → All (λ x. n ≢ x) xs
differs_from_all n [] none = All-nil (λ x. n ≢ x)
differs_from_all n (x ∷ xs) none = All-cons (λ x. n ≢ x) x xs (λ same. omega (arith, here-same n x same)) (differs_from_all n xs (omega arith))

-- each stands once
each_once : (xs : List ℕ) → ((n : ℕ) → times n xs ≤ 1) → AllPairs (λ a b. a ≢ b) xs
each_once [] most = λ i j d before within. absurd (omega arith)
each_once (x ∷ xs) most = AllPairs-cons (λ a b. a ≢ b) x xs (differs_from_all x xs (omega (arith, most x, here-same x x refl))) (each_once xs (λ n. omega (arith, most n)))

-- what holds of each number that stands there
pub each_that_stands : (P : ℕ → Type 0) (xs : List ℕ) → ((n : ℕ) → 0 < times n xs → P n) → All P xs
each_that_stands P [] holds = All-nil P
each_that_stands P (x ∷ xs) holds =
    All-cons P x xs (holds x (omega (arith, here-same x x refl))) (each_that_stands P xs (λ n stands. holds n (omega arith)))

-- numbers that stand nowhere more often than in a run
once_in_run : (first k : ℕ) (xs : List ℕ) → ((n : ℕ) → times n xs ≤ times n (range_with_len first k)) → AreOnce first (first + k) xs
once_in_run first k xs most = record {
  from_first = each_that_stands (λ n. first ≤ n) xs (λ n stood. in_run_from first k n (omega (arith, most n)));
  before_last = each_that_stands (λ n. n < first + k) xs (λ n stood. in_run_before first k n (omega (arith, most n)));
  once = each_once xs (λ n. omega (arith, most n, at_most_once n first k));
}

-- what the rules speak of stands in the tree, whose numbers are such a run
pub speaks_once : (s : Surroundings) (tree : Tree) → SpeaksOnce s tree
speaks_once s tree first m as_numbered =
    let run_of_numbers : numbers_of tree ≡ range_with_len first (nodes_in tree) = subst (λ (t : Tree). numbers_of t ≡ range_with_len first (nodes_in tree)) as_numbered (numbers_of-numbered first tree) in
    once_in_run first (nodes_in tree) (numbers_said (run s tree m).nodes) (λ n. subst (λ (numbers : List ℕ). times n (numbers_said (run s tree m).nodes) ≤ times n numbers) run_of_numbers
    (omega (arith, (of_statement s tree m).counts n, stands-times n (places_of tree), spoken-times n (run s tree m).nodes)))
