-- What is said of nodes is found by their numbers, if no number is spoken of twice.
use Rattle.std.proofs.Common.{◌≡◌, ◌≢◌, ℕ, zero, suc, ◌+◌, ◌<◌, ◌≤◌, cond, eqb, nat_eq, List, [], ◌∷◌, length, get_or, find, All, AllPairs, Option, Some, inl, inr, refl, sym, ap, ◌∙◌, arith}
use Rattle.std.proofs.lemmas.Bool.Decides.{eqb_tells, leb_tells, nat_tests}
use Rattle.std.proofs.lemmas.List.Elements.{All-head, All-tail, All-from_get_or}
use Rattle.judgement.specs.NodeFacts.{NodeFacts}
use Rattle.rule_laws.specs.Keys.{AreOnce, IsFoundByNumber, declared_number, numbers_said}
use Rattle.rule_laws.proofs.KeyCounts.{here, here-same, here-other, here-most, times, spoken, spoken-times}
use Rattle.rule_laws.proofs.KeyOnce.{each_that_stands}

-- what differs from all numbers of a list stands nowhere in it
stands_nowhere : (n : ℕ) (xs : List ℕ) → All (λ x. n ≢ x) xs → times n xs ≡ 0
stands_nowhere n [] differs = refl
stands_nowhere n (x ∷ xs) differs =
    omega (arith, here-other n x (All-head (λ y. n ≢ y) x xs differs), stands_nowhere n xs (All-tail (λ y. n ≢ y) x xs differs))

-- where each stands once, none stands there twice
not_twice : (n : ℕ) (xs : List ℕ) → AllPairs (λ a b. a ≢ b) xs → times n xs ≤ 1
not_twice n [] once = omega arith
not_twice n (x ∷ xs) once =
    let rest : AllPairs (λ a b. a ≢ b) xs = λ i j d before within. once (suc i) (suc j) d (omega arith) (omega arith) in
    elim (eqb_tells n x) [
      | inl same ↦ omega (arith, here-most n x, stands_nowhere n xs (λ k d within. λ equal. once 0 (suc k) d (omega arith) (omega arith) (sym same.1 ∙ equal)))
      | inr differ ↦ omega (arith, here-other n x differ.1, not_twice n xs rest)
    ]

-- what a test of numbers takes
taken : (a n : ℕ) (one other : Option NodeFacts) → a ≡ n → cond (eqb a n) one other ≡ one
taken a n one other same = grind (arith, nat_tests)

-- what it passes over
passed : (a n : ℕ) (one other : Option NodeFacts) → a ≢ n → cond (eqb a n) one other ≡ other
passed a n one other differ = grind (arith, nat_tests)

-- how often a number is spoken of where this is said
abbrev of_one : ℕ → NodeFacts → ℕ
of_one n said = here n said.node.0 + times n (declared_number said)

-- that is no more than it is spoken of at all
of_each : (n : ℕ) (nodes : List NodeFacts) (k : ℕ) (d : NodeFacts) → k < length nodes → of_one n (get_or nodes k d) ≤ spoken n nodes
of_each n [] k d within = absurd (omega arith)
of_each n (said ∷ rest) zero d within = omega arith
of_each n (said ∷ rest) (suc k) d within = omega (arith, of_each n rest k d (omega arith))

-- so for two of them together
of_two : (n : ℕ) (nodes : List NodeFacts) (i j : ℕ) (d : NodeFacts) → i < j → j < length nodes → of_one n (get_or nodes i d) + of_one n (get_or nodes j d) ≤ spoken n nodes
of_two n [] i j d before within = absurd (omega arith)
of_two n (said ∷ rest) i zero d before within = absurd (omega arith)
of_two n (said ∷ rest) zero (suc j) d before within = omega (arith, of_each n rest j d (omega arith))
of_two n (said ∷ rest) (suc i) (suc j) d before within = omega (arith, of_two n rest i j d (omega arith) (omega arith))

-- a number that is declared where this is said, and is spoken of no more than once, isn't that of any node
apart : (n : ℕ) (nodes : List NodeFacts) (i j : ℕ) (d : NodeFacts) → spoken n nodes ≤ 1 → i < length nodes → j < length nodes
    → 0 < times n (declared_number (get_or nodes i d)) → n ≢ (get_or nodes j d).node.0
apart n nodes i j d most first second declared equal =
    let one = here-same n (get_or nodes j d).node.0 equal in
    elim (eqb_tells i j) [
      | inl same ↦ omega (arith, of_each n nodes j d second, ap (λ (k : ℕ). times n (declared_number (get_or nodes k d))) same.1)
      | inr differ ↦ elim (leb_tells i j) [
        | inl before ↦ omega (arith, of_two n nodes i j d (omega (arith, before.1, differ.1)) second)
        | inr behind ↦ omega (arith, of_two n nodes j i d behind.1 first)
      ]
    ]

-- nor is it declared where something else is said
declared_apart : (n m : ℕ) (nodes : List NodeFacts) (i j : ℕ) (d : NodeFacts) → spoken n nodes ≤ 1 → i < j → j < length nodes
    → 0 < times n (declared_number (get_or nodes i d)) → 0 < times m (declared_number (get_or nodes j d)) → n ≢ m
declared_apart n m nodes i j d most before within declared again equal =
    omega (arith, of_two n nodes i j d before within, ap (λ (k : ℕ). times k (declared_number (get_or nodes j d))) equal)

-- the first of a number
first_found : (n : ℕ) (nodes : List NodeFacts) (k : ℕ) (d : NodeFacts) → spoken n nodes ≤ 1 → k < length nodes → (get_or nodes k d).node.0 ≡ n
    → find (λ other. nat_eq other.node.0 n) nodes ≡ Some (get_or nodes k d)
first_found n [] k d most within is = absurd (omega arith)
first_found n (said ∷ rest) zero d most within is = taken said.node.0 n (Some said) (find (λ other. nat_eq other.node.0 n) rest) is
first_found n (said ∷ rest) (suc k) d most within is =
    let one = here-same n (get_or rest k d).node.0 (sym is) in
    let other : said.node.0 ≢ n = λ same. omega (arith, here-same n said.node.0 (sym same), of_each n rest k d (omega arith)) in
    passed said.node.0 n (Some said) (find (λ other. nat_eq other.node.0 n) rest) other ∙ first_found n rest k d (omega arith) (omega arith) is

-- the three together
pub found_by_number : (nodes : List NodeFacts) (first last : ℕ) → AreOnce first last (numbers_said nodes) → IsFoundByNumber nodes
found_by_number nodes first last are_once =
    let most : (n : ℕ) → spoken n nodes ≤ 1 = λ n. omega (arith, spoken-times n nodes, not_twice n (numbers_said nodes) are_once.once) in
    record {
      found = λ k d within. first_found (get_or nodes k d).node.0 nodes k d (most (get_or nodes k d).node.0) within refl;
      names_apart = λ i d first. each_that_stands (λ n. All (λ other. n ≢ other.node.0) nodes) (declared_number (get_or nodes i d)) (λ n declared.
          All-from_get_or (λ other. n ≢ other.node.0) nodes d (λ j second. apart n nodes i j d (most n) first second declared));
      declared_once = λ i j d before within. each_that_stands (λ n. All (λ m. n ≢ m) (declared_number (get_or nodes j d))) (declared_number (get_or nodes i d)) (λ n declared.
          each_that_stands (λ m. n ≢ m) (declared_number (get_or nodes j d)) (λ m again. declared_apart n m nodes i j d (most n) before within declared again));
    }
