-- How often a number stands in a list, and what is said of nodes as against the places of a tree.
use Rattle.std.proofs.Common.{◌≡◌, ◌≢◌, ℕ, ◌+◌, ◌≤◌, cond, eqb, List, [], ◌∷◌, ◌++◌, map, refl, arith}
use Rattle.std.proofs.lemmas.Bool.Decides.{nat_tests}
use Rattle.dart_tree.specs.Numbers.{number_at}
use Rattle.dart_tree.specs.declared.places.Place.{Place}
use Rattle.judgement.specs.NodeFacts.{NodeFacts}
use Rattle.rule_laws.specs.Keys.{declared_number, numbers_said}

-- 1 where two numbers are the same, and else 0
pub here : ℕ → ℕ → ℕ
here n x = cond (eqb n x) 1 0

-- as a number is itself
pub here-same : (n x : ℕ) → n ≡ x → here n x ≡ 1
unfolding here
here-same n x same = grind (arith, nat_tests)

-- so where they differ
pub here-other : (n x : ℕ) → n ≢ x → here n x ≡ 0
unfolding here
here-other n x differ = grind (arith, nat_tests)

-- it is 1 at most
pub here-most : (n x : ℕ) → here n x ≤ 1
unfolding here
here-most n x = grind (arith, nat_tests)

-- how often a number stands in a list
abbrev pub times : ℕ → List ℕ → ℕ
times n [] = 0
times n (x ∷ xs) = here n x + times n xs

-- lists add up
pub times-append : (n : ℕ) (xs ys : List ℕ) → times n (xs ++ ys) ≡ times n xs + times n ys
times-append n [] ys = omega arith
times-append n (x ∷ xs) ys = omega (arith, times-append n xs ys)

-- how often it is the number of one of these places
abbrev pub stands : ℕ → List Place → ℕ
stands n [] = 0
stands n (at ∷ rest) = here n at.node.0 + stands n rest

-- so do places
pub stands-append : (n : ℕ) (ps qs : List Place) → stands n (ps ++ qs) ≡ stands n ps + stands n qs
stands-append n [] qs = omega arith
stands-append n (at ∷ rest) qs = omega (arith, stands-append n rest qs)

-- that is how often it stands among their numbers
pub stands-times : (n : ℕ) (ps : List Place) → stands n ps ≡ times n (map number_at ps)
stands-times n [] = refl
stands-times n (at ∷ rest) = omega (arith, stands-times n rest)

-- how often it is spoken of
abbrev pub spoken : ℕ → List NodeFacts → ℕ
spoken n [] = 0
spoken n (said ∷ rest) = (here n said.node.0 + times n (declared_number said)) + spoken n rest

-- what is said adds up
pub spoken-append : (n : ℕ) (xs ys : List NodeFacts) → spoken n (xs ++ ys) ≡ spoken n xs + spoken n ys
spoken-append n [] ys = omega arith
spoken-append n (said ∷ rest) ys = omega (arith, spoken-append n rest ys)

-- that is how often it stands among the numbers that are spoken of
pub spoken-times : (n : ℕ) (xs : List NodeFacts) → spoken n xs ≡ times n (numbers_said xs)
spoken-times n [] = refl
spoken-times n (said ∷ rest) = omega (arith, spoken-times n rest, times-append n (declared_number said) (numbers_said rest))
