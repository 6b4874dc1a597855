-- A count of nodes that went through a whole list.
use Rattle.std.proofs.Common.{◌≡◌, ◌≤◌, ◌+◌, ℕ, List, length, drop, sym, ◌∙◌, ap, arith}
use Rattle.dart_types.specs.Sizes.{held}

-- where nothing of the list is left, the count is that of the whole list
pub counted : {X : Type 0} (size : List X → ℕ) (xs : List X) (i total : ℕ) → length xs ≤ i → size (drop i xs) ≡ 0 → held total ≡ total → held (total + size (drop i xs)) ≡ held (size xs) → total ≡ held (size xs)
counted size xs i total end none fits e =
    sym fits ∙ ap held (let k : total ≡ total + size (drop i xs) = omega arith in k) ∙ e
