-- The count of `T?`.
use Rattle.std.proofs.Common.{◌≡◌, ℕ, ◌+◌, ◌-◌, ◌^◌, min, true, false, sym, ◌∙◌, ap, arith}
use Rattle.dart_types.specs.Ty.{Ty}
use Rattle.dart_types.specs.Normal.{nullable_of}
use Rattle.dart_types.specs.Sizes.{size_of, held}
use Rattle.type_bounds.specs.Counts.{Counts}
use Rattle.type_bounds.specs.declared.counts.Count.{Count}
use Rattle.type_bounds.proofs.General.{size_marked, size_unmarked}

held_next : (n m k : ℕ) → n ≡ held m → k ≡ m + 1 → min (n + 1) (2 ^ 64 - 1) ≡ held k
held_next n m k e f = omega arith

-- one more node where the `?` stays
pub marked_nodes : (c : Count) (t : Ty) → Counts c t → c.takes_mark ≡ true → min (c.nodes + 1) (2 ^ 64 - 1) ≡ held (size_of (nullable_of t))
marked_nodes c t k h = held_next c.nodes (size_of t) (size_of (nullable_of t)) k.0 (size_marked t (sym k.1 ∙ h))

-- and as many where it doesn't
pub unmarked_nodes : (c : Count) (t : Ty) → Counts c t → c.takes_mark ≡ false → c.nodes ≡ held (size_of (nullable_of t))
unmarked_nodes c t k h = k.0 ∙ ap held (sym (size_unmarked t (sym k.1 ∙ h)))
