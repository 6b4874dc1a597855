-- The steps to where two types meet.
use Rattle.std.proofs.Common.{◌≡◌, ℕ, ◌≤◌, Bool, true, false, refl, sym, subst, arith}
use Rattle.std.specs.Prelude.{◌||◌}
use Rattle.dart_types.specs.Ty.{Ty, invalid, never, void, null, interface, function, variable, promoted, nullable}
use Rattle.dart_types.specs.Marks.{is_marked}
use Rattle.dart_types.specs.SubTest.{is_null}
use Rattle.dart_types.specs.Tables.{Table}
use Rattle.type_bounds.specs.Bounds.{is_bare}
use Rattle.type_bounds.specs.Chains.{marked_by}
use Rattle.type_bounds.specs.Meetings.{ComesTo, IsWithin, IsNext}
use Rattle.type_bounds.specs.PartsView.{IsSomePart}
use Rattle.type_bounds.specs.declared.parts.Part.{Part}
use Rattle.type_bounds.specs.declared.meetings.End.{End}
use Rattle.type_bounds.specs.declared.meetings.End.TheVariants.{At, Var, Nowhere, Apart}
use Rattle.type_bounds.specs.declared.meetings.Next.{Next}
use Rattle.type_bounds.specs.declared.meetings.Next.TheVariants.{Ends, Pair}
use Rattle.type_bounds.proofs.ChainSteps.{marked_twice}

-- a type that is not `Null` and has no `?` is bare
pub bare_by : (t : Ty) → is_null t ≡ false → is_marked t ≡ false → is_bare t ≡ true
bare_by invalid h k = refl
bare_by never h k = refl
bare_by void h k = refl
bare_by null h k = cc
bare_by (interface c ts) h k = refl
bare_by (function r o n e) h k = refl
bare_by (variable x) h k = refl
bare_by (promoted x t) h k = refl
bare_by (nullable t) h k = cc

-- neither of two is so where not one of them is
pub first_false : (a b : Bool) → (a || b) ≡ false → a ≡ false
first_false true b e = cc
first_false false b e = refl

pub second_false : (a b : Bool) → (a || b) ≡ false → b ≡ false
second_false true b e = cc
second_false false b e = e

-- two marks are one
pub marked_or : (m k : Bool) (u : Ty) → marked_by m (marked_by k u) ≡ marked_by (m || k) u
marked_or true k u = marked_twice k u
marked_or false k u = refl

module _ (table : Table) where
  -- what is within a weight is within a greater one
  pub within_over : (n m : ℕ) (end : End) → n ≤ m → IsWithin table n end → IsWithin table m end
  within_over n m (At t) le h = tt
  within_over n m (Var x) le h = tt
  within_over n m Nowhere le h = tt
  within_over n m (Apart s t) le h = (h.0, h.1, h.2, omega (arith, h.3, le))

  -- what comes next for two types comes next for those that give way to them
  pub next_over : (n m : ℕ) (so other : Ty → Type 0) (next : Next) → n ≤ m → ((u : Ty) → so u → other u) → IsNext table n so next → IsNext table m other next
  next_over n m so other (Ends end) le f h = (within_over n m end le h.0, λ u a. f u (h.1 u a))
  next_over n m so other (Pair s t) le f h = (omega (arith, h.0, le), λ u a. f u (h.1 u a))

  -- and with a mark before
  pub step_over : (n m : ℕ) (so other : Ty → Type 0) (next : Next) (marked k : Bool) → n ≤ m → ((u : Ty) → so u → other (marked_by k u)) → IsNext table n (λ u. so (marked_by marked u)) next → IsNext table m (λ u. other (marked_by (k || marked) u)) next
  step_over n m so other next marked k le f h =
      next_over n m (λ u. so (marked_by marked u)) (λ u. other (marked_by (k || marked) u)) next le (λ u a. subst other (marked_or k marked u) (f (marked_by marked u) a)) h

  -- a part that is what one end comes to is so for an end that is the same
  pub comes_there : (end there : End) (part formed : Part) → end ≡ there → part ≡ formed → IsSomePart (ComesTo table there) formed → IsSomePart (ComesTo table end) part
  comes_there end there part formed e k h = subst (λ (x : End). IsSomePart (ComesTo table x) part) (sym e) (subst (IsSomePart (ComesTo table there)) (sym k) h)
