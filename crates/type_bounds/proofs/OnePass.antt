-- One pass over the superinterfaces of a class finds the farthest from Object that both have under a limit.
use Rattle.std.proofs.Common.{◌≡◌, ℕ, ◌+◌, ◌<◌, ◌≤◌, Bool, false, List, length, get_or, take, Option, Some, None, Bor, arith, inl, inr}
use Rattle.std.specs.Prelude.{All, Contains, MatchOption, IsTrue, ◌↔◌}
use Rattle.std.proofs.lemmas.Bool.{cases_lt}
use Rattle.std.proofs.lemmas.List.Elements.{All-contains}
use Rattle.dart_types.specs.declared.superinterfaces.Superinterface.{Superinterface}
use Rattle.type_bounds.specs.Above.{depth_in, IsShared, IsUnder, HasNoneUnder, IsTopUnder}
use Rattle.type_bounds.specs.declared.superclasses.Pair.{Pair}
use Rattle.type_bounds.proofs.General.{all_from, all_next, refused}

module _ (p : Pair) (limit : Option ℕ) where
  -- a superinterface of both under the limit is below the floor
  abbrev pub IsBelow : ℕ → Superinterface → Type 0
  IsBelow floor t = IsShared p t → IsUnder limit (depth_in p t) → depth_in p t < floor

  -- the floor is just above the top, if there is one
  abbrev pub IsFloorOver : Option (Bor Superinterface) → ℕ → Type 0
  IsFloorOver top floor =
      MatchOption top (floor ≡ 0) (λ s. Contains p.left.superinterfaces.now s.now × IsShared p s.now × IsUnder limit (depth_in p s.now) × (floor ≡ depth_in p s.now + 1))

  -- what is asked of a superinterface that becomes the top
  abbrev pub IsNext : ℕ → Superinterface → Type 0
  IsNext floor s = (floor ≤ depth_in p s) × IsUnder limit (depth_in p s) × IsShared p s

  module _ (xs : List Superinterface) (i : ℕ) (s : Superinterface) (within : i < length xs) (is : s ≡ get_or xs i s) (floor : ℕ) (below : All (IsBelow floor) (take i xs)) where
    pub one_passed : {b : Bool} → IsTrue b ↔ IsNext floor s → b ≡ false → All (IsBelow floor) (take (i + 1) xs)
    one_passed test failed =
        all_next (IsBelow floor) xs i s within is below (λ shared under. elim (cases_lt (depth_in p s) floor) [
          | inl lt ↦ lt
          | inr ge ↦ absurd (refused test failed (ge, under, shared))
        ])

    pub one_taken : IsNext floor s → (next : ℕ) → next ≡ depth_in p s + 1 → All (IsBelow next) (take (i + 1) xs)
    one_taken taken next e =
        all_next (IsBelow next) xs i s within is (λ k d lt shared under. omega (arith, below k d lt shared under, taken.0, e)) (λ shared under. omega (arith, e))

  pub all_passed : (top : Option (Bor Superinterface)) (floor : ℕ) → All (IsBelow floor) p.left.superinterfaces.now → IsFloorOver top floor → MatchOption top (HasNoneUnder p limit) (λ s. IsTopUnder p limit s.now)
  all_passed None floor below is =
      all_from (λ (t : Superinterface). IsShared p t → IsUnder limit (depth_in p t) → ⊥) p.left.superinterfaces.now
      (λ t i shared under. absurd (omega (arith, All-contains (IsBelow floor) p.left.superinterfaces.now t below i shared under, is)))
  all_passed (Some s) floor below is = record {
    stands = is.0;
    shared = is.1;
    under = is.2;
    top = all_from (λ (t : Superinterface). IsShared p t → IsUnder limit (depth_in p t) → depth_in p t ≤ depth_in p s.now) p.left.superinterfaces.now
        (λ t i shared under. omega (arith, All-contains (IsBelow floor) p.left.superinterfaces.now t below i shared under, is.3));
  }
