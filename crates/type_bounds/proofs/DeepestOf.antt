-- The deepest common superinterface that is computed is the one that the rules have.
use Rattle.std.proofs.Common.{◌≡◌, ℕ, ◌≤◌, Bool, true, false, not, List, [], ◌∷◌, get_or, Option, Some, None, refl, sym, ◌∙◌, ap, subst, cond, arith, inl, inr}
use Rattle.std.specs.Prelude.{◌||◌, Contains, filter, nat_eq, nat_lt}
use Rattle.std.specs.List.{list_any}
use Rattle.std.proofs.lemmas.Bool.{ltb-true, ltb-false}
use Rattle.std.proofs.lemmas.List.Folds.{list_any_at}
use Rattle.std.proofs.lemmas.Map.Views.{Contains-from_any}
use Rattle.dart_types.specs.Ty.{Ty, Types, interface}
use Rattle.dart_types.specs.Heads.{object}
use Rattle.dart_types.specs.Same.{same_type}
use Rattle.dart_types.specs.Tables.{Table, class_of, head_depth}
use Rattle.dart_types.specs.WellFormed.{HasArguments}
use Rattle.dart_types.specs.declared.ids.ClassId.{ClassId}
use Rattle.dart_types.specs.declared.ids.TheConstants.{OBJECT}
use Rattle.dart_types.specs.declared.class_rows.ClassRow.{ClassRow}
use Rattle.dart_types.specs.Laws.{TypeLaws, RowLaws}
use Rattle.type_bounds.specs.Bounds.{AreApart}
use Rattle.type_bounds.specs.Common.{IsCommon, IsAlone, IsDeepest}
use Rattle.type_bounds.specs.CommonOf.{above_of, in_both, is_alone, farther, farthest, deepest_of}
use Rattle.type_bounds.proofs.General.{contains_passed, passed_contains, nat_from_test, nat_eq-refl}
use Rattle.type_bounds.proofs.CommonLists.{first_or_later, is_first, is_later, all_pass, pass_all, row_with, above_sound, above_complete}
use Rattle.type_bounds.proofs.Rooted.{object_above, object_alone, not_object, reaches, root_depth}

-- the types of both lists
both_from : TypeLaws → (us vs : List Ty) (u : Ty) → Contains (in_both us vs) u → Contains us u × Contains vs u
both_from laws us vs u i =
    let h = contains_passed (λ w. list_any (same_type w) vs) us u i in
    (h.0, Contains-from_any {eq = same_type} laws.equal_from_same_type u vs h.1)

from_both : TypeLaws → (us vs : List Ty) (u : Ty) → Contains us u → Contains vs u → Contains (in_both us vs) u
from_both laws us vs u i j =
    let same : same_type u (get_or vs j.0 u) ≡ true = subst (λ (w : Ty). same_type u w ≡ true) (sym j.2) (laws.same_type-refl u) in
    passed_contains (λ w. list_any (same_type w) vs) us u i (list_any_at (same_type u) vs j.0 u j.1 same)

-- one of two where the first isn't so
second_of : (a b : Bool) → (a || not b) ≡ true → b ≡ true → a ≡ true
second_of true b h k = refl
second_of false true h k = cc
second_of false false h k = cc

either_of : (a b : Bool) → (b ≡ true → a ≡ true) → (a || not b) ≡ true
either_of true b h = refl
either_of false true h = let k : false ≡ true = h refl in cc
either_of false false h = refl

module _ (table : Table) where
  abbrev deep : Ty → ℕ
  deep = head_depth table

  -- the farthest one stands in the list, and none is farther
  abbrev Farthest : List Ty → Ty → Type 0
  Farthest us u = Contains us u × ((v : Ty) → Contains us v → deep v ≤ deep u)

  farther_stands : (x : Ty) (xs : List Ty) (w : Ty) → Farthest xs w → (b : Bool) → nat_lt (deep x) (deep w) ≡ b → Farthest (x ∷ xs) (cond b w x)
  farther_stands x xs w h true lt = (
    is_later x xs w h.0,
    λ v j. elim (first_or_later x xs v j) as (λ _. deep v ≤ deep w) [
      | inl same ↦ omega (arith, ltb-true (deep x) (deep w) lt, ap deep same)
      | inr later ↦ h.1 v later
    ],
  )
  farther_stands x xs w h false ge = (
    is_first x xs,
    λ v j. elim (first_or_later x xs v j) as (λ _. deep v ≤ deep x) [
      | inl same ↦ omega (arith, ap deep same)
      | inr later ↦ omega (arith, h.1 v later, ltb-false (deep x) (deep w) ge)
    ],
  )

  abbrev IsFarthest : List Ty → Option Ty → Type 0
  IsFarthest us None = us ≡ []
  IsFarthest us (Some u) = Farthest us u

  farthest_is : (us : List Ty) → IsFarthest us (farthest table us)
  farthest_is [] = refl
  farthest_is (x ∷ xs) = at (farthest table xs) (farthest_is xs)
    where
      at : (o : Option Ty) → IsFarthest xs o → Farthest (x ∷ xs) (farther table x o)
      at None e = (
        is_first x xs,
        λ v j. elim (first_or_later x xs v j) as (λ _. deep v ≤ deep x) [
          | inl same ↦ omega (arith, ap deep same)
          | inr later ↦ let none : Contains [] v = subst (λ (ys : List Ty). Contains ys v) e later in absurd (omega (arith, none.1))
        ],
      )
      at (Some w) h = farther_stands x xs w h (nat_lt (deep x) (deep w)) refl

  module _ (laws : RowLaws table) (c : ClassId) (ss : Types) (d : ClassId) (ts : Types) where
    abbrev Common : Ty → Type 0
    Common u = IsCommon table c ss d ts u

    abbrev Alone : Ty → Type 0
    Alone u = IsAlone table c ss d ts u

    abbrev commons : List Ty
    commons = in_both (above_of table c ss) (above_of table d ts)

    common_from : (u : Ty) → Contains commons u → Common u
    common_from u i = let h = both_from laws.types (above_of table c ss) (above_of table d ts) u i in (above_sound table laws c ss u h.0, above_sound table laws d ts u h.1)

    from_common : (u : Ty) → Common u → Contains commons u
    from_common u h = from_both laws.types (above_of table c ss) (above_of table d ts) u (above_complete table laws c ss u h.0) (above_complete table laws d ts u h.1)

    alone_from : (u : Ty) → is_alone table commons u ≡ true → Alone u
    alone_from u h v k e =
        let test = all_pass (λ w. same_type w u || not (nat_eq (deep w) (deep u))) commons h v (from_common v k) in
        let same : nat_eq (deep v) (deep u) ≡ true = subst (λ (n : ℕ). nat_eq (deep v) n ≡ true) e (nat_eq-refl (deep v)) in
        laws.types.equal_from_same_type v u (second_of (same_type v u) (nat_eq (deep v) (deep u)) test same)

    from_alone : (u : Ty) → Alone u → is_alone table commons u ≡ true
    from_alone u h =
        pass_all (λ w. same_type w u || not (nat_eq (deep w) (deep u))) commons
        (λ v i. either_of (same_type v u) (nat_eq (deep v) (deep u)) (λ e.
        let is : v ≡ u = h v (common_from v i) (nat_from_test (deep v) (deep u) e) in
        subst (λ (w : Ty). same_type v w ≡ true) is (laws.types.same_type-refl v)))

    abbrev lone : List Ty
    lone = filter (is_alone table commons) commons

    in_lone : (u : Ty) → Common u → Alone u → Contains lone u
    in_lone u h k = passed_contains (is_alone table commons) commons u (from_common u h) (from_alone u k)

    pub deepest_sound : (u : Ty) → deepest_of table c ss d ts ≡ Some u → IsDeepest table c ss d ts u
    deepest_sound u e =
        let far : Farthest lone u = subst (IsFarthest lone) e (farthest_is lone) in
        let stands = contains_passed (is_alone table commons) commons u far.0 in
        record {
          common = common_from u stands.0;
          alone = alone_from u stands.1;
          deepest = λ v k lt one. absurd (omega (arith, lt, far.1 v (in_lone v k one)));
        }

    -- two classes that aren't subtypes of each other have one, as Object is above both
    pub some_deepest : HasArguments (class_of table c) ss → HasArguments (class_of table d) ts → AreApart table (interface c ss) (interface d ts) → deepest_of table c ss d ts ≡ None → ⊥
    some_deepest left right apart e =
        let bare : (row : ClassRow) → class_of table OBJECT ≡ Some row → row.params ≡ [] = λ row r. (laws.formed_class OBJECT row r).object_bare (laws.row_id OBJECT row r) in
        let l = row_with table c ss left in
        let r = row_with table d ts right in
        let not_left = not_object table laws bare c ss l.0 l.1 l.2 (interface d ts) refl apart.1 in
        let not_right = not_object table laws bare d ts r.0 r.1 r.2 (interface c ss) refl apart.0 in
        let common : Common object = (object_above table laws bare c ss l.0 l.1 l.2 not_left, object_above table laws bare d ts r.0 r.1 r.2 not_right) in
        let root = reaches table laws bare c l.0 l.1 not_left in
        let at_root = root_depth table laws root.1.0 root.1.1 in
        let one : Alone object = λ v k f. object_alone table laws bare c ss v k.0 (f ∙ at_root) in
        let empty : lone ≡ [] = subst (IsFarthest lone) e (farthest_is lone) in
        let none : Contains [] object = subst (λ (us : List Ty). Contains us object) empty (in_lone object common one) in
        absurd (omega (arith, none.1))
