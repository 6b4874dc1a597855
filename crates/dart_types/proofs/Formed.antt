-- What well-formed rows say of a class and of a bound that is looked up.
use Rattle.std.proofs.Common.{◌≡◌, ℕ, zero, suc, ◌+◌, ◌<◌, ◌≤◌, Bool, true, false, List, [], ◌∷◌, length, get_or, Option, Some, None, refl, sym, ◌∙◌, ap, subst, cond, arith}
use Rattle.std.specs.Prelude.{◌≢◌, find, Contains}
use Rattle.std.specs.Option.{option_map}
use Rattle.std.proofs.lemmas.List.Elements.{All-contains}
use Rattle.dart_types.specs.Ty.{Ty}
use Rattle.dart_types.specs.Same.{same_class, same_var}
use Rattle.dart_types.specs.Heads.{object}
use Rattle.dart_types.specs.Tables.{Table, class_of, bound_of, depth_of, depth_above, head_depth}
use Rattle.dart_types.specs.WellFormed.{IsSupertype, IsEarlier, IsOver, IsFormedClass, IsFormedVar, IsWellFormed}
use Rattle.dart_types.specs.declared.ids.ClassId.{ClassId}
use Rattle.dart_types.specs.declared.ids.VarId.{VarId}
use Rattle.dart_types.specs.declared.ids.TheConstants.{OBJECT, FUNCTION, NO_LIBRARY}
use Rattle.dart_types.specs.declared.class_rows.ClassRow.{ClassRow}
use Rattle.dart_types.specs.declared.class_rows.VarRow.{VarRow}
use Rattle.dart_types.proofs.SameIds.{equal_from_same_class, equal_from_same_var}

-- what is found in a list is in it, and passes the test
pub found_in : {X : Type 0} (p : X → Bool) (xs : List X) (x : X) → find p xs ≡ Some x → Contains xs x × (p x ≡ true)
found_in p [] x e = cc
found_in {X} p (y ∷ ys) x e = at (p y) refl e (found_in p ys x)
  where
    at : (b : Bool) → p y ≡ b → cond b (Some y) (find p ys) ≡ Some x → (find p ys ≡ Some x → Contains ys x × (p x ≡ true)) → Contains (y ∷ ys) x × (p x ≡ true)
    at true is here later = let same : y ≡ x = cc in ((0, omega arith, same), subst (λ (z : X). p z ≡ true) same is)
    at false is here later = let k = later here in ((suc k.0.0, omega (arith, k.0.1), k.0.2), k.1)

-- what an option holds after a function was what it held before
pub from_mapped : {X Y : Type 0} (f : X → Y) (o : Option X) (y : Y) → option_map f o ≡ Some y → (x : X) × (o ≡ Some x) × (f x ≡ y)
from_mapped f None y e = cc
from_mapped f (Some x) y e = (x, refl, let k : f x ≡ y = cc in k)

module _ (table : Table) (wf : IsWellFormed table) where
  -- the row of a class has its id, and is well formed
  pub row_id : (c : ClassId) (row : ClassRow) → class_of table c ≡ Some row → row.id ≡ c
  row_id c row r = equal_from_same_class row.id c (found_in (λ (x : ClassRow). same_class x.id c) table.classes row r).1

  pub formed_class : (c : ClassId) (row : ClassRow) → class_of table c ≡ Some row → IsFormedClass table row
  formed_class c row r = All-contains (IsFormedClass table) table.classes row wf.classes (found_in (λ (x : ClassRow). same_class x.id c) table.classes row r).0

  -- a direct supertype is an interface over the parameters of its class, and over the rows
  pub formed_super : (c : ClassId) (row : ClassRow) (v : Ty) → class_of table c ≡ Some row → Contains row.supers v → IsSupertype row.params v × IsOver table v
  formed_super c row v r i =
      let f = formed_class c row r in
      (All-contains (IsSupertype row.params) row.supers v f.supertypes i, All-contains (IsOver table) row.supers v f.over i)

  -- Object has no supertype
  pub object_has_none : (c : ClassId) (row : ClassRow) (v : Ty) → class_of table c ≡ Some row → c ≡ OBJECT → Contains row.supers v → ⊥
  object_has_none c row v r is i =
      let none : row.supers ≡ [] = (formed_class c row r).object_alone (row_id c row r ∙ is) in
      let k : Contains [] v = subst (λ (vs : List Ty). Contains vs v) none i in
      absurd (omega (arith, k.1))

  -- Function has Object alone
  pub function_has_object : (c : ClassId) (row : ClassRow) (v : Ty) → class_of table c ≡ Some row → c ≡ FUNCTION → Contains row.supers v → v ≡ object
  function_has_object c row v r is i =
      let one : row.supers ≡ object ∷ [] = (formed_class c row r).function_alone (row_id c row r ∙ is) in
      let k : Contains (object ∷ []) v = subst (λ (vs : List Ty). Contains vs v) one i in
      only k.0 k.1 k.2
    where
      only : (j : ℕ) → j < 1 → get_or (object ∷ []) j v ≡ v → v ≡ object
      only zero lt e = sym e
      only (suc j) lt e = absurd (omega arith)

  -- a direct supertype is less far from Object
  pub super_depth : (c : ClassId) (row : ClassRow) (v : Ty) → class_of table c ≡ Some row → Contains row.supers v → head_depth table v + 1 ≤ depth_of table c
  super_depth c row v r i =
      let here : depth_of table c ≡ row.depth = rw r refl in
      let above : head_depth table v + 1 ≤ depth_above table row.supers = below_most row.supers i.0 i.1 i.2 in
      omega (arith, (formed_class c row r).depth, here, above)
    where
      below_most : (vs : List Ty) (j : ℕ) → j < length vs → get_or vs j v ≡ v → head_depth table v + 1 ≤ depth_above table vs
      below_most [] j lt e = absurd (omega arith)
      below_most (w ∷ ws) zero lt e = let k : head_depth table w ≡ head_depth table v = ap (head_depth table) e in omega arith
      below_most (w ∷ ws) (suc j) lt e = omega (arith, below_most ws j (omega arith) e)

  -- a variable that has a bound is of a library
  pub declared_var : (x : VarId) (b : Ty) → bound_of table x ≡ Some b → x.lib ≢ NO_LIBRARY
  declared_var x b e is =
      let m = from_mapped (λ (row : VarRow). row.bound) (find (λ (row : VarRow). same_var row.var x) table.vars) b e in
      let g = found_in (λ (row : VarRow). same_var row.var x) table.vars m.0 m.1 in
      let f = All-contains (IsFormedVar table) table.vars m.0 wf.vars g.0 in
      let same : m.0.var ≡ x = equal_from_same_var m.0.var x g.1 in
      f.declared (ap (λ (y : VarId). y.lib) same ∙ is)

  -- a bound holds earlier variables alone, and is over the rows
  pub formed_bound : (x : VarId) (b : Ty) → bound_of table x ≡ Some b → IsEarlier x b × IsOver table b
  formed_bound x b e =
      let m = from_mapped (λ (row : VarRow). row.bound) (find (λ (row : VarRow). same_var row.var x) table.vars) b e in
      let g = found_in (λ (row : VarRow). same_var row.var x) table.vars m.0 m.1 in
      let f = All-contains (IsFormedVar table) table.vars m.0 wf.vars g.0 in
      let is : m.0.var ≡ x = equal_from_same_var m.0.var x g.1 in
      (subst (λ (y : VarId). IsEarlier y b) is (subst (λ (t : Ty). IsEarlier m.0.var t) m.2 f.earlier), subst (λ (t : Ty). IsOver table t) m.2 f.over)
