-- A value of a type has each supertype, and one that isn't null has the type without null.
use Rattle.std.proofs.Common.{◌≡◌, Bool, true, false, cond, ℕ, zero, suc, refl, nat_le}
use Rattle.std.specs.Prelude.{IsTrue}
use Rattle.std.proofs.lemmas.Bool.{both_ways}
use Rattle.dart_types.specs.Ty.{Ty, Types, invalid, never, void, null, interface, function, variable, promoted, nullable, no_more, more}
use Rattle.dart_types.specs.Heads.{is_object, is_top}
use Rattle.dart_types.specs.Laws.{RowLaws}
use Rattle.dart_types.specs.Sizes.{size_of}
use Rattle.dart_types.specs.Sub.{Sub, reflexivity, right_top, right_object, right_nullable, right_promoted, interface_arguments, super_interface}
use Rattle.dart_types.specs.SubTest.{sub}
use Rattle.dart_types.specs.Superinterfaces.{LeavesNothingOut}
use Rattle.dart_types.specs.Tables.{Table}
use Rattle.dart_types.specs.declared.ids.ClassId.{ClassId}
use Rattle.dart_types.specs.declared.refusal.TheConstants.{NODE_LIMIT}
use Rattle.type_bounds.specs.NonNull.{non_null_of, non_null_within}
use Rattle.core_ir.specs.Program.{Program}
use Rattle.core_ir.specs.Values.{int, bool, no_objects, type_of}
use Rattle.core_ir.specs.declared.values.Value.{Value}
use Rattle.core_ir.specs.declared.values.Value.TheVariants.{Null, Integer, Boolean}
use Rattle.core_check.specs.Types.{without_null}
use Rattle.core_check.specs.WellFormed.{IsWellFormed}
use Rattle.core_machine.specs.Steps.{has_type}
use Rattle.core_machine.specs.Values.{IsInteger, IsBoolean}

-- a value has its own type
pub has_own_type : (p : Program) → RowLaws p.rows.table → (v : Value) → IsTrue (has_type p v (type_of no_objects v))
has_own_type p laws v = laws.sub_complete (type_of no_objects v) (type_of no_objects v) reflexivity

-- a value of a type has each supertype
pub has_supertype : (p : Program) → RowLaws p.rows.table → LeavesNothingOut p.rows.table → (v : Value) (s t : Ty) → IsTrue (has_type p v s) → IsTrue (sub p.rows.table s t) → IsTrue (has_type p v t)
has_supertype p laws out v s t h below =
    laws.sub_complete (type_of no_objects v) t (laws.sub_transitive out (type_of no_objects v) s t (laws.sub_sound (type_of no_objects v) s h) (laws.sub_sound s t below))

-- null is no value of a class without arguments
pub null_not_class : (table : Table) (c : ClassId) → sub table null (interface c no_more) ≡ false
unfolding sub
null_not_class table c = refl

-- what has the type int is an integer, and what has the type bool a truth
pub integer_from : (p : Program) → IsWellFormed p → (v : Value) → IsTrue (has_type p v int) → IsInteger v
integer_from p well Null h = both_ways _ (null_not_class p.rows.table _) h
integer_from p well (Integer n) h = tt
integer_from p well (Boolean b) h = both_ways _ well.bool_apart h

pub boolean_from : (p : Program) → IsWellFormed p → (v : Value) → IsTrue (has_type p v bool) → IsBoolean v
boolean_from p well Null h = both_ways _ (null_not_class p.rows.table _) h
boolean_from p well (Integer n) h = both_ways _ well.int_apart h
boolean_from p well (Boolean b) h = tt

module _ (table : Table) (c : ClassId) (ss : Types) where
  -- a class is below Object, which stays without null
  below_object : (n : ℕ) (t : Ty) → is_object t ≡ true → Sub table (interface c ss) (non_null_within table n t)
  below_object zero (interface d no_more) h = right_object h refl
  below_object (suc n) (interface d no_more) h = right_object h refl
  below_object n (interface d (more t ts)) h = absurd cc
  below_object n invalid h = absurd cc
  below_object n never h = absurd cc
  below_object n void h = absurd cc
  below_object n null h = absurd cc
  below_object n (function r o m e) h = absurd cc
  below_object n (variable x) h = absurd cc
  below_object n (promoted x t) h = absurd cc
  below_object n (nullable t) h = absurd cc

  below_top : (n : ℕ) (t : Ty) → is_top t ≡ true → Sub table (interface c ss) (non_null_within table (suc n) t)
  below_top n void h = right_top refl
  below_top n (nullable u) h = below_object n u h
  below_top n invalid h = absurd cc
  below_top n never h = absurd cc
  below_top n null h = absurd cc
  below_top n (interface d ts) h = absurd cc
  below_top n (function r o m e) h = absurd cc
  below_top n (variable x) h = absurd cc
  below_top n (promoted x t) h = absurd cc

  -- a class that is below a type is below the type without null
  below_without : (n : ℕ) {t : Ty} → Sub table (interface c ss) t → Sub table (interface c ss) (non_null_within table n t)
  below_without zero d = d
  below_without (suc n) reflexivity = reflexivity
  below_without (suc n) {t} (right_top h) = below_top n t h
  below_without (suc n) {t} (right_object h plain) = below_object (suc n) t h
  below_without (suc n) (right_nullable d) = below_without n d
  below_without (suc n) (right_promoted a b) = right_promoted a (below_without n b)
  below_without (suc n) (interface_arguments args) = interface_arguments args
  below_without (suc n) (super_interface row is counted keeps args) = super_interface row is counted keeps args

  below_non_null : (t : Ty) → Sub table (interface c ss) t → Sub table (interface c ss) (non_null_of table t)
  unfolding non_null_of
  below_non_null t d = below_without _ d

-- a value that isn't null
abbrev pub IsNotNull : Value → Type 0
IsNotNull Null = ⊥
IsNotNull (Integer n) = Unit {0}
IsNotNull (Boolean b) = Unit {0}

-- has the type without null
pub has_without_null : (p : Program) → RowLaws p.rows.table → (v : Value) (t : Ty) → IsNotNull v → IsTrue (has_type p v t) → IsTrue (has_type p v (without_null p.rows.table t))
has_without_null p laws Null t some h = absurd some
has_without_null p laws (Integer n) t some h = by (nat_le (size_of (non_null_of p.rows.table t)) NODE_LIMIT)
  where
    by : (b : Bool) → sub p.rows.table int (cond b (non_null_of p.rows.table t) t) ≡ true
    by true = laws.sub_complete int (non_null_of p.rows.table t) (below_non_null p.rows.table _ _ t (laws.sub_sound int t h))
    by false = h
has_without_null p laws (Boolean b) t some h = by (nat_le (size_of (non_null_of p.rows.table t)) NODE_LIMIT)
  where
    by : (b : Bool) → sub p.rows.table bool (cond b (non_null_of p.rows.table t) t) ≡ true
    by true = laws.sub_complete bool (non_null_of p.rows.table t) (below_non_null p.rows.table _ _ t (laws.sub_sound bool t h))
    by false = h
