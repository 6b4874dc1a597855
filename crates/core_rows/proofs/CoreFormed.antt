-- The rows of `dart:core` are well formed over no rows.
use Rattle.std.proofs.Common.{◌≡◌, ℕ, Bool, true, false, List, [], ◌∷◌, nat_eq, refl, sym, ap, subst, arith}
use Rattle.std.specs.Prelude.{◌≢◌, ◌&&◌, All, AllPairs}
use Rattle.std.proofs.lemmas.Bool.Decides.{nat_tests}
use Rattle.std.proofs.lemmas.List.Elements.{All-nil, All-cons, All-from_recursion, All-weaker}
use Rattle.std.proofs.lemmas.List.Kept.{AllPairs-cons}
use Rattle.dart_types.specs.Heads.{object}
use Rattle.dart_types.specs.Tables.{Table, class_of, depth_above}
use Rattle.dart_types.specs.Ty.{Ty, interface, no_more}
use Rattle.dart_types.specs.Unions.{beside, IsFormedOver, IsUnion}
use Rattle.dart_types.specs.WellFormed.{class_before, var_before, HasArguments, IsFormedClass, IsFormedVar, IsOver, IsSupertype, IsWellFormed}
use Rattle.dart_types.specs.declared.class_rows.ClassRow.{ClassRow}
use Rattle.dart_types.specs.declared.class_rows.VarRow.{VarRow}
use Rattle.dart_types.specs.declared.ids.ClassId.{ClassId}
use Rattle.dart_types.specs.declared.ids.VarId.{VarId}
use Rattle.dart_types.specs.declared.ids.TheConstants.{CORE, OBJECT, NULL, BOOL, FUNCTION, STACK_TRACE, INT, STRING, ITERATOR, ITERABLE, LIST, MAP, ERROR, TYPE_ERROR, STACK_OVERFLOW_ERROR, ARGUMENT_ERROR, RANGE_ERROR, STATE_ERROR, EXCEPTION, INTEGER_DIVISION_BY_ZERO_EXCEPTION, NO_LIBRARY}
use Rattle.class_depths.specs.Settled.{AreRowsOf, AreSettled}
use Rattle.class_depths.specs.declared.classes.DeclaredClass.{DeclaredClass}
use Rattle.core_rows.specs.CoreDeclared.{declared_classes}
use Rattle.core_rows.specs.CoreTable.{core_var, plain_row, generic_row, map_row, division_row, core_classes, free_row, core_vars, core_table}
use Rattle.core_rows.proofs.SameRows.{union_of_none}

-- rows whose ids rise, as a test
module _ {X : Type 0} (before : X → X → Bool) where
  abbrev is_first : X → List X → Bool
  is_first x [] = true
  is_first x (y ∷ ys) = before x y && is_first x ys

  abbrev pub rise : List X → Bool
  rise [] = true
  rise (x ∷ xs) = is_first x xs && rise xs

  both : (a b : Bool) → (a && b) ≡ true → (a ≡ true) × (b ≡ true)
  both true true h = (refl, refl)
  both true false h = absurd (let e : false ≡ true = h in cc)
  both false b h = absurd (let e : false ≡ true = h in cc)

  first_of_all : (x : X) (xs : List X) → is_first x xs ≡ true → All (λ (y : X). before x y ≡ true) xs
  first_of_all x [] h = All-nil (λ (y : X). before x y ≡ true)
  first_of_all x (y ∷ ys) h =
      let p = both (before x y) (is_first x ys) h in
      All-cons (λ (z : X). before x z ≡ true) y ys p.0 (first_of_all x ys p.1)

  pub pairs_from : (xs : List X) → rise xs ≡ true → AllPairs (λ (a b : X). before a b ≡ true) xs
  pairs_from [] h = λ i j d lt within. absurd (omega arith)
  pairs_from (x ∷ xs) h =
      let p = both (is_first x xs) (rise xs) h in
      AllPairs-cons (λ (a b : X). before a b ≡ true) x xs (first_of_all x xs p.0) (pairs_from xs p.1)

-- all rows, as a table to look rows up in
abbrev none : Table
none = record { classes = []; vars = [] }

abbrev all : Table
all = beside none core_table

-- a class at another place isn't this one
other : (c d : ClassId) → nat_eq c.index d.index ≡ false → c ≡ d → ⊥
other c d apart same = let i : c.index ≡ d.index = ap (λ (x : ClassId). x.index) same in grind (arith, nat_tests)

not_none : {X : Type 0} (x : X) (xs : List X) → x ∷ xs ≡ [] → ⊥
not_none x xs e = cc

-- a class that is neither Object nor Function, with one supertype at least
formed : (class : ClassId) (params : List VarId) (v : Ty) (vs : List Ty) (n : ℕ) → nat_eq class.index OBJECT.index ≡ false → nat_eq class.index FUNCTION.index ≡ false → All (IsSupertype params) (v ∷ vs) → All (IsOver all) (v ∷ vs) → n ≡ depth_above all (v ∷ vs) → IsFormedClass all (record { id = class; params = params; supers = v ∷ vs; depth = n })
formed class params v vs n o f supertypes over depth = record {
  object_alone = λ e. absurd (other class OBJECT o e);
  function_alone = λ e. absurd (other class FUNCTION f e);
  object_bare = λ e. absurd (other class OBJECT o e);
  function_bare = λ e. absurd (other class FUNCTION f e);
  rooted = λ _ e. not_none v vs e;
  supertypes = supertypes;
  over = over;
  depth = depth;
}

one : (P : Ty → Type 0) (v : Ty) → P v → All P (v ∷ [])
one P v p = All-cons P v [] p (All-nil P)

plain : (class above : ClassId) (n : ℕ) → nat_eq class.index OBJECT.index ≡ false → nat_eq class.index FUNCTION.index ≡ false → HasArguments (class_of all above) no_more → n ≡ depth_above all (interface above no_more ∷ []) → IsFormedClass all (plain_row class above n)
plain class above n o f has depth = formed class [] (interface above no_more) [] n o f (one (IsSupertype []) (interface above no_more) tt) (one (IsOver all) (interface above no_more) (has, tt)) depth

generic : (class : ClassId) (param : ℕ) (above : Ty) (n : ℕ) → nat_eq class.index OBJECT.index ≡ false → nat_eq class.index FUNCTION.index ≡ false → IsSupertype (core_var param ∷ []) above → IsOver all above → n ≡ depth_above all (above ∷ []) → IsFormedClass all (generic_row class param above n)
generic class param above n o f supertype over depth = formed class (core_var param ∷ []) above [] n o f (one (IsSupertype (core_var param ∷ [])) above supertype) (one (IsOver all) above over) depth

object_formed : IsFormedClass all (record { id = OBJECT; params = []; supers = []; depth = 0 })
object_formed = record {
  object_alone = λ _. refl;
  function_alone = λ e. absurd (other OBJECT FUNCTION refl e);
  object_bare = λ _. refl;
  function_bare = λ _. refl;
  rooted = λ n. absurd (n refl);
  supertypes = All-nil (IsSupertype []);
  over = All-nil (IsOver all);
  depth = refl;
}

function_formed : IsFormedClass all (plain_row FUNCTION OBJECT 1)
function_formed = record {
  object_alone = λ e. absurd (other FUNCTION OBJECT refl e);
  function_alone = λ _. refl;
  object_bare = λ _. refl;
  function_bare = λ _. refl;
  rooted = λ _ e. not_none object [] e;
  supertypes = one (IsSupertype []) object tt;
  over = one (IsOver all) object (refl, tt);
  depth = refl;
}

map_formed : IsFormedClass all map_row
map_formed = formed MAP (core_var 12 ∷ core_var 13 ∷ []) object [] 1 refl refl (one (IsSupertype (core_var 12 ∷ core_var 13 ∷ [])) object tt) (one (IsOver all) object (refl, tt)) refl

division_formed : IsFormedClass all division_row
division_formed =
    formed INTEGER_DIVISION_BY_ZERO_EXCEPTION [] object (interface EXCEPTION no_more ∷ []) 2 refl refl
    (All-cons (IsSupertype []) object (interface EXCEPTION no_more ∷ []) tt (one (IsSupertype []) (interface EXCEPTION no_more) tt))
    (All-cons (IsOver all) object (interface EXCEPTION no_more ∷ []) (refl, tt) (one (IsOver all) (interface EXCEPTION no_more) (refl, tt))) refl

classes_formed : All (IsFormedClass all) core_classes
classes_formed =
    All-from_recursion (IsFormedClass all) core_classes
    (object_formed, (plain NULL OBJECT 1 refl refl refl refl, (plain BOOL OBJECT 1 refl refl refl refl, (function_formed, (plain STACK_TRACE OBJECT 1 refl refl refl refl, (plain INT OBJECT 1 refl refl refl refl, (plain STRING OBJECT 1 refl refl refl refl, (generic ITERATOR 0 object 1 refl refl tt (refl, tt) refl, (generic ITERABLE 1 object 1 refl refl tt (refl, tt) refl, (generic LIST 10 _ 2 refl refl (refl, tt) (refl, (refl, tt)) refl, (map_formed, (plain ERROR OBJECT 1 refl refl refl refl, (plain TYPE_ERROR ERROR 2 refl refl refl refl, (plain STACK_OVERFLOW_ERROR ERROR 2 refl refl refl refl, (plain ARGUMENT_ERROR ERROR 2 refl refl refl refl, (plain RANGE_ERROR ARGUMENT_ERROR 3 refl refl refl refl, (plain STATE_ERROR ERROR 2 refl refl refl refl, (plain EXCEPTION OBJECT 1 refl refl refl refl, (division_formed, tt)))))))))))))))))))

not_no_library : CORE ≢ NO_LIBRARY
not_no_library e = let i : CORE.0 ≡ NO_LIBRARY.0 = ap (λ x. x.0) e in omega (arith, i)

free : (index : ℕ) → IsFormedVar all (free_row index)
free index = record { declared = not_no_library; earlier = tt; over = (refl, tt) }

vars_formed : All (IsFormedVar all) core_vars
vars_formed = All-from_recursion (IsFormedVar all) core_vars (free 0, (free 1, (free 10, (free 12, (free 13, tt)))))

-- no library has a class or a type variable in no rows
pub core_formed : IsFormedOver none core_table
core_formed = record {
  classes_in_order = pairs_from (λ (a b : ClassRow). class_before a.id b.id) core_classes refl;
  vars_in_order = pairs_from (λ (a b : VarRow). var_before a.var b.var) core_vars refl;
  classes_apart = λ k d lt has. absurd (omega (arith, has.1.1));
  vars_apart = λ k d lt has. absurd (omega (arith, has.1.1));
  classes = classes_formed;
  vars = vars_formed;
}

-- the rows have the depths that fit the declared classes
pub core_settled : AreSettled none core_vars declared_classes core_classes
core_settled = record {
  same = refl;
  depths = All-weaker (IsFormedClass all) (λ (row : ClassRow). row.depth ≡ depth_above all row.supers) (λ row h. h.depth) core_classes classes_formed;
}

-- the declared classes stand in order
pub declared_in_order : AllPairs (λ (a b : DeclaredClass). class_before a.id b.id ≡ true) declared_classes
declared_in_order = pairs_from (λ (a b : DeclaredClass). class_before a.id b.id) declared_classes refl

-- what comes of the declared classes and the type variables over no rows
module _ (below : Table) (vars : List VarRow) (declared : List DeclaredClass) (nothing : below ≡ none) (params : vars ≡ core_vars) (classes : declared ≡ declared_classes) where
  abbrev own : List ClassRow → Table
  own rows = record { classes = rows; vars = vars }

  -- the depths of the table fit
  pub depths_fit : AreSettled below vars declared core_classes
  depths_fit =
      subst (λ (t : Table). AreSettled t vars declared core_classes) (sym nothing)
      (subst (λ (vs : List VarRow). AreSettled none vs declared core_classes) (sym params)
      (subst (λ (ds : List DeclaredClass). AreSettled none core_vars ds core_classes) (sym classes) core_settled))

  module _ (rows : List ClassRow) (are : AreRowsOf below vars declared rows) where
    -- so the rows are those of the table
    own_is : core_table ≡ own rows
    own_is = let e : core_classes ≡ rows = are.alone core_classes depths_fit in let p : core_vars ≡ vars = sym params in λ k. record { classes = e k; vars = p k }

    -- which are well formed
    pub formed_over : IsFormedOver below (own rows)
    formed_over = subst (λ (t : Table). IsFormedOver t (own rows)) (sym nothing) (subst (λ (t : Table). IsFormedOver none t) own_is core_formed)

    -- and rows that have them and none else are the table
    pub all_is : (u : Table) → IsWellFormed u → IsUnion below (own rows) u → u ≡ core_table
    all_is u formed_u union =
        union_of_none core_table u core_formed formed_u
        (subst (λ (t : Table). IsUnion none t u) (sym own_is) (subst (λ (t : Table). IsUnion t (own rows) u) nothing union))
