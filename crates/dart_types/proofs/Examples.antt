-- What the definitions say of a few classes of `dart:core`.
use Rattle.std.proofs.Common.{◌≡◌, ℕ, zero, suc, true, false, List, [], ◌∷◌, refl, ap, arith}
use Rattle.std.specs.Prelude.{◌≢◌, All, AllPairs}
use Rattle.std.proofs.lemmas.List.Elements.{All-nil, All-cons}
use Rattle.dart_types.specs.Ty.{Ty, never, void, null, interface, function, variable, promoted, nullable, no_more, more, no_named, more_named}
use Rattle.dart_types.specs.Sizes.{size_of}
use Rattle.dart_types.specs.Heads.{object}
use Rattle.dart_types.specs.Normal.{normal, substituted}
use Rattle.dart_types.specs.Tables.{Table}
use Rattle.dart_types.specs.WellFormed.{IsSupertype, IsOver, IsFormedClass, IsFormedVar, IsWellFormed, class_before, var_before}
use Rattle.dart_types.specs.Superinterfaces.{supertype}
use Rattle.dart_types.specs.Sub.{Sub, reflexivity, right_top, left_bottom, left_null, right_object, left_promoted_variable, left_promoted_type, super_interface, function_types, none_left, one_left, no_param, one_param, no_name}
use Rattle.dart_types.specs.declared.ids.ClassId.{ClassId}
use Rattle.dart_types.specs.declared.ids.VarId.{VarId}
use Rattle.dart_types.specs.declared.ids.LibId.{LibId}
use Rattle.dart_types.specs.declared.ids.TheConstants.{CORE, OBJECT, FUNCTION, NO_LIBRARY}
use Rattle.dart_types.specs.declared.class_rows.ClassRow.{ClassRow}
use Rattle.dart_types.specs.declared.class_rows.VarRow.{VarRow}
use Rattle.dart_types.proofs.Above.{nullable_null}

abbrev class_at : ℕ → ClassId
class_at n = record { lib = CORE; index = n }

abbrev var_at : ℕ → VarId
var_at n = record { lib = CORE; index = n }

abbrev int_class : ClassId
int_class = class_at 5

abbrev iterable_class : ClassId
iterable_class = class_at 8

abbrev list_class : ClassId
list_class = class_at 13

abbrev int : Ty
int = interface int_class no_more

-- Iterable<t>
abbrev iterable : Ty → Ty
iterable t = interface iterable_class (more t no_more)

-- List<t>
abbrev list : Ty → Ty
list t = interface list_class (more t no_more)

abbrev object_row : ClassRow
object_row = record { id = OBJECT; params = []; supers = []; depth = 0 }

abbrev function_row : ClassRow
function_row = record { id = FUNCTION; params = []; supers = object ∷ []; depth = 1 }

abbrev int_row : ClassRow
int_row = record { id = int_class; params = []; supers = object ∷ []; depth = 1 }

abbrev iterable_row : ClassRow
iterable_row = record { id = iterable_class; params = var_at 1 ∷ []; supers = object ∷ []; depth = 1 }

-- class List<E> extends Iterable<E>
abbrev list_row : ClassRow
list_row = record { id = list_class; params = var_at 2 ∷ []; supers = iterable (variable (var_at 2)) ∷ []; depth = 2 }

abbrev any_row : ℕ → VarRow
any_row n = record { var = var_at n; bound = nullable object }

abbrev core : Table
core = record {
  classes = object_row ∷ function_row ∷ int_row ∷ iterable_row ∷ list_row ∷ [];
  vars = any_row 1 ∷ any_row 2 ∷ [];
}

-- `T??` is `T?`, `void?` is `void`, `Null?` and `Never?` are `Null`
mark_twice : normal (nullable (nullable int)) ≡ nullable int
mark_twice = refl

mark_void : normal (nullable void) ≡ void
mark_void = refl

mark_null : normal (nullable null) ≡ null
mark_null = refl

mark_never : normal (list (nullable never)) ≡ list null
mark_never = refl

-- `List<int?>` has three nodes
three_nodes : size_of (list (nullable int)) ≡ 3
three_nodes = refl

-- `E?` with `int?` for E is `int?`
put_in : substituted ((var_at 1, nullable int) ∷ []) (nullable (variable (var_at 1))) ≡ nullable int
put_in = refl

-- the X of an `X & U` stays
promoted_stays : substituted ((var_at 1, int) ∷ []) (promoted (var_at 1) (list (variable (var_at 1)))) ≡ promoted (var_at 1) (list int)
promoted_stays = refl

-- null <: int?, and not null <: int
null_fits : Sub core null (nullable int)
null_fits = left_null

null_only : Sub core null int → ⊥
null_only (right_top e) = cc
null_only (right_object e p) = cc

-- so not int? <: int
not_bare : Sub core (nullable int) int → ⊥
not_bare a = null_only (nullable_null core a)

-- Never <: int <: Object, and void <: Object?
bottom : Sub core never int
bottom = left_bottom

int_is_object : Sub core int object
int_is_object = right_object refl refl

void_is_top : Sub core void (nullable object)
void_is_top = right_top refl

-- List<int> <: Iterable<Object?>
list_is_iterable : Sub core (list int) (iterable (nullable object))
list_is_iterable =
    super_interface list_row refl refl (supertype list_row refl (0, omega arith, refl), omega arith) (one_left (right_top refl) none_left)

-- X & int <: X, and X & int <: int
promoted_is_both : Sub core (promoted (var_at 1) int) (variable (var_at 1)) × Sub core (promoted (var_at 1) int) int
promoted_is_both = (left_promoted_variable reflexivity, left_promoted_type reflexivity)

-- int Function(Object, {int a}) <: Object? Function(int)
function_fits : Sub core (function (more object no_more) no_more (more_named (97 ∷ []) false int no_named) int) (function (more int no_more) no_more no_named (nullable object))
function_fits = function_types (omega arith) (one_param int_is_object no_param) no_name refl (right_top refl)

-- the rows are well formed
core_classes : All (IsFormedClass core) core.classes
core_classes =
    All-cons (IsFormedClass core) object_row (function_row ∷ int_row ∷ iterable_row ∷ list_row ∷ []) (record {
      object_alone = λ e. refl;
      function_alone = λ e. let k = ap (λ (c : ClassId). c.index) e in absurd (omega (arith, k));
      object_bare = λ e. refl;
      function_bare = λ e. refl;
      rooted = λ n. absurd (n refl);
      supertypes = All-nil (IsSupertype []);
      over = All-nil (IsOver core);
      depth = refl;
    })
    (All-cons (IsFormedClass core) function_row (int_row ∷ iterable_row ∷ list_row ∷ []) (record {
      object_alone = λ e. let k = ap (λ (c : ClassId). c.index) e in absurd (omega (arith, k));
      function_alone = λ e. refl;
      object_bare = λ e. refl;
      function_bare = λ e. refl;
      rooted = λ n e. cc;
      supertypes = All-cons (IsSupertype []) object [] tt (All-nil (IsSupertype []));
      over = All-cons (IsOver core) object [] (refl, tt) (All-nil (IsOver core));
      depth = refl;
    })
    (All-cons (IsFormedClass core) int_row (iterable_row ∷ list_row ∷ []) (record {
      object_alone = λ e. let k = ap (λ (c : ClassId). c.index) e in absurd (omega (arith, k));
      function_alone = λ e. refl;
      object_bare = λ e. refl;
      function_bare = λ e. refl;
      rooted = λ n e. cc;
      supertypes = All-cons (IsSupertype []) object [] tt (All-nil (IsSupertype []));
      over = All-cons (IsOver core) object [] (refl, tt) (All-nil (IsOver core));
      depth = refl;
    })
    (All-cons (IsFormedClass core) iterable_row (list_row ∷ []) (record {
      object_alone = λ e. let k = ap (λ (c : ClassId). c.index) e in absurd (omega (arith, k));
      function_alone = λ e. refl;
      object_bare = λ e. let k = ap (λ (c : ClassId). c.index) e in absurd (omega (arith, k));
      function_bare = λ e. let k = ap (λ (c : ClassId). c.index) e in absurd (omega (arith, k));
      rooted = λ n e. cc;
      supertypes = All-cons (IsSupertype (var_at 1 ∷ [])) object [] tt (All-nil (IsSupertype (var_at 1 ∷ [])));
      over = All-cons (IsOver core) object [] (refl, tt) (All-nil (IsOver core));
      depth = refl;
    })
    (All-cons (IsFormedClass core) list_row [] (record {
      object_alone = λ e. let k = ap (λ (c : ClassId). c.index) e in absurd (omega (arith, k));
      function_alone = λ e. let k = ap (λ (c : ClassId). c.index) e in absurd (omega (arith, k));
      object_bare = λ e. let k = ap (λ (c : ClassId). c.index) e in absurd (omega (arith, k));
      function_bare = λ e. let k = ap (λ (c : ClassId). c.index) e in absurd (omega (arith, k));
      rooted = λ n e. cc;
      supertypes = All-cons (IsSupertype (var_at 2 ∷ [])) (iterable (variable (var_at 2))) [] (refl, tt) (All-nil (IsSupertype (var_at 2 ∷ [])));
      over = All-cons (IsOver core) (iterable (variable (var_at 2))) [] (refl, (refl, tt)) (All-nil (IsOver core));
      depth = refl;
    })
    (All-nil (IsFormedClass core))))))

-- a list whose first element has the relation to each behind it
pairs_cons : {X : Type 0} (R : X → X → Type 0) (x : X) (xs : List X) → All (R x) xs → AllPairs R xs → AllPairs R (x ∷ xs)
pairs_cons R x xs a rest zero zero d lt within = absurd (omega arith)
pairs_cons R x xs a rest zero (suc j) d lt within = a j d (omega arith)
pairs_cons R x xs a rest (suc i) zero d lt within = absurd (omega arith)
pairs_cons R x xs a rest (suc i) (suc j) d lt within = rest i j d (omega arith) (omega arith)

pairs_nil : {X : Type 0} (R : X → X → Type 0) → AllPairs R []
pairs_nil R i j d lt within = absurd (omega arith)

abbrev Before : ClassRow → ClassRow → Type 0
Before a b = class_before a.id b.id ≡ true

abbrev VarBefore : VarRow → VarRow → Type 0
VarBefore a b = var_before a.var b.var ≡ true

-- the library of the classes has a number
of_core : CORE ≢ NO_LIBRARY
of_core e =
    let k : 0 ≡ 18446744073709551615 = ap (λ (l : LibId). l.0) e in
    absurd (omega (arith, k))

core_is_well_formed : IsWellFormed core
core_is_well_formed = record {
  classes_in_order = pairs_cons Before object_row (function_row ∷ int_row ∷ iterable_row ∷ list_row ∷ []) (All-cons (Before object_row) function_row (int_row ∷ iterable_row ∷ list_row ∷ []) refl (All-cons (Before object_row) int_row (iterable_row ∷ list_row ∷ []) refl (All-cons (Before object_row) iterable_row (list_row ∷ []) refl (All-cons (Before object_row) list_row [] refl (All-nil (Before object_row))))))
      (pairs_cons Before function_row (int_row ∷ iterable_row ∷ list_row ∷ []) (All-cons (Before function_row) int_row (iterable_row ∷ list_row ∷ []) refl (All-cons (Before function_row) iterable_row (list_row ∷ []) refl (All-cons (Before function_row) list_row [] refl (All-nil (Before function_row)))))
      (pairs_cons Before int_row (iterable_row ∷ list_row ∷ []) (All-cons (Before int_row) iterable_row (list_row ∷ []) refl (All-cons (Before int_row) list_row [] refl (All-nil (Before int_row))))
      (pairs_cons Before iterable_row (list_row ∷ []) (All-cons (Before iterable_row) list_row [] refl (All-nil (Before iterable_row)))
      (pairs_cons Before list_row [] (All-nil (Before list_row)) (pairs_nil Before)))));
  vars_in_order = pairs_cons VarBefore (any_row 1) (any_row 2 ∷ []) (All-cons (VarBefore (any_row 1)) (any_row 2) [] refl (All-nil (VarBefore (any_row 1))))
      (pairs_cons VarBefore (any_row 2) [] (All-nil (VarBefore (any_row 2))) (pairs_nil VarBefore));
  classes = core_classes;
  vars = All-cons (IsFormedVar core) (any_row 1) (any_row 2 ∷ []) (record { declared = of_core; earlier = tt; over = (refl, tt) })
      (All-cons (IsFormedVar core) (any_row 2) [] (record { declared = of_core; earlier = tt; over = (refl, tt) }) (All-nil (IsFormedVar core)));
}
