-- What the definitions say of a few classes.
use Rattle.std.proofs.Common.{◌≡◌, ℕ, List, [], ◌∷◌, refl, sym, ◌∙◌, ap, subst, length, ◌<◌, ◌≤◌, zero, suc, get_or, true, false, Some, inl, inr, arith}
use Rattle.std.specs.Prelude.{◌⊎◌, Contains}
use Rattle.dart_types.specs.Substitution.{put, by_params}
use Rattle.dart_types.specs.Ty.{Ty, Types, invalid, never, void, null, interface, function, variable, promoted, nullable, no_more, more, no_named, more_named}
use Rattle.dart_types.specs.Heads.{object}
use Rattle.dart_types.specs.Normal.{normal}
use Rattle.dart_types.specs.Tables.{Table, class_of, depth_of, head_depth}
use Rattle.dart_types.specs.WellFormed.{IsOver}
use Rattle.dart_types.specs.Sub.{Sub, Subs, SubParams, reflexivity, right_top, right_object, right_nullable, left_variable_bound, function_class, function_types, one_left, one_param, left_null, left_nullable, right_promoted}
use Rattle.dart_types.specs.SubTest.{sub}
use Rattle.dart_types.specs.Sizes.{size_of}
use Rattle.dart_types.specs.Superinterfaces.{supertype, handed_on, Keeps}
use Rattle.dart_types.specs.Measure.{measure, weight_of, deepness_of, heaviest_of, step_of, ranks_of}
use Rattle.dart_types.specs.declared.ids.ClassId.{ClassId}
use Rattle.dart_types.specs.declared.ids.VarId.{VarId}
use Rattle.dart_types.specs.declared.ids.TheConstants.{CORE, OBJECT, FUNCTION}
use Rattle.dart_types.specs.declared.class_rows.ClassRow.{ClassRow}
use Rattle.dart_types.specs.declared.refusal.TheConstants.{NODE_LIMIT}
use Rattle.type_bounds.specs.NonNull.{non_null_of}
use Rattle.type_bounds.specs.Factor.{factor_of}
use Rattle.type_bounds.specs.BoundsOf.{upper_of, lower_of}
use Rattle.type_bounds.specs.Common.{IsAbove, IsCommon, IsAlone}
use Rattle.type_bounds.specs.Bounds.{AreApart, Upper, right_above, left_above, upper_apart, null_left, upper_functions, upper_of_others, one_class, two_classes, unbound_left, no_upper, one_upper, no_upper_name, upper_name, Lower, right_below, lower_apart, lower_functions, nothing_below, left_ends, one_lower, no_lower_name, lower_name}
use Rattle.type_bounds.proofs.ClassSets.{IsIn, IsOut, each_in, not_below, super_in, above_in, interface_below}

abbrev class_at : ℕ → ClassId
class_at n = record { lib = CORE; index = n }

abbrev var_at : ℕ → VarId
var_at n = record { lib = CORE; index = n }

abbrev int : Ty
int = interface (class_at 5) no_more

abbrev bool : Ty
bool = interface (class_at 4) no_more

-- List<t>
abbrev list : Ty → Ty
list t = interface (class_at 6) (more t no_more)

-- X, with the bound `int?`, and Y, with the bound int
abbrev x : Ty
x = variable (var_at 1)

abbrev y : Ty
y = variable (var_at 2)

abbrev object_row : ClassRow
object_row = record { id = OBJECT; params = []; supers = []; depth = 0 }

abbrev bool_row : ClassRow
bool_row = record { id = class_at 4; params = []; supers = object ∷ []; depth = 1 }

abbrev int_row : ClassRow
int_row = record { id = class_at 5; params = []; supers = object ∷ []; depth = 1 }

-- class List<E>
abbrev list_row : ClassRow
list_row = record { id = class_at 6; params = var_at 3 ∷ []; supers = object ∷ []; depth = 1 }

abbrev core : Table
core = record {
  classes = object_row ∷ bool_row ∷ int_row ∷ list_row ∷ [];
  vars = record { var = var_at 1; bound = nullable int } ∷ record { var = var_at 2; bound = int } ∷ record { var = var_at 3; bound = nullable object } ∷ [];
}

-- what is left of `int?` without int is Null, and without Null it is int
left_of_int : factor_of core (nullable int) int ≡ null
unfolding sub measure weight_of deepness_of heaviest_of step_of ranks_of
left_of_int = refl

left_of_null : factor_of core (nullable int) null ≡ int
unfolding sub measure weight_of deepness_of heaviest_of step_of ranks_of
left_of_null = refl

-- nothing is left without a supertype, and all without another type
nothing_left : factor_of core int (nullable object) ≡ never
unfolding sub measure weight_of deepness_of heaviest_of step_of ranks_of
nothing_left = refl

all_left : factor_of core (nullable int) bool ≡ nullable int
unfolding sub measure weight_of deepness_of heaviest_of step_of ranks_of
all_left = refl

-- Null without null is Never, `int?` is int, and void stays
null_without : non_null_of core null ≡ never
unfolding non_null_of weight_of
null_without = refl

int_without : non_null_of core (nullable int) ≡ int
unfolding non_null_of weight_of
int_without = refl

void_stays : non_null_of core void ≡ void
unfolding non_null_of weight_of
void_stays = refl

-- X is promoted to its bound without null, and Y stays
x_without : non_null_of core x ≡ promoted (var_at 1) int
unfolding non_null_of weight_of sub measure deepness_of heaviest_of step_of ranks_of
x_without = refl

y_stays : non_null_of core (nullable y) ≡ y
unfolding non_null_of weight_of sub measure deepness_of heaviest_of step_of ranks_of
y_stays = refl

no_null : Sub core null int → ⊥
no_null (right_top e) = cc
no_null (right_object e p) = cc

-- what a list of none, of one and of two types holds
none : (v : Ty) → Contains [] v → ⊥
none v c = absurd (omega (arith, c.1))

only : (t v : Ty) → Contains (t ∷ []) v → t ≡ v
only t v c = at c.0 c.1 c.2
  where
    at : (j : ℕ) → j < 1 → get_or (t ∷ []) j v ≡ v → t ≡ v
    at zero lt e = e
    at (suc j) lt e = absurd (omega arith)

either : (s t v : Ty) → Contains (s ∷ t ∷ []) v → (s ≡ v) ⊎ (t ≡ v)
either s t v c = at c.0 c.1 c.2
  where
    at : (j : ℕ) → j < 2 → get_or (s ∷ t ∷ []) j v ≡ v → (s ≡ v) ⊎ (t ≡ v)
    at zero lt e = inl e
    at (suc j) lt e = inr (only t v (j, omega arith, e))

-- Object is no subtype of another class, nor of a type that is no class
abbrev IsObject : ClassId → Type 0
IsObject c = c ≡ OBJECT

object_has_none : (c : ClassId) (row : ClassRow) (v : Ty) → IsObject c → class_of core c ≡ Some row → Contains row.supers v → ⊥
object_has_none c row v e r i =
    let k : class_of core OBJECT ≡ Some row = subst (λ (d : ClassId). class_of core d ≡ Some row) e r in
    let is : row ≡ object_row = cc in
    none v (subst (λ (q : ClassRow). Contains q.supers v) is i)

object_not : {t : Ty} → Sub core object t → IsOut IsObject t → ⊥
object_not a o = not_below IsObject core refl (λ c row v e r i. absurd (object_has_none c row v e r i)) a (refl, refl) o

in_object : (t : Ty) → IsIn IsObject t → t ≡ object
in_object = each_in IsObject (λ (t : Ty). t ≡ object) (λ c e. ap (λ (d : ClassId). interface d no_more) e)

-- a class that has Object as its one direct supertype has no other superinterface, and is a subtype of no other class but by its arguments
module _ (c : ClassId) (ss : Types) (row : ClassRow) (r : class_of core c ≡ Some row) (one : row.supers ≡ object ∷ []) where
  super_is_object : (row' : ClassRow) (v : Ty) → class_of core c ≡ Some row' → Contains row'.supers v → object ≡ v
  super_is_object row' v r' i =
      let is : row' ≡ row = cc in
      only object v (subst (λ (vs : List Ty). Contains vs v) one (subst (λ (q : ClassRow). Contains q.supers v) is i))

  first_in : (row' : ClassRow) (v : Ty) → class_of core c ≡ Some row' → Contains row'.supers v → IsIn IsObject v
  first_in row' v r' i = subst (IsIn IsObject) (super_is_object row' v r' i) (refl, refl)

  above_is_object : {u : Ty} → IsAbove core c ss u → u ≡ object
  above_is_object {u = u} a = in_object u (above_in IsObject core refl (λ d row' v e r' i. absurd (object_has_none d row' v e r' i)) c ss first_in a)

  kept_is_object : {d : ClassId} {us : Types} → Keeps core c (interface d us) → d ≡ OBJECT
  kept_is_object k = (super_in IsObject core refl (λ d row' v e r' i. absurd (object_has_none d row' v e r' i)) c ss first_in k.0).0

  below_by_arguments : {d : ClassId} {ts : Types} → (d ≡ OBJECT → ⊥) → Sub core (interface c ss) (interface d ts) → (c ≡ d) × Subs core ss ts
  below_by_arguments {d = d} {ts = ts} other a = elim (interface_below core a) [
    | inl is ↦ absurd (other is)
    | inr k ↦ elim k [
      | inl is ↦ is
      | inr up ↦ absurd (other (kept_is_object up.3))
    ]
  ]

-- int is no subtype of Null, of bool or of a variable
int_not_null : Sub core int null → ⊥
int_not_null (right_top e) = cc
int_not_null (right_object e p) = cc

int_not_variable : (v : VarId) → Sub core int (variable v) → ⊥
int_not_variable v (right_top e) = cc
int_not_variable v (right_object e p) = cc

not_same : {m n : ℕ} → (m ≡ n → ⊥) → class_at m ≡ class_at n → ⊥
not_same other e = other (ap (λ (c : ClassId). c.index) e)

int_not_bool : Sub core int bool → ⊥
int_not_bool a = not_same (λ e. omega (arith, e)) (below_by_arguments (class_at 5) no_more int_row refl refl (not_same (λ e. omega (arith, e))) a).0

bool_not_int : Sub core bool int → ⊥
bool_not_int a = not_same (λ e. omega (arith, e)) (below_by_arguments (class_at 4) no_more bool_row refl refl (not_same (λ e. omega (arith, e))) a).0

-- List<int> is no subtype of List<bool>, since int is none of bool
lists_apart : {s t : Ty} → (Sub core s t → ⊥) → Sub core (list s) (list t) → ⊥
lists_apart {s = s} {t = t} n a = at (below_by_arguments (class_at 6) (more s no_more) list_row refl refl (not_same (λ e. omega (arith, e))) a).1
  where
    at : Subs core (more s no_more) (more t no_more) → ⊥
    at (one_left b rest) = n b

-- null is below what a nullable type is below
nullable_null : (table : Table) {v t : Ty} → Sub table (nullable v) t → Sub table null t
nullable_null table reflexivity = left_null
nullable_null table (right_top e) = right_top e
nullable_null table (right_object e p) = cc
nullable_null table (left_nullable a b) = b
nullable_null table (right_nullable a) = right_nullable (nullable_null table a)
nullable_null table (right_promoted a b) = right_promoted (nullable_null table a) (nullable_null table b)

-- the lower bound of `int?` and int is int
lower_of_int : Lower core (nullable int) int int
lower_of_int = right_below (λ a. no_null (nullable_null core a)) (right_nullable reflexivity)

-- the upper bound of Null and int is `int?`
upper_of_null : Upper core null int (nullable int)
upper_of_null = upper_apart (no_null, int_not_null) null_left

-- so is that of `int?` and int
upper_of_int : Upper core (nullable int) int (nullable int)
upper_of_int = left_above (λ a. no_null (nullable_null core a)) (right_nullable reflexivity)

-- the upper bound of Y and `int?` is `int?`
upper_of_y : Upper core y (nullable int) (nullable int)
upper_of_y = right_above (right_nullable (left_variable_bound int refl reflexivity))

-- the upper bound of int and bool is Object, their one common superinterface
upper_of_classes : Upper core int bool object
upper_of_classes =
    upper_apart (int_not_bool, bool_not_int)
    (two_classes refl (record {
      common = (record { row = int_row; row_is = refl; counted = refl; over = object; superinterface = (supertype int_row refl (0, omega arith, refl), omega arith); is = refl }, record { row = bool_row; row_is = refl; counted = refl; over = object; superinterface = (supertype bool_row refl (0, omega arith, refl), omega arith); is = refl });
      alone = λ v both e. above_is_object (class_at 5) no_more int_row refl refl both.0;
      deepest = λ v both lt alone. absurd (omega (arith, lt, ap (head_depth core) (above_is_object (class_at 5) no_more int_row refl refl both.0)));
    }))

-- so that of List<int> and List<bool> is List<Object>
upper_of_lists : Upper core (list int) (list bool) (list object)
upper_of_lists = upper_apart (lists_apart int_not_bool, lists_apart bool_not_int) (one_class refl (one_upper upper_of_classes no_upper))

-- the lower bound of Null and int is Never
lower_of_null : Lower core null int never
lower_of_null = lower_apart (no_null, int_not_null) (nothing_below refl refl)

-- Null Function(int?, {int? a}) and int Function(int, {required int a})
abbrev takes_null : Ty
takes_null = function (more (nullable int) no_more) no_more (more_named (97 ∷ []) false (nullable int) no_named) null

abbrev takes_int : Ty
takes_int = function (more int no_more) no_more (more_named (97 ∷ []) true int no_named) int

functions_apart : AreApart core takes_null takes_int
functions_apart = (result_fits, parameter_fits)
  where
    result_fits : Sub core takes_null takes_int → ⊥
    result_fits (right_top e) = cc
    result_fits (right_object e p) = cc
    result_fits (function_class e) = cc
    result_fits (function_types le ps ns h a) = no_null a

    first_fits : SubParams core (more (nullable int) no_more) (more int no_more) → ⊥
    first_fits (one_param a rest) = no_null (nullable_null core a)

    parameter_fits : Sub core takes_int takes_null → ⊥
    parameter_fits (right_top e) = cc
    parameter_fits (right_object e p) = cc
    parameter_fits (function_class e) = cc
    parameter_fits (function_types le ps ns h a) = first_fits ps

-- their upper bound is int? Function(int, {required int a}), with the lower bounds of the parameters and the upper one of the results
upper_of_functions : Upper core takes_null takes_int (function (more int no_more) no_more (more_named (97 ∷ []) true int no_named) (nullable int))
upper_of_functions = upper_apart functions_apart (upper_functions refl (one_lower lower_of_int left_ends) left_ends (lower_name refl lower_of_int no_lower_name) upper_of_null)

-- and their lower bound Never Function(int?, {int? a}), the other way round
lower_of_functions : Lower core takes_null takes_int (function (more (nullable int) no_more) no_more (more_named (97 ∷ []) false (nullable int) no_named) never)
lower_of_functions = lower_apart functions_apart (lower_functions refl (one_upper upper_of_int no_upper) no_upper (upper_name refl upper_of_int no_upper_name) lower_of_null)

-- function types that require one parameter and none have the upper bound Function, of which these rows have no class
abbrev takes_one : Ty
takes_one = function (more int no_more) no_more no_named void

abbrev takes_none : Ty
takes_none = function no_more no_more no_named void

upper_of_arities : Upper core takes_one takes_none (interface FUNCTION no_more)
upper_of_arities = upper_apart (one_is_more, none_is_less) (upper_of_others refl)
  where
    one_is_more : Sub core takes_one takes_none → ⊥
    one_is_more (right_top e) = cc
    one_is_more (right_object e p) = cc
    one_is_more (function_class e) = cc
    one_is_more (function_types le ps ns h a) = absurd (omega (arith, le))

    fits_nothing : SubParams core (more int no_more) no_more → ⊥
    fits_nothing p = elim p [ ]

    none_is_less : Sub core takes_none takes_one → ⊥
    none_is_less (right_top e) = cc
    none_is_less (right_object e p) = cc
    none_is_less (function_class e) = cc
    none_is_less (function_types le ps ns h a) = fits_nothing ps

function_not_over : IsOver core (interface FUNCTION no_more) → ⊥
function_not_over o = o.0

-- a variable without a bound has the upper bound `Invalid` with int
upper_of_unbound : Upper core (variable (var_at 9)) int invalid
upper_of_unbound = upper_apart (not_int, int_not_variable (var_at 9)) (unbound_left refl refl)
  where
    not_int : Sub core (variable (var_at 9)) int → ⊥
    not_int (right_top e) = cc
    not_int (right_object e p) = cc
    not_int (left_variable_bound b e a) = cc

-- C and D implement P and Q, which implement M, which implements K
abbrev type_at : ℕ → Ty
type_at n = interface (class_at n) no_more

abbrev k_type : Ty
k_type = type_at 10

abbrev m_type : Ty
m_type = type_at 11

abbrev p_type : Ty
p_type = type_at 12

abbrev q_type : Ty
q_type = type_at 13

abbrev c_type : Ty
c_type = type_at 20

abbrev d_type : Ty
d_type = type_at 21

abbrev plain_row : ℕ → List Ty → ℕ → ClassRow
plain_row n supers depth = record { id = class_at n; params = []; supers = supers; depth = depth }

abbrev k_row : ClassRow
k_row = plain_row 10 (object ∷ []) 1

abbrev m_row : ClassRow
m_row = plain_row 11 (k_type ∷ []) 2

abbrev p_row : ClassRow
p_row = plain_row 12 (m_type ∷ []) 3

abbrev q_row : ClassRow
q_row = plain_row 13 (m_type ∷ []) 3

abbrev c_row : ClassRow
c_row = plain_row 20 (p_type ∷ q_type ∷ []) 4

abbrev d_row : ClassRow
d_row = plain_row 21 (p_type ∷ q_type ∷ []) 4

abbrev layers : Table
layers = record { classes = object_row ∷ k_row ∷ m_row ∷ p_row ∷ q_row ∷ c_row ∷ d_row ∷ []; vars = [] }

-- the superinterfaces that C and D share
data IsShared : ClassId → Type 0 where
  object_shared : IsShared OBJECT
  k_shared : IsShared (class_at 10)
  m_shared : IsShared (class_at 11)
  p_shared : IsShared (class_at 12)
  q_shared : IsShared (class_at 13)

shared_super : (c : ClassId) (row : ClassRow) (v : Ty) → IsShared c → class_of layers c ≡ Some row → Contains row.supers v → IsIn IsShared v
shared_super c row v object_shared r i =
    let is : row ≡ object_row = cc in
    absurd (none v (subst (λ (q : ClassRow). Contains q.supers v) is i))
shared_super c row v k_shared r i =
    let is : row ≡ k_row = cc in
    subst (IsIn IsShared) (only object v (subst (λ (q : ClassRow). Contains q.supers v) is i)) (object_shared, refl)
shared_super c row v m_shared r i =
    let is : row ≡ m_row = cc in
    subst (IsIn IsShared) (only k_type v (subst (λ (q : ClassRow). Contains q.supers v) is i)) (k_shared, refl)
shared_super c row v p_shared r i =
    let is : row ≡ p_row = cc in
    subst (IsIn IsShared) (only m_type v (subst (λ (q : ClassRow). Contains q.supers v) is i)) (m_shared, refl)
shared_super c row v q_shared r i =
    let is : row ≡ q_row = cc in
    subst (IsIn IsShared) (only m_type v (subst (λ (q : ClassRow). Contains q.supers v) is i)) (m_shared, refl)

-- P and Q are shared, and so what C and D implement directly
p_or_q : (v : Ty) → Contains (p_type ∷ q_type ∷ []) v → IsIn IsShared v
p_or_q v i = elim (either p_type q_type v i) [
  | inl is ↦ subst (IsIn IsShared) is (p_shared, refl)
  | inr is ↦ subst (IsIn IsShared) is (q_shared, refl)
]

direct_of_c : (row : ClassRow) (v : Ty) → class_of layers (class_at 20) ≡ Some row → Contains row.supers v → IsIn IsShared v
direct_of_c row v r i =
    let is : row ≡ c_row = cc in
    p_or_q v (subst (λ (q : ClassRow). Contains q.supers v) is i)

direct_of_d : (row : ClassRow) (v : Ty) → class_of layers (class_at 21) ≡ Some row → Contains row.supers v → IsIn IsShared v
direct_of_d row v r i =
    let is : row ≡ d_row = cc in
    p_or_q v (subst (λ (q : ClassRow). Contains q.supers v) is i)

shared : {u : Ty} → IsAbove layers (class_at 20) no_more u → IsIn IsShared u
shared a = above_in IsShared layers object_shared shared_super (class_at 20) no_more direct_of_c a

-- a class that is shared stands before C
before_c : {c : ClassId} → IsShared c → c.index < 20
before_c object_shared = omega arith
before_c k_shared = omega arith
before_c m_shared = omega arith
before_c p_shared = omega arith
before_c q_shared = omega arith

not_before_c : {n : ℕ} → IsShared (class_at n) → 20 ≤ n → ⊥
not_before_c s le = omega (arith, before_c s)

c_not_d : Sub layers c_type d_type → ⊥
c_not_d a = elim (interface_below layers a) [
  | inl e ↦ not_same (λ k. omega (arith, k)) e
  | inr k ↦ elim k [
    | inl e ↦ not_same (λ n. omega (arith, n)) e.0
    | inr up ↦ not_before_c (super_in IsShared layers object_shared shared_super (class_at 20) no_more direct_of_c up.3.0).0 (omega arith)
  ]
]

d_not_c : Sub layers d_type c_type → ⊥
d_not_c a = elim (interface_below layers a) [
  | inl e ↦ not_same (λ k. omega (arith, k)) e
  | inr k ↦ elim k [
    | inl e ↦ not_same (λ n. omega (arith, n)) e.0
    | inr up ↦ not_before_c (super_in IsShared layers object_shared shared_super (class_at 21) no_more direct_of_d up.3.0).0 (omega arith)
  ]
]

-- P, Q and M lie above C and D
module _ (n : ℕ) (row : ClassRow) (r : class_of layers (class_at n) ≡ Some row) (plain : row.params ≡ []) (supers : row.supers ≡ p_type ∷ q_type ∷ []) where
  written : (v : Ty) → Contains (p_type ∷ q_type ∷ []) v → Contains row.supers v
  written v i = subst (λ (vs : List Ty). Contains vs v) (sym supers) i

  implements : (v : Ty) → Contains (p_type ∷ q_type ∷ []) v → size_of (normal v) ≤ NODE_LIMIT → Keeps layers (class_at n) v
  implements v i small = (supertype row r (written v i), small)

  is_above : (v : Ty) → Keeps layers (class_at n) v → put (by_params row.params no_more) v ≡ v → normal v ≡ v → IsAbove layers (class_at n) no_more v
  is_above v s e k = record { row = row; row_is = r; counted = ap length (sym plain); over = v; superinterface = s; is = sym (ap normal e ∙ k) }

  p_above : IsAbove layers (class_at n) no_more p_type
  p_above = is_above p_type (implements p_type (0, omega arith, refl) (omega arith)) refl refl

  q_above : IsAbove layers (class_at n) no_more q_type
  q_above = is_above q_type (implements q_type (1, omega arith, refl) (omega arith)) refl refl

  m_above : IsAbove layers (class_at n) no_more m_type
  m_above = is_above m_type (handed_on {d = class_at 12} {ts = no_more} {v = m_type} row p_row r (written p_type (0, omega arith, refl)) refl (supertype p_row refl (0, omega arith, refl)) (omega arith), omega arith) refl refl

abbrev IsOfBoth : Ty → Type 0
IsOfBoth v = IsCommon layers (class_at 20) no_more (class_at 21) no_more v

abbrev IsAloneOfBoth : Ty → Type 0
IsAloneOfBoth v = IsAlone layers (class_at 20) no_more (class_at 21) no_more v

p_common : IsOfBoth p_type
p_common = (p_above 20 c_row refl refl refl, p_above 21 d_row refl refl refl)

q_common : IsOfBoth q_type
q_common = (q_above 20 c_row refl refl refl, q_above 21 d_row refl refl refl)

m_common : IsOfBoth m_type
m_common = (m_above 20 c_row refl refl refl, m_above 21 d_row refl refl refl)

-- M is the only shared one that is two steps from Object
m_at_two : (v : Ty) → IsIn IsShared v → head_depth layers v ≡ 2 → v ≡ m_type
m_at_two = each_in IsShared (λ (v : Ty). head_depth layers v ≡ 2 → v ≡ m_type) at
  where
    at : (c : ClassId) → IsShared c → depth_of layers c ≡ 2 → interface c no_more ≡ m_type
    at c object_shared e = absurd (omega (arith, e))
    at c k_shared e = absurd (omega (arith, e))
    at c m_shared e = refl
    at c p_shared e = absurd (omega (arith, e))
    at c q_shared e = absurd (omega (arith, e))

p_is_not_q : p_type ≡ q_type → ⊥
p_is_not_q e = let same : class_at 12 ≡ class_at 13 = cc in not_same (λ k. omega (arith, k)) same

-- farther from Object there are P and Q, of which neither is alone
none_deeper : (v : Ty) → IsIn IsShared v → 2 < head_depth layers v → IsAloneOfBoth v → ⊥
none_deeper = each_in IsShared (λ (v : Ty). 2 < head_depth layers v → IsAloneOfBoth v → ⊥) at
  where
    at : (c : ClassId) → IsShared c → 2 < depth_of layers c → IsAloneOfBoth (interface c no_more) → ⊥
    at c object_shared lt alone = absurd (omega (arith, lt))
    at c k_shared lt alone = absurd (omega (arith, lt))
    at c m_shared lt alone = absurd (omega (arith, lt))
    at c p_shared lt alone = p_is_not_q (sym (alone q_type q_common refl))
    at c q_shared lt alone = p_is_not_q (alone p_type p_common refl)

-- so M is the upper bound of C and D: P and Q are both three steps from Object
upper_of_layers : Upper layers c_type d_type m_type
upper_of_layers =
    upper_apart (c_not_d, d_not_c)
    (two_classes refl (record {
      common = m_common;
      alone = λ v both e. m_at_two v (shared both.0) e;
      deepest = λ v both lt alone. none_deeper v (shared both.0) lt alone;
    }))

-- the same bounds, as they are computed
computed_null : upper_of core null int ≡ nullable int
unfolding upper_of lower_of sub measure weight_of deepness_of heaviest_of step_of ranks_of
computed_null = refl

computed_int : upper_of core (nullable int) int ≡ nullable int
unfolding upper_of lower_of sub measure weight_of deepness_of heaviest_of step_of ranks_of
computed_int = refl

computed_classes : upper_of core int bool ≡ object
unfolding upper_of lower_of sub measure weight_of deepness_of heaviest_of step_of ranks_of
computed_classes = refl

computed_lists : upper_of core (list int) (list bool) ≡ list object
unfolding upper_of lower_of sub measure weight_of deepness_of heaviest_of step_of ranks_of
computed_lists = refl

computed_functions : upper_of core takes_null takes_int ≡ function (more int no_more) no_more (more_named (97 ∷ []) true int no_named) (nullable int)
unfolding upper_of lower_of sub measure weight_of deepness_of heaviest_of step_of ranks_of
computed_functions = refl

computed_arities : upper_of core takes_one takes_none ≡ interface FUNCTION no_more
unfolding upper_of lower_of sub measure weight_of deepness_of heaviest_of step_of ranks_of
computed_arities = refl

computed_unbound : upper_of core (variable (var_at 9)) int ≡ invalid
unfolding upper_of lower_of sub measure weight_of deepness_of heaviest_of step_of ranks_of
computed_unbound = refl

computed_layers : upper_of layers c_type d_type ≡ m_type
unfolding upper_of lower_of sub measure weight_of deepness_of heaviest_of step_of ranks_of
computed_layers = refl

computed_lower_int : lower_of core (nullable int) int ≡ int
unfolding upper_of lower_of sub measure weight_of deepness_of heaviest_of step_of ranks_of
computed_lower_int = refl

computed_lower_null : lower_of core null int ≡ never
unfolding upper_of lower_of sub measure weight_of deepness_of heaviest_of step_of ranks_of
computed_lower_null = refl

computed_lower_functions : lower_of core takes_null takes_int ≡ function (more (nullable int) no_more) no_more (more_named (97 ∷ []) false (nullable int) no_named) never
unfolding upper_of lower_of sub measure weight_of deepness_of heaviest_of step_of ranks_of
computed_lower_functions = refl

-- X gives way to its bound, `X & U` to U, and `X & U` with `X & V` is X
computed_variable : upper_of core x bool ≡ nullable object
unfolding upper_of lower_of sub measure weight_of deepness_of heaviest_of step_of ranks_of
computed_variable = refl

computed_promoted : upper_of core bool (promoted (var_at 1) int) ≡ object
unfolding upper_of lower_of sub measure weight_of deepness_of heaviest_of step_of ranks_of
computed_promoted = refl

computed_promoted_twice : upper_of core (promoted (var_at 1) int) (promoted (var_at 1) bool) ≡ x
unfolding upper_of lower_of sub measure weight_of deepness_of heaviest_of step_of ranks_of
computed_promoted_twice = refl

-- Object is no function type, and a class has the bound Object with one
computed_function_and_class : upper_of core takes_int int ≡ object
unfolding upper_of lower_of sub measure weight_of deepness_of heaviest_of step_of ranks_of
computed_function_and_class = refl
