-- What values of a form that is built give: their types, and the models behind them.
use Rattle.std.proofs.Common.{◌≡◌, ℕ, zero, suc, Bool, true, false, cond, not, ◌&&◌, ◌||◌, List, [], ◌∷◌, ◌++◌, Option, Some, None, is_some, refl, sym, ap, ◌∙◌, subst, IsTrue}
use Rattle.std.specs.FinMap.{get}
use Rattle.std.specs.Option.{option_map_or, option_or}
use Rattle.std.specs.Prelude.{slice_index_or}
use Rattle.dart_tree.specs.declared.operators.BinaryOperatorKind.{BinaryOperatorKind}
use Rattle.dart_tree.specs.declared.operators.BinaryOperatorKind.TheVariants.{Add, Less}
use Rattle.dart_tree.specs.declared.places.Place.{Place}
use Rattle.dart_tree.specs.declared.places.Span.{Span}
use Rattle.dart_types.specs.Ty.{Ty, invalid, never, void, null, interface, function, variable, promoted, nullable, no_more, more}
use Rattle.dart_types.specs.Heads.{object}
use Rattle.dart_types.specs.Invalid.{holds_invalid}
use Rattle.dart_types.specs.Same.{same_class, same_type}
use Rattle.dart_types.specs.Measure.{weight_of}
use Rattle.dart_types.specs.SubTest.{sub}
use Rattle.dart_types.specs.Tables.{Table}
use Rattle.dart_types.specs.declared.ids.TheConstants.{INT}
use Rattle.type_bounds.specs.NonNull.{non_null_of}
use Rattle.flow_model.specs.Flow.{FlowModel, current_of, facts_of}
use Rattle.flow_model.specs.declared.locals.Facts.{Facts}
use Rattle.flow_model.specs.declared.locals.LocalId.{LocalId}
use Rattle.judgement.specs.declared.code.DiagnosticCode.TheVariants.{ArgumentType, UnassignedRead, UncheckedNullableUse, UndefinedOperator}
use Rattle.judgement.specs.declared.fault.Fault.{Fault}
use Rattle.judgement.specs.declared.meaning.Meaning.{Meaning}
use Rattle.judgement.specs.declared.meaning.Meaning.TheVariants.{Nothing, Local, Print, Class, Other}
use Rattle.judgement.specs.Given.{Evaluation, exits_if_never, faulty, fault_over, fit_faults, fits, of_type}
use Rattle.judgement.specs.Receivers.{member_type, member_type_within}
use Rattle.judgement.specs.ExpressionRows.{argument_faults, bool, int, int_operation, may_operate, name_row, operation_in, operation_of, operation_on, print_row, read_row, receiver_faults, result_type, takes_any}
use Rattle.judgement.specs.Surroundings.{Names, meaning_of}
use Rattle.built_forms.specs.Forms.{is_free}
use Rattle.built_forms.specs.Meanings.{meaning_at}
use Rattle.rule_laws.specs.Plain.{is_class, is_plain, is_value_type}
use Rattle.elaborate.proofs.Given.{Setting, Laws, around}
use Rattle.elaborate.proofs.Chains.{sub_itself}

-- lists of diagnostics that are none together are none each
pub left_none : {A : Type 0} (xs ys : List A) → xs ++ ys ≡ [] → xs ≡ []
left_none [] ys none = refl
left_none (x ∷ xs) ys none = absurd cc

pub right_none : {A : Type 0} (xs ys : List A) → xs ++ ys ≡ [] → ys ≡ []
right_none [] ys none = none
right_none (x ∷ xs) ys none = absurd cc

-- the type of a value isn't Never, and no part of it is Invalid
class_holds : (t : Ty) → is_class t ≡ true → holds_invalid t ≡ false
class_holds (interface class no_more) is = refl
class_holds (interface class (more t ts)) is = absurd cc
class_holds invalid is = absurd cc
class_holds never is = absurd cc
class_holds void is = absurd cc
class_holds null is = absurd cc
class_holds (function r o n e) is = absurd cc
class_holds (variable x) is = absurd cc
class_holds (promoted x t) is = absurd cc
class_holds (nullable t) is = absurd cc

pub value_holds : (t : Ty) → is_value_type t ≡ true → holds_invalid t ≡ false
value_holds null is = refl
value_holds (nullable t) is = class_holds t is
value_holds (interface class types) is = class_holds (interface class types) is
value_holds invalid is = absurd cc
value_holds never is = absurd cc
value_holds void is = absurd cc
value_holds (function r o n e) is = absurd cc
value_holds (variable x) is = absurd cc
value_holds (promoted x t) is = absurd cc

pub value_not_never : (t : Ty) → is_value_type t ≡ true → same_type t never ≡ false
value_not_never null is = refl
value_not_never (nullable t) is = refl
value_not_never (interface class types) is = refl
value_not_never invalid is = absurd cc
value_not_never never is = absurd cc
value_not_never void is = absurd cc
value_not_never (function r o n e) is = absurd cc
value_not_never (variable x) is = absurd cc
value_not_never (promoted x t) is = absurd cc

-- a plain type is one of a value
pub plain_value : (t : Ty) → is_plain t ≡ true → is_value_type t ≡ true
plain_value null is = refl
plain_value (nullable t) is = is
plain_value (interface class types) is = is
plain_value invalid is = is
plain_value never is = is
plain_value void is = is
plain_value (function r o n e) is = is
plain_value (variable x) is = is
plain_value (promoted x t) is = is

-- behind what has a value more is reached
pub value_stays : (e : Evaluation) → is_value_type e.ty ≡ true → exits_if_never e ≡ e
value_stays e is = ap (λ b. cond b (record e { after = record { reachable = false; locals = e.after.locals }; when_true = record { reachable = false; locals = e.when_true.locals }; when_false = record { reachable = false; locals = e.when_false.locals } }) e) (value_not_never e.ty is)

-- a call of `print` doesn't exit
void_or_invalid : (b : Bool) → same_type (cond b invalid void) never ≡ false
void_or_invalid true = refl
void_or_invalid false = refl

pub print_stays : (table : Table) (at : Place) (value : Evaluation) → exits_if_never (print_row table at value) ≡ print_row table at value
print_stays table at value =
    let e = print_row table at value in
    ap (λ b. cond b (record e { after = record { reachable = false; locals = e.after.locals }; when_true = record { reachable = false; locals = e.when_true.locals }; when_false = record { reachable = false; locals = e.when_false.locals } }) e)
    (void_or_invalid (holds_invalid value.ty))

-- a value of a type that fits is one of a subtype
pub fits_sub : (table : Table) (s t : Ty) → is_value_type s ≡ true → holds_invalid t ≡ false → (f : List Fault) (code : Fault) → cond (fits table s t) [] (code ∷ f) ≡ [] → IsTrue (sub table s t)
fits_sub table s t value valid f code none = at (sub table s t) refl
  where
    at : (b : Bool) → sub table s t ≡ b → IsTrue (sub table s t)
    at true is = is
    at false is =
        absurd (let misfit : fits table s t ≡ false = ap (λ h. h || (holds_invalid t || sub table s t)) (value_holds s value) ∙ ap (λ h. h || sub table s t) valid ∙ is in
        let some : code ∷ f ≡ [] = sym (ap (λ h. cond h [] (code ∷ f)) misfit) ∙ none in cc)

-- A name that is free outside means a local, if nothing is wrong with a read of it.
pub record Reads (c : Setting) (names : Names) (word : ℕ) (m : FlowModel) (e : Evaluation) : Type 0 where
  pub var : LocalId
  pub l : Facts
  pub meant : meaning_of (around c names) word ≡ Local var
  pub found : facts_of m var ≡ Some l
  pub assigned : l.assigned ≡ true
  pub gives : e ≡ of_type (current_of l) m

read_at : (c : Setting) (names : Names) (word : ℕ) (at : Place) (var : LocalId) (m : FlowModel) (found : Option Facts) → meaning_of (around c names) word ≡ Local var → facts_of m var ≡ found → (read_row at found m).faults ≡ [] → Reads c names word m (read_row at found m)
read_at c names word at var m None meant is none = absurd cc
read_at c names word at var m (Some l) meant is none = assigned_at l.assigned refl
  where
    assigned_at : (b : Bool) → l.assigned ≡ b → Reads c names word m (read_row at (Some l) m)
    assigned_at true known = record { var = var; l = l; meant = meant; found = is; assigned = known; gives = ap (λ b. cond b (of_type (current_of l) m) (faulty at.span UnassignedRead m)) known }
    assigned_at false known = absurd (let some = sym (ap (λ (e : Evaluation). e.faults) (ap (λ b. cond b (of_type (current_of l) m) (faulty at.span UnassignedRead m)) known)) ∙ none in cc)

name_at : (c : Setting) (names : Names) (word : ℕ) (at : Place) (m : FlowModel) (found : Option LocalId) (o : Meaning) → get names word ≡ found → slice_index_or c.outside word Nothing ≡ o → is_free o ≡ true
    → (name_row (option_map_or Local found o) at m).faults ≡ [] → Reads c names word m (name_row (option_map_or Local found o) at m)
name_at c names word at m (Some var) o is out free none =
    read_at c names word at var m (facts_of m var) (ap (λ f. option_map_or Local f (slice_index_or c.outside word Nothing)) is) refl none
name_at c names word at m None Nothing is out free none = absurd cc
name_at c names word at m None (Local var) is out free none = absurd cc
name_at c names word at m None Print is out free none = absurd cc
name_at c names word at m None (Class class) is out free none = absurd cc
name_at c names word at m None Other is out free none = absurd cc

pub name_reads : (c : Setting) (names : Names) (word : ℕ) (at : Place) (m : FlowModel) → is_free (meaning_at c.outside word) ≡ true
    → (name_row (meaning_of (around c names) word) at m).faults ≡ [] → Reads c names word m (name_row (meaning_of (around c names) word) at m)
name_reads c names word at m free none = name_at c names word at m (get names word) (slice_index_or c.outside word Nothing) refl refl free none

-- Operators.

-- a value has the members of its own type
own_members_within : (table : Table) (n : ℕ) (t : Ty) → is_value_type t ≡ true → member_type_within table n t ≡ t
own_members_within table zero t value = refl
own_members_within table (suc n) null value = refl
own_members_within table (suc n) (nullable t) value = refl
own_members_within table (suc n) (interface class types) value = refl
own_members_within table (suc n) invalid value = refl
own_members_within table (suc n) never value = refl
own_members_within table (suc n) void value = refl
own_members_within table (suc n) (function r o l u) value = refl
own_members_within table (suc n) (variable x) value = absurd cc
own_members_within table (suc n) (promoted x t) value = absurd cc

own_members : (table : Table) (t : Ty) → is_value_type t ≡ true → member_type table t ≡ t
unfolding member_type
own_members table t value = own_members_within table (weight_of table t) t value

-- an operator without a diagnostic on its left side is one of int
has_operation : (table : Table) (span : Span) (t : Ty) (kind : BinaryOperatorKind) → is_value_type t ≡ true → receiver_faults table span t kind ≡ [] → is_some (operation_in t kind) ≡ true
has_operation table span t kind value none = at (is_some (operation_in t kind)) (not (sub table t object) && may_operate table (non_null_of table t) kind) refl refl
  where
    looked : (b d : Bool) → is_some (operation_in t kind) ≡ b → (not (sub table t object) && may_operate table (non_null_of table t) kind) ≡ d
        → receiver_faults table span t kind ≡ cond b [] (cond d (fault_over span UncheckedNullableUse) (fault_over span UndefinedOperator))
    looked b d is is' =
        let other = cond (not (sub table t object) && may_operate table (non_null_of table t) kind) (fault_over span UncheckedNullableUse) (fault_over span UndefinedOperator) in
        ap (λ (u : Ty). cond (is_some (operation_in u kind) || takes_any u) [] other) (own_members table t value)
        ∙ ap (λ n. cond (is_some (operation_in t kind) || (n || holds_invalid t)) [] other) (value_not_never t value)
        ∙ ap (λ h. cond (is_some (operation_in t kind) || h) [] other) (value_holds t value)
        ∙ ap (λ b. cond (b || false) [] other) is
        ∙ ap (λ d. cond (b || false) [] (cond d (fault_over span UncheckedNullableUse) (fault_over span UndefinedOperator))) is'
        ∙ either b (cond d (fault_over span UncheckedNullableUse) (fault_over span UndefinedOperator))
      where
        either : (b : Bool) (other : List Fault) → cond (b || false) [] other ≡ cond b [] other
        either true other = refl
        either false other = refl

    at : (b d : Bool) → is_some (operation_in t kind) ≡ b → (not (sub table t object) && may_operate table (non_null_of table t) kind) ≡ d → b ≡ true
    at true d is is' = refl
    at false true is is' = absurd (let some : fault_over span UncheckedNullableUse ≡ [] = sym (looked false true is is') ∙ none in cc)
    at false false is is' = absurd (let some : fault_over span UndefinedOperator ≡ [] = sym (looked false false is is') ∙ none in cc)

-- a value with an operator of int is an int
int_with : (c : Setting) (laws : Laws c) (t : Ty) (kind : BinaryOperatorKind) → is_value_type t ≡ true → is_some (operation_in t kind) ≡ true → t ≡ int
int_with c laws (interface class no_more) kind value some = at (same_class class INT) refl
  where
    at : (b : Bool) → same_class class INT ≡ b → interface class no_more ≡ int
    at true is = laws.types.types.equal_from_same_type (interface class no_more) int (ap (λ b. b && true) is)
    at false is = absurd (let none : is_some (operation_in (interface class no_more) kind) ≡ false = ap (λ b. is_some (cond b (int_operation kind) None)) is in cc)
int_with c laws (interface class (more t ts)) kind value some = absurd cc
int_with c laws invalid kind value some = absurd cc
int_with c laws never kind value some = absurd cc
int_with c laws void kind value some = absurd cc
int_with c laws null kind value some = absurd cc
int_with c laws (function r o n e) kind value some = absurd cc
int_with c laws (variable x) kind value some = absurd cc
int_with c laws (promoted x t) kind value some = absurd cc
int_with c laws (nullable t) kind value some = absurd cc

-- what an operator of int gives without a diagnostic: both its sides are ints
pub record Operates (c : Setting) (left right : Ty) (given : Ty) (result : Ty) : Type 0 where
  pub one : IsTrue (sub c.rows.table left int)
  pub other : IsTrue (sub c.rows.table right int)
  pub gives : given ≡ result

module _ (c : Setting) (laws : Laws c) (span : Span) (at : Place) (left right : Ty) (value : is_value_type left ≡ true) (value' : is_value_type right ≡ true) where
  int_operates : (kind : BinaryOperatorKind) (result : Ty) → operation_in int kind ≡ Some (record { parameter = int; result = result })
      → receiver_faults c.rows.table span left kind ≡ [] → argument_faults c.rows.table at (operation_of c.rows.table left kind) right ≡ []
      → Operates c left right (result_type c.rows.table left (operation_of c.rows.table left kind) right) result
  int_operates kind result operation none none' =
      let same : left ≡ int = int_with c laws left kind value (has_operation c.rows.table span left kind value none) in
      let bare = operation_on c.rows.table (non_null_of c.rows.table left) kind in
      let found : operation_of c.rows.table left kind ≡ Some (record { parameter = int; result = result }) =
      ap (λ (t : Ty). option_or (operation_in t kind) bare) (own_members c.rows.table left value ∙ same) ∙ ap (λ o. option_or o bare) operation in
      let fits' : fit_faults c.rows.table ArgumentType at right int ≡ [] = sym (ap (λ o. argument_faults c.rows.table at o right) found) ∙ none' in
      let below : IsTrue (sub c.rows.table right int) = fits_sub c.rows.table right int value' refl [] (record { span = at.span; code = ArgumentType }) fits' in
      record {
        one = subst (λ (t : Ty). IsTrue (sub c.rows.table t int)) (sym same) (sub_itself c laws int);
        other = below;
        gives = ap (λ o. result_type c.rows.table left o right) found ∙ ap (λ b. cond b result invalid) below;
      }

  pub add_operates : receiver_faults c.rows.table span left Add ≡ [] → argument_faults c.rows.table at (operation_of c.rows.table left Add) right ≡ [] → Operates c left right (result_type c.rows.table left (operation_of c.rows.table left Add) right) int
  add_operates = int_operates Add int refl

  pub less_operates : receiver_faults c.rows.table span left Less ≡ [] → argument_faults c.rows.table at (operation_of c.rows.table left Less) right ≡ [] → Operates c left right (result_type c.rows.table left (operation_of c.rows.table left Less) right) bool
  less_operates = int_operates Less bool refl
