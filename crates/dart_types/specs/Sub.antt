-- Subtyping: the rules of the language specification, "Subtypes", as a relation. One constructor is one rule.
use Rattle.std.specs.Prelude.{◌≡◌, ◌≤◌, ℕ, Bool, true, false, ◌&&◌, ◌||◌, List, length, Some, bytes_eq, if◌then◌else◌}
use Rattle.dart_types.specs.Ty.{Ty, Types, Named, never, void, null, interface, function, variable, promoted, nullable, no_more, more, no_named, more_named, count, join}
use Rattle.dart_types.specs.Heads.{object, is_object, is_function_class, is_top, is_plain}
use Rattle.dart_types.specs.Substitution.{put_all, by_params}
use Rattle.dart_types.specs.Tables.{Table, class_of, bound_of}
use Rattle.dart_types.specs.Superinterfaces.{Keeps}
use Rattle.dart_types.specs.declared.ids.ClassId.{ClassId}
use Rattle.dart_types.specs.declared.ids.VarId.{VarId}
use Rattle.dart_types.specs.declared.class_rows.ClassRow.{ClassRow}

-- the list has a named parameter of this name and this type
pub data HasNamed : Named → List ℕ → Ty → Type 0 where
  first : {n : List ℕ} {r : Bool} {t : Ty} {rest : Named} → HasNamed (more_named n r t rest) n t
  later : {n m : List ℕ} {r : Bool} {t u : Ty} {rest : Named} → HasNamed rest m t → HasNamed (more_named n r u rest) m t

-- whether a named parameter of this name is required
abbrev pub is_required : Named → List ℕ → Bool
is_required no_named m = false
is_required (more_named n r t rest) m = (bytes_eq n m && r) || is_required rest m

-- whether each parameter that the first list requires is required by the second
abbrev pub required_in : Named → Named → Bool
required_in no_named ts = true
required_in (more_named n r t rest) ts = (if r then is_required ts n else true) && required_in rest ts

mutual
  -- s is a subtype of t. Only the rules that speak of every type speak of the invalid type
  pub data Sub (table : Table) : Ty → Ty → Type 0 where
    -- reflexivity: a type is a subtype of itself
    reflexivity : {t : Ty} → Sub table t t
    -- a top type on the right: `Object?` or `void`
    right_top : {s t : Ty} → is_top t ≡ true → Sub table s t
    -- the bottom type on the left: `Never`
    left_bottom : {t : Ty} → Sub table never t
    -- `Null` on the left, and a nullable type on the right
    left_null : {u : Ty} → Sub table null (nullable u)
    -- `Object` on the right, and an interface or a function type on the left
    right_object : {s t : Ty} → is_object t ≡ true → is_plain s ≡ true → Sub table s t
    -- a nullable type on the left: its bare type and Null are subtypes
    left_nullable : {u t : Ty} → Sub table u t → Sub table null t → Sub table (nullable u) t
    -- a nullable type on the right: s is a subtype of its bare type
    right_nullable : {s u : Ty} → Sub table s u → Sub table s (nullable u)
    -- a promoted variable on the left, by the variable
    left_promoted_variable : {x : VarId} {u t : Ty} → Sub table (variable x) t → Sub table (promoted x u) t
    -- a promoted variable on the left, by the type that it is promoted to
    left_promoted_type : {x : VarId} {u t : Ty} → Sub table u t → Sub table (promoted x u) t
    -- a promoted variable on the right: s is a subtype of the variable and of the type that it is promoted to
    right_promoted : {x : VarId} {s u : Ty} → Sub table s (variable x) → Sub table s u → Sub table s (promoted x u)
    -- a type variable on the left, by its bound
    left_variable_bound : {x : VarId} {t : Ty} → (b : Ty) → bound_of table x ≡ Some b → Sub table b t → Sub table (variable x) t
    -- interface compositionality, one class on both sides: the arguments are subtypes, pair by pair
    interface_arguments : {c : ClassId} {ss ts : Types} → Subs table ss ts → Sub table (interface c ss) (interface c ts)
    -- super-interface, an interface on the left and one of another class on the right: by a superinterface of that class which its class, that has as many parameters, keeps: with the arguments put in its arguments are subtypes, pair by pair
    super_interface : {c d : ClassId} {ss us ts : Types} → (row : ClassRow) → class_of table c ≡ Some row → count ss ≡ length row.params → Keeps table c (interface d us) → Subs table (put_all (by_params row.params ss) us) ts → Sub table (interface c ss) (interface d ts)
    -- a function type on the left, and `Function` on the right
    function_class : {r o : Types} {n : Named} {e t : Ty} → is_function_class t ≡ true → Sub table (function r o n e) t
    -- positional and named function types, on both sides: the left one requires no more positional parameters and takes at least as many, has each named one of the right, and requires none that the right doesn't require; its parameters are supertypes, and its result is a subtype
    function_types : {r o r' o' : Types} {n n' : Named} {e e' : Ty} → count r ≤ count r' → SubParams table (join r' o') (join r o) → SubNamed table n' n → required_in n n' ≡ true → Sub table e e' → Sub table (function r o n e) (function r' o' n' e')
    -- the top type `void` on the left: `Object?` is a subtype
    left_top : {t : Ty} → Sub table (nullable object) t → Sub table void t

  -- each type of the first list is a subtype of that at its place in the second, which is as long
  pub data Subs (table : Table) : Types → Types → Type 0 where
    none_left : Subs table no_more no_more
    one_left : {s t : Ty} {ss ts : Types} → Sub table s t → Subs table ss ts → Subs table (more s ss) (more t ts)

  -- each type of the first list is a subtype of that at its place in the second, which may go on
  pub data SubParams (table : Table) : Types → Types → Type 0 where
    no_param : {ss : Types} → SubParams table no_more ss
    one_param : {t s : Ty} {ts ss : Types} → Sub table t s → SubParams table ts ss → SubParams table (more t ts) (more s ss)

  -- each named parameter of the first list has one of its name in the second, and its type is a subtype of the type of that
  pub data SubNamed (table : Table) : Named → Named → Type 0 where
    no_name : {ss : Named} → SubNamed table no_named ss
    one_name : {m : List ℕ} {r : Bool} {t : Ty} {ts ss : Named} → (s : Ty) → HasNamed ss m s → Sub table t s → SubNamed table ts ss → SubNamed table (more_named m r t ts) ss
