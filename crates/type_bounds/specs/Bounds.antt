-- Upper and lower bounds, the "standard upper bounds and standard lower bounds" of Dart: a constructor is a form that a row of the tables speaks of, and the first row that fits is taken.
use Rattle.std.specs.Prelude.{◌≡◌, ◌≢◌, ℕ, Bool, true, false, ◌&&◌, ◌||◌, List, Some, None, bytes_eq}
use Rattle.dart_types.specs.Ty.{Ty, Types, Named, invalid, never, void, null, interface, function, variable, promoted, nullable, no_more, more, no_named, more_named, count}
use Rattle.dart_types.specs.Named.{type_named}
use Rattle.dart_types.specs.Heads.{object}
use Rattle.dart_types.specs.Marks.{is_marked}
use Rattle.dart_types.specs.Normal.{nullable_of}
use Rattle.dart_types.specs.Same.{same_class, same_var}
use Rattle.dart_types.specs.Sub.{Sub, is_required}
use Rattle.dart_types.specs.SubTest.{is_null}
use Rattle.dart_types.specs.Tables.{Table, class_of, bound_of}
use Rattle.dart_types.specs.WellFormed.{HasArguments}
use Rattle.dart_types.specs.declared.ids.ClassId.{ClassId}
use Rattle.dart_types.specs.declared.ids.VarId.{VarId}
use Rattle.dart_types.specs.declared.ids.TheConstants.{FUNCTION}
use Rattle.type_bounds.specs.Signatures.{have_upper, have_lower}
use Rattle.type_bounds.specs.Common.{IsDeepest}

-- neither is a subtype of the other
abbrev pub AreApart : Table → Ty → Ty → Type 0
AreApart table s t = (Sub table s t → ⊥) × (Sub table t s → ⊥)

-- a type without its `?`, if it has one
abbrev pub bare_of : Ty → Ty
bare_of invalid = invalid
bare_of never = never
bare_of void = void
bare_of null = null
bare_of (interface c ts) = interface c ts
bare_of (function r o n e) = function r o n e
bare_of (variable x) = variable x
bare_of (promoted x t) = promoted x t
bare_of (nullable t) = t

-- the type is neither `Null` nor one with `?`
abbrev pub is_bare : Ty → Bool
is_bare invalid = true
is_bare never = true
is_bare void = true
is_bare null = false
is_bare (interface c ts) = true
is_bare (function r o n e) = true
is_bare (variable x) = true
is_bare (promoted x t) = true
is_bare (nullable t) = false

-- the type is `X & U`, of this X
abbrev pub is_promoted_from : VarId → Ty → Bool
is_promoted_from x invalid = false
is_promoted_from x never = false
is_promoted_from x void = false
is_promoted_from x null = false
is_promoted_from x (interface c ts) = false
is_promoted_from x (function r o n e) = false
is_promoted_from x (variable y) = false
is_promoted_from x (promoted y t) = same_var x y
is_promoted_from x (nullable t) = false

-- the type is bare, and no variable, promoted or not
abbrev pub is_settled : Ty → Bool
is_settled invalid = true
is_settled never = true
is_settled void = true
is_settled null = false
is_settled (interface c ts) = true
is_settled (function r o n e) = true
is_settled (variable x) = false
is_settled (promoted x t) = false
is_settled (nullable t) = false

-- both are function types
abbrev pub are_functions : Ty → Ty → Bool
are_functions (function r o n e) (function r' o' n' e') = true
are_functions _ _ = false

mutual
  -- u is the upper bound of s and t
  pub data Upper (table : Table) : (s t u : Ty) → Type 0 where
    -- the left type is a subtype of the right one, which is the bound
    right_above : {s t : Ty} → Sub table s t → Upper table s t t
    -- the right one is a subtype of the left one
    left_above : {s t : Ty} → (Sub table s t → ⊥) → Sub table t s → Upper table s t s
    -- neither is one of the other
    upper_apart : {s t u : Ty} → AreApart table s t → UpperApart table s t u → Upper table s t u

  -- u is the upper bound of s and t, of which neither is a subtype of the other
  pub data UpperApart (table : Table) : (s t u : Ty) → Type 0 where
    -- `Null` with a type: that with `?`
    null_left : {t : Ty} → UpperApart table null t (nullable_of t)
    null_right : {s : Ty} → UpperApart table s null (nullable_of s)
    -- a `?` on either side: the bound of the bare types with `?`
    marked_either : {s t u : Ty} → is_null s ≡ false → is_null t ≡ false → (is_marked s || is_marked t) ≡ true → Upper table (bare_of s) (bare_of t) u → UpperApart table s t (nullable_of u)
    -- a variable that is promoted to two types: the variable
    promoted_twice : {x y : VarId} {u v : Ty} → same_var x y ≡ true → UpperApart table (promoted x u) (promoted y v) (variable x)
    -- a variable gives way to its bound, a promoted one to the type that it is promoted to, on the left side first
    variable_left : {x : VarId} {b t u : Ty} → is_bare t ≡ true → bound_of table x ≡ Some b → Upper table b t u → UpperApart table (variable x) t u
    promoted_left : {x : VarId} {v t u : Ty} → is_bare t ≡ true → is_promoted_from x t ≡ false → Upper table v t u → UpperApart table (promoted x v) t u
    variable_right : {y : VarId} {b s u : Ty} → is_settled s ≡ true → bound_of table y ≡ Some b → Upper table s b u → UpperApart table s (variable y) u
    promoted_right : {y : VarId} {v s u : Ty} → is_settled s ≡ true → Upper table s v u → UpperApart table s (promoted y v) u
    -- two function types that have one as their bound: the lower bounds of the parameters that both have, and the upper bound of the results
    upper_functions : {r o r' o' : Types} {n n' : Named} {e e' : Ty} {r'' o'' : Types} {n'' : Named} {e'' : Ty} → have_upper r o n r' o' n' ≡ true →
        LowerParams table r r' r'' → LowerParams table o o' o'' → LowerNamed table n n' n'' → Upper table e e' e'' → UpperApart table (function r o n e) (function r' o' n' e') (function r'' o'' n'' e'')
    -- other function types: `Function`
    upper_of_others : {r o r' o' : Types} {n n' : Named} {e e' : Ty} → have_upper r o n r' o' n' ≡ false → UpperApart table (function r o n e) (function r' o' n' e') (interface FUNCTION no_more)
    -- a function type and a class: `Object`
    function_and_class : {r o : Types} {n : Named} {e : Ty} {c : ClassId} {ts : Types} → UpperApart table (function r o n e) (interface c ts) object
    class_and_function : {r o : Types} {n : Named} {e : Ty} {c : ClassId} {ts : Types} → UpperApart table (interface c ts) (function r o n e) object
    -- one class: the upper bounds of the arguments
    one_class : {c d : ClassId} {ss ts us : Types} → same_class c d ≡ true → Uppers table ss ts us → UpperApart table (interface c ss) (interface d ts) (interface c us)
    -- two classes: the deepest superinterface of both
    two_classes : {c d : ClassId} {ss ts : Types} {u : Ty} → same_class c d ≡ false → IsDeepest table c ss d ts u → UpperApart table (interface c ss) (interface d ts) u
    -- what no row is about has the bound `Invalid`: a variable without a bound, `Invalid` itself, a class with two numbers of arguments, and classes of which one has no row with as many parameters
    unbound_left : {x : VarId} {t : Ty} → is_bare t ≡ true → bound_of table x ≡ None → UpperApart table (variable x) t invalid
    unbound_right : {y : VarId} {s : Ty} → is_settled s ≡ true → bound_of table y ≡ None → UpperApart table s (variable y) invalid
    invalid_left : {t : Ty} → is_settled t ≡ true → UpperApart table invalid t invalid
    invalid_right : {s : Ty} → is_settled s ≡ true → UpperApart table s invalid invalid
    other_arguments : {c d : ClassId} {ss ts : Types} → same_class c d ≡ true → count ss ≢ count ts → UpperApart table (interface c ss) (interface d ts) invalid
    unknown_class : {c d : ClassId} {ss ts : Types} → same_class c d ≡ false → (HasArguments (class_of table c) ss → HasArguments (class_of table d) ts → ⊥) → UpperApart table (interface c ss) (interface d ts) invalid

  -- the upper bounds of types at the same places of two lists that are as long
  pub data Uppers (table : Table) : (ss ts us : Types) → Type 0 where
    no_upper : Uppers table no_more no_more no_more
    one_upper : {s t u : Ty} {ss ts us : Types} → Upper table s t u → Uppers table ss ts us → Uppers table (more s ss) (more t ts) (more u us)

  -- the named parameters of two lists that have the same names in the same order, with upper bounds; one is required where both require it
  pub data UpperNamed (table : Table) : (ns ms us : Named) → Type 0 where
    no_upper_name : UpperNamed table no_named no_named no_named
    upper_name : {n m : List ℕ} {r q : Bool} {s t u : Ty} {ns ms us : Named} → bytes_eq n m ≡ true → Upper table s t u → UpperNamed table ns ms us → UpperNamed table (more_named n r s ns) (more_named m q t ms) (more_named n (r && q) u us)

  -- u is the lower bound of s and t
  pub data Lower (table : Table) : (s t u : Ty) → Type 0 where
    -- the left type is a subtype of the right one, and is the bound
    left_below : {s t : Ty} → Sub table s t → Lower table s t s
    -- the right one is a subtype of the left one
    right_below : {s t : Ty} → (Sub table s t → ⊥) → Sub table t s → Lower table s t t
    -- neither is one of the other
    lower_apart : {s t u : Ty} → AreApart table s t → LowerApart table s t u → Lower table s t u

  -- u is the lower bound of s and t, of which neither is a subtype of the other
  pub data LowerApart (table : Table) : (s t u : Ty) → Type 0 where
    -- two with `?`: the bound of the bare types with `?`
    marked_both : {s t u : Ty} → Lower table s t u → LowerApart table (nullable s) (nullable t) (nullable_of u)
    -- one with `?`: the bound of the bare types
    marked_once : {s t u : Ty} → (is_marked s && is_marked t) ≡ false → (is_marked s || is_marked t) ≡ true → Lower table (bare_of s) (bare_of t) u → LowerApart table s t u
    -- two function types that have one as their bound: the upper bounds of the parameters, and the lower bound of the results
    lower_functions : {r o r' o' : Types} {n n' : Named} {e e' : Ty} {r'' o'' : Types} {n'' : Named} {e'' : Ty} → have_lower r o n r' o' n' ≡ true →
        Uppers table r r' r'' → Uppers table o o' o'' → UpperNamed table n n' n'' → Lower table e e' e'' → LowerApart table (function r o n e) (function r' o' n' e') (function r'' o'' n'' e'')
    -- other function types: `Never`
    lower_of_others : {r o r' o' : Types} {n n' : Named} {e e' : Ty} → have_lower r o n r' o' n' ≡ false → LowerApart table (function r o n e) (function r' o' n' e') never
    -- and so all else
    nothing_below : {s t : Ty} → (is_marked s || is_marked t) ≡ false → are_functions s t ≡ false → LowerApart table s t never

  -- the lower bounds of types at the same places of two lists, as far as both go
  pub data LowerParams (table : Table) : (ss ts us : Types) → Type 0 where
    left_ends : {ts : Types} → LowerParams table no_more ts no_more
    right_ends : {s : Ty} {ss : Types} → LowerParams table (more s ss) no_more no_more
    one_lower : {s t u : Ty} {ss ts us : Types} → Lower table s t u → LowerParams table ss ts us → LowerParams table (more s ss) (more t ts) (more u us)

  -- the named parameters of the first list that the second has too, with lower bounds; one is required where either requires it
  pub data LowerNamed (table : Table) : (ns ms us : Named) → Type 0 where
    no_lower_name : {ms : Named} → LowerNamed table no_named ms no_named
    lower_name : {n : List ℕ} {r : Bool} {s t u : Ty} {ns ms us : Named} → type_named ms n ≡ Some t → Lower table s t u → LowerNamed table ns ms us → LowerNamed table (more_named n r s ns) ms (more_named n (r || is_required ms n) u us)
    other_name : {n : List ℕ} {r : Bool} {s : Ty} {ns ms us : Named} → type_named ms n ≡ None → LowerNamed table ns ms us → LowerNamed table (more_named n r s ns) ms us
