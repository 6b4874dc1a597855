-- Upper and lower bounds as functions, for definitions that compute: the rows of both tables, in their order.
use Rattle.std.specs.Prelude.{ℕ, ◌+◌, ◌&&◌, ◌||◌, nat_eq, unwrap_or, if◌then◌else◌}
use Rattle.std.specs.Option.{option_map_or}
use Rattle.std.proofs.Common.{zero, suc}
use Rattle.dart_types.specs.Ty.{Ty, Types, Named, invalid, never, void, null, interface, function, variable, promoted, nullable, no_more, more, no_named, more_named, count}
use Rattle.dart_types.specs.Named.{type_named}
use Rattle.dart_types.specs.Heads.{object}
use Rattle.dart_types.specs.Marks.{is_marked}
use Rattle.dart_types.specs.Measure.{weight_of}
use Rattle.dart_types.specs.Normal.{nullable_of}
use Rattle.dart_types.specs.Same.{same_class}
use Rattle.dart_types.specs.Sub.{is_required}
use Rattle.dart_types.specs.SubTest.{sub, is_null}
use Rattle.dart_types.specs.Tables.{Table, bound_of}
use Rattle.dart_types.specs.declared.ids.ClassId.{ClassId}
use Rattle.dart_types.specs.declared.ids.VarId.{VarId}
use Rattle.dart_types.specs.declared.ids.TheConstants.{FUNCTION}
use Rattle.type_bounds.specs.Bounds.{bare_of, is_promoted_from}
use Rattle.type_bounds.specs.CommonOf.{deepest_of}
use Rattle.type_bounds.specs.Signatures.{have_upper, have_lower}

-- the bounds of types at the same places of two lists, as far as both go
abbrev pub each_bound : (Ty → Ty → Ty) → Types → Types → Types
each_bound bound no_more ts = no_more
each_bound bound (more s ss) no_more = no_more
each_bound bound (more s ss) (more t ts) = more (bound s t) (each_bound bound ss ts)

-- the named parameters of two lists with the same names, with bounds; one is required where both require it
abbrev pub each_name : (Ty → Ty → Ty) → Named → Named → Named
each_name bound no_named ms = no_named
each_name bound (more_named n r s ns) no_named = no_named
each_name bound (more_named n r s ns) (more_named m q t ms) = more_named n (r && q) (bound s t) (each_name bound ns ms)

-- the named parameters of the first list that the second has too, with bounds; one is required where either requires it
abbrev pub common_names : (Ty → Ty → Ty) → Named → Named → Named
common_names bound no_named ms = no_named
common_names bound (more_named n r s ns) ms =
    option_map_or (λ t. more_named n (r || is_required ms n) (bound s t) (common_names bound ns ms)) (type_named ms n) (common_names bound ns ms)

-- One row of a table asks for the bounds of lighter types, `upper` and `lower`.
module _ (table : Table) (upper lower : Ty → Ty → Ty) where
  -- a variable gives way to its bound; without a bound it has none
  abbrev pub by_bound : VarId → (Ty → Ty) → Ty
  by_bound x of_bound = option_map_or of_bound (bound_of table x) invalid

  -- two classes: one class with the upper bounds of the arguments, else the deepest superinterface of both
  abbrev pub upper_of_classes : ClassId → Types → ClassId → Types → Ty
  upper_of_classes c ss d ts =
      if same_class c d
      then (if nat_eq (count ss) (count ts) then interface c (each_bound upper ss ts) else invalid)
      else unwrap_or (deepest_of table c ss d ts) invalid

  -- two function types: one with the lower bounds of the parameters and the upper bound of the results, else `Function`
  abbrev pub upper_of_functions : (r o : Types) (n : Named) (e : Ty) (r' o' : Types) (n' : Named) (e' : Ty) → Ty
  upper_of_functions r o n e r' o' n' e' =
      if have_upper r o n r' o' n'
      then function (each_bound lower r r') (each_bound lower o o') (common_names lower n n') (upper e e')
      else interface FUNCTION no_more

  -- a class with a type that is bare and no variable; no row is about others than a class and a function type
  abbrev pub upper_of_class : ClassId → Types → Ty → Ty
  upper_of_class c ss invalid = invalid
  upper_of_class c ss never = invalid
  upper_of_class c ss void = invalid
  upper_of_class c ss null = invalid
  upper_of_class c ss (interface d ts) = upper_of_classes c ss d ts
  upper_of_class c ss (function r o n e) = object
  upper_of_class c ss (variable y) = invalid
  upper_of_class c ss (promoted y v) = invalid
  upper_of_class c ss (nullable t) = invalid

  -- likewise a function type
  abbrev pub upper_of_function : (r o : Types) (n : Named) (e : Ty) → Ty → Ty
  upper_of_function r o n e invalid = invalid
  upper_of_function r o n e never = invalid
  upper_of_function r o n e void = invalid
  upper_of_function r o n e null = invalid
  upper_of_function r o n e (interface d ts) = object
  upper_of_function r o n e (function r' o' n' e') = upper_of_functions r o n e r' o' n' e'
  upper_of_function r o n e (variable y) = invalid
  upper_of_function r o n e (promoted y v) = invalid
  upper_of_function r o n e (nullable t) = invalid

  -- two types that are bare and no variables
  abbrev pub upper_of_settled : Ty → Ty → Ty
  upper_of_settled invalid t = invalid
  upper_of_settled never t = invalid
  upper_of_settled void t = invalid
  upper_of_settled null t = invalid
  upper_of_settled (interface c ss) t = upper_of_class c ss t
  upper_of_settled (function r o n e) t = upper_of_function r o n e t
  upper_of_settled (variable x) t = invalid
  upper_of_settled (promoted x v) t = invalid
  upper_of_settled (nullable s) t = invalid

  -- variables on the right, beside a type that is none: X gives way to its bound, and `X & U` to U
  abbrev pub upper_by_right : Ty → Ty → Ty
  upper_by_right s invalid = upper_of_settled s invalid
  upper_by_right s never = upper_of_settled s never
  upper_by_right s void = upper_of_settled s void
  upper_by_right s null = upper_of_settled s null
  upper_by_right s (interface d ts) = upper_of_settled s (interface d ts)
  upper_by_right s (function r o n e) = upper_of_settled s (function r o n e)
  upper_by_right s (variable y) = by_bound y (upper s)
  upper_by_right s (promoted y v) = upper s v
  upper_by_right s (nullable t) = upper_of_settled s (nullable t)

  -- on the left first, where `X & U` and `X & V` have the bound X
  abbrev pub upper_by_left : Ty → Ty → Ty
  upper_by_left invalid t = upper_by_right invalid t
  upper_by_left never t = upper_by_right never t
  upper_by_left void t = upper_by_right void t
  upper_by_left null t = upper_by_right null t
  upper_by_left (interface c ss) t = upper_by_right (interface c ss) t
  upper_by_left (function r o n e) t = upper_by_right (function r o n e) t
  upper_by_left (variable x) t = by_bound x (λ b. upper b t)
  upper_by_left (promoted x v) t = if is_promoted_from x t then variable x else upper v t
  upper_by_left (nullable s) t = upper_by_right (nullable s) t

  -- two types that aren't subtypes of each other: `Null` with a type, a `?` on either side, or two bare types
  abbrev pub upper_of_apart : Ty → Ty → Ty
  upper_of_apart s t =
      if is_null s then nullable_of t
      else if is_null t then nullable_of s
      else if is_marked s || is_marked t then nullable_of (upper (bare_of s) (bare_of t))
      else upper_by_left s t

  -- the upper bound: the right type or the left one where the other is a subtype of it
  abbrev pub upper_row : Ty → Ty → Ty
  upper_row s t = if sub table s t then t else if sub table t s then s else upper_of_apart s t

  -- the lower bound of two function types: one with the upper bounds of the parameters and the lower bound of the results, else `Never`
  abbrev pub lower_of_functions : (r o : Types) (n : Named) (e : Ty) (r' o' : Types) (n' : Named) (e' : Ty) → Ty
  lower_of_functions r o n e r' o' n' e' =
      if have_lower r o n r' o' n'
      then function (each_bound upper r r') (each_bound upper o o') (each_name upper n n') (lower e e')
      else never

  -- of a function type and another type, which have none but `Never`
  abbrev pub lower_of_function : (r o : Types) (n : Named) (e : Ty) → Ty → Ty
  lower_of_function r o n e invalid = never
  lower_of_function r o n e never = never
  lower_of_function r o n e void = never
  lower_of_function r o n e null = never
  lower_of_function r o n e (interface d ts) = never
  lower_of_function r o n e (function r' o' n' e') = lower_of_functions r o n e r' o' n' e'
  lower_of_function r o n e (variable y) = never
  lower_of_function r o n e (promoted y v) = never
  lower_of_function r o n e (nullable t) = never

  -- of two types without `?`, which have none but `Never`
  abbrev pub lower_of_unmarked : Ty → Ty → Ty
  lower_of_unmarked invalid t = never
  lower_of_unmarked never t = never
  lower_of_unmarked void t = never
  lower_of_unmarked null t = never
  lower_of_unmarked (interface c ss) t = never
  lower_of_unmarked (function r o n e) t = lower_of_function r o n e t
  lower_of_unmarked (variable x) t = never
  lower_of_unmarked (promoted x v) t = never
  lower_of_unmarked (nullable s) t = never

  -- of two types that aren't subtypes of each other: a `?` on both sides, or on one, or on none
  abbrev pub lower_of_apart : Ty → Ty → Ty
  lower_of_apart s t =
      if is_marked s && is_marked t then nullable_of (lower (bare_of s) (bare_of t))
      else if is_marked s || is_marked t then lower (bare_of s) (bare_of t)
      else lower_of_unmarked s t

  -- the lower bound: the left type or the right one where it is a subtype of the other
  abbrev pub lower_row : Ty → Ty → Ty
  lower_row s t = if sub table s t then s else if sub table t s then t else lower_of_apart s t

abbrev mutual
  -- the upper bound by so many rows at most, one for another
  pub upper_within : Table → ℕ → Ty → Ty → Ty
  upper_within table zero s t = invalid
  upper_within table (suc rows) s t = upper_row table (upper_within table rows) (lower_within table rows) s t

  -- and the lower bound
  pub lower_within : Table → ℕ → Ty → Ty → Ty
  lower_within table zero s t = invalid
  lower_within table (suc rows) s t = lower_row table (upper_within table rows) (lower_within table rows) s t

-- the upper bound of two types: the nodes of both, and of the bounds of their variables, are rows enough
unfoldable pub upper_of : Table → Ty → Ty → Ty
upper_of table s t = upper_within table (weight_of table s + weight_of table t) s t

-- the lower bound of two types
unfoldable pub lower_of : Table → Ty → Ty → Ty
lower_of table s t = lower_within table (weight_of table s + weight_of table t) s t
