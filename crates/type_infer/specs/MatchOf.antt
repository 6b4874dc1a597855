-- Matching as a function, for definitions that compute: which constraints a type sets on the type parameters in a formal, and how that ends.
use Rattle.std.specs.Prelude.{ℕ, nat_le, List, [], ◌∷◌, ◌++◌, Option, None, Some, if◌then◌else◌}
use Rattle.std.specs.Option.{option_map_or}
use Rattle.std.proofs.Common.{zero, suc}
use Rattle.dart_types.specs.Ty.{Ty, Types, Named, invalid, never, void, null, interface, function, variable, promoted, nullable}
use Rattle.dart_types.specs.Same.{same_class}
use Rattle.dart_types.specs.Sizes.{size_of, held}
use Rattle.dart_types.specs.Tables.{Table, bound_of}
use Rattle.dart_types.specs.declared.ids.ClassId.{ClassId}
use Rattle.dart_types.specs.declared.ids.VarId.{VarId}
use Rattle.dart_types.specs.declared.refusal.TheConstants.{NODE_LIMIT}
use Rattle.type_infer.specs.AboveOf.{only_above}
use Rattle.type_infer.specs.Holding.{holds_param}
use Rattle.type_infer.specs.Matching.{End, matched, mismatched, too_large, ended, is_on_side, gives_way_at_mark}
use Rattle.type_infer.specs.Open.{is_open}
use Rattle.type_infer.specs.Pairs.{Pair, paired, parts_of, signatures_fit}
use Rattle.type_infer.specs.SideMeasure.{side_measure}
use Rattle.type_infer.specs.declared.constraints.Constraint.{Constraint}
use Rattle.type_infer.specs.declared.constraints.Side.{Side}
use Rattle.type_infer.specs.declared.constraints.Side.TheVariants.{AtLeast, AtMost}

-- the constraints that are set, in their order, and how matching ends
pub record Found : Type 0 where
  pub constraints : List Constraint
  pub end : End

-- nothing is set, and matching ends so
abbrev pub sets_nothing : End → Found
sets_nothing end = record { constraints = []; end = end }

-- these are set first, and then what is set behind them, where the types fit that set them
abbrev pub sets_then : List Constraint → End → Found → Found
sets_then cs matched rest = record { constraints = cs ++ rest.constraints; end = rest.end }
sets_then cs mismatched rest = record { constraints = cs; end = mismatched }
sets_then cs (too_large nodes) rest = record { constraints = cs; end = too_large nodes }

-- One rule asks what parts of the types set on each other, `face`.
module _ (table : Table) (params : List VarId) (face : Side → Ty → Ty → Found) where
  -- a formal in which no parameter stands fits by subtyping; any other goes by what it faces
  abbrev pub match_by : Side → Ty → Ty → Found
  match_by side t s = if holds_param params t then face side t s else sets_nothing (ended (is_on_side table side t s))

  -- pairs go in their order, as far as they match; a part that is open counts as none
  abbrev pub match_all_by : List Pair → Found
  match_all_by [] = sets_nothing matched
  match_all_by (p ∷ ps) =
      if is_open p.other then match_all_by ps
      else sets_then (match_by p.side p.formal p.other).constraints (match_by p.side p.formal p.other).end (match_all_by ps)

  -- a parameter is at least, or at most, the type that it faces, but for an open one
  abbrev pub constrains : Side → VarId → Ty → Found
  constrains side x s = if is_open s then sets_nothing matched else record { constraints = record { param = x; side = side; ty = s } ∷ []; end = matched }

  -- a subtype that is a variable gives way to its bound, if it has one, and `X & U` to U, and a supertype with `?` to its bare type; for any other it is as said
  abbrev pub gives_way : Side → Ty → Ty → Found → Found
  gives_way side t invalid stands = stands
  gives_way side t never stands = stands
  gives_way side t void stands = stands
  gives_way side t null stands = stands
  gives_way side t (interface d ss) stands = stands
  gives_way side t (function r o n e) stands = stands
  gives_way AtLeast t (variable y) stands = option_map_or (face AtLeast t) (bound_of table y) (sets_nothing mismatched)
  gives_way AtMost t (variable y) stands = stands
  gives_way AtLeast t (promoted y u) stands = face AtLeast t u
  gives_way AtMost t (promoted y u) stands = stands
  gives_way AtLeast t (nullable u) stands = stands
  gives_way AtMost t (nullable u) stands = face AtMost t u

  -- `T?` with a type: Null sets nothing, `U?` is taken as U, and any other stands, or gives way first as it does to T
  abbrev pub face_of_marked : Side → Ty → Ty → Found
  face_of_marked side t invalid = face side t invalid
  face_of_marked side t never = face side t never
  face_of_marked side t void = face side t void
  face_of_marked side t null = sets_nothing matched
  face_of_marked side t (interface d ss) = face side t (interface d ss)
  face_of_marked side t (function r o n e) = face side t (function r o n e)
  face_of_marked side t (variable y) = if gives_way_at_mark side t then gives_way side (nullable t) (variable y) (sets_nothing mismatched) else face side t (variable y)
  face_of_marked side t (promoted y u) = if gives_way_at_mark side t then gives_way side (nullable t) (promoted y u) (sets_nothing mismatched) else face side t (promoted y u)
  face_of_marked side t (nullable u) = if gives_way_at_mark side t then face side (nullable t) u else face side t u

  -- types that have no parts to compare fit by subtyping
  abbrev pub as_they_stand : Side → Ty → Ty → Found
  as_they_stand side t s = sets_nothing (ended (is_on_side table side t s))

  -- a class with the only superinterface of the other that is of it, if there is one: its arguments, unless it has too many nodes
  abbrev pub face_of_above : ClassId → (Types → List Pair) → Found → Option Types → Found
  face_of_above c pairs elsewhere None = elsewhere
  face_of_above c pairs elsewhere (Some us) =
      if nat_le (size_of (interface c us)) NODE_LIMIT then match_all_by (pairs us) else sets_nothing (too_large (held (size_of (interface c us))))

  -- two classes: one class goes argument by argument, another by the superinterface of the subtype that is of the class of the supertype
  abbrev pub face_of_other_class : Side → ClassId → Types → ClassId → Types → Found
  face_of_other_class AtLeast c ts d ss =
      face_of_above c (paired AtLeast ts) (as_they_stand AtLeast (interface c ts) (interface d ss)) (only_above table d ss c)
  face_of_other_class AtMost c ts d ss =
      face_of_above d (λ us. paired AtMost us ss) (as_they_stand AtMost (interface c ts) (interface d ss)) (only_above table c ts d)

  abbrev pub face_of_classes : Side → ClassId → Types → ClassId → Types → Found
  face_of_classes side c ts d ss = if same_class c d then match_all_by (paired side ts ss) else face_of_other_class side c ts d ss

  -- a class with another type that stands
  abbrev pub face_of_class : Side → ClassId → Types → Ty → Found
  face_of_class side c ts invalid = as_they_stand side (interface c ts) invalid
  face_of_class side c ts never = as_they_stand side (interface c ts) never
  face_of_class side c ts void = as_they_stand side (interface c ts) void
  face_of_class side c ts null = as_they_stand side (interface c ts) null
  face_of_class side c ts (interface d ss) = face_of_classes side c ts d ss
  face_of_class side c ts (function r o n e) = as_they_stand side (interface c ts) (function r o n e)
  face_of_class side c ts (variable y) = as_they_stand side (interface c ts) (variable y)
  face_of_class side c ts (promoted y u) = as_they_stand side (interface c ts) (promoted y u)
  face_of_class side c ts (nullable u) = as_they_stand side (interface c ts) (nullable u)

  -- two function types: part by part, where their signatures fit
  abbrev pub face_of_functions : Side → (r o : Types) (n : Named) (e : Ty) (r' o' : Types) (n' : Named) (e' : Ty) → Found
  face_of_functions side r o n e r' o' n' e' =
      if signatures_fit side r o n r' o' n' then match_all_by (parts_of side r o n e r' o' n' e') else sets_nothing mismatched

  -- a function type with another type that stands
  abbrev pub face_of_function : Side → (r o : Types) (n : Named) (e : Ty) → Ty → Found
  face_of_function side r o n e invalid = as_they_stand side (function r o n e) invalid
  face_of_function side r o n e never = as_they_stand side (function r o n e) never
  face_of_function side r o n e void = as_they_stand side (function r o n e) void
  face_of_function side r o n e null = as_they_stand side (function r o n e) null
  face_of_function side r o n e (interface d ss) = as_they_stand side (function r o n e) (interface d ss)
  face_of_function side r o n e (function r' o' n' e') = face_of_functions side r o n e r' o' n' e'
  face_of_function side r o n e (variable y) = as_they_stand side (function r o n e) (variable y)
  face_of_function side r o n e (promoted y u) = as_they_stand side (function r o n e) (promoted y u)
  face_of_function side r o n e (nullable u) = as_they_stand side (function r o n e) (nullable u)

  -- a formal in which a parameter stands: a parameter itself, `T?`, a class or a function type; in no other form it does, and `X & U` has no parts
  abbrev pub face_row : Side → Ty → Ty → Found
  face_row side invalid s = as_they_stand side invalid s
  face_row side never s = as_they_stand side never s
  face_row side void s = as_they_stand side void s
  face_row side null s = as_they_stand side null s
  face_row side (interface c ts) s = gives_way side (interface c ts) s (face_of_class side c ts s)
  face_row side (function r o n e) s = gives_way side (function r o n e) s (face_of_function side r o n e s)
  face_row side (variable x) s = constrains side x s
  face_row side (promoted x t) s = as_they_stand side (promoted x t) s
  face_row side (nullable t) s = face_of_marked side t s

-- what a formal in which a parameter stands sets, by so many rules at most, one for another
abbrev pub face_within : Table → List VarId → ℕ → Side → Ty → Ty → Found
face_within table params zero side t s = sets_nothing mismatched
face_within table params (suc rules) side t s = face_row table params (face_within table params rules) side t s

-- what a formal and another type set: as many rules are enough as the test takes whether one is a subtype of the other
unfoldable pub match_of : Table → List VarId → Side → Ty → Ty → Found
match_of table params side t s = match_by table params (face_within table params (suc (side_measure table side t s))) side t s
