-- A number that falls from the two sides of each rule to those of its premises, so that no derivation is higher.
use Rattle.std.specs.Prelude.{ℕ, ◌+◌, ◌*◌, max, List, [], ◌∷◌, Option, Some, None}
use Rattle.std.proofs.Common.{zero, suc}
use Rattle.dart_types.specs.Ty.{Ty, Types, Named, invalid, never, void, null, interface, function, variable, promoted, nullable, no_more, more, no_named, more_named}
use Rattle.dart_types.specs.Tables.{Table, bound_of, depth_of}
use Rattle.dart_types.specs.declared.ids.VarId.{VarId}
use Rattle.dart_types.specs.declared.class_rows.ClassRow.{ClassRow}

-- a number for each variable
abbrev pub VarMeasure : Type 0
VarMeasure = VarId → ℕ

abbrev mutual
  -- the nodes of a type, where each variable counts as said, and the parts of a function type count twice
  pub weight : VarMeasure → Ty → ℕ
  weight f invalid = 1
  weight f never = 1
  weight f void = 5
  weight f null = 1
  weight f (interface c ts) = weights f ts + 1
  weight f (function r o n e) = 2 * (weights f r + (weights f o + (weights_named f n + weight f e))) + 1
  weight f (variable x) = f x + 1
  weight f (promoted x t) = f x + weight f t + 2
  weight f (nullable t) = weight f t + 2

  pub weights : VarMeasure → Types → ℕ
  weights f no_more = 0
  weights f (more t ts) = weight f t + weights f ts

  pub weights_named : VarMeasure → Named → ℕ
  weights_named f no_named = 0
  weights_named f (more_named n r t ts) = weight f t + weights_named f ts

abbrev mutual
  -- how deep a type is, where a function type counts by its result alone
  pub deep : VarMeasure → Ty → ℕ
  deep f invalid = 1
  deep f never = 1
  deep f void = 5
  deep f null = 1
  deep f (interface c ts) = deeps f ts + 1
  deep f (function r o n e) = deep f e + 1
  deep f (variable x) = f x + 1
  deep f (promoted x t) = f x + deep f t + 2
  deep f (nullable t) = deep f t + 2

  pub deeps : VarMeasure → Types → ℕ
  deeps f no_more = 0
  deeps f (more t ts) = max (deep f t) (deeps f ts)

abbrev mutual
  -- the weight of the heaviest function type in a type, where w is the weight of variables, and f that of the function types in their bounds
  pub heavy : VarMeasure → VarMeasure → Ty → ℕ
  heavy w f invalid = 0
  heavy w f never = 0
  heavy w f void = 0
  heavy w f null = 0
  heavy w f (interface c ts) = heavies w f ts
  heavy w f (function r o n e) = weight w (function r o n e)
  heavy w f (variable x) = f x
  heavy w f (promoted x t) = max (f x) (heavy w f t)
  heavy w f (nullable t) = heavy w f t

  pub heavies : VarMeasure → VarMeasure → Types → ℕ
  heavies w f no_more = 0
  heavies w f (more t ts) = max (heavy w f t) (heavies w f ts)

-- what a measure gives a bound, if there is one
abbrev pub of_bound : (Ty → ℕ) → Option Ty → ℕ
of_bound m None = 0
of_bound m (Some b) = m b

-- a measure of a variable by its bound, whose variables are measured by theirs, so many times over
abbrev pub by_bounds : (VarMeasure → Ty → ℕ) → Table → ℕ → VarId → ℕ
by_bounds m table zero x = 0
by_bounds m table (suc n) x = of_bound (m (by_bounds m table n)) (bound_of table x)

-- a measure of a variable by its bound: as bounds mention earlier variables alone, its index is often enough
abbrev pub of_var : (VarMeasure → Ty → ℕ) → Table → VarId → ℕ
of_var m table x = by_bounds m table (suc x.index) x

-- the nodes of a type and of the bounds of its variables
unfoldable pub weight_of : Table → Ty → ℕ
weight_of table t = weight (of_var weight table) t

-- how deep a type is, through the bounds of its variables
unfoldable pub deepness_of : Table → Ty → ℕ
deepness_of table t = deep (of_var deep table) t

-- the weight of the heaviest function type that can be reached from a type by its parts, bounds and supertypes
unfoldable pub heaviest_of : Table → Ty → ℕ
heaviest_of table t = heavy (of_var weight table) (of_var (heavy (of_var weight table)) table) t

-- the greatest depth of a class
abbrev pub tallest_of : List ClassRow → ℕ
tallest_of [] = 0
tallest_of (row ∷ rows) = max row.depth (tallest_of rows)

-- the most that a measure gives a list of types
abbrev pub most_of : (Ty → ℕ) → List Ty → ℕ
most_of m [] = 0
most_of m (t ∷ ts) = max (m t) (most_of m ts)

-- how deep the deepest direct supertype is
abbrev pub deepest_of : List ClassRow → ℕ
deepest_of [] = 0
deepest_of (row ∷ rows) = max (most_of (deep (λ x. 0)) row.supers) (deepest_of rows)

-- how far it is up from an interface to Object, and the most that there is from any other type
abbrev pub rank_of : Table → Ty → ℕ
rank_of table invalid = tallest_of table.classes
rank_of table never = tallest_of table.classes
rank_of table void = tallest_of table.classes
rank_of table null = tallest_of table.classes
rank_of table (interface c ts) = depth_of table c
rank_of table (function r o n e) = tallest_of table.classes
rank_of table (variable x) = tallest_of table.classes
rank_of table (promoted x t) = tallest_of table.classes
rank_of table (nullable t) = tallest_of table.classes

-- one step up makes a type at most so much deeper
unfoldable pub step_of : Table → ℕ
step_of table = deepest_of table.classes + 1

-- the most that lies above a type by ranks
unfoldable pub ranks_of : Table → ℕ
ranks_of table = tallest_of table.classes * step_of table + 1

-- the measure of s <: t
unfoldable pub measure : Table → Ty → Ty → ℕ
measure table s t =
    (heaviest_of table s + weight_of table t) * ranks_of table + (deepness_of table s + rank_of table s * step_of table)
