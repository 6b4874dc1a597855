-- The superinterfaces that two interfaces have in common, for definitions that compute.
use Rattle.std.specs.Prelude.{Bool, ◌||◌, not, nat_eq, nat_lt, List, [], ◌∷◌, length, map, filter, Option, None, Some, if◌then◌else◌}
use Rattle.std.specs.List.{list_any, list_all}
use Rattle.std.specs.Option.{option_map_or}
use Rattle.dart_types.specs.Ty.{Ty, Types, count}
use Rattle.dart_types.specs.Normal.{normal}
use Rattle.dart_types.specs.Same.{same_type}
use Rattle.dart_types.specs.Kept.{kept_of}
use Rattle.dart_types.specs.Substitution.{put, by_params}
use Rattle.dart_types.specs.Tables.{Table, class_of, head_depth}
use Rattle.dart_types.specs.declared.ids.ClassId.{ClassId}

-- the superinterfaces that a class keeps, with these arguments put in and in normal form; none where the class has no row with as many parameters
abbrev pub above_of : Table → ClassId → Types → List Ty
above_of table c ts =
    option_map_or (λ row. if nat_eq (count ts) (length row.params) then map (λ v. normal (put (by_params row.params ts) v)) (kept_of table c) else []) (class_of table c) []

-- the types of the first list that stand in the second too
abbrev pub in_both : List Ty → List Ty → List Ty
in_both us vs = filter (λ u. list_any (same_type u) vs) us

-- whether no other one of these types is as far from Object
abbrev pub is_alone : Table → List Ty → Ty → Bool
is_alone table us u = list_all (λ v. same_type v u || not (nat_eq (head_depth table v) (head_depth table u))) us

-- of two types the one that is farther from Object
abbrev pub farther : Table → Ty → Option Ty → Ty
farther table u None = u
farther table u (Some v) = if nat_lt (head_depth table u) (head_depth table v) then v else u

-- the type that is farthest from Object
abbrev pub farthest : Table → List Ty → Option Ty
farthest table [] = None
farthest table (u ∷ us) = Some (farther table u (farthest table us))

-- the one that is farthest among those that are the only ones so far from it
abbrev pub deepest_among : Table → List Ty → Option Ty
deepest_among table us = farthest table (filter (is_alone table us) us)

-- the deepest superinterface that two interfaces have in common, if there is one
abbrev pub deepest_of : Table → ClassId → Types → ClassId → Types → Option Ty
deepest_of table c ss d ts = deepest_among table (in_both (above_of table c ss) (above_of table d ts))
