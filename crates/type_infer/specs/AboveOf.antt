-- The superinterface of a class with arguments that is of another class, for definitions that compute.
use Rattle.std.specs.Prelude.{Bool, false, List, [], ◌∷◌, filter, Option, None, Some, if◌then◌else◌}
use Rattle.std.specs.List.{list_all}
use Rattle.dart_types.specs.Ty.{Ty, Types, invalid, never, void, null, interface, function, variable, promoted, nullable}
use Rattle.dart_types.specs.Same.{same_class, same_type}
use Rattle.dart_types.specs.Tables.{Table}
use Rattle.dart_types.specs.declared.ids.ClassId.{ClassId}
use Rattle.type_bounds.specs.CommonOf.{above_of}
use Rattle.type_infer.specs.Above.{arguments_of}

-- whether the type is of the class
abbrev pub is_of_class : ClassId → Ty → Bool
is_of_class d invalid = false
is_of_class d never = false
is_of_class d void = false
is_of_class d null = false
is_of_class d (interface c ts) = same_class c d
is_of_class d (function r o n e) = false
is_of_class d (variable x) = false
is_of_class d (promoted x t) = false
is_of_class d (nullable t) = false

-- the arguments of the first of these types, if all are the same
abbrev pub only_arguments : List Ty → Option Types
only_arguments [] = None
only_arguments (u ∷ us) = if list_all (same_type u) us then Some (arguments_of u) else None

-- the arguments of the superinterface of a class with the arguments ts that is of the class d, if it has one, and one only
abbrev pub only_above : Table → ClassId → Types → ClassId → Option Types
only_above table c ts d = only_arguments (filter (is_of_class d) (above_of table c ts))
