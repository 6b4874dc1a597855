use Rattle.std.proofs.Common.{◌≡◌, drop}
use Rattle.std.specs.Cmp.Lexicographic.{pointwise}
use Rattle.dart_types.specs.Same.{same_type}
use Rattle.dart_types.specs.SameNamed.{same_param}
use Rattle.dart_types.proofs.types.+same.Given as goal

-- what is left decides
abbrev pub invariant-TypeList::has_types_of-loop-i : goal.invariant-TypeList::has_types_of-loop-i
invariant-TypeList::has_types_of-loop-i l =
    pointwise same_type (drop l.i l.self) (drop l.i l.other) ≡ pointwise same_type l.self l.other

abbrev pub invariant-NamedTypes::has_parts_of-loop-i : goal.invariant-NamedTypes::has_parts_of-loop-i
invariant-NamedTypes::has_parts_of-loop-i l =
    pointwise same_param (drop l.i l.self) (drop l.i l.other) ≡ pointwise same_param l.self l.other
