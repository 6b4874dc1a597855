-- The classes of `dart:core` that rules name, in the order of its text.
use Rattle.std.specs.Prelude.{ℕ, List, [], ◌∷◌}
use Rattle.dart_types.specs.declared.ids.ClassId.{ClassId}
use Rattle.dart_types.specs.declared.ids.TheConstants.{OBJECT, NULL, BOOL, FUNCTION, STACK_TRACE, INT, STRING, ITERATOR, ITERABLE, LIST, MAP, ERROR, TYPE_ERROR, STACK_OVERFLOW_ERROR, ARGUMENT_ERROR, RANGE_ERROR, STATE_ERROR, EXCEPTION, INTEGER_DIVISION_BY_ZERO_EXCEPTION}

abbrev pub named_classes : List ClassId
named_classes =
    OBJECT ∷ NULL ∷ BOOL ∷ FUNCTION ∷ STACK_TRACE ∷ INT ∷ STRING ∷ ITERATOR ∷ ITERABLE ∷ LIST ∷ MAP ∷ ERROR ∷ TYPE_ERROR ∷ STACK_OVERFLOW_ERROR ∷ ARGUMENT_ERROR ∷ RANGE_ERROR ∷ STATE_ERROR ∷ EXCEPTION ∷ INTEGER_DIVISION_BY_ZERO_EXCEPTION ∷ []

-- how many classes stand before each: of the classes between them, which begin with `_`, no rule speaks
abbrev pub places_of_named_classes : List ℕ
places_of_named_classes = 0 ∷ 1 ∷ 2 ∷ 3 ∷ 4 ∷ 5 ∷ 6 ∷ 7 ∷ 8 ∷ 13 ∷ 15 ∷ 16 ∷ 17 ∷ 18 ∷ 19 ∷ 20 ∷ 21 ∷ 22 ∷ 24 ∷ []
