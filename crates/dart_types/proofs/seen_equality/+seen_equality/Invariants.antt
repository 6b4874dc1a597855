use Rattle.std.proofs.Common.{◌≡◌, ◌+◌, ◌*◌, drop}
use Rattle.std.specs.Cmp.Lexicographic.{pointwise}
use Rattle.dart_types.specs.Ty.{height_of, heights_of, heights_of_named}
use Rattle.dart_types.specs.Scopes.{in_scope}
use Rattle.dart_types.specs.Forms.{form_of, seen_type, seen_types, seen_function, seen_named}
use Rattle.dart_types.proofs.SeenEquality.{same_seen, same_seen_param}
use Rattle.dart_types.proofs.seen_equality.+seen_equality.Given as goal

-- the first type gets lower with each step down, and by one step at least for each two calls
abbrev pub decreases-are_same : goal.decreases-are_same
decreases-are_same l = 3 * height_of (seen_type l.s.now) + 2

abbrev pub decreases-are_forms_same : goal.decreases-are_forms_same
decreases-are_forms_same l = 3 * height_of (form_of l.s.now) + 1

abbrev pub decreases-are_functions_same : goal.decreases-are_functions_same
decreases-are_functions_same l = 3 * height_of (seen_function l.function.now)

abbrev pub decreases-are_lists_same : goal.decreases-are_lists_same
decreases-are_lists_same l = 3 * heights_of (seen_types l.list.now) + 2

abbrev pub decreases-are_named_same : goal.decreases-are_named_same
decreases-are_named_same l = 3 * heights_of_named (seen_named l.function.now) + 2

-- what is left decides
abbrev pub invariant-are_lists_same-loop-i : goal.invariant-are_lists_same-loop-i
invariant-are_lists_same-loop-i l =
    pointwise (same_seen (in_scope l.list.scope.now) (in_scope l.other.scope.now)) (drop l.i l.list.types.now) (drop l.i l.other.types.now) ≡ pointwise (same_seen (in_scope l.list.scope.now) (in_scope l.other.scope.now)) l.list.types.now l.other.types.now

abbrev pub invariant-are_named_same-loop-i : goal.invariant-are_named_same-loop-i
invariant-are_named_same-loop-i l =
    pointwise (same_seen_param (in_scope l.function.scope.now) (in_scope l.other.scope.now)) (drop l.i l.named) (drop l.i l.other_named) ≡ pointwise (same_seen_param (in_scope l.function.scope.now) (in_scope l.other.scope.now)) l.named l.other_named
