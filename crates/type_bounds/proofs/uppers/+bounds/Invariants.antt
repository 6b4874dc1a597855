use Rattle.std.proofs.Common.{◌+◌, ◌*◌, drop}
use Rattle.dart_types.specs.Ty.{interface, types_of}
use Rattle.dart_types.specs.Named.{named_of}
use Rattle.dart_types.specs.Node.{function_type}
use Rattle.dart_types.specs.Measure.{weight_of}
use Rattle.type_bounds.specs.Bounds.{Uppers, UpperNamed, LowerParams, LowerNamed}
use Rattle.type_bounds.specs.PartsView.{AreSomeParts}
use Rattle.type_bounds.specs.KnownView.{AreBounds}
use Rattle.type_bounds.specs.NamedView.{AreSomeNamed}
use Rattle.type_bounds.proofs.BoundFalls.{weights_of, named_weights_of}
use Rattle.type_bounds.proofs.Rests.{Completes}
use Rattle.type_bounds.proofs.NamesBefore.{NamedSoFar}
use Rattle.type_bounds.proofs.uppers.+bounds.Given as goal

-- six times the weights of both sides, and how many calls there are at most until one of them weighs less
abbrev pub decreases-upper_part : goal.decreases-upper_part
decreases-upper_part l = 6 * (weight_of l.rows.now.table l.s.now + weight_of l.rows.now.table l.t.now) + 7

abbrev pub decreases-upper_once : goal.decreases-upper_once
decreases-upper_once l = 6 * (weight_of l.rows.now.table l.s.now + weight_of l.rows.now.table l.t.now) + 6

abbrev pub decreases-upper_met : goal.decreases-upper_met
decreases-upper_met l = 6 * (weight_of l.rows.now.table l.s.now + weight_of l.rows.now.table l.t.now) + 5

abbrev pub decreases-upper_settled : goal.decreases-upper_settled
decreases-upper_settled l = 6 * (weight_of l.rows.now.table l.s.now + weight_of l.rows.now.table l.t.now) + 4

abbrev pub decreases-lower_part : goal.decreases-lower_part
decreases-lower_part l = 6 * (weight_of l.rows.now.table l.s.now + weight_of l.rows.now.table l.t.now) + 5

abbrev pub decreases-lower_apart : goal.decreases-lower_apart
decreases-lower_apart l = 6 * (weight_of l.rows.now.table l.s.now + weight_of l.rows.now.table l.t.now) + 4

abbrev pub decreases-upper_of_class : goal.decreases-upper_of_class
decreases-upper_of_class l = 6 * (weight_of l.rows.now.table (interface l.class (types_of l.args.now)) + weight_of l.rows.now.table l.t.now) + 3

abbrev pub decreases-upper_of_function : goal.decreases-upper_of_function
decreases-upper_of_function l = 6 * (weight_of l.rows.now.table (function_type l.function.now) + weight_of l.rows.now.table l.t.now) + 3

abbrev pub decreases-lower_of_function : goal.decreases-lower_of_function
decreases-lower_of_function l = 6 * (weight_of l.rows.now.table (function_type l.function.now) + weight_of l.rows.now.table l.t.now) + 3

abbrev pub decreases-upper_of_functions : goal.decreases-upper_of_functions
decreases-upper_of_functions l = 6 * (weight_of l.rows.now.table (function_type l.function.now) + weight_of l.rows.now.table (function_type l.other.now)) + 2

abbrev pub decreases-lower_of_functions : goal.decreases-lower_of_functions
decreases-lower_of_functions l = 6 * (weight_of l.rows.now.table (function_type l.function.now) + weight_of l.rows.now.table (function_type l.other.now)) + 2

abbrev pub decreases-upper_all : goal.decreases-upper_all
decreases-upper_all l = 6 * (weights_of l.rows.now.table (types_of l.types.now) + weights_of l.rows.now.table (types_of l.others.now)) + 8

abbrev pub decreases-lower_all : goal.decreases-lower_all
decreases-lower_all l = 6 * (weights_of l.rows.now.table (types_of l.types.now) + weights_of l.rows.now.table (types_of l.others.now)) + 8

abbrev pub decreases-upper_named : goal.decreases-upper_named
decreases-upper_named l = 6 * (named_weights_of l.rows.now.table (named_of l.named.now) + named_weights_of l.rows.now.table (named_of l.others.now)) + 8

abbrev pub decreases-lower_named : goal.decreases-lower_named
decreases-lower_named l = 6 * (named_weights_of l.rows.now.table (named_of l.named.now) + named_weights_of l.rows.now.table (named_of l.others.now)) + 8

-- with the bounds of the types that are left, those so far are the bounds of all
abbrev pub invariant-upper_all-loop-i : goal.invariant-upper_all-loop-i
invariant-upper_all-loop-i l =
    (AreSomeParts (Completes (Uppers l.rows.table (types_of (drop l.i l.types)) (types_of (drop l.i l.others))) (Uppers l.rows.table (types_of l.types) (types_of l.others))) l.uppers) × AreBounds l.rows.table l.known

abbrev pub invariant-lower_all-loop-i : goal.invariant-lower_all-loop-i
invariant-lower_all-loop-i l =
    (AreSomeParts (Completes (LowerParams l.rows.table (types_of (drop l.i l.types)) (types_of (drop l.i l.others))) (LowerParams l.rows.table (types_of l.types) (types_of l.others))) l.lowers) × AreBounds l.rows.table l.known

-- so it is with named parameters, and their names come before those that are left
abbrev pub invariant-upper_named-loop-i : goal.invariant-upper_named-loop-i
invariant-upper_named-loop-i l =
    (AreSomeNamed (NamedSoFar (UpperNamed l.rows.table (named_of (drop l.i l.named)) (named_of (drop l.i l.others))) (UpperNamed l.rows.table (named_of l.named) (named_of l.others)) l.named l.i) l.uppers) × AreBounds l.rows.table l.known

abbrev pub invariant-lower_named-loop-i : goal.invariant-lower_named-loop-i
invariant-lower_named-loop-i l =
    (AreSomeNamed (NamedSoFar (LowerNamed l.rows.table (named_of (drop l.i l.named)) (named_of l.others)) (LowerNamed l.rows.table (named_of l.named) (named_of l.others)) l.named l.i) l.lowers) × AreBounds l.rows.table l.known
