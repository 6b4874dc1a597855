use Rattle.std.proofs.Common.{ℕ, ◌+◌, ◌*◌, ◌<◌, ◌≤◌, drop, get_or, length}
use Rattle.dart_types.specs.Ty.{variable, nullable, promoted, interface, types_of}
use Rattle.dart_types.specs.Named.{named_of}
use Rattle.dart_types.specs.Scopes.{close_all, close_named}
use Rattle.dart_types.specs.Forms.{form_of, seen_types, seen_function, seen_params, seen_named, params_of}
use Rattle.dart_types.specs.Targets.{or_nullable}
use Rattle.dart_types.specs.Measure.{measure, deepness_of}
use Rattle.dart_types.specs.Sub.{Sub, Subs, SubParams, SubNamed}
use Rattle.dart_types.specs.declared.superinterfaces.Superinterface.{Superinterface}
use Rattle.dart_types.proofs.Names.{AllBefore}
use Rattle.dart_types.proofs.subtyping.+subtyping.Given as goal

abbrev pub decreases-is_below : goal.decreases-is_below
decreases-is_below l = 8 * measure l.rows.now.table (form_of l.s.now) (form_of l.t.now) + 7

abbrev pub decreases-is_below_nullable : goal.decreases-is_below_nullable
decreases-is_below_nullable l = 8 * measure l.rows.now.table (form_of l.s.now) (nullable (form_of l.t.now)) + 6

abbrev pub decreases-is_below_promoted : goal.decreases-is_below_promoted
decreases-is_below_promoted l = 8 * measure l.rows.now.table (form_of l.s.now) (promoted l.var (form_of l.t.now)) + 6

abbrev pub decreases-is_below_nullable_promoted : goal.decreases-is_below_nullable_promoted
decreases-is_below_nullable_promoted l = 8 * measure l.rows.now.table (form_of l.s.now) (nullable (promoted l.var (form_of l.t.now))) + 5

abbrev pub decreases-is_var_below_nullable_promoted : goal.decreases-is_var_below_nullable_promoted
decreases-is_var_below_nullable_promoted l = 8 * measure l.rows.now.table (variable l.x) (nullable (promoted l.var (form_of l.t.now))) + 4

abbrev pub decreases-is_below_bare : goal.decreases-is_below_bare
decreases-is_below_bare l = 8 * measure l.rows.now.table (form_of l.s.now) (or_nullable l.or_null (form_of l.t.now)) + 5

abbrev pub decreases-is_var_below_bare : goal.decreases-is_var_below_bare
decreases-is_var_below_bare l = 8 * measure l.rows.now.table (variable l.x) (or_nullable l.or_null (form_of l.t.now)) + 4

abbrev pub decreases-is_interface_below : goal.decreases-is_interface_below
decreases-is_interface_below l = 8 * measure l.rows.now.table (interface l.class (seen_types l.args.now)) (form_of l.t.now) + 4

abbrev pub decreases-is_superinterface_below : goal.decreases-is_superinterface_below
decreases-is_superinterface_below l = 8 * measure l.rows.now.table (interface l.class (seen_types l.args.now)) (interface l.other (seen_types l.other_args.now)) + 3

abbrev pub decreases-are_arguments_below : goal.decreases-are_arguments_below
decreases-are_arguments_below l = 8 * measure l.rows.now.table (interface l._class (seen_types l.args.now)) (interface l._class (seen_types l.others.now)) + 2

abbrev pub decreases-is_function_below : goal.decreases-is_function_below
decreases-is_function_below l = 8 * measure l.rows.now.table (seen_function l.function.now) (form_of l.t.now) + 4

abbrev pub decreases-is_signature_below : goal.decreases-is_signature_below
decreases-is_signature_below l = 8 * measure l.rows.now.table (seen_function l.function.now) (seen_function l.other.now) + 3

abbrev pub decreases-are_params_below : goal.decreases-are_params_below
decreases-are_params_below l = 8 * measure l.rows.now.table (seen_function l.function.now) (seen_function l.other.now) + 2

abbrev pub decreases-are_named_below : goal.decreases-are_named_below
decreases-are_named_below l = 8 * measure l.rows.now.table (seen_function l.function.now) (seen_function l.other.now) + 2

-- the arguments that were passed are subtypes, so those that are left decide
abbrev pub invariant-are_arguments_below-loop-i : goal.invariant-are_arguments_below-loop-i
invariant-are_arguments_below-loop-i l =
    Subs l.rows.table (close_all l.args.scope.now (types_of (drop l.i l.args.types.now))) (close_all l.others.scope.now (types_of (drop l.i l.others.types.now))) → Subs l.rows.table (seen_types l.args) (seen_types l.others)

-- so it is with named parameters, and their names come after those that were passed in the other list
abbrev pub invariant-are_named_below-loop-i : goal.invariant-are_named_below-loop-i
invariant-are_named_below-loop-i l =
    (SubNamed l.rows.table (close_named l.other.scope.now (named_of (drop l.i l.other.function.now.named))) (seen_named l.function) → SubNamed l.rows.table (seen_named l.other) (seen_named l.function)) × AllBefore l.function.function.now.named l.from l.other.function.now.named l.i × (l.from ≤ length l.function.function.now.named)

-- so it is with positional parameters
abbrev pub invariant-are_params_below-loop-i : goal.invariant-are_params_below-loop-i
invariant-are_params_below-loop-i l =
    SubParams l.rows.table (close_all l.other.scope.now (types_of (drop l.i (params_of l.other.function.now)))) (close_all l.function.scope.now (types_of (drop l.i (params_of l.function.function.now)))) → SubParams l.rows.table (seen_params l.other) (seen_params l.function)

abbrev pub invariant-are_params_below-loop-i-2 : goal.invariant-are_params_below-loop-i-2
invariant-are_params_below-loop-i-2 l =
    SubParams l.rows.table (close_all l.other.scope.now (types_of (drop (length l.required + l.i) (params_of l.other.function.now)))) (close_all l.function.scope.now (types_of (drop (length l.required + l.i) (params_of l.function.function.now)))) → SubParams l.rows.table (seen_params l.other) (seen_params l.function)

-- the arguments of the superinterfaces that were passed aren't subtypes
abbrev pub invariant-is_superinterface_below-loop-superinterface : goal.invariant-is_superinterface_below-loop-superinterface
invariant-is_superinterface_below-loop-superinterface l =
    (k : ℕ) (d : Superinterface) → k < l.superinterface-index → Subs l.rows.table (close_all l.scope (types_of (get_or l.superinterface-items k d).args)) (seen_types l.other_args) → ⊥

-- the variable that is reached decides
abbrev pub invariant-is_var_below_bare-loop-left : goal.invariant-is_var_below_bare-loop-left
invariant-is_var_below_bare-loop-left l =
    (Sub l.rows.table (variable l.left) (or_nullable l.or_null (form_of l.t)) → Sub l.rows.table (variable l.fn.x) (or_nullable l.or_null (form_of l.t))) × (Sub l.rows.table (variable l.fn.x) (or_nullable l.or_null (form_of l.t)) → Sub l.rows.table (variable l.left) (or_nullable l.or_null (form_of l.t))) × (measure l.rows.table (variable l.left) (or_nullable l.or_null (form_of l.t)) ≤ measure l.rows.table (variable l.fn.x) (or_nullable l.or_null (form_of l.t)))

abbrev pub decreases-is_var_below_bare-loop-left : goal.decreases-is_var_below_bare-loop-left
decreases-is_var_below_bare-loop-left l = deepness_of l.rows.table (variable l.left)

abbrev pub invariant-is_var_below_nullable_promoted-loop-var : goal.invariant-is_var_below_nullable_promoted-loop-var
invariant-is_var_below_nullable_promoted-loop-var l =
    (Sub l.rows.table (variable l.left) (nullable (promoted l.var (form_of l.t))) → Sub l.rows.table (variable l.fn.x) (nullable (promoted l.var (form_of l.t)))) × (Sub l.rows.table (variable l.fn.x) (nullable (promoted l.var (form_of l.t))) → Sub l.rows.table (variable l.left) (nullable (promoted l.var (form_of l.t)))) × (measure l.rows.table (variable l.left) (nullable (promoted l.var (form_of l.t))) ≤ measure l.rows.table (variable l.fn.x) (nullable (promoted l.var (form_of l.t))))

abbrev pub decreases-is_var_below_nullable_promoted-loop-var : goal.decreases-is_var_below_nullable_promoted-loop-var
decreases-is_var_below_nullable_promoted-loop-var l = deepness_of l.rows.table (variable l.left)
