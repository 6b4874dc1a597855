use Rattle.std.proofs.Common.{◌+◌, ◌*◌, drop}
use Rattle.dart_types.specs.Ty.{nullable, types_of}
use Rattle.dart_types.specs.Named.{named_of}
use Rattle.dart_types.specs.Node.{function_type}
use Rattle.dart_types.specs.Forms.{params_of}
use Rattle.type_infer.specs.Pairs.{paired, paired_by_name}
use Rattle.type_infer.specs.SideMeasure.{side_measure, pairs_measure}
use Rattle.type_infer.proofs.FindSteps.{Passes}
use Rattle.type_infer.proofs.matching.Matcher.+matching.Given as goal

abbrev pub decreases-match_types : goal.decreases-match_types
decreases-match_types l = 8 * side_measure l.self.now.rows.now.table l.side l.formal.now l.other.now + 5

abbrev pub decreases-face : goal.decreases-face
decreases-face l = 8 * side_measure l.self.now.rows.now.table l.side l.formal.now l.other.now + 4

abbrev pub decreases-face_marked : goal.decreases-face_marked
decreases-face_marked l = 8 * side_measure l.self.now.rows.now.table l.side (nullable l.bare.now) l.other.now + 3

abbrev pub decreases-face_built : goal.decreases-face_built
decreases-face_built l = 8 * side_measure l.self.now.rows.now.table l.side l.formal.now l.other.now + 3

abbrev pub decreases-face_standing : goal.decreases-face_standing
decreases-face_standing l = 8 * side_measure l.self.now.rows.now.table l.side l.formal.now l.other.now + 2

abbrev pub decreases-face_classes : goal.decreases-face_classes
decreases-face_classes l = 8 * side_measure l.self.now.rows.now.table l.side l.formal.now l.other.now + 1

abbrev pub decreases-face_functions : goal.decreases-face_functions
decreases-face_functions l = 8 * side_measure l.self.now.rows.now.table l.side (function_type l.formal.now) (function_type l.other.now) + 1

abbrev pub decreases-match_lists : goal.decreases-match_lists
decreases-match_lists l = 8 * pairs_measure l.self.now.rows.now.table (paired l.side (types_of l.formals.now) (types_of l.others.now))

abbrev pub decreases-match_params : goal.decreases-match_params
decreases-match_params l = 8 * pairs_measure l.self.now.rows.now.table (paired l.side (types_of (params_of l.formal.now)) (types_of (params_of l.other.now)))

abbrev pub decreases-match_named : goal.decreases-match_named
decreases-match_named l = 8 * pairs_measure l.self.now.rows.now.table (paired_by_name l.side (named_of l.formals.now) (named_of l.others.now))

abbrev pub decreases-match_part : goal.decreases-match_part
decreases-match_part l = 8 * side_measure l.self.now.rows.now.table l.side l.formal.now l.other.now + 6

-- what is found in the pairs that are left is found in all
abbrev pub invariant-match_lists-loop-i : goal.invariant-match_lists-loop-i
invariant-match_lists-loop-i l =
    Passes l.self.rows.now.table l.self.params.now (paired l.side (types_of l.formals) (types_of l.others)) (paired l.side (types_of (drop l.i l.formals)) (types_of (drop l.i l.others))) l.fn.found.items l.found.items

abbrev pub invariant-match_params-loop-i : goal.invariant-match_params-loop-i
invariant-match_params-loop-i l =
    Passes l.self.rows.now.table l.self.params.now (paired l.side (types_of (params_of l.formal)) (types_of (params_of l.other))) (paired l.side (types_of (drop l.i (params_of l.formal))) (types_of (drop l.i (params_of l.other)))) l.fn.found.items l.found.items

abbrev pub invariant-match_named-loop-formal : goal.invariant-match_named-loop-formal
invariant-match_named-loop-formal l =
    Passes l.self.rows.now.table l.self.params.now (paired_by_name l.side (named_of l.formals) (named_of l.others)) (paired_by_name l.side (named_of (drop l.formal-index l.formals)) (named_of l.others)) l.fn.found.items l.found.items
