use Rattle.std.proofs.Common.{◌+◌, ◌*◌}
use Rattle.type_tests.proofs.printing.+printing.Given as goal

-- the depth falls with each type that is printed, and a function stands above the lists and types in it
abbrev pub decreases-print_type : goal.decreases-print_type
decreases-print_type l = 3 * l.depth

abbrev pub decreases-print_list : goal.decreases-print_list
decreases-print_list l = 3 * l.depth + 1

abbrev pub decreases-print_named : goal.decreases-print_named
decreases-print_named l = 3 * l.depth + 1

abbrev pub decreases-print_function : goal.decreases-print_function
decreases-print_function l = 3 * l.depth + 2
