-- What a local is promoted to where a test tells its type.
use Rattle.std.specs.Prelude.{◌&&◌, ◌||◌, not, List, [], ◌∷◌, ◌++◌, if◌then◌else◌}
use Rattle.std.specs.Option.{option_map_or}
use Rattle.dart_types.specs.Ty.{Ty, invalid, never, void, null, interface, function, variable, promoted, nullable}
use Rattle.dart_types.specs.Same.{same_type}
use Rattle.dart_types.specs.Tables.{Table, bound_of}
use Rattle.type_bounds.specs.NonNull.{non_null_of}
use Rattle.flow_model.specs.TypeTests.{proper_sub, is_formed, union_of}
use Rattle.flow_model.specs.Flow.{current_of}
use Rattle.flow_model.specs.declared.locals.Facts.{Facts}

-- what is known of a local that is promoted to these types too: none of them where it is captured
abbrev pub promoted_facts : List Ty → Facts → Facts
promoted_facts types l = record l { chain = l.chain ++ (if l.captured then [] else types) }

-- `X & T` where T is a proper subtype of what a value of X is known to be
abbrev pub narrowed_variable : Table → Ty → Ty → Ty → List Ty
narrowed_variable table narrowed to known = if proper_sub table to known && is_formed narrowed then narrowed ∷ [] else []

-- what a variable of the current type is promoted to by a test for T that isn't a subtype of it: a type variable X to `X & T` where T is a proper subtype of the bound, and an `X & U` to `X & T` where it is one of U
abbrev pub by_variable : Table → Ty → Ty → List Ty
by_variable table to invalid = []
by_variable table to never = []
by_variable table to void = []
by_variable table to null = []
by_variable table to (interface c ts) = []
by_variable table to (function r o n e) = []
by_variable table to (variable x) = option_map_or (narrowed_variable table (promoted x to) to) (bound_of table x) []
by_variable table to (promoted x u) = narrowed_variable table (promoted x to) to u
by_variable table to (nullable u) = []

-- what a test for a type promotes a local of the current type to: that type where it is a proper subtype
abbrev pub tested_as : Table → Ty → Ty → List Ty
tested_as table to current = if proper_sub table to current then to ∷ [] else by_variable table to current

-- what is known of a local that was tested for a type, and has it
abbrev pub promote_facts : Table → Ty → Facts → Facts
promote_facts table to l = promoted_facts (tested_as table to (current_of l)) (record l { tested = union_of l.tested (to ∷ []) })

-- a type without null, where it is another type
abbrev pub without_null_of : Table → Ty → List Ty
without_null_of table t =
    if same_type (non_null_of table t) t || not (is_formed (non_null_of table t)) then [] else non_null_of table t ∷ []

-- what is known of a local that isn't null
abbrev pub non_null_facts : Table → Facts → Facts
non_null_facts table l = promoted_facts (without_null_of table (current_of l)) l

-- a type where it is a proper subtype of the current one
abbrev pub below_current : Table → Ty → Ty → List Ty
below_current table to current = if proper_sub table to current then to ∷ [] else []

-- what is known of a local that is known to have a type without a test for it
abbrev pub append_facts : Table → Ty → Facts → Facts
append_facts table to l = promoted_facts (below_current table to (current_of l)) l
