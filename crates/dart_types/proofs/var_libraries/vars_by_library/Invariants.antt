use Rattle.std.proofs.Common.{◌≡◌, ◌++◌}
use Rattle.dart_types.specs.Libraries.{vars_in, AreVarsApart}
use Rattle.dart_types.proofs.var_libraries.vars_by_library.Given as goal

-- the libraries have the first type variables, and what is left follows
abbrev pub invariant-loop-row : goal.invariant-loop-row
invariant-loop-row l =
    (vars_in l.libraries.items ++ l.row-iterator.rest.items ≡ l.fn.rows.items) × AreVarsApart l.libraries.items
