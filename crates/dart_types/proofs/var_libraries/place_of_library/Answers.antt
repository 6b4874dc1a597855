use Rattle.std.proofs.Common.{rules, nat_lt}
use Rattle.std.proofs.lemmas.List.Sorted.{IsPartitionPoint-from_clause}
use Rattle.dart_types.specs.declared.var_libraries.LibraryVars.{LibraryVars}
use Rattle.dart_types.proofs.Groups.{lib_partitioned}
use Rattle.dart_types.proofs.var_libraries.place_of_library.Goals as goal

-- the numbers rise, and the closure tells which are smaller
pub returns-clause-parts : goal.returns-clause-parts
returns-clause-parts c =
    IsPartitionPoint-from_clause (λ (l : LibraryVars). nat_lt l.lib.0 c.args.lib.0) c.args.libraries.now c.partition_point.result c.partition_point.ensures.partitioned (lib_partitioned (λ (l : LibraryVars). l.lib.0) c.args.libraries.now c.requires c.args.lib.0) (λ a r f' called. (search rules, search rules))
