use Rattle.std.proofs.Common.{rules}
use Rattle.std.proofs.lemmas.List.Sorted.{IsPartitionPoint-from_clause}
use Rattle.dart_types.specs.declared.superinterfaces.Superinterface.{Superinterface}
use Rattle.dart_types.specs.WellFormed.{class_before}
use Rattle.dart_types.proofs.Searches.{rising_partitioned}
use Rattle.dart_types.proofs.superinterfaces.first_of_class.Goals as goal

-- the ids never fall, and the closure tells which are smaller
pub returns-clause-parts : goal.returns-clause-parts
returns-clause-parts c =
    IsPartitionPoint-from_clause (λ (s : Superinterface). class_before s.class c.args.class) c.args.superinterfaces.now c.partition_point.result c.partition_point.ensures.partitioned (rising_partitioned (λ (s : Superinterface). s.class.lib.0) (λ (s : Superinterface). s.class.index) c.args.superinterfaces.now c.requires c.args.class.lib.0 c.args.class.index) (λ a r f' called. (search rules, search rules))
