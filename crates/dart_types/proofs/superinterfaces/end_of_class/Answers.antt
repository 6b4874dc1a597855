use Rattle.std.proofs.Common.{not, get_or, rules}
use Rattle.std.proofs.lemmas.List.Sorted.{IsPartitionPoint-from_clause}
use Rattle.dart_types.specs.declared.superinterfaces.Superinterface.{Superinterface}
use Rattle.dart_types.specs.WellFormed.{class_before}
use Rattle.dart_types.proofs.Searches.{not_after_partitioned, from_not_true, from_not_false}
use Rattle.dart_types.proofs.superinterfaces.end_of_class.Goals as goal

-- the ids never fall, and the closure tells which are no greater
pub returns-clause-parts : goal.returns-clause-parts
returns-clause-parts c =
    let parts = IsPartitionPoint-from_clause (λ (s : Superinterface). not (class_before c.args.class s.class)) c.args.superinterfaces.now c.partition_point.result c.partition_point.ensures.partitioned (not_after_partitioned (λ (s : Superinterface). s.class.lib.0) (λ (s : Superinterface). s.class.index) c.args.superinterfaces.now c.requires c.args.class.lib.0 c.args.class.index) (λ a r f' called. (search rules, search rules)) in (
      λ j d from to. from_not_true (class_before c.args.class (get_or c.args.superinterfaces.now j d).class) (parts.0 j d from to),
      λ j d from to. from_not_false (class_before c.args.class (get_or c.args.superinterfaces.now j d).class) (parts.1 j d from to),
    )
