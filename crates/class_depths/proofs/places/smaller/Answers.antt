use Rattle.std.proofs.Common.{rules}
use Rattle.std.proofs.lemmas.List.Sorted.{IsPartitionPoint-from_clause}
use Rattle.dart_types.specs.WellFormed.{class_before}
use Rattle.class_depths.proofs.Ids.{partitioned}
use Rattle.class_depths.specs.declared.classes.DeclaredClass.{DeclaredClass}
use Rattle.class_depths.proofs.places.smaller.Goals as goal

-- the ids rise, and the closure tells which are smaller
pub returns-clause-parts : goal.returns-clause-parts
returns-clause-parts c =
    IsPartitionPoint-from_clause (λ (d : DeclaredClass). class_before d.id c.args.class) c.args.declared.now c.partition_point.result c.partition_point.ensures.partitioned (partitioned (λ (d : DeclaredClass). d.id.lib.0) (λ (d : DeclaredClass). d.id.index) c.args.declared.now c.requires c.args.class.lib.0 c.args.class.index) (λ a r f' called. (search rules, search rules))
