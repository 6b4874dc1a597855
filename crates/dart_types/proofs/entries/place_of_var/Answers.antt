use Rattle.std.proofs.Common.{rules}
use Rattle.std.proofs.lemmas.List.Sorted.{IsPartitionPoint-from_clause}
use Rattle.dart_types.specs.declared.class_rows.VarRow.{VarRow}
use Rattle.dart_types.specs.WellFormed.{var_before}
use Rattle.dart_types.proofs.Searches.{partitioned}
use Rattle.dart_types.proofs.entries.place_of_var.Goals as goal

-- the ids rise, and the closure tells which are smaller
pub returns-clause-parts : goal.returns-clause-parts
returns-clause-parts c =
    IsPartitionPoint-from_clause (λ (r : VarRow). var_before r.var c.args.var) c.args.rows.now c.partition_point.result c.partition_point.ensures.partitioned (partitioned (λ (r : VarRow). r.var.lib.0) (λ (r : VarRow). r.var.index) c.args.rows.now c.requires c.args.var.lib.0 c.args.var.index) (λ a r f' called. (search rules, search rules))
