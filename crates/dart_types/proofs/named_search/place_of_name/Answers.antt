use Rattle.std.proofs.Common.{rules}
use Rattle.std.proofs.lemmas.List.Sorted.{IsPartitionPoint-from_clause}
use Rattle.dart_types.proofs.NamesFound.{comes_before, names_partitioned, before_place}
use Rattle.dart_types.proofs.named_search.place_of_name.Goals as goal

-- the names rise, and the closure tells which come before
pub returns-clause-parts : goal.returns-clause-parts
returns-clause-parts c =
    before_place c.args.named.now c.requires c.args.name.now c.partition_point.result
    (IsPartitionPoint-from_clause (comes_before c.args.named.now c.requires c.args.name.now) c.args.named.now c.partition_point.result c.partition_point.ensures.partitioned (names_partitioned c.args.named.now c.requires c.args.name.now) (λ a r f' called. (search rules, search rules)))
