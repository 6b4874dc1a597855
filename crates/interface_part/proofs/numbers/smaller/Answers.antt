use Rattle.std.proofs.Common.{nat_lt, rules}
use Rattle.std.proofs.lemmas.List.Sorted.{IsPartitionedBy-ltb, IsPartitionPoint-from_clause}
use Rattle.interface_part.specs.declared.numbers.SeenToken.{SeenToken}
use Rattle.interface_part.specs.Keys.{key_of}
use Rattle.interface_part.proofs.Search.{key_rises, non_decreasing}
use Rattle.interface_part.proofs.numbers.smaller.Goals as goal

-- the keys rise, and the closure tells which are smaller
pub returns-clause-parts : goal.returns-clause-parts
returns-clause-parts c =
    IsPartitionPoint-from_clause (λ (s : SeenToken). nat_lt (key_of c.args.by s) c.args.key) c.args.tokens.now c.partition_point.result c.partition_point.ensures.partitioned
    (IsPartitionedBy-ltb (key_of c.args.by) c.args.tokens.now c.args.key (non_decreasing (key_of c.args.by) _ c.args.tokens.now (key_rises c.args.by 0 0 c.args.tokens.now c.requires)))
    (λ a r f' called. (search rules, search rules))
