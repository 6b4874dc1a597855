use Rattle.std.proofs.Common.{nat_lt, rules}
use Rattle.std.proofs.lemmas.List.Sorted.{IsPartitionPoint-from_clause}
use Rattle.dart_tokens.specs.declared.grouped_token.GroupedToken.{GroupedToken as Token}
use Rattle.parse_expr.proofs.Starts.{parted}
use Rattle.parse_expr.proofs.places.starts_before.Goals as goal

pub returns-clause-before : goal.returns-clause-before
returns-clause-before c =
    (IsPartitionPoint-from_clause (λ (t : Token). nat_lt t.start c.args.offset) c.args.tokens.now c.partition_point.result c.partition_point.ensures.partitioned (parted c.args.offset c.args.tokens.now c.requires.ordered) (λ a r f' called. (search rules, search rules))).0

pub returns-clause-behind : goal.returns-clause-behind
returns-clause-behind c =
    (IsPartitionPoint-from_clause (λ (t : Token). nat_lt t.start c.args.offset) c.args.tokens.now c.partition_point.result c.partition_point.ensures.partitioned (parted c.args.offset c.args.tokens.now c.requires.ordered) (λ a r f' called. (search rules, search rules))).1
