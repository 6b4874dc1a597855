use Rattle.dart_tokens.proofs.NearestLaws.{has_end, has_none, has_reason}
use Rattle.dart_tokens.proofs.laws.a_group_ends_where_it_or_one_around_it_is_closed.Goals as goal

pub returns : goal.returns
returns c = record { ends = has_end c.args._tokens.now; there = has_reason c.args._tokens.now; others = has_none c.args._tokens.now }
