use Rattle.std.proofs.Common.{◌≡◌, ◌<◌, ◌≤◌, ◌-◌, suc, arith}
use Rattle.std.proofs.lemmas.Bool.Decides.{nat_tests}
use Rattle.parse_expr.proofs.Starts.{none_behind}
use Rattle.parse_expr.proofs.places.none_starts_before.Goals as goal

pub returns : goal.returns
returns c h = none_behind c.args.offset c.args.count c.args.tokens.now _ c.requires.ordered h
