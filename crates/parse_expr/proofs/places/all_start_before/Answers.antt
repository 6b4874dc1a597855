use Rattle.std.proofs.Common.{◌≡◌, ◌<◌, ◌≤◌, ◌-◌, suc, arith}
use Rattle.std.proofs.lemmas.Bool.Decides.{nat_tests}
use Rattle.parse_expr.proofs.Starts.{all_before}
use Rattle.parse_expr.proofs.places.all_start_before.Goals as goal

pub returns : goal.returns
returns c h = all_before c.args.offset c.args.count c.args.tokens.now _ c.requires.ordered (omega (arith, c.if-count-eq0.false)) c.requires.few h
