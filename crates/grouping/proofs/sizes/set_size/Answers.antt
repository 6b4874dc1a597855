use Rattle.std.proofs.Common.{◌≡◌, ◌<◌, ◌-◌, suc, length, arith}
use Rattle.grouping.proofs.SizeLemmas.{set_shown}
use Rattle.grouping.proofs.sizes.set_size.Goals as goal

pub returns-clause-size : goal.returns-clause-size
returns-clause-size c =
    let items = c.args.read.now.items in
    let within : c.args.place < length items = omega (arith, c.requires, c.args.read.now.ok.0) in
    let width : c.saturating_sub-width.result ≡ c.args.end - suc c.args.place = omega (arith, c.saturating_sub.ensures, c.saturating_sub-width.ensures) in
    set_shown items c.args.place c.args.end c.saturating_sub-width.result c.args.closed c.index-token.result.now within c.index-token.ensures width
