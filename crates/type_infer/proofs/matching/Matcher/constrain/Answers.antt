use Rattle.std.proofs.Common.{sym, ◌∙◌}
use Rattle.type_infer.proofs.MatchSteps.{finds_open, finds_constraint}
use Rattle.type_infer.proofs.matching.Matcher.constrain.Goals as goal

pub returns-then-is_open : goal.returns-then-is_open
returns-then-is_open c =
    let m = c.args.self.now in
    finds_open m.rows.now.table m.params.now c.args.side c.args.param c.args.other.now c.args.found.now.items (sym c.is_open.ensures ∙ c.if-is_open.true)

pub returns : goal.returns
returns c =
    let m = c.args.self.now in
    finds_constraint m.rows.now.table m.params.now c.args.side c.args.param c.args.other.now c.in_ok-ty.ty c.args.found.now.items c.add.new.found.items (sym c.is_open.ensures ∙ c.if-is_open.false) c.in_ok-ty.ensures c.in_ok-add.ensures
