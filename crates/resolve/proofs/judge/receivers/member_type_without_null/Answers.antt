use Rattle.std.proofs.Common.{sym, ◌∙◌, ap}
use Rattle.judgement.specs.Receivers.{member_type}
use Rattle.resolve.proofs.Receivers.{null_without}
use Rattle.resolve.proofs.judge.receivers.member_type_without_null.Goals as goal

pub returns-then-is_null : goal.returns-then-is_null
returns-then-is_null c =
    let table = c.args.rows.now.table in
    c.member_type.ensures
    ∙ ap (member_type table) c.never.ensures
    ∙ null_without table c.non_null_laws.ensures.steps c.loop-next.left.now (sym c.is_null.ensures ∙ c.if-is_null.true)
    ∙ c.loop-next.invariant
