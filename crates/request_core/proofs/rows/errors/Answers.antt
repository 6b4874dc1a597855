use Rattle.std.proofs.Common.{rules, sym, ◌∙◌}
use Rattle.request_core.proofs.HoldingLemmas.{analyzed_held, diagnostics_held, errors_are, refused_are}
use Rattle.request_core.proofs.rows.errors.Goals as goal

pub errors_of-requires : goal.errors_of-requires
errors_of-requires g c = analyzed_held (g.C.Checker.holds c.args.checker.now) c.args.contents.now c.args.file.now c.requires (sym c.is_analyzed.ensures ∙ c.if-not-is_analyzed.false)

pub returns-clause-turn : goal.returns-clause-turn
returns-clause-turn g c =
    let analyzed = sym c.is_analyzed.ensures ∙ c.if-not-is_analyzed.false in
    let found = diagnostics_held (g.C.Checker.holds c.args.checker.now) c.args.contents.now c.args.file.now c.in_ok-faults.faults c.requires analyzed c.in_ok-faults.ensures.exact in
    errors_are c.args.contents.now c.args.id c.args.file.now c.in_ok-faults.faults _ analyzed found (search rules)
