use Rattle.std.proofs.Common.{sym, ◌∙◌}
use Rattle.request_core.proofs.AnswerLemmas.{heard_answer}
use Rattle.request_core.proofs.session.Session.reply_to_line.Goals as goal

pub returns-clause-answered : goal.returns-clause-answered
returns-clause-answered g c =
    rw (← c.self.view_is) (heard_answer (g.F.Files.told c.args.files.now) c.self.inside.contents (g.F.Files.faults c.args.files.now) (g.F.Files.faults c.said_to_line.new.files) c.args.line.now c.in_ok-said.said _ c.take.new.self
    (sym c.is_skipped.ensures ∙ c.if-is_skipped.false) c.in_ok-said.ensures.turn c.in_ok-bytes.ensures c.in_ok-take.ensures)
