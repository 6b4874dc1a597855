use Rattle.request_core.proofs.AnswerLemmas.{long_answered}
use Rattle.request_core.proofs.session.SessionAnswerer.answer.Goals as goal

pub returns-in-TooLong-clause-answered : goal.returns-in-TooLong-clause-answered
returns-in-TooLong-clause-answered g c = rw c.in-TooLong.is (long_answered (g.F.Files.told c.args.files.now) c.args.self.now (g.F.Files.faults c.args.files.now) _ c.reply_to_too_long.result c.reply_to_too_long.ensures)
