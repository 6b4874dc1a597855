use Rattle.std.proofs.Common.{refl}
use Rattle.serve_loop.proofs.ServeLemmas.{may_rise}
use Rattle.serve_loop.proofs.turns.reply_to.Goals as goal

pub returns-in_default-clause-err : goal.returns-in_default-clause-err
returns-in_default-clause-err g c = (refl, may_rise _ _ _ c.answer.ensures.no_less c.answer.ensures.unused)
