use Rattle.std.proofs.Common.{ap, ◌∙◌}
use Rattle.judgement.specs.Literals.{integer_of}
use Rattle.elaborate.proofs.LookEntries.{no_word}
use Rattle.elaborate.proofs.operands.integer_at.Goals as goal

pub returns-in-None : goal.returns-in-None
returns-in-None c = c.integer_of-in-None.ensures ∙ ap integer_of (no_word c.args.said.now.words c.args.word c.in-None.ensures)
