use Rattle.tree_print.proofs.ReadAgain.{read-again, short-again}
use Rattle.tree_print.proofs.laws.tokens_are_read_again.Goals as goal

pub returns : goal.returns
returns c = record { tokens = read-again c.args._text.now; short = short-again c.args._text.now }
