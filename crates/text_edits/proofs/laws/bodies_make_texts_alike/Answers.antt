use Rattle.text_edits.proofs.Tokens.{tokens_alike}
use Rattle.text_edits.proofs.laws.bodies_make_texts_alike.Goals as goal

pub returns : goal.returns
returns c = tokens_alike
