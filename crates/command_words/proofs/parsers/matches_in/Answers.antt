use Rattle.std.proofs.lemmas.Result.{IfOk-weaker}
use Rattle.std.proofs.lemmas.Bool.{and_parts}
use Rattle.command_words.proofs.parsers.matches_in.Goals as goal

pub returns-clause-ok : goal.returns-clause-ok
returns-clause-ok c = IfOk-weaker c.try_get_matches_from.result _ _ (λ found has. (has (and_parts _ _ c.requires).0).0) c.try_get_matches_from.ensures.matches
