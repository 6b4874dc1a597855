-- What is found in the table is so.
use Rattle.std.proofs.Common.{subst, ◌∙◌}
use Rattle.std.specs.Prelude.{IfSome}
use Rattle.parse_operators.specs.Ends.{Places, IsBehind}
use Rattle.parse_operators.proofs.Kept.{known_at}
use Rattle.parse_operators.proofs.known.Known.kept.Goals as goal

pub returns : goal.returns
returns c =
    subst (λ (s : Places). IfSome c.copied.result (λ kept. IsBehind s c.args.left kept)) c.self.view_is
    (known_at (record { tokens = c.self.inside.tokens.now; room = c.self.inside.room }) c.self.inside.places c.args.left c.copied.result c.self.invariant (c.copied.ensures ∙ c.get.ensures.value))
