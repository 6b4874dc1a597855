-- One place more is known.
use Rattle.std.proofs.Common.{sym, subst}
use Rattle.parse_operators.specs.Ends.{Places, IsBehind}
use Rattle.parse_operators.proofs.Kept.{known_more, known_still}
use Rattle.parse_operators.proofs.known.Known.keep.Goals as goal

pub invariant_of-self : goal.invariant_of-self
invariant_of-self c = known_still (record { tokens = c.self.inside.tokens.now; room = c.self.inside.room }) c.self.inside.places c.insert.new.self c.self.invariant c.in_err-insert.ensures.err

pub invariant_of-self-2 : goal.invariant_of-self-2
invariant_of-self-2 c =
    known_more (record { tokens = c.self.inside.tokens.now; room = c.self.inside.room }) c.self.inside.places c.insert.new.self c.args.left c.args.found
    (subst (λ (s : Places). IsBehind s c.args.left c.args.found) (sym c.self.view_is) c.requires) c.self.invariant (λ q. c.in_ok-insert.ensures.updates.0 q)
