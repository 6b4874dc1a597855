-- What is kept of a place stands there.
use Rattle.std.proofs.Common.{ℕ, Option, Some, length, subst, sym}
use Rattle.parse_operators.specs.declared.extents.Extent.{Extent}
use Rattle.parse_operators.specs.Ends.{IsBehind}
use Rattle.parse_operators.proofs.Kept.{known_some}
use Rattle.parse_operators.proofs.known.Known.behind.Goals as goal

pub returns-in-Some-clause-found : goal.returns-in-Some-clause-found
returns-in-Some-clause-found g c =
    let kept : IsBehind c.args.self.now (length c.args.tokens.now) (Some (c.in-Some-kept.extent, c.in-Some-kept.after)) = subst (λ (o : Option (Extent × ℕ)). IsBehind c.args.self.now (length c.args.tokens.now) o) c.in-Some-kept.is c.in-Some.ensures in
    sym (known_some c.args.self.now (g.B.Below.room c.args.below.now) c.args.tokens.now c.last_tokens.result.now c.in-Some-kept.extent c.in-Some-kept.after c.requires.room c.requires.last kept c.last_tokens.ensures)
