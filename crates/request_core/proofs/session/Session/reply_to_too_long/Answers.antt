use Rattle.std.proofs.Common.{List, ℕ, Some, ap, ◌∙◌}
use Rattle.protocol_rules.specs.Turns.{Turn, bytes_of}
use Rattle.request_core.proofs.session.Session.reply_to_too_long.Goals as goal

pub returns : goal.returns
returns g c = c.in_ok-bytes.ensures c.self.inside.contents ∙ ap (λ (t : Turn). Some (bytes_of t)) c.in_ok-said.ensures
