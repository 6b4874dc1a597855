use Rattle.std.proofs.Common.{◌≡◌, bytes_eq, is_some, position, ap, ◌∙◌, rules}
use Rattle.libraries.proofs.Among.{is_some_position}
use Rattle.libraries.proofs.texts.Texts.has.Goals as goal

pub returns : goal.returns
returns c =
    let at : c.place_of.result ≡ position (bytes_eq c.args.text.now) c.args.self.now = search rules in
    c.is_some.ensures ∙ (ap is_some at ∙ is_some_position (bytes_eq c.args.text.now) c.args.self.now)
