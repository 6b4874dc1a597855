use Rattle.std.proofs.Common.{◌∙◌, ap, position}
use Rattle.element_terms.specs.Declarations.{declares}
use Rattle.element_terms.proofs.declarations.Declarations.place.Goals as goal

pub returns : goal.returns
returns c = c.copied.ensures ∙ (c.get.ensures.value ∙ (c.self.invariant.places c.args.name.now ∙ ap (position (λ d. declares d c.args.name.now)) c.self.view_is))
