use Rattle.std.proofs.Common.{refl, ap, sym, ◌∙◌}
use Rattle.std.proofs.lemmas.Result.{on_ok_weaker}
use Rattle.elaborate.specs.Sources.{local_meant}
use Rattle.elaborate.proofs.LookSlots.{typed_put, declared_put}
use Rattle.elaborate.proofs.slots.put_types.Goals as goal

pub returns-in-Some : goal.returns-in-Some
returns-in-Some c =
    on_ok_weaker c.put_type.result
    (λ is count rest before.
    is ∙ typed_put c.args.first count c.said.inside.node.0 c.in-Some.ty c.args.said.now rest c.args.slots.now.items
    (sym (ap (λ s. s.ty) c.said.view_is) ∙ c.in-Some.is)
    (sym (ap (λ s. s.node.0) c.said.view_is))
    before)
    c.put_type.ensures

pub returns-in-Some-local_meant : goal.returns-in-Some-local_meant
returns-in-Some-local_meant c =
    on_ok_weaker c.put_declared.result
    (λ is count rest before.
    is ∙ declared_put c.args.first count c.in-Some-local_meant.var _ c.args.said.now rest c.args.slots.now.items
    (sym (ap (λ s. s.ty) c.said.view_is) ∙ c.in-None.is)
    (c.in-Some-local_meant.ensures ∙ ap (λ s. local_meant s.element) c.said.view_is)
    refl
    before)
    c.put_declared.ensures
