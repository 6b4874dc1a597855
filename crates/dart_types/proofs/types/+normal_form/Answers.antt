use Rattle.std.proofs.Common.{◌≡◌, ◌≤◌, List, length, map, take_all, ap, sym, ◌∙◌, subst, arith}
use Rattle.dart_types.specs.Ty.{Ty, types_of}
use Rattle.dart_types.specs.Named.{named_of, names_of, AreInOrder}
use Rattle.dart_types.specs.Replacements.{replaced, replaced_all, replaced_named}
use Rattle.dart_types.specs.declared.types.NamedType.{NamedType}
use Rattle.dart_types.proofs.Replacing.{types_of-replaced, named_of-replaced, names_of-replaced, replaced_param}
use Rattle.dart_types.proofs.types.+normal_form.Goals as goal

pub TypeList::form_with-returns : goal.TypeList::form_with-returns
TypeList::form_with-returns t c =
    let rs = c.args.replacements.now in
    let items = c.deref-item-items.result.now in
    let all : length items ≤ c.loop-item.item-index = omega arith in
    ap types_of (c.loop-item.invariant ∙ ap (map (λ (u : Ty). replaced rs u)) (take_all c.loop-item.item-index items all))
    ∙ types_of-replaced rs items
    ∙ ap (λ (ts : List Ty). replaced_all rs (types_of ts)) (c.deref-item-items.ensures.value ∙ c.self.view_is)

-- the names stay
pub NamedTypes::form_with-invariant_of-result : goal.NamedTypes::form_with-invariant_of-result
NamedTypes::form_with-invariant_of-result t c =
    let rs = c.args.replacements.now in
    let items = c.deref-item-items.result.now in
    let all : length items ≤ c.loop-item.item-index = omega arith in
    let same : names_of c.loop-item.formed.items ≡ names_of c.self.inside.items.items =
    ap names_of (c.loop-item.invariant ∙ ap (map (λ (n : NamedType). replaced_param rs n)) (take_all c.loop-item.item-index items all))
    ∙ names_of-replaced rs items
    ∙ ap names_of c.deref-item-items.ensures.value
    in
    subst AreInOrder (sym same) c.self.invariant

pub NamedTypes::form_with-returns : goal.NamedTypes::form_with-returns
NamedTypes::form_with-returns t c =
    let rs = c.args.replacements.now in
    let items = c.deref-item-items.result.now in
    let all : length items ≤ c.loop-item.item-index = omega arith in
    ap named_of (c.loop-item.invariant ∙ ap (map (λ (n : NamedType). replaced_param rs n)) (take_all c.loop-item.item-index items all))
    ∙ named_of-replaced rs items
    ∙ ap (λ (ns : List NamedType). replaced_named rs (named_of ns)) (c.deref-item-items.ensures.value ∙ c.self.view_is)
