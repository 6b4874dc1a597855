use Rattle.std.proofs.Common.{◌≡◌, ◌<◌, ℕ, List, length, get_or, sym, ap, ◌∙◌, subst, arith}
use Rattle.std.specs.Prelude.{All}
use Rattle.std.proofs.lemmas.List.Elements.{All-map}
use Rattle.dart_types.specs.Named.{IsNameBefore}
use Rattle.dart_types.specs.declared.types.NamedType.{NamedType}
use Rattle.dart_types.proofs.RowTests.{all_next, all_done, name_at}
use Rattle.dart_types.proofs.Steps.{yes, no, granted, refused}
use Rattle.dart_types.proofs.types.NamedTypes.takes.Goals as goal

-- a name that doesn't come before refuses it
pub returns-then-not-is_name_before : goal.returns-then-not-is_name_before
returns-then-not-is_name_before c =
    let before = λ (name : List ℕ). IsNameBefore name c.args.name.now in
    let same = c.deref-item-items.ensures.value ∙ c.self.view_is in
    let i = c.loop-item.item-index in
    let n = c.item-item.result in
    let lt : i < length c.args.self.now = subst (λ (ns : List NamedType). i < length ns) same c.loop-item-test.true in
    let at : n ≡ get_or c.args.self.now i n = c.item-item.is ∙ ap (λ (ns : List NamedType). get_or ns i n) same in
    no (λ h.
    refused c.is_name_before.ensures c.if-not-is_name_before.true
    (subst (λ (m : List ℕ). IsNameBefore m c.as_str-in-loop-item.result.now) (sym c.as_str.ensures)
    (subst (λ (m : List ℕ). IsNameBefore n.name m) (sym c.as_str-in-loop-item.ensures) (name_at before c.args.self.now i n lt at h))))

pub loop-item-preserved : goal.loop-item-preserved
loop-item-preserved c =
    let n = c.item-item.result in
    let passes : IsNameBefore n.name c.args.name.now =
    subst (λ (m : List ℕ). IsNameBefore n.name m) c.as_str-in-loop-item.ensures
    (subst (λ (m : List ℕ). IsNameBefore m c.as_str-in-loop-item.result.now) c.as_str.ensures (granted c.is_name_before.ensures c.if-not-is_name_before.false)) in
    all_next (λ (n : NamedType). IsNameBefore n.name c.args.name.now) c.deref-item-items.result.now c.loop-item.item-index n c.loop-item-test.true c.item-item.is c.loop-item.invariant passes

pub returns : goal.returns
returns c =
    let before = λ (name : List ℕ). IsNameBefore name c.args.name.now in
    let all = all_done (λ (n : NamedType). before n.name) c.deref-item-items.result.now c.loop-item.item-index (omega arith) c.loop-item.invariant in
    yes (All-map before (λ (n : NamedType). n.name) c.args.self.now (subst (λ (ns : List NamedType). All (λ (n : NamedType). before n.name) ns) (c.deref-item-items.ensures.value ∙ c.self.view_is) all))
