use Rattle.std.proofs.Common.{◌≤◌, List, length, ap, ◌∙◌, arith}
use Rattle.std.proofs.lemmas.List.{at_drop_all}
use Rattle.dart_types.specs.declared.types.NamedType.{NamedType}
use Rattle.dart_types.specs.Ty.{Ty, types_of}
use Rattle.dart_types.specs.Named.{named_of}
use Rattle.dart_types.specs.Sizes.{sizes_of, sizes_of_named, held}
use Rattle.dart_types.proofs.Counted.{counted}
use Rattle.dart_types.proofs.types.+nodes.Goals as goal

pub TypeList::nodes-returns : goal.TypeList::nodes-returns
TypeList::nodes-returns t c =
    let size = λ (ts : List Ty). sizes_of (types_of ts) in
    let all : length c.deref-item-items.result.now ≤ c.loop-item.item-index = omega arith in
    let i = c.loop-item.invariant in
    counted size _ _ _ all (at_drop_all size _ _ all) i.1 i.0
    ∙ ap (λ (ts : List Ty). held (sizes_of (types_of ts))) (c.deref-item-items.ensures.value ∙ c.self.view_is)

pub NamedTypes::nodes-returns : goal.NamedTypes::nodes-returns
NamedTypes::nodes-returns t c =
    let size = λ (ns : List NamedType). sizes_of_named (named_of ns) in
    let all : length c.deref-item-items.result.now ≤ c.loop-item.item-index = omega arith in
    let i = c.loop-item.invariant in
    counted size _ _ _ all (at_drop_all size _ _ all) i.1 i.0
    ∙ ap (λ (ns : List NamedType). held (sizes_of_named (named_of ns))) (c.deref-item-items.ensures.value ∙ c.self.view_is)
