use Rattle.std.proofs.Common.{ℕ, ◌≤◌, List, length, map, take, take_all, ap, sym, ◌∙◌, subst, arith}
use Rattle.std.specs.Prelude.{All}
use Rattle.dart_types.specs.Ty.{Ty, types_of, heights_of, heights_of_named}
use Rattle.dart_types.specs.Named.{named_of, names_of, IsNameBefore}
use Rattle.dart_types.specs.declared.types.NamedType.{NamedType}
use Rattle.type_infer.specs.Promotions.{unpromoted, unpromoted_all, unpromoted_named}
use Rattle.type_infer.proofs.ReadTypes.{height_below, height_below_named, types_of-read, named_of-read, read_param, names_before}
use Rattle.type_infer.proofs.reading.+reading.Goals as goal

-- the types of a list are less high than it
pub read_list-read_type-requires : goal.read_list-read_type-requires
read_list-read_type-requires t c =
    let h = height_below c.as_slice-item-items.result.now c.loop-item.item-index c.item-item.result c.loop-item-test.true c.item-item.is in
    let same = ap (λ (ts : List Ty). heights_of (types_of ts)) c.as_slice-item-items.ensures in
    (omega (arith, h, same, c.decreases), tt)

pub read_list-returns : goal.read_list-returns
read_list-returns t c =
    let items = c.as_slice-item-items.result.now in
    let all : length items ≤ c.loop-item.item-index = omega arith in
    ap types_of (c.loop-item.invariant ∙ ap (map unpromoted) (take_all c.loop-item.item-index items all))
    ∙ types_of-read items
    ∙ ap (λ (ts : List Ty). unpromoted_all (types_of ts)) c.as_slice-item-items.ensures

pub read_named-read_type-requires : goal.read_named-read_type-requires
read_named-read_type-requires t c =
    let h = height_below_named c.as_slice-item-items.result.now c.loop-item.item-index c.item-item.result c.loop-item-test.true c.item-item.is in
    let same = ap (λ (ns : List NamedType). heights_of_named (named_of ns)) c.as_slice-item-items.ensures.same in
    (omega (arith, h, same, c.decreases), tt)

-- the names stay in order
pub read_named-push-requires : goal.read_named-push-requires
read_named-push-requires t c =
    let items = c.as_slice-item-items.result.now in
    let i = c.loop-item.item-index in
    let before : All (λ name. IsNameBefore name c.item-item.result.name) (names_of (map read_param (take i items))) =
    names_before items i c.item-item.result c.as_slice-item-items.ensures.in_order c.loop-item-test.true c.item-item.is in
    let so_far : All (λ name. IsNameBefore name c.item-item.result.name) (names_of c.loop-item.read) =
    subst (λ (ns : List NamedType). All (λ name. IsNameBefore name c.item-item.result.name) (names_of ns)) (sym c.loop-item.invariant) before in
    subst (λ (m : List ℕ). All (λ name. IsNameBefore name m) (names_of c.loop-item.read)) (sym c.in_ok-name.ensures) so_far

pub read_named-returns : goal.read_named-returns
read_named-returns t c =
    let items = c.as_slice-item-items.result.now in
    let all : length items ≤ c.loop-item.item-index = omega arith in
    ap named_of (c.loop-item.invariant ∙ ap (map read_param) (take_all c.loop-item.item-index items all))
    ∙ named_of-read items
    ∙ ap (λ (ns : List NamedType). unpromoted_named (named_of ns)) c.as_slice-item-items.ensures.same
