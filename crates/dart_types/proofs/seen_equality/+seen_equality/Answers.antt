use Rattle.std.proofs.Common.{◌+◌, ◌*◌, ◌<◌, false, List, length, get_or, refl, ap, ◌∙◌, arith}
use Rattle.std.proofs.lemmas.List.{get_or_default}
use Rattle.dart_types.specs.Ty.{invalid, height_of, heights_of_named}
use Rattle.dart_types.specs.Named.{named_of}
use Rattle.dart_types.specs.Scopes.{in_scope, close_named}
use Rattle.dart_types.specs.Substitution.{put}
use Rattle.dart_types.specs.declared.types.NamedType.{NamedType}
use Rattle.dart_types.proofs.SameLists.{differ_in_length, differ_at, same_at, same_at_end}
use Rattle.dart_types.proofs.SeenEquality.{same_seen, same_seen_param, same_seen_types, same_seen_params, same_seen_at, labels_differ, labels_same, height_at, height_at_named}
use Rattle.dart_types.proofs.seen_equality.+seen_equality.Goals as goal

-- lists of types
pub are_lists_same-returns-then-list-other : goal.are_lists_same-returns-then-list-other
are_lists_same-returns-then-list-other t c =
    let a = c.args.list.now in
    let b = c.args.other.now in
    let σ = in_scope a.scope.now in
    let τ = in_scope b.scope.now in
    differ_in_length (same_seen σ τ) a.types.now b.types.now c.if-list-other.true
    ∙ same_seen_types σ τ a.types.now b.types.now

pub are_lists_same-are_same-requires : goal.are_lists_same-are_same-requires
are_lists_same-are_same-requires t c =
    let a = c.args.list.now in
    let height = height_at (in_scope a.scope.now) a.types.now c.loop-i.i invalid c.loop-i-test.true in
    (omega (arith, height, ap height_of c.at-s.ensures, c.decreases), tt)

pub are_lists_same-returns-then-not-are_same : goal.are_lists_same-returns-then-not-are_same
are_lists_same-returns-then-not-are_same t c =
    let a = c.args.list.now in
    let b = c.args.other.now in
    let σ = in_scope a.scope.now in
    let τ = in_scope b.scope.now in
    let i = c.loop-i.i in
    let x = get_or a.types.now i invalid in
    let y = get_or b.types.now i invalid in
    let within : i < length b.types.now = omega arith in
    let is = same_seen_at σ τ x y c.are_same.result c.at-s.ensures c.at-t.ensures c.are_same.ensures in
    differ_at (same_seen σ τ) a.types.now b.types.now i x y c.are_same.result c.loop-i-test.true within (get_or_default a.types.now i invalid x c.loop-i-test.true) (get_or_default b.types.now i invalid y within) is c.if-not-are_same.true c.loop-i.invariant
    ∙ same_seen_types σ τ a.types.now b.types.now

pub are_lists_same-loop-i-preserved : goal.are_lists_same-loop-i-preserved
are_lists_same-loop-i-preserved t c =
    let a = c.args.list.now in
    let b = c.args.other.now in
    let σ = in_scope a.scope.now in
    let τ = in_scope b.scope.now in
    let i = c.loop-i.i in
    let x = get_or a.types.now i invalid in
    let y = get_or b.types.now i invalid in
    let within : i < length b.types.now = omega arith in
    let is = same_seen_at σ τ x y c.are_same.result c.at-s.ensures c.at-t.ensures c.are_same.ensures in
    same_at (same_seen σ τ) a.types.now b.types.now i x y c.are_same.result c.loop-i-test.true within (get_or_default a.types.now i invalid x c.loop-i-test.true) (get_or_default b.types.now i invalid y within) is c.if-not-are_same.false c.loop-i.invariant

pub are_lists_same-returns : goal.are_lists_same-returns
are_lists_same-returns t c =
    let a = c.args.list.now in
    let b = c.args.other.now in
    let σ = in_scope a.scope.now in
    let τ = in_scope b.scope.now in
    same_at_end (same_seen σ τ) a.types.now b.types.now c.loop-i.i c.loop-i-test.false (omega arith) c.loop-i.invariant
    ∙ same_seen_types σ τ a.types.now b.types.now

-- named parameters
pub are_named_same-returns-then-named-other_named : goal.are_named_same-returns-then-named-other_named
are_named_same-returns-then-named-other_named t c =
    let f = c.args.function.now in
    let g = c.args.other.now in
    let σ = in_scope f.scope.now in
    let τ = in_scope g.scope.now in
    differ_in_length (same_seen_param σ τ) c.as_slice-named.result.now c.as_slice-other_named.result.now c.if-named-other_named.true
    ∙ same_seen_params σ τ f.function.now.named g.function.now.named c.as_slice-named.ensures.same c.as_slice-other_named.ensures.same

pub are_named_same-returns-then-not-are_labels_same : goal.are_named_same-returns-then-not-are_labels_same
are_named_same-returns-then-not-are_labels_same t c =
    let f = c.args.function.now in
    let g = c.args.other.now in
    let σ = in_scope f.scope.now in
    let τ = in_scope g.scope.now in
    let x = c.index-named-i.result in
    let y = c.index-other_named-i.result in
    let is = labels_differ σ τ x y c.are_labels_same.result c.are_labels_same.ensures c.if-not-are_labels_same.true in
    differ_at (same_seen_param σ τ) c.as_slice-named.result.now c.as_slice-other_named.result.now c.loop-i.i x y false c.loop-i-test.true (omega arith) c.index-named-i.is c.index-other_named-i.is is refl c.loop-i.invariant
    ∙ same_seen_params σ τ f.function.now.named g.function.now.named c.as_slice-named.ensures.same c.as_slice-other_named.ensures.same

pub are_named_same-are_same-requires : goal.are_named_same-are_same-requires
are_named_same-are_same-requires t c =
    let f = c.args.function.now in
    let σ = in_scope f.scope.now in
    let height = height_at_named σ c.as_slice-named.result.now c.loop-i.i c.index-named-i.result c.loop-i-test.true in
    let here = ap (λ (n : NamedType). height_of (put σ n.ty)) c.index-named-i.is in
    let whole = ap (λ (ns : List NamedType). heights_of_named (close_named f.scope.now (named_of ns))) c.as_slice-named.ensures.same in
    let falls : 3 * height_of (put σ c.index-named-i.result.ty) + 2 < t = omega (arith, height, here, whole, c.decreases) in
    (falls, tt)

pub are_named_same-returns-then-not-are_same : goal.are_named_same-returns-then-not-are_same
are_named_same-returns-then-not-are_same t c =
    let f = c.args.function.now in
    let g = c.args.other.now in
    let σ = in_scope f.scope.now in
    let τ = in_scope g.scope.now in
    let x = c.index-named-i.result in
    let y = c.index-other_named-i.result in
    let is = labels_same σ τ x y c.are_labels_same.result c.are_same.result c.are_labels_same.ensures c.if-not-are_labels_same.false c.are_same.ensures in
    differ_at (same_seen_param σ τ) c.as_slice-named.result.now c.as_slice-other_named.result.now c.loop-i.i x y c.are_same.result c.loop-i-test.true (omega arith) c.index-named-i.is c.index-other_named-i.is is c.if-not-are_same.true c.loop-i.invariant
    ∙ same_seen_params σ τ f.function.now.named g.function.now.named c.as_slice-named.ensures.same c.as_slice-other_named.ensures.same

pub are_named_same-loop-i-preserved : goal.are_named_same-loop-i-preserved
are_named_same-loop-i-preserved t c =
    let σ = in_scope c.args.function.now.scope.now in
    let τ = in_scope c.args.other.now.scope.now in
    let x = c.index-named-i.result in
    let y = c.index-other_named-i.result in
    let is = labels_same σ τ x y c.are_labels_same.result c.are_same.result c.are_labels_same.ensures c.if-not-are_labels_same.false c.are_same.ensures in
    same_at (same_seen_param σ τ) c.as_slice-named.result.now c.as_slice-other_named.result.now c.loop-i.i x y c.are_same.result c.loop-i-test.true (omega arith) c.index-named-i.is c.index-other_named-i.is is c.if-not-are_same.false c.loop-i.invariant

pub are_named_same-returns : goal.are_named_same-returns
are_named_same-returns t c =
    let f = c.args.function.now in
    let g = c.args.other.now in
    let σ = in_scope f.scope.now in
    let τ = in_scope g.scope.now in
    same_at_end (same_seen_param σ τ) c.as_slice-named.result.now c.as_slice-other_named.result.now c.loop-i.i c.loop-i-test.false (omega arith) c.loop-i.invariant
    ∙ same_seen_params σ τ f.function.now.named g.function.now.named c.as_slice-named.ensures.same c.as_slice-other_named.ensures.same
