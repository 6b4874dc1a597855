use Rattle.std.proofs.Common.{◌<◌, ◌≤◌, List, length, get_or, ap, sym, ◌∙◌, arith}
use Rattle.dart_types.specs.declared.types.NamedType.{NamedType}
use Rattle.dart_types.specs.Ty.{Ty}
use Rattle.dart_types.specs.Same.{same_type}
use Rattle.dart_types.specs.SameNamed.{same_param}
use Rattle.dart_types.proofs.SameLists.{same_types-types_of, same_named-named_of, differ_in_length, differ_at, same_at_end}
use Rattle.dart_types.proofs.types.+same.Goals as goal

pub TypeList::has_types_of-returns-then-len : goal.TypeList::has_types_of-returns-then-len
TypeList::has_types_of-returns-then-len t c =
    differ_in_length same_type c.args.self.now c.args.other.now (λ e. c.if-len.true (omega (arith, ap length c.self.view_is, ap length c.other.view_is, e)))
    ∙ sym (same_types-types_of c.args.self.now c.args.other.now)

pub TypeList::has_types_of-returns-then-not-has_parts_of : goal.TypeList::has_types_of-returns-then-not-has_parts_of
TypeList::has_types_of-returns-then-not-has_parts_of t c =
    let l : c.loop-i.i < length c.args.self.now = omega (arith, ap length c.self.view_is) in
    let m : c.loop-i.i < length c.args.other.now = omega (arith, ap length c.self.view_is, ap length c.other.view_is) in
    let at = c.index.ensures ∙ ap (λ (ts : List Ty). get_or ts c.loop-i.i c.index.result.now) c.self.view_is in
    let other_at = c.index-in-loop-i.ensures ∙ ap (λ (ts : List Ty). get_or ts c.loop-i.i c.index-in-loop-i.result.now) c.other.view_is in
    differ_at same_type c.args.self.now c.args.other.now c.loop-i.i c.index.result.now c.index-in-loop-i.result.now c.has_parts_of.result l m at other_at c.has_parts_of.ensures c.if-not-has_parts_of.true c.loop-i.invariant
    ∙ sym (same_types-types_of c.args.self.now c.args.other.now)

pub TypeList::has_types_of-returns : goal.TypeList::has_types_of-returns
TypeList::has_types_of-returns t c =
    let l : length c.args.self.now ≤ c.loop-i.i = omega (arith, ap length c.self.view_is) in
    let m : length c.args.other.now ≤ c.loop-i.i = omega (arith, ap length c.self.view_is, ap length c.other.view_is) in
    same_at_end same_type c.args.self.now c.args.other.now c.loop-i.i l m c.loop-i.invariant
    ∙ sym (same_types-types_of c.args.self.now c.args.other.now)

pub NamedTypes::has_parts_of-returns-then-len : goal.NamedTypes::has_parts_of-returns-then-len
NamedTypes::has_parts_of-returns-then-len t c =
    differ_in_length same_param c.args.self.now c.args.other.now (λ e. c.if-len.true (omega (arith, ap length c.self.view_is, ap length c.other.view_is, e)))
    ∙ sym (same_named-named_of c.args.self.now c.args.other.now)

pub NamedTypes::has_parts_of-returns-then-not-has_parts_of : goal.NamedTypes::has_parts_of-returns-then-not-has_parts_of
NamedTypes::has_parts_of-returns-then-not-has_parts_of t c =
    let l : c.loop-i.i < length c.args.self.now = omega (arith, ap length c.self.view_is) in
    let m : c.loop-i.i < length c.args.other.now = omega (arith, ap length c.self.view_is, ap length c.other.view_is) in
    let at = c.index.ensures ∙ ap (λ (ns : List NamedType). get_or ns c.loop-i.i c.index.result.now) c.self.view_is in
    let other_at = c.index-in-loop-i.ensures ∙ ap (λ (ns : List NamedType). get_or ns c.loop-i.i c.index-in-loop-i.result.now) c.other.view_is in
    differ_at same_param c.args.self.now c.args.other.now c.loop-i.i c.index.result.now c.index-in-loop-i.result.now c.has_parts_of.result l m at other_at c.has_parts_of.ensures c.if-not-has_parts_of.true c.loop-i.invariant
    ∙ sym (same_named-named_of c.args.self.now c.args.other.now)

pub NamedTypes::has_parts_of-returns : goal.NamedTypes::has_parts_of-returns
NamedTypes::has_parts_of-returns t c =
    let l : length c.args.self.now ≤ c.loop-i.i = omega (arith, ap length c.self.view_is) in
    let m : length c.args.other.now ≤ c.loop-i.i = omega (arith, ap length c.self.view_is, ap length c.other.view_is) in
    same_at_end same_param c.args.self.now c.args.other.now c.loop-i.i l m c.loop-i.invariant
    ∙ sym (same_named-named_of c.args.self.now c.args.other.now)
