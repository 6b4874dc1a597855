-- Where what is assigned ends, and what stands behind the first operand.
use Rattle.std.proofs.Common.{◌≡◌, ◌≤◌, Some, refl, sym, ap, arith}
use Rattle.dart_tree.specs.Heights.{height}
use Rattle.grammar.specs.declared.level.Setting.TheVariants as setting
use Rattle.last_parts.specs.LastParts.{IsLast, last_twice, left_of}
use Rattle.last_parts.specs.Expressions.{unary_leaves}
use Rattle.parse_operators.specs.Ends.{assignment_behind, extent_of}
use Rattle.parse_operators.proofs.Shown.{end_assigned}
use Rattle.parse_operators.proofs.again.expression_end.Goals as goal

pub returns-in-Some-clause-end : goal.returns-in-Some-clause-end
returns-in-Some-clause-end g c =
    let some : Some c.in-Some.end.now ≡ assignment_behind (g.B.Below.room c.args.below.now) (extent_of c.in-Ok.first) c.in-Ok.rest.now = rw c.in-Some.is at c.in_ok-end-in-Ok.ensures in
    sym (end_assigned (g.B.Below.room c.args.below.now) c.args.tokens.now c.in-Ok.rest.now c.in-Some.end.now c.in-Ok.first c.in-Ok.ensures.reading (sym some))

pub cascade_end-requires : goal.cascade_end-requires
cascade_end-requires g c κs =
    let last : IsLast c.in-Ok.rest.now c.args.known.now.tokens =
    last_twice c.requires.last (left_of (unary_leaves (g.B.Below.room c.args.below.now) setting.Plain) c.args.tokens.now (c.in-Ok.first, c.in-Ok.rest.now) c.in-Ok.ensures.reading) in
    let tall : c.extent_of.result.height ≡ height c.in-Ok.first = ap (λ x. x.height) c.extent_of.ensures in
    let low : c.extent_of.result.height ≤ 201 = omega (arith, tall, c.in-Ok.ensures.deep.0, c.in-Ok.ensures.deep.1, c.requires.limit) in
    ((refl, tt), (c.requires.limit, (c.requires.sound, (c.requires.room, (last, low)))))
