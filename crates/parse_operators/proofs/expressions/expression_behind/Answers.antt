-- What is read behind the first operand of an expression.
use Rattle.std.proofs.Common.{◌≡◌, ◌≤◌, Some, None, true, false, sym, ap, ◌∙◌, arith}
use Rattle.readings.specs.Readings.{tokens_read}
use Rattle.readings.specs.Descent.{◌▸◌}
use Rattle.grammar.specs.Operators.{take_assignment}
use Rattle.grammar.specs.Expressions.{assign_of, is_open}
use Rattle.grammar.specs.Descents.{lower, take_expression}
use Rattle.parse_leaves.specs.Ways.{expression_assigned}
use Rattle.parse_operators.proofs.Behind.{gives_deep, gives_plain}
use Rattle.parse_operators.proofs.expressions.expression_behind.Goals as goal

pub returns-in-Ok-clause-reading : goal.returns-in-Ok-clause-reading
returns-in-Ok-clause-reading g c =
    let still : is_open (g.B.Below.room c.args.below.now) c.args.first ≡ true =
    ap (λ k. is_open k c.args.first) (sym c.room.ensures) ∙ sym c.is_open.ensures.open ∙ c.if-not-is_open.false in
    let made : take_expression (g.B.Below.room c.args.below.now) c.args.setting (lower (g.B.Below.room c.args.below.now)) c.args.start.now ≡ Some (assign_of (tokens_read c.args.start.now c.in-Ok.after.now) c.args.first (c.in-Ok.operator, c.in-Ok.value), c.in-Ok.after.now) =
    expression_assigned (g.B.Below.room c.args.below.now) c.args.setting (lower (g.B.Below.room c.args.below.now)) c.args.start.now (c.args.first, c.args.tokens.now) ((c.in-Ok.operator, c.in-Ok.value), c.in-Ok.after.now) c.requires.read
    still c.in-Ok.ensures.reading in
    rw made c.assignment.ensures.reading

pub returns-in-Ok-clause-deep : goal.returns-in-Ok-clause-deep
returns-in-Ok-clause-deep g c =
    let less : c.args.reach ≤ g.B.Below.room c.args.below.now = omega (arith, c.room.ensures, c.is_open.ensures.within c.if-not-is_open.false) in
    c.assignment.ensures.deep (g.B.Below.room c.args.below.now) less c.in-Ok.ensures.deep.1

pub returns-then-not-is_open-clause-reading : goal.returns-then-not-is_open-clause-reading
returns-then-not-is_open-clause-reading g c =
    let full : is_open (g.B.Below.room c.args.below.now) c.args.first ≡ false =
    ap (λ k. is_open k c.args.first) (sym c.room.ensures) ∙ sym c.is_open.ensures.open ∙ c.if-not-is_open.true in
    gives_deep _ _ (g.B.Below.room c.args.below.now) c.args.setting (lower (g.B.Below.room c.args.below.now)) c.args.start.now c.args.tokens.now c.args.first c.requires.read full
    c.unassigned_behind.ensures.reading

pub returns-in-Err-NoReading-clause-reading : goal.returns-in-Err-NoReading-clause-reading
returns-in-Err-NoReading-clause-reading g c =
    let none : (take_assignment ▸ (lower (g.B.Below.room c.args.below.now)).expression c.args.setting) c.args.tokens.now ≡ None =
    rw c.in-Err-NoReading.field-0-is at c.in-Err-NoReading.ensures.reading in
    gives_plain _ _ (g.B.Below.room c.args.below.now) c.args.setting (lower (g.B.Below.room c.args.below.now)) c.args.start.now c.args.tokens.now c.args.first c.requires.read none
    c.unassigned_behind-in-Err-NoReading.ensures.reading
