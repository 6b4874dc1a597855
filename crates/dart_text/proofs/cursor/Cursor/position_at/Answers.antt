use Rattle.std.proofs.Common.{arith}
use Rattle.dart_text.proofs.CursorLemmas.{units_bounded, column_bounded, position_here, position_inside}
use Rattle.dart_text.proofs.cursor.Cursor.position_at.Goals as goal
use Rattle.dart_text.proofs.cursor.Cursor.position_at.Goals.{else-self-text-via-then-self-text+else-self-offset, else-self-text-via-else-self-text}

pub overflow_add-result : goal.overflow_add-result
overflow_add-result c =
    let on = c.requires.at.on in
    omega (arith, units_bounded c.args.text.now c.utf8.text c.args.self on, column_bounded c.args.text.now c.utf8.text c.args.self on)

pub returns-then-self-offset : goal.returns-then-self-offset
returns-then-self-offset c = position_inside c.args.text.now c.utf8.text c.args.offset c.args.self c.requires.at c.if-self-text.true c.if-self-offset.true

pub returns : goal.returns
returns c = position_here c.args.text.now c.utf8.text c.args.offset c.args.self c.requires.at (λ more past. omega (arith, c.else-self-text.either))
