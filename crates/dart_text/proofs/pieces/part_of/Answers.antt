use Rattle.std.proofs.Common.{arith}
use Rattle.dart_text.proofs.CursorLemmas.{on_start}
use Rattle.dart_text.proofs.PieceLemmas.{start_refused, stop_refused, middle_puts}
use Rattle.dart_text.proofs.pieces.part_of.Goals as goal

pub moved_to-start-requires-clause-on : goal.moved_to-start-requires-clause-on
moved_to-start-requires-clause-on c = on_start c.args.middle.now c.utf8.middle

pub returns-then-start-offset-clause-err : goal.returns-then-start-offset-clause-err
returns-then-start-offset-clause-err c = record {
  tells = λ front back with around.
      start_refused front c.args.middle.now back c.utf8.middle c.args.before around c.args.offset c.args.end c.requires.begins c.requires.in_order c.requires.ends c.moved_to-start.result c.moved_to-stop.result c.moved_to-start.ensures.at c.moved_to-stop.ensures.at with
      c.if-start-offset.true;
}

pub returns-then-stop-end-clause-err : goal.returns-then-stop-end-clause-err
returns-then-stop-end-clause-err c = record {
  tells = λ front back with around.
      stop_refused front c.args.middle.now back c.utf8.middle c.args.before around c.args.offset c.args.end c.requires.begins c.requires.in_order c.requires.ends c.moved_to-start.result c.moved_to-stop.result c.moved_to-start.ensures.at c.moved_to-stop.ensures.at
      c.if-start-offset.false with c.if-stop-end.true;
}

pub returns-clause-ok : goal.returns-clause-ok
returns-clause-ok c = record {
  in_order = c.moved_to-stop.ensures.onward (omega (arith, c.moved_to-start.ensures.at.reached));
  starts = c.moved_to-start.ensures.at.on.between;
  ends = c.moved_to-stop.ensures.at.on.between;
  puts = λ front back with around w.
      middle_puts front c.args.middle.now back c.utf8.middle c.args.before around c.args.offset c.args.end c.requires.begins c.requires.in_order c.requires.ends c.moved_to-start.result c.moved_to-stop.result c.moved_to-start.ensures.at c.moved_to-stop.ensures.at
      c.if-start-offset.false c.if-stop-end.false with w;
}
