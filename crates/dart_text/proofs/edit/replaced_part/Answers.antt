use Rattle.std.proofs.Common.{arith}
use Rattle.dart_text.proofs.CursorLemmas.{on_start}
use Rattle.dart_text.proofs.EditLemmas.{part_past, part_splits_start, part_splits_end, part_puts}
use Rattle.dart_text.proofs.edit.replaced_part.Goals as goal

pub moved_to-start-requires-clause-on : goal.moved_to-start-requires-clause-on
moved_to-start-requires-clause-on c = on_start c.args.text.now c.utf8.text

pub returns-then-end-end_offset-clause-err : goal.returns-then-end-end_offset-clause-err
returns-then-end-end_offset-clause-err c =
    λ with.
    part_past c.args.text.now c.utf8.text c.requires c.args.offset c.args.count c.saturating_add-end_offset.result c.saturating_add-end_offset.ensures c.moved_to-start.result c.moved_to-end.result c.moved_to-start.ensures.at c.moved_to-end.ensures.at with
    c.if-end-text.true c.if-end-end_offset.true

pub returns-then-start-offset-clause-err : goal.returns-then-start-offset-clause-err
returns-then-start-offset-clause-err c =
    λ with.
    part_splits_start c.args.text.now c.utf8.text c.requires c.args.offset c.args.count c.saturating_add-end_offset.result c.saturating_add-end_offset.ensures c.moved_to-start.result c.moved_to-end.result c.moved_to-start.ensures.at c.moved_to-end.ensures.at
    (λ all past. omega (arith, c.else-end-text.either)) with c.if-start-offset.true

pub returns-then-end-end_offset-2-clause-err : goal.returns-then-end-end_offset-2-clause-err
returns-then-end-end_offset-2-clause-err c =
    λ with.
    part_splits_end c.args.text.now c.utf8.text c.requires c.args.offset c.args.count c.saturating_add-end_offset.result c.saturating_add-end_offset.ensures c.moved_to-start.result c.moved_to-end.result c.moved_to-start.ensures.at c.moved_to-end.ensures.at
    (λ all past. omega (arith, c.else-end-text.either)) c.if-start-offset.false with c.if-end-end_offset-2.true

pub returns-clause-ok : goal.returns-clause-ok
returns-clause-ok c = record {
  in_order = omega (arith, c.moved_to-end.ensures.onward (omega (arith, c.moved_to-start.ensures.at.reached, c.saturating_add-end_offset.ensures)));
  starts = c.moved_to-start.ensures.at.on.between;
  ends = c.moved_to-end.ensures.at.on.between;
  puts =
      part_puts c.args.text.now c.utf8.text c.requires c.args.offset c.args.count c.saturating_add-end_offset.result c.saturating_add-end_offset.ensures c.moved_to-start.result c.moved_to-end.result c.moved_to-start.ensures.at c.moved_to-end.ensures.at
      (λ all past. omega (arith, c.else-end-text.either)) c.if-start-offset.false c.if-end-end_offset-2.false;
}
