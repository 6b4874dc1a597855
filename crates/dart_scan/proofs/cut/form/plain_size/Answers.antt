use Rattle.std.proofs.Common.{◌≤◌, length, drop, arith, sym, ap, ◌∙◌, length-drop}
use Rattle.std.proofs.lemmas.List.{take_rest}
use Rattle.dart_scan.specs.Strings.{form_of, ends_piece}
use Rattle.dart_scan.specs.Openings.{taken}
use Rattle.dart_scan.specs.PlainLemmas.{plain_ends, plain_goes_on, plain_at_the_end}
use Rattle.dart_scan.proofs.cut.form.plain_size.Goals as goal

pub returns-then-ends_piece-clause-size : goal.returns-then-ends_piece-clause-size
returns-then-ends_piece-clause-size c =
    let some : 1 ≤ length (drop c.loop-at.at c.args.text.now) = omega (arith, length-drop c.loop-at.at c.args.text.now) in
    plain_ends (form_of c.args.raw c.args.quotes.now) c.args.text.now c.loop-at.at some
    (ap (ends_piece (form_of c.args.raw c.args.quotes.now)) (sym (take_rest c.args.text.now c.loop-at.at)) ∙ sym c.ends_piece.ensures ∙ c.if-ends_piece.true) c.loop-at.invariant.reached

pub loop-at-preserved : goal.loop-at-preserved
loop-at-preserved c =
    let some : 1 ≤ length (drop c.loop-at.at c.args.text.now) = omega (arith, length-drop c.loop-at.at c.args.text.now) in
    record {
      within = omega (arith, c.taken-at.ensures.within, length-drop c.loop-at.at c.args.text.now, ap length (take_rest c.args.text.now c.loop-at.at));
      reached = plain_goes_on (form_of c.args.raw c.args.quotes.now) c.args.text.now c.loop-at.at c.taken-at.result some
          (ap (ends_piece (form_of c.args.raw c.args.quotes.now)) (sym (take_rest c.args.text.now c.loop-at.at)) ∙ sym c.ends_piece.ensures ∙ c.if-ends_piece.false)
          (c.taken-at.ensures.size ∙ ap (taken c.args.raw) (take_rest c.args.text.now c.loop-at.at)) c.loop-at.invariant.reached;
    }

pub returns-clause-size : goal.returns-clause-size
returns-clause-size c = plain_at_the_end (form_of c.args.raw c.args.quotes.now) c.args.text.now c.loop-at.at (omega arith) c.loop-at.invariant.reached
