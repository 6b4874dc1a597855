use Rattle.std.proofs.Common.{arith, sym, ap, ◌∙◌, length, length-drop}
use Rattle.std.proofs.lemmas.Bool.{ne_eqb}
use Rattle.dart_scan.specs.Escapes.{begins_blank, newline_size}
use Rattle.dart_scan.proofs.BlankLemmas.{tail_slice, blank_line-turn, blank_line-none, blank_line-some}
use Rattle.dart_scan.proofs.value.blank_line.Goals as goal

pub loop-at-preserved : goal.loop-at-preserved
loop-at-preserved c = record {
  within = omega (arith, c.begins_blank.ensures.some c.loop-at-test.true, ap length (tail_slice c.loop-at.at c.args.units.now), length-drop c.loop-at.at c.args.units.now);
  reached = blank_line-turn c.args.units.now c.loop-at.at
      (ap begins_blank (sym (tail_slice c.loop-at.at c.args.units.now)) ∙ sym c.begins_blank.ensures.value ∙ c.loop-at-test.true) c.loop-at.invariant.reached;
}

pub returns-then-size-eq0-clause-size : goal.returns-then-size-eq0-clause-size
returns-then-size-eq0-clause-size c =
    blank_line-none c.args.units.now c.loop-at.at (ap begins_blank (sym (tail_slice c.loop-at.at c.args.units.now)) ∙ sym c.begins_blank.ensures.value ∙ c.loop-at-test.false)
    (ap newline_size (sym (tail_slice c.loop-at.at c.args.units.now)) ∙ sym c.newline_size-size.ensures.size ∙ c.if-size-eq0.true) c.loop-at.invariant.reached

pub returns-clause-size : goal.returns-clause-size
returns-clause-size c =
    blank_line-some c.args.units.now c.loop-at.at c.newline_size-size.result (ap begins_blank (sym (tail_slice c.loop-at.at c.args.units.now)) ∙ sym c.begins_blank.ensures.value ∙ c.loop-at-test.false)
    (ap newline_size (sym (tail_slice c.loop-at.at c.args.units.now)) ∙ sym c.newline_size-size.ensures.size) (ne_eqb c.newline_size-size.result 0 c.if-size-eq0.false) c.loop-at.invariant.reached
