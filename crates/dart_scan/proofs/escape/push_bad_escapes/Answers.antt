use Rattle.std.proofs.Common.{◌+◌, arith}
use Rattle.std.proofs.lemmas.Bool.{ne_eqb}
use Rattle.dart_scan.proofs.EscapeLemmas.{AtEscape, faults-at_escape, faults-at_plain, faults-end}
use Rattle.dart_scan.proofs.escape.push_bad_escapes.Goals as goal

pub loop-unit-preserved-then-unit-eq-BACKSLASH : goal.loop-unit-preserved-then-unit-eq-BACKSLASH
loop-unit-preserved-then-unit-eq-BACKSLASH c =
    let turn : AtEscape c.loop-unit.rest.now c.in-Some.unit.now c.in-Some.after.now c.escape_at-escape.result c.split_at.result.1.now = record {
      front = c.in-Some.ensures.cases.0;
      backslash = c.if-unit-eq-BACKSLASH.true;
      escape_is = c.escape_at-escape.ensures.escape;
      back = c.split_at.ensures.back;
    } in
    record {
      short = omega (arith, c.loop-unit.invariant.short, c.in-Some.ensures.cases.1, c.split_at.ensures.back_len);
      faults = faults-at_escape _ _ _ c.loop-unit.at (c.loop-unit.at + (1 + c.escape_at-escape.result.size)) _ _ _ _ _ turn (omega arith) c.in_ok-push_fault.ensures c.loop-unit.invariant.faults;
    }

pub loop-unit-preserved : goal.loop-unit-preserved
loop-unit-preserved c = record {
  short = omega (arith, c.loop-unit.invariant.short, c.in-Some.ensures.cases.1);
  faults = faults-at_plain _ _ _ _ c.in-Some.unit.now _ c.in-Some.ensures.cases.0 (ne_eqb c.in-Some.unit.now 92 c.if-unit-eq-BACKSLASH.false) c.loop-unit.invariant.faults;
}

pub returns : goal.returns
returns c = faults-end _ _ _ c.loop-unit.rest.now c.in_default.ensures.cases c.loop-unit.invariant.faults
