use Rattle.dart_scan.proofs.EscapeLemmas.{AtEscape, unescaped-at_escape, unescaped-at_plain, unescaped-end}
use Rattle.std.proofs.lemmas.Bool.{ne_eqb}
use Rattle.dart_scan.proofs.escape.unescaped.Goals as goal

pub loop-unit-preserved-then-unit-eq-BACKSLASH : goal.loop-unit-preserved-then-unit-eq-BACKSLASH
loop-unit-preserved-then-unit-eq-BACKSLASH c =
    let turn : AtEscape c.loop-unit.rest.now c.in-Some.unit.now c.in-Some.after.now c.escape_at-escape.result c.split_at.result.1.now = record {
      front = c.in-Some.ensures.cases.0;
      backslash = c.if-unit-eq-BACKSLASH.true;
      escape_is = c.escape_at-escape.ensures.escape;
      back = c.split_at.ensures.back;
    } in
    unescaped-at_escape _ _ _ _ _ _ _ _ turn c.in_ok-push_escape.ensures c.loop-unit.invariant

pub loop-unit-preserved : goal.loop-unit-preserved
loop-unit-preserved c =
    unescaped-at_plain _ _ _ _ c.in-Some.unit.now _ c.in-Some.ensures.cases.0 (ne_eqb c.in-Some.unit.now 92 c.if-unit-eq-BACKSLASH.false) c.in_ok-push.ensures.items c.loop-unit.invariant

pub returns : goal.returns
returns c = unescaped-end _ _ c.loop-unit.rest.now c.in_default.ensures.cases c.loop-unit.invariant
