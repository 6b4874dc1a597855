use Rattle.std.proofs.Common.{sym, ap, arith, ◌++◌}
use Rattle.std.proofs.lemmas.List.{drop_all}
use Rattle.dart_text.specs.Units.{units_of}
use Rattle.dart_scan.proofs.UnitLemmas.{units_pending, units-turn, units-end}
use Rattle.dart_scan.proofs.units.units_of.Goals as goal

pub loop-byte-init : goal.loop-byte-init
unfolding units_of
loop-byte-init c = record {
  more = omega arith;
  bits = omega arith;
  few = omega (arith, c.in_ok-units.ensures.len);
  units = ap (λ done. done ++ units_pending (record { code = 0; more = 0 }) c.args.bytes.now) (sym c.in_ok-units.ensures.items);
}

pub loop-byte-preserved : goal.loop-byte-preserved
loop-byte-preserved c = record {
  more = c.after-begun.ensures.more;
  bits = c.after-begun.ensures.bits;
  few = omega (arith, c.loop-byte.invariant.few, c.in_ok-push_ended.ensures.few);
  units = units-turn _ _ _ _ _ _ _ c.loop-byte-test.true c.after-begun.ensures.begun c.in_ok-push_ended.ensures.units c.loop-byte.invariant.units;
}

pub returns-clause-units : goal.returns-clause-units
returns-clause-units c = units-end _ _ _ _ (drop_all _ _ c.loop-byte-test.false) c.loop-byte.invariant.units
