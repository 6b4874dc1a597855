use Rattle.std.proofs.Common.{refl, sym, ◌∙◌}
use Rattle.parse_statements.proofs.Cases.{sized_goes}
use Rattle.parse_statements.proofs.switches.behind_case.Goals as goal

pub loop-more-preserved : goal.loop-more-preserved
loop-more-preserved c = record {
  reading = sized_goes _ _ _ _ _ _ _ _ c.loop-more.invariant.reading c.loop-more-test.true c.in-Some.ensures.cases.0 (sym c.is_case.ensures ∙ c.if-is_case.false) c.past.ensures c.tokens_behind-rest.ensures refl;
}
