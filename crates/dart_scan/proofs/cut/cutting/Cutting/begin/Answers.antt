use Rattle.std.proofs.Common.{refl, sym, ◌∙◌}
use Rattle.dart_scan.proofs.CuttingViews.{marked-begins, fresh-begins}
use Rattle.dart_scan.proofs.cut.cutting.Cutting.begin.Goals as goal

pub returns-then-starts_with-clause-sound : goal.returns-then-starts_with-clause-sound
returns-then-starts_with-clause-sound c =
    (marked-begins c.fresh-cutting.result c.fresh-cutting.result c.add.new.self c.args.text.now refl c.fresh-cutting.ensures.cut c.fresh-cutting.ensures.line c.fresh-cutting.ensures.from (sym c.starts_with.ensures.value ∙ c.if-starts_with.true) c.in_ok-add.ensures).0

pub returns-then-starts_with-clause-same : goal.returns-then-starts_with-clause-same
returns-then-starts_with-clause-same c =
    (marked-begins c.fresh-cutting.result c.fresh-cutting.result c.add.new.self c.args.text.now refl c.fresh-cutting.ensures.cut c.fresh-cutting.ensures.line c.fresh-cutting.ensures.from (sym c.starts_with.ensures.value ∙ c.if-starts_with.true) c.in_ok-add.ensures).1

pub returns-clause-sound : goal.returns-clause-sound
returns-clause-sound c =
    (fresh-begins c.fresh-cutting.result c.args.text.now c.fresh-cutting.ensures.cut c.fresh-cutting.ensures.line c.fresh-cutting.ensures.from (sym c.starts_with.ensures.value ∙ c.if-starts_with.false)).0

pub returns-clause-same : goal.returns-clause-same
returns-clause-same c =
    (fresh-begins c.fresh-cutting.result c.args.text.now c.fresh-cutting.ensures.cut c.fresh-cutting.ensures.line c.fresh-cutting.ensures.from (sym c.starts_with.ensures.value ∙ c.if-starts_with.false)).1
