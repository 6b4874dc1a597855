use Rattle.std.proofs.Common.{◌≡◌, ◌==◌, true, length, arith}
use Rattle.std.proofs.lemmas.Bool.Decides.{nat_tests}
use Rattle.dart_scan.specs.Openings.{shape}
use Rattle.dart_scan.proofs.CuttingViews.{reach-is}
use Rattle.dart_scan.proofs.cut.cutting.Cutting.reach.Goals as goal

pub returns-clause-reach : goal.returns-clause-reach
returns-clause-reach c =
    let one : (length c.args.form.quotes.now == 1) ≡ true = grind (arith, nat_tests, c.if-form-ne1.false) in
    reach-is _ _ (shape c.args.form) _ _ c.self.view_is c.requires.within one c.that_holds-self-inside.ensures.end c.min.ensures
