use Rattle.dart_scan.proofs.CuttingViews.{on-ok, brace-steps}
use Rattle.dart_scan.proofs.cut.cutting.Cutting.brace.Goals as goal

pub returns-in-Some : goal.returns-in-Some
returns-in-Some c = on-ok c.go_on.result c.go_on.ensures (λ made. brace-steps _ _ _ _ _ c.self.view_is c.requires.sound c.requires.code c.requires.some c.requires.brace c.in-Some.ensures made)
