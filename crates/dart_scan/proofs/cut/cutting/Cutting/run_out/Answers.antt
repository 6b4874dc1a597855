use Rattle.dart_scan.proofs.CuttingViews.{run-start, run-end, run-steps, run-done}
use Rattle.dart_scan.proofs.cut.cutting.Cutting.run_out.Goals as goal

pub abandon-requires-clause-start : goal.abandon-requires-clause-start
abandon-requires-clause-start c = run-start _ _ _ _ c.self.view_is c.requires.sound c.requires.code c.in-Some.ensures

pub abandon-requires-clause-end : goal.abandon-requires-clause-end
abandon-requires-clause-end c = run-end _ _ c.self.view_is c.requires.sound

pub returns-in_ok-abandon-in-Some : goal.returns-in_ok-abandon-in-Some
returns-in_ok-abandon-in-Some c = run-steps _ _ _ _ _ c.self.view_is c.requires.sound c.requires.code c.requires.end c.in-Some.ensures c.in_ok-abandon-in-Some.ensures

pub returns-in-None : goal.returns-in-None
returns-in-None c = run-done _ _ _ c.self.view_is c.requires.sound c.requires.code c.requires.end c.in-None.ensures.0 c.in-None.ensures.1
