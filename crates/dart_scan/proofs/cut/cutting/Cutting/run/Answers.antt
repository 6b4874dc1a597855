use Rattle.std.proofs.Common.{Bool, subst, ◌∙◌}
use Rattle.dart_scan.specs.Runs.{Pauses, StepsOrPauses}
use Rattle.dart_scan.proofs.RunLemmas.{run_is}
use Rattle.dart_scan.proofs.cut.cutting.Cutting.run.Goals as goal

pub returns : goal.returns
returns c =
    let before = c.loop.self in
    let paused = c.advance.new.self in
    let pauses : Pauses before paused = subst (λ (more : Bool). StepsOrPauses more before paused) c.if-branch.false c.in_ok-advance.ensures in
    run_is c.args.self.now paused c.hand_on.new.self c.hand_on.result.items (pauses.text ∙ c.loop.invariant.text) (pauses.same ∙ c.loop.invariant.same) pauses.sound pauses.outside pauses.last
    c.hand_on.ensures.pieces c.hand_on.ensures.cut c.hand_on.ensures.line c.hand_on.ensures.from
