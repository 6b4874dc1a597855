use Rattle.std.proofs.Common.{◌≡◌, ap, ◌∙◌}
use Rattle.core_ir.specs.Program.{Program}
use Rattle.core_machine.specs.State.{main_of}
use Rattle.core_machine.proofs.Soundness.{start_fits}
use Rattle.core_machine.proofs.machine.Machine.new.Goals as goal

-- the frame at the entry of `main` fits
pub invariant_of-result : goal.invariant_of-result
invariant_of-result c =
    let same : c.program-core.result.now ≡ c.args.program = c.program-core.ensures.program in
    let id : c.core.inside.main ≡ c.args.program.main = ap (λ (p : Program). p.main) (c.core.view_is ∙ same) in
    let function : c.main_function.result.now ≡ main_of c.args.program = c.main_function.ensures ∙ ap main_of same in
    rw (c.in_ok-running.ensures, id, function, c.new.ensures.items) (start_fits c.args.program c.program-core.ensures.well_formed c.program-core.ensures.accepted)
