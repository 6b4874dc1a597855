use Rattle.std.proofs.Common.{◌≡◌, ◌∙◌, ℕ, ◌+◌, sym, ap, subst, arith}
use Rattle.core_ir.specs.Program.{Program}
use Rattle.core_machine.specs.State.{State, Reaches, step_of}
use Rattle.dart_server.proofs.WritesLemmas.{is_memory}
use Rattle.dart_server.proofs.RunLemmas.{Adds, Stays, Stands, stands_further, stands_written, wanting_memory, refused_piece, over, spent, on_by_turn, over_by_turn}
use Rattle.dart_server.proofs.run.run_program.Goals as goal

pub returns-in_err-step_into-clause-writes : goal.returns-in_err-step_into-clause-writes
returns-in_err-step_into-clause-writes g c =
    let adds : Adds c.args.program = subst Adds c.program-2.ensures.program c.steps_add_to_what_was_printed.ensures in
    wanting_memory c.args.program adds c.requires c.loop.counter c.args.steps c.loop.auto.counter-end _ _ _ _ _ c.loop.invariant.stands (is_memory _ c.from_residual-in_err-step_into.ensures.1)

pub returns-in_err-write_piece-in-Went-clause-writes : goal.returns-in_err-write_piece-in-Went-clause-writes
returns-in_err-write_piece-in-Went-clause-writes g c =
    let adds : Adds c.args.program = subst Adds c.program-2.ensures.program c.steps_add_to_what_was_printed.ensures in
    let taken = c.in_ok-step_into.ensures.step in
    let next : State = record c.step_into.new.machine.1 { output = taken.0 } in
    let step : step_of c.args.program c.loop.machine.1 ≡ Reaches next = ap (λ (p : Program). step_of p c.loop.machine.1) (sym c.loop.invariant.program) ∙ taken.2 in
    refused_piece c.args.program adds c.requires (c.loop.counter + 1) c.args.steps (omega (arith, c.loop-test.true)) _ _ _ _ _ _ c.from_residual-in_err-write_piece-in-Went.ensures.0
    (stands_further c.args.program adds c.loop.counter _ _ _ _ taken.0 _ c.step_into.new.machine.1 c.loop.invariant.stands taken.1 step c.in_ok-step_into.ensures.taken (on_by_turn c.step_into.new.machine.1.end (sym c.in-Went.is ∙ taken.3)))
    c.in_err-write_piece-in-Went.ensures.part

pub returns-in-Done-clause-writes : goal.returns-in-Done-clause-writes
returns-in-Done-clause-writes g c =
    let adds : Adds c.args.program = subst Adds c.program-2.ensures.program c.steps_add_to_what_was_printed.ensures in
    let stays : Stays c.args.program = subst Stays c.program.ensures.program c.a_run_that_is_over_stays.ensures.run in
    let taken = c.in_ok-step_into.ensures.step in
    let next : State = record c.step_into.new.machine.1 { output = taken.0 } in
    let step : step_of c.args.program c.loop.machine.1 ≡ Reaches next = ap (λ (p : Program). step_of p c.loop.machine.1) (sym c.loop.invariant.program) ∙ taken.2 in
    over c.args.program adds stays c.loop.counter c.args.steps c.loop-test.true _ _ _ _ _ taken.0 _ c.step_into.new.machine.1 _ c.loop.invariant.stands (c.as_slice.ensures.value ∙ taken.1) step (over_by_turn c.step_into.new.machine.1.end (sym c.in-Done.is ∙ taken.3)) c.say.ensures.writes

pub loop-preserved : goal.loop-preserved
loop-preserved g c =
    let adds : Adds c.args.program = subst Adds c.program-2.ensures.program c.steps_add_to_what_was_printed.ensures in
    let taken = c.in_ok-step_into.ensures.step in
    let next : State = record c.step_into.new.machine.1 { output = taken.0 } in
    let step : step_of c.args.program c.loop.machine.1 ≡ Reaches next = ap (λ (p : Program). step_of p c.loop.machine.1) (sym c.loop.invariant.program) ∙ taken.2 in
    let piece = c.in_ok-write_piece-in-Went.ensures.piece in
    record {
      stands = stands_written c.args.program (c.loop.counter + 1) _ _ _ _ _ piece.0 _
          (stands_further c.args.program adds c.loop.counter _ _ _ _ taken.0 _ c.step_into.new.machine.1 c.loop.invariant.stands taken.1 step c.in_ok-step_into.ensures.taken (on_by_turn c.step_into.new.machine.1.end (sym c.in-Went.is ∙ taken.3)))
          piece.1 piece.2;
      program = c.step_into.ensures.program ∙ c.loop.invariant.program;
      faults = c.in_ok-write_piece-in-Went.ensures.ok ∙ c.loop.invariant.faults;
    }

pub returns-in_err-extend_from_slice-clause-writes : goal.returns-in_err-extend_from_slice-clause-writes
returns-in_err-extend_from_slice-clause-writes g c =
    let adds : Adds c.args.program = subst Adds c.program-2.ensures.program c.steps_add_to_what_was_printed.ensures in
    wanting_memory c.args.program adds c.requires c.loop.counter c.args.steps c.loop.auto.counter-end _ _ _ _ _ c.loop.invariant.stands (is_memory _ c.from_residual-in_err-extend_from_slice.ensures.1)

pub returns-clause-writes : goal.returns-clause-writes
returns-clause-writes g c =
    let all : c.loop.counter ≡ c.args.steps = omega (arith, c.loop-test.false, c.loop.auto.counter-end) in
    let stands = subst (λ (k : ℕ). Stands c.args.program k (g.K.Sink.written c.args.sink.now) (g.K.Sink.written c.loop.sink) c.loop.printed.items c.loop.machine.1) all c.loop.invariant.stands in
    spent c.args.program c.args.steps _ _ _ _ _ _ _ stands (c.as_slice-2.ensures.value ∙ c.in_ok-extend_from_slice.ensures.items) c.say-2.ensures.writes
