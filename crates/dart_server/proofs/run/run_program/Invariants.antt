use Rattle.std.proofs.Common.{◌≡◌}
use Rattle.dart_server.proofs.RunLemmas.{Stands}
use Rattle.dart_server.proofs.run.run_program.Given as goal

-- the run stands after as many steps as the loop took, and the sink has not failed
abbrev pub invariant-loop : goal.invariant-loop
invariant-loop g l = record {
  stands : Stands l.fn.program l.counter (g.K.Sink.written l.fn.sink) (g.K.Sink.written l.sink) l.printed.items l.machine.1;
  program : l.machine.0 ≡ l.fn.program;
  faults : g.K.Sink.faults l.sink ≡ g.K.Sink.faults l.fn.sink;
}
