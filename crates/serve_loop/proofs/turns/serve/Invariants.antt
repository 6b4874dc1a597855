use Rattle.std.proofs.Common.{◌≡◌, ◌+◌, ◌-◌, length, false}
use Rattle.std.specs.Option.{ForSome}
use Rattle.serve_loop.specs.Event.{Event}
use Rattle.serve_loop.proofs.Progress.{Progress}
use Rattle.serve_loop.proofs.turns.serve.Given as goal

abbrev pub invariant-loop-is_too_long : goal.invariant-loop-is_too_long
invariant-loop-is_too_long g l =
    record {
      max : l.line.max ≡ l.line_limit;
      budget : l.line.budget ≡ l.input_limit;
      progress : ForSome (g.S.Source.left l.fn.source) (λ input. Progress g.A.Answerer.uses (g.A.Answerer.gives (g.F.Files.told l.fn.files)) l.line_limit (g.A.Answerer.state l.fn.answerer) input (g.K.Sink.written l.fn.sink) (g.K.Sink.written l.sink) (g.A.Answerer.state l.answerer) l.line (g.S.Source.left l.source) (g.F.Files.faults l.fn.files) (g.F.Files.faults l.files) (g.F.Files.lists l.fn.files) (g.F.Files.lists l.files) (g.F.Files.reads l.fn.files) (g.F.Files.reads l.files));
      told : g.F.Files.told l.files ≡ g.F.Files.told l.fn.files;
      unused : ((event : Event) → g.A.Answerer.uses event ≡ false) → g.F.Files.faults l.files ≡ g.F.Files.faults l.fn.files;
      uncalled : ((event : Event) → g.A.Answerer.uses event ≡ false) → (g.F.Files.lists l.files ≡ g.F.Files.lists l.fn.files) × (g.F.Files.reads l.files ≡ g.F.Files.reads l.fn.files);
      reads : g.S.Source.faults l.source ≡ g.S.Source.faults l.fn.source;
      writes : g.K.Sink.faults l.sink ≡ g.K.Sink.faults l.fn.sink;
      shortages : g.K.Sink.shortages l.sink ≡ g.K.Sink.shortages l.fn.sink;
    }

abbrev pub decreases-loop-is_too_long : goal.decreases-loop-is_too_long
decreases-loop-is_too_long g l = (l.line.budget - l.line.taken) + length l.line.kept
