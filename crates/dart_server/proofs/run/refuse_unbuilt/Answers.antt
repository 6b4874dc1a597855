use Rattle.std.proofs.Common.{Bool, sym, subst}
use Rattle.dart_server.specs.Run.{UnbuiltGives}
use Rattle.dart_server.specs.Writes.{Writes}
use Rattle.dart_server.proofs.run.refuse_unbuilt.Goals as goal

pub returns-then-has_main-clause-writes : goal.returns-then-has_main-clause-writes
returns-then-has_main-clause-writes g c =
    subst (λ (main : Bool). Writes (UnbuiltGives main) (g.K.Sink.written c.args.sink.now) (g.K.Sink.written c.say.new.sink) c.say.result) (sym c.if-has_main.true) c.say.ensures.writes

pub returns-else-has_main-clause-writes : goal.returns-else-has_main-clause-writes
returns-else-has_main-clause-writes g c =
    subst (λ (main : Bool). Writes (UnbuiltGives main) (g.K.Sink.written c.args.sink.now) (g.K.Sink.written c.say-else-has_main.new.sink) c.say-else-has_main.result) (sym c.if-has_main.false) c.say-else-has_main.ensures.writes
