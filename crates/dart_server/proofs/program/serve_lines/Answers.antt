use Rattle.dart_server.proofs.ShortageLemmas.{counts_shortage}
use Rattle.dart_server.proofs.program.serve_lines.Goals as goal

pub returns-clause-output : goal.returns-clause-output
returns-clause-output g c = λ input e. record {
  end = c.serve-end.result;
  status_is = c.status_of.ensures;
  counts = counts_shortage c.serve-end.result _ _ c.serve-end.ensures.short c.serve-end.ensures.not_short;
  served = rw c.new-session.ensures at (c.serve-end.ensures.served input e);
  quiet = c.serve-end.ensures.quiet input e;
}
