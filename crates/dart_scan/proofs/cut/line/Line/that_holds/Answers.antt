use Rattle.std.proofs.Common.{arith}
use Rattle.dart_scan.proofs.LineLemmas.{end-from}
use Rattle.dart_scan.proofs.cut.line.Line.that_holds.Goals as goal

pub returns-then-at-self-clause-end : goal.returns-then-at-self-clause-end
returns-then-at-self-clause-end c = end-from c.args.text.now c.args.self.from c.args.self.end c.args.at c.requires.ends c.requires.from (omega arith)
