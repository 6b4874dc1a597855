use Rattle.std.proofs.Common.{◌≡◌, ◌++◌, drop}
use Rattle.dart_tree.specs.Tree.{trees_of}
use Rattle.judgement.specs.Written.{written_in_all}
use Rattle.resolve.specs.Around.{around}
use Rattle.resolve.proofs.judge.written.add_written_in_variables.Given as goal

-- the locals that are written so far and those to come are all
abbrev pub invariant-loop-variable : goal.invariant-loop-variable
invariant-loop-variable l =
    l.written.items ++ written_in_all (around l.context l.names) (trees_of (drop l.variable-index l.variables))
    ≡ l.initial.written.items ++ written_in_all (around l.context l.names) (trees_of l.variables)
