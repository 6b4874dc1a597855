use Rattle.std.proofs.Common.{◌≡◌, length, vec_len}
use Rattle.dart_tokens.specs.Stack.{BeganBefore}
use Rattle.grouping.specs.SoFar.{ended_at}
use Rattle.grouping.proofs.sizes.end_groups.Given as goal

abbrev pub invariant-loop-group : goal.invariant-loop-group
invariant-loop-group l =
    record {
      end : l.end ≡ vec_len l.initial.read;
      began : BeganBefore (vec_len l.read) l.around;
      read : ended_at l.end l.initial.around l.initial.read.items ≡ ended_at l.end l.around l.read.items;
    }

abbrev pub decreases-loop-group : goal.decreases-loop-group
decreases-loop-group l = length l.around
