use Rattle.std.proofs.Common.{◌≡◌, true, length, vec_len}
use Rattle.dart_tokens.specs.Groups.{behind_closed}
use Rattle.dart_tokens.specs.Stack.{BeganBefore, bracket_of, is_closable}
use Rattle.grouping.specs.SoFar.{closed_at}
use Rattle.grouping.proofs.sizes.close_groups.Given as goal

abbrev pub invariant-loop-group : goal.invariant-loop-group
invariant-loop-group l =
    let bracket = bracket_of l.bracket in
    record {
      count : vec_len l.read ≡ vec_len l.initial.read;
      began : BeganBefore (vec_len l.read) l.around;
      closable : is_closable bracket l.around ≡ true;
      behind : behind_closed bracket l.initial.around ≡ behind_closed bracket l.around;
      read : closed_at l.end bracket l.initial.around l.initial.read.items ≡ closed_at l.end bracket l.around l.read.items;
    }

abbrev pub decreases-loop-group : goal.decreases-loop-group
decreases-loop-group l = length l.around
