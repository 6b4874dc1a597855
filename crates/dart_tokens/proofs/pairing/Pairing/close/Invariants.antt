use Rattle.std.proofs.Common.{◌≡◌, true, length, vec_len}
use Rattle.dart_tokens.specs.Groups.{behind_closed, nearest}
use Rattle.dart_tokens.specs.Stack.{BeganBefore, bracket_of, is_closable}
use Rattle.dart_tokens.proofs.ClosingLemmas.{ended}
use Rattle.dart_tokens.proofs.pairing.Pairing.close.Given as goal

abbrev pub invariant-loop-group : goal.invariant-loop-group
invariant-loop-group l =
    let bracket = bracket_of l.bracket in
    record {
      end : l.self.end ≡ l.initial.self.end;
      began : BeganBefore (vec_len l.self.partner) l.self.around;
      closable : is_closable bracket l.self.around ≡ true;
      nearest : nearest bracket l.initial.self.around ≡ nearest bracket l.self.around;
      behind : behind_closed bracket l.initial.self.around ≡ behind_closed bracket l.self.around;
      partner : ended l.place bracket l.initial.self.around l.initial.self.partner.items ≡ ended l.place bracket l.self.around l.self.partner.items;
    }

abbrev pub decreases-loop-group : goal.decreases-loop-group
decreases-loop-group l = length l.self.around
