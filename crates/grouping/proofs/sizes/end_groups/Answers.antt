use Rattle.std.proofs.Common.{◌≡◌, ℕ, List, ◌∷◌, sym, ap, ◌∙◌, arith, vec_len}
use Rattle.dart_tokens.specs.declared.grouped_token.GroupedToken.{GroupedToken}
use Rattle.dart_tokens.specs.Groups.{Open}
use Rattle.dart_tokens.specs.Stack.{open_of}
use Rattle.grouping.specs.SoFar.{ended_at}
use Rattle.grouping.proofs.EndLemmas.{BeganBefore-later}
use Rattle.grouping.proofs.sizes.end_groups.Goals as goal

pub loop-group-preserved : goal.loop-group-preserved
loop-group-preserved c =
    let end : ℕ = c.len-end.result in
    let place : ℕ = c.in-Some.group.place in
    let read = c.loop-group.read.items in
    let top : c.loop-group.around ≡ open_of c.in-Some.group ∷ c.pop.new.self = c.in-Some.ensures in
    let began = rw top at c.loop-group.invariant.began in
    record {
      end = c.loop-group.invariant.end;
      began = BeganBefore-later place (vec_len c.set_size.new.read) c.pop.new.self (omega (arith, began.0, c.set_size.ensures.count)) began.1;
      read =
          c.loop-group.invariant.read ∙ ap (λ (around : List Open). ended_at end around read) top
          ∙ ap (λ (xs : List GroupedToken). ended_at end c.pop.new.self xs) (sym c.set_size.ensures.size);
    }
