use Rattle.std.proofs.Common.{◌≡◌, ◌-◌, ℕ, suc, List, ◌∷◌, Bool, false, refl, sym, ap, ◌∙◌, arith, vec_len}
use Rattle.dart_tokens.specs.declared.grouped_token.GroupedToken.{GroupedToken}
use Rattle.dart_tokens.specs.Groups.{Open, is_same, behind_closed}
use Rattle.dart_tokens.specs.Stack.{bracket_of, open_of}
use Rattle.grouping.specs.SoFar.{closed_at, sized_at}
use Rattle.grouping.proofs.EndLemmas.{BeganBefore-later}
use Rattle.grouping.proofs.BracketLemmas.{same_bracket, closes_further_out}
use Rattle.grouping.proofs.sizes.close_groups.Goals as goal

pub loop-group-preserved : goal.loop-group-preserved
loop-group-preserved c =
    let bracket = bracket_of c.args.bracket in
    let end = c.args.end in
    let place : ℕ = c.in-Some.group.place in
    let read = c.loop-group.read.items in
    let top : c.loop-group.around ≡ open_of c.in-Some.group ∷ c.pop.new.self = c.in-Some.ensures in
    let other : is_same bracket (bracket_of c.in-Some.group.bracket) ≡ false = sym (same_bracket c.in-Some.group.bracket c.args.bracket) ∙ sym c.eq-closed.ensures ∙ c.if-closed.false in
    let began = rw top at c.loop-group.invariant.began in
    let further = closes_further_out bracket (open_of c.in-Some.group) c.pop.new.self (rw top at c.loop-group.invariant.closable) other in
    let size : sized_at place (end - suc place) false read ≡ c.set_size.new.read.items
    = ap (λ (b : Bool). sized_at place (end - suc place) b read) (sym c.if-closed.false) ∙ sym c.set_size.ensures.size in
    record {
      count = c.set_size.ensures.count ∙ c.loop-group.invariant.count;
      began = BeganBefore-later place (vec_len c.set_size.new.read) c.pop.new.self (omega (arith, began.0, c.set_size.ensures.count)) began.1;
      closable = further.closable;
      behind = c.loop-group.invariant.behind ∙ ap (behind_closed bracket) top ∙ further.behind;
      read =
          c.loop-group.invariant.read ∙ ap (λ (around : List Open). closed_at end bracket around read) top ∙ rw other refl
          ∙ ap (λ (xs : List GroupedToken). closed_at end bracket c.pop.new.self xs) size;
    }
