use Rattle.std.proofs.Common.{◌≡◌, ℕ, List, ◌∷◌, Some, Option, set, refl, sym, ◌∙◌, ap, subst, arith}
use Rattle.dart_tokens.specs.Groups.{Open, behind_closed, nearest}
use Rattle.dart_tokens.specs.Stack.{bracket_of, open_of}
use Rattle.dart_tokens.specs.Pairing.{EndsAt}
use Rattle.dart_tokens.proofs.OpenLemmas.{BeganBefore-later, nothing_closed, closes_further_out}
use Rattle.dart_tokens.proofs.ClosingLemmas.{ended, EndsAt-ended, sameb-bracket_of}
use Rattle.dart_tokens.proofs.pairing.Pairing.close.Goals as goal

pub returns-then-not-can_close-clause-around : goal.returns-then-not-can_close-clause-around
returns-then-not-can_close-clause-around c = sym (nothing_closed (bracket_of c.args.bracket) c.args.self.now.around (sym c.can_close.ensures ∙ c.if-not-can_close.true))

pub returns-then-eq-clause-partner : goal.returns-then-eq-clause-partner
returns-then-eq-clause-partner c =
    let start = c.args.self.now in
    let bracket = bracket_of c.args.bracket in
    let top : c.loop-group.self.around ≡ open_of c.in-Some.group ∷ c.pop.new.self = c.in-Some.ensures in
    let found = sym (sameb-bracket_of c.in-Some.group.bracket c.args.bracket) ∙ sym c.eq.ensures ∙ c.if-eq.true in
    let after : behind_closed bracket start.around ≡ Some c.pop.new.self = c.loop-group.invariant.behind ∙ ap (behind_closed bracket) top ∙ rw found refl in
    let last : ended c.args.place bracket c.loop-group.self.around c.loop-group.self.partner.items ≡ set c.loop-group.self.partner.items c.in-Some.group.place (Some c.args.place) = ap (λ (x : List Open). ended c.args.place bracket x c.loop-group.self.partner.items) top ∙ rw found refl in
    let new : List (Option ℕ) = set c.loop-group.self.partner.items c.in-Some.group.place (Some c.args.place) in
    subst (λ (x : List (Option ℕ)). EndsAt c.args.place start.around c.pop.new.self start.partner.items x) (c.loop-group.invariant.partner ∙ last) (EndsAt-ended c.args.place bracket start.around c.pop.new.self start.partner.items (rw start.partner.ok.0 at c.requires) after)

pub loop-group-preserved : goal.loop-group-preserved
loop-group-preserved c =
    let top : c.loop-group.self.around ≡ open_of c.in-Some.group ∷ c.pop.new.self = c.in-Some.ensures in
    let other = sym (sameb-bracket_of c.in-Some.group.bracket c.args.bracket) ∙ sym c.eq.ensures ∙ c.if-eq.false in
    let bracket = bracket_of c.args.bracket in
    let began = rw top at c.loop-group.invariant.began in
    let further = closes_further_out (bracket_of c.args.bracket) (open_of c.in-Some.group) c.pop.new.self (rw top at c.loop-group.invariant.closable) other in
    record {
      end = c.loop-group.invariant.end;
      began = BeganBefore-later c.in-Some.group.place c.loop-group.self.partner.len c.pop.new.self (omega (arith, began.0)) began.1;
      closable = further.closable;
      nearest = c.loop-group.invariant.nearest ∙ ap (nearest bracket) top ∙ further.nearest;
      behind = c.loop-group.invariant.behind ∙ ap (behind_closed bracket) top ∙ further.behind;
      partner = c.loop-group.invariant.partner ∙ ap (λ (x : List Open). ended c.args.place bracket x c.loop-group.self.partner.items) top ∙ rw other refl;
    }
