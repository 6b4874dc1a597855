use Rattle.std.proofs.Common.{◌≡◌, ℕ, ◌+◌, arith, length, get_or, sym, ◌∙◌, ap}
use Rattle.std.proofs.lemmas.Option.{slice_get-get_or}
use Rattle.dart_tokens.specs.declared.token.Token.{Token}
use Rattle.dart_tokens.specs.declared.token.Kind.TheVariants as kind
use Rattle.dart_tokens.specs.Groups.{after_token}
use Rattle.dart_tokens.proofs.AroundLemmas.{BeganBefore-around}
use Rattle.dart_tokens.proofs.PartnerLemmas.{Turn, around-turn, SoFar-turn, SoFar-end}
use Rattle.dart_tokens.proofs.pairing.partners.Goals as goal

pub take-requires-clause-began : goal.take-requires-clause-began
take-requires-clause-began c = rw (c.loop-token.invariant.around, c.loop-token.invariant.count) (BeganBefore-around c.loop-token.token-index c.args.tokens.now)

pub loop-token-preserved : goal.loop-token-preserved
loop-token-preserved c =
    let before = c.loop-token.pairing in
    let place = c.loop-token.token-index in
    let tokens = c.args.tokens.now in
    let token : Token = get_or tokens place (record { kind = kind.Identifier; start = 0; end = 0; word = 0 }) in
    let after = c.take.new.self in
    let after_is : after.around ≡ after_token place token.kind before.around = c.in_ok-take.ensures.around ∙ ap (λ (n : ℕ). after_token n token.kind before.around) c.loop-token.invariant.count in
    let turn : Turn before.end place tokens token before.around after.around before.partner.items after.partner.items = record {
      at = slice_get-get_or tokens place _ c.loop-token-test.true;
      end_is = c.loop-token.invariant.end;
      around_is = c.loop-token.invariant.around;
      count = sym before.partner.ok.0 ∙ c.loop-token.invariant.count;
      after_is = after_is;
      takes = c.in_ok-take.ensures.partner;
    } in
    record {
      end = c.in_ok-take.ensures.end ∙ c.loop-token.invariant.end;
      around = around-turn _ _ _ _ _ _ _ _ turn;
      count = after.partner.ok.0 ∙ c.in_ok-take.ensures.partner.count ∙ ap (λ (n : ℕ). n + 1) (sym before.partner.ok.0 ∙ c.loop-token.invariant.count);
      partner = SoFar-turn _ _ _ _ _ _ _ _ turn c.loop-token.invariant.partner;
    }

pub returns : goal.returns
returns c =
    let partner = c.loop-token.pairing.partner in
    let tokens = c.args.tokens.now in
    let all : c.loop-token.token-index ≡ length tokens = omega (arith, c.loop-token-test.false, c.loop-token.auto) in
    SoFar-end tokens partner.items (sym partner.ok.0 ∙ c.loop-token.invariant.count ∙ all) (rw all at c.loop-token.invariant.partner)
