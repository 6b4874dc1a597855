use Rattle.std.proofs.Common.{◌≡◌, List, sym, ap, ◌∙◌, subst}
use Rattle.dart_tokens.specs.declared.token.Token.{Token}
use Rattle.interface_part.specs.declared.numbers.SeenToken.{SeenToken}
use Rattle.interface_part.specs.Keys.{SeenApart}
use Rattle.interface_part.specs.Order.{TokensApart}
use Rattle.interface_part.proofs.NumberLaws.{seen_tokens_apart}
use Rattle.interface_part.proofs.numbers.SeenTokens.of.Goals as goal

pub invariant_of-result : goal.invariant_of-result
invariant_of-result c =
    subst (λ (xs : List SeenToken). SeenApart 0 0 xs) (sym c.in_ok-tokens.ensures)
    (seen_tokens_apart _ _ (subst (λ (ts : List Token). TokensApart 0 ts) (sym (c.deref.ensures.value ∙ c.in_ok-listed.ensures)) c.requires))
