-- Tokens of two texts that are the same but for what stands in the braces of one body.
use Rattle.std.specs.Prelude.{◌≡◌, true, List, ◌∷◌, ◌++◌}
use Rattle.dart_tokens.specs.declared.token.Kind.TheVariants as kind
use Rattle.dart_tokens.specs.declared.token.Token.{Token}
use Rattle.body_laws.specs.Bodies.{Moves, Freedom}
use Rattle.text_edits.specs.Brackets.{leads_to_body}
use Rattle.text_edits.specs.Twins.{TextTwins, AllTwins}

-- Each token before the braces, the braces, and each token behind them stand in the other list where they are moved to, with others inside.
pub record EditedTokens (m : Moves) (f : Freedom) (ts us : List Token) : Type 0 where
  -- the tokens before the body, the brace that opens it, those in it, the brace that closes it and those behind it
  pub before : List Token
  pub left : Token
  pub inside : List Token
  pub right : Token
  pub behind : List Token
  pub tokens : ts ≡ before ++ (left ∷ (inside ++ (right ∷ behind)))
  -- and those of the other text
  pub earlier : List Token
  pub left_there : Token
  pub instead : List Token
  pub right_there : Token
  pub later : List Token
  pub edited : us ≡ earlier ++ (left_there ∷ (instead ++ (right_there ∷ later)))
  -- outside of the body they are the same
  pub stay : AllTwins m before earlier
  pub opens : TextTwins m left left_there
  pub closes : TextTwins m right right_there
  pub move : AllTwins m behind later
  -- the brace stands where a body may differ, right behind parameters, and the other closes it in both texts
  pub brace : left.kind ≡ kind.OpenBrace
  pub leads : leads_to_body f inside right.kind instead right_there.kind behind before ≡ true
