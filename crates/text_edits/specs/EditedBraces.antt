-- Texts of which one comes from the other by an edit in the braces of a body.
use Rattle.std.specs.Prelude.{◌≡◌, ℕ, Bool, true, false, List, [], ◌∷◌, ◌++◌}
use Rattle.dart_tokens.specs.declared.token.Kind.TheVariants as kind
use Rattle.dart_tokens.specs.declared.token.Token.{Token}
use Rattle.dart_scan.specs.Scanned.{tokens_of, words_of}
use Rattle.interface_part.specs.declared.hidden.Hidden.{Hidden}
use Rattle.interface_part.specs.Interface.{is_seen}
use Rattle.body_laws.specs.Bodies.{Freedom, suits_texts}
use Rattle.edit_laws.specs.Edits.{SameLexeme, SameLexemes}
use Rattle.interface_texts.specs.TextParts.{hidden_of}
use Rattle.text_edits.specs.Brackets.{leads_to_body}

-- Other tokens stand in the braces of one body. What stands before the body stays, and what stands behind it is moved.
pub record EditedBraces (in_core : Bool) (text other : List ℕ) : Type 0 where
  -- the tokens before the body, the brace that opens it, those in it, the brace that closes it and those behind it
  pub before : List Token
  pub left : Token
  pub inside : List Token
  pub right : Token
  pub behind : List Token
  pub tokens : tokens_of text ≡ before ++ (left ∷ (inside ++ (right ∷ behind)))
  -- and those of the other text
  pub earlier : List Token
  pub left_there : Token
  pub instead : List Token
  pub right_there : Token
  pub later : List Token
  pub edited : tokens_of other ≡ earlier ++ (left_there ∷ (instead ++ (right_there ∷ later)))
  -- outside of the body both texts have the same lexemes, those behind it so much further on or back
  pub on : ℕ
  pub back : ℕ
  pub stays : SameLexemes (words_of text) (words_of other) 0 0 before earlier
  pub opens : SameLexeme (words_of text) (words_of other) 0 0 left left_there
  pub closes : SameLexeme (words_of text) (words_of other) on back right right_there
  pub moves_on : SameLexemes (words_of text) (words_of other) on back behind later
  -- the brace stands where a body may differ, right behind parameters, and the other closes it in both texts
  pub brace : left.kind ≡ kind.OpenBrace
  pub freedom : Freedom
  pub suits : suits_texts freedom ≡ true
  pub leads : leads_to_body freedom inside right.kind instead right_there.kind behind before ≡ true
  -- the braces are one of the parts that the text hides, and a mark stands for it in both texts
  pub above : List Hidden
  pub part : Hidden
  pub below : List Hidden
  pub ranges : hidden_of in_core text ≡ above ++ part ∷ below
  pub begins : part.span.start ≡ left.start
  pub ends : part.span.end ≡ right.end
  pub marked : is_seen part (left ∷ (inside ++ right ∷ [])) ≡ false
  pub marked_there : is_seen part (left_there ∷ (instead ++ right_there ∷ [])) ≡ false
