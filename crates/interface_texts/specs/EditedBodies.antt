-- Texts of which one comes from the other by an edit inside a body.
use Rattle.std.specs.Prelude.{◌≡◌, ℕ, ◌≤◌, ◌<◌, Bool, true, false, List, ◌∷◌, ◌++◌, map}
use Rattle.std.specs.List.{All}
use Rattle.dart_tokens.specs.declared.token.Token.{Token}
use Rattle.dart_scan.specs.Scanned.{tokens_of, words_of}
use Rattle.grammar.specs.Tokens.{grammar_tokens}
use Rattle.interface_part.specs.declared.hidden.Hidden.{Hidden}
use Rattle.body_laws.specs.Bodies.{Freedom, Moves, Alike, moved, suits_texts}
use Rattle.edit_laws.specs.Edits.{SameLexemes, AllSameHidden, Holds}
use Rattle.interface_texts.specs.TextParts.{hidden_of}

-- Other tokens stand in the place of one hidden part of a text, and what the grammar reads of both texts is the same but for bodies. What stands before the part stays, and what stands behind it is moved.
pub record EditedBody (in_core : Bool) (text other : List ℕ) : Type 0 where
  -- the tokens before the part, in it and behind it
  pub before : List Token
  pub first : Token
  pub inside : List Token
  pub behind : List Token
  pub tokens : tokens_of text ≡ before ++ ((first ∷ inside) ++ behind)
  -- and those of the other text
  pub earlier : List Token
  pub begun : Token
  pub instead : List Token
  pub later : List Token
  pub edited : tokens_of other ≡ earlier ++ ((begun ∷ instead) ++ later)
  -- what the text hides: before the part and behind it
  pub above : List Hidden
  pub part : Hidden
  pub below : List Hidden
  pub ranges : hidden_of in_core text ≡ above ++ part ∷ below
  -- where tokens are moved to
  pub moves : Moves
  pub steps : ℕ
  pub freedom : Freedom
  pub suits : suits_texts freedom ≡ true
  pub alike : Alike moves freedom steps false (grammar_tokens (tokens_of text)) (grammar_tokens (tokens_of other))
  -- what stands before the part, and its beginning, stay
  pub stays : SameLexemes (words_of text) (words_of other) 0 0 before earlier
  pub fixed : map (moved moves) above ≡ above
  pub begins : part.span.start ≡ moves.starts part.span.start
  pub comes_first : All (λ t. t.start < part.span.start) before
  pub hidden_first : All (λ h. h.span.start ≤ part.span.start) above
  pub hides_first : All (λ h. h.span.end ≤ part.span.start) above
  -- the part holds those tokens
  pub old : Holds part first inside behind
  pub new : Holds (moved moves part) begun instead later
  -- what stands behind it is moved by so much
  pub on : ℕ
  pub back : ℕ
  pub moves_on : SameLexemes (words_of text) (words_of other) on back behind later
  pub hides_on : AllSameHidden on back below (map (moved moves) below)
