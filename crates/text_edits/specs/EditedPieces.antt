-- Texts of which one comes from the other by an edit in the braces of a body, by their pieces.
use Rattle.std.specs.Prelude.{◌≡◌, ℕ, ◌+◌, Bool, true, false, List, [], ◌∷◌, ◌++◌, codes}
use Rattle.plain_text.specs.Units.{units_in}
use Rattle.dart_tokens.specs.declared.token.Kind.TheVariants as kind
use Rattle.dart_tokens.specs.declared.token.Token.{Token}
use Rattle.dart_scan.specs.declared.piece.Class.TheVariants.{Mark}
use Rattle.dart_scan.specs.Pieces.{Spelled, pieces}
use Rattle.dart_scan.specs.Scanned.{lexemes_from, tokens_behind}
use Rattle.interface_part.specs.declared.hidden.Hidden.{Hidden}
use Rattle.interface_part.specs.Interface.{is_seen}
use Rattle.body_laws.specs.Bodies.{Freedom, suits_texts}
use Rattle.interface_texts.specs.TextParts.{hidden_of}
use Rattle.text_edits.specs.Brackets.{leads_to_body}

-- `{` and `}`
abbrev pub left_brace : Spelled
left_brace = (Mark, codes "{")

abbrev pub right_brace : Spelled
right_brace = (Mark, codes "}")

-- how many UTF-16 code units pieces have
abbrev pub units_over : List Spelled → ℕ
units_over [] = 0
units_over (piece ∷ more) = units_in piece.1 + units_over more

-- the tokens that pieces are by themselves
abbrev pub tokens_in : List Spelled → List Token
tokens_in ps = tokens_behind [] (lexemes_from 0 ps)

-- Both texts have the same pieces, but for those in the braces of one body.
pub record EditedPieces (in_core : Bool) (text other : List ℕ) : Type 0 where
  pub front : List Spelled
  pub inside : List Spelled
  pub back : List Spelled
  pub old : pieces text ≡ front ++ (left_brace ∷ (inside ++ (right_brace ∷ back)))
  pub instead : List Spelled
  pub new : pieces other ≡ front ++ (left_brace ∷ (instead ++ (right_brace ∷ back)))
  -- the brace stands where a body may differ, right behind parameters, and the other closes it in both texts
  pub freedom : Freedom
  pub suits : suits_texts freedom ≡ true
  pub leads : leads_to_body freedom (tokens_in inside) kind.CloseBrace (tokens_in instead) kind.CloseBrace (tokens_in back) (tokens_in front) ≡ true
  -- the braces are one of the parts that the text hides, and a mark stands for it in both texts
  pub above : List Hidden
  pub part : Hidden
  pub below : List Hidden
  pub ranges : hidden_of in_core text ≡ above ++ part ∷ below
  pub begins : part.span.start ≡ units_over front
  pub ends : part.span.end ≡ units_over front + 1 + units_over inside + 1
  pub marked : is_seen part (tokens_in inside) ≡ false
  pub marked_there : is_seen part (tokens_in instead) ≡ false
