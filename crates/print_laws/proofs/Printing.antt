-- What is printed of the tokens of a text is a text.
use Rattle.std.proofs.Common.{◌≡◌, ℕ, zero, suc, ◌+◌, ◌<◌, Bool, true, false, List, [], ◌∷◌, ◌++◌, get_or, codes, if◌then◌else◌, refl, sym, ap, subst, ◌∙◌, arith}
use Rattle.std.specs.Str.{IsUtf8}
use Rattle.std.proofs.lemmas.Str.{IsUtf8-nil, IsUtf8-append, IsUtf8-from_ascii}
use denote.Enum.Bare.{sameb}
use Rattle.plain_text.specs.Units.{units_in}
use Rattle.dart_tokens.specs.declared.token.Kind.TheVariants.{UnterminatedString}
use Rattle.dart_tokens.specs.contracts.token.Kind as kinds
use Rattle.dart_tokens.specs.declared.token.Token.{Token}
use Rattle.dart_scan.specs.Pieces.{Spelled, pieces}
use Rattle.dart_scan.specs.Scanned.{Lexeme, is_gap, lexemes_from, lexemes, with_word, words_behind, token_of, tokens_behind, words_of}
use Rattle.dart_scan.specs.StringTexts.{AreTexts, pieces-texts}
use Rattle.tree_print.specs.Printed.{lexeme_of, adjoins, gap_before, printed}
use Rattle.tree_print.specs.Seen.{printed_again}
use Rattle.print_laws.proofs.Words.{lexeme-is}

-- each lexeme is a text
abbrev Texts : List Lexeme → Type 0
Texts [] = Unit {0}
Texts (lexeme ∷ more) = IsUtf8 lexeme.bytes × Texts more

texts : (offset : ℕ) (ps : List Spelled) → AreTexts ps → Texts (lexemes_from offset ps)
unfolding lexemes_from
texts offset [] h = tt
texts offset (piece ∷ more) h = of (is_gap piece.0) (texts (offset + units_in piece.1) more h.1)
  where
    of : (s : Bool) → Texts (lexemes_from (offset + units_in piece.1) more) → Texts (if s then lexemes_from (offset + units_in piece.1) more else record { class = piece.0; start = offset; bytes = piece.1 } ∷ lexemes_from (offset + units_in piece.1) more)
    of true later = later
    of false later = (h.0, later)

one_low : (byte : ℕ) → byte < 128 → (i : ℕ) → get_or (byte ∷ []) i 0 < 128
one_low byte h zero = h
one_low byte h (suc i) = omega arith

gap_text : (behind : List Token) (token : Token) → IsUtf8 (gap_before behind token)
gap_text [] token = IsUtf8-nil
gap_text (next ∷ behind) token = of (adjoins token (next ∷ behind)) (sameb kinds.the_type token.kind UnterminatedString)
  where
    of : (s endless : Bool) → IsUtf8 (if s then [] else (if endless then codes "\n" else codes " "))
    of true endless = IsUtf8-nil
    of false true = IsUtf8-from_ascii (10 ∷ []) (one_low 10 (omega arith))
    of false false = IsUtf8-from_ascii (32 ∷ []) (one_low 32 (omega arith))

printed_text : (ls : List Lexeme) → Texts ls → (words final : List (List ℕ)) → final ≡ words_behind words ls → IsUtf8 (printed final (tokens_behind words ls))
unfolding words_behind tokens_behind
printed_text [] h words final is = IsUtf8-nil
printed_text (l ∷ ls) h words final is =
    IsUtf8-append (lexeme_of final (token_of words l)) (gap_before behind (token_of words l) ++ printed final behind)
    (subst IsUtf8 (sym (ap (λ (ws : List (List ℕ)). lexeme_of ws (token_of words l)) is ∙ lexeme-is words l ls)) h.0)
    (IsUtf8-append (gap_before behind (token_of words l)) (printed final behind) (gap_text behind (token_of words l)) (printed_text ls h.1 (with_word words l.bytes) final is))
  where
    behind : List Token
    behind = tokens_behind (with_word words l.bytes) ls

pub printed-again-text : (text : List ℕ) → IsUtf8 text → IsUtf8 (printed_again text)
printed-again-text text utf8 = printed_text (lexemes text) (texts 0 (pieces text) (pieces-texts text utf8)) [] (words_of text) refl
