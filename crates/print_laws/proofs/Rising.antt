-- The tokens of a text rise.
use Rattle.std.proofs.Common.{◌≡◌, ℕ, zero, suc, ◌+◌, ◌<◌, ◌≤◌, Bool, true, false, List, [], ◌∷◌, length, if◌then◌else◌, Some, slice_get, arith}
use Rattle.std.specs.Prelude.{All}
use Rattle.std.specs.Str.{IsUtf8}
use Rattle.std.proofs.lemmas.Bool.Decides.{nat_tests}
use Rattle.std.proofs.lemmas.List.Elements.{All-nil, All-cons}
use Rattle.std.proofs.lemmas.List.Sums.{sum_by-cons}
use Rattle.std.proofs.lemmas.Str.{IsCharBoundary-start}
use Rattle.plain_text.specs.Units.{units_of_byte, units_in}
use Rattle.dart_tokens.specs.declared.token.Token.{Token}
use Rattle.dart_scan.specs.Pieces.{Spelled, pieces}
use Rattle.dart_scan.specs.Scanned.{is_gap, lexemes_from, with_word, tokens_behind, tokens_of}
use Rattle.dart_scan.specs.StepLemmas.{pieces-some, IsSome}
use Rattle.dart_scan.specs.StringTexts.{AreTexts, pieces-texts}
use Rattle.node_counts.specs.Rising.{TextRises}

-- each begins behind the one before it, or at its end, and takes a code unit at least
abbrev pub RiseFrom : (from : ℕ) → List Token → Type 0
RiseFrom from [] = Unit {0}
RiseFrom from (token ∷ tokens) = (from ≤ token.start) × (token.start < token.end) × RiseFrom token.end tokens

rise_later : (from later : ℕ) (tokens : List Token) → from ≤ later → RiseFrom later tokens → RiseFrom from tokens
rise_later from later [] less r = tt
rise_later from later (token ∷ tokens) less r = (omega (arith, less, r.0), r.1, r.2)

-- a text that isn't empty has a code unit at least
unit_at_least : (bytes : List ℕ) → IsUtf8 bytes → 0 < length bytes → 0 < units_in bytes
unit_at_least [] utf8 some = absurd (omega (arith, some))
unit_at_least (byte ∷ bytes) utf8 some =
    let lead : 128 ≤ byte → 192 ≤ byte = (IsCharBoundary-start (byte ∷ bytes) utf8).1 some in
    let one : 0 < units_of_byte byte = least byte lead in
    let sum : units_in (byte ∷ bytes) ≡ units_of_byte byte + units_in bytes = sum_by-cons units_of_byte byte bytes in
    rw sum (omega (arith, one))
  where
    least : (byte : ℕ) → (128 ≤ byte → 192 ≤ byte) → 0 < units_of_byte byte
    least byte lead = grind (arith, nat_tests)

rises : (words : List (List ℕ)) (from : ℕ) (ps : List Spelled) → AreTexts ps → All IsSome ps → RiseFrom from (tokens_behind words (lexemes_from from ps))
unfolding lexemes_from tokens_behind
rises words from [] texts some = tt
rises words from (piece ∷ more) texts some =
    let others : All IsSome more = λ k d h. some (suc k) d (omega (arith, h)) in
    either (λ ws. rises ws (from + units_in piece.1) more texts.1 others) (is_gap piece.0)
  where
    long : from < from + units_in piece.1
    long = let least = unit_at_least piece.1 texts.0 (some zero piece (omega arith)) in omega (arith, least)

    either : ((ws : List (List ℕ)) → RiseFrom (from + units_in piece.1) (tokens_behind ws (lexemes_from (from + units_in piece.1) more))) → (gap : Bool) →
        RiseFrom from (tokens_behind words (if gap then lexemes_from (from + units_in piece.1) more else record { class = piece.0; start = from; bytes = piece.1 } ∷ lexemes_from (from + units_in piece.1) more))
    either again true = rise_later from (from + units_in piece.1) (tokens_behind words (lexemes_from (from + units_in piece.1) more)) (omega (arith, long)) (again words)
    either again false = (omega arith, long, again (with_word words piece.1))

pub text-rises : (text : List ℕ) → IsUtf8 text → RiseFrom 0 (tokens_of text)
unfolding pieces
text-rises text utf8 = rises [] 0 (pieces text) (pieces-texts text utf8) (pieces-some (length text) true text)

-- So each ends before any later one begins.

behind_from : (from : ℕ) (tokens : List Token) (place : ℕ) (token : Token) → RiseFrom from tokens → slice_get tokens place ≡ Some token → from ≤ token.start
behind_from from [] place token r e = absurd (cc)
behind_from from (t ∷ tokens) zero token r e = let same : t ≡ token = cc in rw (← same) r.0
behind_from from (t ∷ tokens) (suc place) token r e = let there = behind_from t.end tokens place token r.2 e in omega (arith, r.0, r.1, there)

in_order : (from : ℕ) (tokens : List Token) (first second : ℕ) (one other : Token) → RiseFrom from tokens → first < second → slice_get tokens first ≡ Some one → slice_get tokens second ≡ Some other → one.end ≤ other.start
in_order from [] first second one other r less a b = absurd (cc)
in_order from (t ∷ tokens) zero zero one other r less a b = absurd (omega (arith, less))
in_order from (t ∷ tokens) zero (suc second) one other r less a b =
    let same : t ≡ one = cc in
    let there = behind_from t.end tokens second other r.2 b in
    rw (← same) there
in_order from (t ∷ tokens) (suc first) zero one other r less a b = absurd (omega (arith, less))
in_order from (t ∷ tokens) (suc first) (suc second) one other r less a b = in_order t.end tokens first second one other r.2 (omega (arith, less)) a b

all_some : (from : ℕ) (tokens : List Token) → RiseFrom from tokens → All (λ token. token.start < token.end) tokens
all_some from [] r = All-nil (λ token. token.start < token.end)
all_some from (t ∷ tokens) r = All-cons (λ token. token.start < token.end) t tokens r.1 (all_some t.end tokens r.2)

pub rises-apart : (tokens : List Token) → RiseFrom 0 tokens → TextRises tokens
rises-apart tokens r = (all_some 0 tokens r, (λ first second one other less a b. in_order 0 tokens first second one other r less a b))
