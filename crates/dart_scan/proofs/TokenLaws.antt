-- Tokens rise, and the word of each is its part of the text.
use Rattle.std.proofs.Common.{◌≡◌, ℕ, zero, suc, ◌+◌, ◌<◌, ◌≤◌, ◌||◌, not, Bool, true, false, List, [], ◌∷◌, ◌++◌, length, bytes_eq, if◌then◌else◌, Option, Some, slice_get, refl, sym, ap, subst, ◌∙◌, arith, append_assoc, IsSomeAnd}
use Rattle.std.specs.Prelude.{All}
use Rattle.std.specs.List.{list_any, position_or_len}
use Rattle.std.specs.Str.{IsUtf8}
use Rattle.std.proofs.lemmas.Bool.Decides.{nat_tests}
use Rattle.std.proofs.lemmas.List.Elements.{All-nil, All-cons}
use Rattle.std.proofs.lemmas.List.Sums.{sum_by-append, sum_by-cons}
use Rattle.std.proofs.lemmas.Slice.Eq.{bytes_eq-Decides}
use Rattle.std.proofs.lemmas.Str.{IsCharBoundary-start}
use Rattle.plain_text.specs.Units.{units_of_byte, units_in}
use Rattle.dart_tokens.specs.declared.token.Token.{Token}
use Rattle.dart_scan.specs.Pieces.{Spelled, pieces}
use Rattle.dart_scan.specs.Scanned.{Lexeme, is_gap, lexemes_from, with_word, words_behind, token_of, tokens_behind, tokens_of, words_of}
use Rattle.dart_scan.specs.TokenPlaces.{IsPart}
use Rattle.dart_scan.specs.StepLemmas.{bytes_of, pieces-cover, pieces-some, IsSome}
use Rattle.dart_scan.specs.StringTexts.{AreTexts, pieces-texts}

-- Words and their places.

-- a word stands at its place once it is among the words
at_place : (word : List ℕ) (words : List (List ℕ)) (found : Bool) → list_any (bytes_eq word) words ≡ found → slice_get (if found then words else words ++ word ∷ []) (position_or_len (bytes_eq word) words) ≡ Some word
at_place word [] true h = absurd (cc)
at_place word [] false h = refl
at_place word (w ∷ words) found h = either (bytes_eq word w) found refl h (at_place word words)
  where
    one_more : 1 + position_or_len (bytes_eq word) words ≡ suc (position_or_len (bytes_eq word) words)
    one_more = omega arith

    either : (same found : Bool) → bytes_eq word w ≡ same → (same || list_any (bytes_eq word) words) ≡ found →
        ((found : Bool) → list_any (bytes_eq word) words ≡ found → slice_get (if found then words else words ++ word ∷ []) (position_or_len (bytes_eq word) words) ≡ Some word) →
        slice_get (if found then w ∷ words else w ∷ words ++ word ∷ []) (if not same then 1 + position_or_len (bytes_eq word) words else 0) ≡ Some word
    either true true e h more = ap (λ (x : List ℕ). Some x) (sym ((bytes_eq-Decides word w).0 e))
    either true false e h more = absurd (cc)
    either false true e h more = rw one_more (more true h)
    either false false e h more = rw one_more (more false h)

-- a word keeps its place
stays : (word : List ℕ) (words : List (List ℕ)) (place : ℕ) (x : List ℕ) → slice_get words place ≡ Some word → slice_get (words ++ x ∷ []) place ≡ Some word
stays word [] place x e = absurd (cc)
stays word (w ∷ words) zero x e = e
stays word (w ∷ words) (suc place) x e = stays word words place x e

stays_with : (word : List ℕ) (words : List (List ℕ)) (place : ℕ) (x : List ℕ) (found : Bool) → slice_get words place ≡ Some word → slice_get (if found then words else words ++ x ∷ []) place ≡ Some word
stays_with word words place x true e = e
stays_with word words place x false e = stays word words place x e

stays_behind : (word : List ℕ) (words : List (List ℕ)) (place : ℕ) (ls : List Lexeme) → slice_get words place ≡ Some word → slice_get (words_behind words ls) place ≡ Some word
unfolding words_behind
stays_behind word words place [] e = e
stays_behind word words place (lexeme ∷ more) e =
    stays_behind word (with_word words lexeme.bytes) place more (stays_with word words place lexeme.bytes (list_any (bytes_eq lexeme.bytes) words) e)

-- Each token is a part of the text, and its word is that part.

abbrev HasWord : (text : List ℕ) → (words : List (List ℕ)) → Token → Type 0
HasWord text words token = IsSomeAnd (slice_get words token.word) (IsPart text token)

words_are_parts : (text before : List ℕ) (ps : List Spelled) (words final : List (List ℕ)) → text ≡ before ++ bytes_of ps → final ≡ words_behind words (lexemes_from (units_in before) ps) →
    All (HasWord text final) (tokens_behind words (lexemes_from (units_in before) ps))
unfolding lexemes_from tokens_behind words_behind
words_are_parts text before [] words final split is = All-nil (HasWord text final)
words_are_parts text before (piece ∷ more) words final split is = either (λ ws e. words_are_parts text (before ++ piece.1) more ws final (split ∙ further) e) (is_gap piece.0) is
  where
    further : before ++ (piece.1 ++ bytes_of more) ≡ (before ++ piece.1) ++ bytes_of more
    further = sym (append_assoc before piece.1 (bytes_of more))

    units : units_in (before ++ piece.1) ≡ units_in before + units_in piece.1
    units = sum_by-append units_of_byte before piece.1

    here : Lexeme
    here = record { class = piece.0; start = units_in before; bytes = piece.1 }

    part : IsPart text (token_of words here) piece.1
    part = record { before = before; after = bytes_of more; split = split; start = refl; end = refl }

    word_is : slice_get (words_behind (with_word words piece.1) (lexemes_from (units_in before + units_in piece.1) more)) (position_or_len (bytes_eq piece.1) words) ≡ Some piece.1
    word_is = stays_behind piece.1 (with_word words piece.1) (position_or_len (bytes_eq piece.1) words) (lexemes_from (units_in before + units_in piece.1) more) (at_place piece.1 words (list_any (bytes_eq piece.1) words) refl)

    either : ((ws : List (List ℕ)) → final ≡ words_behind ws (lexemes_from (units_in (before ++ piece.1)) more) → All (HasWord text final) (tokens_behind ws (lexemes_from (units_in (before ++ piece.1)) more))) → (gap : Bool) →
        final ≡ words_behind words (if gap then lexemes_from (units_in before + units_in piece.1) more else here ∷ lexemes_from (units_in before + units_in piece.1) more) →
        All (HasWord text final) (tokens_behind words (if gap then lexemes_from (units_in before + units_in piece.1) more else here ∷ lexemes_from (units_in before + units_in piece.1) more))
    either again true e =
        subst (λ (n : ℕ). All (HasWord text final) (tokens_behind words (lexemes_from n more))) units (again words (e ∙ ap (λ (n : ℕ). words_behind words (lexemes_from n more)) (sym units)))
    either again false e =
        All-cons (HasWord text final) (token_of words here) (tokens_behind (with_word words piece.1) (lexemes_from (units_in before + units_in piece.1) more))
        (subst (λ (o : Option (List ℕ)). IsSomeAnd o (IsPart text (token_of words here))) (sym (ap (λ (ws : List (List ℕ)). slice_get ws (position_or_len (bytes_eq piece.1) words)) e ∙ word_is)) part)
        (subst (λ (n : ℕ). All (HasWord text final) (tokens_behind (with_word words piece.1) (lexemes_from n more))) units
        (again (with_word words piece.1) (e ∙ ap (λ (n : ℕ). words_behind (with_word words piece.1) (lexemes_from n more)) (sym units))))

pub has_words : (text : List ℕ) → All (λ token. IsSomeAnd (slice_get (words_of text) token.word) (IsPart text token)) (tokens_of text)
unfolding pieces
has_words text = words_are_parts text [] (pieces text) [] (words_of text) (sym (pieces-cover (length text) true text (omega arith))) refl

-- Tokens rise.

-- each begins behind the one before it, or at its end, and takes a code unit at least
abbrev Rise : (from : ℕ) → List Token → Type 0
Rise from [] = Unit {0}
Rise from (token ∷ tokens) = (from ≤ token.start) × (token.start < token.end) × Rise token.end tokens

rise_later : (from later : ℕ) (tokens : List Token) → from ≤ later → Rise later tokens → Rise from tokens
rise_later from later [] less r = tt
rise_later from later (token ∷ tokens) less r = (omega (arith, less, r.0), r.1, r.2)

-- a text that isn't empty has a code unit at least
unit_at_least : (bytes : List ℕ) → IsUtf8 bytes → 0 < length bytes → 0 < units_in bytes
unit_at_least [] utf8 some = absurd (omega (arith, some))
unit_at_least (byte ∷ bytes) utf8 some =
    let lead : 128 ≤ byte → 192 ≤ byte = (IsCharBoundary-start (byte ∷ bytes) utf8).1 some in
    let one : 0 < units_of_byte byte = least byte lead in
    let sum : units_in (byte ∷ bytes) ≡ units_of_byte byte + units_in bytes = sum_by-cons units_of_byte byte bytes in
    rw sum (omega (arith, one))
  where
    least : (byte : ℕ) → (128 ≤ byte → 192 ≤ byte) → 0 < units_of_byte byte
    least byte lead = grind (arith, nat_tests)

rises : (words : List (List ℕ)) (from : ℕ) (ps : List Spelled) → AreTexts ps → All IsSome ps → Rise from (tokens_behind words (lexemes_from from ps))
unfolding lexemes_from tokens_behind
rises words from [] texts some = tt
rises words from (piece ∷ more) texts some =
    let others : All IsSome more = λ k d h. some (suc k) d (omega (arith, h)) in
    either (λ ws. rises ws (from + units_in piece.1) more texts.1 others) (is_gap piece.0)
  where
    long : from < from + units_in piece.1
    long = let least = unit_at_least piece.1 texts.0 (some zero piece (omega arith)) in omega (arith, least)

    either : ((ws : List (List ℕ)) → Rise (from + units_in piece.1) (tokens_behind ws (lexemes_from (from + units_in piece.1) more))) → (gap : Bool) →
        Rise from (tokens_behind words (if gap then lexemes_from (from + units_in piece.1) more else record { class = piece.0; start = from; bytes = piece.1 } ∷ lexemes_from (from + units_in piece.1) more))
    either again true = rise_later from (from + units_in piece.1) (tokens_behind words (lexemes_from (from + units_in piece.1) more)) (omega (arith, long)) (again words)
    either again false = (omega arith, long, again (with_word words piece.1))

rise_from : (from : ℕ) (tokens : List Token) (place : ℕ) (token : Token) → Rise from tokens → slice_get tokens place ≡ Some token → from ≤ token.start
rise_from from [] place token r e = absurd (cc)
rise_from from (t ∷ tokens) zero token r e = let same : t ≡ token = cc in rw (← same) r.0
rise_from from (t ∷ tokens) (suc place) token r e = let there = rise_from t.end tokens place token r.2 e in omega (arith, r.0, r.1, there)

in_order : (from : ℕ) (tokens : List Token) (first second : ℕ) (one other : Token) → Rise from tokens → first < second → slice_get tokens first ≡ Some one → slice_get tokens second ≡ Some other → one.end ≤ other.start
in_order from [] first second one other r less a b = absurd (cc)
in_order from (t ∷ tokens) zero zero one other r less a b = absurd (omega (arith, less))
in_order from (t ∷ tokens) zero (suc second) one other r less a b =
    let same : t ≡ one = cc in
    let there = rise_from t.end tokens second other r.2 b in
    rw (← same) there
in_order from (t ∷ tokens) (suc first) zero one other r less a b = absurd (omega (arith, less))
in_order from (t ∷ tokens) (suc first) (suc second) one other r less a b = in_order t.end tokens first second one other r.2 (omega (arith, less)) a b

pub tokens_in_order : (text : List ℕ) → IsUtf8 text → (first second : ℕ) (one other : Token) → first < second → slice_get (tokens_of text) first ≡ Some one → slice_get (tokens_of text) second ≡ Some other → one.end ≤ other.start
unfolding pieces
tokens_in_order text utf8 first second one other less a b = in_order 0 (tokens_of text) first second one other (rises [] 0 (pieces text) (pieces-texts text utf8) (pieces-some (length text) true text)) less a b

all_some : (from : ℕ) (tokens : List Token) → Rise from tokens → All (λ token. token.start < token.end) tokens
all_some from [] r = All-nil (λ token. token.start < token.end)
all_some from (t ∷ tokens) r = All-cons (λ token. token.start < token.end) t tokens r.1 (all_some t.end tokens r.2)

pub tokens_some : (text : List ℕ) → IsUtf8 text → All (λ token. token.start < token.end) (tokens_of text)
unfolding pieces
tokens_some text utf8 = all_some 0 (tokens_of text) (rises [] 0 (pieces text) (pieces-texts text utf8) (pieces-some (length text) true text))
