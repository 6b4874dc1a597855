-- Printed texts, and tokens as they are seen, by the pieces of a text.
use Rattle.std.proofs.Common.{◌≡◌, ℕ, zero, suc, ◌+◌, ◌<◌, ◌≤◌, ◌==◌, ◌||◌, not, Bool, true, false, List, [], ◌∷◌, ◌++◌, length, bytes_eq, codes, if◌then◌else◌, Option, Some, None, slice_get, slice_index_or, refl, sym, ap, subst, ◌∙◌, arith}
use Rattle.std.specs.Prelude.{All}
use Rattle.std.specs.List.{list_all, list_any, position_or_len}
use Rattle.std.specs.Str.{IsUtf8}
use Rattle.std.proofs.lemmas.Bool.{and_parts, eq-eqb, ne_eqb}
use Rattle.std.proofs.lemmas.Bool.Decides.{nat_tests}
use Rattle.std.proofs.lemmas.List.Sums.{sum_by-cons}
use Rattle.std.proofs.lemmas.Slice.Eq.{bytes_eq-Decides}
use Rattle.std.proofs.lemmas.Str.{IsCharBoundary-start}
use denote.Enum.Bare.{sameb}
use Rattle.plain_text.specs.Units.{units_of_byte, units_in}
use Rattle.dart_tokens.specs.declared.token.Kind.{Kind}
use Rattle.dart_tokens.specs.declared.token.Kind.TheVariants as kind
use Rattle.dart_tokens.specs.contracts.token.Kind as kinds
use Rattle.dart_tokens.specs.declared.token.Token.{Token}
use Rattle.dart_tokens.specs.Marks.{marks}
use Rattle.dart_tokens.specs.Words.{kind_beside, kind_of_word, reserved_words, built_in_identifiers, grammar_words}
use Rattle.dart_scan.specs.declared.piece.Class.{Class}
use Rattle.dart_scan.specs.declared.piece.Class.TheVariants.{Gap, UnterminatedComment, IllegalCharacter, BeyondAscii, Word, Integer, Double, Mark, StringLiteral, StringOpening, StringPart, StringClosing, UnterminatedString, InterpolationMark, InterpolationOpening, InterpolationClosing}
use Rattle.dart_scan.specs.Pieces.{Spelled, pieces}
use Rattle.dart_scan.specs.Scanned.{Lexeme, is_gap, kind_of, lexemes_from, with_word, words_behind, token_of, tokens_behind, words_of}
use Rattle.dart_scan.specs.StepLemmas.{bytes_of, pieces-some, IsSome}
use Rattle.dart_scan.specs.StringTexts.{AreTexts, pieces-texts}
use Rattle.tree_print.specs.Printed.{lexeme_of, adjoins, gap, gap_before, printed}
use Rattle.tree_print.specs.Seen.{Seen, seen, printed_again, SeenAlike}
use Rattle.tree_print.proofs.Relaid.{separator_byte, between, relaid}

-- Words and their places.

at_place : (word : List ℕ) (words : List (List ℕ)) (found : Bool) → list_any (bytes_eq word) words ≡ found → slice_get (if found then words else words ++ word ∷ []) (position_or_len (bytes_eq word) words) ≡ Some word
at_place word [] true h = absurd (cc)
at_place word [] false h = refl
at_place word (w ∷ words) found h = either (bytes_eq word w) found refl h (at_place word words)
  where
    one_more : 1 + position_or_len (bytes_eq word) words ≡ suc (position_or_len (bytes_eq word) words)
    one_more = omega arith

    either : (same found : Bool) → bytes_eq word w ≡ same → (same || list_any (bytes_eq word) words) ≡ found →
        ((found : Bool) → list_any (bytes_eq word) words ≡ found → slice_get (if found then words else words ++ word ∷ []) (position_or_len (bytes_eq word) words) ≡ Some word) →
        slice_get (if found then w ∷ words else w ∷ words ++ word ∷ []) (if not same then 1 + position_or_len (bytes_eq word) words else 0) ≡ Some word
    either true true e h more = ap (λ (x : List ℕ). Some x) (sym ((bytes_eq-Decides word w).0 e))
    either true false e h more = absurd (cc)
    either false true e h more = rw one_more (more true h)
    either false false e h more = rw one_more (more false h)

stays : (word : List ℕ) (words : List (List ℕ)) (place : ℕ) (x : List ℕ) → slice_get words place ≡ Some word → slice_get (words ++ x ∷ []) place ≡ Some word
stays word [] place x e = absurd (cc)
stays word (w ∷ words) zero x e = e
stays word (w ∷ words) (suc place) x e = stays word words place x e

stays_with : (word : List ℕ) (words : List (List ℕ)) (place : ℕ) (x : List ℕ) (found : Bool) → slice_get words place ≡ Some word → slice_get (if found then words else words ++ x ∷ []) place ≡ Some word
stays_with word words place x true e = e
stays_with word words place x false e = stays word words place x e

stays_behind : (word : List ℕ) (words : List (List ℕ)) (place : ℕ) (ls : List Lexeme) → slice_get words place ≡ Some word → slice_get (words_behind words ls) place ≡ Some word
unfolding words_behind
stays_behind word words place [] e = e
stays_behind word words place (lexeme ∷ more) e =
    stays_behind word (with_word words lexeme.bytes) place more (stays_with word words place lexeme.bytes (list_any (bytes_eq lexeme.bytes) words) e)

-- the word at a place where one stands
indexed : (words : List (List ℕ)) (place : ℕ) (word : List ℕ) → slice_get words place ≡ Some word → slice_index_or words place [] ≡ word
indexed [] place word e = absurd (cc)
indexed (w ∷ words) zero word e = cc
indexed (w ∷ words) (suc place) word e = indexed words place word e

-- the lexeme of a token is that of its piece
lexeme-is : (words : List (List ℕ)) (lexeme : Lexeme) (more : List Lexeme) → lexeme_of (words_behind (with_word words lexeme.bytes) more) (token_of words lexeme) ≡ lexeme.bytes
lexeme-is words lexeme more =
    indexed (words_behind (with_word words lexeme.bytes) more) (position_or_len (bytes_eq lexeme.bytes) words) lexeme.bytes
    (stays_behind lexeme.bytes (with_word words lexeme.bytes) (position_or_len (bytes_eq lexeme.bytes) words) more (at_place lexeme.bytes words (list_any (bytes_eq lexeme.bytes) words) refl))

-- Kinds.

-- the kind is that of a string that never ends
abbrev endless : Kind → Bool
endless k = sameb kinds.the_type k kind.UnterminatedString

beside-ends : (word : List ℕ) (otherwise : Kind) (rows : List (List ℕ × Kind)) → endless otherwise ≡ false → list_all (λ row. not (endless row.1)) rows ≡ true → endless (kind_beside word otherwise rows) ≡ false
beside-ends word otherwise [] e all = e
beside-ends word otherwise (row ∷ rows) e all =
    let parts = and_parts (not (endless row.1)) (list_all (λ row. not (endless row.1)) rows) all in
    of (bytes_eq word row.0) (not-true (endless row.1) parts.0) (beside-ends word otherwise rows e parts.1)
  where
    not-true : (s : Bool) → not s ≡ true → s ≡ false
    not-true true e = absurd (cc)
    not-true false e = refl

    of : (s : Bool) → endless row.1 ≡ false → endless (kind_beside word otherwise rows) ≡ false → endless (if s then row.1 else kind_beside word otherwise rows) ≡ false
    of true e later = e
    of false e later = later

word-ends : (word : List ℕ) → endless (kind_of_word word) ≡ false
unfolding kind_of_word
word-ends word =
    beside-ends word (kind_beside word (kind_beside word kind.Identifier grammar_words) built_in_identifiers) reserved_words
    (beside-ends word (kind_beside word kind.Identifier grammar_words) built_in_identifiers (beside-ends word kind.Identifier grammar_words refl refl) refl) refl

-- what is printed as a gap is the separator of the class
gap-is : (class : Class) (bytes : List ℕ) → (if endless (kind_of class bytes) then codes "\n" else codes " ") ≡ separator_byte class ∷ []
gap-is Word bytes = ap (λ (s : Bool). if s then codes "\n" else codes " ") (word-ends bytes)
gap-is Mark bytes = ap (λ (s : Bool). if s then codes "\n" else codes " ") (beside-ends bytes kind.Identifier marks refl refl)
gap-is Gap bytes = refl
gap-is UnterminatedComment bytes = refl
gap-is IllegalCharacter bytes = refl
gap-is BeyondAscii bytes = refl
gap-is Integer bytes = refl
gap-is Double bytes = refl
gap-is StringLiteral bytes = refl
gap-is StringOpening bytes = refl
gap-is StringPart bytes = refl
gap-is StringClosing bytes = refl
gap-is UnterminatedString bytes = refl
gap-is InterpolationMark bytes = refl
gap-is InterpolationOpening bytes = refl
gap-is InterpolationClosing bytes = refl

-- Pieces of a code unit at least.

abbrev pub Last : List Spelled → Type 0
Last [] = Unit {0}
Last (piece ∷ more) = (0 < units_in piece.1) × Last more

unit_at_least : (bytes : List ℕ) → IsUtf8 bytes → 0 < length bytes → 0 < units_in bytes
unit_at_least [] utf8 some = absurd (omega (arith, some))
unit_at_least (byte ∷ bytes) utf8 some =
    let lead : 128 ≤ byte → 192 ≤ byte = (IsCharBoundary-start (byte ∷ bytes) utf8).1 some in
    let one : 0 < units_of_byte byte = least byte lead in
    let sum : units_in (byte ∷ bytes) ≡ units_of_byte byte + units_in bytes = sum_by-cons units_of_byte byte bytes in
    rw sum (omega (arith, one))
  where
    least : (byte : ℕ) → (128 ≤ byte → 192 ≤ byte) → 0 < units_of_byte byte
    least byte lead = grind (arith, nat_tests)

last : (ps : List Spelled) → AreTexts ps → All IsSome ps → Last ps
last [] texts some = tt
last (piece ∷ more) texts some = (unit_at_least piece.1 texts.0 (some zero piece (omega arith)), last more texts.1 (λ k d h. some (suc k) d (omega (arith, h))))

pub last-pieces : (text : List ℕ) → IsUtf8 text → Last (pieces text)
unfolding pieces
last-pieces text utf8 = last (pieces text) (pieces-texts text utf8) (pieces-some (length text) true text)

-- What is printed.

-- the gap flag by the distance of a token's end and what comes next
abbrev Apart : (gap : Bool) → (end from : ℕ) → Type 0
Apart true end from = end < from
Apart false end from = end ≡ from

apart-more : (gap : Bool) (end from more : ℕ) → Apart gap end from → 0 < more → Apart true end (from + more)
apart-more true end from more a h = omega (arith, a, h)
apart-more false end from more a h = omega (arith, a, h)

print-behind : (ps : List Spelled) → Last ps → (class : Class) (bytes : List ℕ) (wide : Bool) (token : Token) → token.kind ≡ kind_of class bytes → (from : ℕ) → Apart wide token.end from
    → (words final : List (List ℕ)) → final ≡ words_behind words (lexemes_from from ps)
    → gap_before (tokens_behind words (lexemes_from from ps)) token ++ printed final (tokens_behind words (lexemes_from from ps)) ≡ bytes_of (relaid (Some class) wide ps)
unfolding lexemes_from tokens_behind words_behind
print-behind [] lasts class bytes wide token k from a words final is = refl
print-behind (piece ∷ more) lasts class bytes wide token k from a words final is =
    of (is_gap piece.0) is
    (print-behind more lasts.1 class bytes true token k (from + units_in piece.1) (apart-more wide token.end from (units_in piece.1) a lasts.0) words final)
    (print-behind more lasts.1 piece.0 piece.1 false (token_of words here) refl (from + units_in piece.1) refl (with_word words piece.1) final)
  where
    here : Lexeme
    here = record { class = piece.0; start = from; bytes = piece.1 }

    behind : List Lexeme
    behind = lexemes_from (from + units_in piece.1) more

    -- what is printed between the token and the next
    space : (g : Bool) → Apart g token.end from → (rest : List Spelled) → (if token.end == from then [] else gap token) ++ bytes_of rest ≡ bytes_of (between (Some class) g ++ rest)
    space true a rest =
        let apart : (token.end == from) ≡ false = ne_eqb token.end from (λ e. omega (arith, a, e)) in
        let white : gap token ≡ separator_byte class ∷ [] = ap (λ (x : Kind). if endless x then codes "\n" else codes " ") k ∙ gap-is class bytes in
        ap (λ (s : Bool). (if s then [] else gap token) ++ bytes_of rest) apart ∙ ap (λ (xs : List ℕ). xs ++ bytes_of rest) white
    space false a rest =
        let near : (token.end == from) ≡ true = eq-eqb token.end from a in
        ap (λ (s : Bool). (if s then [] else gap token) ++ bytes_of rest) near

    of : (s : Bool) → final ≡ words_behind words (if s then behind else here ∷ behind)
        → (final ≡ words_behind words behind → gap_before (tokens_behind words behind) token ++ printed final (tokens_behind words behind) ≡ bytes_of (relaid (Some class) true more))
        → (final ≡ words_behind (with_word words piece.1) behind → gap_before (tokens_behind (with_word words piece.1) behind) (token_of words here) ++ printed final (tokens_behind (with_word words piece.1) behind) ≡ bytes_of (relaid (Some piece.0) false more))
        → gap_before (tokens_behind words (if s then behind else here ∷ behind)) token ++ printed final (tokens_behind words (if s then behind else here ∷ behind))
        ≡ bytes_of (if s then relaid (Some class) true more else between (Some class) wide ++ piece ∷ relaid (Some piece.0) false more)
    of true is skips takes = skips is
    of false is skips takes =
        let word : lexeme_of final (token_of words here) ≡ piece.1 = ap (λ (ws : List (List ℕ)). lexeme_of ws (token_of words here)) is ∙ lexeme-is words here behind in
        ap (λ (xs : List ℕ). (if token.end == from then [] else gap token) ++ (xs ++ (gap_before (tokens_behind (with_word words piece.1) behind) (token_of words here) ++ printed final (tokens_behind (with_word words piece.1) behind)))) word
        ∙ ap (λ (xs : List ℕ). (if token.end == from then [] else gap token) ++ (piece.1 ++ xs)) (takes is)
        ∙ space wide a (piece ∷ relaid (Some piece.0) false more)

print-first : (ps : List Spelled) → Last ps → (wide : Bool) (from : ℕ) (words final : List (List ℕ)) → final ≡ words_behind words (lexemes_from from ps)
    → printed final (tokens_behind words (lexemes_from from ps)) ≡ bytes_of (relaid None wide ps)
unfolding lexemes_from tokens_behind words_behind
print-first [] lasts wide from words final is = refl
print-first (piece ∷ more) lasts wide from words final is =
    of (is_gap piece.0) is (print-first more lasts.1 true (from + units_in piece.1) words final)
    (print-behind more lasts.1 piece.0 piece.1 false (token_of words here) refl (from + units_in piece.1) refl (with_word words piece.1) final)
  where
    here : Lexeme
    here = record { class = piece.0; start = from; bytes = piece.1 }

    behind : List Lexeme
    behind = lexemes_from (from + units_in piece.1) more

    of : (s : Bool) → final ≡ words_behind words (if s then behind else here ∷ behind)
        → (final ≡ words_behind words behind → printed final (tokens_behind words behind) ≡ bytes_of (relaid None true more))
        → (final ≡ words_behind (with_word words piece.1) behind → gap_before (tokens_behind (with_word words piece.1) behind) (token_of words here) ++ printed final (tokens_behind (with_word words piece.1) behind) ≡ bytes_of (relaid (Some piece.0) false more))
        → printed final (tokens_behind words (if s then behind else here ∷ behind)) ≡ bytes_of (if s then relaid None true more else between None wide ++ piece ∷ relaid (Some piece.0) false more)
    of true is skips takes = skips is
    of false is skips takes =
        let word : lexeme_of final (token_of words here) ≡ piece.1 = ap (λ (ws : List (List ℕ)). lexeme_of ws (token_of words here)) is ∙ lexeme-is words here behind in
        ap (λ (xs : List ℕ). xs ++ (gap_before (tokens_behind (with_word words piece.1) behind) (token_of words here) ++ printed final (tokens_behind (with_word words piece.1) behind))) word
        ∙ ap (λ (xs : List ℕ). piece.1 ++ xs) (takes is)

-- The text that is printed is that of the pieces, laid anew.
pub printed-is : (text : List ℕ) → IsUtf8 text → printed_again text ≡ bytes_of (relaid None false (pieces text))
printed-is text utf8 = print-first (pieces text) (last-pieces text utf8) false 0 [] (words_of text) refl

-- Tokens as they are seen.

-- a lexeme stands first
abbrev next_adjoins : List Spelled → Bool
next_adjoins [] = false
next_adjoins (piece ∷ more) = not (is_gap piece.0)

-- the lexemes among pieces, as their tokens are seen
abbrev pub seen_of : List Spelled → List Seen
seen_of [] = []
seen_of (piece ∷ more) = if is_gap piece.0 then seen_of more else record { kind = kind_of piece.0 piece.1; lexeme = piece.1; adjoins = next_adjoins more } ∷ seen_of more

far : (ps : List Spelled) (token : Token) (from : ℕ) (words : List (List ℕ)) → token.end < from → adjoins token (tokens_behind words (lexemes_from from ps)) ≡ false
unfolding lexemes_from tokens_behind
far [] token from words less = refl
far (piece ∷ more) token from words less = of (is_gap piece.0) (far more token (from + units_in piece.1) words (omega (arith, less)))
  where
    of : (s : Bool) → adjoins token (tokens_behind words (lexemes_from (from + units_in piece.1) more)) ≡ false
        → adjoins token (tokens_behind words (if s then lexemes_from (from + units_in piece.1) more else record { class = piece.0; start = from; bytes = piece.1 } ∷ lexemes_from (from + units_in piece.1) more)) ≡ false
    of true later = later
    of false later = ne_eqb token.end from (λ e. omega (arith, less, e))

near : (ps : List Spelled) → Last ps → (token : Token) (from : ℕ) (words : List (List ℕ)) → token.end ≡ from → adjoins token (tokens_behind words (lexemes_from from ps)) ≡ next_adjoins ps
unfolding lexemes_from tokens_behind
near [] lasts token from words e = refl
near (piece ∷ more) lasts token from words e = of (is_gap piece.0) (far more token (from + units_in piece.1) words (omega (arith, e, lasts.0)))
  where
    of : (s : Bool) → adjoins token (tokens_behind words (lexemes_from (from + units_in piece.1) more)) ≡ false
        → adjoins token (tokens_behind words (if s then lexemes_from (from + units_in piece.1) more else record { class = piece.0; start = from; bytes = piece.1 } ∷ lexemes_from (from + units_in piece.1) more)) ≡ not s
    of true later = later
    of false later = eq-eqb token.end from e

seen-pieces : (ps : List Spelled) → Last ps → (from : ℕ) (words final : List (List ℕ)) → final ≡ words_behind words (lexemes_from from ps) → seen final (tokens_behind words (lexemes_from from ps)) ≡ seen_of ps
unfolding lexemes_from tokens_behind words_behind
seen-pieces [] lasts from words final is = refl
seen-pieces (piece ∷ more) lasts from words final is =
    of (is_gap piece.0) is (seen-pieces more lasts.1 (from + units_in piece.1) words final) (seen-pieces more lasts.1 (from + units_in piece.1) (with_word words piece.1) final)
  where
    here : Lexeme
    here = record { class = piece.0; start = from; bytes = piece.1 }

    behind : List Lexeme
    behind = lexemes_from (from + units_in piece.1) more

    of : (s : Bool) → final ≡ words_behind words (if s then behind else here ∷ behind)
        → (final ≡ words_behind words behind → seen final (tokens_behind words behind) ≡ seen_of more)
        → (final ≡ words_behind (with_word words piece.1) behind → seen final (tokens_behind (with_word words piece.1) behind) ≡ seen_of more)
        → seen final (tokens_behind words (if s then behind else here ∷ behind)) ≡ (if s then seen_of more else record { kind = kind_of piece.0 piece.1; lexeme = piece.1; adjoins = next_adjoins more } ∷ seen_of more)
    of true is skips takes = skips is
    of false is skips takes =
        let word : lexeme_of final (token_of words here) ≡ piece.1 = ap (λ (ws : List (List ℕ)). lexeme_of ws (token_of words here)) is ∙ lexeme-is words here behind in
        let beside : adjoins (token_of words here) (tokens_behind (with_word words piece.1) behind) ≡ next_adjoins more = near more lasts.1 (token_of words here) (from + units_in piece.1) (with_word words piece.1) refl in
        ap (λ (xs : List ℕ). record { kind = kind_of piece.0 piece.1; lexeme = xs; adjoins = adjoins (token_of words here) (tokens_behind (with_word words piece.1) behind) } ∷ seen final (tokens_behind (with_word words piece.1) behind)) word
        ∙ ap (λ (b : Bool). record { kind = kind_of piece.0 piece.1; lexeme = piece.1; adjoins = b } ∷ seen final (tokens_behind (with_word words piece.1) behind)) beside
        ∙ ap (λ (xs : List Seen). record { kind = kind_of piece.0 piece.1; lexeme = piece.1; adjoins = next_adjoins more } ∷ xs) (takes is)

-- Pieces that are laid anew.

wide-next : (class : Class) (ps : List Spelled) → next_adjoins (relaid (Some class) true ps) ≡ false
wide-next class [] = refl
wide-next class (piece ∷ more) = of (is_gap piece.0) (wide-next class more)
  where
    of : (s : Bool) → next_adjoins (relaid (Some class) true more) ≡ false
        → next_adjoins (if s then relaid (Some class) true more else between (Some class) true ++ piece ∷ relaid (Some piece.0) false more) ≡ false
    of true later = later
    of false later = refl

next-relaid : (class : Class) (ps : List Spelled) → next_adjoins (relaid (Some class) false ps) ≡ next_adjoins ps
next-relaid class [] = refl
next-relaid class (piece ∷ more) = of (is_gap piece.0) refl
  where
    of : (s : Bool) → is_gap piece.0 ≡ s
        → next_adjoins (if s then relaid (Some class) true more else between (Some class) false ++ piece ∷ relaid (Some piece.0) false more) ≡ not (is_gap piece.0)
    of true e = wide-next class more ∙ ap not (sym e)
    of false e = refl

seen-between : (before : Option Class) (wide : Bool) (ps : List Spelled) → seen_of (between before wide ++ ps) ≡ seen_of ps
seen-between None wide ps = refl
seen-between (Some class) true ps = refl
seen-between (Some class) false ps = refl

pub seen-relaid : (before : Option Class) (wide : Bool) (ps : List Spelled) → seen_of (relaid before wide ps) ≡ seen_of ps
seen-relaid before wide [] = refl
seen-relaid before wide (piece ∷ more) = of (is_gap piece.0) refl (seen-relaid before true more) (seen-relaid (Some piece.0) false more)
  where
    one : (rest : List Spelled) → is_gap piece.0 ≡ false → seen_of (piece ∷ rest) ≡ record { kind = kind_of piece.0 piece.1; lexeme = piece.1; adjoins = next_adjoins rest } ∷ seen_of rest
    one rest e = ap (λ (s : Bool). if s then seen_of rest else record { kind = kind_of piece.0 piece.1; lexeme = piece.1; adjoins = next_adjoins rest } ∷ seen_of rest) e

    of : (s : Bool) → is_gap piece.0 ≡ s → seen_of (relaid before true more) ≡ seen_of more → seen_of (relaid (Some piece.0) false more) ≡ seen_of more
        → seen_of (if s then relaid before true more else between before wide ++ piece ∷ relaid (Some piece.0) false more)
        ≡ (if s then seen_of more else record { kind = kind_of piece.0 piece.1; lexeme = piece.1; adjoins = next_adjoins more } ∷ seen_of more)
    of true e skips takes = skips
    of false e skips takes =
        seen-between before wide (piece ∷ relaid (Some piece.0) false more) ∙ one (relaid (Some piece.0) false more) e
        ∙ ap (λ (b : Bool). record { kind = kind_of piece.0 piece.1; lexeme = piece.1; adjoins = b } ∷ seen_of (relaid (Some piece.0) false more)) (next-relaid piece.0 more)
        ∙ ap (λ (xs : List Seen). record { kind = kind_of piece.0 piece.1; lexeme = piece.1; adjoins = next_adjoins more } ∷ xs) takes

separator-lasts : (class : Class) → 0 < units_in (separator_byte class ∷ [])
separator-lasts class = of class
  where
    feed : 0 < units_in (10 ∷ [])
    feed = omega arith

    space : 0 < units_in (32 ∷ [])
    space = omega arith

    of : (class : Class) → 0 < units_in (separator_byte class ∷ [])
    of Word = space
    of Mark = space
    of Gap = space
    of UnterminatedComment = space
    of IllegalCharacter = space
    of BeyondAscii = space
    of Integer = space
    of Double = space
    of StringLiteral = space
    of StringOpening = space
    of StringPart = space
    of StringClosing = space
    of UnterminatedString = feed
    of InterpolationMark = space
    of InterpolationOpening = space
    of InterpolationClosing = space

last-between : (before : Option Class) (wide : Bool) (ps : List Spelled) → Last ps → Last (between before wide ++ ps)
last-between None wide ps h = h
last-between (Some class) true ps h = (separator-lasts class, h)
last-between (Some class) false ps h = h

last-relaid : (before : Option Class) (wide : Bool) (ps : List Spelled) → Last ps → Last (relaid before wide ps)
last-relaid before wide [] lasts = tt
last-relaid before wide (piece ∷ more) lasts = of (is_gap piece.0) (last-relaid before true more lasts.1) (last-relaid (Some piece.0) false more lasts.1)
  where
    of : (s : Bool) → Last (relaid before true more) → Last (relaid (Some piece.0) false more) → Last (if s then relaid before true more else between before wide ++ piece ∷ relaid (Some piece.0) false more)
    of true skips takes = skips
    of false skips takes = last-between before wide (piece ∷ relaid (Some piece.0) false more) (lasts.0, takes)

-- Where the pieces of the printed text are those of the text, laid anew, its tokens are seen as those of the text.
pub seen-again : (text : List ℕ) → IsUtf8 text → pieces (printed_again text) ≡ relaid None false (pieces text) → SeenAlike (printed_again text) text
seen-again text utf8 e =
    let lasts : Last (pieces text) = last-pieces text utf8 in
    let lasts' : Last (pieces (printed_again text)) = subst Last (sym e) (last-relaid None false (pieces text) lasts) in
    seen-pieces (pieces (printed_again text)) lasts' 0 [] (words_of (printed_again text)) refl
    ∙ ap seen_of e ∙ seen-relaid None false (pieces text)
    ∙ sym (seen-pieces (pieces text) lasts 0 [] (words_of text) refl)
