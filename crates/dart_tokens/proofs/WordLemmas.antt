-- Words and the kinds beside them.
use Rattle.std.proofs.Common.{◌≡◌, ℕ, Bool, true, false, ◌&&◌, ◌||◌, not, List, [], ◌∷◌, ◌++◌, ◌==◌, if◌then◌else◌, Some, None, slice_get, get_or, length, zero, suc, ◌<◌, ◌⊎◌, inl, inr, bytes_eq, refl, ap, sym, ◌∙◌, arith}
use Rattle.std.proofs.lemmas.Bool.{and_parts, or_parts, or_cases, not-true, not-false, eqb-false, eq-eqb, ne_eqb, cases_Bool}
use Rattle.std.proofs.lemmas.Slice.Eq.{bytes_eq-Decides}
use Rattle.std.proofs.Math.Logic.{⊎_elim}
use Rattle.std.specs.List.{flat_map, list_any}
use Rattle.dart_tokens.specs.declared.token.Kind.{Kind}
use Rattle.dart_tokens.specs.declared.token.Kind.TheVariants as kind
use denote.Enum.Bare.{sameb}
use denote.Enum.Declared.{tag_of}
use Rattle.dart_tokens.specs.contracts.token.Kind.{the_type}
use Rattle.dart_tokens.specs.Words.{names_of_no_type, reserved_words, built_in_identifiers, grammar_words, kind_beside, kind_of_word, is_reserved}
use Rattle.dart_tokens.specs.Kinds.{is_identifier, is_reserved_word, names_no_type}
use Rattle.dart_tokens.specs.Rows.{begins_with, named_words, words_from}

-- each kind in a table passes a test
abbrev all_kinds : (Kind → Bool) → List (List ℕ × Kind) → Bool
all_kinds test [] = true
all_kinds test (row ∷ rows) = test row.1 && all_kinds test rows

-- the kind beside a word passes a test that all in the table pass
beside_passes : (test : Kind → Bool) (word : List ℕ) (otherwise : Kind) (rows : List (List ℕ × Kind)) → all_kinds test rows ≡ true → test otherwise ≡ true → test (kind_beside word otherwise rows) ≡ true
beside_passes test word otherwise [] all e = e
beside_passes test word otherwise (row ∷ rows) all e =
    let parts = and_parts (test row.1) (all_kinds test rows) all in
    either (bytes_eq word row.0) parts.0 (beside_passes test word otherwise rows parts.1 e)
  where
    either : (found : Bool) → test row.1 ≡ true → test (kind_beside word otherwise rows) ≡ true → test (if found then row.1 else kind_beside word otherwise rows) ≡ true
    either true a b = a
    either false a b = b

-- it passes a test that those in the table alone pass where the word stands there
beside_tells : (test : Kind → Bool) (word : List ℕ) (otherwise : Kind) (rows : List (List ℕ × Kind)) → all_kinds test rows ≡ true → test otherwise ≡ false →
    test (kind_beside word otherwise rows) ≡ list_any (λ row. bytes_eq word row.0) rows
beside_tells test word otherwise [] all e = e
beside_tells test word otherwise (row ∷ rows) all e =
    let parts = and_parts (test row.1) (all_kinds test rows) all in
    either (bytes_eq word row.0) parts.0 (beside_tells test word otherwise rows parts.1 e)
  where
    either : (found : Bool) → test row.1 ≡ true → test (kind_beside word otherwise rows) ≡ list_any (λ other. bytes_eq word other.0) rows →
        test (if found then row.1 else kind_beside word otherwise rows) ≡ (found || list_any (λ other. bytes_eq word other.0) rows)
    either true a b = a
    either false a b = b

-- a word is reserved where its kind is
pub reserved_by_kind : (word : List ℕ) → is_reserved_word (kind_of_word word) ≡ is_reserved word
unfolding kind_of_word
reserved_by_kind word =
    let grammar : Kind = kind_beside word kind.Identifier grammar_words in
    let built_in : Kind = kind_beside word grammar built_in_identifiers in
    let other : not (is_reserved_word built_in) ≡ true =
    beside_passes (λ k. not (is_reserved_word k)) word grammar built_in_identifiers refl (beside_passes (λ k. not (is_reserved_word k)) word kind.Identifier grammar_words refl refl) in
    beside_tells is_reserved_word word built_in reserved_words refl (not-true (is_reserved_word built_in) other)

-- Words by their first bytes.

beside-append : (word : List ℕ) (otherwise : Kind) (xs ys : List (List ℕ × Kind)) → kind_beside word otherwise (xs ++ ys) ≡ kind_beside word (kind_beside word otherwise ys) xs
beside-append word otherwise [] ys = refl
beside-append word otherwise (row ∷ xs) ys = ap (λ (k : Kind). if bytes_eq word row.0 then row.1 else k) (beside-append word otherwise xs ys)

-- those of some words that begin with a byte
abbrev from : (first : ℕ) → List (List ℕ × Kind) → List (List ℕ × Kind)
from first rows = flat_map (λ row. if begins_with first row.0 then row ∷ [] else []) rows

-- a word is compared with those alone that begin with the same byte
beside-from : (first : ℕ) (word : List ℕ) (otherwise : Kind) (rows : List (List ℕ × Kind)) → kind_beside (first ∷ word) otherwise (from first rows) ≡ kind_beside (first ∷ word) otherwise rows
beside-from first word otherwise [] = refl
beside-from first word otherwise (row ∷ rows) = row_is row.0 row.1 (beside-from first word otherwise rows)
  where
    either : (name : List ℕ) (kind : Kind) (same : Bool) → kind_beside (first ∷ word) otherwise (from first rows) ≡ kind_beside (first ∷ word) otherwise rows →
        (same ≡ false → bytes_eq (first ∷ word) name ≡ false) →
        kind_beside (first ∷ word) otherwise ((if same then (name, kind) ∷ [] else []) ++ from first rows)
        ≡ (if bytes_eq (first ∷ word) name then kind else kind_beside (first ∷ word) otherwise rows)
    either name kind true e other = ap (λ (k : Kind). if bytes_eq (first ∷ word) name then kind else k) e
    either name kind false e other = rw (other refl) e

    row_is : (name : List ℕ) (kind : Kind) → kind_beside (first ∷ word) otherwise (from first rows) ≡ kind_beside (first ∷ word) otherwise rows →
        kind_beside (first ∷ word) otherwise (from first ((name, kind) ∷ rows)) ≡ kind_beside (first ∷ word) otherwise ((name, kind) ∷ rows)
    row_is [] kind e = either [] kind false e (λ _. refl)
    row_is (byte ∷ name) kind e = either (byte ∷ name) kind (byte == first) e (λ h. rw (ne_eqb first byte (λ same. eqb-false byte first h (sym same))) refl)

-- the kind of a word, by those words that begin with the same byte
pub kind_by_first : (first : ℕ) (word : List ℕ) → kind_beside (first ∷ word) kind.Identifier (words_from first) ≡ kind_of_word (first ∷ word)
unfolding kind_of_word
kind_by_first first word =
    beside-from first word kind.Identifier named_words
    ∙ beside-append (first ∷ word) kind.Identifier reserved_words (built_in_identifiers ++ grammar_words)
    ∙ ap (λ (k : Kind). kind_beside (first ∷ word) k reserved_words) (beside-append (first ∷ word) kind.Identifier built_in_identifiers grammar_words)

-- the same, of a word whose first byte is known
pub kind_at_first : (word : List ℕ) (first : ℕ) → Some first ≡ slice_get word 0 → kind_beside word kind.Identifier (words_from first) ≡ kind_of_word word
kind_at_first [] first e = absurd (cc)
kind_at_first (byte ∷ word) first e = let same : byte ≡ first = cc in rw same (kind_by_first first word)

-- what is no word is named by none
pub kind_of_nothing : (word : List ℕ) → None ≡ slice_get word 0 → kind.Identifier ≡ kind_of_word word
unfolding kind_of_word
kind_of_nothing [] e = refl
kind_of_nothing (byte ∷ word) e = absurd (cc)

-- Each word of the tables.

-- the kind of a word, by all words that the grammar names
by_named : (word : List ℕ) → kind_of_word word ≡ kind_beside word kind.Identifier named_words
unfolding kind_of_word
by_named word = sym (beside-append word kind.Identifier reserved_words (built_in_identifiers ++ grammar_words)
    ∙ ap (λ (k : Kind). kind_beside word k reserved_words) (beside-append word kind.Identifier built_in_identifiers grammar_words))

-- no word stands twice in a table
abbrev are_distinct : List (List ℕ × Kind) → Bool
are_distinct [] = true
are_distinct (row ∷ rows) = not (list_any (λ other. bytes_eq other.0 row.0) rows) && are_distinct rows

not_any : {A : Type 0} (test : A → Bool) (xs : List A) (k : ℕ) (d : A) → list_any test xs ≡ false → k < length xs → test (get_or xs k d) ≡ false
not_any test [] k d e h = absurd (omega (arith, h))
not_any test (x ∷ xs) zero d e h = (or_parts (test x) (list_any test xs) e).0
not_any test (x ∷ xs) (suc k) d e h = not_any test xs k d (or_parts (test x) (list_any test xs) e).1 (omega (arith, h))

beside_at : (rows : List (List ℕ × Kind)) (otherwise : Kind) (k : ℕ) (d : List ℕ × Kind) → are_distinct rows ≡ true → k < length rows → kind_beside (get_or rows k d).0 otherwise rows ≡ (get_or rows k d).1
beside_at [] otherwise k d e h = absurd (omega (arith, h))
beside_at (row ∷ rows) otherwise zero d e h = let same = (bytes_eq-Decides row.0 row.0).1 refl in rw same refl
beside_at (row ∷ rows) otherwise (suc k) d e h =
    let parts = and_parts (not (list_any (λ other. bytes_eq other.0 row.0) rows)) (are_distinct rows) e in
    let inside : k < length rows = omega (arith, h) in
    let other = not_any (λ other. bytes_eq other.0 row.0) rows k d (not-true (list_any (λ other. bytes_eq other.0 row.0) rows) parts.0) inside in
    rw other (beside_at rows otherwise k d parts.1 inside)

pub named_word : (k : ℕ) (d : List ℕ × Kind) → k < length named_words → kind_of_word (get_or named_words k d).0 ≡ (get_or named_words k d).1
named_word k d h = by_named (get_or named_words k d).0 ∙ beside_at named_words kind.Identifier k d refl h

beside_none : (word : List ℕ) (otherwise : Kind) (rows : List (List ℕ × Kind)) → list_any (λ row. bytes_eq word row.0) rows ≡ false → kind_beside word otherwise rows ≡ otherwise
beside_none word otherwise [] e = refl
beside_none word otherwise (row ∷ rows) e = let parts = or_parts (bytes_eq word row.0) (list_any (λ other. bytes_eq word other.0) rows) e in rw parts.0 (beside_none word otherwise rows parts.1)

pub other_word : (word : List ℕ) → (list_any (λ row. bytes_eq word row.0) named_words ≡ true) ⊎ (kind_of_word word ≡ kind.Identifier)
other_word word = ⊎_elim
    (λ (e : list_any (λ row. bytes_eq word row.0) named_words ≡ true). inl e)
    (λ (e : list_any (λ row. bytes_eq word row.0) named_words ≡ false). inr (by_named word ∙ beside_none word kind.Identifier named_words e))
    (cases_Bool (list_any (λ row. bytes_eq word row.0) named_words))

-- What words are for the grammar.

-- the tests differ
abbrev differ : Bool → Bool → Bool
differ true b = not b
differ false b = b

differ-not : (a b : Bool) → differ a b ≡ true → a ≡ not b
differ-not true true e = absurd (cc)
differ-not true false e = refl
differ-not false true e = refl
differ-not false false e = absurd (cc)

-- the kind of a word passes a test that all in the tables pass
kind_passes : (test : Kind → Bool) (word : List ℕ) → all_kinds test named_words ≡ true → test kind.Identifier ≡ true → test (kind_of_word word) ≡ true
kind_passes test word all e = rw by_named (beside_passes test word kind.Identifier named_words all e)

pub identifier_or_reserved : (word : List ℕ) → is_identifier (kind_of_word word) ≡ not (is_reserved word)
identifier_or_reserved word =
    differ-not (is_identifier (kind_of_word word)) (is_reserved_word (kind_of_word word)) (kind_passes (λ k. differ (is_identifier k) (is_reserved_word k)) word refl refl)
    ∙ ap (λ (b : Bool). not b) (reserved_by_kind word)

-- the words that name no types, by the kinds of all words

-- both tests pass or both fail
abbrev agree : Bool → Bool → Bool
agree a b = differ a (not b)

agree-same : (a b : Bool) → agree a b ≡ true → a ≡ b
agree-same true true e = refl
agree-same true false e = absurd (cc)
agree-same false true e = absurd (cc)
agree-same false false e = refl

-- a test of kinds agrees with a test of words in each row
abbrev all_agree : (Kind → Bool) → (List ℕ → Bool) → List (List ℕ × Kind) → Bool
all_agree test chosen [] = true
all_agree test chosen (row ∷ rows) = agree (test row.1) (chosen row.0) && all_agree test chosen rows

beside_agrees : (test : Kind → Bool) (chosen : List ℕ → Bool) (word : List ℕ) (otherwise : Kind) (rows : List (List ℕ × Kind)) → all_agree test chosen rows ≡ true → test otherwise ≡ chosen word →
    test (kind_beside word otherwise rows) ≡ chosen word
beside_agrees test chosen word otherwise [] all e = e
beside_agrees test chosen word otherwise (row ∷ rows) all e =
    let parts = and_parts (agree (test row.1) (chosen row.0)) (all_agree test chosen rows) all in
    either (bytes_eq word row.0) refl (agree-same (test row.1) (chosen row.0) parts.0) (beside_agrees test chosen word otherwise rows parts.1 e)
  where
    either : (found : Bool) → bytes_eq word row.0 ≡ found → test row.1 ≡ chosen row.0 → test (kind_beside word otherwise rows) ≡ chosen word → test (if found then row.1 else kind_beside word otherwise rows) ≡ chosen word
    either true same a b = a ∙ ap chosen (sym ((bytes_eq-Decides word row.0).0 same))
    either false same a b = b

-- a word of a table whose words all have kinds that pass
any_passes : (test : Kind → Bool) (word : List ℕ) (rows : List (List ℕ × Kind)) → list_any (λ row. not (test (kind_beside row.0 kind.Identifier named_words))) rows ≡ false → list_any (λ row. bytes_eq word row.0) rows ≡ true →
    test (kind_of_word word) ≡ true
any_passes test word [] all e = absurd (cc)
any_passes test word (row ∷ rows) all e =
    let parts = or_parts (not (test (kind_beside row.0 kind.Identifier named_words))) (list_any (λ other. not (test (kind_beside other.0 kind.Identifier named_words))) rows) all in
    ⊎_elim
    (λ (here : bytes_eq word row.0 ≡ true).
    let same : word ≡ row.0 = (bytes_eq-Decides word row.0).0 here in
    rw (same, by_named row.0) (not-false (test (kind_beside row.0 kind.Identifier named_words)) parts.0))
    (λ (there : list_any (λ other. bytes_eq word other.0) rows ≡ true). any_passes test word rows parts.1 there)
    (or_cases (bytes_eq word row.0) (list_any (λ other. bytes_eq word other.0) rows) e)

-- the word is an identifier that names no type
abbrev is_nameless : List ℕ → Bool
is_nameless word = list_any (λ row. bytes_eq word row.0) names_of_no_type

pub nameless_word : (word : List ℕ) → names_no_type (kind_of_word word) ≡ list_any (λ row. bytes_eq word row.0) names_of_no_type
nameless_word word = ⊎_elim
    (λ (e : is_nameless word ≡ true). any_passes names_no_type word names_of_no_type refl e ∙ sym e)
    (λ (e : is_nameless word ≡ false). ap names_no_type (by_named word) ∙ beside_agrees names_no_type is_nameless word kind.Identifier named_words refl (sym e))
    (cases_Bool (is_nameless word))

-- Kinds of words are distinct.

-- no kind stands twice in a table, and none is that of other words
abbrev kinds_differ : List (List ℕ × Kind) → Bool
kinds_differ [] = true
kinds_differ (row ∷ rows) = not (sameb the_type row.1 kind.Identifier) && (all_kinds (λ kind. not (sameb the_type row.1 kind)) rows && kinds_differ rows)

beside_own : (word : List ℕ) (row : List ℕ × Kind) (rows : List (List ℕ × Kind)) → kinds_differ (row ∷ rows) ≡ true → row.1 ≡ kind_beside word kind.Identifier rows → ⊥
beside_own word row rows differ e =
    let parts = and_parts (not (sameb the_type row.1 kind.Identifier)) (all_kinds (λ k. not (sameb the_type row.1 k)) rows && kinds_differ rows) differ in
    let more = and_parts (all_kinds (λ k. not (sameb the_type row.1 k)) rows) (kinds_differ rows) parts.1 in
    let other : not (sameb the_type row.1 row.1) ≡ true = rw (← e) at (beside_passes (λ k. not (sameb the_type row.1 k)) word kind.Identifier rows more.0 parts.0) in
    let own : sameb the_type row.1 row.1 ≡ true = eq-eqb (tag_of the_type row.1) (tag_of the_type row.1) refl in
    let h : false ≡ true = ap (λ (b : Bool). not b) (sym own) ∙ other in absurd (cc)

one_beside : (a b : List ℕ) (rows : List (List ℕ × Kind)) → kinds_differ rows ≡ true → kind_beside a kind.Identifier rows ≡ kind_beside b kind.Identifier rows → (a ≡ b) ⊎ (kind_beside a kind.Identifier rows ≡ kind.Identifier)
one_beside a b [] differ e = inr refl
one_beside a b (row ∷ rows) differ e = either (bytes_eq a row.0) (bytes_eq b row.0) refl refl (λ h. one_beside a b rows more.1 h) e
  where
    parts : (not (sameb the_type row.1 kind.Identifier) ≡ true) × ((all_kinds (λ k. not (sameb the_type row.1 k)) rows && kinds_differ rows) ≡ true)
    parts = and_parts (not (sameb the_type row.1 kind.Identifier)) (all_kinds (λ k. not (sameb the_type row.1 k)) rows && kinds_differ rows) differ

    more : (all_kinds (λ k. not (sameb the_type row.1 k)) rows ≡ true) × (kinds_differ rows ≡ true)
    more = and_parts (all_kinds (λ k. not (sameb the_type row.1 k)) rows) (kinds_differ rows) parts.1

    either : (first second : Bool) → bytes_eq a row.0 ≡ first → bytes_eq b row.0 ≡ second →
        (kind_beside a kind.Identifier rows ≡ kind_beside b kind.Identifier rows → (a ≡ b) ⊎ (kind_beside a kind.Identifier rows ≡ kind.Identifier)) →
        (if first then row.1 else kind_beside a kind.Identifier rows) ≡ (if second then row.1 else kind_beside b kind.Identifier rows) →
        (a ≡ b) ⊎ ((if first then row.1 else kind_beside a kind.Identifier rows) ≡ kind.Identifier)
    either true true x y later h = inl ((bytes_eq-Decides a row.0).0 x ∙ sym ((bytes_eq-Decides b row.0).0 y))
    either true false x y later h = absurd (beside_own b row rows differ h)
    either false true x y later h = absurd (beside_own a row rows differ (sym h))
    either false false x y later h = later h

pub one_word : (a b : List ℕ) → kind_of_word a ≡ kind_of_word b → (a ≡ b) ⊎ (kind_of_word a ≡ kind.Identifier)
one_word a b e = rw by_named (one_beside a b named_words refl (sym (by_named a) ∙ e ∙ by_named b))
