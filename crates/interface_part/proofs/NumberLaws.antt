-- What the numbers of tokens tell.
use Rattle.std.proofs.Common.{◌≡◌, ◌⊎◌, inl, inr, ℕ, zero, suc, ◌+◌, ◌<◌, ◌≤◌, ◌==◌, Bool, true, false, List, [], ◌∷◌, ◌++◌, length, map, take, drop, slice_get, Option, None, Some, refl, sym, ap, ◌∙◌, subst, arith, if◌then◌else◌}
use Rattle.std.specs.Prelude.{option_map}
use Rattle.std.specs.List.{find}
use Rattle.dart_tokens.specs.declared.token.Kind.{Kind}
use Rattle.dart_tokens.specs.declared.token.Token.{Token}
use Rattle.dart_tree.specs.declared.places.Span.{Span}
use Rattle.interface_part.specs.declared.hidden.Hidden.{Hidden}
use Rattle.interface_part.specs.declared.numbers.Key.TheVariants as key
use Rattle.interface_part.specs.declared.numbers.NumberRange.{NumberRange}
use Rattle.interface_part.specs.declared.numbers.SeenToken.{SeenToken}
use Rattle.interface_part.specs.Parts.{Part, mark, lexeme}
use Rattle.interface_part.specs.Interface.{count_before, is_seen, letters_of, lexemes, parts_of}
use Rattle.interface_part.specs.Keys.{SeenApart, key_of}
use Rattle.interface_part.specs.Order.{TokensApart}
use Rattle.interface_part.specs.Numbers.{HasNumber, number_at, number_to, numbers_between, numbers_over, seen_from, span_at, span_between, span_of_token, span_over, tokens_of_parts}
use Rattle.interface_part.proofs.Numbering.{shown, with_number}
use Rattle.interface_part.proofs.Search.{IsOne, is_found, key_rises, none_there, one_found}

-- The lexeme of a number is that of its token.

-- one by one, parts are the lexemes of tokens, or marks where there is none
abbrev Tells : (words : List (List ℕ)) → List (Option Token) → List Part → Type 0
Tells words [] [] = Unit {0}
Tells words [] (p ∷ ps) = ⊥
Tells words (o ∷ os) [] = ⊥
Tells words (None ∷ os) (mark ∷ ps) = Tells words os ps
Tells words (None ∷ os) (lexeme kind letters adjoins ∷ ps) = ⊥
Tells words (Some t ∷ os) (mark ∷ ps) = ⊥
Tells words (Some t ∷ os) (lexeme kind letters adjoins ∷ ps) = (kind ≡ t.kind) × (letters ≡ letters_of words t) × Tells words os ps

tells_lexemes : (words : List (List ℕ)) (ts : List Token) → Tells words (shown ts) (lexemes words ts)
tells_lexemes words [] = tt
tells_lexemes words (t ∷ ts) = (refl, refl, tells_lexemes words ts)

tells_taken : (words : List (List ℕ)) (n : ℕ) (ts : List Token) (os : List (Option Token)) (ps : List Part) → Tells words os ps →
    Tells words (shown (take n ts) ++ os) (take n (lexemes words ts) ++ ps)
tells_taken words zero ts os ps h = h
tells_taken words (suc n) [] os ps h = h
tells_taken words (suc n) (t ∷ ts) os ps h = (refl, refl, tells_taken words n ts os ps h)

pub tells : (words : List (List ℕ)) (hs : List Hidden) (ts : List Token) → Tells words (tokens_of_parts hs ts) (parts_of words hs ts)
tells words [] ts = tells_lexemes words ts
tells words (h ∷ hs) ts =
    let n = count_before h.span.start ts in
    let behind = drop n ts in
    let m = count_before h.span.end behind in
    tells_taken words n ts _ _ (by (is_seen h (take m behind)) m behind _ _ (tells words hs (drop m behind)))
  where
    by : (b : Bool) (m : ℕ) (behind : List Token) (os : List (Option Token)) (ps : List Part) → Tells words os ps →
        Tells words ((if b then shown (take m behind) else None ∷ []) ++ os) ((if b then take m (lexemes words behind) else mark ∷ []) ++ ps)
    by true m behind os ps h = tells_taken words m behind os ps h
    by false m behind os ps h = h

lexeme_told : (words : List (List ℕ)) (os : List (Option Token)) (ps : List Part) (t : Token) (k : ℕ) → Tells words os ps → HasNumber os t k →
    (adjoins : Bool) × (slice_get ps k ≡ Some (lexeme t.kind (letters_of words t) adjoins))
lexeme_told words [] [] t k h e = absurd (none_there e)
lexeme_told words [] (p ∷ ps) t k h e = absurd h
lexeme_told words (o ∷ os) [] t k h e = absurd h
lexeme_told words (None ∷ os) (mark ∷ ps) t zero h e = absurd (grind (arith, e))
lexeme_told words (None ∷ os) (mark ∷ ps) t (suc k) h e = lexeme_told words os ps t k h e
lexeme_told words (None ∷ os) (lexeme kind letters adjoins ∷ ps) t k h e = absurd h
lexeme_told words (Some u ∷ os) (mark ∷ ps) t k h e = absurd h
lexeme_told words (Some u ∷ os) (lexeme kind letters adjoins ∷ ps) t zero h e =
    let same : u ≡ t = grind (arith, e) in
    (adjoins, ap (λ (j : Kind). Some (lexeme j letters adjoins)) (h.0 ∙ ap (λ (x : Token). x.kind) same) ∙ ap (λ (ls : List ℕ). Some (lexeme t.kind ls adjoins)) (h.1 ∙ ap (λ (x : Token). letters_of words x) same))
lexeme_told words (Some u ∷ os) (lexeme kind letters adjoins ∷ ps) t (suc k) h e = lexeme_told words os ps t k h.2 e

token_told : (words : List (List ℕ)) (os : List (Option Token)) (ps : List Part) (k : ℕ) (kind : Kind) (letters : List ℕ) (adjoins : Bool) → Tells words os ps →
    slice_get ps k ≡ Some (lexeme kind letters adjoins) → (t : Token) × HasNumber os t k × (t.kind ≡ kind) × (letters_of words t ≡ letters)
token_told words [] [] k kind letters adjoins h e = absurd (none_there e)
token_told words [] (p ∷ ps) k kind letters adjoins h e = absurd h
token_told words (o ∷ os) [] k kind letters adjoins h e = absurd h
token_told words (None ∷ os) (mark ∷ ps) zero kind letters adjoins h e = absurd (grind (arith, e))
token_told words (None ∷ os) (mark ∷ ps) (suc k) kind letters adjoins h e = token_told words os ps k kind letters adjoins h e
token_told words (None ∷ os) (lexeme j ls a ∷ ps) k kind letters adjoins h e = absurd h
token_told words (Some u ∷ os) (mark ∷ ps) k kind letters adjoins h e = absurd h
token_told words (Some u ∷ os) (lexeme j ls a ∷ ps) zero kind letters adjoins h e =
    let same_kind : j ≡ kind = grind (arith, e) in
    let same_letters : ls ≡ letters = grind (arith, e) in
    (u, refl, sym h.0 ∙ same_kind, sym h.1 ∙ same_letters)
token_told words (Some u ∷ os) (lexeme j ls a ∷ ps) (suc k) kind letters adjoins h e = token_told words os ps k kind letters adjoins h.2 e

pub lexeme_of_number : (words : List (List ℕ)) (hs : List Hidden) (ts : List Token) (t : Token) (k : ℕ) → HasNumber (tokens_of_parts hs ts) t k →
    (adjoins : Bool) × (slice_get (parts_of words hs ts) k ≡ Some (lexeme t.kind (letters_of words t) adjoins))
lexeme_of_number words hs ts t k e = lexeme_told words (tokens_of_parts hs ts) (parts_of words hs ts) t k (tells words hs ts) e

pub token_of_lexeme : (words : List (List ℕ)) (hs : List Hidden) (ts : List Token) (k : ℕ) (kind : Kind) (letters : List ℕ) (adjoins : Bool) →
    slice_get (parts_of words hs ts) k ≡ Some (lexeme kind letters adjoins) → (t : Token) × HasNumber (tokens_of_parts hs ts) t k × (t.kind ≡ kind) × (letters_of words t ≡ letters)
token_of_lexeme words hs ts k kind letters adjoins e = token_told words (tokens_of_parts hs ts) (parts_of words hs ts) k kind letters adjoins (tells words hs ts) e

pub same_numbers : (words : List (List ℕ)) (hs : List Hidden) (ts : List Token) (others : List (List ℕ)) (ks : List Hidden) (us : List Token) → parts_of words hs ts ≡ parts_of others ks us →
    (t : Token) (k : ℕ) → HasNumber (tokens_of_parts hs ts) t k → (u : Token) × HasNumber (tokens_of_parts ks us) u k × (u.kind ≡ t.kind) × (letters_of others u ≡ letters_of words t)
same_numbers words hs ts others ks us same t k e =
    let told = lexeme_of_number words hs ts t k e in
    token_of_lexeme others ks us k t.kind (letters_of words t) told.0 (ap (λ (ps : List Part). slice_get ps k) (sym same) ∙ told.1)

-- Numbers and places.

-- the tokens among parts stand apart
abbrev PartsApart : (from : ℕ) → List (Option Token) → Type 0
PartsApart from [] = Unit {0}
PartsApart from (None ∷ os) = PartsApart from os
PartsApart from (Some t ∷ os) = (from ≤ t.start) × (t.start < t.end) × PartsApart t.end os

seen_apart : (number from : ℕ) (os : List (Option Token)) → PartsApart from os → SeenApart number from (seen_from number os)
seen_apart number from os apart = by number number from os (omega arith) apart
  where
    by : (least number from : ℕ) (os : List (Option Token)) → least ≤ number → PartsApart from os → SeenApart least from (seen_from number os)
    by least number from [] le apart = tt
    by least number from (None ∷ os) le apart = by least (number + 1) from os (omega (arith, le)) apart
    by least number from (Some t ∷ os) le apart = (le, apart.0, apart.1, by (number + 1) (number + 1) t.end os (omega arith) apart.2)

lower : (a b : ℕ) (ts : List Token) → a ≤ b → TokensApart b ts → TokensApart a ts
lower a b [] le apart = tt
lower a b (t ∷ ts) le apart = (omega (arith, le, apart.0), apart.1, apart.2)

dropped : (a n : ℕ) (ts : List Token) → TokensApart a ts → TokensApart a (drop n ts)
dropped a zero ts apart = apart
dropped a (suc n) [] apart = tt
dropped a (suc n) (t ∷ ts) apart =
    let more : a ≤ t.end = omega (arith, apart.0, apart.1) in lower a t.end (drop n ts) more (dropped t.end n ts apart.2)

all_apart : (a : ℕ) (ts : List Token) → TokensApart a ts → PartsApart a (shown ts)
all_apart a [] apart = tt
all_apart a (t ∷ ts) apart = (apart.0, apart.1, all_apart t.end ts apart.2)

-- tokens, and parts that stand behind wherever the tokens left do
front_apart : (a n : ℕ) (ts : List Token) (os : List (Option Token)) → TokensApart a ts → ((b : ℕ) → TokensApart b (drop n ts) → PartsApart b os) → PartsApart a (shown (take n ts) ++ os)
front_apart a zero ts os apart rest = rest a apart
front_apart a (suc n) [] os apart rest = rest a tt
front_apart a (suc n) (t ∷ ts) os apart rest = (apart.0, apart.1, front_apart t.end n ts os apart.2 rest)

parts_apart : (hs : List Hidden) (a : ℕ) (ts : List Token) → TokensApart a ts → PartsApart a (tokens_of_parts hs ts)
parts_apart [] a ts apart = all_apart a ts apart
parts_apart (h ∷ hs) a ts apart =
    let n = count_before h.span.start ts in
    let behind = drop n ts in
    let m = count_before h.span.end behind in
    front_apart a n ts _ apart (λ b left. by (is_seen h (take m behind)) m b behind left (λ c rest. parts_apart hs c (drop m behind) rest))
  where
    by : (seen : Bool) (m b : ℕ) (behind : List Token) → TokensApart b behind → ((c : ℕ) → TokensApart c (drop m behind) → PartsApart c (tokens_of_parts hs (drop m behind))) →
        PartsApart b ((if seen then shown (take m behind) else None ∷ []) ++ tokens_of_parts hs (drop m behind))
    by true m b behind left further = front_apart b m behind _ left further
    by false m b behind left further = further b (dropped b m behind left)

-- what is seen of a text stands apart, with numbers that rise
pub seen_tokens_apart : (hs : List Hidden) (ts : List Token) → TokensApart 0 ts → SeenApart 0 0 (seen_from 0 (tokens_of_parts hs ts))
seen_tokens_apart hs ts apart = seen_apart 0 0 (tokens_of_parts hs ts) (parts_apart hs 0 ts apart)

-- a token with a number is seen with it
is_one : (n : ℕ) (os : List (Option Token)) (t : Token) (k : ℕ) → HasNumber os t k → IsOne (with_number (n + k) t) (seen_from n os)
is_one n [] t k e = absurd (none_there e)
is_one n (None ∷ os) t zero e = absurd (grind (arith, e))
is_one n (None ∷ os) t (suc k) e =
    let one : n + 1 + k ≡ n + suc k = omega arith in subst (λ (j : ℕ). IsOne (with_number j t) (seen_from (n + 1) os)) one (is_one (n + 1) os t k e)
is_one n (Some u ∷ os) t zero e =
    let same : u ≡ t = grind (arith, e) in
    let none : n ≡ n + 0 = omega arith in
    inl (ap (λ (x : Token). with_number n x) same ∙ ap (λ (j : ℕ). with_number j t) none)
is_one n (Some u ∷ os) t (suc k) e =
    let one : n + 1 + k ≡ n + suc k = omega arith in inr (subst (λ (j : ℕ). IsOne (with_number j t) (seen_from (n + 1) os)) one (is_one (n + 1) os t k e))

-- what is seen is a token with its number
is_numbered : (n : ℕ) (os : List (Option Token)) (s : SeenToken) → IsOne s (seen_from n os) → (t : Token) × (k : ℕ) × HasNumber os t k × (s ≡ with_number (n + k) t)
is_numbered n [] s is = absurd is
is_numbered n (None ∷ os) s is =
    let there = is_numbered (n + 1) os s is in
    let one : n + 1 + there.1 ≡ n + suc there.1 = omega arith in
    (there.0, suc there.1, there.2, there.3 ∙ ap (λ (j : ℕ). with_number j there.0) one)
is_numbered n (Some u ∷ os) s (inl e) = let none : n ≡ n + 0 = omega arith in (u, 0, refl, sym e ∙ ap (λ (j : ℕ). with_number j u) none)
is_numbered n (Some u ∷ os) s (inr is) =
    let there = is_numbered (n + 1) os s is in
    let one : n + 1 + there.1 ≡ n + suc there.1 = omega arith in
    (there.0, suc there.1, there.2, there.3 ∙ ap (λ (j : ℕ). with_number j there.0) one)

-- where the first part has the number 0
is_one_of : (os : List (Option Token)) (t : Token) (k : ℕ) → HasNumber os t k → IsOne (with_number k t) (seen_from 0 os)
is_one_of os t k e = let none : 0 + k ≡ k = omega arith in subst (λ (j : ℕ). IsOne (with_number j t) (seen_from 0 os)) none (is_one 0 os t k e)

is_numbered_of : (os : List (Option Token)) (s : SeenToken) → IsOne s (seen_from 0 os) → (t : Token) × (k : ℕ) × HasNumber os t k × (s ≡ with_number k t)
is_numbered_of os s is =
    let there = is_numbered 0 os s is in
    let none : 0 + there.1 ≡ there.1 = omega arith in
    (there.0, there.1, there.2, there.3 ∙ ap (λ (j : ℕ). with_number j there.0) none)

mapped : {B : Type 0} (f : SeenToken → B) (o : Option SeenToken) (b : B) → option_map f o ≡ Some b → (s : SeenToken) × (o ≡ Some s) × (f s ≡ b)
mapped f None b e = absurd (none_there e)
mapped f (Some s) b e = (s, refl, grind (arith, e))

-- a token's number is found where it begins and where it ends, and its place by its number
pub numbers_found : (hs : List Hidden) (ts : List Token) → TokensApart 0 ts → (t : Token) (k : ℕ) → HasNumber (tokens_of_parts hs ts) t k →
    (number_at (seen_from 0 (tokens_of_parts hs ts)) t.start ≡ Some k) × (number_to (seen_from 0 (tokens_of_parts hs ts)) t.end ≡ Some k) × (span_at (seen_from 0 (tokens_of_parts hs ts)) k ≡ Some (span_of_token t))
numbers_found hs ts apart t k e =
    let seen : List SeenToken = seen_from 0 (tokens_of_parts hs ts) in
    let there : SeenApart 0 0 seen = seen_tokens_apart hs ts apart in
    let one : IsOne (with_number k t) seen = is_one_of (tokens_of_parts hs ts) t k e in (
      ap (λ (o : Option SeenToken). option_map (λ s. s.number) o) (one_found (key_of key.Start) 0 (with_number k t) seen (key_rises key.Start 0 0 seen there) one),
      ap (λ (o : Option SeenToken). option_map (λ s. s.number) o) (one_found (key_of key.End) 1 (with_number k t) seen (key_rises key.End 0 0 seen there) one),
      ap (λ (o : Option SeenToken). option_map (λ s. s.span) o) (one_found (key_of key.Number) 0 (with_number k t) seen (key_rises key.Number 0 0 seen there) one),
    )

-- and nothing else is found
pub number_at_found : (hs : List Hidden) (ts : List Token) (offset k : ℕ) → number_at (seen_from 0 (tokens_of_parts hs ts)) offset ≡ Some k → (t : Token) × HasNumber (tokens_of_parts hs ts) t k × (t.start ≡ offset)
number_at_found hs ts offset k e =
    let os : List (Option Token) = tokens_of_parts hs ts in
    let got = mapped (λ s. s.number) (find (λ s. s.span.start == offset) (seen_from 0 os)) k e in
    let one = is_found (key_of key.Start) offset got.0 (seen_from 0 os) got.1 in
    let it = is_numbered_of os got.0 one.0 in
    let count : it.1 ≡ k = sym (ap (λ (s : SeenToken). s.number) it.3) ∙ got.2 in
    (it.0, subst (λ (j : ℕ). HasNumber os it.0 j) count it.2, sym (ap (λ (s : SeenToken). s.span.start) it.3) ∙ one.1)

pub number_to_found : (hs : List Hidden) (ts : List Token) (offset k : ℕ) → number_to (seen_from 0 (tokens_of_parts hs ts)) offset ≡ Some k → (t : Token) × HasNumber (tokens_of_parts hs ts) t k × (t.end ≡ offset)
number_to_found hs ts offset k e =
    let os : List (Option Token) = tokens_of_parts hs ts in
    let got = mapped (λ s. s.number) (find (λ s. s.span.end == offset) (seen_from 0 os)) k e in
    let one = is_found (key_of key.End) offset got.0 (seen_from 0 os) got.1 in
    let it = is_numbered_of os got.0 one.0 in
    let count : it.1 ≡ k = sym (ap (λ (s : SeenToken). s.number) it.3) ∙ got.2 in
    (it.0, subst (λ (j : ℕ). HasNumber os it.0 j) count it.2, sym (ap (λ (s : SeenToken). s.span.end) it.3) ∙ one.1)

pub span_at_found : (hs : List Hidden) (ts : List Token) (k : ℕ) (span : Span) → span_at (seen_from 0 (tokens_of_parts hs ts)) k ≡ Some span → (t : Token) × HasNumber (tokens_of_parts hs ts) t k × (span ≡ span_of_token t)
span_at_found hs ts k span e =
    let os : List (Option Token) = tokens_of_parts hs ts in
    let got = mapped (λ s. s.span) (find (λ s. s.number == k) (seen_from 0 os)) span e in
    let one = is_found (key_of key.Number) k got.0 (seen_from 0 os) got.1 in
    let it = is_numbered_of os got.0 one.0 in
    let count : it.1 ≡ k = sym (ap (λ (s : SeenToken). s.number) it.3) ∙ one.1 in
    (it.0, subst (λ (j : ℕ). HasNumber os it.0 j) count it.2, sym got.2 ∙ ap (λ (s : SeenToken). s.span) it.3)

-- Ranges.

abbrev range : (start end : ℕ) → Span
range start end = record { start = start; end = end }

both_numbers : (first last : Option ℕ) (numbers : NumberRange) → numbers_between first last ≡ Some numbers → (first ≡ Some numbers.first) × (last ≡ Some numbers.last)
both_numbers None last numbers e = absurd (none_there e)
both_numbers (Some first) None numbers e = absurd (none_there e)
both_numbers (Some first) (Some last) numbers e = (grind (arith, e), grind (arith, e))

both_spans : (first last : Option Span) (span : Span) → span_between first last ≡ Some span →
    (one : Span) × (other : Span) × (first ≡ Some one) × (last ≡ Some other) × (span ≡ record { start = one.start; end = other.end })
both_spans None last span e = absurd (none_there e)
both_spans (Some first) None span e = absurd (none_there e)
both_spans (Some first) (Some last) span e = (first, last, refl, refl, grind (arith, e))

-- the numbers of a range lead back to it
pub range_found : (hs : List Hidden) (ts : List Token) → TokensApart 0 ts → (span : Span) (numbers : NumberRange) → numbers_over (seen_from 0 (tokens_of_parts hs ts)) span ≡ Some numbers →
    span_over (seen_from 0 (tokens_of_parts hs ts)) numbers ≡ Some span
range_found hs ts apart span numbers e =
    let seen : List SeenToken = seen_from 0 (tokens_of_parts hs ts) in
    let both = both_numbers (number_at seen span.start) (number_to seen span.end) numbers e in
    let first = number_at_found hs ts span.start numbers.first both.0 in
    let last = number_to_found hs ts span.end numbers.last both.1 in
    ap (λ (o : Option Span). span_between o (span_at seen numbers.last)) (numbers_found hs ts apart first.0 numbers.first first.1).2
    ∙ ap (λ (o : Option Span). span_between (Some (span_of_token first.0)) o) (numbers_found hs ts apart last.0 numbers.last last.1).2
    ∙ ap (λ (s : ℕ). Some (range s last.0.end)) first.2 ∙ ap (λ (s : ℕ). Some (range span.start s)) last.2

-- and the range of numbers back to these
pub numbers_of_range_found : (hs : List Hidden) (ts : List Token) → TokensApart 0 ts → (numbers : NumberRange) (span : Span) → span_over (seen_from 0 (tokens_of_parts hs ts)) numbers ≡ Some span →
    numbers_over (seen_from 0 (tokens_of_parts hs ts)) span ≡ Some numbers
numbers_of_range_found hs ts apart numbers span e =
    let seen : List SeenToken = seen_from 0 (tokens_of_parts hs ts) in
    let both = both_spans (span_at seen numbers.first) (span_at seen numbers.last) span e in
    let first = span_at_found hs ts numbers.first both.0 both.2 in
    let last = span_at_found hs ts numbers.last both.1 both.3 in
    let start : span.start ≡ first.0.start = ap (λ (s : Span). s.start) both.4 ∙ ap (λ (s : Span). s.start) first.2 in
    let end : span.end ≡ last.0.end = ap (λ (s : Span). s.end) both.4 ∙ ap (λ (s : Span). s.end) last.2 in
    ap (λ (o : ℕ). numbers_between (number_at seen o) (number_to seen span.end)) start
    ∙ ap (λ (o : ℕ). numbers_between (number_at seen first.0.start) (number_to seen o)) end
    ∙ ap (λ (o : Option ℕ). numbers_between o (number_to seen last.0.end)) (numbers_found hs ts apart first.0 numbers.first first.1).0
    ∙ ap (λ (o : Option ℕ). numbers_between (Some numbers.first) o) (numbers_found hs ts apart last.0 numbers.last last.1).1
