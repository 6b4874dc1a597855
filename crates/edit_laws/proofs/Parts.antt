-- An edit inside what is hidden leaves the parts of a text.
use Rattle.std.proofs.Common.{◌≡◌, ℕ, zero, suc, ◌+◌, ◌≤◌, ◌<◌, Bool, true, false, ◌==◌, nat_lt, List, [], ◌∷◌, ◌++◌, length, take, drop, refl, sym, ap, ◌∙◌, arith, if◌then◌else◌}
use Rattle.std.specs.List.{All, take_while, list_any}
use Rattle.std.proofs.lemmas.Bool.{lt-ltb, le-ltb}
use Rattle.std.proofs.lemmas.Bool.Decides.{nat_tests}
use Rattle.std.proofs.lemmas.List.{take-append-le, drop-append-le}
use Rattle.std.proofs.lemmas.List.Elements.{All-head, All-tail, All-drop, All-cons, All-nil}
use Rattle.std.proofs.lemmas.List.Sums.{take_while-cons}
use Rattle.std.proofs.Math.Seq.{take-append_seam, drop-append_seam}
use Rattle.dart_tokens.specs.declared.token.Kind.TheVariants as kind
use Rattle.dart_tokens.specs.declared.token.Token.{Token}
use Rattle.interface_part.specs.declared.hidden.Hidden.{Hidden}
use Rattle.interface_part.specs.Parts.{Part, mark}
use Rattle.interface_part.specs.Interface.{is, adjoins, count_before, is_seen, lexeme_of, lexemes, parts_of}
use Rattle.edit_laws.specs.Edits.{SameLexeme, SameLexemes, AllSameHidden, Holds, EditedInside}

-- Numbers.

equal_moved : (a b c d on back : ℕ) → a + on ≡ c + back → b + on ≡ d + back → (a == b) ≡ (c == d)
equal_moved a b c d on back e f = grind (arith, nat_tests)

less_moved : (a b c d on back : ℕ) → a + on ≡ c + back → b + on ≡ d + back → nat_lt a b ≡ nat_lt c d
less_moved a b c d on back e f = grind (arith, nat_tests)

-- Counting.

counted : (o : ℕ) (t : Token) (ts : List Token) → (b : Bool) → nat_lt t.start o ≡ b → count_before o (t ∷ ts) ≡ (if b then suc (count_before o ts) else 0)
counted o t ts true e = ap (λ (xs : List Token). length xs) (take_while-cons (λ x. nat_lt x.start o) t ts) ∙ ap (λ (b : Bool). length (if b then t ∷ take_while (λ x. nat_lt x.start o) ts else [])) e
counted o t ts false e = ap (λ (xs : List Token). length xs) (take_while-cons (λ x. nat_lt x.start o) t ts) ∙ ap (λ (b : Bool). length (if b then t ∷ take_while (λ x. nat_lt x.start o) ts else [])) e

-- the first of these tokens, if there is one, begins no sooner than at an offset
abbrev Next : (o : ℕ) → List Token → Type 0
Next o [] = Unit {0}
Next o (t ∷ ts) = o ≤ t.start

-- tokens that begin before an offset are counted, up to the first that doesn't
all_counted : (o : ℕ) (ts us : List Token) → All (λ t. t.start < o) ts → Next o us → count_before o (ts ++ us) ≡ length ts
all_counted o [] [] h k = refl
all_counted o [] (u ∷ us) h k = counted o u us false (le-ltb u.start o k)
all_counted o (t ∷ ts) us h k =
    counted o t (ts ++ us) true (lt-ltb t.start o (All-head (λ t. t.start < o) t ts h)) ∙ ap (λ (n : ℕ). suc n) (all_counted o ts us (All-tail (λ t. t.start < o) t ts h) k)

all_next : (o : ℕ) (ts : List Token) → All (λ t. o ≤ t.start) ts → Next o ts
all_next o [] h = tt
all_next o (t ∷ ts) h = All-head (λ t. o ≤ t.start) t ts h

-- Lexemes.

lexeme_same : (words others : List (List ℕ)) (on back : ℕ) (t u : Token) (ts us : List Token) → SameLexeme words others on back t u → adjoins t ts ≡ adjoins u us → lexeme_of words t ts ≡ lexeme_of others u us
lexeme_same words others on back t u ts us s e = rw (s.kind, s.letters, e) refl

moved_adjoins : (words others : List (List ℕ)) (on back : ℕ) (t u : Token) (ts us : List Token) → SameLexeme words others on back t u → SameLexemes words others on back ts us → adjoins t ts ≡ adjoins u us
moved_adjoins words others on back t u [] [] s a = refl
moved_adjoins words others on back t u [] (y ∷ us) s a = absurd a
moved_adjoins words others on back t u (x ∷ ts) [] s a = absurd a
moved_adjoins words others on back t u (x ∷ ts) (y ∷ us) s a = equal_moved x.start t.end y.start u.end on back a.0.start s.end

lexemes_moved : (words others : List (List ℕ)) (on back : ℕ) (ts us : List Token) → SameLexemes words others on back ts us → lexemes words ts ≡ lexemes others us
lexemes_moved words others on back [] [] a = refl
lexemes_moved words others on back [] (u ∷ us) a = absurd a
lexemes_moved words others on back (t ∷ ts) [] a = absurd a
lexemes_moved words others on back (t ∷ ts) (u ∷ us) a =
    let front : lexeme_of words t ts ≡ lexeme_of others u us = lexeme_same words others on back t u ts us a.0 (moved_adjoins words others on back t u ts us a.0 a.1) in
    ap (λ (p : Part). p ∷ lexemes words ts) front ∙ ap (λ (ps : List Part). lexeme_of others u us ∷ ps) (lexemes_moved words others on back ts us a.1)

-- Parts of lists with the same lexemes.

same_length : (words others : List (List ℕ)) (on back : ℕ) (ts us : List Token) → SameLexemes words others on back ts us → length ts ≡ length us
same_length words others on back [] [] a = refl
same_length words others on back [] (u ∷ us) a = absurd a
same_length words others on back (t ∷ ts) [] a = absurd a
same_length words others on back (t ∷ ts) (u ∷ us) a = ap (λ (n : ℕ). suc n) (same_length words others on back ts us a.1)

same_drop : (words others : List (List ℕ)) (on back n : ℕ) (ts us : List Token) → SameLexemes words others on back ts us → SameLexemes words others on back (drop n ts) (drop n us)
same_drop words others on back zero ts us a = a
same_drop words others on back (suc n) [] [] a = a
same_drop words others on back (suc n) [] (u ∷ us) a = absurd a
same_drop words others on back (suc n) (t ∷ ts) [] a = absurd a
same_drop words others on back (suc n) (t ∷ ts) (u ∷ us) a = same_drop words others on back n ts us a.1

super_same : (words others : List (List ℕ)) (on back n : ℕ) (ts us : List Token) → SameLexemes words others on back ts us → list_any (is kind.Super) (take n ts) ≡ list_any (is kind.Super) (take n us)
super_same words others on back zero ts us a = refl
super_same words others on back (suc n) [] [] a = refl
super_same words others on back (suc n) [] (u ∷ us) a = absurd a
super_same words others on back (suc n) (t ∷ ts) [] a = absurd a
super_same words others on back (suc n) (t ∷ ts) (u ∷ us) a = rw (a.0.kind, super_same words others on back n ts us a.1) refl

count_by : (o p : ℕ) (t u : Token) (ts us : List Token) (b : Bool) → nat_lt t.start o ≡ b → nat_lt u.start p ≡ b → count_before o ts ≡ count_before p us → count_before o (t ∷ ts) ≡ count_before p (u ∷ us)
count_by o p t u ts us b e f h = counted o t ts b e ∙ ap (λ (n : ℕ). if b then suc n else 0) h ∙ sym (counted p u us b f)

count_moved : (words others : List (List ℕ)) (on back o p : ℕ) (ts us : List Token) → o + on ≡ p + back → SameLexemes words others on back ts us → count_before o ts ≡ count_before p us
count_moved words others on back o p [] [] e a = refl
count_moved words others on back o p [] (u ∷ us) e a = absurd a
count_moved words others on back o p (t ∷ ts) [] e a = absurd a
count_moved words others on back o p (t ∷ ts) (u ∷ us) e a =
    count_by o p t u ts us (nat_lt t.start o) refl (sym (less_moved t.start o u.start p on back a.0.start e)) (count_moved words others on back o p ts us e a.1)

-- the parts of tokens and what is hidden first among them, by the numbers of tokens before it and in it
first_parts : (words : List (List ℕ)) (h : Hidden) (hs : List Hidden) (ts : List Token) (n m : ℕ) → count_before h.span.start ts ≡ n → count_before h.span.end (drop n ts) ≡ m →
    parts_of words (h ∷ hs) ts ≡ take n (lexemes words ts) ++ ((if is_seen h (take m (drop n ts)) then take m (lexemes words (drop n ts)) else mark ∷ []) ++ parts_of words hs (drop m (drop n ts)))
first_parts words h hs ts n m e f =
    let behind : (k : ℕ) → List Part = λ k. (if is_seen h (take k (drop n ts)) then take k (lexemes words (drop n ts)) else mark ∷ []) ++ parts_of words hs (drop k (drop n ts)) in
    ap (λ (k : ℕ). take k (lexemes words ts) ++ ((if is_seen h (take (count_before h.span.end (drop k ts)) (drop k ts)) then take (count_before h.span.end (drop k ts)) (lexemes words (drop k ts)) else mark ∷ []) ++ parts_of words hs (drop (count_before h.span.end (drop k ts)) (drop k ts)))) e
    ∙ ap (λ (k : ℕ). take n (lexemes words ts) ++ behind k) f

parts_moved : (words others : List (List ℕ)) (on back : ℕ) (hs ks : List Hidden) (ts us : List Token) → AllSameHidden on back hs ks → SameLexemes words others on back ts us → parts_of words hs ts ≡ parts_of others ks us
parts_moved words others on back [] [] ts us s a = lexemes_moved words others on back ts us a
parts_moved words others on back [] (k ∷ ks) ts us s a = absurd s
parts_moved words others on back (h ∷ hs) [] ts us s a = absurd s
parts_moved words others on back (h ∷ hs) (k ∷ ks) ts us s a =
    let n = count_before h.span.start ts in
    let first : count_before k.span.start us ≡ n = sym (count_moved words others on back h.span.start k.span.start ts us s.0.start a) in
    let rest = same_drop words others on back n ts us a in
    let m = count_before h.span.end (drop n ts) in
    let second : count_before k.span.end (drop n us) ≡ m = sym (count_moved words others on back h.span.end k.span.end (drop n ts) (drop n us) s.0.end rest) in
    let further : parts_of words hs (drop m (drop n ts)) ≡ parts_of others ks (drop m (drop n us)) =
    parts_moved words others on back hs ks (drop m (drop n ts)) (drop m (drop n us)) s.1 (same_drop words others on back m (drop n ts) (drop n us) rest) in
    sym
    (first_parts others k ks us n m first second
    ∙ rw (lexemes_moved words others on back ts us a, lexemes_moved words others on back (drop n ts) (drop n us) rest, s.0.in_mixin, super_same words others on back m (drop n ts) (drop n us) rest, further) refl)

-- What stands before the part that is edited.

-- as many tokens are counted before an offset that the part doesn't begin before
count_front : (words others : List (List ℕ)) (o : ℕ) (ts us : List Token) (t u : Token) (xs ys : List Token) → SameLexemes words others 0 0 ts us → o ≤ t.start → o ≤ u.start →
    (n : ℕ) × (n ≤ length ts) × (count_before o (ts ++ t ∷ xs) ≡ n) × (count_before o (us ++ u ∷ ys) ≡ n)
count_front words others o [] [] t u xs ys a l k = (0, omega arith, counted o t xs false (le-ltb t.start o l), counted o u ys false (le-ltb u.start o k))
count_front words others o [] (w ∷ us) t u xs ys a l k = absurd a
count_front words others o (v ∷ ts) [] t u xs ys a l k = absurd a
count_front words others o (v ∷ ts) (w ∷ us) t u xs ys a l k =
    let e : nat_lt v.start o ≡ nat_lt w.start o = less_moved v.start o w.start o 0 0 a.0.start refl in
    by (nat_lt v.start o) refl (sym e) (count_front words others o ts us t u xs ys a.1 l k)
  where
    by : (b : Bool) → nat_lt v.start o ≡ b → nat_lt w.start o ≡ b → (n : ℕ) × (n ≤ length ts) × (count_before o (ts ++ t ∷ xs) ≡ n) × (count_before o (us ++ u ∷ ys) ≡ n) →
        (n : ℕ) × (n ≤ suc (length ts)) × (count_before o (v ∷ (ts ++ t ∷ xs)) ≡ n) × (count_before o (w ∷ (us ++ u ∷ ys)) ≡ n)
    by true e f (n, le, c, d) = (suc n, omega (arith, le), counted o v (ts ++ t ∷ xs) true e ∙ ap (λ (k : ℕ). suc k) c, counted o w (us ++ u ∷ ys) true f ∙ ap (λ (k : ℕ). suc k) d)
    by false e f (n, le, c, d) = (0, omega arith, counted o v (ts ++ t ∷ xs) false e, counted o w (us ++ u ∷ ys) false f)

front_adjoins : (words others : List (List ℕ)) (v w : Token) (ts us : List Token) (t u : Token) (xs ys : List Token) → SameLexeme words others 0 0 v w → SameLexemes words others 0 0 ts us → t.start ≡ u.start → adjoins v (ts ++ t ∷ xs) ≡ adjoins w (us ++ u ∷ ys)
front_adjoins words others v w [] [] t u xs ys s a e = equal_moved t.start v.end u.start w.end 0 0 (omega (arith, e)) s.end
front_adjoins words others v w [] (y ∷ us) t u xs ys s a e = absurd a
front_adjoins words others v w (x ∷ ts) [] t u xs ys s a e = absurd a
front_adjoins words others v w (x ∷ ts) (y ∷ us) t u xs ys s a e = equal_moved x.start v.end y.start w.end 0 0 a.0.start s.end

lexemes_front : (words others : List (List ℕ)) (n : ℕ) (ts us : List Token) (t u : Token) (xs ys : List Token) → n ≤ length ts → SameLexemes words others 0 0 ts us → t.start ≡ u.start →
    take n (lexemes words (ts ++ t ∷ xs)) ≡ take n (lexemes others (us ++ u ∷ ys))
lexemes_front words others zero ts us t u xs ys l a e = refl
lexemes_front words others (suc n) [] us t u xs ys l a e = absurd (omega (arith, l))
lexemes_front words others (suc n) (v ∷ ts) [] t u xs ys l a e = absurd a
lexemes_front words others (suc n) (v ∷ ts) (w ∷ us) t u xs ys l a e =
    let front : lexeme_of words v (ts ++ t ∷ xs) ≡ lexeme_of others w (us ++ u ∷ ys) = lexeme_same words others 0 0 v w (ts ++ t ∷ xs) (us ++ u ∷ ys) a.0 (front_adjoins words others v w ts us t u xs ys a.0 a.1 e) in
    ap (λ (p : Part). p ∷ take n (lexemes words (ts ++ t ∷ xs))) front
    ∙ ap (λ (ps : List Part). lexeme_of others w (us ++ u ∷ ys) ∷ ps) (lexemes_front words others n ts us t u xs ys (omega (arith, l)) a.1 e)

begin_before : (words others : List (List ℕ)) (o p : ℕ) (ts us : List Token) → o ≡ p → SameLexemes words others 0 0 ts us → All (λ t. t.start < o) ts → All (λ t. t.start < p) us
begin_before words others o p [] [] e a h = All-nil (λ t. t.start < p)
begin_before words others o p [] (u ∷ us) e a h = absurd a
begin_before words others o p (t ∷ ts) [] e a h = absurd a
begin_before words others o p (t ∷ ts) (u ∷ us) e a h =
    let first : u.start < p = omega (arith, e, a.0.start, All-head (λ t. t.start < o) t ts h) in
    All-cons (λ t. t.start < p) u us first (begin_before words others o p ts us e a.1 (All-tail (λ t. t.start < o) t ts h))

-- The part that is edited.

-- a part that is hidden behind the tokens before it, and holds tokens of its own
part_alone : (words : List (List ℕ)) (h : Hidden) (hs : List Hidden) (before : List Token) (first : Token) (inside behind : List Token) → All (λ t. t.start < h.span.start) before → Holds h first inside behind →
    parts_of words (h ∷ hs) (before ++ ((first ∷ inside) ++ behind)) ≡ take (length before) (lexemes words (before ++ ((first ∷ inside) ++ behind))) ++ (mark ∷ parts_of words hs behind)
part_alone words h hs before first inside behind b held =
    let held_tokens : List Token = first ∷ inside in
    let rest : List Token = held_tokens ++ behind in
    let text : List Token = before ++ rest in
    let n = length before in
    let m = length held_tokens in
    let start : h.span.start ≤ first.start = omega (arith, held.begins) in
    let dropped : drop n text ≡ rest = drop-append_seam before rest in
    let counts : count_before h.span.end (drop n text) ≡ m =
    ap (λ (ts : List Token). count_before h.span.end ts) dropped ∙ all_counted h.span.end held_tokens behind held.within (all_next h.span.end behind held.ends) in
    let unseen : is_seen h (take m (drop n text)) ≡ false = ap (λ (ts : List Token). is_seen h (take m ts)) dropped ∙ ap (λ (ts : List Token). is_seen h ts) (take-append_seam held_tokens behind) ∙ held.marked in
    let left : drop m (drop n text) ≡ behind = ap (λ (ts : List Token). drop m ts) dropped ∙ drop-append_seam held_tokens behind in
    first_parts words h hs text n m (all_counted h.span.start before rest b start) counts
    ∙ ap (λ (seen : Bool). take n (lexemes words text) ++ ((if seen then take m (lexemes words (drop n text)) else mark ∷ []) ++ parts_of words hs (drop m (drop n text)))) unseen
    ∙ ap (λ (ts : List Token). take n (lexemes words text) ++ (mark ∷ parts_of words hs ts)) left

-- All that is hidden before it.

-- the parts of a text by what is hidden first, where that ends before tokens behind others
front_parts : (words : List (List ℕ)) (h : Hidden) (hs : List Hidden) (before rest : List Token) (n m : ℕ) → n ≤ length before → m ≤ length (drop n before) → count_before h.span.start (before ++ rest) ≡ n →
    count_before h.span.end (drop n before ++ rest) ≡ m →
    parts_of words (h ∷ hs) (before ++ rest) ≡ take n (lexemes words (before ++ rest)) ++ ((if is_seen h (take m (drop n before)) then take m (lexemes words (drop n before ++ rest)) else mark ∷ []) ++ parts_of words hs (drop m (drop n before) ++ rest))
front_parts words h hs before rest n m le less c d =
    let dropped : drop n (before ++ rest) ≡ drop n before ++ rest = drop-append-le n before rest le in
    first_parts words h hs (before ++ rest) n m c (ap (λ (ts : List Token). count_before h.span.end ts) dropped ∙ d)
    ∙ ap (λ (ts : List Token). take n (lexemes words (before ++ rest)) ++ ((if is_seen h (take m ts) then take m (lexemes words ts) else mark ∷ []) ++ parts_of words hs (drop m ts))) dropped
    ∙ ap (λ (ts : List Token). take n (lexemes words (before ++ rest)) ++ ((if is_seen h ts then take m (lexemes words (drop n before ++ rest)) else mark ∷ []) ++ parts_of words hs (drop m (drop n before ++ rest)))) (take-append-le m (drop n before) rest less)
    ∙ ap (λ (ts : List Token). take n (lexemes words (before ++ rest)) ++ ((if is_seen h (take m (drop n before)) then take m (lexemes words (drop n before ++ rest)) else mark ∷ []) ++ parts_of words hs ts)) (drop-append-le m (drop n before) rest less)

edited_parts : (words others : List (List ℕ)) (on back : ℕ) (above : List Hidden) (part place : Hidden) (below later : List Hidden) (before earlier : List Token) (first other : Token) (inside instead behind moved : List Token) →
    part.span.start ≡ place.span.start → Holds part first inside behind → Holds place other instead moved → SameLexemes words others 0 0 before earlier → All (λ t. t.start < part.span.start) before →
    All (λ h. h.span.start ≤ part.span.start) above → All (λ h. h.span.end ≤ part.span.start) above → SameLexemes words others on back behind moved → AllSameHidden on back below later →
    parts_of words (above ++ part ∷ below) (before ++ ((first ∷ inside) ++ behind)) ≡ parts_of others (above ++ place ∷ later) (earlier ++ ((other ∷ instead) ++ moved))
edited_parts words others on back [] part place below later before earlier first other inside instead behind moved e held holds same comes starts ends moves hides =
    let place_starts : first.start ≡ other.start = omega (arith, held.begins, holds.begins, e) in
    let front : take (length before) (lexemes words (before ++ ((first ∷ inside) ++ behind))) ≡ take (length before) (lexemes others (earlier ++ ((other ∷ instead) ++ moved))) =
    lexemes_front words others (length before) before earlier first other (inside ++ behind) (instead ++ moved) (omega arith) same place_starts in
    part_alone words part below before first inside behind comes held
    ∙ ap (λ (ps : List Part). ps ++ (mark ∷ parts_of words below behind)) front
    ∙ ap (λ (k : ℕ). take k (lexemes others (earlier ++ ((other ∷ instead) ++ moved))) ++ (mark ∷ parts_of words below behind)) (same_length words others 0 0 before earlier same)
    ∙ ap (λ (ps : List Part). take (length earlier) (lexemes others (earlier ++ ((other ∷ instead) ++ moved))) ++ (mark ∷ ps)) (parts_moved words others on back below later behind moved hides moves)
    ∙ sym (part_alone others place later earlier other instead moved (begin_before words others part.span.start place.span.start before earlier e same comes) holds)
edited_parts words others on back (g ∷ gs) part place below later before earlier first other inside instead behind moved e held holds same comes starts ends moves hides =
    let start : g.span.start ≤ part.span.start = All-head (λ h. h.span.start ≤ part.span.start) g gs starts in
    let end : g.span.end ≤ part.span.start = All-head (λ h. h.span.end ≤ part.span.start) g gs ends in
    let rest : List Token = (first ∷ inside) ++ behind in
    let more : List Token = (other ∷ instead) ++ moved in
    let place_starts : first.start ≡ other.start = omega (arith, held.begins, holds.begins, e) in
    let counts = count_front words others g.span.start before earlier first other (inside ++ behind) (instead ++ moved) same (omega (arith, start, held.begins)) (omega (arith, start, holds.begins, e)) in
    let n = counts.0 in
    let left = same_drop words others 0 0 n before earlier same in
    let within = count_front words others g.span.end (drop n before) (drop n earlier) first other (inside ++ behind) (instead ++ moved) left (omega (arith, end, held.begins)) (omega (arith, end, holds.begins, e)) in
    let m = within.0 in
    let n_less : n ≤ length earlier = omega (arith, counts.1, same_length words others 0 0 before earlier same) in
    let m_less : m ≤ length (drop n earlier) = omega (arith, within.1, same_length words others 0 0 (drop n before) (drop n earlier) left) in
    let further = edited_parts words others on back gs part place below later (drop m (drop n before)) (drop m (drop n earlier)) first other inside instead behind moved e held holds
    (same_drop words others 0 0 m (drop n before) (drop n earlier) left) (All-drop (λ t. t.start < part.span.start) m (drop n before) (All-drop (λ t. t.start < part.span.start) n before comes))
    (All-tail (λ h. h.span.start ≤ part.span.start) g gs starts) (All-tail (λ h. h.span.end ≤ part.span.start) g gs ends) moves hides in
    front_parts words g (gs ++ part ∷ below) before rest n m counts.1 within.1 counts.2 within.2
    ∙ rw (lexemes_front words others n before earlier first other (inside ++ behind) (instead ++ moved) counts.1 same place_starts, lexemes_front words others m (drop n before) (drop n earlier) first other (inside ++ behind) (instead ++ moved) within.1 left place_starts, super_same words others 0 0 m (drop n before) (drop n earlier) left, further) refl
    ∙ sym (front_parts others g (gs ++ place ∷ later) earlier more n m n_less m_less counts.3 within.3)

pub parts_stay : (words : List (List ℕ)) (hs : List Hidden) (ts : List Token) (others : List (List ℕ)) (ks : List Hidden) (us : List Token) → EditedInside words hs ts others ks us → parts_of words hs ts ≡ parts_of others ks us
parts_stay words hs ts others ks us e =
    let text : List Token = e.before ++ ((e.first ∷ e.inside) ++ e.behind) in
    let other : List Token = e.earlier ++ ((e.other ∷ e.instead) ++ e.moved) in
    let one : parts_of words hs ts ≡ parts_of words (e.above ++ e.part ∷ e.below) text =
    ap (λ (xs : List Hidden). parts_of words xs ts) e.ranges ∙ ap (λ (xs : List Token). parts_of words (e.above ++ e.part ∷ e.below) xs) e.tokens in
    let two : parts_of others ks us ≡ parts_of others (e.above ++ e.place ∷ e.later) other =
    ap (λ (xs : List Hidden). parts_of others xs us) e.shifted ∙ ap (λ (xs : List Token). parts_of others (e.above ++ e.place ∷ e.later) xs) e.edited in
    let same : parts_of words (e.above ++ e.part ∷ e.below) text ≡ parts_of others (e.above ++ e.place ∷ e.later) other =
    edited_parts words others e.on e.back e.above e.part e.place e.below e.later e.before e.earlier e.first e.other e.inside e.instead e.behind e.moved e.begins e.old e.new e.stays e.comes_first e.hidden_first e.hides_first e.moves e.hides in
    one ∙ same ∙ sym two
