-- The tokens of a group as the grammar reads them, found from the kinds of the open groups alone.
use Rattle.std.proofs.Common.{◌≡◌, ℕ, suc, ◌+◌, ◌-◌, ◌≤◌, ◌<◌, ◌==◌, Bool, true, false, not, nat_lt, List, [], ◌∷◌, Option, Some, None, is_some, unwrap_or, length, take, drop, slice_get, if◌then◌else◌, refl, sym, ap, ◌∙◌, arith}
use Rattle.std.specs.Option.{option_map_or}
use Rattle.std.proofs.lemmas.Bool.Decides.{nat_tests}
use Rattle.dart_tokens.specs.declared.token.Kind.{Kind}
use Rattle.dart_tokens.specs.declared.token.Token.{Token as TextToken}
use Rattle.dart_tokens.specs.Kinds.{Sort, PlainName, GrammarName, AsynchronousName, BuiltInName, BuiltInType, ReservedWord, Number, StringPart, Opening, Closing, Mark, sort_of, opened_by, closed_by}
use Rattle.dart_tokens.specs.Groups.{Bracket, Interpolation, opens, closes, is_same}
use Rattle.dart_tokens.specs.declared.grouped_token.GroupedToken.{GroupedToken as Token}
use Rattle.grammar.specs.Tokens.{ungrouped, last_end}
use Rattle.text_edits.specs.Brackets.{kinds_closed, kinds_after_opening, kinds_after, falls_below}

-- a token closes no group
abbrev pub is_lost_by : Option Bracket → List Bracket → Bool
is_lost_by None around = false
is_lost_by (Some b) around = not (is_some (kinds_closed b around))

abbrev pub is_lost : Kind → List Bracket → Bool
is_lost k around = is_lost_by (closes k) around

-- how many tokens are read up to the end of the group behind which fewer than so many are open
abbrev pub size : (least : ℕ) → List Bracket → List TextToken → ℕ
size least around [] = 0
size least around (t ∷ ts) =
    if falls_below least t.kind around then 0 else (if is_lost t.kind around then size least (kinds_after t.kind around) ts else suc (size least (kinds_after t.kind around) ts))

-- a token closes it
abbrev pub is_ended : (least : ℕ) → List Bracket → List TextToken → Bool
is_ended least around [] = false
is_ended least around (t ∷ ts) = if falls_below least t.kind around then suc (length (kinds_after t.kind around)) == least else is_ended least (kinds_after t.kind around) ts

-- one, if a token closes it
abbrev pub ended : (least : ℕ) → List Bracket → List TextToken → ℕ
ended least around ts = if is_ended least around ts then 1 else 0

-- what comes behind it, if a token closes it
abbrev pub behind : (least : ℕ) → List Bracket → List TextToken → Option (List TextToken)
behind least around [] = None
behind least around (t ∷ ts) =
    if falls_below least t.kind around then (if suc (length (kinds_after t.kind around)) == least then Some ts else None) else behind least (kinds_after t.kind around) ts

-- where its last token ends, or else what comes before
abbrev pub ends_at : ℕ → (least : ℕ) → List Bracket → List TextToken → ℕ
ends_at e least around [] = e
ends_at e least around (t ∷ ts) =
    if falls_below least t.kind around then (if suc (length (kinds_after t.kind around)) == least then t.end else e)
    else (if is_lost t.kind around then ends_at e least (kinds_after t.kind around) ts else ends_at t.end least (kinds_after t.kind around) ts)

-- a token as the grammar reads it
abbrev pub read_by : List Bracket → Option Bracket → TextToken → List TextToken → Token
read_by around None t ts = ungrouped t
read_by around (Some b) t ts =
    record {
      kind = t.kind;
      is_closed = is_ended (suc (length around)) (b ∷ around) ts;
      start = t.start;
      end = t.end;
      word = t.word;
      width = size (suc (length around)) (b ∷ around) ts;
    }

abbrev pub read_in : List Bracket → TextToken → List TextToken → Token
read_in around t ts = read_by around (opens t.kind) t ts

-- the tokens that are read up to its end
abbrev pub window : (least : ℕ) → List Bracket → List TextToken → List Token
window least around [] = []
window least around (t ∷ ts) =
    if falls_below least t.kind around then [] else (if is_lost t.kind around then window least (kinds_after t.kind around) ts else read_in around t ts ∷ window least (kinds_after t.kind around) ts)

-- the tokens of the innermost group
abbrev pub level : List Bracket → List TextToken → List Token
level around ts = window (length around) around ts

abbrev pub level_behind : List Bracket → Option (List TextToken) → List Token
level_behind around None = []
level_behind around (Some ts) = level around ts

-- Numbers.

pub still_above : (n low high : ℕ) → nat_lt n high ≡ false → low ≤ high → nat_lt n low ≡ false
still_above n low high e h = grind (arith, nat_tests)

pub above_is : (n least : ℕ) → nat_lt n least ≡ false → least ≤ n
above_is n least e = grind (arith, nat_tests)

pub below_is : (n least : ℕ) → nat_lt n least ≡ true → n < least
below_is n least e = grind (arith, nat_tests)

pub is_above : (n least : ℕ) → least ≤ n → nat_lt n least ≡ false
is_above n least h = grind (arith, nat_tests)

pub is_equal : (a b : ℕ) → (a == b) ≡ true → a ≡ b
is_equal a b e = grind (arith, nat_tests)

pub is_other : (a b : ℕ) → (a == b) ≡ false → a ≡ b → ⊥
is_other a b e s = grind (arith, nat_tests)

-- What a token does to the open groups.

lost_none : (b : Bracket) (around : List Bracket) (o : Option (List Bracket)) → not (is_some o) ≡ true → unwrap_or o around ≡ around
lost_none b around None e = refl
lost_none b around (Some x) e = absurd (cc)

lost_sort : (s : Sort) (around : List Bracket) → is_lost_by (closed_by s) around ≡ true → kinds_after_opening (opened_by s) (closed_by s) around ≡ around
lost_sort PlainName around e = refl
lost_sort GrammarName around e = refl
lost_sort AsynchronousName around e = refl
lost_sort BuiltInName around e = refl
lost_sort BuiltInType around e = refl
lost_sort ReservedWord around e = refl
lost_sort Number around e = refl
lost_sort StringPart around e = refl
lost_sort (Opening b) around e = absurd (cc)
lost_sort (Closing b) around e = lost_none b around (kinds_closed b around) e
lost_sort Mark around e = refl

-- one that closes none leaves them
pub lost_same : (k : Kind) (around : List Bracket) → is_lost k around ≡ true → kinds_after k around ≡ around
lost_same k around e = lost_sort (sort_of k) around e

-- one behind which fewer are open closes one
pub below_found : (k : Kind) (around : List Bracket) (least : ℕ) → least ≤ length around → falls_below least k around ≡ true → is_lost k around ≡ false
below_found k around least h e = by (is_lost k around) refl
  where
    by : (l : Bool) → is_lost k around ≡ l → l ≡ false
    by true l = let same : kinds_after k around ≡ around = lost_same k around l in absurd (omega (arith, h, below_is (length (kinds_after k around)) least e, ap (λ (bs : List Bracket). length bs) same))
    by false l = refl

pick : {A : Type 0} (P : A → Type 0) (found border : Bool) (here otherwise : A) (rest : Option A) → P here → P otherwise → P (unwrap_or rest otherwise) → P (unwrap_or (if found then Some here else (if border then None else rest)) otherwise)
pick P true border here otherwise rest p q r = p
pick P false true here otherwise rest p q r = q
pick P false false here otherwise rest p q r = r

-- what holds of groups, and so of those around the innermost, holds of those that stay open
pub closed_keeps : (P : List Bracket → Type 0) → ((b : Bracket) (bs : List Bracket) → P (b ∷ bs) → P bs) → (b : Bracket) (around otherwise : List Bracket) → P around → P otherwise → P (unwrap_or (kinds_closed b around) otherwise)
closed_keeps P down b [] otherwise p q = q
closed_keeps P down b (c ∷ around) otherwise p q =
    pick P (is_same b c) (is_same Interpolation c) around otherwise (kinds_closed b around) (down c around p) q (closed_keeps P down b around otherwise (down c around p) q)

pub after_keeps : (P : List Bracket → Type 0) → ((b : Bracket) (bs : List Bracket) → P (b ∷ bs) → P bs) → (k : Kind) (around : List Bracket) → P around → ((b : Bracket) → P (b ∷ around)) → P (kinds_after k around)
after_keeps P down k around p up = by (opens k) (closes k)
  where
    by : (o c : Option Bracket) → P (kinds_after_opening o c around)
    by None None = p
    by None (Some b) = closed_keeps P down b around around p p
    by (Some b) c = up b

-- no group is closed twice
closed_fewer : (b : Bracket) (around otherwise : List Bracket) → length otherwise ≤ length around → length (unwrap_or (kinds_closed b around) otherwise) ≤ length around
closed_fewer b around otherwise h = closed_keeps (λ bs. length bs ≤ length around) (λ c bs l. omega (arith, l)) b around otherwise (omega arith) h

pub found_fewer : (b : Bracket) (around otherwise : List Bracket) → is_some (kinds_closed b around) ≡ true → length (unwrap_or (kinds_closed b around) otherwise) < length around
found_fewer b [] otherwise e = absurd (cc)
found_fewer b (c ∷ around) otherwise e = by (λ h. found_fewer b around otherwise h) (is_same b c) refl (is_same Interpolation c) refl e
  where
    by : (is_some (kinds_closed b around) ≡ true → length (unwrap_or (kinds_closed b around) otherwise) < length around) → (found : Bool) → is_same b c ≡ found → (border : Bool) → is_same Interpolation c ≡ border → is_some (if found then Some around else (if border then None else kinds_closed b around)) ≡ true →
        length (unwrap_or (if is_same b c then Some around else (if is_same Interpolation c then None else kinds_closed b around)) otherwise) < suc (length around)
    by r true f border g h = rw f (omega arith)
    by r false f true g h = absurd (cc)
    by r false f false g h = rw (f, g) (omega (arith, r h))

kept_sort : (s : Sort) (around : List Bracket) → opened_by s ≡ None → is_lost_by (closed_by s) around ≡ false → nat_lt (length (kinds_after_opening (opened_by s) (closed_by s) around)) (length around) ≡ false → kinds_after_opening (opened_by s) (closed_by s) around ≡ around
kept_sort PlainName around o l e = refl
kept_sort GrammarName around o l e = refl
kept_sort AsynchronousName around o l e = refl
kept_sort BuiltInName around o l e = refl
kept_sort BuiltInType around o l e = refl
kept_sort ReservedWord around o l e = refl
kept_sort Number around o l e = refl
kept_sort StringPart around o l e = refl
kept_sort (Opening b) around o l e = absurd (cc)
kept_sort (Closing b) around o l e =
    let some : is_some (kinds_closed b around) ≡ true = is_not (is_some (kinds_closed b around)) l in
    absurd (omega (arith, found_fewer b around around some, above_is (length (unwrap_or (kinds_closed b around) around)) (length around) e))
  where
    is_not : (x : Bool) → not x ≡ false → x ≡ true
    is_not true h = refl
    is_not false h = absurd (cc)
kept_sort Mark around o l e = refl

-- one that opens no group and ends none leaves them
pub plain_same : (k : Kind) (around : List Bracket) → opens k ≡ None → is_lost k around ≡ false → falls_below (length around) k around ≡ false → kinds_after k around ≡ around
plain_same k around o l e = kept_sort (sort_of k) around o l e

pub opener_after : (k : Kind) (b : Bracket) (around : List Bracket) → opens k ≡ Some b → kinds_after k around ≡ b ∷ around
opener_after k b around e = rw e refl

-- Windows.

pub take_window : (low least : ℕ) (around : List Bracket) (ts : List TextToken) → low ≤ least → take (size least around ts) (window low around ts) ≡ window least around ts
take_window low least around [] h = refl
take_window low least around (t ∷ ts) h = by (falls_below least t.kind around) refl (is_lost t.kind around) refl (take_window low least (kinds_after t.kind around) ts h)
  where
    by : (e : Bool) → falls_below least t.kind around ≡ e → (l : Bool) → is_lost t.kind around ≡ l → take (size least (kinds_after t.kind around) ts) (window low (kinds_after t.kind around) ts) ≡ window least (kinds_after t.kind around) ts →
        take (size least around (t ∷ ts)) (window low around (t ∷ ts)) ≡ window least around (t ∷ ts)
    by true e l f r = rw e refl
    by false e true f r = rw (e, f, still_above (length (kinds_after t.kind around)) low least e h) r
    by false e false f r = rw (e, f, still_above (length (kinds_after t.kind around)) low least e h) (ap (λ (us : List Token). read_in around t ts ∷ us) r)

-- Each of the innermost groups that are as many as these are these.
abbrev pub Over : List Bracket → List Bracket → Type 0
Over around [] = length around ≡ 0 → [] ≡ around
Over around (b ∷ bs) = (length around ≡ suc (length bs) → b ∷ bs ≡ around) × Over around bs

pub over_down : (around : List Bracket) (b : Bracket) (bs : List Bracket) → Over around (b ∷ bs) → Over around bs
over_down around b bs o = o.1

pub over_up : (around : List Bracket) (bs : List Bracket) (b : Bracket) → length around ≤ length bs → Over around bs → Over around (b ∷ bs)
over_up around bs b h o = (λ e. absurd (omega (arith, h, e)), o)

pub over_same : (around bs : List Bracket) → Over around bs → length bs ≡ length around → bs ≡ around
over_same around [] o e = o (sym e)
over_same around (b ∷ bs) o e = o.0 (sym e)

over_shorter : (around bs : List Bracket) → length bs < length around → Over around bs
over_shorter around [] h = λ e. absurd (omega (arith, h, e))
over_shorter around (b ∷ bs) h = (λ e. absurd (omega (arith, h, e)), over_shorter around bs (omega (arith, h)))

pub over_itself : (around : List Bracket) → Over around around
over_itself [] = λ e. refl
over_itself (b ∷ bs) = (λ e. refl, over_shorter (b ∷ bs) bs (omega arith))

pub over_after : (around bs : List Bracket) (k : Kind) → length around ≤ length bs → Over around bs → Over around (kinds_after k bs)
over_after around bs k h o = after_keeps (Over around) (over_down around) k bs o (λ b. over_up around bs b h o)

pub drop_window : (around bs : List Bracket) (ts : List TextToken) → Over around bs → suc (length around) ≤ length bs →
    drop (size (suc (length around)) bs ts + ended (suc (length around)) bs ts) (window (length around) bs ts) ≡ level_behind around (behind (suc (length around)) bs ts)
drop_window around bs [] o h = refl
drop_window around bs (t ∷ ts) o h = by (λ over more. drop_window around (kinds_after t.kind bs) ts over more) (falls_below (suc (length around)) t.kind bs) refl (suc (length (kinds_after t.kind bs)) == suc (length around)) refl (is_lost t.kind bs) refl
  where
    after : List Bracket
    after = kinds_after t.kind bs

    over : Over around after
    over = over_after around bs t.kind (omega (arith, h)) o

    Rest : Type 0
    Rest = Over around after → suc (length around) ≤ length after → drop (size (suc (length around)) after ts + ended (suc (length around)) after ts) (window (length around) after ts) ≡ level_behind around (behind (suc (length around)) after ts)

    by : Rest → (e : Bool) → falls_below (suc (length around)) t.kind bs ≡ e → (x : Bool) → (suc (length after) == suc (length around)) ≡ x → (l : Bool) → is_lost t.kind bs ≡ l →
        drop (size (suc (length around)) bs (t ∷ ts) + ended (suc (length around)) bs (t ∷ ts)) (window (length around) bs (t ∷ ts)) ≡ level_behind around (behind (suc (length around)) bs (t ∷ ts))
    by r true e true x l f =
        let found : is_lost t.kind bs ≡ false = below_found t.kind bs (suc (length around)) h e in
        let same : after ≡ around = over_same around after over (omega (arith, is_equal (suc (length after)) (suc (length around)) x)) in
        let above : falls_below (length around) t.kind bs ≡ false = is_above (length after) (length around) (omega (arith, ap (λ (cs : List Bracket). length cs) same)) in
        rw (e, x, above, found, same) refl
    by r true e false x l f =
        let less : nat_lt (length after) (length around) ≡ true = fewer (length after) (length around) (below_is (length after) (suc (length around)) e) x in
        rw (e, x, less) refl
      where
        fewer : (n m : ℕ) → n < suc m → (suc n == suc m) ≡ false → nat_lt n m ≡ true
        fewer n m h x = grind (arith, nat_tests)
    by r false e x y true f =
        let above : falls_below (length around) t.kind bs ≡ false = still_above (length after) (length around) (suc (length around)) e (omega arith) in
        rw (e, f, above) (r over (above_is (length after) (suc (length around)) e))
    by r false e x y false f =
        let above : falls_below (length around) t.kind bs ≡ false = still_above (length after) (length around) (suc (length around)) e (omega arith) in
        let one_more : suc (size (suc (length around)) after ts) + ended (suc (length around)) after ts ≡ suc (size (suc (length around)) after ts + ended (suc (length around)) after ts) = omega arith in
        rw (e, f, above) (ap (λ (n : ℕ). drop n (read_in bs t ts ∷ window (length around) after ts)) one_more ∙ r over (above_is (length after) (suc (length around)) e))

read_end : (around : List Bracket) (t : TextToken) (ts : List TextToken) → (read_in around t ts).end ≡ t.end
read_end around t ts = by (opens t.kind)
  where
    by : (o : Option Bracket) → (read_by around o t ts).end ≡ t.end
    by None = refl
    by (Some b) = refl

last_next : (a b : Token) (ts : List Token) → last_end (a ∷ (b ∷ ts)) ≡ last_end (b ∷ ts)
last_next a b ts =
    let one : suc (suc (length ts)) - 1 ≡ suc (length ts) = omega arith in
    let two : suc (length ts) - 1 ≡ length ts = omega arith in
    ap (λ (n : ℕ). option_map_or (λ (t : Token). t.end) (slice_get (a ∷ (b ∷ ts)) n) 0) one ∙ ap (λ (n : ℕ). option_map_or (λ (t : Token). t.end) (slice_get (b ∷ ts) n) 0) (sym two)

-- where the last of the tokens ends that are passed to come behind a group
pub last_window : (low least : ℕ) (around : List Bracket) (ts : List TextToken) (first : Token) → low < least → least ≤ length around →
    last_end (first ∷ take (size least around ts + ended least around ts) (window low around ts)) ≡ ends_at first.end least around ts
last_window low least around [] first h g = refl
last_window low least around (t ∷ ts) first h g = by (λ f more. last_window low least (kinds_after t.kind around) ts f h more) (falls_below least t.kind around) refl (suc (length (kinds_after t.kind around)) == least) refl (is_lost t.kind around) refl
  where
    after : List Bracket
    after = kinds_after t.kind around

    Rest : Type 0
    Rest = (f : Token) → least ≤ length after → last_end (f ∷ take (size least after ts + ended least after ts) (window low after ts)) ≡ ends_at f.end least after ts

    by : Rest → (e : Bool) → falls_below least t.kind around ≡ e → (x : Bool) → (suc (length after) == least) ≡ x → (l : Bool) → is_lost t.kind around ≡ l →
        last_end (first ∷ take (size least around (t ∷ ts) + ended least around (t ∷ ts)) (window low around (t ∷ ts))) ≡ ends_at first.end least around (t ∷ ts)
    by r true e true x l f =
        let found : is_lost t.kind around ≡ false = below_found t.kind around least g e in
        let above : falls_below low t.kind around ≡ false = is_above (length after) low (omega (arith, is_equal (suc (length after)) least x, h)) in
        rw (e, x, found, above) (read_end around t ts)
    by r true e false x l f = rw (e, x) refl
    by r false e x y true f =
        let above : falls_below low t.kind around ≡ false = still_above (length after) low least e (omega (arith, h)) in
        rw (e, f, above) (r first (above_is (length after) least e))
    by r false e x y false f =
        let above : falls_below low t.kind around ≡ false = still_above (length after) low least e (omega (arith, h)) in
        let one_more : suc (size least after ts) + ended least after ts ≡ suc (size least after ts + ended least after ts) = omega arith in
        rw (e, f, above)
        (ap (λ (n : ℕ). last_end (first ∷ take n (read_in around t ts ∷ window low after ts))) one_more ∙ last_next first (read_in around t ts) (take (size least after ts + ended least after ts) (window low after ts))
        ∙ r (read_in around t ts) (above_is (length after) least e) ∙ ap (λ (n : ℕ). ends_at n least after ts) (read_end around t ts))
