-- Which tokens are seen, where tokens and ranges stand in order.
use Rattle.std.proofs.Common.{◌≡◌, ℕ, zero, suc, ◌≤◌, ◌<◌, Bool, true, false, ◌&&◌, ◌||◌, not, nat_lt, List, [], ◌∷◌, ◌++◌, length, take, drop, refl, sym, ap, ◌∙◌, subst, arith, append-nil, if◌then◌else◌}
use Rattle.std.specs.List.{filter, take_while}
use Rattle.std.proofs.lemmas.Bool.{lt-ltb, le-ltb, ltb-true, ltb-false}
use Rattle.std.proofs.lemmas.List.{append_assoc, take-append-drop}
use Rattle.std.proofs.lemmas.List.Elements.{filter-append}
use Rattle.std.proofs.lemmas.List.Sums.{take_while-cons}
use Rattle.dart_tokens.specs.declared.token.Token.{Token}
use Rattle.interface_part.specs.declared.hidden.Hidden.{Hidden}
use Rattle.interface_part.specs.Parts.{Part, mark}
use Rattle.interface_part.specs.Interface.{count_before, is_seen, lexeme_of, lexemes, parts_of}
use Rattle.interface_part.specs.Order.{TokensInOrder, RangesInOrder, begins_within, is_marked, unmarked, is_lexeme, is_mark, marked}

-- each of the tokens begins before an offset
abbrev BeginBefore : (offset : ℕ) → List Token → Type 0
BeginBefore offset [] = Unit {0}
BeginBefore offset (t ∷ ts) = (t.start < offset) × BeginBefore offset ts

before_later : (a b : ℕ) (ts : List Token) → a ≤ b → BeginBefore a ts → BeginBefore b ts
before_later a b [] le before = tt
before_later a b (t ∷ ts) le before = (omega (arith, le, before.0), before_later a b ts le before.1)

before_both : (a : ℕ) (xs ys : List Token) → BeginBefore a xs → BeginBefore a ys → BeginBefore a (xs ++ ys)
before_both a [] ys first second = second
before_both a (x ∷ xs) ys first second = (first.0, before_both a xs ys first.1 second)

order_taken : (a n : ℕ) (ts : List Token) → TokensInOrder a ts → TokensInOrder a (take n ts)
order_taken a zero ts order = tt
order_taken a (suc n) [] order = tt
order_taken a (suc n) (t ∷ ts) order = (order.0, order_taken t.start n ts order.1)

-- the tokens that are counted begin before the offset, and the others don't
split_at : (offset a : ℕ) (ts : List Token) → TokensInOrder a ts →
    BeginBefore offset (take (count_before offset ts) ts) × TokensInOrder offset (drop (count_before offset ts) ts)
split_at offset a [] order = (tt, tt)
split_at offset a (t ∷ ts) order = by (nat_lt t.start offset) refl (split_at offset t.start ts order.1)
  where
    by : (b : Bool) → nat_lt t.start offset ≡ b →
        BeginBefore offset (take (count_before offset ts) ts) × TokensInOrder offset (drop (count_before offset ts) ts) →
        BeginBefore offset (take (count_before offset (t ∷ ts)) (t ∷ ts)) × TokensInOrder offset (drop (count_before offset (t ∷ ts)) (t ∷ ts))
    by true u rest =
        let counted : count_before offset (t ∷ ts) ≡ suc (count_before offset ts) =
        ap (λ (xs : List Token). length xs) (take_while-cons (λ x. nat_lt x.start offset) t ts) ∙ ap (λ (b : Bool). length (if b then t ∷ take_while (λ x. nat_lt x.start offset) ts else [])) u in
        subst (λ (k : ℕ). BeginBefore offset (take k (t ∷ ts)) × TokensInOrder offset (drop k (t ∷ ts))) (sym counted) ((ltb-true t.start offset u, rest.0), rest.1)
    by false u rest =
        let counted : count_before offset (t ∷ ts) ≡ 0 =
        ap (λ (xs : List Token). length xs) (take_while-cons (λ x. nat_lt x.start offset) t ts) ∙ ap (λ (b : Bool). length (if b then t ∷ take_while (λ x. nat_lt x.start offset) ts else [])) u in
        subst (λ (k : ℕ). BeginBefore offset (take k (t ∷ ts)) × TokensInOrder offset (drop k (t ∷ ts))) (sym counted) (tt, (ltb-false t.start offset u, order.1))

-- One token.

before_range : (h : Hidden) (t : Token) → t.start < h.span.start → begins_within h t ≡ false
before_range h t before = ap (λ (b : Bool). not b && nat_lt t.start h.span.end) (lt-ltb t.start h.span.start before)

in_range : (h : Hidden) (t : Token) → h.span.start ≤ t.start → t.start < h.span.end → begins_within h t ≡ true
in_range h t from before =
    ap (λ (b : Bool). not b && nat_lt t.start h.span.end) (le-ltb t.start h.span.start from) ∙ lt-ltb t.start h.span.end before

behind_range : (h : Hidden) (t : Token) → h.span.end ≤ t.start → begins_within h t ≡ false
behind_range h t behind = ap (λ (b : Bool). not (nat_lt t.start h.span.start) && b) (le-ltb t.start h.span.end behind) ∙ by (not (nat_lt t.start h.span.start))
  where
    by : (b : Bool) → (b && false) ≡ false
    by true = refl
    by false = refl

unmarked_before : (text : List Token) (hs : List Hidden) (from : ℕ) (t : Token) → RangesInOrder from hs → t.start < from → is_marked text hs t ≡ false
unmarked_before text [] from t order before = refl
unmarked_before text (h ∷ hs) from t order before =
    let first : t.start < h.span.start = omega (arith, order.0, before) in
    let second : t.start < h.span.end = omega (arith, order.1, first) in
    ap (λ (b : Bool). (b && not (is_seen h (filter (begins_within h) text))) || is_marked text hs t) (before_range h t first)
    ∙ unmarked_before text hs h.span.end t order.2 second

-- Several tokens.

abbrev AllAre : (marked : Bool) (text : List Token) (hs : List Hidden) → List Token → Type 0
AllAre marked text hs [] = Unit {0}
AllAre marked text hs (t ∷ ts) = (is_marked text hs t ≡ marked) × AllAre marked text hs ts

all_before : (text : List Token) (hs : List Hidden) (from : ℕ) (ts : List Token) → RangesInOrder from hs → BeginBefore from ts → AllAre false text hs ts
all_before text hs from [] order before = tt
all_before text hs from (t ∷ ts) order before = (unmarked_before text hs from t order before.0, all_before text hs from ts order before.1)

all_within : (text : List Token) (h : Hidden) (hs : List Hidden) (a : ℕ) (seen : Bool) (ts : List Token) → is_seen h (filter (begins_within h) text) ≡ seen → RangesInOrder h.span.end hs →
    h.span.start ≤ a → TokensInOrder a ts → BeginBefore h.span.end ts → AllAre (not seen) text (h ∷ hs) ts
all_within text h hs a seen [] is ranges from order before = tt
all_within text h hs a seen (t ∷ ts) is ranges from order before =
    let begins : h.span.start ≤ t.start = omega (arith, from, order.0) in (
      ap (λ (b : Bool). (b && not (is_seen h (filter (begins_within h) text))) || is_marked text hs t) (in_range h t begins before.0)
          ∙ ap (λ (b : Bool). not b || is_marked text hs t) is ∙ ap (λ (b : Bool). not seen || b) (unmarked_before text hs h.span.end t ranges before.0) ∙ by (not seen),
      all_within text h hs t.start seen ts is ranges begins order.1 before.1,
    )
  where
    by : (b : Bool) → (b || false) ≡ b
    by true = refl
    by false = refl

kept : (words : List (List ℕ)) (text : List Token) (hs : List Hidden) (n : ℕ) (ts : List Token) → AllAre false text hs (take n ts) →
    unmarked words text hs ts ≡ take n (lexemes words ts) ++ unmarked words text hs (drop n ts)
kept words text hs zero ts all = refl
kept words text hs (suc n) [] all = refl
kept words text hs (suc n) (t ∷ ts) all =
    ap (λ (b : Bool). if b then unmarked words text hs ts else lexeme_of words t ts ∷ unmarked words text hs ts) all.0
    ∙ ap (λ (rest : List Part). lexeme_of words t ts ∷ rest) (kept words text hs n ts all.1)

dropped : (words : List (List ℕ)) (text : List Token) (hs : List Hidden) (n : ℕ) (ts : List Token) → AllAre true text hs (take n ts) →
    unmarked words text hs ts ≡ unmarked words text hs (drop n ts)
dropped words text hs zero ts all = refl
dropped words text hs (suc n) [] all = refl
dropped words text hs (suc n) (t ∷ ts) all =
    ap (λ (b : Bool). if b then unmarked words text hs ts else lexeme_of words t ts ∷ unmarked words text hs ts) all.0 ∙ dropped words text hs n ts all.1

unmarked_behind : (words : List (List ℕ)) (text : List Token) (h : Hidden) (hs : List Hidden) (a : ℕ) (ts : List Token) → h.span.end ≤ a → TokensInOrder a ts →
    unmarked words text (h ∷ hs) ts ≡ unmarked words text hs ts
unmarked_behind words text h hs a [] from order = refl
unmarked_behind words text h hs a (t ∷ ts) from order =
    let begins : h.span.end ≤ t.start = omega (arith, from, order.0) in
    ap (λ (b : Bool). if (b && not (is_seen h (filter (begins_within h) text))) || is_marked text hs t then unmarked words text (h ∷ hs) ts else lexeme_of words t ts ∷ unmarked words text (h ∷ hs) ts)
    (behind_range h t begins)
    ∙ ap (λ (rest : List Part). if is_marked text hs t then rest else lexeme_of words t ts ∷ rest) (unmarked_behind words text h hs t.start ts begins order.1)

-- The tokens within a range.

within_before : (h : Hidden) (ts : List Token) → BeginBefore h.span.start ts → filter (begins_within h) ts ≡ []
within_before h [] before = refl
within_before h (t ∷ ts) before =
    ap (λ (b : Bool). if b then t ∷ filter (begins_within h) ts else filter (begins_within h) ts) (before_range h t before.0) ∙ within_before h ts before.1

within_inside : (h : Hidden) (a : ℕ) (ts : List Token) → h.span.start ≤ a → TokensInOrder a ts → BeginBefore h.span.end ts → filter (begins_within h) ts ≡ ts
within_inside h a [] from order before = refl
within_inside h a (t ∷ ts) from order before =
    let begins : h.span.start ≤ t.start = omega (arith, from, order.0) in
    ap (λ (b : Bool). if b then t ∷ filter (begins_within h) ts else filter (begins_within h) ts) (in_range h t begins before.0)
    ∙ ap (λ (rest : List Token). t ∷ rest) (within_inside h t.start ts begins order.1 before.1)

within_behind : (h : Hidden) (a : ℕ) (ts : List Token) → h.span.end ≤ a → TokensInOrder a ts → filter (begins_within h) ts ≡ []
within_behind h a [] from order = refl
within_behind h a (t ∷ ts) from order =
    let begins : h.span.end ≤ t.start = omega (arith, from, order.0) in
    ap (λ (b : Bool). if b then t ∷ filter (begins_within h) ts else filter (begins_within h) ts) (behind_range h t begins) ∙ within_behind h t.start ts begins order.1

within_text : (h : Hidden) (before inside behind : List Token) → BeginBefore h.span.start before → TokensInOrder h.span.start inside → BeginBefore h.span.end inside →
    TokensInOrder h.span.end behind → filter (begins_within h) (before ++ (inside ++ behind)) ≡ inside
within_text h before inside behind first from until last =
    let start : h.span.start ≤ h.span.start = omega arith in
    let end : h.span.end ≤ h.span.end = omega arith in
    filter-append (begins_within h) before (inside ++ behind)
    ∙ ap (λ (xs : List Token). xs ++ filter (begins_within h) (inside ++ behind)) (within_before h before first)
    ∙ filter-append (begins_within h) inside behind
    ∙ ap (λ (xs : List Token). xs ++ filter (begins_within h) behind) (within_inside h h.span.start inside start from until)
    ∙ ap (λ (xs : List Token). inside ++ xs) (within_behind h h.span.end behind end last) ∙ append-nil inside

-- Lexemes.

all_lexemes : (words : List (List ℕ)) (ts : List Token) → filter is_lexeme (lexemes words ts) ≡ lexemes words ts
all_lexemes words [] = refl
all_lexemes words (t ∷ ts) = ap (λ (rest : List Part). lexeme_of words t ts ∷ rest) (all_lexemes words ts)

taken_lexemes : (words : List (List ℕ)) (n : ℕ) (ts : List Token) → filter is_lexeme (take n (lexemes words ts)) ≡ take n (lexemes words ts)
taken_lexemes words zero ts = refl
taken_lexemes words (suc n) [] = refl
taken_lexemes words (suc n) (t ∷ ts) = ap (λ (rest : List Part). lexeme_of words t ts ∷ rest) (taken_lexemes words n ts)

none_hidden : (words : List (List ℕ)) (text ts : List Token) → unmarked words text [] ts ≡ lexemes words ts
none_hidden words text [] = refl
none_hidden words text (t ∷ ts) = ap (λ (rest : List Part). lexeme_of words t ts ∷ rest) (none_hidden words text ts)

-- what stands behind the first tokens of a text
lexemes_behind : (words : List (List ℕ)) (hs : List Hidden) (from a : ℕ) (before ts : List Token) → BeginBefore from before → TokensInOrder a ts → RangesInOrder from hs →
    filter is_lexeme (parts_of words hs ts) ≡ unmarked words (before ++ ts) hs ts
lexemes_behind words [] from a before ts earlier tokens ranges = all_lexemes words ts ∙ sym (none_hidden words (before ++ ts) ts)
lexemes_behind words (h ∷ hs) from a before ts earlier tokens ranges =
    let n = count_before h.span.start ts in
    let first = split_at h.span.start a ts tokens in
    let behind = drop n ts in
    let m = count_before h.span.end behind in
    let second = split_at h.span.end h.span.start behind first.1 in
    let inside = take m behind in
    let rest = drop m behind in
    let front : List Token = before ++ take n ts in
    let start : h.span.start ≤ h.span.start = omega arith in
    let end : h.span.end ≤ h.span.end = omega arith in
    let ranges_here : RangesInOrder h.span.start (h ∷ hs) = (start, ranges.1, ranges.2) in
    let front_before : BeginBefore h.span.start front =
    before_both h.span.start before (take n ts) (before_later from h.span.start before ranges.0 earlier) first.0 in
    let inside_order : TokensInOrder h.span.start inside = order_taken h.span.start m behind first.1 in
    let all_before_rest : BeginBefore h.span.end (front ++ inside) =
    before_both h.span.end front inside (before_later h.span.start h.span.end front ranges.1 front_before) second.0 in
    let parted : before ++ ts ≡ front ++ (inside ++ rest) =
    ap (λ (xs : List Token). before ++ xs) (sym (take-append-drop n ts)) ∙ sym (append_assoc before (take n ts) behind)
    ∙ ap (λ (xs : List Token). front ++ xs) (sym (take-append-drop m behind)) in
    let text : before ++ ts ≡ (front ++ inside) ++ rest = parted ∙ sym (append_assoc front inside rest) in
    let within : filter (begins_within h) (before ++ ts) ≡ inside =
    ap (λ (xs : List Token). filter (begins_within h) xs) parted ∙ within_text h front inside rest front_before inside_order second.0 second.1 in
    let further : filter is_lexeme (parts_of words hs rest) ≡ unmarked words (before ++ ts) hs rest =
    lexemes_behind words hs h.span.end h.span.end (front ++ inside) rest all_before_rest second.1 ranges.2
    ∙ ap (λ (xs : List Token). unmarked words xs hs rest) (sym text) in
    let last : filter is_lexeme (parts_of words hs rest) ≡ unmarked words (before ++ ts) (h ∷ hs) rest =
    further ∙ sym (unmarked_behind words (before ++ ts) h hs h.span.end rest end second.1) in
    let opening : unmarked words (before ++ ts) (h ∷ hs) ts ≡ take n (lexemes words ts) ++ unmarked words (before ++ ts) (h ∷ hs) behind =
    kept words (before ++ ts) (h ∷ hs) n ts (all_before (before ++ ts) (h ∷ hs) h.span.start (take n ts) ranges_here first.0) in
    filter-append is_lexeme (take n (lexemes words ts)) ((if is_seen h inside then take m (lexemes words behind) else mark ∷ []) ++ parts_of words hs rest)
    ∙ ap (λ (xs : List Part). xs ++ filter is_lexeme ((if is_seen h inside then take m (lexemes words behind) else mark ∷ []) ++ parts_of words hs rest)) (taken_lexemes words n ts)
    ∙ ap (λ (xs : List Part). take n (lexemes words ts) ++ xs)
    (inner words (before ++ ts) h hs m behind (is_seen h inside) (ap (λ (xs : List Token). is_seen h xs) within) ranges.2 first.1 inside_order second.0 last)
    ∙ sym opening
  where
    inner : (words : List (List ℕ)) (text : List Token) (h : Hidden) (hs : List Hidden) (m : ℕ) (behind : List Token) (seen : Bool) →
        is_seen h (filter (begins_within h) text) ≡ seen → RangesInOrder h.span.end hs → TokensInOrder h.span.start behind → TokensInOrder h.span.start (take m behind) →
        BeginBefore h.span.end (take m behind) → filter is_lexeme (parts_of words hs (drop m behind)) ≡ unmarked words text (h ∷ hs) (drop m behind) →
        filter is_lexeme ((if seen then take m (lexemes words behind) else mark ∷ []) ++ parts_of words hs (drop m behind)) ≡ unmarked words text (h ∷ hs) behind
    inner words text h hs m behind true is ranges order inside until last =
        let start : h.span.start ≤ h.span.start = omega arith in
        filter-append is_lexeme (take m (lexemes words behind)) (parts_of words hs (drop m behind))
        ∙ ap (λ (xs : List Part). xs ++ filter is_lexeme (parts_of words hs (drop m behind))) (taken_lexemes words m behind)
        ∙ ap (λ (xs : List Part). take m (lexemes words behind) ++ xs) last
        ∙ sym (kept words text (h ∷ hs) m behind (all_within text h hs h.span.start true (take m behind) is ranges start inside until))
    inner words text h hs m behind false is ranges order inside until last =
        let start : h.span.start ≤ h.span.start = omega arith in
        last ∙ sym (dropped words text (h ∷ hs) m behind (all_within text h hs h.span.start false (take m behind) is ranges start inside until))

-- the lexemes of an interface part are those of the tokens for which no mark stands
pub lexemes_are_unmarked : (words : List (List ℕ)) (hs : List Hidden) (ts : List Token) → TokensInOrder 0 ts → RangesInOrder 0 hs →
    filter is_lexeme (parts_of words hs ts) ≡ unmarked words ts hs ts
lexemes_are_unmarked words hs ts tokens ranges = lexemes_behind words hs 0 0 [] ts tt tokens ranges

-- Marks.

no_marks : (words : List (List ℕ)) (ts : List Token) → filter is_mark (lexemes words ts) ≡ []
no_marks words [] = refl
no_marks words (t ∷ ts) = no_marks words ts

no_marks_taken : (words : List (List ℕ)) (n : ℕ) (ts : List Token) → filter is_mark (take n (lexemes words ts)) ≡ []
no_marks_taken words zero ts = refl
no_marks_taken words (suc n) [] = refl
no_marks_taken words (suc n) (t ∷ ts) = no_marks_taken words n ts

-- what stands behind the first tokens of a text
marks_behind : (words : List (List ℕ)) (hs : List Hidden) (from a : ℕ) (before ts : List Token) → BeginBefore from before → TokensInOrder a ts → RangesInOrder from hs →
    length (filter is_mark (parts_of words hs ts)) ≡ length (marked (before ++ ts) hs)
marks_behind words [] from a before ts earlier tokens ranges = ap (λ (xs : List Part). length xs) (no_marks words ts)
marks_behind words (h ∷ hs) from a before ts earlier tokens ranges =
    let n = count_before h.span.start ts in
    let first = split_at h.span.start a ts tokens in
    let behind = drop n ts in
    let m = count_before h.span.end behind in
    let second = split_at h.span.end h.span.start behind first.1 in
    let inside = take m behind in
    let rest = drop m behind in
    let front : List Token = before ++ take n ts in
    let front_before : BeginBefore h.span.start front =
    before_both h.span.start before (take n ts) (before_later from h.span.start before ranges.0 earlier) first.0 in
    let all_before_rest : BeginBefore h.span.end (front ++ inside) =
    before_both h.span.end front inside (before_later h.span.start h.span.end front ranges.1 front_before) second.0 in
    let parted : before ++ ts ≡ front ++ (inside ++ rest) =
    ap (λ (xs : List Token). before ++ xs) (sym (take-append-drop n ts)) ∙ sym (append_assoc before (take n ts) behind)
    ∙ ap (λ (xs : List Token). front ++ xs) (sym (take-append-drop m behind)) in
    let text : before ++ ts ≡ (front ++ inside) ++ rest = parted ∙ sym (append_assoc front inside rest) in
    let within : filter (begins_within h) (before ++ ts) ≡ inside =
    ap (λ (xs : List Token). filter (begins_within h) xs) parted
    ∙ within_text h front inside rest front_before (order_taken h.span.start m behind first.1) second.0 second.1 in
    let further : length (filter is_mark (parts_of words hs rest)) ≡ length (marked (before ++ ts) hs) =
    marks_behind words hs h.span.end h.span.end (front ++ inside) rest all_before_rest second.1 ranges.2
    ∙ ap (λ (xs : List Token). length (marked xs hs)) (sym text) in
    ap (λ (xs : List Part). length xs)
    (filter-append is_mark (take n (lexemes words ts)) ((if is_seen h inside then take m (lexemes words behind) else mark ∷ []) ++ parts_of words hs rest))
    ∙ ap (λ (xs : List Part). length (xs ++ filter is_mark ((if is_seen h inside then take m (lexemes words behind) else mark ∷ []) ++ parts_of words hs rest))) (no_marks_taken words n ts)
    ∙ inner words (before ++ ts) h hs m behind (is_seen h inside) (ap (λ (xs : List Token). is_seen h xs) within) further
  where
    inner : (words : List (List ℕ)) (text : List Token) (h : Hidden) (hs : List Hidden) (m : ℕ) (behind : List Token) (seen : Bool) →
        is_seen h (filter (begins_within h) text) ≡ seen → length (filter is_mark (parts_of words hs (drop m behind))) ≡ length (marked text hs) →
        length (filter is_mark ((if seen then take m (lexemes words behind) else mark ∷ []) ++ parts_of words hs (drop m behind))) ≡ length (marked text (h ∷ hs))
    inner words text h hs m behind true is further =
        ap (λ (xs : List Part). length xs) (filter-append is_mark (take m (lexemes words behind)) (parts_of words hs (drop m behind)))
        ∙ ap (λ (xs : List Part). length (xs ++ filter is_mark (parts_of words hs (drop m behind)))) (no_marks_taken words m behind)
        ∙ further ∙ ap (λ (b : Bool). length (if not b then h ∷ marked text hs else marked text hs)) (sym is)
    inner words text h hs m behind false is further =
        ap suc further ∙ ap (λ (b : Bool). length (if not b then h ∷ marked text hs else marked text hs)) (sym is)

-- an interface part has as many marks as there are ranges for which one stands
pub marks_are_counted : (words : List (List ℕ)) (hs : List Hidden) (ts : List Token) → TokensInOrder 0 ts → RangesInOrder 0 hs →
    length (filter is_mark (parts_of words hs ts)) ≡ length (marked ts hs)
marks_are_counted words hs ts tokens ranges = marks_behind words hs 0 0 [] ts tt tokens ranges
