-- One token more.
use Rattle.std.proofs.Common.{◌≡◌, ℕ, suc, ◌+◌, ◌-◌, ◌<◌, ◌≤◌, ◌==◌, nat_lt, Bool, true, false, List, [], ◌∷◌, ◌++◌, length, if◌then◌else◌, Option, Some, None, is_some, refl, sym, ap, subst, ◌∙◌, arith, length-append, append_assoc}
use Rattle.std.proofs.lemmas.Bool.{lt-ltb, le-ltb, eq-eqb, ne_eqb}
use Rattle.dart_tokens.specs.declared.token.Token.{Token}
use Rattle.dart_tokens.specs.declared.grouped_token.GroupedToken.{GroupedToken}
use Rattle.dart_tokens.specs.declared.tokens.UnopenedBracket.{UnopenedBracket}
use Rattle.dart_tokens.specs.Groups.{Bracket, Interpolation, Open, is_same, opens, closes, nearest, behind_closed, after_closing}
use Rattle.dart_tokens.specs.Stack.{BeganBefore}
use Rattle.dart_tokens.specs.Read.{ungrouped}
use Rattle.grouping.specs.Ahead.{kinds_of, left_open, kinds_after, width_ahead, is_closed_ahead, is_left_out, sized, sized_token, read_ahead, unopened_ahead}
use Rattle.grouping.specs.SoFar.{sized_at, sized_ahead, closed_at, IsSoFar}
use Rattle.grouping.proofs.KindLemmas.{kinds_behind, some_nearest, length-kinds}
use Rattle.grouping.proofs.EndLemmas.{BeganBefore-later, Left, left}
use Rattle.grouping.proofs.SizeLemmas.{sized_at-last, sized_ahead-append, length-closed_at, closed_at-append}

-- groups that stay open behind a token that is read have it inside them
stay_open : (n : ℕ) (around : List Bracket) (t : Token) (ahead : List Token) (groups : List Open) (read : List GroupedToken) → BeganBefore n groups → length groups ≤ length (kinds_after t.kind around) →
    is_left_out t.kind around ≡ false →
    sized_ahead n around (t ∷ ahead) groups read ≡ sized_ahead (suc n) (kinds_after t.kind around) ahead groups read
stay_open n around t ahead [] read began few kept = refl
stay_open n around t ahead (group ∷ outer) read began few kept =
    let deep : nat_lt (length outer) (length (kinds_after t.kind around)) ≡ true = lt-ltb _ _ (omega (arith, few)) in
    let b : group.place < n = began.0 in
    let w : ℕ = width_ahead (length outer) (kinds_after t.kind around) ahead in
    let width : n - suc group.place + suc w ≡ suc n - suc group.place + w = omega (arith, b) in
    rw (deep, kept, width) (stay_open n around t ahead outer _ (BeganBefore-later group.place n outer (omega (arith, b)) began.1) (omega (arith, few)) kept)

-- and behind one that isn't read they are as they were
left_out : (n : ℕ) (around : List Bracket) (t : Token) (ahead : List Token) (groups : List Open) (read : List GroupedToken) → length groups ≤ length (kinds_after t.kind around) →
    is_left_out t.kind around ≡ true →
    sized_ahead n around (t ∷ ahead) groups read ≡ sized_ahead n (kinds_after t.kind around) ahead groups read
left_out n around t ahead [] read few out = refl
left_out n around t ahead (group ∷ outer) read few out =
    let deep : nat_lt (length outer) (length (kinds_after t.kind around)) ≡ true = lt-ltb _ _ (omega (arith, few)) in
    rw (deep, out) (left_out n around t ahead outer _ (omega (arith, few)) out)

-- groups that end at a token
close_some : (n : ℕ) (bracket : Bracket) (around : List Bracket) (t : Token) (ahead : List Token) (groups after : List Open) (read : List GroupedToken) → BeganBefore n groups →
    behind_closed bracket groups ≡ Some after → length (kinds_after t.kind around) ≡ length after → is_left_out t.kind around ≡ false →
    sized_ahead n around (t ∷ ahead) groups read ≡ sized_ahead (suc n) (kinds_after t.kind around) ahead after (closed_at n bracket groups read)
close_some n bracket around t ahead [] after read began e size kept = absurd (cc)
close_some n bracket around t ahead (group ∷ outer) after read began e size kept =
    by (is_same bracket group.bracket) (is_same Interpolation group.bracket) (λ h. left bracket n outer after outer_began h)
    (λ now h. close_some n bracket around t ahead outer after now outer_began h size kept) e
  where
    outer_began : BeganBefore n outer
    outer_began = BeganBefore-later group.place n outer (let b : group.place < n = began.0 in omega (arith, b)) began.1

    zero_more : n - suc group.place + 0 ≡ n - suc group.place
    zero_more = omega arith

    by : (found border : Bool) → (behind_closed bracket outer ≡ Some after → Left n outer after (nearest bracket outer)) →
        ((now : List GroupedToken) → behind_closed bracket outer ≡ Some after →
        sized_ahead n around (t ∷ ahead) outer now ≡ sized_ahead (suc n) (kinds_after t.kind around) ahead after (closed_at n bracket outer now)) →
        (if found then Some outer else (if border then None else behind_closed bracket outer)) ≡ Some after →
        sized_ahead n around (t ∷ ahead) (group ∷ outer) read
        ≡ sized_ahead (suc n) (kinds_after t.kind around) ahead after
        (if found then sized_at group.place (n - suc group.place) found read else closed_at n bracket outer (sized_at group.place (n - suc group.place) found read))
    by true border l rest h =
        let same : outer ≡ after = cc in
        let count : length after ≡ length outer = ap (λ (xs : List Open). length xs) (sym same) in
        let shallow : nat_lt (length outer) (length (kinds_after t.kind around)) ≡ false = le-ltb _ _ (omega (arith, size, count)) in
        let here : (length (kinds_after t.kind around) == length outer) ≡ true = eq-eqb _ _ (size ∙ count) in
        rw (shallow, here, zero_more)
        (stay_open n around t ahead outer _ outer_began (omega (arith, size, count)) kept
        ∙ ap (λ (xs : List Open). sized_ahead (suc n) (kinds_after t.kind around) ahead xs (sized_at group.place (n - suc group.place) true read)) same)
    by false true l rest h = absurd (cc)
    by false false l rest h =
        let fewer : length after < length outer = (l h).fewer in
        let shallow : nat_lt (length outer) (length (kinds_after t.kind around)) ≡ false = le-ltb _ _ (omega (arith, size, fewer)) in
        let other : (length (kinds_after t.kind around) == length outer) ≡ false = ne_eqb _ _ (λ (q : length (kinds_after t.kind around) ≡ length outer). omega (arith, size, q, fewer)) in
        rw (shallow, other, zero_more) (rest (sized_at group.place (n - suc group.place) false read) h)

-- what is found of the tokens so far and of those ahead
abbrev Found : List GroupedToken → List Open → List Token → List GroupedToken
Found read around ahead = sized_ahead (length read) (kinds_of around) ahead around read ++ read_ahead (kinds_of around) ahead

-- one more token that is found to be so
one_more : (tokens : List Token) (t : Token) (read read' : List GroupedToken) (unopened unopened' : List UnopenedBracket) (around around' : List Open) →
    BeganBefore (length read') around' →
    ((ahead : List Token) → Found read around (t ∷ ahead) ≡ Found read' around' ahead) →
    ((ahead : List Token) → unopened ++ unopened_ahead (length read) (kinds_of around) (t ∷ ahead) ≡ unopened' ++ unopened_ahead (length read') (kinds_of around') ahead) →
    IsSoFar tokens read unopened around → IsSoFar (tokens ++ t ∷ []) read' unopened' around'
one_more tokens t read read' unopened unopened' around around' began found beside so_far = record {
  began = began;
  all_read = λ ahead. ap (λ (ts : List Token). read_ahead [] ts) (append_assoc tokens (t ∷ []) ahead) ∙ so_far.all_read (t ∷ ahead) ∙ found ahead;
  all_unopened = λ ahead. ap (λ (ts : List Token). unopened_ahead 0 [] ts) (append_assoc tokens (t ∷ []) ahead) ∙ so_far.all_unopened (t ∷ ahead) ∙ beside ahead;
}

length_push : (read : List GroupedToken) (t : GroupedToken) → length (read ++ t ∷ []) ≡ suc (length read)
length_push read t = length-append read (t ∷ []) ∙ (let e : length read + 1 ≡ suc (length read) = omega arith in e)

-- a token that is no bracket
pub plain_more : (tokens : List Token) (t : Token) (read : List GroupedToken) (unopened : List UnopenedBracket) (around : List Open) → opens t.kind ≡ None → closes t.kind ≡ None →
    IsSoFar tokens read unopened around → IsSoFar (tokens ++ t ∷ []) (read ++ ungrouped t ∷ []) unopened around
plain_more tokens t read unopened around o c so_far =
    let more : length (read ++ ungrouped t ∷ []) ≡ suc (length read) = length_push read (ungrouped t) in
    let same : kinds_after t.kind (kinds_of around) ≡ kinds_of around = rw (o, c) refl in
    let kept : is_left_out t.kind (kinds_of around) ≡ false = rw (o, c) refl in
    let token : (ahead : List Token) → sized_token t (kinds_of around) ahead ≡ ungrouped t = λ ahead. rw o refl in
    let few : length around ≤ length (kinds_after t.kind (kinds_of around)) = (let e = ap (λ (ks : List Bracket). length ks) same in let f = length-kinds around in omega (arith, e, f)) in
    one_more tokens t read (read ++ ungrouped t ∷ []) unopened unopened around around (rw more (BeganBefore-later (length read) (suc (length read)) around (omega arith) so_far.began))
    (λ ahead.
    let before : sized_ahead (length read) (kinds_of around) (t ∷ ahead) around read ≡ sized_ahead (suc (length read)) (kinds_of around) ahead around read
    = stay_open (length read) (kinds_of around) t ahead around read so_far.began few kept ∙ ap (λ (ks : List Bracket). sized_ahead (suc (length read)) ks ahead around read) same in
    let behind : sized_ahead (suc (length read)) (kinds_of around) ahead around (read ++ ungrouped t ∷ []) ≡ sized_ahead (suc (length read)) (kinds_of around) ahead around read ++ ungrouped t ∷ []
    = sized_ahead-append (suc (length read)) (kinds_of around) ahead around read (ungrouped t ∷ []) so_far.began in
    rw (kept, before, token ahead, same, more, behind, append_assoc) refl)
    (λ ahead. rw (kept, same, more) refl)
    so_far

-- a bracket that opens a group
pub opened_more : (tokens : List Token) (t : Token) (read : List GroupedToken) (unopened : List UnopenedBracket) (around : List Open) (bracket : Bracket) → opens t.kind ≡ Some bracket →
    IsSoFar tokens read unopened around →
    IsSoFar (tokens ++ t ∷ []) (read ++ ungrouped t ∷ []) unopened (record { bracket = bracket; place = length read } ∷ around)
opened_more tokens t read unopened around bracket o so_far =
    let n : ℕ = length read in
    let kinds : List Bracket = bracket ∷ kinds_of around in
    let more : length (read ++ ungrouped t ∷ []) ≡ suc (length read) = length_push read (ungrouped t) in
    let same : kinds_after t.kind (kinds_of around) ≡ kinds = rw o refl in
    let kept : is_left_out t.kind (kinds_of around) ≡ false = rw o refl in
    let depth : length (kinds_of around) ≡ length around = length-kinds around in
    let few : length around ≤ length (kinds_after t.kind (kinds_of around)) = (let e = ap (λ (ks : List Bracket). length ks) same in omega (arith, e, depth)) in
    one_more tokens t read (read ++ ungrouped t ∷ []) unopened unopened around (record { bracket = bracket; place = length read } ∷ around)
    (rw more (omega arith, so_far.began))
    (λ ahead.
    let width : ℕ = width_ahead (length around) kinds ahead in
    let closed : Bool = is_closed_ahead (length around) kinds ahead in
    let token : sized_token t (kinds_of around) ahead ≡ sized (ungrouped t) width closed = rw (o, depth) refl in
    let before : sized_ahead n (kinds_of around) (t ∷ ahead) around read ≡ sized_ahead (suc n) kinds ahead around read
    = stay_open n (kinds_of around) t ahead around read so_far.began few kept ∙ ap (λ (ks : List Bracket). sized_ahead (suc n) ks ahead around read) same in
    let none : suc n - suc n + width ≡ width = omega arith in
    let last : sized_at n (suc n - suc n + width) closed (read ++ ungrouped t ∷ []) ≡ read ++ sized (ungrouped t) width closed ∷ []
    = ap (λ (k : ℕ). sized_at n k closed (read ++ ungrouped t ∷ [])) none ∙ sized_at-last n width closed read (ungrouped t) refl in
    let behind : sized_ahead (suc n) kinds ahead around (read ++ sized (ungrouped t) width closed ∷ []) ≡ sized_ahead (suc n) kinds ahead around read ++ sized (ungrouped t) width closed ∷ []
    = sized_ahead-append (suc n) kinds ahead around read (sized (ungrouped t) width closed ∷ []) so_far.began in
    let right : sized_ahead (length (read ++ ungrouped t ∷ [])) kinds ahead (record { bracket = bracket; place = n } ∷ around) (read ++ ungrouped t ∷ [])
    ≡ sized_ahead (suc n) kinds ahead around read ++ sized (ungrouped t) width closed ∷ []
    = ap (λ (k : ℕ). sized_ahead k kinds ahead (record { bracket = bracket; place = n } ∷ around) (read ++ ungrouped t ∷ [])) more
    ∙ ap (λ (xs : List GroupedToken). sized_ahead (suc n) kinds ahead around xs) last ∙ behind in
    rw (kept, before, token, same)
    (sym
    (ap (λ (xs : List GroupedToken). xs ++ read_ahead kinds ahead) right
    ∙ append_assoc (sized_ahead (suc n) kinds ahead around read) (sized (ungrouped t) width closed ∷ []) (read_ahead kinds ahead))))
    (λ ahead. rw (kept, same, more) refl)
    so_far

-- a bracket that closes a group
pub closed_more : (tokens : List Token) (t : Token) (read : List GroupedToken) (unopened : List UnopenedBracket) (around : List Open) (bracket : Bracket) → opens t.kind ≡ None → closes t.kind ≡ Some bracket →
    is_some (nearest bracket around) ≡ true →
    IsSoFar tokens read unopened around →
    IsSoFar (tokens ++ t ∷ []) (closed_at (length read) bracket around (read ++ ungrouped t ∷ [])) unopened (after_closing (Some bracket) around)
closed_more tokens t read unopened around bracket o c can so_far = by (behind_closed bracket around) refl
  where
    by : (left : Option (List Open)) → behind_closed bracket around ≡ left → IsSoFar (tokens ++ t ∷ []) (closed_at (length read) bracket around (read ++ ungrouped t ∷ [])) unopened (after_closing (Some bracket) around)
    by None e =
        let none : is_some (left_open bracket (kinds_of around)) ≡ false = rw (sym (kinds_behind bracket around), e) refl in
        let some : is_some (left_open bracket (kinds_of around)) ≡ true = sym (some_nearest bracket around) ∙ can in
        absurd (cc)
    by (Some after) e =
        let n : ℕ = length read in
        let kinds : left_open bracket (kinds_of around) ≡ Some (kinds_of after) = sym (kinds_behind bracket around) ∙ rw e refl in
        let same : kinds_after t.kind (kinds_of around) ≡ kinds_of after = rw (o, c, kinds) refl in
        let kept : is_left_out t.kind (kinds_of around) ≡ false = rw (o, c, kinds) refl in
        let size : length (kinds_after t.kind (kinds_of around)) ≡ length after = ap (λ (ks : List Bracket). length ks) same ∙ length-kinds after in
        let now : List GroupedToken = closed_at n bracket around read in
        let shown : closed_at n bracket around (read ++ ungrouped t ∷ []) ≡ now ++ ungrouped t ∷ [] = closed_at-append n bracket around read (ungrouped t ∷ []) so_far.began in
        let count : length now ≡ n = length-closed_at n bracket around read in
        let more : length (now ++ ungrouped t ∷ []) ≡ suc n = length_push now (ungrouped t) ∙ ap (λ (k : ℕ). suc k) count in
        let began : BeganBefore n after = (left bracket n around after so_far.began e).began in
        rw (e, shown)
        (one_more tokens t read (now ++ ungrouped t ∷ []) unopened unopened around after (rw more (BeganBefore-later n (suc n) after (omega arith) began))
        (λ ahead.
        let token : sized_token t (kinds_of around) ahead ≡ ungrouped t = rw o refl in
        let before : sized_ahead n (kinds_of around) (t ∷ ahead) around read ≡ sized_ahead (suc n) (kinds_of after) ahead after now
        = close_some n bracket (kinds_of around) t ahead around after read so_far.began e size kept ∙ ap (λ (ks : List Bracket). sized_ahead (suc n) ks ahead after now) same in
        let behind : sized_ahead (suc n) (kinds_of after) ahead after (now ++ ungrouped t ∷ []) ≡ sized_ahead (suc n) (kinds_of after) ahead after now ++ ungrouped t ∷ []
        = sized_ahead-append (suc n) (kinds_of after) ahead after now (ungrouped t ∷ []) (subst (λ (k : ℕ). BeganBefore k after) (sym count) began) in
        rw (kept, before, token, same, more, behind, append_assoc) refl)
        (λ ahead. rw (kept, same, more) refl)
        so_far)

-- a bracket that closes none
pub unopened_more : (tokens : List Token) (t : Token) (read : List GroupedToken) (unopened : List UnopenedBracket) (around : List Open) (bracket : Bracket) → opens t.kind ≡ None → closes t.kind ≡ Some bracket →
    is_some (nearest bracket around) ≡ false →
    IsSoFar tokens read unopened around →
    IsSoFar (tokens ++ t ∷ []) read (unopened ++ record { before = length read; token = t } ∷ []) around
unopened_more tokens t read unopened around bracket o c cannot so_far =
    let none : is_some (left_open bracket (kinds_of around)) ≡ false = sym (some_nearest bracket around) ∙ cannot in
    let nothing : left_open bracket (kinds_of around) ≡ None = is_none (left_open bracket (kinds_of around)) none in
    let same : kinds_after t.kind (kinds_of around) ≡ kinds_of around = rw (o, c, nothing) refl in
    let out : is_left_out t.kind (kinds_of around) ≡ true = rw (o, c, nothing) refl in
    let few : length around ≤ length (kinds_after t.kind (kinds_of around)) = (let e = ap (λ (ks : List Bracket). length ks) same in let f = length-kinds around in omega (arith, e, f)) in
    one_more tokens t read read unopened (unopened ++ record { before = length read; token = t } ∷ []) around around so_far.began
    (λ ahead.
    let before : sized_ahead (length read) (kinds_of around) (t ∷ ahead) around read ≡ sized_ahead (length read) (kinds_of around) ahead around read
    = left_out (length read) (kinds_of around) t ahead around read few out ∙ ap (λ (ks : List Bracket). sized_ahead (length read) ks ahead around read) same in
    rw (out, before, same) refl)
    (λ ahead. rw (out, same, append_assoc) refl)
    so_far
  where
    is_none : (o : Option (List Bracket)) → is_some o ≡ false → o ≡ None
    is_none None h = refl
    is_none (Some x) h = absurd (cc)
