-- Sizes set at places.
use Rattle.std.proofs.Common.{◌≡◌, ℕ, zero, suc, ◌+◌, ◌-◌, ◌<◌, Bool, true, false, List, [], ◌∷◌, ◌++◌, map, length, set, get_or, if◌then◌else◌, refl, sym, ap, ◌∙◌, arith}
use Rattle.dart_tokens.specs.declared.token.Token.{Token}
use Rattle.dart_tokens.specs.declared.grouped_token.GroupedToken.{GroupedToken}
use Rattle.dart_tokens.specs.Groups.{Bracket, Open, is_same}
use Rattle.dart_tokens.specs.Stack.{BeganBefore}
use Rattle.dart_tokens.specs.Read.{without_group}
use Rattle.grouping.specs.Ahead.{width_ahead, is_closed_ahead, sized}
use Rattle.grouping.specs.SoFar.{sized_at, sized_ahead, closed_at, ended_at}
use Rattle.grouping.proofs.EndLemmas.{BeganBefore-later}

pub length-sized_at : (place width : ℕ) (closed : Bool) (ts : List GroupedToken) → length (sized_at place width closed ts) ≡ length ts
length-sized_at place width closed [] = refl
length-sized_at zero width closed (t ∷ ts) = refl
length-sized_at (suc place) width closed (t ∷ ts) = ap (λ (n : ℕ). suc n) (length-sized_at place width closed ts)

sized_at-append : (place width : ℕ) (closed : Bool) (ts us : List GroupedToken) → place < length ts → sized_at place width closed (ts ++ us) ≡ sized_at place width closed ts ++ us
sized_at-append place width closed [] us l = absurd (omega (arith, l))
sized_at-append zero width closed (t ∷ ts) us l = refl
sized_at-append (suc place) width closed (t ∷ ts) us l = ap (λ (xs : List GroupedToken). t ∷ xs) (sized_at-append place width closed ts us (omega (arith, l)))

pub sized_at-last : (place width : ℕ) (closed : Bool) (ts : List GroupedToken) (t : GroupedToken) → length ts ≡ place → sized_at place width closed (ts ++ t ∷ []) ≡ ts ++ sized t width closed ∷ []
sized_at-last zero width closed [] t l = refl
sized_at-last (suc place) width closed [] t l = absurd (omega (arith, l))
sized_at-last zero width closed (u ∷ ts) t l = absurd (omega (arith, l))
sized_at-last (suc place) width closed (u ∷ ts) t l = ap (λ (xs : List GroupedToken). u ∷ xs) (sized_at-last place width closed ts t (omega (arith, l)))

-- as the code sets one
pub sized_at-set : (place width : ℕ) (closed : Bool) (ts : List GroupedToken) (d : GroupedToken) → place < length ts → sized_at place width closed ts ≡ set ts place (sized (get_or ts place d) width closed)
sized_at-set place width closed [] d l = absurd (omega (arith, l))
sized_at-set zero width closed (t ∷ ts) d l = refl
sized_at-set (suc place) width closed (t ∷ ts) d l = ap (λ (xs : List GroupedToken). t ∷ xs) (sized_at-set place width closed ts d (omega (arith, l)))

-- the tokens stay the same
same_sized_at : (place width : ℕ) (closed : Bool) (ts : List GroupedToken) → map without_group (sized_at place width closed ts) ≡ map without_group ts
same_sized_at place width closed [] = refl
same_sized_at zero width closed (t ∷ ts) = refl
same_sized_at (suc place) width closed (t ∷ ts) = ap (λ (xs : List Token). without_group t ∷ xs) (same_sized_at place width closed ts)

pub length-sized_ahead : (count : ℕ) (kinds : List Bracket) (ahead : List Token) (groups : List Open) (read : List GroupedToken) → length (sized_ahead count kinds ahead groups read) ≡ length read
length-sized_ahead count kinds ahead [] read = refl
length-sized_ahead count kinds ahead (group ∷ outer) read = length-sized_ahead count kinds ahead outer _ ∙ length-sized_at group.place _ _ read

pub same_sized_ahead : (count : ℕ) (kinds : List Bracket) (ahead : List Token) (groups : List Open) (read : List GroupedToken) →
    map without_group (sized_ahead count kinds ahead groups read) ≡ map without_group read
same_sized_ahead count kinds ahead [] read = refl
same_sized_ahead count kinds ahead (group ∷ outer) read = same_sized_ahead count kinds ahead outer _ ∙ same_sized_at group.place _ _ read

pub sized_ahead-append : (count : ℕ) (kinds : List Bracket) (ahead : List Token) (groups : List Open) (read more : List GroupedToken) → BeganBefore (length read) groups →
    sized_ahead count kinds ahead groups (read ++ more) ≡ sized_ahead count kinds ahead groups read ++ more
sized_ahead-append count kinds ahead [] read more began = refl
sized_ahead-append count kinds ahead (group ∷ outer) read more began =
    let width : ℕ = count - suc group.place + width_ahead (length outer) kinds ahead in
    let closed : Bool = is_closed_ahead (length outer) kinds ahead in
    let now : List GroupedToken = sized_at group.place width closed read in
    let same : length now ≡ length read = length-sized_at group.place width closed read in
    ap (λ (xs : List GroupedToken). sized_ahead count kinds ahead outer xs) (sized_at-append group.place width closed read more began.0)
    ∙ sized_ahead-append count kinds ahead outer now more (BeganBefore-later group.place (length now) outer (let b : group.place < length read = began.0 in omega (arith, b, same)) began.1)

pub length-closed_at : (end : ℕ) (bracket : Bracket) (groups : List Open) (read : List GroupedToken) → length (closed_at end bracket groups read) ≡ length read
length-closed_at end bracket [] read = refl
length-closed_at end bracket (group ∷ outer) read = by (is_same bracket group.bracket) (λ now. length-closed_at end bracket outer now)
  where
    by : (found : Bool) → ((now : List GroupedToken) → length (closed_at end bracket outer now) ≡ length now) →
        length (if found then sized_at group.place (end - suc group.place) found read else closed_at end bracket outer (sized_at group.place (end - suc group.place) found read)) ≡ length read
    by true rest = length-sized_at group.place _ true read
    by false rest = rest _ ∙ length-sized_at group.place _ false read

pub closed_at-append : (end : ℕ) (bracket : Bracket) (groups : List Open) (read more : List GroupedToken) → BeganBefore (length read) groups →
    closed_at end bracket groups (read ++ more) ≡ closed_at end bracket groups read ++ more
closed_at-append end bracket [] read more began = refl
closed_at-append end bracket (group ∷ outer) read more began =
    by (is_same bracket group.bracket) (λ closed. closed_at-append end bracket outer (sized_at group.place (end - suc group.place) closed read) more (later closed))
  where
    later : (closed : Bool) → BeganBefore (length (sized_at group.place (end - suc group.place) closed read)) outer
    later closed =
        let same : length (sized_at group.place (end - suc group.place) closed read) ≡ length read = length-sized_at group.place (end - suc group.place) closed read in
        let b : group.place < length read = began.0 in
        BeganBefore-later group.place _ outer (omega (arith, b, same)) began.1

    by : (found : Bool) →
        ((closed : Bool) → closed_at end bracket outer (sized_at group.place (end - suc group.place) closed read ++ more) ≡ closed_at end bracket outer (sized_at group.place (end - suc group.place) closed read) ++ more) →
        (if found then sized_at group.place (end - suc group.place) found (read ++ more) else closed_at end bracket outer (sized_at group.place (end - suc group.place) found (read ++ more)))
        ≡ (if found then sized_at group.place (end - suc group.place) found read else closed_at end bracket outer (sized_at group.place (end - suc group.place) found read)) ++ more
    by true rest = sized_at-append group.place (end - suc group.place) true read more began.0
    by false rest = ap (λ (xs : List GroupedToken). closed_at end bracket outer xs) (sized_at-append group.place (end - suc group.place) false read more began.0) ∙ rest false

-- where all end behind all tokens
pub ended_ahead : (end : ℕ) (kinds : List Bracket) (groups : List Open) (read : List GroupedToken) → sized_ahead end kinds [] groups read ≡ ended_at end groups read
ended_ahead end kinds [] read = refl
ended_ahead end kinds (group ∷ outer) read =
    let e : end - suc group.place + 0 ≡ end - suc group.place = omega arith in
    ap (λ (n : ℕ). sized_ahead end kinds [] outer (sized_at group.place n false read)) e ∙ ended_ahead end kinds outer (sized_at group.place (end - suc group.place) false read)

pub set_shown : (items : List GroupedToken) (place end width : ℕ) (closed : Bool) (d : GroupedToken) → place < length items → d ≡ get_or items place d → width ≡ end - suc place →
    set items place (record { kind = d.kind; is_closed = closed; start = d.start; end = d.end; word = d.word; width = width }) ≡ sized_at place (end - suc place) closed items
set_shown items place end width closed d within is_d is_width =
    let at : get_or items place d ≡ d = sym is_d in
    let shown : sized_at place (end - suc place) closed items ≡ set items place (sized d (end - suc place) closed)
    = sized_at-set place (end - suc place) closed items d within ∙ ap (λ (x : GroupedToken). set items place (sized x (end - suc place) closed)) at in
    rw is_width (sym shown)
