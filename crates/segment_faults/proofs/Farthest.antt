-- Groups around tokens, by the ends of those that reach farthest.
use Rattle.std.proofs.Common.{◌≡◌, ◌⊎◌, inl, inr, ℕ, zero, suc, ◌+◌, ◌-◌, ◌<◌, ◌≤◌, nat_lt, Bool, true, false, List, [], ◌∷◌, ◌++◌, get_or, length, if◌then◌else◌, refl, sym, ap, ◌∙◌, arith}
use Rattle.std.proofs.lemmas.Bool.{cases_lt}
use Rattle.std.proofs.lemmas.Bool.Decides.{nat_tests}
use Rattle.std.proofs.lemmas.List.{get_or_append_left, get_or_push, length_push}
use Rattle.dart_tokens.specs.declared.grouped_token.GroupedToken.{GroupedToken as Token}
use Rattle.segment_faults.specs.Nesting.{groups_around}
use Rattle.segment_faults.specs.Ends.{ahead, inserted, farther, farthest}

-- one, if an end doesn't come before a place
abbrev pub reached : (end later : ℕ) → ℕ
reached end later = if nat_lt end later then 0 else 1

-- one, if a group of a width reaches a place so far behind
abbrev pub covered : (gap width : ℕ) → ℕ
covered gap width = if nat_lt gap width then 1 else 0

-- how many of these ends don't come before a place
abbrev pub reaching : (later : ℕ) → List ℕ → ℕ
reaching later [] = 0
reaching later (end ∷ ends) = reached end later + reaching later ends

-- none comes before a place, or before the one in front of it
abbrev pub RiseFrom : (low : ℕ) → List ℕ → Type 0
RiseFrom low [] = Unit {0}
RiseFrom low (end ∷ ends) = (low ≤ end) × RiseFrom end ends

-- One end.

bit_before : (end later : ℕ) → end < later → reached end later ≡ 0
bit_before end later h = let e : nat_lt end later ≡ true = grind (arith, nat_tests) in rw e refl

bit_behind : (end later : ℕ) → later ≤ end → reached end later ≡ 1
bit_behind end later h = let e : nat_lt end later ≡ false = grind (arith, nat_tests) in rw e refl

before_is : (end later : ℕ) → nat_lt end later ≡ true → end < later
before_is end later e = grind (arith, nat_tests)

behind_is : (end later : ℕ) → nat_lt end later ≡ false → later ≤ end
behind_is end later e = grind (arith, nat_tests)

-- Lists of ends.

rise_lower : (low lower : ℕ) (ends : List ℕ) → lower ≤ low → RiseFrom low ends → RiseFrom lower ends
rise_lower low lower [] h r = tt
rise_lower low lower (end ∷ ends) h r = (let l : low ≤ end = r.0 in omega (arith, h, l), r.1)

-- all reach a place that is not behind the nearest
all_reach : (later : ℕ) (ends : List ℕ) → RiseFrom later ends → reaching later ends ≡ length ends
all_reach later [] r = refl
all_reach later (end ∷ ends) r =
    let one : reached end later ≡ 1 = bit_behind end later r.0 in
    let rest : reaching later ends ≡ length ends = all_reach later ends (rise_lower end later ends r.0 r.1) in omega (arith, one, rest)

reaching_inserted : (later end : ℕ) (ends : List ℕ) → reaching later (inserted end ends) ≡ reached end later + reaching later ends
reaching_inserted later end [] = refl
reaching_inserted later end (nearest ∷ ends) = by (nat_lt nearest end) (reaching_inserted later end ends)
  where
    by : (b : Bool) → reaching later (inserted end ends) ≡ reached end later + reaching later ends →
        reaching later (if b then nearest ∷ inserted end ends else end ∷ (nearest ∷ ends)) ≡ reached end later + (reached nearest later + reaching later ends)
    by true h = omega (arith, h)
    by false h = refl

rise_inserted : (low end : ℕ) (ends : List ℕ) → low ≤ end → RiseFrom low ends → RiseFrom low (inserted end ends)
rise_inserted low end [] h r = (h, tt)
rise_inserted low end (nearest ∷ ends) h r = by (nat_lt nearest end) refl (λ l. rise_inserted nearest end ends l r.1)
  where
    by : (b : Bool) → nat_lt nearest end ≡ b → (nearest ≤ end → RiseFrom nearest (inserted end ends)) → RiseFrom low (if b then nearest ∷ inserted end ends else end ∷ (nearest ∷ ends))
    by true e more = (r.0, more (let l : nearest < end = before_is nearest end e in omega (arith, l)))
    by false e more = (h, (behind_is nearest end e, r.1))

length_inserted : (end : ℕ) (ends : List ℕ) → length (inserted end ends) ≡ suc (length ends)
length_inserted end [] = refl
length_inserted end (nearest ∷ ends) = by (nat_lt nearest end) (length_inserted end ends)
  where
    by : (b : Bool) → length (inserted end ends) ≡ suc (length ends) → length (if b then nearest ∷ inserted end ends else end ∷ (nearest ∷ ends)) ≡ suc (suc (length ends))
    by true h = ap (λ (n : ℕ). suc n) h
    by false h = refl

reaching_ahead : (place later : ℕ) (ends : List ℕ) → place ≤ later → reaching later (ahead place ends) ≡ reaching later ends
reaching_ahead place later [] h = refl
reaching_ahead place later (end ∷ ends) h = by (nat_lt end place) refl (reaching_ahead place later ends h)
  where
    by : (b : Bool) → nat_lt end place ≡ b → reaching later (ahead place ends) ≡ reaching later ends → reaching later (if b then ahead place ends else end ∷ ends) ≡ reached end later + reaching later ends
    by true e more = let l : end < place = before_is end place e in let none : reached end later ≡ 0 = bit_before end later (omega (arith, l, h)) in omega (arith, none, more)
    by false e more = refl

rise_ahead : (low place : ℕ) (ends : List ℕ) → RiseFrom low ends → RiseFrom place (ahead place ends)
rise_ahead low place [] r = tt
rise_ahead low place (end ∷ ends) r = by (nat_lt end place) refl (rise_ahead end place ends r.1)
  where
    by : (b : Bool) → nat_lt end place ≡ b → RiseFrom place (ahead place ends) → RiseFrom place (if b then ahead place ends else end ∷ ends)
    by true e more = more
    by false e more = (behind_is end place e, r.1)

length_ahead : (place : ℕ) (ends : List ℕ) → length (ahead place ends) ≤ length ends
length_ahead place [] = omega arith
length_ahead place (end ∷ ends) = by (nat_lt end place) (length_ahead place ends)
  where
    by : (b : Bool) → length (ahead place ends) ≤ length ends → length (if b then ahead place ends else end ∷ ends) ≤ suc (length ends)
    by true h = omega (arith, h)
    by false h = omega arith

-- Numbers that are the same, or both more than 100.

abbrev pub Same : ℕ → ℕ → Type 0
Same n m = (n ≡ m) ⊎ ((100 < n) × (100 < m))

same_then : (n m k : ℕ) → Same n m → Same m k → Same n k
same_then n m k (inl e) (inl d) = inl (e ∙ d)
same_then n m k (inl e) (inr d) = inr (let l : 100 < m = d.0 in omega (arith, e, l), d.1)
same_then n m k (inr e) (inl d) = inr (e.0, let l : 100 < m = e.1 in omega (arith, d, l))
same_then n m k (inr e) (inr d) = inr (e.0, d.1)

same_more : (n m x y : ℕ) → x ≡ y → Same n m → Same (n + x) (y + m)
same_more n m x y d (inl e) = inl (omega (arith, d, e))
same_more n m x y d (inr e) = inr (let a : 100 < n = e.0 in omega (arith, a), let b : 100 < m = e.1 in omega (arith, b))

-- the nearest of too many goes
farther_same : (later : ℕ) (ends : List ℕ) → 101 < length ends → RiseFrom 0 ends → Same (reaching later ends) (reaching later (farther ends))
farther_same later [] long r = absurd (omega (arith, long))
farther_same later (end ∷ ends) long r = by (nat_lt end later) refl
  where
    by : (b : Bool) → nat_lt end later ≡ b → Same ((if b then 0 else 1) + reaching later ends) (reaching later ends)
    by true e = inl (omega arith)
    by false e =
        let all : reaching later ends ≡ length ends = all_reach later ends (rise_lower end later ends (behind_is end later e) r.1) in
        inr (omega (arith, all, long), omega (arith, all, long))

rise_farther : (low : ℕ) (ends : List ℕ) → RiseFrom low ends → RiseFrom low (farther ends)
rise_farther low [] r = tt
rise_farther low (end ∷ ends) r = rise_lower end low ends r.0 r.1

length_farther : (ends : List ℕ) → length (farther ends) ≡ length ends - 1
length_farther [] = omega arith
length_farther (end ∷ ends) = omega arith

-- Groups of a text that reach a place so far behind another.

abbrev pub reaching_over : (gap place : ℕ) → List Token → ℕ
reaching_over gap zero text = 0
reaching_over gap (suc between) [] = 0
reaching_over gap (suc between) (t ∷ ts) = covered (between + gap) t.width + reaching_over gap between ts

over_none : (place : ℕ) (text : List Token) → reaching_over 0 place text ≡ groups_around place text
over_none zero text = refl
over_none (suc between) [] = refl
over_none (suc between) (t ∷ ts) =
    let e : between + 0 ≡ between = omega arith in
    let rest : reaching_over 0 between ts ≡ groups_around between ts = over_none between ts in rw (e, rest) refl

over_next : (gap place : ℕ) (text : List Token) (d : Token) → place < length text →
    reaching_over gap (suc place) text ≡ reaching_over (suc gap) place text + covered gap (get_or text place d).width
over_next gap place [] d l = absurd (omega (arith, l))
over_next gap zero (t ∷ ts) d l = let e : 0 + gap ≡ gap = omega arith in rw e (omega arith)
over_next gap (suc place) (t ∷ ts) d l =
    let m : place < length ts = omega (arith, l) in
    let rest : reaching_over gap (suc place) ts ≡ reaching_over (suc gap) place ts + covered gap (get_or ts place d).width = over_next gap place ts d m in
    let e : suc place + gap ≡ place + suc gap = omega arith in
    rw (e, rest) (omega arith)

-- What is held of the groups that begin before a place: their ends, or 101 of them, and so that the numbers of those that reach a place behind it are known up to 101.
pub record AreFarthest (text : List Token) (place : ℕ) (ends : List ℕ) : Type 0 where
  pub rise : RiseFrom 0 ends
  pub few : length ends ≤ 101
  pub same : (gap : ℕ) → Same (reaching_over gap place text) (reaching (place + gap) ends)

-- the groups that end before the place are behind
pub farthest_ahead : (text : List Token) (place : ℕ) (ends : List ℕ) → AreFarthest text place ends → AreFarthest text place (ahead place ends)
farthest_ahead text place ends a = record {
  rise = rise_lower place 0 (ahead place ends) (omega arith) (rise_ahead 0 place ends a.rise);
  few = let b : length ends ≤ 101 = a.few in let l : length (ahead place ends) ≤ length ends = length_ahead place ends in omega (arith, b, l);
  same = λ gap. same_then (reaching_over gap place text) (reaching (place + gap) ends) (reaching (place + gap) (ahead place ends)) (a.same gap) (inl (sym (reaching_ahead place (place + gap) ends (omega arith))));
}

-- what is known of the token at the place
pub deep_here : (text : List Token) (place : ℕ) (ends : List ℕ) → AreFarthest text place ends → nat_lt 100 (length (ahead place ends)) ≡ nat_lt 100 (groups_around place text)
deep_here text place ends a =
    let all : reaching place (ahead place ends) ≡ length (ahead place ends) = all_reach place (ahead place ends) (rise_ahead 0 place ends a.rise) in
    let here : reaching place (ahead place ends) ≡ reaching place ends = reaching_ahead place place ends (omega arith) in
    let e : place + 0 ≡ place = omega arith in
    let known : Same (reaching_over 0 place text) (reaching (place + 0) ends) = a.same 0 in
    by (reaching_over 0 place text) (reaching (place + 0) ends) known (ap (λ (n : ℕ). reaching n ends) e ∙ sym here ∙ all) (over_none place text)
  where
    by : (n m : ℕ) → Same n m → m ≡ length (ahead place ends) → n ≡ groups_around place text → nat_lt 100 (length (ahead place ends)) ≡ nat_lt 100 (groups_around place text)
    by n m (inl e) d c = ap (λ (k : ℕ). nat_lt 100 k) (sym d ∙ sym e ∙ c)
    by n m (inr e) d c =
        let a : 100 < length (ahead place ends) = (let l : 100 < m = e.1 in omega (arith, l, d)) in
        let b : 100 < groups_around place text = (let l : 100 < n = e.0 in omega (arith, l, c)) in
        let x : nat_lt 100 (length (ahead place ends)) ≡ true = grind (arith, nat_tests) in
        let y : nat_lt 100 (groups_around place text) ≡ true = grind (arith, nat_tests) in x ∙ sym y

-- a token that opens no group, or an empty one
pub farthest_same : (text : List Token) (place : ℕ) (d : Token) (ends : List ℕ) → place < length text → (get_or text place d).width ≡ 0 → AreFarthest text place ends → AreFarthest text (place + 1) ends
farthest_same text place d ends l none a = record {
  rise = a.rise;
  few = a.few;
  same = λ gap.
      let one : place + 1 ≡ suc place = omega arith in
      let next : reaching_over gap (suc place) text ≡ reaching_over (suc gap) place text + covered gap (get_or text place d).width = over_next gap place text d l in
      let no : nat_lt gap 0 ≡ false = grind (arith, nat_tests) in
      let same_place : place + suc gap ≡ place + 1 + gap = omega arith in
      let is : reaching_over gap (place + 1) text ≡ reaching_over (suc gap) place text = rw (one, next, none, no) (omega arith) in
      same_then (reaching_over gap (place + 1) text) (reaching_over (suc gap) place text) (reaching (place + 1 + gap) ends) (inl is)
      (same_then (reaching_over (suc gap) place text) (reaching (place + suc gap) ends) (reaching (place + 1 + gap) ends) (a.same (suc gap)) (inl (ap (λ (n : ℕ). reaching n ends) same_place)));
}

-- a token that opens a group
pub farthest_more : (text : List Token) (place : ℕ) (d : Token) (ends : List ℕ) (end : ℕ) → place < length text → end ≡ place + (get_or text place d).width → AreFarthest text place ends →
    AreFarthest text (place + 1) (farthest (inserted end ends))
farthest_more text place d ends end l is a = by (nat_lt 101 (length all)) refl
  where
    all : List ℕ
    all = inserted end ends

    rises : RiseFrom 0 all
    rises = rise_inserted 0 end ends (omega arith) a.rise

    longer : length all ≡ suc (length ends)
    longer = length_inserted end ends

    bit : (gap width : ℕ) → end ≡ place + width → covered gap width ≡ reached end (place + 1 + gap)
    bit gap width e = other (nat_lt gap width) refl
      where
        chosen : Bool → ℕ
        chosen b = if b then 1 else 0

        other : (b : Bool) → nat_lt gap width ≡ b → chosen b ≡ reached end (place + 1 + gap)
        other true u = sym (bit_behind end (place + 1 + gap) (let x : gap < width = before_is gap width u in omega (arith, x, e)))
        other false u = sym (bit_before end (place + 1 + gap) (let x : width ≤ gap = behind_is gap width u in omega (arith, x, e)))

    counted : (gap : ℕ) → Same (reaching_over gap (place + 1) text) (reaching (place + 1 + gap) all)
    counted gap =
        let one : place + 1 ≡ suc place = omega arith in
        let next : reaching_over gap (suc place) text ≡ reaching_over (suc gap) place text + covered gap (get_or text place d).width = over_next gap place text d l in
        let first : reaching_over gap (place + 1) text ≡ reaching_over (suc gap) place text + covered gap (get_or text place d).width = ap (λ (n : ℕ). reaching_over gap n text) one ∙ next in
        let same_place : place + suc gap ≡ place + 1 + gap = omega arith in
        let before : Same (reaching_over (suc gap) place text) (reaching (place + 1 + gap) ends) =
        same_then (reaching_over (suc gap) place text) (reaching (place + suc gap) ends) (reaching (place + 1 + gap) ends) (a.same (suc gap)) (inl (ap (λ (n : ℕ). reaching n ends) same_place)) in
        let more : Same (reaching_over (suc gap) place text + covered gap (get_or text place d).width) (reached end (place + 1 + gap) + reaching (place + 1 + gap) ends) =
        same_more (reaching_over (suc gap) place text) (reaching (place + 1 + gap) ends) (covered gap (get_or text place d).width) (reached end (place + 1 + gap))
        (bit gap (get_or text place d).width is) before in
        same_then (reaching_over gap (place + 1) text) _ (reaching (place + 1 + gap) all) (inl first) (same_then _ _ (reaching (place + 1 + gap) all) more (inl (sym (reaching_inserted (place + 1 + gap) end ends))))

    by : (b : Bool) → nat_lt 101 (length all) ≡ b → AreFarthest text (place + 1) (if b then farther all else all)
    by true e =
        let long : 101 < length all = before_is 101 (length all) e in record {
          rise = rise_farther 0 all rises;
          few = let x : length (farther all) ≡ length all - 1 = length_farther all in let y : length ends ≤ 101 = a.few in omega (arith, x, y, longer);
          same = λ gap. same_then (reaching_over gap (place + 1) text) (reaching (place + 1 + gap) all) (reaching (place + 1 + gap) (farther all)) (counted gap) (farther_same (place + 1 + gap) all long rises);
        }
    by false e = record { rise = rises; few = behind_is 101 (length all) e; same = counted }

-- The tokens before a place are known, and so are the ends of groups there.
pub record AreWalked (text : List Token) (place : ℕ) (ends : List ℕ) (deep : List Bool) : Type 0 where
  pub farthest : AreFarthest text place ends
  pub size : length deep ≡ place
  pub each : (k : ℕ) → k < place → get_or deep k false ≡ nat_lt 100 (groups_around k text)

-- one token more
pub walked_next : (text : List Token) (place : ℕ) (d : Token) (ends next : List ℕ) (deep more : List Bool) (b : Bool) → place < length text → AreWalked text place ends deep →
    b ≡ nat_lt 100 (length (ahead place ends)) → more ≡ deep ++ b ∷ [] →
    (next ≡ farthest (inserted (place + (get_or text place d).width) (ahead place ends))) ⊎ (((get_or text place d).width ≡ 0) × (next ≡ ahead place ends)) → AreWalked text (place + 1) next more
walked_next text place d ends next deep more b l before is pushed opened = record {
  farthest = by opened;
  size = ap (λ (bs : List Bool). length bs) pushed ∙ longer;
  each = each_of;
}
  where
    ahead_of : AreFarthest text place (ahead place ends)
    ahead_of = farthest_ahead text place ends before.farthest

    by : (next ≡ farthest (inserted (place + (get_or text place d).width) (ahead place ends))) ⊎ (((get_or text place d).width ≡ 0) × (next ≡ ahead place ends)) → AreFarthest text (place + 1) next
    by (inl e) = rw e (farthest_more text place d (ahead place ends) (place + (get_or text place d).width) l refl ahead_of)
    by (inr e) = rw e.1 (farthest_same text place d (ahead place ends) l e.0 ahead_of)

    longer : length (deep ++ b ∷ []) ≡ place + 1
    longer = length_push deep b ∙ ap (λ (n : ℕ). n + 1) before.size

    each_of : (k : ℕ) → k < place + 1 → get_or more k false ≡ nat_lt 100 (groups_around k text)
    each_of k m = ap (λ (bs : List Bool). get_or bs k false) pushed ∙ elim (cases_lt k place) [
      | inl low ↦ (let within : k < length deep = (let size : length deep ≡ place = before.size in omega (arith, low, size)) in get_or_append_left deep (b ∷ []) false k within ∙ before.each k low)
      | inr high ↦ (let at : k ≡ place = omega (arith, high, m) in let last : k ≡ length deep = at ∙ sym before.size in
          get_or_push deep b false k (sym last) ∙ is ∙ deep_here text place ends before.farthest ∙ ap (λ (n : ℕ). nat_lt 100 (groups_around n text)) (sym at))
    ]
