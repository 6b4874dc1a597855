-- The first of some places.
use Rattle.std.proofs.Common.{◌≡◌, ◌⊎◌, inl, inr, ℕ, zero, suc, ◌+◌, ◌-◌, ◌<◌, ◌≤◌, Bool, true, false, ◌||◌, List, Option, Some, None, unwrap_or, refl, sym, ap, ◌∙◌, arith}
use Rattle.dart_tokens.specs.declared.grouped_token.GroupedToken.{GroupedToken as Token}
use Rattle.segment_faults.specs.declared.fault.SegmentFault.{SegmentFault}
use Rattle.segment_faults.specs.Table.{fault_at}
use Rattle.segment_faults.specs.Faults.{first_fault, plain_fault, fault_of}
use Rattle.segment_faults.specs.Fitting.{FitsFirst, FitsNowhere}
use Rattle.segment_faults.specs.Nesting.{any_place}

-- a place is passed at which nothing fits
pub fault_goes_on : (text : List Token) (first place n m : ℕ) (all : Option SegmentFault) → n ≡ suc m → fault_at text first place ≡ None →
    all ≡ first_fault text first place n → all ≡ first_fault text first (place + 1) m
fault_goes_on text first place n m all e none h =
    let d : suc place ≡ place + 1 = omega arith in
    let k : first_fault text first place n ≡ first_fault text first (place + 1) m = rw (e, none, d) refl in h ∙ k

-- a place is found
pub fault_is_found : (text : List Token) (first place n m : ℕ) (fault : SegmentFault) (all : Option SegmentFault) → n ≡ suc m → fault_at text first place ≡ Some fault →
    all ≡ first_fault text first place n → Some fault ≡ all
fault_is_found text first place n m fault all e some h = let k : first_fault text first place n ≡ Some fault = rw (e, some) refl in sym (h ∙ k)

-- a place is passed that doesn't pass
pub any_goes_on : (c : ℕ → Bool) (place n m : ℕ) (all : Bool) → n ≡ suc m → c place ≡ false → all ≡ any_place c place n → all ≡ any_place c (place + 1) m
any_goes_on c place n m all e fails h =
    let d : suc place ≡ place + 1 = omega arith in let k : any_place c place n ≡ any_place c (place + 1) m = rw (e, fails, d) refl in h ∙ k

-- one passes
pub any_is_found : (c : ℕ → Bool) (place n m : ℕ) (all : Bool) → n ≡ suc m → c place ≡ true → all ≡ any_place c place n → all ≡ true
any_is_found c place n m all e passes h = let k : any_place c place n ≡ true = rw (e, passes) refl in h ∙ k

-- nothing fits at any of some places
abbrev pub Nowhere : List Token → (first place count : ℕ) → Type 0
Nowhere text first place count = (i : ℕ) → i < count → fault_at text first (place + i) ≡ None

-- something fits at one of them first
pub record Somewhere (text : List Token) (first place count : ℕ) : Type 0 where
  pub offset : ℕ
  pub fault : SegmentFault
  pub within : offset < count
  pub fits : fault_at text first (place + offset) ≡ Some fault
  pub earlier : Nowhere text first place offset

pub nowhere_first : (text : List Token) (first place count : ℕ) → Nowhere text first place count → first_fault text first place count ≡ None
nowhere_first text first place zero h = refl
nowhere_first text first place (suc count) h =
    let z : place + 0 ≡ place = omega arith in
    let at_once : fault_at text first (place + 0) ≡ None = h 0 (omega arith) in
    let here : fault_at text first place ≡ None = rw z at at_once in
    let rest : first_fault text first (suc place) count ≡ None = nowhere_first text first (suc place) count (λ i l.
    let d : place + suc i ≡ suc place + i = omega arith in
    let k : fault_at text first (place + suc i) ≡ None = h (suc i) (omega (arith, l)) in rw d at k) in
    rw (here, rest) refl

pub somewhere_first : (text : List Token) (first place count offset : ℕ) (fault : SegmentFault) → offset < count → fault_at text first (place + offset) ≡ Some fault →
    Nowhere text first place offset → first_fault text first place count ≡ Some fault
somewhere_first text first place zero offset fault w f e = absurd (omega (arith, w))
somewhere_first text first place (suc count) zero fault w f e =
    let z : place + 0 ≡ place = omega arith in let here : fault_at text first place ≡ Some fault = rw z at f in rw here refl
somewhere_first text first place (suc count) (suc offset) fault w f e =
    let z : place + 0 ≡ place = omega arith in
    let at_once : fault_at text first (place + 0) ≡ None = e 0 (omega arith) in
    let here : fault_at text first place ≡ None = rw z at at_once in
    let d : place + suc offset ≡ suc place + offset = omega arith in
    let there : fault_at text first (suc place + offset) ≡ Some fault = rw d at f in
    let rest : first_fault text first (suc place) count ≡ Some fault = somewhere_first text first (suc place) count offset fault (omega (arith, w)) there (λ i l.
    let g : place + suc i ≡ suc place + i = omega arith in
    let k : fault_at text first (place + suc i) ≡ None = e (suc i) (omega (arith, l)) in rw g at k) in
    rw here rest

pub decide : (text : List Token) (first place count : ℕ) → Somewhere text first place count ⊎ Nowhere text first place count
decide text first place zero = inr (λ i l. absurd (omega (arith, l)))
decide text first place (suc count) = by (fault_at text first place) refl (decide text first (suc place) count)
  where
    shifted : (m : ℕ) → fault_at text first place ≡ None → Nowhere text first (suc place) m → Nowhere text first place (suc m)
    shifted m h n zero l = let z : place + 0 ≡ place = omega arith in rw z h
    shifted m h n (suc i) l = let d : place + suc i ≡ suc place + i = omega arith in rw d (n i (omega (arith, l)))

    by : (x : Option SegmentFault) → fault_at text first place ≡ x → Somewhere text first (suc place) count ⊎ Nowhere text first (suc place) count →
        Somewhere text first place (suc count) ⊎ Nowhere text first place (suc count)
    by (Some fault) h rest = inl (record {
      offset = 0;
      fault = fault;
      within = omega arith;
      fits = let z : place + 0 ≡ place = omega arith in rw z h;
      earlier = λ i l. absurd (omega (arith, l));
    })
    by None h (inl s) = inl (record {
      offset = suc s.offset;
      fault = s.fault;
      within = let w = s.within in omega (arith, w);
      fits = let d : place + suc s.offset ≡ suc place + s.offset = omega arith in rw d s.fits;
      earlier = shifted s.offset h s.earlier;
    })
    by None h (inr n) = inr (shifted count h n)

-- so of a segment
pub told : (text : List Token) (first count : ℕ) (fault : SegmentFault) → FitsFirst text first count fault → fault_of text first count ≡ fault
told text first count fault f =
    let from : first ≤ f.place = f.from in
    let within : f.place < first + count = f.within in
    let d : first + (f.place - first) ≡ f.place = omega (arith, from) in
    let short : f.place - first < count = omega (arith, from, within) in
    let fits : fault_at text first (first + (f.place - first)) ≡ Some fault = rw d f.fits in
    let k : first_fault text first first count ≡ Some fault = somewhere_first text first first count (f.place - first) fault short fits (λ i l.
    f.earlier (first + i) (omega arith) (omega (arith, l, from))) in
    rw k refl

pub untold : (text : List Token) (first count : ℕ) → FitsNowhere text first count → fault_of text first count ≡ plain_fault text first count
untold text first count n =
    let k : first_fault text first first count ≡ None = nowhere_first text first first count (λ i l. n (first + i) (omega arith) (omega (arith, l))) in rw k refl

pub decided : (text : List Token) (first count : ℕ) → FitsFirst text first count (fault_of text first count) ⊎ FitsNowhere text first count
decided text first count = by (decide text first first count)
  where
    back : (n : ℕ) → Nowhere text first first n → (place : ℕ) → first ≤ place → place < first + n → fault_at text first place ≡ None
    back n h place from within =
        let d : first + (place - first) ≡ place = omega (arith, from) in
        let k : fault_at text first (first + (place - first)) ≡ None = h (place - first) (omega (arith, from, within)) in rw d at k

    by : Somewhere text first first count ⊎ Nowhere text first first count → FitsFirst text first count (fault_of text first count) ⊎ FitsNowhere text first count
    by (inl s) =
        let w : s.offset < count = s.within in
        let k : fault_of text first count ≡ s.fault = let j : first_fault text first first count ≡ Some s.fault = somewhere_first text first first count s.offset s.fault w s.fits s.earlier in rw j refl in
        inl (record {
          place = first + s.offset;
          from = omega arith;
          within = omega (arith, w);
          fits = s.fits ∙ ap (λ (x : SegmentFault). Some x) (sym k);
          earlier = back s.offset s.earlier;
        })
    by (inr n) = inr (back count n)
