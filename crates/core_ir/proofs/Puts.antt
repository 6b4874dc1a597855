-- Facts with one more at its place.
use Rattle.std.proofs.Common.{◌≡◌, ◌≢◌, ℕ, zero, suc, ◌+◌, ◌<◌, ◌≤◌, nat_eq, nat_lt, fold, List, [], ◌∷◌, ◌++◌, length, get_or, set, sym, ap, ◌∙◌, subst, refl, arith, All, inl, inr}
use Rattle.std.specs.List.{insert}
use Rattle.std.proofs.lemmas.Bool.{cases_lt, cases_eq, cond-true, cond-false, lt-ltb, le-ltb, eq-eqb, ne_eqb}
use Rattle.std.proofs.Math.Seq.{get_or-append_seam}
use Rattle.std.proofs.lemmas.List.{append-nil, append_assoc, get_or_append_left, get_or_default, length-append}
use Rattle.std.proofs.lemmas.List.Elements.{All-cons, All-head, All-tail}
use Rattle.std.proofs.lemmas.List.Kept.{AllPairs-cons}
use Rattle.core_ir.specs.PointFacts.{AreInOrder, put}
use Rattle.core_ir.specs.declared.facts.SlotFact.{SlotFact}

-- a fact goes behind one of a lesser slot
pub put_behind : (first : SlotFact) (rest : List SlotFact) (fact : SlotFact) → first.slot.0 < fact.slot.0 → put (first ∷ rest) fact ≡ first ∷ put rest fact
put_behind first rest fact lt = cond-true (nat_lt first.slot.0 fact.slot.0) _ _ (lt-ltb first.slot.0 fact.slot.0 lt)

-- in place of one of its own slot
pub put_over : (first : SlotFact) (rest : List SlotFact) (fact : SlotFact) → first.slot.0 ≡ fact.slot.0 → put (first ∷ rest) fact ≡ fact ∷ rest
put_over first rest fact same =
    cond-false (nat_lt first.slot.0 fact.slot.0) _ _ (le-ltb first.slot.0 fact.slot.0 (omega arith))
    ∙ cond-true (nat_eq first.slot.0 fact.slot.0) _ _ (eq-eqb first.slot.0 fact.slot.0 same)

-- and before one of a greater slot
pub put_before : (first : SlotFact) (rest : List SlotFact) (fact : SlotFact) → fact.slot.0 < first.slot.0 → put (first ∷ rest) fact ≡ fact ∷ first ∷ rest
put_before first rest fact lt =
    cond-false (nat_lt first.slot.0 fact.slot.0) _ _ (le-ltb first.slot.0 fact.slot.0 (omega arith))
    ∙ cond-false (nat_eq first.slot.0 fact.slot.0) _ _ (ne_eqb first.slot.0 fact.slot.0 (λ e. absurd (omega arith)))

-- what holds of all facts and of one more holds of all with it
pub put_all : (P : SlotFact → Type 0) (facts : List SlotFact) (fact : SlotFact) → All P facts → P fact → All P (put facts fact)
put_all P [] fact all here = All-cons P fact [] here all
put_all P (first ∷ rest) fact all here =
    let head : P first = All-head P first rest all in
    let tail : All P rest = All-tail P first rest all in
    elim (cases_lt first.slot.0 fact.slot.0) [
      | inl lt ↦ subst (All P) (sym (put_behind first rest fact lt)) (All-cons P first (put rest fact) head (put_all P rest fact tail here))
      | inr le ↦
          elim (cases_eq first.slot.0 fact.slot.0) [
            | inl same ↦ subst (All P) (sym (put_over first rest fact same)) (All-cons P fact rest here tail)
            | inr apart ↦ subst (All P) (sym (put_before first rest fact (omega arith))) (All-cons P fact (first ∷ rest) here all)
          ]
    ]

-- all facts behind the first are of greater slots
behind_first : (first : SlotFact) (rest : List SlotFact) → AreInOrder (first ∷ rest) → All (λ f. first.slot.0 < f.slot.0) rest
behind_first first rest order k d lt = order 0 (suc k) d (omega arith) (omega arith)

tail_order : (first : SlotFact) (rest : List SlotFact) → AreInOrder (first ∷ rest) → AreInOrder rest
tail_order first rest order i j d ij jl = order (suc i) (suc j) d (omega arith) (omega arith)

-- facts in order stay so
pub put_order : (facts : List SlotFact) (fact : SlotFact) → AreInOrder facts → AreInOrder (put facts fact)
put_order [] fact order = AllPairs-cons (λ (a b : SlotFact). a.slot.0 < b.slot.0) fact [] (λ k d lt. absurd (omega arith)) order
put_order (first ∷ rest) fact order =
    let behind : All (λ f. first.slot.0 < f.slot.0) rest = behind_first first rest order in
    let tail : AreInOrder rest = tail_order first rest order in
    elim (cases_lt first.slot.0 fact.slot.0) [
      | inl lt ↦
          subst AreInOrder (sym (put_behind first rest fact lt))
          (AllPairs-cons (λ (a b : SlotFact). a.slot.0 < b.slot.0) first (put rest fact) (put_all (λ f. first.slot.0 < f.slot.0) rest fact behind lt) (put_order rest fact tail))
      | inr le ↦
          elim (cases_eq first.slot.0 fact.slot.0) [
            | inl same ↦
                subst AreInOrder (sym (put_over first rest fact same))
                (AllPairs-cons (λ (a b : SlotFact). a.slot.0 < b.slot.0) fact rest (λ k d lt. let h : first.slot.0 < (get_or rest k d).slot.0 = behind k d lt in omega arith) tail)
            | inr apart ↦
                (let less : fact.slot.0 < first.slot.0 = omega arith in
                subst AreInOrder (sym (put_before first rest fact less))
                (AllPairs-cons (λ (a b : SlotFact). a.slot.0 < b.slot.0) fact (first ∷ rest)
                (All-cons (λ f. fact.slot.0 < f.slot.0) first rest less (λ k d lt. let h : first.slot.0 < (get_or rest k d).slot.0 = behind k d lt in omega arith))
                order))
          ]
    ]

-- behind all facts it comes at the end
pub put_last : (facts : List SlotFact) (fact : SlotFact) → All (λ f. f.slot.0 < fact.slot.0) facts → put facts fact ≡ facts ++ fact ∷ []
put_last [] fact all = refl
put_last (first ∷ rest) fact all =
    put_behind first rest fact (All-head (λ f. f.slot.0 < fact.slot.0) first rest all)
    ∙ ap (λ l. first ∷ l) (put_last rest fact (All-tail (λ f. f.slot.0 < fact.slot.0) first rest all))

-- facts in order are listed as they come
pub puts_in_order : (first rest : List SlotFact) → AreInOrder (first ++ rest) → fold put first rest ≡ first ++ rest
puts_in_order first [] order = sym (append-nil first)
puts_in_order first (fact ∷ rest) order =
    let count : length (first ++ fact ∷ rest) ≡ length first + length (fact ∷ rest) = length-append first (fact ∷ rest) in
    let behind : All (λ f. f.slot.0 < fact.slot.0) first = λ k d lt.
    subst (λ (f : SlotFact). f.slot.0 < fact.slot.0) (get_or_append_left first (fact ∷ rest) d k lt)
    (subst (λ (f : SlotFact). (get_or (first ++ fact ∷ rest) k d).slot.0 < f.slot.0) (get_or-append_seam first fact rest d) (order k (length first) d lt (omega arith))) in
    ap (λ l. fold put l rest) (put_last first fact behind)
    ∙ puts_in_order (first ++ fact ∷ []) rest (subst AreInOrder (sym (append_assoc first (fact ∷ []) rest)) order)
    ∙ append_assoc first (fact ∷ []) rest

-- what was read of a list and of a fact, of the list and the fact themselves
module _ (items seen : List SlotFact) (fact read : SlotFact) (place : ℕ) (same : seen ≡ items) (of : read ≡ fact) where
  pub lesser_before : ((k : ℕ) (d : SlotFact) → k < place → (get_or seen k d).slot.0 < read.slot.0) → (k : ℕ) (d : SlotFact) → k < place → (get_or items k d).slot.0 < fact.slot.0
  lesser_before before k d lt =
      subst (λ (l : List SlotFact). (get_or l k d).slot.0 < fact.slot.0) same (subst (λ (f : SlotFact). (get_or seen k d).slot.0 < f.slot.0) of (before k d lt))

  pub none_lesser : ((d : SlotFact) → place < length seen → read.slot.0 ≤ (get_or seen place d).slot.0) → (d : SlotFact) → place < length items → fact.slot.0 ≤ (get_or items place d).slot.0
  none_lesser behind d lt =
      subst (λ (l : List SlotFact). fact.slot.0 ≤ (get_or l place d).slot.0) same
      (subst (λ (f : SlotFact). f.slot.0 ≤ (get_or seen place d).slot.0) of (behind d (subst (λ (l : List SlotFact). place < length l) (sym same) lt)))

-- at the place before which the lesser slots are it goes in place of the fact there, or before it
module _ (fact : SlotFact) where
  pub put_set : (facts : List SlotFact) (place : ℕ) → place < length facts → ((k : ℕ) (d : SlotFact) → k < place → (get_or facts k d).slot.0 < fact.slot.0) → (get_or facts place fact).slot.0 ≡ fact.slot.0 → put facts fact ≡ set facts place fact
  put_set [] place within before same = absurd (omega arith)
  put_set (first ∷ rest) zero within before same = put_over first rest fact same
  put_set (first ∷ rest) (suc place) within before same =
      put_behind first rest fact (before 0 fact (omega arith))
      ∙ ap (λ l. first ∷ l) (put_set rest place (omega arith) (λ k d lt. before (suc k) d (omega arith)) same)

  pub put_insert : (facts : List SlotFact) (place : ℕ) → place < length facts → ((k : ℕ) (d : SlotFact) → k < place → (get_or facts k d).slot.0 < fact.slot.0) → fact.slot.0 < (get_or facts place fact).slot.0 → put facts fact ≡ insert facts place fact
  put_insert [] place within before less = absurd (omega arith)
  put_insert (first ∷ rest) zero within before less = put_before first rest fact less
  put_insert (first ∷ rest) (suc place) within before less =
      put_behind first rest fact (before 0 fact (omega arith))
      ∙ ap (λ l. first ∷ l) (put_insert rest place (omega arith) (λ k d lt. before (suc k) d (omega arith)) less)

  -- the same by what the code reads: the fact at the place, in a list that is the facts
  module _ (items facts : List SlotFact) (place : ℕ) (found : SlotFact) (same : items ≡ facts) (read : found ≡ get_or items place found) (within : place < length facts) (before : (k : ℕ) (d : SlotFact) → k < place → (get_or facts k d).slot.0 < fact.slot.0) (behind : (d : SlotFact) → place < length facts → fact.slot.0 ≤ (get_or facts place d).slot.0) where
    found_at : found.slot.0 ≡ (get_or facts place fact).slot.0
    found_at = ap (λ (f : SlotFact). f.slot.0) (read ∙ ap (λ l. get_or l place found) same ∙ get_or_default facts place found fact within)

    pub put_is_set : found.slot.0 ≡ fact.slot.0 → set items place fact ≡ put facts fact
    put_is_set slots = ap (λ l. set l place fact) same ∙ sym (put_set facts place within before (sym found_at ∙ slots))

    pub put_is_insert : found.slot.0 ≢ fact.slot.0 → insert items place fact ≡ put facts fact
    put_is_insert slots =
        let at = found_at in
        let le : fact.slot.0 ≤ (get_or facts place fact).slot.0 = behind fact within in
        let apart : fact.slot.0 ≢ (get_or facts place fact).slot.0 = λ e. slots (at ∙ sym e) in
        ap (λ l. insert l place fact) same ∙ sym (put_insert facts place within before (omega arith))
