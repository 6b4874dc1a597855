-- What a binary search finds among locals in order, and what an edit at that place does.
use Rattle.std.proofs.Common.{◌≡◌, ℕ, zero, suc, ◌+◌, ◌-◌, ◌<◌, ◌≤◌, true, false, not, nat_eq, nat_lt, List, [], ◌∷◌, ◌++◌, length, get_or, set, take, drop, map, if◌then◌else◌, Some, None, IsSome, IsNone, Result, Ok, Err, OnOk, OnErr, refl, sym, ap, ◌∙◌, subst, arith, eq-eqb}
use Rattle.std.specs.Prelude.{filter, find}
use Rattle.std.specs.List.{insert, remove}
use Rattle.std.proofs.lemmas.List.{get_or_default}
use Rattle.std.proofs.lemmas.List.Edits.{length-insert, get_or-insert_below, get_or-insert_at, get_or-insert_above}
use Rattle.std.proofs.lemmas.Bool.Decides.{nat_tests}
use Rattle.flow_model.specs.declared.locals.LocalId.{LocalId}
use Rattle.flow_model.specs.declared.locals.Facts.{Facts}
use Rattle.flow_model.specs.Flow.{IsInOrder, is_of, is_listed}
use Rattle.flow_model.specs.Place.{StandsAt, WouldStandAt}
use Rattle.flow_model.proofs.ListTests.{Answers, find_none, find_at, filter_all, filter_front, filter_back, filter_but, map_none, map_at}

module _ (locals : List Facts) (order : IsInOrder locals) (var : LocalId) (at : ℕ) (l : Facts) (within : at < length locals) (is_l : l ≡ get_or locals at l) where
  -- what stands there has its number
  number_at : (d : Facts) → (get_or locals at d).var.0 ≡ l.var.0
  number_at d = ap (λ (f : Facts). f.var.0) (get_or_default locals at d l within ∙ sym is_l)

  -- where that is smaller than a local's, so are those before it
  pub smaller_up_to : l.var.0 < var.0 → (j : ℕ) (d : Facts) → j < at + 1 → (get_or locals j d).var.0 < var.0
  smaller_up_to smaller j d lt = grind (arith, order j at d, number_at d, λ (same : j ≡ at). ap (λ (k : ℕ). (get_or locals k d).var.0) same)

  -- where it is greater, so are those behind it
  pub greater_from : var.0 < l.var.0 → (j : ℕ) (d : Facts) → at ≤ j → j < length locals → var.0 < (get_or locals j d).var.0
  greater_from greater j d le lt = grind (arith, order at j d, number_at d, λ (same : j ≡ at). ap (λ (k : ℕ). (get_or locals k d).var.0) same)

-- a list that has a place has facts
pub some_facts : (locals : List Facts) (at : ℕ) → at < length locals → Facts
some_facts [] at within = absurd (omega (arith, within))
some_facts (l ∷ ls) at within = l

-- the locals are in order after a change, and also where it couldn't be made
pub order-after : {T E : Type 0} (r : Result T E) (new made old : List Facts) → OnOk r (new ≡ made) → OnErr r (new ≡ old) → IsInOrder made → IsInOrder old → IsInOrder new
order-after (Ok x) new made old done kept ordered before = subst IsInOrder (sym done) ordered
order-after (Err e) new made old done kept ordered before = subst IsInOrder (sym kept) before

-- other facts of the local at a place leave the numbers of the locals
numbers_kept : (locals : List Facts) (at : ℕ) (l : Facts) → ((d : Facts) → l.var.0 ≡ (get_or locals at d).var.0) → (k : ℕ) (d : Facts) → (get_or (set locals at l) k d).var.0 ≡ (get_or locals k d).var.0
numbers_kept [] at l same k d = refl
numbers_kept (m ∷ ms) zero l same zero d = same d
numbers_kept (m ∷ ms) zero l same (suc k) d = refl
numbers_kept (m ∷ ms) (suc at) l same zero d = refl
numbers_kept (m ∷ ms) (suc at) l same (suc k) d = numbers_kept ms at l same k d

-- and how many they are
as_many_kept : (locals : List Facts) (at : ℕ) (l : Facts) → length (set locals at l) ≡ length locals
as_many_kept [] at l = refl
as_many_kept (m ∷ ms) zero l = refl
as_many_kept (m ∷ ms) (suc at) l = ap suc (as_many_kept ms at l)

-- so they leave the order
pub order-set : (locals : List Facts) (at : ℕ) (l : Facts) → ((d : Facts) → l.var.0 ≡ (get_or locals at d).var.0) → IsInOrder locals → IsInOrder (set locals at l)
order-set locals at l same order i j d lt within =
    let in_range : j < length locals = subst (λ (n : ℕ). j < n) (as_many_kept locals at l) within in
    rw (numbers_kept locals at l same i d, numbers_kept locals at l same j d) (order i j d lt in_range)

module _ (locals : List Facts) (order : IsInOrder locals) (var : LocalId) (at : ℕ) (stands : StandsAt locals var at) where
  -- the local is at its place
  here : (d : Facts) → is_of var (get_or locals at d) ≡ true
  here d = eq-eqb _ var.0 (stands.is_it d)

  -- and neither before it
  none_before : Answers (is_of var) false locals 0 at
  none_before j d from to = grind (arith, nat_tests, order j at d to stands.in_range, stands.is_it d)

  -- nor behind it
  none_after : Answers (is_of var) false locals (suc at) (length locals)
  none_after j d from to = grind (arith, nat_tests, order at j d (omega arith) to, stands.is_it d)

  -- what is known of the local stands at its place
  pub find_there : (d : Facts) → find (is_of var) locals ≡ Some (get_or locals at d)
  find_there d = find_at (is_of var) locals at d stands.in_range none_before (here d)

  -- so the local is in scope
  pub not_none : Facts → IsNone (find (is_of var) locals) → ⊥
  not_none d absent = let found = rw (find_there d) at absent in cc

  -- a change of what is known of the local is a write there
  pub map_there : (change : Facts → Facts) (d : Facts) → map (λ l. if is_of var l then change l else l) locals ≡ set locals at (change (get_or locals at d))
  map_there change d = map_at (is_of var) change locals at d stands.in_range none_before (here d) none_after

  -- without the local, the list is without what stands there
  pub filter_there : filter (λ l. not (is_listed (var ∷ []) l.var)) locals ≡ remove locals at
  filter_there =
      let d = some_facts locals at stands.in_range in
      filter_but (λ l. not (is_listed (var ∷ []) l.var)) locals at d stands.in_range
      (λ j e from to. grind (arith, nat_tests, order j at e to stands.in_range, stands.is_it e))
      (grind (arith, nat_tests, stands.is_it d))
      (λ j e from to. grind (arith, nat_tests, order at j e (omega arith) to, stands.is_it e))

module _ (locals : List Facts) (var : LocalId) (at : ℕ) (gap : WouldStandAt locals var at) where
  -- no place has the local
  none_anywhere : (j : ℕ) (d : Facts) → j < length locals → nat_eq (get_or locals j d).var.0 var.0 ≡ false
  none_anywhere j d within = grind (arith, nat_tests, gap.smaller_before j d, λ (le : at ≤ j). gap.greater_after j d le within)

  -- nothing is known of a local that has a gap
  pub find_absent : find (is_of var) locals ≡ None
  find_absent = find_none (is_of var) locals (λ j d from to. none_anywhere j d to)

  -- so the local isn't in scope
  pub not_some : IsSome (find (is_of var) locals) → ⊥
  not_some present = let found = rw find_absent at present in cc

  -- a change of what is known of the local changes nothing
  pub map_absent : (change : Facts → Facts) → map (λ l. if is_of var l then change l else l) locals ≡ locals
  map_absent change = map_none (is_of var) change locals (λ j d from to. none_anywhere j d to)

  -- the locals of smaller numbers stand before the gap
  pub filter-smaller : filter (λ l. nat_lt l.var.0 var.0) locals ≡ take at locals
  filter-smaller =
      filter_front (λ l. nat_lt l.var.0 var.0) locals at gap.in_range
      (λ j d from to. grind (arith, nat_tests, gap.smaller_before j d to))
      (λ j d from to. grind (arith, nat_tests, gap.greater_after j d from to))

  -- those of greater numbers stand behind it
  pub filter-greater : filter (λ l. nat_lt var.0 l.var.0) locals ≡ drop at locals
  filter-greater =
      filter_back (λ l. nat_lt var.0 l.var.0) locals at gap.in_range
      (λ j d from to. grind (arith, nat_tests, gap.smaller_before j d to))
      (λ j d from to. grind (arith, nat_tests, gap.greater_after j d from to))

  -- the list with the local in its gap, by the numbers of the others
  pub insert_in_gap : (l : Facts) → insert locals at l ≡ filter (λ m. nat_lt m.var.0 var.0) locals ++ l ∷ filter (λ m. nat_lt var.0 m.var.0) locals
  insert_in_gap l = rw (filter-smaller, filter-greater) refl

  -- without the local the list is as it was
  pub filter_absent : filter (λ l. not (is_listed (var ∷ []) l.var)) locals ≡ locals
  filter_absent =
      filter_all (λ l. not (is_listed (var ∷ []) l.var)) locals (λ j d from to. grind (arith, nat_tests, none_anywhere j d to))

  -- the local in its gap keeps the order
  pub order-insert : (l : Facts) → l.var.0 ≡ var.0 → IsInOrder locals → IsInOrder (insert locals at l)
  order-insert l is order i j d lt in_range =
      let new = insert locals at l in
      let number = λ (x : Facts). x.var.0 in
      let length_new = length-insert locals at l gap.in_range in
      let below : (k : ℕ) → k < at → number (get_or new k d) ≡ number (get_or locals k d) = λ k before. ap number (get_or-insert_below locals at l d k before gap.in_range) in
      let at_gap : (k : ℕ) → k ≡ at → number (get_or new k d) ≡ number l = λ k same. rw same (ap number (get_or-insert_at locals at l d gap.in_range)) in
      let above : (k : ℕ) → at < k → number (get_or new k d) ≡ number (get_or locals (k - 1) d) = λ k behind. subst (λ q. number (get_or new q d) ≡ number (get_or locals (k - 1) d)) {x = k - 1 + 1} (omega arith) (ap number (get_or-insert_above locals at l d (k - 1) (omega arith) gap.in_range)) in
      grind (arith, below i, at_gap i, above i, below j, at_gap j, above j, order i j d, order i (j - 1) d, order (i - 1) (j - 1) d, gap.smaller_before i d, gap.greater_after (j - 1) d)
