-- What is known of the locals after one was declared, written or taken out of scope.
use Rattle.std.proofs.Common.{◌≡◌, ◌≢◌, ℕ, suc, ◌-◌, ◌<◌, ◌≤◌, Bool, true, false, ◌&&◌, not, nat_eq, nat_lt, List, [], ◌∷◌, ◌++◌, length, get_or, take, drop, Some, None, refl, sym, ap, subst, ◌∙◌, inl, inr, arith, eq-eqb, drop-cons, length-take, get_or-take}
use Rattle.std.specs.Prelude.{◌||◌, filter, find, fold}
use Rattle.std.specs.Option.{option_map}
use Rattle.std.proofs.lemmas.Bool.{cases_lt}
use Rattle.std.proofs.lemmas.Bool.Decides.{nat_tests}
use Rattle.std.proofs.lemmas.List.{get_or_default}
use Rattle.std.proofs.lemmas.List.Elements.{filter-append}
use Rattle.flow_model.specs.declared.locals.LocalId.{LocalId}
use Rattle.flow_model.specs.declared.locals.LocalDecl.{LocalDecl}
use Rattle.flow_model.specs.declared.locals.Facts.{Facts}
use Rattle.flow_model.specs.Flow.{FlowModel, IsInOrder, AreDistinct, is_of, is_listed, facts_of, at_local, fresh_facts, declares, declare_of, start_of, end_of}
use Rattle.flow_model.proofs.ListTests.{fails_from_none, filter_all, filter_none, filter-filter, find-append_left, find-append_right, find-filter_kept, find-filter_left, find-map_same, find-map_other}

-- the model with other locals
abbrev pub with_locals : Bool → List Facts → FlowModel
with_locals reachable locals = record { reachable = reachable; locals = locals }

-- no local taken out of scope
pub end_of-none : (m : FlowModel) → end_of m [] ≡ m
end_of-none m = ap (with_locals m.reachable) (filter_all (λ l. not (is_listed [] l.var)) m.locals (λ j d from to. refl))

-- what is neither the first nor one of the others
not-or : (a b : Bool) → not (a || b) ≡ (not b && not (a || false))
not-or true true = refl
not-or true false = refl
not-or false true = refl
not-or false false = refl

-- one more local taken out of scope
pub end_of-cons : (m : FlowModel) (var : LocalId) (vars : List LocalId) → end_of (end_of m vars) (var ∷ []) ≡ end_of m (var ∷ vars)
end_of-cons m var vars =
    ap (with_locals m.reachable)
    (filter-filter (λ l. not (is_listed vars l.var)) (λ l. not (is_listed (var ∷ []) l.var)) (λ l. not (is_listed (var ∷ vars) l.var)) (λ l. not-or (nat_eq var.0 l.var.0) (is_listed vars l.var)) m.locals)

-- the locals from place i on and the one before it, taken out of scope
pub end_of-before : (m : FlowModel) (vars : List LocalId) (i : ℕ) (d : LocalId) → 0 < i → i ≤ length vars → end_of (end_of m (drop i vars)) (get_or vars (i - 1) d ∷ []) ≡ end_of m (drop (i - 1) vars)
end_of-before m vars i d some within =
    let next : suc (i - 1) ≡ i = omega arith in
    let front = drop-cons vars (i - 1) d (omega arith) in
    end_of-cons m (get_or vars (i - 1) d) (drop i vars) ∙ ap (end_of m) (sym (rw next at front))

-- numbers that are equal are told apart from others alike
apart_tests : (var other : LocalId) → other.0 ≢ var.0 → (l : Facts) → is_of var l ≡ true → is_of other l ≡ false
apart_tests var other differs l h = grind (arith, nat_tests)

-- another local's facts stay as they are where one is declared
pub facts_of-declare_other : (m : FlowModel) (local : LocalDecl) (var : LocalId) → var.0 ≢ local.var.0 → facts_of (declare_of m local) var ≡ facts_of m var
facts_of-declare_other m local var differs = elim (cases_lt var.0 local.var.0) [
  | inl below ↦
      (let found = find-filter_kept (is_of var) (λ l. nat_lt l.var.0 local.var.0) (λ l h. grind (arith, nat_tests)) m.locals in
      let rest = find-filter_left (is_of var) (λ l. nat_lt local.var.0 l.var.0) (λ l h. grind (arith, nat_tests)) m.locals in
      let behind : find (is_of var) (fresh_facts local ∷ filter (λ l. nat_lt local.var.0 l.var.0) m.locals) ≡ None = grind (arith, nat_tests, rest) in
      find-append_left (is_of var) _ _ behind ∙ found)
  | inr at_least ↦
      (let none = find-filter_left (is_of var) (λ l. nat_lt l.var.0 local.var.0) (λ l h. grind (arith, nat_tests)) m.locals in
      let found = find-filter_kept (is_of var) (λ l. nat_lt local.var.0 l.var.0) (λ l h. grind (arith, nat_tests)) m.locals in
      let behind : find (is_of var) (fresh_facts local ∷ filter (λ l. nat_lt local.var.0 l.var.0) m.locals) ≡ find (is_of var) m.locals = grind (arith, nat_tests, found) in
      find-append_right (is_of var) _ _ none ∙ behind)
]

-- a local that was just declared is fresh
pub facts_of-declare_same : (m : FlowModel) (local : LocalDecl) → facts_of (declare_of m local) local.var ≡ Some (fresh_facts local)
facts_of-declare_same m local =
    let none = find-filter_left (is_of local.var) (λ l. nat_lt l.var.0 local.var.0) (λ l h. grind (arith, nat_tests)) m.locals in
    let here : nat_eq local.var.0 local.var.0 ≡ true = eq-eqb local.var.0 local.var.0 refl in
    find-append_right (is_of local.var) _ _ none ∙ rw here refl

-- what is known of a local stays as it is where others are declared
pub facts_of-fold_other : (vars : List LocalDecl) (m : FlowModel) (var : LocalId) → ((j : ℕ) (d : LocalDecl) → j < length vars → var.0 ≢ (get_or vars j d).var.0) → facts_of (fold declare_of m vars) var ≡ facts_of m var
facts_of-fold_other [] m var apart = refl
facts_of-fold_other (local ∷ vars) m var apart =
    facts_of-fold_other vars (declare_of m local) var (λ j d to. apart (suc j) d (omega arith)) ∙ facts_of-declare_other m local var (apart 0 local (omega arith))

-- the step of the next lemma
facts_of-fold_at : (local : LocalDecl) (vars : List LocalDecl) (m : FlowModel) (var : LocalId) (b : Bool) → declares var local ≡ b → AreDistinct (local ∷ vars) → (facts_of (declare_of m local) var ≡ None → facts_of (fold declare_of (declare_of m local) vars) var ≡ option_map fresh_facts (find (declares var) vars)) → facts_of m var ≡ None → facts_of (fold declare_of m (local ∷ vars)) var ≡ option_map fresh_facts (find (declares var) (local ∷ vars))
facts_of-fold_at local vars m var true e distinct more absent =
    let same : local.var.0 ≡ var.0 = grind (arith, nat_tests) in
    let fresh : facts_of (declare_of m local) var ≡ Some (fresh_facts local) = subst (λ (k : ℕ). facts_of (declare_of m local) (record { 0 = k }) ≡ Some (fresh_facts local)) same (facts_of-declare_same m local) in
    rw e (facts_of-fold_other vars (declare_of m local) var (λ j d to equal. distinct 0 (suc j) d (omega arith) (omega arith) (same ∙ equal)) ∙ fresh)
facts_of-fold_at local vars m var false e distinct more absent =
    let differs : var.0 ≢ local.var.0 = λ equal. (let h : nat_eq local.var.0 var.0 ≡ true = eq-eqb local.var.0 var.0 (sym equal) in cc) in
    rw e (more (facts_of-declare_other m local var differs ∙ absent))

-- what is known of a local after declarations, if nothing was known before: what its own says
pub facts_of-fold : (vars : List LocalDecl) (m : FlowModel) (var : LocalId) → AreDistinct vars → facts_of m var ≡ None → facts_of (fold declare_of m vars) var ≡ option_map fresh_facts (find (declares var) vars)
facts_of-fold [] m var distinct absent = absent
facts_of-fold (local ∷ vars) m var distinct absent =
    facts_of-fold_at local vars m var (declares var local) refl distinct
    (facts_of-fold vars (declare_of m local) var (λ i j d lt within. distinct (suc i) (suc j) d (omega arith) (omega arith)))
    absent

-- a declaration that differs from the others leaves a local out of scope until it comes
pub absent_from_start : (vars : List LocalDecl) (i : ℕ) (local : LocalDecl) → AreDistinct vars → i < length vars → local ≡ get_or vars i local → facts_of (start_of (take i vars)) local.var ≡ None
absent_from_start vars i local distinct within is =
    facts_of-fold_other (take i vars) (with_locals true []) local.var
    (λ j d to.
    let before : j < i = omega (arith, length-take i vars) in
    let same : local ≡ get_or vars i d = is ∙ get_or_default vars i local d within in
    rw (get_or-take i vars j d before) (λ equal. distinct j i d before within (sym equal ∙ ap (λ (a : LocalDecl). a.var.0) same)))

module _ (m : FlowModel) (var : LocalId) (change : Facts → Facts) (keeps : (l : Facts) → (change l).var.0 ≡ l.var.0) where
  -- a change of one local changes what is known of it
  pub facts_of-at_local_same : facts_of (at_local m var change) var ≡ option_map change (facts_of m var)
  facts_of-at_local_same = find-map_same (is_of var) change (λ l. ap (λ (k : ℕ). nat_eq k var.0) (keeps l)) m.locals

  -- and what is known of no other
  pub facts_of-at_local_other : (other : LocalId) → other.0 ≢ var.0 → facts_of (at_local m var change) other ≡ facts_of m other
  facts_of-at_local_other other differs =
      find-map_other (is_of var) (is_of other) change
      (λ l h. let here = apart_tests var other differs l h in (here, ap (λ (k : ℕ). nat_eq k other.0) (keeps l) ∙ here))
      m.locals

-- a local of a smaller number isn't the one that is taken out
lesser_stays : (var : LocalId) (l : Facts) → nat_lt l.var.0 var.0 ≡ (nat_lt l.var.0 var.0 && not (is_listed (var ∷ []) l.var))
lesser_stays var l = grind (arith, nat_tests)

-- nor is one of a greater number
greater_stays : (var : LocalId) (l : Facts) → nat_lt var.0 l.var.0 ≡ (nat_lt var.0 l.var.0 && not (is_listed (var ∷ []) l.var))
greater_stays var l = grind (arith, nat_tests)

-- the order of the locals behind the first
order_tail : (l : Facts) (locals : List Facts) → IsInOrder (l ∷ locals) → IsInOrder locals
order_tail l locals order i j d lt within = order (suc i) (suc j) d (omega arith) (omega arith)

module _ (number : ℕ) where
  -- the locals of smaller numbers
  smaller : List Facts → List Facts
  smaller locals = filter (λ l. nat_lt l.var.0 number) locals

  -- those of greater numbers
  greater : List Facts → List Facts
  greater locals = filter (λ l. nat_lt number l.var.0) locals

  -- the two parts of a list in order that lacks the number, one behind the other, are the list
  parts_rejoined : (locals : List Facts) → IsInOrder locals → ((j : ℕ) (d : Facts) → j < length locals → number ≢ (get_or locals j d).var.0) → smaller locals ++ greater locals ≡ locals
  unfolding smaller greater
  parts_rejoined [] order apart = refl
  parts_rejoined (l ∷ locals) order apart = elim (cases_lt l.var.0 number) [
    | inl below ↦
        (let first : nat_lt l.var.0 number ≡ true = grind (arith, nat_tests) in
        let second : nat_lt number l.var.0 ≡ false = grind (arith, nat_tests) in
        rw (first, second) (ap (λ (ls : List Facts). l ∷ ls) (parts_rejoined locals (order_tail l locals order) (λ j d to. apart (suc j) d (omega arith)))))
    | inr at_least ↦
        (let above : number < l.var.0 = omega (arith, apart 0 l (omega arith)) in
        let first : nat_lt l.var.0 number ≡ false = grind (arith, nat_tests) in
        let second : nat_lt number l.var.0 ≡ true = grind (arith, nat_tests) in
        let none = filter_none (λ m. nat_lt m.var.0 number) locals (λ j d from to. grind (arith, nat_tests, order 0 (suc j) d (omega arith) (omega arith))) in
        let all = filter_all (λ m. nat_lt number m.var.0) locals (λ j d from to. grind (arith, nat_tests, order 0 (suc j) d (omega arith) (omega arith))) in
        rw (first, second, none, all) refl)
  ]

-- a local that is taken out of scope just after its declaration
pub end_of-declare_of : (m : FlowModel) (local : LocalDecl) → IsInOrder m.locals → facts_of m local.var ≡ None → end_of (declare_of m local) (local.var ∷ []) ≡ m
unfolding smaller greater
end_of-declare_of m local order absent =
    let kept = λ (l : Facts). not (is_listed (local.var ∷ []) l.var) in
    let apart = fails_from_none (is_of local.var) m.locals absent in
    let own : kept (fresh_facts local) ≡ false = grind (arith, nat_tests) in
    let front : filter kept (smaller local.var.0 m.locals) ≡ smaller local.var.0 m.locals = filter-filter (λ l. nat_lt l.var.0 local.var.0) kept (λ l. nat_lt l.var.0 local.var.0) (λ l. lesser_stays local.var l) m.locals in
    let back : filter kept (greater local.var.0 m.locals) ≡ greater local.var.0 m.locals = filter-filter (λ l. nat_lt local.var.0 l.var.0) kept (λ l. nat_lt local.var.0 l.var.0) (λ l. greater_stays local.var l) m.locals in
    let parted : filter kept (smaller local.var.0 m.locals ++ fresh_facts local ∷ greater local.var.0 m.locals) ≡ smaller local.var.0 m.locals ++ greater local.var.0 m.locals =
    rw (filter-append kept (smaller local.var.0 m.locals) (fresh_facts local ∷ greater local.var.0 m.locals), own, front, back) refl in
    let whole = parts_rejoined local.var.0 m.locals order (λ j d to equal. grind (arith, nat_tests, apart j d (omega arith) to)) in
    ap (with_locals m.reachable) (parted ∙ whole)
