-- Locals that are chosen, changed and kept in order.
use Rattle.std.proofs.Common.{◌≡◌, ℕ, suc, ◌<◌, Bool, true, false, ◌&&◌, not, nat_lt, List, [], ◌∷◌, ◌++◌, length, get_or, map, if◌then◌else◌, refl, sym, ap, ◌∙◌, arith}
use Rattle.std.specs.Prelude.{◌||◌, All, AllPairs, filter}
use Rattle.std.proofs.lemmas.Bool.{ltb-true}
use Rattle.std.proofs.lemmas.Bool.Decides.{nat_tests}
use Rattle.std.proofs.Math.ListN.{get_or-map}
use Rattle.std.proofs.lemmas.List.{length-map}
use Rattle.std.proofs.lemmas.List.Elements.{All-append, All-cons, All-weaker, All-head, All-tail, filter_passes}
use Rattle.std.proofs.lemmas.List.Folds.{list_any-append}
use Rattle.std.proofs.lemmas.List.Kept.{AllPairs-cons, AllPairs-filter}
use Rattle.dart_types.specs.Ty.{Ty}
use Rattle.flow_model.specs.Flow.{FlowModel, IsInOrder, at_local, declare_of, end_of, fresh_facts, is_listed, is_of}
use Rattle.flow_model.specs.Steps.{conservative_facts, conservative_of, is_changed}
use Rattle.flow_model.specs.Join.{HaveSameScope}
use Rattle.flow_model.specs.declared.locals.LocalDecl.{LocalDecl}
use Rattle.flow_model.specs.declared.locals.LocalId.{LocalId}
use Rattle.flow_model.specs.declared.locals.Facts.{Facts}

-- the local and its declared type
abbrev local_of : Facts → LocalId × Ty
local_of l = (l.var, l.ty)

-- Models of one scope are in order together.

module _ (ls ms : List Facts) (same : map local_of ls ≡ map local_of ms) where
  -- they have as many locals
  same_length : length ls ≡ length ms
  same_length = sym (length-map ls local_of) ∙ (ap (λ (locals : List (LocalId × Ty)). length locals) same ∙ length-map ms local_of)

  -- with the same numbers
  same_numbers : (i : ℕ) (d : Facts) → (get_or ls i d).var.0 ≡ (get_or ms i d).var.0
  same_numbers i d =
      ap (λ (local : LocalId × Ty). local.0.0)
      (sym (get_or-map local_of ls i d) ∙ (ap (λ (locals : List (LocalId × Ty)). get_or locals i (local_of d)) same ∙ get_or-map local_of ms i d))

  -- so the first are in order where the second are
  same_order : IsInOrder ms → IsInOrder ls
  same_order order i j d before within =
      let counts = same_length in
      let first = same_numbers i d in
      let second = same_numbers j d in
      let less : (get_or ms i d).var.0 < (get_or ms j d).var.0 = order i j d before (omega arith) in
      omega arith

-- as models
pub order_of_scope : (a m : FlowModel) → HaveSameScope a m → IsInOrder m.locals → IsInOrder a.locals
order_of_scope a m same order = same_order a.locals m.locals same order

-- Locals that are chosen by a test.

module _ (p : Facts → Bool) where
  -- the step of the next lemma
  chosen_twice_at : (q r : Facts → Bool) (x : Facts) (xs : List Facts) (b : Bool) → q x ≡ b → r x ≡ (q x && p x) → filter p (filter q xs) ≡ filter r xs → filter p (filter q (x ∷ xs)) ≡ filter r (x ∷ xs)
  chosen_twice_at q r x xs true is both more = rw (both, is) (ap (λ (ys : List Facts). if p x then x ∷ ys else ys) more)
  chosen_twice_at q r x xs false is both more = rw (both, is) more

  -- one test after another is both at once
  chosen_twice : (q r : Facts → Bool) → ((x : Facts) → r x ≡ (q x && p x)) → (xs : List Facts) → filter p (filter q xs) ≡ filter r xs
  chosen_twice q r both [] = refl
  chosen_twice q r both (x ∷ xs) = chosen_twice_at q r x xs (q x) refl (both x) (chosen_twice q r both xs)

  module _ (f : Facts → Facts) (unseen : (x : Facts) → p (f x) ≡ p x) where
    -- the step of the next lemma
    chosen_changed_at : (x : Facts) (xs : List Facts) (b : Bool) → p x ≡ b → p (f x) ≡ b → filter p (map f xs) ≡ map f (filter p xs) → filter p (map f (x ∷ xs)) ≡ map f (filter p (x ∷ xs))
    chosen_changed_at x xs true is kept more = rw (kept, is) (ap (λ (ys : List Facts). f x ∷ ys) more)
    chosen_changed_at x xs false is kept more = rw (kept, is) more

    -- a change that the test doesn't see may come after it
    chosen_changed : (xs : List Facts) → filter p (map f xs) ≡ map f (filter p xs)
    chosen_changed [] = refl
    chosen_changed (x ∷ xs) = chosen_changed_at x xs (p x) refl (unseen x) (chosen_changed xs)

    module _ (stays : (x : Facts) → p x ≡ true → f x ≡ x) where
      -- the step of the next lemma
      chosen_stay_at : (x : Facts) (xs : List Facts) (b : Bool) → p x ≡ b → p (f x) ≡ b → filter p (map f xs) ≡ filter p xs → filter p (map f (x ∷ xs)) ≡ filter p (x ∷ xs)
      chosen_stay_at x xs true is kept more = rw (kept, is, stays x is) (ap (λ (ys : List Facts). x ∷ ys) more)
      chosen_stay_at x xs false is kept more = rw (kept, is) more

      -- nor need it, where it changes none that passes
      chosen_stay : (xs : List Facts) → filter p (map f xs) ≡ filter p xs
      chosen_stay [] = refl
      chosen_stay (x ∷ xs) = chosen_stay_at x xs (p x) refl (unseen x) (chosen_stay xs)

-- The ends of scopes.

-- the model with other locals
abbrev with_locals : Bool → List Facts → FlowModel
with_locals reachable locals = record { reachable = reachable; locals = locals }

-- neither in the one list nor in the other
not-or : (a b : Bool) → not (a || b) ≡ (not b && not a)
not-or true true = refl
not-or true false = refl
not-or false true = refl
not-or false false = refl

-- a test that all pass keeps all
chosen_all : (ls : List Facts) → filter (λ l. not (is_listed [] l.var)) ls ≡ ls
chosen_all [] = refl
chosen_all (l ∷ ls) = ap (λ (rest : List Facts). l ∷ rest) (chosen_all ls)

-- two scopes end at once
pub end_of-append : (m : FlowModel) (vars more : List LocalId) → end_of (end_of m more) vars ≡ end_of m (vars ++ more)
end_of-append m vars more =
    ap (with_locals m.reachable)
    (chosen_twice (λ l. not (is_listed vars l.var)) (λ l. not (is_listed more l.var)) (λ l. not (is_listed (vars ++ more) l.var))
    (λ l. ap not (list_any-append _ vars more) ∙ not-or (is_listed vars l.var) (is_listed more l.var))
    m.locals)

-- a scope without locals
pub end_of-none : (m : FlowModel) → end_of m [] ≡ m
end_of-none m = ap (with_locals m.reachable) (chosen_all m.locals)

-- code that may write some keeps each local
local-forgotten : (b : Bool) (l : Facts) → (if b then record l { chain = []; unassigned = false; captured = l.captured || false } else l).var ≡ l.var
local-forgotten true l = refl
local-forgotten false l = refl

-- what code may write is forgotten before or after the end of a scope
pub end_of-conservative : (m : FlowModel) (written vars : List LocalId) → end_of (conservative_of m written []) vars ≡ conservative_of (end_of m vars) written []
end_of-conservative m written vars =
    ap (with_locals m.reachable)
    (chosen_changed (λ l. not (is_listed vars l.var)) (conservative_facts written [])
    (λ l. ap (λ (var : LocalId). not (is_listed vars var)) (local-forgotten (is_changed written [] l.var) l))
    m.locals)

-- either of two facts of one local is of it
var-if : (b : Bool) (l m : Facts) → l.var ≡ m.var → (if b then l else m).var ≡ m.var
var-if true l m same = same
var-if false l m same = refl

-- a local that isn't the one is as before
unchanged_elsewhere : (var : LocalId) (change : Facts → Facts) (l : Facts) → not (is_listed (var ∷ []) l.var) ≡ true → (if is_of var l then change l else l) ≡ l
unchanged_elsewhere var change l stays =
    let other : is_of var l ≡ false = grind (arith, nat_tests) in
    rw other refl

-- a local whose scope ends needs no change before
pub end_of-at_local : (m : FlowModel) (var : LocalId) (change : Facts → Facts) → ((l : Facts) → (change l).var ≡ l.var) → end_of (at_local m var change) (var ∷ []) ≡ end_of m (var ∷ [])
end_of-at_local m var change keeps =
    ap (with_locals m.reachable)
    (chosen_stay (λ l. not (is_listed (var ∷ []) l.var)) (λ l. if is_of var l then change l else l)
    (λ l. ap (λ (v : LocalId). not (is_listed (var ∷ []) v)) (var-if (is_of var l) (change l) l (keeps l)))
    (λ l stays. unchanged_elsewhere var change l stays)
    m.locals)

-- What code may write is the same where the lists have the same locals.

-- the step of the next lemma
forgotten_alike_at : (b c : Bool) (l : Facts) → b ≡ c → (if b || false then record l { chain = []; unassigned = false; captured = l.captured || false } else l) ≡ (if c || false then record l { chain = []; unassigned = false; captured = l.captured || false } else l)
forgotten_alike_at b c l same = ap (λ (d : Bool). if d || false then record l { chain = []; unassigned = false; captured = l.captured || false } else l) same

module _ (v w : List LocalId) (alike : (var : LocalId) → is_listed v var ≡ is_listed w var) where
  -- each local
  map_alike : (ls : List Facts) → map (conservative_facts v []) ls ≡ map (conservative_facts w []) ls
  map_alike [] = refl
  map_alike (l ∷ ls) =
      rw (forgotten_alike_at (is_listed v l.var) (is_listed w l.var) l (alike l.var))
      (ap (λ (rest : List Facts). conservative_facts w [] l ∷ rest) (map_alike ls))

  -- the whole model
  pub conservative_alike : (m : FlowModel) → conservative_of m v [] ≡ conservative_of m w []
  conservative_alike m = ap (with_locals m.reachable) (map_alike m.locals)

-- A new local stands in order.

-- one list before another
AllPairs-append : {X : Type 0} (R : X → X → Type 0) (xs ys : List X) → AllPairs R xs → AllPairs R ys → All (λ x. All (R x) ys) xs → AllPairs R (xs ++ ys)
AllPairs-append R [] ys first second across = second
AllPairs-append {X} R (x ∷ xs) ys first second across =
    AllPairs-cons R x (xs ++ ys)
    (All-append (R x) xs ys (λ i d within. first 0 (suc i) d (omega arith) (omega arith)) (All-head (λ (y : X). All (R y) ys) x xs across))
    (AllPairs-append R xs ys (λ i j d before within. first (suc i) (suc j) d (omega arith) (omega arith)) second (All-tail (λ (y : X). All (R y) ys) x xs across))

-- between those of smaller and those of greater numbers
pub declared_order : (m : FlowModel) (local : LocalDecl) → IsInOrder m.locals → IsInOrder (declare_of m local).locals
declared_order m local order =
    let R = λ (a b : Facts). a.var.0 < b.var.0 in
    let is_smaller = λ (l : Facts). nat_lt l.var.0 local.var.0 in
    let is_greater = λ (l : Facts). nat_lt local.var.0 l.var.0 in
    let smaller = filter is_smaller m.locals in
    let greater = filter is_greater m.locals in
    let below : All (λ l. R l (fresh_facts local)) smaller = All-weaker (λ l. is_smaller l ≡ true) (λ l. R l (fresh_facts local)) (λ l h. ltb-true l.var.0 local.var.0 h) smaller (filter_passes is_smaller m.locals) in
    let above : All (R (fresh_facts local)) greater = All-weaker (λ l. is_greater l ≡ true) (R (fresh_facts local)) (λ l h. ltb-true local.var.0 l.var.0 h) greater (filter_passes is_greater m.locals) in
    AllPairs-append R smaller (fresh_facts local ∷ greater)
    (AllPairs-filter R is_smaller m.locals order)
    (AllPairs-cons R (fresh_facts local) greater above (AllPairs-filter R is_greater m.locals order))
    (All-weaker (λ l. R l (fresh_facts local)) (λ l. All (R l) (fresh_facts local ∷ greater))
    (λ l h. All-cons (R l) (fresh_facts local) greater h (All-weaker (R (fresh_facts local)) (R l) (λ g h'. omega arith) greater above))
    smaller below)

-- the end of a scope leaves the others in order
pub ended_order : (m : FlowModel) (vars : List LocalId) → IsInOrder m.locals → IsInOrder (end_of m vars).locals
ended_order m vars order = AllPairs-filter (λ l k. l.var.0 < k.var.0) (λ l. not (is_listed vars l.var)) m.locals order
