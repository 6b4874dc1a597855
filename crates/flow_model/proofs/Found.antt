-- What is known of a local after a change of the facts of each.
use Rattle.std.proofs.Common.{◌≡◌, ℕ, arith, Bool, true, false, not, nat_eq, map, List, [], ◌∷◌, if◌then◌else◌, Option, Some, None, IsNone, refl, sym, ap, subst, ◌∙◌}
use Rattle.std.specs.Prelude.{All, find}
use Rattle.std.specs.Option.{option_map}
use Rattle.std.proofs.lemmas.Bool.Decides.{nat_tests}
use Rattle.std.proofs.lemmas.List.Elements.{All-head, All-tail}
use Rattle.flow_model.specs.Flow.{FlowModel, is_of, is_listed, facts_of, end_of}
use Rattle.flow_model.specs.declared.locals.LocalId.{LocalId}
use Rattle.flow_model.specs.declared.locals.Facts.{Facts}
use Rattle.flow_model.proofs.ListTests.{find-filter_kept, find-filter_left}

module _ {X : Type 0} (p : X → Bool) where
  -- the step of the next lemma
  find_passes_at : (x : X) (found : Option X) (y : X) (b : Bool) → p x ≡ b → (found ≡ Some y → p y ≡ true) → (if p x then Some x else found) ≡ Some y → p y ≡ true
  find_passes_at x found y true e more is =
      let here : Some x ≡ Some y = rw e at is in
      let equal : x ≡ y = cc in
      ap p (sym equal) ∙ e
  find_passes_at x found y false e more is = more (rw e at is)

  -- what a test finds passes it
  pub find_passes : (xs : List X) (y : X) → find p xs ≡ Some y → p y ≡ true
  find_passes [] y is = cc
  find_passes (x ∷ xs) y is = find_passes_at x (find p xs) y (p x) refl (find_passes xs y) is

  -- the step of the next lemma
  find-map_at : (f : X → X) (x : X) (found changed : Option X) (b : Bool) → p x ≡ b → p (f x) ≡ b → changed ≡ option_map f found → (if p (f x) then Some (f x) else changed) ≡ option_map f (if p x then Some x else found)
  find-map_at f x found changed true e kept more = rw (e, kept) refl
  find-map_at f x found changed false e kept more = rw (e, kept) more

  -- a change that the test doesn't see changes what is found
  pub find-map : (f : X → X) → ((x : X) → p (f x) ≡ p x) → (xs : List X) → find p (map f xs) ≡ option_map f (find p xs)
  find-map f keeps [] = refl
  find-map f keeps (x ∷ xs) =
      find-map_at f x (find p xs) (find p (map f xs)) (p x) refl (keeps x) (find-map f keeps xs)

-- an option without a value is `None`
pub none_from_is_none : (found : Option Facts) → IsNone found → found ≡ None
none_from_is_none None h = refl
none_from_is_none (Some l) h = cc

-- the facts that were found before a change
pub record FoundBefore (change : Facts → Facts) (found : Option Facts) (after : Facts) : Type 0 where
  pub before : Facts
  pub is : found ≡ Some before
  pub changed : change before ≡ after

-- what is found after a change was found before it
pub found_before : (change : Facts → Facts) (found : Option Facts) (after : Facts) → option_map change found ≡ Some after → FoundBefore change found after
found_before change None after is = cc
found_before change (Some l) after is = record { before = l; is = refl; changed = cc }

-- the facts of a local have its number
pub number_found : (m : FlowModel) (var : LocalId) (l : Facts) → facts_of m var ≡ Some l → l.var.0 ≡ var.0
number_found m var l is =
    let passes : nat_eq l.var.0 var.0 ≡ true = find_passes (is_of var) m.locals l is in
    grind (arith, nat_tests)

-- locals of one number are the same
pub same_local : (v var : LocalId) → v.0 ≡ var.0 → v ≡ var
same_local v var same = ap (λ (k : ℕ). let x : LocalId = record { 0 = k } in x) same

module _ (change : Facts → Facts) (keeps : (l : Facts) → (change l).var.0 ≡ l.var.0) where
  -- after a change of the facts of each local, what is known of one is changed
  pub found-map : (locals : List Facts) (var : LocalId) → find (is_of var) (map change locals) ≡ option_map change (find (is_of var) locals)
  found-map locals var = find-map (is_of var) change (λ l. ap (λ (k : ℕ). nat_eq k var.0) (keeps l)) locals

module _ (m : FlowModel) (vars : List LocalId) (var : LocalId) where
  -- a local of the number is listed where the local is
  listed_as : (l : Facts) → is_of var l ≡ true → is_listed vars l.var ≡ is_listed vars var
  listed_as l is =
      let same : l.var.0 ≡ var.0 = grind (arith, nat_tests) in
      ap (is_listed vars) (same_local l.var var same)

  -- what is known of a local that stays in scope
  pub found_after_end : is_listed vars var ≡ false → facts_of (end_of m vars) var ≡ facts_of m var
  found_after_end stays =
      find-filter_kept (is_of var) (λ l. not (is_listed vars l.var)) (λ l is. ap not (listed_as l is ∙ stays)) m.locals

  -- nothing is known of one that doesn't
  pub none_after_end : is_listed vars var ≡ true → facts_of (end_of m vars) var ≡ None
  none_after_end ends =
      find-filter_left (is_of var) (λ l. not (is_listed vars l.var)) (λ l is. ap not (listed_as l is ∙ ends)) m.locals

  -- the step of the next lemma
  after_end_at : (b : Bool) → is_listed vars var ≡ b → facts_of (end_of m vars) var ≡ (if is_listed vars var then None else facts_of m var)
  after_end_at true e = rw e (none_after_end e)
  after_end_at false e = rw e (found_after_end e)

  -- either
  pub after_end : facts_of (end_of m vars) var ≡ (if is_listed vars var then None else facts_of m var)
  after_end = after_end_at (is_listed vars var) refl

-- the step of the next lemma
found_all_at : (P : Facts → Type 0) (var : LocalId) (x : Facts) (found : Option Facts) (l : Facts) (b : Bool) → is_of var x ≡ b → P x → (found ≡ Some l → P l) → (if is_of var x then Some x else found) ≡ Some l → P l
found_all_at P var x found l true e first more is =
    let here : Some x ≡ Some l = rw e at is in
    let equal : x ≡ l = cc in
    subst P equal first
found_all_at P var x found l false e first more is = more (rw e at is)

-- among locals of which each has it
found_in : (P : Facts → Type 0) (var : LocalId) (locals : List Facts) (l : Facts) → All P locals → find (is_of var) locals ≡ Some l → P l
found_in P var [] l all is = cc
found_in P var (x ∷ xs) l all is =
    found_all_at P var x (find (is_of var) xs) l (is_of var x) refl (All-head P x xs all) (found_in P var xs l (All-tail P x xs all)) is

-- what holds of the facts of each local holds of those that are found
pub found_all : (P : Facts → Type 0) (m : FlowModel) (var : LocalId) (l : Facts) → All P m.locals → facts_of m var ≡ Some l → P l
found_all P m var l = found_in P var m.locals l
