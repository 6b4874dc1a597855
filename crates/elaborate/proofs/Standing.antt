-- Flow models whose locals have slots, and what is known of slots there.
use Rattle.std.proofs.Common.{◌≡◌, ℕ, ◌+◌, ◌-◌, ◌<◌, ◌≤◌, Bool, true, false, cond, nat_eq, map, List, [], ◌∷◌, length, Option, Some, None, refl, sym, ap, ◌∙◌, subst, arith, inl, inr}
use Rattle.std.specs.Prelude.{All, find}
use Rattle.std.specs.List.{list_any}
use Rattle.std.proofs.lemmas.Bool.{or_cases}
use Rattle.std.proofs.lemmas.Bool.Decides.{nat_tests}
use Rattle.std.proofs.lemmas.List.Elements.{All-head, All-tail, All-cons, All-nil}
use Rattle.dart_types.specs.Ty.{Ty}
use Rattle.flow_model.specs.Flow.{FlowModel, is_of, facts_of, current_of, last_or}
use Rattle.flow_model.specs.Join.{HaveSameScope, scope_of}
use Rattle.flow_model.specs.Chains.{HasDescendingChain}
use Rattle.flow_model.specs.declared.locals.Facts.{Facts}
use Rattle.flow_model.specs.declared.locals.LocalId.{LocalId}
use Rattle.judgement.specs.NodeFacts.{NodeFacts}
use Rattle.rule_laws.specs.Keys.{declared_number}
use Rattle.rule_laws.specs.Plain.{IsPlain, IsPlainLocal}
use Rattle.core_ir.specs.Values.{declared_at}
use Rattle.core_ir.specs.declared.facts.Held.TheVariants.{Declared, Own, Shared}
use Rattle.core_ir.specs.declared.facts.Known.{Known}
use Rattle.core_ir.specs.declared.points.SlotId.{SlotId}
use Rattle.core_check.specs.Known.{known_of, held_type, is_shared}
use Rattle.elaborate.specs.Known.{is_promoted, known_of_local, own_held, facts}
use Rattle.elaborate.proofs.Given.{Setting, Laws}
use Rattle.elaborate.proofs.SlotFacts.{holds, slot_known, local_at, AreFrom, known_at}

-- a number is that of a name that some node declares
abbrev pub is_declared : List NodeFacts → ℕ → Bool
is_declared typed n = list_any (λ said. list_any (nat_eq n) (declared_number said)) typed

-- the number of a local that has a slot of its type
pub record IsSlotOf (c : Setting) (n : ℕ) (ty : Ty) : Type 0 where
  pub from : c.x.first ≤ n
  pub inside : n - c.x.first < length c.g.slots
  pub typed : declared_at c.g (n - c.x.first) ≡ ty
  pub named : is_declared c.x.typed n ≡ true

-- each local in scope has one
abbrev pub HasSlots : Setting → List (LocalId × Ty) → Type 0
HasSlots c scope = All (λ (local : LocalId × Ty). IsSlotOf c local.0.0 local.1) scope

-- a plain model whose locals have slots
pub record Standing (c : Setting) (m : FlowModel) : Type 0 where
  pub plain : IsPlain c.rows.table m
  pub slots : HasSlots c (scope_of m)

-- the slot with the number i is one of an expression: no local has it
pub record IsValueSlot (c : Setting) (i : ℕ) : Type 0 where
  pub inside : i < length c.g.slots
  pub unnamed : is_declared c.x.typed (i + c.x.first) ≡ false

-- so are all of these
abbrev pub AreValues : Setting → List SlotId → Type 0
AreValues c values = All (λ (slot : SlotId). IsValueSlot c slot.0) values

-- a slot among them is one
pub value_slot : (c : Setting) (values : List SlotId) (i : ℕ) → AreValues c values → holds values i ≡ true → IsValueSlot c i
value_slot c [] i are here = absurd cc
value_slot c (slot ∷ slots) i are here = elim (or_cases (nat_eq slot.0 i) (holds slots i) here) [
  | inl same ↦ (let is : slot.0 ≡ i = grind (arith, nat_tests) in subst (IsValueSlot c) is (All-head (λ (s : SlotId). IsValueSlot c s.0) slot slots are))
  | inr behind ↦ value_slot c slots i (All-tail (λ (s : SlotId). IsValueSlot c s.0) slot slots are) behind
]

-- what is found among some that all have a property has it, and passes the test
module _ {X : Type 0} (P : X → Type 0) (p : X → Bool) where
  found_at : (x : X) (xs : List X) (y : X) (b : Bool) → p x ≡ b → P x → (find p xs ≡ Some y → P y × (p y ≡ true)) → cond b (Some x) (find p xs) ≡ Some y → P y × (p y ≡ true)
  found_at x xs y true e here rest is = let same : x ≡ y = cc in (subst P same here, subst (λ z. p z ≡ true) same e)
  found_at x xs y false e here rest is = rest is

  pub found_has : (xs : List X) (y : X) → All P xs → find p xs ≡ Some y → P y × (p y ≡ true)
  found_has [] y all is = absurd cc
  found_has (x ∷ xs) y all is =
      found_at x xs y (p x) refl (All-head P x xs all) (found_has xs y (All-tail P x xs all)) is

-- the locals stand from the first number on
scope_from : (c : Setting) (locals : List Facts) → HasSlots c (map (λ l. (l.var, l.ty)) locals) → AreFrom c.x.first locals
scope_from c [] slots = All-nil (λ (l : Facts). c.x.first ≤ l.var.0)
scope_from c (l ∷ locals) slots =
    All-cons (λ (k : Facts). c.x.first ≤ k.var.0) l locals
    (All-head (λ (local : LocalId × Ty). IsSlotOf c local.0.0 local.1) (l.var, l.ty) (map (λ k. (k.var, k.ty)) locals) slots).from
    (scope_from c locals (All-tail (λ (local : LocalId × Ty). IsSlotOf c local.0.0 local.1) (l.var, l.ty) (map (λ k. (k.var, k.ty)) locals) slots))

-- each local has a slot of its type
scope_each : (c : Setting) (locals : List Facts) → HasSlots c (map (λ l. (l.var, l.ty)) locals) → All (λ (l : Facts). IsSlotOf c l.var.0 l.ty) locals
scope_each c [] slots = All-nil (λ (l : Facts). IsSlotOf c l.var.0 l.ty)
scope_each c (l ∷ locals) slots =
    All-cons (λ (k : Facts). IsSlotOf c k.var.0 k.ty) l locals
    (All-head (λ (local : LocalId × Ty). IsSlotOf c local.0.0 local.1) (l.var, l.ty) (map (λ k. (k.var, k.ty)) locals) slots)
    (scope_each c locals (All-tail (λ (local : LocalId × Ty). IsSlotOf c local.0.0 local.1) (l.var, l.ty) (map (λ k. (k.var, k.ty)) locals) slots))

-- what is found of a local
pub record Found (c : Setting) (var : LocalId) (l : Facts) : Type 0 where
  pub plain : IsPlainLocal l
  pub descends : HasDescendingChain c.rows.table l
  pub slot : IsSlotOf c var.0 l.ty

pub found_of : (c : Setting) (m : FlowModel) (var : LocalId) (l : Facts) → Standing c m → facts_of m var ≡ Some l → Found c var l
found_of c m var l stands is =
    let own = found_has (λ (k : Facts). IsSlotOf c k.var.0 k.ty) (is_of var) m.locals l (scope_each c m.locals stands.slots) is in
    let same : l.var.0 ≡ var.0 = let passes : nat_eq l.var.0 var.0 ≡ true = own.1 in grind (arith, nat_tests) in
    record {
      plain = (found_has IsPlainLocal (is_of var) m.locals l stands.plain.plain is).0;
      descends = (found_has (HasDescendingChain c.rows.table) (is_of var) m.locals l stands.plain.descending is).0;
      slot = subst (λ n. IsSlotOf c n l.ty) same own.0;
    }

-- a model of the same scope has its slots
pub same_slots : (c : Setting) (a m : FlowModel) → HaveSameScope a m → HasSlots c (scope_of m) → HasSlots c (scope_of a)
same_slots c a m same slots = subst (HasSlots c) (sym same) slots

-- what is known of a plain local
pub known_plain : (l : Facts) → IsPlainLocal l → known_of_local l ≡ record { assigned = l.assigned; held = own_held l }
known_plain l plain = ap (λ b. let k : Known = record { assigned = l.assigned; held = cond b Shared (own_held l) } in k) plain.own

-- its value has its current type, where its slot has its declared one
pub own_typed : (declared : Ty) (l : Facts) → declared ≡ l.ty → held_type declared (own_held l) ≡ current_of l
own_typed declared l typed = ap (λ t. held_type t (own_held l)) typed ∙ at l.ty l.chain
  where
    at : (t : Ty) (chain : List Ty) → held_type t (cond (is_promoted chain) (Own (last_or t chain)) Declared) ≡ last_or t chain
    at t [] = refl
    at t (u ∷ us) = refl

-- and it isn't shared
pub own_unshared : (l : Facts) → is_shared (own_held l) ≡ false
own_unshared l = at (current_of l) l.chain
  where
    at : (t : Ty) (chain : List Ty) → is_shared (cond (is_promoted chain) (Own t) Declared) ≡ false
    at t [] = refl
    at t (u ∷ us) = refl

module _ (c : Setting) (laws : Laws c) (m : FlowModel) (stands : Standing c m) where
  -- what is known of a slot
  pub known_here : (values : List SlotId) (i : ℕ) → known_of (facts c.x m values) i ≡ slot_known (facts_of m (local_at c.x i)) (holds values i)
  known_here values i = known_at c laws m values i stands.plain.in_order (scope_from c m.locals stands.slots)

  -- no local has the slot of an expression
  pub none_of_value : (i : ℕ) → IsValueSlot c i → facts_of m (local_at c.x i) ≡ None
  none_of_value i value = at (facts_of m (local_at c.x i)) refl
    where
      at : (found : Option Facts) → facts_of m (local_at c.x i) ≡ found → found ≡ None
      at None is = refl
      at (Some l) is = absurd (let named = (found_of c m (local_at c.x i) l stands is).slot.named in let unnamed = value.unnamed in cc)
