-- What is known at points whose facts come from flow models: operands that have values, and slots that are given some.
use Rattle.std.proofs.Common.{◌≡◌, ◌≢◌, ℕ, ◌+◌, ◌<◌, Bool, true, false, ◌||◌, nat_eq, List, [], ◌∷◌, ◌++◌, length, Option, Some, None, refl, sym, ap, ◌∙◌, subst, arith, IsTrue, inl, inr}
use Rattle.std.specs.Prelude.{All}
use Rattle.std.proofs.lemmas.Bool.{or_cases, or_left, or_right, ne_eqb, eq-eqb}
use Rattle.std.proofs.lemmas.List.Elements.{All-head, All-tail, All-cons, All-nil}
use Rattle.dart_types.specs.Ty.{Ty}
use Rattle.dart_types.specs.Same.{same_type}
use Rattle.dart_types.specs.Sub.{Sub}
use Rattle.dart_types.specs.SubTest.{sub}
use Rattle.flow_model.specs.Flow.{FlowModel, facts_of, current_of}
use Rattle.flow_model.specs.Assign.{assign_facts}
use Rattle.flow_model.specs.TypeTests.{is_in}
use Rattle.flow_model.specs.declared.locals.Facts.{Facts}
use Rattle.flow_model.specs.declared.locals.LocalId.{LocalId}
use Rattle.core_ir.specs.Values.{declared_at}
use Rattle.core_ir.specs.declared.facts.Held.TheVariants.{Own}
use Rattle.core_ir.specs.declared.facts.Known.{Known}
use Rattle.core_ir.specs.declared.points.Operand.TheVariants.{Slot}
use Rattle.core_ir.specs.declared.points.SlotId.{SlotId}
use Rattle.core_check.specs.Accepted.{SlotImplies}
use Rattle.core_check.specs.Known.{known_of, is_shared, held_type, unlisted}
use Rattle.elaborate.specs.Sources.{slot_of_local}
use Rattle.elaborate.specs.Known.{own_held, facts}
use Rattle.elaborate.proofs.Given.{Setting, Laws}
use Rattle.elaborate.proofs.SlotFacts.{holds, holds-more, value_known, slot_known, local_at}
use Rattle.elaborate.proofs.Chains.{last_among}
use Rattle.elaborate.proofs.Standing.{AreValues, IsSlotOf, IsValueSlot, Standing, found_of, known_here, known_plain, own_typed, own_unshared, value_slot}
use Rattle.elaborate.proofs.Tells.{facts_tell, implies_itself}
use Rattle.elaborate.proofs.Leaves.{Given, Has, IsUnshared}

-- what all of a list have has each that is found in it
pub all_in : (c : Setting) (laws : Laws c) (P : Ty → Type 0) (types : List Ty) (t : Ty) → All P types → is_in types t ≡ true → P t
all_in c laws P [] t all here = absurd cc
all_in c laws P (u ∷ us) t all here = elim (or_cases (same_type t u) (is_in us t) here) [
  | inl same ↦ subst P (sym (laws.types.types.equal_from_same_type t u same)) (All-head P u us all)
  | inr behind ↦ all_in c laws P us t (All-tail P u us all) behind
]

-- a value that is held is among the values that are
pub held_last : (values : List SlotId) (slot : SlotId) → holds (values ++ slot ∷ []) slot.0 ≡ true
held_last values slot = holds-more values slot slot.0 ∙ or_right (holds values slot.0) (nat_eq slot.0 slot.0) (eq-eqb slot.0 slot.0 refl)

-- values that were held before still are
pub held_before : (values : List SlotId) (slot : SlotId) (i : ℕ) → holds values i ≡ true → holds (values ++ slot ∷ []) i ≡ true
held_before values slot i here = holds-more values slot i ∙ or_left (holds values i) (nat_eq slot.0 i) here

-- and those that weren't aren't
pub held_other : (values : List SlotId) (slot : SlotId) (i : ℕ) → i ≢ slot.0 → holds (values ++ slot ∷ []) i ≡ holds values i
held_other values slot i other = holds-more values slot i ∙ ap (λ b. holds values i || b) (ne_eqb slot.0 i (λ e. other (sym e))) ∙ same (holds values i)
  where
    same : (b : Bool) → (b || false) ≡ b
    same true = refl
    same false = refl

-- one more of them
pub values_more : (c : Setting) (values : List SlotId) (slot : SlotId) → AreValues c values → IsValueSlot c slot.0 → AreValues c (values ++ slot ∷ [])
values_more c [] slot are value = All-cons (λ (s : SlotId). IsValueSlot c s.0) slot [] value (All-nil (λ (s : SlotId). IsValueSlot c s.0))
values_more c (s ∷ values) slot are value =
    All-cons (λ (s : SlotId). IsValueSlot c s.0) s (values ++ slot ∷ []) (All-head (λ (s : SlotId). IsValueSlot c s.0) s values are)
    (values_more c values slot (All-tail (λ (s : SlotId). IsValueSlot c s.0) s values are) value)

module _ (c : Setting) (laws : Laws c) (m : FlowModel) (stands : Standing c m) (values : List SlotId) (are : AreValues c values) where
  -- no slot is shared
  pub unshared : IsUnshared (facts c.x m values)
  unshared i = ap (λ (k : Known). is_shared k.held) (known_here c laws m stands values i) ∙ at (holds values i) (facts_of m (local_at c.x i)) refl
    where
      at : (held : Bool) (found : Option Facts) → facts_of m (local_at c.x i) ≡ found → is_shared (slot_known found held).held ≡ false
      at true found is = refl
      at false None is = refl
      at false (Some l) is = ap (λ (k : Known). is_shared k.held) (known_plain l (found_of c m (local_at c.x i) l stands is).plain) ∙ own_unshared l

  -- a value that is held is one of its slot's type
  pub has_value : (slot : SlotId) (ty : Ty) → holds values slot.0 ≡ true → declared_at c.g slot.0 ≡ ty → Has c (facts c.x m values) (Slot slot) ty
  has_value slot ty here typed =
      let known : known_of (facts c.x m values) slot.0 ≡ value_known = known_here c laws m stands values slot.0 ∙ ap (slot_known (facts_of m (local_at c.x slot.0))) here in
      record {
        assigned = ap (λ (k : Known). k.assigned) known;
        typed = ap (λ (k : Known). held_type (declared_at c.g slot.0) k.held) known ∙ typed;
      }

  -- no local's slot is one of a value that is held
  pub not_held : (var : LocalId) (ty : Ty) → IsSlotOf c var.0 ty → holds values (slot_of_local c.x var).0 ≡ false
  not_held var ty slot = at (holds values (slot_of_local c.x var).0) refl
    where
      at : (held : Bool) → holds values (slot_of_local c.x var).0 ≡ held → held ≡ false
      at true is =
          absurd (let unnamed = (value_slot c values (slot_of_local c.x var).0 are is).unnamed in
          let from = slot.from in
          let same : (slot_of_local c.x var).0 + c.x.first ≡ var.0 = omega arith in
          let named = slot.named in cc)
      at false is = refl

  -- what is known of a local's slot is what is known of the local
  pub known_local : (var : LocalId) (l : Facts) → facts_of m var ≡ Some l → known_of (facts c.x m values) (slot_of_local c.x var).0 ≡ record { assigned = l.assigned; held = own_held l }
  known_local var l is =
      let found = found_of c m var l stands is in
      let from = found.slot.from in
      let same : local_at c.x (slot_of_local c.x var).0 ≡ var = ap (λ (n : ℕ). let v : LocalId = record { 0 = n } in v) (omega arith) in
      known_here c laws m stands values (slot_of_local c.x var).0
      ∙ ap (slot_known (facts_of m (local_at c.x (slot_of_local c.x var).0))) (not_held var l.ty found.slot)
      ∙ ap (λ (v : LocalId). slot_known (facts_of m v) false) same
      ∙ ap (λ o. slot_known o false) is
      ∙ known_plain l found.plain

  -- a local that is assigned has a value of its current type
  pub has_local : (var : LocalId) (l : Facts) → facts_of m var ≡ Some l → l.assigned ≡ true → Has c (facts c.x m values) (Slot (slot_of_local c.x var)) (current_of l)
  has_local var l is assigned = record {
    assigned = ap (λ (k : Known). k.assigned) (known_local var l is) ∙ assigned;
    typed = ap (λ (k : Known). held_type (declared_at c.g (slot_of_local c.x var).0) k.held) (known_local var l is) ∙ own_typed (declared_at c.g (slot_of_local c.x var).0) l (found_of c m var l stands is).slot.typed;
  }

-- a value is put into a slot of an expression, where it is held
module _ (c : Setting) (laws : Laws c) (m : FlowModel) (stands : Standing c m) (values values' : List SlotId) (are : AreValues c values) (fewer : (i : ℕ) → holds values' i ≡ true → holds values i ≡ true) (reached : IsTrue m.reachable) where
  pub gives_value : (slot : SlotId) (ty : Ty) → IsValueSlot c slot.0 → declared_at c.g slot.0 ≡ ty
      → (unshared' : IsUnshared (facts c.x m values)) → Given c laws (facts c.x m values) (facts c.x m (values' ++ slot ∷ [])) unshared' reached slot ty
  gives_value slot ty value typed unshared' =
      let fits : IsTrue (sub c.rows.table ty (declared_at c.g slot.0)) = subst (λ t. IsTrue (sub c.rows.table ty t)) (sym typed) (itself ty) in
      let known : known_of (facts c.x m (values' ++ slot ∷ [])) slot.0 ≡ value_known =
      known_here c laws m stands (values' ++ slot ∷ []) slot.0 ∙ ap (slot_known (facts_of m (local_at c.x slot.0))) (held_last values' slot) in
      record {
        fits = fits;
        here = subst (λ (k : Known). SlotImplies c.rows.table (declared_at c.g slot.0) (record { assigned = true; held = Own ty }) k) (sym known)
            (record { assigned = λ h. refl; narrower = fits; shared = λ h. absurd cc });
        others = λ i lt other.
            let same : known_of (facts c.x m (values' ++ slot ∷ [])) i ≡ known_of (facts c.x m values') i =
            known_here c laws m stands (values' ++ slot ∷ []) i ∙ ap (slot_known (facts_of m (local_at c.x i))) (held_other values' slot i other) ∙ sym (known_here c laws m stands values' i) in
            subst (λ (k : Known). SlotImplies c.rows.table (declared_at c.g i) (known_of (facts c.x m values) i) k) (sym same)
            ((facts_tell c laws m m values values' stands stands (laws.reflexive m) are fewer).slots reached i lt);
      }
    where
      itself : (t : Ty) → IsTrue (sub c.rows.table t t)
      itself t = (implies_itself c laws t unlisted).narrower

-- a local changes, and no other
module _ (c : Setting) (laws : Laws c) (m m' : FlowModel) (stands : Standing c m) (stands' : Standing c m') (values values' : List SlotId) (are : AreValues c values) (are' : AreValues c values')
    (fewer : (i : ℕ) → holds values' i ≡ true → holds values i ≡ true) (reached : IsTrue m.reachable) (var : LocalId) (l : Facts) (is : facts_of m' var ≡ Some l)
    (same : (other : LocalId) → other.0 ≢ var.0 → facts_of m' other ≡ facts_of m other)
  where
    pub others_stay : (i : ℕ) → i < length c.g.slots → i ≢ (slot_of_local c.x var).0 → SlotImplies c.rows.table (declared_at c.g i) (known_of (facts c.x m values) i) (known_of (facts c.x m' values') i)
    others_stay i lt other =
        let from = (found_of c m' var l stands' is).slot.from in
        let apart : (local_at c.x i).0 ≢ var.0 = λ e. other (omega arith) in
        let stays : known_of (facts c.x m' values') i ≡ known_of (facts c.x m values') i =
        known_here c laws m' stands' values' i ∙ ap (λ o. slot_known o (holds values' i)) (same (local_at c.x i) apart) ∙ sym (known_here c laws m stands values' i) in
        subst (λ (k : Known). SlotImplies c.rows.table (declared_at c.g i) (known_of (facts c.x m values) i) k) (sym stays)
        ((facts_tell c laws m m values values' stands stands (laws.reflexive m) are fewer).slots reached i lt)

    -- it is given a value of a type
    pub gives_local : (ty : Ty) → IsTrue (sub c.rows.table ty l.ty) → IsTrue (sub c.rows.table ty (current_of l)) → l.assigned ≡ true
        → (unshared' : IsUnshared (facts c.x m values)) (reached' : IsTrue m'.reachable) → Given c laws (facts c.x m values) (facts c.x m' values') unshared' reached' (slot_of_local c.x var) ty
    gives_local ty fits narrow assigned unshared' reached' =
        let found = found_of c m' var l stands' is in
        record {
          fits = subst (λ t. IsTrue (sub c.rows.table ty t)) (sym found.slot.typed) fits;
          here = subst (λ (k : Known). SlotImplies c.rows.table (declared_at c.g (slot_of_local c.x var).0) (record { assigned = true; held = Own ty }) k) (sym (known_local c laws m' stands' values' are' var l is))
              (record {
                assigned = λ h. refl;
                narrower = subst (λ t. IsTrue (sub c.rows.table ty t)) (sym (own_typed (declared_at c.g (slot_of_local c.x var).0) l found.slot.typed)) narrow;
                shared = λ h. absurd cc;
              });
          others = others_stay;
        }

    -- it is declared without one
    pub leaves_unset : l.assigned ≡ false → current_of l ≡ l.ty → SlotImplies c.rows.table (declared_at c.g (slot_of_local c.x var).0) unlisted (known_of (facts c.x m' values') (slot_of_local c.x var).0)
    leaves_unset unset whole =
        let found = found_of c m' var l stands' is in
        let typed : declared_at c.g (slot_of_local c.x var).0 ≡ held_type (declared_at c.g (slot_of_local c.x var).0) (own_held l) =
        found.slot.typed ∙ sym whole ∙ sym (own_typed (declared_at c.g (slot_of_local c.x var).0) l found.slot.typed) in
        subst (λ (k : Known). SlotImplies c.rows.table (declared_at c.g (slot_of_local c.x var).0) unlisted k) (sym (known_local c laws m' stands' values' are' var l is))
        (record { assigned = λ h. absurd cc; narrower = subst (λ t. IsTrue (sub c.rows.table (declared_at c.g (slot_of_local c.x var).0) t)) typed ((implies_itself c laws (declared_at c.g (slot_of_local c.x var).0) unlisted).narrower); shared = λ h. absurd cc })

-- a local that was written has a type of which the written one is a subtype
pub written_fits : (c : Setting) (laws : Laws c) (ty : Ty) (l : Facts) → IsTrue (sub c.rows.table ty l.ty) → IsTrue (sub c.rows.table ty (current_of (assign_facts c.rows.table ty l)))
written_fits c laws ty l fits = elim (last_among c laws l.ty (assign_facts c.rows.table ty l).chain) [
  | inl same ↦ subst (λ t. IsTrue (sub c.rows.table ty t)) (sym same) fits
  | inr among ↦ laws.types.sub_complete ty (current_of (assign_facts c.rows.table ty l)) (all_in c laws (λ (t : Ty). Sub c.rows.table ty t) (assign_facts c.rows.table ty l).chain (current_of (assign_facts c.rows.table ty l)) (laws.written ty l) among)
]
