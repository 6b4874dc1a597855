-- Which facts of a point tell at least as much as which.
use Rattle.std.proofs.Common.{◌≡◌, ℕ, ◌<◌, Bool, true, false, List, length, Option, Some, None, refl, sym, ◌∙◌, subst, arith, IsTrue}
use Rattle.dart_types.specs.Ty.{Ty}
use Rattle.dart_types.specs.SubTest.{sub}
use Rattle.flow_model.specs.Flow.{FlowModel, facts_of, current_of}
use Rattle.flow_model.specs.Order.{Implies, SaysMore}
use Rattle.flow_model.specs.declared.locals.Facts.{Facts}
use Rattle.flow_model.specs.declared.locals.LocalId.{LocalId}
use Rattle.core_ir.specs.PointFacts.{PointFacts}
use Rattle.core_ir.specs.Values.{declared_at}
use Rattle.core_ir.specs.declared.facts.Known.{Known}
use Rattle.core_ir.specs.declared.points.SlotId.{SlotId}
use Rattle.core_check.specs.Known.{known_of, unlisted, held_type}
use Rattle.core_check.specs.Accepted.{SlotImplies}
use Rattle.elaborate.specs.Known.{known_of_local, own_held, facts}
use Rattle.elaborate.proofs.Given.{Setting, Laws}
use Rattle.elaborate.proofs.SlotFacts.{holds, value_known, slot_known, local_at}
use Rattle.elaborate.proofs.Chains.{sub_itself, sub_through, narrower, last_below}
use Rattle.elaborate.proofs.Standing.{AreValues, Standing, found_of, known_here, known_plain, none_of_value, own_typed, own_unshared, value_slot}

-- the first facts tell at least as much as the second: the second may be reached where the first may, and of each slot more is known
pub record Tells (c : Setting) (f f' : PointFacts) : Type 0 where
  pub reached : IsTrue f.reachable → IsTrue f'.reachable
  pub slots : IsTrue f.reachable → (i : ℕ) → i < length c.g.slots → SlotImplies c.rows.table (declared_at c.g i) (known_of f i) (known_of f' i)

module _ (c : Setting) (laws : Laws c) where
  -- what is known implies itself
  pub implies_itself : (declared : Ty) (k : Known) → SlotImplies c.rows.table declared k k
  implies_itself declared k = record { assigned = λ h. h; narrower = sub_itself c laws (held_type declared k.held); shared = λ h. h }

  -- and what is implied by what it implies
  pub implies_through : (declared : Ty) (k l m : Known) → SlotImplies c.rows.table declared k l → SlotImplies c.rows.table declared l m → SlotImplies c.rows.table declared k m
  implies_through declared k l m first second = record {
    assigned = λ is. first.assigned (second.assigned is);
    narrower = sub_through c laws (held_type declared k.held) (held_type declared l.held) (held_type declared m.held) first.narrower second.narrower;
    shared = λ is. second.shared (first.shared is);
  }

  pub tells_itself : (f : PointFacts) → Tells c f f
  tells_itself f = record { reached = λ h. h; slots = λ h i lt. implies_itself (declared_at c.g i) (known_of f i) }

  pub tells_through : (f f' f'' : PointFacts) → Tells c f f' → Tells c f' f'' → Tells c f f''
  tells_through f f' f'' first second = record {
    reached = λ h. second.reached (first.reached h);
    slots = λ h i lt. implies_through (declared_at c.g i) (known_of f i) (known_of f' i) (known_of f'' i) (first.slots h i lt) (second.slots (first.reached h) i lt);
  }

  -- what is known of a local has a narrower type than the declared one, and isn't shared
  module _ (a : FlowModel) (stands : Standing c a) where
    slot_implies_unlisted : (i : ℕ) (found : Option Facts) → facts_of a (local_at c.x i) ≡ found → (held : Bool)
        → SlotImplies c.rows.table (declared_at c.g i) (slot_known found held) unlisted
    slot_implies_unlisted i found is true = record { assigned = λ h. absurd cc; narrower = sub_itself c laws (declared_at c.g i); shared = λ h. absurd cc }
    slot_implies_unlisted i None is false = implies_itself (declared_at c.g i) unlisted
    slot_implies_unlisted i (Some l) is false =
        let found = found_of c a (local_at c.x i) l stands is in
        let typed : declared_at c.g i ≡ l.ty = subst (λ (n : ℕ). declared_at c.g n ≡ l.ty) (omega arith) found.slot.typed in
        let below : IsTrue (sub c.rows.table (current_of l) l.ty) = laws.types.sub_complete (current_of l) l.ty (last_below c laws l.ty l.chain found.descends) in
        subst (λ (k : Known). SlotImplies c.rows.table (declared_at c.g i) k unlisted) (sym (known_plain l found.plain))
        (record {
          assigned = λ h. absurd cc;
          narrower = subst (λ (t : Ty). IsTrue (sub c.rows.table t (declared_at c.g i))) (sym (own_typed (declared_at c.g i) l typed)) (subst (λ (t : Ty). IsTrue (sub c.rows.table (current_of l) t)) (sym typed) below);
          shared = λ h. absurd (let quiet = own_unshared l in cc);
        })

  -- a local of which more is said
  local_implies : (a : FlowModel) → Standing c a → (declared : Ty) (var : LocalId) (l m : Facts) → facts_of a var ≡ Some l → SaysMore l m
      → declared ≡ m.ty
      → known_of_local m ≡ record { assigned = m.assigned; held = own_held m }
      → SlotImplies c.rows.table declared (known_of_local l) (known_of_local m)
  local_implies a stands declared var l m is more typed known =
      let found = found_of c a var l stands is in
      let below : IsTrue (sub c.rows.table (current_of l) (current_of m)) = laws.types.sub_complete (current_of l) (current_of m) (narrower c laws l m found.descends more) in
      subst (λ (k : Known). SlotImplies c.rows.table declared k (known_of_local m)) (sym (known_plain l found.plain))
      (subst (λ (k : Known). SlotImplies c.rows.table declared (let j : Known = record { assigned = l.assigned; held = own_held l } in j) k) (sym known)
      (record {
        assigned = more.assigned;
        narrower = subst (λ (t : Ty). IsTrue (sub c.rows.table t (held_type declared (own_held m)))) (sym (own_typed declared l (typed ∙ sym more.declared)))
            (subst (λ (t : Ty). IsTrue (sub c.rows.table (current_of l) t)) (sym (own_typed declared m typed)) below);
        shared = λ h. absurd (let quiet = own_unshared l in cc);
      }))

  module _ (a b : FlowModel) (from : Standing c a) (to : Standing c b) (implies : Implies a b) (reached : IsTrue a.reachable) where
    -- of a slot that no expression has
    unheld_implies : (i : ℕ) (found : Option Facts) → facts_of b (local_at c.x i) ≡ found
        → SlotImplies c.rows.table (declared_at c.g i) (slot_known (facts_of a (local_at c.x i)) false) (slot_known found false)
    unheld_implies i None is = slot_implies_unlisted a from i (facts_of a (local_at c.x i)) refl false
    unheld_implies i (Some m) is =
        let knows = implies.locals reached (local_at c.x i) m is in
        let found = found_of c b (local_at c.x i) m to is in
        subst (λ (o : Option Facts). SlotImplies c.rows.table (declared_at c.g i) (slot_known o false) (known_of_local m)) (sym knows.known)
        (local_implies a from (declared_at c.g i) (local_at c.x i) knows.facts m knows.known knows.says_more
        (subst (λ (n : ℕ). declared_at c.g n ≡ m.ty) (omega arith) found.slot.typed)
        (known_plain m found.plain))

    -- of a slot, where fewer values are held after than before
    slot_implies : (values values' : List SlotId) → AreValues c values → (i : ℕ) (held held' : Bool) → holds values i ≡ held → holds values' i ≡ held'
        → (held' ≡ true → held ≡ true)
        → SlotImplies c.rows.table (declared_at c.g i) (slot_known (facts_of a (local_at c.x i)) held) (slot_known (facts_of b (local_at c.x i)) held')
    slot_implies values values' are i held true is is' fewer =
        subst (λ (h : Bool). SlotImplies c.rows.table (declared_at c.g i) (slot_known (facts_of a (local_at c.x i)) h) value_known) (sym (fewer refl)) (implies_itself (declared_at c.g i) value_known)
    slot_implies values values' are i true false is is' fewer =
        let none = none_of_value c laws b to i (value_slot c values i are is) in
        subst (λ (o : Option Facts). SlotImplies c.rows.table (declared_at c.g i) value_known (slot_known o false)) (sym none) (slot_implies_unlisted a from i (facts_of a (local_at c.x i)) refl true)
    slot_implies values values' are i false false is is' fewer = unheld_implies i (facts_of b (local_at c.x i)) refl

  -- the facts of a model tell those of one that it implies, where no more values are held
  pub facts_tell : (a b : FlowModel) (values values' : List SlotId) → Standing c a → Standing c b → Implies a b → AreValues c values
      → ((i : ℕ) → holds values' i ≡ true → holds values i ≡ true) → Tells c (facts c.x a values) (facts c.x b values')
  facts_tell a b values values' from to implies are fewer = record {
    reached = implies.reached;
    slots = λ h i lt.
        subst (λ (k : Known). SlotImplies c.rows.table (declared_at c.g i) k (known_of (facts c.x b values') i)) (sym (known_here c laws a from values i))
        (subst (λ (k : Known). SlotImplies c.rows.table (declared_at c.g i) (slot_known (facts_of a (local_at c.x i)) (holds values i)) k) (sym (known_here c laws b to values' i))
        (slot_implies a b from to implies h values values' are i (holds values i) (holds values' i) refl refl (fewer i)));
  }
