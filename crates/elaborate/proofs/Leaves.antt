-- What steps lead to: values that are held, locals that are written and declared, output.
use Rattle.std.proofs.Common.{◌≡◌, ◌≢◌, ℕ, ◌<◌, true, false, cond, [], ◌∷◌, length, refl, sym, ap, ◌∙◌, subst, IsTrue, inl, inr}
use Rattle.std.specs.Prelude.{All}
use Rattle.std.proofs.lemmas.Bool.{cases_eq, ne_eqb, eq-eqb}
use Rattle.std.proofs.lemmas.List.Elements.{All-cons, All-nil}
use Rattle.dart_types.specs.Ty.{Ty}
use Rattle.dart_types.specs.SubTest.{sub}
use Rattle.core_ir.specs.PointFacts.{PointFacts}
use Rattle.core_ir.specs.Program.{Program}
use Rattle.core_ir.specs.Values.{declared_at, int, bool}
use Rattle.core_ir.specs.declared.facts.Held.TheVariants.{Own}
use Rattle.core_ir.specs.declared.facts.Known.{Known}
use Rattle.core_ir.specs.declared.points.Operand.{Operand}
use Rattle.core_ir.specs.declared.points.PointId.{PointId}
use Rattle.core_ir.specs.declared.points.SlotId.{SlotId}
use Rattle.core_check.specs.Accepted.{SlotImplies, Leads, IsReadable, FitsDeclared, FitsAsked}
use Rattle.core_check.specs.Known.{known_of, is_shared, is_assigned, operand_type, unlisted}
use Rattle.core_check.specs.Shapes.{asks_of, holds as now_holds, is_fresh, puts, way}
use Rattle.core_check.specs.Types.{held_as, known_on, type_from, changed}
use Rattle.core_check.specs.declared.parts.How.TheVariants.{Fresh, Holds}
use Rattle.core_check.specs.declared.parts.TypeSource.{TypeSource}
use Rattle.core_check.specs.declared.parts.TypeSource.TheVariants.{IntType, BoolType, OperandType}
use Rattle.core_emit.specs.declared.steps.Step.TheVariants as step
use Rattle.core_emit.specs.Emitted.{StepLeads}
use Rattle.elaborate.proofs.Given.{Setting, Laws}
use Rattle.elaborate.proofs.Tells.{Tells}
use Rattle.elaborate.proofs.Claims.{Ways, leads_to}

-- lists of one and of two
pub all_one : {X : Type 0} (P : X → Type 0) (x : X) → P x → All P (x ∷ [])
all_one P x h = All-cons P x [] h (All-nil P)

pub all_two : {X : Type 0} (P : X → Type 0) (x y : X) → P x → P y → All P (x ∷ y ∷ [])
all_two P x y h k = All-cons P x (y ∷ []) h (all_one P y k)

-- no slot is shared
abbrev pub IsUnshared : PointFacts → Type 0
IsUnshared f = (i : ℕ) → is_shared (known_of f i).held ≡ false

-- an operand has a value, of this type
pub record Has (c : Setting) (f : PointFacts) (operand : Operand) (ty : Ty) : Type 0 where
  pub assigned : IsTrue (is_assigned f operand)
  pub typed : operand_type c.g f operand ≡ ty

module _ (c : Setting) (laws : Laws c) (f after : PointFacts) (unshared : IsUnshared f) (reached : IsTrue after.reachable) where
  -- what a slot holds that is given a value of a type
  held_own : (i : ℕ) (t : Ty) → held_as (is_shared (known_of f i).held) t ≡ Own t
  held_own i t = ap (λ b. held_as b t) (unshared i)

  -- where one slot is given a value of a type
  pub way_holds : (p : Program) (next : PointId) (to : SlotId) (source : TypeSource) (ty : Ty) → type_from p c.g f source ≡ ty
      → SlotImplies c.rows.table (declared_at c.g to.0) (record { assigned = true; held = Own ty }) (known_of after to.0)
      → ((i : ℕ) → i < length c.g.slots → i ≢ to.0 → SlotImplies c.rows.table (declared_at c.g i) (known_of f i) (known_of after i))
      → Ways c p f (way next (now_holds to source ∷ [])) after
  way_holds p next to source ty typed here others = record {
    reached = reached;
    slots = λ i lt. elim (cases_eq i to.0) [
      | inl same ↦
          (let now : known_on p c.g f (now_holds to source ∷ []) i ≡ record { assigned = true; held = Own ty } =
          ap (λ b. cond b (changed p c.g f (Holds source) (known_of f i)) (known_of f i)) (eq-eqb to.0 i (sym same))
          ∙ ap (λ t. let k : Known = record { assigned = true; held = held_as (is_shared (known_of f i).held) t } in k) typed
          ∙ ap (λ h. let k : Known = record { assigned = true; held = h } in k) (held_own i ty) in
          subst (λ (k : Known). SlotImplies c.rows.table (declared_at c.g i) k (known_of after i)) (sym now)
          (subst (λ (j : ℕ). SlotImplies c.rows.table (declared_at c.g j) (record { assigned = true; held = Own ty }) (known_of after j)) (sym same) here))
      | inr other ↦
          (let now : known_on p c.g f (now_holds to source ∷ []) i ≡ known_of f i =
          ap (λ b. cond b (changed p c.g f (Holds source) (known_of f i)) (known_of f i)) (ne_eqb to.0 i (λ e. other (sym e))) in
          subst (λ (k : Known). SlotImplies c.rows.table (declared_at c.g i) k (known_of after i)) (sym now) (others i lt other))
    ];
  }

  -- where one slot has a fresh cell, and is given a value in it, or isn't
  pub way_fresh_holds : (p : Program) (next : PointId) (to : SlotId) (source : TypeSource) (ty : Ty) → type_from p c.g f source ≡ ty
      → SlotImplies c.rows.table (declared_at c.g to.0) (record { assigned = true; held = Own ty }) (known_of after to.0)
      → ((i : ℕ) → i < length c.g.slots → i ≢ to.0 → SlotImplies c.rows.table (declared_at c.g i) (known_of f i) (known_of after i))
      → Ways c p f (way next (is_fresh to ∷ now_holds to source ∷ [])) after
  way_fresh_holds p next to source ty typed here others = record {
    reached = reached;
    slots = λ i lt. elim (cases_eq i to.0) [
      | inl same ↦
          (let now : known_on p c.g f (is_fresh to ∷ now_holds to source ∷ []) i ≡ record { assigned = true; held = Own ty } =
          ap (λ b. let k = cond b (changed p c.g f Fresh (known_of f i)) (known_of f i) in cond b (changed p c.g f (Holds source) k) k) (eq-eqb to.0 i (sym same))
          ∙ ap (λ t. let k : Known = record { assigned = true; held = Own t } in k) typed in
          subst (λ (k : Known). SlotImplies c.rows.table (declared_at c.g i) k (known_of after i)) (sym now)
          (subst (λ (j : ℕ). SlotImplies c.rows.table (declared_at c.g j) (record { assigned = true; held = Own ty }) (known_of after j)) (sym same) here))
      | inr other ↦
          (let now : known_on p c.g f (is_fresh to ∷ now_holds to source ∷ []) i ≡ known_of f i =
          ap (λ b. let k = cond b (changed p c.g f Fresh (known_of f i)) (known_of f i) in cond b (changed p c.g f (Holds source) k) k) (ne_eqb to.0 i (λ e. other (sym e))) in
          subst (λ (k : Known). SlotImplies c.rows.table (declared_at c.g i) k (known_of after i)) (sym now) (others i lt other))
    ];
  }

  pub way_fresh : (p : Program) (next : PointId) (to : SlotId)
      → SlotImplies c.rows.table (declared_at c.g to.0) unlisted (known_of after to.0)
      → ((i : ℕ) → i < length c.g.slots → i ≢ to.0 → SlotImplies c.rows.table (declared_at c.g i) (known_of f i) (known_of after i))
      → Ways c p f (way next (is_fresh to ∷ [])) after
  way_fresh p next to here others = record {
    reached = reached;
    slots = λ i lt. elim (cases_eq i to.0) [
      | inl same ↦
          (let now : known_on p c.g f (is_fresh to ∷ []) i ≡ unlisted = ap (λ b. cond b (changed p c.g f Fresh (known_of f i)) (known_of f i)) (eq-eqb to.0 i (sym same)) in
          subst (λ (k : Known). SlotImplies c.rows.table (declared_at c.g i) k (known_of after i)) (sym now)
          (subst (λ (j : ℕ). SlotImplies c.rows.table (declared_at c.g j) unlisted (known_of after j)) (sym same) here))
      | inr other ↦
          (let now : known_on p c.g f (is_fresh to ∷ []) i ≡ known_of f i = ap (λ b. cond b (changed p c.g f Fresh (known_of f i)) (known_of f i)) (ne_eqb to.0 i (λ e. other (sym e))) in
          subst (λ (k : Known). SlotImplies c.rows.table (declared_at c.g i) k (known_of after i)) (sym now) (others i lt other))
    ];
  }

  -- where nothing changes
  pub way_straight : (p : Program) (next : PointId) → Tells c f after → IsTrue f.reachable → Ways c p f (way next []) after
  way_straight p next tells here = record { reached = reached; slots = tells.slots here }

module _ (c : Setting) (laws : Laws c) (f after : PointFacts) (unshared : IsUnshared f) (reached : IsTrue after.reachable) where
  -- what is asked of a slot that is given a value of a type, and of the others
  pub record Given (to : SlotId) (ty : Ty) : Type 0 where
    pub fits : IsTrue (sub c.rows.table ty (declared_at c.g to.0))
    pub here : SlotImplies c.rows.table (declared_at c.g to.0) (record { assigned = true; held = Own ty }) (known_of after to.0)
    pub others : (i : ℕ) → i < length c.g.slots → i ≢ to.0 → SlotImplies c.rows.table (declared_at c.g i) (known_of f i) (known_of after i)

  module _ (f' : PointFacts) (tells : Tells c after f') where
    -- an operand's value is stored
    pub store_leads : (to : SlotId) (from : Operand) (ty : Ty) → Has c f from ty → Given to ty → StepLeads c.rows c.g f (step.Store to from) f'
    store_leads to from ty has given p next rows is = record {
      read = all_one (IsReadable f) from has.assigned;
      stored = all_one (FitsDeclared p c.g f) (puts to (OperandType from)) (subst (λ r. IsTrue (sub r.table (operand_type c.g f from) (declared_at c.g to.0))) (sym rows) (subst (λ t. IsTrue (sub c.rows.table t (declared_at c.g to.0))) (sym has.typed) given.fits));
      asked = All-nil (FitsAsked p c.g f);
      leads = all_one (Leads p c.g f) (way next (now_holds to (OperandType from) ∷ [])) (leads_to c laws p f (way next (now_holds to (OperandType from) ∷ [])) after f' rows is (way_holds c laws f after unshared reached p next to (OperandType from) ty has.typed given.here given.others) tells);
    }

    -- a local is declared with it
    pub initialize_leads : (to : SlotId) (from : Operand) (ty : Ty) → Has c f from ty → Given to ty → StepLeads c.rows c.g f (step.Initialize to from) f'
    initialize_leads to from ty has given p next rows is = record {
      read = all_one (IsReadable f) from has.assigned;
      stored = all_one (FitsDeclared p c.g f) (puts to (OperandType from)) (subst (λ r. IsTrue (sub r.table (operand_type c.g f from) (declared_at c.g to.0))) (sym rows) (subst (λ t. IsTrue (sub c.rows.table t (declared_at c.g to.0))) (sym has.typed) given.fits));
      asked = All-nil (FitsAsked p c.g f);
      leads = all_one (Leads p c.g f) (way next (is_fresh to ∷ now_holds to (OperandType from) ∷ [])) (leads_to c laws p f (way next (is_fresh to ∷ now_holds to (OperandType from) ∷ [])) after f' rows is (way_fresh_holds c laws f after unshared reached p next to (OperandType from) ty has.typed given.here given.others) tells);
    }

    -- a local is declared without a value
    pub declare_leads : (to : SlotId)
        → SlotImplies c.rows.table (declared_at c.g to.0) unlisted (known_of after to.0)
        → ((i : ℕ) → i < length c.g.slots → i ≢ to.0 → SlotImplies c.rows.table (declared_at c.g i) (known_of f i) (known_of after i)) → StepLeads c.rows c.g f (step.Declare to) f'
    declare_leads to here others p next rows is = record {
      read = All-nil (IsReadable f);
      stored = All-nil (FitsDeclared p c.g f);
      asked = All-nil (FitsAsked p c.g f);
      leads = all_one (Leads p c.g f) (way next (is_fresh to ∷ [])) (leads_to c laws p f (way next (is_fresh to ∷ [])) after f' rows is (way_fresh c laws f after unshared reached p next to here others) tells);
    }

    -- what is asked of the two sides of an operator of int
    sides : (p : Program) → p.rows ≡ c.rows → (left : Operand) (ty : Ty) → Has c f left ty → IsTrue (sub c.rows.table ty int) → IsTrue (sub p.rows.table (operand_type c.g f left) int)
    sides p rows left ty has fits = subst (λ r. IsTrue (sub r.table (operand_type c.g f left) int)) (sym rows) (subst (λ t. IsTrue (sub c.rows.table t int)) (sym has.typed) fits)

    own_type : (p : Program) → p.rows ≡ c.rows → (to : SlotId) (ty : Ty) → IsTrue (sub c.rows.table ty (declared_at c.g to.0)) → IsTrue (sub p.rows.table ty (declared_at c.g to.0))
    own_type p rows to ty fits = subst (λ r. IsTrue (sub r.table ty (declared_at c.g to.0))) (sym rows) fits

    pub add_leads : (to : SlotId) (left right : Operand) (one other : Ty) → Has c f left one → Has c f right other → IsTrue (sub c.rows.table one int) → IsTrue (sub c.rows.table other int)
        → Given to int → StepLeads c.rows c.g f (step.Add to left right) f'
    add_leads to left right one other l r lf rf given p next rows is = record {
      read = all_two (IsReadable f) left right l.assigned r.assigned;
      stored = all_one (FitsDeclared p c.g f) (puts to IntType) (own_type p rows to int given.fits);
      asked = all_two (FitsAsked p c.g f) (asks_of left IntType) (asks_of right IntType) (sides p rows left one l lf) (sides p rows right other r rf);
      leads = all_one (Leads p c.g f) (way next (now_holds to IntType ∷ [])) (leads_to c laws p f (way next (now_holds to IntType ∷ [])) after f' rows is (way_holds c laws f after unshared reached p next to IntType int refl given.here given.others) tells);
    }

    pub compare_leads : (to : SlotId) (left right : Operand) (one other : Ty) → Has c f left one → Has c f right other → IsTrue (sub c.rows.table one int) → IsTrue (sub c.rows.table other int)
        → Given to bool → StepLeads c.rows c.g f (step.Less to left right) f'
    compare_leads to left right one other l r lf rf given p next rows is = record {
      read = all_two (IsReadable f) left right l.assigned r.assigned;
      stored = all_one (FitsDeclared p c.g f) (puts to BoolType) (own_type p rows to bool given.fits);
      asked = all_two (FitsAsked p c.g f) (asks_of left IntType) (asks_of right IntType) (sides p rows left one l lf) (sides p rows right other r rf);
      leads = all_one (Leads p c.g f) (way next (now_holds to BoolType ∷ [])) (leads_to c laws p f (way next (now_holds to BoolType ∷ [])) after f' rows is (way_holds c laws f after unshared reached p next to BoolType bool refl given.here given.others) tells);
    }

    pub differ_leads : (to : SlotId) (left right : Operand) (one other : Ty) → Has c f left one → Has c f right other
        → Given to bool → StepLeads c.rows c.g f (step.NotEqual to left right) f'
    differ_leads to left right one other l r given p next rows is = record {
      read = all_two (IsReadable f) left right l.assigned r.assigned;
      stored = all_one (FitsDeclared p c.g f) (puts to BoolType) (own_type p rows to bool given.fits);
      asked = All-nil (FitsAsked p c.g f);
      leads = all_one (Leads p c.g f) (way next (now_holds to BoolType ∷ [])) (leads_to c laws p f (way next (now_holds to BoolType ∷ [])) after f' rows is (way_holds c laws f after unshared reached p next to BoolType bool refl given.here given.others) tells);
    }

    pub print_leads : (from : Operand) (ty : Ty) → Has c f from ty → Tells c f after → IsTrue f.reachable → StepLeads c.rows c.g f (step.Output from) f'
    print_leads from ty has same here p next rows is = record {
      read = all_one (IsReadable f) from has.assigned;
      stored = All-nil (FitsDeclared p c.g f);
      asked = All-nil (FitsAsked p c.g f);
      leads = all_one (Leads p c.g f) (way next []) (leads_to c laws p f (way next []) after f' rows is (way_straight c laws f after unshared reached p next same here) tells);
    }

    pub go_leads : Tells c f after → IsTrue f.reachable → StepLeads c.rows c.g f step.GoOn f'
    go_leads same here p next rows is = record {
      read = All-nil (IsReadable f);
      stored = All-nil (FitsDeclared p c.g f);
      asked = All-nil (FitsAsked p c.g f);
      leads = all_one (Leads p c.g f) (way next []) (leads_to c laws p f (way next []) after f' rows is (way_straight c laws f after unshared reached p next same here) tells);
    }
