-- What tests lead to: a value that is a truth, and a local that is null or isn't.
use Rattle.std.proofs.Common.{◌≡◌, ◌≢◌, ℕ, ◌<◌, Bool, true, false, cond, not, ◌||◌, List, [], ◌∷◌, ◌++◌, length, refl, sym, ap, ◌∙◌, subst, IsTrue, inl, inr}
use Rattle.std.specs.Prelude.{All}
use Rattle.std.proofs.lemmas.Bool.{cases_eq, ne_eqb, eq-eqb}
use Rattle.std.proofs.lemmas.List.Elements.{All-nil}
use Rattle.dart_types.specs.Ty.{Ty}
use Rattle.dart_types.specs.Same.{same_type}
use Rattle.dart_types.specs.SubTest.{sub}
use Rattle.flow_model.specs.Flow.{current_of, last_or}
use Rattle.flow_model.specs.Promote.{non_null_facts, without_null_of}
use Rattle.flow_model.specs.TypeTests.{is_formed}
use Rattle.flow_model.specs.declared.locals.Facts.{Facts}
use Rattle.type_bounds.specs.NonNull.{non_null_of}
use Rattle.core_ir.specs.PointFacts.{PointFacts}
use Rattle.core_ir.specs.Program.{Program}
use Rattle.core_ir.specs.Values.{declared_at, bool}
use Rattle.core_ir.specs.declared.facts.Held.TheVariants.{Own}
use Rattle.core_ir.specs.declared.facts.Known.{Known}
use Rattle.core_ir.specs.declared.points.Operand.{Operand}
use Rattle.core_ir.specs.declared.points.Operand.TheVariants.{Slot, Constant}
use Rattle.core_ir.specs.declared.points.PointId.{PointId}
use Rattle.core_ir.specs.declared.points.SlotId.{SlotId}
use Rattle.core_ir.specs.declared.values.Value.TheVariants.{Null, Integer, Boolean}
use Rattle.core_check.specs.Accepted.{SlotImplies, IsFine, Leads, IsReadable, FitsDeclared, FitsAsked}
use Rattle.core_check.specs.Known.{facts_at, known_of, operand_type, slot_type}
use Rattle.core_check.specs.Shapes.{asks_of, narrows, on_condition, way, straight}
use Rattle.core_check.specs.Types.{held_as, known_on, changed, without_null}
use Rattle.core_check.specs.declared.parts.How.TheVariants.{Narrows}
use Rattle.core_check.specs.declared.parts.TypeSource.TheVariants.{BoolType, NonNullType}
use Rattle.core_emit.specs.declared.steps.Test.TheVariants as test
use Rattle.core_emit.specs.Emitted.{TestLeads}
use Rattle.elaborate.proofs.Given.{Setting, Laws}
use Rattle.elaborate.proofs.Tells.{Tells}
use Rattle.elaborate.proofs.Claims.{leads_to}
use Rattle.elaborate.proofs.Leaves.{Has, IsUnshared, all_one, all_two, way_straight}

-- facts are told, where a run may come to them
pub record Reaches (c : Setting) (f after : PointFacts) : Type 0 where
  pub tells : Tells c f after
  pub reached : IsTrue after.reachable

module _ (c : Setting) (laws : Laws c) (f : PointFacts) (here : IsTrue f.reachable) where
  straight_leads : (p : Program) (next : PointId) (after f' : PointFacts) → p.rows ≡ c.rows → facts_at p next.0 ≡ f' → IsUnshared f → Reaches c f after → Tells c after f' → Leads p c.g f (straight next)
  straight_leads p next after f' rows is unshared reaches tells =
      leads_to c laws p f (straight next) after f' rows is (way_straight c laws f after unshared reaches.reached p next reaches.tells here) tells

  asked_bool : (p : Program) (on : Operand) (ty : Ty) → p.rows ≡ c.rows → Has c f on ty → IsTrue (sub c.rows.table ty bool) → All (FitsAsked p c.g f) (asks_of on BoolType ∷ [])
  asked_bool p on ty rows has fits =
      all_one (FitsAsked p c.g f) (asks_of on BoolType) (subst (λ r. IsTrue (sub r.table (operand_type c.g f on) bool)) (sym rows) (subst (λ t. IsTrue (sub c.rows.table t bool)) (sym has.typed) fits))

  -- a branch on what is no constant truth may go both ways
  both_ways_fine : (p : Program) (on : Operand) (ty : Ty) (first second : PointId) (one other f' f'' : PointFacts) → p.rows ≡ c.rows → facts_at p first.0 ≡ f' → facts_at p second.0 ≡ f'' → IsUnshared f
      → Has c f on ty → IsTrue (sub c.rows.table ty bool) → Reaches c f one → Reaches c f other → Tells c one f' → Tells c other f'' → IsFine p c.g f (on_condition on (straight first ∷ straight second ∷ []))
  both_ways_fine p on ty first second one other f' f'' rows is is' unshared has fits a b tells tells' = record {
    read = all_one (IsReadable f) on has.assigned;
    stored = All-nil (FitsDeclared p c.g f);
    asked = asked_bool p on ty rows has fits;
    leads = all_two (Leads p c.g f) (straight first) (straight second) (straight_leads p first one f' rows is unshared a tells) (straight_leads p second other f'' rows is' unshared b tells');
  }

  one_way_fine : (p : Program) (on : Operand) (ty : Ty) (next : PointId) (one f' : PointFacts) → p.rows ≡ c.rows → facts_at p next.0 ≡ f' → IsUnshared f
      → Has c f on ty → IsTrue (sub c.rows.table ty bool) → Reaches c f one → Tells c one f' → IsFine p c.g f (on_condition on (straight next ∷ []))
  one_way_fine p on ty next one f' rows is unshared has fits a tells = record {
    read = all_one (IsReadable f) on has.assigned;
    stored = All-nil (FitsDeclared p c.g f);
    asked = asked_bool p on ty rows has fits;
    leads = all_one (Leads p c.g f) (straight next) (straight_leads p next one f' rows is unshared a tells);
  }

  -- a truth is tested: where it is known, one way is enough
  pub truth_leads : (on : Operand) (ty : Ty) (one other : PointFacts) → IsUnshared f → Has c f on ty → IsTrue (sub c.rows.table ty bool)
      → ((on ≡ Constant (Boolean false) → ⊥) → Reaches c f one) → ((on ≡ Constant (Boolean true) → ⊥) → Reaches c f other)
      → (f' f'' : PointFacts) → Tells c one f' → Tells c other f'' → TestLeads c.rows c.g f (test.OnTruth on) f' f''
  truth_leads (Slot slot) ty one other unshared has fits a b f' f'' tells tells' p first second rows is is' =
      both_ways_fine p (Slot slot) ty first second one other f' f'' rows is is' unshared has fits (a (λ e. cc)) (b (λ e. cc)) tells tells'
  truth_leads (Constant Null) ty one other unshared has fits a b f' f'' tells tells' p first second rows is is' =
      both_ways_fine p (Constant Null) ty first second one other f' f'' rows is is' unshared has fits (a (λ e. cc)) (b (λ e. cc)) tells tells'
  truth_leads (Constant (Integer n)) ty one other unshared has fits a b f' f'' tells tells' p first second rows is is' =
      both_ways_fine p (Constant (Integer n)) ty first second one other f' f'' rows is is' unshared has fits (a (λ e. cc)) (b (λ e. cc)) tells tells'
  truth_leads (Constant (Boolean true)) ty one other unshared has fits a b f' f'' tells tells' p first second rows is is' =
      one_way_fine p (Constant (Boolean true)) ty first one f' rows is unshared has fits (a (λ e. cc)) tells
  truth_leads (Constant (Boolean false)) ty one other unshared has fits a b f' f'' tells tells' p first second rows is is' =
      one_way_fine p (Constant (Boolean false)) ty second other f'' rows is' unshared has fits (b (λ e. cc)) tells'

  -- A slot is tested for null: on the way where it isn't null it has its type without null.
  pub null_leads : (slot : SlotId) (one other : PointFacts) → IsUnshared f → IsTrue (known_of f slot.0).assigned
      → Reaches c f other → IsTrue one.reachable
      → SlotImplies c.rows.table (declared_at c.g slot.0) (record { assigned = true; held = Own (without_null c.rows.table (slot_type c.g f slot)) }) (known_of one slot.0)
      → ((i : ℕ) → i < length c.g.slots → i ≢ slot.0 → SlotImplies c.rows.table (declared_at c.g i) (known_of f i) (known_of one i))
      → (f' f'' : PointFacts) → Tells c one f' → Tells c other f'' → TestLeads c.rows c.g f (test.OnNotNull slot) f' f''
  null_leads slot one other unshared assigned b reached narrowed others f' f'' tells tells' p first second rows is is' = record {
    read = all_one (IsReadable f) (Slot slot) assigned;
    stored = All-nil (FitsDeclared p c.g f);
    asked = All-nil (FitsAsked p c.g f);
    leads = all_two (Leads p c.g f) (straight second) (way first (narrows slot (NonNullType slot) ∷ []))
        (straight_leads p second other f'' rows is' unshared b tells')
        (leads_to c laws p f (way first (narrows slot (NonNullType slot) ∷ [])) one f' rows is (record { reached = reached; slots = slots }) tells);
  }
    where
      slots : (i : ℕ) → i < length c.g.slots → SlotImplies c.rows.table (declared_at c.g i) (known_on p c.g f (narrows slot (NonNullType slot) ∷ []) i) (known_of one i)
      slots i lt = elim (cases_eq i slot.0) [
        | inl same ↦
            (let now : known_on p c.g f (narrows slot (NonNullType slot) ∷ []) i ≡ record { assigned = (known_of f i).assigned; held = Own (without_null p.rows.table (slot_type c.g f slot)) } =
            ap (λ b. cond b (changed p c.g f (Narrows (NonNullType slot)) (known_of f i)) (known_of f i)) (eq-eqb slot.0 i (sym same))
            ∙ ap (λ b. let k : Known = record { assigned = (known_of f i).assigned; held = held_as b (without_null p.rows.table (slot_type c.g f slot)) } in k) (unshared i) in
            let known : known_on p c.g f (narrows slot (NonNullType slot) ∷ []) i ≡ record { assigned = true; held = Own (without_null c.rows.table (slot_type c.g f slot)) } =
            now
            ∙ ap (λ r. let k : Known = record { assigned = (known_of f i).assigned; held = Own (without_null r.table (slot_type c.g f slot)) } in k) rows
            ∙ ap (λ a. let k : Known = record { assigned = a; held = Own (without_null c.rows.table (slot_type c.g f slot)) } in k) (subst (λ (j : ℕ). (known_of f j).assigned ≡ true) (sym same) assigned) in
            subst (λ (k : Known). SlotImplies c.rows.table (declared_at c.g i) k (known_of one i)) (sym known)
            (subst (λ (j : ℕ). SlotImplies c.rows.table (declared_at c.g j) (record { assigned = true; held = Own (without_null c.rows.table (slot_type c.g f slot)) }) (known_of one j)) (sym same) narrowed))
        | inr other ↦
            (let now : known_on p c.g f (narrows slot (NonNullType slot) ∷ []) i ≡ known_of f i =
            ap (λ b. cond b (changed p c.g f (Narrows (NonNullType slot)) (known_of f i)) (known_of f i)) (ne_eqb slot.0 i (λ e. other (sym e))) in
            subst (λ (k : Known). SlotImplies c.rows.table (declared_at c.g i) k (known_of one i)) (sym now) (others i lt other))
      ]

-- a type without null is what a local that isn't null is promoted to, where that is another type
last_after : (t u : Ty) (chain : List Ty) → last_or t (chain ++ u ∷ []) ≡ u
last_after t u [] = refl
last_after t u (v ∷ chain) = last_after v u chain

last_same : (t : Ty) (chain : List Ty) → last_or t (chain ++ []) ≡ last_or t chain
last_same t [] = refl
last_same t (v ∷ chain) = last_same v chain

pub narrowed_current : (c : Setting) (laws : Laws c) (l : Facts) → l.captured ≡ false → without_null c.rows.table (current_of l) ≡ current_of (non_null_facts c.rows.table l)
narrowed_current c laws l own =
    at (same_type (non_null_of c.rows.table (current_of l)) (current_of l)) (is_formed (non_null_of c.rows.table (current_of l))) refl refl
    ∙ sym (ap (λ b. last_or l.ty (l.chain ++ cond b [] (without_null_of c.rows.table (current_of l)))) own)
  where
    at : (same formed : Bool) → same_type (non_null_of c.rows.table (current_of l)) (current_of l) ≡ same → is_formed (non_null_of c.rows.table (current_of l)) ≡ formed
        → without_null c.rows.table (current_of l) ≡ last_or l.ty (l.chain ++ without_null_of c.rows.table (current_of l))
    at true true e e' =
        ap (λ b. cond b (non_null_of c.rows.table (current_of l)) (current_of l)) e'
        ∙ laws.types.types.equal_from_same_type (non_null_of c.rows.table (current_of l)) (current_of l) e
        ∙ sym (last_same l.ty l.chain)
        ∙ sym (ap (λ b. last_or l.ty (l.chain ++ cond (b || not (is_formed (non_null_of c.rows.table (current_of l)))) [] (non_null_of c.rows.table (current_of l) ∷ []))) e)
    at true false e e' =
        ap (λ b. cond b (non_null_of c.rows.table (current_of l)) (current_of l)) e'
        ∙ sym (last_same l.ty l.chain)
        ∙ sym (ap (λ b. last_or l.ty (l.chain ++ cond (b || not (is_formed (non_null_of c.rows.table (current_of l)))) [] (non_null_of c.rows.table (current_of l) ∷ []))) e)
    at false true e e' =
        ap (λ b. cond b (non_null_of c.rows.table (current_of l)) (current_of l)) e'
        ∙ sym (last_after l.ty (non_null_of c.rows.table (current_of l)) l.chain)
        ∙ sym (ap (λ b. last_or l.ty (l.chain ++ cond (b || not (is_formed (non_null_of c.rows.table (current_of l)))) [] (non_null_of c.rows.table (current_of l) ∷ []))) e ∙ ap (λ b. last_or l.ty (l.chain ++ cond (not b) [] (non_null_of c.rows.table (current_of l) ∷ []))) e')
    at false false e e' =
        ap (λ b. cond b (non_null_of c.rows.table (current_of l)) (current_of l)) e'
        ∙ sym (last_same l.ty l.chain)
        ∙ sym (ap (λ b. last_or l.ty (l.chain ++ cond (b || not (is_formed (non_null_of c.rows.table (current_of l)))) [] (non_null_of c.rows.table (current_of l) ∷ []))) e ∙ ap (λ b. last_or l.ty (l.chain ++ cond (not b) [] (non_null_of c.rows.table (current_of l) ∷ []))) e')
