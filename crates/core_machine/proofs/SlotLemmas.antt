-- What the slots of a frame hold where what is known is weakened, or one slot changes.
use Rattle.std.proofs.Common.{◌≡◌, ◌≢◌, ℕ, ◌<◌, length, Some, None, sym, ◌∙◌, subst, arith, inl, inr}
use Rattle.std.specs.Prelude.{IsTrue, Option, slice_index_or, slice_set}
use Rattle.std.proofs.lemmas.Bool.{cases_eq}
use Rattle.std.proofs.lemmas.List.{get_or-set_same, get_or-set_other, length-set}
use Rattle.dart_types.specs.Ty.{Ty}
use Rattle.dart_types.specs.Laws.{RowLaws}
use Rattle.dart_types.specs.Superinterfaces.{LeavesNothingOut}
use Rattle.core_ir.specs.Program.{Function, Program}
use Rattle.core_ir.specs.Values.{declared_at}
use Rattle.core_ir.specs.declared.facts.Known.{Known}
use Rattle.core_ir.specs.declared.points.SlotId.{SlotId}
use Rattle.core_ir.specs.declared.values.Value.{Value}
use Rattle.core_check.specs.Known.{held_type}
use Rattle.core_check.specs.Accepted.{SlotImplies}
use Rattle.core_machine.specs.Steps.{Slots, has_type}
use Rattle.core_machine.specs.Sound.{View, Holds, SlotsFit, ViewFits}
use Rattle.core_machine.proofs.TypeLemmas.{has_supertype}

-- slots hold what a view says that a view which they fit implies
pub weaker_fits : (p : Program) (g : Function) (slots : Slots) (before after : View) → RowLaws p.rows.table → LeavesNothingOut p.rows.table → ((i : ℕ) → i < length g.slots → SlotImplies p.rows.table (declared_at g i) (before i) (after i)) → ViewFits p g slots before → ViewFits p g slots after
weaker_fits p g slots before after laws out implies fits = record {
  holds = λ i here assigned. let h = fits.holds i here ((implies i here).assigned assigned) in
      record { value = h.value; held = h.held; typed = has_supertype p laws out h.value _ _ h.typed (implies i here).narrower };
}

-- one slot changes, in the slots and in what is known
module _ (p : Program) (g : Function) (slots : Slots) (before after : View) (slot : SlotId) (v : Option Value) (here : slot.0 < length g.slots) (wide : length slots ≡ length g.slots) (others : (i : ℕ) → i ≢ slot.0 → after i ≡ before i) where
  held_same : slice_index_or (slice_set slots slot.0 v) slot.0 None ≡ v
  held_same = let inside : slot.0 < length slots = omega arith in get_or-set_same slots slot.0 v None inside

  held_other : (i : ℕ) → i ≢ slot.0 → slice_index_or (slice_set slots slot.0 v) i None ≡ slice_index_or slots i None
  held_other i ne = get_or-set_other slots slot.0 i v None ne

  -- each slot still has its declared type, if the new value has it
  pub set_slots_fit : ((w : Value) → v ≡ Some w → IsTrue (has_type p w (declared_at g slot.0))) → SlotsFit p g slots → SlotsFit p g (slice_set slots slot.0 v)
  set_slots_fit typed fit = record {
    wide = length-set slots slot.0 v ∙ wide;
    declared = λ i w inside held. elim (cases_eq i slot.0) [
      | inl same ↦ subst (λ (k : ℕ). IsTrue (has_type p w (declared_at g k))) (sym same) (typed w (sym held_same ∙ subst (λ (k : ℕ). slice_index_or (slice_set slots slot.0 v) k None ≡ Some w) same held))
      | inr ne ↦ fit.declared i w inside (sym (held_other i ne) ∙ held)
    ];
  }

  -- and the slots hold what is known then, if the slot does
  pub set_view_fits : (IsTrue (after slot.0).assigned → Holds p (slice_set slots slot.0 v) slot.0 (held_type (declared_at g slot.0) (after slot.0).held)) → ViewFits p g slots before → ViewFits p g (slice_set slots slot.0 v) after
  set_view_fits holds fits = record {
    holds = λ i inside assigned. elim (cases_eq i slot.0) [
      | inl same ↦ subst (λ (k : ℕ). IsTrue (after k).assigned → Holds p (slice_set slots slot.0 v) k (held_type (declared_at g k) (after k).held)) (sym same) holds assigned
      | inr ne ↦ at_other i inside ne assigned
    ];
  }
    where
      at_other : (i : ℕ) → i < length g.slots → i ≢ slot.0 → IsTrue (after i).assigned → Holds p (slice_set slots slot.0 v) i (held_type (declared_at g i) (after i).held)
      at_other i inside ne = subst (λ (k : Known). IsTrue k.assigned → Holds p (slice_set slots slot.0 v) i (held_type (declared_at g i) k.held)) (sym (others i ne))
          (λ assigned. let h = fits.holds i inside assigned in record { value = h.value; held = held_other i ne ∙ h.held; typed = h.typed })

  -- the slot holds the new value
  pub set_holds : (w : Value) (t : Ty) → v ≡ Some w → IsTrue (has_type p w t) → Holds p (slice_set slots slot.0 v) slot.0 t
  set_holds w t is typed = record { value = w; held = held_same ∙ is; typed = typed }
