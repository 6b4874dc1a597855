-- The code of a value does what the rules say of it.
use Rattle.std.proofs.Common.{◌≡◌, ℕ, Bool, true, false, cond, List, [], ◌∷◌, ◌++◌, Option, Some, None, refl, sym, ap, ◌∙◌, subst, inl, inr}
use Rattle.std.specs.Prelude.{All, find}
use Rattle.std.specs.Option.{option_map_or}
use Rattle.std.proofs.lemmas.List.Elements.{All-head, All-tail, All-cons, All-nil}
use Rattle.dart_tree.specs.Tree.{Tree, identifier}
use Rattle.dart_tree.specs.Places.{place_of}
use Rattle.dart_tree.specs.declared.places.Place.{Place}
use Rattle.dart_types.specs.Ty.{Ty}
use Rattle.dart_types.specs.Same.{same_type}
use Rattle.dart_types.specs.Ty as ty
use Rattle.flow_model.specs.Flow.{FlowModel, current_of, facts_of}
use Rattle.flow_model.specs.Steps.{exit_of}
use Rattle.flow_model.specs.declared.locals.Facts.{Facts}
use Rattle.flow_model.specs.declared.locals.LocalId.{LocalId}
use Rattle.judgement.specs.NodeFacts.{NodeFacts}
use Rattle.judgement.specs.declared.meaning.Meaning.{Meaning}
use Rattle.judgement.specs.declared.meaning.Meaning.TheVariants.{Local}
use Rattle.judgement.specs.Given.{Evaluation, expression_row, of_type, said_of_expression, with_node}
use Rattle.judgement.specs.Surroundings.{Names, meaning_of}
use Rattle.judgement.specs.Judgement.{evaluate}
use Rattle.judgement.specs.ExpressionRows as rows
use Rattle.built_forms.specs.Forms.{is_free}
use Rattle.built_forms.specs.Meanings.{meaning_at}
use Rattle.rule_laws.specs.Plain.{IsPlainLocal, IsPlainType, is_plain, is_value_type}
use Rattle.core_ir.specs.Values.{declared_at, no_objects, type_of}
use Rattle.core_ir.specs.declared.points.Operand.{Operand}
use Rattle.core_ir.specs.declared.points.Operand.TheVariants.{Slot, Constant}
use Rattle.core_ir.specs.declared.points.SlotId.{SlotId}
use Rattle.core_ir.specs.declared.values.Value.TheVariants.{Boolean}
use Rattle.core_check.specs.Named.{IsOperand}
use Rattle.core_check.specs.NamedSlots.{to_from_in}
use Rattle.core_emit.specs.Code.{Code}
use Rattle.core_emit.specs.declared.steps.Step.TheVariants as step
use Rattle.elaborate.specs.Sources.{is_of_node, nowhere, known_before, known_behind, local_meant, slot_at, slot_of, slot_of_local}
use Rattle.elaborate.specs.Known.{facts, holding}
use Rattle.elaborate.specs.Rows.{code_of, name_row, operand_of, site_of, step_at, test_of_null}
use Rattle.elaborate.proofs.Given.{Setting, Laws, around}
use Rattle.elaborate.proofs.SlotFacts.{holds}
use Rattle.elaborate.proofs.Chains.{last_among}
use Rattle.elaborate.proofs.Standing.{AreValues, IsSlotOf, IsValueSlot, Standing, found_of}
use Rattle.elaborate.proofs.Claims.{Does, does_step}
use Rattle.elaborate.proofs.Inside.{facts_inside}
use Rattle.elaborate.proofs.Leaves.{Has, store_leads}
use Rattle.elaborate.proofs.Points.{all_in, gives_value, has_local, has_value, held_before, held_last, unshared, values_more}
use Rattle.elaborate.proofs.ValueTypes.{name_reads, plain_value, value_stays}

-- What is said of a node is found by its number. The slot of an expression has its type and is no local's; a local that is declared has a slot of its type.
pub record IsSaid (c : Setting) (said : NodeFacts) : Type 0 where
  pub found : find (is_of_node said.node.0) c.x.typed ≡ Some said
  pub value : (t : Ty) → said.ty ≡ Some t → IsValueSlot c (slot_of c.x said.node.0).0 × (declared_at c.g (slot_of c.x said.node.0).0 ≡ t)
  pub local : (var : LocalId) (l : Facts) → said.ty ≡ None → said.element ≡ Some (Local var) → facts_of said.after var ≡ Some l → IsSlotOf c var.0 l.ty

-- so it is of all of these
abbrev pub AreSaid : Setting → List NodeFacts → Type 0
AreSaid c nodes = All (IsSaid c) nodes

-- of the first of two lists, and of the second
pub said_left : (c : Setting) (xs ys : List NodeFacts) → AreSaid c (xs ++ ys) → AreSaid c xs
said_left c [] ys said = All-nil (IsSaid c)
said_left c (x ∷ xs) ys said = All-cons (IsSaid c) x xs (All-head (IsSaid c) x (xs ++ ys) said) (said_left c xs ys (All-tail (IsSaid c) x (xs ++ ys) said))

pub said_right : (c : Setting) (xs ys : List NodeFacts) → AreSaid c (xs ++ ys) → AreSaid c ys
said_right c [] ys said = said
said_right c (x ∷ xs) ys said = said_right c xs ys (All-tail (IsSaid c) x (xs ++ ys) said)

pub said_last : (c : Setting) (xs : List NodeFacts) (x : NodeFacts) → AreSaid c (xs ++ x ∷ []) → IsSaid c x
said_last c xs x said = All-head (IsSaid c) x [] (said_right c xs (x ∷ []) said)

-- an operand of a type: a constant of it, or the slot of an expression of it
unfoldable pub IsOperandOf : Setting → Operand → Ty → Type 0
IsOperandOf c (Slot slot) t = IsValueSlot c slot.0 × (declared_at c.g slot.0 ≡ t)
IsOperandOf c (Constant value) t = type_of no_objects value ≡ t

pub operand_slot : (c : Setting) (slot : SlotId) (t : Ty) → IsValueSlot c slot.0 × (declared_at c.g slot.0 ≡ t) → IsOperandOf c (Slot slot) t
unfolding IsOperandOf
operand_slot c slot t is = is

-- What the code of a value does, by what the rules give for it: once it is done its value is held, and it is where the condition holds or fails as behind it, unless it tests for null or is a constant.
pub record Valued (c : Setting) (values : List SlotId) (m : FlowModel) (tree : Tree) (e : Evaluation) : Type 0 where
  pub does : Does c (code_of c.x values tree) (facts c.x m values) (facts c.x e.after (holding values (operand_of c.x tree)))
  pub operand : IsOperandOf c (operand_of c.x tree) e.ty
  pub value : is_value_type e.ty ≡ true
  pub before : known_before c.x (place_of tree) ≡ m
  pub behind : known_behind c.x (place_of tree) ≡ e.after
  pub when_true : test_of_null c.x tree ≡ None → (operand_of c.x tree ≡ Constant (Boolean false) → ⊥) → e.when_true ≡ e.after
  pub when_false : test_of_null c.x tree ≡ None → (operand_of c.x tree ≡ Constant (Boolean true) → ⊥) → e.when_false ≡ e.after

-- an operand is among the values that are held, if it is no constant
unfoldable pub IsHeld : List SlotId → Operand → Type 0
IsHeld values (Slot slot) = holds values slot.0 ≡ true
IsHeld values (Constant value) = Unit {0}

module _ (c : Setting) (laws : Laws c) where
  -- one more operand is held
  pub values_with : (values : List SlotId) (operand : Operand) (t : Ty) → AreValues c values → IsOperandOf c operand t → AreValues c (holding values operand)
  unfolding IsOperandOf
  values_with values (Slot slot) t are is = values_more c values slot are is.0
  values_with values (Constant value) t are is = are

  pub held_with : (values : List SlotId) (operand : Operand) → IsHeld (holding values operand) operand
  unfolding IsHeld
  held_with values (Slot slot) = held_last values slot
  held_with values (Constant value) = tt

  pub held_still : (values : List SlotId) (operand other : Operand) → IsHeld values operand → IsHeld (holding values other) operand
  unfolding IsHeld
  held_still values (Slot slot) (Slot other) here = held_before values other slot.0 here
  held_still values (Slot slot) (Constant value) here = here
  held_still values (Constant value) other here = tt

  pub fewer_held : (values : List SlotId) (operand : Operand) (i : ℕ) → holds values i ≡ true → holds (holding values operand) i ≡ true
  fewer_held values (Slot slot) i here = held_before values slot i here
  fewer_held values (Constant value) i here = here

  -- the function has the slot of an operand
  pub operand_inside : (operand : Operand) (t : Ty) → IsOperandOf c operand t → IsOperand c.g operand
  unfolding IsOperandOf
  operand_inside (Slot slot) t is = is.0.inside
  operand_inside (Constant value) t is = tt

  -- an operand that is held has its value
  pub has_operand : (m : FlowModel) (values : List SlotId) (operand : Operand) (t : Ty) → Standing c m → AreValues c values → IsOperandOf c operand t → IsHeld values operand → Has c (facts c.x m values) operand t
  unfolding IsOperandOf IsHeld
  has_operand m values (Slot slot) t stands are is held = has_value c laws m stands values are slot t held is.1
  has_operand m values (Constant value) t stands are is held = record { assigned = refl; typed = is }

  -- the current type of a plain local is plain
  pub current_plain : (l : Facts) → IsPlainLocal l → is_plain (current_of l) ≡ true
  current_plain l plain = elim (last_among c laws l.ty l.chain) [
    | inl same ↦ subst IsPlainType (sym same) plain.declared
    | inr among ↦ all_in c laws IsPlainType l.chain (current_of l) plain.promoted among
  ]

-- what is wrong with an expression is what its row says
same_faults : (b : Bool) (e : Evaluation) → (cond b (record e { after = exit_of e.after; when_true = exit_of e.when_true; when_false = exit_of e.when_false }) e).faults ≡ e.faults
same_faults true e = refl
same_faults false e = refl

pub row_none : (at : Place) (element : Option Meaning) (m : FlowModel) (row : Evaluation) → (expression_row at element m row).faults ≡ [] → row.faults ≡ []
row_none at element m row none = sym (same_faults (same_type row.ty ty.never) row) ∙ none

-- behind a value more is reached
pub plain_row : (at : Place) (element : Option Meaning) (m : FlowModel) (row : Evaluation) → is_value_type row.ty ≡ true → expression_row at element m row ≡ with_node at.node element m row
plain_row at element m row value = ap (with_node at.node element m) (value_stays row value)

module _ (c : Setting) (laws : Laws c) where
  -- A name of a local.
  module _ (at : Place) (word : ℕ) (m : FlowModel) (values : List SlotId) (var : LocalId) (l : Facts) (stands : Standing c m) (are : AreValues c values) (is : facts_of m var ≡ Some l) (assigned : l.assigned ≡ true)
      (own : IsSaid c (said_of_expression at.node (Some (Local var)) m (of_type (current_of l) m)))
    where
      abbrev slot : SlotId
      slot = slot_at c.x at

      before_here : known_before c.x at ≡ m
      before_here = ap (λ found. option_map_or (λ (n : NodeFacts). n.before) found nowhere) own.found

      name_code : code_of c.x values (identifier at word) ≡ step_at c.x at m values (step.Store slot (Slot (slot_of_local c.x var)))
      name_code =
          ap (λ found. name_row c.x at values (local_meant (option_map_or (λ (n : NodeFacts). n.element) found None))) own.found
          ∙ ap (λ k. step_at c.x at k values (step.Store slot (Slot (slot_of_local c.x var)))) before_here

      name_does : Does c (code_of c.x values (identifier at word)) (facts c.x m values) (facts c.x m (values ++ slot ∷ []))
      name_does =
          let value = own.value (current_of l) refl in
          let quiet = unshared c laws m stands values are in
          subst (λ (code : Code). Does c code (facts c.x m values) (facts c.x m (values ++ slot ∷ []))) (sym name_code)
          (does_step c laws (site_of at) (facts c.x m values) (facts c.x m (values ++ slot ∷ [])) (step.Store slot (Slot (slot_of_local c.x var))) (facts_inside c m values stands are)
          (λ next. to_from_in c.g slot (Slot (slot_of_local c.x var)) value.0.inside (found_of c m var l stands is).slot.inside)
          (λ reached f' tells. store_leads c laws (facts c.x m values) (facts c.x m (values ++ slot ∷ [])) quiet reached f' tells slot (Slot (slot_of_local c.x var)) (current_of l)
          (has_local c laws m stands values are var l is assigned)
          (gives_value c laws m stands values values are (λ i here. here) reached slot (current_of l) value.0 value.1 quiet)))

      pub name_valued : Valued c values m (identifier at word) (with_node at.node (Some (Local var)) m (of_type (current_of l) m))
      unfolding IsOperandOf
      name_valued = record {
        does = name_does;
        operand = own.value (current_of l) refl;
        value = plain_value (current_of l) (current_plain c laws l (found_of c m var l stands is).plain);
        before = before_here;
        behind = ap (λ found. option_map_or (λ (n : NodeFacts). n.after) found nowhere) own.found;
        when_true = λ test other. refl;
        when_false = λ test other. refl;
      }

  -- the same by the rules
  pub named : (names : Names) (at : Place) (word : ℕ) (wanted : Option Ty) (m : FlowModel) (values : List SlotId) → is_free (meaning_at c.outside word) ≡ true
      → (evaluate (around c names) (identifier at word) wanted m).faults ≡ [] → Standing c m → AreValues c values → AreSaid c (evaluate (around c names) (identifier at word) wanted m).nodes
      → Valued c values m (identifier at word) (evaluate (around c names) (identifier at word) wanted m)
  named names at word wanted m values free none stands are said =
      let s = around c names in
      let row = rows.name_row (meaning_of s word) at m in
      let reads = name_reads c names word at m free (row_none at (Some (meaning_of s word)) m row none) in
      let value = plain_value (current_of reads.l) (current_plain c laws reads.l (found_of c m reads.var reads.l stands reads.found).plain) in
      let is : evaluate s (identifier at word) wanted m ≡ with_node at.node (Some (Local reads.var)) m (of_type (current_of reads.l) m) =
      ap (λ (meaning : Meaning). expression_row at (Some meaning) m row) reads.meant ∙ ap (expression_row at (Some (Local reads.var)) m) reads.gives ∙ plain_row at (Some (Local reads.var)) m (of_type (current_of reads.l) m) value in
      let own = said_last c [] (said_of_expression at.node (Some (Local reads.var)) m (of_type (current_of reads.l) m)) (subst (λ (e : Evaluation). AreSaid c e.nodes) is said) in
      subst (λ (e : Evaluation). Valued c values m (identifier at word) e) (sym is)
      (name_valued at word m values reads.var reads.l stands are reads.found reads.assigned own)
