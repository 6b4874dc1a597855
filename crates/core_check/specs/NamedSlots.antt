-- The parts of a term's shape name the slots that the shape lists, and no others.
use Rattle.std.proofs.Common.{true, false, List, [], ◌∷◌, ◌++◌, ◌↔◌, All, lit<}
use Rattle.std.proofs.lemmas.List.Elements.{All-nil, All-cons, All-head, All-tail, All-append}
use Rattle.std.specs.Prelude.{flat_map}
use Rattle.core_ir.specs.Program.{Function}
use Rattle.core_ir.specs.declared.points.Operand.{Operand}
use Rattle.core_ir.specs.declared.points.Operand.TheVariants.{Slot, Constant}
use Rattle.core_ir.specs.declared.points.PointId.{PointId}
use Rattle.core_ir.specs.declared.points.SlotId.{SlotId}
use Rattle.core_ir.specs.declared.points.Term.{Term}
use Rattle.core_ir.specs.declared.points.Term.TheVariants.{Store, Declare, Initialize, Add, Less, NotEqual, Branch, TestNull, Goto, Output, End}
use Rattle.core_ir.specs.declared.values.Value.TheVariants.{Null, Integer, Boolean}
use Rattle.core_check.specs.declared.parts.TypeSource.{TypeSource}
use Rattle.core_check.specs.declared.parts.TypeSource.TheVariants.{IntType, BoolType, OperandType, NonNullType}
use Rattle.core_check.specs.declared.parts.Change.{Change}
use Rattle.core_check.specs.Shapes.{slot_of, names, puts, asks_of, holds, is_fresh, narrows, way, straight, on_integers, branch_ways, shape}
use Rattle.core_check.specs.WellFormed.{IsSlot}
use Rattle.core_check.specs.Named.{IsOperand, IsSource, IsStored, IsAsked, IsChange, AreChanges, IsNamed}

-- the one and the two items of a list
pub one : {X : Type 0} (P : X → Type 0) (x : X) → P x → All P (x ∷ [])
one P x here = All-cons P x [] here (All-nil P)

pub two : {X : Type 0} (P : X → Type 0) (x y : X) → P x → P y → All P (x ∷ y ∷ [])
two P x y here there = All-cons P x (y ∷ []) here (one P y there)

module _ (g : Function) where
  -- an operand is in the function just where its slot is
  operand_from : (operand : Operand) (more : List SlotId) → All (IsSlot g) (slot_of operand ++ more) → IsOperand g operand × All (IsSlot g) more
  operand_from (Slot slot) more all = (All-head (IsSlot g) slot more all, All-tail (IsSlot g) slot more all)
  operand_from (Constant value) more all = (tt, all)

  operand_to : (operand : Operand) → IsOperand g operand → All (IsSlot g) (slot_of operand)
  operand_to (Slot slot) here = one (IsSlot g) slot here
  operand_to (Constant value) here = All-nil (IsSlot g)

  operands_from : (operands : List Operand) → All (IsSlot g) (flat_map slot_of operands) → All (IsOperand g) operands
  operands_from [] all = All-nil (IsOperand g)
  operands_from (x ∷ xs) all = let both = operand_from x (flat_map slot_of xs) all in All-cons (IsOperand g) x xs both.0 (operands_from xs both.1)

  operands_to : (operands : List Operand) → All (IsOperand g) operands → All (IsSlot g) (flat_map slot_of operands)
  operands_to [] all = All-nil (IsSlot g)
  operands_to (x ∷ xs) all =
      All-append (IsSlot g) (slot_of x) (flat_map slot_of xs) (operand_to x (All-head (IsOperand g) x xs all)) (operands_to xs (All-tail (IsOperand g) x xs all))

  -- what a term names is in the function where its own slots and its operands are
  pub named_by : (slots : List SlotId) (operands : List Operand) → All (IsSlot g) slots → All (IsOperand g) operands → All (IsSlot g) (names slots operands)
  named_by slots operands slots_in operands_in = All-append (IsSlot g) slots (flat_map slot_of operands) slots_in (operands_to operands operands_in)

  -- the same of a term with one slot of its own
  pub to_named : (to : SlotId) (operands : List Operand) → IsSlot g to → All (IsOperand g) operands → All (IsSlot g) (names (to ∷ []) operands)
  to_named to operands to_in operands_in = named_by (to ∷ []) operands (one (IsSlot g) to to_in) operands_in

  pub to_from : (to : SlotId) (operands : List Operand) → All (IsSlot g) (names (to ∷ []) operands) → IsSlot g to × All (IsOperand g) operands
  to_from to operands all = (All-head (IsSlot g) to (flat_map slot_of operands) all, operands_from operands (All-tail (IsSlot g) to (flat_map slot_of operands) all))

  -- and of terms with the operands that they have
  pub from_in : (from : Operand) → IsOperand g from → All (IsSlot g) (names [] (from ∷ []))
  from_in from here = operands_to (from ∷ []) (one (IsOperand g) from here)

  pub to_from_in : (to : SlotId) (from : Operand) → IsSlot g to → IsOperand g from → All (IsSlot g) (names (to ∷ []) (from ∷ []))
  to_from_in to from to_in here = to_named to (from ∷ []) to_in (one (IsOperand g) from here)

  pub to_both_in : (to : SlotId) (left right : Operand) → IsSlot g to → IsOperand g left → IsOperand g right → All (IsSlot g) (names (to ∷ []) (left ∷ right ∷ []))
  to_both_in to left right to_in left_in right_in = to_named to (left ∷ right ∷ []) to_in (two (IsOperand g) left right left_in right_in)

  -- the parts of shapes
  store_in : (to : SlotId) (ty : TypeSource) → IsSlot g to → IsSource g ty → All (IsStored g) (puts to ty ∷ [])
  store_in to ty to_in ty_in = one (IsStored g) (puts to ty) (record { slot_in = to_in; ty_in = ty_in })

  asked_in : (operand : Operand) (ty : TypeSource) → IsOperand g operand → IsSource g ty → IsAsked g (asks_of operand ty)
  asked_in operand ty operand_in ty_in = record { found_in = operand_in; expected_in = ty_in }

  change_in : (next : PointId) (change : Change) → IsChange g change → All (AreChanges g) (way next (change ∷ []) ∷ [])
  change_in next change here = one (AreChanges g) (way next (change ∷ [])) (one (IsChange g) change here)

  unchanged_in : (next : PointId) → AreChanges g (straight next)
  unchanged_in next = All-nil (IsChange g)

  straight_in : (next : PointId) → All (AreChanges g) (straight next ∷ [])
  straight_in next = one (AreChanges g) (straight next) (unchanged_in next)

  both_in : (when_true when_false : PointId) → All (AreChanges g) (straight when_true ∷ straight when_false ∷ [])
  both_in when_true when_false = two (AreChanges g) (straight when_true) (straight when_false) (unchanged_in when_true) (unchanged_in when_false)

  branch_in : (on : Operand) (when_true when_false : PointId) → All (AreChanges g) (branch_ways on when_true when_false)
  branch_in (Slot slot) when_true when_false = both_in when_true when_false
  branch_in (Constant Null) when_true when_false = both_in when_true when_false
  branch_in (Constant (Integer n)) when_true when_false = both_in when_true when_false
  branch_in (Constant (Boolean true)) when_true when_false = straight_in when_true
  branch_in (Constant (Boolean false)) when_true when_false = straight_in when_false

  integers_in : (to : SlotId) (left right : Operand) (ty : TypeSource) (next : PointId) → IsSource g ty → All (IsSlot g) (names (to ∷ []) (left ∷ right ∷ [])) → IsNamed g (on_integers to left right ty next)
  integers_in to left right ty next ty_in all =
      let h = to_from to (left ∷ right ∷ []) all in
      record {
        reads_in = h.1;
        stores_in = store_in to ty h.0 ty_in;
        asks_in = two (IsAsked g) (asks_of left IntType) (asks_of right IntType) (asked_in left IntType (h.1 0 left (lit< tt)) tt) (asked_in right IntType (h.1 1 left (lit< tt)) tt);
        changes_in = change_in next (holds to ty) (record { slot_in = h.0; how_in = ty_in });
      }

  -- the function has what the parts of a shape name where it has its slots
  pub named : (t : Term) → All (IsSlot g) (shape t).slots → IsNamed g (shape t)
  named (Store to from next) all =
      let h = to_from to (from ∷ []) all in
      let here = h.1 0 from (lit< tt) in
      record {
        reads_in = h.1;
        stores_in = store_in to (OperandType from) h.0 here;
        asks_in = All-nil (IsAsked g);
        changes_in = change_in next (holds to (OperandType from)) (record { slot_in = h.0; how_in = here });
      }
  named (Declare slot next) all = record {
    reads_in = All-nil (IsOperand g);
    stores_in = All-nil (IsStored g);
    asks_in = All-nil (IsAsked g);
    changes_in = change_in next (is_fresh slot) (record { slot_in = all 0 slot (lit< tt); how_in = tt });
  }
  named (Initialize slot from next) all =
      let h = to_from slot (from ∷ []) all in
      let here = h.1 0 from (lit< tt) in
      record {
        reads_in = h.1;
        stores_in = store_in slot (OperandType from) h.0 here;
        asks_in = All-nil (IsAsked g);
        changes_in =
            one (AreChanges g) (way next (is_fresh slot ∷ holds slot (OperandType from) ∷ []))
            (two (IsChange g) (is_fresh slot) (holds slot (OperandType from)) (record { slot_in = h.0; how_in = tt }) (record { slot_in = h.0; how_in = here }));
      }
  named (Add to left right next) all = integers_in to left right IntType next tt all
  named (Less to left right next) all = integers_in to left right BoolType next tt all
  named (NotEqual to left right next) all =
      let h = to_from to (left ∷ right ∷ []) all in
      record {
        reads_in = h.1;
        stores_in = store_in to BoolType h.0 tt;
        asks_in = All-nil (IsAsked g);
        changes_in = change_in next (holds to BoolType) (record { slot_in = h.0; how_in = tt });
      }
  named (Branch on when_true when_false) all =
      let on_in = operands_from (on ∷ []) all in
      record {
        reads_in = on_in;
        stores_in = All-nil (IsStored g);
        asks_in = one (IsAsked g) (asks_of on BoolType) (asked_in on BoolType (on_in 0 on (lit< tt)) tt);
        changes_in = branch_in on when_true when_false;
      }
  named (TestNull slot null other) all =
      let here = all 0 slot (lit< tt) in
      record {
        reads_in = one (IsOperand g) (Slot slot) here;
        stores_in = All-nil (IsStored g);
        asks_in = All-nil (IsAsked g);
        changes_in =
            two (AreChanges g) (straight null) (way other (narrows slot (NonNullType slot) ∷ [])) (unchanged_in null)
            (one (IsChange g) (narrows slot (NonNullType slot)) (record { slot_in = here; how_in = here }));
      }
  named (Goto next) all = record { reads_in = All-nil (IsOperand g); stores_in = All-nil (IsStored g); asks_in = All-nil (IsAsked g); changes_in = straight_in next }
  named (Output from next) all = record {
    reads_in = operands_from (from ∷ []) all;
    stores_in = All-nil (IsStored g);
    asks_in = All-nil (IsAsked g);
    changes_in = straight_in next;
  }
  named End all = record { reads_in = All-nil (IsOperand g); stores_in = All-nil (IsStored g); asks_in = All-nil (IsAsked g); changes_in = All-nil (AreChanges g) }

  -- the slot of the first change on a way
  changed_slot : (next : PointId) (change : Change) (more : List Change) → All (AreChanges g) (way next (change ∷ more) ∷ []) → IsSlot g change.slot
  changed_slot next change more all = (All-head (IsChange g) change more (All-head (AreChanges g) (way next (change ∷ more)) [] all)).slot_in

  -- and conversely
  slots_of : (t : Term) → IsNamed g (shape t) → All (IsSlot g) (shape t).slots
  slots_of (Store to from next) is = to_named to (from ∷ []) (changed_slot next (holds to (OperandType from)) [] is.changes_in) is.reads_in
  slots_of (Declare slot next) is = one (IsSlot g) slot (changed_slot next (is_fresh slot) [] is.changes_in)
  slots_of (Initialize slot from next) is = to_named slot (from ∷ []) (changed_slot next (is_fresh slot) (holds slot (OperandType from) ∷ []) is.changes_in) is.reads_in
  slots_of (Add to left right next) is = to_named to (left ∷ right ∷ []) (changed_slot next (holds to IntType) [] is.changes_in) is.reads_in
  slots_of (Less to left right next) is = to_named to (left ∷ right ∷ []) (changed_slot next (holds to BoolType) [] is.changes_in) is.reads_in
  slots_of (NotEqual to left right next) is = to_named to (left ∷ right ∷ []) (changed_slot next (holds to BoolType) [] is.changes_in) is.reads_in
  slots_of (Branch on when_true when_false) is = operands_to (on ∷ []) is.reads_in
  slots_of (TestNull slot null other) is = one (IsSlot g) slot (is.reads_in 0 (Slot slot) (lit< tt))
  slots_of (Goto next) is = All-nil (IsSlot g)
  slots_of (Output from next) is = operands_to (from ∷ []) is.reads_in
  slots_of End is = All-nil (IsSlot g)

  pub named_is : (t : Term) → All (IsSlot g) (shape t).slots ↔ IsNamed g (shape t)
  named_is t = (named t, slots_of t)
