-- The row of a term that no clause fails at doesn't go wrong, and leaves a frame that fits.
use Rattle.std.proofs.Common.{◌≡◌, ◌≢◌, Bool, true, false, cond, not, ℕ, ℤ, ◌<◌, nat_eq, List, [], ◌∷◌, length, Some, None, refl, sym, ap, ◌∙◌, subst, arith, lit<}
use Rattle.std.specs.Prelude.{IsTrue, Option, slice_index_or, slice_set}
use Rattle.std.proofs.lemmas.Bool.{cond-true, cond-false, eq-eqb, ne_eqb}
use Rattle.std.proofs.lemmas.List.{set-get_or}
use Rattle.std.proofs.lemmas.List.Elements.{All-head, All-cons, All-nil}
use Rattle.std.proofs.lemmas.Option.{slice_get-get_or}
use Rattle.dart_types.specs.Ty.{Ty}
use Rattle.dart_types.specs.Laws.{RowLaws}
use Rattle.dart_types.specs.SubTest.{sub}
use Rattle.dart_types.specs.Superinterfaces.{LeavesNothingOut}
use Rattle.core_ir.specs.PointFacts.{PointFacts}
use Rattle.core_ir.specs.Program.{Function, Program}
use Rattle.core_ir.specs.Values.{int, bool, declared_at}
use Rattle.core_ir.specs.declared.facts.Held.{Held}
use Rattle.core_ir.specs.declared.facts.Held.TheVariants.{Declared, Own, Shared}
use Rattle.core_ir.specs.declared.facts.Known.{Known}
use Rattle.core_ir.specs.declared.points.SlotId.{SlotId}
use Rattle.core_ir.specs.declared.points.PointId.{PointId}
use Rattle.core_ir.specs.declared.points.Operand.{Operand}
use Rattle.core_ir.specs.declared.points.Operand.TheVariants.{Slot, Constant}
use Rattle.core_ir.specs.declared.points.Term.{Term}
use Rattle.core_ir.specs.declared.points.Term.TheVariants.{Store, Declare, Initialize, Add, Less, NotEqual, Branch, TestNull, Goto, Output, End}
use Rattle.core_ir.specs.declared.values.Value.{Value}
use Rattle.core_ir.specs.declared.values.Value.TheVariants.{Null, Integer, Boolean}
use Rattle.core_check.specs.declared.parts.TypeSource.{TypeSource}
use Rattle.core_check.specs.declared.parts.TypeSource.TheVariants.{IntType, BoolType, OperandType, NonNullType}
use Rattle.core_check.specs.declared.parts.How.{How}
use Rattle.core_check.specs.declared.parts.How.TheVariants.{Fresh, Holds as HoldsType, Narrows}
use Rattle.core_check.specs.declared.parts.Stored.{Stored}
use Rattle.core_check.specs.declared.parts.Asked.{Asked}
use Rattle.core_check.specs.declared.parts.Change.{Change}
use Rattle.core_check.specs.WellFormed.{IsSlot, IsWay, IsShape, IsWellFormed}
use Rattle.core_check.specs.Named.{IsOperand, IsNamed}
use Rattle.core_check.specs.NamedSlots.{named}
use Rattle.core_check.specs.Known.{no_point, function_at, point_at, facts_at, known_of, is_shared, held_type, slot_type, operand_type}
use Rattle.core_check.specs.Shapes.{WayShape, shape, way, straight, holds, is_fresh, narrows, puts, asks_of}
use Rattle.core_check.specs.Types.{type_from, held_as, changed, known_on, without_null}
use Rattle.core_check.specs.Accepted.{IsReadable, Leads, IsFine, IsAccepted}
use Rattle.core_machine.specs.declared.effect.Effect.TheVariants.{Write, Go, Print, Stop}
use Rattle.core_machine.specs.Values.{sum_of, less_of, same_value, IsInteger, IsBoolean}
use Rattle.core_machine.specs.Steps.{Slots, Row, Does, Fails, value_at, value_of, with_value, has_type, put, on_integers, choose, if_null, row}
use Rattle.core_machine.specs.State.{FrameState, row_at}
use Rattle.core_machine.specs.Sound.{SlotsFit, ViewFits, FrameFits}
use Rattle.core_machine.proofs.TypeLemmas.{has_supertype, has_own_type, integer_from, boolean_from, IsNotNull, has_without_null}
use Rattle.core_machine.proofs.SlotLemmas.{weaker_fits, set_slots_fit, set_view_fits, set_holds}

-- a row doesn't go wrong, and the frame that it leaves fits
abbrev pub IsGood : Program → FrameState → Row → Type 0
IsGood p f (Does (Write to v next)) = (to.0 < length f.slots) × FrameFits p (record f { point = next; slots = slice_set f.slots to.0 v })
IsGood p f (Does (Go next)) = FrameFits p (record f { point = next })
IsGood p f (Does (Print v next)) = FrameFits p (record f { point = next })
IsGood p f (Does (Stop end)) = Unit {0}
IsGood p f (Fails kind) = ⊥

-- what is read is good, if what comes of its value is
good_with : (p : Program) (f : FrameState) (o : Option Value) (go : Value → Row) (v : Value) → o ≡ Some v → IsGood p f (go v) → IsGood p f (with_value o go)
good_with p f o go v held good = subst (λ (x : Option Value). IsGood p f (with_value x go)) (sym held) good

-- a choice whose test holds is good, if its first way is
good_if : (p : Program) (f : FrameState) (test : Bool) (x y : Row) → IsTrue test → IsGood p f x → IsGood p f (cond test x y)
good_if p f test x y holds good = subst (λ (b : Bool). IsGood p f (cond b x y)) (sym holds) good

-- one value is the other, where Some is
same_some : (v w : Value) → (Some v ≡ Some w) → v ≡ w
same_some v w same = cc

-- a slot that is given the value that it holds stays as it is
set_back : (slots : Slots) (i : ℕ) (v : Option Value) → slice_index_or slots i None ≡ v → slice_set slots i v ≡ slots
set_back slots i v held = subst (λ (x : Option Value). slice_set slots i x ≡ slots) held (set-get_or slots i None)

-- what stands for a part past the last of a list
no_store : SlotId → Stored
no_store slot = puts slot IntType

no_ask : Operand → Asked
no_ask operand = asks_of operand IntType

no_way : PointId → WayShape
no_way next = straight next

-- a frame at a point where what is known holds of its slots, and of which the program has accepted the facts
module _ (p : Program) (laws : RowLaws p.rows.table) (out : LeavesNothingOut p.rows.table) (well : IsWellFormed p) (f : FrameState) (facts : PointFacts) (function_in : f.function.0 < length p.functions) (fit : SlotsFit p (function_at p f.function.0) f.slots) (fits : ViewFits p (function_at p f.function.0) f.slots (known_of facts)) where
  abbrev g : Function
  g = function_at p f.function.0

  abbrev after : List Change → ℕ → Known
  after changes = known_on p g facts changes

  -- a frame that comes on a way to a next point fits there
  arrives : (slots : Slots) (on : WayShape) → IsWay p f.function.0 on → SlotsFit p g slots → ViewFits p g slots (after on.changes) → Leads p g facts on → FrameFits p (record f { point = on.next; slots = slots })
  arrives slots on is_way slots_fit view_fits leads = record {
    function_in = function_in;
    inside = is_way.next_in;
    own = is_way.same_function;
    reachable = leads.reachable;
    slots = slots_fit;
    views = All-cons (ViewFits p g slots) (known_of (facts_at p on.next.0)) [] (weaker_fits p g slots (after on.changes) (known_of (facts_at p on.next.0)) laws out leads.slots view_fits) (All-nil (ViewFits p g slots));
  }

  -- what is known of the slot of one change, and of others
  changed_same : (slot : SlotId) (how : How) → after (record { slot = slot; how = how } ∷ []) slot.0 ≡ changed p g facts how (known_of facts slot.0)
  changed_same slot how = cond-true (nat_eq slot.0 slot.0) (changed p g facts how (known_of facts slot.0)) (known_of facts slot.0) (eq-eqb slot.0 slot.0 refl)

  changed_other : (slot : SlotId) (how : How) (i : ℕ) → i ≢ slot.0 → after (record { slot = slot; how = how } ∷ []) i ≡ known_of facts i
  changed_other slot how i ne = cond-false (nat_eq slot.0 i) (changed p g facts how (known_of facts i)) (known_of facts i) (ne_eqb slot.0 i (λ e. ne (sym e)))

  -- the same of a slot that gets a fresh cell and a value
  fresh_same : (slot : SlotId) (how : How) → after (is_fresh slot ∷ record { slot = slot; how = how } ∷ []) slot.0 ≡ changed p g facts how (record { assigned = false; held = Declared })
  fresh_same slot how =
      cond-true (nat_eq slot.0 slot.0) _ _ (eq-eqb slot.0 slot.0 refl)
      ∙ ap (changed p g facts how) (cond-true (nat_eq slot.0 slot.0) (record { assigned = false; held = Declared }) (known_of facts slot.0) (eq-eqb slot.0 slot.0 refl))

  fresh_other : (slot : SlotId) (how : How) (i : ℕ) → i ≢ slot.0 → after (is_fresh slot ∷ record { slot = slot; how = how } ∷ []) i ≡ known_of facts i
  fresh_other slot how i ne =
      cond-false (nat_eq slot.0 i) _ _ (ne_eqb slot.0 i (λ e. ne (sym e)))
      ∙ cond-false (nat_eq slot.0 i) (record { assigned = false; held = Declared }) (known_of facts i) (ne_eqb slot.0 i (λ e. ne (sym e)))

  -- an operand has a value of its type
  record Got (from : Operand) : Type 0 where
    value : Value
    held : value_of f.slots from ≡ Some value
    typed : IsTrue (has_type p value (operand_type g facts from))

  got : (from : Operand) → IsOperand g from → IsReadable facts from → Got from
  got (Slot slot) here assigned = let h = fits.holds slot.0 here assigned in record { value = h.value; held = h.held; typed = h.typed }
  got (Constant v) here assigned = record { value = v; held = refl; typed = has_own_type p laws v }

  -- a value has its own or the declared type of a slot
  held_as_typed : (slot : SlotId) (t : Ty) (v : Value) (shared : Bool) → IsTrue (has_type p v (declared_at g slot.0)) → IsTrue (has_type p v t) → IsTrue (has_type p v (held_type (declared_at g slot.0) (held_as shared t)))
  held_as_typed slot t v true declared typed = declared
  held_as_typed slot t v false declared typed = typed

  -- a value that has the declared type of a slot goes into it, and the slot has what is known then
  good_put : (to : SlotId) (next : PointId) (changes : List Change) (now : Known) (v : Value) → IsWay p f.function.0 (way next changes) → IsSlot g to → IsTrue (has_type p v (declared_at g to.0)) → after changes to.0 ≡ now → ((i : ℕ) → i ≢ to.0 → after changes i ≡ known_of facts i) → IsTrue (has_type p v (held_type (declared_at g to.0) now.held)) → Leads p g facts (way next changes) → IsGood p f (put p g to next v)
  good_put to next changes now v is_way here declared same others typed leads =
      let wide = fit.wide in
      let within : to.0 < length f.slots = omega arith in
      good_if p f (has_type p v (declared_at g to.0)) _ _ declared (
        within,
        arrives (slice_set f.slots to.0 (Some v)) (way next changes) is_way
            (set_slots_fit p g f.slots (known_of facts) (after changes) to (Some v) here wide others (λ w is. subst (λ (x : Value). IsTrue (has_type p x (declared_at g to.0))) (same_some v w is) declared) fit)
            (set_view_fits p g f.slots (known_of facts) (after changes) to (Some v) here wide others
            (λ assigned. set_holds p g f.slots (known_of facts) (after changes) to (Some v) here wide others v _ refl (subst (λ (k : Known). IsTrue (has_type p v (held_type (declared_at g to.0) k.held))) (sym same) typed))
            fits)
            leads,
      )

  -- a value of a type that fits goes into the cell of a slot
  good_store : (to : SlotId) (next : PointId) (ty : TypeSource) (v : Value) → IsWay p f.function.0 (way next (holds to ty ∷ [])) → IsSlot g to → IsTrue (has_type p v (type_from p g facts ty)) → IsTrue (sub p.rows.table (type_from p g facts ty) (declared_at g to.0)) → Leads p g facts (way next (holds to ty ∷ [])) → IsGood p f (put p g to next v)
  good_store to next ty v is_way here typed below leads =
      let declared = has_supertype p laws out v (type_from p g facts ty) (declared_at g to.0) typed below in
      good_put to next (holds to ty ∷ []) (changed p g facts (HoldsType ty) (known_of facts to.0)) v is_way here declared (changed_same to (HoldsType ty)) (changed_other to (HoldsType ty))
      (held_as_typed to (type_from p g facts ty) v (is_shared (known_of facts to.0).held) declared typed) leads

  -- an operator of int on two operands that are asked to be integers
  good_operator : (operator : ℤ → ℤ → Value) (ty : TypeSource) → ((a b : ℤ) → IsTrue (has_type p (operator a b) (type_from p g facts ty))) → (to : SlotId) (next : PointId) (left right : Operand) → IsSlot g to → IsOperand g left → IsOperand g right → IsWay p f.function.0 (way next (holds to ty ∷ [])) → IsReadable facts left → IsReadable facts right → IsTrue (sub p.rows.table (type_from p g facts ty) (declared_at g to.0)) → IsTrue (sub p.rows.table (operand_type g facts left) int) → IsTrue (sub p.rows.table (operand_type g facts right) int) → Leads p g facts (way next (holds to ty ∷ [])) → IsGood p f (with_value (value_of f.slots left) (λ a. with_value (value_of f.slots right) (on_integers operator (put p g to next) a)))
  good_operator operator ty gives to next left right here left_in right_in is_way left_read right_read below left_asked right_asked leads =
      let x = got left left_in left_read in
      let y = got right right_in right_read in
      good_with p f _ _ x.value x.held (good_with p f _ _ y.value y.held (both x.value y.value
      (integer_from p well x.value (has_supertype p laws out x.value _ int x.typed left_asked))
      (integer_from p well y.value (has_supertype p laws out y.value _ int y.typed right_asked))))
    where
      both : (a b : Value) → IsInteger a → IsInteger b → IsGood p f (on_integers operator (put p g to next) a b)
      both Null b ha hb = absurd ha
      both (Boolean a) b ha hb = absurd ha
      both (Integer a) Null ha hb = absurd hb
      both (Integer a) (Boolean b) ha hb = absurd hb
      both (Integer a) (Integer b) ha hb = good_store to next ty (operator a b) is_way here (gives a b) below leads

  good_choose : (v : Value) (when_true when_false : PointId) → IsBoolean v → FrameFits p (record f { point = when_true }) → FrameFits p (record f { point = when_false }) → IsGood p f (choose when_true when_false v)
  good_choose Null when_true when_false h a b = absurd h
  good_choose (Integer n) when_true when_false h a b = absurd h
  good_choose (Boolean true) when_true when_false h a b = a
  good_choose (Boolean false) when_true when_false h a b = b

  -- a branch on what is no constant bool
  good_branch : (on : Operand) (when_true when_false : PointId) → IsOperand g on → IsWay p f.function.0 (straight when_true) → IsWay p f.function.0 (straight when_false) → IsReadable facts on → IsTrue (sub p.rows.table (operand_type g facts on) bool) → Leads p g facts (straight when_true) → Leads p g facts (straight when_false) → IsGood p f (with_value (value_of f.slots on) (choose when_true when_false))
  good_branch on when_true when_false on_in true_in false_in read asked to_true to_false =
      let x = got on on_in read in
      good_with p f _ _ x.value x.held (good_choose x.value when_true when_false (boolean_from p well x.value (has_supertype p laws out x.value _ bool x.typed asked))
      (arrives f.slots (straight when_true) true_in fit fits to_true)
      (arrives f.slots (straight when_false) false_in fit fits to_false))

  -- a value of a slot that isn't null has the type without null
  narrowed_typed : (slot : SlotId) (v : Value) (held : Held) → IsNotNull v → IsTrue (has_type p v (held_type (declared_at g slot.0) held)) → IsTrue (has_type p v (held_type (declared_at g slot.0) (held_as (is_shared held) (without_null p.rows.table (held_type (declared_at g slot.0) held)))))
  narrowed_typed slot v Declared some h = has_without_null p laws v _ some h
  narrowed_typed slot v (Own t) some h = has_without_null p laws v _ some h
  narrowed_typed slot v Shared some h = h

  -- a test for null narrows the slot where it isn't null
  good_test : (slot : SlotId) (null other : PointId) → IsSlot g slot → IsWay p f.function.0 (straight null) → IsWay p f.function.0 (way other (narrows slot (NonNullType slot) ∷ [])) → IsReadable facts (Slot slot) → Leads p g facts (straight null) → Leads p g facts (way other (narrows slot (NonNullType slot) ∷ [])) → IsGood p f (with_value (value_at f.slots slot) (λ v. Does (Go (if_null null other v))))
  good_test slot null other here null_in other_in read to_null to_other =
      let x = got (Slot slot) here read in
      good_with p f _ _ x.value x.held (by_value here x.value x.held x.typed)
    where
      bare : Change
      bare = narrows slot (NonNullType slot)

      -- the slot keeps its value, which isn't null
      narrowed : IsSlot g slot → (v : Value) → IsNotNull v → value_at f.slots slot ≡ Some v → IsTrue (has_type p v (slot_type g facts slot)) → FrameFits p (record f { point = other })
      narrowed here v some held typed =
          let set = set_view_fits p g f.slots (known_of facts) (after (bare ∷ [])) slot (Some v) here fit.wide (changed_other slot (Narrows (NonNullType slot)))
          (λ assigned. set_holds p g f.slots (known_of facts) (after (bare ∷ [])) slot (Some v) here fit.wide (changed_other slot (Narrows (NonNullType slot))) v _ refl
          (subst (λ (k : Known). IsTrue (has_type p v (held_type (declared_at g slot.0) k.held))) (sym (changed_same slot (Narrows (NonNullType slot)))) (narrowed_typed slot v (known_of facts slot.0).held some typed)))
          fits in
          arrives f.slots (way other (bare ∷ [])) other_in fit
          (subst (λ (s : Slots). ViewFits p g s (after (bare ∷ []))) (set_back f.slots slot.0 (Some v) held) set)
          to_other

      by_value : IsSlot g slot → (v : Value) → value_at f.slots slot ≡ Some v → IsTrue (has_type p v (slot_type g facts slot)) → FrameFits p (record f { point = if_null null other v })
      by_value here Null held typed = arrives f.slots (straight null) null_in fit fits to_null
      by_value here (Integer n) held typed = narrowed here (Integer n) tt held typed
      by_value here (Boolean b) held typed = narrowed here (Boolean b) tt held typed

  -- the row of a term whose shape no clause fails at
  good_row : (term : Term) → IsShape p g f.function.0 (shape term) → IsNamed g (shape term) → IsFine p g facts (shape term) → IsGood p f (row p g f.slots term)
  good_row (Store to from next) inside parts fine =
      let x = got from (parts.reads_in 0 from (lit< tt)) (fine.read 0 from (lit< tt)) in
      good_with p f _ _ x.value x.held (good_store to next (OperandType from) x.value (inside.ways_in 0 (no_way next) (lit< tt)) (parts.stores_in 0 (no_store to) (lit< tt)).slot_in x.typed (fine.stored 0 (no_store to) (lit< tt)) (fine.leads 0 (no_way next) (lit< tt)))
  good_row (Declare slot next) inside parts fine =
      let is_way = inside.ways_in 0 (no_way next) (lit< tt) in
      let here = inside.slots_in 0 slot (lit< tt) in
      let wide = fit.wide in
      let within : slot.0 < length f.slots = omega arith in (
        within,
        arrives (slice_set f.slots slot.0 None) (way next (is_fresh slot ∷ [])) is_way
            (set_slots_fit p g f.slots (known_of facts) (after (is_fresh slot ∷ [])) slot None here wide (changed_other slot Fresh) (λ w is. absurd cc) fit)
            (set_view_fits p g f.slots (known_of facts) (after (is_fresh slot ∷ [])) slot None here wide (changed_other slot Fresh)
            (λ assigned. absurd (let no : false ≡ true = ap (λ (k : Known). k.assigned) (sym (changed_same slot Fresh)) ∙ assigned in cc)) fits)
            (fine.leads 0 (no_way next) (lit< tt)),
      )
  good_row (Initialize slot from next) inside parts fine =
      let x = got from (parts.reads_in 0 from (lit< tt)) (fine.read 0 from (lit< tt)) in
      let is_way = inside.ways_in 0 (no_way next) (lit< tt) in
      let here = (parts.stores_in 0 (no_store slot) (lit< tt)).slot_in in
      let declared = has_supertype p laws out x.value (operand_type g facts from) (declared_at g slot.0) x.typed (fine.stored 0 (no_store slot) (lit< tt)) in
      good_with p f _ _ x.value x.held (good_put slot next (is_fresh slot ∷ holds slot (OperandType from) ∷ []) (record { assigned = true; held = Own (operand_type g facts from) }) x.value is_way here declared
      (fresh_same slot (HoldsType (OperandType from))) (fresh_other slot (HoldsType (OperandType from))) x.typed (fine.leads 0 (no_way next) (lit< tt)))
  good_row (Add to left right next) inside parts fine =
      good_operator sum_of IntType (λ a b. has_own_type p laws (sum_of a b)) to next left right (parts.stores_in 0 (no_store to) (lit< tt)).slot_in (parts.reads_in 0 left (lit< tt)) (parts.reads_in 1 left (lit< tt)) (inside.ways_in 0 (no_way next) (lit< tt))
      (fine.read 0 left (lit< tt)) (fine.read 1 left (lit< tt)) (fine.stored 0 (no_store to) (lit< tt))
      (fine.asked 0 (no_ask left) (lit< tt)) (fine.asked 1 (no_ask left) (lit< tt)) (fine.leads 0 (no_way next) (lit< tt))
  good_row (Less to left right next) inside parts fine =
      good_operator less_of BoolType (λ a b. has_own_type p laws (less_of a b)) to next left right (parts.stores_in 0 (no_store to) (lit< tt)).slot_in (parts.reads_in 0 left (lit< tt)) (parts.reads_in 1 left (lit< tt)) (inside.ways_in 0 (no_way next) (lit< tt))
      (fine.read 0 left (lit< tt)) (fine.read 1 left (lit< tt)) (fine.stored 0 (no_store to) (lit< tt))
      (fine.asked 0 (no_ask left) (lit< tt)) (fine.asked 1 (no_ask left) (lit< tt)) (fine.leads 0 (no_way next) (lit< tt))
  good_row (NotEqual to left right next) inside parts fine =
      let x = got left (parts.reads_in 0 left (lit< tt)) (fine.read 0 left (lit< tt)) in
      let y = got right (parts.reads_in 1 left (lit< tt)) (fine.read 1 left (lit< tt)) in
      good_with p f _ _ x.value x.held (good_with p f _ _ y.value y.held
      (good_store to next BoolType (Boolean (not (same_value x.value y.value))) (inside.ways_in 0 (no_way next) (lit< tt)) (parts.stores_in 0 (no_store to) (lit< tt)).slot_in (has_own_type p laws (Boolean (not (same_value x.value y.value)))) (fine.stored 0 (no_store to) (lit< tt)) (fine.leads 0 (no_way next) (lit< tt))))
  good_row (Branch (Slot slot) when_true when_false) inside parts fine =
      good_branch (Slot slot) when_true when_false (parts.reads_in 0 (Slot slot) (lit< tt)) (inside.ways_in 0 (no_way when_true) (lit< tt)) (inside.ways_in 1 (no_way when_true) (lit< tt))
      (fine.read 0 (Slot slot) (lit< tt)) (fine.asked 0 (no_ask (Slot slot)) (lit< tt)) (fine.leads 0 (no_way when_true) (lit< tt)) (fine.leads 1 (no_way when_true) (lit< tt))
  good_row (Branch (Constant Null) when_true when_false) inside parts fine =
      good_branch (Constant Null) when_true when_false tt (inside.ways_in 0 (no_way when_true) (lit< tt)) (inside.ways_in 1 (no_way when_true) (lit< tt))
      refl (fine.asked 0 (no_ask (Constant Null)) (lit< tt)) (fine.leads 0 (no_way when_true) (lit< tt)) (fine.leads 1 (no_way when_true) (lit< tt))
  good_row (Branch (Constant (Integer n)) when_true when_false) inside parts fine =
      good_branch (Constant (Integer n)) when_true when_false tt (inside.ways_in 0 (no_way when_true) (lit< tt)) (inside.ways_in 1 (no_way when_true) (lit< tt))
      refl (fine.asked 0 (no_ask (Constant Null)) (lit< tt)) (fine.leads 0 (no_way when_true) (lit< tt)) (fine.leads 1 (no_way when_true) (lit< tt))
  good_row (Branch (Constant (Boolean true)) when_true when_false) inside parts fine =
      arrives f.slots (straight when_true) (inside.ways_in 0 (no_way when_true) (lit< tt)) fit fits (fine.leads 0 (no_way when_true) (lit< tt))
  good_row (Branch (Constant (Boolean false)) when_true when_false) inside parts fine =
      arrives f.slots (straight when_false) (inside.ways_in 0 (no_way when_false) (lit< tt)) fit fits (fine.leads 0 (no_way when_false) (lit< tt))
  good_row (TestNull slot null other) inside parts fine =
      good_test slot null other (inside.slots_in 0 slot (lit< tt)) (inside.ways_in 0 (no_way null) (lit< tt)) (inside.ways_in 1 (no_way null) (lit< tt)) (fine.read 0 (Slot slot) (lit< tt))
      (fine.leads 0 (no_way null) (lit< tt)) (fine.leads 1 (no_way null) (lit< tt))
  good_row (Goto next) inside parts fine = arrives f.slots (straight next) (inside.ways_in 0 (no_way next) (lit< tt)) fit fits (fine.leads 0 (no_way next) (lit< tt))
  good_row (Output from next) inside parts fine =
      let x = got from (parts.reads_in 0 from (lit< tt)) (fine.read 0 from (lit< tt)) in
      good_with p f _ _ x.value x.held (arrives f.slots (straight next) (inside.ways_in 0 (no_way next) (lit< tt)) fit fits (fine.leads 0 (no_way next) (lit< tt)))
  good_row End inside parts fine = tt

-- the row at which a frame stands that fits
pub row_is_good : (p : Program) → RowLaws p.rows.table → LeavesNothingOut p.rows.table → IsWellFormed p → IsAccepted p → (f : FrameState) → FrameFits p f → IsGood p f (row_at p f)
row_is_good p laws out well accepted f fits =
    let k = f.point.0 in
    let point = well.points_in k (point_at p k) (slice_get-get_or p.points k no_point fits.inside) in
    let inside = subst (λ (n : ℕ). IsShape p (function_at p n) n (shape (point_at p k).term)) fits.own point.shape_in in
    let fine = subst (λ (n : ℕ). IsFine p (function_at p n) (facts_at p k) (shape (point_at p k).term)) fits.own ((accepted.each k fits.inside).fine fits.reachable) in
    good_row p laws out well f (facts_at p k) fits.function_in fits.slots (All-head (ViewFits p (function_at p f.function.0) f.slots) _ [] fits.views) (point_at p k).term inside (named (function_at p f.function.0) (point_at p k).term inside.slots_in) fine
