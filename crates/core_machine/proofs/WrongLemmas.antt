-- Which steps go wrong.
use Rattle.std.proofs.Common.{◌≡◌, ℤ, Bool, true, false, cond, not, ◌||◌, ⊎_elim, Some, None, refl, sym, ap, ◌∙◌}
use Rattle.std.specs.Prelude.{Option, is_some, IsTrue, IsFalse}
use Rattle.std.specs.List.{list_any}
use Rattle.core_ir.specs.Program.{Function, Program}
use Rattle.core_ir.specs.Values.{declared_at}
use Rattle.core_ir.specs.declared.points.Operand.TheVariants.{Slot, Constant}
use Rattle.core_check.specs.Known.{function_at}
use Rattle.core_check.specs.Shapes.{shape}
use Rattle.core_ir.specs.declared.points.SlotId.{SlotId}
use Rattle.core_ir.specs.declared.points.PointId.{PointId}
use Rattle.core_ir.specs.declared.points.Term.{Term}
use Rattle.core_ir.specs.declared.points.Term.TheVariants.{Store, Declare, Initialize, Add, Less, NotEqual, Branch, TestNull, Goto, Output, End}
use Rattle.core_ir.specs.declared.values.Value.{Value}
use Rattle.core_ir.specs.declared.values.Value.TheVariants.{Null, Integer, Boolean}
use Rattle.core_machine.specs.declared.effect.RunEnd.{RunEnd}
use Rattle.core_machine.specs.declared.effect.Effect.TheVariants.{Write}
use Rattle.core_machine.specs.Steps.{Kind, BadArgument, NotBool, ReadUnassignedLocal, Slots, Row, Does, Fails, value_of, value_at, with_value, store_fault, has_type, put, on_integers, choose, row}
use Rattle.core_machine.specs.Values.{sum_of, less_of, same_value}
use Rattle.core_machine.specs.State.{State, Wrong, after, unless_over, step_of, row_at}
use Rattle.core_machine.specs.GoingWrong.{lacks_value, term_of, is_integer, is_boolean, receiver_fault, Decides, Operates, ReadsNothing, StoresMisfit}

-- a row that goes wrong is a step that does, unless the run is over
wrong_step : (p : Program) (s : State) (kind : Kind) → s.end ≡ None → row_at p s.running ≡ Fails kind → step_of p s ≡ Wrong kind
wrong_step p s kind going fails = ap (λ (end : Option RunEnd). unless_over end s (after s (row_at p s.running))) going ∙ ap (after s) fails

-- what has no value is read first
missing_one : (o : Option Value) (go : Value → Row) → IsTrue (not (is_some o) || false) → with_value o go ≡ Fails ReadUnassignedLocal
missing_one None go missing = refl
missing_one (Some v) go missing = absurd (cc)

missing_two : (o q : Option Value) (go : Value → Value → Row) → IsTrue (not (is_some o) || (not (is_some q) || false)) → with_value o (λ a. with_value q (go a)) ≡ Fails ReadUnassignedLocal
missing_two None q go missing = refl
missing_two (Some a) None go missing = refl
missing_two (Some a) (Some b) go missing = absurd (cc)

missing_row : (p : Program) (g : Function) (slots : Slots) (term : Term) → IsTrue (list_any (lacks_value slots) (shape term).reads) → row p g slots term ≡ Fails ReadUnassignedLocal
missing_row p g slots (Store to from next) missing = missing_one (value_of slots from) _ missing
missing_row p g slots (Declare slot next) missing = absurd (cc)
missing_row p g slots (Initialize slot from next) missing = missing_one (value_of slots from) _ missing
missing_row p g slots (Add to left right next) missing = missing_two (value_of slots left) (value_of slots right) _ missing
missing_row p g slots (Less to left right next) missing = missing_two (value_of slots left) (value_of slots right) _ missing
missing_row p g slots (NotEqual to left right next) missing = missing_two (value_of slots left) (value_of slots right) _ missing
missing_row p g slots (Branch (Slot on) when_true when_false) missing = missing_one (value_of slots (Slot on)) _ missing
missing_row p g slots (Branch (Constant Null) when_true when_false) missing = absurd (cc)
missing_row p g slots (Branch (Constant (Integer n)) when_true when_false) missing = absurd (cc)
missing_row p g slots (Branch (Constant (Boolean true)) when_true when_false) missing = absurd (cc)
missing_row p g slots (Branch (Constant (Boolean false)) when_true when_false) missing = absurd (cc)
missing_row p g slots (TestNull slot null other) missing = missing_one (value_at slots slot) _ missing
missing_row p g slots (Goto next) missing = absurd (cc)
missing_row p g slots (Output from next) missing = missing_one (value_of slots from) _ missing
missing_row p g slots End missing = absurd (cc)

-- a step that reads what has no value goes wrong
pub reads_nothing_wrong : (p : Program) (s : State) → ReadsNothing p s → step_of p s ≡ Wrong ReadUnassignedLocal
reads_nothing_wrong p s here = wrong_step p s ReadUnassignedLocal here.going (missing_row p (function_at p s.running.function.0) s.running.slots (term_of p s) here.missing)

-- a value goes wrong in a slot whose declared type it hasn't
put_misfit : (p : Program) (g : Function) (to : SlotId) (next : PointId) (v : Value) (o : Option Value) → o ≡ Some v → IsFalse (has_type p v (declared_at g to.0)) → with_value o (put p g to next) ≡ Fails (store_fault v)
put_misfit p g to next v o held misfit =
    ap (λ (x : Option Value). with_value x (put p g to next)) held
    ∙ ap (λ (fits : Bool). cond fits (Does (Write to (Some v) next)) (Fails (store_fault v))) misfit

-- so does a step that stores it
pub stores_misfit_wrong : (p : Program) (s : State) (v : Value) → StoresMisfit p s v → step_of p s ≡ Wrong (store_fault v)
stores_misfit_wrong p s v here =
    let slots = s.running.slots in
    let g = function_at p s.running.function.0 in
    let fails = put_misfit p g here.to here.next v (value_of slots here.from) here.held here.misfit in
    wrong_step p s (store_fault v) here.going (⊎_elim
    (λ is. ap (row p g slots) is ∙ fails)
    (λ is. ap (row p g slots) is ∙ fails)
    here.store)

-- an operator of int goes wrong where its receiver is no integer, and else where its argument is none
receiver_misfit : (operator : ℤ → ℤ → Value) (go : Value → Row) (a b : Value) → IsFalse (is_integer a) → on_integers operator go a b ≡ Fails (receiver_fault a)
receiver_misfit operator go Null b none = refl
receiver_misfit operator go (Integer n) b none = absurd (cc)
receiver_misfit operator go (Boolean a) b none = refl

argument_misfit : (operator : ℤ → ℤ → Value) (go : Value → Row) (a b : Value) → IsTrue (is_integer a) → IsFalse (is_integer b) → on_integers operator go a b ≡ Fails BadArgument
argument_misfit operator go Null b one none = absurd (cc)
argument_misfit operator go (Boolean a) b one none = absurd (cc)
argument_misfit operator go (Integer n) Null one none = refl
argument_misfit operator go (Integer n) (Integer m) one none = absurd (cc)
argument_misfit operator go (Integer n) (Boolean b) one none = refl

-- a row that reads two operands goes on with their values
with_both : (o q : Option Value) (a b : Value) (go : Value → Value → Row) → o ≡ Some a → q ≡ Some b → with_value o (λ x. with_value q (go x)) ≡ go a b
with_both o q a b go first second =
    ap (λ (x : Option Value). with_value x (λ y. with_value q (go y))) first ∙ ap (λ (x : Option Value). with_value x (go a)) second

-- so does a step of such an operator go wrong
operator_wrong : (p : Program) (s : State) (a b : Value) (kind : Kind) → ((operator : ℤ → ℤ → Value) (go : Value → Row) → on_integers operator go a b ≡ Fails kind) → Operates p s a b → step_of p s ≡ Wrong kind
operator_wrong p s a b kind misfit here =
    let slots = s.running.slots in
    let g = function_at p s.running.function.0 in
    wrong_step p s kind here.going (⊎_elim
    (λ is. ap (row p g slots) is ∙ with_both (value_of slots here.left) (value_of slots here.right) a b (on_integers sum_of (put p g here.to here.next)) here.receiver here.argument ∙ misfit sum_of (put p g here.to here.next))
    (λ is. ap (row p g slots) is ∙ with_both (value_of slots here.left) (value_of slots here.right) a b (on_integers less_of (put p g here.to here.next)) here.receiver here.argument ∙ misfit less_of (put p g here.to here.next))
    here.operator)

pub receiver_wrong : (p : Program) (s : State) (a b : Value) → Operates p s a b → IsFalse (is_integer a) → step_of p s ≡ Wrong (receiver_fault a)
receiver_wrong p s a b here none = operator_wrong p s a b (receiver_fault a) (λ operator go. receiver_misfit operator go a b none) here

pub argument_wrong : (p : Program) (s : State) (a b : Value) → Operates p s a b → IsTrue (is_integer a) → IsFalse (is_integer b) → step_of p s ≡ Wrong BadArgument
argument_wrong p s a b here one none = operator_wrong p s a b BadArgument (λ operator go. argument_misfit operator go a b one none) here

-- a condition that is no truth value goes wrong
choice_misfit : (when_true when_false : PointId) (v : Value) → IsFalse (is_boolean v) → choose when_true when_false v ≡ Fails NotBool
choice_misfit when_true when_false Null none = refl
choice_misfit when_true when_false (Integer n) none = refl
choice_misfit when_true when_false (Boolean b) none = absurd (cc)

pub condition_wrong : (p : Program) (s : State) (v : Value) → Decides p s v → IsFalse (is_boolean v) → step_of p s ≡ Wrong NotBool
condition_wrong p s v here none =
    let slots = s.running.slots in
    let g = function_at p s.running.function.0 in
    wrong_step p s NotBool here.going
    (ap (row p g slots) here.branch
    ∙ ap (λ (x : Option Value). with_value x (choose here.when_true here.when_false)) here.condition
    ∙ choice_misfit here.when_true here.when_false v none)

-- what a row writes has the declared type of its slot
abbrev Declares : Program → Function → Row → Type 0
Declares p g r = (to : SlotId) (v : Value) (next : PointId) → r ≡ Does (Write to (Some v) next) → IsTrue (has_type p v (declared_at g to.0))

put_declares : (p : Program) (g : Function) (to : SlotId) (next : PointId) (v : Value) → Declares p g (put p g to next v)
put_declares p g to next v slot w after is = by (has_type p v (declared_at g to.0)) refl is
  where
    by : (fits : Bool) → has_type p v (declared_at g to.0) ≡ fits → cond fits (Does (Write to (Some v) next)) (Fails (store_fault v)) ≡ Does (Write slot (Some w) after) → IsTrue (has_type p w (declared_at g slot.0))
    by true fits same =
        let here : to ≡ slot = cc in
        let value : v ≡ w = cc in
        rw (sym here, sym value) fits
    by false fits same = absurd (cc)

read_declares : (p : Program) (g : Function) (o : Option Value) (go : Value → Row) → ((v : Value) → Declares p g (go v)) → Declares p g (with_value o go)
read_declares p g None go each slot w after is = absurd (cc)
read_declares p g (Some v) go each slot w after is = each v slot w after is

integers_declare : (p : Program) (g : Function) (operator : ℤ → ℤ → Value) (go : Value → Row) → ((v : Value) → Declares p g (go v)) → (a b : Value) → Declares p g (on_integers operator go a b)
integers_declare p g operator go each Null b slot w after is = absurd (cc)
integers_declare p g operator go each (Boolean a) b slot w after is = absurd (cc)
integers_declare p g operator go each (Integer a) Null slot w after is = absurd (cc)
integers_declare p g operator go each (Integer a) (Boolean b) slot w after is = absurd (cc)
integers_declare p g operator go each (Integer a) (Integer b) slot w after is = each (operator a b) slot w after is

choice_declares : (p : Program) (g : Function) (when_true when_false : PointId) (v : Value) → Declares p g (choose when_true when_false v)
choice_declares p g when_true when_false Null slot w after is = absurd (cc)
choice_declares p g when_true when_false (Integer n) slot w after is = absurd (cc)
choice_declares p g when_true when_false (Boolean true) slot w after is = absurd (cc)
choice_declares p g when_true when_false (Boolean false) slot w after is = absurd (cc)

pub row_declares : (p : Program) (g : Function) (slots : Slots) (term : Term) → Declares p g (row p g slots term)
row_declares p g slots (Store to from next) = read_declares p g (value_of slots from) _ (put_declares p g to next)
row_declares p g slots (Declare slot next) = λ to v after is. absurd (cc)
row_declares p g slots (Initialize slot from next) = read_declares p g (value_of slots from) _ (put_declares p g slot next)
row_declares p g slots (Add to left right next) =
    read_declares p g (value_of slots left) _ (λ a. read_declares p g (value_of slots right) _ (integers_declare p g sum_of (put p g to next) (put_declares p g to next) a))
row_declares p g slots (Less to left right next) =
    read_declares p g (value_of slots left) _ (λ a. read_declares p g (value_of slots right) _ (integers_declare p g less_of (put p g to next) (put_declares p g to next) a))
row_declares p g slots (NotEqual to left right next) =
    read_declares p g (value_of slots left) _ (λ a. read_declares p g (value_of slots right) _ (λ b. put_declares p g to next (Boolean (not (same_value a b)))))
row_declares p g slots (Branch on when_true when_false) = read_declares p g (value_of slots on) _ (choice_declares p g when_true when_false)
row_declares p g slots (TestNull slot null other) = read_declares p g (value_at slots slot) _ (λ v to w after is. absurd (cc))
row_declares p g slots (Goto next) = λ to v after is. absurd (cc)
row_declares p g slots (Output from next) = read_declares p g (value_of slots from) _ (λ v to w after is. absurd (cc))
row_declares p g slots End = λ to v after is. absurd (cc)
