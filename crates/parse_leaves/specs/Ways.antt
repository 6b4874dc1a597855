-- Expressions, of which the first operand is read once.
use Rattle.std.proofs.Common.{◌≡◌, ℕ, Bool, true, false, if◌then◌else◌, List, length, Option, Some, None, Result, refl, sym, ap, subst, ◌∙◌}
use Rattle.dart_tokens.specs.declared.token.Kind.TheVariants as kind
use Rattle.dart_tree.specs.Tree.{Tree}
use Rattle.dart_tree.specs.declared.operators.AssignmentOperator.{AssignmentOperator}
use Rattle.readings.specs.Readings.{Reading, tokens_read}
use Rattle.readings.specs.Descent.{Descent, take_onto, climb, bind, or_else, take_once, take_where, ◌▸◌}
use Rattle.readings.specs.Levels.{levels_climb}
use Rattle.dart_tokens.specs.declared.grouped_token.GroupedToken.{GroupedToken as Token}
use Rattle.grammar.specs.declared.level.Level.{Level}
use Rattle.grammar.specs.declared.level.Setting.{Setting}
use Rattle.grammar.specs.Tokens.{heads}
use Rattle.grammar.specs.Operators.{table, take_assignment}
use Rattle.grammar.specs.Expressions.{times_behind, side_with, assign_of, cascade_of, is_open}
use Rattle.grammar.specs.Descents.{Lower, take_unary, take_operand, take_right, take_assignment_expression, take_throw, take_cascade_section, take_cascade, take_expression}
use Rattle.parse_leaves.specs.declared.miss.Miss.{Miss}
use Rattle.parse_leaves.specs.Answers.{Gives}

climbed : (n : ℕ) (m : Setting) (l : Lower) (above : List Level) (ts : List Token) (x : Reading Token Tree) → take_unary n m l ts ≡ Some x →
    take_operand n m l above ts ≡ climb (times_behind m) (is_open n) side_with (take_right m l) ts above x
unfolding take_operand
climbed n m l above ts x e = levels_climb (times_behind m) (is_open n) side_with (take_right m l) (take_unary n m l) above ts ∙ ap (λ o. bind o (climb (times_behind m) (is_open n) side_with (take_right m l) ts above)) e

-- without a first operand there is none
pub operand_missing : (n : ℕ) (m : Setting) (l : Lower) (above : List Level) (ts : List Token) → take_unary n m l ts ≡ None → take_operand n m l above ts ≡ None
unfolding take_operand
operand_missing n m l above ts e = levels_climb (times_behind m) (is_open n) side_with (take_right m l) (take_unary n m l) above ts ∙ ap (λ o. bind o (climb (times_behind m) (is_open n) side_with (take_right m l) ts above)) e

-- what is given behind the first operand is given of the whole
pub gives_operand : {X : Type 0} (view : X → Reading Token Tree) (r : Result X Miss) (n : ℕ) (m : Setting) (l : Lower) (above : List Level) (ts : List Token) (x : Reading Token Tree) → take_unary n m l ts ≡ Some x →
    Gives view r (climb (times_behind m) (is_open n) side_with (take_right m l) ts above x) → Gives view r (take_operand n m l above ts)
gives_operand view r n m l above ts x e g = subst (λ o. Gives view r o) (sym (climbed n m l above ts x e)) g

-- a cascade without a first operand, and one of which nothing is found behind it
pub cascade_missing : (n : ℕ) (m : Setting) (l : Lower) (ts : List Token) (x : Reading Token Tree) → take_unary n m l ts ≡ Some x → climb (times_behind m) (is_open n) side_with (take_right m l) ts table x ≡ None → take_cascade n m l ts ≡ None
unfolding take_cascade
cascade_missing n m l ts x e d = ap (λ o. bind o (λ y. take_onto ts (length y.1) (is_open n) cascade_of (take_cascade_section m l) y.0 y.1)) (climbed n m l table ts x e ∙ d)

pub gives_cascade : {X : Type 0} (view : X → Reading Token Tree) (r : Result X Miss) (n : ℕ) (m : Setting) (l : Lower) (ts : List Token) (x y : Reading Token Tree) → take_unary n m l ts ≡ Some x →
    climb (times_behind m) (is_open n) side_with (take_right m l) ts table x ≡ Some y → Gives view r (take_onto ts (length y.1) (is_open n) cascade_of (take_cascade_section m l) y.0 y.1) → Gives view r (take_cascade n m l ts)
unfolding take_cascade
gives_cascade view r n m l ts x y e d g =
    subst (λ o. Gives view r o) (sym (ap (λ o. bind o (λ y. take_onto ts (length y.1) (is_open n) cascade_of (take_cascade_section m l) y.0 y.1)) (climbed n m l table ts x e ∙ d))) g

-- Assignments.

abbrev value : Setting → Lower → Descent Token (AssignmentOperator × Tree)
value m l = take_assignment ▸ l.expression m

abbrev unassigned : ℕ → Setting → Lower → Descent Token Tree
unassigned n m l = take_where (heads kind.Throw) (take_throw m l) (take_cascade n m l)

pub expression_assigned : (n : ℕ) (m : Setting) (l : Lower) (ts : List Token) (x : Reading Token Tree) (y : Reading Token (AssignmentOperator × Tree)) → take_unary n m l ts ≡ Some x → is_open n x.0 ≡ true → value m l x.1 ≡ Some y →
    take_expression n m l ts ≡ Some (assign_of (tokens_read ts y.1) x.0 y.0, y.1)
unfolding take_expression take_assignment_expression
expression_assigned n m l ts x y e d c = rw (e, d, c) refl

pub expression_deep : {X : Type 0} (view : X → Reading Token Tree) (r : Result X Miss) (n : ℕ) (m : Setting) (l : Lower) (ts : List Token) (x : Reading Token Tree) → take_unary n m l ts ≡ Some x → is_open n x.0 ≡ false →
    Gives view r (unassigned n m l ts) → Gives view r (take_expression n m l ts)
unfolding take_expression take_assignment_expression
expression_deep view r n m l ts x e d g = rw (e, d) g

stays_none : {A : Type 0} (b : Bool) (o : Option A) → o ≡ None → (if b then o else None) ≡ None
stays_none true o e = e
stays_none false o e = refl

pub expression_plain : {X : Type 0} (view : X → Reading Token Tree) (r : Result X Miss) (n : ℕ) (m : Setting) (l : Lower) (ts : List Token) (x : Reading Token Tree) → take_unary n m l ts ≡ Some x → value m l x.1 ≡ None →
    Gives view r (unassigned n m l ts) → Gives view r (take_expression n m l ts)
unfolding take_expression take_assignment_expression
expression_plain view r n m l ts x e d g =
    let none : bind (value m l x.1) (λ y. Some (assign_of (tokens_read ts y.1) x.0 y.0, y.1)) ≡ None = ap (λ o. bind o (λ y. Some (assign_of (tokens_read ts y.1) x.0 y.0, y.1))) d in
    let out : take_once (is_open n) assign_of (take_unary n m l) (value m l) ts ≡ None =
    ap (λ o. bind o (λ z. if is_open n z.0 then bind (value m l z.1) (λ y. Some (assign_of (tokens_read ts y.1) z.0 y.0, y.1)) else None)) e ∙ stays_none (is_open n x.0) (bind (value m l x.1) (λ y. Some (assign_of (tokens_read ts y.1) x.0 y.0, y.1))) none in
    subst (λ o. Gives view r o) (sym (ap (λ o. or_else o (unassigned n m l ts)) out)) g

-- Nothing is read first.

pub expression_thrown : {X : Type 0} (view : X → Reading Token Tree) (r : Result X Miss) (n : ℕ) (m : Setting) (l : Lower) (ts : List Token) → take_unary n m l ts ≡ None → heads kind.Throw ts ≡ true →
    Gives view r (take_throw m l ts) → Gives view r (take_expression n m l ts)
unfolding take_expression take_assignment_expression
expression_thrown view r n m l ts e d g = rw (e, d) g

pub expression_missing : (n : ℕ) (m : Setting) (l : Lower) (ts : List Token) → take_unary n m l ts ≡ None → heads kind.Throw ts ≡ false → take_expression n m l ts ≡ None
unfolding take_expression take_assignment_expression take_cascade
expression_missing n m l ts e d = rw (e, d, operand_missing n m l table ts e) refl
