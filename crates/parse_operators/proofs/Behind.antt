-- What is read behind an operand that has been read is read of the whole.
use Rattle.std.proofs.Common.{◌≡◌, ℕ, List, length, Some, None, Result, true, false, refl, sym, ap, subst, arith}
use Rattle.dart_tokens.specs.declared.token.Kind.TheVariants as kind
use Rattle.dart_tree.specs.Tree.{Tree}
use Rattle.dart_tree.specs.declared.operators.AssignmentOperator.{AssignmentOperator}
use Rattle.readings.specs.Readings.{Reading, tokens_read}
use Rattle.readings.specs.Descent.{Descent, bind, climb, take_onto, take_chain, take_where, ◌▸◌}
use Rattle.dart_tokens.specs.declared.grouped_token.GroupedToken.{GroupedToken as Token}
use Rattle.grammar.specs.declared.level.Level.{Level}
use Rattle.grammar.specs.declared.level.Setting.{Setting}
use Rattle.grammar.specs.Tokens.{heads}
use Rattle.grammar.specs.Types.{every_time}
use Rattle.grammar.specs.Operators.{table, take_assignment}
use Rattle.grammar.specs.Expressions.{times_behind, side_with, assign_of, cascade_of, select_with, is_open}
use Rattle.grammar.specs.Descents.{Lower, take_unary, take_operand, take_right, take_throw, take_cascade_section, take_cascade, take_selector, take_section_head, take_section, take_expression}
use Rattle.parse_leaves.specs.declared.miss.Miss.{Miss}
use Rattle.parse_leaves.specs.Answers.{Gives}
use Rattle.parse_leaves.specs.Loops.{onto_goes, onto_ends}
use Rattle.parse_leaves.specs.Ways.{gives_operand, gives_cascade, expression_deep, expression_plain, expression_assigned}

-- levels
pub gives_operand_behind : {X : Type 0} (view : X → Reading Token Tree) (r : Result X Miss) (n : ℕ) (m : Setting) (l : Lower) (above : List Level) (ts us : List Token) (first : Tree) → take_unary n m l ts ≡ Some (first, us) →
    Gives view r (climb (times_behind m) (is_open n) side_with (take_right m l) ts above (first, us)) → Gives view r (take_operand n m l above ts)
gives_operand_behind view r n m l above ts us first e g = gives_operand view r n m l above ts (first, us) e g

-- sections of a cascade
pub gives_cascade_behind : {X : Type 0} (view : X → Reading Token Tree) (r : Result X Miss) (n : ℕ) (m : Setting) (l : Lower) (ts us vs : List Token) (first left : Tree) → take_unary n m l ts ≡ Some (first, us) →
    climb (times_behind m) (is_open n) side_with (take_right m l) ts table (first, us) ≡ Some (left, vs) → Gives view r (take_onto ts (length vs) (is_open n) cascade_of (take_cascade_section m l) left vs) → Gives view r (take_cascade n m l ts)
gives_cascade_behind view r n m l ts us vs first left e d g = gives_cascade view r n m l ts (first, us) (left, vs) e d g

-- Expressions.

-- nothing may stand behind what would be assigned to
pub gives_deep : {X : Type 0} (view : X → Reading Token Tree) (r : Result X Miss) (n : ℕ) (m : Setting) (l : Lower) (ts us : List Token) (first : Tree) → take_unary n m l ts ≡ Some (first, us) → is_open n first ≡ false →
    Gives view r (take_where (heads kind.Throw) (take_throw m l) (take_cascade n m l) ts) → Gives view r (take_expression n m l ts)
gives_deep view r n m l ts us first e full g = expression_deep view r n m l ts (first, us) e full g

-- nothing is assigned
pub gives_plain : {X : Type 0} (view : X → Reading Token Tree) (r : Result X Miss) (n : ℕ) (m : Setting) (l : Lower) (ts us : List Token) (first : Tree) → take_unary n m l ts ≡ Some (first, us) → (take_assignment ▸ l.expression m) us ≡ None →
    Gives view r (take_where (heads kind.Throw) (take_throw m l) (take_cascade n m l) ts) → Gives view r (take_expression n m l ts)
gives_plain view r n m l ts us first e none g = expression_plain view r n m l ts (first, us) e none g

-- a value is assigned
pub gives_assigned : {X : Type 0} (view : X → Reading Token Tree) (r : Result X Miss) (n : ℕ) (m : Setting) (l : Lower) (ts us vs : List Token) (first value : Tree) (operator : AssignmentOperator) → take_unary n m l ts ≡ Some (first, us) → is_open n first ≡ true →
    (take_assignment ▸ l.expression m) us ≡ Some ((operator, value), vs) → Gives view r (Some (assign_of (tokens_read ts vs) first (operator, value), vs)) → Gives view r (take_expression n m l ts)
gives_assigned view r n m l ts us vs first value operator e still d g =
    subst (λ o. Gives view r o) (sym (expression_assigned n m l ts (first, us) ((operator, value), vs) e still d)) g

-- Sections.

abbrev head : ℕ → Setting → Lower → Descent Token Tree → Descent Token Tree
head n m l expression = take_chain every_time (is_open n) select_with (take_section_head expression) (take_selector m l)

-- selectors behind a section's beginning
pub gives_target : {X : Type 0} (view : X → Reading Token Tree) (r : Result X Miss) (n : ℕ) (m : Setting) (l : Lower) (expression : Descent Token Tree) (ts us : List Token) (first : Tree) → take_section_head expression ts ≡ Some (first, us) →
    Gives view r (take_onto ts (length us) (is_open n) select_with (take_selector m l) first us) → Gives view r (head n m l expression ts)
gives_target view r n m l expression ts us first e g = subst (λ o. Gives view r o) (sym (ap (λ o. bind o (λ x. take_onto ts (length x.1) (is_open n) select_with (take_selector m l) x.0 x.1)) e)) g

pub section_missing : (n : ℕ) (m : Setting) (l : Lower) (expression : Descent Token Tree) (ts : List Token) → head n m l expression ts ≡ None → take_section n m l expression ts ≡ None
unfolding take_section
section_missing n m l expression ts e = rw e refl

-- nothing may stand behind what would be assigned to
pub section_deep : (n : ℕ) (m : Setting) (l : Lower) (expression : Descent Token Tree) (ts us : List Token) (target : Tree) → head n m l expression ts ≡ Some (target, us) → is_open n target ≡ false → take_section n m l expression ts ≡ Some (target, us)
unfolding take_section
section_deep n m l expression ts us target e full = rw (e, full) refl

-- nothing is assigned
pub section_plain : (n : ℕ) (m : Setting) (l : Lower) (expression : Descent Token Tree) (ts us : List Token) (target : Tree) → head n m l expression ts ≡ Some (target, us) → (take_assignment ▸ l.operand m table) us ≡ None →
    take_section n m l expression ts ≡ Some (target, us)
unfolding take_section
section_plain n m l expression ts us target e none = rw e (onto_ends ts 1 (is_open n) assign_of (take_assignment ▸ l.operand m table) target us none)

section_made : (n : ℕ) (m : Setting) (l : Lower) (expression : Descent Token Tree) (ts us vs : List Token) (target value : Tree) (operator : AssignmentOperator) → head n m l expression ts ≡ Some (target, us) → is_open n target ≡ true →
    (take_assignment ▸ l.operand m table) us ≡ Some ((operator, value), vs) → take_section n m l expression ts ≡ Some (assign_of (tokens_read ts vs) target (operator, value), vs)
unfolding take_section
section_made n m l expression ts us vs target value operator e still d =
    rw e (onto_goes ts 1 (is_open n) assign_of (take_assignment ▸ l.operand m table) target us ((operator, value), vs) (omega arith) still d)

-- a value is assigned
pub gives_section : {X : Type 0} (view : X → Reading Token Tree) (r : Result X Miss) (n : ℕ) (m : Setting) (l : Lower) (expression : Descent Token Tree) (ts us vs : List Token) (target value : Tree) (operator : AssignmentOperator) → head n m l expression ts ≡ Some (target, us) →
    is_open n target ≡ true → (take_assignment ▸ l.operand m table) us ≡ Some ((operator, value), vs) → Gives view r (Some (assign_of (tokens_read ts vs) target (operator, value), vs)) → Gives view r (take_section n m l expression ts)
gives_section view r n m l expression ts us vs target value operator e still d g = subst (λ o. Gives view r o) (sym (section_made n m l expression ts us vs target value operator e still d)) g
