-- What is read of extents is what is read of trees, seen by their extents.
use Rattle.std.proofs.Common.{◌≡◌, ℕ, zero, suc, Bool, true, false, if◌then◌else◌, List, [], ◌∷◌, length, Option, Some, None, option_map, Ok, Err, refl, ap, ◌∙◌}
use Rattle.readings.specs.Readings.{Reading, tokens_read}
use Rattle.readings.specs.Descent.{Descent, bind, or_else, climb, take_onto, take_where, ◌▸◌}
use Rattle.readings.specs.Levels.{levels_climb}
use Rattle.dart_tree.specs.Tree.{Tree}
use Rattle.dart_tokens.specs.declared.token.Kind.TheVariants as kind
use Rattle.dart_tokens.specs.declared.grouped_token.GroupedToken.{GroupedToken as Token}
use Rattle.dart_tree.specs.declared.operators.AssignmentOperator.{AssignmentOperator}
use Rattle.grammar.specs.declared.level.Level.{Level}
use Rattle.grammar.specs.declared.level.Setting.TheVariants as setting
use Rattle.grammar.specs.Tokens.{heads}
use Rattle.grammar.specs.Operators.{table, take_assignment}
use Rattle.grammar.specs.Expressions.{Side, operated, tested, cast, choices, times_behind, side_with, cascade_of, is_open}
use Rattle.grammar.specs.Descents.{lower, take_unary, take_operand, take_right, take_throw, take_cascade_section, take_cascade, take_expression}
use Rattle.parse_leaves.specs.declared.miss.Miss.TheVariants.{NoReading}
use Rattle.parse_leaves.specs.Ways.{expression_deep, expression_plain, expression_assigned, expression_missing}
use Rattle.parse_operators.specs.declared.extents.Extent.{Extent}
use Rattle.parse_operators.specs.Ends.{end_of, extent_of, side_extent, section_extent, joined, goes_on, seen, side_behind, times_seen, all_behind, assignment_behind, cascade_behind}

-- Right sides.

or_seen : {T A C : Type 0} (view : A → C) (o : Option (Reading T A)) (x : Reading T A) →
    option_map (λ (y : Reading T A). (view y.0, y.1)) (or_else o (Some x)) ≡ or_else (option_map (λ (y : Reading T A). (view y.0, y.1)) o) (Some (view x.0, x.1))
or_seen view None x = refl
or_seen view (Some y) x = refl

step_seen : {T A B C D : Type 0} (view : A → C) (part : B → D) (b : Bool) (o : Option (Reading T B)) (f : Reading T B → Option (Reading T A)) (g : Reading T D → Option (Reading T C)) (left : A) (ts : List T) →
    ((y : Reading T B) → option_map (λ (x : Reading T A). (view x.0, x.1)) (f y) ≡ g (part y.0, y.1)) →
    option_map (λ (x : Reading T A). (view x.0, x.1)) (if b then or_else (bind o f) (Some (left, ts)) else Some (left, ts))
    ≡ (if b then or_else (bind (option_map (λ (y : Reading T B). (part y.0, y.1)) o) g) (Some (view left, ts)) else Some (view left, ts))
step_seen view part false o f g left ts each = refl
step_seen view part true None f g left ts each = refl
step_seen {T = T} {C = C} view part true (Some y) f g left ts each = or_seen view (f y) (left, ts) ∙ ap (λ (o : Option (Reading T C)). or_else o (Some (view left, ts))) (each y)

onto_seen : {T A B C D : Type 0} (view : A → C) (part : B → D) (start : List T) (n : ℕ) (room : A → Bool) (free : C → Bool) (join : List T → A → B → A) (both : List T → C → D → C) (h : Descent T B) →
    ((a : A) → room a ≡ free (view a)) → ((read other : List T) (a : A) (b : B) → view (join read a b) ≡ both other (view a) (part b)) → (left : A) (ts : List T) →
    option_map (λ (x : Reading T A). (view x.0, x.1)) (take_onto start n room join h left ts) ≡ take_onto [] n free both (λ us. option_map (λ (y : Reading T B). (part y.0, y.1)) (h us)) (view left) ts
onto_seen view part start zero room free join both h same joins left ts = refl
onto_seen {T = T} {A = A} {B = B} {C = C} {D = D} view part start (suc n) room free join both h same joins left ts =
    let g : Reading T D → Option (Reading T C) = λ z. take_onto [] n free both (λ us. option_map (λ (y : Reading T B). (part y.0, y.1)) (h us)) (both (tokens_read [] z.1) (view left) z.0) z.1 in
    step_seen view part (room left) (h ts) (λ y. take_onto start n room join h (join (tokens_read start y.1) left y.0) y.1) g left ts
    (λ y. onto_seen view part start n room free join both h same joins (join (tokens_read start y.1) left y.0) y.1
    ∙ ap (λ (c : C). take_onto [] n free both (λ us. option_map (λ (w : Reading T B). (part w.0, w.1)) (h us)) c y.1) (joins (tokens_read start y.1) (tokens_read [] y.1) left y.0))
    ∙ ap (λ (b : Bool). if b then or_else (bind (option_map (λ (y : Reading T B). (part y.0, y.1)) (h ts)) g) (Some (view left, ts)) else Some (view left, ts)) (same left)

-- Levels.

bind_seen : {T A C : Type 0} (view : A → C) (o : Option (Reading T A)) (f : Reading T A → Option (Reading T A)) (g : Reading T C → Option (Reading T C)) →
    ((y : Reading T A) → option_map (λ (x : Reading T A). (view x.0, x.1)) (f y) ≡ g (view y.0, y.1)) →
    option_map (λ (x : Reading T A). (view x.0, x.1)) (bind o f) ≡ bind (option_map (λ (x : Reading T A). (view x.0, x.1)) o) g
bind_seen view None f g each = refl
bind_seen view (Some y) f g each = each y

side_joined : (read other : List Token) (left : Tree) (side : Side) → extent_of (side_with read left side) ≡ joined other (extent_of left) (side_extent side)
side_joined read other left (operated operator right) = refl
side_joined read other left (tested negated written) = refl
side_joined read other left (cast written) = refl
side_joined read other left (choices then_value else_value) = refl

section_joined : (read other : List Token) (left : Tree) (section : Bool × Tree) → extent_of (cascade_of read left section) ≡ joined other (extent_of left) (section_extent section)
section_joined read other left (null_aware, section) = refl

climb_seen : (n : ℕ) (start : List Token) (levels : List Level) (left : Tree) (ts : List Token) →
    seen extent_of (climb (times_behind setting.Plain) (is_open n) side_with (take_right setting.Plain (lower n)) start levels (left, ts)) ≡ climb times_seen (goes_on n) joined (side_behind n) [] levels (extent_of left, ts)
climb_seen n start [] left ts = refl
climb_seen n start (r ∷ rs) left ts =
    bind_seen extent_of (climb (times_behind setting.Plain) (is_open n) side_with (take_right setting.Plain (lower n)) start rs (left, ts))
    (λ y. take_onto start (times_behind setting.Plain r y.0 y.1) (is_open n) side_with (take_right setting.Plain (lower n) r rs) y.0 y.1) (λ z. take_onto [] (times_seen r z.0 z.1) (goes_on n) joined (side_behind n r rs) z.0 z.1)
    (λ y. onto_seen extent_of side_extent start (times_behind setting.Plain r y.0 y.1) (is_open n) (goes_on n) side_with joined (take_right setting.Plain (lower n) r rs) (λ a. refl) side_joined y.0 y.1)
    ∙ ap (λ (o : Option (Reading Token Extent)). bind o (λ z. take_onto [] (times_seen r z.0 z.1) (goes_on n) joined (side_behind n r rs) z.0 z.1)) (climb_seen n start rs left ts)

-- Cascades.

sections_seen : (n : ℕ) (start : List Token) (left : Tree) (ts : List Token) →
    seen extent_of (take_onto start (length ts) (is_open n) cascade_of (take_cascade_section setting.Plain (lower n)) left ts) ≡ all_behind n None (extent_of left) ts
sections_seen n start left ts = onto_seen extent_of section_extent start (length ts) (is_open n) (goes_on n) cascade_of joined (take_cascade_section setting.Plain (lower n)) (λ a. refl) section_joined left ts

left_seen : {T A C : Type 0} (view : A → C) (o : Option (Reading T A)) → option_map (λ (x : Reading T A). x.1) o ≡ option_map (λ (x : Reading T C). x.1) (option_map (λ (x : Reading T A). (view x.0, x.1)) o)
left_seen view None = refl
left_seen view (Some x) = refl

operand_climbed : (n : ℕ) (ts : List Token) (x : Reading Token Tree) → take_unary n setting.Plain (lower n) ts ≡ Some x →
    take_operand n setting.Plain (lower n) table ts ≡ climb (times_behind setting.Plain) (is_open n) side_with (take_right setting.Plain (lower n)) ts table x
unfolding take_operand
operand_climbed n ts x e =
    levels_climb (times_behind setting.Plain) (is_open n) side_with (take_right setting.Plain (lower n)) (take_unary n setting.Plain (lower n)) table ts
    ∙ ap (λ (o : Option (Reading Token Tree)). bind o (climb (times_behind setting.Plain) (is_open n) side_with (take_right setting.Plain (lower n)) ts table)) e

cascade_seen : (n : ℕ) (ts us : List Token) (first : Tree) → take_unary n setting.Plain (lower n) ts ≡ Some (first, us) →
    option_map (λ x. x.1) (take_cascade n setting.Plain (lower n) ts) ≡ cascade_behind n (extent_of first) us
unfolding take_cascade
cascade_seen n ts us first e =
    let sections : Reading Token Tree → Option (Reading Token Tree) = λ y. take_onto ts (length y.1) (is_open n) cascade_of (take_cascade_section setting.Plain (lower n)) y.0 y.1 in
    let levels : Option (Reading Token Tree) = climb (times_behind setting.Plain) (is_open n) side_with (take_right setting.Plain (lower n)) ts table (first, us) in
    ap (λ (o : Option (Reading Token Tree)). option_map (λ (x : Reading Token Tree). x.1) (bind o sections)) (operand_climbed n ts (first, us) e)
    ∙ left_seen extent_of (bind levels sections)
    ∙ ap (λ (o : Option (Reading Token Extent)). option_map (λ (x : Reading Token Extent). x.1) o)
    (bind_seen extent_of levels sections (λ z. all_behind n None z.0 z.1) (λ y. sections_seen n ts y.0 y.1)
    ∙ ap (λ (o : Option (Reading Token Extent)). bind o (λ z. all_behind n None z.0 z.1)) (climb_seen n ts table first us))

-- Whole expressions.

-- nothing is read
pub end_missing : (n : ℕ) (ts : List Token) → take_unary n setting.Plain (lower n) ts ≡ None → heads kind.Throw ts ≡ false → end_of n ts ≡ None
end_missing n ts e plain = ap (λ (o : Option (Reading Token Tree)). option_map (λ (x : Reading Token Tree). x.1) o) (expression_missing n setting.Plain (lower n) ts e plain)

abbrev unassigned : ℕ → Descent Token Tree
unassigned n = take_where (heads kind.Throw) (take_throw setting.Plain (lower n)) (take_cascade n setting.Plain (lower n))

deep_same : (n : ℕ) (ts : List Token) (x : Reading Token Tree) (o : Option (Reading Token Tree)) → take_unary n setting.Plain (lower n) ts ≡ Some x → is_open n x.0 ≡ false → unassigned n ts ≡ o → take_expression n setting.Plain (lower n) ts ≡ o
deep_same n ts x None e d f = expression_deep (λ (y : Reading Token Tree). y) (Err NoReading) n setting.Plain (lower n) ts x e d f
deep_same n ts x (Some y) e d f = expression_deep (λ (z : Reading Token Tree). z) (Ok y) n setting.Plain (lower n) ts x e d f

plain_same : (n : ℕ) (ts : List Token) (x : Reading Token Tree) (o : Option (Reading Token Tree)) → take_unary n setting.Plain (lower n) ts ≡ Some x → (take_assignment ▸ (lower n).expression setting.Plain) x.1 ≡ None → unassigned n ts ≡ o →
    take_expression n setting.Plain (lower n) ts ≡ o
plain_same n ts x None e d f = expression_plain (λ (y : Reading Token Tree). y) (Err NoReading) n setting.Plain (lower n) ts x e d f
plain_same n ts x (Some y) e d f = expression_plain (λ (z : Reading Token Tree). z) (Ok y) n setting.Plain (lower n) ts x e d f

-- what is assigned is the last part
assigned_at : (n : ℕ) (ts us end : List Token) (first : Tree) (b : Bool) (o : Option (Reading Token (AssignmentOperator × Tree))) → take_unary n setting.Plain (lower n) ts ≡ Some (first, us) → is_open n first ≡ b →
    (take_assignment ▸ (lower n).expression setting.Plain) us ≡ o → (if b then option_map (λ (x : Reading Token (AssignmentOperator × Tree)). x.1) o else None) ≡ Some end → end_of n ts ≡ Some end
assigned_at n ts us end first false o e free d f = absurd (cc)
assigned_at n ts us end first true None e free d f = absurd (cc)
assigned_at n ts us end first true (Some y) e free d f = ap (λ (o : Option (Reading Token Tree)). option_map (λ (x : Reading Token Tree). x.1) o) (expression_assigned n setting.Plain (lower n) ts (first, us) y e free d) ∙ f

pub end_assigned : (n : ℕ) (ts us end : List Token) (first : Tree) → take_unary n setting.Plain (lower n) ts ≡ Some (first, us) → assignment_behind n (extent_of first) us ≡ Some end → end_of n ts ≡ Some end
end_assigned n ts us end first e f = assigned_at n ts us end first (is_open n first) ((take_assignment ▸ (lower n).expression setting.Plain) us) e refl refl f

-- nothing is assigned
none_of : {A B : Type 0} (f : A → B) (o : Option A) → option_map f o ≡ None → o ≡ None
none_of f None e = refl
none_of f (Some x) e = absurd (cc)

plain_at : (n : ℕ) (ts us : List Token) (first : Tree) (b : Bool) → take_unary n setting.Plain (lower n) ts ≡ Some (first, us) → is_open n first ≡ b →
    (if b then option_map (λ (x : Reading Token (AssignmentOperator × Tree)). x.1) ((take_assignment ▸ (lower n).expression setting.Plain) us) else None) ≡ None → take_expression n setting.Plain (lower n) ts ≡ unassigned n ts
plain_at n ts us first false e free f = deep_same n ts (first, us) (unassigned n ts) e free refl
plain_at n ts us first true e free f =
    plain_same n ts (first, us) (unassigned n ts) e (none_of (λ (x : Reading Token (AssignmentOperator × Tree)). x.1) ((take_assignment ▸ (lower n).expression setting.Plain) us) f) refl

cascade_plain : (n : ℕ) (ts : List Token) → heads kind.Throw ts ≡ false → unassigned n ts ≡ take_cascade n setting.Plain (lower n) ts
cascade_plain n ts e = ap (λ (b : Bool). if b then take_throw setting.Plain (lower n) ts else take_cascade n setting.Plain (lower n) ts) e

pub end_plain : (n : ℕ) (ts us end : List Token) (first : Tree) → take_unary n setting.Plain (lower n) ts ≡ Some (first, us) → heads kind.Throw ts ≡ false → assignment_behind n (extent_of first) us ≡ None →
    cascade_behind n (extent_of first) us ≡ Some end → end_of n ts ≡ Some end
end_plain n ts us end first e plain none f =
    ap (λ (o : Option (Reading Token Tree)). option_map (λ (x : Reading Token Tree). x.1) o) (plain_at n ts us first (is_open n first) e refl none ∙ cascade_plain n ts plain) ∙ cascade_seen n ts us first e ∙ f
