-- The code of a condition and its test do what the rules say of it.
use Rattle.std.proofs.Common.{◌≡◌, ◌≢◌, Bool, true, false, cond, ◌&&◌, List, [], Option, Some, None, refl, sym, ap, ◌∙◌, subst, IsTrue}
use Rattle.std.specs.Option.{option_map}
use Rattle.std.proofs.lemmas.Bool.{and_parts}
use Rattle.std.proofs.lemmas.List.Elements.{All-nil}
use Rattle.dart_tree.specs.Tree.{Tree, identifier, null_literal, parenthesis, binary_expression}
use Rattle.dart_tree.specs.Places.{place_of}
use Rattle.dart_tree.specs.declared.operators.BinaryOperatorKind.{BinaryOperatorKind}
use Rattle.dart_tree.specs.declared.operators.BinaryOperatorKind.TheVariants.{NotEqual}
use Rattle.dart_tree.specs.declared.places.Place.{Place}
use Rattle.dart_tree.specs.declared.places.Span.{Span}
use Rattle.dart_types.specs.Ty.{Ty}
use Rattle.dart_types.specs.SubTest.{sub}
use Rattle.flow_model.specs.Flow.{FlowModel, at_local, current_of, facts_of}
use Rattle.flow_model.specs.Order.{Implies}
use Rattle.flow_model.specs.Promote.{non_null_facts}
use Rattle.flow_model.specs.declared.locals.Facts.{Facts}
use Rattle.flow_model.specs.declared.locals.LocalId.{LocalId}
use Rattle.judgement.specs.declared.code.DiagnosticCode.TheVariants.{ConditionNotBool}
use Rattle.judgement.specs.Given.{Evaluation, fit_faults, expression_row, of_type, with_node}
use Rattle.judgement.specs.ExpressionRows.{bool, name_row, not_equal_row, where_not_null}
use Rattle.judgement.specs.Surroundings.{Names, meaning_of}
use Rattle.judgement.specs.Written.{named_by, written_in}
use Rattle.judgement.specs.Judgement as rules
use Rattle.judgement.specs.Judgement.{as_local, element_of, evaluate, is_null_literal}
use Rattle.built_forms.specs.Forms.{is_operator, is_value}
use Rattle.rule_laws.specs.Steps.{Evaluates}
use Rattle.core_ir.specs.PointFacts.{PointFacts}
use Rattle.core_ir.specs.Values.{declared_at}
use Rattle.core_ir.specs.declared.facts.Held.TheVariants.{Own}
use Rattle.core_ir.specs.declared.facts.Known.{Known}
use Rattle.core_ir.specs.declared.points.Operand.{Operand}
use Rattle.core_ir.specs.declared.points.SlotId.{SlotId}
use Rattle.core_check.specs.Accepted.{SlotImplies}
use Rattle.core_check.specs.Known.{slot_type, held_type}
use Rattle.core_check.specs.NamedSlots.{from_in}
use Rattle.core_check.specs.Types.{without_null}
use Rattle.core_check.specs.WellFormed.{IsSlot}
use Rattle.core_emit.specs.Code.{nothing}
use Rattle.core_emit.specs.declared.steps.Test.{Test}
use Rattle.core_emit.specs.declared.steps.Test.TheVariants.{OnNotNull}
use Rattle.core_emit.specs.Emitted.{IsTestOf, TestLeads}
use Rattle.elaborate.specs.Sources.{known_before, known_behind, slot_of_local}
use Rattle.elaborate.specs.Known.{facts, holding}
use Rattle.elaborate.specs.Rows.{Condition, compared_local, condition_of, condition_row, null_test, operand_of, test_of_null}
use Rattle.elaborate.proofs.Given.{Setting, Laws, around}
use Rattle.elaborate.proofs.Chains.{sub_itself}
use Rattle.elaborate.proofs.Standing.{AreValues, IsValueSlot, Standing, found_of, own_typed}
use Rattle.elaborate.proofs.Tells.{Tells, facts_tell}
use Rattle.elaborate.proofs.Claims.{Does, does_nothing}
use Rattle.elaborate.proofs.Leaves.{all_one}
use Rattle.elaborate.proofs.Points.{known_local, others_stay, unshared}
use Rattle.elaborate.proofs.Tests.{narrowed_current, null_leads, truth_leads}
use Rattle.elaborate.proofs.ValueTypes.{fits_sub, left_none, name_reads, plain_value, right_none}
use Rattle.elaborate.proofs.Expressions.{AreSaid, Valued, current_plain, has_operand, held_with, operand_inside, plain_row, row_none, said_left, said_right, values_with}
use Rattle.elaborate.proofs.Judged.{compared_same, effect_of_value, row_said, stands_after, stands_behind, valued}

-- no values are held
abbrev pub no_values : List SlotId
no_values = []

module _ (c : Setting) (laws : Laws c) (names : Names) where
  -- an expression that names a local changes nothing, and the local is assigned
  pub record Named (t : Tree) (m : FlowModel) (var : LocalId) (e : Evaluation) : Type 0 where
    pub l : Facts
    pub found : facts_of m var ≡ Some l
    pub assigned : l.assigned ≡ true
    pub after : e.after ≡ m

  pub names_local : (t : Tree) (wanted : Option Ty) (m : FlowModel) (var : LocalId) → is_value c.outside t ≡ true → (evaluate (around c names) t wanted m).faults ≡ [] → Standing c m
      → AreSaid c (evaluate (around c names) t wanted m).nodes → as_local (named_by (around c names) t) ≡ Some var → Named t m var (evaluate (around c names) t wanted m)
  names_local (identifier at word) wanted m var built none stands said is =
      let s = around c names in
      let row = name_row (meaning_of s word) at m in
      let reads = name_reads c names word at m built (row_none at (Some (meaning_of s word)) m row none) in
      let value = plain_value (current_of reads.l) (current_plain c laws reads.l (found_of c m reads.var reads.l stands reads.found).plain) in
      let gives : evaluate s (identifier at word) wanted m ≡ with_node at.node (Some (meaning_of s word)) m (of_type (current_of reads.l) m) =
      ap (expression_row at (Some (meaning_of s word)) m) reads.gives ∙ plain_row at (Some (meaning_of s word)) m (of_type (current_of reads.l) m) value in
      let some : Some reads.var ≡ Some var = sym (ap as_local reads.meant) ∙ is in
      let same : reads.var ≡ var = cc in
      record { l = reads.l; found = subst (λ (v : LocalId). facts_of m v ≡ Some reads.l) same reads.found; assigned = reads.assigned; after = ap (λ (e : Evaluation). e.after) gives }
  names_local (parenthesis at inner) wanted m var built none stands said is =
      let s = around c names in
      let e = evaluate s inner wanted m in
      let element = element_of s (parenthesis at inner) in
      let inner_none = row_none at element m e none in
      let inner_said = row_said c at element m e said in
      let one = valued c laws names inner wanted m no_values built inner_none stands (All-nil (λ (k : SlotId). IsValueSlot c k.0)) inner_said in
      let inside = names_local inner wanted m var built inner_none stands inner_said is in
      record { l = inside.l; found = inside.found; assigned = inside.assigned; after = ap (λ (k : Evaluation). k.after) (plain_row at element m e one.value) ∙ inside.after }
  names_local _ wanted m var built none stands said is = absurd cc

  -- the literal `null` changes nothing
  null_keeps : (t : Tree) (wanted : Option Ty) (m : FlowModel) → is_null_literal t ≡ true → (evaluate (around c names) t wanted m).after ≡ m
  null_keeps (null_literal at) wanted m is = refl
  null_keeps _ wanted m is = absurd cc

  -- A test for null: of a local that is assigned, behind which nothing has changed.
  pub record TestsNull (t : Tree) (m : FlowModel) (test : Test) (e : Evaluation) : Type 0 where
    pub var : LocalId
    pub l : Facts
    pub test_is : test ≡ OnNotNull (slot_of_local c.x var)
    pub found : facts_of m var ≡ Some l
    pub assigned : l.assigned ≡ true
    pub after : e.after ≡ m
    pub when_true : e.when_true ≡ at_local m var (non_null_facts c.rows.table)
    pub when_false : e.when_false ≡ m

  compared_cases : (left right : Tree) (m : FlowModel) (var : LocalId) (right_null left_null : Bool) → is_null_literal right ≡ right_null → is_null_literal left ≡ left_null
      → cond right_null (as_local (named_by (around c names) left)) (cond left_null (as_local (named_by (around c names) right)) None) ≡ Some var
      → is_value c.outside left ≡ true → is_value c.outside right ≡ true
      → (evaluate (around c names) left None m).faults ≡ [] → (evaluate (around c names) right None (evaluate (around c names) left None m).after).faults ≡ [] → Standing c m
      → AreSaid c (evaluate (around c names) left None m).nodes → AreSaid c (evaluate (around c names) right None (evaluate (around c names) left None m).after).nodes
      → Named left m var (evaluate (around c names) right None (evaluate (around c names) left None m).after)
  compared_cases left right m var true left_null is is' found built built' none none' stands said said' =
      let e = evaluate (around c names) left None m in
      let one = names_local left None m var built none stands said found in
      record { l = one.l; found = one.found; assigned = one.assigned; after = null_keeps right None e.after is ∙ one.after }
  compared_cases left right m var false true is is' found built built' none none' stands said said' =
      let e = evaluate (around c names) left None m in
      let same = null_keeps left None m is' in
      let one = names_local right None e.after var built' none' (stands_after c laws names left None m built none stands) said' found in
      record { l = one.l; found = subst (λ (k : FlowModel). facts_of k var ≡ Some one.l) same one.found; assigned = one.assigned; after = one.after ∙ same }
  compared_cases left right m var false false is is' found built built' none none' stands said said' = absurd cc

  null_test_of : (at : Place) (kind : BinaryOperatorKind) (span : Span) (left right : Tree) (wanted : Option Ty) (m : FlowModel) (test : Test) (compared : Option LocalId)
      → (is_operator kind && (is_value c.outside left && is_value c.outside right)) ≡ true
      → (evaluate (around c names) (binary_expression at (record { kind = kind; span = span }) left right) wanted m).faults ≡ [] → Standing c m
      → AreSaid c (evaluate (around c names) (binary_expression at (record { kind = kind; span = span }) left right) wanted m).nodes
      → compared_local c.x left right ≡ compared → null_test c.x kind compared ≡ Some test
      → TestsNull (binary_expression at (record { kind = kind; span = span }) left right) m test (evaluate (around c names) (binary_expression at (record { kind = kind; span = span }) left right) wanted m)
  null_test_of at NotEqual span left right wanted m test (Some var) built none stands said is tests =
      let s = around c names in
      let e = evaluate s left None m in
      let e' = evaluate s right None e.after in
      let row = not_equal_row c.rows.table (rules.compared_local s left right) e e' in
      let nothing_wrong = row_none at None m row none in
      let nodes = row_said c at None m row said in
      let parts = and_parts (is_value c.outside left) (is_value c.outside right) built in
      let e_none = left_none e.faults e'.faults nothing_wrong in
      let e'_none = right_none e.faults e'.faults nothing_wrong in
      let e_said = said_left c e.nodes e'.nodes nodes in
      let e'_said = said_right c e.nodes e'.nodes nodes in
      let same = compared_same c laws names left right None None m e.after e_said e'_said in
      let one = compared_cases left right m var (is_null_literal right) (is_null_literal left) refl refl (sym same ∙ is) parts.0 parts.1 e_none e'_none stands e_said e'_said in
      record {
        var = var;
        l = one.l;
        test_is = cc;
        found = one.found;
        assigned = one.assigned;
        after = one.after;
        when_true = ap (λ v. where_not_null c.rows.table v e'.after) (sym same ∙ is) ∙ ap (λ (k : FlowModel). at_local k var (non_null_facts c.rows.table)) one.after;
        when_false = one.after;
      }
  null_test_of at NotEqual span left right wanted m test None built none stands said is tests = absurd cc
  null_test_of at _ span left right wanted m test compared built none stands said is tests = absurd cc

  pub tests_null : (t : Tree) (wanted : Option Ty) (m : FlowModel) (test : Test) → is_value c.outside t ≡ true → (evaluate (around c names) t wanted m).faults ≡ [] → Standing c m
      → AreSaid c (evaluate (around c names) t wanted m).nodes → test_of_null c.x t ≡ Some test → TestsNull t m test (evaluate (around c names) t wanted m)
  tests_null (parenthesis at inner) wanted m test built none stands said is =
      let s = around c names in
      let e = evaluate s inner wanted m in
      let element = element_of s (parenthesis at inner) in
      let inner_none = row_none at element m e none in
      let inner_said = row_said c at element m e said in
      let one = valued c laws names inner wanted m no_values built inner_none stands (All-nil (λ (k : SlotId). IsValueSlot c k.0)) inner_said in
      let row = plain_row at element m e one.value in
      let inside = tests_null inner wanted m test built inner_none stands inner_said is in
      record {
        var = inside.var;
        l = inside.l;
        test_is = inside.test_is;
        found = inside.found;
        assigned = inside.assigned;
        after = ap (λ (k : Evaluation). k.after) row ∙ inside.after;
        when_true = ap (λ (k : Evaluation). k.when_true) row ∙ inside.when_true;
        when_false = ap (λ (k : Evaluation). k.when_false) row ∙ inside.when_false;
      }
  tests_null (binary_expression at operator left right) wanted m test built none stands said is =
      null_test_of at operator.kind operator.span left right wanted m test (compared_local c.x left right) built none stands said refl is
  tests_null _ wanted m test built none stands said is = absurd cc

  -- What the code of a condition does, and where its test leads.
  pub record Conditioned (t : Tree) (m : FlowModel) (k : Condition) (e : Evaluation) : Type 0 where
    pub does : Does c k.code (facts c.x m no_values) (facts c.x e.after k.values)
    pub inside : IsTestOf c.g k.test
    pub values : AreValues c k.values
    pub leads : IsTrue e.after.reachable → (f' f'' : PointFacts) → Tells c (facts c.x e.when_true no_values) f' → Tells c (facts c.x e.when_false no_values) f''
        → TestLeads c.rows c.g (facts c.x e.after k.values) k.test f' f''

  module _ (t : Tree) (m : FlowModel) (stands : Standing c m) (e : Evaluation) (after : Standing c e.after) (stands_true : Standing c e.when_true) (stands_false : Standing c e.when_false)
      (one : Valued c no_values m t e) (fits : IsTrue (sub c.rows.table e.ty bool))
    where
      abbrev on : Operand
      on = operand_of c.x t

      nothing_held : AreValues c no_values
      nothing_held = All-nil (λ (k : SlotId). IsValueSlot c k.0)

      on_held : AreValues c (holding no_values on)
      on_held = values_with c laws no_values on e.ty nothing_held one.operand

      -- a condition that is tested by its value
      tested_truth : test_of_null c.x t ≡ None → Conditioned t m (condition_row c.x no_values t None) e
      tested_truth test =
          let has = has_operand c laws e.after (holding no_values on) on e.ty after on_held one.operand (held_with c laws no_values on) in
          record {
            does = one.does;
            inside = λ first second. from_in c.g on (operand_inside c laws on e.ty one.operand);
            values = on_held;
            leads = λ reached f' f'' tells tells'.
                truth_leads c laws (facts c.x e.after (holding no_values on)) reached on e.ty (facts c.x e.when_true no_values) (facts c.x e.when_false no_values) (unshared c laws e.after after (holding no_values on) on_held) has fits
                (λ no_false. let same = one.when_true test no_false in record {
                  tells = facts_tell c laws e.after e.when_true (holding no_values on) no_values after stands_true (subst (λ (k : FlowModel). Implies e.after k) (sym same) (laws.reflexive e.after)) on_held (λ i here. absurd cc);
                  reached = subst (λ (k : FlowModel). IsTrue k.reachable) (sym same) reached;
                })
                (λ no_true. let same = one.when_false test no_true in record {
                  tells = facts_tell c laws e.after e.when_false (holding no_values on) no_values after stands_false (subst (λ (k : FlowModel). Implies e.after k) (sym same) (laws.reflexive e.after)) on_held (λ i here. absurd cc);
                  reached = subst (λ (k : FlowModel). IsTrue k.reachable) (sym same) reached;
                })
                f' f'' tells tells';
          }

      -- one that tests a local for null
      tested_null : (test : Test) → TestsNull t m test e → Conditioned t m (condition_row c.x no_values t (Some test)) e
      tested_null test null =
          let slot = slot_of_local c.x null.var in
          let found_after : facts_of e.after null.var ≡ Some null.l = subst (λ (k : FlowModel). facts_of k null.var ≡ Some null.l) (sym null.after) null.found in
          let local = found_of c e.after null.var null.l after found_after in
          let known = known_local c laws e.after after no_values nothing_held null.var null.l found_after in
          let narrowed : facts_of e.when_true null.var ≡ Some (non_null_facts c.rows.table null.l) =
          ap (λ (k : FlowModel). facts_of k null.var) null.when_true ∙ laws.changed m null.var (non_null_facts c.rows.table) (λ l. refl) ∙ ap (option_map (non_null_facts c.rows.table)) null.found in
          let others : (other : LocalId) → other.0 ≢ null.var.0 → facts_of e.when_true other ≡ facts_of e.after other = λ other apart.
          ap (λ (k : FlowModel). facts_of k other) null.when_true ∙ laws.unchanged m null.var (non_null_facts c.rows.table) (λ l. refl) other apart ∙ sym (ap (λ (k : FlowModel). facts_of k other) null.after) in
          let is_slot_type : slot_type c.g (facts c.x e.after no_values) slot ≡ current_of null.l = ap (λ (k : Known). held_type (declared_at c.g slot.0) k.held) known ∙ own_typed (declared_at c.g slot.0) null.l local.slot.typed in
          record {
            does = subst (λ (k : FlowModel). Does c nothing (facts c.x m no_values) (facts c.x k no_values)) (sym null.after) (does_nothing c laws (facts c.x m no_values));
            inside = subst (IsTestOf c.g) (sym null.test_is) (λ first second. all_one (IsSlot c.g) slot local.slot.inside);
            values = nothing_held;
            leads = λ reached f' f'' tells tells'.
                let reached_true : IsTrue e.when_true.reachable = ap (λ (k : FlowModel). k.reachable) null.when_true ∙ sym (ap (λ (k : FlowModel). k.reachable) null.after) ∙ reached in
                let reached_false : IsTrue e.when_false.reachable = ap (λ (k : FlowModel). k.reachable) (null.when_false ∙ sym null.after) ∙ reached in
                subst (λ (u : Test). TestLeads c.rows c.g (facts c.x e.after no_values) u f' f'') (sym null.test_is)
                (null_leads c laws (facts c.x e.after no_values) reached slot (facts c.x e.when_true no_values) (facts c.x e.when_false no_values) (unshared c laws e.after after no_values nothing_held)
                (ap (λ (k : Known). k.assigned) known ∙ null.assigned)
                (record {
                  tells = facts_tell c laws e.after e.when_false no_values no_values after stands_false (subst (λ (k : FlowModel). Implies e.after k) (null.after ∙ sym null.when_false) (laws.reflexive e.after)) nothing_held (λ i here. here);
                  reached = reached_false;
                })
                reached_true
                (subst (λ (k : Known). SlotImplies c.rows.table (declared_at c.g slot.0) (record { assigned = true; held = Own (without_null c.rows.table (slot_type c.g (facts c.x e.after no_values) slot)) }) k)
                (sym (known_local c laws e.when_true stands_true no_values nothing_held null.var (non_null_facts c.rows.table null.l) narrowed))
                (record {
                  assigned = λ h. refl;
                  narrower = subst (λ (u : Ty). IsTrue (sub c.rows.table (without_null c.rows.table (slot_type c.g (facts c.x e.after no_values) slot)) u))
                      (ap (without_null c.rows.table) is_slot_type
                      ∙ narrowed_current c laws null.l local.plain.own
                      ∙ sym
                      (own_typed (declared_at c.g slot.0) (non_null_facts c.rows.table null.l) (found_of c e.when_true null.var (non_null_facts c.rows.table null.l) stands_true narrowed).slot.typed))
                      (sub_itself c laws (without_null c.rows.table (slot_type c.g (facts c.x e.after no_values) slot)));
                  shared = λ h. absurd cc;
                }))
                (others_stay c laws e.after e.when_true after stands_true no_values no_values nothing_held nothing_held (λ i here. here) reached null.var (non_null_facts c.rows.table null.l) narrowed others)
                f' f'' tells tells');
          }

  -- every condition
  pub record ConditionDoes (t : Tree) (m : FlowModel) (e : Evaluation) : Type 0 where
    pub conditioned : Conditioned t m (condition_of c.x no_values t) e
    pub before : known_before c.x (place_of t) ≡ m
    pub behind : known_behind c.x (place_of t) ≡ e.after
    pub after : Standing c e.after
    pub when_true : Standing c e.when_true
    pub when_false : Standing c e.when_false

  module _ (t : Tree) (m : FlowModel) (built : is_value c.outside t ≡ true) (none : (rules.condition_of (around c names) t m).faults ≡ []) (stands : Standing c m) (said : AreSaid c (rules.condition_of (around c names) t m).nodes) where
    abbrev value : Evaluation
    value = evaluate (around c names) t (Some bool) m

    value_none : value.faults ≡ []
    value_none = left_none value.faults (fit_faults c.rows.table ConditionNotBool (place_of t) value.ty bool) none

    one : Valued c no_values m t value
    one = valued c laws names t (Some bool) m no_values built value_none stands (All-nil (λ (k : SlotId). IsValueSlot c k.0)) said

    fits : IsTrue (sub c.rows.table value.ty bool)
    fits = fits_sub c.rows.table value.ty bool one.value refl [] (record { span = (place_of t).span; code = ConditionNotBool }) (right_none value.faults (fit_faults c.rows.table ConditionNotBool (place_of t) value.ty bool) none)

    steps : Evaluates c.rows.table m value (written_in (around c names) t)
    steps = laws.values names t (Some bool) m (effect_of_value c.outside t built) value_none stands.plain

    after : Standing c value.after
    after = stands_behind c m value.after (written_in (around c names) t) stands steps.after

    stands_true : Standing c value.when_true
    stands_true = stands_behind c m value.when_true (written_in (around c names) t) stands steps.when_true

    stands_false : Standing c value.when_false
    stands_false = stands_behind c m value.when_false (written_in (around c names) t) stands steps.when_false

    tested : (found : Option Test) → test_of_null c.x t ≡ found → Conditioned t m (condition_row c.x no_values t found) value
    tested None is = tested_truth t m stands value after stands_true stands_false one fits is
    tested (Some test) is =
        tested_null t m stands value after stands_true stands_false one fits test (tests_null t (Some bool) m test built value_none stands said is)

    pub condition_does : ConditionDoes t m value
    condition_does = record {
      conditioned = tested (test_of_null c.x t) refl;
      before = one.before;
      behind = one.behind;
      after = after;
      when_true = stands_true;
      when_false = stands_false;
    }
