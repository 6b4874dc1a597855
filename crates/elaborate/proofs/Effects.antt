-- The code of an expression that stands as a statement does what the rules say of it.
use Rattle.std.proofs.Common.{◌≡◌, ℕ, true, false, cond, not, ◌&&◌, List, [], ◌∷◌, ◌++◌, Option, Some, None, is_some, refl, sym, ap, ◌∙◌, subst, IsTrue}
use Rattle.std.specs.FinMap.{get}
use Rattle.std.specs.Option.{option_map, option_map_or}
use Rattle.std.specs.Prelude.{slice_index_or}
use Rattle.std.proofs.lemmas.Bool.{and_parts}
use Rattle.std.proofs.lemmas.List.Elements.{All-nil}
use Rattle.dart_tree.specs.Tree.{Tree, Part, no_more, more, absent, present, identifier, assignment, call, argument_list, argument}
use Rattle.dart_tree.specs.Places.{place_of}
use Rattle.dart_tree.specs.declared.operators.AssignmentOperator.{AssignmentOperator}
use Rattle.dart_tree.specs.declared.places.Place.{Place}
use Rattle.dart_types.specs.Ty.{Ty, invalid, nullable}
use Rattle.dart_types.specs.Heads.{object}
use Rattle.dart_types.specs.Invalid.{holds_invalid}
use Rattle.dart_types.specs.SubTest.{sub}
use Rattle.flow_model.specs.Flow.{FlowModel, at_local, facts_of}
use Rattle.flow_model.specs.Assign.{assign_facts}
use Rattle.flow_model.specs.declared.locals.Facts.{Facts}
use Rattle.flow_model.specs.declared.locals.LocalId.{LocalId}
use Rattle.judgement.specs.NodeFacts.{NodeFacts}
use Rattle.judgement.specs.declared.code.DiagnosticCode.TheVariants.{ArgumentType, InvalidAssignment}
use Rattle.judgement.specs.declared.meaning.Meaning.{Meaning}
use Rattle.judgement.specs.declared.meaning.Meaning.TheVariants.{Nothing, Local, Print, Class, Other}
use Rattle.judgement.specs.Given.{Evaluation, expression_row, fit_faults, said_of_expression, with_node}
use Rattle.judgement.specs.ExpressionRows as rows
use Rattle.judgement.specs.ExpressionRows.{assigned_row, wanted_by, write_row}
use Rattle.judgement.specs.Surroundings.{Names, meaning_of}
use Rattle.judgement.specs.Judgement.{called, evaluate}
use Rattle.built_forms.specs.Forms.{are_arguments, is_absent, is_effect, is_free, is_print, is_printer, is_target, is_value}
use Rattle.built_forms.specs.Forms as forms
use Rattle.built_forms.specs.Meanings.{meaning_at}
use Rattle.rule_laws.specs.Plain.{HidesNothing, is_value_type}
use Rattle.core_ir.specs.declared.points.SlotId.{SlotId}
use Rattle.core_check.specs.NamedSlots.{from_in, to_from_in}
use Rattle.core_emit.specs.Code.{Code, leaf, nothing}
use Rattle.core_emit.specs.declared.steps.Step.TheVariants as step
use Rattle.elaborate.specs.Sources.{known_behind, local_meant, slot_of_local}
use Rattle.elaborate.specs.Sources as sources
use Rattle.elaborate.specs.Known.{facts, holding}
use Rattle.elaborate.specs.Rows.{assignment_row, code_of, operand_of, print_code, print_row, site_of}
use Rattle.elaborate.proofs.Given.{Setting, Laws, around}
use Rattle.elaborate.proofs.Standing.{AreValues, IsValueSlot, Standing, found_of}
use Rattle.elaborate.proofs.Tells.{facts_tell}
use Rattle.elaborate.proofs.Claims.{Does, does_both, does_less, does_step}
use Rattle.elaborate.proofs.Inside.{facts_inside}
use Rattle.elaborate.proofs.Leaves.{print_leads, store_leads}
use Rattle.elaborate.proofs.Points.{gives_local, unshared, written_fits}
use Rattle.elaborate.proofs.ValueTypes.{fits_sub, left_none, plain_value, print_stays, right_none, value_holds}
use Rattle.elaborate.proofs.Expressions.{AreSaid, IsSaid, Valued, has_operand, held_with, operand_inside, plain_row, row_none, said_last, said_left, values_with}
use Rattle.elaborate.proofs.Judged.{row_said, stands_after, valued}
use Rattle.elaborate.proofs.ConditionForms.{no_values}

-- what an expression that stands as a statement does
abbrev pub EffectDoes : Setting → Tree → FlowModel → Evaluation → Type 0
EffectDoes c t m e = Does c (code_of c.x no_values t) (facts c.x m no_values) (facts c.x e.after no_values)

nothing_held : (c : Setting) → AreValues c no_values
nothing_held c = All-nil (λ (k : SlotId). IsValueSlot c k.0)

some_left : {A : Type 0} (xs : List A) (x : A) → xs ++ x ∷ [] ≡ [] → ⊥
some_left [] x none = cc
some_left (y ∷ xs) x none = cc

module _ (c : Setting) (laws : Laws c) (names : Names) where
  -- a value whose value isn't wanted
  pub value_effect : (t : Tree) (m : FlowModel) → is_value c.outside t ≡ true → (evaluate (around c names) t None m).faults ≡ [] → Standing c m → AreSaid c (evaluate (around c names) t None m).nodes
      → EffectDoes c t m (evaluate (around c names) t None m)
  value_effect t m built none stands said =
      let e = evaluate (around c names) t None m in
      let one = valued c laws names t None m no_values built none stands (nothing_held c) said in
      let stands_e = stands_after c laws names t None m built none stands in
      let held = values_with c laws no_values (operand_of c.x t) e.ty (nothing_held c) one.operand in
      does_less c laws (code_of c.x no_values t) (facts c.x m no_values) (facts c.x e.after (holding no_values (operand_of c.x t))) (facts c.x e.after no_values) one.does
      (facts_tell c laws e.after e.after (holding no_values (operand_of c.x t)) no_values stands_e stands_e (laws.reflexive e.after) held (λ i here. absurd cc))

  -- Assignments.

  -- a target of which nothing is wrong means a local
  pub record Targets (word : ℕ) : Type 0 where
    pub var : LocalId
    pub meant : meaning_of (around c names) word ≡ Local var

  targets_at : (word : ℕ) (target over : Place) (value : Evaluation) (found : Option LocalId) (o : Meaning) → get names word ≡ found → slice_index_or c.outside word Nothing ≡ o → is_free o ≡ true
      → (assigned_row c.rows.table (option_map_or Local found o) target over value).faults ≡ [] → Targets word
  targets_at word target over value (Some var) o is out free none = record { var = var; meant = ap (λ f. option_map_or Local f (slice_index_or c.outside word Nothing)) is }
  targets_at word target over value None Nothing is out free none = absurd (some_left value.faults _ none)
  targets_at word target over value None (Local var) is out free none = absurd cc
  targets_at word target over value None Print is out free none = absurd cc
  targets_at word target over value None (Class class) is out free none = absurd cc
  targets_at word target over value None Other is out free none = absurd cc

  -- what is written to a local of which this is known
  pub record Writes (target over : Place) (var : LocalId) (value : Evaluation) (row : Evaluation) : Type 0 where
    pub l : Facts
    pub found : facts_of value.after var ≡ Some l
    pub fits : IsTrue (sub c.rows.table value.ty l.ty)
    pub value_none : value.faults ≡ []
    pub after : row.after ≡ at_local value.after var (assign_facts c.rows.table value.ty)
    pub type_is : row.ty ≡ value.ty
    pub nodes : row.nodes ≡ value.nodes

  writes_at : (target over : Place) (var : LocalId) (value : Evaluation) (found : Option Facts) → is_value_type value.ty ≡ true → Standing c value.after → facts_of value.after var ≡ found
      → (write_row c.rows.table target over var found value).faults ≡ [] → Writes target over var value (write_row c.rows.table target over var found value)
  writes_at target over var value None type_of stands is none = absurd (some_left value.faults _ none)
  writes_at target over var value (Some l) type_of stands is none =
      let misfit = fit_faults c.rows.table InvalidAssignment over value.ty l.ty in
      let plain : holds_invalid l.ty ≡ false = value_holds l.ty (plain_value l.ty (found_of c value.after var l stands is).plain.declared) in
      let fits = fits_sub c.rows.table value.ty l.ty type_of plain [] (record { span = over.span; code = InvalidAssignment }) (right_none value.faults misfit none) in
      record {
        l = l;
        found = is;
        fits = fits;
        value_none = left_none value.faults misfit none;
        after = refl;
        type_is = ap (λ b. cond b value.ty invalid) fits;
        nodes = refl;
      }

  module _ (at : Place) (operator : AssignmentOperator) (over : Place) (word : ℕ) (value : Tree) (m : FlowModel) (built : is_value c.outside value ≡ true) (free : is_free (meaning_at c.outside word) ≡ true)
      (none : (evaluate (around c names) (assignment at operator (identifier over word) value) None m).faults ≡ []) (stands : Standing c m)
      (said : AreSaid c (evaluate (around c names) (assignment at operator (identifier over word) value) None m).nodes)
    where
      abbrev meaning : Meaning
      meaning = meaning_of (around c names) word

      abbrev e : Evaluation
      e = evaluate (around c names) value (wanted_by meaning m) m

      abbrev row : Evaluation
      row = assigned_row c.rows.table meaning over (place_of value) e

      row_faultless : row.faults ≡ []
      row_faultless = row_none at (Some meaning) m row none

      target : Targets word
      target = targets_at word over (place_of value) e (get names word) (slice_index_or c.outside word Nothing) refl refl free row_faultless

      abbrev written : Evaluation
      written = write_row c.rows.table over (place_of value) target.var (facts_of e.after target.var) e

      row_is : row ≡ written
      row_is = ap (λ (k : Meaning). assigned_row c.rows.table k over (place_of value) e) target.meant

      written_nodes : (found : Option Facts) → (write_row c.rows.table over (place_of value) target.var found e).nodes ≡ e.nodes
      written_nodes None = refl
      written_nodes (Some l) = refl

      written_faults : (found : Option Facts) → (write_row c.rows.table over (place_of value) target.var found e).faults ≡ [] → e.faults ≡ []
      written_faults None h = left_none e.faults _ h
      written_faults (Some l) h = left_none e.faults _ h

      e_none : e.faults ≡ []
      e_none = written_faults (facts_of e.after target.var) (ap (λ (k : Evaluation). k.faults) (sym row_is) ∙ row_faultless)

      e_said : AreSaid c e.nodes
      e_said = subst (AreSaid c) (ap (λ (k : Evaluation). k.nodes) row_is ∙ written_nodes (facts_of e.after target.var)) (row_said c at (Some meaning) m row said)

      one : Valued c no_values m value e
      one = valued c laws names value (wanted_by meaning m) m no_values built e_none stands (nothing_held c) e_said

      stands_e : Standing c e.after
      stands_e = stands_after c laws names value (wanted_by meaning m) m built e_none stands

      writes : Writes over (place_of value) target.var e written
      writes = writes_at over (place_of value) target.var e (facts_of e.after target.var) one.value stands_e refl (ap (λ (k : Evaluation). k.faults) (sym row_is) ∙ row_faultless)

      abbrev m' : FlowModel
      m' = at_local e.after target.var (assign_facts c.rows.table e.ty)

      row_type : is_value_type row.ty ≡ true
      row_type = subst (λ (t : Ty). is_value_type t ≡ true) (sym (ap (λ (k : Evaluation). k.ty) row_is ∙ writes.type_is)) one.value

      whole_is : evaluate (around c names) (assignment at operator (identifier over word) value) None m ≡ with_node at.node (Some meaning) m row
      whole_is = plain_row at (Some meaning) m row row_type

      own : IsSaid c (said_of_expression at.node (Some meaning) m row)
      own = said_last c row.nodes (said_of_expression at.node (Some meaning) m row) (subst (λ (k : Evaluation). AreSaid c k.nodes) whole_is said)

      after_is : (evaluate (around c names) (assignment at operator (identifier over word) value) None m).after ≡ m'
      after_is = ap (λ (k : Evaluation). k.after) (whole_is ∙ ap (with_node at.node (Some meaning) m) row_is) ∙ writes.after

      abbrev held : List SlotId
      held = holding no_values (operand_of c.x value)

      are_held : AreValues c held
      are_held = values_with c laws no_values (operand_of c.x value) e.ty (nothing_held c) one.operand

      abbrev slot : SlotId
      slot = slot_of_local c.x target.var

      code_is : assignment_row c.x at (known_behind c.x (place_of value)) no_values (local_meant (sources.named_at c.x at)) (operand_of c.x value) ≡ leaf (site_of at) (facts c.x e.after held) (step.Store slot (operand_of c.x value))
      code_is =
          ap (λ k. assignment_row c.x at k no_values (local_meant (sources.named_at c.x at)) (operand_of c.x value)) one.behind
          ∙ ap (λ found. assignment_row c.x at e.after no_values (local_meant (option_map_or (λ (n : NodeFacts). n.element) found None)) (operand_of c.x value)) own.found
          ∙ ap (λ (k : Meaning). assignment_row c.x at e.after no_values (local_meant (Some k)) (operand_of c.x value)) target.meant

      assigns : Standing c m' → Does c (code_of c.x no_values (assignment at operator (identifier over word) value)) (facts c.x m no_values) (facts c.x m' no_values)
      assigns stands' =
          let quiet = unshared c laws e.after stands_e held are_held in
          let is_written : facts_of m' target.var ≡ Some (assign_facts c.rows.table e.ty writes.l) =
          laws.changed e.after target.var (assign_facts c.rows.table e.ty) (λ l. refl) ∙ ap (option_map (assign_facts c.rows.table e.ty)) writes.found in
          does_both c laws (code_of c.x no_values value) _ (facts c.x m no_values) (facts c.x e.after held) (facts c.x m' no_values) one.does
          (subst (λ (k : Code). Does c k (facts c.x e.after held) (facts c.x m' no_values)) (sym code_is)
          (does_step c laws (site_of at) (facts c.x e.after held) (facts c.x m' no_values) (step.Store slot (operand_of c.x value)) (facts_inside c e.after held stands_e are_held)
          (λ next. to_from_in c.g slot (operand_of c.x value) (found_of c e.after target.var writes.l stands_e writes.found).slot.inside (operand_inside c laws (operand_of c.x value) e.ty one.operand))
          (λ reached f' tells. store_leads c laws (facts c.x e.after held) (facts c.x m' no_values) quiet reached f' tells slot (operand_of c.x value) e.ty
          (has_operand c laws e.after held (operand_of c.x value) e.ty stands_e are_held one.operand (held_with c laws no_values (operand_of c.x value)))
          (gives_local c laws e.after m' stands_e stands' held no_values are_held (nothing_held c) (λ i here. absurd cc) reached target.var (assign_facts c.rows.table e.ty writes.l) is_written
          (λ other apart. laws.unchanged e.after target.var (assign_facts c.rows.table e.ty) (λ l. refl) other apart)
          e.ty writes.fits (written_fits c laws e.ty writes.l writes.fits) refl quiet reached))))

      pub assignment_effect : Standing c (evaluate (around c names) (assignment at operator (identifier over word) value) None m).after → EffectDoes c (assignment at operator (identifier over word) value) m (evaluate (around c names) (assignment at operator (identifier over word) value) None m)
      assignment_effect stands' =
          subst (λ (k : FlowModel). Does c (code_of c.x no_values (assignment at operator (identifier over word) value)) (facts c.x m no_values) (facts c.x k no_values)) (sym after_is)
          (assigns (subst (Standing c) after_is stands'))

  -- Calls of `print`.

  -- the name means the function, since no local hides it
  printer_at : (word : ℕ) (found : Option LocalId) (o : Meaning) → HidesNothing (around c names) → get names word ≡ found → slice_index_or c.outside word Nothing ≡ o → is_print o ≡ true → option_map_or Local found o ≡ Print
  printer_at word None Print hides is out print = refl
  printer_at word None Nothing hides is out print = absurd cc
  printer_at word None (Local var) hides is out print = absurd cc
  printer_at word None (Class class) hides is out print = absurd cc
  printer_at word None Other hides is out print = absurd cc
  printer_at word (Some var) o hides is out print = absurd (let free : is_free o ≡ true = subst (λ (k : Meaning). is_free k ≡ true) out (hides word var is) in both o free print)
    where
      both : (o : Meaning) → is_free o ≡ true → is_print o ≡ true → ⊥
      both Nothing free print = cc
      both (Local var) free print = cc
      both Print free print = cc
      both (Class class) free print = cc
      both Other free print = cc

  module _ (at callee_at list_at argument_at : Place) (word : ℕ) (value : Tree) (m : FlowModel) (built : is_value c.outside value ≡ true) (print : is_print (meaning_at c.outside word) ≡ true) (hides : HidesNothing (around c names)) where
    abbrev the_call : Tree
    the_call = call at (identifier callee_at word) absent (argument_list list_at (more (argument argument_at None value) no_more))

    abbrev printed : Evaluation
    printed = evaluate (around c names) value None m

    abbrev print_gives : Evaluation
    print_gives = rows.print_row c.rows.table (place_of value) printed

    abbrev callee_meaning : Meaning
    callee_meaning = meaning_of (around c names) word

    meant : callee_meaning ≡ Print
    meant = printer_at word (get names word) (slice_index_or c.outside word Nothing) hides refl refl print

    gives : evaluate (around c names) the_call None m ≡ with_node at.node (Some callee_meaning) m print_gives
    gives = ap (λ (k : Meaning). expression_row at (Some callee_meaning) m (called (around c names) k (argument_list list_at (more (argument argument_at None value) no_more)) m)) meant ∙ ap (with_node at.node (Some callee_meaning) m) (print_stays c.rows.table (place_of value) printed)

    pub print_effect : (evaluate (around c names) the_call None m).faults ≡ [] → Standing c m → AreSaid c (evaluate (around c names) the_call None m).nodes
        → EffectDoes c the_call m (evaluate (around c names) the_call None m)
    print_effect none stands said =
        let faultless : print_gives.faults ≡ [] = sym (ap (λ (k : Evaluation). k.faults) gives) ∙ none in
        let all_said = subst (λ (k : Evaluation). AreSaid c k.nodes) gives said in
        let own = said_last c printed.nodes (said_of_expression at.node (Some callee_meaning) m print_gives) all_said in
        let value_none = left_none printed.faults (fit_faults c.rows.table ArgumentType (place_of value) printed.ty (nullable object)) faultless in
        let one = valued c laws names value None m no_values built value_none stands (nothing_held c) (said_left c printed.nodes (said_of_expression at.node (Some callee_meaning) m print_gives ∷ []) all_said) in
        let stands_e = stands_after c laws names value None m built value_none stands in
        let held = holding no_values (operand_of c.x value) in
        let are_held = values_with c laws no_values (operand_of c.x value) printed.ty (nothing_held c) one.operand in
        let quiet = unshared c laws printed.after stands_e held are_held in
        let less = facts_tell c laws printed.after printed.after held no_values stands_e stands_e (laws.reflexive printed.after) are_held (λ i here. absurd cc) in
        let is_printer : sources.is_print (sources.named_at c.x at) ≡ true =
        ap (λ found. sources.is_print (option_map_or (λ (n : NodeFacts). n.element) found None)) own.found ∙ ap (λ (k : Meaning). sources.is_print (Some k)) meant in
        let code_is : code_of c.x no_values the_call ≡ print_code c.x at no_values (argument_list list_at (more (argument argument_at None value) no_more)) =
        ap (λ b. cond b (print_code c.x at no_values (argument_list list_at (more (argument argument_at None value) no_more))) nothing) is_printer in
        let row_is : print_row c.x at (known_behind c.x (place_of value)) no_values (operand_of c.x value) ≡ leaf (site_of at) (facts c.x printed.after held) (step.Output (operand_of c.x value)) =
        ap (λ k. print_row c.x at k no_values (operand_of c.x value)) one.behind in
        subst (λ (k : FlowModel). Does c (code_of c.x no_values the_call) (facts c.x m no_values) (facts c.x k no_values)) (sym (ap (λ (k : Evaluation). k.after) gives))
        (subst (λ (k : Code). Does c k (facts c.x m no_values) (facts c.x printed.after no_values)) (sym code_is)
        (does_both c laws (code_of c.x no_values value) _ (facts c.x m no_values) (facts c.x printed.after held) (facts c.x printed.after no_values) one.does
        (subst (λ (k : Code). Does c k (facts c.x printed.after held) (facts c.x printed.after no_values)) (sym row_is)
        (does_step c laws (site_of at) (facts c.x printed.after held) (facts c.x printed.after no_values) (step.Output (operand_of c.x value)) (facts_inside c printed.after held stands_e are_held)
        (λ next. from_in c.g (operand_of c.x value) (operand_inside c laws (operand_of c.x value) printed.ty one.operand))
        (λ reached f' tells. print_leads c laws (facts c.x printed.after held) (facts c.x printed.after no_values) quiet reached f' tells (operand_of c.x value) printed.ty
        (has_operand c laws printed.after held (operand_of c.x value) printed.ty stands_e are_held one.operand (held_with c laws no_values (operand_of c.x value)))
        less reached)))))

  -- every expression that may stand as a statement
  target_effect : (at : Place) (operator : AssignmentOperator) (target value : Tree) (m : FlowModel) → is_target c.outside target ≡ true → is_value c.outside value ≡ true
      → (evaluate (around c names) (assignment at operator target value) None m).faults ≡ [] → Standing c m → AreSaid c (evaluate (around c names) (assignment at operator target value) None m).nodes
      → Standing c (evaluate (around c names) (assignment at operator target value) None m).after → EffectDoes c (assignment at operator target value) m (evaluate (around c names) (assignment at operator target value) None m)
  target_effect at operator (identifier over word) value m free built none stands said stands' = assignment_effect at operator over word value m built free none stands said stands'
  target_effect at operator _ value m free built none stands said stands' = absurd cc

  argument_effect : (at callee_at list_at : Place) (word : ℕ) (first : Tree) (m : FlowModel) → HidesNothing (around c names) → is_print (meaning_at c.outside word) ≡ true → forms.is_argument c.outside first ≡ true
      → (evaluate (around c names) (call at (identifier callee_at word) absent (argument_list list_at (more first no_more))) None m).faults ≡ [] → Standing c m
      → AreSaid c (evaluate (around c names) (call at (identifier callee_at word) absent (argument_list list_at (more first no_more))) None m).nodes
      → EffectDoes c (call at (identifier callee_at word) absent (argument_list list_at (more first no_more))) m (evaluate (around c names) (call at (identifier callee_at word) absent (argument_list list_at (more first no_more))) None m)
  argument_effect at callee_at list_at word (argument argument_at None value) m hides print built none stands said = print_effect at callee_at list_at argument_at word value m built print hides none stands said
  argument_effect at callee_at list_at word (argument argument_at (Some name) value) m hides print built none stands said = absurd cc
  argument_effect at callee_at list_at word _ m hides print built none stands said = absurd cc

  arguments_effect : (at callee_at : Place) (word : ℕ) (arguments : Tree) (m : FlowModel) → HidesNothing (around c names) → is_print (meaning_at c.outside word) ≡ true → are_arguments c.outside arguments ≡ true
      → (evaluate (around c names) (call at (identifier callee_at word) absent arguments) None m).faults ≡ [] → Standing c m
      → AreSaid c (evaluate (around c names) (call at (identifier callee_at word) absent arguments) None m).nodes
      → EffectDoes c (call at (identifier callee_at word) absent arguments) m (evaluate (around c names) (call at (identifier callee_at word) absent arguments) None m)
  arguments_effect at callee_at word (argument_list list_at (more first no_more)) m hides print built none stands said = argument_effect at callee_at list_at word first m hides print built none stands said
  arguments_effect at callee_at word (argument_list list_at (more first (more second rest))) m hides print built none stands said = absurd cc
  arguments_effect at callee_at word (argument_list list_at no_more) m hides print built none stands said = absurd cc
  arguments_effect at callee_at word _ m hides print built none stands said = absurd cc

  call_effect : (at : Place) (callee : Tree) (type_arguments : Part) (arguments : Tree) (m : FlowModel) → HidesNothing (around c names) → is_absent type_arguments ≡ true → is_printer c.outside callee ≡ true → are_arguments c.outside arguments ≡ true
      → (evaluate (around c names) (call at callee type_arguments arguments) None m).faults ≡ [] → Standing c m → AreSaid c (evaluate (around c names) (call at callee type_arguments arguments) None m).nodes
      → EffectDoes c (call at callee type_arguments arguments) m (evaluate (around c names) (call at callee type_arguments arguments) None m)
  call_effect at (identifier callee_at word) absent arguments m hides alone print built none stands said = arguments_effect at callee_at word arguments m hides print built none stands said
  call_effect at callee (present types) arguments m hides alone print built none stands said = absurd cc
  call_effect at _ absent arguments m hides alone print built none stands said = absurd cc

  pub effect : (t : Tree) (m : FlowModel) → HidesNothing (around c names) → is_effect c.outside t ≡ true → (evaluate (around c names) t None m).faults ≡ [] → Standing c m → AreSaid c (evaluate (around c names) t None m).nodes
      → Standing c (evaluate (around c names) t None m).after → EffectDoes c t m (evaluate (around c names) t None m)
  effect (assignment at operator target value) m hides built none stands said stands' =
      let parts = and_parts (not (is_some operator.compound)) (is_target c.outside target && is_value c.outside value) built in
      let sides = and_parts (is_target c.outside target) (is_value c.outside value) parts.1 in
      target_effect at operator target value m sides.0 sides.1 none stands said stands'
  effect (call at callee type_arguments arguments) m hides built none stands said stands' =
      let parts = and_parts (is_absent type_arguments) (is_printer c.outside callee && are_arguments c.outside arguments) built in
      let sides = and_parts (is_printer c.outside callee) (are_arguments c.outside arguments) parts.1 in
      call_effect at callee type_arguments arguments m hides parts.0 sides.0 sides.1 none stands said
  effect t m hides built none stands said stands' = value_effect t m built none stands said
