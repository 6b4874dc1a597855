-- The code of a statement does what the rules say of it.
use Rattle.std.proofs.Common.{◌≡◌, ℕ, Bool, true, false, not, ◌&&◌, ◌||◌, List, [], ◌∷◌, ◌++◌, Option, Some, None, refl, sym, ap, ◌∙◌, subst}
use Rattle.std.specs.FinMap.{get}
use Rattle.std.specs.Option.{option_map_or}
use Rattle.std.specs.Prelude.{filter, slice_index_or}
use Rattle.std.proofs.lemmas.Bool.{and_parts}
use Rattle.std.proofs.lemmas.List.Elements.{All-nil}
use Rattle.dart_tree.specs.Tree.{Tree, Trees, Part, no_more, more, absent, present, variable, variable_list, block, variable_statement, expression_statement, if_statement, while_statement, error_node, named_type}
use Rattle.dart_tree.specs.Places.{place_of}
use Rattle.dart_tree.specs.declared.places.Place.{Place}
use Rattle.dart_types.specs.Ty.{Ty}
use Rattle.dart_types.specs.Invalid.{holds_invalid}
use Rattle.flow_model.specs.Flow.{FlowModel, end_of, is_listed}
use Rattle.flow_model.specs.Join.{join_of, HaveSameScope, scope_of}
use Rattle.flow_model.specs.Order.{Implies}
use Rattle.flow_model.specs.declared.locals.Facts.{Facts}
use Rattle.flow_model.specs.declared.locals.LocalId.{LocalId}
use Rattle.judgement.specs.declared.meaning.Meaning.{Meaning}
use Rattle.judgement.specs.declared.meaning.Meaning.TheVariants.{Nothing, Local, Print, Class, Other}
use Rattle.judgement.specs.DeclaredNames.{locals_of, names_declared, names_in, names_within}
use Rattle.judgement.specs.Given.{Evaluation, Outcome, joined_with, said_of_statement}
use Rattle.judgement.specs.StatementRows.{loop_head, scope_row}
use Rattle.judgement.specs.Surroundings.{Names}
use Rattle.judgement.specs.Written.{written_in}
use Rattle.judgement.specs.Judgement as rules
use Rattle.judgement.specs.Judgement.{declare, evaluate, run, run_all, run_branch, written_type}
use Rattle.built_forms.specs.Forms.{are_statements, has_effect, has_type, is_block, is_declaration, is_error, is_free, is_one_variable, is_statement, is_type, is_value, is_variable, is_written_type, may_be_block}
use Rattle.rule_laws.specs.Plain.{HidesNothing}
use Rattle.rule_laws.specs.Steps.{IsStep}
use Rattle.core_ir.specs.declared.points.SlotId.{SlotId}
use Rattle.core_emit.specs.Code.{Code, choice, loop, nothing, sequence}
use Rattle.elaborate.specs.Sources.{known_behind}
use Rattle.elaborate.specs.Known.{facts}
use Rattle.elaborate.specs.Rows.{Condition, all_declared, branch_code, condition_of, declared_code, effect_code, list_code, site_of, statement_code, statements_code}
use Rattle.elaborate.proofs.Given.{Setting, Laws, around}
use Rattle.elaborate.proofs.Standing.{AreValues, HasSlots, IsValueSlot, Standing, same_slots}
use Rattle.elaborate.proofs.Tells.{Tells, facts_tell, tells_itself}
use Rattle.elaborate.proofs.Claims.{Does, does_both, does_choice, does_from, does_less, does_loop, does_nothing}
use Rattle.elaborate.proofs.Inside.{facts_inside}
use Rattle.elaborate.proofs.Leaves.{go_leads}
use Rattle.elaborate.proofs.Points.{unshared}
use Rattle.elaborate.proofs.ValueTypes.{left_none, right_none}
use Rattle.elaborate.proofs.Expressions.{AreSaid, said_left, said_right}
use Rattle.elaborate.proofs.Judged.{stands_behind}
use Rattle.elaborate.proofs.ConditionForms.{condition_does, no_values}
use Rattle.elaborate.proofs.DeclaredForms.{DeclaresWell, declares_well, initializes_well}
use Rattle.elaborate.proofs.Effects.{effect}

-- what a statement's code does, by what the rules give for it
pub record RunsWell (c : Setting) (code : Code) (m : FlowModel) (o : Outcome) : Type 0 where
  pub does : Does c code (facts c.x m no_values) (facts c.x o.after no_values)
  pub stands : Standing c o.after

nothing_held : (c : Setting) → AreValues c no_values
nothing_held c = All-nil (λ (k : SlotId). IsValueSlot c k.0)

-- where no local ends, the model stays
kept : (locals : List Facts) → filter (λ (l : Facts). not (is_listed [] l.var)) locals ≡ locals
kept [] = refl
kept (l ∷ locals) = ap (λ ls. l ∷ ls) (kept locals)

none_ends : (m : FlowModel) → end_of m [] ≡ m
none_ends m = ap (λ ls. let k : FlowModel = record { reachable = m.reachable; locals = ls } in k) (kept m.locals)

module _ (c : Setting) (laws : Laws c) where
  -- what is known of one model where another is implied
  implied : (a b : FlowModel) → Standing c a → Standing c b → Implies a b → Tells c (facts c.x a no_values) (facts c.x b no_values)
  implied a b from to implies = facts_tell c laws a b no_values no_values from to implies (nothing_held c) (λ i here. here)

  -- a statement that declares nothing leaves the scope as it was
  stands_still : (m a : FlowModel) (written : List LocalId) → Standing c m → IsStep c.rows.table m (end_of a []) written → Standing c a
  stands_still m a written stands step = subst (Standing c) (none_ends a) (stands_behind c m (end_of a []) written stands step)

  -- an expression that stands as a statement
  effect_runs : (names : Names) (value : Part) (m : FlowModel) → HidesNothing (around c names) → has_effect c.outside value ≡ true → (rules.evaluate_part (around c names) value m).faults ≡ [] → Standing c m
      → AreSaid c (rules.evaluate_part (around c names) value m).nodes → RunsWell c (effect_code c.x value) m (rules.evaluate_part (around c names) value m)
  effect_runs names absent m hides built none stands said = absurd cc
  effect_runs names (present t) m hides built none stands said =
      let e = evaluate (around c names) t None m in
      let e_none = left_none e.faults [] none in
      let steps = laws.values names t None m built e_none stands.plain in
      let stands' = stands_behind c m e.after (written_in (around c names) t) stands steps.after in
      record { does = effect c laws names t m hides built e_none stands (said_left c e.nodes [] said) stands'; stands = stands' }

  -- a declaration of one variable, behind which the model is plain
  module _ (names : Names) (m : FlowModel) (stands : Standing c m) where
    variable_runs : (t : Tree) (declared : Ty) → is_variable c.outside t ≡ true → holds_invalid declared ≡ false → (declare (around c names) declared t m).faults ≡ [] → AreSaid c (declare (around c names) declared t m).nodes
        → DeclaresWell c t m (declare (around c names) declared t m)
    variable_runs (variable at name absent) declared built plain none said = declares_well c laws names at name declared m stands none said
    variable_runs (variable at name (present value)) declared built plain none said =
        let parts = and_parts _ (is_value c.outside value) built in
        initializes_well c laws names at name declared value m stands parts.1 plain none said
    variable_runs _ declared built plain none said = absurd cc

    -- the type that is written is one of a class
    class_at : (word : ℕ) (is_nullable : Bool) (found : Option LocalId) (o : Meaning) → HidesNothing (around c names) → get names word ≡ found → slice_index_or c.outside word Nothing ≡ o → is_type o is_nullable ≡ true
        → holds_invalid (rules.type_row (option_map_or Local found o) is_nullable) ≡ false
    class_at word true None (Class class) hides is out built = refl
    class_at word false None (Class class) hides is out built = refl
    class_at word is_nullable None Nothing hides is out built = absurd cc
    class_at word is_nullable None (Local var) hides is out built = absurd cc
    class_at word is_nullable None Print hides is out built = absurd cc
    class_at word is_nullable None Other hides is out built = absurd cc
    class_at word is_nullable (Some var) o hides is out built = absurd (both o is_nullable (subst (λ (k : Meaning). is_free k ≡ true) out (hides word var is)) built)
      where
        both : (o : Meaning) (is_nullable : Bool) → is_free o ≡ true → is_type o is_nullable ≡ true → ⊥
        both Nothing is_nullable free built = cc
        both (Local var) is_nullable free built = cc
        both Print is_nullable free built = cc
        both (Class class) is_nullable free built = cc
        both Other is_nullable free built = cc

    type_built : (written : Tree) → HidesNothing (around c names) → is_written_type c.outside written ≡ true → holds_invalid (rules.type_of (around c names) written) ≡ false
    type_built (named_type at None name absent is_nullable) hides built = class_at name.word is_nullable (get names name.word) (slice_index_or c.outside name.word Nothing) hides refl refl built
    type_built (named_type at None name (present types) is_nullable) hides built = absurd cc
    type_built (named_type at (Some prefix) name types is_nullable) hides built = absurd cc
    type_built _ hides built = absurd cc

    written_built : (written : Part) → HidesNothing (around c names) → has_type c.outside written ≡ true → holds_invalid (written_type (around c names) written) ≡ false
    written_built absent hides built = absurd cc
    written_built (present written) hides built = type_built written hides built

    one_runs : (declared : Ty) (variables : Trees) → is_one_variable c.outside variables ≡ true → holds_invalid declared ≡ false → (rules.declare_all (around c names) declared variables m).faults ≡ []
        → AreSaid c (rules.declare_all (around c names) declared variables m).nodes → (Standing c (rules.declare_all (around c names) declared variables m).after
        → Does c (all_declared c.x variables) (facts c.x m no_values) (facts c.x (rules.declare_all (around c names) declared variables m).after no_values)) × HasSlots c (scope_of (rules.declare_all (around c names) declared variables m).after)
    one_runs declared (more first no_more) built plain none said =
        let o = declare (around c names) declared first m in
        let one = variable_runs first declared built plain (left_none o.faults [] none) (said_left c o.nodes [] said) in
        (λ stands'. does_both c laws (declared_code c.x first) nothing (facts c.x m no_values) (facts c.x o.after no_values) (facts c.x o.after no_values) (one.does stands') (does_nothing c laws (facts c.x o.after no_values)), one.slots)
    one_runs declared (more first (more second rest)) built plain none said = absurd cc
    one_runs declared no_more built plain none said = absurd cc

    list_runs : (list : Tree) → HidesNothing (around c names) → is_declaration c.outside list ≡ true → (rules.declare_list (around c names) list m).faults ≡ [] → AreSaid c (rules.declare_list (around c names) list m).nodes
        → (Standing c (rules.declare_list (around c names) list m).after → Does c (list_code c.x list) (facts c.x m no_values) (facts c.x (rules.declare_list (around c names) list m).after no_values)) × HasSlots c (scope_of (rules.declare_list (around c names) list m).after)
    list_runs (variable_list at false written variables) hides built none said =
        let parts = and_parts (has_type c.outside written) (is_one_variable c.outside variables) built in
        one_runs (written_type (around c names) written) variables parts.1 (written_built written hides parts.0) none said
    list_runs (variable_list at true written variables) hides built none said = absurd cc
    list_runs _ hides built none said = absurd cc

  -- A statement by the rules; what it declares has slots by what is said of it.
  abbrev pub Statement : Names → Tree → Type 0
  Statement names t = (m : FlowModel) → HidesNothing (around c names) → is_statement c.outside t ≡ true → (run (around c names) t m).faults ≡ [] → Standing c m → AreSaid c (run (around c names) t m).nodes
      → RunsWell c (statement_code c.x t) m (run (around c names) t m)

  -- Statements, one after another.
  abbrev pub Statements : Names → Trees → Type 0
  Statements names ts = (m : FlowModel) → HidesNothing (around c names) → are_statements c.outside ts ≡ true → (run_all (around c names) ts m).faults ≡ [] → Standing c m → AreSaid c (run_all (around c names) ts m).nodes
      → RunsWell c (statements_code c.x ts) m (run_all (around c names) ts m)

  -- what stands in a scope
  abbrev scoped : Names → Tree → FlowModel → Outcome
  scoped names t m = scope_row (around c names) (names_declared t) (λ inner. run inner t) m

  -- a statement behind which the locals have slots has them where the scope is left too
  left_scope : (names : Names) (at : Place) (statements : Trees) → Statements (names_within names (names_in statements)) statements → (m : FlowModel) → HidesNothing (around c names) → are_statements c.outside statements ≡ true
      → (run (around c names) (block at statements) m).faults ≡ [] → Standing c m → AreSaid c (run (around c names) (block at statements) m).nodes
      → RunsWell c (statements_code c.x statements) m (run (around c names) (block at statements) m)
  left_scope names at statements inside m hides built none stands said =
      let within_it = names_within names (names_in statements) in
      let o = run_all (around c within_it) statements m in
      let all_said = said_left c (o.nodes ++ []) (said_of_statement at.node None m (end_of o.after (locals_of (names_in statements))) ∷ []) said in
      let one = inside m (laws.hides_block names statements hides built) built (left_none o.faults [] none) stands (said_left c o.nodes [] all_said) in
      let step = (laws.statements names (block at statements) m hides built none stands.plain).behind in
      let stands' = stands_still m (end_of o.after (locals_of (names_in statements))) _ stands step in
      record {
        does = does_less c laws (statements_code c.x statements) (facts c.x m no_values) (facts c.x o.after no_values) (facts c.x (end_of o.after (locals_of (names_in statements))) no_values) one.does
            (implied o.after (end_of o.after (locals_of (names_in statements))) one.stands stands' (laws.ends o.after (locals_of (names_in statements))));
        stands = stands';
      }

  -- a block as a branch or a body
  branch_runs : (names : Names) (t : Tree) → Statement (names_within names (names_declared t)) t → (m : FlowModel) → HidesNothing (around c names) → is_block c.outside t ≡ true → is_statement c.outside t ≡ true
      → (scoped names t m).faults ≡ [] → Standing c m → AreSaid c (scoped names t m).nodes → RunsWell c (statement_code c.x t) m (scoped names t m)
  branch_runs names t inside m hides built built' none stands said =
      let within_it = names_within names (names_declared t) in
      let o = run (around c within_it) t m in
      let one = inside m (laws.hides_branch names t hides built) built' (left_none o.faults [] none) stands (said_left c o.nodes [] said) in
      let step = laws.blocks names t m hides built none stands.plain in
      let stands' = stands_behind c m (end_of o.after (locals_of (names_declared t))) _ stands step in
      record {
        does = does_less c laws (statement_code c.x t) (facts c.x m no_values) (facts c.x o.after no_values) (facts c.x (end_of o.after (locals_of (names_declared t))) no_values) one.does
            (implied o.after (end_of o.after (locals_of (names_declared t))) one.stands stands' (laws.ends o.after (locals_of (names_declared t))));
        stands = stands';
      }

  -- a block is a statement
  block_statement : (t : Tree) → is_block c.outside t ≡ true → is_statement c.outside t ≡ true
  block_statement (block at statements) built = built
  block_statement _ built = absurd cc

  -- models of one scope
  scopes_meet : (a b m n k : FlowModel) → HaveSameScope a m → HaveSameScope b n → HaveSameScope m k → HaveSameScope n k → HaveSameScope a b
  scopes_meet a b m n k am bn mk nk = am ∙ mk ∙ sym (bn ∙ nk)

  -- a branch, or one that is left out
  abbrev Branch : Names → Part → Type 0
  Branch names part = (m : FlowModel) → HidesNothing (around c names) → may_be_block c.outside part ≡ true → (run_branch (around c names) part m).faults ≡ [] → Standing c m → AreSaid c (run_branch (around c names) part m).nodes
      → RunsWell c (branch_code c.x part) m (run_branch (around c names) part m)

  module _ (names : Names) (at : Place) (condition : Tree) (m : FlowModel) (stands : Standing c m) (hides : HidesNothing (around c names)) where
    -- A branch: one part or the other, and both come together behind it.
    module _ (then_branch : Tree) (else_branch : Part) (then_runs : Statement (names_within names (names_declared then_branch)) then_branch) (else_runs : Branch names else_branch)
        (built : (is_value c.outside condition && (is_block c.outside then_branch && may_be_block c.outside else_branch)) ≡ true)
        (none : (run (around c names) (if_statement at condition then_branch else_branch) m).faults ≡ []) (said : AreSaid c (run (around c names) (if_statement at condition then_branch else_branch) m).nodes)
      where
        abbrev v : Evaluation
        v = rules.condition_of (around c names) condition m

        abbrev one : Outcome
        one = scoped names then_branch v.when_true

        abbrev other : Outcome
        other = run_branch (around c names) else_branch v.when_false

        abbrev met : FlowModel
        met = join_of one.after other.after

        abbrev k : Condition
        k = condition_of c.x no_values condition

        pub if_runs : RunsWell c (statement_code c.x (if_statement at condition then_branch else_branch)) m (run (around c names) (if_statement at condition then_branch else_branch) m)
        if_runs =
            let parts = and_parts (is_value c.outside condition) (is_block c.outside then_branch && may_be_block c.outside else_branch) built in
            let branches = and_parts (is_block c.outside then_branch) (may_be_block c.outside else_branch) parts.1 in
            let all_said = said_left c (v.nodes ++ (one.nodes ++ other.nodes)) (said_of_statement at.node None m met ∷ []) said in
            let branch_said = said_right c v.nodes (one.nodes ++ other.nodes) all_said in
            let v_none = left_none v.faults (one.faults ++ other.faults) none in
            let branch_none = right_none v.faults (one.faults ++ other.faults) none in
            let one_none = left_none one.faults other.faults branch_none in
            let other_none = right_none one.faults other.faults branch_none in
            let c_does = condition_does c laws names condition m parts.0 v_none stands (said_left c v.nodes (one.nodes ++ other.nodes) all_said) in
            let steps = laws.conditions names condition m parts.0 v_none stands.plain in
            let a = branch_runs names then_branch then_runs v.when_true hides branches.0 (block_statement then_branch branches.0) one_none c_does.when_true (said_left c one.nodes other.nodes branch_said) in
            let b = else_runs v.when_false hides branches.1 other_none c_does.when_false (said_right c one.nodes other.nodes branch_said) in
            let one_step = laws.blocks names then_branch v.when_true hides branches.0 one_none c_does.when_true.plain in
            let other_step = laws.branches names else_branch v.when_false hides branches.1 other_none c_does.when_false.plain in
            let meet = scopes_meet one.after other.after v.when_true v.when_false m one_step.same_scope other_step.same_scope steps.when_true.same_scope steps.when_false.same_scope in
            let whole = stands_still m met _ stands (laws.statements names (if_statement at condition then_branch else_branch) m hides built none stands.plain).behind in
            let one_less = does_less c laws (statement_code c.x then_branch) (facts c.x v.when_true no_values) (facts c.x one.after no_values) (facts c.x met no_values) a.does
            (implied one.after met a.stands whole (laws.first_joins one.after other.after meet)) in
            let other_less = does_less c laws (branch_code c.x else_branch) (facts c.x v.when_false no_values) (facts c.x other.after no_values) (facts c.x met no_values) b.does
            (implied other.after met b.stands whole (laws.second_joins one.after other.after meet)) in
            record {
              does = subst (λ (known : FlowModel). Does c (sequence k.code (choice (site_of (place_of condition)) (facts c.x known k.values) k.test (statement_code c.x then_branch) (branch_code c.x else_branch))) (facts c.x m no_values) (facts c.x met no_values)) (sym c_does.behind)
                  (does_both c laws k.code _ (facts c.x m no_values) (facts c.x v.after k.values) (facts c.x met no_values) c_does.conditioned.does
                  (does_choice c laws (site_of (place_of condition)) (facts c.x v.after k.values) (facts c.x v.when_true no_values) (facts c.x v.when_false no_values) (facts c.x met no_values) k.test (statement_code c.x then_branch) (branch_code c.x else_branch)
                  (facts_inside c v.after k.values c_does.after c_does.conditioned.values) c_does.conditioned.inside c_does.conditioned.leads one_less other_less));
              stands = whole;
            }

    -- A loop: its head holds at each turn, and it ends where its condition fails.
    module _ (body : Tree) (body_runs : Statement (names_within names (names_declared body)) body)
        (built : (is_value c.outside condition && is_block c.outside body) ≡ true)
        (none : (run (around c names) (while_statement at condition body) m).faults ≡ []) (said : AreSaid c (run (around c names) (while_statement at condition body) m).nodes)
      where
        abbrev head : FlowModel
        head = loop_head m (written_in (around c names) (while_statement at condition body)) []

        abbrev judged : Evaluation
        judged = rules.condition_of (around c names) condition head

        abbrev turn : Outcome
        turn = scoped names body judged.when_true

        abbrev tested : Condition
        tested = condition_of c.x no_values condition

        ends : joined_with at.node false turn.jumps judged.when_false ≡ judged.when_false
        ends = ap (λ js. joined_with at.node false (js ++ []) judged.when_false) (laws.jumps (names_within names (names_declared body)) body judged.when_true)

        pub while_runs : RunsWell c (statement_code c.x (while_statement at condition body)) m (run (around c names) (while_statement at condition body) m)
        while_runs =
            let parts = and_parts (is_value c.outside condition) (is_block c.outside body) built in
            let all_said = said_left c (judged.nodes ++ turn.nodes) (said_of_statement at.node None m (joined_with at.node false turn.jumps judged.when_false) ∷ []) said in
            let v_none = left_none judged.faults turn.faults none in
            let turn_none = right_none judged.faults turn.faults none in
            let loops = laws.loops names at condition body m hides built none stands.plain in
            let stands_head : Standing c head = record { plain = loops.plain; slots = same_slots c head m loops.same_scope stands.slots } in
            let c_does = condition_does c laws names condition head parts.0 v_none stands_head (said_left c judged.nodes turn.nodes all_said) in
            let a = branch_runs names body body_runs judged.when_true hides parts.1 (block_statement body parts.1) turn_none c_does.when_true (said_right c judged.nodes turn.nodes all_said) in
            let again = does_less c laws (statement_code c.x body) (facts c.x judged.when_true no_values) (facts c.x turn.after no_values) (facts c.x head no_values) a.does
            (implied turn.after head a.stands stands_head loops.again) in
            let quiet = unshared c laws head stands_head no_values (nothing_held c) in
            let looped = does_loop c laws (site_of at) (facts c.x head no_values) (facts c.x judged.after tested.values) (facts c.x judged.when_true no_values) (facts c.x judged.when_false no_values) tested.code tested.test (statement_code c.x body)
            (facts_inside c head no_values stands_head (nothing_held c)) (facts_inside c judged.after tested.values c_does.after c_does.conditioned.values) c_does.conditioned.inside
            (λ f' tells reached. go_leads c laws (facts c.x head no_values) (facts c.x head no_values) quiet reached f' tells (tells_itself c laws (facts c.x head no_values)) reached)
            c_does.conditioned.leads c_does.conditioned.does again in
            let from = does_from c laws (loop (site_of at) (facts c.x head no_values) (facts c.x judged.after tested.values) tested.code tested.test (statement_code c.x body)) (facts c.x m no_values) (facts c.x head no_values) (facts c.x judged.when_false no_values)
            (implied m head stands stands_head loops.before) looped in
            record {
              does = subst (λ (after : FlowModel). Does c (statement_code c.x (while_statement at condition body)) (facts c.x m no_values) (facts c.x after no_values)) (sym ends)
                  (subst (λ (before : FlowModel). Does c (loop (site_of at) (facts c.x before no_values) (facts c.x (known_behind c.x (place_of condition)) tested.values) tested.code tested.test (statement_code c.x body)) (facts c.x m no_values) (facts c.x judged.when_false no_values)) (sym c_does.before)
                  (subst (λ (known : FlowModel). Does c (loop (site_of at) (facts c.x head no_values) (facts c.x known tested.values) tested.code tested.test (statement_code c.x body)) (facts c.x m no_values) (facts c.x judged.when_false no_values)) (sym c_does.behind) from));
              stands = stands_still m (joined_with at.node false turn.jumps judged.when_false) _ stands (laws.statements names (while_statement at condition body) m hides built none stands.plain).behind;
            }

  -- a node that derives nothing does nothing
  error_runs : (t : Tree) (names : Names) (m : FlowModel) → is_error t ≡ true → Standing c m → RunsWell c (statement_code c.x t) m (run (around c names) t m)
  error_runs (error_node at) names m is stands = record { does = does_nothing c laws (facts c.x m no_values); stands = stands }
  error_runs _ names m is stands = absurd cc

  first_runs : (t : Tree) (error statement : Bool) → is_error t ≡ error → is_statement c.outside t ≡ statement → (error || statement) ≡ true → (names : Names) → Statement names t → (m : FlowModel) → HidesNothing (around c names)
      → (run (around c names) t m).faults ≡ [] → Standing c m → AreSaid c (run (around c names) t m).nodes → RunsWell c (statement_code c.x t) m (run (around c names) t m)
  first_runs t true statement is is' one names runs m hides none stands said = error_runs t names m is stands
  first_runs t false true is is' one names runs m hides none stands said = runs m hides is' none stands said
  first_runs t false false is is' one names runs m hides none stands said = absurd cc

  mutual
    -- every statement
    pub statement_runs : (t : Tree) (names : Names) → Statement names t
    statement_runs (variable_statement at variables) names m hides built none stands said =
        let o = rules.declare_list (around c names) variables m in
        let both = list_runs names m stands variables hides built none (said_left c o.nodes (said_of_statement at.node None m o.after ∷ []) said) in
        let plain = (laws.statements names (variable_statement at variables) m hides built none stands.plain).plain in
        let stands' : Standing c o.after = record { plain = plain; slots = both.1 } in
        record { does = both.0 stands'; stands = stands' }
    statement_runs (expression_statement at value) names m hides built none stands said =
        let o = rules.evaluate_part (around c names) value m in
        let one = effect_runs names value m hides built none stands (said_left c o.nodes (said_of_statement at.node None m o.after ∷ []) said) in
        record { does = one.does; stands = one.stands }
    statement_runs (if_statement at condition then_branch else_branch) names m hides built none stands said =
        if_runs names at condition m stands hides then_branch else_branch (statement_runs then_branch (names_within names (names_declared then_branch))) (branches_run else_branch names) built none said
    statement_runs (while_statement at condition body) names m hides built none stands said =
        while_runs names at condition m stands hides body (statement_runs body (names_within names (names_declared body))) built none said
    statement_runs (block at statements) names m hides built none stands said =
        left_scope names at statements (statements_run statements (names_within names (names_in statements))) m hides built none stands said
    statement_runs _ names m hides built none stands said = absurd cc

    pub branches_run : (part : Part) (names : Names) → Branch names part
    branches_run absent names m hides built none stands said = record { does = does_nothing c laws (facts c.x m no_values); stands = stands }
    branches_run (present t) names m hides built none stands said = branch_runs names t (statement_runs t (names_within names (names_declared t))) m hides built (block_statement t built) none stands said

    -- and what derives nothing
    pub statements_run : (ts : Trees) (names : Names) → Statements names ts
    statements_run no_more names m hides built none stands said = record { does = does_nothing c laws (facts c.x m no_values); stands = stands }
    statements_run (more first rest) names m hides built none stands said =
        let parts = and_parts (is_error first || is_statement c.outside first) (are_statements c.outside rest) built in
        let o = run (around c names) first m in
        let behind = run_all (around c names) rest o.after in
        let one = first_runs first (is_error first) (is_statement c.outside first) refl refl parts.0 names (statement_runs first names) m hides (left_none o.faults behind.faults none) stands (said_left c o.nodes behind.nodes said) in
        let other = statements_run rest names o.after hides parts.1 (right_none o.faults behind.faults none) one.stands (said_right c o.nodes behind.nodes said) in
        record {
          does = does_both c laws (statement_code c.x first) (statements_code c.x rest) (facts c.x m no_values) (facts c.x o.after no_values) (facts c.x behind.after no_values) one.does other.does;
          stands = other.stands;
        }
