-- The code of a declaration does what the rules say of it.
use Rattle.std.proofs.Common.{◌≡◌, ◌≢◌, ◌<◌, Bool, true, false, cond, ◌&&◌, nat_lt, map, List, [], ◌∷◌, ◌++◌, length, Some, refl, sym, ap, ◌∙◌, subst, IsTrue}
use Rattle.std.specs.Option.{option_map, option_map_or}
use Rattle.std.specs.Prelude.{All, filter}
use Rattle.std.proofs.lemmas.List.Elements.{All-head, All-tail, All-cons, All-nil}
use Rattle.dart_tree.specs.Tree.{Tree, variable, absent, present}
use Rattle.dart_tree.specs.Places.{place_of}
use Rattle.dart_tree.specs.declared.names.Name.{Name}
use Rattle.dart_tree.specs.declared.places.Place.{Place}
use Rattle.dart_types.specs.Ty.{Ty}
use Rattle.dart_types.specs.Ty as ty
use Rattle.dart_types.specs.Invalid.{holds_invalid}
use Rattle.dart_types.specs.SubTest.{sub}
use Rattle.flow_model.specs.Flow.{FlowModel, declare_of, facts_of, fresh_facts, is_known}
use Rattle.flow_model.specs.Assign.{assign_facts}
use Rattle.flow_model.specs.Join.{scope_of}
use Rattle.flow_model.specs.declared.locals.Facts.{Facts}
use Rattle.flow_model.specs.declared.locals.LocalDecl.{LocalDecl}
use Rattle.flow_model.specs.declared.locals.LocalId.{LocalId}
use Rattle.judgement.specs.declared.fault.Fault.{Fault}
use Rattle.judgement.specs.declared.code.DiagnosticCode.TheVariants.{DuplicateDefinition, InvalidAssignment}
use Rattle.judgement.specs.declared.meaning.Meaning.TheVariants.{Local}
use Rattle.judgement.specs.DeclaredNames.{local_of}
use Rattle.judgement.specs.Given.{Evaluation, Outcome, complains, fault_at, fit_faults, just, said_of_statement, statement_row}
use Rattle.judgement.specs.StatementRows.{declare_row, declared_local, initialized_row, is_declared_before, with_value}
use Rattle.judgement.specs.Surroundings.{Names}
use Rattle.judgement.specs.Judgement.{declare, evaluate}
use Rattle.built_forms.specs.Forms.{is_value}
use Rattle.core_ir.specs.declared.points.Operand.TheVariants.{Constant}
use Rattle.core_ir.specs.declared.points.SlotId.{SlotId}
use Rattle.core_check.specs.NamedSlots.{to_from_in}
use Rattle.core_check.specs.WellFormed.{IsSlot}
use Rattle.core_ir.specs.declared.values.Value.TheVariants.{Null}
use Rattle.core_emit.specs.Code.{Code, leaf}
use Rattle.core_emit.specs.declared.steps.Step.TheVariants as step
use Rattle.elaborate.specs.Sources.{known_before, known_behind, slot_of_local}
use Rattle.elaborate.specs.Known.{facts, holding}
use Rattle.elaborate.specs.Rows as code
use Rattle.elaborate.specs.Rows.{declared_code, operand_of, site_of, step_at}
use Rattle.elaborate.proofs.Given.{Setting, Laws, around}
use Rattle.elaborate.proofs.Standing.{AreValues, HasSlots, IsSlotOf, IsValueSlot, Standing, found_of}
use Rattle.elaborate.proofs.Claims.{Does, does_both, does_step}
use Rattle.elaborate.proofs.Inside.{facts_inside}
use Rattle.elaborate.proofs.Leaves.{all_one, declare_leads, initialize_leads}
use Rattle.elaborate.proofs.Points.{gives_local, leaves_unset, others_stay, unshared, written_fits}
use Rattle.elaborate.proofs.ValueTypes.{fits_sub, left_none, right_none}
use Rattle.elaborate.proofs.Expressions.{AreSaid, IsSaid, Valued, has_operand, held_with, operand_inside, said_last, said_left, values_with}
use Rattle.elaborate.proofs.ValueForms.{before_node, behind_node}
use Rattle.elaborate.proofs.Judged.{stands_after, valued}
use Rattle.elaborate.proofs.ConditionForms.{no_values}

-- slots of some locals, and of one more between them
module _ (c : Setting) where
  abbrev Slotted : LocalId × Ty → Type 0
  Slotted local = IsSlotOf c local.0.0 local.1

  abbrev local : Facts → LocalId × Ty
  local l = (l.var, l.ty)

  kept_at : (l : Facts) (rest : List Facts) (b : Bool) → Slotted (local l) → All Slotted (map local rest) → All Slotted (map local (cond b (l ∷ rest) rest))
  kept_at l rest true own all = All-cons Slotted (local l) (map local rest) own all
  kept_at l rest false own all = all

  slots_kept : (p : Facts → Bool) (locals : List Facts) → All Slotted (map local locals) → All Slotted (map local (filter p locals))
  slots_kept p [] all = all
  slots_kept p (l ∷ locals) all = kept_at l (filter p locals) (p l) (All-head Slotted (local l) (map local locals) all) (slots_kept p locals (All-tail Slotted (local l) (map local locals) all))

  slots_with : (locals rest : List Facts) (l : Facts) → All Slotted (map local locals) → Slotted (local l) → All Slotted (map local rest) → All Slotted (map local (locals ++ l ∷ rest))
  slots_with [] rest l all own behind = All-cons Slotted (local l) (map local rest) own behind
  slots_with (k ∷ locals) rest l all own behind =
      All-cons Slotted (local k) (map local (locals ++ l ∷ rest)) (All-head Slotted (local k) (map local locals) all) (slots_with locals rest l (All-tail Slotted (local k) (map local locals) all) own behind)

  pub declared_slots : (m : FlowModel) (d : LocalDecl) → HasSlots c (scope_of m) → IsSlotOf c d.var.0 d.ty → HasSlots c (scope_of (declare_of m d))
  declared_slots m d slots own =
      slots_with (filter (λ (l : Facts). nat_lt l.var.0 d.var.0) m.locals) (filter (λ (l : Facts). nat_lt d.var.0 l.var.0) m.locals) (fresh_facts d)
      (slots_kept (λ (l : Facts). nat_lt l.var.0 d.var.0) m.locals slots) own (slots_kept (λ (l : Facts). nat_lt d.var.0 l.var.0) m.locals slots)

-- a variable's code, and the model behind it: plain where the statement says so
pub record DeclaresWell (c : Setting) (t : Tree) (m : FlowModel) (o : Outcome) : Type 0 where
  pub does : Standing c o.after → Does c (declared_code c.x t) (facts c.x m no_values) (facts c.x o.after no_values)
  pub slots : HasSlots c (scope_of o.after)

nothing_held : (c : Setting) → AreValues c no_values
nothing_held c = All-nil (λ (k : SlotId). IsValueSlot c k.0)

-- a row that says nothing wrong isn't one of a name that was declared before
undeclared : (b : Bool) (o p : Outcome) → (o.faults ≡ [] → ⊥) → (cond b o p).faults ≡ [] → b ≡ false
undeclared true o p some none = absurd (some none)
undeclared false o p some none = refl

some_last : {A : Type 0} (xs : List A) (x : A) → xs ++ x ∷ [] ≡ [] → ⊥
some_last [] x none = cc
some_last (y ∷ xs) x none = cc

module _ (c : Setting) (laws : Laws c) (names : Names) (at : Place) (name : Name) (declared : Ty) where
  abbrev var : LocalId
  var = local_of name

  abbrev slot : SlotId
  slot = slot_of_local c.x var

  -- A variable without initializer.
  module _ (m : FlowModel) (stands : Standing c m) where
    abbrev fresh : LocalDecl
    fresh = declared_local c.rows.table declared var false

    abbrev m' : FlowModel
    m' = declare_of m fresh

    unset_step : (b : Bool) → sub c.rows.table ty.null declared ≡ b → Standing c m'
        → Does c (leaf (site_of at) (facts c.x m no_values) (cond b (step.Initialize slot (Constant Null)) (step.Declare slot))) (facts c.x m no_values) (facts c.x m' no_values)
    unset_step true is stands' =
        let known : fresh.assigned ≡ true = ap (λ b. b && true) is in
        let quiet = unshared c laws m stands no_values (nothing_held c) in
        does_step c laws (site_of at) (facts c.x m no_values) (facts c.x m' no_values) (step.Initialize slot (Constant Null)) (facts_inside c m no_values stands (nothing_held c))
        (λ next. to_from_in c.g slot (Constant Null) slot_in tt)
        (λ reached f' tells. initialize_leads c laws (facts c.x m no_values) (facts c.x m' no_values) quiet reached f' tells slot (Constant Null) ty.null (record { assigned = refl; typed = refl })
        (gives_local c laws m m' stands stands' no_values no_values (nothing_held c) (nothing_held c) (λ i here. here) reached var (fresh_facts fresh) (laws.declared m fresh) (laws.undeclared m fresh) ty.null is is known quiet reached))
      where
        slot_in : slot.0 < length c.g.slots
        slot_in = (found_of c m' var (fresh_facts fresh) stands' (laws.declared m fresh)).slot.inside
    unset_step false is stands' =
        let unknown : fresh.assigned ≡ false = ap (λ b. b && true) is in
        let quiet = unshared c laws m stands no_values (nothing_held c) in
        does_step c laws (site_of at) (facts c.x m no_values) (facts c.x m' no_values) (step.Declare slot) (facts_inside c m no_values stands (nothing_held c))
        (λ next. all_one (IsSlot c.g) slot (found_of c m' var (fresh_facts fresh) stands' (laws.declared m fresh)).slot.inside)
        (λ reached f' tells. declare_leads c laws (facts c.x m no_values) (facts c.x m' no_values) quiet reached f' tells slot
        (leaves_unset c laws m m' stands stands' no_values no_values (nothing_held c) (nothing_held c) (λ i here. here) reached var (fresh_facts fresh) (laws.declared m fresh) (laws.undeclared m fresh) unknown refl)
        (others_stay c laws m m' stands stands' no_values no_values (nothing_held c) (nothing_held c) (λ i here. here) reached var (fresh_facts fresh) (laws.declared m fresh) (laws.undeclared m fresh)))

    pub declares_well : (declare (around c names) declared (variable at name absent) m).faults ≡ [] → AreSaid c (declare (around c names) declared (variable at name absent) m).nodes
        → DeclaresWell c (variable at name absent) m (declare (around c names) declared (variable at name absent) m)
    declares_well none said =
        let s = around c names in
        let new : is_declared_before s name m ≡ false = undeclared (is_declared_before s name m) (complains name.at.span DuplicateDefinition m) (just m') (λ e. cc) none in
        let row : declare_row s name declared m ≡ just m' = ap (λ b. cond b (complains name.at.span DuplicateDefinition m) (just m')) new in
        let is : declare s declared (variable at name absent) m ≡ statement_row at (Some (Local var)) m (just m') = ap (statement_row at (Some (Local var)) m) row in
        let own = said_last c [] (said_of_statement at.node (Some (Local var)) m m') (subst (λ (o : Outcome). AreSaid c o.nodes) is said) in
        let before = before_node c laws at (said_of_statement at.node (Some (Local var)) m m') own refl in
        let behind = behind_node c laws at (said_of_statement at.node (Some (Local var)) m m') own refl in
        let null = sub c.rows.table ty.null declared in
        let known : is_known (λ (l : Facts). l.assigned) (known_behind c.x at) var ≡ (null && true) =
        ap (λ k. is_known (λ (l : Facts). l.assigned) k var) behind ∙ ap (λ found. option_map_or (λ (l : Facts). l.assigned) found false) (laws.declared m fresh) in
        let code_is : declared_code c.x (variable at name absent) ≡ leaf (site_of at) (facts c.x m no_values) (cond null (step.Initialize slot (Constant Null)) (step.Declare slot)) =
        ap (λ b. step_at c.x at (known_before c.x at) no_values (cond b (step.Initialize slot (Constant Null)) (step.Declare slot))) (known ∙ same null)
        ∙ ap (λ k. step_at c.x at k no_values (cond null (step.Initialize slot (Constant Null)) (step.Declare slot))) before in
        subst (λ (o : Outcome). DeclaresWell c (variable at name absent) m o) (sym is) (record {
          does = λ stands'. subst (λ (k : Code). Does c k (facts c.x m no_values) (facts c.x m' no_values)) (sym code_is) (unset_step null refl stands');
          slots = declared_slots c m fresh stands.slots (own.local var (fresh_facts fresh) refl refl (laws.declared m fresh));
        })
      where
        same : (b : Bool) → (b && true) ≡ b
        same true = refl
        same false = refl

  -- A variable with an initializer.
  module _ (value : Tree) (m : FlowModel) (stands : Standing c m) (built : is_value c.outside value ≡ true) (plain : holds_invalid declared ≡ false)
      (none : (declare (around c names) declared (variable at name (present value)) m).faults ≡ []) (said : AreSaid c (declare (around c names) declared (variable at name (present value)) m).nodes)
    where
      abbrev e : Evaluation
      e = evaluate (around c names) value (Some declared) m

      abbrev given : LocalDecl
      given = declared_local c.rows.table declared var true

      abbrev behind_it : FlowModel
      behind_it = with_value c.rows.table declared var e.ty e.after

      abbrev row : Outcome
      row = initialized_row (around c names) name declared (place_of value) e.ty e.after

      abbrev misfit : List Fault
      misfit = fit_faults c.rows.table InvalidAssignment (place_of value) e.ty declared

      e_none : e.faults ≡ []
      e_none = left_none e.faults row.faults none

      row_none : row.faults ≡ []
      row_none = right_none e.faults row.faults none

      new : is_declared_before (around c names) name e.after ≡ false
      new = undeclared (is_declared_before (around c names) name e.after) (record (just e.after) { faults = misfit ++ fault_at name.at DuplicateDefinition }) (record (just behind_it) { faults = misfit })
          (λ h. some_last misfit (record { span = name.at.span; code = DuplicateDefinition }) h) row_none

      row_is : row ≡ record (just behind_it) { faults = misfit }
      row_is = ap (λ b. cond b (record (just e.after) { faults = misfit ++ fault_at name.at DuplicateDefinition }) (record (just behind_it) { faults = misfit })) new

      whole_is : declare (around c names) declared (variable at name (present value)) m ≡ statement_row at (Some (Local var)) m (record { after = behind_it; jumps = []; returned = []; faults = e.faults ++ misfit; nodes = e.nodes ++ [] })
      whole_is = ap (λ (o : Outcome). statement_row at (Some (Local var)) m (record { after = o.after; jumps = o.jumps; returned = o.returned; faults = e.faults ++ o.faults; nodes = e.nodes ++ o.nodes })) row_is

      all_said : AreSaid c ((e.nodes ++ []) ++ said_of_statement at.node (Some (Local var)) m behind_it ∷ [])
      all_said = subst (λ (o : Outcome). AreSaid c o.nodes) whole_is said

      own : IsSaid c (said_of_statement at.node (Some (Local var)) m behind_it)
      own = said_last c (e.nodes ++ []) (said_of_statement at.node (Some (Local var)) m behind_it) all_said

      one : Valued c no_values m value e
      one = valued c laws names value (Some declared) m no_values built e_none stands (nothing_held c) (said_left c e.nodes [] (said_left c (e.nodes ++ []) (said_of_statement at.node (Some (Local var)) m behind_it ∷ []) all_said))

      stands_e : Standing c e.after
      stands_e = stands_after c laws names value (Some declared) m built e_none stands

      fits : IsTrue (sub c.rows.table e.ty declared)
      fits = fits_sub c.rows.table e.ty declared one.value plain [] (record { span = (place_of value).span; code = InvalidAssignment }) (ap (λ (o : Outcome). o.faults) (sym row_is) ∙ row_none)

      abbrev held : List SlotId
      held = holding no_values (operand_of c.x value)

      are_held : AreValues c held
      are_held = values_with c laws no_values (operand_of c.x value) e.ty (nothing_held c) one.operand

      abbrev written : Facts
      written = assign_facts c.rows.table e.ty (fresh_facts given)

      is_written : facts_of behind_it var ≡ Some written
      is_written = laws.changed (declare_of e.after given) var (assign_facts c.rows.table e.ty) (λ l. refl) ∙ ap (option_map (assign_facts c.rows.table e.ty)) (laws.declared e.after given)

      others : (other : LocalId) → other.0 ≢ var.0 → facts_of behind_it other ≡ facts_of e.after other
      others other apart = laws.unchanged (declare_of e.after given) var (assign_facts c.rows.table e.ty) (λ l. refl) other apart ∙ laws.undeclared e.after given other apart

      set_does : Standing c behind_it → Does c (declared_code c.x (variable at name (present value))) (facts c.x m no_values) (facts c.x behind_it no_values)
      set_does stands' =
          let code_is : code.initialized_row c.x at name (known_behind c.x (place_of value)) (operand_of c.x value) ≡ leaf (site_of at) (facts c.x e.after held) (step.Initialize slot (operand_of c.x value)) =
          ap (λ k. code.initialized_row c.x at name k (operand_of c.x value)) one.behind in
          let quiet = unshared c laws e.after stands_e held are_held in
          does_both c laws (code.code_of c.x no_values value) _ (facts c.x m no_values) (facts c.x e.after held) (facts c.x behind_it no_values) one.does
          (subst (λ (k : Code). Does c k (facts c.x e.after held) (facts c.x behind_it no_values)) (sym code_is)
          (does_step c laws (site_of at) (facts c.x e.after held) (facts c.x behind_it no_values) (step.Initialize slot (operand_of c.x value)) (facts_inside c e.after held stands_e are_held)
          (λ next. to_from_in c.g slot (operand_of c.x value) (found_of c behind_it var written stands' is_written).slot.inside (operand_inside c laws (operand_of c.x value) e.ty one.operand))
          (λ reached f' tells. initialize_leads c laws (facts c.x e.after held) (facts c.x behind_it no_values) quiet reached f' tells slot (operand_of c.x value) e.ty
          (has_operand c laws e.after held (operand_of c.x value) e.ty stands_e are_held one.operand (held_with c laws no_values (operand_of c.x value)))
          (gives_local c laws e.after behind_it stands_e stands' held no_values are_held (nothing_held c) (λ i here. absurd cc) reached var written is_written others e.ty fits (written_fits c laws e.ty (fresh_facts given) fits) refl quiet reached))))

      pub initializes_well : DeclaresWell c (variable at name (present value)) m (declare (around c names) declared (variable at name (present value)) m)
      initializes_well =
          subst (λ (o : Outcome). DeclaresWell c (variable at name (present value)) m o) (sym whole_is) (record {
            does = set_does;
            slots = subst (HasSlots c) (sym (laws.assigned (declare_of e.after given) var e.ty)) (declared_slots c e.after given stands_e.slots (own.local var written refl refl is_written));
          })
