-- A declaration of a local is a step, once the local is out of scope.
use Rattle.std.proofs.Common.{◌≡◌, Bool, true, false, not, List, [], ◌∷◌, ◌++◌, if◌then◌else◌, Option, Some, None, refl}
use Rattle.std.specs.Prelude.{IsNone, is_some}
use Rattle.std.specs.Option.{option_map_or}
use Rattle.std.specs.FinMap.{get}
use Rattle.std.proofs.lemmas.Bool.{and_parts, or_parts}
use Rattle.dart_tree.specs.Tree.{Tree, Trees, Part, no_more, more, absent, present, named_type, variable, variable_list}
use Rattle.dart_tree.specs.Places.{place_of}
use Rattle.dart_tree.specs.declared.names.Name.{Name}
use Rattle.dart_tree.specs.declared.places.Place.{Place}
use Rattle.dart_types.specs.Ty.{Ty}
use Rattle.flow_model.specs.Flow.{FlowModel, declare_of, facts_of}
use Rattle.flow_model.specs.declared.locals.LocalId.{LocalId}
use Rattle.judgement.specs.declared.code.DiagnosticCode.TheVariants.{DuplicateDefinition, InvalidAssignment}
use Rattle.judgement.specs.declared.fault.Fault.{Fault}
use Rattle.judgement.specs.declared.meaning.Meaning.{Meaning}
use Rattle.judgement.specs.declared.meaning.Meaning.TheVariants.{Nothing, Local, Print, Class, Other}
use Rattle.judgement.specs.Surroundings.{Surroundings}
use Rattle.judgement.specs.DeclaredNames.{local_of, locals_of, names_of_list, names_of_variables}
use Rattle.judgement.specs.Given.{Evaluation, complains, fault_at, fit_faults, just}
use Rattle.judgement.specs.StatementRows.{declare_row, declared_local, initialize_row, initialized_row, is_declared_before, means_own, with_value}
use Rattle.judgement.specs.Judgement.{declare_all, declare_list, evaluate, type_of, type_row, written_type}
use Rattle.judgement.specs.Written.{written_in, written_in_all}
use Rattle.built_forms.specs.Forms.{is_free, is_type, is_variable, is_written_type, is_one_variable, has_type, is_declaration}
use Rattle.built_forms.specs.Meanings.{meaning_at}
use Rattle.rule_laws.specs.Plain.{HidesNothing, IsPlain, IsPlainType}
use Rattle.rule_laws.specs.Steps.{IsStep, Runs}
use Rattle.rule_laws.proofs.StepLaws.{StepLaws}
use Rattle.rule_laws.proofs.StepModels.{declared_is_plain, step_declare, step_initialize, step_none, step_within, within_left, written_is_plain}
use Rattle.rule_laws.proofs.StepExpressions.{value_steps}

-- of what is nothing together, the first is nothing
pub no_first : (xs ys : List Fault) → xs ++ ys ≡ [] → xs ≡ []
no_first [] ys h = refl
no_first (x ∷ xs) ys h = cc

-- and the second
pub no_second : (xs ys : List Fault) → xs ++ ys ≡ [] → ys ≡ []
no_second [] ys h = h
no_second (x ∷ xs) ys h = cc

-- Types.

-- a class with `?` behind it, or without
marked_plain : (nullable : Bool) (meaning : Meaning) → is_type meaning nullable ≡ true → IsPlainType (type_row meaning nullable)
marked_plain true (Class class) h = refl
marked_plain false (Class class) h = refl
marked_plain nullable Nothing h = cc
marked_plain nullable (Local var) h = cc
marked_plain nullable Print h = cc
marked_plain nullable Other h = cc

-- what means nothing is no type
free_is_no_type : (meaning : Meaning) (nullable : Bool) → is_free meaning ≡ true → is_type meaning nullable ≡ true → ⊥
free_is_no_type Nothing nullable h is = cc
free_is_no_type (Local var) nullable h is = cc
free_is_no_type Print nullable h is = cc
free_is_no_type (Class class) nullable h is = cc
free_is_no_type Other nullable h is = cc

-- the step of the next lemma
named_plain : (found : Option LocalId) (meaning : Meaning) (nullable : Bool) → ((var : LocalId) → found ≡ Some var → is_free meaning ≡ true) → is_type meaning nullable ≡ true → IsPlainType (type_row (option_map_or Local found meaning) nullable)
named_plain None meaning nullable free h = marked_plain nullable meaning h
named_plain (Some var) meaning nullable free h = absurd (free_is_no_type meaning nullable (free var refl) h)

module _ (s : Surroundings) (free : HidesNothing s) where
  -- a written type
  type_plain : (tree : Tree) → is_written_type s.outside tree ≡ true → IsPlainType (type_of s tree)
  type_plain (named_type at None name absent nullable) h =
      named_plain (get s.names name.word) (meaning_at s.outside name.word) nullable (λ var is. free name.word var is) h
  type_plain _ h = cc

  -- that is written
  written_plain : (written : Part) → has_type s.outside written ≡ true → IsPlainType (written_type s written)
  written_plain absent h = cc
  written_plain (present tree) h = type_plain tree h

-- what is false is not true
untrue : false ≡ true → ⊥
untrue h = cc

-- Variables.

module _ (s : Surroundings) (laws : StepLaws s.table) where
  -- where no name is declared before, its local isn't in scope
  not_before : (name : Name) (m : FlowModel) → is_declared_before s name m ≡ false → IsNone (facts_of m (local_of name))
  not_before name m h = (or_parts (not (means_own s name)) (is_some (facts_of m (local_of name))) h).1

  -- the step of the next lemma
  declare_at : (name : Name) (ty : Ty) (m : FlowModel) (w : List LocalId) (b : Bool) → (b ≡ false → IsNone (facts_of m (local_of name))) → IsPlainType ty → IsPlain s.table m
      → (if b then complains name.at.span DuplicateDefinition m else just (declare_of m (declared_local s.table ty (local_of name) false))).faults ≡ []
      → Runs s.table m (if b then complains name.at.span DuplicateDefinition m else just (declare_of m (declared_local s.table ty (local_of name) false))) (local_of name ∷ []) w
  declare_at name ty m w true new of_type plain none = cc
  declare_at name ty m w false new of_type plain none =
      let local = declared_local s.table ty (local_of name) false in
      record {
        plain = declared_is_plain s.table laws m local of_type plain;
        behind = step_declare s.table laws m m w local (new refl) (step_none s.table laws m w plain);
      }

  -- without initializer
  declare_steps : (name : Name) (ty : Ty) (m : FlowModel) (w : List LocalId) → IsPlainType ty → IsPlain s.table m → (declare_row s name ty m).faults ≡ [] → Runs s.table m (declare_row s name ty m) (local_of name ∷ []) w
  declare_steps name ty m w of_type plain none = declare_at name ty m w (is_declared_before s name m) (not_before name m) of_type plain none

  -- the step of the next lemma
  initialize_at : (name : Name) (ty : Ty) (at : Place) (value : Ty) (m a : FlowModel) (w : List LocalId) (b : Bool) → (b ≡ false → IsNone (facts_of a (local_of name))) → IsPlainType ty → IsStep s.table m a w
      → (if b then record (just a) { faults = fit_faults s.table InvalidAssignment at value ty ++ fault_at name.at DuplicateDefinition } else record (just (with_value s.table ty (local_of name) value a)) { faults = fit_faults s.table InvalidAssignment at value ty }).faults ≡ []
      → Runs s.table m (if b then record (just a) { faults = fit_faults s.table InvalidAssignment at value ty ++ fault_at name.at DuplicateDefinition } else record (just (with_value s.table ty (local_of name) value a)) { faults = fit_faults s.table InvalidAssignment at value ty }) (local_of name ∷ []) w
  initialize_at name ty at value m a w true new of_type step none =
      let other : fault_at name.at DuplicateDefinition ≡ [] = no_second (fit_faults s.table InvalidAssignment at value ty) (fault_at name.at DuplicateDefinition) none in
      cc
  initialize_at name ty at value m a w false new of_type step none =
      let local = declared_local s.table ty (local_of name) true in
      record {
        plain = written_is_plain s.table laws (declare_of a local) (local_of name) value (declared_is_plain s.table laws a local of_type step.plain);
        behind = step_initialize s.table laws m a w local value (new refl) step;
      }

  -- with one
  initialize_steps : (name : Name) (ty : Ty) (at : Place) (value : Evaluation) (m : FlowModel) (w : List LocalId) → IsPlainType ty → IsStep s.table m value.after w → (initialize_row s name ty at value).faults ≡ [] → Runs s.table m (initialize_row s name ty at value) (local_of name ∷ []) w
  initialize_steps name ty at value m w of_type step none =
      let runs = initialize_at name ty at value.ty m value.after w (is_declared_before s name value.after) (not_before name value.after) of_type step (no_second value.faults (initialized_row s name ty at value.ty value.after).faults none) in
      record { plain = runs.plain; behind = runs.behind }

  -- a variable that is declared with a type, alone
  variable_steps : (ty : Ty) (tree : Tree) (m : FlowModel) → IsPlainType ty → is_variable s.outside tree ≡ true → (declare_all s ty (more tree no_more) m).faults ≡ [] → IsPlain s.table m
      → Runs s.table m (declare_all s ty (more tree no_more) m) (locals_of (names_of_variables (more tree no_more))) (written_in_all s (more tree no_more))
  variable_steps ty (variable at name absent) m of_type h none plain =
      let runs = declare_steps name ty m [] of_type plain (no_first (declare_row s name ty m).faults [] none) in
      record { plain = runs.plain; behind = runs.behind }
  variable_steps ty (variable at name (present value)) m of_type h none plain =
      let given = evaluate s value (Some ty) m in
      let steps = value_steps s laws value (Some ty) m plain in
      let row = initialize_row s name ty (place_of value) given in
      let after : IsStep s.table m given.after (written_in s value ++ []) = step_within s.table laws m given.after (written_in s value) (written_in s value ++ []) (within_left (written_in s value) []) steps.after in
      let runs = initialize_steps name ty (place_of value) given m (written_in s value ++ []) of_type after (no_first row.faults [] none) in
      record { plain = runs.plain; behind = runs.behind }
  variable_steps ty _ m of_type h none plain = absurd (untrue h)

  -- variables of which there is one
  variables_steps : (ty : Ty) (trees : Trees) (m : FlowModel) → IsPlainType ty → is_one_variable s.outside trees ≡ true → (declare_all s ty trees m).faults ≡ [] → IsPlain s.table m
      → Runs s.table m (declare_all s ty trees m) (locals_of (names_of_variables trees)) (written_in_all s trees)
  variables_steps ty (more tree no_more) m of_type h none plain = variable_steps ty tree m of_type h none plain
  variables_steps ty _ m of_type h none plain = absurd (untrue h)

  -- a declaration
  pub declaration_steps : HidesNothing s → (tree : Tree) (m : FlowModel) → is_declaration s.outside tree ≡ true → (declare_list s tree m).faults ≡ [] → IsPlain s.table m
      → Runs s.table m (declare_list s tree m) (locals_of (names_of_list tree)) (written_in s tree)
  declaration_steps free (variable_list at false written variables) m h none plain =
      let parts = and_parts (has_type s.outside written) (is_one_variable s.outside variables) h in
      variables_steps (written_type s written) variables m (written_plain s free written parts.0) parts.1 none plain
  declaration_steps free _ m h none plain = absurd (untrue h)
