-- A name that the block has declared before, and one that it hasn't.
use Rattle.std.proofs.Common.{◌≡◌, Bool, true, false, not, ◌||◌, List, ◌++◌, Option, Some, None, Result, Ok, Err, MatchResult, IfOk, IsNone, is_some, if◌then◌else◌, refl, subst, sym, ap, ◌∙◌, append_assoc, append-nil}
use Rattle.std.proofs.lemmas.Bool.{true≢false}
use Rattle.dart_tree.specs.declared.names.Name.{Name}
use Rattle.dart_tree.specs.declared.places.Place.{Place}
use Rattle.dart_types.specs.Ty.{Ty}
use Rattle.flow_model.specs.Flow.{FlowModel, declare_of}
use Rattle.flow_model.specs.declared.locals.Facts.{Facts}
use Rattle.judgement.specs.declared.code.DiagnosticCode.TheVariants.{DuplicateDefinition, InvalidAssignment}
use Rattle.judgement.specs.declared.fault.Fault.{Fault}
use Rattle.judgement.specs.Surroundings.{Surroundings}
use Rattle.judgement.specs.DeclaredNames.{local_of}
use Rattle.judgement.specs.Given.{complains, fault_at, fault_over, fit_faults, just}
use Rattle.judgement.specs.StatementRows.{declared_local, declare_row, initialized_row, is_declared_before, with_value}
use Rattle.resolve.specs.Judged.{RowGives}

-- what is known of the local of a name that wasn't declared before: nothing
pub nothing_known : (own : Bool) (known : Option Facts) → (not own || is_some known) ≡ false → IsNone known
nothing_known true None is = refl
nothing_known true (Some facts) is = absurd (true≢false is)
nothing_known false known is = absurd (true≢false is)

-- what is known of a value gives what is to be known of it
of_value : {X E : Type 0} (r : Result X E) (P R : X → Type 0) (Q : E → Type 0) → ((x : X) → P x → R x) → MatchResult r P Q → IfOk r R
of_value (Ok x) P R Q gives known = gives x known
of_value (Err e) P R Q gives known = tt

module _ (s : Surroundings) (name : Name) (ty : Ty) where
  -- without initializer: a name that was declared before has a diagnostic
  pub declared_again : {X E : Type 0} (r : Result X E) (view : X → FlowModel) (Q : E → Type 0) (found now : List Fault) (m : FlowModel)
      → is_declared_before s name m ≡ true → now ≡ found ++ fault_over name.at.span DuplicateDefinition → MatchResult r (λ x. view x ≡ m) Q
      → IfOk r (λ x. RowGives found now (view x) (declare_row s name ty m))
  declared_again r view Q found now m again faults same =
      subst
      (λ (b : Bool). IfOk r (λ x. RowGives found now (view x) (if b then complains name.at.span DuplicateDefinition m else just (declare_of m (declared_local s.table ty (local_of name) false)))))
      (sym again)
      (of_value r (λ x. view x ≡ m) (λ x. RowGives found now (view x) (complains name.at.span DuplicateDefinition m)) Q (λ x is. record { after_is = is; faults_are = faults }) same)

  -- one that wasn't comes into scope
  pub declared_anew : (found : List Fault) (after m : FlowModel) → is_declared_before s name m ≡ false → after ≡ declare_of m (declared_local s.table ty (local_of name) false)
      → RowGives found found after (declare_row s name ty m)
  declared_anew found after m new is =
      subst
      (λ (b : Bool). RowGives found found after (if b then complains name.at.span DuplicateDefinition m else just (declare_of m (declared_local s.table ty (local_of name) false))))
      (sym new)
      (record { after_is = is; faults_are = sym (append-nil found) })

  module _ (at : Place) (value : Ty) where
    -- with one: a name that was declared before has a diagnostic behind that of the value
    pub initialized_again : {X E : Type 0} (r : Result X E) (view : X → FlowModel) (Q : E → Type 0) (found fitted now : List Fault) (m : FlowModel)
        → is_declared_before s name m ≡ true → fitted ≡ found ++ fit_faults s.table InvalidAssignment at value ty → now ≡ fitted ++ fault_over name.at.span DuplicateDefinition
        → MatchResult r (λ x. view x ≡ m) Q → IfOk r (λ x. RowGives found now (view x) (initialized_row s name ty at value m))
    initialized_again r view Q found fitted now m again fits faults same =
        subst
        (λ (b : Bool). IfOk r (λ x. RowGives found now (view x) (if b
        then record (just m) { faults = fit_faults s.table InvalidAssignment at value ty ++ fault_at name.at DuplicateDefinition }
        else record (just (with_value s.table ty (local_of name) value m)) { faults = fit_faults s.table InvalidAssignment at value ty })))
        (sym again)
        (of_value r (λ x. view x ≡ m)
        (λ x. RowGives found now (view x) (record (just m) { faults = fit_faults s.table InvalidAssignment at value ty ++ fault_at name.at DuplicateDefinition }))
        Q
        (λ x is. record {
          after_is = is;
          faults_are =
              faults
              ∙ ap (λ (fs : List Fault). fs ++ fault_over name.at.span DuplicateDefinition) fits
              ∙ append_assoc found (fit_faults s.table InvalidAssignment at value ty) (fault_over name.at.span DuplicateDefinition);
        })
        same)

    -- one that wasn't comes into scope with its value
    pub initialized_anew : (found fitted : List Fault) (after m : FlowModel) → is_declared_before s name m ≡ false → fitted ≡ found ++ fit_faults s.table InvalidAssignment at value ty
        → after ≡ with_value s.table ty (local_of name) value m → RowGives found fitted after (initialized_row s name ty at value m)
    initialized_anew found fitted after m new fits is =
        subst
        (λ (b : Bool). RowGives found fitted after (if b
        then record (just m) { faults = fit_faults s.table InvalidAssignment at value ty ++ fault_at name.at DuplicateDefinition }
        else record (just (with_value s.table ty (local_of name) value m)) { faults = fit_faults s.table InvalidAssignment at value ty }))
        (sym new)
        (record { after_is = is; faults_are = fits })
