-- No form that is judged so far jumps.
use Rattle.std.proofs.Common.{◌≡◌, Bool, true, false, List, [], ◌++◌, Some, if◌then◌else◌, refl, ap, ◌∙◌}
use Rattle.dart_tree.specs.Tree.{Tree, Trees, Part, no_more, more, absent, present, variable_list, variable, block, variable_statement, expression_statement, if_statement, while_statement}
use Rattle.dart_tree.specs.Places.{place_of}
use Rattle.dart_tree.specs.declared.names.Name.{Name}
use Rattle.dart_tree.specs.declared.places.NodeId.{NodeId}
use Rattle.dart_tree.specs.declared.places.Place.{Place}
use Rattle.dart_types.specs.Ty.{Ty}
use Rattle.flow_model.specs.Flow.{FlowModel}
use Rattle.judgement.specs.Surroundings.{Surroundings}
use Rattle.judgement.specs.Given.{Outcome, Jump, jumps_beyond}
use Rattle.judgement.specs.ExpressionRows.{bool}
use Rattle.judgement.specs.StatementRows.{declare_row, initialized_row, is_declared_before, loop_head}
use Rattle.judgement.specs.Written.{written_in}
use Rattle.judgement.specs.DeclaredNames.{names_declared, names_in, within}
use Rattle.judgement.specs.Judgement.{declare, declare_all, declare_list, evaluate_part, form_row, judged, condition_at, run, run_all, run_branch, written_type}

-- nothing and nothing are nothing
none_of_both : {A : Type 0} {xs ys : List A} → xs ≡ [] → ys ≡ [] → xs ++ ys ≡ []
none_of_both {ys = ys} left right = ap (λ zs. zs ++ ys) left ∙ right

-- of two that don't jump, whichever it is
of_test : (b : Bool) (one other : Outcome) → one.jumps ≡ [] → other.jumps ≡ [] → (if b then one else other).jumps ≡ []
of_test true one other left right = left
of_test false one other left right = right

-- a declaration
of_declared : (s : Surroundings) (name : Name) (ty : Ty) (m : FlowModel) → (declare_row s name ty m).jumps ≡ []
of_declared s name ty m = of_test (is_declared_before s name m) _ _ refl refl

-- what follows an initializer
of_initialized : (s : Surroundings) (name : Name) (ty : Ty) (at : Place) (value : Ty) (m : FlowModel) → (initialized_row s name ty at value m).jumps ≡ []
of_initialized s name ty at value m = of_test (is_declared_before s name m) _ _ refl refl

-- a variable
of_variable : (s : Surroundings) (ty : Ty) (t : Tree) (m : FlowModel) → (declare s ty t m).jumps ≡ []
of_variable s ty (variable at name absent) m = of_declared s name ty m
of_variable s ty (variable at name (present value)) m =
    let given = judged s value m (form_row s value (Some ty) m) in
    of_initialized s name ty (place_of value) given.ty given.after
of_variable s ty _ m = refl

-- variables that are declared together
of_variables : (s : Surroundings) (ty : Ty) (ts : Trees) (m : FlowModel) → (declare_all s ty ts m).jumps ≡ []
of_variables s ty no_more m = refl
of_variables s ty (more first rest) m = none_of_both (of_variable s ty first m) (of_variables s ty rest (declare s ty first m).after)

-- a list of them
of_list : (s : Surroundings) (t : Tree) (m : FlowModel) → (declare_list s t m).jumps ≡ []
of_list s (variable_list at is_final written variables) m = of_variables s (written_type s written) variables m
of_list s _ m = refl

-- an expression that stands as a statement, or none
of_value : (s : Surroundings) (p : Part) (m : FlowModel) → (evaluate_part s p m).jumps ≡ []
of_value s absent m = refl
of_value s (present value) m = refl

-- where no jump leaves the body, none leaves the loop
beyond : (loop : NodeId) (jumps : List Jump) → jumps ≡ [] → jumps_beyond loop jumps ≡ []
beyond loop jumps none = ap (jumps_beyond loop) none

-- a scope jumps as little as its body
pub of_scope : (xs : List Jump) → xs ≡ [] → xs ++ [] ≡ []
of_scope xs none = none_of_both none refl

mutual
  -- a statement
  pub of_statement : (s : Surroundings) (t : Tree) (m : FlowModel) → (run s t m).jumps ≡ []
  of_statement s (variable_statement at variables) m = of_list s variables m
  of_statement s (expression_statement at value) m = of_value s value m
  of_statement s (if_statement at condition then_branch else_branch) m =
      let tested = condition_at s condition m (λ m. form_row s condition (Some bool) m) in
      none_of_both (of_scope _ (of_statement (within s (names_declared then_branch)) then_branch tested.when_true)) (of_branch s else_branch tested.when_false)
  of_statement s (while_statement at condition body) m =
      let tested = condition_at s condition (loop_head m (written_in s (while_statement at condition body)) []) (λ m. form_row s condition (Some bool) m) in
      beyond at.node _ (of_scope _ (of_statement (within s (names_declared body)) body tested.when_true))
  of_statement s (block at statements) m = of_scope _ (of_statements (within s (names_in statements)) statements m)
  of_statement s _ m = refl

  -- statements, one after another
  pub of_statements : (s : Surroundings) (ts : Trees) (m : FlowModel) → (run_all s ts m).jumps ≡ []
  of_statements s no_more m = refl
  of_statements s (more first rest) m = none_of_both (of_statement s first m) (of_statements s rest (run s first m).after)

  -- a branch, or none
  of_branch : (s : Surroundings) (p : Part) (m : FlowModel) → (run_branch s p m).jumps ≡ []
  of_branch s absent m = refl
  of_branch s (present tree) m = of_scope _ (of_statement (within s (names_declared tree)) tree m)
