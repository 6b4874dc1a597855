-- No form speaks of a number more often than its tree has places of that number.
use Rattle.std.proofs.Common.{◌≡◌, ℕ, ◌≤◌, Bool, true, false, List, [], ◌∷◌, ◌++◌, Option, Some, None, if◌then◌else◌, refl, sym, subst, arith}
use Rattle.dart_tree.specs.Tree.{Tree, Trees, Part, no_more, more, absent, present, integer_literal, boolean_literal, identifier, parenthesis, call, binary_expression, assignment, argument_list, argument, variable_list, variable, block, variable_statement, expression_statement, if_statement, while_statement}
use Rattle.dart_tree.specs.Places.{place_of}
use Rattle.tree_numbers.specs.PlaceLaws.{place_of-first}
use Rattle.dart_tree.specs.Numbers.{places_of, places_of_all, places_of_part}
use Rattle.dart_tree.specs.declared.names.Name.{Name}
use Rattle.dart_tree.specs.declared.operators.BinaryOperator.{BinaryOperator}
use Rattle.dart_tree.specs.declared.operators.BinaryOperatorKind.{BinaryOperatorKind}
use Rattle.dart_tree.specs.declared.operators.BinaryOperatorKind.TheVariants.{NotEqual}
use Rattle.dart_tree.specs.declared.places.Place.{Place}
use Rattle.dart_types.specs.Same.{same_type}
use Rattle.dart_types.specs.Tables.{Table}
use Rattle.dart_types.specs.Ty.{Ty, never}
use Rattle.flow_model.specs.Flow.{FlowModel, facts_of}
use Rattle.flow_model.specs.Steps.{exit_of}
use Rattle.flow_model.specs.declared.locals.LocalId.{LocalId}
use Rattle.flow_model.specs.declared.locals.Facts.{Facts}
use Rattle.judgement.specs.declared.meaning.Meaning.{Meaning}
use Rattle.judgement.specs.declared.meaning.Meaning.TheVariants.{Nothing, Local, Print, Class, Other}
use Rattle.judgement.specs.NodeFacts.{NodeFacts}
use Rattle.judgement.specs.Surroundings.{Surroundings, meaning_of}
use Rattle.judgement.specs.DeclaredNames.{local_of, names_declared, names_in, within}
use Rattle.judgement.specs.Given.{Evaluation, Outcome, exits_if_never, said_of_expression, said_of_statement}
use Rattle.judgement.specs.ExpressionRows.{Judged, bool, boolean_row, integer_row, name_row, read_row, kind_row, write_row, assigned_row}
use Rattle.judgement.specs.StatementRows.{declare_row, initialized_row, is_declared_before, loop_head}
use Rattle.judgement.specs.Written.{named_by, written_in}
use Rattle.judgement.specs.Judgement.{called, compared_local, condition_at, declare, declare_all, declare_list, element_of, evaluate_part, form_row, judged, printed, printed_value, run, run_all, run_branch, written_type}
use Rattle.rule_laws.proofs.KeyCounts.{stands, stands-append, spoken, spoken-append}

-- no number is spoken of more often than it stands in these places
pub record Covers (xs : List NodeFacts) (ps : List Place) : Type 0 where
  pub counts : (n : ℕ) → spoken n xs ≤ stands n ps

-- what says nothing
of_nothing : (xs : List NodeFacts) (ps : List Place) → xs ≡ [] → Covers xs ps
of_nothing xs ps none = subst (λ (ys : List NodeFacts). Covers ys ps) (sym none) (record { counts = λ n. omega arith })

-- so nothing at all
nothing : (ps : List Place) → Covers [] ps
nothing ps = of_nothing [] ps refl

-- what says the same
as_much : {ys : List NodeFacts} {ps : List Place} (xs : List NodeFacts) → xs ≡ ys → Covers ys ps → Covers xs ps
as_much {ps = ps} xs same covers = subst (λ (zs : List NodeFacts). Covers zs ps) (sym same) covers

-- two parts, one behind the other
both : {xs ys : List NodeFacts} {ps qs : List Place} → Covers xs ps → Covers ys qs → Covers (xs ++ ys) (ps ++ qs)
both {xs = xs} {ys = ys} {ps = ps} {qs = qs} first second = record { counts = λ n. omega (arith, first.counts n, second.counts n, spoken-append n xs ys, stands-append n ps qs) }

-- what speaks of the first part alone
before_more : {xs : List NodeFacts} {ps : List Place} (qs : List Place) → Covers xs ps → Covers xs (ps ++ qs)
before_more {ps = ps} qs covers = record { counts = λ n. omega (arith, covers.counts n, stands-append n ps qs) }

-- what speaks of the second part alone
behind : {xs : List NodeFacts} {qs : List Place} (ps : List Place) → Covers xs qs → Covers xs (ps ++ qs)
behind {qs = qs} ps covers = record { counts = λ n. omega (arith, covers.counts n, stands-append n ps qs) }

-- what doesn't speak of the node that it stands in
below : {xs : List NodeFacts} {ps : List Place} (at : Place) → Covers xs ps → Covers xs (at ∷ ps)
below at covers = record { counts = λ n. omega (arith, covers.counts n) }

-- what says no more behind it
then_nothing : {xs : List NodeFacts} {ps : List Place} (ys : List NodeFacts) → ys ≡ [] → Covers xs ps → Covers (xs ++ ys) ps
then_nothing {xs = xs} {ps = ps} ys none covers =
    subst (λ (zs : List NodeFacts). Covers (xs ++ zs) ps) (sym none) (record { counts = λ n. omega (arith, covers.counts n, spoken-append n xs []) })

-- a node is spoken of behind those in it
with_expression : {xs : List NodeFacts} {ps : List Place} (at : Place) (element : Option Meaning) (m : FlowModel) (e : Evaluation)
    → Covers xs ps → Covers (xs ++ said_of_expression at.node element m e ∷ []) (at ∷ ps)
with_expression {xs = xs} at element m e covers = record { counts = λ n. omega (arith, covers.counts n, spoken-append n xs (said_of_expression at.node element m e ∷ [])) }

-- so is a statement
with_statement : {xs : List NodeFacts} {ps : List Place} (at : Place) (m after : FlowModel)
    → Covers xs ps → Covers (xs ++ said_of_statement at.node None m after ∷ []) (at ∷ ps)
with_statement {xs = xs} at m after covers = record { counts = λ n. omega (arith, covers.counts n, spoken-append n xs (said_of_statement at.node None m after ∷ [])) }

-- and a variable, whose name comes with it
with_variable : {xs : List NodeFacts} {ps : List Place} (at : Place) (name : Name) (m after : FlowModel)
    → Covers xs ps → Covers (xs ++ said_of_statement at.node (Some (Local (local_of name))) m after ∷ []) (at ∷ name.at ∷ ps)
with_variable {xs = xs} at name m after covers =
    record { counts = λ n. omega (arith, covers.counts n, spoken-append n xs (said_of_statement at.node (Some (Local (local_of name))) m after ∷ [])) }

-- Rows.

-- of two that say the same, whichever it is
said_either : (b : Bool) (one other : Evaluation) → one.nodes ≡ other.nodes → (if b then one else other).nodes ≡ other.nodes
said_either true one other same = same
said_either false one other same = refl

-- so of statements
done_either : (b : Bool) (one other : Outcome) → one.nodes ≡ other.nodes → (if b then one else other).nodes ≡ other.nodes
done_either true one other same = same
done_either false one other same = refl

-- what is never reached is spoken of all the same
said_at_exit : (e : Evaluation) → (exits_if_never e).nodes ≡ e.nodes
said_at_exit e = said_either (same_type e.ty never) (record e { after = exit_of e.after; when_true = exit_of e.when_true; when_false = exit_of e.when_false }) e refl

-- an integer literal says nothing
of_integer : (s : Surroundings) (at : Place) (word : ℕ) (m : FlowModel) → (integer_row s at word m).nodes ≡ []
of_integer s at word m = said_either _ _ _ refl

-- nor does a boolean one
of_boolean : (b : Bool) (m : FlowModel) → (boolean_row b m).nodes ≡ []
of_boolean true m = refl
of_boolean false m = refl

-- nor a read of a local
of_read : (at : Place) (known : Option Facts) (m : FlowModel) → (read_row at known m).nodes ≡ []
of_read at None m = refl
of_read at (Some local) m = said_either local.assigned _ _ refl

-- nor a name
of_name : (meaning : Meaning) (at : Place) (m : FlowModel) → (name_row meaning at m).nodes ≡ []
of_name (Local var) at m = of_read at (facts_of m var) m
of_name Nothing at m = refl
of_name Print at m = refl
of_name (Class class) at m = refl
of_name Other at m = refl

-- a write says what its value says
of_write : (table : Table) (target at : Place) (var : LocalId) (known : Option Facts) (value : Evaluation) → (write_row table target at var known value).nodes ≡ value.nodes
of_write table target at var None value = refl
of_write table target at var (Some local) value = refl

-- so does an assignment
of_assigned : (table : Table) (meaning : Meaning) (target at : Place) (value : Evaluation) → (assigned_row table meaning target at value).nodes ≡ value.nodes
of_assigned table (Local var) target at value = of_write table target at var (facts_of value.after var) value
of_assigned table Nothing target at value = refl
of_assigned table Print target at value = refl
of_assigned table (Class class) target at value = refl
of_assigned table Other target at value = refl

-- a declaration says nothing of itself
of_declared : (s : Surroundings) (name : Name) (ty : Ty) (m : FlowModel) → (declare_row s name ty m).nodes ≡ []
of_declared s name ty m = done_either (is_declared_before s name m) _ _ refl

-- nor does what follows an initializer
of_initialized : (s : Surroundings) (name : Name) (ty : Ty) (at : Place) (value : Ty) (m : FlowModel) → (initialized_row s name ty at value m).nodes ≡ []
of_initialized s name ty at value m = done_either (is_declared_before s name m) _ _ refl

-- both sides of an operator, whatever it wants of the right one
of_kind : {ps qs : List Place} (table : Table) (operator : BinaryOperator) (kind : BinaryOperatorKind) (at : Place) (compared : Option LocalId) (left : Evaluation) (right : Judged)
    → Covers left.nodes ps → ((wanted : Option Ty) (m : FlowModel) → Covers (right wanted m).nodes qs) → Covers (kind_row table operator kind at compared left right).nodes (ps ++ qs)
of_kind table operator NotEqual at compared left right one other = both one (other _ _)
of_kind table operator _ at compared left right one other = both one (other _ _)

-- Expressions.

-- what an expression's form speaks of is in it, behind its own place
record FormCovers (t : Tree) (row : Evaluation) : Type 0 where
  inner : List Place
  first : places_of t ≡ place_of t ∷ inner
  covers : Covers row.nodes inner

-- what says nothing
form_of_nothing : (t : Tree) (row : Evaluation) → row.nodes ≡ [] → FormCovers t row
form_of_nothing t row none = record { inner = (place_of-first t).0; first = (place_of-first t).1; covers = of_nothing _ _ none }

-- then the expression's number comes with it
of_judged : (s : Surroundings) (t : Tree) (m : FlowModel) (row : Evaluation) → FormCovers t row → Covers (judged s t m row).nodes (places_of t)
of_judged s t m row form =
    subst (λ (ps : List Place). Covers (judged s t m row).nodes ps) (sym form.first) (with_expression (place_of t) (element_of s t) m (exits_if_never row) (as_much _ (said_at_exit row) form.covers))

mutual
  -- an expression by its form
  of_form : (s : Surroundings) (t : Tree) (wanted : Option Ty) (m : FlowModel) → FormCovers t (form_row s t wanted m)
  of_form s (identifier at word) wanted m = form_of_nothing _ _ (of_name (meaning_of s word) at m)
  of_form s (integer_literal at word) wanted m = form_of_nothing _ _ (of_integer s at word m)
  of_form s (boolean_literal at value) wanted m = form_of_nothing _ _ (of_boolean value m)
  of_form s (parenthesis at inner) wanted m = record { inner = places_of inner; first = refl; covers = of_judged s inner m (form_row s inner wanted m) (of_form s inner wanted m) }
  of_form s (binary_expression at operator left right) wanted m = record {
    inner = places_of left ++ places_of right;
    first = refl;
    covers = of_kind s.table operator operator.kind (place_of right) (compared_local s left right) (judged s left m (form_row s left None m)) (λ wanted m. judged s right m (form_row s right wanted m))
        (of_judged s left m (form_row s left None m) (of_form s left None m))
        (λ wanted m. of_judged s right m (form_row s right wanted m) (of_form s right wanted m));
  }
  of_form s (assignment at operator target value) wanted m = record {
    inner = places_of target ++ places_of value;
    first = refl;
    covers = behind (places_of target) (as_much _ (of_assigned s.table (named_by s target) (place_of target) (place_of value) _) (of_judged s value m (form_row s value _ m) (of_form s value _ m)));
  }
  of_form s (call at callee type_arguments arguments) wanted m = record {
    inner = places_of callee ++ (places_of_part type_arguments ++ places_of arguments);
    first = refl;
    covers = behind (places_of callee) (behind (places_of_part type_arguments) (of_called s (named_by s callee) arguments m));
  }
  of_form s t wanted m = form_of_nothing _ _ refl

  -- a call, by what it calls
  of_called : (s : Surroundings) (meaning : Meaning) (t : Tree) (m : FlowModel) → Covers (called s meaning t m).nodes (places_of t)
  of_called s Print (argument_list at arguments) m = below at (of_printed s arguments m)
  of_called s _ _ m = nothing _

  -- a call of `print`
  of_printed : (s : Surroundings) (ts : Trees) (m : FlowModel) → Covers (printed s ts m).nodes (places_of_all ts)
  of_printed s (more first no_more) m = before_more [] (of_printed_value s first m)
  of_printed s _ m = nothing _

  -- its argument
  of_printed_value : (s : Surroundings) (t : Tree) (m : FlowModel) → Covers (printed_value s t m).nodes (places_of t)
  of_printed_value s (argument at name value) m = below at (of_judged s value m (form_row s value None m) (of_form s value None m))
  of_printed_value s _ m = nothing _

-- what an expression speaks of
of_value : (s : Surroundings) (t : Tree) (wanted : Option Ty) (m : FlowModel) → Covers (judged s t m (form_row s t wanted m)).nodes (places_of t)
of_value s t wanted m = of_judged s t m (form_row s t wanted m) (of_form s t wanted m)

-- Statements.

-- a variable
of_variable : (s : Surroundings) (ty : Ty) (t : Tree) (m : FlowModel) → Covers (declare s ty t m).nodes (places_of t)
of_variable s ty (variable at name absent) m = with_variable at name m _ (of_nothing _ _ (of_declared s name ty m))
of_variable s ty (variable at name (present value)) m =
    let given = judged s value m (form_row s value (Some ty) m) in
    with_variable at name m _ (then_nothing _ (of_initialized s name ty (place_of value) given.ty given.after) (of_value s value (Some ty) m))
of_variable s ty _ m = nothing _

-- variables that are declared together
of_variables : (s : Surroundings) (ty : Ty) (ts : Trees) (m : FlowModel) → Covers (declare_all s ty ts m).nodes (places_of_all ts)
of_variables s ty no_more m = nothing _
of_variables s ty (more first rest) m = both (of_variable s ty first m) (of_variables s ty rest (declare s ty first m).after)

-- a list of them
of_list : (s : Surroundings) (t : Tree) (m : FlowModel) → Covers (declare_list s t m).nodes (places_of t)
of_list s (variable_list at is_final written variables) m = below at (behind (places_of_part written) (of_variables s (written_type s written) variables m))
of_list s _ m = nothing _

-- an expression that stands as a statement, or none
of_part : (s : Surroundings) (p : Part) (m : FlowModel) → Covers (evaluate_part s p m).nodes (places_of_part p)
of_part s absent m = nothing _
of_part s (present value) m = then_nothing _ refl (of_value s value None m)

mutual
  -- a statement
  pub of_statement : (s : Surroundings) (t : Tree) (m : FlowModel) → Covers (run s t m).nodes (places_of t)
  of_statement s (variable_statement at variables) m = with_statement at m _ (of_list s variables m)
  of_statement s (expression_statement at value) m = with_statement at m _ (of_part s value m)
  of_statement s (if_statement at condition then_branch else_branch) m =
      let tested = condition_at s condition m (λ m. form_row s condition (Some bool) m) in
      with_statement at m _ (both (of_value s condition (Some bool) m)
      (both (then_nothing _ refl (of_statement (within s (names_declared then_branch)) then_branch tested.when_true)) (of_branch s else_branch tested.when_false)))
  of_statement s (while_statement at condition body) m =
      let head = loop_head m (written_in s (while_statement at condition body)) [] in
      let tested = condition_at s condition head (λ m. form_row s condition (Some bool) m) in
      with_statement at m _ (both (of_value s condition (Some bool) head) (then_nothing _ refl (of_statement (within s (names_declared body)) body tested.when_true)))
  of_statement s (block at statements) m = with_statement at m _ (then_nothing _ refl (of_statements (within s (names_in statements)) statements m))
  of_statement s _ m = nothing _

  -- statements, one after another
  pub of_statements : (s : Surroundings) (ts : Trees) (m : FlowModel) → Covers (run_all s ts m).nodes (places_of_all ts)
  of_statements s no_more m = nothing _
  of_statements s (more first rest) m = both (of_statement s first m) (of_statements s rest (run s first m).after)

  -- a branch, or none
  pub of_branch : (s : Surroundings) (p : Part) (m : FlowModel) → Covers (run_branch s p m).nodes (places_of_part p)
  of_branch s absent m = nothing _
  of_branch s (present tree) m = then_nothing _ refl (of_statement (within s (names_declared tree)) tree m)
