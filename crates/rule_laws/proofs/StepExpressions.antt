-- The models of each expression are steps.
use Rattle.std.proofs.Common.{List, [], ◌++◌, Option, Some, None}
use Rattle.dart_tree.specs.Tree.{Tree, Trees, no_more, more, integer_literal, boolean_literal, null_literal, identifier, parenthesis, call, binary_expression, assignment, argument_list, argument}
use Rattle.dart_tree.specs.Places.{place_of}
use Rattle.dart_types.specs.Ty.{Ty, invalid, null}
use Rattle.flow_model.specs.Flow.{FlowModel}
use Rattle.judgement.specs.declared.meaning.Meaning.{Meaning}
use Rattle.judgement.specs.declared.meaning.Meaning.TheVariants.{Nothing, Local, Print, Class, Other}
use Rattle.judgement.specs.Surroundings.{Surroundings, meaning_of}
use Rattle.judgement.specs.Given.{Evaluation}
use Rattle.judgement.specs.ExpressionRows.{bool, wanted_by}
use Rattle.judgement.specs.Judgement.{called, compared_local, condition_of, element_of, evaluate, form_row, judged, printed, printed_value}
use Rattle.judgement.specs.Written.{named_by, written_in, written_in_all}
use Rattle.flow_model.specs.declared.locals.LocalId.{LocalId}
use Rattle.rule_laws.specs.Plain.{IsPlain}
use Rattle.rule_laws.specs.Steps.{Evaluates}
use Rattle.rule_laws.proofs.StepLaws.{StepLaws}
use Rattle.rule_laws.proofs.StepModels.{within_left}
use Rattle.rule_laws.proofs.StepRows.{assigned_steps, boolean_steps, evaluates_within, integer_steps, name_steps, node_steps, of_type_steps, operator_steps, print_steps}

module _ (s : Surroundings) (laws : StepLaws s.table) where
  -- what a node gives, from what its form gives
  judged_steps : (tree : Tree) (m before : FlowModel) (row : Evaluation) (w : List LocalId) → Evaluates s.table m row w → Evaluates s.table m (judged s tree before row) w
  judged_steps tree m before row w steps = node_steps s.table laws m (place_of tree) (element_of s tree) before row w steps

  mutual
    -- what an expression gives by its form
    form_steps : (tree : Tree) (wanted : Option Ty) (m : FlowModel) → IsPlain s.table m → Evaluates s.table m (form_row s tree wanted m) (written_in s tree)
    form_steps (identifier at word) wanted m plain = name_steps s.table laws m plain (meaning_of s word) at []
    form_steps (integer_literal at word) wanted m plain = integer_steps s.table laws m plain s at word []
    form_steps (boolean_literal at value) wanted m plain = boolean_steps s.table laws m plain value []
    form_steps (null_literal at) wanted m plain = of_type_steps s.table laws m plain null []
    form_steps (parenthesis at inner) wanted m plain = judged_steps inner m m (form_row s inner wanted m) (written_in s inner) (form_steps inner wanted m plain)
    form_steps (binary_expression at operator left right) wanted m plain =
        operator_steps s.table laws m operator (place_of right) (compared_local s left right) (judged s left m (form_row s left None m)) (λ w k. judged s right k (form_row s right w k)) (written_in s left) (written_in s right)
        (judged_steps left m m (form_row s left None m) (written_in s left) (form_steps left None m plain))
        (λ w k of_k. judged_steps right k k (form_row s right w k) (written_in s right) (form_steps right w k of_k))
    form_steps (assignment at operator target value) wanted m plain =
        let given = λ (w : Option Ty). judged s value m (form_row s value w m) in
        assigned_steps s.table laws m (named_by s target) (place_of target) (place_of value) (given (wanted_by (named_by s target) m)) (written_in s value)
        (judged_steps value m m (form_row s value (wanted_by (named_by s target) m) m) (written_in s value) (form_steps value (wanted_by (named_by s target) m) m plain))
    form_steps (call at callee type_arguments arguments) wanted m plain = called_steps (named_by s callee) arguments m plain
    form_steps tree wanted m plain = of_type_steps s.table laws m plain invalid (written_in s tree)

    -- what a call gives
    called_steps : (meaning : Meaning) (tree : Tree) (m : FlowModel) → IsPlain s.table m → Evaluates s.table m (called s meaning tree m) (written_in s tree)
    called_steps (Local var) tree m plain = of_type_steps s.table laws m plain invalid (written_in s tree)
    called_steps Nothing tree m plain = of_type_steps s.table laws m plain invalid (written_in s tree)
    called_steps (Class class) tree m plain = of_type_steps s.table laws m plain invalid (written_in s tree)
    called_steps Other tree m plain = of_type_steps s.table laws m plain invalid (written_in s tree)
    called_steps Print (argument_list at arguments) m plain = printed_steps arguments m plain
    called_steps Print tree m plain = of_type_steps s.table laws m plain invalid (written_in s tree)

    -- what a call of `print` gives with these arguments
    printed_steps : (trees : Trees) (m : FlowModel) → IsPlain s.table m → Evaluates s.table m (printed s trees m) (written_in_all s trees)
    printed_steps no_more m plain = of_type_steps s.table laws m plain invalid []
    printed_steps (more first no_more) m plain =
        evaluates_within s.table laws m (printed_value s first m) (written_in s first) (written_in s first ++ []) (within_left (written_in s first) []) (printed_value_steps first m plain)
    printed_steps (more first (more second rest)) m plain = of_type_steps s.table laws m plain invalid (written_in_all s (more first (more second rest)))

    -- with one
    printed_value_steps : (tree : Tree) (m : FlowModel) → IsPlain s.table m → Evaluates s.table m (printed_value s tree m) (written_in s tree)
    printed_value_steps (argument at name value) m plain =
        print_steps s.table laws m (place_of value) (judged s value m (form_row s value None m)) (written_in s value)
        (judged_steps value m m (form_row s value None m) (written_in s value) (form_steps value None m plain))
    printed_value_steps tree m plain = of_type_steps s.table laws m plain invalid (written_in s tree)

  -- what an expression gives
  pub value_steps : (tree : Tree) (wanted : Option Ty) (m : FlowModel) → IsPlain s.table m → Evaluates s.table m (evaluate s tree wanted m) (written_in s tree)
  value_steps tree wanted m plain = judged_steps tree m m (form_row s tree wanted m) (written_in s tree) (form_steps tree wanted m plain)

  -- what a condition gives
  pub condition_steps : (tree : Tree) (m : FlowModel) → IsPlain s.table m → Evaluates s.table m (condition_of s tree m) (written_in s tree)
  condition_steps tree m plain =
      let steps = value_steps tree (Some bool) m plain in
      record { after = steps.after; when_true = steps.when_true; when_false = steps.when_false }
