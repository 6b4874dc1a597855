-- Short texts that are the same but for what stands in a body.
use Rattle.std.proofs.Common.{false, [], ◌∷◌, codes, refl}
use Rattle.dart_tokens.specs.Words.{kind_of_word}
use Rattle.dart_scan.specs.declared.piece.Class.TheVariants.{Gap, Word, Mark}
use Rattle.dart_scan.specs.Strings.{plain_size}
use Rattle.dart_scan.specs.Pieces.{pieces, pieces_within, within_steps}
use Rattle.dart_scan.specs.Scanned.{lexemes_from, tokens_behind, words_behind}
use Rattle.dart_tokens.specs.Groups.{partners_from, group_end}
use Rattle.dart_tokens.specs.Read.{past}
use Rattle.grammar.specs.Types.{type_arguments_rule, type_parameter_rule, type_parameters_rule, type_name_rule, question_rule, plain_type_rule, annotation_rule, parameter_rule, optional_parameters_rule, parameter_list_rule, parameter_type_rule, tail_rule, tail_before_rule, type_rule}
use Rattle.grammar.specs.Operators.{binary_rule, assignment_rule, prefix_rule, postfix_rule}
use Rattle.grammar.specs.Outline.{over_type, behind_arguments}
use Rattle.grammar.specs.Expressions.{heads_generic, heads_call, interpolation_rule, string_part_rule, string_rule, strings_rule, argument_rule, arguments_rule, simple_rule, name_rule, parenthesis_rule, closure_rule, new_rule, entry_rule, collection_rule, primary_rule, selector_rule, selected_rule, incremented_rule, unary_rule, operated_rule, right_rule, operand_rule, assignment_expression_rule, throw_rule, section_head_rule, section_rule, cascade_section_rule, cascade_rule, expression_rule}
use Rattle.grammar.specs.Statements.{block_rule, declared_rule, variable_rule, variables_rule, variable_statement_rule, local_body_rule, local_rest_rule, local_function_rule, function_statement_rule, expression_statement_rule, return_rule, break_rule, continue_rule, rethrow_rule, labeled_rule, condition_rule, if_rule, while_rule, do_rule, each_rule, start_rule, counted_rule, for_rule, label_rule, labels_rule, case_rule, cases_rule, switch_rule, catch_rule, clause_rule, try_rule, other_statement_rule, statement_rule}
use Rattle.grammar.specs.Below.{below}
use Rattle.grammar.specs.Whole.{statements_at}
use Rattle.grammar.specs.Declarations.{body_rule, signature_rule, function_rule, constructor_name_rule, initializer_rule, constructor_rule, factory_rule, declared_sign_rule, operator_rule, operator_member_rule, plain_member_rule, static_member_rule, member_rule, class_with_rule, class_rule, mixin_rule, alias_rule, plain_declaration_rule, declaration_rule, library_names_rule, library_rule, combinator_rule, import_rule, export_rule, part_rule, part_of_rule, directive_rule, item_rule}
use Rattle.body_laws.specs.Bodies.{plain, below as below_braces}
use Rattle.text_edits.specs.EditedPieces.{EditedPieces}

-- `f(){}` and `f(){x;}`
text_example : EditedPieces false (codes "f(){}") (codes "f(){x;}")
unfolding partners_from group_end past statements_at below over_type behind_arguments heads_generic heads_call type_arguments_rule type_parameter_rule type_parameters_rule type_name_rule question_rule plain_type_rule annotation_rule parameter_rule optional_parameters_rule parameter_list_rule parameter_type_rule tail_rule tail_before_rule type_rule binary_rule assignment_rule prefix_rule postfix_rule interpolation_rule string_part_rule string_rule strings_rule argument_rule arguments_rule simple_rule name_rule parenthesis_rule closure_rule new_rule entry_rule collection_rule primary_rule selector_rule selected_rule incremented_rule unary_rule operated_rule right_rule operand_rule assignment_expression_rule throw_rule section_head_rule section_rule cascade_section_rule cascade_rule expression_rule block_rule declared_rule variable_rule variables_rule variable_statement_rule local_body_rule local_rest_rule local_function_rule function_statement_rule expression_statement_rule return_rule break_rule continue_rule rethrow_rule labeled_rule condition_rule if_rule while_rule do_rule each_rule start_rule counted_rule for_rule label_rule labels_rule case_rule cases_rule switch_rule catch_rule clause_rule try_rule other_statement_rule statement_rule body_rule signature_rule function_rule constructor_name_rule initializer_rule constructor_rule factory_rule declared_sign_rule operator_rule operator_member_rule plain_member_rule static_member_rule member_rule class_with_rule class_rule mixin_rule alias_rule plain_declaration_rule declaration_rule library_names_rule library_rule combinator_rule import_rule export_rule part_rule part_of_rule directive_rule item_rule kind_of_word pieces pieces_within within_steps plain_size lexemes_from tokens_behind words_behind
text_example = record {
  front = (Word, codes "f") ∷ (Mark, codes "(") ∷ (Mark, codes ")") ∷ [];
  inside = [];
  back = [];
  old = refl;
  instead = (Word, codes "x") ∷ (Mark, codes ";") ∷ [];
  new = refl;
  freedom = plain;
  suits = refl;
  leads = refl;
  above = [];
  part = record { span = record { start = 3; end = 5 }; in_mixin = false };
  below = [];
  ranges = refl;
  begins = refl;
  ends = refl;
  marked = refl;
  marked_there = refl;
}

-- `class A{f(){}}` and `class A{f(){]}}`
member_example : EditedPieces false (codes "class A{f(){}}") (codes "class A{f(){]}}")
unfolding partners_from group_end past statements_at below over_type behind_arguments heads_generic heads_call type_arguments_rule type_parameter_rule type_parameters_rule type_name_rule question_rule plain_type_rule annotation_rule parameter_rule optional_parameters_rule parameter_list_rule parameter_type_rule tail_rule tail_before_rule type_rule binary_rule assignment_rule prefix_rule postfix_rule interpolation_rule string_part_rule string_rule strings_rule argument_rule arguments_rule simple_rule name_rule parenthesis_rule closure_rule new_rule entry_rule collection_rule primary_rule selector_rule selected_rule incremented_rule unary_rule operated_rule right_rule operand_rule assignment_expression_rule throw_rule section_head_rule section_rule cascade_section_rule cascade_rule expression_rule block_rule declared_rule variable_rule variables_rule variable_statement_rule local_body_rule local_rest_rule local_function_rule function_statement_rule expression_statement_rule return_rule break_rule continue_rule rethrow_rule labeled_rule condition_rule if_rule while_rule do_rule each_rule start_rule counted_rule for_rule label_rule labels_rule case_rule cases_rule switch_rule catch_rule clause_rule try_rule other_statement_rule statement_rule body_rule signature_rule function_rule constructor_name_rule initializer_rule constructor_rule factory_rule declared_sign_rule operator_rule operator_member_rule plain_member_rule static_member_rule member_rule class_with_rule class_rule mixin_rule alias_rule plain_declaration_rule declaration_rule library_names_rule library_rule combinator_rule import_rule export_rule part_rule part_of_rule directive_rule item_rule kind_of_word pieces pieces_within within_steps plain_size lexemes_from tokens_behind words_behind
member_example = record {
  front = (Word, codes "class") ∷ (Gap, codes " ") ∷ (Word, codes "A") ∷ (Mark, codes "{") ∷ (Word, codes "f") ∷ (Mark, codes "(") ∷ (Mark, codes ")") ∷ [];
  inside = [];
  back = (Mark, codes "}") ∷ [];
  old = refl;
  instead = (Mark, codes "]") ∷ [];
  new = refl;
  freedom = below_braces;
  suits = refl;
  leads = refl;
  above = [];
  part = record { span = record { start = 11; end = 13 }; in_mixin = false };
  below = [];
  ranges = refl;
  begins = refl;
  ends = refl;
  marked = refl;
  marked_there = refl;
}
