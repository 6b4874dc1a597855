-- The parser's way through the tokens: of each production one reading, or none.
use Rattle.std.specs.Prelude.{ℕ, zero, suc, Bool, true, false, ◌||◌, List, length, Option, Some, None}
use Rattle.readings.specs.Readings.{Test, next}
use Rattle.readings.specs.Descent.{Descent, take_token, take_given, ◌▸◌, ◌⊘◌, take_make, take_turn, take_maybe, take_many, take_chain, take_once, take_where, take_before, take_only, take_inside, take_within, take_levels, take_elements, take_items}
use Rattle.dart_tokens.specs.declared.token.Kind.TheVariants as kind
use Rattle.dart_tree.specs.Tree.{Tree}
use Rattle.dart_tree.specs.declared.names.ParameterKind.{ParameterKind}
use Rattle.dart_tree.specs.declared.names.ParameterKind.TheVariants as parameter_kind
use Rattle.dart_tree.specs.declared.operators.UnaryOperator.{UnaryOperator}
use Rattle.dart_tree.specs.declared.operators.UnaryOperatorKind.TheVariants as unary
use Rattle.dart_tree.specs.declared.operators.PostfixOperator.{PostfixOperator}
use Rattle.dart_tree.specs.declared.operators.PostfixOperatorKind.TheVariants as postfix
use Rattle.dart_tokens.specs.declared.grouped_token.GroupedToken.{GroupedToken as Token}
use Rattle.grammar.specs.declared.level.Level.{Level}
use Rattle.grammar.specs.declared.level.Level.TheVariants as level
use Rattle.grammar.specs.declared.level.Setting.{Setting}
use Rattle.grammar.specs.declared.level.Setting.TheVariants as setting
use Rattle.dart_tree.specs.Heights.{fits}
use Rattle.grammar.specs.Tokens.{is, is_either, is_name, is_type_name, heads, heads_name, anything, width, past}
use Rattle.grammar.specs.Types.{separated, inner, type_arguments_of, type_parameter_of, type_parameters_of, void_of, heads_qualified, qualified_of, unqualified_of, named_type_of, annotation_of, heads_required, heads_field, parameter_of, parameter_list_of, parameter_type_of, Tail, tail_of, first_tail_of, next_tail_of, every_time}
use Rattle.grammar.specs.Operators.{table, heads_sign, is_binary, take_binary, take_assignment, unary_at, postfix_at}
use Rattle.grammar.specs.Expressions.{heads_nullable, simple_string_of, string_text_of, simple_interpolation_of, interpolated_of, strings_of, heads_label, positional_of, named_of, arguments_of, integer_of, boolean_of, null_of, this_of, super_of, identifier_of, heads_generic, generic_of, parenthesis_of, arrow_of, closure_of, heads_closure, new_of, entry_of, listed_of, entries_of, collection_of, Selector, member_of, element_of, check_of, plain_call_of, generic_call_of, heads_call, select_with, one_time, postfix_of, unary_of, Side, operated_of, tested_of, cast_of, choices_of, times_behind, side_with, assign_of, throw_of, cascaded_name_of, cascaded_index_of, cascade_of, section_of, is_open}
use Rattle.grammar.specs.Statements.{error_of, block_of, final_of, var_of, typed_of, variable_of, variables_of, ended, variable_statement_of, arrow_body_of, plain_function_of, function_statement_of, expression_statement_of, return_of, break_of, continue_of, rethrow_of, labeled_of, without_else, is_nearest, with_else, if_of, while_of, do_of, Header, each_of, counted_of, for_of, label_of, labels_of, default_of, case_of, case_size, cases_end_with_default, switch_of, catch_of, on_of, clause_of, has_clause, try_of}

-- a string begins with this token
abbrev pub begins_string : Token → Bool
begins_string t = is_either kind.StringLiteral kind.UnterminatedString t || is kind.StringOpening t

-- an operand begins with this operator
abbrev pub begins_prefix : Token → Bool
begins_prefix t = is kind.Minus t || is kind.Bang t || is kind.Tilde t || is kind.PlusPlus t || is kind.MinusMinus t

-- The parser's way where fewer nodes may lie on a way down.
pub record Lower : Type 0 where
  pub written : Descent Token Tree
  pub tested : Setting → Descent Token Tree
  pub constructed : Descent Token Tree
  pub named : Descent Token Tree
  pub expression : Setting → Descent Token Tree
  pub operand : Setting → List Level → Descent Token Tree
  pub unary : Setting → Descent Token Tree
  pub section : Setting → Descent Token Tree
  pub simple : Descent Token Tree
  pub block : Descent Token Tree
  pub statement : Descent Token Tree

abbrev pub take_separated : {A : Type 0} → Descent Token A → Descent Token (List A)
take_separated p = take_turn separated (p ▸ take_many (take_token (is kind.Comma) ▸ p))

unfoldable pub take_type_arguments : Lower → Descent Token Tree
take_type_arguments l = take_make type_arguments_of (take_token (is kind.Less) ▸ take_separated l.written ▸ take_token (is kind.Greater))

unfoldable pub take_type_parameter : Lower → Descent Token Tree
take_type_parameter l = take_make type_parameter_of (take_token is_type_name ▸ take_maybe (take_token (is kind.Extends) ▸ l.written))

unfoldable pub take_type_parameters : Lower → Descent Token (List Tree)
take_type_parameters l = take_turn type_parameters_of (take_token (is kind.Less) ▸ take_separated (take_type_parameter l) ▸ take_token (is kind.Greater))

unfoldable pub take_type_name : Descent Token (Option Token × Token)
take_type_name = take_where heads_qualified (take_turn qualified_of (take_token is_name ▸ take_token (is kind.Period) ▸ take_token is_type_name)) (take_turn unqualified_of (take_token is_type_name))

unfoldable pub take_question : Test Token → Descent Token (Option Token)
take_question question = take_where question (take_turn (λ t. Some t) (take_token (is kind.Question))) (take_given None)

unfoldable pub take_plain_type : Lower → Test Token → Descent Token Tree
take_plain_type l question = take_where (heads kind.Void) (take_turn void_of (take_token (is kind.Void))) (take_make named_type_of (take_type_name ▸ take_maybe (take_type_arguments l) ▸ take_question question))

unfoldable pub take_annotation : Descent Token Tree
take_annotation = take_make annotation_of (take_token (is kind.At) ▸ take_token is_name)

unfoldable pub take_parameter : Lower → ParameterKind → Descent Token Tree
take_parameter l which = take_make (parameter_of which) (take_many take_annotation ▸ take_where heads_required (take_turn (λ t. Some t) (take_token (is kind.Required))) (take_given None) ▸ take_maybe (take_token (is_either kind.Final kind.Var)) ▸ take_maybe (take_before heads_field l.named) ▸ take_maybe (take_token (is kind.This) ▸ take_token (is kind.Period)) ▸ take_token is_name ▸ take_maybe (take_token (is kind.Equals) ▸ l.expression setting.Default))

abbrev pub take_parameters : Lower → ParameterKind → Descent Token (List Tree)
take_parameters l which = take_elements (take_parameter l which) (take_token (is kind.Comma))

unfoldable pub take_optional_parameters : Lower → Descent Token (List Tree)
take_optional_parameters l = take_where (heads kind.OpenBracket) (take_turn inner (take_inside (is kind.OpenBracket) width past (take_parameters l parameter_kind.OptionalPositional))) (take_turn inner (take_inside (is kind.OpenBrace) width past (take_parameters l parameter_kind.Named)))

unfoldable pub take_parameter_list : Lower → Descent Token Tree
take_parameter_list l = take_make parameter_list_of (take_inside (is kind.OpenParenthesis) width past (take_parameters l parameter_kind.Positional ▸ take_maybe (take_optional_parameters l)))

unfoldable pub take_parameter_type : Lower → Descent Token Tree
take_parameter_type l = take_make parameter_type_of (l.written ▸ take_maybe (take_token is_name))

unfoldable pub take_tail : Lower → Test Token → Descent Token Tail
take_tail l question = take_turn tail_of (take_token (is kind.Function) ▸ take_maybe (take_type_parameters l) ▸ take_inside (is kind.OpenParenthesis) width past (take_elements (take_parameter_type l) (take_token (is kind.Comma)) ▸ take_maybe (take_optional_parameters l)) ▸ take_question question)

unfoldable pub take_tail_before : Lower → (question ends : Test Token) → Descent Token Tail
take_tail_before l question ends = take_before ends (take_tail l question)

unfoldable pub take_type : ℕ → Lower → (question ends : Test Token) → Descent Token Tree
take_type n l question ends = take_chain every_time (fits n) next_tail_of (take_make first_tail_of (take_tail_before l question ends) ⊘ take_plain_type l question) (take_tail_before l question ends)

unfoldable pub take_prefix : Descent Token UnaryOperator
take_prefix = take_where (heads kind.Minus) (take_turn (unary_at unary.Negate) (take_token (is kind.Minus))) (take_where (heads kind.Bang) (take_turn (unary_at unary.Not) (take_token (is kind.Bang))) (take_where (heads kind.Tilde) (take_turn (unary_at unary.Complement) (take_token (is kind.Tilde))) (take_where (heads kind.PlusPlus) (take_turn (unary_at unary.Increment) (take_token (is kind.PlusPlus))) (take_turn (unary_at unary.Decrement) (take_token (is kind.MinusMinus))))))

unfoldable pub take_postfix : Descent Token PostfixOperator
take_postfix = take_where (heads kind.PlusPlus) (take_turn (postfix_at postfix.Increment) (take_token (is kind.PlusPlus))) (take_turn (postfix_at postfix.Decrement) (take_token (is kind.MinusMinus)))

unfoldable pub take_interpolation : Lower → Descent Token Tree
take_interpolation l = take_where (heads kind.InterpolationMark) (take_make simple_interpolation_of (take_token (is kind.InterpolationMark) ▸ l.simple)) (take_make simple_interpolation_of (take_inside (is kind.InterpolationOpening) width past (l.expression setting.Plain)))

unfoldable pub take_string_part : Lower → Descent Token Tree
take_string_part l = take_where (heads kind.StringPart) (take_turn string_text_of (take_token (is kind.StringPart))) (take_interpolation l)

unfoldable pub take_string : Lower → Descent Token Tree
take_string l = take_where (next (is_either kind.StringLiteral kind.UnterminatedString)) (take_turn simple_string_of (take_token (is_either kind.StringLiteral kind.UnterminatedString))) (take_make interpolated_of (take_token (is kind.StringOpening) ▸ take_many (take_string_part l) ▸ take_token (is kind.StringClosing)))

unfoldable pub take_strings : Lower → Descent Token Tree
take_strings l = take_make strings_of (take_string l ▸ take_many (take_string l))

unfoldable pub take_argument : Lower → Descent Token Tree
take_argument l = take_where heads_label (take_make named_of (take_token is_name ▸ take_token (is kind.Colon) ▸ l.expression setting.Listed)) (take_make positional_of (l.expression setting.Listed))

unfoldable pub take_arguments : Lower → Descent Token Tree
take_arguments l = take_make arguments_of (take_inside (is kind.OpenParenthesis) width past (take_elements (take_argument l) (take_token (is kind.Comma))))

unfoldable pub take_simple : Descent Token Tree
take_simple = take_where (heads_name) (take_turn identifier_of (take_token is_name)) (take_turn this_of (take_token (is kind.This)))

unfoldable pub take_name : Lower → Descent Token Tree
take_name l = take_where heads_generic (take_make generic_of (take_token is_name ▸ take_type_arguments l)) (take_turn identifier_of (take_token is_name))

unfoldable pub take_parenthesis : Lower → Descent Token Tree
take_parenthesis l = take_make parenthesis_of (take_inside (is kind.OpenParenthesis) width past (l.expression setting.Plain))

unfoldable pub take_closure : Setting → Lower → Descent Token Tree
take_closure m l = take_make closure_of (take_parameter_list l ▸ take_where (heads kind.Arrow) (take_make arrow_of (take_token (is kind.Arrow) ▸ l.expression m)) l.block)

unfoldable pub take_new : Lower → Descent Token Tree
take_new l = take_make new_of (take_token (is kind.New) ▸ l.constructed ▸ take_maybe (take_token (is kind.Period) ▸ take_token is_name) ▸ take_arguments l)

unfoldable pub take_entry : Lower → Descent Token Tree
take_entry l = take_make entry_of (l.expression setting.Listed ▸ take_maybe (take_token (is kind.Colon) ▸ l.expression setting.Listed))

unfoldable pub take_collection : Lower → Descent Token Tree
take_collection l = take_make collection_of (take_maybe (take_type_arguments l) ▸ take_where (heads kind.OpenBracket) (take_turn listed_of (take_inside (is kind.OpenBracket) width past (take_elements (l.expression setting.Listed) (take_token (is kind.Comma))))) (take_turn entries_of (take_inside (is kind.OpenBrace) width past (take_elements (take_entry l) (take_token (is kind.Comma))))))

unfoldable pub take_primary : Setting → Lower → Descent Token Tree
take_primary m l = take_where (heads kind.Integer) (take_turn integer_of (take_token (is kind.Integer))) (take_where (next begins_string) (take_strings l) (take_where (heads kind.True) (take_turn (boolean_of true) (take_token (is kind.True))) (take_where (heads kind.False) (take_turn (boolean_of false) (take_token (is kind.False))) (take_where (heads kind.Null) (take_turn null_of (take_token (is kind.Null))) (take_where (heads kind.This) (take_turn this_of (take_token (is kind.This))) (take_where (heads kind.Super) (take_turn super_of (take_token (is kind.Super))) (take_where (heads_name) (take_name l) (take_where (heads kind.OpenParenthesis) (take_where (heads_closure m) (take_closure m l) (take_parenthesis l)) (take_where (heads kind.New) (take_new l) (take_collection l))))))))))

unfoldable pub take_selector : Setting → Lower → Descent Token Selector
take_selector m l = take_where (heads kind.Period) (take_turn (member_of false) (take_token (is kind.Period) ▸ take_token is_name)) (take_where (heads kind.QuestionPeriod) (take_turn (member_of true) (take_token (is kind.QuestionPeriod) ▸ take_token is_name)) (take_where (heads kind.OpenBracket) (take_turn (element_of false) (take_inside (is kind.OpenBracket) width past (l.expression setting.Plain))) (take_where (heads kind.QuestionBracket) (take_turn (element_of true) (take_inside (is kind.QuestionBracket) width past (l.expression setting.Plain))) (take_where (heads kind.Bang) (take_turn check_of (take_token (is kind.Bang))) (take_where (heads kind.OpenParenthesis) (take_turn plain_call_of (take_arguments l)) (take_where (heads_call m) (take_turn generic_call_of (take_type_arguments l ▸ take_arguments l)) (λ ts. None)))))))

unfoldable pub take_selected : ℕ → Setting → Lower → Descent Token Tree
take_selected n m l = take_chain every_time (is_open n) select_with (take_primary m l) (take_selector m l)

unfoldable pub take_incremented : ℕ → Setting → Lower → Descent Token Tree
take_incremented n m l = take_chain one_time (is_open n) postfix_of (take_selected n m l) (take_postfix)

unfoldable pub take_unary : ℕ → Setting → Lower → Descent Token Tree
take_unary n m l = take_where (next begins_prefix) (take_make unary_of (take_prefix ▸ l.unary m)) (take_incremented n m l)

unfoldable pub take_operated : Setting → Lower → Level → List Level → Descent Token Side
take_operated m l which above = take_turn operated_of (take_binary which ▸ l.operand m above)

unfoldable pub take_right : Setting → Lower → Level → List Level → Descent Token Side
take_right m l level.Conditional above = take_turn choices_of (take_token (is kind.Question) ▸ l.expression m ▸ take_token (is kind.Colon) ▸ l.expression m)
take_right m l level.IfNull above = take_operated m l level.IfNull above
take_right m l level.Or above = take_operated m l level.Or above
take_right m l level.And above = take_operated m l level.And above
take_right m l level.Equality above = take_operated m l level.Equality above
take_right m l level.Relation above = take_where (heads_sign (is_binary level.Relation)) (take_operated m l level.Relation above) (take_where (heads kind.Is) (take_turn tested_of (take_token (is kind.Is) ▸ take_maybe (take_token (is kind.Bang)) ▸ l.tested m)) (take_turn cast_of (take_token (is kind.As) ▸ l.tested m)))
take_right m l level.BitOr above = take_operated m l level.BitOr above
take_right m l level.BitXor above = take_operated m l level.BitXor above
take_right m l level.BitAnd above = take_operated m l level.BitAnd above
take_right m l level.Shift above = take_operated m l level.Shift above
take_right m l level.Sum above = take_operated m l level.Sum above
take_right m l level.Product above = take_operated m l level.Product above

unfoldable pub take_operand : ℕ → Setting → Lower → List Level → Descent Token Tree
take_operand n m l above = take_levels (times_behind m) (is_open n) side_with (take_right m l) (take_unary n m l) above

unfoldable pub take_assignment_expression : ℕ → Setting → Lower → Descent Token Tree
take_assignment_expression n m l = take_once (is_open n) assign_of (take_unary n m l) (take_assignment ▸ l.expression m)

unfoldable pub take_throw : Setting → Lower → Descent Token Tree
take_throw m l = take_make throw_of (take_token (is kind.Throw) ▸ l.expression m)

unfoldable pub take_section_head : Descent Token Tree → Descent Token Tree
take_section_head expression = take_where (heads_name) (take_turn cascaded_name_of (take_token is_name)) (take_make cascaded_index_of (take_inside (is kind.OpenBracket) width past expression))

unfoldable pub take_section : ℕ → Setting → Lower → (expression : Descent Token Tree) → Descent Token Tree
take_section n m l expression = take_chain one_time (is_open n) assign_of ((take_chain every_time (is_open n) select_with (take_section_head expression) (take_selector m l))) (take_assignment ▸ l.operand m table)

unfoldable pub take_cascade_section : Setting → Lower → Descent Token (Bool × Tree)
take_cascade_section m l = take_where (heads kind.PeriodPeriod) (take_turn (section_of false) (take_token (is kind.PeriodPeriod) ▸ l.section m)) (take_turn (section_of true) (take_token (is kind.QuestionPeriodPeriod) ▸ l.section m))

unfoldable pub take_cascade : ℕ → Setting → Lower → Descent Token Tree
take_cascade n m l = (take_chain every_time (is_open n) cascade_of (take_operand n m l table) (take_cascade_section m l))

unfoldable pub take_expression : ℕ → Setting → Lower → Descent Token Tree
take_expression n m l = take_assignment_expression n m l ⊘ take_where (heads kind.Throw) (take_throw m l) (take_cascade n m l)

-- a list of statements that isn't read yet
abbrev pub take_unread : Descent Token (List Tree)
take_unread = take_items (λ ts. None) length error_of

unfoldable pub take_block : Descent Token Tree
take_block = take_make block_of (take_inside (is kind.OpenBrace) width past take_unread)

unfoldable pub take_declared : Lower → Descent Token (Bool × Option Tree)
take_declared l = take_where (heads kind.Final) (take_turn final_of (take_token (is kind.Final) ▸ take_maybe (take_before heads_name l.named))) (take_where (heads kind.Var) (take_turn var_of (take_token (is kind.Var))) (take_turn typed_of (take_before heads_name l.named)))

unfoldable pub take_variable : Lower → Descent Token Tree
take_variable l = take_make variable_of (take_token is_name ▸ take_maybe (take_token (is kind.Equals) ▸ l.expression setting.Plain))

unfoldable pub take_variables : Lower → Descent Token Tree
take_variables l = take_make variables_of (take_declared l ▸ take_separated (take_variable l))

unfoldable pub take_variable_statement : Lower → Descent Token Tree
take_variable_statement l = take_make variable_statement_of (take_variables l ▸ take_token (is kind.Semicolon))

unfoldable pub take_local_body : Lower → Descent Token Tree
take_local_body l = take_where (heads kind.OpenBrace) (l.block) (take_make arrow_body_of (take_token (is kind.Arrow) ▸ l.expression setting.Plain ▸ take_token (is kind.Semicolon)))

unfoldable pub take_local_rest : Lower → Descent Token (Tree × Tree)
take_local_rest l = take_where (heads_closure setting.Plain) (take_parameter_list l ▸ take_local_body l) (λ ts. None)

unfoldable pub take_local_function : Lower → Descent Token Tree
take_local_function l =
    take_make plain_function_of (take_maybe (take_before heads_name l.named) ▸ take_token is_name ▸ take_maybe (take_type_parameters l) ▸ take_local_rest l)

unfoldable pub take_function_statement : Lower → Descent Token Tree
take_function_statement l = take_make function_statement_of (take_local_function l)

unfoldable pub take_expression_statement : Lower → Descent Token Tree
take_expression_statement l = take_make expression_statement_of (take_maybe (l.expression setting.Plain) ▸ take_token (is kind.Semicolon))

unfoldable pub take_return : Lower → Descent Token Tree
take_return l = take_make return_of (take_token (is kind.Return) ▸ take_maybe (l.expression setting.Plain) ▸ take_token (is kind.Semicolon))

unfoldable pub take_break : Descent Token Tree
take_break = take_make break_of (take_token (is kind.Break) ▸ take_maybe (take_token is_name) ▸ take_token (is kind.Semicolon))

unfoldable pub take_continue : Descent Token Tree
take_continue = take_make continue_of (take_token (is kind.Continue) ▸ take_maybe (take_token is_name) ▸ take_token (is kind.Semicolon))

unfoldable pub take_rethrow : Descent Token Tree
take_rethrow = take_make rethrow_of (take_token (is kind.Rethrow) ▸ take_token (is kind.Semicolon))

unfoldable pub take_labeled : Lower → Descent Token Tree
take_labeled l = take_make labeled_of (take_token is_name ▸ take_token (is kind.Colon) ▸ l.statement)

unfoldable pub take_condition : Lower → Descent Token Tree
take_condition l = take_turn inner (take_inside (is kind.OpenParenthesis) width past (l.expression setting.Plain))

unfoldable pub take_if : Lower → Descent Token Tree
take_if l = take_make if_of (take_chain one_time is_nearest with_else (take_turn without_else (take_token (is kind.If) ▸ take_condition l ▸ l.statement)) (take_token (is kind.Else) ▸ l.statement))

unfoldable pub take_while : Lower → Descent Token Tree
take_while l = take_make while_of (take_token (is kind.While) ▸ take_condition l ▸ l.statement)

unfoldable pub take_do : Lower → Descent Token Tree
take_do l = take_make do_of (take_token (is kind.Do) ▸ l.statement ▸ take_token (is kind.While) ▸ take_condition l ▸ take_token (is kind.Semicolon))

unfoldable pub take_each : Lower → Descent Token Header
take_each l = take_turn each_of (take_maybe (take_declared l) ▸ take_token is_name ▸ take_token (is kind.In) ▸ l.expression setting.Plain)

unfoldable pub take_start : Lower → Descent Token (Option Tree)
take_start l = take_turn (λ x. Some (ended x)) (take_variables l ▸ take_token (is kind.Semicolon)) ⊘ (take_turn ended (take_maybe (l.expression setting.Plain) ▸ take_token (is kind.Semicolon)))

unfoldable pub take_counted : Lower → Descent Token Header
take_counted l = take_turn counted_of (take_start l ▸ take_maybe (l.expression setting.Plain) ▸ take_token (is kind.Semicolon) ▸ take_maybe (take_separated (l.expression setting.Listed)))

unfoldable pub take_for : Lower → Descent Token Tree
take_for l = take_make for_of (take_token (is kind.For) ▸ take_inside (is kind.OpenParenthesis) width past (take_each l ⊘ take_counted l) ▸ l.statement)

unfoldable pub take_label : Lower → Descent Token Tree
take_label l = take_turn label_of (take_token (is kind.Case) ▸ l.expression setting.Plain ▸ take_token (is kind.Colon))

unfoldable pub take_labels : Lower → Descent Token (List Tree × Bool)
take_labels l = take_where (heads kind.Case) (take_turn labels_of ((take_label l ▸ take_many (take_label l)) ▸ take_maybe (take_token (is kind.Default) ▸ take_token (is kind.Colon)))) (take_turn default_of (take_token (is kind.Default) ▸ take_token (is kind.Colon)))

unfoldable pub take_case : Lower → Descent Token (Tree × Bool)
take_case l = take_make case_of (take_labels l ▸ take_within case_size take_unread)

unfoldable pub take_cases : Lower → Descent Token (Token × List (Tree × Bool))
take_cases l = take_only cases_end_with_default (take_inside (is kind.OpenBrace) width past (take_many (take_case l)))

unfoldable pub take_switch : Lower → Descent Token Tree
take_switch l = take_make switch_of (take_token (is kind.Switch) ▸ take_condition l ▸ take_cases l)

unfoldable pub take_catch : Descent Token (Token × Option Token)
take_catch = take_turn catch_of (take_token (is kind.Catch) ▸ take_inside (is kind.OpenParenthesis) width past (take_token is_name ▸ take_maybe (take_token (is kind.Comma) ▸ take_token is_name)))

unfoldable pub take_clause : Lower → Descent Token Tree
take_clause l = take_where (heads kind.On) (take_make on_of (take_token (is kind.On) ▸ l.written ▸ take_maybe take_catch ▸ l.block)) (take_make clause_of (take_catch ▸ l.block))

unfoldable pub take_try : Lower → Descent Token Tree
take_try l = take_make try_of (take_only has_clause (((take_token (is kind.Try) ▸ l.block ▸ take_many (take_clause l)) ▸ take_maybe (take_token (is kind.Finally) ▸ l.block))))

unfoldable pub take_other_statement : Lower → Descent Token Tree
take_other_statement l = take_where heads_label (take_labeled l) (take_function_statement l ⊘ take_variable_statement l ⊘ take_expression_statement l)

unfoldable pub take_statement : Lower → Descent Token Tree
take_statement l = take_where (heads kind.OpenBrace) take_block (take_where (heads kind.If) (take_if l) (take_where (heads kind.While) (take_while l) (take_where (heads kind.Do) (take_do l) (take_where (heads kind.For) (take_for l) (take_where (heads kind.Switch) (take_switch l) (take_where (heads kind.Try) (take_try l) (take_where (heads kind.Return) (take_return l) (take_where (heads kind.Break) take_break (take_where (heads kind.Continue) take_continue (take_where (heads kind.Rethrow) take_rethrow (take_other_statement l)))))))))))

unfoldable pub lower : ℕ → Lower
lower zero = record {
  written = λ ts. None;
  tested = λ m ts. None;
  constructed = λ ts. None;
  named = λ ts. None;
  expression = λ m ts. None;
  operand = λ m above ts. None;
  unary = λ m ts. None;
  section = λ m. take_section_head (λ ts. None);
  simple = λ ts. None;
  block = λ ts. None;
  statement = λ ts. None;
}
lower (suc n) = record {
  written = take_type n (lower n) (heads kind.Question) anything;
  tested = λ m. take_type n (lower n) (heads_nullable m) anything;
  constructed = take_plain_type (lower n) (heads kind.Question);
  named = take_type n (lower n) (heads kind.Question) heads_field;
  expression = λ m. take_expression n m (lower n);
  operand = λ m above. take_operand n m (lower n) above;
  unary = λ m. take_unary n m (lower n);
  section = λ m. take_section n m (lower n) (take_expression n setting.Plain (lower n));
  simple = take_simple;
  block = take_block;
  statement = take_statement (lower n);
}
