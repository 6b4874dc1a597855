-- What is left behind types and expressions is a last part of the tokens that they were read from.
use Rattle.std.proofs.Common.{ℕ, zero, suc, Bool, true, false, List, [], ◌∷◌, Option, Some, None, option_map, drop, refl}
use Rattle.std.specs.Option.{option_map_or}
use Rattle.readings.specs.Readings.{Reading, Test, next}
use Rattle.readings.specs.Descent.{Descent, take_token, take_given, ◌▸◌, take_turn, take_maybe, take_where, take_elements}
use Rattle.readings.specs.Values.{Maybe}
use Rattle.dart_tokens.specs.declared.token.Kind.TheVariants as kind
use Rattle.dart_tree.specs.Tree.{Tree}
use Rattle.dart_tree.specs.Heights.{fits}
use Rattle.dart_tree.specs.declared.places.Span.{Span}
use Rattle.dart_tree.specs.declared.names.ParameterKind.{ParameterKind}
use Rattle.dart_tree.specs.declared.names.ParameterKind.TheVariants as parameter_kind
use Rattle.dart_tree.specs.declared.operators.UnaryOperatorKind.TheVariants as unary
use Rattle.dart_tree.specs.declared.operators.PostfixOperatorKind.TheVariants as postfix
use Rattle.dart_tokens.specs.declared.grouped_token.GroupedToken.{GroupedToken as Token}
use Rattle.grammar.specs.declared.level.Level.{Level}
use Rattle.grammar.specs.declared.level.Level.TheVariants as level
use Rattle.grammar.specs.declared.level.Sign.{Sign}
use Rattle.grammar.specs.declared.level.Setting.{Setting}
use Rattle.grammar.specs.declared.level.Setting.TheVariants as setting
use Rattle.grammar.specs.Tokens.{is, is_either, is_name, is_type_name, heads, heads_name, anything, width, past}
use Rattle.grammar.specs.Types.{separated, inner, type_arguments_of, type_parameter_of, type_parameters_of, void_of, heads_qualified, qualified_of, unqualified_of, named_type_of, annotation_of, heads_required, heads_field, parameter_of, parameter_list_of, parameter_type_of, tail_of, first_tail_of, next_tail_of, every_time}
use Rattle.grammar.specs.Operators.{table, heads_sign, is_binary, binary_of, assignment_of, take_sign, sign_at, read_sign, take_binary, take_assignment, unary_at, postfix_at}
use Rattle.grammar.specs.Expressions.{heads_nullable, simple_string_of, string_text_of, simple_interpolation_of, interpolated_of, strings_of, heads_label, positional_of, named_of, arguments_of, integer_of, boolean_of, null_of, this_of, super_of, identifier_of, heads_generic, generic_of, parenthesis_of, arrow_of, closure_of, heads_closure, new_of, entry_of, listed_of, entries_of, collection_of, member_of, element_of, check_of, plain_call_of, generic_call_of, heads_call, select_with, one_time, postfix_of, unary_of, operated_of, tested_of, cast_of, choices_of, times_behind, side_with, assign_of, throw_of, cascaded_name_of, cascaded_index_of, cascade_of, section_of, is_open}
use Rattle.grammar.specs.Statements.{block_of}
use Rattle.grammar.specs.Descents.{Lower, lower, begins_string, begins_prefix, take_separated, take_type_arguments, take_type_parameter, take_type_parameters, take_type_name, take_question, take_plain_type, take_annotation, take_parameter, take_parameters, take_optional_parameters, take_parameter_list, take_parameter_type, take_tail, take_tail_before, take_type, take_prefix, take_postfix, take_interpolation, take_string_part, take_string, take_strings, take_argument, take_arguments, take_simple, take_name, take_parenthesis, take_closure, take_new, take_entry, take_collection, take_primary, take_selector, take_selected, take_incremented, take_unary, take_operated, take_right, take_operand, take_assignment_expression, take_throw, take_section_head, take_section, take_cascade_section, take_cascade, take_expression, take_unread, take_block}
use Rattle.last_parts.specs.LastParts.{IsLast, Leaves, leaves_none, leaves_token, leaves_given, leaves_seq, leaves_or, leaves_make, leaves_turn, leaves_maybe, leaves_many, leaves_chain, leaves_once, leaves_levels, leaves_where, leaves_before, leaves_inside}

-- what is read in the room below leaves last parts
pub record LeavesBelow (l : Lower) : Type 0 where
  pub written : Leaves l.written
  pub tested : (m : Setting) → Leaves (l.tested m)
  pub constructed : Leaves l.constructed
  pub named : Leaves l.named
  pub expression : (m : Setting) → Leaves (l.expression m)
  pub operand : (m : Setting) (above : List Level) → Leaves (l.operand m above)
  pub unary : (m : Setting) → Leaves (l.unary m)
  pub section : (m : Setting) → Leaves (l.section m)
  pub simple : Leaves l.simple
  pub block : Leaves l.block

separated_left : {A : Type 0} {g : Descent Token A} → Leaves g → Leaves (take_separated g)
separated_left a = leaves_turn separated (leaves_seq a (leaves_many (leaves_seq (leaves_token (is kind.Comma)) a)))

-- a token that may be there
mark_left : (t : Test Token) (f : Token → Bool) → Leaves (take_where t (take_turn (λ t. Some t) (take_token f)) (take_given None))
mark_left t f = leaves_where t (leaves_turn (λ t. Some t) (leaves_token f)) (leaves_given None)

-- Types.

type_arguments_left : (l : Lower) → LeavesBelow l → Leaves (take_type_arguments l)
unfolding take_type_arguments
type_arguments_left l a = leaves_make type_arguments_of (leaves_seq (leaves_token (is kind.Less)) (leaves_seq (separated_left a.written) (leaves_token (is kind.Greater))))

type_parameter_left : (l : Lower) → LeavesBelow l → Leaves (take_type_parameter l)
unfolding take_type_parameter
type_parameter_left l a = leaves_make type_parameter_of (leaves_seq (leaves_token is_type_name) (leaves_maybe (leaves_seq (leaves_token (is kind.Extends)) a.written)))

type_parameters_left : (l : Lower) → LeavesBelow l → Leaves (take_type_parameters l)
unfolding take_type_parameters
type_parameters_left l a =
    leaves_turn type_parameters_of (leaves_seq (leaves_token (is kind.Less)) (leaves_seq (separated_left (type_parameter_left l a)) (leaves_token (is kind.Greater))))

type_name_left : Leaves take_type_name
unfolding take_type_name
type_name_left =
    leaves_where heads_qualified (leaves_turn qualified_of (leaves_seq (leaves_token is_name) (leaves_seq (leaves_token (is kind.Period)) (leaves_token is_type_name))))
    (leaves_turn unqualified_of (leaves_token is_type_name))

question_left : (question : Test Token) → Leaves (take_question question)
unfolding take_question
question_left question = mark_left question (is kind.Question)

plain_type_left : (l : Lower) → LeavesBelow l → (question : Test Token) → Leaves (take_plain_type l question)
unfolding take_plain_type
plain_type_left l a question =
    leaves_where (heads kind.Void) (leaves_turn void_of (leaves_token (is kind.Void)))
    (leaves_make named_type_of (leaves_seq type_name_left (leaves_seq (leaves_maybe (type_arguments_left l a)) (question_left question))))

optional_parameters_left : (l : Lower) → Leaves (take_optional_parameters l)
unfolding take_optional_parameters
optional_parameters_left l =
    leaves_where (heads kind.OpenBracket) (leaves_turn inner (leaves_inside (is kind.OpenBracket) width past (take_parameters l parameter_kind.OptionalPositional)))
    (leaves_turn inner (leaves_inside (is kind.OpenBrace) width past (take_parameters l parameter_kind.Named)))

parameter_list_left : (l : Lower) → Leaves (take_parameter_list l)
unfolding take_parameter_list
parameter_list_left l =
    leaves_make parameter_list_of (leaves_inside (is kind.OpenParenthesis) width past (take_parameters l parameter_kind.Positional ▸ take_maybe (take_optional_parameters l)))

tail_left : (l : Lower) → LeavesBelow l → (question : Test Token) → Leaves (take_tail l question)
unfolding take_tail
tail_left l a question =
    leaves_turn tail_of
    (leaves_seq (leaves_token (is kind.Function))
    (leaves_seq (leaves_maybe (type_parameters_left l a))
    (leaves_seq (leaves_inside (is kind.OpenParenthesis) width past (take_elements (take_parameter_type l) (take_token (is kind.Comma)) ▸ take_maybe (take_optional_parameters l)))
    (question_left question))))

tail_before_left : (l : Lower) → LeavesBelow l → (question ends : Test Token) → Leaves (take_tail_before l question ends)
unfolding take_tail_before
tail_before_left l a question ends = leaves_before ends (tail_left l a question)

type_left : (n : ℕ) (l : Lower) → LeavesBelow l → (question ends : Test Token) → Leaves (take_type n l question ends)
unfolding take_type
type_left n l a question ends =
    leaves_chain every_time (fits n) next_tail_of (leaves_or (leaves_make first_tail_of (tail_before_left l a question ends)) (plain_type_left l a question))
    (tail_before_left l a question ends)

-- Parameters.

annotation_left : Leaves take_annotation
unfolding take_annotation
annotation_left = leaves_make annotation_of (leaves_seq (leaves_token (is kind.At)) (leaves_token is_name))

pub parameter_left : (l : Lower) → LeavesBelow l → (which : ParameterKind) → Leaves (take_parameter l which)
unfolding take_parameter
parameter_left l a which =
    leaves_make (parameter_of which)
    (leaves_seq (leaves_many annotation_left)
    (leaves_seq (mark_left heads_required (is kind.Required))
    (leaves_seq (leaves_maybe (leaves_token (is_either kind.Final kind.Var)))
    (leaves_seq (leaves_maybe (leaves_before heads_field a.named))
    (leaves_seq (leaves_maybe (leaves_seq (leaves_token (is kind.This)) (leaves_token (is kind.Period))))
    (leaves_seq (leaves_token is_name) (leaves_maybe (leaves_seq (leaves_token (is kind.Equals)) (a.expression setting.Default)))))))))

pub parameter_type_left : (l : Lower) → LeavesBelow l → Leaves (take_parameter_type l)
unfolding take_parameter_type
parameter_type_left l a = leaves_make parameter_type_of (leaves_seq a.written (leaves_maybe (leaves_token is_name)))

-- Operators.

sign_read : {A : Type 0} (of : Span → Sign → Option A) (t : Token) (ts : List Token) (s : Sign × ℕ) →
    Maybe (λ (x : Reading Token A). IsLast x.1 (t ∷ ts)) (read_sign of (t ∷ ts) s)
sign_read {A = A} of t ts s = read_at (of _ s.0) where
  read_at : (o : Option A) → Maybe (λ (x : Reading Token A). IsLast x.1 (t ∷ ts)) (option_map (λ a. (a, drop (suc s.1) (t ∷ ts))) o)
  read_at None = tt
  read_at (Some a) = (suc s.1, refl)

sign_found : {A : Type 0} (of : Span → Sign → Option A) (t : Token) (ts : List Token) (o : Option (Sign × ℕ)) →
    Maybe (λ (x : Reading Token A). IsLast x.1 (t ∷ ts)) (option_map_or (read_sign of (t ∷ ts)) o None)
sign_found of t ts None = tt
sign_found of t ts (Some s) = sign_read of t ts s

sign_left : {A : Type 0} (of : Span → Sign → Option A) → Leaves (take_sign of)
sign_left {A = A} of = record { each = left } where
  left : (ts : List Token) → Maybe (λ (x : Reading Token A). IsLast x.1 ts) (take_sign of ts)
  left [] = tt
  left (t ∷ ts) = sign_found of t ts (sign_at (t ∷ ts))

binary_left : (which : Level) → Leaves (take_binary which)
binary_left which = sign_left (binary_of which)

assignment_left : Leaves take_assignment
assignment_left = sign_left assignment_of

prefix_left : Leaves take_prefix
unfolding take_prefix
prefix_left =
    leaves_where (heads kind.Minus) (leaves_turn (unary_at unary.Negate) (leaves_token (is kind.Minus)))
    (leaves_where (heads kind.Bang) (leaves_turn (unary_at unary.Not) (leaves_token (is kind.Bang)))
    (leaves_where (heads kind.Tilde) (leaves_turn (unary_at unary.Complement) (leaves_token (is kind.Tilde)))
    (leaves_where (heads kind.PlusPlus) (leaves_turn (unary_at unary.Increment) (leaves_token (is kind.PlusPlus)))
    (leaves_turn (unary_at unary.Decrement) (leaves_token (is kind.MinusMinus))))))

postfix_left : Leaves take_postfix
unfolding take_postfix
postfix_left =
    leaves_where (heads kind.PlusPlus) (leaves_turn (postfix_at postfix.Increment) (leaves_token (is kind.PlusPlus)))
    (leaves_turn (postfix_at postfix.Decrement) (leaves_token (is kind.MinusMinus)))

-- Operands.

interpolation_left : (l : Lower) → LeavesBelow l → Leaves (take_interpolation l)
unfolding take_interpolation
interpolation_left l a =
    leaves_where (heads kind.InterpolationMark) (leaves_make simple_interpolation_of (leaves_seq (leaves_token (is kind.InterpolationMark)) a.simple))
    (leaves_make simple_interpolation_of (leaves_inside (is kind.InterpolationOpening) width past (l.expression setting.Plain)))

string_part_left : (l : Lower) → LeavesBelow l → Leaves (take_string_part l)
unfolding take_string_part
string_part_left l a = leaves_where (heads kind.StringPart) (leaves_turn string_text_of (leaves_token (is kind.StringPart))) (interpolation_left l a)

string_left : (l : Lower) → LeavesBelow l → Leaves (take_string l)
unfolding take_string
string_left l a =
    leaves_where (next (is_either kind.StringLiteral kind.UnterminatedString))
    (leaves_turn simple_string_of (leaves_token (is_either kind.StringLiteral kind.UnterminatedString)))
    (leaves_make interpolated_of (leaves_seq (leaves_token (is kind.StringOpening)) (leaves_seq (leaves_many (string_part_left l a)) (leaves_token (is kind.StringClosing)))))

strings_left : (l : Lower) → LeavesBelow l → Leaves (take_strings l)
unfolding take_strings
strings_left l a = leaves_make strings_of (leaves_seq (string_left l a) (leaves_many (string_left l a)))

pub argument_left : (l : Lower) → LeavesBelow l → Leaves (take_argument l)
unfolding take_argument
argument_left l a =
    leaves_where heads_label (leaves_make named_of (leaves_seq (leaves_token is_name) (leaves_seq (leaves_token (is kind.Colon)) (a.expression setting.Listed))))
    (leaves_make positional_of (a.expression setting.Listed))

arguments_left : (l : Lower) → Leaves (take_arguments l)
unfolding take_arguments
arguments_left l = leaves_make arguments_of (leaves_inside (is kind.OpenParenthesis) width past (take_elements (take_argument l) (take_token (is kind.Comma))))

simple_left : Leaves take_simple
unfolding take_simple
simple_left = leaves_where heads_name (leaves_turn identifier_of (leaves_token is_name)) (leaves_turn this_of (leaves_token (is kind.This)))

name_left : (l : Lower) → LeavesBelow l → Leaves (take_name l)
unfolding take_name
name_left l a =
    leaves_where heads_generic (leaves_make generic_of (leaves_seq (leaves_token is_name) (type_arguments_left l a))) (leaves_turn identifier_of (leaves_token is_name))

parenthesis_left : (l : Lower) → Leaves (take_parenthesis l)
unfolding take_parenthesis
parenthesis_left l = leaves_make parenthesis_of (leaves_inside (is kind.OpenParenthesis) width past (l.expression setting.Plain))

closure_left : (m : Setting) (l : Lower) → LeavesBelow l → Leaves (take_closure m l)
unfolding take_closure
closure_left m l a =
    leaves_make closure_of
    (leaves_seq (parameter_list_left l) (leaves_where (heads kind.Arrow) (leaves_make arrow_of (leaves_seq (leaves_token (is kind.Arrow)) (a.expression m))) a.block))

new_left : (l : Lower) → LeavesBelow l → Leaves (take_new l)
unfolding take_new
new_left l a =
    leaves_make new_of
    (leaves_seq (leaves_token (is kind.New))
    (leaves_seq a.constructed (leaves_seq (leaves_maybe (leaves_seq (leaves_token (is kind.Period)) (leaves_token is_name))) (arguments_left l))))

pub entry_left : (l : Lower) → LeavesBelow l → Leaves (take_entry l)
unfolding take_entry
entry_left l a =
    leaves_make entry_of (leaves_seq (a.expression setting.Listed) (leaves_maybe (leaves_seq (leaves_token (is kind.Colon)) (a.expression setting.Listed))))

collection_left : (l : Lower) → LeavesBelow l → Leaves (take_collection l)
unfolding take_collection
collection_left l a =
    leaves_make collection_of
    (leaves_seq (leaves_maybe (type_arguments_left l a))
    (leaves_where (heads kind.OpenBracket)
    (leaves_turn listed_of (leaves_inside (is kind.OpenBracket) width past (take_elements (l.expression setting.Listed) (take_token (is kind.Comma)))))
    (leaves_turn entries_of (leaves_inside (is kind.OpenBrace) width past (take_elements (take_entry l) (take_token (is kind.Comma)))))))

primary_left : (m : Setting) (l : Lower) → LeavesBelow l → Leaves (take_primary m l)
unfolding take_primary
primary_left m l a =
    leaves_where (heads kind.Integer) (leaves_turn integer_of (leaves_token (is kind.Integer)))
    (leaves_where (next begins_string) (strings_left l a)
    (leaves_where (heads kind.True) (leaves_turn (boolean_of true) (leaves_token (is kind.True)))
    (leaves_where (heads kind.False) (leaves_turn (boolean_of false) (leaves_token (is kind.False)))
    (leaves_where (heads kind.Null) (leaves_turn null_of (leaves_token (is kind.Null)))
    (leaves_where (heads kind.This) (leaves_turn this_of (leaves_token (is kind.This)))
    (leaves_where (heads kind.Super) (leaves_turn super_of (leaves_token (is kind.Super)))
    (leaves_where heads_name (name_left l a)
    (leaves_where (heads kind.OpenParenthesis) (leaves_where (heads_closure m) (closure_left m l a) (parenthesis_left l))
    (leaves_where (heads kind.New) (new_left l a) (collection_left l a))))))))))

selector_left : (m : Setting) (l : Lower) → LeavesBelow l → Leaves (take_selector m l)
unfolding take_selector
selector_left m l a =
    leaves_where (heads kind.Period) (leaves_turn (member_of false) (leaves_seq (leaves_token (is kind.Period)) (leaves_token is_name)))
    (leaves_where (heads kind.QuestionPeriod) (leaves_turn (member_of true) (leaves_seq (leaves_token (is kind.QuestionPeriod)) (leaves_token is_name)))
    (leaves_where (heads kind.OpenBracket) (leaves_turn (element_of false) (leaves_inside (is kind.OpenBracket) width past (l.expression setting.Plain)))
    (leaves_where (heads kind.QuestionBracket) (leaves_turn (element_of true) (leaves_inside (is kind.QuestionBracket) width past (l.expression setting.Plain)))
    (leaves_where (heads kind.Bang) (leaves_turn check_of (leaves_token (is kind.Bang)))
    (leaves_where (heads kind.OpenParenthesis) (leaves_turn plain_call_of (arguments_left l))
    (leaves_where (heads_call m) (leaves_turn generic_call_of (leaves_seq (type_arguments_left l a) (arguments_left l))) leaves_none))))))

selected_left : (n : ℕ) (m : Setting) (l : Lower) → LeavesBelow l → Leaves (take_selected n m l)
unfolding take_selected
selected_left n m l a = leaves_chain every_time (is_open n) select_with (primary_left m l a) (selector_left m l a)

incremented_left : (n : ℕ) (m : Setting) (l : Lower) → LeavesBelow l → Leaves (take_incremented n m l)
unfolding take_incremented
incremented_left n m l a = leaves_chain one_time (is_open n) postfix_of (selected_left n m l a) postfix_left

unary_left : (n : ℕ) (m : Setting) (l : Lower) → LeavesBelow l → Leaves (take_unary n m l)
unfolding take_unary
unary_left n m l a = leaves_where (next begins_prefix) (leaves_make unary_of (leaves_seq prefix_left (a.unary m))) (incremented_left n m l a)

operated_left : (m : Setting) (l : Lower) → LeavesBelow l → (which : Level) (above : List Level) → Leaves (take_operated m l which above)
unfolding take_operated
operated_left m l a which above = leaves_turn operated_of (leaves_seq (binary_left which) (a.operand m above))

right_left : (m : Setting) (l : Lower) → LeavesBelow l → (which : Level) (above : List Level) → Leaves (take_right m l which above)
unfolding take_right
right_left m l a level.Conditional above =
    leaves_turn choices_of (leaves_seq (leaves_token (is kind.Question)) (leaves_seq (a.expression m) (leaves_seq (leaves_token (is kind.Colon)) (a.expression m))))
right_left m l a level.IfNull above = operated_left m l a level.IfNull above
right_left m l a level.Or above = operated_left m l a level.Or above
right_left m l a level.And above = operated_left m l a level.And above
right_left m l a level.Equality above = operated_left m l a level.Equality above
right_left m l a level.Relation above =
    leaves_where (heads_sign (is_binary level.Relation)) (operated_left m l a level.Relation above)
    (leaves_where (heads kind.Is) (leaves_turn tested_of (leaves_seq (leaves_token (is kind.Is)) (leaves_seq (leaves_maybe (leaves_token (is kind.Bang))) (a.tested m))))
    (leaves_turn cast_of (leaves_seq (leaves_token (is kind.As)) (a.tested m))))
right_left m l a level.BitOr above = operated_left m l a level.BitOr above
right_left m l a level.BitXor above = operated_left m l a level.BitXor above
right_left m l a level.BitAnd above = operated_left m l a level.BitAnd above
right_left m l a level.Shift above = operated_left m l a level.Shift above
right_left m l a level.Sum above = operated_left m l a level.Sum above
right_left m l a level.Product above = operated_left m l a level.Product above

operand_left : (n : ℕ) (m : Setting) (l : Lower) → LeavesBelow l → (above : List Level) → Leaves (take_operand n m l above)
unfolding take_operand
operand_left n m l a above = leaves_levels (times_behind m) (is_open n) side_with (right_left m l a) (unary_left n m l a) above

-- Expressions.

assigned_left : (m : Setting) (l : Lower) → LeavesBelow l → Leaves (take_assignment ▸ l.expression m)
assigned_left m l a = leaves_seq assignment_left (a.expression m)

assignment_expression_left : (n : ℕ) (m : Setting) (l : Lower) → LeavesBelow l → Leaves (take_assignment_expression n m l)
unfolding take_assignment_expression
assignment_expression_left n m l a = leaves_once (is_open n) assign_of (unary_left n m l a) (assigned_left m l a)

throw_left : (m : Setting) (l : Lower) → LeavesBelow l → Leaves (take_throw m l)
unfolding take_throw
throw_left m l a = leaves_make throw_of (leaves_seq (leaves_token (is kind.Throw)) (a.expression m))

section_head_left : (expression : Descent Token Tree) → Leaves (take_section_head expression)
unfolding take_section_head
section_head_left expression =
    leaves_where heads_name (leaves_turn cascaded_name_of (leaves_token is_name)) (leaves_make cascaded_index_of (leaves_inside (is kind.OpenBracket) width past expression))

section_left : (n : ℕ) (m : Setting) (l : Lower) → LeavesBelow l → (expression : Descent Token Tree) → Leaves (take_section n m l expression)
unfolding take_section
section_left n m l a expression =
    leaves_chain one_time (is_open n) assign_of (leaves_chain every_time (is_open n) select_with (section_head_left expression) (selector_left m l a))
    (leaves_seq assignment_left (a.operand m table))

cascade_section_left : (m : Setting) (l : Lower) → LeavesBelow l → Leaves (take_cascade_section m l)
unfolding take_cascade_section
cascade_section_left m l a =
    leaves_where (heads kind.PeriodPeriod) (leaves_turn (section_of false) (leaves_seq (leaves_token (is kind.PeriodPeriod)) (a.section m)))
    (leaves_turn (section_of true) (leaves_seq (leaves_token (is kind.QuestionPeriodPeriod)) (a.section m)))

cascade_left : (n : ℕ) (m : Setting) (l : Lower) → LeavesBelow l → Leaves (take_cascade n m l)
unfolding take_cascade
cascade_left n m l a = leaves_chain every_time (is_open n) cascade_of (operand_left n m l a table) (cascade_section_left m l a)

expression_left : (n : ℕ) (m : Setting) (l : Lower) → LeavesBelow l → Leaves (take_expression n m l)
unfolding take_expression
expression_left n m l a = leaves_or (assignment_expression_left n m l a) (leaves_where (heads kind.Throw) (throw_left m l a) (cascade_left n m l a))

block_left : Leaves take_block
unfolding take_block
block_left = leaves_make block_of (leaves_inside (is kind.OpenBrace) width past take_unread)

-- Whatever room there is.

pub leaves_below : (n : ℕ) → LeavesBelow (lower n)
unfolding lower
leaves_below zero = record {
  written = leaves_none;
  tested = λ m. leaves_none;
  constructed = leaves_none;
  named = leaves_none;
  expression = λ m. leaves_none;
  operand = λ m above. leaves_none;
  unary = λ m. leaves_none;
  section = λ m. section_head_left (λ ts. None);
  simple = leaves_none;
  block = leaves_none;
}
leaves_below (suc n) =
    let a = leaves_below n in
    record {
      written = type_left n (lower n) a (heads kind.Question) anything;
      tested = λ m. type_left n (lower n) a (heads_nullable m) anything;
      constructed = plain_type_left (lower n) a (heads kind.Question);
      named = type_left n (lower n) a (heads kind.Question) heads_field;
      expression = λ m. expression_left n m (lower n) a;
      operand = λ m above. operand_left n m (lower n) a above;
      unary = λ m. unary_left n m (lower n) a;
      section = λ m. section_left n m (lower n) a (take_expression n setting.Plain (lower n));
      simple = simple_left;
      block = block_left;
    }

pub unary_leaves : (n : ℕ) (m : Setting) → Leaves (take_unary n m (lower n))
unary_leaves n m = unary_left n m (lower n) (leaves_below n)

pub right_leaves : (n : ℕ) (m : Setting) (which : Level) (above : List Level) → Leaves (take_right m (lower n) which above)
right_leaves n m which above = right_left m (lower n) (leaves_below n) which above

pub operand_leaves : (n : ℕ) (m : Setting) (above : List Level) → Leaves (take_operand n m (lower n) above)
operand_leaves n m above = operand_left n m (lower n) (leaves_below n) above

pub cascade_section_leaves : (n : ℕ) (m : Setting) → Leaves (take_cascade_section m (lower n))
cascade_section_leaves n m = cascade_section_left m (lower n) (leaves_below n)

pub assigned_leaves : (n : ℕ) (m : Setting) → Leaves (take_assignment ▸ (lower n).expression m)
assigned_leaves n m = assigned_left m (lower n) (leaves_below n)

pub throw_leaves : (n : ℕ) (m : Setting) → Leaves (take_throw m (lower n))
throw_leaves n m = throw_left m (lower n) (leaves_below n)

pub expression_leaves : (n : ℕ) (m : Setting) → Leaves (take_expression n m (lower n))
expression_leaves n m = expression_left n m (lower n) (leaves_below n)
