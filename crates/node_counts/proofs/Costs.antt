-- What is read of types and expressions is paid for by its tokens.
use Rattle.std.proofs.Common.{ℕ, suc, ◌+◌, ◌≤◌, ◌++◌, Bool, true, false, List, [], ◌∷◌, Option, Some, None, option_map, map, drop, arith}
use Rattle.readings.specs.Readings.{Test, next}
use Rattle.readings.specs.Descent.{Descent, take_token, take_given, take_turn, take_where}
use Rattle.dart_tokens.specs.declared.token.Kind.TheVariants as kind
use Rattle.dart_tree.specs.Tree.{Tree, trees_of, part_of}
use Rattle.dart_tree.specs.Heights.{fits}
use Rattle.dart_tree.specs.Numbers.{nodes_in, nodes_in_all}
use Rattle.dart_tree.specs.declared.places.Place.{Place}
use Rattle.dart_tree.specs.declared.places.Span.{Span}
use Rattle.dart_tree.specs.declared.names.ParameterKind.{ParameterKind}
use Rattle.dart_tree.specs.declared.names.ParameterKind.TheVariants as parameter_kind
use Rattle.dart_tree.specs.declared.operators.UnaryOperatorKind.TheVariants as unary
use Rattle.dart_tree.specs.declared.operators.PostfixOperatorKind.TheVariants as postfix
use Rattle.dart_tokens.specs.declared.grouped_token.GroupedToken.{GroupedToken as Token}
use Rattle.grammar.specs.declared.level.Level.{Level}
use Rattle.grammar.specs.declared.level.Level.TheVariants as level
use Rattle.grammar.specs.declared.level.Sign.{Sign}
use Rattle.grammar.specs.declared.level.Setting.{Setting}
use Rattle.grammar.specs.declared.level.Setting.TheVariants as setting
use Rattle.grammar.specs.Tokens.{is, is_either, is_name, is_type_name, heads, heads_name}
use Rattle.grammar.specs.Types.{separated, inner, behind_token, listed_or_none, type_arguments_of, type_parameter_of, type_parameters_of, void_of, heads_qualified, qualified_of, unqualified_of, named_type_of, annotation_of, heads_required, heads_field, parameter_of, parameter_list_of, parameter_type_of, Tail, tail, tail_of, function_type_with, first_tail_of, next_tail_of, every_time}
use Rattle.grammar.specs.Operators.{table, heads_sign, is_binary, binary_of, assignment_of, take_sign, sign_at, read_sign, unary_at, postfix_at}
use Rattle.grammar.specs.Expressions.{simple_string_of, string_text_of, simple_interpolation_of, interpolated_of, strings_of, heads_label, positional_of, named_of, arguments_of, integer_of, boolean_of, null_of, this_of, super_of, identifier_of, heads_generic, generic_of, parenthesis_of, arrow_of, closure_of, heads_closure, new_of, entry_of, Contents, listed, entries, listed_of, entries_of, collection_with, collection_of, Selector, member, element, check, called, member_of, element_of, check_of, plain_call_of, generic_call_of, heads_call, select_with, one_time, postfix_of, unary_of, Side, operated, tested, cast, choices, operated_of, tested_of, cast_of, choices_of, times_behind, side_with, assign_of, throw_of, cascaded_name_of, cascaded_index_of, cascade_of, section_of, is_open}
use Rattle.grammar.specs.Descents.{Lower, begins_string, begins_prefix, take_separated, take_type_arguments, take_type_parameter, take_type_parameters, take_type_name, take_question, take_plain_type, take_annotation, take_parameter, take_parameters, take_optional_parameters, take_parameter_list, take_parameter_type, take_tail, take_tail_before, take_type, take_prefix, take_postfix, take_interpolation, take_string_part, take_string, take_strings, take_argument, take_arguments, take_simple, take_name, take_parenthesis, take_closure, take_new, take_entry, take_collection, take_primary, take_selector, take_selected, take_incremented, take_unary, take_operated, take_right, take_operand, take_assignment_expression, take_throw, take_section_head, take_section, take_cascade_section, take_cascade, take_expression}
use Rattle.node_counts.proofs.Weights.{weight, weight_of_all, weight_of_part}
use Rattle.node_counts.proofs.Pays.{free, both, if_there, total, Pays, pays_token, pays_given, pays_none, pays_seq, pays_make, pays_turn, pays_or, pays_where, pays_maybe, pays_many, pays_chain, pays_once, pays_levels, pays_inside, pays_before, pays_elements, sound_drop, Sound, Paid, worth, worth_drop, sound_behind}
use Rattle.std.specs.Option.{option_map_or}
use Rattle.readings.specs.Values.{Maybe}

-- what lies in the room below is paid for, with four nodes to spare for each tree
pub record Affordable (c : Place → ℕ) (l : Lower) : Type 0 where
  pub written : Pays c (weight c) 4 l.written
  pub tested : (m : Setting) → Pays c (weight c) 4 (l.tested m)
  pub constructed : Pays c (weight c) 4 l.constructed
  pub named : Pays c (weight c) 4 l.named
  pub expression : (m : Setting) → Pays c (weight c) 4 (l.expression m)
  pub operand : (m : Setting) (above : List Level) → Pays c (weight c) 4 (l.operand m above)
  pub unary : (m : Setting) → Pays c (weight c) 4 (l.unary m)
  pub section : (m : Setting) → Pays c (weight c) 4 (l.section m)
  pub simple : Pays c (weight c) 4 l.simple
  pub block : Pays c (weight c) 4 l.block
  pub statement : Pays c (weight c) 4 l.statement

-- Weights of lists and parts.

pub all_weight : (c : Place → ℕ) (ts : List Tree) → weight_of_all c (trees_of ts) ≤ total (weight c) ts
all_weight c [] = omega arith
all_weight c (t ∷ ts) = omega (arith, all_weight c ts)

pub all_nodes : (ts : List Tree) → nodes_in_all (trees_of ts) ≤ total nodes_in ts
all_nodes [] = omega arith
all_nodes (t ∷ ts) = omega (arith, all_nodes ts)

pub appended_weight : (c : Place → ℕ) (ts us : List Tree) → weight_of_all c (trees_of (ts ++ us)) ≤ total (weight c) ts + total (weight c) us
appended_weight c [] us = omega (arith, all_weight c us)
appended_weight c (t ∷ ts) us = omega (arith, appended_weight c ts us)

pub part_weight : (c : Place → ℕ) (o : Option Tree) → weight_of_part c (part_of o) ≤ if_there (weight c) o
part_weight c None = omega arith
part_weight c (Some t) = omega arith

pub behind_weight : (c : Place → ℕ) (o : Option (Token × Tree)) → weight_of_part c (part_of (behind_token o)) ≤ if_there (both free (weight c)) o
behind_weight c None = omega arith
behind_weight c (Some y) = omega arith

pub listed_total : (c : Place → ℕ) (o : Option (List Tree)) → total (weight c) (listed_or_none o) ≤ if_there (total (weight c)) o
listed_total c None = omega arith
listed_total c (Some ts) = omega arith

pub listed_weight : (c : Place → ℕ) (o : Option (List Tree)) → weight_of_all c (trees_of (listed_or_none o)) ≤ if_there (total (weight c)) o
listed_weight c None = omega arith
listed_weight c (Some ts) = all_weight c ts

second_total : {A B : Type 0} (u : B → ℕ) (ys : List (A × B)) → total u (map (λ y. y.1) ys) ≤ total (both free u) ys
second_total u [] = omega arith
second_total u (y ∷ ys) = omega (arith, second_total u ys)

pub pays_separated : {A : Type 0} {c : Place → ℕ} {u : A → ℕ} {j : ℕ} {g : Descent Token A} → Pays c u j g → Pays c (total u) j (take_separated g)
pays_separated {A = A} {c = c} {u = u} {j = j} a =
    pays_turn (total u) j separated (pays_seq a (pays_many (pays_seq (pays_token c (is kind.Comma)) a))) (λ x. omega (arith, second_total u x.1))

-- a token that may be there
pub pays_mark : (c : Place → ℕ) (t : Test Token) (f : Token → Bool) → Pays c free 0 (take_where t (take_turn (λ t. Some t) (take_token f)) (take_given None))
pays_mark c t f = pays_where t (pays_turn free 0 (λ t. Some t) (pays_token c f) (λ x. omega arith)) (pays_given c free 0 None (omega arith))

-- Types.

pub type_arguments_pay : (c : Place → ℕ) (l : Lower) → Affordable c l → Pays c (weight c) 4 (take_type_arguments l)
unfolding take_type_arguments
type_arguments_pay c l a =
    pays_make (weight c) 4 type_arguments_of (pays_seq (pays_token c (is kind.Less)) (pays_seq (pays_separated a.written) (pays_token c (is kind.Greater)))) (λ read x. omega (arith, all_weight c x.1.0))

type_parameter_pays : (c : Place → ℕ) (l : Lower) → Affordable c l → Pays c (weight c) 4 (take_type_parameter l)
unfolding take_type_parameter
type_parameter_pays c l a =
    pays_make (weight c) 4 type_parameter_of (pays_seq (pays_token c is_type_name) (pays_maybe (pays_seq (pays_token c (is kind.Extends)) a.written))) (λ read x. omega (arith, behind_weight c x.1))

pub type_parameters_pay : (c : Place → ℕ) (l : Lower) → Affordable c l → Pays c (total (weight c)) 4 (take_type_parameters l)
unfolding take_type_parameters
type_parameters_pay c l a =
    pays_turn (total (weight c)) 4 type_parameters_of (pays_seq (pays_token c (is kind.Less)) (pays_seq (pays_separated (type_parameter_pays c l a)) (pays_token c (is kind.Greater)))) (λ x. omega arith)

type_name_pays : (c : Place → ℕ) → Pays c free 16 take_type_name
unfolding take_type_name
type_name_pays c =
    pays_where heads_qualified (pays_turn free 16 qualified_of (pays_seq (pays_token c is_name) (pays_seq (pays_token c (is kind.Period)) (pays_token c is_type_name))) (λ x. omega arith))
    (pays_turn free 16 unqualified_of (pays_token c is_type_name) (λ x. omega arith))

question_pays : (c : Place → ℕ) (question : Test Token) → Pays c free 0 (take_question question)
unfolding take_question
question_pays c question = pays_mark c question (is kind.Question)

pub plain_type_pays : (c : Place → ℕ) (l : Lower) → Affordable c l → (question : Test Token) → Pays c (weight c) 4 (take_plain_type l question)
unfolding take_plain_type
plain_type_pays c l a question =
    pays_where (heads kind.Void) (pays_turn (weight c) 4 void_of (pays_token c (is kind.Void)) (λ x. omega arith))
    (pays_make (weight c) 4 named_type_of (pays_seq (type_name_pays c) (pays_seq (pays_maybe (type_arguments_pay c l a)) (question_pays c question))) (λ read x. omega (arith, part_weight c x.1.0)))

pub annotation_pays : (c : Place → ℕ) → Pays c nodes_in 4 take_annotation
unfolding take_annotation
annotation_pays c = pays_make nodes_in 4 annotation_of (pays_seq (pays_token c (is kind.At)) (pays_token c is_name)) (λ read x. omega arith)

parameter_pays : (c : Place → ℕ) (l : Lower) → Affordable c l → (which : ParameterKind) → Pays c (weight c) 4 (take_parameter l which)
unfolding take_parameter
parameter_pays c l a which =
    pays_make (weight c) 4 (parameter_of which)
    (pays_seq (pays_many (annotation_pays c))
    (pays_seq (pays_mark c heads_required (is kind.Required))
    (pays_seq (pays_maybe (pays_token c (is_either kind.Final kind.Var)))
    (pays_seq (pays_maybe (pays_before heads_field a.named))
    (pays_seq (pays_maybe (pays_seq (pays_token c (is kind.This)) (pays_token c (is kind.Period))))
    (pays_seq (pays_token c is_name) (pays_maybe (pays_seq (pays_token c (is kind.Equals)) (a.expression setting.Default)))))))))
    (λ read x. omega (arith, all_nodes x.0, part_weight c x.1.1.1.0, behind_weight c x.1.1.1.1.1.1))

parameters_pay : (c : Place → ℕ) (l : Lower) → Affordable c l → (which : ParameterKind) → Pays c (total (weight c)) 0 (take_parameters l which)
parameters_pay c l a which = pays_elements (parameter_pays c l a which) (pays_token c (is kind.Comma))

optional_parameters_pay : (c : Place → ℕ) (l : Lower) → Affordable c l → Pays c (total (weight c)) 4 (take_optional_parameters l)
unfolding take_optional_parameters
optional_parameters_pay c l a =
    pays_where (heads kind.OpenBracket) (pays_turn (total (weight c)) 4 inner (pays_inside (is kind.OpenBracket) (parameters_pay c l a parameter_kind.OptionalPositional)) (λ x. omega arith))
    (pays_turn (total (weight c)) 4 inner (pays_inside (is kind.OpenBrace) (parameters_pay c l a parameter_kind.Named)) (λ x. omega arith))

pub parameter_list_pays : (c : Place → ℕ) (l : Lower) → Affordable c l → Pays c (weight c) 4 (take_parameter_list l)
unfolding take_parameter_list
parameter_list_pays c l a =
    pays_make (weight c) 4 parameter_list_of (pays_inside (is kind.OpenParenthesis) (pays_seq (parameters_pay c l a parameter_kind.Positional) (pays_maybe (optional_parameters_pay c l a))))
    (λ read x. omega (arith, appended_weight c x.1.0 (listed_or_none x.1.1), listed_total c x.1.1))

parameter_type_pays : (c : Place → ℕ) (l : Lower) → Affordable c l → Pays c (weight c) 0 (take_parameter_type l)
unfolding take_parameter_type
parameter_type_pays c l a = pays_make (weight c) 0 parameter_type_of (pays_seq a.written (pays_maybe (pays_token c is_name))) (λ read x. omega arith)

abbrev pub tail_weight : (Place → ℕ) → Tail → ℕ
tail_weight c (tail type_parameters parameters optional nullable) = total (weight c) type_parameters + (total (weight c) parameters + total (weight c) optional)

tail_pays : (c : Place → ℕ) (l : Lower) → Affordable c l → (question ends : Test Token) → Pays c (tail_weight c) 8 (take_tail_before l question ends)
unfolding take_tail_before take_tail
tail_pays c l a question ends =
    pays_before ends
    (pays_turn (tail_weight c) 8 tail_of
    (pays_seq (pays_token c (is kind.Function))
    (pays_seq (pays_maybe (type_parameters_pay c l a))
    (pays_seq (pays_inside (is kind.OpenParenthesis) (pays_seq (pays_elements (parameter_type_pays c l a) (pays_token c (is kind.Comma))) (pays_maybe (optional_parameters_pay c l a)))) (question_pays c question))))
    (λ x. omega (arith, listed_total c x.1.0, listed_total c x.1.1.0.1.1)))

function_type_weight : (c : Place → ℕ) (read : List Token) (result : Option Tree) (t : Tail) → weight c (function_type_with read result t) ≤ 1 + (if_there (weight c) result + tail_weight c t)
function_type_weight c read result (tail type_parameters parameters optional nullable) = omega (arith, part_weight c result, all_weight c type_parameters, all_weight c parameters, all_weight c optional)

pub type_pays : (c : Place → ℕ) (n : ℕ) (l : Lower) → Affordable c l → (question ends : Test Token) → Pays c (weight c) 4 (take_type n l question ends)
unfolding take_type
type_pays c n l a question ends =
    pays_chain every_time (fits n) next_tail_of
    (pays_or (pays_make (weight c) 4 first_tail_of (tail_pays c l a question ends) (λ read x. omega (arith, function_type_weight c read None x))) (plain_type_pays c l a question)) (tail_pays c l a question ends)
    (λ read left side. omega (arith, function_type_weight c read (Some left) side))

-- Operators.

sign_read : {A : Type 0} (c : Place → ℕ) (of : Span → Sign → Option A) (t : Token) (ts : List Token) → Sound c (t ∷ ts) → (s : Sign × ℕ) → Maybe (Paid {A = A} c free 16 (16 + worth ts)) (read_sign of (t ∷ ts) s)
sign_read {A = A} c of t ts sound s = read_at (of _ s.0) where
  read_at : (o : Option A) → Maybe (Paid {A = A} c free 16 (16 + worth ts)) (option_map (λ a. (a, drop (suc s.1) (t ∷ ts))) o)
  read_at None = tt
  read_at (Some a) = (sound_drop c s.1 ts (sound_behind c t ts sound), omega (arith, worth_drop s.1 ts))

sign_found : {A : Type 0} (c : Place → ℕ) (of : Span → Sign → Option A) (t : Token) (ts : List Token) → Sound c (t ∷ ts) → (o : Option (Sign × ℕ)) → Maybe (Paid {A = A} c free 16 (16 + worth ts)) (option_map_or (read_sign of (t ∷ ts)) o None)
sign_found c of t ts sound None = tt
sign_found c of t ts sound (Some s) = sign_read c of t ts sound s

pub sign_pays : {A : Type 0} (c : Place → ℕ) (of : Span → Sign → Option A) → Pays c free 16 (take_sign of)
sign_pays {A = A} c of = record { each = pay } where
  pay : (ts : List Token) → Sound c ts → Maybe (Paid {A = A} c free 16 (worth ts)) (take_sign of ts)
  pay [] s = tt
  pay (t ∷ ts) s = sign_found c of t ts s (sign_at (t ∷ ts))

prefix_pays : (c : Place → ℕ) → Pays c free 16 take_prefix
unfolding take_prefix
prefix_pays c =
    pays_where (heads kind.Minus) (pays_turn free 16 (unary_at unary.Negate) (pays_token c (is kind.Minus)) (λ x. omega arith))
    (pays_where (heads kind.Bang) (pays_turn free 16 (unary_at unary.Not) (pays_token c (is kind.Bang)) (λ x. omega arith))
    (pays_where (heads kind.Tilde) (pays_turn free 16 (unary_at unary.Complement) (pays_token c (is kind.Tilde)) (λ x. omega arith))
    (pays_where (heads kind.PlusPlus) (pays_turn free 16 (unary_at unary.Increment) (pays_token c (is kind.PlusPlus)) (λ x. omega arith))
    (pays_turn free 16 (unary_at unary.Decrement) (pays_token c (is kind.MinusMinus)) (λ x. omega arith)))))

postfix_pays : (c : Place → ℕ) → Pays c free 16 take_postfix
unfolding take_postfix
postfix_pays c =
    pays_where (heads kind.PlusPlus) (pays_turn free 16 (postfix_at postfix.Increment) (pays_token c (is kind.PlusPlus)) (λ x. omega arith))
    (pays_turn free 16 (postfix_at postfix.Decrement) (pays_token c (is kind.MinusMinus)) (λ x. omega arith))

-- Expressions.

string_part_pays : (c : Place → ℕ) (l : Lower) → Affordable c l → Pays c (weight c) 4 (take_string_part l)
unfolding take_string_part take_interpolation
string_part_pays c l a =
    pays_where (heads kind.StringPart) (pays_turn (weight c) 4 string_text_of (pays_token c (is kind.StringPart)) (λ x. omega arith))
    (pays_where (heads kind.InterpolationMark) (pays_make (weight c) 4 simple_interpolation_of (pays_seq (pays_token c (is kind.InterpolationMark)) a.simple) (λ read x. omega arith))
    (pays_make (weight c) 4 simple_interpolation_of (pays_inside (is kind.InterpolationOpening) (a.expression setting.Plain)) (λ read x. omega arith)))

pub string_pays : (c : Place → ℕ) (l : Lower) → Affordable c l → Pays c (weight c) 8 (take_string l)
unfolding take_string
string_pays c l a =
    pays_where (next (is_either kind.StringLiteral kind.UnterminatedString)) (pays_turn (weight c) 8 simple_string_of (pays_token c (is_either kind.StringLiteral kind.UnterminatedString)) (λ x. omega arith))
    (pays_make (weight c) 8 interpolated_of (pays_seq (pays_token c (is kind.StringOpening)) (pays_seq (pays_many (string_part_pays c l a)) (pays_token c (is kind.StringClosing))))
    (λ read x. omega (arith, appended_weight c x.1.0 (string_text_of x.1.1 ∷ []))))

strings_pay : (c : Place → ℕ) (l : Lower) → Affordable c l → Pays c (weight c) 4 (take_strings l)
unfolding take_strings
strings_pay c l a = pays_make (weight c) 4 strings_of (pays_seq (string_pays c l a) (pays_many (string_pays c l a))) (λ read x. omega (arith, all_weight c x.1))

argument_pays : (c : Place → ℕ) (l : Lower) → Affordable c l → Pays c (weight c) 0 (take_argument l)
unfolding take_argument
argument_pays c l a =
    pays_where heads_label (pays_make (weight c) 0 named_of (pays_seq (pays_token c is_name) (pays_seq (pays_token c (is kind.Colon)) (a.expression setting.Listed))) (λ read x. omega arith))
    (pays_make (weight c) 0 positional_of (a.expression setting.Listed) (λ read x. omega arith))

pub arguments_pay : (c : Place → ℕ) (l : Lower) → Affordable c l → Pays c (weight c) 8 (take_arguments l)
unfolding take_arguments
arguments_pay c l a = pays_make (weight c) 8 arguments_of (pays_inside (is kind.OpenParenthesis) (pays_elements (argument_pays c l a) (pays_token c (is kind.Comma)))) (λ read x. omega (arith, all_weight c x.1))

pub simple_pays : (c : Place → ℕ) → Pays c (weight c) 4 take_simple
unfolding take_simple
simple_pays c =
    pays_where heads_name (pays_turn (weight c) 4 identifier_of (pays_token c is_name) (λ x. omega arith)) (pays_turn (weight c) 4 this_of (pays_token c (is kind.This)) (λ x. omega arith))

name_pays : (c : Place → ℕ) (l : Lower) → Affordable c l → Pays c (weight c) 4 (take_name l)
unfolding take_name
name_pays c l a =
    pays_where heads_generic (pays_make (weight c) 4 generic_of (pays_seq (pays_token c is_name) (type_arguments_pay c l a)) (λ read x. omega arith))
    (pays_turn (weight c) 4 identifier_of (pays_token c is_name) (λ x. omega arith))

parenthesis_pays : (c : Place → ℕ) (l : Lower) → Affordable c l → Pays c (weight c) 4 (take_parenthesis l)
unfolding take_parenthesis
parenthesis_pays c l a = pays_make (weight c) 4 parenthesis_of (pays_inside (is kind.OpenParenthesis) (a.expression setting.Plain)) (λ read x. omega arith)

closure_pays : (c : Place → ℕ) (m : Setting) (l : Lower) → Affordable c l → Pays c (weight c) 4 (take_closure m l)
unfolding take_closure
closure_pays c m l a =
    pays_make (weight c) 4 closure_of
    (pays_seq (parameter_list_pays c l a) (pays_where (heads kind.Arrow) (pays_make (weight c) 4 arrow_of (pays_seq (pays_token c (is kind.Arrow)) (a.expression m)) (λ read x. omega arith)) a.block))
    (λ read x. omega arith)

new_pays : (c : Place → ℕ) (l : Lower) → Affordable c l → Pays c (weight c) 4 (take_new l)
unfolding take_new
new_pays c l a =
    pays_make (weight c) 4 new_of
    (pays_seq (pays_token c (is kind.New)) (pays_seq a.constructed (pays_seq (pays_maybe (pays_seq (pays_token c (is kind.Period)) (pays_token c is_name))) (arguments_pay c l a)))) (λ read x. omega arith)

entry_pays : (c : Place → ℕ) (l : Lower) → Affordable c l → Pays c (weight c) 0 (take_entry l)
unfolding take_entry
entry_pays c l a =
    pays_make (weight c) 0 entry_of (pays_seq (a.expression setting.Listed) (pays_maybe (pays_seq (pays_token c (is kind.Colon)) (a.expression setting.Listed)))) (λ read x. omega (arith, behind_weight c x.1))

abbrev pub contents_weight : (Place → ℕ) → Contents → ℕ
contents_weight c (listed all) = total (weight c) all
contents_weight c (entries all) = total (weight c) all

collection_weight : (c : Place → ℕ) (read : List Token) (arguments : Option Tree) (x : Contents) → weight c (collection_with read arguments x) ≤ 1 + (if_there (weight c) arguments + contents_weight c x)
collection_weight c read arguments (listed all) = omega (arith, part_weight c arguments, all_weight c all)
collection_weight c read arguments (entries all) = omega (arith, part_weight c arguments, all_weight c all)

collection_pays : (c : Place → ℕ) (l : Lower) → Affordable c l → Pays c (weight c) 4 (take_collection l)
unfolding take_collection
collection_pays c l a =
    pays_make (weight c) 4 collection_of
    (pays_seq (pays_maybe (type_arguments_pay c l a))
    (pays_where (heads kind.OpenBracket)
    (pays_turn (contents_weight c) 16 listed_of (pays_inside (is kind.OpenBracket) (pays_elements (a.expression setting.Listed) (pays_token c (is kind.Comma)))) (λ x. omega arith))
    (pays_turn (contents_weight c) 16 entries_of (pays_inside (is kind.OpenBrace) (pays_elements (entry_pays c l a) (pays_token c (is kind.Comma)))) (λ x. omega arith))))
    (λ read x. omega (arith, collection_weight c read x.0 x.1))

primary_pays : (c : Place → ℕ) (m : Setting) (l : Lower) → Affordable c l → Pays c (weight c) 4 (take_primary m l)
unfolding take_primary
primary_pays c m l a =
    pays_where (heads kind.Integer) (pays_turn (weight c) 4 integer_of (pays_token c (is kind.Integer)) (λ x. omega arith))
    (pays_where (next begins_string) (strings_pay c l a)
    (pays_where (heads kind.True) (pays_turn (weight c) 4 (boolean_of true) (pays_token c (is kind.True)) (λ x. omega arith))
    (pays_where (heads kind.False) (pays_turn (weight c) 4 (boolean_of false) (pays_token c (is kind.False)) (λ x. omega arith))
    (pays_where (heads kind.Null) (pays_turn (weight c) 4 null_of (pays_token c (is kind.Null)) (λ x. omega arith))
    (pays_where (heads kind.This) (pays_turn (weight c) 4 this_of (pays_token c (is kind.This)) (λ x. omega arith))
    (pays_where (heads kind.Super) (pays_turn (weight c) 4 super_of (pays_token c (is kind.Super)) (λ x. omega arith))
    (pays_where heads_name (name_pays c l a)
    (pays_where (heads kind.OpenParenthesis) (pays_where (heads_closure m) (closure_pays c m l a) (parenthesis_pays c l a)) (pays_where (heads kind.New) (new_pays c l a) (collection_pays c l a))))))))))

abbrev pub selector_weight : (Place → ℕ) → Selector → ℕ
selector_weight c (member null_aware name) = 0
selector_weight c (element null_aware bracket index) = weight c index
selector_weight c check = 0
selector_weight c (called type_arguments arguments) = if_there (weight c) type_arguments + weight c arguments

selector_pays : (c : Place → ℕ) (m : Setting) (l : Lower) → Affordable c l → Pays c (selector_weight c) 4 (take_selector m l)
unfolding take_selector
selector_pays c m l a =
    pays_where (heads kind.Period) (pays_turn (selector_weight c) 4 (member_of false) (pays_seq (pays_token c (is kind.Period)) (pays_token c is_name)) (λ x. omega arith))
    (pays_where (heads kind.QuestionPeriod) (pays_turn (selector_weight c) 4 (member_of true) (pays_seq (pays_token c (is kind.QuestionPeriod)) (pays_token c is_name)) (λ x. omega arith))
    (pays_where (heads kind.OpenBracket) (pays_turn (selector_weight c) 4 (element_of false) (pays_inside (is kind.OpenBracket) (a.expression setting.Plain)) (λ x. omega arith))
    (pays_where (heads kind.QuestionBracket) (pays_turn (selector_weight c) 4 (element_of true) (pays_inside (is kind.QuestionBracket) (a.expression setting.Plain)) (λ x. omega arith))
    (pays_where (heads kind.Bang) (pays_turn (selector_weight c) 4 check_of (pays_token c (is kind.Bang)) (λ x. omega arith))
    (pays_where (heads kind.OpenParenthesis) (pays_turn (selector_weight c) 4 plain_call_of (arguments_pay c l a) (λ x. omega arith))
    (pays_where (heads_call m) (pays_turn (selector_weight c) 4 generic_call_of (pays_seq (type_arguments_pay c l a) (arguments_pay c l a)) (λ x. omega arith)) (pays_none c (selector_weight c) 4)))))))

selected_weight : (c : Place → ℕ) (read : List Token) (left : Tree) (side : Selector) → weight c (select_with read left side) ≤ weight c left + (selector_weight c side + 4)
selected_weight c read left (member null_aware name) = omega arith
selected_weight c read left (element null_aware bracket index) = omega arith
selected_weight c read left check = omega arith
selected_weight c read left (called type_arguments arguments) = omega (arith, part_weight c type_arguments)

pub unary_pays : (c : Place → ℕ) (n : ℕ) (m : Setting) (l : Lower) → Affordable c l → Pays c (weight c) 4 (take_unary n m l)
unfolding take_unary take_incremented take_selected
unary_pays c n m l a =
    pays_where (next begins_prefix) (pays_make (weight c) 4 unary_of (pays_seq (prefix_pays c) (a.unary m)) (λ read x. omega arith))
    (pays_chain one_time (is_open n) postfix_of (pays_chain every_time (is_open n) select_with (primary_pays c m l a) (selector_pays c m l a) (λ read left side. selected_weight c read left side)) (postfix_pays c)
    (λ read left side. omega arith))

abbrev pub side_weight : (Place → ℕ) → Side → ℕ
side_weight c (operated operator right) = weight c right
side_weight c (tested negated written) = weight c written
side_weight c (cast written) = weight c written
side_weight c (choices then_value else_value) = weight c then_value + weight c else_value

operated_pays : (c : Place → ℕ) (m : Setting) (l : Lower) → Affordable c l → (which : Level) (above : List Level) → Pays c (side_weight c) 4 (take_operated m l which above)
unfolding take_operated
operated_pays c m l a which above = pays_turn (side_weight c) 4 operated_of (pays_seq (sign_pays c (binary_of which)) (a.operand m above)) (λ x. omega arith)

right_pays : (c : Place → ℕ) (m : Setting) (l : Lower) → Affordable c l → (which : Level) (above : List Level) → Pays c (side_weight c) 4 (take_right m l which above)
unfolding take_right
right_pays c m l a level.Conditional above =
    pays_turn (side_weight c) 4 choices_of (pays_seq (pays_token c (is kind.Question)) (pays_seq (a.expression m) (pays_seq (pays_token c (is kind.Colon)) (a.expression m)))) (λ x. omega arith)
right_pays c m l a level.IfNull above = operated_pays c m l a level.IfNull above
right_pays c m l a level.Or above = operated_pays c m l a level.Or above
right_pays c m l a level.And above = operated_pays c m l a level.And above
right_pays c m l a level.Equality above = operated_pays c m l a level.Equality above
right_pays c m l a level.Relation above =
    pays_where (heads_sign (is_binary level.Relation)) (operated_pays c m l a level.Relation above)
    (pays_where (heads kind.Is) (pays_turn (side_weight c) 4 tested_of (pays_seq (pays_token c (is kind.Is)) (pays_seq (pays_maybe (pays_token c (is kind.Bang))) (a.tested m))) (λ x. omega arith))
    (pays_turn (side_weight c) 4 cast_of (pays_seq (pays_token c (is kind.As)) (a.tested m)) (λ x. omega arith)))
right_pays c m l a level.BitOr above = operated_pays c m l a level.BitOr above
right_pays c m l a level.BitXor above = operated_pays c m l a level.BitXor above
right_pays c m l a level.BitAnd above = operated_pays c m l a level.BitAnd above
right_pays c m l a level.Shift above = operated_pays c m l a level.Shift above
right_pays c m l a level.Sum above = operated_pays c m l a level.Sum above
right_pays c m l a level.Product above = operated_pays c m l a level.Product above

sided_weight : (c : Place → ℕ) (read : List Token) (left : Tree) (side : Side) → weight c (side_with read left side) ≤ weight c left + (side_weight c side + 4)
sided_weight c read left (operated operator right) = omega arith
sided_weight c read left (tested negated written) = omega arith
sided_weight c read left (cast written) = omega arith
sided_weight c read left (choices then_value else_value) = omega arith

pub operand_pays : (c : Place → ℕ) (n : ℕ) (m : Setting) (l : Lower) → Affordable c l → (above : List Level) → Pays c (weight c) 4 (take_operand n m l above)
unfolding take_operand
operand_pays c n m l a above = pays_levels (times_behind m) (is_open n) side_with (right_pays c m l a) (λ read left side. sided_weight c read left side) (unary_pays c n m l a) above

pub section_head_pays : (c : Place → ℕ) (expression : Descent Token Tree) → Pays c (weight c) 4 expression → Pays c (weight c) 4 (take_section_head expression)
unfolding take_section_head
section_head_pays c expression e =
    pays_where heads_name (pays_turn (weight c) 4 cascaded_name_of (pays_token c is_name) (λ x. omega arith))
    (pays_make (weight c) 4 cascaded_index_of (pays_inside (is kind.OpenBracket) e) (λ read x. omega arith))

pub section_pays : (c : Place → ℕ) (n : ℕ) (m : Setting) (l : Lower) → Affordable c l → (expression : Descent Token Tree) → Pays c (weight c) 4 expression → Pays c (weight c) 4 (take_section n m l expression)
unfolding take_section
section_pays c n m l a expression e =
    pays_chain one_time (is_open n) assign_of (pays_chain every_time (is_open n) select_with (section_head_pays c expression e) (selector_pays c m l a) (λ read left side. selected_weight c read left side))
    (pays_seq (sign_pays c assignment_of) (a.operand m table)) (λ read left side. omega arith)

cascade_section_pays : (c : Place → ℕ) (m : Setting) (l : Lower) → Affordable c l → Pays c (both free (weight c)) 4 (take_cascade_section m l)
unfolding take_cascade_section
cascade_section_pays c m l a =
    pays_where (heads kind.PeriodPeriod) (pays_turn (both free (weight c)) 4 (section_of false) (pays_seq (pays_token c (is kind.PeriodPeriod)) (a.section m)) (λ x. omega arith))
    (pays_turn (both free (weight c)) 4 (section_of true) (pays_seq (pays_token c (is kind.QuestionPeriodPeriod)) (a.section m)) (λ x. omega arith))

pub expression_pays : (c : Place → ℕ) (n : ℕ) (m : Setting) (l : Lower) → Affordable c l → Pays c (weight c) 4 (take_expression n m l)
unfolding take_expression take_assignment_expression take_throw take_cascade
expression_pays c n m l a =
    pays_or (pays_once (is_open n) assign_of (unary_pays c n m l a) (pays_seq (sign_pays c assignment_of) (a.expression m)) (λ read left side. omega arith))
    (pays_where (heads kind.Throw) (pays_make (weight c) 4 throw_of (pays_seq (pays_token c (is kind.Throw)) (a.expression m)) (λ read x. omega arith))
    (pays_chain every_time (is_open n) cascade_of (operand_pays c n m l a table) (cascade_section_pays c m l a) (λ read left side. omega arith)))
