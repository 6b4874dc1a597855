-- Types and expressions stand in order on their tokens.
use Rattle.std.proofs.Common.{◌≡◌, ℕ, suc, ◌-◌, ◌++◌, Bool, true, false, List, [], ◌∷◌, Option, Some, None, option_map, map, drop, take, refl, ap, sym, ◌∙◌}
use Rattle.std.specs.Option.{option_map_or}
use Rattle.std.proofs.lemmas.List.{take-append-drop}
use Rattle.readings.specs.Readings.{Test, next}
use Rattle.readings.specs.Descent.{Descent, take_token, take_given, take_turn, take_maybe, take_many, take_where}
use Rattle.readings.specs.Values.{Maybe}
use Rattle.dart_tokens.specs.declared.token.Kind.TheVariants as kind
use Rattle.dart_tree.specs.Tree.{Tree, trees_of, part_of}
use Rattle.dart_tree.specs.Nodes.{list_of, list_of_part}
use Rattle.dart_tree.specs.Heights.{fits}
use Rattle.dart_tree.specs.declared.places.Span.{Span}
use Rattle.dart_tree.specs.declared.names.ParameterKind.{ParameterKind}
use Rattle.dart_tree.specs.declared.names.ParameterKind.TheVariants as parameter_kind
use Rattle.dart_tree.specs.declared.operators.UnaryOperatorKind.TheVariants as unary
use Rattle.dart_tree.specs.declared.operators.PostfixOperatorKind.TheVariants as postfix
use Rattle.unread_lists.specs.WithLists.{all_with_lists, part_with_lists}
use Rattle.dart_tokens.specs.declared.grouped_token.GroupedToken.{GroupedToken as Token}
use Rattle.grammar.specs.declared.level.Level.{Level}
use Rattle.grammar.specs.declared.level.Level.TheVariants as level
use Rattle.grammar.specs.declared.level.Sign.{Sign}
use Rattle.grammar.specs.declared.level.Setting.{Setting}
use Rattle.grammar.specs.declared.level.Setting.TheVariants as setting
use Rattle.grammar.specs.Tokens.{is, is_either, is_name, is_type_name, heads, heads_name}
use Rattle.grammar.specs.Types.{separated, inner, behind_token, listed_or_none, type_arguments_of, type_parameter_of, type_parameters_of, void_of, heads_qualified, qualified_of, unqualified_of, named_type_of, annotation_of, heads_required, heads_field, parameter_of, parameter_list_of, parameter_type_of, Tail, tail, tail_of, first_tail_of, next_tail_of, every_time}
use Rattle.grammar.specs.Operators.{table, heads_sign, is_binary, binary_of, assignment_of, take_sign, sign_at, read_sign, unary_at, postfix_at}
use Rattle.grammar.specs.Expressions.{simple_string_of, string_text_of, simple_interpolation_of, interpolated_of, strings_of, heads_label, positional_of, named_of, arguments_of, integer_of, boolean_of, null_of, this_of, super_of, identifier_of, heads_generic, generic_of, parenthesis_of, arrow_of, closure_of, heads_closure, new_of, entry_of, Contents, listed, entries, listed_of, entries_of, collection_of, Selector, member, element, check, called, member_of, element_of, check_of, plain_call_of, generic_call_of, heads_call, select_with, one_time, postfix_of, unary_of, Side, operated, tested, cast, choices, operated_of, tested_of, cast_of, choices_of, times_behind, side_with, assign_of, throw_of, cascaded_name_of, cascaded_index_of, cascade_of, section_of, is_open}
use Rattle.grammar.specs.Descents.{Lower, begins_string, begins_prefix, take_separated, take_type_arguments, take_type_parameter, take_type_parameters, take_type_name, take_question, take_plain_type, take_annotation, take_parameter, take_parameters, take_optional_parameters, take_parameter_list, take_parameter_type, take_tail, take_tail_before, take_type, take_prefix, take_postfix, take_interpolation, take_string_part, take_string, take_strings, take_argument, take_arguments, take_simple, take_name, take_parenthesis, take_closure, take_new, take_entry, take_collection, take_primary, take_selector, take_selected, take_incremented, take_unary, take_operated, take_right, take_operand, take_assignment_expression, take_throw, take_section_head, take_section, take_cascade_section, take_cascade, take_expression}
use Rattle.place_laws.proofs.TextParts.{PartOf, part_take}
use Rattle.place_laws.proofs.Lays.{Text, Laid, Lays, Joins, Makes, IsLeaf, one, unshown, both, if_there, total, none_on, lays_token, lays_leaf, lays_given, lays_none, lays_turn, lays_same, lays_unshown, lays_make, lays_seq, lays_end, lays_or, lays_where, lays_less, lays_maybe, lays_many, lays_chain, lays_once, lays_levels, lays_inside, lays_before, lays_elements}

-- what is read in the room below stands in order
pub record Ordered (c : Text) (l : Lower) : Type 0 where
  pub written : Lays c (one c) true l.written
  pub tested : (m : Setting) → Lays c (one c) true (l.tested m)
  pub constructed : Lays c (one c) true l.constructed
  pub named : Lays c (one c) true l.named
  pub expression : (m : Setting) → Lays c (one c) true (l.expression m)
  pub operand : (m : Setting) (above : List Level) → Lays c (one c) true (l.operand m above)
  pub unary : (m : Setting) → Lays c (one c) true (l.unary m)
  pub section : (m : Setting) → Lays c (one c) true (l.section m)
  pub simple : Lays c (one c) true l.simple
  pub block : Lays c (one c) true l.block
  pub statement : Lays c (one c) true l.statement

-- The nodes of lists and parts, read.

pub all_read : (c : Text) (n : ℕ) (ts : List Tree) → list_of (all_with_lists c.lists n (trees_of ts)) ≡ total (one c) ts n
all_read c n [] = refl
all_read c n (t ∷ ts) = rw (all_read c n ts) refl

pub appended_read : (c : Text) (n : ℕ) (ts us : List Tree) → list_of (all_with_lists c.lists n (trees_of (ts ++ us))) ≡ total (one c) ts n ++ total (one c) us n
appended_read c n [] us = all_read c n us
appended_read c n (t ∷ ts) us = rw (appended_read c n ts us) refl

pub part_read : (c : Text) (n : ℕ) (o : Option Tree) → list_of_part (part_with_lists c.lists n (part_of o)) ≡ if_there (one c) o n
part_read c n None = refl
part_read c n (Some t) = refl

pub behind_read : (c : Text) (n : ℕ) (o : Option (Token × Tree)) → list_of_part (part_with_lists c.lists n (part_of (behind_token o))) ≡ if_there (both unshown (one c)) o n
behind_read c n None = refl
behind_read c n (Some y) = refl

pub listed_total : (c : Text) (n : ℕ) (o : Option (List Tree)) → total (one c) (listed_or_none o) n ≡ if_there (total (one c)) o n
listed_total c n None = refl
listed_total c n (Some ts) = refl

pub listed_read : (c : Text) (n : ℕ) (o : Option (List Tree)) → list_of (all_with_lists c.lists n (trees_of (listed_or_none o))) ≡ if_there (total (one c)) o n
listed_read c n None = refl
listed_read c n (Some ts) = all_read c n ts

second_total : {A B : Type 0} (u : B → ℕ → List Tree) (ys : List (A × B)) (n : ℕ) → total u (map (λ y. y.1) ys) n ≡ total (both unshown u) ys n
second_total u [] n = refl
second_total u (y ∷ ys) n = rw (second_total u ys n) refl

pub lays_separated : {A : Type 0} {c : Text} {u : A → ℕ → List Tree} {g : Descent Token A} → Lays c u true g → Lays c (total u) true (take_separated g)
lays_separated {A = A} {c = c} {u = u} {g = g} a =
    lays_turn (total u) separated (lays_seq a (lays_many (lays_seq (lays_token c (is kind.Comma)) a))) (λ x n. ap (λ (ts : List Tree). u x.0 n ++ ts) (second_total u x.1 n))

-- a token that may be there
pub lays_mark : (c : Text) (t : Test Token) (f : Token → Bool) → Lays c unshown false (take_where t (take_turn (λ t. Some t) (take_token f)) (take_given None))
lays_mark c t f = lays_where t (lays_less (lays_turn unshown (λ t. Some t) (lays_token c f) (λ x n. refl))) (lays_given c unshown None (λ n. refl))

-- tokens alone
pub lays_silent : {A : Type 0} {c : Text} {u : A → ℕ → List Tree} {some : Bool} {g : Descent Token A} → Lays c u some g → ((x : A) (n : ℕ) → u x n ≡ []) → Lays c unshown some g
lays_silent {c = c} {u = u} {some = some} {g = g} a h = lays_same unshown a (λ x n. sym (h x n))

-- Types.

pub type_arguments_laid : (c : Text) (l : Lower) → Ordered c l → Lays c (one c) true (take_type_arguments l)
unfolding take_type_arguments
type_arguments_laid c l a =
    lays_make type_arguments_of (lays_seq (lays_token c (is kind.Less)) (lays_end (lays_separated a.written) (lays_token c (is kind.Greater)))) (λ read x n. (refl, (n, all_read c n x.1.0)))

type_parameter_laid : (c : Text) (l : Lower) → Ordered c l → Lays c (one c) true (take_type_parameter l)
unfolding take_type_parameter
type_parameter_laid c l a =
    lays_make type_parameter_of (lays_seq (lays_token c is_type_name) (lays_maybe (lays_seq (lays_token c (is kind.Extends)) a.written))) (λ read x n. (refl, (n, behind_read c n x.1)))

pub type_parameters_laid : (c : Text) (l : Lower) → Ordered c l → Lays c (total (one c)) true (take_type_parameters l)
unfolding take_type_parameters
type_parameters_laid c l a =
    lays_turn (total (one c)) type_parameters_of (lays_seq (lays_token c (is kind.Less)) (lays_end (lays_separated (type_parameter_laid c l a)) (lays_token c (is kind.Greater)))) (λ x n. refl)

type_name_laid : (c : Text) → Lays c unshown true take_type_name
unfolding take_type_name
type_name_laid c =
    lays_where heads_qualified (lays_turn unshown qualified_of (lays_seq (lays_token c is_name) (lays_seq (lays_token c (is kind.Period)) (lays_token c is_type_name))) (λ x n. refl))
    (lays_turn unshown unqualified_of (lays_token c is_type_name) (λ x n. refl))

question_laid : (c : Text) (question : Test Token) → Lays c unshown false (take_question question)
unfolding take_question
question_laid c question = lays_mark c question (is kind.Question)

pub plain_type_laid : (c : Text) (l : Lower) → Ordered c l → (question : Test Token) → Lays c (one c) true (take_plain_type l question)
unfolding take_plain_type
plain_type_laid c l a question =
    lays_where (heads kind.Void) (lays_turn (one c) void_of (lays_leaf c void_of (is kind.Void) (λ t n. (refl, refl))) (λ x n. refl))
    (lays_make named_type_of (lays_seq (type_name_laid c) (lays_end (lays_maybe (type_arguments_laid c l a)) (question_laid c question))) (λ read x n. (refl, (n - 1, part_read c (n - 1) x.1.0))))

annotation_laid : (c : Text) → Lays c unshown true take_annotation
unfolding take_annotation
annotation_laid c = lays_unshown annotation_of (lays_seq (lays_token c (is kind.At)) (lays_token c is_name))

none_total : {A : Type 0} (xs : List A) (n : ℕ) → total {A = A} unshown xs n ≡ []
none_total [] n = refl
none_total (x ∷ xs) n = none_total xs n

none_there : {A : Type 0} (o : Option A) (n : ℕ) → if_there {A = A} unshown o n ≡ []
none_there None n = refl
none_there (Some x) n = refl

-- what shows nothing, as often as it is there
pub lays_repeated : {A : Type 0} {c : Text} {some : Bool} {g : Descent Token A} → Lays c unshown some g → Lays c unshown false (take_many g)
lays_repeated a = lays_silent (lays_many a) (λ x n. none_total x n)

pub annotations_laid : (c : Text) → Lays c unshown false (take_many take_annotation)
annotations_laid c = lays_repeated (annotation_laid c)

-- and where it is there
pub lays_perhaps : {A : Type 0} {c : Text} {some : Bool} {g : Descent Token A} → Lays c unshown some g → Lays c unshown false (take_maybe g)
lays_perhaps a = lays_silent (lays_maybe a) (λ x n. none_there x n)

parameter_laid : (c : Text) (l : Lower) → Ordered c l → (which : ParameterKind) → Lays c (one c) true (take_parameter l which)
unfolding take_parameter
parameter_laid c l a which =
    lays_make (parameter_of which)
    (lays_seq (annotations_laid c)
    (lays_seq (lays_mark c heads_required (is kind.Required))
    (lays_seq (lays_perhaps (lays_token c (is_either kind.Final kind.Var)))
    (lays_seq (lays_maybe (lays_before heads_field a.named))
    (lays_seq (lays_perhaps (lays_seq (lays_token c (is kind.This)) (lays_token c (is kind.Period))))
    (lays_seq (lays_token c is_name) (lays_maybe (lays_seq (lays_token c (is kind.Equals)) (a.expression setting.Default)))))))))
    (λ read x n. (refl, (n, rw (part_read c n x.1.1.1.0, behind_read c n x.1.1.1.1.1.1) refl)))

parameters_laid : (c : Text) (l : Lower) → Ordered c l → (which : ParameterKind) → Lays c (total (one c)) false (take_parameters l which)
parameters_laid c l a which = lays_elements (parameter_laid c l a which) (lays_token c (is kind.Comma))

optional_parameters_laid : (c : Text) (l : Lower) → Ordered c l → Lays c (total (one c)) true (take_optional_parameters l)
unfolding take_optional_parameters
optional_parameters_laid c l a =
    lays_where (heads kind.OpenBracket) (lays_turn (total (one c)) inner (lays_inside (is kind.OpenBracket) (parameters_laid c l a parameter_kind.OptionalPositional)) (λ x n. refl))
    (lays_turn (total (one c)) inner (lays_inside (is kind.OpenBrace) (parameters_laid c l a parameter_kind.Named)) (λ x n. refl))

pub parameter_list_laid : (c : Text) (l : Lower) → Ordered c l → Lays c (one c) true (take_parameter_list l)
unfolding take_parameter_list
parameter_list_laid c l a =
    lays_make parameter_list_of (lays_inside (is kind.OpenParenthesis) (lays_seq (parameters_laid c l a parameter_kind.Positional) (lays_maybe (optional_parameters_laid c l a))))
    (λ read x n. (refl, (n, appended_read c n x.1.0 (listed_or_none x.1.1) ∙ ap (λ (ts : List Tree). total (one c) x.1.0 n ++ ts) (listed_total c n x.1.1))))

parameter_type_laid : (c : Text) (l : Lower) → Ordered c l → Lays c (one c) true (take_parameter_type l)
unfolding take_parameter_type
parameter_type_laid c l a = lays_make parameter_type_of (lays_end a.written (lays_perhaps (lays_token c is_name))) (λ read x n. (refl, (n, refl)))

abbrev pub tail_shown : Text → Tail → ℕ → List Tree
tail_shown c (tail type_parameters parameters optional nullable) n = total (one c) type_parameters n ++ (total (one c) parameters n ++ total (one c) optional n)

tail_laid : (c : Text) (l : Lower) → Ordered c l → (question ends : Test Token) → Lays c (tail_shown c) true (take_tail_before l question ends)
unfolding take_tail_before take_tail
tail_laid c l a question ends =
    lays_before ends
    (lays_turn (tail_shown c) tail_of
    (lays_seq (lays_token c (is kind.Function))
    (lays_seq (lays_maybe (type_parameters_laid c l a))
    (lays_end (lays_inside (is kind.OpenParenthesis) (lays_seq (lays_elements (parameter_type_laid c l a) (lays_token c (is kind.Comma))) (lays_maybe (optional_parameters_laid c l a)))) (question_laid c question))))
    (λ x n. rw (listed_total c n x.1.0, listed_total c n x.1.1.0.1.1) refl))

function_type_parts : (c : Text) (n : ℕ) (result : Option Tree) (types parameters optional : List Tree) →
    list_of_part (part_with_lists c.lists n (part_of result)) ++ (list_of (all_with_lists c.lists n (trees_of types)) ++ (list_of (all_with_lists c.lists n (trees_of parameters)) ++ list_of (all_with_lists c.lists n (trees_of optional))))
    ≡ if_there (one c) result n ++ (total (one c) types n ++ (total (one c) parameters n ++ total (one c) optional n))
function_type_parts c n result types parameters optional = rw (part_read c n result, all_read c n types, all_read c n parameters, all_read c n optional) refl

first_tail_makes : (c : Text) → Makes c (tail_shown c) first_tail_of
first_tail_makes c read (tail types parameters optional nullable) n = (refl, (n - 1, function_type_parts c (n - 1) None types parameters optional))

next_tail_joins : (c : Text) → Joins c (tail_shown c) next_tail_of
next_tail_joins c read (result, tail types parameters optional nullable) n = (refl, (n - 1, function_type_parts c (n - 1) (Some result) types parameters optional))

pub type_laid : (c : Text) (n : ℕ) (l : Lower) → Ordered c l → (question ends : Test Token) → Lays c (one c) true (take_type n l question ends)
unfolding take_type
type_laid c n l a question ends =
    lays_chain every_time (fits n) next_tail_of (lays_or (lays_make first_tail_of (tail_laid c l a question ends) (first_tail_makes c)) (plain_type_laid c l a question)) (tail_laid c l a question ends) (next_tail_joins c)

-- Operators.

sign_read : {A : Type 0} (c : Text) (of : Span → Sign → Option A) (t : Token) (ts : List Token) → PartOf c.tokens (t ∷ ts) → (s : Sign × ℕ) → Maybe (Laid {A = A} c unshown true (t ∷ ts)) (read_sign of (t ∷ ts) s)
sign_read {A = A} c of t ts p s = read_at (of _ s.0) where
  read_at : (o : Option A) → Maybe (Laid {A = A} c unshown true (t ∷ ts)) (option_map (λ a. (a, drop (suc s.1) (t ∷ ts))) o)
  read_at None = tt
  read_at (Some a) = record {
    read = t ∷ take s.1 ts;
    is = ap (λ (us : List Token). t ∷ us) (sym (take-append-drop s.1 ts));
    filled = tt;
    row = none_on c (t ∷ take s.1 ts) (part_take c.tokens (suc s.1) (t ∷ ts) p);
  }

sign_found : {A : Type 0} (c : Text) (of : Span → Sign → Option A) (t : Token) (ts : List Token) → PartOf c.tokens (t ∷ ts) → (o : Option (Sign × ℕ)) → Maybe (Laid {A = A} c unshown true (t ∷ ts)) (option_map_or (read_sign of (t ∷ ts)) o None)
sign_found c of t ts p None = tt
sign_found c of t ts p (Some s) = sign_read c of t ts p s

pub sign_laid : {A : Type 0} (c : Text) (of : Span → Sign → Option A) → Lays c unshown true (take_sign of)
sign_laid {A = A} c of = record { each = lay } where
  lay : (ts : List Token) → PartOf c.tokens ts → Maybe (Laid {A = A} c unshown true ts) (take_sign of ts)
  lay [] p = tt
  lay (t ∷ ts) p = sign_found c of t ts p (sign_at (t ∷ ts))

-- a word or a sign, whatever it stands for
pub lays_sign : {A : Type 0} (c : Text) (of : Token → A) (f : Token → Bool) → Lays c unshown true (take_turn of (take_token f))
lays_sign c of f = lays_turn unshown of (lays_token c f) (λ x n. refl)

prefix_laid : (c : Text) → Lays c unshown true take_prefix
unfolding take_prefix
prefix_laid c =
    lays_where (heads kind.Minus) (lays_sign c (unary_at unary.Negate) (is kind.Minus))
    (lays_where (heads kind.Bang) (lays_sign c (unary_at unary.Not) (is kind.Bang))
    (lays_where (heads kind.Tilde) (lays_sign c (unary_at unary.Complement) (is kind.Tilde))
    (lays_where (heads kind.PlusPlus) (lays_sign c (unary_at unary.Increment) (is kind.PlusPlus)) (lays_sign c (unary_at unary.Decrement) (is kind.MinusMinus)))))

postfix_laid : (c : Text) → Lays c unshown true take_postfix
unfolding take_postfix
postfix_laid c = lays_where (heads kind.PlusPlus) (lays_sign c (postfix_at postfix.Increment) (is kind.PlusPlus)) (lays_sign c (postfix_at postfix.Decrement) (is kind.MinusMinus))

-- Expressions.

-- a token that is a node
pub leaf_laid : (c : Text) (leaf : Token → Tree) (f : Token → Bool) → IsLeaf c leaf → Lays c (one c) true (take_turn leaf (take_token f))
leaf_laid c leaf f h = lays_turn (one c) leaf (lays_leaf c leaf f h) (λ x n. refl)

string_part_laid : (c : Text) (l : Lower) → Ordered c l → Lays c (one c) true (take_string_part l)
unfolding take_string_part take_interpolation
string_part_laid c l a =
    lays_where (heads kind.StringPart) (leaf_laid c string_text_of (is kind.StringPart) (λ t n. (refl, refl)))
    (lays_where (heads kind.InterpolationMark) (lays_make simple_interpolation_of (lays_seq (lays_token c (is kind.InterpolationMark)) a.simple) (λ read x n. (refl, (n, refl))))
    (lays_make simple_interpolation_of (lays_inside (is kind.InterpolationOpening) (a.expression setting.Plain)) (λ read x n. (refl, (n, refl)))))

pub string_laid : (c : Text) (l : Lower) → Ordered c l → Lays c (one c) true (take_string l)
unfolding take_string
string_laid c l a =
    lays_where (next (is_either kind.StringLiteral kind.UnterminatedString)) (leaf_laid c simple_string_of (is_either kind.StringLiteral kind.UnterminatedString) (λ t n. (refl, refl)))
    (lays_make interpolated_of
    (lays_seq (lays_leaf c string_text_of (is kind.StringOpening) (λ t n. (refl, refl)))
    (lays_seq (lays_many (string_part_laid c l a)) (lays_leaf c string_text_of (is kind.StringClosing) (λ t n. (refl, refl)))))
    (λ read x n. (refl, (n, ap (λ (ts : List Tree). string_text_of x.0 ∷ ts) (appended_read c n x.1.0 (string_text_of x.1.1 ∷ []))))))

strings_laid : (c : Text) (l : Lower) → Ordered c l → Lays c (one c) true (take_strings l)
unfolding take_strings
strings_laid c l a = lays_make strings_of (lays_seq (string_laid c l a) (lays_many (string_laid c l a))) (λ read x n. (refl, (n - 1, rw (all_read c (n - 1) x.1) refl)))

argument_laid : (c : Text) (l : Lower) → Ordered c l → Lays c (one c) true (take_argument l)
unfolding take_argument
argument_laid c l a =
    lays_where heads_label (lays_make named_of (lays_seq (lays_token c is_name) (lays_seq (lays_token c (is kind.Colon)) (a.expression setting.Listed))) (λ read x n. (refl, (n, refl))))
    (lays_make positional_of (a.expression setting.Listed) (λ read x n. (refl, (n, refl))))

pub arguments_laid : (c : Text) (l : Lower) → Ordered c l → Lays c (one c) true (take_arguments l)
unfolding take_arguments
arguments_laid c l a = lays_make arguments_of (lays_inside (is kind.OpenParenthesis) (lays_elements (argument_laid c l a) (lays_token c (is kind.Comma)))) (λ read x n. (refl, (n, all_read c n x.1)))

pub simple_laid : (c : Text) → Lays c (one c) true take_simple
unfolding take_simple
simple_laid c = lays_where heads_name (leaf_laid c identifier_of is_name (λ t n. (refl, refl))) (leaf_laid c this_of (is kind.This) (λ t n. (refl, refl)))

name_laid : (c : Text) (l : Lower) → Ordered c l → Lays c (one c) true (take_name l)
unfolding take_name
name_laid c l a =
    lays_where heads_generic (lays_make generic_of (lays_seq (lays_token c is_name) (type_arguments_laid c l a)) (λ read x n. (refl, (n - 1, refl)))) (leaf_laid c identifier_of is_name (λ t n. (refl, refl)))

parenthesis_laid : (c : Text) (l : Lower) → Ordered c l → Lays c (one c) true (take_parenthesis l)
unfolding take_parenthesis
parenthesis_laid c l a = lays_make parenthesis_of (lays_inside (is kind.OpenParenthesis) (a.expression setting.Plain)) (λ read x n. (refl, (n - 1, refl)))

closure_laid : (c : Text) (m : Setting) (l : Lower) → Ordered c l → Lays c (one c) true (take_closure m l)
unfolding take_closure
closure_laid c m l a =
    lays_make closure_of
    (lays_seq (parameter_list_laid c l a) (lays_where (heads kind.Arrow) (lays_make arrow_of (lays_seq (lays_token c (is kind.Arrow)) (a.expression m)) (λ read x n. (refl, (n, refl)))) a.block))
    (λ read x n. (refl, (n - 1, refl)))

new_laid : (c : Text) (l : Lower) → Ordered c l → Lays c (one c) true (take_new l)
unfolding take_new
new_laid c l a =
    lays_make new_of
    (lays_seq (lays_token c (is kind.New)) (lays_seq a.constructed (lays_seq (lays_perhaps (lays_seq (lays_token c (is kind.Period)) (lays_token c is_name))) (arguments_laid c l a)))) (λ read x n. (refl, (n - 1, refl)))

entry_laid : (c : Text) (l : Lower) → Ordered c l → Lays c (one c) true (take_entry l)
unfolding take_entry
entry_laid c l a =
    lays_make entry_of (lays_seq (a.expression setting.Listed) (lays_maybe (lays_seq (lays_token c (is kind.Colon)) (a.expression setting.Listed)))) (λ read x n. (refl, (n, rw (behind_read c n x.1) refl)))

abbrev pub contents_shown : Text → Contents → ℕ → List Tree
contents_shown c (listed all) n = total (one c) all n
contents_shown c (entries all) n = total (one c) all n

collection_makes : (c : Text) → Makes c (both (if_there (one c)) (contents_shown c)) collection_of
collection_makes c read (arguments, listed all) n = (refl, (n - 1, rw (part_read c (n - 1) arguments, all_read c (n - 1) all) refl))
collection_makes c read (arguments, entries all) n = (refl, (n - 1, rw (part_read c (n - 1) arguments, all_read c (n - 1) all) refl))

collection_laid : (c : Text) (l : Lower) → Ordered c l → Lays c (one c) true (take_collection l)
unfolding take_collection
collection_laid c l a =
    lays_make collection_of
    (lays_seq (lays_maybe (type_arguments_laid c l a))
    (lays_where (heads kind.OpenBracket)
    (lays_turn (contents_shown c) listed_of (lays_inside (is kind.OpenBracket) (lays_elements (a.expression setting.Listed) (lays_token c (is kind.Comma)))) (λ x n. refl))
    (lays_turn (contents_shown c) entries_of (lays_inside (is kind.OpenBrace) (lays_elements (entry_laid c l a) (lays_token c (is kind.Comma)))) (λ x n. refl))))
    (collection_makes c)

primary_laid : (c : Text) (m : Setting) (l : Lower) → Ordered c l → Lays c (one c) true (take_primary m l)
unfolding take_primary
primary_laid c m l a =
    lays_where (heads kind.Integer) (leaf_laid c integer_of (is kind.Integer) (λ t n. (refl, refl)))
    (lays_where (next begins_string) (strings_laid c l a)
    (lays_where (heads kind.True) (leaf_laid c (boolean_of true) (is kind.True) (λ t n. (refl, refl)))
    (lays_where (heads kind.False) (leaf_laid c (boolean_of false) (is kind.False) (λ t n. (refl, refl)))
    (lays_where (heads kind.Null) (leaf_laid c null_of (is kind.Null) (λ t n. (refl, refl)))
    (lays_where (heads kind.This) (leaf_laid c this_of (is kind.This) (λ t n. (refl, refl)))
    (lays_where (heads kind.Super) (leaf_laid c super_of (is kind.Super) (λ t n. (refl, refl)))
    (lays_where heads_name (name_laid c l a)
    (lays_where (heads kind.OpenParenthesis) (lays_where (heads_closure m) (closure_laid c m l a) (parenthesis_laid c l a)) (lays_where (heads kind.New) (new_laid c l a) (collection_laid c l a))))))))))

abbrev pub selector_shown : Text → Selector → ℕ → List Tree
selector_shown c (member null_aware name) n = []
selector_shown c (element null_aware bracket index) n = one c index n
selector_shown c check n = []
selector_shown c (called type_arguments arguments) n = if_there (one c) type_arguments n ++ one c arguments n

selector_laid : (c : Text) (m : Setting) (l : Lower) → Ordered c l → Lays c (selector_shown c) true (take_selector m l)
unfolding take_selector
selector_laid c m l a =
    lays_where (heads kind.Period) (lays_turn (selector_shown c) (member_of false) (lays_seq (lays_token c (is kind.Period)) (lays_token c is_name)) (λ x n. refl))
    (lays_where (heads kind.QuestionPeriod) (lays_turn (selector_shown c) (member_of true) (lays_seq (lays_token c (is kind.QuestionPeriod)) (lays_token c is_name)) (λ x n. refl))
    (lays_where (heads kind.OpenBracket) (lays_turn (selector_shown c) (element_of false) (lays_inside (is kind.OpenBracket) (a.expression setting.Plain)) (λ x n. refl))
    (lays_where (heads kind.QuestionBracket) (lays_turn (selector_shown c) (element_of true) (lays_inside (is kind.QuestionBracket) (a.expression setting.Plain)) (λ x n. refl))
    (lays_where (heads kind.Bang) (lays_turn (selector_shown c) check_of (lays_token c (is kind.Bang)) (λ x n. refl))
    (lays_where (heads kind.OpenParenthesis) (lays_turn (selector_shown c) plain_call_of (arguments_laid c l a) (λ x n. refl))
    (lays_where (heads_call m) (lays_turn (selector_shown c) generic_call_of (lays_seq (type_arguments_laid c l a) (arguments_laid c l a)) (λ x n. refl)) (lays_none c (selector_shown c) true)))))))

selected_joins : (c : Text) → Joins c (selector_shown c) select_with
selected_joins c read (left, member null_aware name) n = (refl, (n - 1, refl))
selected_joins c read (left, element null_aware bracket index) n = (refl, (n - 1, refl))
selected_joins c read (left, check) n = (refl, (n - 1, refl))
selected_joins c read (left, called type_arguments arguments) n = (refl, (n - 1, rw (part_read c (n - 1) type_arguments) refl))

pub unary_laid : (c : Text) (n : ℕ) (m : Setting) (l : Lower) → Ordered c l → Lays c (one c) true (take_unary n m l)
unfolding take_unary take_incremented take_selected
unary_laid c n m l a =
    lays_where (next begins_prefix) (lays_make unary_of (lays_seq (prefix_laid c) (a.unary m)) (λ read x n. (refl, (n - 1, refl))))
    (lays_chain one_time (is_open n) postfix_of (lays_chain every_time (is_open n) select_with (primary_laid c m l a) (selector_laid c m l a) (selected_joins c)) (postfix_laid c) (λ read x n. (refl, (n - 1, refl))))

abbrev pub side_shown : Text → Side → ℕ → List Tree
side_shown c (operated operator right) n = one c right n
side_shown c (tested negated written) n = one c written n
side_shown c (cast written) n = one c written n
side_shown c (choices then_value else_value) n = one c then_value n ++ one c else_value n

operated_laid : (c : Text) (m : Setting) (l : Lower) → Ordered c l → (which : Level) (above : List Level) → Lays c (side_shown c) true (take_operated m l which above)
unfolding take_operated
operated_laid c m l a which above = lays_turn (side_shown c) operated_of (lays_seq (sign_laid c (binary_of which)) (a.operand m above)) (λ x n. refl)

right_laid : (c : Text) (m : Setting) (l : Lower) → Ordered c l → (which : Level) (above : List Level) → Lays c (side_shown c) true (take_right m l which above)
unfolding take_right
right_laid c m l a level.Conditional above =
    lays_turn (side_shown c) choices_of (lays_seq (lays_token c (is kind.Question)) (lays_seq (a.expression m) (lays_seq (lays_token c (is kind.Colon)) (a.expression m)))) (λ x n. refl)
right_laid c m l a level.IfNull above = operated_laid c m l a level.IfNull above
right_laid c m l a level.Or above = operated_laid c m l a level.Or above
right_laid c m l a level.And above = operated_laid c m l a level.And above
right_laid c m l a level.Equality above = operated_laid c m l a level.Equality above
right_laid c m l a level.Relation above =
    lays_where (heads_sign (is_binary level.Relation)) (operated_laid c m l a level.Relation above)
    (lays_where (heads kind.Is) (lays_turn (side_shown c) tested_of (lays_seq (lays_token c (is kind.Is)) (lays_seq (lays_perhaps (lays_token c (is kind.Bang))) (a.tested m))) (λ x n. refl))
    (lays_turn (side_shown c) cast_of (lays_seq (lays_token c (is kind.As)) (a.tested m)) (λ x n. refl)))
right_laid c m l a level.BitOr above = operated_laid c m l a level.BitOr above
right_laid c m l a level.BitXor above = operated_laid c m l a level.BitXor above
right_laid c m l a level.BitAnd above = operated_laid c m l a level.BitAnd above
right_laid c m l a level.Shift above = operated_laid c m l a level.Shift above
right_laid c m l a level.Sum above = operated_laid c m l a level.Sum above
right_laid c m l a level.Product above = operated_laid c m l a level.Product above

sided_joins : (c : Text) → Joins c (side_shown c) side_with
sided_joins c read (left, operated operator right) n = (refl, (n - 1, refl))
sided_joins c read (left, tested negated written) n = (refl, (n - 1, refl))
sided_joins c read (left, cast written) n = (refl, (n - 1, refl))
sided_joins c read (left, choices then_value else_value) n = (refl, (n - 1, refl))

pub operand_laid : (c : Text) (n : ℕ) (m : Setting) (l : Lower) → Ordered c l → (above : List Level) → Lays c (one c) true (take_operand n m l above)
unfolding take_operand
operand_laid c n m l a above = lays_levels (times_behind m) (is_open n) side_with (right_laid c m l a) (sided_joins c) (unary_laid c n m l a) above

pub section_head_laid : (c : Text) (expression : Descent Token Tree) → Lays c (one c) true expression → Lays c (one c) true (take_section_head expression)
unfolding take_section_head
section_head_laid c expression e =
    lays_where heads_name (leaf_laid c cascaded_name_of is_name (λ t n. (refl, refl))) (lays_make cascaded_index_of (lays_inside (is kind.OpenBracket) e) (λ read x n. (refl, (n, refl))))

pub section_laid : (c : Text) (n : ℕ) (m : Setting) (l : Lower) → Ordered c l → (expression : Descent Token Tree) → Lays c (one c) true expression → Lays c (one c) true (take_section n m l expression)
unfolding take_section
section_laid c n m l a expression e =
    lays_chain one_time (is_open n) assign_of (lays_chain every_time (is_open n) select_with (section_head_laid c expression e) (selector_laid c m l a) (selected_joins c))
    (lays_seq (sign_laid c assignment_of) (a.operand m table)) (λ read x n. (refl, (n - 1, refl)))

cascade_section_laid : (c : Text) (m : Setting) (l : Lower) → Ordered c l → Lays c (both unshown (one c)) true (take_cascade_section m l)
unfolding take_cascade_section
cascade_section_laid c m l a =
    lays_where (heads kind.PeriodPeriod) (lays_turn (both unshown (one c)) (section_of false) (lays_seq (lays_token c (is kind.PeriodPeriod)) (a.section m)) (λ x n. refl))
    (lays_turn (both unshown (one c)) (section_of true) (lays_seq (lays_token c (is kind.QuestionPeriodPeriod)) (a.section m)) (λ x n. refl))

pub expression_laid : (c : Text) (n : ℕ) (m : Setting) (l : Lower) → Ordered c l → Lays c (one c) true (take_expression n m l)
unfolding take_expression take_assignment_expression take_throw take_cascade
expression_laid c n m l a =
    lays_or (lays_once (is_open n) assign_of (unary_laid c n m l a) (lays_seq (sign_laid c assignment_of) (a.expression m)) (λ read x n. (refl, (n - 1, refl))))
    (lays_where (heads kind.Throw) (lays_make throw_of (lays_seq (lays_token c (is kind.Throw)) (a.expression m)) (λ read x n. (refl, (n - 1, refl))))
    (lays_chain every_time (is_open n) cascade_of (operand_laid c n m l a table) (cascade_section_laid c m l a) (λ read x n. (refl, (n - 1, refl)))))
