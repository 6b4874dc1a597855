-- What is read of types and expressions in texts that agree is the same, with ranges aside.
use Rattle.std.proofs.Common.{◌≡◌, ℕ, ◌-◌, ◌++◌, Bool, true, false, List, [], ◌∷◌, Option, Some, None, option_map, is_some, map, refl, ap}
use denote.Enum.Bare.{sameb}
use Rattle.dart_tokens.specs.declared.token.Kind.{Kind}
use Rattle.dart_tree.specs.Bare.{bare_option}
use Rattle.dart_tree.specs.declared.operators.BinaryOperator.{BinaryOperator}
use Rattle.dart_tree.specs.declared.operators.AssignmentOperator.{AssignmentOperator}
use Rattle.dart_tree.specs.declared.operators.UnaryOperator.{UnaryOperator}
use Rattle.dart_tree.specs.declared.operators.PostfixOperator.{PostfixOperator}
use Rattle.grammar.specs.contracts.level.Level as levels_of
use Rattle.grammar.specs.declared.level.Sign.TheVariants as sign
use Rattle.grammar.specs.Tokens.{identifier_at}
use Rattle.grammar.specs.Types.{is_final_word}
use Rattle.grammar.specs.Operators.{level_of, take_assignment}
use Rattle.range_laws.specs.Agreeing.{Twins}
use Rattle.range_laws.proofs.Follow.{Readers, Alike, agree_length, Both, Pair, Alls, Follows, Blind, if_found, follows_token, follows_given, follows_none, follows_seq, follows_make, follows_turn, follows_or, follows_where, follows_maybe, follows_many, follows_chain, follows_once, follows_levels, follows_inside, follows_before, follows_elements}
use Rattle.range_laws.proofs.Tests.{blind_is, blind_either, blind_name, blind_type_name, blind_string, blind_prefix, blind_next, blind_heads, blind_heads_name, blind_qualified, blind_required, blind_field, blind_label, blind_sign, follows_sign, blind_generic, blind_closure, blind_call}
use Rattle.range_laws.proofs.Same.{Same, Plain, behind_same, all_same, part_same, all_plain, listed_related, append_related}
use Rattle.readings.specs.Readings.{Test, next}
use Rattle.readings.specs.Descent.{Descent, take_token, take_given, take_turn, take_where}
use Rattle.dart_tokens.specs.declared.token.Kind.TheVariants as kind
use Rattle.dart_tree.specs.Tree.{Tree}
use Rattle.dart_tree.specs.Heights.{fits}
use Rattle.dart_tree.specs.declared.places.Span.{Span}
use Rattle.dart_tree.specs.declared.names.ParameterKind.{ParameterKind}
use Rattle.dart_tree.specs.declared.names.ParameterKind.TheVariants as parameter_kind
use Rattle.dart_tree.specs.declared.operators.UnaryOperatorKind.TheVariants as unary
use Rattle.dart_tree.specs.declared.operators.PostfixOperatorKind.TheVariants as postfix
use Rattle.dart_tokens.specs.declared.grouped_token.GroupedToken.{GroupedToken as Token}
use Rattle.grammar.specs.declared.level.Level.{Level}
use Rattle.grammar.specs.declared.level.Level.TheVariants as level
use Rattle.grammar.specs.declared.level.Sign.{Sign}
use Rattle.grammar.specs.declared.level.Setting.{Setting}
use Rattle.grammar.specs.declared.level.Setting.TheVariants as setting
use Rattle.grammar.specs.Tokens.{is, is_either, is_name, is_type_name, heads, heads_name}
use Rattle.grammar.specs.Types.{separated, inner, listed_or_none, type_arguments_of, type_parameter_of, type_parameters_of, void_of, heads_qualified, qualified_of, unqualified_of, named_type_of, annotation_of, heads_required, heads_field, parameter_of, parameter_list_of, parameter_type_of, Tail, tail, tail_of, function_type_with, first_tail_of, next_tail_of, every_time}
use Rattle.grammar.specs.Operators.{table, heads_sign, is_binary, binary_of, assignment_of, unary_at, postfix_at}
use Rattle.grammar.specs.Expressions.{simple_string_of, string_text_of, simple_interpolation_of, interpolated_of, strings_of, heads_label, positional_of, named_of, arguments_of, integer_of, boolean_of, null_of, this_of, super_of, identifier_of, heads_generic, generic_of, parenthesis_of, arrow_of, closure_of, heads_closure, new_of, entry_of, Contents, listed, entries, listed_of, entries_of, collection_with, collection_of, Selector, member, element, check, called, member_of, element_of, check_of, plain_call_of, generic_call_of, heads_call, select_with, one_time, postfix_of, unary_of, Side, operated, tested, cast, choices, operated_of, tested_of, cast_of, choices_of, is_incremented, times_behind, side_with, assign_of, throw_of, cascaded_name_of, cascaded_index_of, cascade_of, section_of, is_open}
use Rattle.grammar.specs.Descents.{Lower, begins_string, begins_prefix, take_separated, take_type_arguments, take_type_parameter, take_type_parameters, take_type_name, take_question, take_plain_type, take_annotation, take_parameter, take_parameters, take_optional_parameters, take_parameter_list, take_parameter_type, take_tail, take_tail_before, take_type, take_prefix, take_postfix, take_interpolation, take_string_part, take_string, take_strings, take_argument, take_arguments, take_simple, take_name, take_parenthesis, take_closure, take_new, take_entry, take_collection, take_primary, take_selector, take_selected, take_incremented, take_unary, take_operated, take_right, take_operand, take_assignment_expression, take_throw, take_section_head, take_section, take_cascade_section, take_cascade, take_expression}

-- what lies in the room below is found the same
pub record Followed (r : Readers) (l : Lower) : Type 0 where
  pub written : Follows r (Same r) l.written
  pub tested : (m : Setting) → Follows r (Same r) (l.tested m)
  pub constructed : Follows r (Same r) l.constructed
  pub named : Follows r (Same r) l.named
  pub expression : (m : Setting) → Follows r (Same r) (l.expression m)
  pub operand : (m : Setting) (above : List Level) → Follows r (Same r) (l.operand m above)
  pub unary : (m : Setting) → Follows r (Same r) (l.unary m)
  pub section : (m : Setting) → Follows r (Same r) (l.section m)
  pub simple : Follows r (Same r) l.simple
  pub block : Follows r (Same r) l.block
  pub statement : Follows r (Same r) l.statement

-- Marks and names.

abbrev pub Equal : {A : Type 0} → A → A → Type 0
Equal x y = x ≡ y

pub mark : (r : Readers) (k : Kind) → Follows r Twins (take_token (is k))
mark r k = follows_token r (is k) (blind_is k)

pub named : (r : Readers) → Follows r Twins (take_token is_name)
named r = follows_token r is_name blind_name

pub type_named : (r : Readers) → Follows r Twins (take_token is_type_name)
type_named r = follows_token r is_type_name blind_type_name

pub some_same : {A : Type 0} (R : A → A → Type 0) (o p : Option A) → Both R o p → is_some o ≡ is_some p
some_same R None None b = refl
some_same R None (Some y) b = absurd b
some_same R (Some x) None b = absurd b
some_same R (Some x) (Some y) b = refl

pub option_bare : (o p : Option Token) → Both Twins o p → bare_option (λ word. word) (option_map identifier_at o) ≡ bare_option (λ word. word) (option_map identifier_at p)
option_bare None None b = refl
option_bare None (Some y) b = absurd b
option_bare (Some x) None b = absurd b
option_bare (Some x) (Some y) b = rw b.word refl

behind_bare : (o p : Option (Token × Token)) → Both (Pair Twins Twins) o p → bare_option (λ word. word) (option_map (λ n. identifier_at n.1) o) ≡ bare_option (λ word. word) (option_map (λ n. identifier_at n.1) p)
behind_bare None None b = refl
behind_bare None (Some y) b = absurd b
behind_bare (Some x) None b = absurd b
behind_bare (Some x) (Some y) b = rw b.1.word refl

final_same : (o p : Option Token) → Both Twins o p → is_final_word o ≡ is_final_word p
final_same None None b = refl
final_same None (Some y) b = absurd b
final_same (Some x) None b = absurd b
final_same (Some x) (Some y) b = blind_is kind.Final x y b

pub seconds : {A B : Type 0} (S : A → A → Type 0) (R : B → B → Type 0) (xs ys : List (A × B)) → Alls (Pair S R) xs ys → Alls R (map (λ x. x.1) xs) (map (λ x. x.1) ys)
seconds S R [] [] p = tt
seconds S R [] (y ∷ ys) p = absurd p
seconds S R (x ∷ xs) [] p = absurd p
seconds S R (x ∷ xs) (y ∷ ys) p = (p.0.1, seconds S R xs ys p.1)

pub follows_separated : {A : Type 0} {r : Readers} {R : A → A → Type 0} {g : Descent Token A} → Follows r R g → Follows r (Alls R) (take_separated g)
follows_separated {r = r} {R = R} a = follows_turn (Alls R) separated (follows_seq a (follows_many (follows_seq (mark r kind.Comma) a))) (λ x y p. (p.0, seconds Twins R x.1 y.1 p.1))

-- a token that may be there
pub follows_mark : (r : Readers) (t : Test Token) (k : Kind) → Blind r t → Follows r (Both Twins) (take_where t (take_turn (λ t. Some t) (take_token (is k))) (take_given None))
follows_mark r t k b = follows_where t b (follows_turn (Both Twins) (λ t. Some t) (mark r k) (λ x y p. p)) (follows_given r (Both Twins) None tt)

fits_same : (r : Readers) (n : ℕ) (x y : Tree) → Same r x y → fits n x ≡ fits n y
fits_same r n x y p = rw p.high refl

open_same : (r : Readers) (n : ℕ) (x y : Tree) → Same r x y → is_open n x ≡ is_open n y
open_same r n x y p = rw (p.high, ap (λ (z : Bool × Bool). z.0) p.last) refl

ends_same : (r : Readers) (x y : Tree) → Same r x y → is_incremented x ≡ is_incremented y
ends_same r x y p = ap (λ (z : Bool × Bool). z.1) p.last

-- Types.

pub type_arguments_follow : (r : Readers) (l : Lower) → Followed r l → Follows r (Same r) (take_type_arguments l)
unfolding take_type_arguments
type_arguments_follow r l a =
    follows_make (Same r) type_arguments_of (follows_seq (mark r kind.Less) (follows_seq (follows_separated a.written) (mark r kind.Greater)))
    (λ read other x y p. let types = all_same r x.1.0 y.1.0 p.1.0 in record { shown = λ n. rw (types.shown n) refl; high = types.high; open_end = refl; last = refl })

type_parameter_follows : (r : Readers) (l : Lower) → Followed r l → Follows r (Same r) (take_type_parameter l)
unfolding take_type_parameter
type_parameter_follows r l a =
    follows_make (Same r) type_parameter_of (follows_seq (type_named r) (follows_maybe (follows_seq (mark r kind.Extends) a.written)))
    (λ read other x y p. let bound = behind_same r x.1 y.1 p.1 in record { shown = λ n. rw (p.0.word, bound.shown n) refl; high = bound.high; open_end = refl; last = refl })

pub type_parameters_follow : (r : Readers) (l : Lower) → Followed r l → Follows r (Alls (Same r)) (take_type_parameters l)
unfolding take_type_parameters
type_parameters_follow r l a =
    follows_turn (Alls (Same r)) type_parameters_of (follows_seq (mark r kind.Less) (follows_seq (follows_separated (type_parameter_follows r l a)) (mark r kind.Greater))) (λ x y p. p.1.0)

type_name_follows : (r : Readers) → Follows r (Pair (Both Twins) Twins) take_type_name
unfolding take_type_name
type_name_follows r =
    follows_where heads_qualified (blind_qualified r) (follows_turn (Pair (Both Twins) Twins) qualified_of (follows_seq (named r) (follows_seq (mark r kind.Period) (type_named r))) (λ x y p. (p.0, p.1.1)))
    (follows_turn (Pair (Both Twins) Twins) unqualified_of (type_named r) (λ x y p. (tt, p)))

question_follows : (r : Readers) (question : Test Token) → Blind r question → Follows r (Both Twins) (take_question question)
unfolding take_question
question_follows r question b = follows_mark r question kind.Question b

pub plain_type_follows : (r : Readers) (l : Lower) → Followed r l → (question : Test Token) → Blind r question → Follows r (Same r) (take_plain_type l question)
unfolding take_plain_type
plain_type_follows r l a question b =
    follows_where (heads kind.Void) (blind_heads r kind.Void) (follows_turn (Same r) void_of (mark r kind.Void) (λ x y p. record { shown = λ n. refl; high = refl; open_end = refl; last = refl }))
    (follows_make (Same r) named_type_of (follows_seq (type_name_follows r) (follows_seq (follows_maybe (type_arguments_follow r l a)) (question_follows r question b)))
    (λ read other x y p.
    let arguments = part_same r x.1.0 y.1.0 p.1.0 in
    record { shown = λ n. rw (option_bare x.0.0 y.0.0 p.0.0, p.0.1.word, arguments.shown (n - 1), some_same Twins x.1.1 y.1.1 p.1.1) refl; high = rw arguments.high refl; open_end = refl; last = refl }))

pub annotation_follows : (r : Readers) → Follows r Plain take_annotation
unfolding take_annotation
annotation_follows r = follows_make Plain annotation_of (follows_seq (mark r kind.At) (named r)) (λ read other x y p. rw p.1.word refl)

parameter_follows : (r : Readers) (l : Lower) → Followed r l → (which : ParameterKind) → Follows r (Same r) (take_parameter l which)
unfolding take_parameter
parameter_follows r l a which =
    follows_make (Same r) (parameter_of which)
    (follows_seq (follows_many (annotation_follows r))
    (follows_seq (follows_mark r heads_required kind.Required (blind_required r))
    (follows_seq (follows_maybe (follows_token r (is_either kind.Final kind.Var) (blind_either kind.Final kind.Var)))
    (follows_seq (follows_maybe (follows_before heads_field (blind_field r) a.named))
    (follows_seq (follows_maybe (follows_seq (mark r kind.This) (mark r kind.Period)))
    (follows_seq (named r) (follows_maybe (follows_seq (mark r kind.Equals) (a.expression setting.Default)))))))))
    (λ read other x y p.
    let written = part_same r x.1.1.1.0 y.1.1.1.0 p.1.1.1.0 in
    let value = behind_same r x.1.1.1.1.1.1 y.1.1.1.1.1.1 p.1.1.1.1.1.1 in
    record {
      shown = λ n. rw (all_plain x.0 y.0 p.0, some_same Twins x.1.0 y.1.0 p.1.0, final_same x.1.1.0 y.1.1.0 p.1.1.0, written.shown n, some_same (Pair Twins Twins) x.1.1.1.1.0 y.1.1.1.1.0 p.1.1.1.1.0, p.1.1.1.1.1.0.word, value.shown n) refl;
      high = rw (written.high, value.high) refl;
      open_end = refl;
      last = refl;
    })

parameters_follow : (r : Readers) (l : Lower) → Followed r l → (which : ParameterKind) → Follows r (Alls (Same r)) (take_parameters l which)
parameters_follow r l a which = follows_elements (parameter_follows r l a which) (mark r kind.Comma)

optional_parameters_follow : (r : Readers) (l : Lower) → Followed r l → Follows r (Alls (Same r)) (take_optional_parameters l)
unfolding take_optional_parameters
optional_parameters_follow r l a =
    follows_where (heads kind.OpenBracket) (blind_heads r kind.OpenBracket) (follows_turn (Alls (Same r)) inner (follows_inside (is kind.OpenBracket) (blind_is kind.OpenBracket) (parameters_follow r l a parameter_kind.OptionalPositional)) (λ x y p. p.1))
    (follows_turn (Alls (Same r)) inner (follows_inside (is kind.OpenBrace) (blind_is kind.OpenBrace) (parameters_follow r l a parameter_kind.Named)) (λ x y p. p.1))

pub parameter_list_follows : (r : Readers) (l : Lower) → Followed r l → Follows r (Same r) (take_parameter_list l)
unfolding take_parameter_list
parameter_list_follows r l a =
    follows_make (Same r) parameter_list_of (follows_inside (is kind.OpenParenthesis) (blind_is kind.OpenParenthesis) (follows_seq (parameters_follow r l a parameter_kind.Positional) (follows_maybe (optional_parameters_follow r l a))))
    (λ read other x y p.
    let all = all_same r (x.1.0 ++ listed_or_none x.1.1) (y.1.0 ++ listed_or_none y.1.1) (append_related (Same r) x.1.0 y.1.0 (listed_or_none x.1.1) (listed_or_none y.1.1) p.1.0 (listed_related (Same r) x.1.1 y.1.1 p.1.1)) in
    record { shown = λ n. rw (all.shown n) refl; high = all.high; open_end = refl; last = refl })

parameter_type_follows : (r : Readers) (l : Lower) → Followed r l → Follows r (Same r) (take_parameter_type l)
unfolding take_parameter_type
parameter_type_follows r l a =
    follows_make (Same r) parameter_type_of (follows_seq a.written (follows_maybe (named r)))
    (λ read other x y p. record { shown = λ n. rw (p.0.shown n, option_bare x.1 y.1 p.1) refl; high = p.0.high; open_end = refl; last = refl })

abbrev pub TailSame : Readers → Tail → Tail → Type 0
TailSame r (tail a b c d) (tail e f g h) = Alls (Same r) a e × (Alls (Same r) b f × (Alls (Same r) c g × (d ≡ h)))

tail_follows : (r : Readers) (l : Lower) → Followed r l → (question ends : Test Token) → Blind r question → Blind r ends → Follows r (TailSame r) (take_tail_before l question ends)
unfolding take_tail_before take_tail
tail_follows r l a question ends b e =
    follows_before ends e
    (follows_turn (TailSame r) tail_of
    (follows_seq (mark r kind.Function)
    (follows_seq (follows_maybe (type_parameters_follow r l a))
    (follows_seq (follows_inside (is kind.OpenParenthesis) (blind_is kind.OpenParenthesis) (follows_seq (follows_elements (parameter_type_follows r l a) (mark r kind.Comma)) (follows_maybe (optional_parameters_follow r l a)))) (question_follows r question b))))
    (λ x y p. (listed_related (Same r) x.1.0 y.1.0 p.1.0, (p.1.1.0.1.0, (listed_related (Same r) x.1.1.0.1.1 y.1.1.0.1.1 p.1.1.0.1.1, some_same Twins x.1.1.1 y.1.1.1 p.1.1.1)))))

function_type_same : (r : Readers) (read other : List Token) (o p : Option Tree) → Both (Same r) o p → (t u : Tail) → TailSame r t u → Same r (function_type_with read o t) (function_type_with other p u)
function_type_same r read other o p b (tail c d e f) (tail g h i j) q =
    let result = part_same r o p b in
    let one = all_same r c g q.0 in
    let two = all_same r d h q.1.0 in
    let three = all_same r e i q.1.1.0 in
    record { shown = λ n. rw (result.shown (n - 1), one.shown (n - 1), two.shown (n - 1), three.shown (n - 1), q.1.1.1) refl; high = rw (result.high, one.high, two.high, three.high) refl; open_end = refl; last = refl }

pub type_follows : (r : Readers) (n : ℕ) (l : Lower) → Followed r l → (question ends : Test Token) → Blind r question → Blind r ends → Follows r (Same r) (take_type n l question ends)
unfolding take_type
type_follows r n l a question ends b e =
    follows_chain every_time (fits n) next_tail_of (λ x y ts us p s. agree_length ts us s.agree)
    (follows_or (follows_make (Same r) first_tail_of (tail_follows r l a question ends b e) (λ read other x y p. function_type_same r read other None None tt x y p)) (plain_type_follows r l a question b)) (tail_follows r l a question ends b e)
    (fits_same r n) (λ read other x y z w p q. function_type_same r read other (Some x) (Some y) p z w q)

-- Operators.

abbrev pub SameBinary : BinaryOperator → BinaryOperator → Type 0
SameBinary x y = x.kind ≡ y.kind

abbrev pub SameAssignment : AssignmentOperator → AssignmentOperator → Type 0
SameAssignment x y = x.compound ≡ y.compound

abbrev pub SameUnary : UnaryOperator → UnaryOperator → Type 0
SameUnary x y = x.kind ≡ y.kind

abbrev pub SamePostfix : PostfixOperator → PostfixOperator → Type 0
SamePostfix x y = x.kind ≡ y.kind

binary_found : (l : Level) (span other : Span) (s : Sign) → Both SameBinary (binary_of l span s) (binary_of l other s)
binary_found l span other (sign.Binary operator) =
    let b = sameb levels_of.the_type (level_of operator) l in if_found SameBinary b b (Some (record { kind = operator; span = span })) None (Some (record { kind = operator; span = other })) None refl refl tt
binary_found l span other (sign.Assign compound) = tt

assignment_found : (span other : Span) (s : Sign) → Both SameAssignment (assignment_of span s) (assignment_of other s)
assignment_found span other (sign.Binary operator) = tt
assignment_found span other (sign.Assign compound) = refl

assignment_follows : (r : Readers) → Follows r SameAssignment take_assignment
assignment_follows r = follows_sign r SameAssignment assignment_of assignment_found

prefix_follows : (r : Readers) → Follows r SameUnary take_prefix
unfolding take_prefix
prefix_follows r =
    follows_where (heads kind.Minus) (blind_heads r kind.Minus) (follows_turn SameUnary (unary_at unary.Negate) (mark r kind.Minus) (λ x y p. refl))
    (follows_where (heads kind.Bang) (blind_heads r kind.Bang) (follows_turn SameUnary (unary_at unary.Not) (mark r kind.Bang) (λ x y p. refl))
    (follows_where (heads kind.Tilde) (blind_heads r kind.Tilde) (follows_turn SameUnary (unary_at unary.Complement) (mark r kind.Tilde) (λ x y p. refl))
    (follows_where (heads kind.PlusPlus) (blind_heads r kind.PlusPlus) (follows_turn SameUnary (unary_at unary.Increment) (mark r kind.PlusPlus) (λ x y p. refl))
    (follows_turn SameUnary (unary_at unary.Decrement) (mark r kind.MinusMinus) (λ x y p. refl)))))

postfix_follows : (r : Readers) → Follows r SamePostfix take_postfix
unfolding take_postfix
postfix_follows r =
    follows_where (heads kind.PlusPlus) (blind_heads r kind.PlusPlus) (follows_turn SamePostfix (postfix_at postfix.Increment) (mark r kind.PlusPlus) (λ x y p. refl))
    (follows_turn SamePostfix (postfix_at postfix.Decrement) (mark r kind.MinusMinus) (λ x y p. refl))

-- Expressions.

interpolation_same : (r : Readers) (read other : List Token) (x y : Token × Tree) → Pair Twins (Same r) x y → Same r (simple_interpolation_of read x) (simple_interpolation_of other y)
interpolation_same r read other x y p = record { shown = λ n. rw (p.1.shown n) refl; high = p.1.high; open_end = refl; last = refl }

text_same : (r : Readers) (t u : Token) → Twins t u → Same r (string_text_of t) (string_text_of u)
text_same r t u p = record { shown = λ n. rw (p.kind, p.word) refl; high = refl; open_end = refl; last = refl }

identifier_same : (r : Readers) (t u : Token) → Twins t u → Same r (identifier_of t) (identifier_of u)
identifier_same r t u p = record { shown = λ n. rw p.word refl; high = refl; open_end = refl; last = refl }

this_same : (r : Readers) (t u : Token) → Twins t u → Same r (this_of t) (this_of u)
this_same r t u p = record { shown = λ n. refl; high = refl; open_end = refl; last = refl }

string_part_follows : (r : Readers) (l : Lower) → Followed r l → Follows r (Same r) (take_string_part l)
unfolding take_string_part take_interpolation
string_part_follows r l a =
    follows_where (heads kind.StringPart) (blind_heads r kind.StringPart) (follows_turn (Same r) string_text_of (mark r kind.StringPart) (text_same r))
    (follows_where (heads kind.InterpolationMark) (blind_heads r kind.InterpolationMark) (follows_make (Same r) simple_interpolation_of (follows_seq (mark r kind.InterpolationMark) a.simple) (interpolation_same r))
    (follows_make (Same r) simple_interpolation_of (follows_inside (is kind.InterpolationOpening) (blind_is kind.InterpolationOpening) (a.expression setting.Plain)) (interpolation_same r)))

pub string_follows : (r : Readers) (l : Lower) → Followed r l → Follows r (Same r) (take_string l)
unfolding take_string
string_follows r l a =
    let whole = is_either kind.StringLiteral kind.UnterminatedString in
    let blind = blind_either kind.StringLiteral kind.UnterminatedString in
    follows_where (next whole) (blind_next r whole blind) (follows_turn (Same r) simple_string_of (follows_token r whole blind) (λ x y p. record { shown = λ n. rw (p.kind, p.word) refl; high = refl; open_end = refl; last = refl }))
    (follows_make (Same r) interpolated_of (follows_seq (mark r kind.StringOpening) (follows_seq (follows_many (string_part_follows r l a)) (mark r kind.StringClosing)))
    (λ read other x y p.
    let all = all_same r (string_text_of x.0 ∷ (x.1.0 ++ string_text_of x.1.1 ∷ [])) (string_text_of y.0 ∷ (y.1.0 ++ string_text_of y.1.1 ∷ []))
    (text_same r x.0 y.0 p.0, append_related (Same r) x.1.0 y.1.0 (string_text_of x.1.1 ∷ []) (string_text_of y.1.1 ∷ []) p.1.0 (text_same r x.1.1 y.1.1 p.1.1, tt)) in
    record { shown = λ n. rw (all.shown n) refl; high = all.high; open_end = refl; last = refl }))

strings_follow : (r : Readers) (l : Lower) → Followed r l → Follows r (Same r) (take_strings l)
unfolding take_strings
strings_follow r l a =
    follows_make (Same r) strings_of (follows_seq (string_follows r l a) (follows_many (string_follows r l a)))
    (λ read other x y p. let all = all_same r (x.0 ∷ x.1) (y.0 ∷ y.1) p in record { shown = λ n. rw (all.shown (n - 1)) refl; high = rw all.high refl; open_end = refl; last = refl })

argument_follows : (r : Readers) (l : Lower) → Followed r l → Follows r (Same r) (take_argument l)
unfolding take_argument
argument_follows r l a =
    follows_where heads_label (blind_label r)
    (follows_make (Same r) named_of (follows_seq (named r) (follows_seq (mark r kind.Colon) (a.expression setting.Listed))) (λ read other x y p. record { shown = λ n. rw (p.0.word, p.1.1.shown n) refl; high = p.1.1.high; open_end = refl; last = refl }))
    (follows_make (Same r) positional_of (a.expression setting.Listed) (λ read other x y p. record { shown = λ n. rw (p.shown n) refl; high = p.high; open_end = refl; last = refl }))

pub arguments_follow : (r : Readers) (l : Lower) → Followed r l → Follows r (Same r) (take_arguments l)
unfolding take_arguments
arguments_follow r l a =
    follows_make (Same r) arguments_of (follows_inside (is kind.OpenParenthesis) (blind_is kind.OpenParenthesis) (follows_elements (argument_follows r l a) (mark r kind.Comma)))
    (λ read other x y p. let all = all_same r x.1 y.1 p.1 in record { shown = λ n. rw (all.shown n) refl; high = all.high; open_end = refl; last = refl })

pub simple_follows : (r : Readers) → Follows r (Same r) take_simple
unfolding take_simple
simple_follows r = follows_where heads_name (blind_heads_name r) (follows_turn (Same r) identifier_of (named r) (identifier_same r)) (follows_turn (Same r) this_of (mark r kind.This) (this_same r))

name_follows : (r : Readers) (l : Lower) → Followed r l → Follows r (Same r) (take_name l)
unfolding take_name
name_follows r l a =
    follows_where heads_generic (blind_generic r)
    (follows_make (Same r) generic_of (follows_seq (named r) (type_arguments_follow r l a)) (λ read other x y p. record { shown = λ n. rw (p.0.word, p.1.shown (n - 1)) refl; high = rw p.1.high refl; open_end = refl; last = refl }))
    (follows_turn (Same r) identifier_of (named r) (identifier_same r))

parenthesis_follows : (r : Readers) (l : Lower) → Followed r l → Follows r (Same r) (take_parenthesis l)
unfolding take_parenthesis
parenthesis_follows r l a =
    follows_make (Same r) parenthesis_of (follows_inside (is kind.OpenParenthesis) (blind_is kind.OpenParenthesis) (a.expression setting.Plain))
    (λ read other x y p. record { shown = λ n. rw (p.1.shown (n - 1)) refl; high = rw p.1.high refl; open_end = refl; last = refl })

closure_follows : (r : Readers) (m : Setting) (l : Lower) → Followed r l → Follows r (Same r) (take_closure m l)
unfolding take_closure
closure_follows r m l a =
    follows_make (Same r) closure_of
    (follows_seq (parameter_list_follows r l a)
    (follows_where (heads kind.Arrow) (blind_heads r kind.Arrow)
    (follows_make (Same r) arrow_of (follows_seq (mark r kind.Arrow) (a.expression m)) (λ read other x y p. record { shown = λ n. rw (p.1.shown n) refl; high = p.1.high; open_end = refl; last = refl })) a.block))
    (λ read other x y p. record { shown = λ n. rw (p.0.shown (n - 1), p.1.shown (n - 1)) refl; high = rw (p.0.high, p.1.high) refl; open_end = refl; last = ap (λ (z : Bool × Bool). (z.0, false)) p.1.last })

new_follows : (r : Readers) (l : Lower) → Followed r l → Follows r (Same r) (take_new l)
unfolding take_new
new_follows r l a =
    follows_make (Same r) new_of
    (follows_seq (mark r kind.New) (follows_seq a.constructed (follows_seq (follows_maybe (follows_seq (mark r kind.Period) (named r))) (arguments_follow r l a))))
    (λ read other x y p. record { shown = λ n. rw (p.1.0.shown (n - 1), behind_bare x.1.1.0 y.1.1.0 p.1.1.0, p.1.1.1.shown (n - 1)) refl; high = rw (p.1.0.high, p.1.1.1.high) refl; open_end = refl; last = refl })

entry_follows : (r : Readers) (l : Lower) → Followed r l → Follows r (Same r) (take_entry l)
unfolding take_entry
entry_follows r l a =
    follows_make (Same r) entry_of (follows_seq (a.expression setting.Listed) (follows_maybe (follows_seq (mark r kind.Colon) (a.expression setting.Listed))))
    (λ read other x y p. let value = behind_same r x.1 y.1 p.1 in record { shown = λ n. rw (p.0.shown n, value.shown n) refl; high = rw (p.0.high, value.high) refl; open_end = refl; last = refl })

abbrev pub ContentsSame : Readers → Contents → Contents → Type 0
ContentsSame r (listed x) (listed y) = Alls (Same r) x y
ContentsSame r (listed x) (entries y) = ⊥
ContentsSame r (entries x) (listed y) = ⊥
ContentsSame r (entries x) (entries y) = Alls (Same r) x y

collection_same : (r : Readers) (read other : List Token) (o p : Option Tree) → Both (Same r) o p → (x y : Contents) → ContentsSame r x y → Same r (collection_with read o x) (collection_with other p y)
collection_same r read other o p b (listed x) (listed y) q =
    let arguments = part_same r o p b in
    let all = all_same r x y q in
    record { shown = λ n. rw (arguments.shown (n - 1), all.shown (n - 1)) refl; high = rw (arguments.high, all.high) refl; open_end = refl; last = refl }
collection_same r read other o p b (listed x) (entries y) q = absurd q
collection_same r read other o p b (entries x) (listed y) q = absurd q
collection_same r read other o p b (entries x) (entries y) q =
    let arguments = part_same r o p b in
    let all = all_same r x y q in
    record { shown = λ n. rw (arguments.shown (n - 1), all.shown (n - 1)) refl; high = rw (arguments.high, all.high) refl; open_end = refl; last = refl }

collection_follows : (r : Readers) (l : Lower) → Followed r l → Follows r (Same r) (take_collection l)
unfolding take_collection
collection_follows r l a =
    follows_make (Same r) collection_of
    (follows_seq (follows_maybe (type_arguments_follow r l a))
    (follows_where (heads kind.OpenBracket) (blind_heads r kind.OpenBracket)
    (follows_turn (ContentsSame r) listed_of (follows_inside (is kind.OpenBracket) (blind_is kind.OpenBracket) (follows_elements (a.expression setting.Listed) (mark r kind.Comma))) (λ x y p. p.1))
    (follows_turn (ContentsSame r) entries_of (follows_inside (is kind.OpenBrace) (blind_is kind.OpenBrace) (follows_elements (entry_follows r l a) (mark r kind.Comma))) (λ x y p. p.1))))
    (λ read other x y p. collection_same r read other x.0 y.0 p.0 x.1 y.1 p.1)

primary_follows : (r : Readers) (m : Setting) (l : Lower) → Followed r l → Follows r (Same r) (take_primary m l)
unfolding take_primary
primary_follows r m l a =
    follows_where (heads kind.Integer) (blind_heads r kind.Integer) (follows_turn (Same r) integer_of (mark r kind.Integer) (λ x y p. record { shown = λ n. rw p.word refl; high = refl; open_end = refl; last = refl }))
    (follows_where (next begins_string) (blind_next r begins_string blind_string) (strings_follow r l a)
    (follows_where (heads kind.True) (blind_heads r kind.True) (follows_turn (Same r) (boolean_of true) (mark r kind.True) (λ x y p. record { shown = λ n. refl; high = refl; open_end = refl; last = refl }))
    (follows_where (heads kind.False) (blind_heads r kind.False) (follows_turn (Same r) (boolean_of false) (mark r kind.False) (λ x y p. record { shown = λ n. refl; high = refl; open_end = refl; last = refl }))
    (follows_where (heads kind.Null) (blind_heads r kind.Null) (follows_turn (Same r) null_of (mark r kind.Null) (λ x y p. record { shown = λ n. refl; high = refl; open_end = refl; last = refl }))
    (follows_where (heads kind.This) (blind_heads r kind.This) (follows_turn (Same r) this_of (mark r kind.This) (this_same r))
    (follows_where (heads kind.Super) (blind_heads r kind.Super) (follows_turn (Same r) super_of (mark r kind.Super) (λ x y p. record { shown = λ n. refl; high = refl; open_end = refl; last = refl }))
    (follows_where heads_name (blind_heads_name r) (name_follows r l a)
    (follows_where (heads kind.OpenParenthesis) (blind_heads r kind.OpenParenthesis) (follows_where (heads_closure m) (blind_closure r m) (closure_follows r m l a) (parenthesis_follows r l a))
    (follows_where (heads kind.New) (blind_heads r kind.New) (new_follows r l a) (collection_follows r l a))))))))))

abbrev pub SelectorSame : Readers → Selector → Selector → Type 0
SelectorSame r (member null_aware name) (member null_aware_ name_) = (null_aware ≡ null_aware_) × (name.word ≡ name_.word)
SelectorSame r (member null_aware name) (element null_aware_ bracket_ index_) = ⊥
SelectorSame r (member null_aware name) check = ⊥
SelectorSame r (member null_aware name) (called types_ arguments_) = ⊥
SelectorSame r (element null_aware bracket index) (member null_aware_ name_) = ⊥
SelectorSame r (element null_aware bracket index) (element null_aware_ bracket_ index_) = (null_aware ≡ null_aware_) × Same r index index_
SelectorSame r (element null_aware bracket index) check = ⊥
SelectorSame r (element null_aware bracket index) (called types_ arguments_) = ⊥
SelectorSame r check (member null_aware_ name_) = ⊥
SelectorSame r check (element null_aware_ bracket_ index_) = ⊥
SelectorSame r check check = Unit {0}
SelectorSame r check (called types_ arguments_) = ⊥
SelectorSame r (called types arguments) (member null_aware_ name_) = ⊥
SelectorSame r (called types arguments) (element null_aware_ bracket_ index_) = ⊥
SelectorSame r (called types arguments) check = ⊥
SelectorSame r (called types arguments) (called types_ arguments_) = Both (Same r) types types_ × Same r arguments arguments_

selected_same : (r : Readers) (read other : List Token) (x y : Tree) → Same r x y → (s t : Selector) → SelectorSame r s t → Same r (select_with read x s) (select_with other y t)
selected_same r read other x y p (member null_aware name) (member null_aware_ name_) q = record { shown = λ n. rw (p.shown (n - 1), q.0, q.1) refl; high = rw p.high refl; open_end = refl; last = refl }
selected_same r read other x y p (member null_aware name) (element null_aware_ bracket_ index_) q = absurd q
selected_same r read other x y p (member null_aware name) check q = absurd q
selected_same r read other x y p (member null_aware name) (called types_ arguments_) q = absurd q
selected_same r read other x y p (element null_aware bracket index) (member null_aware_ name_) q = absurd q
selected_same r read other x y p (element null_aware bracket index) (element null_aware_ bracket_ index_) q = record { shown = λ n. rw (p.shown (n - 1), q.0, q.1.shown (n - 1)) refl; high = rw (p.high, q.1.high) refl; open_end = refl; last = refl }
selected_same r read other x y p (element null_aware bracket index) check q = absurd q
selected_same r read other x y p (element null_aware bracket index) (called types_ arguments_) q = absurd q
selected_same r read other x y p check (member null_aware_ name_) q = absurd q
selected_same r read other x y p check (element null_aware_ bracket_ index_) q = absurd q
selected_same r read other x y p check check q = record { shown = λ n. rw (p.shown (n - 1)) refl; high = rw p.high refl; open_end = refl; last = refl }
selected_same r read other x y p check (called types_ arguments_) q = absurd q
selected_same r read other x y p (called types arguments) (member null_aware_ name_) q = absurd q
selected_same r read other x y p (called types arguments) (element null_aware_ bracket_ index_) q = absurd q
selected_same r read other x y p (called types arguments) check q = absurd q
selected_same r read other x y p (called types arguments) (called types_ arguments_) q = let part = part_same r types types_ q.0 in record { shown = λ n. rw (p.shown (n - 1), part.shown (n - 1), q.1.shown (n - 1)) refl; high = rw (p.high, part.high, q.1.high) refl; open_end = refl; last = refl }

selector_follows : (r : Readers) (m : Setting) (l : Lower) → Followed r l → Follows r (SelectorSame r) (take_selector m l)
unfolding take_selector
selector_follows r m l a =
    follows_where (heads kind.Period) (blind_heads r kind.Period) (follows_turn (SelectorSame r) (member_of false) (follows_seq (mark r kind.Period) (named r)) (λ x y p. (refl, p.1.word)))
    (follows_where (heads kind.QuestionPeriod) (blind_heads r kind.QuestionPeriod) (follows_turn (SelectorSame r) (member_of true) (follows_seq (mark r kind.QuestionPeriod) (named r)) (λ x y p. (refl, p.1.word)))
    (follows_where (heads kind.OpenBracket) (blind_heads r kind.OpenBracket) (follows_turn (SelectorSame r) (element_of false) (follows_inside (is kind.OpenBracket) (blind_is kind.OpenBracket) (a.expression setting.Plain)) (λ x y p. (refl, p.1)))
    (follows_where (heads kind.QuestionBracket) (blind_heads r kind.QuestionBracket) (follows_turn (SelectorSame r) (element_of true) (follows_inside (is kind.QuestionBracket) (blind_is kind.QuestionBracket) (a.expression setting.Plain)) (λ x y p. (refl, p.1)))
    (follows_where (heads kind.Bang) (blind_heads r kind.Bang) (follows_turn (SelectorSame r) check_of (mark r kind.Bang) (λ x y p. tt))
    (follows_where (heads kind.OpenParenthesis) (blind_heads r kind.OpenParenthesis) (follows_turn (SelectorSame r) plain_call_of (arguments_follow r l a) (λ x y p. (tt, p)))
    (follows_where (heads_call m) (blind_call r m) (follows_turn (SelectorSame r) generic_call_of (follows_seq (type_arguments_follow r l a) (arguments_follow r l a)) (λ x y p. (p.0, p.1))) (follows_none r (SelectorSame r))))))))

selected_follows : (r : Readers) (n : ℕ) (m : Setting) (l : Lower) → Followed r l → Follows r (Same r) (take_selected n m l)
unfolding take_selected
selected_follows r n m l a =
    follows_chain every_time (is_open n) select_with (λ x y ts us p s. agree_length ts us s.agree) (primary_follows r m l a) (selector_follows r m l a) (open_same r n) (λ read other x y z w p q. selected_same r read other x y p z w q)

pub unary_follows : (r : Readers) (n : ℕ) (m : Setting) (l : Lower) → Followed r l → Follows r (Same r) (take_unary n m l)
unfolding take_unary take_incremented
unary_follows r n m l a =
    follows_where (next begins_prefix) (blind_next r begins_prefix blind_prefix)
    (follows_make (Same r) unary_of (follows_seq (prefix_follows r) (a.unary m)) (λ read other x y p. record { shown = λ n. rw (p.0, p.1.shown (n - 1)) refl; high = rw p.1.high refl; open_end = refl; last = p.1.last }))
    (follows_chain one_time (is_open n) postfix_of (λ x y ts us p s. refl) (selected_follows r n m l a) (postfix_follows r) (open_same r n)
    (λ read other x y z w p q. record { shown = λ n. rw (q, p.shown (n - 1)) refl; high = rw p.high refl; open_end = refl; last = refl }))

abbrev pub SideSame : Readers → Side → Side → Type 0
SideSame r (operated operator right) (operated operator_ right_) = (operator.kind ≡ operator_.kind) × Same r right right_
SideSame r (operated operator right) (tested negated_ written_) = ⊥
SideSame r (operated operator right) (cast written_) = ⊥
SideSame r (operated operator right) (choices one_ two_) = ⊥
SideSame r (tested negated written) (operated operator_ right_) = ⊥
SideSame r (tested negated written) (tested negated_ written_) = (negated ≡ negated_) × Same r written written_
SideSame r (tested negated written) (cast written_) = ⊥
SideSame r (tested negated written) (choices one_ two_) = ⊥
SideSame r (cast written) (operated operator_ right_) = ⊥
SideSame r (cast written) (tested negated_ written_) = ⊥
SideSame r (cast written) (cast written_) = Same r written written_
SideSame r (cast written) (choices one_ two_) = ⊥
SideSame r (choices one two) (operated operator_ right_) = ⊥
SideSame r (choices one two) (tested negated_ written_) = ⊥
SideSame r (choices one two) (cast written_) = ⊥
SideSame r (choices one two) (choices one_ two_) = Same r one one_ × Same r two two_

sided_same : (r : Readers) (read other : List Token) (x y : Tree) → Same r x y → (s t : Side) → SideSame r s t → Same r (side_with read x s) (side_with other y t)
sided_same r read other x y p (operated operator right) (operated operator_ right_) q = record { shown = λ n. rw (q.0, p.shown (n - 1), q.1.shown (n - 1)) refl; high = rw (p.high, q.1.high) refl; open_end = refl; last = q.1.last }
sided_same r read other x y p (operated operator right) (tested negated_ written_) q = absurd q
sided_same r read other x y p (operated operator right) (cast written_) q = absurd q
sided_same r read other x y p (operated operator right) (choices one_ two_) q = absurd q
sided_same r read other x y p (tested negated written) (operated operator_ right_) q = absurd q
sided_same r read other x y p (tested negated written) (tested negated_ written_) q = record { shown = λ n. rw (q.0, p.shown (n - 1), q.1.shown (n - 1)) refl; high = rw (p.high, q.1.high) refl; open_end = refl; last = refl }
sided_same r read other x y p (tested negated written) (cast written_) q = absurd q
sided_same r read other x y p (tested negated written) (choices one_ two_) q = absurd q
sided_same r read other x y p (cast written) (operated operator_ right_) q = absurd q
sided_same r read other x y p (cast written) (tested negated_ written_) q = absurd q
sided_same r read other x y p (cast written) (cast written_) q = record { shown = λ n. rw (p.shown (n - 1), q.shown (n - 1)) refl; high = rw (p.high, q.high) refl; open_end = refl; last = refl }
sided_same r read other x y p (cast written) (choices one_ two_) q = absurd q
sided_same r read other x y p (choices one two) (operated operator_ right_) q = absurd q
sided_same r read other x y p (choices one two) (tested negated_ written_) q = absurd q
sided_same r read other x y p (choices one two) (cast written_) q = absurd q
sided_same r read other x y p (choices one two) (choices one_ two_) q = record { shown = λ n. rw (p.shown (n - 1), q.0.shown (n - 1), q.1.shown (n - 1)) refl; high = rw (p.high, q.0.high, q.1.high) refl; open_end = refl; last = refl }

operated_follows : (r : Readers) (m : Setting) (l : Lower) → Followed r l → (which : Level) (above : List Level) → Follows r (SideSame r) (take_operated m l which above)
unfolding take_operated
operated_follows r m l a which above = follows_turn (SideSame r) operated_of (follows_seq (follows_sign r SameBinary (binary_of which) (binary_found which)) (a.operand m above)) (λ x y p. p)

right_follows : (r : Readers) (m : Setting) (l : Lower) → Followed r l → (which : Level) (above : List Level) → Follows r (SideSame r) (take_right m l which above)
unfolding take_right
right_follows r m l a level.Conditional above =
    follows_turn (SideSame r) choices_of (follows_seq (mark r kind.Question) (follows_seq (a.expression m) (follows_seq (mark r kind.Colon) (a.expression m)))) (λ x y p. (p.1.0, p.1.1.1))
right_follows r m l a level.Relation above =
    follows_where (heads_sign (is_binary level.Relation)) (blind_sign r (is_binary level.Relation)) (operated_follows r m l a level.Relation above)
    (follows_where (heads kind.Is) (blind_heads r kind.Is) (follows_turn (SideSame r) tested_of (follows_seq (mark r kind.Is) (follows_seq (follows_maybe (mark r kind.Bang)) (a.tested m))) (λ x y p. (some_same Twins x.1.0 y.1.0 p.1.0, p.1.1)))
    (follows_turn (SideSame r) cast_of (follows_seq (mark r kind.As) (a.tested m)) (λ x y p. p.1)))
right_follows r m l a level.IfNull above = operated_follows r m l a level.IfNull above
right_follows r m l a level.Or above = operated_follows r m l a level.Or above
right_follows r m l a level.And above = operated_follows r m l a level.And above
right_follows r m l a level.Equality above = operated_follows r m l a level.Equality above
right_follows r m l a level.BitOr above = operated_follows r m l a level.BitOr above
right_follows r m l a level.BitXor above = operated_follows r m l a level.BitXor above
right_follows r m l a level.BitAnd above = operated_follows r m l a level.BitAnd above
right_follows r m l a level.Shift above = operated_follows r m l a level.Shift above
right_follows r m l a level.Sum above = operated_follows r m l a level.Sum above
right_follows r m l a level.Product above = operated_follows r m l a level.Product above

times_same : (r : Readers) (m : Setting) (l : Level) (x y : Tree) (ts us : List Token) → Same r x y → Alike r ts us → times_behind m l x ts ≡ times_behind m l y us
times_same r m level.Conditional x y ts us p s = refl
times_same r m level.IfNull x y ts us p s = agree_length ts us s.agree
times_same r m level.Or x y ts us p s = agree_length ts us s.agree
times_same r m level.And x y ts us p s = agree_length ts us s.agree
times_same r m level.Equality x y ts us p s = refl
times_same r m level.Relation x y ts us p s = rw (blind_call r m ts us s, ends_same r x y p) refl
times_same r m level.BitOr x y ts us p s = agree_length ts us s.agree
times_same r m level.BitXor x y ts us p s = agree_length ts us s.agree
times_same r m level.BitAnd x y ts us p s = agree_length ts us s.agree
times_same r m level.Shift x y ts us p s = agree_length ts us s.agree
times_same r m level.Sum x y ts us p s = agree_length ts us s.agree
times_same r m level.Product x y ts us p s = agree_length ts us s.agree

pub operand_follows : (r : Readers) (n : ℕ) (m : Setting) (l : Lower) → Followed r l → (above : List Level) → Follows r (Same r) (take_operand n m l above)
unfolding take_operand
operand_follows r n m l a above =
    follows_levels (times_behind m) (is_open n) side_with (times_same r m) (right_follows r m l a) (open_same r n) (λ read other x y z w p q. sided_same r read other x y p z w q) (unary_follows r n m l a) above

assigned_same : (r : Readers) (read other : List Token) (x y : Tree) (z w : AssignmentOperator × Tree) → Same r x y → Pair SameAssignment (Same r) z w → Same r (assign_of read x z) (assign_of other y w)
assigned_same r read other x y z w p q = record { shown = λ n. rw (q.0, p.shown (n - 1), q.1.shown (n - 1)) refl; high = rw (p.high, q.1.high) refl; open_end = refl; last = q.1.last }

pub section_head_follows : (r : Readers) (expression : Descent Token Tree) → Follows r (Same r) expression → Follows r (Same r) (take_section_head expression)
unfolding take_section_head
section_head_follows r expression e =
    follows_where heads_name (blind_heads_name r) (follows_turn (Same r) cascaded_name_of (named r) (λ x y p. record { shown = λ n. rw p.word refl; high = refl; open_end = refl; last = refl }))
    (follows_make (Same r) cascaded_index_of (follows_inside (is kind.OpenBracket) (blind_is kind.OpenBracket) e) (λ read other x y p. record { shown = λ n. rw (p.1.shown n) refl; high = p.1.high; open_end = refl; last = refl }))

pub section_follows : (r : Readers) (n : ℕ) (m : Setting) (l : Lower) → Followed r l → (expression : Descent Token Tree) → Follows r (Same r) expression → Follows r (Same r) (take_section n m l expression)
unfolding take_section
section_follows r n m l a expression e =
    follows_chain one_time (is_open n) assign_of (λ x y ts us p s. refl)
    (follows_chain every_time (is_open n) select_with (λ x y ts us p s. agree_length ts us s.agree) (section_head_follows r expression e) (selector_follows r m l a) (open_same r n) (λ read other x y z w p q. selected_same r read other x y p z w q))
    (follows_seq (assignment_follows r) (a.operand m table)) (open_same r n) (assigned_same r)

cascade_section_follows : (r : Readers) (m : Setting) (l : Lower) → Followed r l → Follows r (Pair Equal (Same r)) (take_cascade_section m l)
unfolding take_cascade_section
cascade_section_follows r m l a =
    follows_where (heads kind.PeriodPeriod) (blind_heads r kind.PeriodPeriod) (follows_turn (Pair Equal (Same r)) (section_of false) (follows_seq (mark r kind.PeriodPeriod) (a.section m)) (λ x y p. (refl, p.1)))
    (follows_turn (Pair Equal (Same r)) (section_of true) (follows_seq (mark r kind.QuestionPeriodPeriod) (a.section m)) (λ x y p. (refl, p.1)))

pub expression_follows : (r : Readers) (n : ℕ) (m : Setting) (l : Lower) → Followed r l → Follows r (Same r) (take_expression n m l)
unfolding take_expression take_assignment_expression take_throw take_cascade
expression_follows r n m l a =
    follows_or (follows_once (is_open n) assign_of (unary_follows r n m l a) (follows_seq (assignment_follows r) (a.expression m)) (open_same r n) (assigned_same r))
    (follows_where (heads kind.Throw) (blind_heads r kind.Throw)
    (follows_make (Same r) throw_of (follows_seq (mark r kind.Throw) (a.expression m)) (λ read other x y p. record { shown = λ n. rw (p.1.shown (n - 1)) refl; high = rw p.1.high refl; open_end = refl; last = refl }))
    (follows_chain every_time (is_open n) cascade_of (λ x y ts us p s. agree_length ts us s.agree) (operand_follows r n m l a table) (cascade_section_follows r m l a) (open_same r n)
    (λ read other x y z w p q. record { shown = λ n. rw (p.shown (n - 1), q.0, q.1.shown (n - 1)) refl; high = rw (p.high, q.1.high) refl; open_end = refl; last = q.1.last })))
