-- The parser's way finds what the rules of expressions read.
use Rattle.std.proofs.Common.{◌≡◌, ℕ, ◌<◌, ◌++◌, Bool, true, false, ◌||◌, List, [], ◌∷◌, Option, Some, None, length, if◌then◌else◌, refl, ap, subst, sym, ◌∙◌, inr, arith}
use Rattle.readings.specs.Readings.{Reading, Rule, Test, next, nothing, either, optional, token, turn, ◌▹◌, ◌∣◌}
use Rattle.readings.specs.Descent.{Descent, bind, climb, take_token, take_turn, ◌▸◌, take_where, take_onto}
use Rattle.readings.specs.Leading.{Each, Apart, Within, Late, Parses, Sole}
use Rattle.readings.specs.Combinators.{parses_none, parses_within, parses_token, parses_make, parses_turn, parses_seq, parses_sole, sole_longest}
use Rattle.readings.specs.Choices.{Wins, parses_first, parses_switch, parses_where}
use Rattle.readings.specs.Repetition.{parses_last, parses_offered, offers_maybe, offers_many}
use Rattle.readings.specs.Chains.{parses_chain, sole_once, once_found}
use Rattle.readings.specs.Groups.{sole_inside}
use Rattle.readings.specs.Falls.{parses_falls, parses_begins, parses_misses}
use Rattle.readings.specs.Levels.{sole_levels, levels_climb, climb_stays, onto_stays}
use Rattle.readings.specs.Elements.{sole_listed}
use Rattle.dart_tokens.specs.declared.token.Kind.TheVariants as kind
use Rattle.dart_tree.specs.Tree.{Tree}
use Rattle.dart_tokens.specs.declared.grouped_token.GroupedToken.{GroupedToken as Token}
use Rattle.grammar.specs.declared.level.Level.{Level}
use Rattle.grammar.specs.declared.level.Level.TheVariants as level
use Rattle.grammar.specs.declared.level.Setting.{Setting}
use Rattle.grammar.specs.declared.level.Setting.TheVariants as setting
use Rattle.grammar.specs.Tokens.{is, is_either, is_name, heads, heads_name, width, past}
use Rattle.grammar.specs.Operators.{table, heads_sign, is_binary, is_assignment, take_assignment, assignment_rule}
use Rattle.grammar.specs.Types.{Below, every_time, type_arguments_rule}
use Rattle.grammar.specs.Expressions.{begins_expression, simple_string_of, string_text_of, simple_interpolation_of, interpolation_rule, string_part_rule, interpolated_of, string_rule, strings_of, strings_rule, heads_label, positional_of, named_of, argument_rule, arguments_of, arguments_rule, integer_of, boolean_of, null_of, this_of, super_of, identifier_of, simple_rule, generic_of, heads_generic, name_rule, parenthesis_of, parenthesis_rule, arrow_of, closure_of, heads_closure, closure_rule, new_of, new_rule, entry_of, entry_rule, listed_of, entries_of, collection_of, collection_rule, primary_rule, member_of, element_of, check_of, plain_call_of, generic_call_of, heads_call, selector_rule, select_with, selected_rule, one_time, postfix_of, unary_of, incremented_rule, unary_rule, operated_of, tested_of, cast_of, choices_of, operated_rule, right_rule, times_behind, side_with, operand_rule, assign_of, assignment_expression_rule, throw_of, throw_rule, cascaded_name_of, cascaded_index_of, section_head_rule, section_rule, cascade_of, section_of, cascade_section_rule, cascade_rule, expression_rule, is_open}
use Rattle.grammar.specs.Descents.{Lower, begins_string, take_type_arguments, take_interpolation, take_string_part, take_string, take_strings, take_argument, take_arguments, take_simple, take_name, take_parenthesis, take_closure, take_new, take_entry, take_collection, take_primary, take_selector, take_selected, take_incremented, take_unary, take_operated, take_right, take_operand, take_assignment_expression, take_throw, take_section_head, take_section, take_cascade_section, take_cascade, take_expression}
use Rattle.grammar.proofs.KindTests.{far, far_second, within, settled, still}
use Rattle.grammar.proofs.TypesParse.{AllParse, begins_type, begins_primary, begins_operand, begins_section, begins_simple, type_arguments_parses, parameter_list_parses}
use Rattle.grammar.proofs.OperatorsParse.{begins_postfix, binary_sole, assignment_sole, assignment_apart, prefix_parses, postfix_parses}

-- Strings.

interpolation_parses : (d : Below) (l : Lower) → AllParse d l → Parses nothing (either (heads kind.InterpolationMark) (heads kind.InterpolationOpening)) (interpolation_rule d) (take_interpolation l)
unfolding interpolation_rule take_interpolation
interpolation_parses d l a =
    settled nothing (either (heads kind.InterpolationMark) (heads kind.InterpolationOpening))
    (parses_switch (parses_make simple_interpolation_of (parses_seq (parses_token (is kind.InterpolationMark)) (parses_sole a.simple) (still _)))
    (parses_make simple_interpolation_of (parses_sole (sole_inside (is kind.InterpolationOpening) width past (parses_sole (a.expression setting.Plain))))) (far _ _ refl (λ t ts. refl)))
    refl (λ t ts. refl) refl (λ t ts. refl)

string_part_parses : (d : Below) (l : Lower) → AllParse d l → Parses nothing (either (heads kind.StringPart) (either (heads kind.InterpolationMark) (heads kind.InterpolationOpening))) (string_part_rule d) (take_string_part l)
unfolding string_part_rule take_string_part
string_part_parses d l a =
    settled nothing (either (heads kind.StringPart) (either (heads kind.InterpolationMark) (heads kind.InterpolationOpening)))
    (parses_switch (parses_turn string_text_of (parses_token (is kind.StringPart))) (interpolation_parses d l a) (far _ _ refl (λ t ts. refl)))
    refl (λ t ts. refl) refl (λ t ts. refl)

pub string_parses : (d : Below) (l : Lower) → AllParse d l → Parses nothing (next begins_string) (string_rule d) (take_string l)
unfolding string_rule take_string
string_parses d l a =
    settled nothing (next begins_string)
    (parses_switch (parses_turn simple_string_of (parses_token (is_either kind.StringLiteral kind.UnterminatedString)))
    (parses_make interpolated_of
    (parses_seq (parses_token (is kind.StringOpening)) (parses_offered (offers_many (string_part_parses d l a) (still _)) (parses_token (is kind.StringClosing)) (far _ _ refl (λ t ts. refl))) (still _)))
    (far _ _ refl (λ t ts. refl)))
    refl (λ t ts. refl) refl (λ t ts. refl)

strings_parse : (d : Below) (l : Lower) → AllParse d l → Parses (next begins_string) (next begins_string) (strings_rule d) (take_strings l)
unfolding strings_rule take_strings
strings_parse d l a =
    settled (next begins_string) (next begins_string)
    (parses_make strings_of (parses_last (string_parses d l a) (offers_many (string_parses d l a) (still _)) (still _))) refl (λ t ts. refl) refl (λ t ts. refl)

-- Arguments.

argument_parses : (d : Below) (l : Lower) → AllParse d l → Parses nothing (next begins_expression) (argument_rule d) (take_argument l)
unfolding argument_rule take_argument
argument_parses d l a =
    settled nothing (next begins_expression)
    (parses_where heads_label
    (parses_make named_of (parses_seq (parses_token is_name) (parses_seq (parses_token (is kind.Colon)) (parses_sole (a.expression setting.Listed)) (still _)) (still _)))
    (parses_make positional_of (parses_sole (a.expression setting.Listed))))
    refl (λ t ts. refl) refl (λ t ts. refl)

pub arguments_parse : (d : Below) (l : Lower) → AllParse d l → Parses nothing (heads kind.OpenParenthesis) (arguments_rule d) (take_arguments l)
unfolding arguments_rule take_arguments
arguments_parse d l a = parses_make arguments_of (parses_sole (sole_listed (is kind.OpenParenthesis) width past (is kind.Comma) (argument_parses d l a) (still _)))

-- Primaries.

pub simple_parses : Parses nothing (next begins_simple) simple_rule take_simple
unfolding simple_rule take_simple
simple_parses =
    settled nothing (next begins_simple) (parses_switch (parses_turn identifier_of (parses_token is_name)) (parses_turn this_of (parses_token (is kind.This))) (far _ _ refl (λ t ts. refl)))
    refl (λ t ts. refl) refl (λ t ts. refl)

name_parses : (d : Below) (l : Lower) → AllParse d l → Parses nothing heads_name (name_rule d) (take_name l)
unfolding name_rule take_name
name_parses d l a =
    settled nothing heads_name
    (parses_where heads_generic (parses_make generic_of (parses_seq (parses_token is_name) (type_arguments_parses d l a) (still _)))
    (parses_turn identifier_of (parses_token is_name)))
    refl (λ t ts. refl) refl (λ t ts. refl)

parenthesis_parses : (d : Below) (l : Lower) → AllParse d l → Parses nothing (heads kind.OpenParenthesis) (parenthesis_rule d) (take_parenthesis l)
unfolding parenthesis_rule take_parenthesis
parenthesis_parses d l a = parses_make parenthesis_of (parses_sole (sole_inside (is kind.OpenParenthesis) width past (parses_sole (a.expression setting.Plain))))

closure_parses : (m : Setting) (d : Below) (l : Lower) → AllParse d l → Parses nothing (heads kind.OpenParenthesis) (closure_rule m d) (take_closure m l)
unfolding closure_rule take_closure
closure_parses m d l a =
    settled nothing (heads kind.OpenParenthesis)
    (parses_make closure_of
    (parses_seq (parameter_list_parses d l a)
    (parses_switch (parses_make arrow_of (parses_seq (parses_token (is kind.Arrow)) (parses_sole (a.expression m)) (still _))) (parses_sole a.block) (far _ _ refl (λ t ts. refl))) (still _)))
    refl (λ t ts. refl) refl (λ t ts. refl)

new_parses : (d : Below) (l : Lower) → AllParse d l → Parses nothing (heads kind.New) (new_rule d) (take_new l)
unfolding new_rule take_new
new_parses d l a =
    parses_make new_of
    (parses_seq (parses_token (is kind.New))
    (parses_seq (parses_sole a.constructed)
    (parses_offered (offers_maybe (parses_seq (parses_token (is kind.Period)) (parses_token is_name) (still _))) (arguments_parse d l a) (far _ _ refl (λ t ts. refl))) (still _)) (still _))

entry_parses : (d : Below) (l : Lower) → AllParse d l → Parses (heads kind.Colon) (next begins_expression) (entry_rule d) (take_entry l)
unfolding entry_rule take_entry
entry_parses d l a =
    settled (heads kind.Colon) (next begins_expression)
    (parses_make entry_of
    (parses_last (parses_sole (a.expression setting.Listed)) (offers_maybe (parses_seq (parses_token (is kind.Colon)) (parses_sole (a.expression setting.Listed)) (still _))) (still _)))
    refl (λ t ts. refl) refl (λ t ts. refl)

abbrev begins_collection : Token → Bool
begins_collection t = is kind.Less t || is kind.OpenBracket t || is kind.OpenBrace t

collection_parses : (d : Below) (l : Lower) → AllParse d l → Parses nothing (next begins_collection) (collection_rule d) (take_collection l)
unfolding collection_rule take_collection
collection_parses d l a =
    settled nothing (next begins_collection)
    (parses_make collection_of
    (parses_offered (offers_maybe (type_arguments_parses d l a))
    (parses_switch (parses_turn listed_of (parses_sole (sole_listed (is kind.OpenBracket) width past (is kind.Comma) (parses_sole (a.expression setting.Listed)) (still _))))
    (parses_turn entries_of (parses_sole (sole_listed (is kind.OpenBrace) width past (is kind.Comma) (entry_parses d l a) (far _ _ refl (λ t ts. refl))))) (far _ _ refl (λ t ts. refl)))
    (far _ _ refl (λ t ts. refl))))
    refl (λ t ts. refl) refl (λ t ts. refl)

group_parses : (m : Setting) (d : Below) (l : Lower) → AllParse d l →
    Parses (either nothing nothing) (either (heads kind.OpenParenthesis) (heads kind.OpenParenthesis)) (λ ts. (if heads_closure m ts then closure_rule m d ts else parenthesis_rule d ts)) (take_where (heads_closure m) (take_closure m l) (take_parenthesis l))
group_parses m d l a = parses_where (heads_closure m) (closure_parses m d l a) (parenthesis_parses d l a)

group_settled : (m : Setting) (d : Below) (l : Lower) → AllParse d l →
    Parses nothing (heads kind.OpenParenthesis) (λ ts. (if heads_closure m ts then closure_rule m d ts else parenthesis_rule d ts)) (take_where (heads_closure m) (take_closure m l) (take_parenthesis l))
group_settled m d l a = settled nothing (heads kind.OpenParenthesis) (group_parses m d l a) refl (λ t ts. refl) refl (λ t ts. refl)

primary_parses : (m : Setting) (d : Below) (l : Lower) → AllParse d l → Parses (next begins_string) (next begins_primary) (primary_rule m d) (take_primary m l)
unfolding primary_rule take_primary
primary_parses m d l a =
    settled (next begins_string) (next begins_primary)
    (parses_switch (parses_turn integer_of (parses_token (is kind.Integer)))
    (parses_switch (strings_parse d l a)
    (parses_switch (parses_turn (boolean_of true) (parses_token (is kind.True)))
    (parses_switch (parses_turn (boolean_of false) (parses_token (is kind.False)))
    (parses_switch (parses_turn null_of (parses_token (is kind.Null)))
    (parses_switch (parses_turn this_of (parses_token (is kind.This)))
    (parses_switch (parses_turn super_of (parses_token (is kind.Super)))
    (parses_switch (name_parses d l a)
    (parses_switch (group_settled m d l a)
    (parses_switch (new_parses d l a) (collection_parses d l a)
    (far _ _ refl (λ t ts. refl))) (far _ _ refl (λ t ts. refl))) (far _ _ refl (λ t ts. refl))) (far _ _ refl (λ t ts. refl))) (far _ _ refl (λ t ts. refl)))
    (far _ _ refl (λ t ts. refl))) (far _ _ refl (λ t ts. refl))) (far _ _ refl (λ t ts. refl))) (far _ _ refl (λ t ts. refl))) (far _ _ refl (λ t ts. refl)))
    refl (λ t ts. refl) refl (λ t ts. refl)

-- Selectors.

abbrev pub begins_selector : Token → Bool
begins_selector t =
    is kind.Period t || is kind.QuestionPeriod t || is kind.OpenBracket t || is kind.QuestionBracket t || is kind.Bang t || is kind.OpenParenthesis t || is kind.Less t

named_member_parses : (period : Token → Bool) → Parses nothing (next period) (token period ▹ token is_name) (take_token period ▸ take_token is_name)
named_member_parses period = parses_seq (parses_token period) (parses_token is_name) (still _)

-- a call with type arguments, where one comes next
called_parses : (m : Setting) (d : Below) (l : Lower) → AllParse d l →
    Parses nothing (heads kind.Less) (λ ts. (if heads_call m ts then turn generic_call_of (type_arguments_rule d ▹ arguments_rule d) ts else []))
    (take_where (heads_call m) (take_turn generic_call_of (take_type_arguments l ▸ take_arguments l)) (λ ts. None))
called_parses m d l a =
    settled nothing (heads kind.Less)
    (parses_where (heads_call m) (parses_turn generic_call_of (parses_seq (type_arguments_parses d l a) (arguments_parse d l a) (still _))) (parses_none nothing (heads kind.Less)))
    refl (λ t ts. refl) refl (λ t ts. refl)

selector_parses : (m : Setting) (d : Below) (l : Lower) → AllParse d l → Parses nothing (next begins_selector) (selector_rule m d) (take_selector m l)
unfolding selector_rule take_selector
selector_parses m d l a =
    settled nothing (next begins_selector)
    (parses_switch (parses_turn (member_of false) (named_member_parses (is kind.Period)))
    (parses_switch (parses_turn (member_of true) (named_member_parses (is kind.QuestionPeriod)))
    (parses_switch (parses_turn (element_of false) (parses_sole (sole_inside (is kind.OpenBracket) width past (parses_sole (a.expression setting.Plain)))))
    (parses_switch (parses_turn (element_of true) (parses_sole (sole_inside (is kind.QuestionBracket) width past (parses_sole (a.expression setting.Plain)))))
    (parses_switch (parses_turn check_of (parses_token (is kind.Bang)))
    (parses_switch (parses_turn plain_call_of (arguments_parse d l a))
    (called_parses m d l a)
    (far _ _ refl (λ t ts. refl))) (far _ _ refl (λ t ts. refl))) (far _ _ refl (λ t ts. refl))) (far _ _ refl (λ t ts. refl))) (far _ _ refl (λ t ts. refl))) (far _ _ refl (λ t ts. refl)))
    refl (λ t ts. refl) refl (λ t ts. refl)

-- Operands.

selected_parses : (n : ℕ) (m : Setting) (d : Below) (l : Lower) → AllParse d l → Parses (next begins_selector) (next begins_primary) (selected_rule n m d) (take_selected n m l)
unfolding selected_rule take_selected
selected_parses n m d l a = parses_chain every_time (is_open n) select_with (sole_longest (primary_parses m d l a)) (sole_longest (selector_parses m d l a))

incremented_parses : (n : ℕ) (m : Setting) (d : Below) (l : Lower) → AllParse d l → Parses (next begins_postfix) (next begins_primary) (incremented_rule n m d) (take_incremented n m l)
unfolding incremented_rule take_incremented
incremented_parses n m d l a = parses_chain one_time (is_open n) postfix_of (sole_longest (selected_parses n m d l a)) (sole_longest postfix_parses)

pub unary_parses : (n : ℕ) (m : Setting) (d : Below) (l : Lower) → AllParse d l → Parses (next begins_postfix) (next begins_operand) (unary_rule n m d) (take_unary n m l)
unfolding unary_rule take_unary
unary_parses n m d l a =
    settled (next begins_postfix) (next begins_operand)
    (parses_switch (parses_make unary_of (parses_seq prefix_parses (parses_sole (a.unary m)) (still _))) (incremented_parses n m d l a) (far _ _ refl (λ t ts. refl)))
    refl (λ t ts. refl) refl (λ t ts. refl)

-- what a right side of a level begins with
abbrev pub begins_side : Level → Test Token
begins_side level.Conditional = heads kind.Question
begins_side level.IfNull = heads_sign (is_binary level.IfNull)
begins_side level.Or = heads_sign (is_binary level.Or)
begins_side level.And = heads_sign (is_binary level.And)
begins_side level.Equality = heads_sign (is_binary level.Equality)
begins_side level.Relation = either (heads_sign (is_binary level.Relation)) (either (heads kind.Is) (heads kind.As))
begins_side level.BitOr = heads_sign (is_binary level.BitOr)
begins_side level.BitXor = heads_sign (is_binary level.BitXor)
begins_side level.BitAnd = heads_sign (is_binary level.BitAnd)
begins_side level.Shift = heads_sign (is_binary level.Shift)
begins_side level.Sum = heads_sign (is_binary level.Sum)
begins_side level.Product = heads_sign (is_binary level.Product)

operated_parses : (m : Setting) (d : Below) (l : Lower) → AllParse d l → (which : Level) (above : List Level) → Parses nothing (heads_sign (is_binary which)) (operated_rule m d which above) (take_operated m l which above)
unfolding operated_rule take_operated
operated_parses m d l a which above = parses_turn operated_of (parses_seq (parses_sole (binary_sole which)) (parses_sole (a.operand m above)) (still _))

right_parses : (m : Setting) (d : Below) (l : Lower) → AllParse d l → (which : Level) (above : List Level) → Parses nothing (begins_side which) (right_rule m d which above) (take_right m l which above)
unfolding right_rule take_right
right_parses m d l a level.Conditional above =
    parses_turn choices_of
    (parses_seq (parses_token (is kind.Question)) (parses_seq (parses_sole (a.expression m)) (parses_seq (parses_token (is kind.Colon)) (parses_sole (a.expression m)) (still _)) (still _)) (still _))
right_parses m d l a level.IfNull above = operated_parses m d l a level.IfNull above
right_parses m d l a level.Or above = operated_parses m d l a level.Or above
right_parses m d l a level.And above = operated_parses m d l a level.And above
right_parses m d l a level.Equality above = operated_parses m d l a level.Equality above
right_parses m d l a level.Relation above =
    parses_within nothing (begins_side level.Relation) (λ ts e. e) (λ ts e. e)
    (parses_switch (operated_parses m d l a level.Relation above)
    (parses_switch (parses_turn tested_of (parses_seq (parses_token (is kind.Is)) (parses_offered (offers_maybe (parses_token (is kind.Bang))) (settled nothing (next begins_type) (parses_sole (a.tested m)) refl (λ t ts. refl) refl (λ t ts. refl)) (far _ _ refl (λ t ts. refl))) (still _)))
    (parses_turn cast_of (parses_seq (parses_token (is kind.As)) (parses_sole (a.tested m)) (still _))) (far _ _ refl (λ t ts. refl)))
    (far_second _ _ refl (λ t ts. refl)))
right_parses m d l a level.BitOr above = operated_parses m d l a level.BitOr above
right_parses m d l a level.BitXor above = operated_parses m d l a level.BitXor above
right_parses m d l a level.BitAnd above = operated_parses m d l a level.BitAnd above
right_parses m d l a level.Shift above = operated_parses m d l a level.Shift above
right_parses m d l a level.Sum above = operated_parses m d l a level.Sum above
right_parses m d l a level.Product above = operated_parses m d l a level.Product above

pub operand_sole : (n : ℕ) (m : Setting) (d : Below) (l : Lower) → AllParse d l → (above : List Level) → Sole (next begins_operand) (operand_rule n m d above) (take_operand n m l above)
unfolding operand_rule take_operand
operand_sole n m d l a above = sole_levels (times_behind m) (is_open n) side_with (right_parses m d l a) (sole_longest (unary_parses n m d l a)) above

-- Assignments and cascades.

assigned_parses : (m : Setting) (d : Below) (l : Lower) → AllParse d l → Parses nothing (heads_sign is_assignment) (assignment_rule ▹ d.expression m) (take_assignment ▸ l.expression m)
assigned_parses m d l a = parses_seq (parses_sole assignment_sole) (parses_sole (a.expression m)) (still _)

pub assignment_expression_sole : (n : ℕ) (m : Setting) (d : Below) (l : Lower) → AllParse d l → Sole (next begins_operand) (assignment_expression_rule n m d) (take_assignment_expression n m l)
unfolding assignment_expression_rule take_assignment_expression
assignment_expression_sole n m d l a = sole_once (is_open n) assign_of (sole_longest (unary_parses n m d l a)) (sole_longest (assigned_parses m d l a))

throw_parses : (m : Setting) (d : Below) (l : Lower) → AllParse d l → Parses nothing (heads kind.Throw) (throw_rule m d) (take_throw m l)
unfolding throw_rule take_throw
throw_parses m d l a = parses_make throw_of (parses_seq (parses_token (is kind.Throw)) (parses_sole (a.expression m)) (still _))

pub section_head_parses : {s f : Test Token} (p : Rule Token Tree) (g : Descent Token Tree) → Parses s f p g → Parses nothing (next begins_section) (section_head_rule p) (take_section_head g)
unfolding section_head_rule take_section_head
section_head_parses p g a =
    settled nothing (next begins_section)
    (parses_switch (parses_turn cascaded_name_of (parses_token is_name)) (parses_make cascaded_index_of (parses_sole (sole_inside (is kind.OpenBracket) width past a))) (far _ _ refl (λ t ts. refl)))
    refl (λ t ts. refl) refl (λ t ts. refl)

pub section_parses : {s f : Test Token} (n : ℕ) (m : Setting) (d : Below) (l : Lower) → AllParse d l → (p : Rule Token Tree) (g : Descent Token Tree) → Parses s f p g →
    Parses (heads_sign is_assignment) (next begins_section) (section_rule n m d p) (take_section n m l g)
unfolding section_rule take_section
section_parses n m d l a p g b =
    parses_chain one_time (is_open n) assign_of
    (sole_longest (parses_chain every_time (is_open n) select_with (sole_longest (section_head_parses p g b)) (sole_longest (selector_parses m d l a))))
    (sole_longest (parses_seq (parses_sole assignment_sole) (parses_sole (a.operand m table)) (still _)))

abbrev begins_cascade : Test Token
begins_cascade = either (heads kind.PeriodPeriod) (heads kind.QuestionPeriodPeriod)

cascade_section_parses : (m : Setting) (d : Below) (l : Lower) → AllParse d l → Parses nothing begins_cascade (cascade_section_rule m d) (take_cascade_section m l)
unfolding cascade_section_rule take_cascade_section
cascade_section_parses m d l a =
    settled nothing begins_cascade
    (parses_switch (parses_turn (section_of false) (parses_seq (parses_token (is kind.PeriodPeriod)) (parses_sole (a.section m)) (still _)))
    (parses_turn (section_of true) (parses_seq (parses_token (is kind.QuestionPeriodPeriod)) (parses_sole (a.section m)) (still _))) (far _ _ refl (λ t ts. refl)))
    refl (λ t ts. refl) refl (λ t ts. refl)

cascade_sole : (n : ℕ) (m : Setting) (d : Below) (l : Lower) → AllParse d l → Sole (next begins_operand) (cascade_rule n m d) (take_cascade n m l)
unfolding cascade_rule take_cascade
cascade_sole n m d l a = sole_longest (parses_chain every_time (is_open n) cascade_of (operand_sole n m d l a table) (sole_longest (cascade_section_parses m d l a)))

-- Where an assignment comes behind an operand, nothing else goes on there.

relation_apart : Apart (heads_sign is_assignment) (either (heads kind.Is) (heads kind.As))
relation_apart = far_second _ _ refl (λ t ts. refl)

neither : (a b : Bool) → a ≡ false → b ≡ false → (a || b) ≡ false
neither a b e d = rw (e, d) refl

no_side : (which : Level) (ts : List Token) → heads_sign is_assignment ts ≡ true → begins_side which ts ≡ false
no_side level.Conditional ts e = far_second (heads_sign is_assignment) (heads kind.Question) refl (λ t ts. refl) ts e
no_side level.IfNull ts e = assignment_apart level.IfNull ts e
no_side level.Or ts e = assignment_apart level.Or ts e
no_side level.And ts e = assignment_apart level.And ts e
no_side level.Equality ts e = assignment_apart level.Equality ts e
no_side level.Relation ts e = neither (heads_sign (is_binary level.Relation) ts) (either (heads kind.Is) (heads kind.As) ts) (assignment_apart level.Relation ts e) (relation_apart ts e)
no_side level.BitOr ts e = assignment_apart level.BitOr ts e
no_side level.BitXor ts e = assignment_apart level.BitXor ts e
no_side level.BitAnd ts e = assignment_apart level.BitAnd ts e
no_side level.Shift ts e = assignment_apart level.Shift ts e
no_side level.Sum ts e = assignment_apart level.Sum ts e
no_side level.Product ts e = assignment_apart level.Product ts e

operand_stays : (n : ℕ) (m : Setting) (d : Below) (l : Lower) → AllParse d l → (ts : List Token) (x : Reading Token Tree) → take_unary n m l ts ≡ Some x → heads_sign is_assignment x.1 ≡ true → take_operand n m l table ts ≡ Some x
unfolding take_operand
operand_stays n m d l a ts x e heads =
    levels_climb (times_behind m) (is_open n) side_with (take_right m l) (take_unary n m l) table ts
    ∙ ap (λ (o : Option (Reading Token Tree)). bind o (climb (times_behind m) (is_open n) side_with (take_right m l) ts table)) e
    ∙ climb_stays (times_behind m) (is_open n) side_with (take_right m l) ts table x (λ which above. parses_misses (right_parses m d l a which above) x.1 (no_side which x.1 heads))

cascade_stays : (n : ℕ) (m : Setting) (d : Below) (l : Lower) → AllParse d l → (ts : List Token) (x : Reading Token Tree) → take_unary n m l ts ≡ Some x → heads_sign is_assignment x.1 ≡ true → take_cascade n m l ts ≡ Some x
unfolding take_cascade
cascade_stays n m d l a ts x e heads =
    ap (λ (o : Option (Reading Token Tree)). bind o (λ y. take_onto ts (every_time y.0 y.1) (is_open n) cascade_of (take_cascade_section m l) y.0 y.1)) (operand_stays n m d l a ts x e heads)
    ∙ onto_stays ts (every_time x.0 x.1) (is_open n) cascade_of (take_cascade_section m l) x.0 x.1 (parses_misses (cascade_section_parses m d l a) x.1 (far_second (heads_sign is_assignment) begins_cascade refl (λ t ts. refl) x.1 heads))

-- an assignment is longer than what else is read
assignment_wins : (n : ℕ) (m : Setting) (d : Below) (l : Lower) → AllParse d l → Wins (heads_sign is_assignment) (take_assignment_expression n m l) (throw_rule m d ∣ cascade_rule n m d)
unfolding take_assignment_expression
assignment_wins n m d l a ts b e =
    let r = once_found (is_open n) assign_of (take_unary n m l) (take_assignment ▸ l.expression m) ts b e in
    let follows : heads_sign is_assignment r.0.1 ≡ true = parses_begins (assigned_parses m d l a) r.0.1 r.1 r.3 in
    let shorter : length r.1.1 < length r.0.1 = parses_falls (assigned_parses m d l a) r.0.1 r.1 r.3 in
    let begins : next begins_operand ts ≡ true = parses_begins (unary_parses n m d l a) ts r.0 r.2 in
    let thrown : throw_rule m d ts ≡ [] = (throw_parses m d l a).starts ts (far (next begins_operand) (heads kind.Throw) refl (λ t us. refl) ts begins) in
    let cascaded : cascade_rule n m d ts ≡ r.0 ∷ [] = (cascade_sole n m d l a).alone ts ∙ ap optional (cascade_stays n m d l a ts r.0 r.2 follows) in
    subst (λ (xs : List (Reading Token Tree)). Each (Late {A = Tree} {B = Tree} (heads_sign is_assignment) b) xs)
    (sym (ap (λ (xs : List (Reading Token Tree)). xs ++ cascade_rule n m d ts) thrown ∙ cascaded))
    (inr (omega (arith, shorter, ap (λ (us : List Token). length us) r.4), follows), tt)

begins_any : Within (either (next begins_operand) (either (heads kind.Throw) (next begins_operand))) (next begins_expression)
begins_any = within _ _ refl (λ t ts. refl)

pub expression_sole : (n : ℕ) (m : Setting) (d : Below) (l : Lower) → AllParse d l → Sole (next begins_expression) (expression_rule n m d) (take_expression n m l)
unfolding expression_rule take_expression
expression_sole n m d l a =
    sole_longest
    (parses_within (either nothing (heads_sign is_assignment)) (next begins_expression) (λ ts e. e) begins_any
    (parses_first (parses_sole (assignment_expression_sole n m d l a))
    (parses_within (heads_sign is_assignment) (either (heads kind.Throw) (next begins_operand)) (λ ts e. absurd (cc)) (λ ts e. e)
    (parses_switch (throw_parses m d l a) (parses_sole (cascade_sole n m d l a)) (far _ _ refl (λ t ts. refl)))) (assignment_wins n m d l a)))
