-- No tree that is read is higher than the room that it was read in.
use Rattle.std.proofs.Common.{◌≡◌, ℕ, suc, ◌≤◌, ◌++◌, Bool, true, false, not, ◌&&◌, List, [], ◌∷◌, Option, Some, None, nat_lt, if◌then◌else◌, refl, arith}
use Rattle.std.proofs.lemmas.Bool.Decides.{nat_tests}
use Rattle.readings.specs.Readings.{Rule, Test, token, given, ◌▹◌, maybe, many, where_next, turn}
use Rattle.readings.specs.Leading.{Each}
use Rattle.readings.specs.Lists.{each_append, each_implies, each_map}
use Rattle.readings.specs.Values.{Gives, Maybe, gives_any, gives_none, gives_seq, gives_or, gives_make, gives_turn, gives_maybe, gives_many, gives_chain, gives_once, gives_longest, gives_inside, gives_where, gives_prefer, gives_exactly, gives_before, gives_elements, gives_levels}
use Rattle.dart_tokens.specs.declared.token.Kind.TheVariants as kind
use Rattle.dart_tree.specs.Tree.{Tree, trees_of, part_of}
use Rattle.dart_tree.specs.Heights.{higher, height, heights, height_of_part, fits}
use Rattle.dart_tree.specs.declared.names.ParameterKind.{ParameterKind}
use Rattle.dart_tree.specs.declared.names.ParameterKind.TheVariants as parameter_kind
use Rattle.dart_tokens.specs.declared.grouped_token.GroupedToken.{GroupedToken as Token}
use Rattle.grammar.specs.declared.level.Level.{Level}
use Rattle.grammar.specs.declared.level.Level.TheVariants as level
use Rattle.grammar.specs.declared.level.Setting.{Setting}
use Rattle.grammar.specs.declared.level.Setting.TheVariants as setting
use Rattle.grammar.specs.Tokens.{is, is_either, is_name, is_type_name, width, past}
use Rattle.grammar.specs.Types.{tail, Tail, function_type_with, listed_or_none, behind_token, Below, separated, separated_rule, inner, type_arguments_of, type_arguments_rule, type_parameter_of, type_parameter_rule, type_parameters_of, type_parameters_rule, void_of, type_name_rule, question_rule, named_type_of, plain_type_rule, annotation_rule, heads_required, heads_field, parameter_of, parameter_rule, parameters_rule, optional_parameters_rule, parameter_list_of, parameter_list_rule, parameter_type_of, parameter_type_rule, tail_of, tail_rule, tail_before_rule, first_tail_of, next_tail_of, every_time, type_rule}
use Rattle.grammar.specs.Operators.{binary_rule, prefix_rule, postfix_rule, table, assignment_rule}
use Rattle.grammar.specs.Expressions.{Selector, member, element, check, called, Side, operated, tested, cast, choices, Contents, listed, entries, collection_with, side_with, simple_string_of, string_text_of, simple_interpolation_of, interpolation_rule, string_part_rule, interpolated_of, string_rule, strings_of, strings_rule, heads_label, positional_of, named_of, argument_rule, arguments_of, arguments_rule, integer_of, boolean_of, null_of, this_of, super_of, identifier_of, simple_rule, generic_of, heads_generic, name_rule, parenthesis_of, parenthesis_rule, arrow_of, closure_of, heads_closure, closure_rule, new_of, new_rule, entry_of, entry_rule, listed_of, entries_of, collection_of, collection_rule, primary_rule, member_of, element_of, check_of, plain_call_of, generic_call_of, heads_call, selector_rule, select_with, selected_rule, one_time, postfix_of, unary_of, incremented_rule, unary_rule, operated_of, tested_of, cast_of, choices_of, operated_rule, right_rule, times_behind, side_with, operand_rule, assign_of, assignment_expression_rule, throw_of, throw_rule, cascaded_name_of, cascaded_index_of, section_head_rule, section_rule, cascade_of, section_of, cascade_section_rule, cascade_rule, expression_rule, reads_on, is_open}

-- a tree of at most this height
abbrev pub Low : ℕ → Tree → Type 0
Low n t = height t ≤ n

pub up : {a n : ℕ} → a ≤ n → suc a ≤ suc n
up h = omega (arith, h)

pub first_node : (n : ℕ) → 1 ≤ suc n
first_node n = omega arith

hi_at : (t : Bool) (a b n : ℕ) → a ≤ n → b ≤ n → (if t then b else a) ≤ n
hi_at true a b n h k = k
hi_at false a b n h k = h

pub hi : {a b n : ℕ} → a ≤ n → b ≤ n → higher a b ≤ n
hi {a = a} {b = b} {n = n} h k = hi_at (nat_lt a b) a b n h k

pub ls : {n : ℕ} (ts : List Tree) → Each (Low n) ts → heights (trees_of ts) ≤ n
ls [] h = omega arith
ls {n = n} (t ∷ ts) h = hi {n = n} h.0 (ls {n = n} ts h.1)

pub pt : {n : ℕ} (o : Option Tree) → Maybe (Low n) o → height_of_part (part_of o) ≤ n
pt None h = omega arith
pt (Some t) h = h

pub bt : {n : ℕ} (o : Option (Token × Tree)) → Maybe (λ (y : Token × Tree). Unit {0} × Low n y.1) o → height_of_part (part_of (behind_token o)) ≤ n
bt None h = omega arith
bt (Some y) h = h.1

pub lo : (n : ℕ) (o : Option (List Tree)) → Maybe (Each (Low n)) o → Each (Low n) (listed_or_none o)
lo n None h = tt
lo n (Some ts) h = h

pub tok : (f : Token → Bool) → Gives (λ a. Unit {0}) (token f)
tok f = gives_any (token f)

fits_at : (n m : ℕ) → not (nat_lt n m) ≡ true → m ≤ n
fits_at n m e = grind (arith, nat_tests)

low_fits : (n : ℕ) (t : Tree) → fits n t ≡ true → Low n t
low_fits n t e = fits_at n (height t) e

both_first : (a b : Bool) → (a && b) ≡ true → a ≡ true
both_first true b e = refl
both_first false b e = absurd (cc)

low_open : (n : ℕ) (t : Tree) → is_open n t ≡ true → Low n t
low_open n t e = low_fits n t (both_first (fits n t) (not (reads_on t)) e)

-- no tree is higher than n
pub record Lows (n : ℕ) (d : Below) : Type 0 where
  pub written : Gives (Low n) d.written
  pub tested : (m : Setting) → Gives (Low n) (d.tested m)
  pub constructed : Gives (Low n) d.constructed
  pub named : Gives (Low n) d.named
  pub expression : (m : Setting) → Gives (Low n) (d.expression m)
  pub operand : (m : Setting) (above : List Level) → Gives (Low n) (d.operand m above)
  pub unary : (m : Setting) → Gives (Low n) (d.unary m)
  pub section : (m : Setting) → Gives (Low n) (d.section m)
  pub simple : Gives (Low n) d.simple
  pub block : Gives (Low n) d.block
  pub statement : Gives (Low n) d.statement

pub separated_low : {A : Type 0} {P : A → Type 0} {p : Rule Token A} → Gives P p → Gives (Each P) (separated_rule p)
separated_low {A = A} {P = P} {p = p} a =
    gives_turn {R = Each P} separated (λ x h. (h.0, each_map P (λ (y : Token × A). y.1) x.1 (each_implies (λ (y : Token × A). Unit {0} × P y.1) (λ (y : Token × A). P y.1) (λ y k. k.1) x.1 h.1)))
    (gives_seq a (gives_many (gives_seq (tok (is kind.Comma)) a)))

pub type_arguments_low : (n : ℕ) (d : Below) → Lows n d → Gives (Low n) (type_arguments_rule d)
unfolding type_arguments_rule
type_arguments_low n d a = gives_make type_arguments_of (λ read x h. ls {n = n} x.1.0 h.1.0) (gives_seq (tok (is kind.Less)) (gives_seq (separated_low a.written) (tok (is kind.Greater))))

type_parameter_low : (n : ℕ) (d : Below) → Lows n d → Gives (Low n) (type_parameter_rule d)
unfolding type_parameter_rule
type_parameter_low n d a = gives_make type_parameter_of (λ read x h. bt {n = n} x.1 h.1) (gives_seq (tok is_type_name) (gives_maybe (gives_seq (tok (is kind.Extends)) a.written)))

pub type_parameters_low : (n : ℕ) (d : Below) → Lows n d → Gives (Each (Low n)) (type_parameters_rule d)
unfolding type_parameters_rule
type_parameters_low n d a = gives_turn type_parameters_of (λ x h. h.1.0) (gives_seq (tok (is kind.Less)) (gives_seq (separated_low (type_parameter_low n d a)) (tok (is kind.Greater))))

pub plain_type_low : (n : ℕ) (d : Below) → Lows n d → (question : Test Token) → Gives (Low (suc n)) (plain_type_rule d question)
unfolding plain_type_rule
plain_type_low n d a question =
    gives_or (gives_turn void_of (λ x h. first_node n) (tok (is kind.Void)))
    (gives_make named_type_of (λ read x h. up (pt {n = n} x.1.0 h.1.0)) (gives_seq (gives_any type_name_rule) (gives_seq (gives_maybe (type_arguments_low n d a)) (gives_any (question_rule question)))))

parameter_low : (n : ℕ) (d : Below) → Lows n d → (which : ParameterKind) → Gives (Low n) (parameter_rule d which)
unfolding parameter_rule
parameter_low n d a which =
    gives_make (parameter_of which) (λ read x h. hi {n = n} (pt {n = n} x.1.1.1.0 h.1.1.1.0) (bt {n = n} x.1.1.1.1.1.1 h.1.1.1.1.1.1))
    (gives_seq (gives_any (many annotation_rule))
    (gives_seq (gives_any (where_next heads_required (turn (λ t. Some t) (token (is kind.Required))) (given None)))
    (gives_seq (gives_any (maybe (token (is_either kind.Final kind.Var))))
    (gives_seq (gives_exactly (gives_before heads_field a.named))
    (gives_seq (gives_any (maybe (token (is kind.This) ▹ token (is kind.Period)))) (gives_seq (tok is_name) (gives_maybe (gives_seq (tok (is kind.Equals)) (a.expression setting.Default)))))))))

parameters_low : (n : ℕ) (d : Below) → Lows n d → (which : ParameterKind) → Gives (Each (Low n)) (parameters_rule d which)
parameters_low n d a which = gives_elements (token (is kind.Comma)) (parameter_low n d a which)

optional_parameters_low : (n : ℕ) (d : Below) → Lows n d → Gives (Each (Low n)) (optional_parameters_rule d)
unfolding optional_parameters_rule
optional_parameters_low n d a =
    gives_or (gives_turn inner (λ x h. h) (gives_inside (is kind.OpenBracket) width past (parameters_low n d a parameter_kind.OptionalPositional)))
    (gives_turn inner (λ x h. h) (gives_inside (is kind.OpenBrace) width past (parameters_low n d a parameter_kind.Named)))

pub parameter_list_low : (n : ℕ) (d : Below) → Lows n d → Gives (Low n) (parameter_list_rule d)
unfolding parameter_list_rule
parameter_list_low n d a =
    gives_make parameter_list_of (λ read x h. ls {n = n} (x.1.0 ++ listed_or_none x.1.1) (each_append (Low n) x.1.0 (listed_or_none x.1.1) h.0 (lo n x.1.1 h.1)))
    (gives_inside (is kind.OpenParenthesis) width past (gives_seq (parameters_low n d a parameter_kind.Positional) (gives_maybe (optional_parameters_low n d a))))

abbrev TailLow : ℕ → Tail → Type 0
TailLow n (tail type_parameters parameters optional nullable) = Each (Low n) type_parameters × (Each (Low n) parameters × Each (Low n) optional)

parameter_type_low : (n : ℕ) (d : Below) → Lows n d → Gives (Low n) (parameter_type_rule d)
unfolding parameter_type_rule
parameter_type_low n d a = gives_make parameter_type_of (λ read x h. h.0) (gives_seq a.written (gives_any (maybe (token is_name))))

tail_low : (n : ℕ) (d : Below) → Lows n d → (question ends : Test Token) → Gives (TailLow n) (tail_before_rule d question ends)
unfolding tail_before_rule tail_rule
tail_low n d a question ends =
    gives_before ends (gives_longest
    (gives_turn {R = TailLow n} tail_of (λ x h. (lo n x.1.0 h.1.0, (h.1.1.0.0, lo n x.1.1.0.1.1 h.1.1.0.1)))
    (gives_seq (tok (is kind.Function))
    (gives_seq (gives_maybe (type_parameters_low n d a))
    (gives_seq
    (gives_inside (is kind.OpenParenthesis) width past (gives_seq (gives_elements (token (is kind.Comma)) (parameter_type_low n d a)) (gives_maybe (optional_parameters_low n d a))))
    (gives_any (question_rule question)))))))

function_type_low : (n : ℕ) (read : List Token) (result : Option Tree) (t : Tail) → Maybe (Low n) result → TailLow n t → Low (suc n) (function_type_with read result t)
function_type_low n read result (tail type_parameters parameters optional nullable) h k =
    up (hi {n = n} (pt {n = n} result h) (hi {n = n} (ls {n = n} type_parameters k.0) (hi {n = n} (ls {n = n} parameters k.1.0) (ls {n = n} optional k.1.1))))

pub type_low : (n : ℕ) (d : Below) → Lows n d → (question ends : Test Token) → Gives (Low (suc n)) (type_rule n d question ends)
unfolding type_rule
type_low n d a question ends =
    gives_chain every_time (fits n) next_tail_of
    (gives_longest (gives_prefer (gives_make first_tail_of (λ read x h. function_type_low n read None x tt h) (tail_low n d a question ends)) (plain_type_low n d a question)))
    (tail_low n d a question ends) (λ read left side e h k. function_type_low n read (Some left) side (low_fits n left e) k)

-- Expressions.

pub string_low : (n : ℕ) (d : Below) → Lows n d → Gives (Low n) (string_rule d)
unfolding string_rule string_part_rule interpolation_rule
string_low n d a =
    gives_or (gives_turn simple_string_of (λ x h. omega arith) (tok (is_either kind.StringLiteral kind.UnterminatedString)))
    (gives_make interpolated_of (λ read x h. hi {n = n} (omega arith) (ls {n = n} (x.1.0 ++ string_text_of x.1.1 ∷ []) (each_append (Low n) x.1.0 (string_text_of x.1.1 ∷ []) h.1.0 (omega arith, tt))))
    (gives_seq (tok (is kind.StringOpening))
    (gives_seq
    (gives_many
    (gives_or (gives_turn string_text_of (λ x h. omega arith) (tok (is kind.StringPart)))
    (gives_or (gives_make simple_interpolation_of (λ read x h. h.1) (gives_seq (tok (is kind.InterpolationMark)) a.simple))
    (gives_make simple_interpolation_of (λ read x h. h) (gives_inside (is kind.InterpolationOpening) width past (a.expression setting.Plain))))))
    (tok (is kind.StringClosing)))))

strings_low : (n : ℕ) (d : Below) → Lows n d → Gives (Low (suc n)) (strings_rule d)
unfolding strings_rule
strings_low n d a = gives_make strings_of (λ read x h. up (ls {n = n} (x.0 ∷ x.1) (h.0, h.1))) (gives_seq (string_low n d a) (gives_many (string_low n d a)))

argument_low : (n : ℕ) (d : Below) → Lows n d → Gives (Low n) (argument_rule d)
unfolding argument_rule
argument_low n d a =
    gives_where heads_label (gives_make named_of (λ read x h. h.1.1) (gives_seq (tok is_name) (gives_seq (tok (is kind.Colon)) (a.expression setting.Listed))))
    (gives_make positional_of (λ read x h. h) (a.expression setting.Listed))

pub arguments_low : (n : ℕ) (d : Below) → Lows n d → Gives (Low n) (arguments_rule d)
unfolding arguments_rule
arguments_low n d a =
    gives_make arguments_of (λ read x h. ls {n = n} x.1 h) (gives_inside (is kind.OpenParenthesis) width past (gives_elements (token (is kind.Comma)) (argument_low n d a)))

pub simple_low : (n : ℕ) → Gives (Low (suc n)) simple_rule
unfolding simple_rule
simple_low n = gives_or (gives_turn identifier_of (λ x h. first_node n) (tok is_name)) (gives_turn this_of (λ x h. first_node n) (tok (is kind.This)))

name_low : (n : ℕ) (d : Below) → Lows n d → Gives (Low (suc n)) (name_rule d)
unfolding name_rule
name_low n d a =
    gives_where heads_generic (gives_make generic_of (λ read x h. up h.1) (gives_seq (tok is_name) (type_arguments_low n d a)))
    (gives_turn identifier_of (λ x h. first_node n) (tok is_name))

parenthesis_low : (n : ℕ) (d : Below) → Lows n d → Gives (Low (suc n)) (parenthesis_rule d)
unfolding parenthesis_rule
parenthesis_low n d a = gives_make parenthesis_of (λ read x h. up h) (gives_inside (is kind.OpenParenthesis) width past (a.expression setting.Plain))

closure_low : (n : ℕ) (m : Setting) (d : Below) → Lows n d → Gives (Low (suc n)) (closure_rule m d)
unfolding closure_rule
closure_low n m d a =
    gives_make closure_of (λ read x h. up (hi {n = n} h.0 h.1))
    (gives_seq (parameter_list_low n d a) (gives_or (gives_make arrow_of (λ read x h. h.1) (gives_seq (tok (is kind.Arrow)) (a.expression m))) a.block))

new_low : (n : ℕ) (d : Below) → Lows n d → Gives (Low (suc n)) (new_rule d)
unfolding new_rule
new_low n d a =
    gives_make new_of (λ read x h. up (hi {n = n} h.1.0 h.1.1.1))
    (gives_seq (tok (is kind.New)) (gives_seq a.constructed (gives_seq (gives_any (maybe (token (is kind.Period) ▹ token is_name))) (arguments_low n d a))))

entry_low : (n : ℕ) (d : Below) → Lows n d → Gives (Low n) (entry_rule d)
unfolding entry_rule
entry_low n d a =
    gives_make entry_of (λ read x h. hi {n = n} h.0 (bt {n = n} x.1 h.1)) (gives_seq (a.expression setting.Listed) (gives_maybe (gives_seq (tok (is kind.Colon)) (a.expression setting.Listed))))

abbrev ContentsLow : ℕ → Contents → Type 0
ContentsLow n (listed all) = Each (Low n) all
ContentsLow n (entries all) = Each (Low n) all

collection_at : (n : ℕ) (read : List Token) (arguments : Option Tree) (c : Contents) → Maybe (Low n) arguments → ContentsLow n c → Low (suc n) (collection_with read arguments c)
collection_at n read arguments (listed all) h k = up (hi {n = n} (pt {n = n} arguments h) (ls {n = n} all k))
collection_at n read arguments (entries all) h k = up (hi {n = n} (pt {n = n} arguments h) (ls {n = n} all k))

collection_low : (n : ℕ) (d : Below) → Lows n d → Gives (Low (suc n)) (collection_rule d)
unfolding collection_rule
collection_low n d a =
    gives_make collection_of (λ read x h. collection_at n read x.0 x.1 h.0 h.1)
    (gives_seq (gives_maybe (type_arguments_low n d a))
    (gives_or (gives_turn {R = ContentsLow n} listed_of (λ x h. h) (gives_inside (is kind.OpenBracket) width past (gives_elements (token (is kind.Comma)) (a.expression setting.Listed))))
    (gives_turn {R = ContentsLow n} entries_of (λ x h. h) (gives_inside (is kind.OpenBrace) width past (gives_elements (token (is kind.Comma)) (entry_low n d a))))))

primary_low : (n : ℕ) (m : Setting) (d : Below) → Lows n d → Gives (Low (suc n)) (primary_rule m d)
unfolding primary_rule
primary_low n m d a =
    gives_or (gives_turn integer_of (λ x h. first_node n) (tok (is kind.Integer)))
    (gives_or (strings_low n d a)
    (gives_or (gives_turn (boolean_of true) (λ x h. first_node n) (tok (is kind.True)))
    (gives_or (gives_turn (boolean_of false) (λ x h. first_node n) (tok (is kind.False)))
    (gives_or (gives_turn null_of (λ x h. first_node n) (tok (is kind.Null)))
    (gives_or (gives_turn this_of (λ x h. first_node n) (tok (is kind.This)))
    (gives_or (gives_turn super_of (λ x h. first_node n) (tok (is kind.Super)))
    (gives_or (name_low n d a)
    (gives_or (gives_where (heads_closure m) (closure_low n m d a) (parenthesis_low n d a)) (gives_or (new_low n d a) (collection_low n d a))))))))))

abbrev SelectorLow : ℕ → Selector → Type 0
SelectorLow n (member null_aware name) = Unit {0}
SelectorLow n (element null_aware bracket index) = Low n index
SelectorLow n check = Unit {0}
SelectorLow n (called type_arguments arguments) = Maybe (Low n) type_arguments × Low n arguments

selector_low : (n : ℕ) (m : Setting) (d : Below) → Lows n d → Gives (SelectorLow n) (selector_rule m d)
unfolding selector_rule
selector_low n m d a =
    gives_or (gives_turn {R = SelectorLow n} (member_of false) (λ x h. tt) (gives_any (token (is kind.Period) ▹ token is_name)))
    (gives_or (gives_turn {R = SelectorLow n} (member_of true) (λ x h. tt) (gives_any (token (is kind.QuestionPeriod) ▹ token is_name)))
    (gives_or (gives_turn {R = SelectorLow n} (element_of false) (λ x h. h) (gives_inside (is kind.OpenBracket) width past (a.expression setting.Plain)))
    (gives_or (gives_turn {R = SelectorLow n} (element_of true) (λ x h. h) (gives_inside (is kind.QuestionBracket) width past (a.expression setting.Plain)))
    (gives_or (gives_turn {R = SelectorLow n} check_of (λ x h. tt) (tok (is kind.Bang)))
    (gives_or (gives_turn {R = SelectorLow n} plain_call_of (λ x h. (tt, h)) (arguments_low n d a))
    (gives_where (heads_call m) (gives_turn {R = SelectorLow n} generic_call_of (λ x h. (h.0, h.1)) (gives_seq (type_arguments_low n d a) (arguments_low n d a))) (gives_none (SelectorLow n))))))))

select_low : (n : ℕ) (read : List Token) (left : Tree) (s : Selector) → Low n left → SelectorLow n s → Low (suc n) (select_with read left s)
select_low n read left (member null_aware name) h k = up h
select_low n read left (element null_aware bracket index) h k = up (hi {n = n} h k)
select_low n read left check h k = up h
select_low n read left (called type_arguments arguments) h k = up (hi {n = n} h (hi {n = n} (pt {n = n} type_arguments k.0) k.1))

selected_low : (n : ℕ) (m : Setting) (d : Below) → Lows n d → Gives (Low (suc n)) (selected_rule n m d)
unfolding selected_rule
selected_low n m d a =
    gives_chain every_time (is_open n) select_with (gives_longest (primary_low n m d a)) (gives_longest (selector_low n m d a)) (λ read left side e h k. select_low n read left side (low_open n left e) k)

pub unary_low : (n : ℕ) (m : Setting) (d : Below) → Lows n d → Gives (Low (suc n)) (unary_rule n m d)
unfolding unary_rule incremented_rule
unary_low n m d a =
    gives_or (gives_make unary_of (λ read x h. up h.1) (gives_seq (gives_any prefix_rule) (a.unary m)))
    (gives_chain one_time (is_open n) postfix_of (gives_longest (selected_low n m d a)) (gives_longest (gives_any postfix_rule)) (λ read left side e h k. up (low_open n left e)))

abbrev SideLow : ℕ → Side → Type 0
SideLow n (operated operator right) = Low n right
SideLow n (tested negated written) = Low n written
SideLow n (cast written) = Low n written
SideLow n (choices then_value else_value) = Low n then_value × Low n else_value

operated_low : (n : ℕ) (m : Setting) (d : Below) → Lows n d → (which : Level) (above : List Level) → Gives (SideLow n) (operated_rule m d which above)
unfolding operated_rule
operated_low n m d a which above = gives_turn {R = SideLow n} operated_of (λ x h. h.1) (gives_seq (gives_any (binary_rule which)) (a.operand m above))

right_low : (n : ℕ) (m : Setting) (d : Below) → Lows n d → (which : Level) (above : List Level) → Gives (SideLow n) (right_rule m d which above)
unfolding right_rule
right_low n m d a level.Conditional above =
    gives_turn {R = SideLow n} choices_of (λ x h. (h.1.0, h.1.1.1)) (gives_seq (tok (is kind.Question)) (gives_seq (a.expression m) (gives_seq (tok (is kind.Colon)) (a.expression m))))
right_low n m d a level.IfNull above = operated_low n m d a level.IfNull above
right_low n m d a level.Or above = operated_low n m d a level.Or above
right_low n m d a level.And above = operated_low n m d a level.And above
right_low n m d a level.Equality above = operated_low n m d a level.Equality above
right_low n m d a level.Relation above =
    gives_or (operated_low n m d a level.Relation above)
    (gives_or (gives_turn {R = SideLow n} tested_of (λ x h. h.1.1) (gives_seq (tok (is kind.Is)) (gives_seq (gives_any (maybe (token (is kind.Bang)))) (a.tested m))))
    (gives_turn {R = SideLow n} cast_of (λ x h. h.1) (gives_seq (tok (is kind.As)) (a.tested m))))
right_low n m d a level.BitOr above = operated_low n m d a level.BitOr above
right_low n m d a level.BitXor above = operated_low n m d a level.BitXor above
right_low n m d a level.BitAnd above = operated_low n m d a level.BitAnd above
right_low n m d a level.Shift above = operated_low n m d a level.Shift above
right_low n m d a level.Sum above = operated_low n m d a level.Sum above
right_low n m d a level.Product above = operated_low n m d a level.Product above

side_low : (n : ℕ) (read : List Token) (left : Tree) (s : Side) → Low n left → SideLow n s → Low (suc n) (side_with read left s)
side_low n read left (operated operator right) h k = up (hi {n = n} h k)
side_low n read left (tested negated written) h k = up (hi {n = n} h k)
side_low n read left (cast written) h k = up (hi {n = n} h k)
side_low n read left (choices then_value else_value) h k = up (hi {n = n} h (hi {n = n} k.0 k.1))

pub operand_low : (n : ℕ) (m : Setting) (d : Below) → Lows n d → (above : List Level) → Gives (Low (suc n)) (operand_rule n m d above)
unfolding operand_rule
operand_low n m d a above =
    gives_levels (times_behind m) (is_open n) side_with (right_low n m d a) (λ read left side e h k. side_low n read left side (low_open n left e) k) (gives_longest (unary_low n m d a)) above

pub section_head_low : (n : ℕ) (p : Rule Token Tree) → Gives (Low n) p → Gives (Low n) (section_head_rule p)
unfolding section_head_rule
section_head_low n p a =
    gives_or (gives_turn cascaded_name_of (λ x h. omega arith) (tok is_name)) (gives_make cascaded_index_of (λ read x h. h) (gives_inside (is kind.OpenBracket) width past a))

pub section_low : (n : ℕ) (m : Setting) (d : Below) → Lows n d → (p : Rule Token Tree) → Gives (Low (suc n)) p → Gives (Low (suc n)) (section_rule n m d p)
unfolding section_rule
section_low n m d a p b =
    gives_chain one_time (is_open n) assign_of
    (gives_longest (gives_chain every_time (is_open n) select_with (gives_longest (section_head_low (suc n) p b)) (gives_longest (selector_low n m d a)) (λ read left side e h k. select_low n read left side (low_open n left e) k)))
    (gives_longest (gives_seq (gives_any assignment_rule) (a.operand m table))) (λ read left side e h k. up (hi {n = n} (low_open n left e) k.1))

pub expression_low : (n : ℕ) (m : Setting) (d : Below) → Lows n d → Gives (Low (suc n)) (expression_rule n m d)
unfolding expression_rule assignment_expression_rule throw_rule cascade_rule cascade_section_rule
expression_low n m d a =
    gives_longest
    (gives_or
    (gives_once (is_open n) assign_of (gives_longest (unary_low n m d a)) (gives_longest (gives_seq (gives_any assignment_rule) (a.expression m))) (λ read left side e h k. up (hi {n = n} (low_open n left e) k.1)))
    (gives_or (gives_make throw_of (λ read x h. up h.1) (gives_seq (tok (is kind.Throw)) (a.expression m)))
    (gives_longest
    (gives_chain {Q = λ s. Low n s.1} every_time (is_open n) cascade_of (operand_low n m d a table)
    (gives_longest (gives_or (gives_turn {R = λ s. Low n s.1} (section_of false) (λ x h. h.1) (gives_seq (tok (is kind.PeriodPeriod)) (a.section m))) (gives_turn {R = λ s. Low n s.1} (section_of true) (λ x h. h.1) (gives_seq (tok (is kind.QuestionPeriodPeriod)) (a.section m)))))
    (λ read left side e h k. up (hi {n = n} (low_open n left e) k))))))
