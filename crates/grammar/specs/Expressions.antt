-- Expressions.
use Rattle.std.specs.Prelude.{ℕ, Bool, true, false, if◌then◌else◌, not, ◌&&◌, ◌||◌, List, [], ◌∷◌, ◌++◌, Option, Some, None, is_some, option_map}
use Rattle.std.specs.Option.{option_map_or}
use Rattle.readings.specs.Readings.{Rule, Test, next, either, token, ◌▹◌, ◌∣◌, make, turn, maybe, many, chain, once, longest_of, where_next, inside, levels, elements}
use Rattle.dart_tokens.specs.declared.token.Kind.TheVariants as kind
use Rattle.dart_tree.specs.Tree.{Tree, trees_of, part_of, integer_literal, string_literal, boolean_literal, null_literal, this_expression, super_expression, identifier, parenthesis, new_expression, list_literal, set_or_map_literal, function_expression, generic_identifier, property_access, index_expression, null_check, call, unary_expression, postfix_expression, binary_expression, type_test, type_cast, conditional, assignment, throw_expression, cascade, cascaded_name, cascaded_index, simple_string, interpolated_string, string_text, string_interpolation, map_entry, argument_list, argument, expression_body}
use Rattle.dart_tree.specs.declared.names.Identifier.{Identifier}
use Rattle.dart_tree.specs.declared.places.Span.{Span}
use Rattle.dart_tree.specs.declared.operators.BinaryOperator.{BinaryOperator}
use Rattle.dart_tree.specs.declared.operators.AssignmentOperator.{AssignmentOperator}
use Rattle.dart_tree.specs.declared.operators.UnaryOperator.{UnaryOperator}
use Rattle.dart_tree.specs.declared.operators.PostfixOperator.{PostfixOperator}
use Rattle.dart_tokens.specs.declared.grouped_token.GroupedToken.{GroupedToken as Token}
use Rattle.grammar.specs.declared.level.Level.{Level}
use Rattle.grammar.specs.declared.level.Level.TheVariants as level
use Rattle.grammar.specs.declared.level.Setting.{Setting}
use Rattle.grammar.specs.declared.level.Setting.TheVariants as setting
use Rattle.dart_tree.specs.Heights.{fits}
use Rattle.grammar.specs.Tokens.{is, is_either, is_name, heads, first_then, group_then, anything, width, past, span_of, place_over, place_of, identifier_at}
use Rattle.grammar.specs.Tokens.{heads_name}
use Rattle.grammar.specs.Operators.{table, sign_at, binary_rule, assignment_rule, prefix_rule, postfix_rule}
use Rattle.grammar.specs.Outline.{behind_arguments}
use Rattle.grammar.specs.Parameters.{group_holds, fills_parentheses}
use Rattle.grammar.specs.Types.{Below, every_time, inner, behind_token, type_arguments_rule, parameter_list_rule}

-- What comes next.

-- an expression goes on with this token, or ends before it where it isn't the last thing
abbrev pub goes_on : Token → Bool
goes_on t =
    is kind.Semicolon t || is kind.Comma t || is kind.OpenBrace t || is kind.Colon t || is kind.Question t || is kind.Period t || is kind.QuestionPeriod t
    || is kind.PeriodPeriod t || is kind.QuestionPeriodPeriod t || is kind.OpenBracket t || is kind.QuestionBracket t || is kind.OpenParenthesis t || is kind.Bang t
    || is kind.PlusPlus t || is kind.MinusMinus t || is kind.Is t

-- an `as` comes next with what begins a type behind it: else it is a name, of a method or of an import's prefix
abbrev pub heads_cast : Test Token
heads_cast = first_then (is kind.As) (either (heads kind.Void) heads_name)

-- an expression goes on with these tokens
abbrev pub heads_rest : Test Token
heads_rest ts = next goes_on ts || heads_cast ts || is_some (sign_at ts)

-- A `{` comes next that belongs to an expression: in an initializer list it may also be the constructor's body, and is that where no expression goes on behind its group.
abbrev pub heads_brace : Setting → Test Token
heads_brace setting.Plain = heads kind.OpenBrace
heads_brace setting.Listed = heads kind.OpenBrace
heads_brace setting.Initializer = group_then (is kind.OpenBrace) heads_rest
heads_brace setting.Default = heads kind.OpenBrace

-- the body of a closure comes next
abbrev pub heads_body : Setting → Test Token
heads_body m ts = heads kind.Arrow ts || heads_brace m ts

-- Parentheses that come next may be a closure's: in a default value a `{` behind them may also begin optional parameters, so there they must hold parameters.
abbrev pub heads_parentheses : Setting → Test Token
heads_parentheses setting.Plain = anything
heads_parentheses setting.Listed = anything
heads_parentheses setting.Initializer = anything
heads_parentheses setting.Default = group_holds (is kind.OpenParenthesis) fills_parentheses

-- the parameters of a closure come next: parentheses, and a body behind them
abbrev pub heads_closure : Setting → Test Token
heads_closure m ts = group_then (is kind.OpenParenthesis) (heads_body m) ts && heads_parentheses m ts

-- an expression begins with this token, whatever comes behind it
abbrev pub begins_expression : Token → Bool
begins_expression t =
    is_name t || is kind.Integer t || is kind.StringLiteral t || is kind.StringOpening t || is kind.UnterminatedString t || is kind.True t || is kind.False t
    || is kind.Null t || is kind.This t || is kind.Super t || is kind.OpenParenthesis t || is kind.New t || is kind.Less t || is kind.OpenBracket t || is kind.OpenBrace t
    || is kind.Minus t || is kind.Bang t || is kind.Tilde t || is kind.PlusPlus t || is kind.MinusMinus t || is kind.Throw t

-- the tail of a function type comes next
abbrev pub heads_tail : Test Token
heads_tail = first_then (is kind.Function) (next (is_either kind.OpenParenthesis kind.Less))

-- an expression comes next, behind a `?`: `Function` before `(` or `<` begins none there, nor does the body of a constructor
abbrev pub heads_choice : Setting → Test Token
heads_choice m ts = next begins_expression ts && not (heads_tail ts) && (not (heads kind.OpenBrace ts) || heads_brace m ts)

-- a `?` comes next that belongs to the type of a test, and not to a conditional: no expression comes behind it
abbrev pub heads_nullable : Setting → Test Token
heads_nullable m = first_then (is kind.Question) (λ ts. not (heads_choice m ts))

-- Strings.

abbrev pub simple_string_of : Token → Tree
simple_string_of t = simple_string (place_of t) t.kind t.word

abbrev pub string_text_of : Token → Tree
string_text_of t = string_text (place_of t) t.kind t.word

abbrev pub simple_interpolation_of : List Token → Token × Tree → Tree
simple_interpolation_of read (sign, value) = string_interpolation (place_over read) value

-- interpolation: '$' name | '${' expression '}'
unfoldable pub interpolation_rule : Below → Rule Token Tree
interpolation_rule d =
    make simple_interpolation_of (token (is kind.InterpolationMark) ▹ d.simple)
    ∣ make simple_interpolation_of (inside (is kind.InterpolationOpening) width past (d.expression setting.Plain))

-- what stands between the ends of a string
unfoldable pub string_part_rule : Below → Rule Token Tree
string_part_rule d = turn string_text_of (token (is kind.StringPart)) ∣ interpolation_rule d

abbrev pub interpolated_of : List Token → Token × (List Tree × Token) → Tree
interpolated_of read (opening, (parts, closing)) = interpolated_string (place_over read) (trees_of (string_text_of opening ∷ (parts ++ string_text_of closing ∷ [])))

-- string: a string without interpolations | its front, texts and interpolations, and its end. One that never ends is one token.
unfoldable pub string_rule : Below → Rule Token Tree
string_rule d =
    turn simple_string_of (token (is_either kind.StringLiteral kind.UnterminatedString))
    ∣ make interpolated_of (token (is kind.StringOpening) ▹ many (string_part_rule d) ▹ token (is kind.StringClosing))

abbrev pub strings_of : List Token → Tree × List Tree → Tree
strings_of read (first, rest) = string_literal (place_over read) (trees_of (first ∷ rest))

-- string+
unfoldable pub strings_rule : Below → Rule Token Tree
strings_rule d = make strings_of (string_rule d ▹ many (string_rule d))

-- Arguments.

abbrev pub positional_of : List Token → Tree → Tree
positional_of read value = argument (place_over read) None value

abbrev pub named_of : List Token → Token × (Token × Tree) → Tree
named_of read (name, (colon, value)) = argument (place_over read) (Some (identifier_at name)) value

-- a name and a `:` come next
abbrev pub heads_label : Test Token
heads_label = first_then is_name (heads kind.Colon)

-- argument: expression | identifier ':' expression
unfoldable pub argument_rule : Below → Rule Token Tree
argument_rule d =
    where_next heads_label (make named_of (token is_name ▹ token (is kind.Colon) ▹ d.expression setting.Listed)) (make positional_of (d.expression setting.Listed))

abbrev pub arguments_of : List Token → Token × List Tree → Tree
arguments_of read (opening, arguments) = argument_list (place_over read) (trees_of arguments)

-- arguments: '(' argument list ')'
unfoldable pub arguments_rule : Below → Rule Token Tree
arguments_rule d = make arguments_of (inside (is kind.OpenParenthesis) width past (elements (argument_rule d) (token (is kind.Comma))))

-- Primaries.

abbrev pub integer_of : Token → Tree
integer_of t = integer_literal (place_of t) t.word

abbrev pub boolean_of : Bool → Token → Tree
boolean_of value t = boolean_literal (place_of t) value

abbrev pub null_of : Token → Tree
null_of t = null_literal (place_of t)

abbrev pub this_of : Token → Tree
this_of t = this_expression (place_of t)

abbrev pub super_of : Token → Tree
super_of t = super_expression (place_of t)

abbrev pub identifier_of : Token → Tree
identifier_of t = identifier (place_of t) t.word

-- what a string names behind `$`: identifier | 'this'
unfoldable pub simple_rule : Rule Token Tree
simple_rule = turn identifier_of (token is_name) ∣ turn this_of (token (is kind.This))

abbrev pub generic_of : List Token → Token × Tree → Tree
generic_of read (name, arguments) = generic_identifier (place_over read) (identifier_at name) arguments

-- what a name with type arguments comes before
abbrev pub heads_use : Test Token
heads_use = next (is_either kind.OpenParenthesis kind.Period)

-- a name comes next whose `<` opens type arguments: they end before `(` or `.`
unfoldable pub heads_generic : Test Token
heads_generic = first_then is_name (λ ts. option_map_or heads_use (behind_arguments ts) false)

-- name: identifier type-arguments, exactly where they come before `(` or `.` | identifier
unfoldable pub name_rule : Below → Rule Token Tree
name_rule d = where_next heads_generic (make generic_of (token is_name ▹ type_arguments_rule d)) (turn identifier_of (token is_name))

abbrev pub parenthesis_of : List Token → Token × Tree → Tree
parenthesis_of read (opening, inner) = parenthesis (place_over read) inner

-- parenthesis: '(' expression ')'
unfoldable pub parenthesis_rule : Below → Rule Token Tree
parenthesis_rule d = make parenthesis_of (inside (is kind.OpenParenthesis) width past (d.expression setting.Plain))

abbrev pub arrow_of : List Token → Token × Tree → Tree
arrow_of read (arrow, value) = expression_body (place_over read) value

abbrev pub closure_of : List Token → Tree × Tree → Tree
closure_of read (parameters, body) = function_expression (place_over read) parameters body

-- closure: parameters ('=>' expression | block)
unfoldable pub closure_rule : Setting → Below → Rule Token Tree
closure_rule m d = make closure_of (parameter_list_rule d ▹ (make arrow_of (token (is kind.Arrow) ▹ d.expression m) ∣ d.block))

abbrev pub new_of : List Token → Token × (Tree × (Option (Token × Token) × Tree)) → Tree
new_of read (word, (written, (name, arguments))) = new_expression (place_over read) written (option_map (λ n. identifier_at n.1) name) arguments

-- 'new' plain-type ('.' identifier)? arguments
unfoldable pub new_rule : Below → Rule Token Tree
new_rule d = make new_of (token (is kind.New) ▹ d.constructed ▹ maybe (token (is kind.Period) ▹ token is_name) ▹ arguments_rule d)

abbrev pub entry_of : List Token → Tree × Option (Token × Tree) → Tree
entry_of read (key, value) = map_entry (place_over read) key (part_of (behind_token value))

-- entry: expression (':' expression)?
unfoldable pub entry_rule : Below → Rule Token Tree
entry_rule d = make entry_of (d.expression setting.Listed ▹ maybe (token (is kind.Colon) ▹ d.expression setting.Listed))

-- what a literal of a list, a set or a map holds
pub data Contents : Type 0 where
  listed : (elements : List Tree) → Contents
  entries : (all : List Tree) → Contents

abbrev pub listed_of : Token × List Tree → Contents
listed_of (opening, all) = listed all

abbrev pub entries_of : Token × List Tree → Contents
entries_of (opening, all) = entries all

abbrev pub collection_with : List Token → Option Tree → Contents → Tree
collection_with read arguments (listed all) = list_literal (place_over read) (part_of arguments) (trees_of all)
collection_with read arguments (entries all) = set_or_map_literal (place_over read) (part_of arguments) (trees_of all)

abbrev pub collection_of : List Token → Option Tree × Contents → Tree
collection_of read (arguments, contents) = collection_with read arguments contents

-- collection: type-arguments? ('[' expression list ']' | '{' entry list '}')
unfoldable pub collection_rule : Below → Rule Token Tree
collection_rule d =
    make collection_of
    (maybe (type_arguments_rule d)
    ▹ (turn listed_of (inside (is kind.OpenBracket) width past (elements (d.expression setting.Listed) (token (is kind.Comma))))
    ∣ turn entries_of (inside (is kind.OpenBrace) width past (elements (entry_rule d) (token (is kind.Comma))))))

-- primary: integer | string+ | 'true' | 'false' | 'null' | 'this' | 'super' | name | closure | parenthesis | 'new' .. | collection. A `(` before the body of a closure begins one.
unfoldable pub primary_rule : Setting → Below → Rule Token Tree
primary_rule m d =
    turn integer_of (token (is kind.Integer)) ∣ strings_rule d ∣ turn (boolean_of true) (token (is kind.True)) ∣ turn (boolean_of false) (token (is kind.False))
    ∣ turn null_of (token (is kind.Null)) ∣ turn this_of (token (is kind.This)) ∣ turn super_of (token (is kind.Super)) ∣ name_rule d
    ∣ where_next (heads_closure m) (closure_rule m d) (parenthesis_rule d) ∣ new_rule d ∣ collection_rule d

-- What nothing is read behind.

-- The expression has taken all that can stand behind it, or its last part has: a closure with `=>`, whose body takes it; a conditional, whose else branch takes it; an operator's operand on the right, an assigned value, and a section of a cascade that end in one.
abbrev pub reads_on : Tree → Bool
reads_on (function_expression at parameters body) = reads_on body
reads_on (expression_body at value) = true
reads_on (conditional at condition then_value else_value) = true
reads_on (unary_expression at operator operand) = reads_on operand
reads_on (binary_expression at operator left right) = reads_on right
reads_on (assignment at operator target value) = reads_on value
reads_on (cascade at receiver null_aware section) = reads_on section
reads_on t = false

-- something may stand behind the expression: it has not read on, and its node may lie one deeper
abbrev pub is_open : ℕ → Tree → Bool
is_open n t = fits n t && not (reads_on t)

-- Selectors.

-- what a selector adds
pub data Selector : Type 0 where
  member : (null_aware : Bool) (name : Identifier) → Selector
  element : (null_aware : Bool) (bracket : Span) (index : Tree) → Selector
  check : Selector
  called : (type_arguments : Option Tree) (arguments : Tree) → Selector

abbrev pub member_of : Bool → Token × Token → Selector
member_of null_aware (period, name) = member null_aware (identifier_at name)

abbrev pub element_of : Bool → Token × Tree → Selector
element_of null_aware (bracket, index) = element null_aware (span_of bracket) index

abbrev pub check_of : Token → Selector
check_of t = check

abbrev pub plain_call_of : Tree → Selector
plain_call_of arguments = called None arguments

abbrev pub generic_call_of : Tree × Tree → Selector
generic_call_of (type_arguments, arguments) = called (Some type_arguments) arguments

-- what a call with type arguments comes before: in a list of expressions not before the body of a closure
abbrev pub behind_call : Setting → Test Token
behind_call setting.Plain = anything
behind_call setting.Listed = λ ts. not (heads_body setting.Plain ts)
behind_call setting.Initializer = anything
behind_call setting.Default = anything

-- A call with type arguments comes next: a `<` opens them, and arguments stand behind them.
unfoldable pub heads_call : Setting → Test Token
heads_call m ts = option_map_or (group_then (is kind.OpenParenthesis) (behind_call m)) (behind_arguments ts) false

-- selector: ('.' | '?.') identifier | ('[' | '?[') expression ']' | '!' | arguments | type-arguments arguments
unfoldable pub selector_rule : Setting → Below → Rule Token Selector
selector_rule m d =
    turn (member_of false) (token (is kind.Period) ▹ token is_name) ∣ turn (member_of true) (token (is kind.QuestionPeriod) ▹ token is_name)
    ∣ turn (element_of false) (inside (is kind.OpenBracket) width past (d.expression setting.Plain))
    ∣ turn (element_of true) (inside (is kind.QuestionBracket) width past (d.expression setting.Plain)) ∣ turn check_of (token (is kind.Bang))
    ∣ turn plain_call_of (arguments_rule d) ∣ where_next (heads_call m) (turn generic_call_of (type_arguments_rule d ▹ arguments_rule d)) (λ ts. [])

abbrev pub select_with : List Token → Tree → Selector → Tree
select_with read left (member null_aware name) = property_access (place_over read) left null_aware name
select_with read left (element null_aware bracket index) = index_expression (place_over read) left null_aware bracket index
select_with read left check = null_check (place_over read) left
select_with read left (called type_arguments arguments) = call (place_over read) left (part_of type_arguments) arguments

-- primary selector*
unfoldable pub selected_rule : ℕ → Setting → Below → Rule Token Tree
selected_rule n m d = chain every_time (is_open n) select_with (longest_of (primary_rule m d)) (longest_of (selector_rule m d))

-- Operands.

-- at most once
abbrev pub one_time : {A : Type 0} → A → List Token → ℕ
one_time left ts = 1

abbrev pub postfix_of : List Token → Tree → PostfixOperator → Tree
postfix_of read operand operator = postfix_expression (place_over read) operator operand

abbrev pub unary_of : List Token → UnaryOperator × Tree → Tree
unary_of read (operator, operand) = unary_expression (place_over read) operator operand

-- primary selector* ('++' | '--')?
unfoldable pub incremented_rule : ℕ → Setting → Below → Rule Token Tree
incremented_rule n m d = chain one_time (is_open n) postfix_of (longest_of (selected_rule n m d)) (longest_of postfix_rule)

-- unary: prefix-operator unary | primary selector* ('++' | '--')?
unfoldable pub unary_rule : ℕ → Setting → Below → Rule Token Tree
unary_rule n m d = make unary_of (prefix_rule ▹ d.unary m) ∣ incremented_rule n m d

-- what stands on the right of an operator
pub data Side : Type 0 where
  operated : (operator : BinaryOperator) (right : Tree) → Side
  tested : (negated : Bool) (written : Tree) → Side
  cast : (written : Tree) → Side
  choices : (then_value else_value : Tree) → Side

abbrev pub operated_of : BinaryOperator × Tree → Side
operated_of (operator, right) = operated operator right

abbrev pub tested_of : Token × (Option Token × Tree) → Side
tested_of (word, (bang, written)) = tested (is_some bang) written

abbrev pub cast_of : Token × Tree → Side
cast_of (word, written) = cast written

abbrev pub choices_of : Token × (Tree × (Token × Tree)) → Side
choices_of (question, (then_value, (colon, else_value))) = choices then_value else_value

-- an operator of a level and an operand of those behind it
unfoldable pub operated_rule : Setting → Below → Level → List Level → Rule Token Side
operated_rule m d which above = turn operated_of (binary_rule which ▹ d.operand m above)

-- the right side of each level: an operator and an operand, 'is' '!'? type | 'as' type, or '?' expression ':' expression
unfoldable pub right_rule : Setting → Below → Level → List Level → Rule Token Side
right_rule m d level.Conditional above = turn choices_of (token (is kind.Question) ▹ d.expression m ▹ token (is kind.Colon) ▹ d.expression m)
right_rule m d level.IfNull above = operated_rule m d level.IfNull above
right_rule m d level.Or above = operated_rule m d level.Or above
right_rule m d level.And above = operated_rule m d level.And above
right_rule m d level.Equality above = operated_rule m d level.Equality above
right_rule m d level.Relation above =
    operated_rule m d level.Relation above ∣ turn tested_of (token (is kind.Is) ▹ maybe (token (is kind.Bang)) ▹ d.tested m) ∣ turn cast_of (token (is kind.As) ▹ d.tested m)
right_rule m d level.BitOr above = operated_rule m d level.BitOr above
right_rule m d level.BitXor above = operated_rule m d level.BitXor above
right_rule m d level.BitAnd above = operated_rule m d level.BitAnd above
right_rule m d level.Shift above = operated_rule m d level.Shift above
right_rule m d level.Sum above = operated_rule m d level.Sum above
right_rule m d level.Product above = operated_rule m d level.Product above

-- The last operand of the expression has a `++` or `--` behind it: no selector can stand there.
abbrev pub is_incremented : Tree → Bool
is_incremented (postfix_expression at operator operand) = true
is_incremented (unary_expression at operator operand) = is_incremented operand
is_incremented (binary_expression at operator left right) = is_incremented right
is_incremented (assignment at operator target value) = is_incremented value
is_incremented (cascade at receiver null_aware section) = is_incremented section
is_incremented t = false

-- how often a right side of a level may come behind an operand: once, or any number of times. A `<` that opens the type arguments of a call is no operator where a call can stand.
abbrev pub times : Setting → Level → (incremented : Bool) → List Token → ℕ
times m level.Conditional = one_time
times m level.IfNull = every_time
times m level.Or = every_time
times m level.And = every_time
times m level.Equality = one_time
times m level.Relation = λ incremented ts. if heads_call m ts && not incremented then 0 else 1
times m level.BitOr = every_time
times m level.BitXor = every_time
times m level.BitAnd = every_time
times m level.Shift = every_time
times m level.Sum = every_time
times m level.Product = every_time

abbrev pub times_behind : Setting → Level → Tree → List Token → ℕ
times_behind m which left ts = times m which (is_incremented left) ts

abbrev pub side_with : List Token → Tree → Side → Tree
side_with read left (operated operator right) = binary_expression (place_over read) operator left right
side_with read left (tested negated written) = type_test (place_over read) left negated written
side_with read left (cast written) = type_cast (place_over read) left written
side_with read left (choices then_value else_value) = conditional (place_over read) left then_value else_value

-- an operand of the levels of a table
unfoldable pub operand_rule : ℕ → Setting → Below → List Level → Rule Token Tree
operand_rule n m d above = levels (times_behind m) (is_open n) side_with (right_rule m d) (longest_of (unary_rule n m d)) above

-- Expressions.

abbrev pub assign_of : List Token → Tree → AssignmentOperator × Tree → Tree
assign_of read target (operator, value) = assignment (place_over read) operator target value

-- assignment: unary assignment-operator expression
unfoldable pub assignment_expression_rule : ℕ → Setting → Below → Rule Token Tree
assignment_expression_rule n m d = once (is_open n) assign_of (longest_of (unary_rule n m d)) (longest_of (assignment_rule ▹ d.expression m))

abbrev pub throw_of : List Token → Token × Tree → Tree
throw_of read (word, value) = throw_expression (place_over read) value

-- 'throw' expression
unfoldable pub throw_rule : Setting → Below → Rule Token Tree
throw_rule m d = make throw_of (token (is kind.Throw) ▹ d.expression m)

abbrev pub cascaded_name_of : Token → Tree
cascaded_name_of t = cascaded_name (place_of t) (identifier_at t)

abbrev pub cascaded_index_of : List Token → Token × Tree → Tree
cascaded_index_of read (bracket, index) = cascaded_index (place_over read) (span_of bracket) index

-- how a section begins: identifier | '[' expression ']'
unfoldable pub section_head_rule : Rule Token Tree → Rule Token Tree
section_head_rule expression = turn cascaded_name_of (token is_name) ∣ make cascaded_index_of (inside (is kind.OpenBracket) width past expression)

-- section: (identifier | '[' expression ']') selector* (assignment-operator conditional)?
unfoldable pub section_rule : ℕ → Setting → Below → (expression : Rule Token Tree) → Rule Token Tree
section_rule n m d expression =
    chain one_time (is_open n) assign_of
    (longest_of (chain every_time (is_open n) select_with (longest_of (section_head_rule expression)) (longest_of (selector_rule m d))))
    (longest_of (assignment_rule ▹ d.operand m table))

abbrev pub cascade_of : List Token → Tree → Bool × Tree → Tree
cascade_of read receiver (null_aware, section) = cascade (place_over read) receiver null_aware section

-- whether the section that is read is null-aware
abbrev pub section_of : Bool → Token × Tree → Bool × Tree
section_of null_aware (periods, section) = (null_aware, section)

-- ('..' | '?..') section
unfoldable pub cascade_section_rule : Setting → Below → Rule Token (Bool × Tree)
cascade_section_rule m d =
    turn (section_of false) (token (is kind.PeriodPeriod) ▹ d.section m) ∣ turn (section_of true) (token (is kind.QuestionPeriodPeriod) ▹ d.section m)

-- cascade: conditional (('..' | '?..') section)*
unfoldable pub cascade_rule : ℕ → Setting → Below → Rule Token Tree
cascade_rule n m d = longest_of (chain every_time (is_open n) cascade_of (operand_rule n m d table) (longest_of (cascade_section_rule m d)))

-- expression: assignment | 'throw' expression | cascade
unfoldable pub expression_rule : ℕ → Setting → Below → Rule Token Tree
expression_rule n m d = longest_of (assignment_expression_rule n m d ∣ throw_rule m d ∣ cascade_rule n m d)
