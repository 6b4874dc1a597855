-- Small texts, and how they are read. Each token of them is one character wide, and stands right behind the one before it.
use Rattle.std.specs.Prelude.{◌≡◌, ℕ, suc, true, false, List, [], ◌∷◌, drop, Option, Some, None, option_map}
use Rattle.readings.specs.Readings.{longest}
use Rattle.dart_tokens.specs.declared.token.Kind.{Kind}
use Rattle.dart_tokens.specs.declared.token.Kind.TheVariants.{Identifier, Integer, Is, If, Else, OpenParenthesis, CloseParenthesis, OpenBrace, CloseBrace, Comma, Semicolon, Class, Colon, Period, PeriodPeriod, Question, QuestionQuestion, Equals, Arrow, Void, Less, Greater, Plus, Minus, BarBar}
use Rattle.dart_tokens.specs.declared.token.Token.{Token as TextToken}
use Rattle.dart_tree.specs.declared.places.Place.{Place}
use Rattle.dart_tree.specs.declared.places.Span.{Span}
use Rattle.dart_tree.specs.declared.operators.BinaryOperator.{BinaryOperator}
use Rattle.dart_tree.specs.declared.operators.BinaryOperatorKind.{BinaryOperatorKind}
use Rattle.dart_tree.specs.declared.operators.BinaryOperatorKind.TheVariants.{Subtract, Add, IfNull, Or, ShiftRight, Greater as GreaterThan, Less as LessThan}
use Rattle.dart_tree.specs.declared.operators.AssignmentOperator.{AssignmentOperator}
use Rattle.dart_tree.specs.declared.names.Name.{Name}
use Rattle.dart_tree.specs.declared.names.Identifier.{Identifier as NameIn}
use Rattle.dart_tree.specs.Tree.{Tree, trees_of, absent, present, parenthesis, named_type, type_argument_list, identifier, integer_literal, binary_expression, assignment, type_test, conditional, function_expression, parameter_list, parameter, expression_body, generic_identifier, call, argument_list, argument, property_access, cascade, cascaded_name, block, expression_statement, if_statement, variable_statement, variable_list, variable, function_statement, plain_function, error_node, unit, function_declaration, void_type, class_declaration, constructor_declaration, field_initializer, empty_body, parenthesis}
use Rattle.dart_tree.specs.declared.names.ParameterKind.TheVariants.{Positional}
use Rattle.dart_tokens.specs.declared.grouped_token.GroupedToken.{GroupedToken as Token}
use Rattle.grammar.specs.declared.level.Setting.TheVariants.{Plain}
use Rattle.grammar.specs.Tokens.{grammar_tokens, place_at}
use Rattle.grammar.specs.Below.{below}
use Rattle.grammar.specs.Declarations.{unit_below}
use Rattle.grammar.specs.Whole.{whole}

-- tokens of these kinds with these words, from a place on
abbrev pub texts : ℕ → List (Kind × ℕ) → List TextToken
texts n [] = []
texts n (k ∷ ks) = record { kind = k.0; start = n; end = suc n; word = k.1 } ∷ texts (suc n) ks

-- kinds of tokens, each with a word of its own: its place
abbrev pub apart : ℕ → List Kind → List (Kind × ℕ)
apart n [] = []
apart n (k ∷ ks) = (k, n) ∷ apart (suc n) ks

-- a text, what is read of it, and how many tokens that has
pub record Row : Type 0 where
  pub text : List (Kind × ℕ)
  pub tree : Tree
  pub read : ℕ

abbrev pub row : List Kind → Tree → ℕ → Row
row text tree read = record { text = apart 0 text; tree = tree; read = read }

-- the tokens of a row
abbrev pub tokens : Row → List Token
tokens r = grammar_tokens (texts 0 r.text)

-- the reading with the lists in its tree read
abbrev pub with_lists_read : Row → Option (Tree × List Token) → Option (Tree × List Token)
with_lists_read r None = None
with_lists_read r (Some x) = Some (whole (tokens r) 5 x.0, x.1)

-- the row's text reads as its tree, as an expression
abbrev pub ReadsExpression : Row → Type 0
ReadsExpression r = with_lists_read r (longest ((below 5).expression Plain (tokens r))) ≡ Some (r.tree, drop r.read (tokens r))

-- the row's text reads as its tree, as a statement
abbrev pub ReadsStatement : Row → Type 0
ReadsStatement r = with_lists_read r (longest ((below 5).statement (tokens r))) ≡ Some (r.tree, drop r.read (tokens r))

-- the row's text reads as its tree, as a whole
abbrev pub ReadsUnit : Row → Type 0
ReadsUnit r = whole (tokens r) 7 (unit_below false (below 5) (below 4) (tokens r)) ≡ r.tree

-- Parts of trees.

abbrev span : ℕ → ℕ → Span
span start end = record { start = start; end = end }

abbrev over : ℕ → ℕ → Place
over start end = place_at (span start end)

abbrev name : ℕ → Tree
name n = identifier (over n (suc n)) n

abbrev part : ℕ → NameIn
part n = record { span = span n (suc n); word = n }

abbrev declared : ℕ → Name
declared n = record { at = over n (suc n); word = n }

abbrev operator : BinaryOperatorKind → ℕ → ℕ → BinaryOperator
operator which start end = record { kind = which; span = span start end }

abbrev assigning : Option BinaryOperatorKind → ℕ → ℕ → AssignmentOperator
assigning which start end = record { compound = which; span = span start end }

abbrev type_name : ℕ → Tree
type_name n = named_type (over n (suc n)) None (part n) absent false

abbrev nullable_name : ℕ → Tree
nullable_name n = named_type (over n (suc (suc n))) None (part n) absent true

abbrev given : ℕ → ℕ → Tree → Tree
given start end value = argument_list (over start end) (trees_of (argument (over (suc start) (suc (suc start))) None value ∷ []))

abbrev none : ℕ → Tree
none start = argument_list (over start (suc (suc start))) (trees_of [])

abbrev nothing_done : ℕ → Tree
nothing_done n = expression_statement (over n (suc n)) absent

-- `a-b-c` nests to the left
abbrev differences : Row
differences =
    row (Identifier ∷ Minus ∷ Identifier ∷ Minus ∷ Identifier ∷ [])
    (binary_expression (over 0 5) (operator Subtract 3 4) (binary_expression (over 0 3) (operator Subtract 1 2) (name 0) (name 2)) (name 4)) 5

-- `a??b||c`: what binds more is the operand
abbrev either_of : Row
either_of =
    row (Identifier ∷ QuestionQuestion ∷ Identifier ∷ BarBar ∷ Identifier ∷ [])
    (binary_expression (over 0 5) (operator IfNull 1 2) (name 0) (binary_expression (over 2 5) (operator Or 3 4) (name 2) (name 4))) 5

-- `a<b>(c)` is a generic call
abbrev generic_call : Row
generic_call =
    row (Identifier ∷ Less ∷ Identifier ∷ Greater ∷ OpenParenthesis ∷ Identifier ∷ CloseParenthesis ∷ [])
    (call (over 0 7) (generic_identifier (over 0 4) (part 0) (type_argument_list (over 1 4) (trees_of (type_name 2 ∷ [])))) absent (given 4 7 (name 5))) 7

-- `a.b<c>(d)`: behind a member, too
abbrev called_member : Row
called_member =
    row (Identifier ∷ Period ∷ Identifier ∷ Less ∷ Identifier ∷ Greater ∷ OpenParenthesis ∷ Identifier ∷ CloseParenthesis ∷ [])
    (call (over 0 9) (property_access (over 0 3) (name 0) false (part 2)) (present (type_argument_list (over 3 6) (trees_of (type_name 4 ∷ [])))) (given 6 9 (name 7))) 9

-- `a<b?c>(d):e`: no type arguments end before the `(`
abbrev compared_choice : Row
compared_choice =
    row (Identifier ∷ Less ∷ Identifier ∷ Question ∷ Identifier ∷ Greater ∷ OpenParenthesis ∷ Identifier ∷ CloseParenthesis ∷ Colon ∷ Identifier ∷ [])
    (conditional (over 0 11) (binary_expression (over 0 3) (operator LessThan 1 2) (name 0) (name 2))
    (binary_expression (over 4 9) (operator GreaterThan 5 6) (name 4) (parenthesis (over 6 9) (name 7))) (name 10)) 11

-- `a<b`: a comparison, where no type arguments can be read
abbrev comparison : Row
comparison = row (Identifier ∷ Less ∷ Identifier ∷ []) (binary_expression (over 0 3) (operator LessThan 1 2) (name 0) (name 2)) 3

-- `x is T?a:b` is a conditional
abbrev tested_choice : Row
tested_choice =
    row (Identifier ∷ Is ∷ Identifier ∷ Question ∷ Identifier ∷ Colon ∷ Identifier ∷ [])
    (conditional (over 0 7) (type_test (over 0 3) (name 0) false (type_name 2)) (name 4) (name 6)) 7

-- `x is T?;`: no expression begins behind the `?`
abbrev tested_nullable : Row
tested_nullable = row (Identifier ∷ Is ∷ Identifier ∷ Question ∷ Semicolon ∷ []) (type_test (over 0 4) (name 0) false (nullable_name 2)) 4

-- `()=>x+1`: the body is `x+1`
abbrev closure : Row
closure =
    row (OpenParenthesis ∷ CloseParenthesis ∷ Arrow ∷ Identifier ∷ Plus ∷ Integer ∷ [])
    (function_expression (over 0 6) (parameter_list (over 0 2) (trees_of []))
    (expression_body (over 2 6) (binary_expression (over 3 6) (operator Add 4 5) (name 3) (integer_literal (over 5 6) 5)))) 6

-- `()=>a<b<c`: nothing is read behind a closure with `=>`
abbrev closure_alone : Row
closure_alone =
    row (OpenParenthesis ∷ CloseParenthesis ∷ Arrow ∷ Identifier ∷ Less ∷ Identifier ∷ Less ∷ Identifier ∷ [])
    (function_expression (over 0 6) (parameter_list (over 0 2) (trees_of []))
    (expression_body (over 2 6) (binary_expression (over 3 6) (operator LessThan 4 5) (name 3) (name 5)))) 6

-- `a..b()..c()`: a section over a section
abbrev cascades : Row
cascades =
    row (Identifier ∷ PeriodPeriod ∷ Identifier ∷ OpenParenthesis ∷ CloseParenthesis ∷ PeriodPeriod ∷ Identifier ∷ OpenParenthesis ∷ CloseParenthesis ∷ [])
    (cascade (over 0 9) (cascade (over 0 5) (name 0) false (call (over 2 5) (cascaded_name (over 2 3) (part 2)) absent (none 3))) false
    (call (over 6 9) (cascaded_name (over 6 7) (part 6)) absent (none 7))) 9

-- `a>>=b`: one operator, where its lexemes stand side by side
abbrev shifted : Row
shifted = row (Identifier ∷ Greater ∷ Greater ∷ Equals ∷ Identifier ∷ []) (assignment (over 0 5) (assigning (Some ShiftRight) 1 4) (name 0) (name 4)) 5

-- `f(a.b<c,d>(e)=>x)`: in a list a closure behind `>` makes a comparison of what else would be a generic call
abbrev two_arguments : Row
two_arguments =
    row
    (Identifier ∷ OpenParenthesis ∷ Identifier ∷ Period ∷ Identifier ∷ Less ∷ Identifier ∷ Comma ∷ Identifier ∷ Greater ∷ OpenParenthesis ∷ Identifier ∷ CloseParenthesis ∷ Arrow
    ∷ Identifier ∷ CloseParenthesis ∷ [])
    (call (over 0 16) (name 0) absent
    (argument_list (over 1 16)
    (trees_of
    (argument (over 2 7) None (binary_expression (over 2 7) (operator LessThan 5 6) (property_access (over 2 5) (name 2) false (part 4)) (name 6))
    ∷ argument (over 8 15) None
    (binary_expression (over 8 15) (operator GreaterThan 9 10) (name 8)
    (function_expression (over 10 15) (parameter_list (over 10 13) (trees_of (parameter (over 11 12) (trees_of []) Positional false false absent false (declared 11) absent ∷ [])))
    (expression_body (over 13 15) (name 14)))) ∷ [])))) 16

-- how expressions are read
abbrev pub expression_rows : List Row
expression_rows = differences ∷ either_of ∷ generic_call ∷ called_member ∷ compared_choice ∷ comparison ∷ tested_choice ∷ tested_nullable ∷ closure ∷ closure_alone ∷ cascades ∷ shifted ∷ two_arguments ∷ []

-- `if(a)if(b);else;`: the `else` belongs to the nearest `if`
abbrev dangling_else : Row
dangling_else =
    row
    (If ∷ OpenParenthesis ∷ Identifier ∷ CloseParenthesis ∷ If ∷ OpenParenthesis ∷ Identifier ∷ CloseParenthesis ∷ Semicolon ∷ Else ∷ Semicolon ∷ [])
    (if_statement (over 0 11) (name 2) (if_statement (over 4 11) (name 6) (nothing_done 8) (present (nothing_done 10))) absent) 11

-- `{};`: a block, and not a map
abbrev empty_block : Row
empty_block = row (OpenBrace ∷ CloseBrace ∷ Semicolon ∷ []) (block (over 0 2) (trees_of [])) 2

-- `{else;a;}`: what begins no statement is an error up to the `;`
abbrev block_with_error : Row
block_with_error =
    row (OpenBrace ∷ Else ∷ Semicolon ∷ Identifier ∷ Semicolon ∷ CloseBrace ∷ [])
    (block (over 0 6) (trees_of (error_node (over 1 3) ∷ expression_statement (over 3 5) (present (name 3)) ∷ []))) 6

-- `{a;`: a group that no bracket closes ends with the text
abbrev open_block : Row
open_block = row (OpenBrace ∷ Identifier ∷ Semicolon ∷ []) (block (over 0 3) (trees_of (expression_statement (over 1 3) (present (name 1)) ∷ []))) 3

-- `{a-(){b;}-(){else;}c;}`: what derives no statement is an error up to its first block, whose statements aren't read; behind it another begins, and it is one up to the next
abbrev block_with_closures : Row
block_with_closures =
    row
    (OpenBrace ∷ Identifier ∷ Minus ∷ OpenParenthesis ∷ CloseParenthesis ∷ OpenBrace ∷ Identifier ∷ Semicolon ∷ CloseBrace ∷ Minus ∷ OpenParenthesis ∷ CloseParenthesis ∷ OpenBrace ∷ Else
    ∷ Semicolon ∷ CloseBrace ∷ Identifier ∷ Semicolon ∷ CloseBrace ∷ [])
    (block (over 0 19) (trees_of (error_node (over 1 9) ∷ error_node (over 9 16) ∷ expression_statement (over 16 18) (present (name 16)) ∷ []))) 19

-- `{(){else;};}`: the statements of a closure's block, with the error that they have by themselves
abbrev closure_with_error : Row
closure_with_error =
    row (OpenBrace ∷ OpenParenthesis ∷ CloseParenthesis ∷ OpenBrace ∷ Else ∷ Semicolon ∷ CloseBrace ∷ Semicolon ∷ CloseBrace ∷ [])
    (block (over 0 9)
    (trees_of
    (expression_statement (over 1 8)
    (present (function_expression (over 1 7) (parameter_list (over 1 3) (trees_of [])) (block (over 3 7) (trees_of (error_node (over 4 6) ∷ []))))) ∷ []))) 9

-- `T?a=b;` declares a variable
abbrev nullable_variable : Row
nullable_variable =
    row (Identifier ∷ Question ∷ Identifier ∷ Equals ∷ Identifier ∷ Semicolon ∷ [])
    (variable_statement (over 0 6) (variable_list (over 0 5) false (present (nullable_name 0)) (trees_of (variable (over 2 5) (declared 2) (present (name 4)) ∷ [])))) 6

-- `t?a=b:c;` is a conditional
abbrev conditional_statement : Row
conditional_statement =
    row (Identifier ∷ Question ∷ Identifier ∷ Equals ∷ Identifier ∷ Colon ∷ Identifier ∷ Semicolon ∷ [])
    (expression_statement (over 0 8) (present (conditional (over 0 7) (name 0) (assignment (over 2 5) (assigning None 3 4) (name 2) (name 4)) (name 6)))) 8

-- `f(){}` declares a function
abbrev function : Row
function =
    row (Identifier ∷ OpenParenthesis ∷ CloseParenthesis ∷ OpenBrace ∷ CloseBrace ∷ [])
    (function_statement (over 0 5) (plain_function (over 0 5) absent (declared 0) (trees_of []) (parameter_list (over 1 3) (trees_of [])) (block (over 3 5) (trees_of [])))) 5

-- how statements are read
abbrev pub statement_rows : List Row
statement_rows = dangling_else ∷ empty_block ∷ block_with_error ∷ open_block ∷ block_with_closures ∷ closure_with_error ∷ nullable_variable ∷ conditional_statement ∷ function ∷ []

abbrev no_parameters : ℕ → Tree
no_parameters start = parameter_list (over start (suc (suc start))) (trees_of [])

abbrev empty_block_at : ℕ → Tree
empty_block_at start = block (over start (suc (suc start))) (trees_of [])

-- `void f(){}`
abbrev lone_function : Row
lone_function =
    row (Void ∷ Identifier ∷ OpenParenthesis ∷ CloseParenthesis ∷ OpenBrace ∷ CloseBrace ∷ [])
    (unit (over 0 6)
    (trees_of
    (function_declaration (over 0 6) (trees_of []) (plain_function (over 0 6) (present (void_type (over 0 1))) (declared 1) (trees_of []) (no_parameters 2) (empty_block_at 4)) ∷ []))) 6

-- `}a;`: a bracket that closes nothing is left out, and what derives no declaration is an error
abbrev lone_error : Row
lone_error = row (CloseBrace ∷ Identifier ∷ Semicolon ∷ []) (unit (over 1 3) (trees_of (error_node (over 1 3) ∷ []))) 2

-- `class C{C():f=(a)` and what comes behind it, with the name of the class as the constructor's
abbrev class_text : List Kind → List (Kind × ℕ)
class_text rest =
    (Class, 0) ∷ (Identifier, 1) ∷ (OpenBrace, 2) ∷ (Identifier, 1) ∷ (OpenParenthesis, 4) ∷ (CloseParenthesis, 5) ∷ (Colon, 6) ∷ (Identifier, 7) ∷ (Equals, 8)
    ∷ (OpenParenthesis, 9) ∷ (Identifier, 10) ∷ (CloseParenthesis, 11) ∷ apart 12 rest

-- the class of that text, which ends at a place
abbrev class_with : ℕ → Tree → Tree
class_with end member = unit (over 0 end) (trees_of (class_declaration (over 0 end) (trees_of []) false (declared 1) (trees_of []) absent (trees_of []) (trees_of []) (trees_of (member ∷ [])) ∷ []))

abbrev constructor_with : ℕ → Tree → Tree → Tree
constructor_with end initializer body =
    constructor_declaration (over 3 end) (trees_of []) (record { at = over 3 4; class = 1; name = None }) (no_parameters 4) (trees_of (initializer ∷ [])) body

-- `class C{C():f=(a){}}`: the braces are the constructor's body
abbrev body_behind_initializer : Row
body_behind_initializer = record {
  text = class_text (OpenBrace ∷ CloseBrace ∷ CloseBrace ∷ []);
  tree = class_with 15 (constructor_with 14 (field_initializer (over 7 12) (part 7) (parenthesis (over 9 12) (name 10))) (empty_block_at 12));
  read = 15;
}

-- `class C{C():f=(a){};}`: with a `;` behind them they are a closure's
abbrev closure_in_initializer : Row
closure_in_initializer = record {
  text = class_text (OpenBrace ∷ CloseBrace ∷ Semicolon ∷ CloseBrace ∷ []);
  tree = class_with 16
      (constructor_with 15
      (field_initializer (over 7 14) (part 7)
      (function_expression (over 9 14)
      (parameter_list (over 9 12) (trees_of (parameter (over 10 11) (trees_of []) Positional false false absent false (declared 10) absent ∷ []))) (empty_block_at 12))) (empty_body (over 14 15)));
  read = 16;
}

-- how texts are read
abbrev pub unit_rows : List Row
unit_rows = lone_function ∷ lone_error ∷ body_behind_initializer ∷ closure_in_initializer ∷ []

-- Where nodes have room.

-- an expression, how many nodes may lie on a way down, and how many of its tokens are read then, if any are
pub record RoomRow : Type 0 where
  pub room : ℕ
  pub text : List Kind
  pub read : Option ℕ

abbrev within : ℕ → List Kind → Option ℕ → RoomRow
within room text read = record { room = room; text = text; read = read }

-- so many tokens of the row are read as an expression
abbrev pub ReadsAsFar : RoomRow → Type 0
ReadsAsFar r =
    option_map (λ x. x.1) (longest ((below r.room).expression Plain (grammar_tokens (texts 0 (apart 0 r.text)))))
    ≡ option_map (λ n. drop n (grammar_tokens (texts 0 (apart 0 r.text)))) r.read

-- `a-b-c`
abbrev two_differences : List Kind
two_differences = Identifier ∷ Minus ∷ Identifier ∷ Minus ∷ Identifier ∷ []

-- `(a)`
abbrev one_parenthesis : List Kind
one_parenthesis = OpenParenthesis ∷ Identifier ∷ CloseParenthesis ∷ []

-- `()=>a`
abbrev short_closure : List Kind
short_closure = OpenParenthesis ∷ CloseParenthesis ∷ Arrow ∷ Identifier ∷ []

-- `(){a;}`
abbrev block_closure : List Kind
block_closure = OpenParenthesis ∷ CloseParenthesis ∷ OpenBrace ∷ Identifier ∷ Semicolon ∷ CloseBrace ∷ []

-- `(){a;}-b`
abbrev block_closure_less : List Kind
block_closure_less = OpenParenthesis ∷ CloseParenthesis ∷ OpenBrace ∷ Identifier ∷ Semicolon ∷ CloseBrace ∷ Minus ∷ Identifier ∷ []

-- `a..b`
abbrev one_section : List Kind
one_section = Identifier ∷ PeriodPeriod ∷ Identifier ∷ []

-- `a.b.c`
abbrev two_members : List Kind
two_members = Identifier ∷ Period ∷ Identifier ∷ Period ∷ Identifier ∷ []

-- How far expressions are read. An operator, a selector or a section deepens what stands on its left, so a repeat stops where it has no room; `=>` adds no node; and a block is read wherever it has room itself, whatever stands in it, since what is too deep in it is an error.
abbrev pub room_rows : List RoomRow
room_rows =
    within 0 two_differences None ∷ within 1 two_differences (Some 1) ∷ within 2 two_differences (Some 3) ∷ within 3 two_differences (Some 5)
    ∷ within 1 one_parenthesis None ∷ within 2 one_parenthesis (Some 3) ∷ within 1 short_closure None ∷ within 2 short_closure (Some 4)
    ∷ within 1 block_closure None ∷ within 2 block_closure (Some 6) ∷ within 2 block_closure_less (Some 6) ∷ within 3 block_closure_less (Some 8) ∷ within 1 one_section (Some 1) ∷ within 2 one_section (Some 3)
    ∷ within 2 two_members (Some 3) ∷ within 3 two_members (Some 5) ∷ []
