-- Types, and the parameters of functions.
use Rattle.std.specs.Prelude.{ℕ, Bool, false, ◌||◌, List, [], ◌∷◌, ◌++◌, length, map, Option, Some, None, is_some, option_map}
use Rattle.readings.specs.Readings.{Rule, Test, next, token, given, ◌▹◌, ◌∣◌, make, turn, maybe, many, chain, longest_of, where_next, prefer, exactly, before, inside, elements}
use Rattle.dart_tokens.specs.declared.token.Kind.TheVariants as kind
use Rattle.dart_tree.specs.Tree.{Tree, trees_of, part_of, void_type, named_type, function_type, type_argument_list, type_parameter, parameter_type, annotation, parameter, parameter_list}
use Rattle.dart_tree.specs.declared.names.ParameterKind.{ParameterKind}
use Rattle.dart_tree.specs.declared.names.ParameterKind.TheVariants as parameter_kind
use Rattle.dart_tokens.specs.declared.grouped_token.GroupedToken.{GroupedToken as Token}
use Rattle.grammar.specs.declared.level.Level.{Level}
use Rattle.grammar.specs.declared.level.Setting.{Setting}
use Rattle.grammar.specs.declared.level.Setting.TheVariants as setting
use Rattle.dart_tree.specs.Heights.{fits}
use Rattle.grammar.specs.Tokens.{is, is_either, is_name, is_type_name, first_then, width, past, place_over, place_of, name_at, identifier_at}

-- What the rules read where fewer nodes may lie on a way down.
pub record Below : Type 0 where
  -- a type
  pub written : Rule Token Tree
  -- a type behind `is` or `as`
  pub tested : Setting → Rule Token Tree
  -- a type behind `new`
  pub constructed : Rule Token Tree
  -- a type in front of a name
  pub named : Rule Token Tree
  pub expression : Setting → Rule Token Tree
  -- an operand of the levels of a table
  pub operand : Setting → List Level → Rule Token Tree
  -- an operand of all levels
  pub unary : Setting → Rule Token Tree
  -- what stands behind `..`
  pub section : Setting → Rule Token Tree
  -- what stands behind the `$` of a string
  pub simple : Rule Token Tree
  pub block : Rule Token Tree
  pub statement : Rule Token Tree

-- Lists.

-- a first one, and those behind commas
abbrev pub separated : {A : Type 0} → A × List (Token × A) → List A
separated (first, rest) = first ∷ map (λ x. x.1) rest

-- one or more, with commas between them
abbrev pub separated_rule : {A : Type 0} → Rule Token A → Rule Token (List A)
separated_rule p = turn separated (p ▹ many (token (is kind.Comma) ▹ p))

-- what stands behind a token, if both are there
abbrev pub behind_token : {A : Type 0} → Option (Token × A) → Option A
behind_token found = option_map (λ f. f.1) found

-- the word that stands is `final`
abbrev pub is_final_word : Option Token → Bool
is_final_word None = false
is_final_word (Some t) = is kind.Final t

-- Types.

abbrev pub type_arguments_of : List Token → Token × (List Tree × Token) → Tree
type_arguments_of read (opening, (types, closing)) = type_argument_list (place_over read) (trees_of types)

-- type arguments: '<' type (',' type)* '>'
unfoldable pub type_arguments_rule : Below → Rule Token Tree
type_arguments_rule d = make type_arguments_of (token (is kind.Less) ▹ separated_rule d.written ▹ token (is kind.Greater))

abbrev pub type_parameter_of : List Token → Token × Option (Token × Tree) → Tree
type_parameter_of read (name, bound) = type_parameter (place_over read) (name_at name) (part_of (behind_token bound))

-- type parameter: identifier ('extends' type)?
unfoldable pub type_parameter_rule : Below → Rule Token Tree
type_parameter_rule d = make type_parameter_of (token is_type_name ▹ maybe (token (is kind.Extends) ▹ d.written))

abbrev pub type_parameters_of : Token × (List Tree × Token) → List Tree
type_parameters_of (opening, (parameters, closing)) = parameters

-- type parameters: '<' type-parameter (',' type-parameter)* '>'
unfoldable pub type_parameters_rule : Below → Rule Token (List Tree)
type_parameters_rule d = turn type_parameters_of (token (is kind.Less) ▹ separated_rule (type_parameter_rule d) ▹ token (is kind.Greater))

-- the type parameters, if there are any
abbrev pub listed_or_none : Option (List Tree) → List Tree
listed_or_none None = []
listed_or_none (Some parameters) = parameters

abbrev pub void_of : Token → Tree
void_of t = void_type (place_of t)

-- an identifier, a `.` and an identifier that may name a type come next
abbrev pub heads_qualified : Test Token
heads_qualified = first_then is_name (first_then (is kind.Period) (next is_type_name))

abbrev pub qualified_of : Token × (Token × Token) → Option Token × Token
qualified_of (prefix, (period, name)) = (Some prefix, name)

abbrev pub unqualified_of : Token → Option Token × Token
unqualified_of name = (None, name)

-- the name of a type: identifier '.' identifier | identifier, where the last may name a type
unfoldable pub type_name_rule : Rule Token (Option Token × Token)
type_name_rule =
    where_next heads_qualified (turn qualified_of (token is_name ▹ token (is kind.Period) ▹ token is_type_name)) (turn unqualified_of (token is_type_name))

-- a `?` that is read exactly where these tokens come next
unfoldable pub question_rule : Test Token → Rule Token (Option Token)
question_rule question = where_next question (turn (λ t. Some t) (token (is kind.Question))) (given None)

abbrev pub named_type_of : List Token → (Option Token × Token) × (Option Tree × Option Token) → Tree
named_type_of read ((prefix, name), (arguments, question)) =
    named_type (place_over read) (option_map identifier_at prefix) (identifier_at name) (part_of arguments) (is_some question)

-- plain type: 'void' | type-name type-arguments? '?'?
unfoldable pub plain_type_rule : Below → Test Token → Rule Token Tree
plain_type_rule d question =
    turn void_of (token (is kind.Void)) ∣ make named_type_of (type_name_rule ▹ maybe (type_arguments_rule d) ▹ question_rule question)

-- Parameters.

abbrev pub annotation_of : List Token → Token × Token → Tree
annotation_of read (sign, name) = annotation (place_over read) (identifier_at name)

-- annotation: '@' identifier
unfoldable pub annotation_rule : Rule Token Tree
annotation_rule = make annotation_of (token (is kind.At) ▹ token is_name)

-- a parameter goes on with this token behind `required`
abbrev pub goes_on_parameter : Token → Bool
goes_on_parameter t = is_name t || is kind.Final t || is kind.Var t || is kind.Void t || is kind.This t

-- `required` comes next, and isn't the parameter's name
abbrev pub heads_required : Test Token
heads_required = first_then (is kind.Required) (next goes_on_parameter)

-- a parameter's name comes next, or `this`
abbrev pub heads_field : Test Token
heads_field = next (λ t. is_name t || is kind.This t)

abbrev pub parameter_of : ParameterKind → List Token → List Tree × (Option Token × (Option Token × (Option Tree × (Option (Token × Token) × (Token × Option (Token × Tree)))))) → Tree
parameter_of which read (metadata, (required, (word, (written, (field, (name, default)))))) =
    parameter (place_over read) (trees_of metadata) which (is_some required) (is_final_word word) (part_of written) (is_some field) (name_at name) (part_of (behind_token default))

-- parameter: annotation* 'required'? ('final' | 'var')? type? ('this' '.')? identifier ('=' expression)?
unfoldable pub parameter_rule : Below → ParameterKind → Rule Token Tree
parameter_rule d which =
    make (parameter_of which)
    (many annotation_rule ▹ where_next heads_required (turn (λ t. Some t) (token (is kind.Required))) (given None) ▹ maybe (token (is_either kind.Final kind.Var))
    ▹ exactly (before heads_field d.named) ▹ maybe (token (is kind.This) ▹ token (is kind.Period)) ▹ token is_name ▹ maybe (token (is kind.Equals) ▹ d.expression setting.Default))

-- what stands between brackets
abbrev pub inner : {A : Type 0} → Token × A → A
inner found = found.1

-- parameters with commas between them and maybe behind the last
abbrev pub parameters_rule : Below → ParameterKind → Rule Token (List Tree)
parameters_rule d which = elements (parameter_rule d which) (token (is kind.Comma))

-- optional parameters: '[' parameter list ']' | '{' parameter list '}'
unfoldable pub optional_parameters_rule : Below → Rule Token (List Tree)
optional_parameters_rule d =
    turn inner (inside (is kind.OpenBracket) width past (parameters_rule d parameter_kind.OptionalPositional))
    ∣ turn inner (inside (is kind.OpenBrace) width past (parameters_rule d parameter_kind.Named))

abbrev pub parameter_list_of : List Token → Token × (List Tree × Option (List Tree)) → Tree
parameter_list_of read (opening, (required, optional)) = parameter_list (place_over read) (trees_of (required ++ listed_or_none optional))

-- parameters: '(' parameter list optional-parameters? ')'
unfoldable pub parameter_list_rule : Below → Rule Token Tree
parameter_list_rule d =
    make parameter_list_of (inside (is kind.OpenParenthesis) width past (parameters_rule d parameter_kind.Positional ▹ maybe (optional_parameters_rule d)))

-- Types of functions.

abbrev pub parameter_type_of : List Token → Tree × Option Token → Tree
parameter_type_of read (written, name) = parameter_type (place_over read) written (option_map identifier_at name)

-- parameter of a function type: type identifier?
unfoldable pub parameter_type_rule : Below → Rule Token Tree
parameter_type_rule d = make parameter_type_of (d.written ▹ maybe (token is_name))

-- what makes a type of a result
pub data Tail : Type 0 where
  tail : (type_parameters : List Tree) (parameters : List Tree) (optional : List Tree) (nullable : Bool) → Tail

abbrev pub tail_of : Token × (Option (List Tree) × ((Token × (List Tree × Option (List Tree))) × Option Token)) → Tail
tail_of (word, (type_parameters, ((opening, (parameters, optional)), question))) =
    tail (listed_or_none type_parameters) parameters (listed_or_none optional) (is_some question)

-- tail: 'Function' type-parameters? '(' parameter-type list optional-parameters? ')' '?'?
unfoldable pub tail_rule : Below → Test Token → Rule Token Tail
tail_rule d question =
    turn tail_of
    (token (is kind.Function) ▹ maybe (type_parameters_rule d)
    ▹ inside (is kind.OpenParenthesis) width past (elements (parameter_type_rule d) (token (is kind.Comma)) ▹ maybe (optional_parameters_rule d)) ▹ question_rule question)

-- a function type, from what stands before its tail
abbrev pub function_type_with : List Token → Option Tree → Tail → Tree
function_type_with read result (tail type_parameters parameters optional nullable) =
    function_type (place_over read) (part_of result) (trees_of type_parameters) (trees_of parameters) (trees_of optional) nullable

abbrev pub first_tail_of : List Token → Tail → Tree
first_tail_of read found = function_type_with read None found

abbrev pub next_tail_of : List Token → Tree → Tail → Tree
next_tail_of read result found = function_type_with read (Some result) found

-- as often as there are tokens
abbrev pub every_time : {A : Type 0} → A → List Token → ℕ
every_time left ts = length ts

-- A tail that is read only before these tokens.
unfoldable pub tail_before_rule : Below → (question ends : Test Token) → Rule Token Tail
tail_before_rule d question ends = before ends (longest_of (tail_rule d question))

-- type: plain-type tail* | tail+. Where a tail can be read first, it is.
unfoldable pub type_rule : ℕ → Below → (question ends : Test Token) → Rule Token Tree
type_rule n d question ends =
    chain every_time (fits n) next_tail_of (longest_of (prefer (make first_tail_of (tail_before_rule d question ends)) (plain_type_rule d question))) (tail_before_rule d question ends)
