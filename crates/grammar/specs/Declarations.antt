-- Members, declarations, directives, and whole texts.
use Rattle.std.specs.Prelude.{ℕ, ◌==◌, Bool, true, false, ◌&&◌, ◌||◌, List, [], ◌∷◌, map, length, Option, Some, None, is_some, option_map, slice_get, if◌then◌else◌}
use Rattle.readings.specs.Readings.{Rule, Test, next, optional, token, given, ◌▹◌, ◌∣◌, make, turn, maybe, many, longest_of, where_next, prefer, exactly, before, inside, items, items_at}
use Rattle.readings.specs.Descent.{Descent}
use Rattle.dart_tokens.specs.declared.token.Kind.TheVariants as kind
use Rattle.dart_tree.specs.Tree.{Tree, trees_of, part_of, getter, setter, plain_function, empty_body, native_body, constructor_declaration, factory_declaration, method_declaration, field_declaration, operator_declaration, field_initializer, super_initializer, redirection, class_declaration, mixin_declaration, type_alias, function_declaration, variable_declaration, library_directive, import_directive, export_directive, part_directive, part_of_directive, part_of_library_directive, show_combinator, hide_combinator, listed_name, unit}
use Rattle.dart_tree.specs.declared.places.Span.{Span}
use Rattle.dart_tree.specs.declared.names.ConstructorName.{ConstructorName}
use Rattle.dart_tree.specs.declared.operators.BinaryOperatorKind.{BinaryOperatorKind}
use Rattle.dart_tree.specs.declared.operators.BinaryOperatorKind.TheVariants.{Multiply, Divide, TruncatingDivide, Modulo, Add, Subtract, ShiftLeft, ShiftRight, BitAnd, BitXor, BitOr, Less, Greater, LessOrEqual, GreaterOrEqual, Equal, NotEqual, And, Or, IfNull}
use Rattle.dart_tree.specs.declared.operators.OperatorName.{OperatorName}
use Rattle.dart_tree.specs.declared.operators.DeclaredOperator.{DeclaredOperator}
use Rattle.dart_tree.specs.declared.operators.DeclaredOperator.TheVariants as named
use Rattle.dart_tokens.specs.declared.grouped_token.GroupedToken.{GroupedToken as Token}
use Rattle.grammar.specs.declared.level.Setting.TheVariants as setting
use Rattle.grammar.specs.declared.level.Sign.{Sign}
use Rattle.grammar.specs.declared.level.Sign.TheVariants as sign
use Rattle.grammar.specs.Tokens.{is, is_name, is_type_name, heads, heads_name, first_then, width, past, place_at, place_of, place_over, name_at, identifier_at}
use Rattle.grammar.specs.Operators.{table, take_sign}
use Rattle.grammar.specs.Types.{Below, separated_rule, behind_token, listed_or_none, type_parameters_rule, parameter_list_rule, annotation_rule}
use Rattle.grammar.specs.Expressions.{arguments_rule, string_rule}
use Rattle.grammar.specs.Statements.{segment, error_of, local_body_rule, variables_rule}

-- what is read where it is allowed
abbrev pub allowed : {A : Type 0} → Bool → Rule Token A → Rule Token A
allowed is_allowed p = where_next (λ ts. is_allowed) p (λ ts. [])

-- Functions.

abbrev pub native_of : List Token → Token × Token → Tree
native_of read (word, semicolon) = native_body (place_over read)

abbrev pub empty_of : Token → Tree
empty_of semicolon = empty_body (place_of semicolon)

-- body: block | '=>' expression ';' | 'native' ';', in `dart:core` alone | ';', where a function may be without a body
unfoldable pub body_rule : (in_core without_body : Bool) → Below → Rule Token Tree
body_rule in_core without_body d =
    local_body_rule d ∣ allowed in_core (make native_of (token (is kind.Native) ▹ token (is kind.Semicolon)))
    ∣ allowed without_body (turn empty_of (token (is kind.Semicolon)))

-- what stands behind the result type of a function
pub data Signature : Type 0 where
  getting : (name : Token) (body : Tree) → Signature
  setting_of : (name : Token) (parameters : Tree) (body : Tree) → Signature
  plain : (name : Token) (type_parameters : List Tree) (parameters : Tree) (body : Tree) → Signature

abbrev pub getting_of : Token × (Token × Tree) → Signature
getting_of (word, (name, body)) = getting name body

abbrev pub set_of : Token × (Token × (Tree × Tree)) → Signature
set_of (word, (name, (parameters, body))) = setting_of name parameters body

abbrev pub plain_of : Token × (Option (List Tree) × (Tree × Tree)) → Signature
plain_of (name, (type_parameters, (parameters, body))) = plain name (listed_or_none type_parameters) parameters body

-- `get` and a name come next
abbrev pub heads_getter : Test Token
heads_getter = first_then (is kind.Get) heads_name

-- `set` and a name come next
abbrev pub heads_setter : Test Token
heads_setter = first_then (is kind.Set) heads_name

-- 'get' identifier body | 'set' identifier parameters body | identifier type-parameters? parameters body
unfoldable pub signature_rule : (body : Rule Token Tree) → Below → Rule Token Signature
signature_rule body d =
    where_next heads_getter (turn getting_of (token (is kind.Get) ▹ token is_name ▹ body))
    (where_next heads_setter (turn set_of (token (is kind.Set) ▹ token is_name ▹ parameter_list_rule d ▹ body))
    (turn plain_of (token is_name ▹ maybe (type_parameters_rule d) ▹ parameter_list_rule d ▹ body)))

abbrev pub function_with : List Token → Option Tree → Signature → Tree
function_with read result (getting name body) = getter (place_over read) (part_of result) (name_at name) body
function_with read result (setting_of name parameters body) = setter (place_over read) (part_of result) (name_at name) parameters body
function_with read result (plain name type_parameters parameters body) = plain_function (place_over read) (part_of result) (name_at name) (trees_of type_parameters) parameters body

abbrev pub function_of : List Token → Option Tree × Signature → Tree
function_of read (result, signature) = function_with read result signature

-- function: type? signature
unfoldable pub function_rule : (body : Rule Token Tree) → Below → Rule Token Tree
function_rule body d = make function_of (exactly (before heads_name d.named) ▹ signature_rule body d)

-- Members.

-- the token is the name of the class
abbrev pub is_class : Option ℕ → Token → Bool
is_class None t = false
is_class (Some word) t = is_name t && t.word == word

abbrev pub constructor_name_of : List Token → Token × Option (Token × Token) → ConstructorName
constructor_name_of read (class, name) = record { at = place_over read; class = class.word; name = option_map identifier_at (behind_token name) }

-- name of a constructor: identifier ('.' identifier)?, of which the first is the class's name. A mixin has no constructors.
unfoldable pub constructor_name_rule : Option ℕ → Rule Token ConstructorName
constructor_name_rule class = make constructor_name_of (token (is_class class) ▹ maybe (token (is kind.Period) ▹ token is_name))

abbrev pub field_initializer_of : List Token → Option (Token × Token) × (Token × (Token × Tree)) → Tree
field_initializer_of read (this, (name, (equals, value))) = field_initializer (place_over read) (identifier_at name) value

abbrev pub super_of : List Token → Token × (Option (Token × Token) × Tree) → Tree
super_of read (word, (name, arguments)) = super_initializer (place_over read) (option_map identifier_at (behind_token name)) arguments

abbrev pub redirection_of : List Token → Token × (Option (Token × Token) × Tree) → Tree
redirection_of read (word, (name, arguments)) = redirection (place_over read) (option_map identifier_at (behind_token name)) arguments

-- a constructor of this class or the one above, with its arguments
abbrev pub constructed_rule : Below → Rule Token (Option (Token × Token) × Tree)
constructed_rule d = maybe (token (is kind.Period) ▹ token is_name) ▹ arguments_rule d

-- initializer: ('this' '.')? identifier '=' conditional | ('super' | 'this') ('.' identifier)? arguments
unfoldable pub initializer_rule : Below → Rule Token Tree
initializer_rule d =
    prefer
    (make field_initializer_of (maybe (token (is kind.This) ▹ token (is kind.Period)) ▹ token is_name ▹ token (is kind.Equals) ▹ d.operand setting.Initializer table))
    (make super_of (token (is kind.Super) ▹ constructed_rule d) ∣ make redirection_of (token (is kind.This) ▹ constructed_rule d))

-- what a member is, without what stands before it
pub data Member : Type 0 where
  constructed : (name : ConstructorName) (parameters : Tree) (initializers : List Tree) (body : Tree) → Member
  made_by_factory : (name : ConstructorName) (parameters : Tree) (body : Tree) → Member
  method : (is_static : Bool) (function : Tree) → Member
  fields : (is_static : Bool) (variables : Tree) → Member
  operated_by : (result : Option Tree) (name : OperatorName) (parameters : Tree) (body : Tree) → Member

abbrev pub constructor_of : ConstructorName × (Tree × (Option (Token × List Tree) × Tree)) → Member
constructor_of (name, (parameters, (initializers, body))) = constructed name parameters (listed_or_none (behind_token initializers)) body

-- constructor: name parameters (':' initializer (',' initializer)*)? (block | ';')
unfoldable pub constructor_rule : Option ℕ → Below → Rule Token Member
constructor_rule class d =
    turn constructor_of
    (constructor_name_rule class ▹ parameter_list_rule d ▹ maybe (token (is kind.Colon) ▹ separated_rule (initializer_rule d))
    ▹ (d.block ∣ turn empty_of (token (is kind.Semicolon))))

abbrev pub factory_of : Token × (ConstructorName × (Tree × Tree)) → Member
factory_of (word, (name, (parameters, body))) = made_by_factory name parameters body

-- factory: 'factory' name parameters body
unfoldable pub factory_rule : (in_core : Bool) → Option ℕ → Below → Rule Token Member
factory_rule in_core class d = turn factory_of (token (is kind.Factory) ▹ constructor_name_rule class ▹ parameter_list_rule d ▹ body_rule in_core false d)

-- the operator of a class that a sign between operands is
abbrev pub declared_operator : BinaryOperatorKind → Option DeclaredOperator
declared_operator Multiply = Some named.Star
declared_operator Divide = Some named.Slash
declared_operator TruncatingDivide = Some named.TildeSlash
declared_operator Modulo = Some named.Percent
declared_operator Add = Some named.Plus
declared_operator Subtract = Some named.Minus
declared_operator ShiftLeft = Some named.ShiftLeft
declared_operator ShiftRight = Some named.ShiftRight
declared_operator BitAnd = Some named.Ampersand
declared_operator BitXor = Some named.Caret
declared_operator BitOr = Some named.Bar
declared_operator Less = Some named.Less
declared_operator Greater = Some named.Greater
declared_operator LessOrEqual = Some named.LessOrEqual
declared_operator GreaterOrEqual = Some named.GreaterOrEqual
declared_operator Equal = Some named.Equal
declared_operator NotEqual = None
declared_operator And = None
declared_operator Or = None
declared_operator IfNull = None

abbrev pub operator_name : Span → DeclaredOperator → OperatorName
operator_name span operator = record { at = place_at span; operator = operator }

abbrev pub declared_sign : Span → Sign → Option OperatorName
declared_sign span (sign.Binary operator) = option_map (operator_name span) (declared_operator operator)
declared_sign span (sign.Assign compound) = None

-- an operator that a class may declare, of those that stand between operands
abbrev pub is_declared : Sign → Bool
is_declared (sign.Binary operator) = is_some (declared_operator operator)
is_declared (sign.Assign compound) = false

abbrev pub take_declared_sign : Descent Token OperatorName
take_declared_sign = take_sign declared_sign

unfoldable pub declared_sign_rule : Rule Token OperatorName
declared_sign_rule ts = optional (take_declared_sign ts)

abbrev pub tilde_of : List Token → Token → OperatorName
tilde_of read t = operator_name (place_over read).span named.Tilde

abbrev pub index_of : List Token → (Token × List Token) × Option Token → OperatorName
index_of read (brackets, equals) = operator_name (place_over read).span (if is_some equals then named.IndexAssign else named.Index)

-- operator: '+' | '-' | '*' | '/' | '~/' | '%' | '<<' | '>>' | '&' | '^' | '|' | '<' | '<=' | '>' | '>=' | '==' | '~' | '[' ']' '='?
unfoldable pub operator_rule : Rule Token OperatorName
operator_rule =
    declared_sign_rule ∣ make tilde_of (token (is kind.Tilde)) ∣ make index_of (inside (is kind.OpenBracket) width past (given []) ▹ maybe (token (is kind.Equals)))

abbrev pub operator_member_of : Option Tree × (Token × (OperatorName × (Tree × Tree))) → Member
operator_member_of (result, (word, (name, (parameters, body)))) = operated_by result name parameters body

-- type? 'operator' operator parameters body
unfoldable pub operator_member_rule : (in_core : Bool) → Below → Rule Token Member
operator_member_rule in_core d =
    turn operator_member_of (exactly (before heads_name d.named) ▹ token (is kind.Operator) ▹ operator_rule ▹ parameter_list_rule d ▹ body_rule in_core true d)

-- what comes behind `static`
abbrev pub begins_static : Token → Bool
begins_static t = is_name t || is kind.Final t || is kind.Var t || is kind.Void t

-- `static` comes next, and isn't the member's name
abbrev pub heads_static : Test Token
heads_static = first_then (is kind.Static) (next begins_static)

abbrev pub method_of : Bool → Tree → Member
method_of is_static function = method is_static function

abbrev pub fields_of : Bool → Tree × Token → Member
fields_of is_static (variables, semicolon) = fields is_static variables

-- function | variables ';'. Only what isn't static may be without a body.
unfoldable pub plain_member_rule : (in_core is_static without_body : Bool) → Below → Rule Token Member
plain_member_rule in_core is_static without_body d =
    prefer (turn (method_of is_static) (function_rule (body_rule in_core without_body d) d)) (turn (fields_of is_static) (variables_rule d ▹ token (is kind.Semicolon)))

-- what is behind a word
abbrev pub behind_word : Token × Member → Member
behind_word (word, member) = member

-- 'static'? (function | variables ';')
unfoldable pub static_member_rule : (in_core : Bool) → Below → Rule Token Member
static_member_rule in_core d =
    where_next heads_static (turn behind_word (token (is kind.Static) ▹ plain_member_rule in_core true false d)) (plain_member_rule in_core false true d)

abbrev pub member_with : List Token → List Tree → Member → Tree
member_with read metadata (constructed name parameters initializers body) = constructor_declaration (place_over read) (trees_of metadata) name parameters (trees_of initializers) body
member_with read metadata (made_by_factory name parameters body) = factory_declaration (place_over read) (trees_of metadata) name parameters body
member_with read metadata (method is_static function) = method_declaration (place_over read) (trees_of metadata) is_static function
member_with read metadata (fields is_static variables) = field_declaration (place_over read) (trees_of metadata) is_static variables
member_with read metadata (operated_by result name parameters body) = operator_declaration (place_over read) (trees_of metadata) (part_of result) name parameters body

abbrev pub member_of : List Token → List Tree × Member → Tree
member_of read (metadata, member) = member_with read metadata member

-- member: annotation* (constructor | factory | type? 'operator' .. | 'static'? (function | variables ';')). A constructor, where one can be read, comes first.
unfoldable pub member_rule : (in_core : Bool) → Option ℕ → Below → Rule Token Tree
member_rule in_core class d =
    longest_of
    (make member_of
    (many annotation_rule ▹ prefer (constructor_rule class d) (prefer (factory_rule in_core class d) (prefer (operator_member_rule in_core d) (static_member_rule in_core d)))))

-- '{' member* '}', with errors among the members
abbrev pub members_rule : (in_core : Bool) → Option ℕ → Below → Rule Token (Token × List Tree)
members_rule in_core class d = inside (is kind.OpenBrace) width past (items (member_rule in_core class d) segment error_of)

-- Declarations.

-- what a declaration is, without what stands before it
pub data Declaration : Type 0 where
  of_class : (is_abstract : Bool) (name : Token) (type_parameters : List Tree) (superclass : Option Tree) (mixins interfaces members : List Tree) → Declaration
  of_mixin : (name : Token) (type_parameters : List Tree) (constraints interfaces members : List Tree) → Declaration
  of_type : (name : Token) (written : Tree) → Declaration
  of_function : (function : Tree) → Declaration
  of_variables : (variables : Tree) → Declaration

-- a word and types behind it
abbrev pub types_behind : (Token → Bool) → Below → Rule Token (Token × List Tree)
types_behind word d = token word ▹ separated_rule d.written

abbrev pub class_of : Option Token × (Token × (Token × (Option (List Tree) × (Option (Token × Tree) × (Option (Token × List Tree) × (Option (Token × List Tree) × (Token × List Tree))))))) → Declaration
class_of (partial, (word, (name, (type_parameters, (superclass, (mixins, (interfaces, (opening, members)))))))) =
    of_class (is_some partial) name (listed_or_none type_parameters) (behind_token superclass) (listed_or_none (behind_token mixins)) (listed_or_none (behind_token interfaces)) members

-- 'abstract'? 'class' identifier type-parameters? ('extends' type)? ('with' types)? ('implements' types)? members
unfoldable pub class_with_rule : (in_core : Bool) → Option ℕ → (in_class in_member : Below) → Rule Token Declaration
class_with_rule in_core class d e =
    turn class_of
    (maybe (token (is kind.Abstract)) ▹ token (is kind.Class) ▹ token is_type_name ▹ maybe (type_parameters_rule d) ▹ maybe (token (is kind.Extends) ▹ d.written)
    ▹ maybe (types_behind (is kind.With) d) ▹ maybe (types_behind (is kind.Implements) d) ▹ members_rule in_core class e)

-- the word at a place of tokens
abbrev pub word_at : ℕ → List Token → Option ℕ
word_at n ts = option_map (λ t. t.word) (slice_get ts n)

-- the name of the class that comes next: behind `class` or behind `abstract class`
abbrev pub class_word : List Token → Option ℕ
class_word ts = if heads kind.Abstract ts then word_at 2 ts else word_at 1 ts

-- class: its constructors have its name
unfoldable pub class_rule : (in_core : Bool) → (in_class in_member : Below) → Rule Token Declaration
class_rule in_core d e ts = class_with_rule in_core (class_word ts) d e ts

abbrev pub mixin_of : Token × (Token × (Option (List Tree) × (Option (Token × List Tree) × (Option (Token × List Tree) × (Token × List Tree))))) → Declaration
mixin_of (word, (name, (type_parameters, (constraints, (interfaces, (opening, members)))))) =
    of_mixin name (listed_or_none type_parameters) (listed_or_none (behind_token constraints)) (listed_or_none (behind_token interfaces)) members

-- 'mixin' identifier type-parameters? ('on' types)? ('implements' types)? members
unfoldable pub mixin_rule : (in_core : Bool) → (in_mixin in_member : Below) → Rule Token Declaration
mixin_rule in_core d e =
    turn mixin_of
    (token (is kind.Mixin) ▹ token is_type_name ▹ maybe (type_parameters_rule d) ▹ maybe (types_behind (is kind.On) d) ▹ maybe (types_behind (is kind.Implements) d)
    ▹ members_rule in_core None e)

abbrev pub alias_of : Token × (Token × (Token × (Tree × Token))) → Declaration
alias_of (word, (name, (equals, (written, semicolon)))) = of_type name written

-- 'typedef' identifier '=' type ';'
unfoldable pub alias_rule : Below → Rule Token Declaration
alias_rule d = turn alias_of (token (is kind.Typedef) ▹ token is_type_name ▹ token (is kind.Equals) ▹ d.written ▹ token (is kind.Semicolon))

abbrev pub declared_function_of : Tree → Declaration
declared_function_of function = of_function function

abbrev pub declared_variables_of : Tree × Token → Declaration
declared_variables_of (variables, semicolon) = of_variables variables

-- function | variables ';'
unfoldable pub plain_declaration_rule : (in_core : Bool) → Below → Rule Token Declaration
plain_declaration_rule in_core d =
    prefer (turn declared_function_of (function_rule (body_rule in_core false d) d)) (turn declared_variables_of (variables_rule d ▹ token (is kind.Semicolon)))

-- a class comes next
abbrev pub heads_class : Test Token
heads_class ts = heads kind.Class ts || first_then (is kind.Abstract) (heads kind.Class) ts

-- a word and a name come next
abbrev pub heads_word : (Token → Bool) → Test Token
heads_word word = first_then word heads_name

abbrev pub declaration_with : List Token → List Tree → Declaration → Tree
declaration_with read metadata (of_class is_abstract name type_parameters superclass mixins interfaces members) =
    class_declaration (place_over read) (trees_of metadata) is_abstract (name_at name) (trees_of type_parameters) (part_of superclass) (trees_of mixins) (trees_of interfaces) (trees_of members)
declaration_with read metadata (of_mixin name type_parameters constraints interfaces members) =
    mixin_declaration (place_over read) (trees_of metadata) (name_at name) (trees_of type_parameters) (trees_of constraints) (trees_of interfaces) (trees_of members)
declaration_with read metadata (of_type name written) = type_alias (place_over read) (trees_of metadata) (name_at name) written
declaration_with read metadata (of_function function) = function_declaration (place_over read) (trees_of metadata) function
declaration_with read metadata (of_variables variables) = variable_declaration (place_over read) (trees_of metadata) variables

abbrev pub declaration_of : List Token → List Tree × Declaration → Tree
declaration_of read (metadata, declaration) = declaration_with read metadata declaration

-- declaration: annotation* (class | mixin | typedef | function | variables ';'). `mixin` and `typedef` are words of a declaration exactly where a name comes behind them.
unfoldable pub declaration_rule : (in_core : Bool) → (in_declaration in_member : Below) → Rule Token Tree
declaration_rule in_core d e =
    make declaration_of
    (many annotation_rule
    ▹ where_next heads_class (class_rule in_core d e)
    (where_next (heads_word (is kind.Mixin)) (mixin_rule in_core d e) (where_next (heads_word (is kind.Typedef)) (alias_rule d) (plain_declaration_rule in_core d))))

-- Directives.

-- a name in a directive
abbrev pub listed : Token → Tree
listed t = listed_name (place_of t) t.word

-- the names of a library: identifier ('.' identifier)*
unfoldable pub library_names_rule : Rule Token (List Tree)
library_names_rule = turn (λ x. listed x.0 ∷ map (λ n. listed n.1) x.1) (token is_name ▹ many (token (is kind.Period) ▹ token is_name))

abbrev pub library_of : List Token → Token × (List Tree × Token) → Tree
library_of read (word, (names, semicolon)) = library_directive (place_over read) (trees_of names)

-- 'library' identifier ('.' identifier)* ';'
unfoldable pub library_rule : Rule Token Tree
library_rule = make library_of (token (is kind.Library) ▹ library_names_rule ▹ token (is kind.Semicolon))

abbrev pub show_of : List Token → Token × List Token → Tree
show_of read (word, names) = show_combinator (place_over read) (trees_of (map listed names))

abbrev pub hide_of : List Token → Token × List Token → Tree
hide_of read (word, names) = hide_combinator (place_over read) (trees_of (map listed names))

-- combinator: ('show' | 'hide') identifier (',' identifier)*
unfoldable pub combinator_rule : Rule Token Tree
combinator_rule =
    make show_of (token (is kind.Show) ▹ separated_rule (token is_name)) ∣ make hide_of (token (is kind.Hide) ▹ separated_rule (token is_name))

abbrev pub import_of : List Token → Token × (Tree × (Option (Token × Token) × (List Tree × Token))) → Tree
import_of read (word, (uri, (prefix, (combinators, semicolon)))) = import_directive (place_over read) uri (part_of (option_map listed (behind_token prefix))) (trees_of combinators)

-- 'import' string ('as' identifier)? combinator* ';'
unfoldable pub import_rule : Below → Rule Token Tree
import_rule d =
    make import_of
    (token (is kind.Import) ▹ string_rule d ▹ maybe (token (is kind.As) ▹ token is_name) ▹ many (longest_of combinator_rule) ▹ token (is kind.Semicolon))

abbrev pub export_of : List Token → Token × (Tree × (List Tree × Token)) → Tree
export_of read (word, (uri, (combinators, semicolon))) = export_directive (place_over read) uri (trees_of combinators)

-- 'export' string combinator* ';'
unfoldable pub export_rule : Below → Rule Token Tree
export_rule d = make export_of (token (is kind.Export) ▹ string_rule d ▹ many (longest_of combinator_rule) ▹ token (is kind.Semicolon))

abbrev pub part_directive_of : List Token → Token × (Tree × Token) → Tree
part_directive_of read (word, (uri, semicolon)) = part_directive (place_over read) uri

-- 'part' string ';'
unfoldable pub part_rule : Below → Rule Token Tree
part_rule d = make part_directive_of (token (is kind.Part) ▹ string_rule d ▹ token (is kind.Semicolon))

abbrev pub part_of_uri_of : List Token → Token × (Token × (Tree × Token)) → Tree
part_of_uri_of read (word, (of, (uri, semicolon))) = part_of_directive (place_over read) uri

abbrev pub part_of_library_of : List Token → Token × (Token × (List Tree × Token)) → Tree
part_of_library_of read (word, (of, (names, semicolon))) = part_of_library_directive (place_over read) (trees_of names)

-- 'part' 'of' (string | identifier ('.' identifier)*) ';'
unfoldable pub part_of_rule : Below → Rule Token Tree
part_of_rule d =
    prefer (make part_of_uri_of (token (is kind.Part) ▹ token (is kind.Of) ▹ string_rule d ▹ token (is kind.Semicolon)))
    (make part_of_library_of (token (is kind.Part) ▹ token (is kind.Of) ▹ library_names_rule ▹ token (is kind.Semicolon)))

-- directive: library | import | export | part | part-of
unfoldable pub directive_rule : Below → Rule Token Tree
directive_rule d = library_rule ∣ import_rule d ∣ export_rule d ∣ prefer (part_rule d) (part_of_rule d)

-- Texts.

-- an item of a text: directive | declaration. Where a directive can be read, it is.
unfoldable pub item_rule : (in_core : Bool) → (in_item in_member : Below) → Rule Token Tree
item_rule in_core d e = longest_of (prefer (directive_rule d) (declaration_rule in_core d e))

-- the tree of a text, by what may lie in its items and in their members: its items, with errors among them, whose lists of statements aren't read yet
abbrev pub unit_below : (in_core : Bool) → (in_item in_member : Below) → List Token → Tree
unit_below in_core d e ts = unit (place_over ts) (trees_of (items_at (length ts) (item_rule in_core d e) segment error_of ts))
