-- The parser's way through members, declarations, directives and whole texts.
use Rattle.std.specs.Prelude.{ℕ, Bool, true, false, List, [], ◌∷◌, map, Option, None}
use Rattle.readings.specs.Readings.{either}
use Rattle.readings.specs.Descent.{Descent, take_token, take_given, ◌▸◌, ◌⊘◌, take_make, take_turn, take_maybe, take_many, take_where, take_before, take_inside, take_items, all_items}
use Rattle.dart_tokens.specs.declared.token.Kind.TheVariants as kind
use Rattle.dart_tree.specs.Tree.{Tree, trees_of, unit}
use Rattle.dart_tree.specs.declared.names.ConstructorName.{ConstructorName}
use Rattle.dart_tree.specs.declared.operators.OperatorName.{OperatorName}
use Rattle.dart_tokens.specs.declared.grouped_token.GroupedToken.{GroupedToken as Token}
use Rattle.grammar.specs.declared.level.Setting.TheVariants as setting
use Rattle.grammar.specs.Tokens.{is, is_name, is_type_name, heads, heads_name, width, past, place_over}
use Rattle.grammar.specs.Operators.{table, heads_sign}
use Rattle.grammar.specs.Statements.{segment, error_of}
use Rattle.grammar.specs.Declarations.{native_of, empty_of, Signature, getting_of, set_of, plain_of, heads_getter, heads_setter, function_of, is_class, constructor_name_of, field_initializer_of, super_of, redirection_of, Member, constructor_of, factory_of, is_declared, take_declared_sign, tilde_of, index_of, operator_member_of, heads_static, method_of, fields_of, behind_word, member_of, Declaration, class_of, class_word, mixin_of, alias_of, declared_function_of, declared_variables_of, heads_class, heads_word, declaration_of, listed, library_of, show_of, hide_of, import_of, export_of, part_directive_of, part_of_uri_of, part_of_library_of}
use Rattle.grammar.specs.Descents.{Lower, take_separated, take_type_parameters, take_annotation, take_parameter_list, take_string, take_arguments, take_variables, take_local_body}

-- what is read where it is allowed
abbrev pub take_allowed : {A : Type 0} → Bool → Descent Token A → Descent Token A
take_allowed is_allowed g = take_where (λ ts. is_allowed) g (λ ts. None)

unfoldable pub take_body : (in_core without_body : Bool) → Lower → Descent Token Tree
take_body in_core without_body l = take_where (either (heads kind.OpenBrace) (heads kind.Arrow)) (take_local_body l) (take_where (heads kind.Native) (take_allowed in_core (take_make native_of (take_token (is kind.Native) ▸ take_token (is kind.Semicolon)))) (take_allowed without_body (take_turn empty_of (take_token (is kind.Semicolon)))))

unfoldable pub take_signature : (body : Descent Token Tree) → Lower → Descent Token Signature
take_signature body l = take_where heads_getter (take_turn getting_of (take_token (is kind.Get) ▸ take_token is_name ▸ body)) (take_where heads_setter (take_turn set_of (take_token (is kind.Set) ▸ take_token is_name ▸ take_parameter_list l ▸ body)) (take_turn plain_of (take_token is_name ▸ take_maybe (take_type_parameters l) ▸ take_parameter_list l ▸ body)))

unfoldable pub take_function : (body : Descent Token Tree) → Lower → Descent Token Tree
take_function body l = take_make function_of (take_maybe (take_before heads_name l.named) ▸ take_signature body l)

unfoldable pub take_constructor_name : Option ℕ → Descent Token ConstructorName
take_constructor_name class = take_make constructor_name_of (take_token (is_class class) ▸ take_maybe (take_token (is kind.Period) ▸ take_token is_name))

abbrev pub take_constructed : Lower → Descent Token (Option (Token × Token) × Tree)
take_constructed l = take_maybe (take_token (is kind.Period) ▸ take_token is_name) ▸ take_arguments l

unfoldable pub take_initializer : Lower → Descent Token Tree
take_initializer l = take_make field_initializer_of (take_maybe (take_token (is kind.This) ▸ take_token (is kind.Period)) ▸ take_token is_name ▸ take_token (is kind.Equals) ▸ l.operand setting.Initializer table) ⊘ take_where (heads kind.Super) (take_make super_of (take_token (is kind.Super) ▸ take_constructed l)) (take_make redirection_of (take_token (is kind.This) ▸ take_constructed l))

unfoldable pub take_constructor : Option ℕ → Lower → Descent Token Member
take_constructor class l = take_turn constructor_of (take_constructor_name class ▸ take_parameter_list l ▸ take_maybe (take_token (is kind.Colon) ▸ take_separated (take_initializer l)) ▸ take_where (heads kind.OpenBrace) l.block (take_turn empty_of (take_token (is kind.Semicolon))))

unfoldable pub take_factory : (in_core : Bool) → Option ℕ → Lower → Descent Token Member
take_factory in_core class l = take_turn factory_of (take_token (is kind.Factory) ▸ take_constructor_name class ▸ take_parameter_list l ▸ take_body in_core false l)

unfoldable pub take_operator : Descent Token OperatorName
take_operator = take_where (heads_sign is_declared) (take_declared_sign) (take_where (heads kind.Tilde) (take_make tilde_of (take_token (is kind.Tilde))) (take_make index_of (take_inside (is kind.OpenBracket) width past (take_given []) ▸ take_maybe (take_token (is kind.Equals)))))

unfoldable pub take_operator_member : (in_core : Bool) → Lower → Descent Token Member
take_operator_member in_core l = take_turn operator_member_of (take_maybe (take_before heads_name l.named) ▸ take_token (is kind.Operator) ▸ take_operator ▸ take_parameter_list l ▸ take_body in_core true l)

unfoldable pub take_plain_member : (in_core is_static without_body : Bool) → Lower → Descent Token Member
take_plain_member in_core is_static without_body l = take_turn (method_of is_static) (take_function (take_body in_core without_body l) l) ⊘ (take_turn (fields_of is_static) (take_variables l ▸ take_token (is kind.Semicolon)))

unfoldable pub take_static_member : (in_core : Bool) → Lower → Descent Token Member
take_static_member in_core l = take_where heads_static (take_turn behind_word (take_token (is kind.Static) ▸ take_plain_member in_core true false l)) (take_plain_member in_core false true l)

unfoldable pub take_member : (in_core : Bool) → Option ℕ → Lower → Descent Token Tree
take_member in_core class l = take_make member_of (take_many take_annotation ▸ (take_constructor class l ⊘ take_factory in_core class l ⊘ take_operator_member in_core l ⊘ take_static_member in_core l))

abbrev pub take_types_behind : (Token → Bool) → Lower → Descent Token (Token × List Tree)
take_types_behind word l = take_token word ▸ take_separated l.written

abbrev pub take_members : (in_core : Bool) → Option ℕ → Lower → Descent Token (Token × List Tree)
take_members in_core class l = take_inside (is kind.OpenBrace) width past (take_items (take_member in_core class l) segment error_of)

unfoldable pub take_class_with : (in_core : Bool) → Option ℕ → (in_class in_member : Lower) → Descent Token Declaration
take_class_with in_core class l k = take_turn class_of (take_maybe (take_token (is kind.Abstract)) ▸ take_token (is kind.Class) ▸ take_token is_type_name ▸ take_maybe (take_type_parameters l) ▸ take_maybe (take_token (is kind.Extends) ▸ l.written) ▸ take_maybe (take_types_behind (is kind.With) l) ▸ take_maybe (take_types_behind (is kind.Implements) l) ▸ take_members in_core class k)

unfoldable pub take_class : (in_core : Bool) → (in_class in_member : Lower) → Descent Token Declaration
take_class in_core l k ts = take_class_with in_core (class_word ts) l k ts

unfoldable pub take_mixin : (in_core : Bool) → (in_mixin in_member : Lower) → Descent Token Declaration
take_mixin in_core l k = take_turn mixin_of (take_token (is kind.Mixin) ▸ take_token is_type_name ▸ take_maybe (take_type_parameters l) ▸ take_maybe (take_types_behind (is kind.On) l) ▸ take_maybe (take_types_behind (is kind.Implements) l) ▸ take_members in_core None k)

unfoldable pub take_alias : Lower → Descent Token Declaration
take_alias l = take_turn alias_of (take_token (is kind.Typedef) ▸ take_token is_type_name ▸ take_token (is kind.Equals) ▸ l.written ▸ take_token (is kind.Semicolon))

unfoldable pub take_plain_declaration : (in_core : Bool) → Lower → Descent Token Declaration
take_plain_declaration in_core l = take_turn declared_function_of (take_function (take_body in_core false l) l) ⊘ (take_turn declared_variables_of (take_variables l ▸ take_token (is kind.Semicolon)))

unfoldable pub take_declaration : (in_core : Bool) → (in_declaration in_member : Lower) → Descent Token Tree
take_declaration in_core l k = take_make declaration_of (take_many take_annotation ▸ take_where heads_class (take_class in_core l k) (take_where (heads_word (is kind.Mixin)) (take_mixin in_core l k) (take_where (heads_word (is kind.Typedef)) (take_alias l) (take_plain_declaration in_core l))))

unfoldable pub take_library_names : Descent Token (List Tree)
take_library_names = take_turn (λ x. listed x.0 ∷ map (λ n. listed n.1) x.1) (take_token is_name ▸ take_many (take_token (is kind.Period) ▸ take_token is_name))

unfoldable pub take_library : Descent Token Tree
take_library = take_make library_of (take_token (is kind.Library) ▸ take_library_names ▸ take_token (is kind.Semicolon))

unfoldable pub take_combinator : Descent Token Tree
take_combinator = take_where (heads kind.Show) (take_make show_of (take_token (is kind.Show) ▸ take_separated (take_token is_name))) (take_make hide_of (take_token (is kind.Hide) ▸ take_separated (take_token is_name)))

unfoldable pub take_import : Lower → Descent Token Tree
take_import l = take_make import_of (take_token (is kind.Import) ▸ take_string l ▸ take_maybe (take_token (is kind.As) ▸ take_token is_name) ▸ take_many (take_combinator) ▸ take_token (is kind.Semicolon))

unfoldable pub take_export : Lower → Descent Token Tree
take_export l = take_make export_of (take_token (is kind.Export) ▸ take_string l ▸ take_many (take_combinator) ▸ take_token (is kind.Semicolon))

unfoldable pub take_part : Lower → Descent Token Tree
take_part l = take_make part_directive_of (take_token (is kind.Part) ▸ take_string l ▸ take_token (is kind.Semicolon))

unfoldable pub take_part_of : Lower → Descent Token Tree
take_part_of l = take_make part_of_uri_of (take_token (is kind.Part) ▸ take_token (is kind.Of) ▸ take_string l ▸ take_token (is kind.Semicolon)) ⊘ (take_make part_of_library_of (take_token (is kind.Part) ▸ take_token (is kind.Of) ▸ take_library_names ▸ take_token (is kind.Semicolon)))

unfoldable pub take_directive : Lower → Descent Token Tree
take_directive l = take_where (heads kind.Library) (take_library) (take_where (heads kind.Import) (take_import l) (take_where (heads kind.Export) (take_export l) (take_part l ⊘ take_part_of l)))

unfoldable pub take_item : (in_core : Bool) → (in_item in_member : Lower) → Descent Token Tree
take_item in_core l k = take_directive l ⊘ take_declaration in_core l k

-- the tree of a text
abbrev pub lower_unit : (in_core : Bool) → (in_item in_member : Lower) → List Token → Tree
lower_unit in_core l k ts = unit (place_over ts) (trees_of (all_items (take_item in_core l k) segment error_of ts))
