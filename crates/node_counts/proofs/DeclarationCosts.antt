-- What is read of declarations, directives and whole texts is paid for by its tokens.
use Rattle.std.proofs.Common.{ℕ, ◌+◌, ◌≤◌, Bool, true, false, List, [], ◌∷◌, Option, Some, None, option_map, map, arith}
use Rattle.readings.specs.Readings.{either}
use Rattle.readings.specs.Descent.{Descent, ◌⊘◌}
use Rattle.dart_tokens.specs.declared.token.Kind.TheVariants as kind
use Rattle.dart_tree.specs.Tree.{Tree, trees_of, part_of}
use Rattle.dart_tree.specs.Numbers.{nodes_in, nodes_in_all, nodes_in_part}
use Rattle.dart_tree.specs.declared.places.Place.{Place}
use Rattle.dart_tokens.specs.declared.grouped_token.GroupedToken.{GroupedToken as Token}
use Rattle.grammar.specs.declared.level.Setting.TheVariants as setting
use Rattle.grammar.specs.Tokens.{is, is_name, is_type_name, heads, heads_name}
use Rattle.grammar.specs.Types.{behind_token, listed_or_none}
use Rattle.grammar.specs.Operators.{table, heads_sign}
use Rattle.grammar.specs.Statements.{segment, error_of}
use Rattle.grammar.specs.Declarations.{native_of, empty_of, Signature, getting, setting_of, plain, getting_of, set_of, plain_of, heads_getter, heads_setter, function_with, function_of, is_class, constructor_name_of, field_initializer_of, super_of, redirection_of, Member, constructed, made_by_factory, method, fields, operated_by, constructor_of, factory_of, is_declared, declared_sign, tilde_of, index_of, operator_member_of, heads_static, method_of, fields_of, behind_word, member_with, member_of, Declaration, of_class, of_mixin, of_type, of_function, of_variables, class_of, class_word, mixin_of, alias_of, declared_function_of, declared_variables_of, heads_class, heads_word, declaration_with, declaration_of, listed, library_of, show_of, hide_of, import_of, export_of, part_directive_of, part_of_uri_of, part_of_library_of}
use Rattle.grammar.specs.Descents.{Lower}
use Rattle.grammar.specs.DeclarationDescents.{take_body, take_signature, take_function, take_constructor_name, take_constructed, take_initializer, take_constructor, take_factory, take_operator, take_operator_member, take_plain_member, take_static_member, take_member, take_types_behind, take_members, take_class_with, take_class, take_mixin, take_alias, take_plain_declaration, take_declaration, take_library_names, take_library, take_combinator, take_import, take_export, take_part, take_part_of, take_directive, take_item}
use Rattle.node_counts.proofs.Weights.{weight}
use Rattle.node_counts.proofs.Pays.{free, both, if_there, total, Pays, pays_token, pays_given, pays_none, pays_seq, pays_make, pays_turn, pays_or, pays_where, pays_less, pays_maybe, pays_many, pays_inside, pays_before, pays_items}
use Rattle.node_counts.proofs.Costs.{Affordable, all_weight, all_nodes, part_weight, listed_total, pays_separated, type_parameters_pay, parameter_list_pays, annotation_pays, sign_pays, string_pays, arguments_pay}
use Rattle.node_counts.proofs.StatementCosts.{error_pays, variables_pay, local_body_pays}

body_pays : (c : Place → ℕ) (in_core without_body : Bool) (l : Lower) → Affordable c l → Pays c (weight c) 4 (take_body in_core without_body l)
unfolding take_body
body_pays c in_core without_body l a =
    pays_where (either (heads kind.OpenBrace) (heads kind.Arrow)) (local_body_pays c l a)
    (pays_where (heads kind.Native)
    (pays_where (λ ts. in_core) (pays_make (weight c) 4 native_of (pays_seq (pays_token c (is kind.Native)) (pays_token c (is kind.Semicolon))) (λ read x. omega arith)) (pays_none c (weight c) 4))
    (pays_where (λ ts. without_body) (pays_turn (weight c) 4 empty_of (pays_token c (is kind.Semicolon)) (λ x. omega arith)) (pays_none c (weight c) 4)))

-- Functions.

abbrev signature_weight : (Place → ℕ) → Signature → ℕ
signature_weight c (getting name body) = weight c body
signature_weight c (setting_of name parameters body) = weight c parameters + weight c body
signature_weight c (plain name type_parameters parameters body) = total (weight c) type_parameters + (weight c parameters + weight c body)

function_weight : (c : Place → ℕ) (read : List Token) (result : Option Tree) (s : Signature) → weight c (function_with read result s) ≤ 2 + (if_there (weight c) result + signature_weight c s)
function_weight c read result (getting name body) = omega (arith, part_weight c result)
function_weight c read result (setting_of name parameters body) = omega (arith, part_weight c result)
function_weight c read result (plain name type_parameters parameters body) = omega (arith, part_weight c result, all_weight c type_parameters)

signature_pays : (c : Place → ℕ) (body : Descent Token Tree) → Pays c (weight c) 4 body → (l : Lower) → Affordable c l → Pays c (signature_weight c) 16 (take_signature body l)
unfolding take_signature
signature_pays c body b l a =
    pays_where heads_getter (pays_turn (signature_weight c) 16 getting_of (pays_seq (pays_token c (is kind.Get)) (pays_seq (pays_token c is_name) b)) (λ x. omega arith))
    (pays_where heads_setter
    (pays_turn (signature_weight c) 16 set_of (pays_seq (pays_token c (is kind.Set)) (pays_seq (pays_token c is_name) (pays_seq (parameter_list_pays c l a) b))) (λ x. omega arith))
    (pays_turn (signature_weight c) 16 plain_of (pays_seq (pays_token c is_name) (pays_seq (pays_maybe (type_parameters_pay c l a)) (pays_seq (parameter_list_pays c l a) b))) (λ x. omega (arith, listed_total c x.1.0))))

function_pays : (c : Place → ℕ) (body : Descent Token Tree) → Pays c (weight c) 4 body → (l : Lower) → Affordable c l → Pays c (weight c) 8 (take_function body l)
unfolding take_function
function_pays c body b l a =
    pays_make (weight c) 8 function_of (pays_seq (pays_maybe (pays_before heads_name a.named)) (signature_pays c body b l a)) (λ read x. omega (arith, function_weight c read x.0 x.1))

-- Members.

name_of_constructor_pays : (c : Place → ℕ) (class : Option ℕ) → Pays c free 16 (take_constructor_name class)
unfolding take_constructor_name
name_of_constructor_pays c class =
    pays_make free 16 constructor_name_of (pays_seq (pays_token c (is_class class)) (pays_maybe (pays_seq (pays_token c (is kind.Period)) (pays_token c is_name)))) (λ read x. omega arith)

constructed_pays : (c : Place → ℕ) (l : Lower) → Affordable c l → Pays c (both (if_there (both free free)) (weight c)) 8 (take_constructed l)
constructed_pays c l a = pays_seq (pays_maybe (pays_seq (pays_token c (is kind.Period)) (pays_token c is_name))) (arguments_pay c l a)

initializer_pays : (c : Place → ℕ) (l : Lower) → Affordable c l → Pays c (weight c) 4 (take_initializer l)
unfolding take_initializer
initializer_pays c l a =
    pays_or
    (pays_make (weight c) 4 field_initializer_of
    (pays_seq (pays_maybe (pays_seq (pays_token c (is kind.This)) (pays_token c (is kind.Period))))
    (pays_seq (pays_token c is_name) (pays_seq (pays_token c (is kind.Equals)) (a.operand setting.Initializer table)))) (λ read x. omega arith))
    (pays_where (heads kind.Super) (pays_make (weight c) 4 super_of (pays_seq (pays_token c (is kind.Super)) (constructed_pays c l a)) (λ read x. omega arith))
    (pays_make (weight c) 4 redirection_of (pays_seq (pays_token c (is kind.This)) (constructed_pays c l a)) (λ read x. omega arith)))

abbrev member_weight : (Place → ℕ) → Member → ℕ
member_weight c (constructed name parameters initializers body) = weight c parameters + (total (weight c) initializers + weight c body)
member_weight c (made_by_factory name parameters body) = weight c parameters + weight c body
member_weight c (method is_static function) = weight c function
member_weight c (fields is_static variables) = weight c variables
member_weight c (operated_by result name parameters body) = if_there (weight c) result + (weight c parameters + weight c body)

behind_total : (c : Place → ℕ) (o : Option (Token × List Tree)) → total (weight c) (listed_or_none (behind_token o)) ≤ if_there (both free (total (weight c))) o
behind_total c None = omega arith
behind_total c (Some y) = omega arith

behind_part : (c : Place → ℕ) (o : Option (Token × Tree)) → if_there (weight c) (behind_token o) ≤ if_there (both free (weight c)) o
behind_part c None = omega arith
behind_part c (Some y) = omega arith

members_weight : (c : Place → ℕ) (read : List Token) (metadata : List Tree) (m : Member) → weight c (member_with read metadata m) ≤ 2 + (total nodes_in metadata + member_weight c m)
members_weight c read metadata (constructed name parameters initializers body) = omega (arith, all_nodes metadata, all_weight c initializers)
members_weight c read metadata (made_by_factory name parameters body) = omega (arith, all_nodes metadata)
members_weight c read metadata (method is_static function) = omega (arith, all_nodes metadata)
members_weight c read metadata (fields is_static variables) = omega (arith, all_nodes metadata)
members_weight c read metadata (operated_by result name parameters body) = omega (arith, all_nodes metadata, part_weight c result)

constructor_pays : (c : Place → ℕ) (class : Option ℕ) (l : Lower) → Affordable c l → Pays c (member_weight c) 8 (take_constructor class l)
unfolding take_constructor
constructor_pays c class l a =
    pays_turn (member_weight c) 8 constructor_of
    (pays_seq (name_of_constructor_pays c class)
    (pays_seq (parameter_list_pays c l a)
    (pays_seq (pays_maybe (pays_seq (pays_token c (is kind.Colon)) (pays_separated (initializer_pays c l a))))
    (pays_where (heads kind.OpenBrace) a.block (pays_turn (weight c) 4 empty_of (pays_token c (is kind.Semicolon)) (λ x. omega arith))))))
    (λ x. omega (arith, behind_total c x.1.1.0))

factory_pays : (c : Place → ℕ) (in_core : Bool) (class : Option ℕ) (l : Lower) → Affordable c l → Pays c (member_weight c) 8 (take_factory in_core class l)
unfolding take_factory
factory_pays c in_core class l a =
    pays_turn (member_weight c) 8 factory_of
    (pays_seq (pays_token c (is kind.Factory)) (pays_seq (name_of_constructor_pays c class) (pays_seq (parameter_list_pays c l a) (body_pays c in_core false l a)))) (λ x. omega arith)

operator_pays : (c : Place → ℕ) → Pays c free 16 take_operator
unfolding take_operator
operator_pays c =
    pays_where (heads_sign is_declared) (sign_pays c declared_sign)
    (pays_where (heads kind.Tilde) (pays_make free 16 tilde_of (pays_token c (is kind.Tilde)) (λ read x. omega arith))
    (pays_make free 16 index_of (pays_seq (pays_inside (is kind.OpenBracket) (pays_given c free 0 [] (omega arith))) (pays_maybe (pays_token c (is kind.Equals)))) (λ read x. omega arith)))

operator_member_pays : (c : Place → ℕ) (in_core : Bool) (l : Lower) → Affordable c l → Pays c (member_weight c) 8 (take_operator_member in_core l)
unfolding take_operator_member
operator_member_pays c in_core l a =
    pays_turn (member_weight c) 8 operator_member_of
    (pays_seq (pays_maybe (pays_before heads_name a.named))
    (pays_seq (pays_token c (is kind.Operator)) (pays_seq (operator_pays c) (pays_seq (parameter_list_pays c l a) (body_pays c in_core true l a))))) (λ x. omega arith)

plain_member_pays : (c : Place → ℕ) (in_core is_static without_body : Bool) (l : Lower) → Affordable c l → Pays c (member_weight c) 8 (take_plain_member in_core is_static without_body l)
unfolding take_plain_member
plain_member_pays c in_core is_static without_body l a =
    pays_or (pays_turn (member_weight c) 8 (method_of is_static) (function_pays c _ (body_pays c in_core without_body l a) l a) (λ x. omega arith))
    (pays_turn (member_weight c) 8 (fields_of is_static) (pays_seq (variables_pay c l a) (pays_token c (is kind.Semicolon))) (λ x. omega arith))

static_member_pays : (c : Place → ℕ) (in_core : Bool) (l : Lower) → Affordable c l → Pays c (member_weight c) 8 (take_static_member in_core l)
unfolding take_static_member
static_member_pays c in_core l a =
    pays_where heads_static (pays_turn (member_weight c) 8 behind_word (pays_seq (pays_token c (is kind.Static)) (plain_member_pays c in_core true false l a)) (λ x. omega arith)) (plain_member_pays c in_core false true l a)

pub member_pays : (c : Place → ℕ) (in_core : Bool) (class : Option ℕ) (l : Lower) → Affordable c l → Pays c (weight c) 4 (take_member in_core class l)
unfolding take_member
member_pays c in_core class l a =
    pays_make (weight c) 4 member_of
    (pays_seq (pays_many (annotation_pays c)) (pays_or (constructor_pays c class l a) (pays_or (factory_pays c in_core class l a) (pays_or (operator_member_pays c in_core l a) (static_member_pays c in_core l a)))))
    (λ read x. omega (arith, members_weight c read x.0 x.1))

members_pay : (c : Place → ℕ) (in_core : Bool) (class : Option ℕ) (l : Lower) → Affordable c l → Pays c (λ (z : Token × List Tree). total (weight c) z.1) 16 (take_members in_core class l)
members_pay c in_core class l a = pays_inside (is kind.OpenBrace) (pays_items segment error_of (member_pays c in_core class l a) (error_pays c))

-- Declarations.

abbrev declaration_weight : (Place → ℕ) → Declaration → ℕ
declaration_weight c (of_class is_abstract name type_parameters superclass mixins interfaces members) =
    total (weight c) type_parameters + (if_there (weight c) superclass + (total (weight c) mixins + (total (weight c) interfaces + total (weight c) members)))
declaration_weight c (of_mixin name type_parameters constraints interfaces members) = total (weight c) type_parameters + (total (weight c) constraints + (total (weight c) interfaces + total (weight c) members))
declaration_weight c (of_type name written) = weight c written
declaration_weight c (of_function function) = weight c function
declaration_weight c (of_variables variables) = weight c variables

declared_weight : (c : Place → ℕ) (read : List Token) (metadata : List Tree) (d : Declaration) → weight c (declaration_with read metadata d) ≤ 2 + (total nodes_in metadata + declaration_weight c d)
declared_weight c read metadata (of_class is_abstract name type_parameters superclass mixins interfaces members) =
    omega (arith, all_nodes metadata, all_weight c type_parameters, part_weight c superclass, all_weight c mixins, all_weight c interfaces, all_weight c members)
declared_weight c read metadata (of_mixin name type_parameters constraints interfaces members) =
    omega (arith, all_nodes metadata, all_weight c type_parameters, all_weight c constraints, all_weight c interfaces, all_weight c members)
declared_weight c read metadata (of_type name written) = omega (arith, all_nodes metadata)
declared_weight c read metadata (of_function function) = omega (arith, all_nodes metadata)
declared_weight c read metadata (of_variables variables) = omega (arith, all_nodes metadata)

types_pay : (c : Place → ℕ) (word : Token → Bool) (l : Lower) → Affordable c l → Pays c (both free (total (weight c))) 20 (take_types_behind word l)
types_pay c word l a = pays_seq (pays_token c word) (pays_separated a.written)

class_with_pays : (c : Place → ℕ) (in_core : Bool) (class : Option ℕ) (l k : Lower) → Affordable c l → Affordable c k → Pays c (declaration_weight c) 8 (take_class_with in_core class l k)
unfolding take_class_with
class_with_pays c in_core class l k a b =
    pays_turn (declaration_weight c) 8 class_of
    (pays_seq (pays_maybe (pays_token c (is kind.Abstract)))
    (pays_seq (pays_token c (is kind.Class))
    (pays_seq (pays_token c is_type_name)
    (pays_seq (pays_maybe (type_parameters_pay c l a))
    (pays_seq (pays_maybe (pays_seq (pays_token c (is kind.Extends)) a.written))
    (pays_seq (pays_maybe (types_pay c (is kind.With) l a)) (pays_seq (pays_maybe (types_pay c (is kind.Implements) l a)) (members_pay c in_core class k b))))))))
    (λ x. omega (arith, listed_total c x.1.1.1.0, behind_part c x.1.1.1.1.0, behind_total c x.1.1.1.1.1.0, behind_total c x.1.1.1.1.1.1.0))

class_pays : (c : Place → ℕ) (in_core : Bool) (l k : Lower) → Affordable c l → Affordable c k → Pays c (declaration_weight c) 8 (take_class in_core l k)
unfolding take_class
class_pays c in_core l k a b = record { each = λ ts s. (class_with_pays c in_core (class_word ts) l k a b).each ts s }

mixin_pays : (c : Place → ℕ) (in_core : Bool) (l k : Lower) → Affordable c l → Affordable c k → Pays c (declaration_weight c) 8 (take_mixin in_core l k)
unfolding take_mixin
mixin_pays c in_core l k a b =
    pays_turn (declaration_weight c) 8 mixin_of
    (pays_seq (pays_token c (is kind.Mixin))
    (pays_seq (pays_token c is_type_name)
    (pays_seq (pays_maybe (type_parameters_pay c l a)) (pays_seq (pays_maybe (types_pay c (is kind.On) l a)) (pays_seq (pays_maybe (types_pay c (is kind.Implements) l a)) (members_pay c in_core None k b))))))
    (λ x. omega (arith, listed_total c x.1.1.0, behind_total c x.1.1.1.0, behind_total c x.1.1.1.1.0))

alias_pays : (c : Place → ℕ) (l : Lower) → Affordable c l → Pays c (declaration_weight c) 8 (take_alias l)
unfolding take_alias
alias_pays c l a =
    pays_turn (declaration_weight c) 8 alias_of
    (pays_seq (pays_token c (is kind.Typedef)) (pays_seq (pays_token c is_type_name) (pays_seq (pays_token c (is kind.Equals)) (pays_seq a.written (pays_token c (is kind.Semicolon)))))) (λ x. omega arith)

plain_declaration_pays : (c : Place → ℕ) (in_core : Bool) (l : Lower) → Affordable c l → Pays c (declaration_weight c) 8 (take_plain_declaration in_core l)
unfolding take_plain_declaration
plain_declaration_pays c in_core l a =
    pays_or (pays_turn (declaration_weight c) 8 declared_function_of (function_pays c _ (body_pays c in_core false l a) l a) (λ x. omega arith))
    (pays_turn (declaration_weight c) 8 declared_variables_of (pays_seq (variables_pay c l a) (pays_token c (is kind.Semicolon))) (λ x. omega arith))

declaration_pays : (c : Place → ℕ) (in_core : Bool) (l k : Lower) → Affordable c l → Affordable c k → Pays c (weight c) 4 (take_declaration in_core l k)
unfolding take_declaration
declaration_pays c in_core l k a b =
    pays_make (weight c) 4 declaration_of
    (pays_seq (pays_many (annotation_pays c))
    (pays_where heads_class (class_pays c in_core l k a b)
    (pays_where (heads_word (is kind.Mixin)) (mixin_pays c in_core l k a b) (pays_where (heads_word (is kind.Typedef)) (alias_pays c l a) (plain_declaration_pays c in_core l a)))))
    (λ read x. omega (arith, declared_weight c read x.0 x.1))

-- Directives.

abbrev one : {A : Type 0} → A → ℕ
one a = 1

further_names : (xs : List (Token × Token)) → total nodes_in (map (λ n. listed n.1) xs) ≤ total one xs
further_names [] = omega arith
further_names (x ∷ xs) = omega (arith, further_names xs)

listed_names : (xs : List Token) → nodes_in_all (trees_of (map listed xs)) ≤ total one xs
listed_names [] = omega arith
listed_names (x ∷ xs) = omega (arith, listed_names xs)

prefix_node : (o : Option (Token × Token)) → nodes_in_part (part_of (option_map listed (behind_token o))) ≤ 1
prefix_node None = omega arith
prefix_node (Some x) = omega arith

library_names_pay : (c : Place → ℕ) → Pays c (total nodes_in) 8 take_library_names
unfolding take_library_names
library_names_pay c =
    pays_turn (total nodes_in) 8 (λ x. listed x.0 ∷ map (λ n. listed n.1) x.1)
    (pays_seq (pays_token c is_name) (pays_many (pays_less one 0 (pays_seq (pays_token c (is kind.Period)) (pays_token c is_name)) (λ x. omega arith)))) (λ x. omega (arith, further_names x.1))

combinator_pays : (c : Place → ℕ) → Pays c nodes_in 4 take_combinator
unfolding take_combinator
combinator_pays c =
    let names = pays_separated (pays_less one 0 (pays_token c is_name) (λ x. omega arith)) in
    pays_where (heads kind.Show) (pays_make nodes_in 4 show_of (pays_seq (pays_token c (is kind.Show)) names) (λ read x. omega (arith, listed_names x.1)))
    (pays_make nodes_in 4 hide_of (pays_seq (pays_token c (is kind.Hide)) names) (λ read x. omega (arith, listed_names x.1)))

library_pays : (c : Place → ℕ) → Pays c (weight c) 4 take_library
unfolding take_library
library_pays c =
    pays_make (weight c) 4 library_of (pays_seq (pays_token c (is kind.Library)) (pays_seq (library_names_pay c) (pays_token c (is kind.Semicolon)))) (λ read x. omega (arith, all_nodes x.1.0))

import_pays : (c : Place → ℕ) (l : Lower) → Affordable c l → Pays c (weight c) 4 (take_import l)
unfolding take_import
import_pays c l a =
    pays_make (weight c) 4 import_of
    (pays_seq (pays_token c (is kind.Import))
    (pays_seq (string_pays c l a)
    (pays_seq (pays_maybe (pays_seq (pays_token c (is kind.As)) (pays_token c is_name))) (pays_seq (pays_many (combinator_pays c)) (pays_token c (is kind.Semicolon))))))
    (λ read x. omega (arith, prefix_node x.1.1.0, all_nodes x.1.1.1.0))

export_pays : (c : Place → ℕ) (l : Lower) → Affordable c l → Pays c (weight c) 4 (take_export l)
unfolding take_export
export_pays c l a =
    pays_make (weight c) 4 export_of (pays_seq (pays_token c (is kind.Export)) (pays_seq (string_pays c l a) (pays_seq (pays_many (combinator_pays c)) (pays_token c (is kind.Semicolon)))))
    (λ read x. omega (arith, all_nodes x.1.1.0))

part_pays : (c : Place → ℕ) (l : Lower) → Affordable c l → Pays c (weight c) 4 (take_part l ⊘ take_part_of l)
unfolding take_part take_part_of
part_pays c l a =
    pays_or (pays_make (weight c) 4 part_directive_of (pays_seq (pays_token c (is kind.Part)) (pays_seq (string_pays c l a) (pays_token c (is kind.Semicolon)))) (λ read x. omega arith))
    (pays_or (pays_make (weight c) 4 part_of_uri_of (pays_seq (pays_token c (is kind.Part)) (pays_seq (pays_token c (is kind.Of)) (pays_seq (string_pays c l a) (pays_token c (is kind.Semicolon))))) (λ read x. omega arith))
    (pays_make (weight c) 4 part_of_library_of (pays_seq (pays_token c (is kind.Part)) (pays_seq (pays_token c (is kind.Of)) (pays_seq (library_names_pay c) (pays_token c (is kind.Semicolon)))))
    (λ read x. omega (arith, all_nodes x.1.1.0))))

directive_pays : (c : Place → ℕ) (l : Lower) → Affordable c l → Pays c (weight c) 4 (take_directive l)
unfolding take_directive
directive_pays c l a =
    pays_where (heads kind.Library) (library_pays c) (pays_where (heads kind.Import) (import_pays c l a) (pays_where (heads kind.Export) (export_pays c l a) (part_pays c l a)))

pub item_pays : (c : Place → ℕ) (in_core : Bool) (l k : Lower) → Affordable c l → Affordable c k → Pays c (weight c) 4 (take_item in_core l k)
unfolding take_item
item_pays c in_core l k a b = pays_or (directive_pays c l a) (declaration_pays c in_core l k a b)
