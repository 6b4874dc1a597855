-- Members, declarations and directives stand in order on their tokens.
use Rattle.std.proofs.Common.{◌≡◌, ℕ, ◌-◌, ◌++◌, Bool, true, false, List, [], ◌∷◌, Option, Some, None, map, refl}
use Rattle.readings.specs.Readings.{either}
use Rattle.readings.specs.Descent.{Descent, ◌⊘◌}
use Rattle.dart_tokens.specs.declared.token.Kind.TheVariants as kind
use Rattle.dart_tree.specs.Tree.{Tree}
use Rattle.dart_tokens.specs.declared.grouped_token.GroupedToken.{GroupedToken as Token}
use Rattle.grammar.specs.declared.level.Setting.TheVariants as setting
use Rattle.grammar.specs.Tokens.{is, is_name, is_type_name, heads, heads_name}
use Rattle.grammar.specs.Types.{behind_token, listed_or_none}
use Rattle.grammar.specs.Operators.{table, heads_sign}
use Rattle.grammar.specs.Statements.{segment, error_of}
use Rattle.grammar.specs.Declarations.{native_of, empty_of, Signature, getting, setting_of, plain, getting_of, set_of, plain_of, heads_getter, heads_setter, function_of, is_class, constructor_name_of, field_initializer_of, super_of, redirection_of, Member, constructed, made_by_factory, method, fields, operated_by, constructor_of, factory_of, is_declared, declared_sign, tilde_of, index_of, operator_member_of, heads_static, method_of, fields_of, behind_word, member_of, Declaration, of_class, of_mixin, of_type, of_function, of_variables, class_of, class_word, mixin_of, alias_of, declared_function_of, declared_variables_of, heads_class, heads_word, declaration_of, listed, library_of, show_of, hide_of, import_of, export_of, part_directive_of, part_of_uri_of, part_of_library_of}
use Rattle.grammar.specs.Descents.{Lower}
use Rattle.grammar.specs.DeclarationDescents.{take_body, take_signature, take_function, take_constructor_name, take_constructed, take_initializer, take_constructor, take_factory, take_operator, take_operator_member, take_plain_member, take_static_member, take_member, take_types_behind, take_members, take_class_with, take_class, take_mixin, take_alias, take_plain_declaration, take_declaration, take_library_names, take_library, take_combinator, take_import, take_export, take_part, take_part_of, take_directive, take_item}
use Rattle.place_laws.proofs.Lays.{Text, Lays, Makes, one, unshown, both, if_there, total, lays_token, lays_given, lays_none, lays_turn, lays_unshown, lays_make, lays_seq, lays_end, lays_or, lays_where, lays_maybe, lays_many, lays_inside, lays_before, lays_items}
use Rattle.place_laws.proofs.Expressions.{Ordered, all_read, part_read, listed_total, lays_separated, lays_perhaps, lays_repeated, leaf_laid, type_parameters_laid, parameter_list_laid, annotations_laid, sign_laid, string_laid, arguments_laid}
use Rattle.place_laws.proofs.Statements.{error_bare, variables_laid, local_body_laid}

body_laid : (c : Text) (in_core without_body : Bool) (l : Lower) → Ordered c l → Lays c (one c) true (take_body in_core without_body l)
unfolding take_body
body_laid c in_core without_body l a =
    lays_where (either (heads kind.OpenBrace) (heads kind.Arrow)) (local_body_laid c l a)
    (lays_where (heads kind.Native)
    (lays_where (λ ts. in_core) (lays_make native_of (lays_seq (lays_token c (is kind.Native)) (lays_token c (is kind.Semicolon))) (λ read x n. (refl, (n, refl)))) (lays_none c (one c) true))
    (lays_where (λ ts. without_body) (leaf_laid c empty_of (is kind.Semicolon) (λ t n. (refl, refl))) (lays_none c (one c) true)))

-- Functions.

abbrev pub signature_shown : Text → Signature → ℕ → List Tree
signature_shown c (getting name body) n = one c body n
signature_shown c (setting_of name parameters body) n = one c parameters n ++ one c body n
signature_shown c (plain name type_parameters parameters body) n = total (one c) type_parameters n ++ (one c parameters n ++ one c body n)

signature_laid : (c : Text) (body : Descent Token Tree) → Lays c (one c) true body → (l : Lower) → Ordered c l → Lays c (signature_shown c) true (take_signature body l)
unfolding take_signature
signature_laid c body b l a =
    lays_where heads_getter (lays_turn (signature_shown c) getting_of (lays_seq (lays_token c (is kind.Get)) (lays_seq (lays_token c is_name) b)) (λ x n. refl))
    (lays_where heads_setter
    (lays_turn (signature_shown c) set_of (lays_seq (lays_token c (is kind.Set)) (lays_seq (lays_token c is_name) (lays_seq (parameter_list_laid c l a) b))) (λ x n. refl))
    (lays_turn (signature_shown c) plain_of (lays_seq (lays_token c is_name) (lays_seq (lays_maybe (type_parameters_laid c l a)) (lays_seq (parameter_list_laid c l a) b))) (λ x n. rw (listed_total c n x.1.0) refl)))

function_makes : (c : Text) → Makes c (both (if_there (one c)) (signature_shown c)) function_of
function_makes c read (result, getting name body) n = (refl, (n, rw (part_read c n result) refl))
function_makes c read (result, setting_of name parameters body) n = (refl, (n, rw (part_read c n result) refl))
function_makes c read (result, plain name type_parameters parameters body) n = (refl, (n, rw (part_read c n result, all_read c n type_parameters) refl))

function_laid : (c : Text) (body : Descent Token Tree) → Lays c (one c) true body → (l : Lower) → Ordered c l → Lays c (one c) true (take_function body l)
unfolding take_function
function_laid c body b l a = lays_make function_of (lays_seq (lays_maybe (lays_before heads_name a.named)) (signature_laid c body b l a)) (function_makes c)

-- Members.

constructor_name_laid : (c : Text) (class : Option ℕ) → Lays c unshown true (take_constructor_name class)
unfolding take_constructor_name
constructor_name_laid c class =
    lays_unshown constructor_name_of (lays_seq (lays_token c (is_class class)) (lays_maybe (lays_seq (lays_token c (is kind.Period)) (lays_token c is_name))))

constructed_laid : (c : Text) (l : Lower) → Ordered c l → Lays c (both unshown (one c)) true (take_constructed l)
constructed_laid c l a = lays_seq (lays_perhaps (lays_seq (lays_token c (is kind.Period)) (lays_token c is_name))) (arguments_laid c l a)

initializer_laid : (c : Text) (l : Lower) → Ordered c l → Lays c (one c) true (take_initializer l)
unfolding take_initializer
initializer_laid c l a =
    lays_or
    (lays_make field_initializer_of
    (lays_seq (lays_perhaps (lays_seq (lays_token c (is kind.This)) (lays_token c (is kind.Period))))
    (lays_seq (lays_token c is_name) (lays_seq (lays_token c (is kind.Equals)) (a.operand setting.Initializer table)))) (λ read x n. (refl, (n, refl))))
    (lays_where (heads kind.Super) (lays_make super_of (lays_seq (lays_token c (is kind.Super)) (constructed_laid c l a)) (λ read x n. (refl, (n, refl))))
    (lays_make redirection_of (lays_seq (lays_token c (is kind.This)) (constructed_laid c l a)) (λ read x n. (refl, (n, refl)))))

abbrev pub member_shown : Text → Member → ℕ → List Tree
member_shown c (constructed name parameters initializers body) n = one c parameters n ++ (total (one c) initializers n ++ one c body n)
member_shown c (made_by_factory name parameters body) n = one c parameters n ++ one c body n
member_shown c (method is_static function) n = one c function n
member_shown c (fields is_static variables) n = one c variables n
member_shown c (operated_by result name parameters body) n = if_there (one c) result n ++ (one c parameters n ++ one c body n)

behind_total : (c : Text) (n : ℕ) (o : Option (Token × List Tree)) → total (one c) (listed_or_none (behind_token o)) n ≡ if_there (both unshown (total (one c))) o n
behind_total c n None = refl
behind_total c n (Some y) = refl

behind_part : (c : Text) (n : ℕ) (o : Option (Token × Tree)) → if_there (one c) (behind_token o) n ≡ if_there (both unshown (one c)) o n
behind_part c n None = refl
behind_part c n (Some y) = refl

member_makes : (c : Text) → Makes c (both unshown (member_shown c)) member_of
member_makes c read (metadata, constructed name parameters initializers body) n = (refl, (n - 1, rw (all_read c (n - 1) initializers) refl))
member_makes c read (metadata, made_by_factory name parameters body) n = (refl, (n - 1, refl))
member_makes c read (metadata, method is_static function) n = (refl, (n - 1, refl))
member_makes c read (metadata, fields is_static variables) n = (refl, (n - 1, refl))
member_makes c read (metadata, operated_by result name parameters body) n = (refl, (n - 1, rw (part_read c (n - 1) result) refl))

constructor_laid : (c : Text) (class : Option ℕ) (l : Lower) → Ordered c l → Lays c (member_shown c) true (take_constructor class l)
unfolding take_constructor
constructor_laid c class l a =
    lays_turn (member_shown c) constructor_of
    (lays_seq (constructor_name_laid c class)
    (lays_seq (parameter_list_laid c l a)
    (lays_seq (lays_maybe (lays_seq (lays_token c (is kind.Colon)) (lays_separated (initializer_laid c l a))))
    (lays_where (heads kind.OpenBrace) a.block (leaf_laid c empty_of (is kind.Semicolon) (λ t n. (refl, refl)))))))
    (λ x n. rw (behind_total c n x.1.1.0) refl)

factory_laid : (c : Text) (in_core : Bool) (class : Option ℕ) (l : Lower) → Ordered c l → Lays c (member_shown c) true (take_factory in_core class l)
unfolding take_factory
factory_laid c in_core class l a =
    lays_turn (member_shown c) factory_of
    (lays_seq (lays_token c (is kind.Factory)) (lays_seq (constructor_name_laid c class) (lays_seq (parameter_list_laid c l a) (body_laid c in_core false l a)))) (λ x n. refl)

operator_laid : (c : Text) → Lays c unshown true take_operator
unfolding take_operator
operator_laid c =
    lays_where (heads_sign is_declared) (sign_laid c declared_sign)
    (lays_where (heads kind.Tilde) (lays_unshown tilde_of (lays_token c (is kind.Tilde)))
    (lays_unshown index_of (lays_seq (lays_inside (is kind.OpenBracket) (lays_given c unshown [] (λ n. refl))) (lays_perhaps (lays_token c (is kind.Equals))))))

operator_member_laid : (c : Text) (in_core : Bool) (l : Lower) → Ordered c l → Lays c (member_shown c) true (take_operator_member in_core l)
unfolding take_operator_member
operator_member_laid c in_core l a =
    lays_turn (member_shown c) operator_member_of
    (lays_seq (lays_maybe (lays_before heads_name a.named))
    (lays_seq (lays_token c (is kind.Operator)) (lays_seq (operator_laid c) (lays_seq (parameter_list_laid c l a) (body_laid c in_core true l a))))) (λ x n. refl)

plain_member_laid : (c : Text) (in_core is_static without_body : Bool) (l : Lower) → Ordered c l → Lays c (member_shown c) true (take_plain_member in_core is_static without_body l)
unfolding take_plain_member
plain_member_laid c in_core is_static without_body l a =
    lays_or (lays_turn (member_shown c) (method_of is_static) (function_laid c _ (body_laid c in_core without_body l a) l a) (λ x n. refl))
    (lays_turn (member_shown c) (fields_of is_static) (lays_end (variables_laid c l a) (lays_token c (is kind.Semicolon))) (λ x n. refl))

static_member_laid : (c : Text) (in_core : Bool) (l : Lower) → Ordered c l → Lays c (member_shown c) true (take_static_member in_core l)
unfolding take_static_member
static_member_laid c in_core l a =
    lays_where heads_static (lays_turn (member_shown c) behind_word (lays_seq (lays_token c (is kind.Static)) (plain_member_laid c in_core true false l a)) (λ x n. refl)) (plain_member_laid c in_core false true l a)

member_laid : (c : Text) (in_core : Bool) (class : Option ℕ) (l : Lower) → Ordered c l → Lays c (one c) true (take_member in_core class l)
unfolding take_member
member_laid c in_core class l a =
    lays_make member_of
    (lays_seq (annotations_laid c) (lays_or (constructor_laid c class l a) (lays_or (factory_laid c in_core class l a) (lays_or (operator_member_laid c in_core l a) (static_member_laid c in_core l a)))))
    (member_makes c)

members_laid : (c : Text) (in_core : Bool) (class : Option ℕ) (l : Lower) → Ordered c l → Lays c (both unshown (total (one c))) true (take_members in_core class l)
members_laid c in_core class l a = lays_inside (is kind.OpenBrace) (lays_items segment error_of (error_bare c) (member_laid c in_core class l a))

-- Declarations.

abbrev pub declaration_shown : Text → Declaration → ℕ → List Tree
declaration_shown c (of_class is_abstract name type_parameters superclass mixins interfaces members) n =
    total (one c) type_parameters n ++ (if_there (one c) superclass n ++ (total (one c) mixins n ++ (total (one c) interfaces n ++ total (one c) members n)))
declaration_shown c (of_mixin name type_parameters constraints interfaces members) n =
    total (one c) type_parameters n ++ (total (one c) constraints n ++ (total (one c) interfaces n ++ total (one c) members n))
declaration_shown c (of_type name written) n = one c written n
declaration_shown c (of_function function) n = one c function n
declaration_shown c (of_variables variables) n = one c variables n

declaration_makes : (c : Text) → Makes c (both unshown (declaration_shown c)) declaration_of
declaration_makes c read (metadata, of_class is_abstract name type_parameters superclass mixins interfaces members) n =
    (refl, (n - 1, rw (all_read c (n - 1) type_parameters, part_read c (n - 1) superclass, all_read c (n - 1) mixins, all_read c (n - 1) interfaces, all_read c (n - 1) members) refl))
declaration_makes c read (metadata, of_mixin name type_parameters constraints interfaces members) n =
    (refl, (n - 1, rw (all_read c (n - 1) type_parameters, all_read c (n - 1) constraints, all_read c (n - 1) interfaces, all_read c (n - 1) members) refl))
declaration_makes c read (metadata, of_type name written) n = (refl, (n - 1, refl))
declaration_makes c read (metadata, of_function function) n = (refl, (n - 1, refl))
declaration_makes c read (metadata, of_variables variables) n = (refl, (n - 1, refl))

types_laid : (c : Text) (word : Token → Bool) (l : Lower) → Ordered c l → Lays c (both unshown (total (one c))) true (take_types_behind word l)
types_laid c word l a = lays_seq (lays_token c word) (lays_separated a.written)

class_with_laid : (c : Text) (in_core : Bool) (class : Option ℕ) (l k : Lower) → Ordered c l → Ordered c k → Lays c (declaration_shown c) true (take_class_with in_core class l k)
unfolding take_class_with
class_with_laid c in_core class l k a b =
    lays_turn (declaration_shown c) class_of
    (lays_seq (lays_perhaps (lays_token c (is kind.Abstract)))
    (lays_seq (lays_token c (is kind.Class))
    (lays_seq (lays_token c is_type_name)
    (lays_seq (lays_maybe (type_parameters_laid c l a))
    (lays_seq (lays_maybe (lays_seq (lays_token c (is kind.Extends)) a.written))
    (lays_seq (lays_maybe (types_laid c (is kind.With) l a)) (lays_seq (lays_maybe (types_laid c (is kind.Implements) l a)) (members_laid c in_core class k b))))))))
    (λ x n. rw (listed_total c n x.1.1.1.0, behind_part c n x.1.1.1.1.0, behind_total c n x.1.1.1.1.1.0, behind_total c n x.1.1.1.1.1.1.0) refl)

class_laid : (c : Text) (in_core : Bool) (l k : Lower) → Ordered c l → Ordered c k → Lays c (declaration_shown c) true (take_class in_core l k)
unfolding take_class
class_laid c in_core l k a b = record { each = λ ts p. (class_with_laid c in_core (class_word ts) l k a b).each ts p }

mixin_laid : (c : Text) (in_core : Bool) (l k : Lower) → Ordered c l → Ordered c k → Lays c (declaration_shown c) true (take_mixin in_core l k)
unfolding take_mixin
mixin_laid c in_core l k a b =
    lays_turn (declaration_shown c) mixin_of
    (lays_seq (lays_token c (is kind.Mixin))
    (lays_seq (lays_token c is_type_name)
    (lays_seq (lays_maybe (type_parameters_laid c l a)) (lays_seq (lays_maybe (types_laid c (is kind.On) l a)) (lays_seq (lays_maybe (types_laid c (is kind.Implements) l a)) (members_laid c in_core None k b))))))
    (λ x n. rw (listed_total c n x.1.1.0, behind_total c n x.1.1.1.0, behind_total c n x.1.1.1.1.0) refl)

alias_laid : (c : Text) (l : Lower) → Ordered c l → Lays c (declaration_shown c) true (take_alias l)
unfolding take_alias
alias_laid c l a =
    lays_turn (declaration_shown c) alias_of
    (lays_seq (lays_token c (is kind.Typedef)) (lays_seq (lays_token c is_type_name) (lays_seq (lays_token c (is kind.Equals)) (lays_end a.written (lays_token c (is kind.Semicolon)))))) (λ x n. refl)

plain_declaration_laid : (c : Text) (in_core : Bool) (l : Lower) → Ordered c l → Lays c (declaration_shown c) true (take_plain_declaration in_core l)
unfolding take_plain_declaration
plain_declaration_laid c in_core l a =
    lays_or (lays_turn (declaration_shown c) declared_function_of (function_laid c _ (body_laid c in_core false l a) l a) (λ x n. refl))
    (lays_turn (declaration_shown c) declared_variables_of (lays_end (variables_laid c l a) (lays_token c (is kind.Semicolon))) (λ x n. refl))

declaration_laid : (c : Text) (in_core : Bool) (l k : Lower) → Ordered c l → Ordered c k → Lays c (one c) true (take_declaration in_core l k)
unfolding take_declaration
declaration_laid c in_core l k a b =
    lays_make declaration_of
    (lays_seq (annotations_laid c)
    (lays_where heads_class (class_laid c in_core l k a b)
    (lays_where (heads_word (is kind.Mixin)) (mixin_laid c in_core l k a b) (lays_where (heads_word (is kind.Typedef)) (alias_laid c l a) (plain_declaration_laid c in_core l a)))))
    (declaration_makes c)

-- Directives.

library_names_laid : (c : Text) → Lays c unshown true take_library_names
unfolding take_library_names
library_names_laid c =
    lays_unshown (λ read x. listed x.0 ∷ map (λ n. listed n.1) x.1) (lays_seq (lays_token c is_name) (lays_many (lays_seq (lays_token c (is kind.Period)) (lays_token c is_name))))

combinator_laid : (c : Text) → Lays c unshown true take_combinator
unfolding take_combinator
combinator_laid c =
    lays_where (heads kind.Show) (lays_unshown show_of (lays_seq (lays_token c (is kind.Show)) (lays_separated (lays_token c is_name))))
    (lays_unshown hide_of (lays_seq (lays_token c (is kind.Hide)) (lays_separated (lays_token c is_name))))

library_laid : (c : Text) → Lays c (one c) true take_library
unfolding take_library
library_laid c = lays_make library_of (lays_seq (lays_token c (is kind.Library)) (lays_seq (library_names_laid c) (lays_token c (is kind.Semicolon)))) (λ read x n. (refl, (n, refl)))

import_laid : (c : Text) (l : Lower) → Ordered c l → Lays c (one c) true (take_import l)
unfolding take_import
import_laid c l a =
    lays_make import_of
    (lays_seq (lays_token c (is kind.Import))
    (lays_seq (string_laid c l a)
    (lays_seq (lays_perhaps (lays_seq (lays_token c (is kind.As)) (lays_token c is_name))) (lays_seq (lays_repeated (combinator_laid c)) (lays_token c (is kind.Semicolon))))))
    (λ read x n. (refl, (n - 1, refl)))

export_laid : (c : Text) (l : Lower) → Ordered c l → Lays c (one c) true (take_export l)
unfolding take_export
export_laid c l a =
    lays_make export_of (lays_seq (lays_token c (is kind.Export)) (lays_seq (string_laid c l a) (lays_seq (lays_repeated (combinator_laid c)) (lays_token c (is kind.Semicolon)))))
    (λ read x n. (refl, (n - 1, refl)))

part_laid : (c : Text) (l : Lower) → Ordered c l → Lays c (one c) true (take_part l ⊘ take_part_of l)
unfolding take_part take_part_of
part_laid c l a =
    lays_or (lays_make part_directive_of (lays_seq (lays_token c (is kind.Part)) (lays_end (string_laid c l a) (lays_token c (is kind.Semicolon)))) (λ read x n. (refl, (n - 1, refl))))
    (lays_or (lays_make part_of_uri_of (lays_seq (lays_token c (is kind.Part)) (lays_seq (lays_token c (is kind.Of)) (lays_end (string_laid c l a) (lays_token c (is kind.Semicolon))))) (λ read x n. (refl, (n - 1, refl))))
    (lays_make part_of_library_of (lays_seq (lays_token c (is kind.Part)) (lays_seq (lays_token c (is kind.Of)) (lays_seq (library_names_laid c) (lays_token c (is kind.Semicolon)))))
    (λ read x n. (refl, (n, refl)))))

directive_laid : (c : Text) (l : Lower) → Ordered c l → Lays c (one c) true (take_directive l)
unfolding take_directive
directive_laid c l a =
    lays_where (heads kind.Library) (library_laid c) (lays_where (heads kind.Import) (import_laid c l a) (lays_where (heads kind.Export) (export_laid c l a) (part_laid c l a)))

pub item_laid : (c : Text) (in_core : Bool) (l k : Lower) → Ordered c l → Ordered c k → Lays c (one c) true (take_item in_core l k)
unfolding take_item
item_laid c in_core l k a b = lays_or (directive_laid c l a) (declaration_laid c in_core l k a b)
