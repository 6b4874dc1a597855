-- The parser's way finds what the rules of members, declarations and directives read.
use Rattle.std.proofs.Common.{◌≡◌, ℕ, Bool, true, false, ◌&&◌, ◌||◌, List, [], ◌∷◌, map, length, Option, Some, None, is_some, option_map, refl, ap}
use Rattle.readings.specs.Readings.{Rule, Test, next, nothing, either, token, ◌▹◌, longest_of}
use Rattle.readings.specs.Descent.{Descent, take_token, ◌▸◌}
use Rattle.readings.specs.Leading.{Within, Parses, Sole}
use Rattle.readings.specs.Combinators.{parses_none, parses_within, parses_token, parses_make, parses_turn, parses_seq, parses_sole, sole_longest}
use Rattle.readings.specs.Choices.{parses_switch, parses_where}
use Rattle.readings.specs.Repetition.{parses_last, parses_offered, offers_given, offers_maybe, offers_many}
use Rattle.readings.specs.Commits.{parses_prefer, sole_function}
use Rattle.readings.specs.Elements.{sole_inside_offered}
use Rattle.readings.specs.Items.{sole_braced, same_items}
use Rattle.dart_tokens.specs.declared.token.Kind.TheVariants as kind
use Rattle.dart_tree.specs.Tree.{Tree, trees_of, unit}
use Rattle.dart_tree.specs.declared.places.Span.{Span}
use Rattle.dart_tree.specs.declared.operators.DeclaredOperator.{DeclaredOperator}
use Rattle.dart_tokens.specs.declared.grouped_token.GroupedToken.{GroupedToken as Token}
use Rattle.grammar.specs.declared.level.Setting.TheVariants as setting
use Rattle.grammar.specs.declared.level.Sign.{Sign}
use Rattle.grammar.specs.declared.level.Sign.TheVariants as sign
use Rattle.grammar.specs.Tokens.{is, is_name, is_type_name, heads, heads_name, width, past, place_over}
use Rattle.grammar.specs.Operators.{table, heads_sign}
use Rattle.grammar.specs.Types.{Below}
use Rattle.grammar.specs.Statements.{segment, error_of}
use Rattle.grammar.specs.Declarations.{allowed, native_of, empty_of, body_rule, getting_of, set_of, plain_of, heads_getter, heads_setter, signature_rule, function_of, function_rule, is_class, constructor_name_of, constructor_name_rule, field_initializer_of, super_of, redirection_of, constructed_rule, initializer_rule, constructor_of, constructor_rule, factory_of, factory_rule, declared_operator, operator_name, declared_sign, is_declared, take_declared_sign, declared_sign_rule, tilde_of, index_of, operator_rule, operator_member_of, operator_member_rule, heads_static, method_of, fields_of, plain_member_rule, behind_word, static_member_rule, member_of, member_rule, members_rule, types_behind, class_of, class_with_rule, class_word, class_rule, mixin_of, mixin_rule, alias_of, alias_rule, declared_function_of, declared_variables_of, plain_declaration_rule, heads_class, heads_word, declaration_of, declaration_rule, listed, library_names_rule, library_of, library_rule, show_of, hide_of, combinator_rule, import_of, import_rule, export_of, export_rule, part_directive_of, part_rule, part_of_uri_of, part_of_library_of, part_of_rule, directive_rule, item_rule, unit_below}
use Rattle.grammar.specs.Descents.{Lower}
use Rattle.grammar.specs.DeclarationDescents.{take_allowed, take_body, take_signature, take_function, take_constructor_name, take_constructed, take_initializer, take_constructor, take_factory, take_operator, take_operator_member, take_plain_member, take_static_member, take_member, take_members, take_types_behind, take_class_with, take_class, take_mixin, take_alias, take_plain_declaration, take_declaration, take_library_names, take_library, take_combinator, take_import, take_export, take_part, take_part_of, take_directive, take_item, lower_unit}
use Rattle.grammar.proofs.KindTests.{far, far_second, settled, still}
use Rattle.grammar.proofs.TypesParse.{AllParse, begins_type, annotation_parses, this_parses, offers_type, separated_parses, type_parameters_parses, parameter_list_parses}
use Rattle.grammar.proofs.OperatorsParse.{sign_missed, sign_falls}
use Rattle.grammar.proofs.ExpressionsParse.{string_parses, arguments_parse}
use Rattle.grammar.proofs.StatementsParse.{begins_declared, variables_end, local_body_parses}

-- what is allowed or not
allowed_parses : {A : Type 0} {s f : Test Token} {p : Rule Token A} {g : Descent Token A} (is_allowed : Bool) → Parses s f p g → Parses (either s nothing) (either f nothing) (allowed is_allowed p) (take_allowed is_allowed g)
allowed_parses is_allowed a = parses_where (λ ts. is_allowed) a (parses_none nothing nothing)

-- Functions.

abbrev begins_body : Token → Bool
begins_body t = is kind.OpenBrace t || is kind.Arrow t || is kind.Native t || is kind.Semicolon t

body_parses : (in_core without_body : Bool) (d : Below) (l : Lower) → AllParse d l → Parses nothing (next begins_body) (body_rule in_core without_body d) (take_body in_core without_body l)
unfolding body_rule take_body
body_parses in_core without_body d l a =
    settled nothing (next begins_body)
    (parses_switch (local_body_parses d l a)
    (parses_switch
    (settled nothing (heads kind.Native) (allowed_parses in_core (parses_make native_of (parses_seq (parses_token (is kind.Native)) (parses_token (is kind.Semicolon)) (still _)))) refl (λ t ts. refl) refl (λ t ts. refl))
    (allowed_parses without_body (parses_turn empty_of (parses_token (is kind.Semicolon)))) (far _ _ refl (λ t ts. refl))) (far _ _ refl (λ t ts. refl)))
    refl (λ t ts. refl) refl (λ t ts. refl)

signature_parses : (body : Rule Token Tree) (take : Descent Token Tree) → Parses nothing (next begins_body) body take → (d : Below) (l : Lower) → AllParse d l → Parses nothing heads_name (signature_rule body d) (take_signature take l)
unfolding signature_rule take_signature
signature_parses body take b d l a =
    settled nothing heads_name
    (parses_where heads_getter (parses_turn getting_of (parses_seq (parses_token (is kind.Get)) (parses_seq (parses_token is_name) b (still _)) (still _)))
    (parses_where heads_setter (parses_turn set_of (parses_seq (parses_token (is kind.Set)) (parses_seq (parses_token is_name) (parses_seq (parameter_list_parses d l a) b (still _)) (still _)) (still _)))
    (parses_turn plain_of
    (parses_seq (parses_token is_name) (parses_offered (offers_maybe (type_parameters_parses d l a)) (parses_seq (parameter_list_parses d l a) b (still _)) (far _ _ refl (λ t ts. refl))) (still _)))))
    refl (λ t ts. refl) refl (λ t ts. refl)

function_parses : (body : Rule Token Tree) (take : Descent Token Tree) → Parses nothing (next begins_body) body take → (d : Below) (l : Lower) → AllParse d l → Parses nothing (next begins_type) (function_rule body d) (take_function take l)
unfolding function_rule take_function
function_parses body take b d l a =
    settled nothing (next begins_type) (parses_make function_of (parses_offered (offers_type d l a heads_name) (signature_parses body take b d l a) (still _))) refl (λ t ts. refl) refl (λ t ts. refl)

-- Members.

both_pass : (a b : Bool) → (a && b) ≡ true → a ≡ true
both_pass true b e = refl
both_pass false b e = absurd (cc)

class_names : (class : Option ℕ) → Within (next (is_class class)) heads_name
class_names class [] e = absurd (cc)
class_names None (t ∷ ts) e = absurd (cc)
class_names (Some word) (t ∷ ts) e = both_pass (is_name t) _ e

period_parses : Parses nothing (heads kind.Period) (token (is kind.Period) ▹ token is_name) (take_token (is kind.Period) ▸ take_token is_name)
period_parses = parses_seq (parses_token (is kind.Period)) (parses_token is_name) (still _)

class_token : (class : Option ℕ) → Parses nothing heads_name (token (is_class class)) (take_token (is_class class))
class_token class = parses_within nothing heads_name (λ ts e. e) (class_names class) (parses_token (is_class class))

constructor_name_parses : (class : Option ℕ) → Parses (heads kind.Period) heads_name (constructor_name_rule class) (take_constructor_name class)
unfolding constructor_name_rule take_constructor_name
constructor_name_parses class = settled (heads kind.Period) heads_name (parses_make constructor_name_of (parses_last (class_token class) (offers_maybe period_parses) (still _))) refl (λ t ts. refl) refl (λ t ts. refl)

constructed_parses : (d : Below) (l : Lower) → AllParse d l → Parses nothing (either (heads kind.Period) (heads kind.OpenParenthesis)) (constructed_rule d) (take_constructed l)
constructed_parses d l a = parses_offered (offers_maybe period_parses) (arguments_parse d l a) (far _ _ refl (λ t ts. refl))

abbrev begins_initializer : Token → Bool
begins_initializer t = is_name t || is kind.This t || is kind.Super t

initializer_parses : (d : Below) (l : Lower) → AllParse d l → Parses nothing (next begins_initializer) (initializer_rule d) (take_initializer l)
unfolding initializer_rule take_initializer
initializer_parses d l a =
    settled nothing (next begins_initializer)
    (parses_prefer
    (parses_make field_initializer_of
    (parses_offered (offers_maybe this_parses) (parses_seq (parses_token is_name) (parses_seq (parses_token (is kind.Equals)) (parses_sole (a.operand setting.Initializer table)) (still _)) (still _)) (far _ _ refl (λ t ts. refl))))
    (parses_switch (parses_make super_of (parses_seq (parses_token (is kind.Super)) (constructed_parses d l a) (still _))) (parses_make redirection_of (parses_seq (parses_token (is kind.This)) (constructed_parses d l a) (still _))) (far _ _ refl (λ t ts. refl))))
    refl (λ t ts. refl) refl (λ t ts. refl)

constructor_parses : (class : Option ℕ) (d : Below) (l : Lower) → AllParse d l → Parses nothing heads_name (constructor_rule class d) (take_constructor class l)
unfolding constructor_rule take_constructor
constructor_parses class d l a =
    settled nothing heads_name
    (parses_turn constructor_of
    (parses_seq (constructor_name_parses class)
    (parses_seq (parameter_list_parses d l a)
    (parses_offered (offers_maybe (parses_seq (parses_token (is kind.Colon)) (separated_parses (initializer_parses d l a) (still _)) (still _)))
    (parses_switch (parses_sole a.block) (parses_turn empty_of (parses_token (is kind.Semicolon))) (far _ _ refl (λ t ts. refl))) (far _ _ refl (λ t ts. refl))) (still _)) (far _ _ refl (λ t ts. refl))))
    refl (λ t ts. refl) refl (λ t ts. refl)

factory_parses : (in_core : Bool) (class : Option ℕ) (d : Below) (l : Lower) → AllParse d l → Parses nothing (heads kind.Factory) (factory_rule in_core class d) (take_factory in_core class l)
unfolding factory_rule take_factory
factory_parses in_core class d l a =
    parses_turn factory_of
    (parses_seq (parses_token (is kind.Factory))
    (parses_seq (constructor_name_parses class) (parses_seq (parameter_list_parses d l a) (body_parses in_core false d l a) (still _)) (far _ _ refl (λ t ts. refl))) (still _))

none_declared : (span : Span) (o : Option DeclaredOperator) → is_some o ≡ false → option_map (operator_name span) o ≡ None
none_declared span None e = refl
none_declared span (Some operator) e = absurd (cc)

not_declared : (span : Span) (s : Sign) → is_declared s ≡ false → declared_sign span s ≡ None
not_declared span (sign.Binary operator) e = none_declared span (declared_operator operator) e
not_declared span (sign.Assign compound) e = refl

declared_sign_sole : Sole (heads_sign is_declared) declared_sign_rule take_declared_sign
unfolding declared_sign_rule
declared_sign_sole = sole_function (heads_sign is_declared) take_declared_sign (sign_missed is_declared declared_sign not_declared) (sign_falls declared_sign)

abbrev begins_operator : Test Token
begins_operator = either (heads_sign is_declared) (either (heads kind.Tilde) (heads kind.OpenBracket))

operator_parses : Parses (heads kind.Equals) begins_operator operator_rule take_operator
unfolding operator_rule take_operator
operator_parses =
    parses_within (heads kind.Equals) begins_operator (λ ts e. e) (λ ts e. e)
    (parses_switch (parses_sole declared_sign_sole)
    (parses_switch (parses_make tilde_of (parses_token (is kind.Tilde)))
    (settled (heads kind.Equals) (heads kind.OpenBracket)
    (parses_make index_of
    (parses_last (parses_sole (sole_inside_offered (is kind.OpenBracket) width past (offers_given nothing nothing []))) (offers_maybe (parses_token (is kind.Equals))) (still _))) refl (λ t ts. refl) refl (λ t ts. refl))
    (far _ _ refl (λ t ts. refl))) (far_second _ _ refl (λ t ts. refl)))

operator_member_parses : (in_core : Bool) (d : Below) (l : Lower) → AllParse d l → Parses nothing (next begins_type) (operator_member_rule in_core d) (take_operator_member in_core l)
unfolding operator_member_rule take_operator_member
operator_member_parses in_core d l a =
    settled nothing (next begins_type)
    (parses_turn operator_member_of
    (parses_offered (offers_type d l a heads_name)
    (parses_seq (parses_token (is kind.Operator))
    (parses_seq operator_parses (parses_seq (parameter_list_parses d l a) (body_parses in_core true d l a) (still _)) (far _ _ refl (λ t ts. refl))) (still _)) (still _)))
    refl (λ t ts. refl) refl (λ t ts. refl)

plain_member_parses : (in_core is_static without_body : Bool) (d : Below) (l : Lower) → AllParse d l → Parses nothing (next begins_declared) (plain_member_rule in_core is_static without_body d) (take_plain_member in_core is_static without_body l)
unfolding plain_member_rule take_plain_member
plain_member_parses in_core is_static without_body d l a =
    settled nothing (next begins_declared)
    (parses_prefer (parses_turn (method_of is_static) (function_parses (body_rule in_core without_body d) (take_body in_core without_body l) (body_parses in_core without_body d l a) d l a)) (parses_turn (fields_of is_static) (variables_end d l a)))
    refl (λ t ts. refl) refl (λ t ts. refl)

static_member_parses : (in_core : Bool) (d : Below) (l : Lower) → AllParse d l → Parses nothing (next begins_declared) (static_member_rule in_core d) (take_static_member in_core l)
unfolding static_member_rule take_static_member
static_member_parses in_core d l a =
    settled nothing (next begins_declared)
    (parses_where heads_static (parses_turn behind_word (parses_seq (parses_token (is kind.Static)) (plain_member_parses in_core true false d l a) (still _))) (plain_member_parses in_core false true d l a))
    refl (λ t ts. refl) refl (λ t ts. refl)

abbrev begins_annotated : Token → Bool
begins_annotated t = is kind.At t || begins_declared t

pub member_sole : (in_core : Bool) (class : Option ℕ) (d : Below) (l : Lower) → AllParse d l → Sole (next begins_annotated) (member_rule in_core class d) (take_member in_core class l)
unfolding member_rule take_member
member_sole in_core class d l a =
    sole_longest
    (settled nothing (next begins_annotated)
    (parses_make member_of
    (parses_offered (offers_many annotation_parses (still _))
    (parses_prefer (constructor_parses class d l a) (parses_prefer (factory_parses in_core class d l a) (parses_prefer (operator_member_parses in_core d l a) (static_member_parses in_core d l a)))) (far _ _ refl (λ t ts. refl))))
    refl (λ t ts. refl) refl (λ t ts. refl))

members_sole : (in_core : Bool) (class : Option ℕ) (d : Below) (l : Lower) → AllParse d l → Sole (heads kind.OpenBrace) (members_rule in_core class d) (take_members in_core class l)
members_sole in_core class d l a = sole_braced (is kind.OpenBrace) width past segment error_of (parses_sole (member_sole in_core class d l a))

-- Declarations.

types_parse : (word : Token → Bool) (d : Below) (l : Lower) → AllParse d l → Parses (either nothing (heads kind.Comma)) (next word) (types_behind word d) (take_types_behind word l)
types_parse word d l a = parses_seq (parses_token word) (separated_parses (parses_sole a.written) (still _)) (still _)

abbrev begins_class : Test Token
begins_class = either (heads kind.Abstract) (heads kind.Class)

class_with_parses : (in_core : Bool) (class : Option ℕ) (d e : Below) (l k : Lower) → AllParse d l → AllParse e k → Parses nothing begins_class (class_with_rule in_core class d e) (take_class_with in_core class l k)
unfolding class_with_rule take_class_with
class_with_parses in_core class d e l k a b =
    settled nothing begins_class
    (parses_turn class_of
    (parses_offered (offers_maybe (parses_token (is kind.Abstract)))
    (parses_seq (parses_token (is kind.Class))
    (parses_seq (parses_token is_type_name)
    (parses_offered (offers_maybe (type_parameters_parses d l a))
    (parses_offered (offers_maybe (parses_seq (parses_token (is kind.Extends)) (parses_sole a.written) (still _)))
    (parses_offered (offers_maybe (types_parse (is kind.With) d l a))
    (parses_offered (offers_maybe (types_parse (is kind.Implements) d l a)) (parses_sole (members_sole in_core class e k b))
    (far _ _ refl (λ t ts. refl))) (far _ _ refl (λ t ts. refl))) (far _ _ refl (λ t ts. refl))) (far _ _ refl (λ t ts. refl))) (still _)) (still _)) (far _ _ refl (λ t ts. refl))))
    refl (λ t ts. refl) refl (λ t ts. refl)

pub class_parses : (in_core : Bool) (d e : Below) (l k : Lower) → AllParse d l → AllParse e k → Parses nothing begins_class (class_rule in_core d e) (take_class in_core l k)
unfolding class_rule take_class
class_parses in_core d e l k a b = record {
  leads = λ ts. (class_with_parses in_core (class_word ts) d e l k a b).leads ts;
  starts = λ ts none. (class_with_parses in_core (class_word ts) d e l k a b).starts ts none;
  shrinks = λ ts. (class_with_parses in_core (class_word ts) d e l k a b).shrinks ts;
}

mixin_parses : (in_core : Bool) (d e : Below) (l k : Lower) → AllParse d l → AllParse e k → Parses nothing (heads kind.Mixin) (mixin_rule in_core d e) (take_mixin in_core l k)
unfolding mixin_rule take_mixin
mixin_parses in_core d e l k a b =
    parses_turn mixin_of
    (parses_seq (parses_token (is kind.Mixin))
    (parses_seq (parses_token is_type_name)
    (parses_offered (offers_maybe (type_parameters_parses d l a))
    (parses_offered (offers_maybe (types_parse (is kind.On) d l a))
    (parses_offered (offers_maybe (types_parse (is kind.Implements) d l a)) (parses_sole (members_sole in_core None e k b)) (far _ _ refl (λ t ts. refl))) (far _ _ refl (λ t ts. refl))) (far _ _ refl (λ t ts. refl))) (still _)) (still _))

alias_parses : (d : Below) (l : Lower) → AllParse d l → Parses nothing (heads kind.Typedef) (alias_rule d) (take_alias l)
unfolding alias_rule take_alias
alias_parses d l a =
    parses_turn alias_of
    (parses_seq (parses_token (is kind.Typedef))
    (parses_seq (parses_token is_type_name) (parses_seq (parses_token (is kind.Equals)) (parses_seq (parses_sole a.written) (parses_token (is kind.Semicolon)) (still _)) (still _)) (still _)) (still _))

plain_declaration_parses : (in_core : Bool) (d : Below) (l : Lower) → AllParse d l → Parses nothing (next begins_declared) (plain_declaration_rule in_core d) (take_plain_declaration in_core l)
unfolding plain_declaration_rule take_plain_declaration
plain_declaration_parses in_core d l a =
    settled nothing (next begins_declared)
    (parses_prefer (parses_turn declared_function_of (function_parses (body_rule in_core false d) (take_body in_core false l) (body_parses in_core false d l a) d l a)) (parses_turn declared_variables_of (variables_end d l a)))
    refl (λ t ts. refl) refl (λ t ts. refl)

abbrev begins_declaration : Token → Bool
begins_declaration t = is kind.At t || is kind.Class t || begins_declared t

declaration_parses : (in_core : Bool) (d e : Below) (l k : Lower) → AllParse d l → AllParse e k → Parses nothing (next begins_declaration) (declaration_rule in_core d e) (take_declaration in_core l k)
unfolding declaration_rule take_declaration
declaration_parses in_core d e l k a b =
    settled nothing (next begins_declaration)
    (parses_make declaration_of
    (parses_offered (offers_many annotation_parses (still _))
    (parses_where heads_class (class_parses in_core d e l k a b)
    (parses_where (heads_word (is kind.Mixin)) (mixin_parses in_core d e l k a b)
    (parses_where (heads_word (is kind.Typedef)) (alias_parses d l a) (plain_declaration_parses in_core d l a)))) (far _ _ refl (λ t ts. refl))))
    refl (λ t ts. refl) refl (λ t ts. refl)

-- Directives.

library_names_parse : Parses (heads kind.Period) heads_name library_names_rule take_library_names
unfolding library_names_rule take_library_names
library_names_parse =
    settled (heads kind.Period) heads_name (parses_turn (λ x. listed x.0 ∷ map (λ n. listed n.1) x.1) (parses_last (parses_token is_name) (offers_many period_parses (still _)) (still _))) refl (λ t ts. refl) refl (λ t ts. refl)

library_parses : Parses nothing (heads kind.Library) library_rule take_library
unfolding library_rule take_library
library_parses = parses_make library_of (parses_seq (parses_token (is kind.Library)) (parses_seq library_names_parse (parses_token (is kind.Semicolon)) (far _ _ refl (λ t ts. refl))) (still _))

abbrev begins_combinator : Test Token
begins_combinator = either (heads kind.Show) (heads kind.Hide)

combinator_sole : Sole begins_combinator (longest_of combinator_rule) take_combinator
unfolding combinator_rule take_combinator
combinator_sole =
    sole_longest
    (parses_switch (parses_make show_of (parses_seq (parses_token (is kind.Show)) (separated_parses (parses_token is_name) (still _)) (still _)))
    (parses_make hide_of (parses_seq (parses_token (is kind.Hide)) (separated_parses (parses_token is_name) (still _)) (still _))) (far _ _ refl (λ t ts. refl)))

import_parses : (d : Below) (l : Lower) → AllParse d l → Parses nothing (heads kind.Import) (import_rule d) (take_import l)
unfolding import_rule take_import
import_parses d l a =
    parses_make import_of
    (parses_seq (parses_token (is kind.Import))
    (parses_seq (string_parses d l a)
    (parses_offered (offers_maybe (parses_seq (parses_token (is kind.As)) (parses_token is_name) (still _)))
    (parses_offered (offers_many (parses_sole combinator_sole) (still _)) (parses_token (is kind.Semicolon)) (far _ _ refl (λ t ts. refl))) (far _ _ refl (λ t ts. refl))) (still _)) (still _))

export_parses : (d : Below) (l : Lower) → AllParse d l → Parses nothing (heads kind.Export) (export_rule d) (take_export l)
unfolding export_rule take_export
export_parses d l a =
    parses_make export_of
    (parses_seq (parses_token (is kind.Export))
    (parses_seq (string_parses d l a) (parses_offered (offers_many (parses_sole combinator_sole) (still _)) (parses_token (is kind.Semicolon)) (far _ _ refl (λ t ts. refl))) (still _)) (still _))

part_parses : (d : Below) (l : Lower) → AllParse d l → Parses nothing (heads kind.Part) (part_rule d) (take_part l)
unfolding part_rule take_part
part_parses d l a = parses_make part_directive_of (parses_seq (parses_token (is kind.Part)) (parses_seq (string_parses d l a) (parses_token (is kind.Semicolon)) (still _)) (still _))

part_of_parses : (d : Below) (l : Lower) → AllParse d l → Parses nothing (heads kind.Part) (part_of_rule d) (take_part_of l)
unfolding part_of_rule take_part_of
part_of_parses d l a =
    settled nothing (heads kind.Part)
    (parses_prefer
    (parses_make part_of_uri_of (parses_seq (parses_token (is kind.Part)) (parses_seq (parses_token (is kind.Of)) (parses_seq (string_parses d l a) (parses_token (is kind.Semicolon)) (still _)) (still _)) (still _)))
    (parses_make part_of_library_of
    (parses_seq (parses_token (is kind.Part)) (parses_seq (parses_token (is kind.Of)) (parses_seq library_names_parse (parses_token (is kind.Semicolon)) (far _ _ refl (λ t ts. refl))) (still _)) (still _))))
    refl (λ t ts. refl) refl (λ t ts. refl)

abbrev begins_directive : Token → Bool
begins_directive t = is kind.Library t || is kind.Import t || is kind.Export t || is kind.Part t

directive_parses : (d : Below) (l : Lower) → AllParse d l → Parses nothing (next begins_directive) (directive_rule d) (take_directive l)
unfolding directive_rule take_directive
directive_parses d l a =
    settled nothing (next begins_directive)
    (parses_switch library_parses
    (parses_switch (import_parses d l a) (parses_switch (export_parses d l a) (parses_prefer (part_parses d l a) (part_of_parses d l a)) (far _ _ refl (λ t ts. refl))) (far _ _ refl (λ t ts. refl)))
    (far _ _ refl (λ t ts. refl)))
    refl (λ t ts. refl) refl (λ t ts. refl)

-- Texts.

pub item_sole : (in_core : Bool) (d e : Below) (l k : Lower) → AllParse d l → AllParse e k → Sole (either (next begins_directive) (next begins_declaration)) (item_rule in_core d e) (take_item in_core l k)
unfolding item_rule take_item
item_sole in_core d e l k a b = sole_longest (parses_prefer (directive_parses d l a) (declaration_parses in_core d e l k a b))

pub same_unit : (in_core : Bool) (d e : Below) (l k : Lower) → AllParse d l → AllParse e k → (ts : List Token) → unit_below in_core d e ts ≡ lower_unit in_core l k ts
same_unit in_core d e l k a b ts = ap (λ (xs : List Tree). unit (place_over ts) (trees_of xs)) (same_items segment error_of (parses_sole (item_sole in_core d e l k a b)) (length ts) ts)
