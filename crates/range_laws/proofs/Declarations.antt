-- What is read of declarations, directives and whole texts that agree is the same, with ranges aside.
use Rattle.std.proofs.Common.{◌≡◌, ℕ, ◌-◌, Bool, true, false, List, [], ◌∷◌, Option, Some, None, option_map, map, refl, subst}
use Rattle.dart_tokens.specs.declared.token.Kind.{Kind}
use Rattle.dart_tree.specs.Bare.{bare_option, part_bare_with}
use Rattle.dart_tree.specs.declared.names.ConstructorName.{ConstructorName}
use Rattle.dart_tree.specs.declared.operators.OperatorName.{OperatorName}
use Rattle.dart_tree.specs.declared.operators.DeclaredOperator.{DeclaredOperator}
use Rattle.dart_tree.specs.declared.places.Span.{Span}
use Rattle.grammar.specs.declared.level.Sign.{Sign}
use Rattle.grammar.specs.declared.level.Sign.TheVariants as sign
use Rattle.grammar.specs.Declarations.{declared_operator, operator_name}
use Rattle.range_laws.specs.Agreeing.{Twins}
use Rattle.range_laws.proofs.Follow.{Readers, Found, Both, Pair, Alls, Follows, follows_token, follows_given, follows_none, follows_seq, follows_make, follows_turn, follows_or, follows_where, follows_maybe, follows_many, follows_inside, follows_before, follows_items}
use Rattle.range_laws.proofs.Tests.{blind_is, blind_class, blind_heads, blind_heads_name, blind_getter, blind_setter, blind_static, blind_heads_class, blind_word, blind_body, blind_sign, follows_sign, same_segment, same_class_word}
use Rattle.range_laws.proofs.Same.{Same, Plain, all_same, part_same, all_plain, behind_related, listed_related}
use Rattle.range_laws.proofs.Expressions.{Followed, Equal, mark, named, type_named, some_same, option_bare, follows_separated, type_parameters_follow, annotation_follows, parameter_list_follows, string_follows, arguments_follow}
use Rattle.range_laws.proofs.Statements.{error_same, variables_follow, local_body_follows}
use Rattle.readings.specs.Readings.{either}
use Rattle.readings.specs.Descent.{Descent, take_token, take_turn, ◌⊘◌}
use Rattle.dart_tokens.specs.declared.token.Kind.TheVariants as kind
use Rattle.dart_tree.specs.Tree.{Tree, part_of}
use Rattle.dart_tokens.specs.declared.grouped_token.GroupedToken.{GroupedToken as Token}
use Rattle.grammar.specs.declared.level.Setting.TheVariants as setting
use Rattle.grammar.specs.Tokens.{is, heads, heads_name}
use Rattle.grammar.specs.Types.{behind_token, listed_or_none}
use Rattle.grammar.specs.Operators.{table, heads_sign}
use Rattle.grammar.specs.Statements.{segment, error_of}
use Rattle.grammar.specs.Declarations.{native_of, empty_of, Signature, getting, setting_of, plain, getting_of, set_of, plain_of, heads_getter, heads_setter, function_with, function_of, is_class, constructor_name_of, field_initializer_of, super_of, redirection_of, Member, constructed, made_by_factory, method, fields, operated_by, constructor_of, factory_of, is_declared, declared_sign, tilde_of, index_of, operator_member_of, heads_static, method_of, fields_of, behind_word, member_with, member_of, Declaration, of_class, of_mixin, of_type, of_function, of_variables, class_of, class_word, mixin_of, alias_of, declared_function_of, declared_variables_of, heads_class, heads_word, declaration_with, declaration_of, listed, library_of, show_of, hide_of, import_of, export_of, part_directive_of, part_of_uri_of, part_of_library_of}
use Rattle.grammar.specs.Descents.{Lower}
use Rattle.grammar.specs.DeclarationDescents.{take_body, take_signature, take_function, take_constructor_name, take_constructed, take_initializer, take_constructor, take_factory, take_operator, take_operator_member, take_plain_member, take_static_member, take_member, take_types_behind, take_members, take_class_with, take_class, take_mixin, take_alias, take_plain_declaration, take_declaration, take_library_names, take_library, take_combinator, take_import, take_export, take_part, take_part_of, take_directive, take_item}

empty_follows : (r : Readers) → Follows r (Same r) (take_turn empty_of (take_token (is kind.Semicolon)))
empty_follows r = follows_turn (Same r) empty_of (mark r kind.Semicolon) (λ x y p. record { shown = λ n. refl; high = refl; open_end = refl; last = refl })

body_follows : (r : Readers) (in_core without_body : Bool) (l : Lower) → Followed r l → Follows r (Same r) (take_body in_core without_body l)
unfolding take_body
body_follows r in_core without_body l a =
    follows_where (either (heads kind.OpenBrace) (heads kind.Arrow)) (blind_body r) (local_body_follows r l a)
    (follows_where (heads kind.Native) (blind_heads r kind.Native)
    (follows_where (λ ts. in_core) (λ ts us s. refl)
    (follows_make (Same r) native_of (follows_seq (mark r kind.Native) (mark r kind.Semicolon)) (λ read other x y p. record { shown = λ n. refl; high = refl; open_end = refl; last = refl })) (follows_none r (Same r)))
    (follows_where (λ ts. without_body) (λ ts us s. refl) (empty_follows r) (follows_none r (Same r))))

-- Functions.

abbrev pub SignatureSame : Readers → Signature → Signature → Type 0
SignatureSame r (getting name body) (getting name_ body_) = Twins name name_ × Same r body body_
SignatureSame r (getting name body) (setting_of name_ parameters_ body_) = ⊥
SignatureSame r (getting name body) (plain name_ types_ parameters_ body_) = ⊥
SignatureSame r (setting_of name parameters body) (getting name_ body_) = ⊥
SignatureSame r (setting_of name parameters body) (setting_of name_ parameters_ body_) = Twins name name_ × (Same r parameters parameters_ × Same r body body_)
SignatureSame r (setting_of name parameters body) (plain name_ types_ parameters_ body_) = ⊥
SignatureSame r (plain name types parameters body) (getting name_ body_) = ⊥
SignatureSame r (plain name types parameters body) (setting_of name_ parameters_ body_) = ⊥
SignatureSame r (plain name types parameters body) (plain name_ types_ parameters_ body_) = Twins name name_ × (Alls (Same r) types types_ × (Same r parameters parameters_ × Same r body body_))

function_same : (r : Readers) (read other : List Token) (o p : Option Tree) → Both (Same r) o p → (s t : Signature) → SignatureSame r s t → Same r (function_with read o s) (function_with other p t)
function_same r read other o p b (getting name body) (getting name_ body_) q = let result = part_same r o p b in record { shown = λ n. rw (result.shown n, q.0.word, q.1.shown n) refl; high = rw (result.high, q.1.high) refl; open_end = refl; last = refl }
function_same r read other o p b (getting name body) (setting_of name_ parameters_ body_) q = absurd q
function_same r read other o p b (getting name body) (plain name_ types_ parameters_ body_) q = absurd q
function_same r read other o p b (setting_of name parameters body) (getting name_ body_) q = absurd q
function_same r read other o p b (setting_of name parameters body) (setting_of name_ parameters_ body_) q =
    let result = part_same r o p b in
    record { shown = λ n. rw (result.shown n, q.0.word, q.1.0.shown n, q.1.1.shown n) refl; high = rw (result.high, q.1.0.high, q.1.1.high) refl; open_end = refl; last = refl }
function_same r read other o p b (setting_of name parameters body) (plain name_ types_ parameters_ body_) q = absurd q
function_same r read other o p b (plain name types parameters body) (getting name_ body_) q = absurd q
function_same r read other o p b (plain name types parameters body) (setting_of name_ parameters_ body_) q = absurd q
function_same r read other o p b (plain name types parameters body) (plain name_ types_ parameters_ body_) q =
    let result = part_same r o p b in
    let all = all_same r types types_ q.1.0 in
    record { shown = λ n. rw (result.shown n, q.0.word, all.shown n, q.1.1.0.shown n, q.1.1.1.shown n) refl; high = rw (result.high, all.high, q.1.1.0.high, q.1.1.1.high) refl; open_end = refl; last = refl }

signature_follows : (r : Readers) (body : Descent Token Tree) → Follows r (Same r) body → (l : Lower) → Followed r l → Follows r (SignatureSame r) (take_signature body l)
unfolding take_signature
signature_follows r body b l a =
    follows_where heads_getter (blind_getter r) (follows_turn (SignatureSame r) getting_of (follows_seq (mark r kind.Get) (follows_seq (named r) b)) (λ x y p. p.1))
    (follows_where heads_setter (blind_setter r) (follows_turn (SignatureSame r) set_of (follows_seq (mark r kind.Set) (follows_seq (named r) (follows_seq (parameter_list_follows r l a) b))) (λ x y p. p.1))
    (follows_turn (SignatureSame r) plain_of (follows_seq (named r) (follows_seq (follows_maybe (type_parameters_follow r l a)) (follows_seq (parameter_list_follows r l a) b)))
    (λ x y p. (p.0, (listed_related (Same r) x.1.0 y.1.0 p.1.0, p.1.1)))))

function_follows : (r : Readers) (body : Descent Token Tree) → Follows r (Same r) body → (l : Lower) → Followed r l → Follows r (Same r) (take_function body l)
unfolding take_function
function_follows r body b l a =
    follows_make (Same r) function_of (follows_seq (follows_maybe (follows_before heads_name (blind_heads_name r) a.named)) (signature_follows r body b l a)) (λ read other x y p. function_same r read other x.0 y.0 p.0 x.1 y.1 p.1)

-- Members.

abbrev NameSame : ConstructorName → ConstructorName → Type 0
NameSame x y = (x.class ≡ y.class) × (bare_option (λ word. word) x.name ≡ bare_option (λ word. word) y.name)

abbrev SameOperator : OperatorName → OperatorName → Type 0
SameOperator x y = x.operator ≡ y.operator

name_of_constructor_follows : (r : Readers) (class : Option ℕ) → Follows r NameSame (take_constructor_name class)
unfolding take_constructor_name
name_of_constructor_follows r class =
    follows_make NameSame constructor_name_of (follows_seq (follows_token r (is_class class) (blind_class class)) (follows_maybe (follows_seq (mark r kind.Period) (named r))))
    (λ read other x y p. (p.0.word, option_bare (behind_token x.1) (behind_token y.1) (behind_related Twins x.1 y.1 p.1)))

constructed_follows : (r : Readers) (l : Lower) → Followed r l → Follows r (Pair (Both (Pair Twins Twins)) (Same r)) (take_constructed l)
constructed_follows r l a = follows_seq (follows_maybe (follows_seq (mark r kind.Period) (named r))) (arguments_follow r l a)

initializer_follows : (r : Readers) (l : Lower) → Followed r l → Follows r (Same r) (take_initializer l)
unfolding take_initializer
initializer_follows r l a =
    follows_or
    (follows_make (Same r) field_initializer_of
    (follows_seq (follows_maybe (follows_seq (mark r kind.This) (mark r kind.Period)))
    (follows_seq (named r) (follows_seq (mark r kind.Equals) (a.operand setting.Initializer table))))
    (λ read other x y p. record { shown = λ n. rw (p.1.0.word, p.1.1.1.shown n) refl; high = p.1.1.1.high; open_end = refl; last = refl }))
    (follows_where (heads kind.Super) (blind_heads r kind.Super)
    (follows_make (Same r) super_of (follows_seq (mark r kind.Super) (constructed_follows r l a))
    (λ read other x y p. record { shown = λ n. rw (option_bare (behind_token x.1.0) (behind_token y.1.0) (behind_related Twins x.1.0 y.1.0 p.1.0), p.1.1.shown n) refl; high = p.1.1.high; open_end = refl; last = refl }))
    (follows_make (Same r) redirection_of (follows_seq (mark r kind.This) (constructed_follows r l a))
    (λ read other x y p. record { shown = λ n. rw (option_bare (behind_token x.1.0) (behind_token y.1.0) (behind_related Twins x.1.0 y.1.0 p.1.0), p.1.1.shown n) refl; high = p.1.1.high; open_end = refl; last = refl })))

abbrev pub MemberSame : Readers → Member → Member → Type 0
MemberSame r (constructed name parameters initializers body) (constructed name_ parameters_ initializers_ body_) = NameSame name name_ × (Same r parameters parameters_ × (Alls (Same r) initializers initializers_ × Same r body body_))
MemberSame r (constructed name parameters initializers body) (made_by_factory name_ parameters_ body_) = ⊥
MemberSame r (constructed name parameters initializers body) (method is_static_ function_) = ⊥
MemberSame r (constructed name parameters initializers body) (fields is_static_ variables_) = ⊥
MemberSame r (constructed name parameters initializers body) (operated_by result_ name_ parameters_ body_) = ⊥
MemberSame r (made_by_factory name parameters body) (constructed name_ parameters_ initializers_ body_) = ⊥
MemberSame r (made_by_factory name parameters body) (made_by_factory name_ parameters_ body_) = NameSame name name_ × (Same r parameters parameters_ × Same r body body_)
MemberSame r (made_by_factory name parameters body) (method is_static_ function_) = ⊥
MemberSame r (made_by_factory name parameters body) (fields is_static_ variables_) = ⊥
MemberSame r (made_by_factory name parameters body) (operated_by result_ name_ parameters_ body_) = ⊥
MemberSame r (method is_static function) (constructed name_ parameters_ initializers_ body_) = ⊥
MemberSame r (method is_static function) (made_by_factory name_ parameters_ body_) = ⊥
MemberSame r (method is_static function) (method is_static_ function_) = (is_static ≡ is_static_) × Same r function function_
MemberSame r (method is_static function) (fields is_static_ variables_) = ⊥
MemberSame r (method is_static function) (operated_by result_ name_ parameters_ body_) = ⊥
MemberSame r (fields is_static variables) (constructed name_ parameters_ initializers_ body_) = ⊥
MemberSame r (fields is_static variables) (made_by_factory name_ parameters_ body_) = ⊥
MemberSame r (fields is_static variables) (method is_static_ function_) = ⊥
MemberSame r (fields is_static variables) (fields is_static_ variables_) = (is_static ≡ is_static_) × Same r variables variables_
MemberSame r (fields is_static variables) (operated_by result_ name_ parameters_ body_) = ⊥
MemberSame r (operated_by result name parameters body) (constructed name_ parameters_ initializers_ body_) = ⊥
MemberSame r (operated_by result name parameters body) (made_by_factory name_ parameters_ body_) = ⊥
MemberSame r (operated_by result name parameters body) (method is_static_ function_) = ⊥
MemberSame r (operated_by result name parameters body) (fields is_static_ variables_) = ⊥
MemberSame r (operated_by result name parameters body) (operated_by result_ name_ parameters_ body_) = Both (Same r) result result_ × (SameOperator name name_ × (Same r parameters parameters_ × Same r body body_))

member_same : (r : Readers) (read other : List Token) (xs ys : List Tree) → Alls Plain xs ys → (s t : Member) → MemberSame r s t → Same r (member_with read xs s) (member_with other ys t)
member_same r read other xs ys p (constructed name parameters initializers body) (constructed name_ parameters_ initializers_ body_) q =
    let all = all_same r initializers initializers_ q.1.1.0 in
    record {
      shown = λ n. rw (all_plain xs ys p, q.0.0, q.0.1, q.1.0.shown (n - 1), all.shown (n - 1), q.1.1.1.shown (n - 1)) refl;
      high = rw (q.1.0.high, all.high, q.1.1.1.high) refl;
      open_end = refl;
      last = refl;
    }
member_same r read other xs ys p (constructed name parameters initializers body) (made_by_factory name_ parameters_ body_) q = absurd q
member_same r read other xs ys p (constructed name parameters initializers body) (method is_static_ function_) q = absurd q
member_same r read other xs ys p (constructed name parameters initializers body) (fields is_static_ variables_) q = absurd q
member_same r read other xs ys p (constructed name parameters initializers body) (operated_by result_ name_ parameters_ body_) q = absurd q
member_same r read other xs ys p (made_by_factory name parameters body) (constructed name_ parameters_ initializers_ body_) q = absurd q
member_same r read other xs ys p (made_by_factory name parameters body) (made_by_factory name_ parameters_ body_) q =
    record { shown = λ n. rw (all_plain xs ys p, q.0.0, q.0.1, q.1.0.shown (n - 1), q.1.1.shown (n - 1)) refl; high = rw (q.1.0.high, q.1.1.high) refl; open_end = refl; last = refl }
member_same r read other xs ys p (made_by_factory name parameters body) (method is_static_ function_) q = absurd q
member_same r read other xs ys p (made_by_factory name parameters body) (fields is_static_ variables_) q = absurd q
member_same r read other xs ys p (made_by_factory name parameters body) (operated_by result_ name_ parameters_ body_) q = absurd q
member_same r read other xs ys p (method is_static function) (constructed name_ parameters_ initializers_ body_) q = absurd q
member_same r read other xs ys p (method is_static function) (made_by_factory name_ parameters_ body_) q = absurd q
member_same r read other xs ys p (method is_static function) (method is_static_ function_) q = record { shown = λ n. rw (all_plain xs ys p, q.0, q.1.shown (n - 1)) refl; high = rw q.1.high refl; open_end = refl; last = refl }
member_same r read other xs ys p (method is_static function) (fields is_static_ variables_) q = absurd q
member_same r read other xs ys p (method is_static function) (operated_by result_ name_ parameters_ body_) q = absurd q
member_same r read other xs ys p (fields is_static variables) (constructed name_ parameters_ initializers_ body_) q = absurd q
member_same r read other xs ys p (fields is_static variables) (made_by_factory name_ parameters_ body_) q = absurd q
member_same r read other xs ys p (fields is_static variables) (method is_static_ function_) q = absurd q
member_same r read other xs ys p (fields is_static variables) (fields is_static_ variables_) q = record { shown = λ n. rw (all_plain xs ys p, q.0, q.1.shown (n - 1)) refl; high = rw q.1.high refl; open_end = refl; last = refl }
member_same r read other xs ys p (fields is_static variables) (operated_by result_ name_ parameters_ body_) q = absurd q
member_same r read other xs ys p (operated_by result name parameters body) (constructed name_ parameters_ initializers_ body_) q = absurd q
member_same r read other xs ys p (operated_by result name parameters body) (made_by_factory name_ parameters_ body_) q = absurd q
member_same r read other xs ys p (operated_by result name parameters body) (method is_static_ function_) q = absurd q
member_same r read other xs ys p (operated_by result name parameters body) (fields is_static_ variables_) q = absurd q
member_same r read other xs ys p (operated_by result name parameters body) (operated_by result_ name_ parameters_ body_) q =
    let part = part_same r result result_ q.0 in
    record {
      shown = λ n. rw (all_plain xs ys p, part.shown (n - 1), q.1.0, q.1.1.0.shown (n - 1), q.1.1.1.shown (n - 1)) refl;
      high = rw (part.high, q.1.1.0.high, q.1.1.1.high) refl;
      open_end = refl;
      last = refl;
    }

constructor_follows : (r : Readers) (class : Option ℕ) (l : Lower) → Followed r l → Follows r (MemberSame r) (take_constructor class l)
unfolding take_constructor
constructor_follows r class l a =
    follows_turn (MemberSame r) constructor_of
    (follows_seq (name_of_constructor_follows r class)
    (follows_seq (parameter_list_follows r l a)
    (follows_seq (follows_maybe (follows_seq (mark r kind.Colon) (follows_separated (initializer_follows r l a)))) (follows_where (heads kind.OpenBrace) (blind_heads r kind.OpenBrace) a.block (empty_follows r)))))
    (λ x y p. (p.0, (p.1.0, (listed_related (Same r) (behind_token x.1.1.0) (behind_token y.1.1.0) (behind_related (Alls (Same r)) x.1.1.0 y.1.1.0 p.1.1.0), p.1.1.1))))

factory_follows : (r : Readers) (in_core : Bool) (class : Option ℕ) (l : Lower) → Followed r l → Follows r (MemberSame r) (take_factory in_core class l)
unfolding take_factory
factory_follows r in_core class l a =
    follows_turn (MemberSame r) factory_of
    (follows_seq (mark r kind.Factory) (follows_seq (name_of_constructor_follows r class) (follows_seq (parameter_list_follows r l a) (body_follows r in_core false l a)))) (λ x y p. p.1)

operator_found : (span other : Span) (o : Option DeclaredOperator) → Both SameOperator (option_map (operator_name span) o) (option_map (operator_name other) o)
operator_found span other None = tt
operator_found span other (Some operator) = refl

declared_found : (span other : Span) (s : Sign) → Both SameOperator (declared_sign span s) (declared_sign other s)
declared_found span other (sign.Binary operator) = operator_found span other (declared_operator operator)
declared_found span other (sign.Assign compound) = tt

operator_follows : (r : Readers) → Follows r SameOperator take_operator
unfolding take_operator
operator_follows r =
    follows_where (heads_sign is_declared) (blind_sign r is_declared) (follows_sign r SameOperator declared_sign declared_found)
    (follows_where (heads kind.Tilde) (blind_heads r kind.Tilde) (follows_make SameOperator tilde_of (mark r kind.Tilde) (λ read other x y p. refl))
    (follows_make SameOperator index_of (follows_seq (follows_inside (is kind.OpenBracket) (blind_is kind.OpenBracket) (follows_given r Equal [] refl)) (follows_maybe (mark r kind.Equals)))
    (λ read other x y p. rw (some_same Twins x.1 y.1 p.1) refl)))

operator_member_follows : (r : Readers) (in_core : Bool) (l : Lower) → Followed r l → Follows r (MemberSame r) (take_operator_member in_core l)
unfolding take_operator_member
operator_member_follows r in_core l a =
    follows_turn (MemberSame r) operator_member_of
    (follows_seq (follows_maybe (follows_before heads_name (blind_heads_name r) a.named))
    (follows_seq (mark r kind.Operator) (follows_seq (operator_follows r) (follows_seq (parameter_list_follows r l a) (body_follows r in_core true l a))))) (λ x y p. (p.0, p.1.1))

plain_member_follows : (r : Readers) (in_core is_static without_body : Bool) (l : Lower) → Followed r l → Follows r (MemberSame r) (take_plain_member in_core is_static without_body l)
unfolding take_plain_member
plain_member_follows r in_core is_static without_body l a =
    follows_or (follows_turn (MemberSame r) (method_of is_static) (function_follows r _ (body_follows r in_core without_body l a) l a) (λ x y p. (refl, p)))
    (follows_turn (MemberSame r) (fields_of is_static) (follows_seq (variables_follow r l a) (mark r kind.Semicolon)) (λ x y p. (refl, p.0)))

static_member_follows : (r : Readers) (in_core : Bool) (l : Lower) → Followed r l → Follows r (MemberSame r) (take_static_member in_core l)
unfolding take_static_member
static_member_follows r in_core l a =
    follows_where heads_static (blind_static r) (follows_turn (MemberSame r) behind_word (follows_seq (mark r kind.Static) (plain_member_follows r in_core true false l a)) (λ x y p. p.1)) (plain_member_follows r in_core false true l a)

member_follows : (r : Readers) (in_core : Bool) (class : Option ℕ) (l : Lower) → Followed r l → Follows r (Same r) (take_member in_core class l)
unfolding take_member
member_follows r in_core class l a =
    follows_make (Same r) member_of
    (follows_seq (follows_many (annotation_follows r)) (follows_or (constructor_follows r class l a) (follows_or (factory_follows r in_core class l a) (follows_or (operator_member_follows r in_core l a) (static_member_follows r in_core l a)))))
    (λ read other x y p. member_same r read other x.0 y.0 p.0 x.1 y.1 p.1)

members_follow : (r : Readers) (in_core : Bool) (class : Option ℕ) (l : Lower) → Followed r l → Follows r (Pair Twins (Alls (Same r))) (take_members in_core class l)
members_follow r in_core class l a = follows_inside (is kind.OpenBrace) (blind_is kind.OpenBrace) (follows_items segment error_of (member_follows r in_core class l a) (same_segment r) (error_same r))

-- Declarations.

abbrev pub DeclarationSame : Readers → Declaration → Declaration → Type 0
DeclarationSame r (of_class partial name types superclass mixins interfaces members) (of_class partial_ name_ types_ superclass_ mixins_ interfaces_ members_) = (partial ≡ partial_) × (Twins name name_ × (Alls (Same r) types types_ × (Both (Same r) superclass superclass_ × (Alls (Same r) mixins mixins_ × (Alls (Same r) interfaces interfaces_ × Alls (Same r) members members_)))))
DeclarationSame r (of_class partial name types superclass mixins interfaces members) (of_mixin name_ types_ constraints_ interfaces_ members_) = ⊥
DeclarationSame r (of_class partial name types superclass mixins interfaces members) (of_type name_ written_) = ⊥
DeclarationSame r (of_class partial name types superclass mixins interfaces members) (of_function function_) = ⊥
DeclarationSame r (of_class partial name types superclass mixins interfaces members) (of_variables variables_) = ⊥
DeclarationSame r (of_mixin name types constraints interfaces members) (of_class partial_ name_ types_ superclass_ mixins_ interfaces_ members_) = ⊥
DeclarationSame r (of_mixin name types constraints interfaces members) (of_mixin name_ types_ constraints_ interfaces_ members_) = Twins name name_ × (Alls (Same r) types types_ × (Alls (Same r) constraints constraints_ × (Alls (Same r) interfaces interfaces_ × Alls (Same r) members members_)))
DeclarationSame r (of_mixin name types constraints interfaces members) (of_type name_ written_) = ⊥
DeclarationSame r (of_mixin name types constraints interfaces members) (of_function function_) = ⊥
DeclarationSame r (of_mixin name types constraints interfaces members) (of_variables variables_) = ⊥
DeclarationSame r (of_type name written) (of_class partial_ name_ types_ superclass_ mixins_ interfaces_ members_) = ⊥
DeclarationSame r (of_type name written) (of_mixin name_ types_ constraints_ interfaces_ members_) = ⊥
DeclarationSame r (of_type name written) (of_type name_ written_) = Twins name name_ × Same r written written_
DeclarationSame r (of_type name written) (of_function function_) = ⊥
DeclarationSame r (of_type name written) (of_variables variables_) = ⊥
DeclarationSame r (of_function function) (of_class partial_ name_ types_ superclass_ mixins_ interfaces_ members_) = ⊥
DeclarationSame r (of_function function) (of_mixin name_ types_ constraints_ interfaces_ members_) = ⊥
DeclarationSame r (of_function function) (of_type name_ written_) = ⊥
DeclarationSame r (of_function function) (of_function function_) = Same r function function_
DeclarationSame r (of_function function) (of_variables variables_) = ⊥
DeclarationSame r (of_variables variables) (of_class partial_ name_ types_ superclass_ mixins_ interfaces_ members_) = ⊥
DeclarationSame r (of_variables variables) (of_mixin name_ types_ constraints_ interfaces_ members_) = ⊥
DeclarationSame r (of_variables variables) (of_type name_ written_) = ⊥
DeclarationSame r (of_variables variables) (of_function function_) = ⊥
DeclarationSame r (of_variables variables) (of_variables variables_) = Same r variables variables_

declaration_same : (r : Readers) (read other : List Token) (xs ys : List Tree) → Alls Plain xs ys → (s t : Declaration) → DeclarationSame r s t → Same r (declaration_with read xs s) (declaration_with other ys t)
declaration_same r read other xs ys p (of_class partial name types superclass mixins interfaces members) (of_class partial_ name_ types_ superclass_ mixins_ interfaces_ members_) q =
    let one = all_same r types types_ q.1.1.0 in
    let above = part_same r superclass superclass_ q.1.1.1.0 in
    let two = all_same r mixins mixins_ q.1.1.1.1.0 in
    let three = all_same r interfaces interfaces_ q.1.1.1.1.1.0 in
    let four = all_same r members members_ q.1.1.1.1.1.1 in
    record {
      shown = λ n. rw (all_plain xs ys p, q.0, q.1.0.word, one.shown (n - 1), above.shown (n - 1), two.shown (n - 1), three.shown (n - 1), four.shown (n - 1)) refl;
      high = rw (one.high, above.high, two.high, three.high, four.high) refl;
      open_end = refl;
      last = refl;
    }
declaration_same r read other xs ys p (of_class partial name types superclass mixins interfaces members) (of_mixin name_ types_ constraints_ interfaces_ members_) q = absurd q
declaration_same r read other xs ys p (of_class partial name types superclass mixins interfaces members) (of_type name_ written_) q = absurd q
declaration_same r read other xs ys p (of_class partial name types superclass mixins interfaces members) (of_function function_) q = absurd q
declaration_same r read other xs ys p (of_class partial name types superclass mixins interfaces members) (of_variables variables_) q = absurd q
declaration_same r read other xs ys p (of_mixin name types constraints interfaces members) (of_class partial_ name_ types_ superclass_ mixins_ interfaces_ members_) q = absurd q
declaration_same r read other xs ys p (of_mixin name types constraints interfaces members) (of_mixin name_ types_ constraints_ interfaces_ members_) q =
    let one = all_same r types types_ q.1.0 in
    let two = all_same r constraints constraints_ q.1.1.0 in
    let three = all_same r interfaces interfaces_ q.1.1.1.0 in
    let four = all_same r members members_ q.1.1.1.1 in
    record {
      shown = λ n. rw (all_plain xs ys p, q.0.word, one.shown (n - 1), two.shown (n - 1), three.shown (n - 1), four.shown (n - 1)) refl;
      high = rw (one.high, two.high, three.high, four.high) refl;
      open_end = refl;
      last = refl;
    }
declaration_same r read other xs ys p (of_mixin name types constraints interfaces members) (of_type name_ written_) q = absurd q
declaration_same r read other xs ys p (of_mixin name types constraints interfaces members) (of_function function_) q = absurd q
declaration_same r read other xs ys p (of_mixin name types constraints interfaces members) (of_variables variables_) q = absurd q
declaration_same r read other xs ys p (of_type name written) (of_class partial_ name_ types_ superclass_ mixins_ interfaces_ members_) q = absurd q
declaration_same r read other xs ys p (of_type name written) (of_mixin name_ types_ constraints_ interfaces_ members_) q = absurd q
declaration_same r read other xs ys p (of_type name written) (of_type name_ written_) q = record { shown = λ n. rw (all_plain xs ys p, q.0.word, q.1.shown (n - 1)) refl; high = rw q.1.high refl; open_end = refl; last = refl }
declaration_same r read other xs ys p (of_type name written) (of_function function_) q = absurd q
declaration_same r read other xs ys p (of_type name written) (of_variables variables_) q = absurd q
declaration_same r read other xs ys p (of_function function) (of_class partial_ name_ types_ superclass_ mixins_ interfaces_ members_) q = absurd q
declaration_same r read other xs ys p (of_function function) (of_mixin name_ types_ constraints_ interfaces_ members_) q = absurd q
declaration_same r read other xs ys p (of_function function) (of_type name_ written_) q = absurd q
declaration_same r read other xs ys p (of_function function) (of_function function_) q = record { shown = λ n. rw (all_plain xs ys p, q.shown (n - 1)) refl; high = rw q.high refl; open_end = refl; last = refl }
declaration_same r read other xs ys p (of_function function) (of_variables variables_) q = absurd q
declaration_same r read other xs ys p (of_variables variables) (of_class partial_ name_ types_ superclass_ mixins_ interfaces_ members_) q = absurd q
declaration_same r read other xs ys p (of_variables variables) (of_mixin name_ types_ constraints_ interfaces_ members_) q = absurd q
declaration_same r read other xs ys p (of_variables variables) (of_type name_ written_) q = absurd q
declaration_same r read other xs ys p (of_variables variables) (of_function function_) q = absurd q
declaration_same r read other xs ys p (of_variables variables) (of_variables variables_) q = record { shown = λ n. rw (all_plain xs ys p, q.shown (n - 1)) refl; high = rw q.high refl; open_end = refl; last = refl }

types_follow : (r : Readers) (k : Kind) (l : Lower) → Followed r l → Follows r (Pair Twins (Alls (Same r))) (take_types_behind (is k) l)
types_follow r k l a = follows_seq (mark r k) (follows_separated a.written)

types_related : (r : Readers) (o p : Option (Token × List Tree)) → Both (Pair Twins (Alls (Same r))) o p → Alls (Same r) (listed_or_none (behind_token o)) (listed_or_none (behind_token p))
types_related r o p b = listed_related (Same r) (behind_token o) (behind_token p) (behind_related (Alls (Same r)) o p b)

class_with_follows : (r : Readers) (in_core : Bool) (class : Option ℕ) (l k : Lower) → Followed r l → Followed r k → Follows r (DeclarationSame r) (take_class_with in_core class l k)
unfolding take_class_with
class_with_follows r in_core class l k a b =
    follows_turn (DeclarationSame r) class_of
    (follows_seq (follows_maybe (mark r kind.Abstract))
    (follows_seq (mark r kind.Class)
    (follows_seq (type_named r)
    (follows_seq (follows_maybe (type_parameters_follow r l a))
    (follows_seq (follows_maybe (follows_seq (mark r kind.Extends) a.written))
    (follows_seq (follows_maybe (types_follow r kind.With l a)) (follows_seq (follows_maybe (types_follow r kind.Implements l a)) (members_follow r in_core class k b))))))))
    (λ x y p. (
      some_same Twins x.0 y.0 p.0,
      (
        p.1.1.0,
        (
          listed_related (Same r) x.1.1.1.0 y.1.1.1.0 p.1.1.1.0,
          (
            behind_related (Same r) x.1.1.1.1.0 y.1.1.1.1.0 p.1.1.1.1.0,
            (types_related r x.1.1.1.1.1.0 y.1.1.1.1.1.0 p.1.1.1.1.1.0, (types_related r x.1.1.1.1.1.1.0 y.1.1.1.1.1.1.0 p.1.1.1.1.1.1.0, p.1.1.1.1.1.1.1.1)),
          ),
        ),
      ),
    ))

class_follows : (r : Readers) (in_core : Bool) (l k : Lower) → Followed r l → Followed r k → Follows r (DeclarationSame r) (take_class in_core l k)
unfolding take_class
class_follows r in_core l k a b = record {
  each = λ ts us s.
      subst (λ (word : Option ℕ). Both (Found r (DeclarationSame r)) (take_class_with in_core (class_word ts) l k ts) (take_class_with in_core word l k us)) (same_class_word r ts us s)
      ((class_with_follows r in_core (class_word ts) l k a b).each ts us s);
}

mixin_follows : (r : Readers) (in_core : Bool) (l k : Lower) → Followed r l → Followed r k → Follows r (DeclarationSame r) (take_mixin in_core l k)
unfolding take_mixin
mixin_follows r in_core l k a b =
    follows_turn (DeclarationSame r) mixin_of
    (follows_seq (mark r kind.Mixin)
    (follows_seq (type_named r)
    (follows_seq (follows_maybe (type_parameters_follow r l a))
    (follows_seq (follows_maybe (types_follow r kind.On l a)) (follows_seq (follows_maybe (types_follow r kind.Implements l a)) (members_follow r in_core None k b))))))
    (λ x y p. (
      p.1.0,
      (listed_related (Same r) x.1.1.0 y.1.1.0 p.1.1.0, (types_related r x.1.1.1.0 y.1.1.1.0 p.1.1.1.0, (types_related r x.1.1.1.1.0 y.1.1.1.1.0 p.1.1.1.1.0, p.1.1.1.1.1.1))),
    ))

alias_follows : (r : Readers) (l : Lower) → Followed r l → Follows r (DeclarationSame r) (take_alias l)
unfolding take_alias
alias_follows r l a =
    follows_turn (DeclarationSame r) alias_of
    (follows_seq (mark r kind.Typedef) (follows_seq (type_named r) (follows_seq (mark r kind.Equals) (follows_seq a.written (mark r kind.Semicolon))))) (λ x y p. (p.1.0, p.1.1.1.0))

plain_declaration_follows : (r : Readers) (in_core : Bool) (l : Lower) → Followed r l → Follows r (DeclarationSame r) (take_plain_declaration in_core l)
unfolding take_plain_declaration
plain_declaration_follows r in_core l a =
    follows_or (follows_turn (DeclarationSame r) declared_function_of (function_follows r _ (body_follows r in_core false l a) l a) (λ x y p. p))
    (follows_turn (DeclarationSame r) declared_variables_of (follows_seq (variables_follow r l a) (mark r kind.Semicolon)) (λ x y p. p.0))

declaration_follows : (r : Readers) (in_core : Bool) (l k : Lower) → Followed r l → Followed r k → Follows r (Same r) (take_declaration in_core l k)
unfolding take_declaration
declaration_follows r in_core l k a b =
    follows_make (Same r) declaration_of
    (follows_seq (follows_many (annotation_follows r))
    (follows_where heads_class (blind_heads_class r) (class_follows r in_core l k a b)
    (follows_where (heads_word (is kind.Mixin)) (blind_word r kind.Mixin) (mixin_follows r in_core l k a b)
    (follows_where (heads_word (is kind.Typedef)) (blind_word r kind.Typedef) (alias_follows r l a) (plain_declaration_follows r in_core l a)))))
    (λ read other x y p. declaration_same r read other x.0 y.0 p.0 x.1 y.1 p.1)

-- Directives.

further_names : (xs ys : List (Token × Token)) → Alls (Pair Twins Twins) xs ys → Alls Plain (map (λ n. listed n.1) xs) (map (λ n. listed n.1) ys)
further_names [] [] p = tt
further_names [] (y ∷ ys) p = absurd p
further_names (x ∷ xs) [] p = absurd p
further_names (x ∷ xs) (y ∷ ys) p = (rw p.0.1.word refl, further_names xs ys p.1)

listed_names : (xs ys : List Token) → Alls Twins xs ys → Alls Plain (map listed xs) (map listed ys)
listed_names [] [] p = tt
listed_names [] (y ∷ ys) p = absurd p
listed_names (x ∷ xs) [] p = absurd p
listed_names (x ∷ xs) (y ∷ ys) p = (rw p.0.word refl, listed_names xs ys p.1)

prefix_same : (o p : Option (Token × Token)) → Both (Pair Twins Twins) o p → part_bare_with (λ word. word) (part_of (option_map listed (behind_token o))) ≡ part_bare_with (λ word. word) (part_of (option_map listed (behind_token p)))
prefix_same None None b = refl
prefix_same None (Some y) b = absurd b
prefix_same (Some x) None b = absurd b
prefix_same (Some x) (Some y) b = rw b.1.word refl

library_names_follow : (r : Readers) → Follows r (Alls Plain) take_library_names
unfolding take_library_names
library_names_follow r =
    follows_turn (Alls Plain) (λ x. listed x.0 ∷ map (λ n. listed n.1) x.1) (follows_seq (named r) (follows_many (follows_seq (mark r kind.Period) (named r)))) (λ x y p. (rw p.0.word refl, further_names x.1 y.1 p.1))

combinator_follows : (r : Readers) → Follows r Plain take_combinator
unfolding take_combinator
combinator_follows r =
    follows_where (heads kind.Show) (blind_heads r kind.Show)
    (follows_make Plain show_of (follows_seq (mark r kind.Show) (follows_separated (named r))) (λ read other x y p. rw (all_plain (map listed x.1) (map listed y.1) (listed_names x.1 y.1 p.1)) refl))
    (follows_make Plain hide_of (follows_seq (mark r kind.Hide) (follows_separated (named r))) (λ read other x y p. rw (all_plain (map listed x.1) (map listed y.1) (listed_names x.1 y.1 p.1)) refl))

library_follows : (r : Readers) → Follows r (Same r) take_library
unfolding take_library
library_follows r =
    follows_make (Same r) library_of (follows_seq (mark r kind.Library) (follows_seq (library_names_follow r) (mark r kind.Semicolon)))
    (λ read other x y p. record { shown = λ n. rw (all_plain x.1.0 y.1.0 p.1.0) refl; high = refl; open_end = refl; last = refl })

import_follows : (r : Readers) (l : Lower) → Followed r l → Follows r (Same r) (take_import l)
unfolding take_import
import_follows r l a =
    follows_make (Same r) import_of
    (follows_seq (mark r kind.Import)
    (follows_seq (string_follows r l a)
    (follows_seq (follows_maybe (follows_seq (mark r kind.As) (named r))) (follows_seq (follows_many (combinator_follows r)) (mark r kind.Semicolon)))))
    (λ read other x y p.
    record { shown = λ n. rw (p.1.0.shown (n - 1), prefix_same x.1.1.0 y.1.1.0 p.1.1.0, all_plain x.1.1.1.0 y.1.1.1.0 p.1.1.1.0) refl; high = rw p.1.0.high refl; open_end = refl; last = refl })

export_follows : (r : Readers) (l : Lower) → Followed r l → Follows r (Same r) (take_export l)
unfolding take_export
export_follows r l a =
    follows_make (Same r) export_of (follows_seq (mark r kind.Export) (follows_seq (string_follows r l a) (follows_seq (follows_many (combinator_follows r)) (mark r kind.Semicolon))))
    (λ read other x y p. record { shown = λ n. rw (p.1.0.shown (n - 1), all_plain x.1.1.0 y.1.1.0 p.1.1.0) refl; high = rw p.1.0.high refl; open_end = refl; last = refl })

part_follows : (r : Readers) (l : Lower) → Followed r l → Follows r (Same r) (take_part l ⊘ take_part_of l)
unfolding take_part take_part_of
part_follows r l a =
    follows_or
    (follows_make (Same r) part_directive_of (follows_seq (mark r kind.Part) (follows_seq (string_follows r l a) (mark r kind.Semicolon)))
    (λ read other x y p. record { shown = λ n. rw (p.1.0.shown (n - 1)) refl; high = rw p.1.0.high refl; open_end = refl; last = refl }))
    (follows_or
    (follows_make (Same r) part_of_uri_of (follows_seq (mark r kind.Part) (follows_seq (mark r kind.Of) (follows_seq (string_follows r l a) (mark r kind.Semicolon))))
    (λ read other x y p. record { shown = λ n. rw (p.1.1.0.shown (n - 1)) refl; high = rw p.1.1.0.high refl; open_end = refl; last = refl }))
    (follows_make (Same r) part_of_library_of (follows_seq (mark r kind.Part) (follows_seq (mark r kind.Of) (follows_seq (library_names_follow r) (mark r kind.Semicolon))))
    (λ read other x y p. record { shown = λ n. rw (all_plain x.1.1.0 y.1.1.0 p.1.1.0) refl; high = refl; open_end = refl; last = refl })))

directive_follows : (r : Readers) (l : Lower) → Followed r l → Follows r (Same r) (take_directive l)
unfolding take_directive
directive_follows r l a =
    follows_where (heads kind.Library) (blind_heads r kind.Library) (library_follows r)
    (follows_where (heads kind.Import) (blind_heads r kind.Import) (import_follows r l a) (follows_where (heads kind.Export) (blind_heads r kind.Export) (export_follows r l a) (part_follows r l a)))

pub item_follows : (r : Readers) (in_core : Bool) (l k : Lower) → Followed r l → Followed r k → Follows r (Same r) (take_item in_core l k)
unfolding take_item
item_follows r in_core l k a b = follows_or (directive_follows r l a) (declaration_follows r in_core l k a b)
