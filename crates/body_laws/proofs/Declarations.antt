-- What is read of members, declarations and directives in texts that are alike but for their bodies hides alike.
use Rattle.std.proofs.Common.{◌≡◌, ℕ, ◌&&◌, ◌||◌, not, Bool, true, false, List, [], ◌∷◌, Option, Some, None, option_map, map, take, drop, if◌then◌else◌, refl, sym, ap, ◌∙◌, subst}
use denote.Enum.Bare.{sameb}
use Rattle.dart_tokens.specs.declared.token.Kind.{Kind}
use Rattle.dart_tokens.specs.contracts.token.Kind as kinds
use Rattle.dart_tokens.specs.declared.token.Kind.TheVariants as kind
use Rattle.dart_tree.specs.Tree.{Tree}
use Rattle.dart_tree.specs.declared.operators.DeclaredOperator.{DeclaredOperator}
use Rattle.dart_tree.specs.declared.places.Span.{Span}
use Rattle.readings.specs.Readings.{made, tokens_read}
use Rattle.readings.specs.Descent.{Descent, take_token, ◌▸◌, ◌⊘◌, take_make, take_turn, take_where, all_items}
use Rattle.dart_tokens.specs.declared.grouped_token.GroupedToken.{GroupedToken as Token}
use Rattle.grammar.specs.declared.level.Sign.{Sign}
use Rattle.grammar.specs.declared.level.Sign.TheVariants as sign
use Rattle.grammar.specs.declared.level.Setting.TheVariants as setting
use Rattle.grammar.specs.Tokens.{is, is_name, heads, heads_name, past}
use Rattle.grammar.specs.Operators.{table, heads_sign}
use Rattle.grammar.specs.Statements.{segment, error_of}
use Rattle.grammar.specs.Declarations.{is_class, constructor_name_of, field_initializer_of, super_of, redirection_of, Member, constructed, made_by_factory, method, fields, operated_by, constructor_of, factory_of, declared_operator, operator_name, is_declared, declared_sign, tilde_of, index_of, operator_member_of, heads_static, method_of, fields_of, behind_word, member_with, member_of, Declaration, of_class, of_mixin, of_type, of_function, of_variables, class_of, word_at, class_word, mixin_of, alias_of, declared_function_of, declared_variables_of, heads_class, heads_word, declaration_with, declaration_of, listed, library_of, show_of, hide_of, import_of, export_of, part_directive_of, part_of_uri_of, part_of_library_of}
use Rattle.grammar.specs.Descents.{Lower}
use Rattle.grammar.specs.DeclarationDescents.{take_constructor_name, take_constructed, take_initializer, take_constructor, take_factory, take_operator, take_operator_member, take_plain_member, take_static_member, take_member, take_types_behind, take_members, take_class_with, take_class, take_mixin, take_alias, take_plain_declaration, take_declaration, take_library_names, take_library, take_combinator, take_import, take_export, take_part, take_part_of, take_directive, take_item}
use Rattle.interface_part.specs.Hidden.{hidden_in_member, hidden_in_item}
use Rattle.body_laws.specs.Bodies.{Moves, Twins, is_free, in_braces, none, opens_body}
use Rattle.body_laws.proofs.Follow.{Kin, inner as within, braces, Like, first_twins, one_empty, other_empty, behind_mark, held_in, and_none, state, went_token, went_group, Both, Pair, Alls, Found, Follows, bound, both_more, or_found, if_known, found_left, found_right, needs_left, needs_right, seq_meets, turn_meets, needs_first, clear_behind, kind_blind, is_kind, follows_given, follows_seq, follows_then, follows_make, follows_turn, follows_or, follows_where, follows_maybe, follows_many, contents, follows_inside, follows_before}
use Rattle.body_laws.proofs.Lists.{Meets, all_items_found}
use Rattle.body_laws.proofs.Tests.{is_plain_kind, kind_marks, name_marks, class_marks, blind_heads, blind_heads_name, blind_heads_class, blind_static, blind_mixin, blind_typedef, blind_sign, follows_sign}
use Rattle.body_laws.proofs.Same.{Same, BodySame, Hides, all_hide}
use Rattle.body_laws.proofs.Expressions.{Followed, Any, mark, named, type_named, follows_separated, follows_separated_clear, type_parameters_follow, annotation_follows, parameter_list_follows, string_follows, arguments_follow}
use Rattle.body_laws.proofs.Bodies.{FunctionHides, VariablesHide, empty_follows, body_follows, function_follows, variables_follow}

-- Descents of two texts.

meets_of : {A : Type 0} {r : Kin} {n s c : Bool} {R : A → A → Type 0} {g : Descent Token A} → Follows r n s c R g → Meets r n s c R g g
meets_of a = record { each = a.each }

meets_seq : {A B : Type 0} {r : Kin} {n s c t d : Bool} {R : A → A → Type 0} {S : B → B → Type 0} {g h : Descent Token A} {k l : Descent Token B} → Meets r n s c R g h → Meets r false t d S k l → Meets r n (s || t) (d && (t || c)) (Pair R S) (g ▸ k) (h ▸ l)
meets_seq {r = r} {n = n} {s = s} {c = c} {t = t} {d = d} {R = R} {S = S} {g = g} {h = h} {k = k} {l = l} a b = record {
  each = λ p q ts us like. seq_meets r s c t d p R S g h k l ts us (a.each p q ts us like) (λ x y f. b.each (state c p f.1.read) refl x.1 y.1 f.1.like);
}

meets_then : {A B : Type 0} {r : Kin} {n s t d : Bool} {R : A → A → Type 0} {S : B → B → Type 0} {g h : Descent Token A} {k l : Descent Token B} → Meets r n s true R g h → Meets r true t d S k l → Meets r (n || not s) (s || t) (d && (t || true)) (Pair R S) (g ▸ k) (h ▸ l)
meets_then {r = r} {n = n} {s = s} {t = t} {d = d} {R = R} {S = S} {g = g} {h = h} {k = k} {l = l} a b = record {
  each = λ p q ts us like. seq_meets r s true t d p R S g h k l ts us (a.each p (needs_first n s p q) ts us like) (λ x y f. b.each (state true p f.1.read) (clear_behind n s p r.moves f.1.read f.1.other f.1.stand q) x.1 y.1 f.1.like);
}

meets_turn : {A B : Type 0} {r : Kin} {n s c : Bool} {R : A → A → Type 0} {g h : Descent Token A} (S : B → B → Type 0) (of : A → B) → Meets r n s c R g h → ((x y : A) → R x y → S (of x) (of y)) → Meets r n s c S (take_turn of g) (take_turn of h)
meets_turn {r = r} {n = n} {s = s} {c = c} {R = R} {g = g} {h = h} S of a f = record { each = λ p q ts us like. turn_meets r s c p R S of g h ts us f (a.each p q ts us like) }

meets_make : {A B : Type 0} {r : Kin} {n s c : Bool} {R : A → A → Type 0} {g h : Descent Token A} (S : B → B → Type 0) (of : List Token → A → B) → Meets r n s c R g h → ((read other : List Token) (x y : A) → R x y → S (of read x) (of other y)) →
    Meets r n s c S (take_make of g) (take_make of h)
meets_make {r = r} {n = n} {s = s} {c = c} {R = R} {g = g} {h = h} S of a f = record {
  each = λ p q ts us like.
      bound (Found r s c p R ts us) (Found r s c p S ts us) (λ x. Some (made of ts x)) (λ x. Some (made of us x)) (g ts) (h us) (a.each p q ts us like) (λ x y e. (f (tokens_read ts x.1) (tokens_read us y.1) x.0 y.0 e.0, e.1));
}

meets_or : {A : Type 0} {r : Kin} {n s c m t d : Bool} {R : A → A → Type 0} {g h k l : Descent Token A} → Meets r n s c R g h → Meets r m t d R k l → Meets r (n || m) (s && t) (c && d) R (g ⊘ k) (h ⊘ l)
meets_or {r = r} {n = n} {s = s} {c = c} {m = m} {t = t} {d = d} {R = R} {g = g} {h = h} {k = k} {l = l} a b = record {
  each = λ p q ts us like.
      or_found (Found r (s && t) (c && d) p R ts us) (g ts) (k ts) (h us) (l us)
      (both_more (Found r s c p R ts us) (Found r (s && t) (c && d) p R ts us) (g ts) (h us) (λ x y f. found_left r s c t d p R ts us x y f) (a.each p (needs_left n m p q) ts us like))
      (both_more (Found r t d p R ts us) (Found r (s && t) (c && d) p R ts us) (k ts) (l us) (λ x y f. found_right r s c t d p R ts us x y f) (b.each p (needs_right n m p q) ts us like));
}

-- Members.

abbrev pub MemberHides : Moves → Tree → Tree → Type 0
MemberHides m t u = (b : Bool) → Hides m (hidden_in_member b) t u

-- the names of a class in the two texts
abbrev Renamed : Moves → Option ℕ → Option ℕ → Type 0
Renamed m class other = other ≡ option_map (λ w. m.words w) class

first_true : (a b : Bool) → (a && b) ≡ true → a ≡ true
first_true true b e = refl
first_true false b e = e

class_is_name : (class : Option ℕ) (t : Token) → is_class class t ≡ true → is_name t ≡ true
class_is_name None t e = absurd (cc)
class_is_name (Some word) t e = first_true (is_name t) _ e

class_meets : (r : Kin) (class other : Option ℕ) → Renamed r.moves class other → Meets r false true true (Twins r.moves) (take_token (is_class class)) (take_token (is_class other))
class_meets r class other e = record { each = follow }
  where
    follow : (p : Bool) → (false && p) ≡ false → (ts us : List Token) → Like r p ts us → Both (Found r true true p (Twins r.moves) ts us) (take_token (is_class class) ts) (take_token (is_class other) us)
    follow p c [] [] a = tt
    follow p c [] (u ∷ us) a = one_empty r p u us a
    follow p c (t ∷ ts) [] a = other_empty r p t ts a
    follow p c (t ∷ ts) (u ∷ us) a =
        let w = first_twins r p t u ts us a in
        if_known (Found r true true p (Twins r.moves) (t ∷ ts) (u ∷ us)) (is_class class t) (is_class other u) (Some (t, ts)) None (Some (u, us)) None (class_marks r.moves class other e t u w)
        (λ d. (w, went_token r p is_name (name_marks r.moves) t u ts us (class_is_name class t d) a)) tt

name_meets : (r : Kin) (class other : Option ℕ) → Renamed r.moves class other → Meets r false true true Any (take_constructor_name class) (take_constructor_name other)
unfolding take_constructor_name
name_meets r class other e =
    meets_make Any constructor_name_of (meets_seq (class_meets r class other e) (meets_of (follows_maybe (follows_seq (mark r kind.Period refl refl) (named r))))) (λ read others x y p. tt)

constructed_follows : (r : Kin) (l : Lower) → Followed l → Follows r false true false (Pair (Both (Pair (Twins r.moves) (Twins r.moves))) (Same r.moves)) (take_constructed l)
constructed_follows r l a = follows_seq (follows_maybe (follows_seq (mark r kind.Period refl refl) (named r))) (arguments_follow r l a)

initializer_follows : (r : Kin) (l : Lower) → Followed l → Follows r false true false Any (take_initializer l)
unfolding take_initializer
initializer_follows r l a =
    follows_or
    (follows_make Any field_initializer_of
    (follows_seq (follows_maybe (follows_seq (mark r kind.This refl refl) (mark r kind.Period refl refl)))
    (follows_seq (named r) (follows_then (mark r kind.Equals refl refl) (a.operand r setting.Initializer table)))) (λ read other x y q p. tt))
    (follows_where (heads kind.Super) (blind_heads r kind.Super) (follows_make Any super_of (follows_seq (mark r kind.Super refl refl) (constructed_follows r l a)) (λ read other x y q p. tt))
    (follows_make Any redirection_of (follows_seq (mark r kind.This refl refl) (constructed_follows r l a)) (λ read other x y q p. tt)))

abbrev pub MemberSame : Moves → Member → Member → Type 0
MemberSame m (constructed name parameters initializers body) (constructed name_ parameters_ initializers_ body_) = BodySame m body body_
MemberSame m (constructed name parameters initializers body) (made_by_factory name_ parameters_ body_) = ⊥
MemberSame m (constructed name parameters initializers body) (method is_static_ function_) = ⊥
MemberSame m (constructed name parameters initializers body) (fields is_static_ variables_) = ⊥
MemberSame m (constructed name parameters initializers body) (operated_by result_ name_ parameters_ body_) = ⊥
MemberSame m (made_by_factory name parameters body) (constructed name_ parameters_ initializers_ body_) = ⊥
MemberSame m (made_by_factory name parameters body) (made_by_factory name_ parameters_ body_) = BodySame m body body_
MemberSame m (made_by_factory name parameters body) (method is_static_ function_) = ⊥
MemberSame m (made_by_factory name parameters body) (fields is_static_ variables_) = ⊥
MemberSame m (made_by_factory name parameters body) (operated_by result_ name_ parameters_ body_) = ⊥
MemberSame m (method is_static function) (constructed name_ parameters_ initializers_ body_) = ⊥
MemberSame m (method is_static function) (made_by_factory name_ parameters_ body_) = ⊥
MemberSame m (method is_static function) (method is_static_ function_) = FunctionHides m function function_
MemberSame m (method is_static function) (fields is_static_ variables_) = ⊥
MemberSame m (method is_static function) (operated_by result_ name_ parameters_ body_) = ⊥
MemberSame m (fields is_static variables) (constructed name_ parameters_ initializers_ body_) = ⊥
MemberSame m (fields is_static variables) (made_by_factory name_ parameters_ body_) = ⊥
MemberSame m (fields is_static variables) (method is_static_ function_) = ⊥
MemberSame m (fields is_static variables) (fields is_static_ variables_) = VariablesHide m variables variables_
MemberSame m (fields is_static variables) (operated_by result_ name_ parameters_ body_) = ⊥
MemberSame m (operated_by result name parameters body) (constructed name_ parameters_ initializers_ body_) = ⊥
MemberSame m (operated_by result name parameters body) (made_by_factory name_ parameters_ body_) = ⊥
MemberSame m (operated_by result name parameters body) (method is_static_ function_) = ⊥
MemberSame m (operated_by result name parameters body) (fields is_static_ variables_) = ⊥
MemberSame m (operated_by result name parameters body) (operated_by result_ name_ parameters_ body_) = BodySame m body body_

member_hides : (m : Moves) (read other : List Token) (xs ys : List Tree) (s t : Member) → MemberSame m s t → MemberHides m (member_with read xs s) (member_with other ys t)
member_hides m read other xs ys (constructed name parameters initializers body) (constructed name_ parameters_ initializers_ body_) q b = q.hides b
member_hides m read other xs ys (constructed name parameters initializers body) (made_by_factory name_ parameters_ body_) q b = absurd q
member_hides m read other xs ys (constructed name parameters initializers body) (method is_static_ function_) q b = absurd q
member_hides m read other xs ys (constructed name parameters initializers body) (fields is_static_ variables_) q b = absurd q
member_hides m read other xs ys (constructed name parameters initializers body) (operated_by result_ name_ parameters_ body_) q b = absurd q
member_hides m read other xs ys (made_by_factory name parameters body) (constructed name_ parameters_ initializers_ body_) q b = absurd q
member_hides m read other xs ys (made_by_factory name parameters body) (made_by_factory name_ parameters_ body_) q b = q.hides b
member_hides m read other xs ys (made_by_factory name parameters body) (method is_static_ function_) q b = absurd q
member_hides m read other xs ys (made_by_factory name parameters body) (fields is_static_ variables_) q b = absurd q
member_hides m read other xs ys (made_by_factory name parameters body) (operated_by result_ name_ parameters_ body_) q b = absurd q
member_hides m read other xs ys (method is_static function) (constructed name_ parameters_ initializers_ body_) q b = absurd q
member_hides m read other xs ys (method is_static function) (made_by_factory name_ parameters_ body_) q b = absurd q
member_hides m read other xs ys (method is_static function) (method is_static_ function_) q b = q b
member_hides m read other xs ys (method is_static function) (fields is_static_ variables_) q b = absurd q
member_hides m read other xs ys (method is_static function) (operated_by result_ name_ parameters_ body_) q b = absurd q
member_hides m read other xs ys (fields is_static variables) (constructed name_ parameters_ initializers_ body_) q b = absurd q
member_hides m read other xs ys (fields is_static variables) (made_by_factory name_ parameters_ body_) q b = absurd q
member_hides m read other xs ys (fields is_static variables) (method is_static_ function_) q b = absurd q
member_hides m read other xs ys (fields is_static variables) (fields is_static_ variables_) q b = q b
member_hides m read other xs ys (fields is_static variables) (operated_by result_ name_ parameters_ body_) q b = absurd q
member_hides m read other xs ys (operated_by result name parameters body) (constructed name_ parameters_ initializers_ body_) q b = absurd q
member_hides m read other xs ys (operated_by result name parameters body) (made_by_factory name_ parameters_ body_) q b = absurd q
member_hides m read other xs ys (operated_by result name parameters body) (method is_static_ function_) q b = absurd q
member_hides m read other xs ys (operated_by result name parameters body) (fields is_static_ variables_) q b = absurd q
member_hides m read other xs ys (operated_by result name parameters body) (operated_by result_ name_ parameters_ body_) q b = q.hides b

constructor_meets : (r : Kin) (class other : Option ℕ) → Renamed r.moves class other → (l : Lower) → Followed l → Meets r false true false (MemberSame r.moves) (take_constructor class l) (take_constructor other l)
unfolding take_constructor
constructor_meets r class other e l a =
    meets_turn (MemberSame r.moves) constructor_of
    (meets_seq (name_meets r class other e)
    (meets_of
    (follows_seq (parameter_list_follows r l a)
    (follows_seq (follows_maybe (follows_seq (mark r kind.Colon refl refl) (follows_separated (initializer_follows r l a)))) (follows_where (heads kind.OpenBrace) (blind_heads r kind.OpenBrace) (a.block r) (empty_follows r))))))
    (λ x y p. p.1.1.1)

factory_meets : (r : Kin) (in_core : Bool) (class other : Option ℕ) → Renamed r.moves class other → (l : Lower) → Followed l → Meets r false true false (MemberSame r.moves) (take_factory in_core class l) (take_factory in_core other l)
unfolding take_factory
factory_meets r in_core class other e l a =
    meets_turn (MemberSame r.moves) factory_of
    (meets_seq (meets_of (mark r kind.Factory refl refl)) (meets_seq (name_meets r class other e) (meets_of (follows_seq (parameter_list_follows r l a) (body_follows r in_core false l a))))) (λ x y p. p.1.1.1)

operator_found : (span other : Span) (o : Option DeclaredOperator) → Both Any (option_map (operator_name span) o) (option_map (operator_name other) o)
operator_found span other None = tt
operator_found span other (Some operator) = tt

declared_found : (span other : Span) (s : Sign) → Both Any (declared_sign span s) (declared_sign other s)
declared_found span other (sign.Binary operator) = operator_found span other (declared_operator operator)
declared_found span other (sign.Assign compound) = tt

operator_follows : (r : Kin) → Follows r false true false Any take_operator
unfolding take_operator
operator_follows r =
    follows_where (heads_sign is_declared) (blind_sign r is_declared) (follows_sign r Any declared_sign declared_found)
    (follows_where (heads kind.Tilde) (blind_heads r kind.Tilde) (follows_make Any tilde_of (mark r kind.Tilde refl refl) (λ read other x y q p. tt))
    (follows_make Any index_of (follows_seq (follows_inside kind.OpenBracket refl (contents (follows_given (within r) Any [] tt))) (follows_maybe (mark r kind.Equals refl refl))) (λ read other x y q p. tt)))

operator_member_follows : (r : Kin) (in_core : Bool) (l : Lower) → Followed l → Follows r false true false (MemberSame r.moves) (take_operator_member in_core l)
unfolding take_operator_member
operator_member_follows r in_core l a =
    follows_turn (MemberSame r.moves) operator_member_of
    (follows_seq (follows_maybe (follows_before heads_name (blind_heads_name r) (a.named r)))
    (follows_seq (mark r kind.Operator refl refl) (follows_seq (operator_follows r) (follows_seq (parameter_list_follows r l a) (body_follows r in_core true l a))))) (λ x y p. p.1.1.1.1)

plain_member_follows : (r : Kin) (in_core is_static without_body : Bool) (l : Lower) → Followed l → Follows r false true false (MemberSame r.moves) (take_plain_member in_core is_static without_body l)
unfolding take_plain_member
plain_member_follows r in_core is_static without_body l a =
    follows_or (follows_turn (MemberSame r.moves) (method_of is_static) (function_follows r _ (body_follows r in_core without_body l a) l a) (λ x y p. p))
    (follows_turn (MemberSame r.moves) (fields_of is_static) (follows_seq (variables_follow r l a) (mark r kind.Semicolon refl refl)) (λ x y p. p.0))

static_member_follows : (r : Kin) (in_core : Bool) (l : Lower) → Followed l → Follows r false true false (MemberSame r.moves) (take_static_member in_core l)
unfolding take_static_member
static_member_follows r in_core l a =
    follows_where heads_static (blind_static r) (follows_turn (MemberSame r.moves) behind_word (follows_seq (mark r kind.Static refl refl) (plain_member_follows r in_core true false l a)) (λ x y p. p.1)) (plain_member_follows r in_core false true l a)

member_meets : (r : Kin) (in_core : Bool) (class other : Option ℕ) → Renamed r.moves class other → (l : Lower) → Followed l → Meets r false true false (MemberHides r.moves) (take_member in_core class l) (take_member in_core other l)
unfolding take_member
member_meets r in_core class other e l a =
    meets_make (MemberHides r.moves) member_of
    (meets_seq (meets_of (follows_many (annotation_follows r)))
    (meets_or (constructor_meets r class other e l a) (meets_or (factory_meets r in_core class other e l a) (meets_of (follows_or (operator_member_follows r in_core l a) (static_member_follows r in_core l a))))))
    (λ read others x y p. member_hides r.moves read others x.0 y.0 x.1 y.1 p.1)

error_hides : (m : Moves) (read other : List Token) → MemberHides m (error_of read) (error_of other)
error_hides m read other b = refl

-- braces that open no body
members_there : (r : Kin) (needs : Bool) → ((p : Bool) → (needs && p) ≡ false → (t : Token) → opens_body r.freedom p t ≡ false) → (in_core : Bool) (class other : Option ℕ) → Renamed r.moves class other → (l : Lower) → Followed l →
    Meets r needs true false (Pair (Twins r.moves) (Alls (MemberHides r.moves))) (take_members in_core class l) (take_members in_core other l)
members_there r needs closed in_core class other e l a = record { each = follow }
  where
    follow : (p : Bool) → (needs && p) ≡ false → (ts us : List Token) → Like r p ts us → Both (Found r true false p (Pair (Twins r.moves) (Alls (MemberHides r.moves))) ts us) (take_members in_core class l ts) (take_members in_core other l us)
    follow p q [] [] s = tt
    follow p q [] (u ∷ us) s = one_empty r p u us s
    follow p q (t ∷ ts) [] s = other_empty r p t ts s
    follow p q (t ∷ ts) (u ∷ us) s =
        if_known (Found r true false p (Pair (Twins r.moves) (Alls (MemberHides r.moves))) (t ∷ ts) (u ∷ us)) (is kind.OpenBrace t) (is kind.OpenBrace u)
        (Some ((t, all_items (take_member in_core class l) segment error_of (take t.width ts)), drop (past t) ts)) None (Some ((u, all_items (take_member in_core other l) segment error_of (take u.width us)), drop (past u) us)) None
        (kind_blind r.moves kind.OpenBrace t u (first_twins r p t u ts us s))
        (λ d.
        let held : Like (braces r) false (take t.width ts) (take u.width us) =
        subst (λ (b : Bool). Like (record { moves = r.moves; freedom = if b then in_braces r.freedom else none }) false (take t.width ts) (take u.width us)) d (held_in r p t u ts us s (closed p q t)) in
        ((first_twins r p t u ts us s, all_items_found (braces r) false (MemberHides r.moves) (take_member in_core class l) (take_member in_core other l) error_of (member_meets (braces r) in_core class other e l a) (error_hides r.moves) (take t.width ts) (take u.width us) held), went_group r p t u ts us s)) tt

members_meet : (r : Kin) → is_free r.freedom ≡ false → (in_core : Bool) (class other : Option ℕ) → Renamed r.moves class other → (l : Lower) → Followed l →
    Meets r false true false (Pair (Twins r.moves) (Alls (MemberHides r.moves))) (take_members in_core class l) (take_members in_core other l)
members_meet r free in_core class other e l a = members_there r false (λ p q t. and_none p (is_free r.freedom && is kind.OpenBrace t) (ap (λ (b : Bool). b && is kind.OpenBrace t) free)) in_core class other e l a

members_behind : (r : Kin) (in_core : Bool) (class other : Option ℕ) → Renamed r.moves class other → (l : Lower) → Followed l →
    Meets r true true false (Pair (Twins r.moves) (Alls (MemberHides r.moves))) (take_members in_core class l) (take_members in_core other l)
members_behind r in_core class other e l a = members_there r true (λ p q t. ap (λ (b : Bool). b && (is_free r.freedom && is kind.OpenBrace t)) q) in_core class other e l a

-- Declarations.

abbrev pub ItemHides : Moves → Tree → Tree → Type 0
ItemHides m t u = Hides m hidden_in_item t u

each_member : (m : Moves) (b : Bool) (xs ys : List Tree) → Alls (MemberHides m) xs ys → Alls (Hides m (hidden_in_member b)) xs ys
each_member m b [] [] p = tt
each_member m b [] (y ∷ ys) p = absurd p
each_member m b (x ∷ xs) [] p = absurd p
each_member m b (x ∷ xs) (y ∷ ys) p = (p.0 b, each_member m b xs ys p.1)

abbrev pub DeclarationSame : Moves → Declaration → Declaration → Type 0
DeclarationSame m (of_class partial name types superclass mixins interfaces members) (of_class partial_ name_ types_ superclass_ mixins_ interfaces_ members_) = Alls (MemberHides m) members members_
DeclarationSame m (of_class partial name types superclass mixins interfaces members) (of_mixin name_ types_ constraints_ interfaces_ members_) = ⊥
DeclarationSame m (of_class partial name types superclass mixins interfaces members) (of_type name_ written_) = ⊥
DeclarationSame m (of_class partial name types superclass mixins interfaces members) (of_function function_) = ⊥
DeclarationSame m (of_class partial name types superclass mixins interfaces members) (of_variables variables_) = ⊥
DeclarationSame m (of_mixin name types constraints interfaces members) (of_class partial_ name_ types_ superclass_ mixins_ interfaces_ members_) = ⊥
DeclarationSame m (of_mixin name types constraints interfaces members) (of_mixin name_ types_ constraints_ interfaces_ members_) = Alls (MemberHides m) members members_
DeclarationSame m (of_mixin name types constraints interfaces members) (of_type name_ written_) = ⊥
DeclarationSame m (of_mixin name types constraints interfaces members) (of_function function_) = ⊥
DeclarationSame m (of_mixin name types constraints interfaces members) (of_variables variables_) = ⊥
DeclarationSame m (of_type name written) (of_class partial_ name_ types_ superclass_ mixins_ interfaces_ members_) = ⊥
DeclarationSame m (of_type name written) (of_mixin name_ types_ constraints_ interfaces_ members_) = ⊥
DeclarationSame m (of_type name written) (of_type name_ written_) = Unit {0}
DeclarationSame m (of_type name written) (of_function function_) = ⊥
DeclarationSame m (of_type name written) (of_variables variables_) = ⊥
DeclarationSame m (of_function function) (of_class partial_ name_ types_ superclass_ mixins_ interfaces_ members_) = ⊥
DeclarationSame m (of_function function) (of_mixin name_ types_ constraints_ interfaces_ members_) = ⊥
DeclarationSame m (of_function function) (of_type name_ written_) = ⊥
DeclarationSame m (of_function function) (of_function function_) = FunctionHides m function function_
DeclarationSame m (of_function function) (of_variables variables_) = ⊥
DeclarationSame m (of_variables variables) (of_class partial_ name_ types_ superclass_ mixins_ interfaces_ members_) = ⊥
DeclarationSame m (of_variables variables) (of_mixin name_ types_ constraints_ interfaces_ members_) = ⊥
DeclarationSame m (of_variables variables) (of_type name_ written_) = ⊥
DeclarationSame m (of_variables variables) (of_function function_) = ⊥
DeclarationSame m (of_variables variables) (of_variables variables_) = VariablesHide m variables variables_

declaration_hides : (m : Moves) (read other : List Token) (xs ys : List Tree) (s t : Declaration) → DeclarationSame m s t → ItemHides m (declaration_with read xs s) (declaration_with other ys t)
declaration_hides m read other xs ys (of_class partial name types superclass mixins interfaces members) (of_class partial_ name_ types_ superclass_ mixins_ interfaces_ members_) q = all_hide m (hidden_in_member false) members members_ (each_member m false members members_ q)
declaration_hides m read other xs ys (of_class partial name types superclass mixins interfaces members) (of_mixin name_ types_ constraints_ interfaces_ members_) q = absurd q
declaration_hides m read other xs ys (of_class partial name types superclass mixins interfaces members) (of_type name_ written_) q = absurd q
declaration_hides m read other xs ys (of_class partial name types superclass mixins interfaces members) (of_function function_) q = absurd q
declaration_hides m read other xs ys (of_class partial name types superclass mixins interfaces members) (of_variables variables_) q = absurd q
declaration_hides m read other xs ys (of_mixin name types constraints interfaces members) (of_class partial_ name_ types_ superclass_ mixins_ interfaces_ members_) q = absurd q
declaration_hides m read other xs ys (of_mixin name types constraints interfaces members) (of_mixin name_ types_ constraints_ interfaces_ members_) q = all_hide m (hidden_in_member true) members members_ (each_member m true members members_ q)
declaration_hides m read other xs ys (of_mixin name types constraints interfaces members) (of_type name_ written_) q = absurd q
declaration_hides m read other xs ys (of_mixin name types constraints interfaces members) (of_function function_) q = absurd q
declaration_hides m read other xs ys (of_mixin name types constraints interfaces members) (of_variables variables_) q = absurd q
declaration_hides m read other xs ys (of_type name written) (of_class partial_ name_ types_ superclass_ mixins_ interfaces_ members_) q = absurd q
declaration_hides m read other xs ys (of_type name written) (of_mixin name_ types_ constraints_ interfaces_ members_) q = absurd q
declaration_hides m read other xs ys (of_type name written) (of_type name_ written_) q = refl
declaration_hides m read other xs ys (of_type name written) (of_function function_) q = absurd q
declaration_hides m read other xs ys (of_type name written) (of_variables variables_) q = absurd q
declaration_hides m read other xs ys (of_function function) (of_class partial_ name_ types_ superclass_ mixins_ interfaces_ members_) q = absurd q
declaration_hides m read other xs ys (of_function function) (of_mixin name_ types_ constraints_ interfaces_ members_) q = absurd q
declaration_hides m read other xs ys (of_function function) (of_type name_ written_) q = absurd q
declaration_hides m read other xs ys (of_function function) (of_function function_) q = q false
declaration_hides m read other xs ys (of_function function) (of_variables variables_) q = absurd q
declaration_hides m read other xs ys (of_variables variables) (of_class partial_ name_ types_ superclass_ mixins_ interfaces_ members_) q = absurd q
declaration_hides m read other xs ys (of_variables variables) (of_mixin name_ types_ constraints_ interfaces_ members_) q = absurd q
declaration_hides m read other xs ys (of_variables variables) (of_type name_ written_) q = absurd q
declaration_hides m read other xs ys (of_variables variables) (of_function function_) q = absurd q
declaration_hides m read other xs ys (of_variables variables) (of_variables variables_) q = q false

types_follow : (r : Kin) (k : Kind) → sameb kinds.the_type kind.OpenBrace k ≡ false → is_plain_kind k ≡ false → (l : Lower) → Followed l → Follows r false true false (Pair (Twins r.moves) (Alls (Same r.moves))) (take_types_behind (is k) l)
types_follow r k b c l a = follows_seq (mark r k b c) (follows_separated (a.written r))

class_with_meets : (r : Kin) → is_free r.freedom ≡ false → (in_core : Bool) (class other : Option ℕ) → Renamed r.moves class other → (l k : Lower) → Followed l → Followed k → Meets r false true false (DeclarationSame r.moves) (take_class_with in_core class l k) (take_class_with in_core other l k)
unfolding take_class_with
class_with_meets r free in_core class other e l k a b =
    meets_turn (DeclarationSame r.moves) class_of
    (meets_seq (meets_of (follows_maybe (mark r kind.Abstract refl refl)))
    (meets_seq (meets_of (mark r kind.Class refl refl))
    (meets_seq (meets_of (type_named r))
    (meets_seq (meets_of (follows_maybe (type_parameters_follow r l a)))
    (meets_seq (meets_of (follows_maybe (follows_seq (mark r kind.Extends refl refl) (a.written r))))
    (meets_seq (meets_of (follows_maybe (types_follow r kind.With refl refl l a)))
    (meets_seq (meets_of (follows_maybe (types_follow r kind.Implements refl refl l a))) (members_meet r free in_core class other e k b))))))))
    (λ x y p. p.1.1.1.1.1.1.1.1)

-- the same where no body comes next behind a type
abbrev Written : (r : Kin) (l : Lower) → Type 0
Written r l = Follows r false true true (Same r.moves) l.written

types_clear : (r : Kin) (k : Kind) → sameb kinds.the_type kind.OpenBrace k ≡ false → is_plain_kind k ≡ false → (l : Lower) → Written r l → Follows r false true true (Pair (Twins r.moves) (Alls (Same r.moves))) (take_types_behind (is k) l)
types_clear r k b c l w = follows_seq (mark r k b c) (follows_separated_clear w)

class_plain_meets : (r : Kin) (in_core : Bool) (class other : Option ℕ) → Renamed r.moves class other → (l k : Lower) → Followed l → Written r l → Followed k → Meets r false true false (DeclarationSame r.moves) (take_class_with in_core class l k) (take_class_with in_core other l k)
unfolding take_class_with
class_plain_meets r in_core class other e l k a w b =
    meets_turn (DeclarationSame r.moves) class_of
    (meets_seq (meets_of (follows_maybe (mark r kind.Abstract refl refl)))
    (meets_seq (meets_of (mark r kind.Class refl refl))
    (meets_then (meets_of (type_named r))
    (meets_then (meets_of (follows_maybe (type_parameters_follow r l a)))
    (meets_then (meets_of (follows_maybe (follows_seq (mark r kind.Extends refl refl) w)))
    (meets_then (meets_of (follows_maybe (types_clear r kind.With refl refl l w))) (meets_then (meets_of (follows_maybe (types_clear r kind.Implements refl refl l w))) (members_behind r in_core class other e k b))))))))
    (λ x y p. p.1.1.1.1.1.1.1.1)

mixin_plain_meets : (r : Kin) (in_core : Bool) (l k : Lower) → Followed l → Written r l → Followed k → Meets r false true false (DeclarationSame r.moves) (take_mixin in_core l k) (take_mixin in_core l k)
unfolding take_mixin
mixin_plain_meets r in_core l k a w b =
    meets_turn (DeclarationSame r.moves) mixin_of
    (meets_seq (meets_of (mark r kind.Mixin refl refl))
    (meets_then (meets_of (type_named r))
    (meets_then (meets_of (follows_maybe (type_parameters_follow r l a)))
    (meets_then (meets_of (follows_maybe (types_clear r kind.On refl refl l w))) (meets_then (meets_of (follows_maybe (types_clear r kind.Implements refl refl l w))) (members_behind r in_core None None refl k b))))))
    (λ x y p. p.1.1.1.1.1.1)

-- the name of the class that comes next
first_word : (r : Kin) (q : Bool) (xs ys : List Token) → Like r q xs ys → Renamed r.moves (word_at 0 xs) (word_at 0 ys)
first_word r q [] [] l = refl
first_word r q [] (y ∷ ys) l = one_empty r q y ys l
first_word r q (x ∷ xs) [] l = other_empty r q x xs l
first_word r q (x ∷ xs) (y ∷ ys) l = ap (λ (w : ℕ). Some w) (first_twins r q x y xs ys l).word

second_word : (r : Kin) (xs ys : List Token) → heads kind.Class xs ≡ true → Like r false xs ys → Renamed r.moves (word_at 1 xs) (word_at 1 ys)
second_word r [] [] h l = refl
second_word r [] (y ∷ ys) h l = one_empty r false y ys l
second_word r (x ∷ xs) [] h l = other_empty r false x xs l
second_word r (x ∷ xs) (y ∷ ys) h l = first_word r false xs ys (behind_mark r false (is kind.Class) (kind_marks r.moves kind.Class refl refl) x y xs ys h l)

or_first : (a b c : Bool) → b ≡ false → (a || (b && c)) ≡ true → a ≡ true
or_first true b c e h = refl
or_first false true c e h = absurd (cc)
or_first false false c e h = absurd (cc)

or_last : (a b c : Bool) → a ≡ false → (a || (b && c)) ≡ true → c ≡ true
or_last true b c e h = absurd (cc)
or_last false true c e h = h
or_last false false c e h = absurd (cc)

class_renamed : (r : Kin) (p : Bool) (ts us : List Token) → heads_class ts ≡ true → Like r p ts us → Renamed r.moves (class_word ts) (class_word us)
class_renamed r p [] [] h a = absurd (cc)
class_renamed r p [] (u ∷ us) h a = one_empty r p u us a
class_renamed r p (t ∷ ts) [] h a = other_empty r p t ts a
class_renamed r p (t ∷ ts) (u ∷ us) h a = by (is kind.Abstract t) refl
  where
    by : (b : Bool) → is kind.Abstract t ≡ b → Renamed r.moves (class_word (t ∷ ts)) (class_word (u ∷ us))
    by true e =
        let w = first_twins r p t u ts us a in
        let other : is kind.Abstract u ≡ true = sym (kind_blind r.moves kind.Abstract t u w) ∙ e in
        let unnamed : is kind.Class t ≡ false = ap (λ (k : Kind). sameb kinds.the_type k kind.Class) (is_kind kind.Abstract t e) in
        let headed : heads kind.Class ts ≡ true = or_last (is kind.Class t) (is kind.Abstract t) (heads kind.Class ts) unnamed h in
        let rest = behind_mark r p (is kind.Abstract) (kind_marks r.moves kind.Abstract refl refl) t u ts us e a in
        let one : class_word (t ∷ ts) ≡ word_at 1 ts = rw e refl in
        let two : class_word (u ∷ us) ≡ word_at 1 us = rw other refl in
        two ∙ second_word r ts us headed rest ∙ ap (λ (o : Option ℕ). option_map (λ w. r.moves.words w) o) (sym one)
    by false e =
        let w = first_twins r p t u ts us a in
        let other : is kind.Abstract u ≡ false = sym (kind_blind r.moves kind.Abstract t u w) ∙ e in
        let named : is kind.Class t ≡ true = or_first (is kind.Class t) (is kind.Abstract t) (heads kind.Class ts) e h in
        let rest = behind_mark r p (is kind.Class) (kind_marks r.moves kind.Class refl refl) t u ts us named a in
        let one : class_word (t ∷ ts) ≡ word_at 0 ts = rw e refl in
        let two : class_word (u ∷ us) ≡ word_at 0 us = rw other refl in
        two ∙ first_word r false ts us rest ∙ ap (λ (o : Option ℕ). option_map (λ w. r.moves.words w) o) (sym one)

-- how classes and mixins are found
pub record Heads (r : Kin) (in_core : Bool) (l k : Lower) : Type 0 where
  pub classes : (class other : Option ℕ) → Renamed r.moves class other → Meets r false true false (DeclarationSame r.moves) (take_class_with in_core class l k) (take_class_with in_core other l k)
  pub mixins : Meets r false true false (DeclarationSame r.moves) (take_mixin in_core l k) (take_mixin in_core l k)

class_meets_there : (r : Kin) (in_core : Bool) (l k : Lower) → Heads r in_core l k → (p : Bool) (ts us : List Token) → heads_class ts ≡ true → Like r p ts us →
    Both (Found r true false p (DeclarationSame r.moves) ts us) (take_class in_core l k ts) (take_class in_core l k us)
unfolding take_class
class_meets_there r in_core l k found p ts us h s = (found.classes (class_word ts) (class_word us) (class_renamed r p ts us h s)).each p refl ts us s

mixin_follows : (r : Kin) → is_free r.freedom ≡ false → (in_core : Bool) (l k : Lower) → Followed l → Followed k → Meets r false true false (DeclarationSame r.moves) (take_mixin in_core l k) (take_mixin in_core l k)
unfolding take_mixin
mixin_follows r free in_core l k a b =
    meets_turn (DeclarationSame r.moves) mixin_of
    (meets_seq (meets_of (mark r kind.Mixin refl refl))
    (meets_seq (meets_of (type_named r))
    (meets_seq (meets_of (follows_maybe (type_parameters_follow r l a)))
    (meets_seq (meets_of (follows_maybe (types_follow r kind.On refl refl l a)))
    (meets_seq (meets_of (follows_maybe (types_follow r kind.Implements refl refl l a))) (members_meet r free in_core None None refl k b))))))
    (λ x y p. p.1.1.1.1.1.1)

follows_of : {A : Type 0} {r : Kin} {n s c : Bool} {R : A → A → Type 0} {g : Descent Token A} → Meets r n s c R g g → Follows r n s c R g
follows_of a = record { each = a.each }

alias_follows : (r : Kin) (l : Lower) → Followed l → Follows r false true true (DeclarationSame r.moves) (take_alias l)
unfolding take_alias
alias_follows r l a =
    follows_turn (DeclarationSame r.moves) alias_of
    (follows_seq (mark r kind.Typedef refl refl) (follows_seq (type_named r) (follows_seq (mark r kind.Equals refl refl) (follows_seq (a.written r) (mark r kind.Semicolon refl refl))))) (λ x y p. tt)

plain_declaration_follows : (r : Kin) (in_core : Bool) (l : Lower) → Followed l → Follows r false true false (DeclarationSame r.moves) (take_plain_declaration in_core l)
unfolding take_plain_declaration
plain_declaration_follows r in_core l a =
    follows_or (follows_turn (DeclarationSame r.moves) declared_function_of (function_follows r _ (body_follows r in_core false l a) l a) (λ x y p. p))
    (follows_turn (DeclarationSame r.moves) declared_variables_of (follows_seq (variables_follow r l a) (mark r kind.Semicolon refl refl)) (λ x y p. p.0))

declared_follow : (r : Kin) (in_core : Bool) (l k : Lower) → Heads r in_core l k → Followed l → Followed k →
    Follows r false true false (DeclarationSame r.moves) (take_where heads_class (take_class in_core l k) (take_where (heads_word (is kind.Mixin)) (take_mixin in_core l k) (take_where (heads_word (is kind.Typedef)) (take_alias l) (take_plain_declaration in_core l))))
declared_follow r in_core l k found a b =
    let other : Descent Token Declaration = take_where (heads_word (is kind.Mixin)) (take_mixin in_core l k) (take_where (heads_word (is kind.Typedef)) (take_alias l) (take_plain_declaration in_core l)) in
    let rest = follows_where (heads_word (is kind.Mixin)) (blind_mixin r) (follows_of found.mixins) (follows_where (heads_word (is kind.Typedef)) (blind_typedef r) (alias_follows r l a) (plain_declaration_follows r in_core l a)) in
    record {
      each = λ p q ts us s. if_known (Found r true false p (DeclarationSame r.moves) ts us) (heads_class ts) (heads_class us) (take_class in_core l k ts) (other ts) (take_class in_core l k us) (other us) (blind_heads_class r p ts us s)
          (λ h. class_meets_there r in_core l k found p ts us h s) (rest.each p refl ts us s);
    }

declaration_follows : (r : Kin) (in_core : Bool) (l k : Lower) → Heads r in_core l k → Followed l → Followed k → Follows r false true false (ItemHides r.moves) (take_declaration in_core l k)
unfolding take_declaration
declaration_follows r in_core l k found a b =
    follows_make (ItemHides r.moves) declaration_of (follows_seq (follows_many (annotation_follows r)) (declared_follow r in_core l k found a b)) (λ read other x y q p. declaration_hides r.moves read other x.0 y.0 x.1 y.1 p.1)

-- Directives.

library_names_follow : (r : Kin) → Follows r false true false Any take_library_names
unfolding take_library_names
library_names_follow r = follows_turn Any (λ x. listed x.0 ∷ map (λ n. listed n.1) x.1) (follows_seq (named r) (follows_many (follows_seq (mark r kind.Period refl refl) (named r)))) (λ x y p. tt)

combinator_follows : (r : Kin) → Follows r false true false Any take_combinator
unfolding take_combinator
combinator_follows r =
    follows_where (heads kind.Show) (blind_heads r kind.Show) (follows_make Any show_of (follows_seq (mark r kind.Show refl refl) (follows_separated (named r))) (λ read other x y q p. tt))
    (follows_make Any hide_of (follows_seq (mark r kind.Hide refl refl) (follows_separated (named r))) (λ read other x y q p. tt))

library_follows : (r : Kin) → Follows r false true true (ItemHides r.moves) take_library
unfolding take_library
library_follows r = follows_make (ItemHides r.moves) library_of (follows_seq (mark r kind.Library refl refl) (follows_seq (library_names_follow r) (mark r kind.Semicolon refl refl))) (λ read other x y q p. refl)

import_follows : (r : Kin) (l : Lower) → Followed l → Follows r false true true (ItemHides r.moves) (take_import l)
unfolding take_import
import_follows r l a =
    follows_make (ItemHides r.moves) import_of
    (follows_seq (mark r kind.Import refl refl)
    (follows_seq (string_follows r l a)
    (follows_seq (follows_maybe (follows_seq (mark r kind.As refl refl) (named r))) (follows_seq (follows_many (combinator_follows r)) (mark r kind.Semicolon refl refl))))) (λ read other x y q p. refl)

export_follows : (r : Kin) (l : Lower) → Followed l → Follows r false true true (ItemHides r.moves) (take_export l)
unfolding take_export
export_follows r l a =
    follows_make (ItemHides r.moves) export_of (follows_seq (mark r kind.Export refl refl) (follows_seq (string_follows r l a) (follows_seq (follows_many (combinator_follows r)) (mark r kind.Semicolon refl refl)))) (λ read other x y q p. refl)

part_follows : (r : Kin) (l : Lower) → Followed l → Follows r false true true (ItemHides r.moves) (take_part l ⊘ take_part_of l)
unfolding take_part take_part_of
part_follows r l a =
    follows_or (follows_make (ItemHides r.moves) part_directive_of (follows_seq (mark r kind.Part refl refl) (follows_seq (string_follows r l a) (mark r kind.Semicolon refl refl))) (λ read other x y q p. refl))
    (follows_or
    (follows_make (ItemHides r.moves) part_of_uri_of (follows_seq (mark r kind.Part refl refl) (follows_seq (mark r kind.Of refl refl) (follows_seq (string_follows r l a) (mark r kind.Semicolon refl refl)))) (λ read other x y q p. refl))
    (follows_make (ItemHides r.moves) part_of_library_of (follows_seq (mark r kind.Part refl refl) (follows_seq (mark r kind.Of refl refl) (follows_seq (library_names_follow r) (mark r kind.Semicolon refl refl)))) (λ read other x y q p. refl)))

directive_follows : (r : Kin) (l : Lower) → Followed l → Follows r false true true (ItemHides r.moves) (take_directive l)
unfolding take_directive
directive_follows r l a =
    follows_where (heads kind.Library) (blind_heads r kind.Library) (library_follows r)
    (follows_where (heads kind.Import) (blind_heads r kind.Import) (import_follows r l a) (follows_where (heads kind.Export) (blind_heads r kind.Export) (export_follows r l a) (part_follows r l a)))

pub item_follows : (r : Kin) (in_core : Bool) (l k : Lower) → Heads r in_core l k → Followed l → Followed k → Meets r false true false (ItemHides r.moves) (take_item in_core l k) (take_item in_core l k)
unfolding take_item
item_follows r in_core l k found a b = meets_of (follows_or (directive_follows r l a) (declaration_follows r in_core l k found a b))

-- where no body may differ, and where no function type stands
pub bound_heads : (r : Kin) → is_free r.freedom ≡ false → (in_core : Bool) (l k : Lower) → Followed l → Followed k → Heads r in_core l k
bound_heads r free in_core l k a b = record { classes = λ class other e. class_with_meets r free in_core class other e l k a b; mixins = mixin_follows r free in_core l k a b }

pub plain_heads : (r : Kin) (in_core : Bool) (l k : Lower) → Followed l → Written r l → Followed k → Heads r in_core l k
plain_heads r in_core l k a w b = record { classes = λ class other e. class_plain_meets r in_core class other e l k a w b; mixins = mixin_plain_meets r in_core l k a w b }
