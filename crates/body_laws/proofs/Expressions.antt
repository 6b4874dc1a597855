-- What is read of types and expressions in texts that are alike but for their bodies stands alike.
use Rattle.std.proofs.Common.{◌≡◌, sym, ◌∙◌, zero, suc, if◌then◌else◌, ℕ, ◌++◌, Bool, true, false, List, [], ◌∷◌, Option, Some, None, map, refl, ap, arith, inl, inr, subst}
use denote.Enum.Bare.{sameb}
use Rattle.dart_tokens.specs.declared.token.Kind.{Kind}
use Rattle.dart_tokens.specs.contracts.token.Kind as kinds
use Rattle.dart_tokens.specs.declared.token.Kind.TheVariants as kind
use Rattle.dart_tree.specs.Tree.{Tree}
use Rattle.dart_tree.specs.Heights.{fits}
use Rattle.dart_tree.specs.declared.places.Span.{Span}
use Rattle.dart_tree.specs.declared.names.ParameterKind.{ParameterKind}
use Rattle.dart_tree.specs.declared.names.ParameterKind.TheVariants as parameter_kind
use Rattle.dart_tree.specs.declared.operators.AssignmentOperator.{AssignmentOperator}
use Rattle.dart_tree.specs.declared.operators.UnaryOperatorKind.TheVariants as unary
use Rattle.dart_tree.specs.declared.operators.PostfixOperatorKind.TheVariants as postfix
use Rattle.grammar.specs.contracts.level.Level as levels_of
use Rattle.dart_tokens.specs.declared.grouped_token.GroupedToken.{GroupedToken as Token}
use Rattle.grammar.specs.declared.level.Level.{Level}
use Rattle.grammar.specs.declared.level.Level.TheVariants as level
use Rattle.grammar.specs.declared.level.Sign.{Sign}
use Rattle.grammar.specs.declared.level.Sign.TheVariants as sign
use Rattle.grammar.specs.declared.level.Setting.{Setting}
use Rattle.grammar.specs.declared.level.Setting.TheVariants as setting
use Rattle.grammar.specs.Tokens.{is, is_either, is_name, is_type_name, heads, heads_name}
use Rattle.grammar.specs.Types.{separated, inner, listed_or_none, type_arguments_of, type_parameter_of, type_parameters_of, void_of, heads_qualified, qualified_of, unqualified_of, named_type_of, annotation_of, heads_required, heads_field, parameter_of, parameter_list_of, parameter_type_of, Tail, tail, tail_of, function_type_with, first_tail_of, next_tail_of, every_time}
use Rattle.grammar.specs.Operators.{table, heads_sign, is_binary, level_of, binary_of, assignment_of, take_assignment, unary_at, postfix_at}
use Rattle.grammar.specs.Expressions.{simple_string_of, string_text_of, simple_interpolation_of, interpolated_of, strings_of, heads_label, positional_of, named_of, arguments_of, integer_of, boolean_of, null_of, this_of, super_of, identifier_of, heads_generic, generic_of, parenthesis_of, arrow_of, closure_of, heads_closure, new_of, entry_of, Contents as Literal, listed, entries, listed_of, entries_of, collection_with, collection_of, Selector, member, element, check, called, member_of, element_of, check_of, plain_call_of, generic_call_of, heads_call, select_with, one_time, postfix_of, unary_of, Side, operated, tested, cast, choices, operated_of, tested_of, cast_of, choices_of, is_incremented, times_behind, side_with, assign_of, throw_of, cascaded_name_of, cascaded_index_of, cascade_of, section_of, is_open}
use Rattle.grammar.specs.Descents.{Lower, begins_string, begins_prefix, take_separated, take_type_arguments, take_type_parameter, take_type_parameters, take_type_name, take_question, take_plain_type, take_annotation, take_parameter, take_parameters, take_optional_parameters, take_parameter_list, take_parameter_type, take_tail, take_tail_before, take_type, take_prefix, take_postfix, take_interpolation, take_string_part, take_string, take_strings, take_argument, take_arguments, take_simple, take_name, take_parenthesis, take_closure, take_new, take_entry, take_collection, take_primary, take_selector, take_selected, take_incremented, take_unary, take_operated, take_right, take_operand, take_assignment_expression, take_throw, take_section_head, take_section, take_cascade_section, take_cascade, take_expression}
use Rattle.readings.specs.Readings.{Reading, Test, next, tokens_read}
use Rattle.readings.specs.Descent.{Descent, bind, or_else, take_make, take_onto, ◌⊘◌, take_token, take_given, take_turn, take_where}
use Rattle.body_laws.specs.Bodies.{Moves, Twins, is_plain}
use Rattle.body_laws.proofs.Follow.{Kin, Like, no_function, one_empty, other_empty, first_twins, kind_blind, Found, state, bound, inner as within, braces, Stand, Both, Pair, Alls, Follows, Blind, Tries, if_found, follows_token, follows_given, follows_none, follows_seq, follows_then, follows_make, follows_turn, follows_or, follows_where, follows_calm, follows_related, follows_maybe, follows_many, follows_many_clear, follows_chain, follows_once, follows_levels, contents, follows_inside, follows_braces, follows_before}
use Rattle.body_laws.proofs.Lists.{follows_elements}
use Rattle.body_laws.proofs.Tests.{is_plain_kind, kind_marks, name_marks, type_name_marks, either_marks, blind_next, blind_heads, blind_heads_name, blind_qualified, blind_required, blind_field, blind_label, blind_sign, follows_sign, blind_generic, blind_closure, blind_call}
use Rattle.body_laws.proofs.Same.{Same, BodySame, over, all_same, part_same, behind_same, listed_related, append_related}

-- what lies in the room below is found alike, wherever bodies may differ; an expression begins with no body
pub record Followed (l : Lower) : Type 0 where
  pub written : (r : Kin) → Follows r false true false (Same r.moves) l.written
  pub tested : (r : Kin) (m : Setting) → Follows r false true false (Same r.moves) (l.tested m)
  pub constructed : (r : Kin) → Follows r false true false (Same r.moves) l.constructed
  pub named : (r : Kin) → Follows r false true false (Same r.moves) l.named
  pub expression : (r : Kin) (m : Setting) → Follows r true true false (Same r.moves) (l.expression m)
  pub operand : (r : Kin) (m : Setting) (above : List Level) → Follows r true true false (Same r.moves) (l.operand m above)
  pub unary : (r : Kin) (m : Setting) → Follows r true true false (Same r.moves) (l.unary m)
  pub section : (r : Kin) (m : Setting) → Follows r false true false (Same r.moves) (l.section m)
  pub simple : (r : Kin) → Follows r false true true (Same r.moves) l.simple
  pub block : (r : Kin) → Follows r false true false (BodySame r.moves) l.block

-- Marks and names.

abbrev pub Any : {A : Type 0} → A → A → Type 0
Any x y = Unit {0}

pub mark : (r : Kin) (k : Kind) → sameb kinds.the_type kind.OpenBrace k ≡ false → is_plain_kind k ≡ false → Follows r false true true (Twins r.moves) (take_token (is k))
mark r k b c = follows_token r (is k) (kind_marks r.moves k b c)

pub named : (r : Kin) → Follows r false true true (Twins r.moves) (take_token is_name)
named r = follows_token r is_name (name_marks r.moves)

pub type_named : (r : Kin) → Follows r false true true (Twins r.moves) (take_token is_type_name)
type_named r = follows_token r is_type_name (type_name_marks r.moves)

pub seconds : {A B : Type 0} (S : A → A → Type 0) (R : B → B → Type 0) (xs ys : List (A × B)) → Alls (Pair S R) xs ys → Alls R (map (λ x. x.1) xs) (map (λ x. x.1) ys)
seconds S R [] [] p = tt
seconds S R [] (y ∷ ys) p = absurd p
seconds S R (x ∷ xs) [] p = absurd p
seconds S R (x ∷ xs) (y ∷ ys) p = (p.0.1, seconds S R xs ys p.1)

pub follows_separated : {A : Type 0} {r : Kin} {c : Bool} {R : A → A → Type 0} {g : Descent Token A} → Follows r false true c R g → Follows r false true false (Alls R) (take_separated g)
follows_separated {r = r} {R = R} a = follows_turn (Alls R) separated (follows_seq a (follows_many (follows_seq (mark r kind.Comma refl refl) a))) (λ x y p. (p.0, seconds (Twins r.moves) R x.1 y.1 p.1))

-- where no body comes next behind one
pub follows_separated_clear : {A : Type 0} {r : Kin} {R : A → A → Type 0} {g : Descent Token A} → Follows r false true true R g → Follows r false true true (Alls R) (take_separated g)
follows_separated_clear {r = r} {R = R} a = follows_turn (Alls R) separated (follows_seq a (follows_many_clear (follows_seq (mark r kind.Comma refl refl) a))) (λ x y p. (p.0, seconds (Twins r.moves) R x.1 y.1 p.1))

-- a token that may be there
pub follows_mark : (r : Kin) (t : Test Token) (k : Kind) → sameb kinds.the_type kind.OpenBrace k ≡ false → is_plain_kind k ≡ false → Blind r t →
    Follows r false false true (Both (Twins r.moves)) (take_where t (take_turn (λ t. Some t) (take_token (is k))) (take_given None))
follows_mark r t k b c d = follows_where t d (follows_turn (Both (Twins r.moves)) (λ t. Some t) (mark r k b c) (λ x y p. p)) (follows_given r (Both (Twins r.moves)) None tt)

fits_same : (m : Moves) (n : ℕ) (x y : Tree) → Same m x y → fits n x ≡ fits n y
fits_same m n x y p = rw p.high refl

open_same : (m : Moves) (n : ℕ) (x y : Tree) → Same m x y → is_open n x ≡ is_open n y
open_same m n x y p = rw (p.high, ap (λ (z : Bool × Bool). z.0) p.last) refl

ends_same : (m : Moves) (x y : Tree) → Same m x y → is_incremented x ≡ is_incremented y
ends_same m x y p = ap (λ (z : Bool × Bool). z.1) p.last

every_tries : (r : Kin) (p : Bool) (x y : Tree) (ts us : List Token) → Same r.moves x y → Like r p ts us → Tries (every_time x ts) (every_time y us) ts us
every_tries r p x y ts us s k = inr (omega arith, omega arith)

one_try : (r : Kin) (p : Bool) (x y : Tree) (ts us : List Token) → Same r.moves x y → Like r p ts us → Tries (one_time x ts) (one_time y us) ts us
one_try r p x y ts us s k = inl refl

-- Types.

pub type_arguments_follow : (r : Kin) (l : Lower) → Followed l → Follows r false true true (Same r.moves) (take_type_arguments l)
unfolding take_type_arguments
type_arguments_follow r l a =
    follows_make (Same r.moves) type_arguments_of (follows_seq (mark r kind.Less refl refl) (follows_seq (follows_separated (a.written r)) (mark r kind.Greater refl refl)))
    (λ read other x y q p. record { stands = over r.moves read other q; high = all_same r.moves x.1.0 y.1.0 p.1.0; last = refl })

type_parameter_follows : (r : Kin) (l : Lower) → Followed l → Follows r false true false (Same r.moves) (take_type_parameter l)
unfolding take_type_parameter
type_parameter_follows r l a =
    follows_make (Same r.moves) type_parameter_of (follows_seq (type_named r) (follows_maybe (follows_seq (mark r kind.Extends refl refl) (a.written r))))
    (λ read other x y q p. record { stands = over r.moves read other q; high = behind_same r.moves x.1 y.1 p.1; last = refl })

pub type_parameters_follow : (r : Kin) (l : Lower) → Followed l → Follows r false true true (Alls (Same r.moves)) (take_type_parameters l)
unfolding take_type_parameters
type_parameters_follow r l a =
    follows_turn (Alls (Same r.moves)) type_parameters_of (follows_seq (mark r kind.Less refl refl) (follows_seq (follows_separated (type_parameter_follows r l a)) (mark r kind.Greater refl refl))) (λ x y p. p.1.0)

type_name_follows : (r : Kin) → Follows r false true true Any take_type_name
unfolding take_type_name
type_name_follows r =
    follows_where heads_qualified (blind_qualified r) (follows_turn Any qualified_of (follows_seq (named r) (follows_seq (mark r kind.Period refl refl) (type_named r))) (λ x y p. tt))
    (follows_turn Any unqualified_of (type_named r) (λ x y p. tt))

question_follows : (r : Kin) (question : Test Token) → Blind r question → Follows r false false true (Both (Twins r.moves)) (take_question question)
unfolding take_question
question_follows r question b = follows_mark r question kind.Question refl refl b

pub plain_type_follows : (r : Kin) (l : Lower) → Followed l → (question : Test Token) → Blind r question → Follows r false true true (Same r.moves) (take_plain_type l question)
unfolding take_plain_type
plain_type_follows r l a question b =
    follows_where (heads kind.Void) (blind_heads r kind.Void) (follows_turn (Same r.moves) void_of (mark r kind.Void refl refl) (λ x y p. record { stands = (p.start, p.end); high = refl; last = refl }))
    (follows_make (Same r.moves) named_type_of (follows_seq (type_name_follows r) (follows_seq (follows_maybe (type_arguments_follow r l a)) (question_follows r question b)))
    (λ read other x y q p. record { stands = over r.moves read other q; high = rw (part_same r.moves x.1.0 y.1.0 p.1.0) refl; last = refl }))

pub annotation_follows : (r : Kin) → Follows r false true true Any take_annotation
unfolding take_annotation
annotation_follows r = follows_make Any annotation_of (follows_seq (mark r kind.At refl refl) (named r)) (λ read other x y q p. tt)

parameter_follows : (r : Kin) (l : Lower) → Followed l → (which : ParameterKind) → Follows r false true false (Same r.moves) (take_parameter l which)
unfolding take_parameter
parameter_follows r l a which =
    follows_make (Same r.moves) (parameter_of which)
    (follows_seq (follows_many (annotation_follows r))
    (follows_seq (follows_mark r heads_required kind.Required refl refl (blind_required r))
    (follows_seq (follows_maybe (follows_token r (is_either kind.Final kind.Var) (either_marks r.moves kind.Final kind.Var refl refl refl refl)))
    (follows_seq (follows_maybe (follows_before heads_field (blind_field r) (a.named r)))
    (follows_seq (follows_maybe (follows_seq (mark r kind.This refl refl) (mark r kind.Period refl refl)))
    (follows_seq (named r) (follows_maybe (follows_then (mark r kind.Equals refl refl) (a.expression r setting.Default)))))))))
    (λ read other x y q p.
    let written = part_same r.moves x.1.1.1.0 y.1.1.1.0 p.1.1.1.0 in
    let value = behind_same r.moves x.1.1.1.1.1.1 y.1.1.1.1.1.1 p.1.1.1.1.1.1 in record { stands = over r.moves read other q; high = rw (written, value) refl; last = refl })

parameters_follow : (r : Kin) (l : Lower) → Followed l → (which : ParameterKind) → Follows r false false false (Alls (Same r.moves)) (take_parameters l which)
parameters_follow r l a which = follows_elements (parameter_follows r l a which) (mark r kind.Comma refl refl)

optional_parameters_follow : (r : Kin) (l : Lower) → Followed l → Follows (within r) false true false (Alls (Same r.moves)) (take_optional_parameters l)
unfolding take_optional_parameters
optional_parameters_follow r l a =
    follows_calm refl
    (follows_where (heads kind.OpenBracket) (blind_heads (within r) kind.OpenBracket)
    (follows_turn (Alls (Same r.moves)) inner (follows_inside kind.OpenBracket refl (contents (parameters_follow (within (within r)) l a parameter_kind.OptionalPositional))) (λ x y p. p.1))
    (follows_turn (Alls (Same r.moves)) inner (follows_braces (contents (parameters_follow (braces (within r)) l a parameter_kind.Named))) (λ x y p. p.1)))

pub parameter_list_follows : (r : Kin) (l : Lower) → Followed l → Follows r false true false (Same r.moves) (take_parameter_list l)
unfolding take_parameter_list
parameter_list_follows r l a =
    follows_make (Same r.moves) parameter_list_of (follows_inside kind.OpenParenthesis refl (contents (follows_seq (parameters_follow (within r) l a parameter_kind.Positional) (follows_maybe (optional_parameters_follow r l a)))))
    (λ read other x y q p.
    let all = all_same r.moves (x.1.0 ++ listed_or_none x.1.1) (y.1.0 ++ listed_or_none y.1.1) (append_related (Same r.moves) x.1.0 y.1.0 (listed_or_none x.1.1) (listed_or_none y.1.1) p.1.0 (listed_related (Same r.moves) x.1.1 y.1.1 p.1.1)) in
    record { stands = over r.moves read other q; high = all; last = refl })

parameter_type_follows : (r : Kin) (l : Lower) → Followed l → Follows r false true false (Same r.moves) (take_parameter_type l)
unfolding take_parameter_type
parameter_type_follows r l a =
    follows_make (Same r.moves) parameter_type_of (follows_seq (a.written r) (follows_maybe (named r))) (λ read other x y q p. record { stands = over r.moves read other q; high = p.0.high; last = refl })

abbrev pub TailSame : Moves → Tail → Tail → Type 0
TailSame m (tail a b c d) (tail e f g h) = Alls (Same m) a e × (Alls (Same m) b f × Alls (Same m) c g)

tail_follows : (r : Kin) (l : Lower) → Followed l → (question ends : Test Token) → Blind r question → Blind r ends → Follows r false true false (TailSame r.moves) (take_tail_before l question ends)
unfolding take_tail_before take_tail
tail_follows r l a question ends b e =
    follows_before ends e
    (follows_turn (TailSame r.moves) tail_of
    (follows_seq (mark r kind.Function refl refl)
    (follows_seq (follows_maybe (type_parameters_follow r l a))
    (follows_seq (follows_inside kind.OpenParenthesis refl (contents (follows_seq (follows_elements (parameter_type_follows (within r) l a) (mark (within r) kind.Comma refl refl)) (follows_maybe (optional_parameters_follow r l a))))) (question_follows r question b))))
    (λ x y p. (listed_related (Same r.moves) x.1.0 y.1.0 p.1.0, (p.1.1.0.1.0, listed_related (Same r.moves) x.1.1.0.1.1 y.1.1.0.1.1 p.1.1.0.1.1))))

function_type_same : (m : Moves) (read other : List Token) (o p : Option Tree) → Stand m true read other → Both (Same m) o p → (t u : Tail) → TailSame m t u → Same m (function_type_with read o t) (function_type_with other p u)
function_type_same m read other o p s b (tail c d e f) (tail g h i j) q =
    record { stands = over m read other s; high = rw (part_same m o p b, all_same m c g q.0, all_same m d h q.1.0, all_same m e i q.1.1) refl; last = refl }

pub type_follows : (r : Kin) (n : ℕ) (l : Lower) → Followed l → (question ends : Test Token) → Blind r question → Blind r ends → Follows r false true false (Same r.moves) (take_type n l question ends)
unfolding take_type
type_follows r n l a question ends b e =
    follows_chain every_time (fits n) next_tail_of (every_tries r)
    (follows_or (follows_make (Same r.moves) first_tail_of (tail_follows r l a question ends b e) (λ read other x y q p. function_type_same r.moves read other None None q tt x y p)) (plain_type_follows r l a question b)) (tail_follows r l a question ends b e)
    (fits_same r.moves n) (λ read seen x y z w s p q. function_type_same r.moves read seen (Some x) (Some y) s p z w q)

-- Where no function type stands, no type ends with parentheses.

no_tail : (r : Kin) → is_plain r.freedom ≡ true → (l : Lower) (question ends : Test Token) (p : Bool) (ts us : List Token) → Like r p ts us → (take_tail_before l question ends ts ≡ None) × (take_tail_before l question ends us ≡ None)
unfolding take_tail_before take_tail
no_tail r e l question ends p [] [] a = (refl, refl)
no_tail r e l question ends p [] (u ∷ us) a = one_empty r p u us a
no_tail r e l question ends p (t ∷ ts) [] a = other_empty r p t ts a
no_tail r e l question ends p (t ∷ ts) (u ∷ us) a =
    let one : is kind.Function t ≡ false = no_function r p t u ts us a e in
    let two : is kind.Function u ≡ false = sym (kind_blind r.moves kind.Function t u (first_twins r p t u ts us a)) ∙ one in (rw one refl, rw two refl)

no_tail_follows : (r : Kin) → is_plain r.freedom ≡ true → (l : Lower) (question ends : Test Token) → Follows r false true true (TailSame r.moves) (take_tail_before l question ends)
no_tail_follows r e l question ends = record { each = λ p q ts us k. let none = no_tail r e l question ends p ts us k in rw (none.0, none.1) tt }

onto_stops : {A B : Type 0} (start : List Token) (n : ℕ) (room : A → Bool) (join : List Token → A → B → A) (h : Descent Token B) (x : A) (rest : List Token) → h rest ≡ None → take_onto start n room join h x rest ≡ Some (x, rest)
onto_stops start zero room join h x rest e = refl
onto_stops start (suc n) room join h x rest e = by (room x)
  where
    by : (b : Bool) → (if b then or_else (bind (h rest) (λ y. take_onto start n room join h (join (tokens_read start y.1) x y.0) y.1)) (Some (x, rest)) else Some (x, rest)) ≡ Some (x, rest)
    by true = rw e refl
    by false = refl

pub plain_types_follow : (r : Kin) → is_plain r.freedom ≡ true → (n : ℕ) (l : Lower) → Followed l → (question ends : Test Token) → Blind r question → Blind r ends → Follows r false true true (Same r.moves) (take_type n l question ends)
unfolding take_type
plain_types_follow r e n l a question ends b d =
    let g : Descent Token Tree = take_make first_tail_of (take_tail_before l question ends) ⊘ take_plain_type l question in
    let first = follows_or (follows_make (Same r.moves) first_tail_of (no_tail_follows r e l question ends) (λ read other x y q p. function_type_same r.moves read other None None q tt x y p)) (plain_type_follows r l a question b) in
    record {
      each = λ p q ts us k.
          bound (Found r true true p (Same r.moves) ts us) (Found r true true p (Same r.moves) ts us) (λ x. take_onto ts (every_time x.0 x.1) (fits n) next_tail_of (take_tail_before l question ends) x.0 x.1)
          (λ x. take_onto us (every_time x.0 x.1) (fits n) next_tail_of (take_tail_before l question ends) x.0 x.1) (g ts) (g us) (first.each p q ts us k)
          (λ x y f.
          let none = no_tail r e l question ends (state true p f.1.read) x.1 y.1 f.1.like in
          subst (λ (o : Option (Reading Token Tree)). Both (Found r true true p (Same r.moves) ts us) o (take_onto us (every_time y.0 y.1) (fits n) next_tail_of (take_tail_before l question ends) y.0 y.1))
          (sym (onto_stops ts (every_time x.0 x.1) (fits n) next_tail_of (take_tail_before l question ends) x.0 x.1 none.0))
          (subst (λ (o : Option (Reading Token Tree)). Both (Found r true true p (Same r.moves) ts us) (Some (x.0, x.1)) o)
          (sym (onto_stops us (every_time y.0 y.1) (fits n) next_tail_of (take_tail_before l question ends) y.0 y.1 none.1)) f));
    }

-- Operators.

binary_found : (l : Level) (span other : Span) (s : Sign) → Both Any (binary_of l span s) (binary_of l other s)
binary_found l span other (sign.Binary operator) =
    let b = sameb levels_of.the_type (level_of operator) l in if_found Any b b (Some (record { kind = operator; span = span })) None (Some (record { kind = operator; span = other })) None refl tt tt
binary_found l span other (sign.Assign compound) = tt

assignment_found : (span other : Span) (s : Sign) → Both Any (assignment_of span s) (assignment_of other s)
assignment_found span other (sign.Binary operator) = tt
assignment_found span other (sign.Assign compound) = tt

assignment_follows : (r : Kin) → Follows r false true true Any take_assignment
assignment_follows r = follows_sign r Any assignment_of assignment_found

prefix_follows : (r : Kin) → Follows r false true true Any take_prefix
unfolding take_prefix
prefix_follows r =
    follows_where (heads kind.Minus) (blind_heads r kind.Minus) (follows_turn Any (unary_at unary.Negate) (mark r kind.Minus refl refl) (λ x y p. tt))
    (follows_where (heads kind.Bang) (blind_heads r kind.Bang) (follows_turn Any (unary_at unary.Not) (mark r kind.Bang refl refl) (λ x y p. tt))
    (follows_where (heads kind.Tilde) (blind_heads r kind.Tilde) (follows_turn Any (unary_at unary.Complement) (mark r kind.Tilde refl refl) (λ x y p. tt))
    (follows_where (heads kind.PlusPlus) (blind_heads r kind.PlusPlus) (follows_turn Any (unary_at unary.Increment) (mark r kind.PlusPlus refl refl) (λ x y p. tt))
    (follows_turn Any (unary_at unary.Decrement) (mark r kind.MinusMinus refl refl) (λ x y p. tt)))))

postfix_follows : (r : Kin) → Follows r false true true Any take_postfix
unfolding take_postfix
postfix_follows r =
    follows_where (heads kind.PlusPlus) (blind_heads r kind.PlusPlus) (follows_turn Any (postfix_at postfix.Increment) (mark r kind.PlusPlus refl refl) (λ x y p. tt))
    (follows_turn Any (postfix_at postfix.Decrement) (mark r kind.MinusMinus refl refl) (λ x y p. tt))

-- Expressions.

interpolation_same : (m : Moves) (read other : List Token) (x y : Token × Tree) → Stand m true read other → Pair (Twins m) (Same m) x y → Same m (simple_interpolation_of read x) (simple_interpolation_of other y)
interpolation_same m read other x y q p = record { stands = over m read other q; high = p.1.high; last = refl }

text_same : (m : Moves) (t u : Token) → Twins m t u → Same m (string_text_of t) (string_text_of u)
text_same m t u p = record { stands = (p.start, p.end); high = refl; last = refl }

identifier_same : (m : Moves) (t u : Token) → Twins m t u → Same m (identifier_of t) (identifier_of u)
identifier_same m t u p = record { stands = (p.start, p.end); high = refl; last = refl }

this_same : (m : Moves) (t u : Token) → Twins m t u → Same m (this_of t) (this_of u)
this_same m t u p = record { stands = (p.start, p.end); high = refl; last = refl }

string_part_follows : (r : Kin) (l : Lower) → Followed l → Follows r false true false (Same r.moves) (take_string_part l)
unfolding take_string_part take_interpolation
string_part_follows r l a =
    follows_where (heads kind.StringPart) (blind_heads r kind.StringPart) (follows_turn (Same r.moves) string_text_of (mark r kind.StringPart refl refl) (text_same r.moves))
    (follows_where (heads kind.InterpolationMark) (blind_heads r kind.InterpolationMark) (follows_make (Same r.moves) simple_interpolation_of (follows_seq (mark r kind.InterpolationMark refl refl) (a.simple r)) (interpolation_same r.moves))
    (follows_make (Same r.moves) simple_interpolation_of (follows_inside kind.InterpolationOpening refl (contents (a.expression (within r) setting.Plain))) (interpolation_same r.moves)))

pub string_follows : (r : Kin) (l : Lower) → Followed l → Follows r false true true (Same r.moves) (take_string l)
unfolding take_string
string_follows r l a =
    let whole = is_either kind.StringLiteral kind.UnterminatedString in
    let marks = either_marks r.moves kind.StringLiteral kind.UnterminatedString refl refl refl refl in
    follows_where (next whole) (blind_next r whole marks.blind) (follows_turn (Same r.moves) simple_string_of (follows_token r whole marks) (λ x y p. record { stands = (p.start, p.end); high = refl; last = refl }))
    (follows_make (Same r.moves) interpolated_of (follows_seq (mark r kind.StringOpening refl refl) (follows_seq (follows_many (string_part_follows r l a)) (mark r kind.StringClosing refl refl)))
    (λ read other x y q p.
    let all = all_same r.moves (string_text_of x.0 ∷ (x.1.0 ++ string_text_of x.1.1 ∷ [])) (string_text_of y.0 ∷ (y.1.0 ++ string_text_of y.1.1 ∷ []))
    (text_same r.moves x.0 y.0 p.0, append_related (Same r.moves) x.1.0 y.1.0 (string_text_of x.1.1 ∷ []) (string_text_of y.1.1 ∷ []) p.1.0 (text_same r.moves x.1.1 y.1.1 p.1.1, tt)) in
    record { stands = over r.moves read other q; high = all; last = refl }))

strings_follow : (r : Kin) (l : Lower) → Followed l → Follows r false true false (Same r.moves) (take_strings l)
unfolding take_strings
strings_follow r l a =
    follows_make (Same r.moves) strings_of (follows_seq (string_follows r l a) (follows_many (string_follows r l a)))
    (λ read other x y q p. record { stands = over r.moves read other q; high = rw (all_same r.moves (x.0 ∷ x.1) (y.0 ∷ y.1) p) refl; last = refl })

argument_follows : (r : Kin) (l : Lower) → Followed l → Follows r true true false (Same r.moves) (take_argument l)
unfolding take_argument
argument_follows r l a =
    follows_where heads_label (blind_label r)
    (follows_make (Same r.moves) named_of (follows_seq (named r) (follows_then (mark r kind.Colon refl refl) (a.expression r setting.Listed))) (λ read other x y q p. record { stands = over r.moves read other q; high = p.1.1.high; last = refl }))
    (follows_make (Same r.moves) positional_of (a.expression r setting.Listed) (λ read other x y q p. record { stands = over r.moves read other q; high = p.high; last = refl }))

pub arguments_follow : (r : Kin) (l : Lower) → Followed l → Follows r false true false (Same r.moves) (take_arguments l)
unfolding take_arguments
arguments_follow r l a =
    follows_make (Same r.moves) arguments_of (follows_inside kind.OpenParenthesis refl (contents (follows_elements (argument_follows (within r) l a) (mark (within r) kind.Comma refl refl))))
    (λ read other x y q p. record { stands = over r.moves read other q; high = all_same r.moves x.1 y.1 p.1; last = refl })

pub simple_follows : (r : Kin) → Follows r false true true (Same r.moves) take_simple
unfolding take_simple
simple_follows r = follows_where heads_name (blind_heads_name r) (follows_turn (Same r.moves) identifier_of (named r) (identifier_same r.moves)) (follows_turn (Same r.moves) this_of (mark r kind.This refl refl) (this_same r.moves))

name_follows : (r : Kin) (l : Lower) → Followed l → Follows r false true true (Same r.moves) (take_name l)
unfolding take_name
name_follows r l a =
    follows_where heads_generic (blind_generic r)
    (follows_make (Same r.moves) generic_of (follows_seq (named r) (type_arguments_follow r l a)) (λ read other x y q p. record { stands = over r.moves read other q; high = rw p.1.high refl; last = refl }))
    (follows_turn (Same r.moves) identifier_of (named r) (identifier_same r.moves))

parenthesis_follows : (r : Kin) (l : Lower) → Followed l → Follows r false true false (Same r.moves) (take_parenthesis l)
unfolding take_parenthesis
parenthesis_follows r l a =
    follows_make (Same r.moves) parenthesis_of (follows_inside kind.OpenParenthesis refl (contents (a.expression (within r) setting.Plain))) (λ read other x y q p. record { stands = over r.moves read other q; high = rw p.1.high refl; last = refl })

closure_follows : (r : Kin) (m : Setting) (l : Lower) → Followed l → Follows r false true false (Same r.moves) (take_closure m l)
unfolding take_closure
closure_follows r m l a =
    follows_make (Same r.moves) closure_of
    (follows_seq (parameter_list_follows r l a)
    (follows_where (heads kind.Arrow) (blind_heads r kind.Arrow)
    (follows_make (Same r.moves) arrow_of (follows_then (mark r kind.Arrow refl refl) (a.expression r m)) (λ read other x y q p. record { stands = over r.moves read other q; high = p.1.high; last = refl })) (follows_related (Same r.moves) (λ x y p. p.same) (a.block r))))
    (λ read other x y q p. record { stands = over r.moves read other q; high = rw (p.0.high, p.1.high) refl; last = ap (λ (z : Bool × Bool). (z.0, false)) p.1.last })

new_follows : (r : Kin) (l : Lower) → Followed l → Follows r false true false (Same r.moves) (take_new l)
unfolding take_new
new_follows r l a =
    follows_make (Same r.moves) new_of
    (follows_seq (mark r kind.New refl refl) (follows_seq (a.constructed r) (follows_seq (follows_maybe (follows_seq (mark r kind.Period refl refl) (named r))) (arguments_follow r l a))))
    (λ read other x y q p. record { stands = over r.moves read other q; high = rw (p.1.0.high, p.1.1.1.high) refl; last = refl })

entry_follows : (r : Kin) (l : Lower) → Followed l → Follows r true true false (Same r.moves) (take_entry l)
unfolding take_entry
entry_follows r l a =
    follows_make (Same r.moves) entry_of (follows_seq (a.expression r setting.Listed) (follows_maybe (follows_then (mark r kind.Colon refl refl) (a.expression r setting.Listed))))
    (λ read other x y q p. record { stands = over r.moves read other q; high = rw (p.0.high, behind_same r.moves x.1 y.1 p.1) refl; last = refl })

abbrev pub LiteralSame : Moves → Literal → Literal → Type 0
LiteralSame m (listed x) (listed y) = Alls (Same m) x y
LiteralSame m (listed x) (entries y) = ⊥
LiteralSame m (entries x) (listed y) = ⊥
LiteralSame m (entries x) (entries y) = Alls (Same m) x y

collection_same : (m : Moves) (read other : List Token) (o p : Option Tree) → Stand m true read other → Both (Same m) o p → (x y : Literal) → LiteralSame m x y → Same m (collection_with read o x) (collection_with other p y)
collection_same m read other o p s b (listed x) (listed y) q = record { stands = over m read other s; high = rw (part_same m o p b, all_same m x y q) refl; last = refl }
collection_same m read other o p s b (listed x) (entries y) q = absurd q
collection_same m read other o p s b (entries x) (listed y) q = absurd q
collection_same m read other o p s b (entries x) (entries y) q = record { stands = over m read other s; high = rw (part_same m o p b, all_same m x y q) refl; last = refl }

collection_follows : (r : Kin) (l : Lower) → Followed l → Follows r true true false (Same r.moves) (take_collection l)
unfolding take_collection
collection_follows r l a =
    follows_make (Same r.moves) collection_of
    (follows_then (follows_maybe (type_arguments_follow r l a))
    (follows_where (heads kind.OpenBracket) (blind_heads r kind.OpenBracket)
    (follows_turn (LiteralSame r.moves) listed_of (follows_inside kind.OpenBracket refl (contents (follows_elements (a.expression (within r) setting.Listed) (mark (within r) kind.Comma refl refl)))) (λ x y p. p.1))
    (follows_turn (LiteralSame r.moves) entries_of (follows_braces (contents (follows_elements (entry_follows (braces r) l a) (mark (braces r) kind.Comma refl refl)))) (λ x y p. p.1))))
    (λ read other x y q p. collection_same r.moves read other x.0 y.0 q p.0 x.1 y.1 p.1)

primary_follows : (r : Kin) (m : Setting) (l : Lower) → Followed l → Follows r true true false (Same r.moves) (take_primary m l)
unfolding take_primary
primary_follows r m l a =
    follows_where (heads kind.Integer) (blind_heads r kind.Integer) (follows_turn (Same r.moves) integer_of (mark r kind.Integer refl refl) (λ x y p. record { stands = (p.start, p.end); high = refl; last = refl }))
    (follows_where (next begins_string) (blind_next r begins_string (λ t u w. rw w.kind refl)) (strings_follow r l a)
    (follows_where (heads kind.True) (blind_heads r kind.True) (follows_turn (Same r.moves) (boolean_of true) (mark r kind.True refl refl) (λ x y p. record { stands = (p.start, p.end); high = refl; last = refl }))
    (follows_where (heads kind.False) (blind_heads r kind.False) (follows_turn (Same r.moves) (boolean_of false) (mark r kind.False refl refl) (λ x y p. record { stands = (p.start, p.end); high = refl; last = refl }))
    (follows_where (heads kind.Null) (blind_heads r kind.Null) (follows_turn (Same r.moves) null_of (mark r kind.Null refl refl) (λ x y p. record { stands = (p.start, p.end); high = refl; last = refl }))
    (follows_where (heads kind.This) (blind_heads r kind.This) (follows_turn (Same r.moves) this_of (mark r kind.This refl refl) (this_same r.moves))
    (follows_where (heads kind.Super) (blind_heads r kind.Super) (follows_turn (Same r.moves) super_of (mark r kind.Super refl refl) (λ x y p. record { stands = (p.start, p.end); high = refl; last = refl }))
    (follows_where heads_name (blind_heads_name r) (name_follows r l a)
    (follows_where (heads kind.OpenParenthesis) (blind_heads r kind.OpenParenthesis) (follows_where (heads_closure m) (blind_closure r m) (closure_follows r m l a) (parenthesis_follows r l a))
    (follows_where (heads kind.New) (blind_heads r kind.New) (new_follows r l a) (collection_follows r l a))))))))))

abbrev pub SelectorSame : Moves → Selector → Selector → Type 0
SelectorSame m (member null_aware name) (member null_aware_ name_) = Unit {0}
SelectorSame m (member null_aware name) other = ⊥
SelectorSame m (element null_aware bracket index) (element null_aware_ bracket_ index_) = Same m index index_
SelectorSame m (element null_aware bracket index) other = ⊥
SelectorSame m check check = Unit {0}
SelectorSame m check other = ⊥
SelectorSame m (called types arguments) (called types_ arguments_) = Both (Same m) types types_ × Same m arguments arguments_
SelectorSame m (called types arguments) other = ⊥

selected_same : (m : Moves) (read other : List Token) (x y : Tree) → Stand m true read other → Same m x y → (s t : Selector) → SelectorSame m s t → Same m (select_with read x s) (select_with other y t)
selected_same m read other x y k p (member null_aware name) (member null_aware_ name_) q = record { stands = over m read other k; high = rw p.high refl; last = refl }
selected_same m read other x y k p (member null_aware name) (element null_aware_ bracket_ index_) q = absurd q
selected_same m read other x y k p (member null_aware name) check q = absurd q
selected_same m read other x y k p (member null_aware name) (called types_ arguments_) q = absurd q
selected_same m read other x y k p (element null_aware bracket index) (member null_aware_ name_) q = absurd q
selected_same m read other x y k p (element null_aware bracket index) (element null_aware_ bracket_ index_) q = record { stands = over m read other k; high = rw (p.high, q.high) refl; last = refl }
selected_same m read other x y k p (element null_aware bracket index) check q = absurd q
selected_same m read other x y k p (element null_aware bracket index) (called types_ arguments_) q = absurd q
selected_same m read other x y k p check (member null_aware_ name_) q = absurd q
selected_same m read other x y k p check (element null_aware_ bracket_ index_) q = absurd q
selected_same m read other x y k p check check q = record { stands = over m read other k; high = rw p.high refl; last = refl }
selected_same m read other x y k p check (called types_ arguments_) q = absurd q
selected_same m read other x y k p (called types arguments) (member null_aware_ name_) q = absurd q
selected_same m read other x y k p (called types arguments) (element null_aware_ bracket_ index_) q = absurd q
selected_same m read other x y k p (called types arguments) check q = absurd q
selected_same m read other x y k p (called types arguments) (called types_ arguments_) q = record { stands = over m read other k; high = rw (p.high, part_same m types types_ q.0, q.1.high) refl; last = refl }

selector_follows : (r : Kin) (m : Setting) (l : Lower) → Followed l → Follows r false true false (SelectorSame r.moves) (take_selector m l)
unfolding take_selector
selector_follows r m l a =
    follows_where (heads kind.Period) (blind_heads r kind.Period) (follows_turn (SelectorSame r.moves) (member_of false) (follows_seq (mark r kind.Period refl refl) (named r)) (λ x y p. tt))
    (follows_where (heads kind.QuestionPeriod) (blind_heads r kind.QuestionPeriod) (follows_turn (SelectorSame r.moves) (member_of true) (follows_seq (mark r kind.QuestionPeriod refl refl) (named r)) (λ x y p. tt))
    (follows_where (heads kind.OpenBracket) (blind_heads r kind.OpenBracket) (follows_turn (SelectorSame r.moves) (element_of false) (follows_inside kind.OpenBracket refl (contents (a.expression (within r) setting.Plain))) (λ x y p. p.1))
    (follows_where (heads kind.QuestionBracket) (blind_heads r kind.QuestionBracket) (follows_turn (SelectorSame r.moves) (element_of true) (follows_inside kind.QuestionBracket refl (contents (a.expression (within r) setting.Plain))) (λ x y p. p.1))
    (follows_where (heads kind.Bang) (blind_heads r kind.Bang) (follows_turn (SelectorSame r.moves) check_of (mark r kind.Bang refl refl) (λ x y p. tt))
    (follows_where (heads kind.OpenParenthesis) (blind_heads r kind.OpenParenthesis) (follows_turn (SelectorSame r.moves) plain_call_of (arguments_follow r l a) (λ x y p. (tt, p)))
    (follows_where (heads_call m) (blind_call r m) (follows_turn (SelectorSame r.moves) generic_call_of (follows_seq (type_arguments_follow r l a) (arguments_follow r l a)) (λ x y p. (p.0, p.1))) (follows_none r false true false (SelectorSame r.moves))))))))

selected_follows : (r : Kin) (n : ℕ) (m : Setting) (l : Lower) → Followed l → Follows r true true false (Same r.moves) (take_selected n m l)
unfolding take_selected
selected_follows r n m l a =
    follows_chain every_time (is_open n) select_with (every_tries r) (primary_follows r m l a) (selector_follows r m l a) (open_same r.moves n) (λ read seen x y z w s p q. selected_same r.moves read seen x y s p z w q)

pub unary_follows : (r : Kin) (n : ℕ) (m : Setting) (l : Lower) → Followed l → Follows r true true false (Same r.moves) (take_unary n m l)
unfolding take_unary take_incremented
unary_follows r n m l a =
    follows_where (next begins_prefix) (blind_next r begins_prefix (λ t u w. rw w.kind refl))
    (follows_make (Same r.moves) unary_of (follows_then (prefix_follows r) (a.unary r m)) (λ read other x y q p. record { stands = over r.moves read other q; high = rw p.1.high refl; last = p.1.last }))
    (follows_chain one_time (is_open n) postfix_of (one_try r) (selected_follows r n m l a) (postfix_follows r) (open_same r.moves n)
    (λ read seen x y z w s p q. record { stands = over r.moves read seen s; high = rw p.high refl; last = refl }))

abbrev pub SideSame : Moves → Side → Side → Type 0
SideSame m (operated operator right) (operated operator_ right_) = Same m right right_
SideSame m (operated operator right) other = ⊥
SideSame m (tested negated written) (tested negated_ written_) = Same m written written_
SideSame m (tested negated written) other = ⊥
SideSame m (cast written) (cast written_) = Same m written written_
SideSame m (cast written) other = ⊥
SideSame m (choices one two) (choices one_ two_) = Same m one one_ × Same m two two_
SideSame m (choices one two) other = ⊥

sided_same : (m : Moves) (read other : List Token) (x y : Tree) → Stand m true read other → Same m x y → (s t : Side) → SideSame m s t → Same m (side_with read x s) (side_with other y t)
sided_same m read other x y k p (operated operator right) (operated operator_ right_) q = record { stands = over m read other k; high = rw (p.high, q.high) refl; last = q.last }
sided_same m read other x y k p (operated operator right) (tested negated_ written_) q = absurd q
sided_same m read other x y k p (operated operator right) (cast written_) q = absurd q
sided_same m read other x y k p (operated operator right) (choices one_ two_) q = absurd q
sided_same m read other x y k p (tested negated written) (operated operator_ right_) q = absurd q
sided_same m read other x y k p (tested negated written) (tested negated_ written_) q = record { stands = over m read other k; high = rw (p.high, q.high) refl; last = refl }
sided_same m read other x y k p (tested negated written) (cast written_) q = absurd q
sided_same m read other x y k p (tested negated written) (choices one_ two_) q = absurd q
sided_same m read other x y k p (cast written) (operated operator_ right_) q = absurd q
sided_same m read other x y k p (cast written) (tested negated_ written_) q = absurd q
sided_same m read other x y k p (cast written) (cast written_) q = record { stands = over m read other k; high = rw (p.high, q.high) refl; last = refl }
sided_same m read other x y k p (cast written) (choices one_ two_) q = absurd q
sided_same m read other x y k p (choices one two) (operated operator_ right_) q = absurd q
sided_same m read other x y k p (choices one two) (tested negated_ written_) q = absurd q
sided_same m read other x y k p (choices one two) (cast written_) q = absurd q
sided_same m read other x y k p (choices one two) (choices one_ two_) q = record { stands = over m read other k; high = rw (p.high, q.0.high, q.1.high) refl; last = refl }

operated_follows : (r : Kin) (m : Setting) (l : Lower) → Followed l → (which : Level) (above : List Level) → Follows r false true false (SideSame r.moves) (take_operated m l which above)
unfolding take_operated
operated_follows r m l a which above = follows_turn (SideSame r.moves) operated_of (follows_then (follows_sign r Any (binary_of which) (binary_found which)) (a.operand r m above)) (λ x y p. p.1)

right_follows : (r : Kin) (m : Setting) (l : Lower) → Followed l → (which : Level) (above : List Level) → Follows r false true false (SideSame r.moves) (take_right m l which above)
unfolding take_right
right_follows r m l a level.Conditional above =
    follows_turn (SideSame r.moves) choices_of (follows_then (mark r kind.Question refl refl) (follows_seq (a.expression r m) (follows_then (mark r kind.Colon refl refl) (a.expression r m)))) (λ x y p. (p.1.0, p.1.1.1))
right_follows r m l a level.Relation above =
    follows_where (heads_sign (is_binary level.Relation)) (blind_sign r (is_binary level.Relation)) (operated_follows r m l a level.Relation above)
    (follows_where (heads kind.Is) (blind_heads r kind.Is) (follows_turn (SideSame r.moves) tested_of (follows_seq (mark r kind.Is refl refl) (follows_seq (follows_maybe (mark r kind.Bang refl refl)) (a.tested r m))) (λ x y p. p.1.1))
    (follows_turn (SideSame r.moves) cast_of (follows_seq (mark r kind.As refl refl) (a.tested r m)) (λ x y p. p.1)))
right_follows r m l a level.IfNull above = operated_follows r m l a level.IfNull above
right_follows r m l a level.Or above = operated_follows r m l a level.Or above
right_follows r m l a level.And above = operated_follows r m l a level.And above
right_follows r m l a level.Equality above = operated_follows r m l a level.Equality above
right_follows r m l a level.BitOr above = operated_follows r m l a level.BitOr above
right_follows r m l a level.BitXor above = operated_follows r m l a level.BitXor above
right_follows r m l a level.BitAnd above = operated_follows r m l a level.BitAnd above
right_follows r m l a level.Shift above = operated_follows r m l a level.Shift above
right_follows r m l a level.Sum above = operated_follows r m l a level.Sum above
right_follows r m l a level.Product above = operated_follows r m l a level.Product above

times_tries : (r : Kin) (m : Setting) (l : Level) (p : Bool) (x y : Tree) (ts us : List Token) → Same r.moves x y → Like r p ts us → Tries (times_behind m l x ts) (times_behind m l y us) ts us
times_tries r m level.Conditional p x y ts us s k = inl refl
times_tries r m level.IfNull p x y ts us s k = inr (omega arith, omega arith)
times_tries r m level.Or p x y ts us s k = inr (omega arith, omega arith)
times_tries r m level.And p x y ts us s k = inr (omega arith, omega arith)
times_tries r m level.Equality p x y ts us s k = inl refl
times_tries r m level.Relation p x y ts us s k = inl (rw (blind_call r m p ts us k, ends_same r.moves x y s) refl)
times_tries r m level.BitOr p x y ts us s k = inr (omega arith, omega arith)
times_tries r m level.BitXor p x y ts us s k = inr (omega arith, omega arith)
times_tries r m level.BitAnd p x y ts us s k = inr (omega arith, omega arith)
times_tries r m level.Shift p x y ts us s k = inr (omega arith, omega arith)
times_tries r m level.Sum p x y ts us s k = inr (omega arith, omega arith)
times_tries r m level.Product p x y ts us s k = inr (omega arith, omega arith)

pub operand_follows : (r : Kin) (n : ℕ) (m : Setting) (l : Lower) → Followed l → (above : List Level) → Follows r true true false (Same r.moves) (take_operand n m l above)
unfolding take_operand
operand_follows r n m l a above =
    follows_levels (times_behind m) (is_open n) side_with (times_tries r m) (right_follows r m l a) (open_same r.moves n) (λ read seen x y z w s p q. sided_same r.moves read seen x y s p z w q) (unary_follows r n m l a) above

assigned_same : (m : Moves) (read other : List Token) (x y : Tree) (z w : AssignmentOperator × Tree) → Stand m true read other → Same m x y → Pair Any (Same m) z w → Same m (assign_of read x z) (assign_of other y w)
assigned_same m read other x y z w s p q = record { stands = over m read other s; high = rw (p.high, q.1.high) refl; last = q.1.last }

pub section_head_follows : (r : Kin) (expression : Descent Token Tree) → Follows (within r) true true false (Same r.moves) expression → Follows r false true false (Same r.moves) (take_section_head expression)
unfolding take_section_head
section_head_follows r expression e =
    follows_where heads_name (blind_heads_name r) (follows_turn (Same r.moves) cascaded_name_of (named r) (λ x y p. record { stands = (p.start, p.end); high = refl; last = refl }))
    (follows_make (Same r.moves) cascaded_index_of (follows_inside kind.OpenBracket refl (contents e)) (λ read other x y q p. record { stands = over r.moves read other q; high = p.1.high; last = refl }))

pub section_follows : (r : Kin) (n : ℕ) (m : Setting) (l : Lower) → Followed l → (expression : Descent Token Tree) → Follows (within r) true true false (Same r.moves) expression → Follows r false true false (Same r.moves) (take_section n m l expression)
unfolding take_section
section_follows r n m l a expression e =
    follows_chain one_time (is_open n) assign_of (one_try r)
    (follows_chain every_time (is_open n) select_with (every_tries r) (section_head_follows r expression e) (selector_follows r m l a) (open_same r.moves n) (λ read seen x y z w s p q. selected_same r.moves read seen x y s p z w q))
    (follows_then (assignment_follows r) (a.operand r m table)) (open_same r.moves n) (assigned_same r.moves)

cascade_section_follows : (r : Kin) (m : Setting) (l : Lower) → Followed l → Follows r false true false (Pair Any (Same r.moves)) (take_cascade_section m l)
unfolding take_cascade_section
cascade_section_follows r m l a =
    follows_where (heads kind.PeriodPeriod) (blind_heads r kind.PeriodPeriod) (follows_turn (Pair Any (Same r.moves)) (section_of false) (follows_seq (mark r kind.PeriodPeriod refl refl) (a.section r m)) (λ x y p. (tt, p.1)))
    (follows_turn (Pair Any (Same r.moves)) (section_of true) (follows_seq (mark r kind.QuestionPeriodPeriod refl refl) (a.section r m)) (λ x y p. (tt, p.1)))

pub expression_follows : (r : Kin) (n : ℕ) (m : Setting) (l : Lower) → Followed l → Follows r true true false (Same r.moves) (take_expression n m l)
unfolding take_expression take_assignment_expression take_throw take_cascade
expression_follows r n m l a =
    follows_or (follows_once (is_open n) assign_of (unary_follows r n m l a) (follows_then (assignment_follows r) (a.expression r m)) (open_same r.moves n) (assigned_same r.moves))
    (follows_where (heads kind.Throw) (blind_heads r kind.Throw)
    (follows_make (Same r.moves) throw_of (follows_then (mark r kind.Throw refl refl) (a.expression r m)) (λ read other x y q p. record { stands = over r.moves read other q; high = rw p.1.high refl; last = refl }))
    (follows_chain every_time (is_open n) cascade_of (every_tries r) (operand_follows r n m l a table) (cascade_section_follows r m l a) (open_same r.moves n)
    (λ read seen x y z w s p q. record { stands = over r.moves read seen s; high = rw (p.high, q.1.high) refl; last = q.1.last })))
