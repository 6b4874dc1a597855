-- The parser's way finds what the rules of types and parameters read.
use Rattle.std.proofs.Common.{◌≡◌, ℕ, Bool, true, false, ◌&&◌, ◌||◌, List, [], ◌∷◌, None, refl}
use Rattle.readings.specs.Readings.{Rule, Test, next, nothing, either, token, ◌▹◌, exactly, before}
use Rattle.readings.specs.Descent.{Descent, take_token, ◌▸◌, take_maybe, take_before}
use Rattle.readings.specs.Leading.{Apart, Within, Parses, Sole}
use Rattle.readings.specs.Combinators.{parses_within, parses_token, parses_make, parses_turn, parses_seq, parses_sole, sole_longest}
use Rattle.readings.specs.Choices.{parses_switch, parses_where}
use Rattle.readings.specs.Repetition.{Offers, parses_last, parses_offered, offers_seq, offers_maybe, offers_many, offers_taken, offers_begins}
use Rattle.readings.specs.Commits.{parses_prefer, offers_exactly, sole_before}
use Rattle.readings.specs.Chains.{parses_chain}
use Rattle.readings.specs.Elements.{offers_elements, sole_inside_offered}
use Rattle.dart_tokens.specs.declared.token.Kind.TheVariants as kind
use Rattle.dart_tree.specs.declared.names.ParameterKind.{ParameterKind}
use Rattle.dart_tree.specs.declared.names.ParameterKind.TheVariants as parameter_kind
use Rattle.dart_tokens.specs.declared.grouped_token.GroupedToken.{GroupedToken as Token}
use Rattle.grammar.specs.declared.level.Level.{Level}
use Rattle.grammar.specs.declared.level.Setting.{Setting}
use Rattle.grammar.specs.declared.level.Setting.TheVariants as setting
use Rattle.dart_tree.specs.Heights.{fits}
use Rattle.grammar.specs.Tokens.{is, is_either, is_name, is_type_name, heads, heads_name, first_then, width, past}
use Rattle.grammar.specs.Types.{Below, separated, separated_rule, inner, type_arguments_of, type_arguments_rule, type_parameter_of, type_parameter_rule, type_parameters_of, type_parameters_rule, void_of, heads_qualified, qualified_of, unqualified_of, type_name_rule, question_rule, named_type_of, plain_type_rule, annotation_of, annotation_rule, goes_on_parameter, heads_required, heads_field, parameter_of, parameter_rule, parameters_rule, optional_parameters_rule, parameter_list_of, parameter_list_rule, parameter_type_of, parameter_type_rule, tail_of, tail_rule, tail_before_rule, first_tail_of, next_tail_of, every_time, type_rule}
use Rattle.grammar.specs.Expressions.{begins_expression}
use Rattle.grammar.specs.Descents.{Lower, begins_prefix, begins_string, take_separated, take_type_arguments, take_type_parameter, take_type_parameters, take_type_name, take_question, take_plain_type, take_annotation, take_parameter, take_parameters, take_optional_parameters, take_parameter_list, take_parameter_type, take_tail, take_tail_before, take_type}
use Rattle.grammar.proofs.KindTests.{far, settled, still}

-- What things begin with.

abbrev pub begins_type : Token → Bool
begins_type t = is kind.Void t || is_name t

abbrev pub begins_primary : Token → Bool
begins_primary t =
    is_name t || is kind.Integer t || begins_string t || is kind.True t || is kind.False t || is kind.Null t || is kind.This t || is kind.Super t
    || is kind.OpenParenthesis t || is kind.New t || is kind.Less t || is kind.OpenBracket t || is kind.OpenBrace t

abbrev pub begins_operand : Token → Bool
begins_operand t = begins_prefix t || begins_primary t

abbrev pub begins_section : Token → Bool
begins_section t = is_name t || is kind.OpenBracket t

abbrev pub begins_simple : Token → Bool
begins_simple t = is_name t || is kind.This t

abbrev pub begins_statement : Token → Bool
begins_statement t =
    begins_expression t || is kind.Semicolon t || is kind.Final t || is kind.Var t || is kind.Void t || is kind.If t || is kind.While t || is kind.Do t || is kind.For t
    || is kind.Switch t || is kind.Try t || is kind.Return t || is kind.Break t || is kind.Continue t || is kind.Rethrow t

-- The parser's way finds what the rules read, where fewer nodes may lie on a way down.
pub record AllParse (d : Below) (l : Lower) : Type 0 where
  pub written : Sole (next begins_type) d.written l.written
  pub tested : (m : Setting) → Sole (next begins_type) (d.tested m) (l.tested m)
  pub constructed : Sole (next begins_type) d.constructed l.constructed
  pub named : Sole (next begins_type) d.named l.named
  pub expression : (m : Setting) → Sole (next begins_expression) (d.expression m) (l.expression m)
  pub operand : (m : Setting) (above : List Level) → Sole (next begins_operand) (d.operand m above) (l.operand m above)
  pub unary : (m : Setting) → Sole (next begins_operand) (d.unary m) (l.unary m)
  pub section : (m : Setting) → Sole (next begins_section) (d.section m) (l.section m)
  pub simple : Sole (next begins_simple) d.simple l.simple
  pub block : Sole (heads kind.OpenBrace) d.block l.block
  pub statement : Sole (next begins_statement) d.statement l.statement

-- Tests.

first_passes : (a b : Bool) → (a && b) ≡ true → a ≡ true
first_passes true b e = refl
first_passes false b e = absurd (cc)

-- what begins with two tokens begins with the first
pub within_first : (f : Token → Bool) (c : Test Token) → Within (first_then f c) (next f)
within_first f c [] e = absurd (cc)
within_first f c (t ∷ ts) e = first_passes (f t) (c ts) e

-- Lists with commas.

twice : (a b : Bool) → (a || (a || b)) ≡ true → (a || b) ≡ true
twice true b e = refl
twice false b e = e

comma_parses : {A : Type 0} {s f : Test Token} {p : Rule Token A} {g : Descent Token A} → Parses s f p g → Parses s (heads kind.Comma) (token (is kind.Comma) ▹ p) (take_token (is kind.Comma) ▸ g)
comma_parses a = parses_seq (parses_token (is kind.Comma)) a (still _)

pub separated_parses : {A : Type 0} {s f : Test Token} {p : Rule Token A} {g : Descent Token A} → Parses s f p g → Apart s (heads kind.Comma) →
    Parses (either s (heads kind.Comma)) f (separated_rule p) (take_separated g)
separated_parses {s = s} {f = f} a far_comma =
    parses_within (either s (heads kind.Comma)) f (λ ts e. twice (s ts) (heads kind.Comma ts) e) (λ ts e. e)
    (parses_turn separated (parses_last a (offers_many (comma_parses a) far_comma) far_comma))

-- Types.

pub type_arguments_parses : (d : Below) (l : Lower) → AllParse d l → Parses nothing (heads kind.Less) (type_arguments_rule d) (take_type_arguments l)
unfolding type_arguments_rule take_type_arguments
type_arguments_parses d l a =
    parses_make type_arguments_of
    (parses_seq (parses_token (is kind.Less)) (parses_seq (separated_parses (parses_sole a.written) (still _)) (parses_token (is kind.Greater)) (far _ _ refl (λ t ts. refl))) (still _))

bound_parses : (d : Below) (l : Lower) → AllParse d l → Parses nothing (heads kind.Extends) (token (is kind.Extends) ▹ d.written) (take_token (is kind.Extends) ▸ l.written)
bound_parses d l a = parses_seq (parses_token (is kind.Extends)) (parses_sole a.written) (still _)

type_parameter_parses : (d : Below) (l : Lower) → AllParse d l → Parses (heads kind.Extends) (next is_type_name) (type_parameter_rule d) (take_type_parameter l)
unfolding type_parameter_rule take_type_parameter
type_parameter_parses d l a =
    settled (heads kind.Extends) (next is_type_name) (parses_make type_parameter_of (parses_last (parses_token is_type_name) (offers_maybe (bound_parses d l a)) (still _))) refl (λ t ts. refl) refl (λ t ts. refl)

pub type_parameters_parses : (d : Below) (l : Lower) → AllParse d l → Parses nothing (heads kind.Less) (type_parameters_rule d) (take_type_parameters l)
unfolding type_parameters_rule take_type_parameters
type_parameters_parses d l a =
    parses_turn type_parameters_of
    (parses_seq (parses_token (is kind.Less))
    (parses_seq (separated_parses (type_parameter_parses d l a) (far _ _ refl (λ t ts. refl))) (parses_token (is kind.Greater)) (far _ _ refl (λ t ts. refl))) (still _))

type_name_parses : Parses nothing heads_name type_name_rule take_type_name
unfolding type_name_rule take_type_name
type_name_parses =
    settled nothing heads_name
    (parses_where heads_qualified
    (parses_turn qualified_of (parses_seq (parses_token is_name) (parses_seq (parses_token (is kind.Period)) (parses_token is_type_name) (still _)) (still _)))
    (parses_turn unqualified_of (parses_token is_type_name)))
    refl (λ t ts. refl) refl (λ t ts. refl)

question_offers : (question : Test Token) → Within question (heads kind.Question) → Offers nothing (heads kind.Question) None (question_rule question) (take_question question)
unfolding question_rule take_question
question_offers question w = offers_begins (heads kind.Question) w (offers_taken question (is kind.Question) w)

pub plain_type_parses : (d : Below) (l : Lower) → AllParse d l → (question : Test Token) → Within question (heads kind.Question) → Parses (heads kind.Less) (next begins_type) (plain_type_rule d question) (take_plain_type l question)
unfolding plain_type_rule take_plain_type
plain_type_parses d l a question w =
    settled (heads kind.Less) (next begins_type)
    (parses_switch (parses_turn void_of (parses_token (is kind.Void)))
    (parses_make named_type_of (parses_last type_name_parses (offers_seq (offers_maybe (type_arguments_parses d l a)) (question_offers question w) (far _ _ refl (λ t ts. refl))) (still _)))
    (far _ _ refl (λ t ts. refl)))
    refl (λ t ts. refl) refl (λ t ts. refl)

-- Parameters.

pub annotation_parses : Parses nothing (heads kind.At) annotation_rule take_annotation
unfolding annotation_rule take_annotation
annotation_parses = parses_make annotation_of (parses_seq (parses_token (is kind.At)) (parses_token is_name) (still _))

pub value_parses : (m : Setting) (d : Below) (l : Lower) → AllParse d l → Parses nothing (heads kind.Equals) (token (is kind.Equals) ▹ d.expression m) (take_token (is kind.Equals) ▸ l.expression m)
value_parses m d l a = parses_seq (parses_token (is kind.Equals)) (parses_sole (a.expression m)) (still _)

-- a type that is read exactly where these tokens come behind it
pub offers_type : (d : Below) (l : Lower) → AllParse d l → (c : Test Token) → Offers nothing (next begins_type) None (exactly (before c d.named)) (take_maybe (take_before c l.named))
offers_type d l a c = offers_exactly (parses_sole (sole_before c a.named))

pub this_parses : Parses nothing (heads kind.This) (token (is kind.This) ▹ token (is kind.Period)) (take_token (is kind.This) ▸ take_token (is kind.Period))
this_parses = parses_seq (parses_token (is kind.This)) (parses_token (is kind.Period)) (still _)

abbrev begins_parameter : Token → Bool
begins_parameter t = is kind.At t || goes_on_parameter t

parameter_parses : (d : Below) (l : Lower) → AllParse d l → (which : ParameterKind) → Parses (heads kind.Equals) (next begins_parameter) (parameter_rule d which) (take_parameter l which)
unfolding parameter_rule take_parameter
parameter_parses d l a which =
    settled (heads kind.Equals) (next begins_parameter)
    (parses_make (parameter_of which)
    (parses_offered (offers_many annotation_parses (still _))
    (parses_offered (offers_begins (heads kind.Required) (within_first (is kind.Required) (next goes_on_parameter)) (offers_taken heads_required (is kind.Required) (within_first (is kind.Required) (next goes_on_parameter))))
    (parses_offered (offers_maybe (parses_token (is_either kind.Final kind.Var)))
    (parses_offered (offers_type d l a heads_field)
    (parses_offered (offers_maybe this_parses)
    (parses_last (parses_token is_name) (offers_maybe (value_parses setting.Default d l a)) (still _)) (far _ _ refl (λ t ts. refl))) (still _)) (far _ _ refl (λ t ts. refl))) (still _)) (far _ _ refl (λ t ts. refl))))
    refl (λ t ts. refl) refl (λ t ts. refl)

-- the parameters of a list
abbrev begins_parameters : Test Token
begins_parameters = either (heads kind.Equals) (either (next begins_parameter) (heads kind.Comma))

parameters_offer : (d : Below) (l : Lower) → AllParse d l → (which : ParameterKind) → Offers begins_parameters (next begins_parameter) [] (parameters_rule d which) (take_parameters l which)
parameters_offer d l a which = offers_elements (is kind.Comma) (parameter_parses d l a which) (far _ _ refl (λ t ts. refl))

optional_parameters_parse : (d : Below) (l : Lower) → AllParse d l → Parses nothing (either (heads kind.OpenBracket) (heads kind.OpenBrace)) (optional_parameters_rule d) (take_optional_parameters l)
unfolding optional_parameters_rule take_optional_parameters
optional_parameters_parse d l a =
    settled nothing (either (heads kind.OpenBracket) (heads kind.OpenBrace))
    (parses_switch (parses_turn inner (parses_sole (sole_inside_offered (is kind.OpenBracket) width past (parameters_offer d l a parameter_kind.OptionalPositional))))
    (parses_turn inner (parses_sole (sole_inside_offered (is kind.OpenBrace) width past (parameters_offer d l a parameter_kind.Named)))) (far _ _ refl (λ t ts. refl)))
    refl (λ t ts. refl) refl (λ t ts. refl)

pub parameter_list_parses : (d : Below) (l : Lower) → AllParse d l → Parses nothing (heads kind.OpenParenthesis) (parameter_list_rule d) (take_parameter_list l)
unfolding parameter_list_rule take_parameter_list
parameter_list_parses d l a =
    parses_make parameter_list_of
    (parses_sole (sole_inside_offered (is kind.OpenParenthesis) width past
    (offers_seq (parameters_offer d l a parameter_kind.Positional) (offers_maybe (optional_parameters_parse d l a)) (far _ _ refl (λ t ts. refl)))))

-- Types of functions.

parameter_type_parses : (d : Below) (l : Lower) → AllParse d l → Parses heads_name (next begins_type) (parameter_type_rule d) (take_parameter_type l)
unfolding parameter_type_rule take_parameter_type
parameter_type_parses d l a =
    settled heads_name (next begins_type) (parses_make parameter_type_of (parses_last (parses_sole a.written) (offers_maybe (parses_token is_name)) (still _))) refl (λ t ts. refl) refl (λ t ts. refl)

tail_parses : (d : Below) (l : Lower) → AllParse d l → (question : Test Token) → Within question (heads kind.Question) → Parses nothing (heads kind.Function) (tail_rule d question) (take_tail l question)
unfolding tail_rule take_tail
tail_parses d l a question w =
    settled nothing (heads kind.Function)
    (parses_turn tail_of
    (parses_seq (parses_token (is kind.Function))
    (parses_offered (offers_maybe (type_parameters_parses d l a))
    (parses_last
    (parses_sole (sole_inside_offered (is kind.OpenParenthesis) width past
    (offers_seq (offers_elements (is kind.Comma) (parameter_type_parses d l a) (far _ _ refl (λ t ts. refl))) (offers_maybe (optional_parameters_parse d l a)) (far _ _ refl (λ t ts. refl)))))
    (question_offers question w) (still _)) (far _ _ refl (λ t ts. refl))) (still _)))
    refl (λ t ts. refl) refl (λ t ts. refl)

tail_before_sole : (d : Below) (l : Lower) → AllParse d l → (question ends : Test Token) → Within question (heads kind.Question) → Sole (heads kind.Function) (tail_before_rule d question ends) (take_tail_before l question ends)
unfolding tail_before_rule take_tail_before
tail_before_sole d l a question ends w = sole_before ends (sole_longest (tail_parses d l a question w))

pub type_parses : (n : ℕ) (d : Below) (l : Lower) → AllParse d l → (question ends : Test Token) → Within question (heads kind.Question) →
    Parses (heads kind.Function) (next begins_type) (type_rule n d question ends) (take_type n l question ends)
unfolding type_rule take_type
type_parses n d l a question ends w =
    settled (heads kind.Function) (next begins_type)
    (parses_chain every_time (fits n) next_tail_of
    (sole_longest (parses_prefer (parses_make first_tail_of (parses_sole (tail_before_sole d l a question ends w))) (plain_type_parses d l a question w)))
    (tail_before_sole d l a question ends w))
    refl (λ t ts. refl) refl (λ t ts. refl)
