-- A function, or variables and a `;`: the plain members of a class and the plain declarations of a library.
use Rattle.std.proofs.Common.{◌≡◌, List, Option, Some, None, refl, sym, ap, ◌∙◌}
use Rattle.std.specs.Option.{option_map}
use Rattle.readings.specs.Readings.{Reading, made}
use Rattle.readings.specs.Descent.{Descent, bind, or_else, take_token, take_turn, ◌▸◌, ◌⊘◌}
use Rattle.dart_tokens.specs.declared.token.Kind.TheVariants as kind
use Rattle.dart_tree.specs.Tree.{Tree}
use Rattle.dart_tokens.specs.declared.grouped_token.GroupedToken.{GroupedToken as Token}
use Rattle.grammar.specs.Tokens.{is}
use Rattle.grammar.specs.Descents.{Lower, take_variables}
use Rattle.grammar.specs.DeclarationDescents.{take_function}
use Rattle.parse_members.specs.declared.parts.FunctionOrVariables.{FunctionOrVariables}
use Rattle.parse_members.specs.declared.parts.FunctionOrVariables.TheVariants as plain

abbrev pub plain_function_of : Tree → FunctionOrVariables
plain_function_of function = plain.Function function

abbrev pub plain_variables_of : Tree × Token → FunctionOrVariables
plain_variables_of (variables, semicolon) = plain.Variables variables

-- function | variables ';'
unfoldable pub take_plain : (body : Descent Token Tree) → Lower → Descent Token FunctionOrVariables
take_plain body l = take_turn plain_function_of (take_function body l) ⊘ take_turn plain_variables_of (take_variables l ▸ take_token (is kind.Semicolon))

-- what is made of a function, or of variables
abbrev pub plain_with : {A : Type 0} → (of_function of_variables : Tree → A) → FunctionOrVariables → A
plain_with of_function of_variables (plain.Function function) = of_function function
plain_with of_function of_variables (plain.Variables variables) = of_variables variables

one_of_both : {A : Type 0} (f h : Tree → A) (g : Tree × Token → A) (same : (variables : Tree) (semicolon : Token) → g (variables, semicolon) ≡ h variables) (ts us : List Token) (x : FunctionOrVariables) (o : Option (Reading Token Tree)) (p : Option (Reading Token (Tree × Token))) →
    or_else (bind o (λ y. Some (made (λ read a. plain_function_of a) ts y))) (bind p (λ y. Some (made (λ read a. plain_variables_of a) ts y))) ≡ Some (x, us) →
    or_else (bind o (λ y. Some (made (λ read a. f a) ts y))) (bind p (λ y. Some (made (λ read a. g a) ts y))) ≡ Some (plain_with f h x, us)
one_of_both f h g same ts us x (Some (function, vs)) p e = ap (option_map (λ (r : Reading Token FunctionOrVariables). (plain_with f h r.0, r.1))) e
one_of_both f h g same ts us x None (Some ((variables, semicolon), vs)) e =
    ap (λ a. Some (a, vs)) (same variables semicolon) ∙ ap (option_map (λ (r : Reading Token FunctionOrVariables). (plain_with f h r.0, r.1))) e
one_of_both f h g same ts us x None None e = absurd (cc)

none_of_both : {A : Type 0} (f : Tree → A) (g : Tree × Token → A) (ts : List Token) (o : Option (Reading Token Tree)) (p : Option (Reading Token (Tree × Token))) →
    or_else (bind o (λ y. Some (made (λ read a. plain_function_of a) ts y))) (bind p (λ y. Some (made (λ read a. plain_variables_of a) ts y))) ≡ None →
    or_else (bind o (λ y. Some (made (λ read a. f a) ts y))) (bind p (λ y. Some (made (λ read a. g a) ts y))) ≡ None
none_of_both f g ts (Some y) p e = absurd (cc)
none_of_both f g ts None (Some y) e = absurd (cc)
none_of_both f g ts None None e = refl

-- the same as a part of something else
pub plain_found : {A : Type 0} (f h : Tree → A) (g : Tree × Token → A) (same : (variables : Tree) (semicolon : Token) → g (variables, semicolon) ≡ h variables) (body : Descent Token Tree) (l : Lower) (ts us : List Token) (x : FunctionOrVariables) (a : A) → take_plain body l ts ≡ Some (x, us) → a ≡ plain_with f h x →
    (take_turn f (take_function body l) ⊘ take_turn g (take_variables l ▸ take_token (is kind.Semicolon))) ts ≡ Some (a, us)
unfolding take_plain
plain_found f h g same body l ts us x a e made = one_of_both f h g same ts us x (take_function body l ts) ((take_variables l ▸ take_token (is kind.Semicolon)) ts) e ∙ ap (λ b. Some (b, us)) (sym made)

pub plain_missing : {A : Type 0} (f : Tree → A) (g : Tree × Token → A) (body : Descent Token Tree) (l : Lower) (ts : List Token) → take_plain body l ts ≡ None →
    (take_turn f (take_function body l) ⊘ take_turn g (take_variables l ▸ take_token (is kind.Semicolon))) ts ≡ None
unfolding take_plain
plain_missing f g body l ts e = none_of_both f g ts (take_function body l ts) ((take_variables l ▸ take_token (is kind.Semicolon)) ts) e
