-- Operators that a class may declare, of those that stand between operands.
use Rattle.std.proofs.Common.{◌≡◌, ℕ, suc, ◌+◌, List, [], ◌∷◌, take, drop, Option, Some, None, sym, ap, ◌∙◌, arith}
use Rattle.std.specs.Option.{option_map, option_map_or}
use Rattle.dart_tree.specs.declared.places.Span.{Span}
use Rattle.dart_tree.specs.declared.operators.BinaryOperatorKind.{BinaryOperatorKind}
use Rattle.dart_tree.specs.declared.operators.DeclaredOperator.{DeclaredOperator}
use Rattle.readings.specs.Readings.{Reading}
use Rattle.dart_tokens.specs.declared.grouped_token.GroupedToken.{GroupedToken as Token}
use Rattle.grammar.specs.declared.level.Sign.{Sign}
use Rattle.grammar.specs.declared.level.Sign.TheVariants as sign
use Rattle.grammar.specs.Tokens.{span_over}
use Rattle.grammar.specs.Operators.{sign_at, read_sign, take_sign}
use Rattle.grammar.specs.Declarations.{operator_name, declared_operator, declared_sign, take_declared_sign}

sign_found : {A : Type 0} (of : Span → Sign → Option A) (ts : List Token) (s : Sign × ℕ) → sign_at ts ≡ Some s → take_sign of ts ≡ read_sign of ts s
sign_found of [] s e = absurd (cc)
sign_found of (t ∷ ts) s e = ap (λ o. option_map_or (read_sign of (t ∷ ts)) o None) e

-- an operator of so many lexemes
pub declared_found : (ts rest : List Token) (operator : BinaryOperatorKind) (which : DeclaredOperator) (more : ℕ) (span : Span) → sign_at ts ≡ Some (sign.Binary operator, more) → declared_operator operator ≡ Some which →
    span ≡ span_over (take (more + 1) ts) → rest ≡ drop (more + 1) ts → take_declared_sign ts ≡ Some (operator_name span which, rest)
declared_found ts rest operator which more span e is at left =
    let more_is : suc more ≡ more + 1 = omega arith in
    sign_found declared_sign ts (sign.Binary operator, more) e
    ∙ ap (λ o. option_map (λ a. (a, drop (suc more) ts)) (option_map (operator_name (span_over (take (suc more) ts))) o)) is
    ∙ ap (λ k. Some (operator_name (span_over (take k ts)) which, drop k ts)) more_is
    ∙ ap (λ p. Some (operator_name p which, drop (more + 1) ts)) (sym at) ∙ ap (λ us. Some (operator_name span which, us)) (sym left)
