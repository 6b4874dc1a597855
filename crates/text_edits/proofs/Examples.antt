-- Tokens of short texts that are the same but for what stands in a body.
use Rattle.std.proofs.Common.{◌≡◌, ℕ, ◌+◌, Bool, true, false, nat_lt, [], ◌∷◌, if◌then◌else◌, refl, arith}
use Rattle.std.proofs.lemmas.Bool.Decides.{nat_tests}
use Rattle.dart_tokens.specs.declared.token.Kind.{Kind}
use Rattle.dart_tokens.specs.declared.token.Kind.TheVariants as kind
use Rattle.dart_tokens.specs.declared.token.Token.{Token}
use Rattle.body_laws.specs.Bodies.{Moves, plain, below}
use Rattle.text_edits.specs.Brackets.{leads_to_body}
use Rattle.text_edits.specs.EditedTokens.{EditedTokens}

abbrev token : Kind → (start end word : ℕ) → Token
token k start end word = record { kind = k; start = start; end = end; word = word }

-- two places more behind a place
abbrev on_behind : (place : ℕ) → ℕ → ℕ
on_behind place n = if nat_lt place n then n + 2 else n

differ_behind : (place a b : ℕ) → on_behind place a ≡ on_behind place b → a ≡ b
differ_behind place a b e = by (nat_lt place a) refl (nat_lt place b) refl e
  where
    by : (p : Bool) → nat_lt place a ≡ p → (q : Bool) → nat_lt place b ≡ q → (if p then a + 2 else a) ≡ (if q then b + 2 else b) → a ≡ b
    by true p true q e = omega (arith, e)
    by true p false q e = grind (arith, nat_tests)
    by false p true q e = grind (arith, nat_tests)
    by false p false q e = e

abbrev moves : Moves
moves = record { starts = on_behind 3; ends = on_behind 4; words = on_behind 3; distinct = differ_behind 3 }

-- `f(){}` and `f(){x;}`
function_example : EditedTokens moves plain
    (token kind.Identifier 0 1 0 ∷ token kind.OpenParenthesis 1 2 1 ∷ token kind.CloseParenthesis 2 3 2 ∷ token kind.OpenBrace 3 4 3 ∷ token kind.CloseBrace 4 5 4 ∷ [])
    (token kind.Identifier 0 1 0 ∷ token kind.OpenParenthesis 1 2 1 ∷ token kind.CloseParenthesis 2 3 2 ∷ token kind.OpenBrace 3 4 3 ∷ token kind.Identifier 4 5 4 ∷ token kind.Semicolon 5 6 5 ∷ token kind.CloseBrace 6 7 6 ∷ [])
function_example = record {
  before = token kind.Identifier 0 1 0 ∷ token kind.OpenParenthesis 1 2 1 ∷ token kind.CloseParenthesis 2 3 2 ∷ [];
  left = token kind.OpenBrace 3 4 3;
  inside = [];
  right = token kind.CloseBrace 4 5 4;
  behind = [];
  tokens = refl;
  earlier = token kind.Identifier 0 1 0 ∷ token kind.OpenParenthesis 1 2 1 ∷ token kind.CloseParenthesis 2 3 2 ∷ [];
  left_there = token kind.OpenBrace 3 4 3;
  instead = token kind.Identifier 4 5 4 ∷ token kind.Semicolon 5 6 5 ∷ [];
  right_there = token kind.CloseBrace 6 7 6;
  later = [];
  edited = refl;
  stay = (
    record { kind = refl; word = refl; start = refl; end = refl; joins = λ g. absurd (cc) },
    (record { kind = refl; word = refl; start = refl; end = refl; joins = λ g. absurd (cc) }, (record { kind = refl; word = refl; start = refl; end = refl; joins = λ g. absurd (cc) }, tt)),
  );
  opens = record { kind = refl; word = refl; start = refl; end = refl; joins = λ g. absurd (cc) };
  closes = record { kind = refl; word = refl; start = refl; end = refl; joins = λ g. absurd (cc) };
  move = tt;
  brace = refl;
  leads = refl;
}

-- `class A{f(){}}`, where `]` comes to stand in the body: it closes nothing there
method_example : leads_to_body below [] kind.CloseBrace (token kind.CloseBracket 12 13 7 ∷ []) kind.CloseBrace (token kind.CloseBrace 13 14 6 ∷ [])
    (token kind.Class 0 5 0 ∷ token kind.Identifier 6 7 1 ∷ token kind.OpenBrace 7 8 2 ∷ token kind.Identifier 8 9 3 ∷ token kind.OpenParenthesis 9 10 4 ∷ token kind.CloseParenthesis 10 11 5 ∷ [])
    ≡ true
method_example = refl
