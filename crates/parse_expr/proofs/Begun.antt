-- A statement that begins with what begins an operand is an expression with a `;` behind it.
use Rattle.std.proofs.Common.{◌≡◌, ℕ, suc, ◌-◌, ◌≤◌, Bool, true, false, ◌||◌, List, [], ◌∷◌, Option, Some, None, option_map, refl, sym, ap, subst, ◌∙◌, arith}
use denote.Enum.Bare.{same_true}
use Rattle.readings.specs.Readings.{Reading, made, behind}
use Rattle.readings.specs.Descent.{bind, or_else, take_token}
use Rattle.dart_tokens.specs.declared.token.Kind.{Kind}
use Rattle.dart_tokens.specs.declared.token.Kind.TheVariants as kind
use Rattle.dart_tokens.specs.contracts.token.Kind as kinds
use Rattle.dart_tree.specs.Tree.{Tree}
use Rattle.dart_tokens.specs.declared.grouped_token.GroupedToken.{GroupedToken as Token}
use Rattle.grammar.specs.declared.level.Setting.TheVariants as setting
use Rattle.grammar.specs.Tokens.{is, is_either, heads}
use Rattle.grammar.specs.Statements.{expression_statement_of}
use Rattle.grammar.specs.Descents.{lower, begins_prefix, take_type_name, take_plain_type, take_tail, take_tail_before, take_type, take_expression, take_declared, take_variables, take_variable_statement, take_local_function, take_function_statement, take_expression_statement, take_other_statement, take_statement}
use Rattle.parse_operators.specs.Ends.{end_of}
use Rattle.parse_expr.specs.Attempts.{heads_operand}

-- the kinds of tokens with which an operand begins, and no other statement
data Opening : Kind → Type 0 where
  minus : Opening kind.Minus
  bang : Opening kind.Bang
  tilde : Opening kind.Tilde
  plus_plus : Opening kind.PlusPlus
  minus_minus : Opening kind.MinusMinus
  parenthesis : Opening kind.OpenParenthesis
  bracket : Opening kind.OpenBracket

of_kind : (k : Kind) (t : Token) → Opening k → is k t ≡ true → Opening t.kind
of_kind k t o e = subst Opening (sym (same_true kinds.the_type tt t.kind k e)) o

either_way : {P : Type 0} (a b : Bool) → (a ≡ true → P) → (b ≡ true → P) → (a || b) ≡ true → P
either_way true b f g e = f refl
either_way false b f g e = g e

opening : (t : Token) → (begins_prefix t || is_either kind.OpenParenthesis kind.OpenBracket t) ≡ true → Opening t.kind
opening t =
    either_way (begins_prefix t) (is_either kind.OpenParenthesis kind.OpenBracket t)
    (either_way (is kind.Minus t || is kind.Bang t || is kind.Tilde t || is kind.PlusPlus t) (is kind.MinusMinus t)
    (either_way (is kind.Minus t || is kind.Bang t || is kind.Tilde t) (is kind.PlusPlus t)
    (either_way (is kind.Minus t || is kind.Bang t) (is kind.Tilde t)
    (either_way (is kind.Minus t) (is kind.Bang t) (of_kind kind.Minus t minus) (of_kind kind.Bang t bang)) (of_kind kind.Tilde t tilde)) (of_kind kind.PlusPlus t plus_plus))
    (of_kind kind.MinusMinus t minus_minus))
    (either_way (is kind.OpenParenthesis t) (is kind.OpenBracket t) (of_kind kind.OpenParenthesis t parenthesis) (of_kind kind.OpenBracket t bracket))

-- no label, no function, no variables, and no statement that begins with a word
alone : (n : ℕ) (k : Kind) (t : Token) (ts : List Token) → Opening k →
    take_statement (lower (suc n)) (record t { kind = k } ∷ ts) ≡ take_expression_statement (lower (suc n)) (record t { kind = k } ∷ ts)
unfolding lower take_type_name take_plain_type take_tail take_tail_before take_type take_declared take_variables take_variable_statement take_local_function take_function_statement take_other_statement take_statement
alone n k t ts minus = refl
alone n k t ts bang = refl
alone n k t ts tilde = refl
alone n k t ts plus_plus = refl
alone n k t ts minus_minus = refl
alone n k t ts parenthesis = refl
alone n k t ts bracket = refl

-- it doesn't begin with a `;` or with `throw`
no_semicolon : (k : Kind) (t : Token) → Opening k → is kind.Semicolon (record t { kind = k }) ≡ false
no_semicolon k t minus = refl
no_semicolon k t bang = refl
no_semicolon k t tilde = refl
no_semicolon k t plus_plus = refl
no_semicolon k t minus_minus = refl
no_semicolon k t parenthesis = refl
no_semicolon k t bracket = refl

no_throw : (k : Kind) (t : Token) → Opening k → is kind.Throw (record t { kind = k }) ≡ false
no_throw k t minus = refl
no_throw k t bang = refl
no_throw k t tilde = refl
no_throw k t plus_plus = refl
no_throw k t minus_minus = refl
no_throw k t parenthesis = refl
no_throw k t bracket = refl

pub untold : (ts : List Token) → heads_operand ts ≡ true → heads kind.Throw ts ≡ false
untold [] e = refl
untold (t ∷ ts) e = no_throw t.kind t (opening t e)

-- there is an expression, and a `;` where it ends
abbrev pub ends_statement : Option (List Token) → Bool
ends_statement None = false
ends_statement (Some rest) = heads kind.Semicolon rest

-- no `;` stands there
no_mark : (ts : List Token) → heads kind.Semicolon ts ≡ false → take_token (is kind.Semicolon) ts ≡ None
no_mark [] e = refl
no_mark (t ∷ ts) e = rw e refl

unended : (ts : List Token) (o : Option (Reading Token Tree)) → heads kind.Semicolon ts ≡ false → ends_statement (option_map (λ x. x.1) o) ≡ false →
    bind (or_else (bind o (λ x. Some (made (λ read a. Some a) ts x))) (Some (None, ts))) (λ x. bind (take_token (is kind.Semicolon) x.1) (λ y. Some (behind x.0 y))) ≡ None
unended ts None first e = rw (no_mark ts first) refl
unended ts (Some x) first e = rw (no_mark x.1 e) refl

no_expression : (n : ℕ) (ts : List Token) → heads kind.Semicolon ts ≡ false → ends_statement (end_of n ts) ≡ false → take_expression_statement (lower (suc n)) ts ≡ None
unfolding lower take_expression_statement
no_expression n ts first e = ap (λ o. bind o (λ x. Some (made expression_statement_of ts x))) (unended ts (take_expression n setting.Plain (lower n) ts) first e)

unread : (n : ℕ) (ts : List Token) → heads_operand ts ≡ true → ends_statement (end_of n ts) ≡ false → (lower (suc (suc n))).statement ts ≡ None
unfolding lower
unread n [] e ends = absurd (cc)
unread n (t ∷ ts) e ends = alone n t.kind t ts (opening t e) ∙ no_expression n (t ∷ ts) (no_semicolon t.kind t (opening t e)) ends

-- the room is that of the statement
with_room : (n room : ℕ) (ts : List Token) → room ≡ suc (suc n) → (lower (suc (suc n))).statement ts ≡ None → (lower room).statement ts ≡ None
with_room n room ts same none = ap (λ k. (lower k).statement ts) same ∙ none

-- without a `;` behind an expression nothing is read
pub statement_missing : (less room : ℕ) (ts : List Token) (end : Option (List Token)) → 2 ≤ room → less ≡ room - 2 → heads_operand ts ≡ true → end ≡ end_of less ts → ends_statement end ≡ false → (lower room).statement ts ≡ None
statement_missing less room ts end enough e begins found no_end =
    let same : room ≡ suc (suc less) = omega arith in
    with_room less room ts same (unread less ts begins (sym (ap ends_statement found) ∙ no_end))
