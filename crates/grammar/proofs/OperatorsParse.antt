-- The parser's way finds what the rules of operators read.
use Rattle.std.proofs.Common.{◌≡◌, ℕ, suc, ◌<◌, Bool, true, false, ◌||◌, List, [], ◌∷◌, Option, Some, None, option_map, length, take, drop, refl, ap, subst, arith}
use Rattle.std.specs.Option.{option_map_or}
use Rattle.readings.specs.Readings.{Reading, next, nothing}
use Rattle.readings.specs.Leading.{Apart, Parses, Sole}
use Rattle.readings.specs.Combinators.{parses_token, parses_turn}
use Rattle.readings.specs.Choices.{parses_switch}
use Rattle.readings.specs.Groups.{dropped}
use Rattle.readings.specs.Falls.{Falls}
use Rattle.readings.specs.Commits.{sole_function}
use Rattle.dart_tokens.specs.declared.token.Kind.TheVariants as kind
use Rattle.dart_tree.specs.declared.places.Span.{Span}
use Rattle.dart_tree.specs.declared.operators.UnaryOperatorKind.TheVariants as unary
use Rattle.dart_tree.specs.declared.operators.PostfixOperatorKind.TheVariants as postfix
use Rattle.dart_tokens.specs.declared.grouped_token.GroupedToken.{GroupedToken as Token}
use Rattle.grammar.specs.declared.level.Level.{Level}
use Rattle.grammar.specs.declared.level.Sign.{Sign}
use Rattle.grammar.specs.declared.level.Sign.TheVariants as sign
use Rattle.grammar.specs.Tokens.{is, span_over}
use Rattle.grammar.specs.Operators.{sign_at, heads_sign, is_binary, is_assignment, read_sign, take_sign, binary_of, assignment_of, take_binary, take_assignment, binary_rule, assignment_rule, unary_at, prefix_rule, postfix_at, postfix_rule}
use Rattle.grammar.specs.Descents.{begins_prefix, take_prefix, take_postfix}
use Rattle.grammar.proofs.KindTests.{far, settled}

-- An operator that doesn't pass isn't read.

missed_at : {A : Type 0} (f : Sign → Bool) (of : Span → Sign → Option A) → ((span : Span) (s : Sign) → f s ≡ false → of span s ≡ None) → (ts : List Token) (o : Option (Sign × ℕ)) →
    option_map_or (λ s. f s.0) o false ≡ false → option_map_or (read_sign of ts) o None ≡ None
missed_at f of none ts None e = refl
missed_at {A = A} f of none ts (Some s) e = ap (λ (o : Option A). option_map (λ a. (a, drop (suc s.1) ts)) o) (none (span_over (take (suc s.1) ts)) s.0 e)

pub sign_missed : {A : Type 0} (f : Sign → Bool) (of : Span → Sign → Option A) → ((span : Span) (s : Sign) → f s ≡ false → of span s ≡ None) → (ts : List Token) → heads_sign f ts ≡ false → take_sign of ts ≡ None
sign_missed f of none [] e = refl
sign_missed f of none (t ∷ ts) e = missed_at f of none (t ∷ ts) (sign_at (t ∷ ts)) e

-- One that is read has a lexeme.

read_fewer : {A : Type 0} (n : ℕ) (rest : List Token) → length rest < n → (o : Option A) (x : Reading Token A) → option_map (λ a. (a, rest)) o ≡ Some x → length x.1 < n
read_fewer n rest h None x e = absurd (cc)
read_fewer {A = A} n rest h (Some a) x e = let d : (a, rest) ≡ x = cc in subst (λ (v : Reading Token A). length v.1 < n) d h

sign_fewer : {A : Type 0} (of : Span → Sign → Option A) (t : Token) (ts : List Token) (o : Option (Sign × ℕ)) (x : Reading Token A) → option_map_or (read_sign of (t ∷ ts)) o None ≡ Some x → length x.1 < suc (length ts)
sign_fewer of t ts None x e = absurd (cc)
sign_fewer of t ts (Some s) x e = read_fewer (suc (length ts)) (drop s.1 ts) (omega (arith, dropped s.1 ts)) (of (span_over (take (suc s.1) (t ∷ ts))) s.0) x e

pub sign_falls : {A : Type 0} (of : Span → Sign → Option A) → Falls (take_sign of)
sign_falls of [] x e = absurd (cc)
sign_falls of (t ∷ ts) x e = sign_fewer of t ts (sign_at (t ∷ ts)) x e

not_binary : (l : Level) (span : Span) (s : Sign) → is_binary l s ≡ false → binary_of l span s ≡ None
not_binary l span (sign.Binary operator) e = rw e refl
not_binary l span (sign.Assign compound) e = refl

pub binary_sole : (l : Level) → Sole (heads_sign (is_binary l)) (binary_rule l) (take_binary l)
unfolding binary_rule
binary_sole l = sole_function (heads_sign (is_binary l)) (take_binary l) (sign_missed (is_binary l) (binary_of l) (not_binary l)) (sign_falls (binary_of l))

not_assignment : (span : Span) (s : Sign) → is_assignment s ≡ false → assignment_of span s ≡ None
not_assignment span (sign.Binary operator) e = refl
not_assignment span (sign.Assign compound) e = absurd (cc)

pub assignment_sole : Sole (heads_sign is_assignment) assignment_rule take_assignment
unfolding assignment_rule
assignment_sole = sole_function (heads_sign is_assignment) take_assignment (sign_missed is_assignment assignment_of not_assignment) (sign_falls assignment_of)

-- Where an assignment comes next no operator between operands does.

not_both : (l : Level) (s : Sign) → is_assignment s ≡ true → is_binary l s ≡ false
not_both l (sign.Binary operator) e = absurd (cc)
not_both l (sign.Assign compound) e = refl

apart_at : (l : Level) (o : Option (Sign × ℕ)) → option_map_or (λ s. is_assignment s.0) o false ≡ true → option_map_or (λ s. is_binary l s.0) o false ≡ false
apart_at l None e = refl
apart_at l (Some s) e = not_both l s.0 e

pub assignment_apart : (l : Level) → Apart (heads_sign is_assignment) (heads_sign (is_binary l))
assignment_apart l ts e = apart_at l (sign_at ts) e

-- Operators of one operand.

pub prefix_parses : Parses nothing (next begins_prefix) prefix_rule take_prefix
unfolding prefix_rule take_prefix
prefix_parses =
    settled nothing (next begins_prefix)
    (parses_switch (parses_turn (unary_at unary.Negate) (parses_token (is kind.Minus)))
    (parses_switch (parses_turn (unary_at unary.Not) (parses_token (is kind.Bang)))
    (parses_switch (parses_turn (unary_at unary.Complement) (parses_token (is kind.Tilde)))
    (parses_switch (parses_turn (unary_at unary.Increment) (parses_token (is kind.PlusPlus))) (parses_turn (unary_at unary.Decrement) (parses_token (is kind.MinusMinus))) (far _ _ refl (λ t ts. refl))) (far _ _ refl (λ t ts. refl))) (far _ _ refl (λ t ts. refl))) (far _ _ refl (λ t ts. refl)))
    refl (λ t ts. refl) refl (λ t ts. refl)

abbrev pub begins_postfix : Token → Bool
begins_postfix t = is kind.PlusPlus t || is kind.MinusMinus t

pub postfix_parses : Parses nothing (next begins_postfix) postfix_rule take_postfix
unfolding postfix_rule take_postfix
postfix_parses =
    settled nothing (next begins_postfix)
    (parses_switch (parses_turn (postfix_at postfix.Increment) (parses_token (is kind.PlusPlus))) (parses_turn (postfix_at postfix.Decrement) (parses_token (is kind.MinusMinus))) (far _ _ refl (λ t ts. refl)))
    refl (λ t ts. refl) refl (λ t ts. refl)
