-- Where what comes next begins another level or none, no right side of a level is read.
use Rattle.std.proofs.Common.{◌≡◌, ℕ, Bool, true, false, ◌||◌, if◌then◌else◌, List, [], ◌∷◌, Option, Some, None, option_map, refl, ap, ◌∙◌}
use Rattle.std.specs.Option.{option_map_or}
use denote.Enum.Bare.{sameb, same_true}
use Rattle.readings.specs.Descent.{take_token, take_maybe, take_turn, ◌▸◌}
use Rattle.dart_tokens.specs.declared.token.Kind.{Kind}
use Rattle.dart_tokens.specs.declared.token.Kind.TheVariants as kind
use Rattle.dart_tokens.specs.contracts.token.Kind as kinds
use Rattle.dart_tokens.specs.declared.grouped_token.GroupedToken.{GroupedToken as Token}
use Rattle.grammar.specs.declared.level.Level.{Level}
use Rattle.grammar.specs.declared.level.Level.TheVariants as level
use Rattle.grammar.specs.declared.level.Setting.{Setting}
use Rattle.grammar.specs.declared.level.Sign.{Sign}
use Rattle.grammar.specs.declared.level.Sign.TheVariants as sign
use Rattle.grammar.specs.Tokens.{is, heads}
use Rattle.grammar.specs.Operators.{signs, sign_in, greater_at, sign_at, heads_sign, is_binary, read_sign, binary_of, take_binary}
use Rattle.grammar.specs.Expressions.{tested_of, cast_of}
use Rattle.grammar.specs.Descents.{Lower, take_operated, take_right}
use Rattle.parse_leaves.specs.Next.{level_of_sign, level_of_word, next_level, is_level}

-- Operators.

-- of another level, or none at all
other_sign : (l : Level) (ts : List Token) (s : Option (Sign × ℕ)) (w : Option Level) → is_level l (option_map_or (λ x. level_of_sign x.0) s w) ≡ false → option_map_or (read_sign (binary_of l) ts) s None ≡ None
other_sign l ts None w e = refl
other_sign l ts (Some (sign.Binary operator, more)) w e = rw e refl
other_sign l ts (Some (sign.Assign compound, more)) w e = refl

no_binary : (l : Level) (ts : List Token) → is_level l (next_level ts) ≡ false → take_binary l ts ≡ None
no_binary l [] e = refl
no_binary l (t ∷ ts) e = other_sign l (t ∷ ts) (sign_at (t ∷ ts)) (level_of_word t) e

no_operated : (m : Setting) (l : Lower) (which : Level) (above : List Level) (ts : List Token) → is_level which (next_level ts) ≡ false → take_operated m l which above ts ≡ None
unfolding take_operated
no_operated m l which above ts e = rw (no_binary which ts e) refl

other_heads : (l : Level) (s : Option (Sign × ℕ)) (w : Option Level) → is_level l (option_map_or (λ x. level_of_sign x.0) s w) ≡ false → option_map_or (λ x. is_binary l x.0) s false ≡ false
other_heads l None w e = refl
other_heads l (Some (sign.Binary operator, more)) w e = e
other_heads l (Some (sign.Assign compound, more)) w e = refl

no_heads : (l : Level) (ts : List Token) → is_level l (next_level ts) ≡ false → heads_sign (is_binary l) ts ≡ false
no_heads l [] e = refl
no_heads l (t ∷ ts) e = other_heads l (sign_at (t ∷ ts)) (level_of_word t) e

-- Words.

pub is_kind : (k : Kind) (t : Token) → is k t ≡ true → t.kind ≡ k
is_kind k t e = same_true kinds.the_type tt t.kind k e

-- the level that comes next, as the kind of the first token tells it
abbrev pub told : Token → List Token → Kind → Option Level
told t ts k =
    option_map_or (λ s. level_of_sign s.0) (if sameb kinds.the_type k kind.Greater then Some (greater_at t ts) else option_map (λ s. (s, 0)) (sign_in signs k))
    (if sameb kinds.the_type k kind.Question then Some level.Conditional else if sameb kinds.the_type k kind.Is || sameb kinds.the_type k kind.As then Some level.Relation else None)

begun : (k : Kind) (l : Level) (t : Token) (ts : List Token) → told t ts k ≡ Some l → is_level l (Some l) ≡ true → is k t ≡ true → is_level l (next_level (t ∷ ts)) ≡ true
begun k l t ts so same e =
    let at : next_level (t ∷ ts) ≡ told t ts k = ap (told t ts) (is_kind k t e) in
    ap (is_level l) (at ∙ so) ∙ same

-- a word that would begin the level doesn't come next
no_word : (k : Kind) (l : Level) (ts : List Token) → ((t : Token) (us : List Token) → told t us k ≡ Some l) → is_level l (Some l) ≡ true → is_level l (next_level ts) ≡ false → take_token (is k) ts ≡ None
no_word k l [] so same e = refl
no_word k l (t ∷ ts) so same e = by (is k t) refl
  where
    by : (b : Bool) → is k t ≡ b → take_token (is k) (t ∷ ts) ≡ None
    by true d = absurd (let found : is_level l (next_level (t ∷ ts)) ≡ true = begun k l t ts (so t ts) same d in cc)
    by false d = rw d refl

either_none : {A : Type 0} (b : Bool) (x y : Option A) → x ≡ None → y ≡ None → (if b then x else y) ≡ None
either_none true x y e d = e
either_none false x y e d = d

-- Right sides.

no_relation : (m : Setting) (l : Lower) (above : List Level) (ts : List Token) → is_level level.Relation (next_level ts) ≡ false → take_right m l level.Relation above ts ≡ None
unfolding take_right
no_relation m l above ts e =
    let test : take_token (is kind.Is) ts ≡ None = no_word kind.Is level.Relation ts (λ t us. refl) refl e in
    let cast : take_token (is kind.As) ts ≡ None = no_word kind.As level.Relation ts (λ t us. refl) refl e in
    rw (no_heads level.Relation ts e)
    (either_none (heads kind.Is ts) (take_turn tested_of (take_token (is kind.Is) ▸ take_maybe (take_token (is kind.Bang)) ▸ l.tested m) ts) (take_turn cast_of (take_token (is kind.As) ▸ l.tested m) ts) (rw test refl) (rw cast refl))

no_choices : (m : Setting) (l : Lower) (above : List Level) (ts : List Token) → is_level level.Conditional (next_level ts) ≡ false → take_right m l level.Conditional above ts ≡ None
unfolding take_right
no_choices m l above ts e = rw (no_word kind.Question level.Conditional ts (λ t us. refl) refl e) refl

-- what comes next begins another level, or none
pub no_right : (m : Setting) (l : Lower) (which : Level) (above : List Level) (ts : List Token) → is_level which (next_level ts) ≡ false → take_right m l which above ts ≡ None
unfolding take_right
no_right m l level.Conditional above ts e = no_choices m l above ts e
no_right m l level.IfNull above ts e = no_operated m l level.IfNull above ts e
no_right m l level.Or above ts e = no_operated m l level.Or above ts e
no_right m l level.And above ts e = no_operated m l level.And above ts e
no_right m l level.Equality above ts e = no_operated m l level.Equality above ts e
no_right m l level.Relation above ts e = no_relation m l above ts e
no_right m l level.BitOr above ts e = no_operated m l level.BitOr above ts e
no_right m l level.BitXor above ts e = no_operated m l level.BitXor above ts e
no_right m l level.BitAnd above ts e = no_operated m l level.BitAnd above ts e
no_right m l level.Shift above ts e = no_operated m l level.Shift above ts e
no_right m l level.Sum above ts e = no_operated m l level.Sum above ts e
no_right m l level.Product above ts e = no_operated m l level.Product above ts e
