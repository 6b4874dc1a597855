-- Tests of the tokens that come next see neither where tokens stand nor what stands in bodies; operators see where a `>` adjoins the next token.
use Rattle.std.proofs.Common.{◌≡◌, ℕ, zero, suc, ◌≤◌, ◌<◌, Bool, true, false, ◌||◌, not, ◌&&◌, ◌==◌, List, [], ◌∷◌, Option, Some, None, is_some, option_map, length, take, drop, if◌then◌else◌, refl, sym, ap, ◌∙◌, subst, arith, inr}
use Rattle.std.specs.Option.{option_map_or}
use Rattle.std.proofs.lemmas.Bool.Decides.{nat_tests}
use denote.Enum.Bare.{sameb}
use Rattle.readings.specs.Readings.{Test, next, either}
use Rattle.dart_tokens.specs.declared.token.Kind.{Kind}
use Rattle.dart_tokens.specs.contracts.token.Kind as kinds
use Rattle.dart_tokens.specs.declared.token.Kind.TheVariants as kind
use Rattle.dart_tree.specs.declared.places.Span.{Span}
use Rattle.dart_tokens.specs.declared.grouped_token.GroupedToken.{GroupedToken as Token}
use Rattle.grammar.specs.declared.level.Setting.{Setting}
use Rattle.grammar.specs.declared.level.Setting.TheVariants as setting
use Rattle.grammar.specs.declared.level.Sign.{Sign}
use Rattle.grammar.specs.declared.level.Sign.TheVariants as sign
use Rattle.dart_tree.specs.declared.operators.BinaryOperatorKind.TheVariants.{Greater, GreaterOrEqual, ShiftRight}
use Rattle.grammar.specs.Tokens.{adjoins, is, is_either, is_name, is_type_name, heads, heads_name, first_then, group_then, anything, past, span_over}
use Rattle.grammar.specs.Types.{heads_qualified, heads_required, heads_field, goes_on_parameter}
use Rattle.grammar.specs.Outline.{Way, onward, ◌⨾◌, way_or, either_way, behind_or, perhaps, go_on, repeated, some_more, over, over_group, over_name, over_angles, over_parameter, over_tail, over_plain, over_type, behind_arguments}
use Rattle.grammar.specs.Parameters.{at_end, group_holds, over_piece, over_value, over_field, over_declared, over_untyped, begins_parameter, heads_name_end, heads_parameter, fills_brackets, heads_optional, fills_parentheses}
use Rattle.grammar.specs.Operators.{signs, sign_in, shift_at, greater_at, sign_at, heads_sign, read_sign, take_sign}
use Rattle.grammar.specs.Expressions.{goes_on, heads_cast, heads_rest, heads_brace, heads_body, heads_parentheses, heads_closure, begins_expression, heads_tail, heads_choice, heads_nullable, heads_label, heads_use, heads_generic, behind_call, heads_call}
use Rattle.grammar.specs.Declarations.{heads_getter, heads_setter, is_class, begins_static, heads_static, heads_class, heads_word}
use Rattle.body_laws.specs.Bodies.{Moves, Twins, Freedom, none, in_braces}
use Rattle.body_laws.proofs.Follow.{Kin, Like, inner, and_none, no_body, is_kind, held_in, first_twins, one_empty, other_empty, both_empty, adjoin_alike, behind_group, behind_any, behind_mark, Went, went_on, went_token, Both, Found, Follows, Blind, Marks, Tries, fewer_tries, no_left, no_right, if_known, option_found}

-- Tokens.

abbrev pub BlindTo : Moves → (Token → Bool) → Type 0
BlindTo m f = (t u : Token) → Twins m t u → f t ≡ f u

-- a kind that opens no group
abbrev pub is_plain_kind : Kind → Bool
is_plain_kind k =
    sameb kinds.the_type kind.OpenParenthesis k || (sameb kinds.the_type kind.OpenBracket k || (sameb kinds.the_type kind.QuestionBracket k || sameb kinds.the_type kind.InterpolationOpening k))

neither_first : (a b : Bool) → (a || b) ≡ false → a ≡ false
neither_first false b e = refl
neither_first true b e = e

neither_second : (a b : Bool) → (a || b) ≡ false → b ≡ false
neither_second false b e = e
neither_second true b e = absurd (cc)

pub kind_marks : (m : Moves) (k : Kind) → sameb kinds.the_type kind.OpenBrace k ≡ false → is_plain_kind k ≡ false → Marks m (is k)
kind_marks m k b c =
    let second = neither_second (sameb kinds.the_type kind.OpenParenthesis k) _ c in
    let third = neither_second (sameb kinds.the_type kind.OpenBracket k) _ second in
    let one : sameb kinds.the_type kind.OpenParenthesis k ≡ false = neither_first (sameb kinds.the_type kind.OpenParenthesis k) _ c in
    let two : sameb kinds.the_type kind.OpenBracket k ≡ false = neither_first (sameb kinds.the_type kind.OpenBracket k) _ second in
    let three : sameb kinds.the_type kind.QuestionBracket k ≡ false = neither_first (sameb kinds.the_type kind.QuestionBracket k) _ third in
    let four : sameb kinds.the_type kind.InterpolationOpening k ≡ false = neither_second (sameb kinds.the_type kind.QuestionBracket k) _ third in
    record { blind = λ t u w. rw w.kind refl; parenthesis = λ t e. rw e one; bracket = λ t e. rw e two; question = λ t e. rw e three; brace = λ t e. rw e b; interpolation = λ t e. rw e four }

pub name_marks : (m : Moves) → Marks m is_name
name_marks m = record { blind = λ t u w. rw w.kind refl; parenthesis = λ t e. rw e refl; bracket = λ t e. rw e refl; question = λ t e. rw e refl; brace = λ t e. rw e refl; interpolation = λ t e. rw e refl }

pub type_name_marks : (m : Moves) → Marks m is_type_name
type_name_marks m = record { blind = λ t u w. rw w.kind refl; parenthesis = λ t e. rw e refl; bracket = λ t e. rw e refl; question = λ t e. rw e refl; brace = λ t e. rw e refl; interpolation = λ t e. rw e refl }

pub either_marks : (m : Moves) (j k : Kind) → sameb kinds.the_type kind.OpenBrace j ≡ false → is_plain_kind j ≡ false → sameb kinds.the_type kind.OpenBrace k ≡ false → is_plain_kind k ≡ false → Marks m (is_either j k)
either_marks m j k b c d e =
    let one = kind_marks m j b c in
    let two = kind_marks m k d e in
    record {
      blind = λ t u w. rw w.kind refl;
      parenthesis = λ t f. rw (one.parenthesis t f) (two.parenthesis t f);
      bracket = λ t f. rw (one.bracket t f) (two.bracket t f);
      question = λ t f. rw (one.question t f) (two.question t f);
      brace = λ t f. rw (one.brace t f) (two.brace t f);
      interpolation = λ t f. rw (one.interpolation t f) (two.interpolation t f);
    }

word_kept : (m : Moves) (a b : ℕ) → (a == b) ≡ (m.words a == m.words b)
word_kept m a b = by (a == b) refl (m.words a == m.words b) refl
  where
    by : (c : Bool) → (a == b) ≡ c → (d : Bool) → (m.words a == m.words b) ≡ d → c ≡ d
    by true e true f = refl
    by true e false f = let same : a ≡ b = grind (arith, nat_tests) in let words : m.words a ≡ m.words b = ap (λ (x : ℕ). m.words x) same in grind (arith, nat_tests)
    by false e true f = let words : m.words a ≡ m.words b = grind (arith, nat_tests) in let same : a ≡ b = m.distinct a b words in grind (arith, nat_tests)
    by false e false f = refl

-- the name of a class is another's where its word is moved
pub class_marks : (m : Moves) (class other : Option ℕ) → other ≡ option_map (λ w. m.words w) class → (t u : Token) → Twins m t u → is_class class t ≡ is_class other u
class_marks m None other e t u w = rw e refl
class_marks m (Some word) other e t u w = rw (e, w.kind, w.word, word_kept m t.word word) refl

-- Tests.

pub blind_next : (r : Kin) (f : Token → Bool) → BlindTo r.moves f → Blind r (next f)
blind_next r f b p [] [] a = refl
blind_next r f b p [] (u ∷ us) a = one_empty r p u us a
blind_next r f b p (t ∷ ts) [] a = other_empty r p t ts a
blind_next r f b p (t ∷ ts) (u ∷ us) a = b t u (first_twins r p t u ts us a)

pub blind_heads : (r : Kin) (k : Kind) → Blind r (heads k)
blind_heads r k = blind_next r (is k) (λ t u w. rw w.kind refl)

pub blind_heads_name : (r : Kin) → Blind r heads_name
blind_heads_name r = blind_next r is_name (λ t u w. rw w.kind refl)

pub blind_anything : (r : Kin) → Blind r anything
blind_anything r p ts us a = refl

and_known : (a b c d : Bool) → a ≡ b → (a ≡ true → c ≡ d) → (a && c) ≡ (b && d)
and_known true true c d e h = h refl
and_known true false c d e h = absurd (cc)
and_known false true c d e h = absurd (cc)
and_known false false c d e h = refl

pub blind_first : (r : Kin) (f : Token → Bool) (c : Test Token) → Marks r.moves f → Blind r c → Blind r (first_then f c)
blind_first r f c m d p [] [] a = refl
blind_first r f c m d p [] (u ∷ us) a = one_empty r p u us a
blind_first r f c m d p (t ∷ ts) [] a = other_empty r p t ts a
blind_first r f c m d p (t ∷ ts) (u ∷ us) a = and_known (f t) (f u) (c ts) (c us) (m.blind t u (first_twins r p t u ts us a)) (λ e. d false ts us (behind_mark r p f m t u ts us e a))

pub blind_group : (r : Kin) (f : Token → Bool) (c : Test Token) → BlindTo r.moves f → Blind r c → Blind r (group_then f c)
blind_group r f c b d p [] [] a = refl
blind_group r f c b d p [] (u ∷ us) a = one_empty r p u us a
blind_group r f c b d p (t ∷ ts) [] a = other_empty r p t ts a
blind_group r f c b d p (t ∷ ts) (u ∷ us) a = rw (b t u (first_twins r p t u ts us a), d (is kind.OpenParenthesis t) (drop (past t) ts) (drop (past u) us) (behind_group r p t u ts us a)) refl

pub blind_or : (r : Kin) (c d : Test Token) → Blind r c → Blind r d → Blind r (λ ts. c ts || d ts)
blind_or r c d b e p ts us a = rw (b p ts us a, e p ts us a) refl

blind_not : (r : Kin) (c : Test Token) → Blind r c → Blind r (λ ts. not (c ts))
blind_not r c b p ts us a = rw (b p ts us a) refl

pub blind_qualified : (r : Kin) → Blind r heads_qualified
blind_qualified r = blind_first r is_name (first_then (is kind.Period) (next is_type_name)) (name_marks r.moves) (blind_first r (is kind.Period) (next is_type_name) (kind_marks r.moves kind.Period refl refl) (blind_next r is_type_name (λ t u w. rw w.kind refl)))

pub blind_required : (r : Kin) → Blind r heads_required
blind_required r = blind_first r (is kind.Required) (next goes_on_parameter) (kind_marks r.moves kind.Required refl refl) (blind_next r goes_on_parameter (λ t u w. rw w.kind refl))

pub blind_field : (r : Kin) → Blind r heads_field
blind_field r = blind_next r (λ t. is_name t || is kind.This t) (λ t u w. rw w.kind refl)

pub blind_label : (r : Kin) → Blind r heads_label
blind_label r = blind_first r is_name (heads kind.Colon) (name_marks r.moves) (blind_heads r kind.Colon)

pub blind_getter : (r : Kin) → Blind r heads_getter
blind_getter r = blind_first r (is kind.Get) heads_name (kind_marks r.moves kind.Get refl refl) (blind_heads_name r)

pub blind_setter : (r : Kin) → Blind r heads_setter
blind_setter r = blind_first r (is kind.Set) heads_name (kind_marks r.moves kind.Set refl refl) (blind_heads_name r)

pub blind_static : (r : Kin) → Blind r heads_static
blind_static r = blind_first r (is kind.Static) (next begins_static) (kind_marks r.moves kind.Static refl refl) (blind_next r begins_static (λ t u w. rw w.kind refl))

pub blind_heads_class : (r : Kin) → Blind r heads_class
blind_heads_class r = blind_or r (heads kind.Class) (first_then (is kind.Abstract) (heads kind.Class)) (blind_heads r kind.Class) (blind_first r (is kind.Abstract) (heads kind.Class) (kind_marks r.moves kind.Abstract refl refl) (blind_heads r kind.Class))

pub blind_mixin : (r : Kin) → Blind r (heads_word (is kind.Mixin))
blind_mixin r = blind_first r (is kind.Mixin) heads_name (kind_marks r.moves kind.Mixin refl refl) (blind_heads_name r)

pub blind_typedef : (r : Kin) → Blind r (heads_word (is kind.Typedef))
blind_typedef r = blind_first r (is kind.Typedef) heads_name (kind_marks r.moves kind.Typedef refl refl) (blind_heads_name r)

pub blind_body : (r : Kin) → Blind r (either (heads kind.OpenBrace) (heads kind.Arrow))
blind_body r = blind_or r (heads kind.OpenBrace) (heads kind.Arrow) (blind_heads r kind.OpenBrace) (blind_heads r kind.Arrow)

-- Operators.

greater : (m : Moves) → Marks m (is kind.Greater)
greater m = kind_marks m kind.Greater refl refl

equals : (m : Moves) → Marks m (is kind.Equals)
equals m = kind_marks m kind.Equals refl refl

-- two tokens, of which the first is a `>`
went_two : (r : Kin) (p : Bool) (f : Token → Bool) → Marks r.moves f → (t u s w : Token) (ts us : List Token) → is kind.Greater t ≡ true → f s ≡ true → Like r p (t ∷ s ∷ ts) (u ∷ w ∷ us) → Went r true true p (t ∷ s ∷ ts) (u ∷ w ∷ us) ts us
went_two r p f m t u s w ts us g e a =
    let first = went_token r p (is kind.Greater) (greater r.moves) t u (s ∷ ts) (w ∷ us) g a in
    went_on r true true p (t ∷ s ∷ ts) (u ∷ w ∷ us) (s ∷ ts) (w ∷ us) ts us first (went_token r false f m s w ts us e (behind_mark r p (is kind.Greater) (greater r.moves) t u (s ∷ ts) (w ∷ us) g a))

second_true : (a b : Bool) → (a && b) ≡ true → b ≡ true
second_true true b e = e
second_true false b e = absurd (cc)

-- the operator behind tests of the tokens
abbrev long_shift : Bool → Sign × ℕ
long_shift b = if b then (sign.Assign (Some ShiftRight), 2) else (sign.Binary ShiftRight, 1)

abbrev long_greater : (b d : Bool) → Sign × ℕ → Sign × ℕ
long_greater b d shift = if b then (sign.Binary GreaterOrEqual, 1) else if d then shift else (sign.Binary Greater, 0)

-- what stands from a second `>` on
abbrev ShiftAlike : (r : Kin) (p : Bool) (t u : Token) (ts us : List Token) → Type 0
ShiftAlike r p t u ts us = (shift_at t ts ≡ shift_at u us) × Went r true true p (t ∷ ts) (u ∷ us) (drop (shift_at t ts).1 (t ∷ ts)) (drop (shift_at t ts).1 (u ∷ us))

shift_alike : (r : Kin) (p : Bool) (t u : Token) (ts us : List Token) → is kind.Greater t ≡ true → Like r p (t ∷ ts) (u ∷ us) → ShiftAlike r p t u ts us
shift_alike r p t u [] [] g a = (refl, went_token r p (is kind.Greater) (greater r.moves) t u [] [] g a)
shift_alike r p t u [] (w ∷ us) g a = one_empty r false w us (behind_mark r p (is kind.Greater) (greater r.moves) t u [] (w ∷ us) g a)
shift_alike r p t u (s ∷ ts) [] g a = other_empty r false s ts (behind_mark r p (is kind.Greater) (greater r.moves) t u (s ∷ ts) [] g a)
shift_alike r p t u (s ∷ ts) (w ∷ us) g a =
    let next = first_twins r false s w ts us (behind_mark r p (is kind.Greater) (greater r.moves) t u (s ∷ ts) (w ∷ us) g a) in
    by (adjoins t s && is kind.Equals s) (adjoins u w && is kind.Equals w) refl (rw (adjoin_alike r p t u (s ∷ ts) (w ∷ us) a g, next.kind) refl)
  where
    by : (b c : Bool) → (adjoins t s && is kind.Equals s) ≡ b → b ≡ c →
        (◌≡◌ {A = Sign × ℕ} (long_shift b) (long_shift c))
        × Went r true true p (t ∷ s ∷ ts) (u ∷ w ∷ us) (drop (long_shift b).1 (t ∷ s ∷ ts)) (drop (long_shift b).1 (u ∷ w ∷ us))
    by true true e f = (refl, went_two r p (is kind.Equals) (equals r.moves) t u s w ts us g (second_true (adjoins t s) (is kind.Equals s) e) a)
    by true false e f = absurd (cc)
    by false true e f = absurd (cc)
    by false false e f = (refl, went_token r p (is kind.Greater) (greater r.moves) t u (s ∷ ts) (w ∷ us) g a)

-- what stands from a `>` on
abbrev GreaterAlike : (r : Kin) (p : Bool) (t u : Token) (ts us : List Token) → Type 0
GreaterAlike r p t u ts us = (greater_at t ts ≡ greater_at u us) × Went r true true p (t ∷ ts) (u ∷ us) (drop (greater_at t ts).1 ts) (drop (greater_at t ts).1 us)

greater_alike : (r : Kin) (p : Bool) (t u : Token) (ts us : List Token) → is kind.Greater t ≡ true → Like r p (t ∷ ts) (u ∷ us) → GreaterAlike r p t u ts us
greater_alike r p t u [] [] g a = (refl, went_token r p (is kind.Greater) (greater r.moves) t u [] [] g a)
greater_alike r p t u [] (w ∷ us) g a = one_empty r false w us (behind_mark r p (is kind.Greater) (greater r.moves) t u [] (w ∷ us) g a)
greater_alike r p t u (s ∷ ts) [] g a = other_empty r false s ts (behind_mark r p (is kind.Greater) (greater r.moves) t u (s ∷ ts) [] g a)
greater_alike r p t u (s ∷ ts) (w ∷ us) g a =
    let rest = behind_mark r p (is kind.Greater) (greater r.moves) t u (s ∷ ts) (w ∷ us) g a in
    let next = first_twins r false s w ts us rest in
    by (adjoins t s && is kind.Equals s) (adjoins u w && is kind.Equals w) (adjoins t s && is kind.Greater s) (adjoins u w && is kind.Greater w) refl (rw (adjoin_alike r p t u (s ∷ ts) (w ∷ us) a g, next.kind) refl) refl
    (rw (adjoin_alike r p t u (s ∷ ts) (w ∷ us) a g, next.kind) refl) rest
  where
    by : (b c d e : Bool) → (adjoins t s && is kind.Equals s) ≡ b → b ≡ c → (adjoins t s && is kind.Greater s) ≡ d → d ≡ e → Like r false (s ∷ ts) (w ∷ us) →
        (◌≡◌ {A = Sign × ℕ} (long_greater b d (shift_at s ts)) (long_greater c e (shift_at w us)))
        × Went r true true p (t ∷ s ∷ ts) (u ∷ w ∷ us) (drop (long_greater b d (shift_at s ts)).1 (s ∷ ts))
        (drop (long_greater b d (shift_at s ts)).1 (w ∷ us))
    by true true d e f h k l rest = (refl, went_two r p (is kind.Equals) (equals r.moves) t u s w ts us g (second_true (adjoins t s) (is kind.Equals s) f) a)
    by true false d e f h k l rest = absurd (cc)
    by false true d e f h k l rest = absurd (cc)
    by false false true true f h k l rest =
        let more = shift_alike r false s w ts us (second_true (adjoins t s) (is kind.Greater s) k) rest in
        (more.0, went_on r true true p (t ∷ s ∷ ts) (u ∷ w ∷ us) (s ∷ ts) (w ∷ us) (drop (shift_at s ts).1 (s ∷ ts)) (drop (shift_at s ts).1 (w ∷ us)) (went_token r p (is kind.Greater) (greater r.moves) t u (s ∷ ts) (w ∷ us) g a) more.1)
    by false false true false f h k l rest = absurd (cc)
    by false false false true f h k l rest = absurd (cc)
    by false false false false f h k l rest = (refl, went_token r p (is kind.Greater) (greater r.moves) t u (s ∷ ts) (w ∷ us) g a)

-- what stands from an operator on
abbrev SignAlike : (r : Kin) (p : Bool) (ts us : List Token) → Type 0
SignAlike r p ts us = (sign_at ts ≡ sign_at us) × ((s : Sign × ℕ) → sign_at ts ≡ Some s → Went r true true p ts us (drop (suc s.1) ts) (drop (suc s.1) us))

sign_marks : (m : Moves) → Marks m (λ t. is_some (sign_in signs t.kind))
sign_marks m = record { blind = λ t u w. rw w.kind refl; parenthesis = λ t e. rw e refl; bracket = λ t e. rw e refl; question = λ t e. rw e refl; brace = λ t e. rw e refl; interpolation = λ t e. rw e refl }

sign_alike : (r : Kin) (p : Bool) (ts us : List Token) → Like r p ts us → SignAlike r p ts us
sign_alike r p [] [] a = (refl, λ s e. absurd (cc))
sign_alike r p [] (u ∷ us) a = one_empty r p u us a
sign_alike r p (t ∷ ts) [] a = other_empty r p t ts a
sign_alike r p (t ∷ ts) (u ∷ us) a = by (is kind.Greater t) refl
  where
    some : (o : Option Sign) (s : Sign × ℕ) → sign_in signs t.kind ≡ o → option_map (λ s. (s, 0)) o ≡ Some s → Went r true true p (t ∷ ts) (u ∷ us) (drop s.1 ts) (drop s.1 us)
    some None s e d = absurd (cc)
    some (Some x) s e d =
        let same : (x, 0) ≡ s = cc in
        subst (λ (v : Sign × ℕ). Went r true true p (t ∷ ts) (u ∷ us) (drop v.1 ts) (drop v.1 us)) same
        (went_token r p (λ t. is_some (sign_in signs t.kind)) (sign_marks r.moves) t u ts us (ap (λ (o : Option Sign). is_some o) e) a)

    by : (b : Bool) → is kind.Greater t ≡ b → SignAlike r p (t ∷ ts) (u ∷ us)
    by true e =
        let w = first_twins r p t u ts us a in
        let other : is kind.Greater u ≡ true = sym (ap (λ (k : Kind). sameb kinds.the_type k kind.Greater) w.kind) ∙ e in
        let both = greater_alike r p t u ts us e a in
        let one : sign_at (t ∷ ts) ≡ Some (greater_at t ts) = rw e refl in
        let two : sign_at (u ∷ us) ≡ Some (greater_at u us) = rw other refl in (
          one ∙ ap (λ (s : Sign × ℕ). Some s) both.0 ∙ sym two,
          λ s d. let found : Some (greater_at t ts) ≡ Some s = sym one ∙ d in
              let same : greater_at t ts ≡ s = cc in subst (λ (v : Sign × ℕ). Went r true true p (t ∷ ts) (u ∷ us) (drop v.1 ts) (drop v.1 us)) same both.1,
        )
    by false e =
        let w = first_twins r p t u ts us a in
        let other : is kind.Greater u ≡ false = sym (ap (λ (k : Kind). sameb kinds.the_type k kind.Greater) w.kind) ∙ e in
        let one : sign_at (t ∷ ts) ≡ option_map (λ s. (s, 0)) (sign_in signs t.kind) = rw e refl in
        let two : sign_at (u ∷ us) ≡ option_map (λ s. (s, 0)) (sign_in signs u.kind) = rw other refl in
        (one ∙ ap (λ (k : Kind). option_map (λ s. (s, 0)) (sign_in signs k)) w.kind ∙ sym two, λ s d. some (sign_in signs t.kind) s refl (sym one ∙ d))

pub blind_sign : (r : Kin) (f : Sign → Bool) → Blind r (heads_sign f)
blind_sign r f p ts us a = rw ((sign_alike r p ts us a).0) refl

sign_found : {A : Type 0} (r : Kin) (p : Bool) (R : A → A → Type 0) (of : Span → Sign → Option A) → ((span other : Span) (s : Sign) → Both R (of span s) (of other s)) → (ts us : List Token) (o : Option (Sign × ℕ)) →
    ((s : Sign × ℕ) → o ≡ Some s → Went r true true p ts us (drop (suc s.1) ts) (drop (suc s.1) us)) → Both (Found r true true p R ts us) (option_map_or (read_sign of ts) o None) (option_map_or (read_sign of us) o None)
sign_found r p R of h ts us None f = tt
sign_found r p R of h ts us (Some s) f =
    option_found R (Found r true true p R ts us) (λ a. (a, drop (suc s.1) ts)) (λ a. (a, drop (suc s.1) us)) (of (span_over (take (suc s.1) ts)) s.0) (of (span_over (take (suc s.1) us)) s.0) (λ x y q. (q, f s refl))
    (h (span_over (take (suc s.1) ts)) (span_over (take (suc s.1) us)) s.0)

pub follows_sign : {A : Type 0} (r : Kin) (R : A → A → Type 0) (of : Span → Sign → Option A) → ((span other : Span) (s : Sign) → Both R (of span s) (of other s)) → Follows r false true true R (take_sign of)
follows_sign {A = A} r R of h = record { each = follow }
  where
    follow : (p : Bool) → (false && p) ≡ false → (ts us : List Token) → Like r p ts us → Both (Found r true true p R ts us) (take_sign of ts) (take_sign of us)
    follow p q [] [] a = tt
    follow p q [] (u ∷ us) a = one_empty r p u us a
    follow p q (t ∷ ts) [] a = other_empty r p t ts a
    follow p q (t ∷ ts) (u ∷ us) a =
        let both = sign_alike r p (t ∷ ts) (u ∷ us) a in
        subst (λ (o : Option (Sign × ℕ)). Both (Found r true true p R (t ∷ ts) (u ∷ us)) (take_sign of (t ∷ ts)) (option_map_or (read_sign of (u ∷ us)) o None)) both.0 (sign_found r p R of h (t ∷ ts) (u ∷ us) (sign_at (t ∷ ts)) both.1)

-- Ways over the tokens of types.

abbrev Fewer : (some : Bool) → List Token → List Token → Type 0
Fewer true x ts = length x < length ts
Fewer false x ts = length x ≤ length ts

record Onward (r : Kin) (some : Bool) (ts us x y : List Token) : Type 0 where
  like : Like r true x y
  left : Fewer some x ts
  right : Fewer some y us

-- a way leads on alike, over some token, or over none
record Goes (r : Kin) (some : Bool) (w : Way) : Type 0 where
  each : (p : Bool) (ts us : List Token) → Like r p ts us → Both (Onward r some ts us) (w ts) (w us)

fewer_both : (a b : Bool) (ts x v : List Token) → Fewer a x ts → Fewer b v x → Fewer (a || b) v ts
fewer_both true true ts x v l k = omega (arith, l, k)
fewer_both true false ts x v l k = omega (arith, l, k)
fewer_both false true ts x v l k = omega (arith, l, k)
fewer_both false false ts x v l k = omega (arith, l, k)

fewer_weak : (a : Bool) (ts x : List Token) → Fewer a x ts → Fewer false x ts
fewer_weak true ts x l = omega (arith, l)
fewer_weak false ts x l = l

fewer_and : (a b : Bool) (ts x : List Token) → Fewer a x ts → Fewer (a && b) x ts
fewer_and true true ts x l = l
fewer_and true false ts x l = omega (arith, l)
fewer_and false b ts x l = l

onward_meets : (r : Kin) (a b : Bool) (ts us : List Token) (w : Way) → Goes r b w → (o q : Option (List Token)) → Both (Onward r a ts us) o q → Both (Onward r (a || b) ts us) (onward o w) (onward q w)
onward_meets r a b ts us w g None None h = tt
onward_meets r a b ts us w g None (Some y) h = absurd h
onward_meets r a b ts us w g (Some x) None h = absurd h
onward_meets r a b ts us w g (Some x) (Some y) h = more (w x) (w y) (g.each true x y h.like)
  where
    more : (o q : Option (List Token)) → Both (Onward r b x y) o q → Both (Onward r (a || b) ts us) o q
    more None None k = tt
    more None (Some v) k = absurd k
    more (Some v) None k = absurd k
    more (Some v) (Some z) k = record { like = k.like; left = fewer_both a b ts x v h.left k.left; right = fewer_both a b us y z h.right k.right }

way_then : (r : Kin) (a b : Bool) (v w : Way) → Goes r a v → Goes r b w → Goes r (a || b) (v ⨾ w)
way_then r a b v w g h = record { each = λ p ts us k. onward_meets r a b ts us w h (v ts) (v us) (g.each p ts us k) }

either_meets : (r : Kin) (a b : Bool) (ts us : List Token) (o q x y : Option (List Token)) → Both (Onward r a ts us) o q → Both (Onward r b ts us) x y → Both (Onward r (a && b) ts us) (way_or o x) (way_or q y)
either_meets r a b ts us None None None None h k = tt
either_meets r a b ts us None None None (Some y) h k = absurd k
either_meets r a b ts us None None (Some x) None h k = absurd k
either_meets r true b ts us None None (Some x) (Some y) h k = by b k
  where
    by : (b : Bool) → Onward r b ts us x y → Onward r b ts us x y
    by b k = k
either_meets r false b ts us None None (Some x) (Some y) h k = record { like = k.like; left = fewer_weak b ts x k.left; right = fewer_weak b us y k.right }
either_meets r a b ts us None (Some q) x y h k = absurd h
either_meets r a b ts us (Some o) None x y h k = absurd h
either_meets r a b ts us (Some o) (Some q) x y h k = record { like = h.like; left = fewer_and a b ts o h.left; right = fewer_and a b us q h.right }

way_either : (r : Kin) (a b : Bool) (v w : Way) → Goes r a v → Goes r b w → Goes r (a && b) (either_way v w)
way_either r a b v w g h = record { each = λ p ts us k. either_meets r a b ts us (v ts) (v us) (w ts) (w us) (g.each p ts us k) (h.each p ts us k) }

perhaps_meets : (r : Kin) (a p : Bool) (ts us : List Token) → Like r p ts us → (o q : Option (List Token)) → Both (Onward r a ts us) o q → Onward r false ts us (behind_or o ts) (behind_or q us)
perhaps_meets r a p ts us k None None h = record { like = behind_any r p ts us k; left = omega arith; right = omega arith }
perhaps_meets r a p ts us k None (Some y) h = absurd h
perhaps_meets r a p ts us k (Some x) None h = absurd h
perhaps_meets r a p ts us k (Some x) (Some y) h = record { like = h.like; left = fewer_weak a ts x h.left; right = fewer_weak a us y h.right }

way_perhaps : (r : Kin) (a : Bool) (w : Way) → Goes r a w → Goes r false (perhaps w)
way_perhaps r a w g = record { each = λ p ts us k. perhaps_meets r a p ts us k (w ts) (w us) (g.each p ts us k) }

no_way : (r : Kin) (w : Way) → Goes r true w → w [] ≡ None
no_way r w g = by (w []) (g.each false [] [] (both_empty r false))
  where
    by : (o : Option (List Token)) → Both (Onward r true [] []) o o → o ≡ None
    by None h = refl
    by (Some x) h = absurd (omega (arith, h.left))

repeat_meets : (r : Kin) (w : Way) → Goes r true w → (n m : ℕ) (p : Bool) (ts us : List Token) → Tries n m ts us → Like r p ts us → Onward r false ts us (repeated n w ts) (repeated m w us)
repeat_meets r w g zero zero p ts us t k = record { like = behind_any r p ts us k; left = omega arith; right = omega arith }
repeat_meets r w g zero (suc m) p ts us t k = no_left r p m ts us t k (λ e d. rw (e, d, no_way r w g) (record { like = both_empty r true; left = omega arith; right = omega arith }))
repeat_meets r w g (suc n) zero p ts us t k = no_right r p n ts us t k (λ e d. rw (e, d, no_way r w g) (record { like = both_empty r true; left = omega arith; right = omega arith }))
repeat_meets r w g (suc n) (suc m) p ts us t k =
    by (λ x y h. repeat_meets r w g n m true x y (fewer_tries n m ts us x y t h.left h.right) h.like) (w ts) (w us) (g.each p ts us k)
  where
    by : ((x y : List Token) → Onward r true ts us x y → Onward r false x y (repeated n w x) (repeated m w y)) → (o q : Option (List Token)) → Both (Onward r true ts us) o q →
        Onward r false ts us (go_on (repeated n w) o ts) (go_on (repeated m w) q us)
    by again None None h = record { like = behind_any r p ts us k; left = omega arith; right = omega arith }
    by again None (Some y) h = absurd h
    by again (Some x) None h = absurd h
    by again (Some x) (Some y) h = let rest = again x y h in record { like = rest.like; left = omega (arith, rest.left, h.left); right = omega (arith, rest.right, h.right) }

way_more : (r : Kin) (w : Way) → Goes r true w → Goes r false (some_more w)
way_more r w g = record { each = λ p ts us k. repeat_meets r w g (length ts) (length us) p ts us (inr (omega arith, omega arith)) k }

way_over : (r : Kin) (f : Token → Bool) → Marks r.moves f → Goes r true (over f)
way_over r f m = record { each = follow }
  where
    follow : (p : Bool) (ts us : List Token) → Like r p ts us → Both (Onward r true ts us) (over f ts) (over f us)
    follow p [] [] a = tt
    follow p [] (u ∷ us) a = one_empty r p u us a
    follow p (t ∷ ts) [] a = other_empty r p t ts a
    follow p (t ∷ ts) (u ∷ us) a =
        if_known (Onward r true (t ∷ ts) (u ∷ us)) (f t) (f u) (Some ts) None (Some us) None (m.blind t u (first_twins r p t u ts us a))
        (λ e. record { like = behind_any r false ts us (behind_mark r p f m t u ts us e a); left = omega arith; right = omega arith }) tt

drop_fewer : (n : ℕ) (ts : List Token) → length (drop n ts) ≤ length ts
drop_fewer zero ts = omega arith
drop_fewer (suc n) [] = omega arith
drop_fewer (suc n) (t ∷ ts) = omega (arith, drop_fewer n ts)

way_group : (r : Kin) → Goes r true over_group
way_group r = record { each = follow }
  where
    follow : (p : Bool) (ts us : List Token) → Like r p ts us → Both (Onward r true ts us) (over_group ts) (over_group us)
    follow p [] [] a = tt
    follow p [] (u ∷ us) a = one_empty r p u us a
    follow p (t ∷ ts) [] a = other_empty r p t ts a
    follow p (t ∷ ts) (u ∷ us) a =
        if_known (Onward r true (t ∷ ts) (u ∷ us)) (is kind.OpenParenthesis t) (is kind.OpenParenthesis u) (Some (drop (past t) ts)) None (Some (drop (past u) us)) None (ap (λ (k : Kind). sameb kinds.the_type k kind.OpenParenthesis) (first_twins r p t u ts us a).kind)
        (λ e. record { like = behind_any r (is kind.OpenParenthesis t) (drop (past t) ts) (drop (past u) us) (behind_group r p t u ts us a); left = omega (arith, drop_fewer (past t) ts); right = omega (arith, drop_fewer (past u) us) }) tt

way_where : (r : Kin) (c : Test Token) (v w : Way) → Blind r c → Goes r true v → Goes r true w → Goes r true (λ ts. if c ts then v ts else w ts)
way_where r c v w b g h = record { each = λ p ts us k. if_known (Onward r true ts us) (c ts) (c us) (v ts) (w ts) (v us) (w us) (b p ts us k) (λ e. g.each p ts us k) (h.each p ts us k) }

way_name : (r : Kin) → Goes r true over_name
way_name r =
    way_where r heads_qualified (over is_name ⨾ over (is kind.Period) ⨾ over is_type_name) (over is_type_name) (blind_qualified r)
    (way_then r true true (over is_name) (over (is kind.Period) ⨾ over is_type_name) (way_over r is_name (name_marks r.moves))
    (way_then r true true (over (is kind.Period)) (over is_type_name) (way_over r (is kind.Period) (kind_marks r.moves kind.Period refl refl)) (way_over r is_type_name (type_name_marks r.moves))))
    (way_over r is_type_name (type_name_marks r.moves))

way_kind : (r : Kin) (k : Kind) → sameb kinds.the_type kind.OpenBrace k ≡ false → is_plain_kind k ≡ false → Goes r true (over (is k))
way_kind r k b c = way_over r (is k) (kind_marks r.moves k b c)

way_angles : (r : Kin) (w : Way) → Goes r true w → Goes r true (over_angles w)
way_angles r w g =
    way_then r true true (over (is kind.Less)) (w ⨾ some_more (over (is kind.Comma) ⨾ w) ⨾ over (is kind.Greater)) (way_kind r kind.Less refl refl)
    (way_then r true true w (some_more (over (is kind.Comma) ⨾ w) ⨾ over (is kind.Greater)) g
    (way_then r false true (some_more (over (is kind.Comma) ⨾ w)) (over (is kind.Greater)) (way_more r (over (is kind.Comma) ⨾ w) (way_then r true true (over (is kind.Comma)) w (way_kind r kind.Comma refl refl) g)) (way_kind r kind.Greater refl refl)))

way_parameter : (r : Kin) (w : Way) → Goes r true w → Goes r true (over_parameter w)
way_parameter r w g =
    way_then r true false (over is_type_name) (perhaps (over (is kind.Extends) ⨾ w)) (way_over r is_type_name (type_name_marks r.moves))
    (way_perhaps r true (over (is kind.Extends) ⨾ w) (way_then r true true (over (is kind.Extends)) w (way_kind r kind.Extends refl refl) g))

way_tail : (r : Kin) (w : Way) → Goes r true w → Goes r true (over_tail w)
way_tail r w g =
    way_then r true true (over (is kind.Function)) (perhaps (over_angles (over_parameter w)) ⨾ over_group ⨾ perhaps (over (is kind.Question))) (way_kind r kind.Function refl refl)
    (way_then r false true (perhaps (over_angles (over_parameter w))) (over_group ⨾ perhaps (over (is kind.Question))) (way_perhaps r true (over_angles (over_parameter w)) (way_angles r (over_parameter w) (way_parameter r w g)))
    (way_then r true false over_group (perhaps (over (is kind.Question))) (way_group r) (way_perhaps r true (over (is kind.Question)) (way_kind r kind.Question refl refl))))

way_plain : (r : Kin) (w : Way) → Goes r true w → Goes r true (over_plain w)
way_plain r w g =
    way_where r (heads kind.Void) (over (is kind.Void)) (over_name ⨾ perhaps (over_angles w) ⨾ perhaps (over (is kind.Question))) (blind_heads r kind.Void) (way_kind r kind.Void refl refl)
    (way_then r true false over_name (perhaps (over_angles w) ⨾ perhaps (over (is kind.Question))) (way_name r)
    (way_then r false false (perhaps (over_angles w)) (perhaps (over (is kind.Question))) (way_perhaps r true (over_angles w) (way_angles r w g)) (way_perhaps r true (over (is kind.Question)) (way_kind r kind.Question refl refl))))

way_type : (r : Kin) (n : ℕ) → Goes r true (over_type n)
unfolding over_type
way_type r zero = record { each = λ p ts us k. tt }
way_type r (suc n) =
    let w : Way = over_type n in
    let both = way_then r true false (either_way (over_tail w) (over_plain w)) (some_more (over_tail w)) (way_either r true true (over_tail w) (over_plain w) (way_tail r w (way_type r n)) (way_plain r w (way_type r n))) (way_more r (over_tail w) (way_tail r w (way_type r n))) in
    record { each = λ p ts us k. both.each p ts us k }

way_arguments : (r : Kin) → Goes r true behind_arguments
unfolding behind_arguments
way_arguments r = let all = way_angles r (over_type 200) (way_type r 200) in record { each = λ p ts us k. all.each p ts us k }

-- a test of what comes behind a way
blind_behind_way : (r : Kin) (some : Bool) (c : Test Token) (w : Way) → Blind r c → Goes r some w → Blind r (λ ts. option_map_or c (w ts) false)
blind_behind_way r some c w b g p ts us k = by (w ts) (w us) (g.each p ts us k)
  where
    by : (o q : Option (List Token)) → Both (Onward r some ts us) o q → option_map_or c o false ≡ option_map_or c q false
    by None None h = refl
    by None (Some y) h = absurd h
    by (Some x) None h = absurd h
    by (Some x) (Some y) h = b true x y h.like

blind_way : (r : Kin) (c : Test Token) (w : Way) → Blind r c → Goes r true w → Blind r (λ ts. option_map_or c (w ts) false)
blind_way r c w b g = blind_behind_way r true c w b g

-- Parameters by their tokens, in parentheses, where no body differs.

blind_end : (r : Kin) → Blind r at_end
blind_end r p [] [] a = refl
blind_end r p [] (u ∷ us) a = one_empty r p u us a
blind_end r p (t ∷ ts) [] a = other_empty r p t ts a
blind_end r p (t ∷ ts) (u ∷ us) a = refl

none_either : (b : Bool) → (if b then none else none) ≡ none
none_either true = refl
none_either false = refl

held_calm : (r : Kin) (p : Bool) (t u : Token) (ts us : List Token) → Like (inner r) p (t ∷ ts) (u ∷ us) → Like (inner r) false (take t.width ts) (take u.width us)
held_calm r p t u ts us a =
    subst (λ (f : Freedom). Like (record { moves = r.moves; freedom = f }) false (take t.width ts) (take u.width us)) (none_either (is kind.OpenBrace t)) (held_in (inner r) p t u ts us a (and_none p false refl))

blind_calm : (r : Kin) (f : Token → Bool) (c : Test Token) → BlindTo r.moves f → Blind (inner r) c → Blind (inner r) (group_holds f c)
blind_calm r f c b d p [] [] a = refl
blind_calm r f c b d p [] (u ∷ us) a = one_empty (inner r) p u us a
blind_calm r f c b d p (t ∷ ts) [] a = other_empty (inner r) p t ts a
blind_calm r f c b d p (t ∷ ts) (u ∷ us) a = rw (b t u (first_twins (inner r) p t u ts us a), d false (take t.width ts) (take u.width us) (held_calm r p t u ts us a)) refl

way_piece : (r : Kin) → Goes r true over_piece
way_piece r = record { each = follow }
  where
    follow : (p : Bool) (ts us : List Token) → Like r p ts us → Both (Onward r true ts us) (over_piece ts) (over_piece us)
    follow p [] [] a = tt
    follow p [] (u ∷ us) a = one_empty r p u us a
    follow p (t ∷ ts) [] a = other_empty r p t ts a
    follow p (t ∷ ts) (u ∷ us) a =
        if_known (Onward r true (t ∷ ts) (u ∷ us)) (is kind.Comma t || is_either kind.Question kind.Colon t) (is kind.Comma u || is_either kind.Question kind.Colon u) None (Some (drop (past t) ts)) None (Some (drop (past u) us))
        (ap (λ (k : Kind). sameb kinds.the_type k kind.Comma || (sameb kinds.the_type k kind.Question || sameb kinds.the_type k kind.Colon)) (first_twins r p t u ts us a).kind) (λ e. tt)
        (record { like = behind_any r (is kind.OpenParenthesis t) (drop (past t) ts) (drop (past u) us) (behind_group r p t u ts us a); left = omega (arith, drop_fewer (past t) ts); right = omega (arith, drop_fewer (past u) us) })

way_value : (r : Kin) → Goes r false over_value
way_value r = way_more r (either_way behind_arguments over_piece) (way_either r true true behind_arguments over_piece (way_arguments r) (way_piece r))

way_field : (r : Kin) → Goes r true over_field
way_field r =
    way_then r false true (perhaps (over (is kind.This) ⨾ over (is kind.Period))) (over is_name)
    (way_perhaps r true (over (is kind.This) ⨾ over (is kind.Period)) (way_then r true true (over (is kind.This)) (over (is kind.Period)) (way_kind r kind.This refl refl) (way_kind r kind.Period refl refl)))
    (way_over r is_name (name_marks r.moves))

way_declared : (r : Kin) → Goes r true over_declared
way_declared r = way_either r true true (over_type 200 ⨾ over_field) over_field (way_then r true true (over_type 200) over_field (way_type r 200) (way_field r)) (way_field r)

way_untyped : (r : Kin) → Goes r true over_untyped
way_untyped r =
    way_then r true true over_field (perhaps (over (is kind.Equals) ⨾ over_value) ⨾ over (is kind.Comma)) (way_field r)
    (way_then r false true (perhaps (over (is kind.Equals) ⨾ over_value)) (over (is kind.Comma))
    (way_perhaps r true (over (is kind.Equals) ⨾ over_value) (way_then r true false (over (is kind.Equals)) over_value (way_kind r kind.Equals refl refl) (way_value r))) (way_kind r kind.Comma refl refl))

blind_default : (r : Kin) → Blind r (λ us. option_map_or (λ vs. not (heads kind.Colon vs)) (over_value us) false)
blind_default r = blind_behind_way r false (λ vs. not (heads kind.Colon vs)) over_value (blind_not r (heads kind.Colon) (blind_heads r kind.Colon)) (way_value r)

blind_name_end : (r : Kin) → Blind r heads_name_end
blind_name_end r p ts us a =
    rw (
      blind_end r p ts us a,
      blind_next r (is_either kind.Comma kind.OpenBrace) (λ t u w. rw w.kind refl) p ts us a,
      blind_first r (is kind.Equals) (λ us. option_map_or (λ vs. not (heads kind.Colon vs)) (over_value us) false) (kind_marks r.moves kind.Equals refl refl) (blind_default r) p ts us a,
    ) refl

blind_parameter : (r : Kin) (c : Test Token) → Blind r c → Blind r (heads_parameter c)
blind_parameter r c b p ts us a =
    rw (blind_next r begins_parameter (λ t u w. rw w.kind refl) p ts us a, blind_required r p ts us a, blind_way r c over_declared b (way_declared r) p ts us a) refl

blind_brackets : (r : Kin) → Blind r fills_brackets
blind_brackets r =
    blind_behind_way r false (λ us. at_end us || heads_parameter heads_name_end us) (some_more over_untyped) (blind_or r at_end (heads_parameter heads_name_end) (blind_end r) (blind_parameter r heads_name_end (blind_name_end r))) (way_more r over_untyped (way_untyped r))

blind_optional : (r : Kin) → Blind (inner r) heads_optional
blind_optional r p ts us a =
    let f : Token → Bool = is_either kind.OpenBracket kind.OpenBrace in
    rw (blind_calm r f fills_brackets (λ t u w. rw w.kind refl) (blind_brackets (inner r)) p ts us a, blind_group (inner r) f at_end (λ t u w. rw w.kind refl) (blind_end (inner r)) p ts us a) refl

blind_parentheses : (r : Kin) → Blind (inner r) fills_parentheses
unfolding fills_parentheses
blind_parentheses r p ts us a =
    let s : Kin = inner r in
    rw (blind_end s p ts us a, blind_optional r p ts us a, blind_parameter s (λ us. heads_name_end us || heads_optional us) (blind_or s heads_name_end heads_optional (blind_name_end s) (blind_optional r)) p ts us a) refl

-- what parentheses hold
blind_held : (r : Kin) (c : Test Token) → Blind (inner r) c → Blind r (group_holds (is kind.OpenParenthesis) c)
blind_held r c d p [] [] a = refl
blind_held r c d p [] (u ∷ us) a = one_empty r p u us a
blind_held r c d p (t ∷ ts) [] a = other_empty r p t ts a
blind_held r c d p (t ∷ ts) (u ∷ us) a =
    and_known (is kind.OpenParenthesis t) (is kind.OpenParenthesis u) (c (take t.width ts)) (c (take u.width us)) (ap (λ (k : Kind). sameb kinds.the_type k kind.OpenParenthesis) (first_twins r p t u ts us a).kind)
    (λ e. let brace : is kind.OpenBrace t ≡ false = ap (λ (j : Kind). sameb kinds.the_type j kind.OpenBrace) (is_kind kind.OpenParenthesis t e) in
    d false (take t.width ts) (take u.width us)
    (subst (λ (b : Bool). Like (record { moves = r.moves; freedom = if b then in_braces r.freedom else none }) false (take t.width ts) (take u.width us)) brace (held_in r p t u ts us a (no_body r.freedom p t brace))))

-- Tests of expressions.

pub blind_generic : (r : Kin) → Blind r heads_generic
unfolding heads_generic
blind_generic r =
    blind_first r is_name (λ ts. option_map_or heads_use (behind_arguments ts) false) (name_marks r.moves)
    (blind_way r heads_use behind_arguments (blind_next r (is_either kind.OpenParenthesis kind.Period) (λ t u w. rw w.kind refl)) (way_arguments r))

blind_cast : (r : Kin) → Blind r heads_cast
blind_cast r =
    blind_first r (is kind.As) (either (heads kind.Void) heads_name) (kind_marks r.moves kind.As refl refl)
    (blind_or r (heads kind.Void) heads_name (blind_heads r kind.Void) (blind_heads_name r))

blind_rest : (r : Kin) → Blind r heads_rest
blind_rest r p ts us a = rw (blind_next r goes_on (λ t u w. rw w.kind refl) p ts us a, blind_cast r p ts us a, (sign_alike r p ts us a).0) refl

blind_brace : (r : Kin) (m : Setting) → Blind r (heads_brace m)
blind_brace r setting.Plain = blind_heads r kind.OpenBrace
blind_brace r setting.Listed = blind_heads r kind.OpenBrace
blind_brace r setting.Initializer = blind_group r (is kind.OpenBrace) heads_rest (λ t u w. rw w.kind refl) (blind_rest r)
blind_brace r setting.Default = blind_heads r kind.OpenBrace

blind_heads_body : (r : Kin) (m : Setting) → Blind r (heads_body m)
blind_heads_body r m = blind_or r (heads kind.Arrow) (heads_brace m) (blind_heads r kind.Arrow) (blind_brace r m)

blind_before_body : (r : Kin) (m : Setting) → Blind r (heads_parentheses m)
blind_before_body r setting.Plain = blind_anything r
blind_before_body r setting.Listed = blind_anything r
blind_before_body r setting.Initializer = blind_anything r
blind_before_body r setting.Default = blind_held r fills_parentheses (blind_parentheses r)

pub blind_closure : (r : Kin) (m : Setting) → Blind r (heads_closure m)
blind_closure r m p ts us a = rw (blind_group r (is kind.OpenParenthesis) (heads_body m) (λ t u w. rw w.kind refl) (blind_heads_body r m) p ts us a, blind_before_body r m p ts us a) refl

blind_behind : (r : Kin) (m : Setting) → Blind r (behind_call m)
blind_behind r setting.Plain = blind_anything r
blind_behind r setting.Listed = blind_not r (heads_body setting.Plain) (blind_heads_body r setting.Plain)
blind_behind r setting.Initializer = blind_anything r
blind_behind r setting.Default = blind_anything r

pub blind_call : (r : Kin) (m : Setting) → Blind r (heads_call m)
unfolding heads_call
blind_call r m = blind_way r (group_then (is kind.OpenParenthesis) (behind_call m)) behind_arguments (blind_group r (is kind.OpenParenthesis) (behind_call m) (λ t u w. rw w.kind refl) (blind_behind r m)) (way_arguments r)

blind_tail : (r : Kin) → Blind r heads_tail
blind_tail r = blind_first r (is kind.Function) (next (is_either kind.OpenParenthesis kind.Less)) (kind_marks r.moves kind.Function refl refl) (blind_next r (is_either kind.OpenParenthesis kind.Less) (λ t u w. rw w.kind refl))

blind_choice : (r : Kin) (m : Setting) → Blind r (heads_choice m)
blind_choice r m p ts us a = rw (blind_next r begins_expression (λ t u w. rw w.kind refl) p ts us a, blind_tail r p ts us a, blind_heads r kind.OpenBrace p ts us a, blind_brace r m p ts us a) refl

pub blind_nullable : (r : Kin) (m : Setting) → Blind r (heads_nullable m)
blind_nullable r m = blind_first r (is kind.Question) (λ ts. not (heads_choice m ts)) (kind_marks r.moves kind.Question refl refl) (blind_not r (heads_choice m) (blind_choice r m))
