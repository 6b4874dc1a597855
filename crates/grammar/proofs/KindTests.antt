-- Tests that look at the kind of the next token alone: what they say is found by trying each kind.
use Rattle.std.proofs.Common.{◌≡◌, ℕ, zero, suc, Bool, true, false, ◌&&◌, not, List, [], ◌∷◌, Option, Some, None, if◌then◌else◌, refl}
use denote.Enum.Declared.{tag_of}
use Rattle.readings.specs.Readings.{Rule, Test, nothing}
use Rattle.readings.specs.Descent.{Descent}
use Rattle.readings.specs.Leading.{Apart, Within, Parses}
use Rattle.readings.specs.Combinators.{parses_within}
use Rattle.dart_tokens.specs.declared.token.Kind.{Kind}
use Rattle.dart_tokens.specs.declared.token.Kind.TheVariants as kind
use Rattle.dart_tokens.specs.contracts.token.Kind as kinds_of
use Rattle.dart_tokens.specs.declared.grouped_token.GroupedToken.{GroupedToken as Token}

abbrev kinds : List Kind
kinds =
    kind.Identifier ∷ kind.Integer ∷ kind.Double ∷ kind.StringLiteral ∷ kind.StringOpening ∷ kind.StringPart ∷ kind.StringClosing ∷ kind.UnterminatedString ∷ kind.InterpolationMark ∷ kind.InterpolationOpening ∷ kind.InterpolationClosing ∷ kind.Assert ∷ kind.Break ∷ kind.Case ∷ kind.Catch ∷ kind.Class ∷ kind.Const ∷ kind.Continue ∷ kind.Default ∷ kind.Do ∷ kind.Else ∷ kind.Enum ∷ kind.Extends ∷ kind.False ∷ kind.Final ∷ kind.Finally ∷ kind.For ∷ kind.If ∷ kind.In ∷ kind.Is ∷ kind.New ∷ kind.Null ∷ kind.Rethrow ∷ kind.Return ∷ kind.Super ∷ kind.Switch ∷ kind.This ∷ kind.Throw ∷ kind.True ∷ kind.Try ∷ kind.Var ∷ kind.Void ∷ kind.While ∷ kind.With ∷ kind.Abstract ∷ kind.As ∷ kind.Covariant ∷ kind.Deferred ∷ kind.Dynamic ∷ kind.Export ∷ kind.Extension ∷ kind.External ∷ kind.Factory ∷ kind.Function ∷ kind.Get ∷ kind.Implements ∷ kind.Import ∷ kind.Interface ∷ kind.Late ∷ kind.Library ∷ kind.Mixin ∷ kind.Operator ∷ kind.Part ∷ kind.Required ∷ kind.Set ∷ kind.Static ∷ kind.Typedef ∷ kind.Hide ∷ kind.Native ∷ kind.Of ∷ kind.On ∷ kind.Show ∷ kind.Async ∷ kind.Await ∷ kind.Sync ∷ kind.Yield ∷ kind.OpenParenthesis ∷ kind.CloseParenthesis ∷ kind.OpenBracket ∷ kind.CloseBracket ∷ kind.OpenBrace ∷ kind.CloseBrace ∷ kind.Comma ∷ kind.Semicolon ∷ kind.Colon ∷ kind.Period ∷ kind.PeriodPeriod ∷ kind.PeriodPeriodPeriod ∷ kind.QuestionPeriod ∷ kind.QuestionPeriodPeriod ∷ kind.QuestionBracket ∷ kind.Question ∷ kind.QuestionQuestion ∷ kind.QuestionQuestionEquals ∷ kind.Equals ∷ kind.EqualsEquals ∷ kind.Arrow ∷ kind.Bang ∷ kind.BangEquals ∷ kind.Less ∷ kind.LessEquals ∷ kind.LessLess ∷ kind.LessLessEquals ∷ kind.Greater ∷ kind.Plus ∷ kind.PlusPlus ∷ kind.PlusEquals ∷ kind.Minus ∷ kind.MinusMinus ∷ kind.MinusEquals ∷ kind.Star ∷ kind.StarEquals ∷ kind.Slash ∷ kind.SlashEquals ∷ kind.Tilde ∷ kind.TildeSlash ∷ kind.TildeSlashEquals ∷ kind.Percent ∷ kind.PercentEquals ∷ kind.Ampersand ∷ kind.AmpersandAmpersand ∷ kind.AmpersandEquals ∷ kind.Bar ∷ kind.BarBar ∷ kind.BarEquals ∷ kind.Caret ∷ kind.CaretEquals ∷ kind.At ∷ kind.Hash ∷ []

abbrev all_pass : (Kind → Bool) → List Kind → Bool
all_pass f [] = true
all_pass f (k ∷ ks) = f k && all_pass f ks

abbrev kind_at : List Kind → ℕ → Option Kind
kind_at [] n = None
kind_at (k ∷ ks) zero = Some k
kind_at (k ∷ ks) (suc n) = kind_at ks n

listed_at : (k : Kind) → kind_at kinds (tag_of kinds_of.the_type k) ≡ Some k
listed_at kind.Identifier = refl
listed_at _ = refl

first_passes : (a b : Bool) → (a && b) ≡ true → a ≡ true
first_passes true b e = refl
first_passes false b e = e

rest_passes : (a b : Bool) → (a && b) ≡ true → b ≡ true
rest_passes true b e = e
rest_passes false b e = absurd (cc)

pass_at : (f : Kind → Bool) (ks : List Kind) (n : ℕ) (k : Kind) → kind_at ks n ≡ Some k → all_pass f ks ≡ true → f k ≡ true
pass_at f [] n k at e = absurd (cc)
pass_at f (j ∷ ks) zero k at e = let same : j ≡ k = cc in rw same at (first_passes (f j) (all_pass f ks) e)
pass_at f (j ∷ ks) (suc n) k at e = pass_at f ks n k at (rest_passes (f j) (all_pass f ks) e)

-- the test passes for each kind
abbrev pub every : (Kind → Bool) → Bool
every f = all_pass f kinds

pub every_passes : (f : Kind → Bool) → every f ≡ true → (k : Kind) → f k ≡ true
every_passes f e k = pass_at f kinds (tag_of kinds_of.the_type k) k (listed_at k) e

-- tokens of which the first is one of another kind
abbrev pub of_kind : Kind → Token → List Token → List Token
of_kind k t ts = record t { kind = k } ∷ ts

abbrev pub not_both : (s f : Test Token) → Token → List Token → Kind → Bool
not_both s f t ts k = not (s (of_kind k t ts) && f (of_kind k t ts))

never_both : (a b : Bool) → not (a && b) ≡ true → a ≡ true → b ≡ false
never_both true true e p = absurd (cc)
never_both true false e p = refl
never_both false b e p = absurd (cc)

-- two tests that no kind passes both
pub far : (s f : Test Token) → f [] ≡ false → ((t : Token) (ts : List Token) → every (not_both s f t ts) ≡ true) → Apart s f
far s f none apart [] p = none
far s f none apart (t ∷ ts) p = never_both (s (t ∷ ts)) (f (t ∷ ts)) (every_passes (not_both s f t ts) (apart t ts) t.kind) p

abbrev pub if_one_both : (s u : Test Token) → Token → List Token → Kind → Bool
if_one_both s u t ts k = if s (of_kind k t ts) then u (of_kind k t ts) else true

then_other : (a b : Bool) → (if a then b else true) ≡ true → a ≡ true → b ≡ true
then_other true b e p = e
then_other false b e p = absurd (cc)

-- a test that each kind passes that passes another
pub within : (s u : Test Token) → (if s [] then u [] else true) ≡ true → ((t : Token) (ts : List Token) → every (if_one_both s u t ts) ≡ true) → Within s u
within s u none inside [] p = then_other (s []) (u []) none p
within s u none inside (t ∷ ts) p = then_other (s (t ∷ ts)) (u (t ∷ ts)) (every_passes (if_one_both s u t ts) (inside t ts) t.kind) p

-- the same, where the second test is known of each kind and the first only of those that pass it
abbrev pub if_second : (s f : Test Token) → Token → List Token → Kind → Bool
if_second s f t ts k = not (f (of_kind k t ts) && s (of_kind k t ts))

second_fails : (a b : Bool) → not (b && a) ≡ true → a ≡ true → b ≡ false
second_fails a false e p = refl
second_fails true true e p = absurd (cc)
second_fails false true e p = absurd (cc)

pub far_second : (s f : Test Token) → f [] ≡ false → ((t : Token) (ts : List Token) → every (if_second s f t ts) ≡ true) → Apart s f
far_second s f none apart [] p = none
far_second s f none apart (t ∷ ts) p = second_fails (s (t ∷ ts)) (f (t ∷ ts)) (every_passes (if_second s f t ts) (apart t ts) t.kind) p

-- simpler tests that no token fails which passed the ones found
pub settled : {A : Type 0} {s f : Test Token} {p : Rule Token A} {g : Descent Token A} (u v : Test Token) → Parses s f p g → (if s [] then u [] else true) ≡ true →
    ((t : Token) (ts : List Token) → every (if_one_both s u t ts) ≡ true) → (if f [] then v [] else true) ≡ true → ((t : Token) (ts : List Token) → every (if_one_both f v t ts) ≡ true) → Parses u v p g
settled u v a s stop f first = parses_within u v (within _ _ s stop) (within _ _ f first) a

-- nothing stops before tokens that pass no test
pub still : (f : Test Token) → Apart nothing f
still f ts e = absurd (cc)
