-- The table by which a segment of a text that derives nothing is told: by what it is known that a construct of Dart stands there which the language leaves out.
use Rattle.std.specs.Prelude.{ℕ, zero, suc, Bool, false, ◌&&◌, List, [], ◌∷◌, ◌++◌, Option, Some, None, drop, if◌then◌else◌}
use Rattle.dart_tokens.specs.declared.token.Kind.{Kind}
use Rattle.dart_tokens.specs.declared.token.Kind.TheVariants as kind
use Rattle.readings.specs.Readings.{Test, next, either}
use Rattle.dart_tokens.specs.declared.grouped_token.GroupedToken.{GroupedToken as Token}
use Rattle.grammar.specs.Tokens.{is, is_either, is_name, heads, first_then, group_then, adjoins}
use Rattle.segment_faults.specs.declared.fault.SegmentFault.{SegmentFault}
use Rattle.segment_faults.specs.declared.fault.SegmentFault.TheVariants as fault

-- Signs.

-- a sign: it fits, or doesn't, at a place of a text, in a segment whose first token stands at another
abbrev pub Sign : Type 0
Sign = (text : List Token) → (first place : ℕ) → Bool

-- the tokens from the place on pass
abbrev pub ahead : Test Token → Sign
ahead c text first place = c (drop place text)

-- a token of the kind stands at the place
abbrev pub one : Kind → Sign
one k = ahead (heads k)

-- the token before the place passes
abbrev pub behind : (Token → Bool) → Sign
behind f text first zero = false
behind f text first (suc before) = next f (drop before text)

-- the segment begins with a token that passes
abbrev pub begun : (Token → Bool) → Sign
begun f text first place = next f (drop first text)

infixr 6 ◌and◌
-- two signs fit
abbrev pub ◌and◌ : Sign → Sign → Sign
(s and u) text first place = s text first place && u text first place

-- Forms.

-- `>` comes next, right behind a token
abbrev pub one_right_behind : Token → Test Token
one_right_behind t [] = false
one_right_behind t (u ∷ us) = adjoins t u && is kind.Greater u

-- two `>` come next, right behind a token and one another
abbrev pub two_right_behind : Token → Test Token
two_right_behind t [] = false
two_right_behind t (u ∷ us) = adjoins t u && is kind.Greater u && one_right_behind u us

-- three `>` come next, right behind one another
abbrev pub triple_shift : Test Token
triple_shift [] = false
triple_shift (t ∷ ts) = is kind.Greater t && two_right_behind t ts

-- 'class' identifier '='
abbrev pub mixin_application : Test Token
mixin_application = first_then (is kind.Class) (first_then is_name (heads kind.Equals))

-- parameters '='
abbrev pub parameters_equals : Test Token
parameters_equals = group_then (is kind.OpenParenthesis) (heads kind.Equals)

-- 'factory' identifier ('.' identifier)? parameters '='
abbrev pub redirecting_factory : Test Token
redirecting_factory = first_then (is kind.Factory) (first_then is_name (either parameters_equals (first_then (is kind.Period) (first_then is_name parameters_equals))))

-- identifier ':' 'case'
abbrev pub continue_case : Test Token
continue_case = first_then is_name (first_then (is kind.Colon) (heads kind.Case))

-- The table.

-- a row: a sign, and what is wrong where it fits
abbrev pub Row : Type 0
Row = Sign × SegmentFault

-- words
abbrev pub words : List Row
words =
    (one kind.Late, fault.Late)
    ∷ (one kind.External, fault.External)
    ∷ (one kind.Covariant, fault.Covariant)
    ∷ (one kind.Const, fault.Const)
    ∷ (one kind.Enum, fault.Enum)
    ∷ (one kind.Extension, fault.Extension)
    ∷ (one kind.Assert, fault.Assert)
    ∷ (one kind.Deferred, fault.Deferred)
    ∷ []

-- the words of asynchronous code
abbrev pub asynchronous : List Row
asynchronous =
    (one kind.Async, fault.Async)
    ∷ (one kind.Await, fault.Async)
    ∷ (one kind.Sync, fault.Async)
    ∷ (one kind.Yield, fault.Async)
    ∷ []

-- other lexemes: `if` and `for` are elements behind `[` or `,`
abbrev pub lexemes : List Row
lexemes =
    (one kind.Double, fault.Double)
    ∷ (one kind.PeriodPeriodPeriod, fault.CollectionElement)
    ∷ (ahead (next (is_either kind.If kind.For)) and behind (is_either kind.OpenBracket kind.Comma), fault.CollectionElement)
    ∷ (one kind.Hash, fault.Symbol)
    ∷ (one kind.At, fault.Annotation)
    ∷ []

-- forms of several lexemes, and `typedef`, which may be a label too
abbrev pub forms : List Row
forms =
    (ahead triple_shift, fault.TripleShift)
    ∷ (one kind.If and begun (is_either kind.Import kind.Export), fault.ConditionalUri)
    ∷ (ahead mixin_application, fault.MixinApplication)
    ∷ (ahead redirecting_factory, fault.RedirectingFactory)
    ∷ (ahead continue_case, fault.ContinueCase)
    ∷ (one kind.Typedef, fault.Typedef)
    ∷ []

abbrev pub table : List Row
table = words ++ asynchronous ++ lexemes ++ forms

-- what is wrong by the first of some rows that fits at a place
abbrev pub row_at : List Row → (text : List Token) → (first place : ℕ) → Option SegmentFault
row_at [] text first place = None
row_at ((sign, fault) ∷ rows) text first place = if sign text first place then Some fault else row_at rows text first place

-- what is wrong at a place
abbrev pub fault_at : (text : List Token) → (first place : ℕ) → Option SegmentFault
fault_at = row_at table
