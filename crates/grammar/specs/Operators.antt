-- Operators, as the lexemes that stand for them tell.
use Rattle.std.specs.Prelude.{ℕ, suc, Bool, true, false, ◌&&◌, List, [], ◌∷◌, take, drop, Option, Some, None, option_map, if◌then◌else◌}
use Rattle.std.specs.Option.{option_map_or}
use denote.Enum.Bare.{sameb}
use Rattle.readings.specs.Readings.{Reading, Rule, Test, token, optional, ◌∣◌, turn}
use Rattle.readings.specs.Descent.{Descent}
use Rattle.dart_tokens.specs.declared.token.Kind.{Kind}
use Rattle.dart_tokens.specs.declared.token.Kind.TheVariants as kind
use Rattle.dart_tokens.specs.contracts.token.Kind as kinds
use Rattle.dart_tree.specs.declared.places.Span.{Span}
use Rattle.dart_tree.specs.declared.operators.BinaryOperator.{BinaryOperator}
use Rattle.dart_tree.specs.declared.operators.BinaryOperatorKind.{BinaryOperatorKind}
use Rattle.dart_tree.specs.declared.operators.BinaryOperatorKind.TheVariants.{Multiply, Divide, TruncatingDivide, Modulo, Add, Subtract, ShiftLeft, ShiftRight, BitAnd, BitXor, BitOr, Less, Greater, LessOrEqual, GreaterOrEqual, Equal, NotEqual, And, Or, IfNull}
use Rattle.dart_tree.specs.declared.operators.AssignmentOperator.{AssignmentOperator}
use Rattle.dart_tree.specs.declared.operators.UnaryOperator.{UnaryOperator}
use Rattle.dart_tree.specs.declared.operators.UnaryOperatorKind.{UnaryOperatorKind}
use Rattle.dart_tree.specs.declared.operators.UnaryOperatorKind.TheVariants as unary
use Rattle.dart_tree.specs.declared.operators.PostfixOperator.{PostfixOperator}
use Rattle.dart_tree.specs.declared.operators.PostfixOperatorKind.{PostfixOperatorKind}
use Rattle.dart_tree.specs.declared.operators.PostfixOperatorKind.TheVariants as postfix
use Rattle.dart_tokens.specs.declared.grouped_token.GroupedToken.{GroupedToken as Token}
use Rattle.grammar.specs.declared.level.Level.{Level}
use Rattle.grammar.specs.declared.level.Level.TheVariants as level
use Rattle.grammar.specs.contracts.level.Level as levels_of
use Rattle.grammar.specs.declared.level.Sign.{Sign}
use Rattle.grammar.specs.declared.level.Sign.TheVariants as sign
use Rattle.grammar.specs.Tokens.{is, adjoins, span_of, span_over}

-- the level of each operator between two operands
abbrev pub level_of : BinaryOperatorKind → Level
level_of IfNull = level.IfNull
level_of Or = level.Or
level_of And = level.And
level_of Equal = level.Equality
level_of NotEqual = level.Equality
level_of Less = level.Relation
level_of Greater = level.Relation
level_of LessOrEqual = level.Relation
level_of GreaterOrEqual = level.Relation
level_of BitOr = level.BitOr
level_of BitXor = level.BitXor
level_of BitAnd = level.BitAnd
level_of ShiftLeft = level.Shift
level_of ShiftRight = level.Shift
level_of Add = level.Sum
level_of Subtract = level.Sum
level_of Multiply = level.Product
level_of Divide = level.Product
level_of TruncatingDivide = level.Product
level_of Modulo = level.Product

-- the levels, from the one that binds least on
abbrev pub table : List Level
table =
    level.Conditional ∷ level.IfNull ∷ level.Or ∷ level.And ∷ level.Equality ∷ level.Relation ∷ level.BitOr ∷ level.BitXor ∷ level.BitAnd ∷ level.Shift
    ∷ level.Sum ∷ level.Product ∷ []

-- the operators of one lexeme
abbrev pub signs : List (Kind × Sign)
signs =
    (kind.Star, sign.Binary Multiply) ∷ (kind.Slash, sign.Binary Divide) ∷ (kind.TildeSlash, sign.Binary TruncatingDivide) ∷ (kind.Percent, sign.Binary Modulo)
    ∷ (kind.Plus, sign.Binary Add) ∷ (kind.Minus, sign.Binary Subtract) ∷ (kind.LessLess, sign.Binary ShiftLeft) ∷ (kind.Ampersand, sign.Binary BitAnd)
    ∷ (kind.Caret, sign.Binary BitXor) ∷ (kind.Bar, sign.Binary BitOr) ∷ (kind.Less, sign.Binary Less) ∷ (kind.LessEquals, sign.Binary LessOrEqual)
    ∷ (kind.EqualsEquals, sign.Binary Equal) ∷ (kind.BangEquals, sign.Binary NotEqual) ∷ (kind.AmpersandAmpersand, sign.Binary And)
    ∷ (kind.BarBar, sign.Binary Or) ∷ (kind.QuestionQuestion, sign.Binary IfNull) ∷ (kind.Equals, sign.Assign None)
    ∷ (kind.StarEquals, sign.Assign (Some Multiply)) ∷ (kind.SlashEquals, sign.Assign (Some Divide)) ∷ (kind.TildeSlashEquals, sign.Assign (Some TruncatingDivide))
    ∷ (kind.PercentEquals, sign.Assign (Some Modulo)) ∷ (kind.PlusEquals, sign.Assign (Some Add)) ∷ (kind.MinusEquals, sign.Assign (Some Subtract))
    ∷ (kind.LessLessEquals, sign.Assign (Some ShiftLeft)) ∷ (kind.AmpersandEquals, sign.Assign (Some BitAnd)) ∷ (kind.CaretEquals, sign.Assign (Some BitXor))
    ∷ (kind.BarEquals, sign.Assign (Some BitOr)) ∷ (kind.QuestionQuestionEquals, sign.Assign (Some IfNull)) ∷ []

-- the operator of a kind of lexemes in a list of rows
abbrev pub sign_in : List (Kind × Sign) → Kind → Option Sign
sign_in [] k = None
sign_in (row ∷ rows) k = if sameb kinds.the_type k row.0 then Some row.1 else sign_in rows k

-- `>>=` or `>>`, and how many lexemes it has behind its first
abbrev pub shift_at : Token → List Token → Sign × ℕ
shift_at t [] = (sign.Binary ShiftRight, 1)
shift_at t (u ∷ us) = if adjoins t u && is kind.Equals u then (sign.Assign (Some ShiftRight), 2) else (sign.Binary ShiftRight, 1)

-- `>=`, `>>`, `>>=` or `>`, and how many lexemes it has behind its first: those of one operator stand side by side
abbrev pub greater_at : Token → List Token → Sign × ℕ
greater_at t [] = (sign.Binary Greater, 0)
greater_at t (u ∷ us) =
    if adjoins t u && is kind.Equals u then (sign.Binary GreaterOrEqual, 1)
    else if adjoins t u && is kind.Greater u then shift_at u us else (sign.Binary Greater, 0)

-- the operator that comes next, and how many lexemes it has behind its first
abbrev pub sign_at : List Token → Option (Sign × ℕ)
sign_at [] = None
sign_at (t ∷ ts) = if is kind.Greater t then Some (greater_at t ts) else option_map (λ s. (s, 0)) (sign_in signs t.kind)

-- an operator comes next that passes
abbrev pub heads_sign : (Sign → Bool) → Test Token
heads_sign f ts = option_map_or (λ s. f s.0) (sign_at ts) false

-- the operator is of the level
abbrev pub is_binary : Level → Sign → Bool
is_binary l (sign.Binary operator) = sameb levels_of.the_type (level_of operator) l
is_binary l (sign.Assign compound) = false

-- the operator assigns
abbrev pub is_assignment : Sign → Bool
is_assignment (sign.Binary operator) = false
is_assignment (sign.Assign compound) = true

-- an operator that was found, with its range
abbrev pub read_sign : {A : Type 0} → (Span → Sign → Option A) → List Token → Sign × ℕ → Option (Reading Token A)
read_sign of ts s = option_map (λ a. (a, drop (suc s.1) ts)) (of (span_over (take (suc s.1) ts)) s.0)

-- the operator that comes next, if there is one of a sort
abbrev pub take_sign : {A : Type 0} → (Span → Sign → Option A) → Descent Token A
take_sign of [] = None
take_sign of (t ∷ ts) = option_map_or (read_sign of (t ∷ ts)) (sign_at (t ∷ ts)) None

abbrev pub binary_of : Level → Span → Sign → Option BinaryOperator
binary_of l span (sign.Binary operator) = if sameb levels_of.the_type (level_of operator) l then Some (record { kind = operator; span = span }) else None
binary_of l span (sign.Assign compound) = None

abbrev pub assignment_of : Span → Sign → Option AssignmentOperator
assignment_of span (sign.Binary operator) = None
assignment_of span (sign.Assign compound) = Some (record { compound = compound; span = span })

-- an operator of the level
abbrev pub take_binary : Level → Descent Token BinaryOperator
take_binary l = take_sign (binary_of l)

unfoldable pub binary_rule : Level → Rule Token BinaryOperator
binary_rule l ts = optional (take_binary l ts)

-- an assignment operator: '=' | an operator of `* / ~/ % + - << >> & ^ | ??` and '='
abbrev pub take_assignment : Descent Token AssignmentOperator
take_assignment = take_sign assignment_of

unfoldable pub assignment_rule : Rule Token AssignmentOperator
assignment_rule ts = optional (take_assignment ts)

abbrev pub unary_at : UnaryOperatorKind → Token → UnaryOperator
unary_at which t = record { kind = which; span = span_of t }

-- prefix operator: '-' | '!' | '~' | '++' | '--'
unfoldable pub prefix_rule : Rule Token UnaryOperator
prefix_rule =
    turn (unary_at unary.Negate) (token (is kind.Minus)) ∣ turn (unary_at unary.Not) (token (is kind.Bang)) ∣ turn (unary_at unary.Complement) (token (is kind.Tilde))
    ∣ turn (unary_at unary.Increment) (token (is kind.PlusPlus)) ∣ turn (unary_at unary.Decrement) (token (is kind.MinusMinus))

abbrev pub postfix_at : PostfixOperatorKind → Token → PostfixOperator
postfix_at which t = record { kind = which; span = span_of t }

-- postfix operator: '++' | '--'
unfoldable pub postfix_rule : Rule Token PostfixOperator
postfix_rule =
    turn (postfix_at postfix.Increment) (token (is kind.PlusPlus)) ∣ turn (postfix_at postfix.Decrement) (token (is kind.MinusMinus))
