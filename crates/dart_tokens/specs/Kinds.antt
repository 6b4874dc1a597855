-- The sorts of tokens.
use Rattle.std.specs.Prelude.{Bool, true, false, ◌||◌, Option, Some, None}
use Rattle.dart_tokens.specs.declared.token.Kind.{Kind}
use Rattle.dart_tokens.specs.declared.token.Kind.TheVariants as kind

-- the kinds of groups
pub data Bracket : Type 0 where
  Round : Bracket
  Square : Bracket
  Curly : Bracket
  Interpolation : Bracket

-- What a token is for the grammar, whatever its lexeme. Names are identifiers: those that the grammar doesn't name, those that it names, the four of asynchronous code, and the built-in ones, of which two name types.
pub data Sort : Type 0 where
  PlainName : Sort
  GrammarName : Sort
  AsynchronousName : Sort
  BuiltInName : Sort
  BuiltInType : Sort
  ReservedWord : Sort
  Number : Sort
  StringPart : Sort
  Opening : Bracket → Sort
  Closing : Bracket → Sort
  Mark : Sort

-- the sort of a token; `?[` opens a group as `[` does
abbrev pub sort_of : Kind → Sort
sort_of kind.Identifier = PlainName
sort_of kind.Integer = Number
sort_of kind.Double = Number
sort_of kind.StringLiteral = StringPart
sort_of kind.StringOpening = StringPart
sort_of kind.StringPart = StringPart
sort_of kind.StringClosing = StringPart
sort_of kind.UnterminatedString = StringPart
sort_of kind.InterpolationMark = StringPart
sort_of kind.InterpolationOpening = Opening Interpolation
sort_of kind.InterpolationClosing = Closing Interpolation
sort_of kind.Assert = ReservedWord
sort_of kind.Break = ReservedWord
sort_of kind.Case = ReservedWord
sort_of kind.Catch = ReservedWord
sort_of kind.Class = ReservedWord
sort_of kind.Const = ReservedWord
sort_of kind.Continue = ReservedWord
sort_of kind.Default = ReservedWord
sort_of kind.Do = ReservedWord
sort_of kind.Else = ReservedWord
sort_of kind.Enum = ReservedWord
sort_of kind.Extends = ReservedWord
sort_of kind.False = ReservedWord
sort_of kind.Final = ReservedWord
sort_of kind.Finally = ReservedWord
sort_of kind.For = ReservedWord
sort_of kind.If = ReservedWord
sort_of kind.In = ReservedWord
sort_of kind.Is = ReservedWord
sort_of kind.New = ReservedWord
sort_of kind.Null = ReservedWord
sort_of kind.Rethrow = ReservedWord
sort_of kind.Return = ReservedWord
sort_of kind.Super = ReservedWord
sort_of kind.Switch = ReservedWord
sort_of kind.This = ReservedWord
sort_of kind.Throw = ReservedWord
sort_of kind.True = ReservedWord
sort_of kind.Try = ReservedWord
sort_of kind.Var = ReservedWord
sort_of kind.Void = ReservedWord
sort_of kind.While = ReservedWord
sort_of kind.With = ReservedWord
sort_of kind.Abstract = BuiltInName
sort_of kind.As = BuiltInName
sort_of kind.Covariant = BuiltInName
sort_of kind.Deferred = BuiltInName
sort_of kind.Dynamic = BuiltInType
sort_of kind.Export = BuiltInName
sort_of kind.Extension = BuiltInName
sort_of kind.External = BuiltInName
sort_of kind.Factory = BuiltInName
sort_of kind.Function = BuiltInType
sort_of kind.Get = BuiltInName
sort_of kind.Implements = BuiltInName
sort_of kind.Import = BuiltInName
sort_of kind.Interface = BuiltInName
sort_of kind.Late = BuiltInName
sort_of kind.Library = BuiltInName
sort_of kind.Mixin = BuiltInName
sort_of kind.Operator = BuiltInName
sort_of kind.Part = BuiltInName
sort_of kind.Required = BuiltInName
sort_of kind.Set = BuiltInName
sort_of kind.Static = BuiltInName
sort_of kind.Typedef = BuiltInName
sort_of kind.Hide = GrammarName
sort_of kind.Native = GrammarName
sort_of kind.Of = GrammarName
sort_of kind.On = GrammarName
sort_of kind.Show = GrammarName
sort_of kind.Async = AsynchronousName
sort_of kind.Await = AsynchronousName
sort_of kind.Sync = AsynchronousName
sort_of kind.Yield = AsynchronousName
sort_of kind.OpenParenthesis = Opening Round
sort_of kind.CloseParenthesis = Closing Round
sort_of kind.OpenBracket = Opening Square
sort_of kind.CloseBracket = Closing Square
sort_of kind.OpenBrace = Opening Curly
sort_of kind.CloseBrace = Closing Curly
sort_of kind.Comma = Mark
sort_of kind.Semicolon = Mark
sort_of kind.Colon = Mark
sort_of kind.Period = Mark
sort_of kind.PeriodPeriod = Mark
sort_of kind.PeriodPeriodPeriod = Mark
sort_of kind.QuestionPeriod = Mark
sort_of kind.QuestionPeriodPeriod = Mark
sort_of kind.QuestionBracket = Opening Square
sort_of kind.Question = Mark
sort_of kind.QuestionQuestion = Mark
sort_of kind.QuestionQuestionEquals = Mark
sort_of kind.Equals = Mark
sort_of kind.EqualsEquals = Mark
sort_of kind.Arrow = Mark
sort_of kind.Bang = Mark
sort_of kind.BangEquals = Mark
sort_of kind.Less = Mark
sort_of kind.LessEquals = Mark
sort_of kind.LessLess = Mark
sort_of kind.LessLessEquals = Mark
sort_of kind.Greater = Mark
sort_of kind.Plus = Mark
sort_of kind.PlusPlus = Mark
sort_of kind.PlusEquals = Mark
sort_of kind.Minus = Mark
sort_of kind.MinusMinus = Mark
sort_of kind.MinusEquals = Mark
sort_of kind.Star = Mark
sort_of kind.StarEquals = Mark
sort_of kind.Slash = Mark
sort_of kind.SlashEquals = Mark
sort_of kind.Tilde = Mark
sort_of kind.TildeSlash = Mark
sort_of kind.TildeSlashEquals = Mark
sort_of kind.Percent = Mark
sort_of kind.PercentEquals = Mark
sort_of kind.Ampersand = Mark
sort_of kind.AmpersandAmpersand = Mark
sort_of kind.AmpersandEquals = Mark
sort_of kind.Bar = Mark
sort_of kind.BarBar = Mark
sort_of kind.BarEquals = Mark
sort_of kind.Caret = Mark
sort_of kind.CaretEquals = Mark
sort_of kind.At = Mark
sort_of kind.Hash = Mark

-- the group that a token of a sort opens
abbrev pub opened_by : Sort → Option Bracket
opened_by PlainName = None
opened_by GrammarName = None
opened_by AsynchronousName = None
opened_by BuiltInName = None
opened_by BuiltInType = None
opened_by ReservedWord = None
opened_by Number = None
opened_by StringPart = None
opened_by (Opening bracket) = Some bracket
opened_by (Closing bracket) = None
opened_by Mark = None

-- the group that a token of a sort closes
abbrev pub closed_by : Sort → Option Bracket
closed_by PlainName = None
closed_by GrammarName = None
closed_by AsynchronousName = None
closed_by BuiltInName = None
closed_by BuiltInType = None
closed_by ReservedWord = None
closed_by Number = None
closed_by StringPart = None
closed_by (Opening bracket) = None
closed_by (Closing bracket) = Some bracket
closed_by Mark = None

-- a token of the sort is an identifier that may name a type
abbrev pub is_typed : Sort → Bool
is_typed PlainName = true
is_typed GrammarName = true
is_typed AsynchronousName = false
is_typed BuiltInName = false
is_typed BuiltInType = true
is_typed ReservedWord = false
is_typed Number = false
is_typed StringPart = false
is_typed (Opening bracket) = false
is_typed (Closing bracket) = false
is_typed Mark = false

-- a token of the sort is an identifier that names no type
abbrev pub is_typeless : Sort → Bool
is_typeless PlainName = false
is_typeless GrammarName = false
is_typeless AsynchronousName = true
is_typeless BuiltInName = true
is_typeless BuiltInType = false
is_typeless ReservedWord = false
is_typeless Number = false
is_typeless StringPart = false
is_typeless (Opening bracket) = false
is_typeless (Closing bracket) = false
is_typeless Mark = false

-- a token of the sort is a reserved word
abbrev pub is_reserved_sort : Sort → Bool
is_reserved_sort PlainName = false
is_reserved_sort GrammarName = false
is_reserved_sort AsynchronousName = false
is_reserved_sort BuiltInName = false
is_reserved_sort BuiltInType = false
is_reserved_sort ReservedWord = true
is_reserved_sort Number = false
is_reserved_sort StringPart = false
is_reserved_sort (Opening bracket) = false
is_reserved_sort (Closing bracket) = false
is_reserved_sort Mark = false

-- the group that a token opens
abbrev pub opens : Kind → Option Bracket
opens kind = opened_by (sort_of kind)

-- the group that a token closes
abbrev pub closes : Kind → Option Bracket
closes kind = closed_by (sort_of kind)

-- a token is an identifier that may name a type
abbrev pub may_name_a_type : Kind → Bool
may_name_a_type kind = is_typed (sort_of kind)

-- a token is an identifier that names no type
abbrev pub names_no_type : Kind → Bool
names_no_type kind = is_typeless (sort_of kind)

-- a token is an identifier
abbrev pub is_identifier : Kind → Bool
is_identifier kind = may_name_a_type kind || names_no_type kind

-- a token is a reserved word
abbrev pub is_reserved_word : Kind → Bool
is_reserved_word kind = is_reserved_sort (sort_of kind)
