-- The marks of punctuation.
use Rattle.std.specs.Prelude.{ℕ, List, [], ◌∷◌, length, codes, nat_eq, if◌then◌else◌, Option, None, Some}
use Rattle.std.specs.List.{starts_with}
use Rattle.dart_tokens.specs.declared.token.Kind.{Kind}
use Rattle.dart_tokens.specs.declared.token.Kind.TheVariants as kind

-- the marks, longer ones before shorter ones; `>` is always a mark by itself
abbrev pub marks : List (List ℕ × Kind)
marks =
    (codes "...", kind.PeriodPeriodPeriod) ∷ (codes "?..", kind.QuestionPeriodPeriod) ∷ (codes "??=", kind.QuestionQuestionEquals) ∷
    (codes "<<=", kind.LessLessEquals) ∷ (codes "~/=", kind.TildeSlashEquals) ∷ (codes "..", kind.PeriodPeriod) ∷ (codes "?.", kind.QuestionPeriod) ∷
    (codes "?[", kind.QuestionBracket) ∷ (codes "??", kind.QuestionQuestion) ∷ (codes "==", kind.EqualsEquals) ∷ (codes "=>", kind.Arrow) ∷
    (codes "!=", kind.BangEquals) ∷ (codes "<=", kind.LessEquals) ∷ (codes "<<", kind.LessLess) ∷ (codes "++", kind.PlusPlus) ∷
    (codes "+=", kind.PlusEquals) ∷ (codes "--", kind.MinusMinus) ∷ (codes "-=", kind.MinusEquals) ∷ (codes "*=", kind.StarEquals) ∷
    (codes "/=", kind.SlashEquals) ∷ (codes "~/", kind.TildeSlash) ∷ (codes "%=", kind.PercentEquals) ∷ (codes "&&", kind.AmpersandAmpersand) ∷
    (codes "&=", kind.AmpersandEquals) ∷ (codes "||", kind.BarBar) ∷ (codes "|=", kind.BarEquals) ∷ (codes "^=", kind.CaretEquals) ∷
    (codes "(", kind.OpenParenthesis) ∷ (codes ")", kind.CloseParenthesis) ∷ (codes "[", kind.OpenBracket) ∷ (codes "]", kind.CloseBracket) ∷
    (codes "{", kind.OpenBrace) ∷ (codes "}", kind.CloseBrace) ∷ (codes ",", kind.Comma) ∷ (codes ";", kind.Semicolon) ∷ (codes ":", kind.Colon) ∷
    (codes ".", kind.Period) ∷ (codes "?", kind.Question) ∷ (codes "=", kind.Equals) ∷ (codes "!", kind.Bang) ∷ (codes "<", kind.Less) ∷
    (codes ">", kind.Greater) ∷ (codes "+", kind.Plus) ∷ (codes "-", kind.Minus) ∷ (codes "*", kind.Star) ∷ (codes "/", kind.Slash) ∷
    (codes "~", kind.Tilde) ∷ (codes "%", kind.Percent) ∷ (codes "&", kind.Ampersand) ∷ (codes "|", kind.Bar) ∷ (codes "^", kind.Caret) ∷
    (codes "@", kind.At) ∷ (codes "#", kind.Hash) ∷ []

-- the kind and the length of the first of these marks that a text begins with
abbrev pub first_among : List (List ℕ × Kind) → List ℕ → Option (Kind × ℕ)
first_among [] text = None
first_among (mark ∷ more) text = if starts_with nat_eq text mark.0 then Some (mark.1, length mark.0) else first_among more text

-- the kind and the length of the mark that a text begins with
abbrev pub first_mark : List ℕ → Option (Kind × ℕ)
first_mark text = first_among marks text
