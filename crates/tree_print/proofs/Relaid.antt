-- Pieces with each gap between two lexemes as one byte of white space.
use Rattle.std.proofs.Common.{◌≡◌, Bool, true, false, ℕ, List, [], ◌∷◌, ◌++◌, if◌then◌else◌, Option, Some, None, ap}
use Rattle.dart_scan.specs.declared.piece.Class.{Class}
use Rattle.dart_scan.specs.declared.piece.Class.TheVariants.{Gap, UnterminatedString}
use Rattle.dart_scan.specs.Pieces.{Spelled}
use Rattle.dart_scan.specs.Scanned.{is_gap}

-- white space behind a lexeme of a class: a line feed behind a string that never ends
abbrev pub separator_byte : Class → ℕ
separator_byte UnterminatedString = 10
separator_byte _ = 32

abbrev pub separator : Class → Spelled
separator class = (Gap, separator_byte class ∷ [])

-- what stands between the lexeme before and the next one
abbrev pub between : (before : Option Class) → (gap : Bool) → List Spelled
between None gap = []
between (Some class) false = []
between (Some class) true = separator class ∷ []

-- Pieces behind a lexeme of a class, if one is before them, and behind a gap or not: the lexemes, with one byte of white space where gaps stood between them.
abbrev pub relaid : (before : Option Class) → (gap : Bool) → List Spelled → List Spelled
relaid before gap [] = []
relaid before gap (piece ∷ more) = if is_gap piece.0 then relaid before true more else between before gap ++ piece ∷ relaid (Some piece.0) false more

pub relaid-gap : (before : Option Class) (gap : Bool) (piece : Spelled) (more : List Spelled) → is_gap piece.0 ≡ true → relaid before gap (piece ∷ more) ≡ relaid before true more
relaid-gap before gap piece more e = ap (λ (s : Bool). if s then relaid before true more else between before gap ++ piece ∷ relaid (Some piece.0) false more) e

pub relaid-lexeme : (before : Option Class) (gap : Bool) (piece : Spelled) (more : List Spelled) → is_gap piece.0 ≡ false
    → relaid before gap (piece ∷ more) ≡ between before gap ++ piece ∷ relaid (Some piece.0) false more
relaid-lexeme before gap piece more e = ap (λ (s : Bool). if s then relaid before true more else between before gap ++ piece ∷ relaid (Some piece.0) false more) e
