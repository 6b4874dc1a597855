-- What ends a piece of a string.
use Rattle.std.specs.Prelude.{ℕ, ◌≡◌, ◌+◌, ◌≤◌, true, false, List, drop, length, codes}
use Rattle.dart_scan.specs.declared.cut.ending.Ending.{Ending}
use Rattle.dart_scan.specs.declared.cut.ending.Ending.TheVariants.{Quotes, Expression, Name, Never}
use Rattle.dart_scan.specs.Lexemes.{begins}
use Rattle.dart_scan.specs.Strings.{Form, name_size, begins_name}

-- a `$` and a name of so many bytes stand first
pub record Names (text : List ℕ) (count : ℕ) : Type 0 where
  pub no_brace : begins text (codes "${") ≡ false
  pub name : begins_name text ≡ true
  pub size : count ≡ name_size (drop 1 text)
  pub within : 1 + count ≤ length text

-- no interpolation stands first
pub record NoneBegins (text : List ℕ) : Type 0 where
  pub no_brace : begins text (codes "${") ≡ false
  pub no_name : begins_name text ≡ false

-- what stands first is this interpolation, or none
abbrev pub IsInterpolation : List ℕ → Ending → Type 0
IsInterpolation text Quotes = ⊥
IsInterpolation text Expression = begins text (codes "${") ≡ true
IsInterpolation text (Name size) = Names text size
IsInterpolation text Never = NoneBegins text

-- an escaping string goes on with an interpolation, or nothing stands there
pub record Escapes (form : Form) (text : List ℕ) (ending : Ending) : Type 0 where
  pub no_quotes : begins text form.quotes ≡ false
  pub escaping : form.raw ≡ false
  pub interpolation : IsInterpolation text ending

-- nothing ends the piece
pub record IsNever (form : Form) (text : List ℕ) : Type 0 where
  pub no_quotes : begins text form.quotes ≡ false
  pub none : form.raw ≡ false → NoneBegins text

-- the string ends, or goes on with an interpolation, or nothing stands there
abbrev pub IsEnding : Form → List ℕ → Ending → Type 0
IsEnding form text Quotes = begins text form.quotes ≡ true
IsEnding form text Expression = Escapes form text Expression
IsEnding form text (Name size) = Escapes form text (Name size)
IsEnding form text Never = IsNever form text
