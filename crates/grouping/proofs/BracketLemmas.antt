-- The kinds of brackets in the code, and a bracket that closes a group further out.
use Rattle.std.proofs.Common.{◌≡◌, Bool, true, false, List, ◌∷◌, Some, None, if◌then◌else◌, is_some, refl}
use denote.Enum.Bare.{sameb}
use Rattle.dart_tokens.specs.contracts.bracket.Bracket.{the_type}
use Rattle.dart_tokens.specs.declared.bracket.Bracket.{Bracket as BracketWord}
use Rattle.dart_tokens.specs.declared.bracket.Bracket.TheVariants as word
use Rattle.dart_tokens.specs.Groups.{Bracket, Interpolation, Open, is_same, nearest, behind_closed}
use Rattle.dart_tokens.specs.Stack.{bracket_of, is_closable}

-- the test of the code for equal kinds
pub same_bracket : (a b : BracketWord) → sameb the_type a b ≡ is_same (bracket_of b) (bracket_of a)
same_bracket word.Round word.Round = refl
same_bracket word.Round _ = refl
same_bracket word.Square word.Square = refl
same_bracket word.Square _ = refl
same_bracket word.Curly word.Curly = refl
same_bracket word.Curly _ = refl
same_bracket word.Interpolation word.Interpolation = refl
same_bracket word.Interpolation _ = refl

-- A bracket that can close a group, and doesn't close the innermost, closes the same one once that has ended.
pub record ClosesFurtherOut (bracket : Bracket) (group : Open) (outer : List Open) : Type 0 where
  pub closable : is_closable bracket outer ≡ true
  pub behind : behind_closed bracket (group ∷ outer) ≡ behind_closed bracket outer

pub closes_further_out : (bracket : Bracket) (group : Open) (outer : List Open) → is_closable bracket (group ∷ outer) ≡ true → is_same bracket group.bracket ≡ false → ClosesFurtherOut bracket group outer
closes_further_out bracket group outer can other =
    let border : is_same Interpolation group.bracket ≡ false = no_border (is_same bracket group.bracket) (is_same Interpolation group.bracket) other can in
    record { closable = rw (other, border) at can; behind = rw (other, border) refl }
  where
    no_border : (found border : Bool) → found ≡ false → is_some (if found then Some group.place else (if border then None else nearest bracket outer)) ≡ true → border ≡ false
    no_border true border e h = absurd (cc)
    no_border false true e h = absurd (cc)
    no_border false false e h = refl
