-- What a grouping holds of the tokens so far.
use Rattle.std.specs.Prelude.{◌≡◌, ℕ, zero, suc, ◌+◌, ◌-◌, Bool, List, [], ◌∷◌, ◌++◌, length, false, if◌then◌else◌}
use Rattle.dart_tokens.specs.declared.token.Token.{Token}
use Rattle.dart_tokens.specs.declared.grouped_token.GroupedToken.{GroupedToken}
use Rattle.dart_tokens.specs.declared.tokens.UnopenedBracket.{UnopenedBracket}
use Rattle.dart_tokens.specs.Groups.{Bracket, Open, is_same}
use Rattle.dart_tokens.specs.Stack.{BeganBefore}
use Rattle.grouping.specs.Ahead.{kinds_of, width_ahead, is_closed_ahead, sized, read_ahead, unopened_ahead}

-- the token at a place gets the size of its group
abbrev pub sized_at : (place width : ℕ) → (closed : Bool) → List GroupedToken → List GroupedToken
sized_at place width closed [] = []
sized_at zero width closed (t ∷ ts) = sized t width closed ∷ ts
sized_at (suc place) width closed (t ∷ ts) = t ∷ sized_at place width closed ts

-- The tokens read so far, so many of them, where those that open these groups get the size that the group will have by the tokens ahead. The groups are innermost first, and all kinds of open groups stand beside them.
abbrev pub sized_ahead : (count : ℕ) → List Bracket → (ahead : List Token) → List Open → List GroupedToken → List GroupedToken
sized_ahead count around ahead [] read = read
sized_ahead count around ahead (group ∷ outer) read =
    sized_ahead count around ahead outer
    (sized_at group.place (count - suc group.place + width_ahead (length outer) around ahead) (is_closed_ahead (length outer) around ahead) read)

-- Of these tokens so many are read and these are not, and these groups are open behind them: whatever tokens come, what was found stands before what is ahead.
pub record IsSoFar (tokens : List Token) (read : List GroupedToken) (unopened : List UnopenedBracket) (around : List Open) : Type 0 where
  pub began : BeganBefore (length read) around
  pub all_read : (ahead : List Token) → read_ahead [] (tokens ++ ahead) ≡ sized_ahead (length read) (kinds_of around) ahead around read ++ read_ahead (kinds_of around) ahead
  pub all_unopened : (ahead : List Token) → unopened_ahead 0 [] (tokens ++ ahead) ≡ unopened ++ unopened_ahead (length read) (kinds_of around) ahead

-- The tokens read when one at this place closes the nearest open group of a kind: that group, and those inside it, end there.
abbrev pub closed_at : (end : ℕ) → Bracket → List Open → List GroupedToken → List GroupedToken
closed_at end bracket [] read = read
closed_at end bracket (group ∷ outer) read =
    let now = sized_at group.place (end - suc group.place) (is_same bracket group.bracket) read in
    if is_same bracket group.bracket then now else closed_at end bracket outer now

-- the tokens read when all groups end before a place, and none is closed
abbrev pub ended_at : (end : ℕ) → List Open → List GroupedToken → List GroupedToken
ended_at end [] read = read
ended_at end (group ∷ outer) read = ended_at end outer (sized_at group.place (end - suc group.place) false read)
