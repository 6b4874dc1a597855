-- What the stack of open groups stands for.
use Rattle.std.specs.Prelude.{◌≡◌, ℕ, ◌<◌, Bool, true, false, List, [], ◌∷◌, map, reverse, is_some}
use Rattle.dart_tokens.specs.declared.bracket.Bracket.{Bracket as BracketWord}
use Rattle.dart_tokens.specs.declared.bracket.Bracket.TheVariants as word
use Rattle.dart_tokens.specs.declared.open_groups.Open.{Open as OpenWord}
use Rattle.dart_tokens.specs.declared.open_groups.Kinds.{Kinds}
use Rattle.dart_tokens.specs.declared.open_groups.Level.{Level}
use Rattle.dart_tokens.specs.Groups.{Bracket, Round, Square, Curly, Interpolation, Open, nearest}

-- the kind of groups that a value of the code is
abbrev pub bracket_of : BracketWord → Bracket
bracket_of word.Round = Round
bracket_of word.Square = Square
bracket_of word.Curly = Curly
bracket_of word.Interpolation = Interpolation

-- the open group that a value of the code is
abbrev pub open_of : OpenWord → Open
open_of group = record { bracket = bracket_of group.bracket; place = group.place }

-- the kind is among these
abbrev pub is_among : Bracket → Kinds → Bool
is_among Round kinds = kinds.round
is_among Square kinds = kinds.square
is_among Curly kinds = kinds.curly
is_among Interpolation kinds = kinds.interpolation

-- a bracket of the kind closes one of the open groups
abbrev pub is_closable : Bracket → List Open → Bool
is_closable bracket around = is_some (nearest bracket around)

-- the kinds of which a bracket closes one of the open groups
abbrev pub closable : List Open → Kinds
closable around = record {
  round = is_closable Round around;
  square = is_closable Square around;
  curly = is_closable Curly around;
  interpolation = is_closable Interpolation around;
}

-- the kinds that can be closed inside a group, where these can be closed around it
abbrev pub inside : Bracket → Kinds → Kinds
inside Round around = record around { round = true }
inside Square around = record around { square = true }
inside Curly around = record around { curly = true }
inside Interpolation around = record { round = false; square = false; curly = false; interpolation = true }

-- the groups of levels, innermost first, as of levels that are innermost last
abbrev pub groups_of : List Level → List Open
groups_of levels = map (λ level. open_of level.group) (reverse levels)

-- each level, innermost first, has the kinds that can be closed in it
abbrev pub AreTrackedInward : List Level → Type 0
AreTrackedInward [] = Unit {0}
AreTrackedInward (level ∷ outer) = (level.closable ≡ closable (map (λ l. open_of l.group) (level ∷ outer))) × AreTrackedInward outer

-- each level, innermost last, has the kinds that can be closed in it
abbrev pub AreTracked : List Level → Type 0
AreTracked levels = AreTrackedInward (reverse levels)

-- the groups began before a place, each before those inside it
abbrev pub BeganBefore : (place : ℕ) → List Open → Type 0
BeganBefore place [] = Unit {0}
BeganBefore place (group ∷ outer) = (group.place < place) × BeganBefore group.place outer
