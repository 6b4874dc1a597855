-- The parts of libraries.
use Rattle.std.specs.Prelude.{ℕ, Bool, true, false, ◌&&◌, List, [], ◌∷◌, ◌++◌, fold, nat_eq, slice_index_or, if◌then◌else◌, Option, Some, None}
use Rattle.std.specs.List.{list_any}
use Rattle.libraries.specs.declared.aims.Aim.{Aim}
use Rattle.libraries.specs.declared.aims.AimKind.{AimKind}
use Rattle.libraries.specs.declared.aims.AimKind.TheVariants.{Library, Import, Export, Part, PartOf, PartOfName}
use Rattle.libraries.specs.declared.heads.Head.{Head}
use Rattle.libraries.specs.declared.parts.Home.{Home}
use Rattle.libraries.specs.declared.parts.Home.TheVariants as home
use Rattle.libraries.specs.Heads.{claims, head_at, is_library_at, same_place}

abbrev pub is_part : AimKind → Bool
is_part Part = true
is_part Library = false
is_part Import = false
is_part Export = false
is_part PartOf = false
is_part PartOfName = false

-- what a directive of a library names is a part of it where the file claims the library
abbrev pub claimed : List Head → (library : ℕ) → Option ℕ → Option ℕ
claimed heads library None = None
claimed heads library (Some place) = if claims heads library place then Some place else None

-- the part that a directive of a library names
abbrev pub part_at : List Head → (library : ℕ) → Aim → Option ℕ
part_at heads library aim = if is_part aim.kind then claimed heads library aim.target else None

-- these places and one more, unless it is among them
abbrev pub with_place : List ℕ → ℕ → List ℕ
with_place places place = if list_any (nat_eq place) places then places else places ++ place ∷ []

abbrev pub with_place_if : List ℕ → Option ℕ → List ℕ
with_place_if places None = places
with_place_if places (Some place) = with_place places place

abbrev pub with_part : List Head → (library : ℕ) → List ℕ → Aim → List ℕ
with_part heads library places aim = with_place_if places (part_at heads library aim)

-- the files of a library: its own, and its parts in the order in which it first lists them
abbrev pub units_of : List Head → (library : ℕ) → List Aim → List ℕ
units_of heads library aims = fold (with_part heads library) (library ∷ []) aims

-- a directive lists the file at a place as a part
abbrev pub is_part_to : (place : ℕ) → Aim → Bool
is_part_to place aim = is_part aim.kind && same_place aim.target place

abbrev pub lists : (place : ℕ) → List Aim → Bool
lists place aims = list_any (is_part_to place) aims

-- the library at a place lists the file at another
abbrev pub listed_by : List Head → List (List Aim) → (library place : ℕ) → Bool
listed_by heads all library place = is_library_at heads library && lists place (slice_index_or all library [])

-- a part belongs to the library that it claims, if that lists it
abbrev pub home_by : List Head → List (List Aim) → (place : ℕ) → Option ℕ → Home
home_by heads all place None = home.Homeless
home_by heads all place (Some library) = if listed_by heads all library place then home.PartOf library else home.Homeless

-- what the file at a place is among the libraries
abbrev pub home_of : List Head → List (List Aim) → (place : ℕ) → Home
home_of heads all place = if (head_at heads place).is_library then home.Library else home_by heads all place (head_at heads place).claim
