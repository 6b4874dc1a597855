-- Which files are libraries, and which libraries parts claim.
use Rattle.std.specs.Prelude.{ℕ, ◌==◌, Bool, true, false, List, find, slice_index_or, Option, Some, None}
use Rattle.libraries.specs.declared.aims.Aim.{Aim}
use Rattle.libraries.specs.declared.aims.AimKind.{AimKind}
use Rattle.libraries.specs.declared.aims.AimKind.TheVariants.{Library, Import, Export, Part, PartOf, PartOfName}
use Rattle.libraries.specs.declared.heads.Head.{Head}

-- a `part of`, with a URI or a name
abbrev pub is_part_of_kind : AimKind → Bool
is_part_of_kind Library = false
is_part_of_kind Import = false
is_part_of_kind Export = false
is_part_of_kind Part = false
is_part_of_kind PartOf = true
is_part_of_kind PartOfName = true

abbrev pub is_part_of : Aim → Bool
is_part_of aim = is_part_of_kind aim.kind

-- a file without a `part of` is a library; else the first one names what it claims to belong to
abbrev pub head_by : Option Aim → Head
head_by None = record { is_library = true; claim = None }
head_by (Some aim) = record { is_library = false; claim = aim.target }

abbrev pub head_of : List Aim → Head
head_of aims = head_by (find is_part_of aims)

-- what there is at a place where no file is
abbrev pub no_head : Head
no_head = record { is_library = false; claim = None }

abbrev pub head_at : List Head → ℕ → Head
head_at heads place = slice_index_or heads place no_head

abbrev pub is_library_at : List Head → ℕ → Bool
is_library_at heads place = (head_at heads place).is_library

abbrev pub same_place : Option ℕ → ℕ → Bool
same_place None place = false
same_place (Some other) place = other == place

-- the first `part of` of the file at a place names the file of a library
abbrev pub claims : List Head → (library place : ℕ) → Bool
claims heads library place = same_place (head_at heads place).claim library
