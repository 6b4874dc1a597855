-- A few rows, computed.
use Rattle.std.proofs.Common.{◌≡◌, ℕ, true, List, [], ◌∷◌, map, Some, None, refl}
use Rattle.std.specs.Prelude.{codes}
use Rattle.dart_tree.specs.declared.places.Span.{Span}
use Rattle.element_terms.specs.declared.declarations.DeclaredKind.{DeclaredKind}
use Rattle.element_terms.specs.declared.declarations.DeclaredKind.TheVariants.{Getter, Setter, Variable}
use Rattle.directives.specs.declared.declared.DeclaredName.{DeclaredName}
use Rattle.directives.specs.declared.faults.LibraryFaultKind.TheVariants.{DuplicateDefinition, PartMismatch, UriDoesNotExist}
use Rattle.libraries.specs.declared.aims.Aim.{Aim}
use Rattle.libraries.specs.declared.aims.AimKind.TheVariants.{Import, Part, PartOf}
use Rattle.libraries.specs.declared.heads.Head.{Head}
use Rattle.libraries.specs.declared.parts.Home.TheVariants as home
use Rattle.libraries.specs.Duplicates.{duplicates_in, no_names}
use Rattle.libraries.specs.Heads.{head_of}
use Rattle.libraries.specs.LinkFaults.{link_faults}
use Rattle.libraries.specs.Parts.{home_of, units_of}

abbrev range : ℕ → ℕ → Span
range start end = record { start = start; end = end }

-- the files 1 and 2 both list the file 3, which is a part of the file 2, and the first imports a file that isn't there
abbrev first : List Aim
first = record { kind = Import; span = range 7 18; target = None } ∷ record { kind = Part; span = range 24 32; target = Some 3 } ∷ []

abbrev second : List Aim
second = record { kind = Part; span = range 5 13; target = Some 3 } ∷ record { kind = Part; span = range 19 29; target = Some 3 } ∷ []

abbrev all : List (List Aim)
all = [] ∷ first ∷ second ∷ (record { kind = PartOf; span = range 8 16; target = Some 2 } ∷ []) ∷ []

abbrev heads : List Head
heads = map head_of all

-- it is a part of the one that it claims, which has it once
part_of_the_second : home_of heads all 3 ≡ home.PartOf 2
part_of_the_second = refl

units_of_the_second : units_of heads 2 second ≡ 2 ∷ 3 ∷ []
units_of_the_second = refl

-- and no part of the other, over whose directive that is said
units_of_the_first : units_of heads 1 first ≡ 1 ∷ []
units_of_the_first = refl

faults_of_the_first : link_faults heads true 1 first ≡ record { span = range 7 18; kind = UriDoesNotExist } ∷ record { span = range 24 32; kind = PartMismatch } ∷ []
faults_of_the_first = refl

abbrev declared : ℕ → DeclaredKind → DeclaredName
declared start kind = record { span = range start start; name = codes "x"; kind = kind }

-- a getter goes with a setter, and a variable with neither
getter_with_setter : duplicates_in no_names (declared 1 Getter ∷ declared 2 Setter ∷ declared 3 Variable ∷ []) ≡ record { span = range 3 3; kind = DuplicateDefinition } ∷ []
getter_with_setter = refl
