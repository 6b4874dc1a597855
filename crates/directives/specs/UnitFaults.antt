-- What is wrong with the directives of a unit, whatever other files hold.
use Rattle.std.specs.Prelude.{Bool, true, false, List, [], ◌∷◌, ◌++◌, map, find, Option, Some, None}
use Rattle.dart_tree.specs.declared.places.Span.{Span}
use Rattle.directives.specs.declared.directive.Directive.{Directive}
use Rattle.directives.specs.declared.directive.DirectiveForm.{DirectiveForm}
use Rattle.directives.specs.declared.directive.DirectiveForm.TheVariants as form
use Rattle.directives.specs.declared.outline.Outline.{Outline}
use Rattle.directives.specs.declared.faults.LibraryFault.{LibraryFault}
use Rattle.directives.specs.declared.faults.LibraryFaultKind.TheVariants.{DirectiveOrder, PartOfName}

-- a directive that stands there may not stand there
abbrev pub misplaced_fault : Span → LibraryFault
misplaced_fault span = record { span = span; kind = DirectiveOrder }

-- where the name of a `part of` stands that has no URI
abbrev pub unnamed_form : DirectiveForm → Option Span
unnamed_form (form.PartOfName name) = Some name
unnamed_form form.Library = None
unnamed_form (form.Import uri prefix combinators) = None
unnamed_form (form.Export uri combinators) = None
unnamed_form (form.Part uri) = None
unnamed_form (form.PartOf uri) = None

abbrev pub unnamed : Directive → Option Span
unnamed directive = unnamed_form directive.form

-- that is a fault, over the name
abbrev pub unnamed_faults : Option Span → List LibraryFault
unnamed_faults None = []
unnamed_faults (Some span) = record { span = span; kind = PartOfName } ∷ []

abbrev pub name_fault : Directive → List LibraryFault
name_fault directive = unnamed_faults (unnamed directive)

-- those of all directives
abbrev pub name_faults : List Directive → List LibraryFault
name_faults [] = []
name_faults (directive ∷ more) = name_fault directive ++ name_faults more

-- what is wrong with the directives of a unit of a library: those that stand where they may not, and each `part of` with a name
abbrev pub unit_faults : Outline → List LibraryFault
unit_faults outline = map misplaced_fault outline.misplaced ++ name_faults outline.directives

-- a directive is a `part of`
abbrev pub is_part_of_form : DirectiveForm → Bool
is_part_of_form (form.PartOfName name) = true
is_part_of_form (form.PartOf uri) = true
is_part_of_form form.Library = false
is_part_of_form (form.Import uri prefix combinators) = false
is_part_of_form (form.Export uri combinators) = false
is_part_of_form (form.Part uri) = false

abbrev pub is_part_of : Directive → Bool
is_part_of directive = is_part_of_form directive.form

-- the first `part of` has a name
abbrev pub first_name_fault : Option Directive → List LibraryFault
first_name_fault None = []
first_name_fault (Some directive) = name_fault directive

-- what is wrong with the directives of a part that belongs to no library: its `part of` has a name
abbrev pub homeless_faults : Outline → List LibraryFault
homeless_faults outline = first_name_fault (find is_part_of outline.directives)
