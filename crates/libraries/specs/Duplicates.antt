-- Names that a library declares more than once.
use Rattle.std.specs.Prelude.{ℕ, Bool, true, false, ◌&&◌, ◌||◌, List, [], ◌∷◌, ◌++◌, bytes_eq, if◌then◌else◌, Option, Some, None}
use Rattle.std.specs.List.{list_any}
use Rattle.element_terms.specs.declared.declarations.DeclaredKind.{DeclaredKind}
use Rattle.element_terms.specs.declared.declarations.DeclaredKind.TheVariants.{Function, Getter, Setter, Variable, FinalVariable, Class, Mixin, Typedef}
use Rattle.directives.specs.declared.declared.DeclaredName.{DeclaredName}
use Rattle.directives.specs.declared.directive.Directive.{Directive}
use Rattle.directives.specs.declared.directive.DirectiveForm.{DirectiveForm}
use Rattle.directives.specs.declared.directive.DirectiveForm.TheVariants as form
use Rattle.directives.specs.declared.faults.LibraryFault.{LibraryFault}
use Rattle.directives.specs.declared.faults.LibraryFaultKind.TheVariants.{DuplicateDefinition}
use Rattle.libraries.specs.declared.duplicates.Taken.{Taken}
use Rattle.libraries.specs.Files.{with_text}

-- a declaration takes the name that is read, unless it is a setter
abbrev pub takes_name : DeclaredKind → Bool
takes_name Function = true
takes_name Getter = true
takes_name Setter = false
takes_name Variable = true
takes_name FinalVariable = true
takes_name Class = true
takes_name Mixin = true
takes_name Typedef = true

-- and that which is written, unless it is a getter or a final variable
abbrev pub takes_setter : DeclaredKind → Bool
takes_setter Function = true
takes_setter Getter = false
takes_setter Setter = true
takes_setter Variable = true
takes_setter FinalVariable = false
takes_setter Class = true
takes_setter Mixin = true
takes_setter Typedef = true

-- no name is declared yet
abbrev pub no_names : Taken
no_names = record { names = []; setters = [] }

-- a declaration takes a name that is taken
abbrev pub is_duplicate : Taken → DeclaredName → Bool
is_duplicate taken d = (takes_name d.kind && list_any (bytes_eq d.name) taken.names) || (takes_setter d.kind && list_any (bytes_eq d.name) taken.setters)

-- what is taken then
abbrev pub with_declared : Taken → DeclaredName → Taken
with_declared taken d = record { names = if takes_name d.kind then with_text taken.names d.name else taken.names; setters = if takes_setter d.kind then with_text taken.setters d.name else taken.setters }

-- a prefix takes both names
abbrev pub with_both : Taken → Option (List ℕ) → Taken
with_both taken None = taken
with_both taken (Some prefix) = record { names = with_text taken.names prefix; setters = with_text taken.setters prefix }

abbrev pub with_prefix : Taken → DirectiveForm → Taken
with_prefix taken form.Library = taken
with_prefix taken (form.Import uri prefix combinators) = with_both taken prefix
with_prefix taken (form.Export uri combinators) = taken
with_prefix taken (form.Part uri) = taken
with_prefix taken (form.PartOf uri) = taken
with_prefix taken (form.PartOfName name) = taken

-- so do those of all directives
abbrev pub with_prefixes : Taken → List Directive → Taken
with_prefixes taken [] = taken
with_prefixes taken (directive ∷ more) = with_prefixes (with_prefix taken directive.form) more

-- a second declaration is a fault, over its name
abbrev pub duplicate_fault : Taken → DeclaredName → List LibraryFault
duplicate_fault taken d = if is_duplicate taken d then record { span = d.span; kind = DuplicateDefinition } ∷ [] else []

-- those among declarations, behind which others stand before
abbrev pub duplicates_in : Taken → List DeclaredName → List LibraryFault
duplicates_in taken [] = []
duplicates_in taken (d ∷ more) = duplicate_fault taken d ++ duplicates_in (with_declared taken d) more

-- what is taken behind declarations
abbrev pub taken_after : Taken → List DeclaredName → Taken
taken_after taken [] = taken
taken_after taken (d ∷ more) = taken_after (with_declared taken d) more
