-- What libraries import.
use Rattle.std.specs.Prelude.{ℕ, List, [], ◌∷◌, ◌++◌, drop, slice_get, Option, Some, None}
use Rattle.dart_types.specs.declared.ids.LibId.{LibId}
use Rattle.element_terms.specs.declared.combinators.Combinator.{Combinator}
use Rattle.namespaces.specs.declared.elements.Exported.{Exported}
use Rattle.namespaces.specs.declared.scopes.Import.{Import}
use Rattle.directives.specs.declared.directive.Directive.{Directive}
use Rattle.directives.specs.declared.directive.DirectiveForm.{DirectiveForm}
use Rattle.directives.specs.declared.directive.DirectiveForm.TheVariants as form
use Rattle.libraries.specs.declared.aims.Aim.{Aim}
use Rattle.libraries.specs.declared.heads.Head.{Head}
use Rattle.libraries.specs.Elements.{library_named}

-- what look-up sees of an import: the library, the prefix, the combinators, and what the library exports
abbrev pub Seen : Type 0
Seen = LibId × Option (List ℕ) × List Combinator × List Exported

abbrev pub seen_of : Import → Seen
seen_of i = (i.library, i.prefix, i.combinators, i.exported.value)

-- the import of the library at a place, which exports these names
abbrev pub import_of : (place : ℕ) → Option (List ℕ) → List Combinator → List Exported → Seen
import_of place prefix combinators exported = (record { 0 = place }, prefix, combinators, exported)

-- it is one where it is known what the library exports
abbrev pub import_from : (place : ℕ) → Option (List ℕ) → List Combinator → Option (List Exported) → List Seen
import_from place prefix combinators None = []
import_from place prefix combinators (Some exported) = import_of place prefix combinators exported ∷ []

-- an import of the library at this place, if its URI names one
abbrev pub imported_at : (spaces : List (List Exported)) → Option ℕ → Option (List ℕ) → List Combinator → List Seen
imported_at spaces None prefix combinators = []
imported_at spaces (Some place) prefix combinators = import_from place prefix combinators (slice_get spaces place)

-- the import that a directive is
abbrev pub imported : (spaces : List (List Exported)) → Option ℕ → DirectiveForm → List Seen
imported spaces place (form.Import uri prefix combinators) = imported_at spaces place prefix combinators
imported spaces place form.Library = []
imported spaces place (form.Export uri combinators) = []
imported spaces place (form.Part uri) = []
imported spaces place (form.PartOf uri) = []
imported spaces place (form.PartOfName name) = []

-- the imports among directives, of which it is known what each is about
abbrev pub imports_in : List Head → (spaces : List (List Exported)) → List Directive → List Aim → List Seen
imports_in heads spaces [] aims = []
imports_in heads spaces (directive ∷ more) aims = imported spaces (library_named heads (slice_get aims 0)) directive.form ++ imports_in heads spaces more (drop 1 aims)
