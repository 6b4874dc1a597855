-- Exports that bring a name for which an earlier export of the library brings another element.
use Rattle.std.specs.Prelude.{ℕ, Bool, ◌&&◌, not, List, [], Option, Some, None, bytes_eq}
use Rattle.std.specs.List.{list_any}
use Rattle.std.specs.Option.{is_none}
use Rattle.dart_types.specs.declared.ids.LibId.{LibId}
use Rattle.element_terms.specs.declared.combinators.Combinator.{Combinator}
use Rattle.element_terms.specs.declared.libraries.LibraryElement.{LibraryElement}
use Rattle.element_terms.specs.declared.libraries.ExportEdge.{ExportEdge}
use Rattle.element_terms.specs.Combinators.{brings}
use Rattle.namespaces.specs.declared.elements.Exported.{Exported}
use Rattle.namespaces.specs.Exports.{place_in, place_of}
use Rattle.namespaces.specs.Meanings.{same_element}
use Rattle.namespaces.specs.Namespaces.{pairs_at}

-- the pairs of the library at a place, if there is one
abbrev pub pairs_if : List (List Exported) → Option ℕ → List Exported
pairs_if all None = []
pairs_if all (Some place) = pairs_at all place

-- what a library exports that is among libraries
abbrev pub pairs_of : List LibraryElement → List (List Exported) → LibId → List Exported
pairs_of libraries all id = pairs_if all (place_of libraries id)

-- an export brings its library a pair where its combinators let the name pass and the library doesn't declare it
abbrev pub is_brought : LibraryElement → List Combinator → Exported → Bool
is_brought library combinators p = brings combinators p.name && is_none (place_in library p.name)

-- two pairs have one name and two elements
abbrev pub clash : Exported → Exported → Bool
clash p q = bytes_eq p.name q.name && not (same_element p.element q.element)

-- an export brings a pair that has the name of p and another element
abbrev pub clashes_with : List LibraryElement → List (List Exported) → LibraryElement → Exported → ExportEdge → Bool
clashes_with libraries all library p e = list_any (λ q. is_brought library e.combinators q && clash p q) (pairs_of libraries all e.library)

-- an export brings p, and one of these exports a pair that has its name and another element
abbrev pub is_ambiguous_pair : List LibraryElement → List (List Exported) → LibraryElement → List ExportEdge → List Combinator → Exported → Bool
is_ambiguous_pair libraries all library earlier combinators p = is_brought library combinators p && list_any (λ e. clashes_with libraries all library p e) earlier

-- an export behind the earlier ones is ambiguous where it brings a name for which one of these brings another element
abbrev pub is_ambiguous : List LibraryElement → List (List Exported) → LibraryElement → List ExportEdge → ExportEdge → Bool
is_ambiguous libraries all library earlier e = list_any (λ p. is_ambiguous_pair libraries all library earlier e.combinators p) (pairs_of libraries all e.library)
