-- The directives of a unit.
use Rattle.std.specs.Prelude.{ℕ, List, [], ◌∷◌, ◌++◌, Option, Some, None, option_map}
use Rattle.std.specs.Option.{option_to_list}
use Rattle.dart_tree.specs.Tree.{Tree, Trees, Part, no_more, more, absent, present, library_directive, import_directive, export_directive, part_directive, part_of_directive, part_of_library_directive, show_combinator, hide_combinator, listed_name}
use Rattle.dart_tree.specs.Places.{span_of}
use Rattle.dart_tree.specs.declared.places.Span.{Span}
use Rattle.element_terms.specs.declared.combinators.Combinator.{Combinator}
use Rattle.element_terms.specs.declared.combinators.Combinator.TheVariants.{Show, Hide}
use Rattle.directives.specs.declared.directive.Directive.{Directive}
use Rattle.directives.specs.declared.directive.DirectiveForm.{DirectiveForm}
use Rattle.directives.specs.declared.directive.DirectiveForm.TheVariants as form
use Rattle.directives.specs.Uris.{uri_of, word_at}

-- the letters of a name in a list
abbrev pub name_of : (words : List (List ℕ)) → Tree → List ℕ
name_of words (listed_name at word) = word_at words word
name_of words _ = []

-- those of all names
abbrev pub names_of : (words : List (List ℕ)) → Trees → List (List ℕ)
names_of words no_more = []
names_of words (more first rest) = name_of words first ∷ names_of words rest

-- a combinator with its names; there are no others than these two
abbrev pub combinator_of : (words : List (List ℕ)) → Tree → Combinator
combinator_of words (show_combinator at names) = Show (names_of words names)
combinator_of words (hide_combinator at names) = Hide (names_of words names)
combinator_of words _ = Hide []

-- combinators, as they are written
abbrev pub combinators_of : (words : List (List ℕ)) → Trees → List Combinator
combinators_of words no_more = []
combinators_of words (more first rest) = combinator_of words first ∷ combinators_of words rest

-- the prefix of an import, if it has one
abbrev pub prefix_of : (words : List (List ℕ)) → Part → Option (List ℕ)
prefix_of words absent = None
prefix_of words (present name) = Some (name_of words name)

-- the end of the last of these names, or else this one
abbrev pub last_end : ℕ → Trees → ℕ
last_end end no_more = end
last_end end (more first rest) = last_end (span_of first).end rest

-- where a name of several words stands: from the first to the last of these; without any, the whole directive
abbrev pub name_span : Span → Trees → Span
name_span span no_more = span
name_span span (more first rest) = record { start = (span_of first).start; end = last_end (span_of first).end rest }

-- what an item says, if it is a directive
abbrev pub form_of : (words : List (List ℕ)) → Tree → Option DirectiveForm
form_of words (library_directive at names) = Some form.Library
form_of words (import_directive at uri prefix combinators) = Some (form.Import (uri_of words uri) (prefix_of words prefix) (combinators_of words combinators))
form_of words (export_directive at uri combinators) = Some (form.Export (uri_of words uri) (combinators_of words combinators))
form_of words (part_directive at uri) = Some (form.Part (uri_of words uri))
form_of words (part_of_directive at uri) = Some (form.PartOf (uri_of words uri))
form_of words (part_of_library_directive at names) = Some (form.PartOfName (name_span at.span names))
form_of words _ = None

-- an item as a directive, if it is one
abbrev pub directive_of : (words : List (List ℕ)) → Tree → Option Directive
directive_of words item = option_map (λ said. record { span = span_of item; form = said }) (form_of words item)

-- the directives among items, in their order
abbrev pub directives_in : (words : List (List ℕ)) → Trees → List Directive
directives_in words no_more = []
directives_in words (more first rest) = option_to_list (directive_of words first) ++ directives_in words rest
