-- Laws of what is wrong with libraries.
use Rattle.std.specs.Prelude.{◌≡◌, ◌<◌, ℕ, Bool, true, false, not, ◌&&◌, ◌||◌, List, [], ◌∷◌, length, map, bytes_eq, Option, Some, None}
use Rattle.std.specs.List.{list_any}
use Rattle.directives.specs.declared.declared.DeclaredName.{DeclaredName}
use Rattle.directives.specs.declared.directive.Directive.{Directive}
use Rattle.directives.specs.declared.directive.DirectiveForm.{DirectiveForm}
use Rattle.directives.specs.declared.directive.DirectiveForm.TheVariants as form
use Rattle.element_terms.specs.declared.libraries.LibraryElement.{LibraryElement}
use Rattle.namespaces.specs.declared.elements.Exported.{Exported}
use Rattle.namespaces.specs.Namespaces.{AreNamespaces}
use Rattle.libraries.specs.declared.aims.Aim.{Aim}
use Rattle.libraries.specs.declared.files.SourceFile.{SourceFile}
use Rattle.libraries.specs.declared.heads.Head.{Head}
use Rattle.libraries.specs.Ambiguous.{ambiguous_faults}
use Rattle.libraries.specs.Files.{paths_of}
use Rattle.libraries.specs.Duplicates.{is_duplicate, no_names, taken_after, takes_name, takes_setter, with_prefixes}

-- two declarations take one name: they are of one name, and it isn't so that one is a getter or a final variable and the other a setter
abbrev pub clash : DeclaredName → DeclaredName → Bool
clash d e = bytes_eq d.name e.name && ((takes_name d.kind && takes_name e.kind) || (takes_setter d.kind && takes_setter e.kind))

-- a directive has the prefix of this name
abbrev pub is_prefix_of : List ℕ → Option (List ℕ) → Bool
is_prefix_of name None = false
is_prefix_of name (Some prefix) = bytes_eq name prefix

abbrev pub has_prefix : List ℕ → DirectiveForm → Bool
has_prefix name form.Library = false
has_prefix name (form.Import uri prefix combinators) = is_prefix_of name prefix
has_prefix name (form.Export uri combinators) = false
has_prefix name (form.Part uri) = false
has_prefix name (form.PartOf uri) = false
has_prefix name (form.PartOfName other) = false

-- a declaration takes a name that is taken exactly where an import has a prefix of its name, or a declaration before it clashes with it
abbrev pub DuplicatesAreSecond : Type 0
DuplicatesAreSecond = (directives : List Directive) (earlier : List DeclaredName) (d : DeclaredName) → is_duplicate (taken_after (with_prefixes no_names directives) earlier) d
    ≡ (list_any (λ directive. has_prefix d.name directive.form) directives || list_any (clash d) earlier)

-- no two of these paths are one
abbrev pub are_distinct : List (List ℕ) → Bool
are_distinct [] = true
are_distinct (path ∷ more) = not (list_any (bytes_eq path) more) && are_distinct more

-- where no two files have one path, their paths are all there, each at the place of its file
abbrev pub PathsAreThoseOfFiles : Type 0
PathsAreThoseOfFiles = (files : List SourceFile) → are_distinct (map (λ f. f.path) files) ≡ true → paths_of files ≡ map (λ f. f.path) files

-- any two lists of pairs that are what the libraries export give the same ambiguous exports
abbrev pub OrderIsNoMatter : Type 0
OrderIsNoMatter = (heads : List Head) (elements : List LibraryElement) (spaces others : List (List Exported)) (element : LibraryElement) (aims : List Aim) → AreNamespaces elements spaces → AreNamespaces elements others → ambiguous_faults heads elements spaces element aims ≡ ambiguous_faults heads elements others element aims

-- a library with fewer than two exports has none that is ambiguous, whatever libraries export
abbrev pub FewAreNotAmbiguous : Type 0
FewAreNotAmbiguous = (heads : List Head) (elements : List LibraryElement) (spaces : List (List Exported)) (element : LibraryElement) (aims : List Aim) → length element.exports < 2 → ambiguous_faults heads elements spaces element aims ≡ []
