-- What directives are about, and which files they name.
use Rattle.std.specs.Prelude.{ℕ, List, map, bytes_eq, position, Option, None, option_and_then}
use Rattle.dart_tree.specs.declared.places.Span.{Span}
use Rattle.load_files.specs.declared.packages.Package.{Package}
use Rattle.directives.specs.declared.directive.Directive.{Directive}
use Rattle.directives.specs.declared.directive.DirectiveForm.{DirectiveForm}
use Rattle.directives.specs.declared.directive.DirectiveForm.TheVariants as form
use Rattle.libraries.specs.declared.aims.Aim.{Aim}
use Rattle.libraries.specs.declared.aims.AimKind.{AimKind}
use Rattle.libraries.specs.declared.aims.AimKind.TheVariants.{Library, Import, Export, Part, PartOf, PartOfName}
use Rattle.libraries.specs.declared.files.SourceFile.{SourceFile}
use Rattle.libraries.specs.Naming.{named_path}

-- what a directive is
abbrev pub aim_kind : DirectiveForm → AimKind
aim_kind form.Library = Library
aim_kind (form.Import uri prefix combinators) = Import
aim_kind (form.Export uri combinators) = Export
aim_kind (form.Part uri) = Part
aim_kind (form.PartOf uri) = PartOf
aim_kind (form.PartOfName name) = PartOfName

-- where the URI of a directive stands, or else the directive itself
abbrev pub aim_span : Span → DirectiveForm → Span
aim_span span form.Library = span
aim_span span (form.Import uri prefix combinators) = uri.span
aim_span span (form.Export uri combinators) = uri.span
aim_span span (form.Part uri) = uri.span
aim_span span (form.PartOf uri) = uri.span
aim_span span (form.PartOfName name) = span

-- the text of the URI of a directive
abbrev pub text_in : DirectiveForm → Option (List ℕ)
text_in form.Library = None
text_in (form.Import uri prefix combinators) = uri.text
text_in (form.Export uri combinators) = uri.text
text_in (form.Part uri) = uri.text
text_in (form.PartOf uri) = uri.text
text_in (form.PartOfName name) = None

-- the place of the file that the URI of a directive names
abbrev pub target_of : List Package → (paths : List (List ℕ)) → (file : List ℕ) → DirectiveForm → Option ℕ
target_of packages paths file said = option_and_then (λ path. position (bytes_eq path) paths) (option_and_then (named_path packages file) (text_in said))

-- what a directive is about
abbrev pub aim_of : List Package → (paths : List (List ℕ)) → (file : List ℕ) → Directive → Aim
aim_of packages paths file directive =
    record { kind = aim_kind directive.form; span = aim_span directive.span directive.form; target = target_of packages paths file directive.form }

-- what those of a file are about
abbrev pub aims_in : List Package → (paths : List (List ℕ)) → SourceFile → List Aim
aims_in packages paths file = map (aim_of packages paths file.path) file.outline.directives
