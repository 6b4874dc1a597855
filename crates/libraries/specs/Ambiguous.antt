-- Ambiguous exports.
use Rattle.std.specs.Prelude.{ℕ, ◌+◌, Bool, true, false, ◌&&◌, List, [], ◌∷◌, ◌++◌, take, if◌then◌else◌, slice_get, slice_index_or, Option, Some, None}
use Rattle.std.specs.Option.{option_map_or}
use Rattle.directives.specs.declared.faults.LibraryFault.{LibraryFault}
use Rattle.directives.specs.declared.faults.LibraryFaultKind.TheVariants.{AmbiguousExport}
use Rattle.element_terms.specs.declared.libraries.LibraryElement.{LibraryElement}
use Rattle.namespaces.specs.declared.elements.Exported.{Exported}
use Rattle.namespaces.specs.Ambiguities.{is_ambiguous}
use Rattle.libraries.specs.declared.aims.Aim.{Aim}
use Rattle.libraries.specs.declared.aims.AimKind.{AimKind}
use Rattle.libraries.specs.declared.aims.AimKind.TheVariants.{Library, Import, Export, Part, PartOf, PartOfName}
use Rattle.libraries.specs.declared.heads.Head.{Head}
use Rattle.libraries.specs.Heads.{is_library_at}

abbrev pub is_export : AimKind → Bool
is_export Library = false
is_export Import = false
is_export Export = true
is_export Part = false
is_export PartOf = false
is_export PartOfName = false

-- an export names a library
abbrev pub exports_to : List Head → AimKind → Option ℕ → Bool
exports_to heads kind None = false
exports_to heads kind (Some place) = is_export kind && is_library_at heads place

abbrev pub exports_library : List Head → Aim → Bool
exports_library heads aim = exports_to heads aim.kind aim.target

-- the export at this place among those of a library is ambiguous, behind those before it
abbrev pub is_ambiguous_at : List LibraryElement → List (List Exported) → LibraryElement → (export : ℕ) → Bool
is_ambiguous_at elements spaces element export = option_map_or (λ e. is_ambiguous elements spaces element (take export element.exports) e) (slice_get element.exports export) false

-- it is said over the URI of the directive
abbrev pub ambiguous_fault : List LibraryElement → List (List Exported) → LibraryElement → (export : ℕ) → Aim → List LibraryFault
ambiguous_fault elements spaces element export aim = if is_ambiguous_at elements spaces element export then record { span = aim.span; kind = AmbiguousExport } ∷ [] else []

-- what is wrong with exports, behind so many others
abbrev pub ambiguous_from : List Head → List LibraryElement → List (List Exported) → LibraryElement → (export : ℕ) → List Aim → List LibraryFault
ambiguous_from heads elements spaces element export [] = []
ambiguous_from heads elements spaces element export (aim ∷ more) =
    if exports_library heads aim
    then ambiguous_fault elements spaces element export aim ++ ambiguous_from heads elements spaces element (export + 1) more
    else ambiguous_from heads elements spaces element export more

-- which exports of a library are ambiguous
abbrev pub ambiguous_faults : List Head → List LibraryElement → List (List Exported) → LibraryElement → List Aim → List LibraryFault
ambiguous_faults heads elements spaces element aims = ambiguous_from heads elements spaces element 0 aims

-- the same, by what is told of each export
abbrev pub told_fault : (told : List Bool) → (export : ℕ) → Aim → List LibraryFault
told_fault told export aim = if slice_index_or told export false then record { span = aim.span; kind = AmbiguousExport } ∷ [] else []

abbrev pub told_from : List Head → (told : List Bool) → (export : ℕ) → List Aim → List LibraryFault
told_from heads told export [] = []
told_from heads told export (aim ∷ more) =
    if exports_library heads aim
    then told_fault told export aim ++ told_from heads told (export + 1) more
    else told_from heads told export more
