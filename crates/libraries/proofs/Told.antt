-- What is told of each export gives the faults of ambiguous exports.
use Rattle.std.proofs.Common.{◌≡◌, ℕ, ◌+◌, Bool, if◌then◌else◌, List, [], ◌∷◌, ◌++◌, refl}
use Rattle.directives.specs.declared.faults.LibraryFault.{LibraryFault}
use Rattle.directives.specs.declared.faults.LibraryFaultKind.TheVariants.{AmbiguousExport}
use Rattle.element_terms.specs.declared.libraries.LibraryElement.{LibraryElement}
use Rattle.namespaces.specs.declared.elements.Exported.{Exported}
use Rattle.namespaces.specs.BroughtNames.{TellsAmbiguous}
use Rattle.libraries.specs.declared.aims.Aim.{Aim}
use Rattle.libraries.specs.declared.heads.Head.{Head}
use Rattle.libraries.specs.Ambiguous.{ambiguous_fault, ambiguous_from, exports_library, told_fault, told_from}

module _ (heads : List Head) (elements : List LibraryElement) (spaces : List (List Exported)) (element : LibraryElement) (told : List Bool) (tells : TellsAmbiguous elements spaces element told) where
  same_fault : (export : ℕ) (aim : Aim) → told_fault told export aim ≡ ambiguous_fault elements spaces element export aim
  same_fault export aim = λ i. if tells.each export i then record { span = aim.span; kind = AmbiguousExport } ∷ [] else []

  pub told_same : (export : ℕ) (aims : List Aim) → told_from heads told export aims ≡ ambiguous_from heads elements spaces element export aims
  told_same export [] = refl
  told_same export (aim ∷ more) = λ i. if exports_library heads aim then same_fault export aim i ++ told_same (export + 1) more i else told_same export more i
