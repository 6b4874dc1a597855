-- What libraries export tells which exports are ambiguous, whatever the order.
use Rattle.std.proofs.Common.{◌≡◌, ℕ, zero, suc, ◌+◌, ◌<◌, Bool, true, false, if◌then◌else◌, List, [], ◌∷◌, ◌++◌, length, take, Option, Some, None, slice_get, refl, ap, ◌∙◌, arith}
use Rattle.std.specs.Option.{option_map_or}
use Rattle.std.proofs.lemmas.Option.{slice_get_within}
use Rattle.directives.specs.declared.faults.LibraryFault.{LibraryFault}
use Rattle.directives.specs.declared.faults.LibraryFaultKind.TheVariants.{AmbiguousExport}
use Rattle.element_terms.specs.declared.libraries.LibraryElement.{LibraryElement}
use Rattle.element_terms.specs.declared.libraries.ExportEdge.{ExportEdge}
use Rattle.namespaces.specs.declared.elements.Exported.{Exported}
use Rattle.namespaces.specs.Ambiguities.{is_ambiguous}
use Rattle.namespaces.specs.AmbiguityLemmas.{ambiguous_in_any_order, first_is_not}
use Rattle.namespaces.specs.Namespaces.{AreNamespaces}
use Rattle.libraries.specs.declared.aims.Aim.{Aim}
use Rattle.libraries.specs.declared.heads.Head.{Head}
use Rattle.libraries.specs.Ambiguous.{ambiguous_fault, ambiguous_faults, ambiguous_from, exports_library, is_ambiguous_at}

-- the fault of one export, by the test of it
fault_if : Aim → Bool → List LibraryFault
fault_if aim ambiguous = if ambiguous then record { span = aim.span; kind = AmbiguousExport } ∷ [] else []

-- the faults of an export and of those behind it, or of those behind another directive
from_one : Bool → (one behind more : List LibraryFault) → List LibraryFault
from_one exports one behind more = if exports then one ++ behind else more

-- what two lists of pairs tell of one element
module _ (elements : List LibraryElement) (spaces others : List (List Exported)) (h : AreNamespaces elements spaces) (k : AreNamespaces elements others) (element : LibraryElement) where
  same_of : (earlier : List ExportEdge) (found : Option ExportEdge) → option_map_or (λ e. is_ambiguous elements spaces element earlier e) found false ≡ option_map_or (λ e. is_ambiguous elements others element earlier e) found false
  same_of earlier None = refl
  same_of earlier (Some e) = ambiguous_in_any_order elements spaces others element earlier e h k

  same_at : (export : ℕ) → is_ambiguous_at elements spaces element export ≡ is_ambiguous_at elements others element export
  same_at export = same_of (take export element.exports) (slice_get element.exports export)

  same_fault : (export : ℕ) (aim : Aim) → ambiguous_fault elements spaces element export aim ≡ ambiguous_fault elements others element export aim
  unfolding fault_if
  same_fault export aim = ap (fault_if aim) (same_at export)

  same_from : (heads : List Head) (export : ℕ) (aims : List Aim) → ambiguous_from heads elements spaces element export aims ≡ ambiguous_from heads elements others element export aims
  unfolding from_one
  same_from heads export [] = refl
  same_from heads export (aim ∷ more) =
      ap (λ (one : List LibraryFault). from_one (exports_library heads aim) one (ambiguous_from heads elements spaces element (export + 1) more) (ambiguous_from heads elements spaces element export more)) (same_fault export aim)
      ∙ (ap (λ (behind : List LibraryFault). from_one (exports_library heads aim) (ambiguous_fault elements others element export aim) behind (ambiguous_from heads elements spaces element export more)) (same_from heads (export + 1) more)
      ∙ ap (λ (rest : List LibraryFault). from_one (exports_library heads aim) (ambiguous_fault elements others element export aim) (ambiguous_from heads elements others element (export + 1) more) rest) (same_from heads export more))

-- any two lists of pairs that are what the libraries export give the same faults
pub ambiguous_in_any_order_of : (heads : List Head) (elements : List LibraryElement) (spaces others : List (List Exported)) (element : LibraryElement) (aims : List Aim) → AreNamespaces elements spaces → AreNamespaces elements others → ambiguous_faults heads elements spaces element aims ≡ ambiguous_faults heads elements others element aims
ambiguous_in_any_order_of heads elements spaces others element aims h k = same_from elements spaces others h k element heads 0 aims

-- a library with fewer than two exports has none that is ambiguous
module _ (elements : List LibraryElement) (spaces : List (List Exported)) (element : LibraryElement) (few : length element.exports < 2) where
  none_of : (export : ℕ) (found : Option ExportEdge) → slice_get element.exports export ≡ found → option_map_or (λ e. is_ambiguous elements spaces element (take export element.exports) e) found false ≡ false
  none_of export None is = refl
  none_of zero (Some e) is = first_is_not elements spaces element e
  none_of (suc export) (Some e) is = (let within = slice_get_within element.exports (suc export) e is in absurd (omega (arith, within, few)))

  no_fault : (export : ℕ) (aim : Aim) → ambiguous_fault elements spaces element export aim ≡ []
  unfolding fault_if
  no_fault export aim = ap (fault_if aim) (none_of export (slice_get element.exports export) refl)

  none_from : (heads : List Head) (export : ℕ) (aims : List Aim) → ambiguous_from heads elements spaces element export aims ≡ []
  unfolding from_one
  none_from heads export [] = refl
  none_from heads export (aim ∷ more) =
      ap (λ (one : List LibraryFault). from_one (exports_library heads aim) one (ambiguous_from heads elements spaces element (export + 1) more) (ambiguous_from heads elements spaces element export more)) (no_fault export aim)
      ∙ (ap (λ (behind : List LibraryFault). from_one (exports_library heads aim) [] behind (ambiguous_from heads elements spaces element export more)) (none_from heads (export + 1) more)
      ∙ (ap (λ (rest : List LibraryFault). from_one (exports_library heads aim) [] [] rest) (none_from heads export more)
      ∙ either (exports_library heads aim)))
    where
      either : (b : Bool) → from_one b [] [] [] ≡ []
      either true = refl
      either false = refl

pub few_are_not_ambiguous : (heads : List Head) (elements : List LibraryElement) (spaces : List (List Exported)) (element : LibraryElement) (aims : List Aim) → length element.exports < 2 → ambiguous_faults heads elements spaces element aims ≡ []
few_are_not_ambiguous heads elements spaces element aims few = none_from elements spaces element few heads 0 aims
