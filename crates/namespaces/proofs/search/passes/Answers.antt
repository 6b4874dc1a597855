use Rattle.std.proofs.Common.{rules, ◌≡◌, true, false, List, Option, Some, None, slice_get, refl, sym, ap, ◌∙◌}
use Rattle.std.specs.Option.{is_none}
use Rattle.std.proofs.lemmas.Option.{get_or_from_slice_get}
use Rattle.element_terms.specs.declared.libraries.LibraryElement.{LibraryElement}
use Rattle.element_terms.specs.declared.libraries.ExportEdge.{ExportEdge}
use Rattle.element_terms.specs.Combinators.{brings}
use Rattle.namespaces.specs.Exports.{place_in}
use Rattle.namespaces.proofs.LinkLemmas.{answers_pass}
use Rattle.namespaces.proofs.search.passes.Goals as goal

none_is : {A : Type 0} (o : Option A) → is_none o ≡ true → o ≡ None
none_is None h = refl
none_is (Some x) h = (cc h)

pub returns-then-brings : goal.returns-then-brings
returns-then-brings c =
    let libraries = c.args.libraries.now in
    let name = c.args.name.now in
    let link = c.args.link.now in
    let is = c.requires in
    let library : c.index-libraries-link.result ≡ is.exporter = c.index-libraries-link.is ∙ get_or_from_slice_get libraries link.from is.exporter c.index-libraries-link.result is.stands in
    let exports : c.as_slice.result.now ≡ is.exporter.exports = c.as_slice.ensures ∙ ap (λ (l : LibraryElement). l.exports) library in
    let one : c.index-as_slice-link.result ≡ is.edge = c.index-as_slice-link.is ∙ get_or_from_slice_get c.as_slice.result.now link.export is.edge c.index-as_slice-link.result (ap (λ (es : List ExportEdge). slice_get es link.export) exports ∙ is.written) in
    let found : c.declared_place.result ≡ place_in is.exporter name = c.declared_place.ensures ∙ ap (λ (l : LibraryElement). place_in l name) library in
    let answer : c.is_none.result ≡ is_none c.declared_place.result = search rules in
    let brought : brings is.edge.combinators name ≡ true = sym (ap (λ (e : ExportEdge). brings e.combinators name) one) ∙ (sym c.brings.ensures ∙ c.if-brings.true) in
    answers_pass libraries name link is c.is_none.result (λ t. (sym found ∙ none_is c.declared_place.result (sym answer ∙ t), brought)) (λ none passes. answer ∙ (ap is_none found ∙ ap is_none none))

pub returns : goal.returns
returns c =
    let libraries = c.args.libraries.now in
    let name = c.args.name.now in
    let link = c.args.link.now in
    let is = c.requires in
    let library : c.index-libraries-link.result ≡ is.exporter = c.index-libraries-link.is ∙ get_or_from_slice_get libraries link.from is.exporter c.index-libraries-link.result is.stands in
    let exports : c.as_slice.result.now ≡ is.exporter.exports = c.as_slice.ensures ∙ ap (λ (l : LibraryElement). l.exports) library in
    let one : c.index-as_slice-link.result ≡ is.edge = c.index-as_slice-link.is ∙ get_or_from_slice_get c.as_slice.result.now link.export is.edge c.index-as_slice-link.result (ap (λ (es : List ExportEdge). slice_get es link.export) exports ∙ is.written) in
    let not_brought : brings is.edge.combinators name ≡ false = sym (ap (λ (e : ExportEdge). brings e.combinators name) one) ∙ (sym c.brings.ensures ∙ c.if-brings.false) in
    answers_pass libraries name link is false (λ t. (cc t)) (λ none passes. (let both = sym not_brought ∙ passes in both))
