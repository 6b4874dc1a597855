use Rattle.std.proofs.Common.{rules, ◌≡◌, ℕ, ◌+◌, ◌<◌, Bool, ◌&&◌, List, [], ◌∷◌, ◌++◌, length, take, get_or, sym, ap, ◌∙◌, subst, arith}
use Rattle.std.specs.List.{list_any}
use Rattle.std.proofs.lemmas.List.{length_push, take_more}
use Rattle.element_terms.specs.declared.libraries.ExportEdge.{ExportEdge}
use Rattle.namespaces.specs.declared.elements.Exported.{Exported}
use Rattle.namespaces.specs.Ambiguities.{clash, clashes_with, is_ambiguous, is_brought, pairs_of}
use Rattle.namespaces.specs.BroughtNames.{AddsClashes, clashes}
use Rattle.namespaces.proofs.Clashing.{Told, all_told, one_told, told_more, told_of}
use Rattle.namespaces.proofs.ambiguities.ambiguous_exports.Goals as goal

pub loop-edge-preserved : goal.loop-edge-preserved
loop-edge-preserved c =
    let libraries = c.args.libraries.now in
    let all = c.args.all.now in
    let library = c.args.library.now in
    let exports = library.exports in
    let i = c.loop-edge.edge-index in
    let e = c.edge-item.result in
    let old = c.loop-edge.before.names in
    let new = c.add_brought.new.names.names in
    let listed : c.as_slice-exports.result.now ≡ exports = c.as_slice-exports.ensures in
    let within : i < length exports = omega (arith, ap (λ (es : List ExportEdge). length es) listed) in
    let read : get_or exports i e ≡ e = search rules in
    let pairs : c.pairs_of-pairs.result.now ≡ pairs_of libraries all e.library = c.pairs_of-pairs.ensures in
    let is : c.has_clash.result ≡ is_ambiguous libraries all library (take i exports) e = c.has_clash.ensures ∙ (ap (λ (ps : List Exported). list_any (λ p. is_brought library e.combinators p && clashes old p) ps) pairs ∙ told_of libraries all library (take i exports) e old c.loop-edge.invariant.tells) in
    let adds : AddsClashes (λ p. clashes_with libraries all library p e) old new = subst (λ (ps : List Exported). AddsClashes (λ p. list_any (λ q. is_brought library e.combinators q && clash p q) ps) old new) pairs c.in_ok-add_brought.ensures in
    let more : take (i + 1) exports ≡ take i exports ++ e ∷ [] = take_more exports i e within ∙ ap (λ (x : ExportEdge). take i exports ++ x ∷ []) read in
    record {
      size = ap (λ (bs : List Bool). length bs) c.in_ok-push.ensures.items ∙ (length_push c.loop-edge.told.items c.has_clash.result ∙ ap (λ (n : ℕ). n + 1) c.loop-edge.invariant.size);
      each = subst (λ (bs : List Bool). Told libraries all library bs) (sym c.in_ok-push.ensures.items) (one_told libraries all library c.loop-edge.told.items i e c.has_clash.result c.loop-edge.invariant.size within (is ∙ ap (is_ambiguous libraries all library (take i exports)) (sym read)) c.loop-edge.invariant.each);
      tells = subst (λ (es : List ExportEdge). (p : Exported) → clashes new p ≡ list_any (clashes_with libraries all library p) es) (sym more) (told_more libraries all library (take i exports) e old new c.loop-edge.invariant.tells adds);
    }

pub returns : goal.returns
returns c =
    let exports = c.args.library.now.exports in
    let listed : length c.as_slice-exports.result.now ≡ length exports = ap (λ (es : List ExportEdge). length es) c.as_slice-exports.ensures in
    let last : c.loop-edge.edge-index ≡ length exports = omega (arith, listed) in
    all_told c.args.libraries.now c.args.all.now c.args.library.now c.loop-edge.told.items (c.loop-edge.invariant.size ∙ last) c.loop-edge.invariant.each
