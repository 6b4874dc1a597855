use Rattle.std.proofs.Common.{rules, ◌≡◌, List, length, Some, slice_get, refl, ap, subst, arith}
use Rattle.std.proofs.lemmas.Option.{slice_get_read}
use Rattle.element_terms.specs.declared.libraries.ExportEdge.{ExportEdge}
use Rattle.namespaces.specs.Exports.{place_of}
use Rattle.namespaces.specs.Links.{PutsLink}
use Rattle.namespaces.proofs.LinkLemmas.{one_export, all_exports}
use Rattle.namespaces.proofs.links.add_links.Goals as goal

pub loop-export-preserved : goal.loop-export-preserved
loop-export-preserved c =
    let libraries = c.args.libraries.now in
    let exporter = c.index-libraries-from.result in
    let edge = c.index-exports-export.result in
    let stands : slice_get libraries c.args.from ≡ Some exporter = slice_get_read libraries (length libraries) c.args.from exporter refl c.requires.within c.index-libraries-from.is in
    let exports = c.as_slice-exports.result.now in
    let listed : slice_get exports c.loop-export.export ≡ Some edge = slice_get_read exports (length exports) c.loop-export.export edge refl (omega arith) c.index-exports-export.is in
    let written : slice_get exporter.exports c.loop-export.export ≡ Some edge = subst (λ (es : List ExportEdge). slice_get es c.loop-export.export ≡ Some edge) c.as_slice-exports.ensures listed in
    let puts : PutsLink c.args.from c.loop-export.export (place_of libraries edge.library) c.loop-export.links.items c.add_link.new.links.items = search rules in
    one_export libraries c.args.from c.loop-export.export exporter edge stands written (place_of libraries edge.library) c.loop-export.links.items c.add_link.new.links.items refl c.loop-export.invariant puts

pub returns : goal.returns
returns c =
    let libraries = c.args.libraries.now in
    let exporter = c.index-libraries-from.result in
    let stands : slice_get libraries c.args.from ≡ Some exporter = slice_get_read libraries (length libraries) c.args.from exporter refl c.requires.within c.index-libraries-from.is in
    let size : length c.as_slice-exports.result.now ≡ length exporter.exports = ap (λ (es : List ExportEdge). length es) c.as_slice-exports.ensures in
    let end : c.loop-export.export ≡ length exporter.exports = omega arith in
    all_exports libraries c.args.from c.loop-export.export exporter stands c.loop-export.links.items end c.loop-export.invariant
