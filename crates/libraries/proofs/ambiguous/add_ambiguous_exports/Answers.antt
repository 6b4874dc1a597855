use Rattle.std.proofs.Common.{rules, ◌≡◌, ◌++◌, List, ap, ◌∙◌, subst}
use Rattle.directives.specs.declared.faults.LibraryFault.{LibraryFault}
use Rattle.namespaces.specs.BroughtNames.{TellsAmbiguous}
use Rattle.libraries.proofs.Told.{told_same}
use Rattle.libraries.proofs.ambiguous.add_ambiguous_exports.Goals as goal

pub returns : goal.returns
returns c =
    let tells : TellsAmbiguous c.args.elements.now c.args.spaces.now c.args.element.now c.as_slice.result.now = search rules in
    c.in_ok-add_told.ensures ∙ ap (λ (said : List LibraryFault). c.args.faults.now.items ++ said) (told_same c.args.heads.now c.args.elements.now c.args.spaces.now c.args.element.now c.as_slice.result.now tells 0 c.args.aims.now)
