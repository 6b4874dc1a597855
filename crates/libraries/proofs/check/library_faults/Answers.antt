use Rattle.std.proofs.Common.{◌≡◌, List, drop, ◌++◌, ◌∙◌, ap}
use Rattle.std.specs.Prelude.{slice_get}
use Rattle.libraries.specs.declared.check.FileFaults.{FileFaults}
use Rattle.libraries.specs.Checks.{aims_at, directives_at, faults_of_units, library_faults}
use Rattle.libraries.specs.Duplicates.{no_names, with_prefixes}
use Rattle.libraries.specs.Parts.{units_of}
use Rattle.libraries.proofs.check.library_faults.Goals as goal

pub loop-place-init : goal.loop-place-init
unfolding library_faults
loop-place-init c =
    let files = c.args.files.now in
    let heads = c.args.heads.now in
    let all = c.args.all.now in
    let library = c.args.library in
    let taken : c.take_prefixes.new.taken ≡ with_prefixes no_names (directives_at (slice_get files library)) =
    c.in_ok-take_prefixes.ensures ∙ (λ i. with_prefixes (c.no_names-taken.ensures i) (c.directives_at.ensures i)) in
    let places : c.as_slice-places.result.now ≡ units_of heads library (aims_at all library) =
    c.as_slice-places.ensures ∙ (c.in_ok-units.ensures ∙ ap (units_of heads library) c.aims_at.ensures) in
    ap (λ (found : List FileFaults). found ++ faults_of_units files heads all library c.take_prefixes.new.taken (drop 0 c.as_slice-places.result.now)) c.new-found.ensures.items
    ∙ (λ i. faults_of_units files heads all library (taken i) (places i))
