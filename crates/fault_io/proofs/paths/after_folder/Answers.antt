use Rattle.std.proofs.Common.{rules, ◌≡◌, false, bytes_eq, refl}
use Rattle.fault_io.specs.Paths.{root}
use Rattle.fault_io.proofs.PathLemmas as lemmas
use Rattle.fault_io.proofs.paths.after_folder.Goals as goal

pub returns-in-Some : goal.returns-in-Some
returns-in-Some c =
    let other : bytes_eq c.args.folder.now root ≡ false = search rules in
    rw (lemmas.after_folder c.args.folder.now c.args.path.now other, ← c.in-Some.ensures) c.after_front-in-Some.ensures

pub returns-in-None : goal.returns-in-None
returns-in-None c =
    let other : bytes_eq c.args.folder.now root ≡ false = search rules in
    rw (lemmas.after_folder c.args.folder.now c.args.path.now other, ← c.in-None.ensures) refl
