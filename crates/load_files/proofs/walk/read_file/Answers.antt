use Rattle.std.proofs.Common.{◌≡◌, sym, subst, rules, true, false}
use Rattle.load_files.specs.Loads.{Gives}
use Rattle.load_files.specs.Paths.{is_library}
use Rattle.load_files.proofs.Walking.{no_library, no_file, one_file, gives_nothing, gives_file}
use Rattle.load_files.proofs.walk.read_file.Goals as goal

pub returns-then-not-is_library-clause-walked : goal.returns-then-not-is_library-clause-walked
returns-then-not-is_library-clause-walked g c = λ stored is.
    let other : is_library c.args.path.now ≡ false = search rules in
    gives_nothing _ _ _ (no_library stored c.args.path.now other)

pub returns-in-Ok-None-clause-walked : goal.returns-in-Ok-None-clause-walked
returns-in-Ok-None-clause-walked g c = λ stored is. gives_nothing _ _ _ (no_file stored c.args.path.now (sym (rw c.in-Ok-None.field-0-is at c.in-Ok-None.ensures.read stored is)))

pub returns-in-Ok-Some-clause-walked : goal.returns-in-Ok-Some-clause-walked
returns-in-Ok-Some-clause-walked g c = λ stored is.
    let library : is_library c.args.path.now ≡ true = search rules in
    let one = one_file stored c.args.path.now _ library (sym (rw c.in-Ok-Some.field-0-is at c.in-Ok-Some.ensures.read stored is)) in
    subst (Gives c.add.result c.add.new.self.files) (sym (gives_file _ _ c.args.path.now _ _ one)) (rw c.deref.ensures.value at c.add.ensures.added)
