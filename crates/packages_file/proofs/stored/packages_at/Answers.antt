use Rattle.std.proofs.Common.{◌≡◌, ◌∙◌, List, ℕ, Option, Some, None, Vec, Global, option_map, sym, ap}
use Rattle.load_files.specs.declared.packages.Package.{Package}
use Rattle.packages_file.specs.Stored.{listed_at, packages_at}
use Rattle.packages_file.proofs.stored.packages_at.Goals as goal

pub returns-in_default-clause-listed : goal.returns-in_default-clause-listed
returns-in_default-clause-listed g c =
    (option_map (λ v. v.items) c.in_ok-bytes.field-0, c.in_ok-bytes.ensures.read, ap (λ (found : Option (Vec ℕ Global)). packages_at c.args.file.now (option_map (λ v. v.items) found)) (sym c.in_default.is))

pub returns-clause-listed : goal.returns-clause-listed
returns-clause-listed g c =
    let asked : List ℕ → Option (List Package) = listed_at c.args.file.now in
    let listed : c.in_ok-listed.listed ≡ asked c.in-Some.bytes.items = c.in_ok-listed.ensures ∙ ap asked c.as_slice.ensures.value in
    let given : asked c.in-Some.bytes.items ≡ packages_at c.args.file.now (option_map (λ v. v.items) c.in_ok-bytes.field-0) = ap (λ (found : Option (Vec ℕ Global)). packages_at c.args.file.now (option_map (λ v. v.items) found)) (sym c.in-Some.is) in
    (option_map (λ v. v.items) c.in_ok-bytes.field-0, c.in_ok-bytes.ensures.read, listed ∙ given)
