use Rattle.std.proofs.Common.{◌≡◌, ◌++◌, drop, option_map}
use Rattle.serde_json.specs.View.{items_view}
use Rattle.proto_json.specs.Parameters.{read_all}
use Rattle.packages_file.specs.PackagesFile.{package_of}
use Rattle.packages_file.proofs.read.read_list.Given as goal

-- all packages are those that were read, and what is read of the rest
abbrev pub invariant-loop-value : goal.invariant-loop-value
invariant-loop-value l =
    read_all (package_of l.folder) (items_view l.list) ≡ option_map (λ more. l.read.items ++ more) (read_all (package_of l.folder) (items_view (drop l.value-index l.list)))
