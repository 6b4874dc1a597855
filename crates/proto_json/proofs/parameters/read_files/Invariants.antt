use Rattle.std.proofs.Common.{◌≡◌, ◌++◌, option_map}
use Rattle.serde_json.specs.View.{members_view}
use Rattle.proto_json.specs.Parameters.{files_of}
use Rattle.proto_json.proofs.parameters.read_files.Given as goal

-- all files are those that were read, and what is read of the rest
abbrev pub invariant-loop-path : goal.invariant-loop-path
invariant-loop-path l = files_of (members_view l.members.entries) ≡ option_map (λ more. l.read.items ++ more) (files_of (members_view l.path-iterator))
