use Rattle.std.proofs.Common.{◌≡◌, ◌++◌, drop, option_map}
use Rattle.serde_json.specs.View.{items_view}
use Rattle.proto_json.specs.Parameters.{read_all, edit_of}
use Rattle.proto_json.proofs.parameters.read_edits.Given as goal

-- all edits are those that were read, and what is read of the rest
abbrev pub invariant-loop-value : goal.invariant-loop-value
invariant-loop-value l = read_all edit_of (items_view l.edits) ≡ option_map (λ more. l.read.items ++ more) (read_all edit_of (items_view (drop l.value-index l.edits)))
