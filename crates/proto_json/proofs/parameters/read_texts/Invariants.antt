use Rattle.std.proofs.Common.{◌≡◌, ◌++◌, drop, option_map}
use Rattle.serde_json.specs.Find.{as_str}
use Rattle.serde_json.specs.View.{items_view}
use Rattle.proto_json.specs.Parameters.{read_all}
use Rattle.proto_json.proofs.parameters.read_texts.Given as goal

-- all strings are those that were read, and what is read of the rest
abbrev pub invariant-loop-value : goal.invariant-loop-value
invariant-loop-value l = read_all as_str (items_view l.list) ≡ option_map (λ more. l.read.items ++ more) (read_all as_str (items_view (drop l.value-index l.list)))
