use Rattle.std.proofs.Common.{◌++◌, ◌∷◌, [], ap}
use Rattle.fault_io.specs.Lines.{line_feed}
use Rattle.proto_json.proofs.ReplyLemmas.{errors_text}
use Rattle.proto_json.proofs.laws.errors_are_listed_with_commas.Goals as goal

pub returns : goal.returns
returns c = ap (λ text. text ++ line_feed ∷ []) (errors_text c.args._id.now c.args._rows.now)
