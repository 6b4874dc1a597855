use Rattle.std.proofs.lemmas.Bool.{false≢true}
use Rattle.proto_json.proofs.RequestLemmas.{line_data-read, line_data-unread}
use Rattle.proto_json.proofs.request.parse.Goals as goal

pub returns-in-Ok : goal.returns-in-Ok
returns-in-Ok c = line_data-read _ _ c.in-Ok.ensures.ok.0 c.in-Ok.ensures.ok.1

pub returns-in-Err-2 : goal.returns-in-Err-2
returns-in-Err-2 c = line_data-unread _ (c.in-Err.ensures.err (λ memory. false≢true (c.if-is_memory.ensures.1 memory)))
