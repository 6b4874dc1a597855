use Rattle.std.proofs.Common.{◌++◌, ◌∷◌, [], ap, ◌∙◌, sym, subst}
use Rattle.proto_json.specs.Replies.{IsOneLine, reply_data}
use Rattle.proto_json.proofs.OneLineLemmas.{IsOneLine-compact_text}
use Rattle.proto_json.proofs.write.write_reply.Goals as goal

pub returns : goal.returns
returns c =
    let exact = c.in_ok-push.ensures.items ∙ ap (λ text. text ++ 10 ∷ []) c.in_ok-line.ensures in
    record { exact = exact; one_line = subst IsOneLine (sym exact) (IsOneLine-compact_text (reply_data c.args.id.now c.args.body.now)) }
