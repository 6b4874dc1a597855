-- What the laws say of the bytes of the text they say of the text.
use Rattle.std.proofs.Common.{◌≡◌}
use Rattle.dart_scan.specs.Scanned.{tokens_of}
use Rattle.dart_parse.proofs.Numbers.{fit}
use Rattle.dart_parse.proofs.unit.few_nodes.Goals as goal

pub returns : goal.returns
returns c =
    let same : c.as_bytes.result.now ≡ c.args.text.now = let a = c.as_str.ensures.same in let b = c.as_bytes.ensures.value in cc in
    fit c.args.text.now c.as_bytes.result.now c.args.in_core c.args.tokens.now c.args.tree.now same c.requires.tokens c.requires.few c.requires.tree
    (c.nodes_of_texts_are_bounded.ensures c.args.in_core (tokens_of c.as_bytes.result.now) (c.tokens_rise.ensures.some c.as_bytes.ensures.utf8, c.tokens_rise.ensures.apart c.as_bytes.ensures.utf8))
