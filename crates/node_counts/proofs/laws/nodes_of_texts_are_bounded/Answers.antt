use Rattle.std.proofs.Common.{arith}
use Rattle.grammar.specs.Tokens.{grammar_tokens}
use Rattle.node_counts.proofs.laws.nodes_of_texts_are_bounded.Goals as goal

pub returns : goal.returns
returns c = λ in_core tokens rises.
    let laws = c.grammar_tokens_rise.ensures in
    omega (arith, c.nodes_are_bounded.ensures in_core (grammar_tokens tokens) (laws.rise tokens rises) (laws.hold tokens rises), laws.fewer tokens rises)
