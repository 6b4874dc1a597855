use Rattle.grammar.specs.Tokens.{grammar_tokens}
use Rattle.place_laws.proofs.laws.nodes_of_texts_stand_in_order.Goals as goal

pub returns : goal.returns
returns c =
    let laws = c.grammar_tokens_rise.ensures in
    let stand = c.nodes_stand_in_order.ensures in
    record {
      tokens = λ in_core tokens rises. stand.tokens in_core (grammar_tokens tokens) (laws.rise tokens rises) (laws.hold tokens rises);
      parts = λ in_core tokens rises. stand.parts in_core (grammar_tokens tokens) (laws.rise tokens rises) (laws.hold tokens rises);
    }
