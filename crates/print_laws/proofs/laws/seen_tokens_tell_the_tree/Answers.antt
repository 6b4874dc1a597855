use Rattle.dart_scan.specs.Scanned.{tokens_of}
use Rattle.grammar.specs.Tokens.{grammar_tokens}
use Rattle.print_laws.proofs.Rising.{text-rises, rises-apart}
use Rattle.print_laws.proofs.Tokens.{tokens-alike, words-alike}
use Rattle.print_laws.proofs.Grammar.{read-agree, read-adjoin}
use Rattle.print_laws.proofs.laws.seen_tokens_tell_the_tree.Goals as goal

pub returns : goal.returns
returns c = record {
  words = words-alike;
  tree = λ in_core text other t u seen.
      let alike = tokens-alike text other seen in
      let r = text-rises text t in
      let s = text-rises other u in
      c.trees_depend_on_adjacency.ensures in_core (grammar_tokens (tokens_of text)) (grammar_tokens (tokens_of other))
      (c.grammar_tokens_rise.ensures.rise (tokens_of text) (rises-apart (tokens_of text) r)) (c.grammar_tokens_rise.ensures.rise (tokens_of other) (rises-apart (tokens_of other) s))
      (read-agree (tokens_of text) (tokens_of other) alike) (read-adjoin (tokens_of text) (tokens_of other) alike r s);
}
