use Rattle.std.proofs.Common.{◌≡◌}
use Rattle.dart_tokens.specs.declared.token.Kind.TheVariants as kind
use Rattle.grammar.specs.Tokens.{is, is_name}
use Rattle.grammar.specs.Descents.{take_separated}
use Rattle.readings.specs.Descent.{take_token, take_at_most, ◌▸◌}
use Rattle.parse_leaves.specs.Loops.{continued}
use Rattle.parse_decl.proofs.directives.names.Given as goal

abbrev pub invariant-loop-more : goal.invariant-loop-more
invariant-loop-more l = record {
  reading : take_separated (take_token is_name) l.tokens ≡ continued l.list.items (take_at_most l.more (take_token (is kind.Comma) ▸ take_token is_name) l.rest);
}

abbrev pub decreases-loop-more : goal.decreases-loop-more
decreases-loop-more l = l.more
