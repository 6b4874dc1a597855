use Rattle.std.proofs.Common.{◌≡◌}
use Rattle.dart_tokens.specs.declared.token.Kind.TheVariants as kind
use Rattle.grammar.specs.Tokens.{is}
use Rattle.grammar.specs.Descents.{lower, take_separated}
use Rattle.grammar.specs.DeclarationDescents.{take_initializer}
use Rattle.readings.specs.Descent.{take_token, take_at_most, ◌▸◌}
use Rattle.parse_leaves.specs.Loops.{continued}
use Rattle.parse_members.proofs.constructors.initializers.Given as goal

abbrev pub invariant-loop-more : goal.invariant-loop-more
invariant-loop-more g l = record {
  reading : take_separated (take_initializer (lower (g.B.Below.room l.below))) l.tokens ≡ continued l.list.items (take_at_most l.more (take_token (is kind.Comma) ▸ take_initializer (lower (g.B.Below.room l.below))) l.rest);
}

abbrev pub decreases-loop-more : goal.decreases-loop-more
decreases-loop-more g l = l.more
