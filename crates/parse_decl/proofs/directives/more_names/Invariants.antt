use Rattle.std.proofs.Common.{◌≡◌}
use Rattle.readings.specs.Elements.{preceded}
use Rattle.dart_tokens.specs.declared.token.Kind.TheVariants as kind
use Rattle.grammar.specs.Tokens.{is, is_name}
use Rattle.readings.specs.Descent.{take_token, take_many, take_at_most, ◌▸◌}
use Rattle.parse_decl.proofs.directives.more_names.Given as goal

abbrev pub invariant-loop-more : goal.invariant-loop-more
invariant-loop-more l = take_many (take_token (is kind.Period) ▸ take_token is_name) l.tokens ≡ preceded l.list.items (take_at_most l.more (take_token (is kind.Period) ▸ take_token is_name) l.rest)

abbrev pub decreases-loop-more : goal.decreases-loop-more
decreases-loop-more l = l.more
