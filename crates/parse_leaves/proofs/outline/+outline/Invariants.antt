use Rattle.std.proofs.Common.{◌≡◌, ◌+◌, ◌*◌, length}
use Rattle.dart_tokens.specs.declared.token.Kind.TheVariants as kind
use Rattle.grammar.specs.Tokens.{is}
use Rattle.grammar.specs.Outline.{◌⨾◌, repeated, over, over_tail, over_type}
use Rattle.parse_leaves.specs.Angles.{inside_angles}
use Rattle.parse_leaves.proofs.outline.+outline.Given as goal

abbrev pub decreases-over_type : goal.decreases-over_type
decreases-over_type l = 11 * l.depth

abbrev pub decreases-perhaps_over_bound : goal.decreases-perhaps_over_bound
decreases-perhaps_over_bound l = 11 * l.depth + 1

abbrev pub decreases-over_element : goal.decreases-over_element
decreases-over_element l = 11 * l.depth + 2

abbrev pub decreases-over_next : goal.decreases-over_next
decreases-over_next l = 11 * l.depth + 3

abbrev pub decreases-over_more : goal.decreases-over_more
decreases-over_more l = 11 * l.depth + 4

abbrev pub decreases-over_angles : goal.decreases-over_angles
decreases-over_angles l = 11 * l.depth + 5

abbrev pub decreases-perhaps_over_angles : goal.decreases-perhaps_over_angles
decreases-perhaps_over_angles l = 11 * l.depth + 6

abbrev pub decreases-over_tail : goal.decreases-over_tail
decreases-over_tail l = 11 * l.depth + 7

abbrev pub decreases-over_plain : goal.decreases-over_plain
decreases-over_plain l = 11 * l.depth + 7

abbrev pub decreases-over_tails : goal.decreases-over_tails
decreases-over_tails l = 11 * l.depth + 8

abbrev pub decreases-over_first : goal.decreases-over_first
decreases-over_first l = 11 * l.depth + 8

abbrev pub decreases-over_type_within : goal.decreases-over_type_within
decreases-over_type_within l = 11 * l.depth + 9

abbrev pub invariant-over_more-loop-more : goal.invariant-over_more-loop-more
invariant-over_more-loop-more l = record {
  kept : repeated (length l.tokens) (over (is kind.Comma) ⨾ inside_angles l.angles (over_type l.depth)) l.tokens ≡ repeated l.more (over (is kind.Comma) ⨾ inside_angles l.angles (over_type l.depth)) l.rest;
}

abbrev pub decreases-over_more-loop-more : goal.decreases-over_more-loop-more
decreases-over_more-loop-more l = l.more

abbrev pub invariant-over_tails-loop-more : goal.invariant-over_tails-loop-more
invariant-over_tails-loop-more l = record {
  kept : repeated (length l.tokens) (over_tail (over_type l.depth)) l.tokens ≡ repeated l.more (over_tail (over_type l.depth)) l.rest;
}

abbrev pub decreases-over_tails-loop-more : goal.decreases-over_tails-loop-more
decreases-over_tails-loop-more l = l.more
