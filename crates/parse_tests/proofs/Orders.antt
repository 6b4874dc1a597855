-- Tokens in the order of their starts.
use Rattle.std.proofs.Common.{◌≡◌, ℕ, ◌+◌, ◌-◌, ◌≤◌, ◌<◌, List, length, get_or, ◌∙◌, subst, arith}
use Rattle.std.specs.List.{AllAdjacentBelow}
use Rattle.std.specs.List.Sorted.{IsNonDecreasingBy}
use Rattle.std.proofs.lemmas.List.{get_or_default}
use Rattle.std.proofs.lemmas.List.Sorted.{all_adjacent_more, IsNonDecreasingBy-from_all_adjacent}
use Rattle.dart_tokens.specs.declared.grouped_token.GroupedToken.{GroupedToken as Token}

-- one begins where the other does, or earlier
abbrev pub IsBefore : Token → Token → Type 0
IsBefore x y = x.start ≤ y.start

-- where the next one is in order too, one more is
pub in_order_next : (place : ℕ) (tokens : List Token) (a b : Token) → 1 ≤ place → place < length tokens → a ≡ get_or tokens (place - 1) a → b ≡ get_or tokens place b → IsBefore a b
    → AllAdjacentBelow IsBefore tokens place → AllAdjacentBelow IsBefore tokens (place + 1)
in_order_next place tokens a b one within first second before so_far =
    all_adjacent_more tokens IsBefore place one so_far
    (λ d.
    let f : a ≡ get_or tokens (place - 1) d = first ∙ get_or_default tokens (place - 1) a d (omega arith) in
    let s : b ≡ get_or tokens place d = second ∙ get_or_default tokens place b d within in
    subst (λ (y : Token). IsBefore (get_or tokens (place - 1) d) y) s (subst (λ (x : Token). IsBefore x b) f before))

-- where neighbours are in order up to a place behind the last, all are
pub in_order_at_end : (place : ℕ) (tokens : List Token) → AllAdjacentBelow IsBefore tokens place → length tokens ≤ place → IsNonDecreasingBy (λ (t : Token). t.start) tokens
in_order_at_end place tokens so_far past = IsNonDecreasingBy-from_all_adjacent (λ (t : Token). t.start) tokens (λ k d within. so_far k d (omega arith))
