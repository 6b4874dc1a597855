-- Tokens that rise stand in order.
use Rattle.std.proofs.Common.{◌≡◌, ℕ, suc, ◌<◌, ◌≤◌, List, [], ◌∷◌, Some, slice_get, refl, arith}
use Rattle.std.specs.List.{All}
use Rattle.std.proofs.lemmas.List.Elements.{All-head, All-tail}
use Rattle.dart_tokens.specs.declared.token.Token.{Token}
use Rattle.node_counts.specs.Rising.{TextRises}
use Rattle.interface_part.specs.Order.{TokensInOrder}

abbrev Apart : List Token → Type 0
Apart ts = (first second : ℕ) (one other : Token) → first < second → slice_get ts first ≡ Some one → slice_get ts second ≡ Some other → one.end ≤ other.start

order_from : (from : ℕ) (ts : List Token) → All (λ t. t.start < t.end) ts → Apart ts → ((k : ℕ) (t : Token) → slice_get ts k ≡ Some t → from ≤ t.start) → TokensInOrder from ts
order_from from [] some apart behind = tt
order_from from (t ∷ ts) some apart behind = (
  behind 0 t refl,
  order_from t.start ts (All-tail (λ t. t.start < t.end) t ts some) (λ i j one other less e d. apart (suc i) (suc j) one other (omega (arith, less)) e d)
      (λ k u e. omega (arith, All-head (λ t. t.start < t.end) t ts some, apart 0 (suc k) t u (omega arith) refl e)),
)

pub tokens_in_order : (ts : List Token) → TextRises ts → TokensInOrder 0 ts
tokens_in_order ts r = order_from 0 ts r.0 r.1 (λ k t e. omega arith)
