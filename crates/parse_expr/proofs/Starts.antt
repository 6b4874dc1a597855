-- The tokens that stand at a place, where tokens stand in the order of their starts.
use Rattle.std.proofs.Common.{◌≡◌, ℕ, zero, suc, ◌+◌, ◌-◌, ◌<◌, ◌≤◌, Bool, true, false, not, ◌&&◌, nat_lt, nat_le, if◌then◌else◌, List, [], ◌∷◌, length, take, drop, get_or, refl, sym, ap, subst, ◌∙◌, arith}
use Rattle.std.specs.List.{AllWithin, filter}
use Rattle.std.specs.List.Sorted.{IsNonDecreasingBy, IsPartitionedBy}
use Rattle.std.proofs.lemmas.Bool.Decides.{nat_tests}
use Rattle.std.proofs.lemmas.List.{get_or_default}
use Rattle.dart_tree.specs.declared.places.Place.{Place}
use Rattle.dart_tokens.specs.declared.grouped_token.GroupedToken.{GroupedToken as Token}
use Rattle.grammar.specs.Whole.{tokens_over}

abbrev from_to : ℕ → ℕ → Token → Bool
from_to s e t = not (nat_lt t.start s) && nat_lt t.start e

-- of tokens that begin at the first number or behind it, those before the second
tokens_to : (s e : ℕ) (ts : List Token) (to : ℕ) → AllWithin (λ t. nat_lt t.start s ≡ false) ts 0 (length ts) →
    AllWithin (λ t. nat_lt t.start e ≡ true) ts 0 to → AllWithin (λ t. nat_lt t.start e ≡ false) ts to (length ts) → take to ts ≡ filter (from_to s e) ts
tokens_to s e [] zero after before behind = refl
tokens_to s e [] (suc to) after before behind = refl
tokens_to s e (t ∷ ts) zero after before behind =
    rw (after 0 t (omega arith) (omega arith), behind 0 t (omega arith) (omega arith))
    (tokens_to s e ts 0 (λ k d low high. after (suc k) d (omega arith) (omega (arith, high))) (λ k d low high. absurd (omega (arith, high))) (λ k d low high. behind (suc k) d (omega arith) (omega (arith, high))))
tokens_to s e (t ∷ ts) (suc to) after before behind =
    rw (after 0 t (omega arith) (omega arith), before 0 t (omega arith) (omega arith))
    (ap (λ (us : List Token). t ∷ us) (tokens_to s e ts to (λ k d low high. after (suc k) d (omega arith) (omega (arith, high))) (λ k d low high. before (suc k) d (omega arith) (omega (arith, high))) (λ k d low high. behind (suc k) d (omega (arith, low)) (omega (arith, high)))))

-- of tokens, so many that begin before the first number, and then those before the second
tokens_from : (s e : ℕ) (ts : List Token) (from to : ℕ) → from ≤ length ts → AllWithin (λ t. nat_lt t.start s ≡ true) ts 0 from → AllWithin (λ t. nat_lt t.start s ≡ false) ts from (length ts) →
    AllWithin (λ t. nat_lt t.start e ≡ true) (drop from ts) 0 to → AllWithin (λ t. nat_lt t.start e ≡ false) (drop from ts) to (length (drop from ts)) → take to (drop from ts) ≡ filter (from_to s e) ts
tokens_from s e ts zero to few before after low high = tokens_to s e ts to after low high
tokens_from s e [] (suc from) to few before after low high = absurd (omega (arith, few))
tokens_from s e (t ∷ ts) (suc from) to few before after low high =
    rw (before 0 t (omega arith) (omega arith))
    (tokens_from s e ts from to (omega (arith, few)) (λ k d at below. before (suc k) d (omega arith) (omega (arith, below))) (λ k d at below. after (suc k) d (omega (arith, at)) (omega (arith, below))) low high)

-- behind so many tokens they still are
pub ordered_behind : (ts : List Token) (from : ℕ) → IsNonDecreasingBy (λ t. t.start) ts → IsNonDecreasingBy (λ t. t.start) (drop from ts)
ordered_behind ts zero ordered = ordered
ordered_behind [] (suc from) ordered = ordered
ordered_behind (t ∷ ts) (suc from) ordered = ordered_behind ts from (λ i j d le lt. ordered (suc i) (suc j) d (omega (arith, le)) (omega (arith, lt)))

-- those that begin before an offset come first
pub parted : (offset : ℕ) (ts : List Token) → IsNonDecreasingBy (λ t. t.start) ts → IsPartitionedBy (λ (t : Token). nat_lt t.start offset) ts
parted offset ts ordered i j d le lt h =
    let below : (get_or ts j d).start < offset = grind (arith, nat_tests, h) in
    let no_more : (get_or ts i d).start ≤ (get_or ts j d).start = ordered i j d le lt in
    let first : (get_or ts i d).start < offset = omega (arith, below, no_more) in
    grind (arith, nat_tests, first)

-- of tokens in order, up to one that begins before an offset all do
pub all_before : (offset count : ℕ) (ts : List Token) (e : Token) → IsNonDecreasingBy (λ t. t.start) ts → 0 < count → count ≤ length ts → nat_lt (get_or ts (count - 1) e).start offset ≡ true → AllWithin (λ t. nat_lt t.start offset ≡ true) ts 0 count
all_before offset count ts e ordered some few last k d low high =
    let no_more : (get_or ts k d).start ≤ (get_or ts (count - 1) d).start = ordered k (count - 1) d (omega (arith, high)) (omega (arith, some, few)) in
    let same : get_or ts (count - 1) d ≡ get_or ts (count - 1) e = get_or_default ts (count - 1) d e (omega (arith, some, few)) in
    let first : (get_or ts (count - 1) e).start < offset = grind (arith, nat_tests, last) in
    let before : (get_or ts k d).start < offset = omega (arith, no_more, ap (λ (t : Token). t.start) same, first) in
    grind (arith, nat_tests, before)

-- from one on that doesn't, none does
pub none_behind : (offset count : ℕ) (ts : List Token) (e : Token) → IsNonDecreasingBy (λ t. t.start) ts → nat_le offset (get_or ts count e).start ≡ true → AllWithin (λ t. nat_lt t.start offset ≡ false) ts count (length ts)
none_behind offset count ts e ordered next k d low high =
    let no_less : (get_or ts count d).start ≤ (get_or ts k d).start = ordered count k d low high in
    let same : get_or ts count d ≡ get_or ts count e = get_or_default ts count d e (omega (arith, low, high)) in
    let first : offset ≤ (get_or ts count e).start = grind (arith, nat_tests, next) in
    let not_before : offset ≤ (get_or ts k d).start = omega (arith, no_less, ap (λ (t : Token). t.start) same, first) in
    grind (arith, nat_tests, not_before)

-- the tokens at a place
pub tokens_at : (text behind : List Token) (at : Place) (from to : ℕ) → behind ≡ drop from text → from ≤ length text → AllWithin (λ t. nat_lt t.start at.span.start ≡ true) text 0 from →
    AllWithin (λ t. nat_lt t.start at.span.start ≡ false) text from (length text) → AllWithin (λ t. nat_lt t.start at.span.end ≡ true) behind 0 to →
    AllWithin (λ t. nat_lt t.start at.span.end ≡ false) behind to (length behind) → take to behind ≡ tokens_over text at
tokens_at text behind at from to e few before after low high =
    ap (λ us. take to us) e
    ∙ tokens_from at.span.start at.span.end text from to few before after (subst (λ us. AllWithin (λ t. nat_lt t.start at.span.end ≡ true) us 0 to) e low) (subst (λ us. AllWithin (λ t. nat_lt t.start at.span.end ≡ false) us to (length us)) e high)
