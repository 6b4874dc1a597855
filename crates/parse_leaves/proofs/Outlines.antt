-- Ways over the tokens of types.
use Rattle.std.proofs.Common.{◌≡◌, ℕ, zero, suc, ◌-◌, ◌<◌, List, Some, None, refl, ap, ◌∙◌, arith}
use Rattle.dart_tokens.specs.declared.grouped_token.GroupedToken.{GroupedToken as Token}
use Rattle.grammar.specs.Outline.{Way, ◌⨾◌, either_way, go_on, repeated, some_more, over_tail, over_plain, over_type}

-- once more
pub repeated_goes : (all : List Token) (n m : ℕ) (w : Way) (ts us : List Token) → all ≡ repeated n w ts → 0 < n → w ts ≡ Some us → m ≡ n - 1 → all ≡ repeated m w us
repeated_goes all zero m w ts us so some e less = absurd (omega (arith, some))
repeated_goes all (suc n) m w ts us so some e less = so ∙ ap (λ o. go_on (repeated n w) o ts) e ∙ let same : n ≡ m = omega (arith, less) in ap (λ k. repeated k w us) same

-- a type stands in one more
pub type_at : (n : ℕ) (ts : List Token) → 0 < n → over_type n ts ≡ (either_way (over_tail (over_type (n - 1))) (over_plain (over_type (n - 1))) ⨾ some_more (over_tail (over_type (n - 1)))) ts
unfolding over_type
type_at zero ts some = absurd (omega (arith, some))
type_at (suc n) ts some = let same : n ≡ suc n - 1 = omega arith in ap (λ k. (either_way (over_tail (over_type k)) (over_plain (over_type k)) ⨾ some_more (over_tail (over_type k))) ts) same

pub no_type : (n : ℕ) (ts : List Token) → n ≡ 0 → over_type n ts ≡ None
unfolding over_type
no_type zero ts e = refl
no_type (suc n) ts e = absurd (omega (arith, e))
