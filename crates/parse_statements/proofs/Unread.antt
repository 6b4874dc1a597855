-- Lists of statements that are not read yet.
use Rattle.std.proofs.Common.{◌≡◌, ℕ, zero, suc, ◌-◌, ◌<◌, take, drop, List, [], ◌∷◌, length, Option, None, refl, sym, ap, ◌∙◌, arith}
use Rattle.std.proofs.lemmas.List.{take_all, drop_all}
use Rattle.readings.specs.Readings.{Reading}
use Rattle.readings.specs.Descent.{Descent, all_items, take_items_at}
use Rattle.dart_tree.specs.Tree.{Tree}
use Rattle.dart_tokens.specs.declared.grouped_token.GroupedToken.{GroupedToken as Token}
use Rattle.grammar.specs.Statements.{error_of}

-- there are no tokens
pub unread_empty : (ts : List Token) → length ts ≡ 0 → all_items {A = Tree} (λ us. None) length error_of ts ≡ []
unread_empty [] e = refl
unread_empty (t ∷ ts) e = absurd (omega (arith, e))

-- nothing is left
nothing_more : (n : ℕ) (ts : List Token) → length ts ≡ 0 → take_items_at {A = Tree} n (λ us. None) length error_of ts ≡ []
nothing_more zero ts e = refl
nothing_more (suc n) [] e = refl
nothing_more (suc n) (t ∷ ts) e = absurd (omega (arith, e))

-- there are some
pub unread_some : (ts : List Token) → 0 < length ts → all_items {A = Tree} (λ us. None) length error_of ts ≡ error_of ts ∷ []
unread_some [] e = absurd (omega (arith, e))
unread_some (t ∷ ts) e =
    let all : take (suc (length (t ∷ ts))) (t ∷ ts) ≡ t ∷ ts = take_all (suc (length (t ∷ ts))) (t ∷ ts) (omega arith) in
    let none : drop (suc (length (t ∷ ts))) (t ∷ ts) ≡ [] = drop_all (suc (length (t ∷ ts))) (t ∷ ts) (omega arith) in
    ap (λ us. error_of us ∷ take_items_at (length ts) (λ vs. None) length error_of (drop (suc (length (t ∷ ts))) (t ∷ ts))) all
    ∙ ap (λ us. error_of (t ∷ ts) ∷ us) (ap (take_items_at (length ts) (λ vs. None) length error_of) none ∙ nothing_more (length ts) [] refl)
