-- A list that is read part by part.
use Rattle.std.proofs.Common.{◌≡◌, ℕ, suc, ◌+◌, ◌<◌, ◌≤◌, List, [], ◌∷◌, length, get_or, drop, sym, ap, ◌∙◌, arith, add-one, drop-cons}
use Rattle.dart_tree.specs.Tree.{Tree}

-- a list of one part
pub only_part : (ts : List Tree) (t : Tree) → 1 ≤ length ts → length ts < 2 → t ≡ get_or ts 0 t → t ∷ [] ≡ ts
only_part [] t some one is = absurd (omega arith)
only_part (first ∷ []) t some one is = ap (λ (u : Tree). u ∷ []) is
only_part (first ∷ second ∷ rest) t some one is = absurd (omega arith)

-- behind a part comes the rest
pub next_part : (ts : List Tree) (i : ℕ) (t : Tree) → i < length ts → t ≡ get_or ts i t → drop i ts ≡ t ∷ drop (i + 1) ts
next_part ts i t within is = rw add-one (drop-cons ts i t within ∙ ap (λ (u : Tree). u ∷ drop (suc i) ts) (sym is))
