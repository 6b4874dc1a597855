-- Gathering what the trees of a list hide, one tree after the other.
use Rattle.std.proofs.Common.{◌≡◌, ℕ, suc, ◌+◌, ◌<◌, List, [], ◌∷◌, ◌++◌, length, take, get_or, refl, sym, ap, ◌∙◌, arith, append-nil}
use Rattle.std.specs.List.{flat_map}
use Rattle.std.proofs.Math.Seq.{take-suc}
use Rattle.std.proofs.lemmas.List.{append_assoc}
use Rattle.std.proofs.lemmas.Grind.{flat_map-append}
use Rattle.dart_tree.specs.Tree.{Tree, trees_of}
use Rattle.dart_tree.specs.Nodes.{list_of}

pub list_of_trees : (ts : List Tree) → list_of (trees_of ts) ≡ ts
list_of_trees [] = refl
list_of_trees (t ∷ ts) = ap (λ (rest : List Tree). t ∷ rest) (list_of_trees ts)

-- what the first trees of a list give, and the next one
pub gathered : {Y : Type 0} (f : Tree → List Y) (ts : List Tree) (i : ℕ) (t : Tree) (before so_far next : List Y) → i < length ts → t ≡ get_or ts i t →
    so_far ≡ before ++ flat_map f (take i ts) → next ≡ so_far ++ f t → next ≡ before ++ flat_map f (take (i + 1) ts)
gathered f ts i t before so_far next within is gathers more =
    let one : i + 1 ≡ suc i = omega arith in
    let split : take (suc i) ts ≡ take i ts ++ t ∷ [] = take-suc ts i t within ∙ ap (λ (x : Tree). take i ts ++ x ∷ []) (sym is) in
    let each : flat_map f (take i ts ++ t ∷ []) ≡ flat_map f (take i ts) ++ f t =
    flat_map-append f (take i ts) (t ∷ []) ∙ ap (λ (ys : List _). flat_map f (take i ts) ++ ys) (append-nil (f t)) in
    more ∙ ap (λ (ys : List _). ys ++ f t) gathers ∙ append_assoc before (flat_map f (take i ts)) (f t)
    ∙ ap (λ (ys : List _). before ++ ys) (sym each ∙ ap (λ (xs : List Tree). flat_map f xs) (sym split) ∙ ap (λ (n : ℕ). flat_map f (take n ts)) (sym one))
