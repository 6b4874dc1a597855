-- Reading the lists of statements in a list of trees, one tree after the other.
use Rattle.std.proofs.Common.{◌≡◌, ℕ, ◌≤◌, List, [], ◌∷◌, ◌++◌, length, take, drop, refl, sym, ◌∙◌, ap, append-nil}
use Rattle.std.proofs.lemmas.List.{take_all, drop_all}
use Rattle.dart_tree.specs.Tree.{Tree, Trees, trees_of, more}
use Rattle.dart_tree.specs.Numbers.{nodes_in_all}
use Rattle.dart_tree.specs.declared.places.Place.{Place}
use Rattle.unread_lists.specs.WithLists.{with_lists, all_with_lists}

-- the trees of a list, each with its lists read
abbrev pub each_read : (ℕ → Place → Trees) → ℕ → List Tree → List Tree
each_read lists n [] = []
each_read lists n (t ∷ ts) = with_lists lists n t ∷ each_read lists n ts

pub trees_of-each_read : (lists : ℕ → Place → Trees) (n : ℕ) (ts : List Tree) → trees_of (each_read lists n ts) ≡ all_with_lists lists n (trees_of ts)
trees_of-each_read lists n [] = refl
trees_of-each_read lists n (t ∷ ts) = ap (more (with_lists lists n t)) (trees_of-each_read lists n ts)

-- of the trees that were, those before the index have their lists read, the others not yet: they have no more nodes than all had
pub record AreReadUpTo (index : ℕ) (lists : ℕ → Place → Trees) (room : ℕ) (were trees : List Tree) : Type 0 where
  pub so_far : each_read lists room were ≡ take index trees ++ each_read lists room (drop index trees)
  pub to_come : nodes_in_all (trees_of (drop index trees)) ≤ nodes_in_all (trees_of were)

all_taken : (index : ℕ) (lists : ℕ → Place → Trees) (room : ℕ) (trees : List Tree) → length trees ≤ index →
    take index trees ++ each_read lists room (drop index trees) ≡ trees
all_taken index lists room trees past =
    ap (λ (ts : List Tree). take index trees ++ each_read lists room ts) (drop_all index trees past)
    ∙ append-nil (take index trees) ∙ take_all index trees past

-- at the end all have
pub read_at_end : (index : ℕ) (lists : ℕ → Place → Trees) (room : ℕ) (were trees : List Tree) → AreReadUpTo index lists room were trees →
    length trees ≤ index → trees_of trees ≡ all_with_lists lists room (trees_of were)
read_at_end index lists room were trees so_far past =
    let all : each_read lists room were ≡ trees = so_far.so_far ∙ all_taken index lists room trees past in
    sym (ap trees_of all) ∙ trees_of-each_read lists room were
