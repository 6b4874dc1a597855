-- Numbering a list of trees, one after the other.
use Rattle.std.proofs.Common.{◌≡◌, ℕ, ◌+◌, ◌≤◌, List, [], ◌∷◌, ◌++◌, length, take, drop, refl, sym, ◌∙◌, ap, append-nil}
use Rattle.std.proofs.lemmas.List.{take_all, drop_all}
use Rattle.dart_tree.specs.Tree.{Tree, trees_of, more}
use Rattle.dart_tree.specs.Numbers.{nodes_in, nodes_in_all, numbered, all_numbered}

-- the trees of a list, each numbered from where the one before it ends
abbrev pub each_numbered : ℕ → List Tree → List Tree
each_numbered n [] = []
each_numbered n (t ∷ ts) = numbered n t ∷ each_numbered (n + nodes_in t) ts

pub trees_of-each_numbered : (n : ℕ) (ts : List Tree) → trees_of (each_numbered n ts) ≡ all_numbered n (trees_of ts)
trees_of-each_numbered n [] = refl
trees_of-each_numbered n (t ∷ ts) = ap (more (numbered n t)) (trees_of-each_numbered (n + nodes_in t) ts)

-- of the trees that were, those before the index are numbered, the others not yet, and the next number comes after those
pub record IsNumberedUpTo (index first : ℕ) (were : List Tree) (next : ℕ) (trees : List Tree) : Type 0 where
  pub so_far : each_numbered first were ≡ take index trees ++ each_numbered next (drop index trees)
  pub to_come : next + nodes_in_all (trees_of (drop index trees)) ≡ first + nodes_in_all (trees_of were)
  pub behind : first ≤ next

all_taken : (index next : ℕ) (trees : List Tree) → length trees ≤ index → take index trees ++ each_numbered next (drop index trees) ≡ trees
all_taken index next trees past =
    ap (λ (ts : List Tree). take index trees ++ each_numbered next ts) (drop_all index trees past)
    ∙ append-nil (take index trees) ∙ take_all index trees past

-- at the end all are numbered
pub numbered_at_end : (index first : ℕ) (were : List Tree) (next : ℕ) (trees : List Tree) → IsNumberedUpTo index first were next trees →
    length trees ≤ index → trees_of trees ≡ all_numbered first (trees_of were)
numbered_at_end index first were next trees so_far past =
    let all : each_numbered first were ≡ trees = so_far.so_far ∙ all_taken index next trees past in
    sym (ap trees_of all) ∙ trees_of-each_numbered first were
