-- How many nodes the trees of a list have.
use Rattle.std.proofs.Common.{◌≡◌, ℕ, zero, suc, ◌<◌, ◌≤◌, List, [], ◌∷◌, length, get_or, ap, arith}
use Rattle.dart_tree.specs.Tree.{Tree, trees_of}
use Rattle.dart_tree.specs.Numbers.{nodes_in, nodes_in_all}

-- no tree of a list has more nodes than all have together
pub nodes_in-item : (ts : List Tree) (i : ℕ) (t : Tree) → i < length ts → t ≡ get_or ts i t → nodes_in t ≤ nodes_in_all (trees_of ts)
nodes_in-item [] i t within is = absurd (omega arith)
nodes_in-item (first ∷ rest) zero t within is = omega (arith, ap nodes_in is)
nodes_in-item (first ∷ rest) (suc i) t within is = omega (arith, nodes_in-item rest i t (omega arith) is)
