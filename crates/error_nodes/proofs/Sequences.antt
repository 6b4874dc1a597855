-- Adding the errors of a list of trees, one tree after the other.
use Rattle.std.proofs.Common.{◌≡◌, ℕ, ◌≤◌, List, ◌++◌, length, drop, sym, ◌∙◌, ap, append-nil}
use Rattle.std.proofs.lemmas.List.{drop_all}
use Rattle.dart_tree.specs.Tree.{Tree, trees_of}
use Rattle.dart_tree.specs.Numbers.{nodes_in_all}
use Rattle.dart_tree.specs.declared.places.Place.{Place}
use Rattle.error_nodes.specs.Errors.{errors_of_all}

-- of the trees, those before the index have their errors added, and the others not yet: they have no more nodes than all have
pub record AreAddedUpTo (index : ℕ) (trees : List Tree) (were errors : List Place) : Type 0 where
  pub so_far : errors ++ errors_of_all (trees_of (drop index trees)) ≡ were ++ errors_of_all (trees_of trees)
  pub to_come : nodes_in_all (trees_of (drop index trees)) ≤ nodes_in_all (trees_of trees)

-- at the end all are added
pub added_at_end : (index : ℕ) (trees : List Tree) (were errors : List Place) → AreAddedUpTo index trees were errors →
    length trees ≤ index → errors ≡ were ++ errors_of_all (trees_of trees)
added_at_end index trees were errors so_far past =
    sym (append-nil errors) ∙ ap (λ (ts : List Tree). errors ++ errors_of_all (trees_of ts)) (sym (drop_all index trees past)) ∙ so_far.so_far
