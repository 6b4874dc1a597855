-- The errors of a node are those of its parts, and its parts have fewer nodes than it has.
use Rattle.std.specs.Prelude.{◌≡◌, ◌⊎◌, ℕ, ◌+◌, ◌<◌, List, [], ◌∷◌, ◌++◌, flat_map, refl}
use Rattle.std.proofs.Common.{ap, arith, append-nil, append_assoc, inl, inr}
use Rattle.std.proofs.lemmas.Grind.{flat_map-append}
use Rattle.dart_tree.specs.Tree.{Tree, Trees, Part, no_more, more, absent, present, trees_of, error_node}
use Rattle.dart_tree.specs.Nodes.{list_of, list_of_part, parts_of}
use Rattle.dart_tree.specs.Numbers.{nodes_in, nodes_in_all, nodes_in_part}
use Rattle.dart_tree.specs.declared.places.Place.{Place}
use Rattle.error_nodes.specs.Errors.{errors_of, errors_of_all, errors_of_part}

-- the errors of the trees of a list
errors-list : (ts : Trees) → flat_map errors_of (list_of ts) ≡ errors_of_all ts
errors-list no_more = refl
errors-list (more first rest) = ap (λ (ps : List Place). errors_of first ++ ps) (errors-list rest)

-- those of a part
errors-part : (p : Part) → flat_map errors_of (list_of_part p) ≡ errors_of_part p
errors-part absent = refl
errors-part (present tree) = append-nil (errors_of tree)

-- a node is an error node, or its errors are those of its parts
pub errors-parts : (t : Tree) → ((at : Place) × (t ≡ error_node at)) ⊎ (errors_of t ≡ flat_map errors_of (parts_of t))
errors-parts (error_node at) = inl (at, refl)
errors-parts t = inr (first_of (simp (flat_map-append, errors-list, errors-part, append_assoc, append-nil), cc))

-- the trees of a list are the list
trees_of-list_of : (ts : Trees) → trees_of (list_of ts) ≡ ts
trees_of-list_of no_more = refl
trees_of-list_of (more first rest) = ap (more first) (trees_of-list_of rest)

-- how many nodes trees have
abbrev pub nodes_of : List Tree → ℕ
nodes_of ts = nodes_in_all (trees_of ts)

nodes-append : (ts us : List Tree) → nodes_of (ts ++ us) ≡ nodes_of ts + nodes_of us
nodes-append [] us = omega arith
nodes-append (t ∷ ts) us = omega (arith, nodes-append ts us)

-- those of the trees of a list
nodes-list : (ts : Trees) → nodes_of (list_of ts) ≡ nodes_in_all ts
nodes-list ts = ap nodes_in_all (trees_of-list_of ts)

-- those of a part
nodes-part : (p : Part) → nodes_of (list_of_part p) ≡ nodes_in_part p
nodes-part absent = refl
nodes-part (present tree) = omega arith

-- the parts of a node have fewer nodes than it has
pub nodes-parts : (t : Tree) → nodes_of (parts_of t) < nodes_in t
nodes-parts (error_node at) = omega arith
nodes-parts t = grind (arith, nodes-append, nodes-list, nodes-part)
