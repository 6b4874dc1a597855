-- The errors of a tree are the places of the error nodes that lie in it.
use Rattle.std.specs.Prelude.{◌≡◌, ◌⊎◌, ℕ, zero, suc, ◌+◌, ◌<◌, ◌≤◌, List, [], ◌∷◌, flat_map, Contains}
use Rattle.std.proofs.Common.{arith, inl, inr, subst, sym}
use Rattle.std.proofs.lemmas.List.Elements.{Contains-append_left, Contains-append_right, Contains-append_cases, Contains-push, Contains-push_cases}
use Rattle.dart_tree.specs.Tree.{Tree, error_node}
use Rattle.dart_tree.specs.Nodes.{parts_of}
use Rattle.dart_tree.specs.Numbers.{nodes_in}
use Rattle.dart_tree.specs.declared.places.Place.{Place}
use Rattle.error_nodes.specs.Errors.{errors_of}
use Rattle.error_nodes.specs.LiesIn.{LiesIn, itself, within}
use Rattle.error_nodes.proofs.Parts.{nodes_of, errors-parts, nodes-parts}

none_there : {X : Type 0} (x : X) → Contains [] x → ⊥
none_there x c = omega arith

the_first : {X : Type 0} (x : X) (xs : List X) → Contains (x ∷ xs) x
the_first x xs = Contains-append_left (x ∷ []) xs x (Contains-push [] x)

only_one : {X : Type 0} (x y : X) → Contains (y ∷ []) x → y ≡ x
only_one x y c = elim (Contains-push_cases [] y x c) [
  | inl n ↦ absurd (none_there x n)
  | inr same ↦ same
]

-- the first of a list, or one of the others
first_or_later : {X : Type 0} (x y : X) (ys : List X) → Contains (y ∷ ys) x → (y ≡ x) ⊎ Contains ys x
first_or_later x y ys c = elim (Contains-append_cases (y ∷ []) ys x c) [
  | inl one ↦ inl (only_one x y one)
  | inr later ↦ inr later
]

-- an error of trees is one of one of them
of_one : (at : Place) (ts : List Tree) → Contains (flat_map errors_of ts) at → (part : Tree) × Contains ts part × Contains (errors_of part) at
of_one at [] c = absurd (none_there at c)
of_one at (t ∷ ts) c = elim (Contains-append_cases (errors_of t) (flat_map errors_of ts) at c) [
  | inl here ↦ (t, the_first t ts, here)
  | inr later ↦ let found : (part : Tree) × Contains ts part × Contains (errors_of part) at = of_one at ts later in
      (found.0, Contains-append_right (t ∷ []) ts found.0 found.1, found.2)
]

-- and an error of one of them is one of theirs
of_all : (at : Place) (part : Tree) (ts : List Tree) → Contains ts part → Contains (errors_of part) at → Contains (flat_map errors_of ts) at
of_all at part [] c e = absurd (none_there part c)
of_all at part (t ∷ ts) c e = elim (first_or_later part t ts c) [
  | inl same ↦ Contains-append_left (errors_of t) (flat_map errors_of ts) at (subst (λ (u : Tree). Contains (errors_of u) at) (sym same) e)
  | inr later ↦ Contains-append_right (errors_of t) (flat_map errors_of ts) at (of_all at part ts later e)
]

-- one of several trees has no more nodes than they have
nodes-one : (part : Tree) (ts : List Tree) → Contains ts part → nodes_in part ≤ nodes_of ts
nodes-one part [] c = absurd (none_there part c)
nodes-one part (t ∷ ts) c = elim (first_or_later part t ts c) [
  | inl same ↦ subst (λ (u : Tree). nodes_in u ≤ nodes_in t + nodes_of ts) same (omega arith)
  | inr later ↦ let rest : nodes_in part ≤ nodes_of ts = nodes-one part ts later in omega arith
]

-- an error stands where an error node lies
lies-within : (bound : ℕ) (at : Place) (t : Tree) → nodes_in t < bound → Contains (errors_of t) at → LiesIn (error_node at) t
lies-within zero at t small c = absurd (omega arith)
lies-within (suc bound) at t small c = elim (errors-parts t) [
  | inl node ↦ subst (λ (u : Tree). LiesIn (error_node at) u) (sym node.1)
      (subst (λ (p : Place). LiesIn (error_node at) (error_node p)) (sym (only_one at node.0 (subst (λ (u : Tree). Contains (errors_of u) at) node.1 c))) itself)
  | inr parts ↦ let found : (part : Tree) × Contains (parts_of t) part × Contains (errors_of part) at =
      of_one at (parts_of t) (subst (λ (ps : List Place). Contains ps at) parts c) in
      let fewer : nodes_in found.0 ≤ nodes_of (parts_of t) = nodes-one found.0 (parts_of t) found.1 in
      let room : nodes_of (parts_of t) < nodes_in t = nodes-parts t in
      within t found.0 found.1 (lies-within bound at found.0 (omega arith) found.2)
]

pub lies : (at : Place) (t : Tree) → Contains (errors_of t) at → LiesIn (error_node at) t
lies at t c = lies-within (suc (nodes_in t)) at t (omega arith) c

-- where an error node lies is an error
pub stands : (at : Place) (t : Tree) → LiesIn (error_node at) t → Contains (errors_of t) at
stands at _ itself = the_first at []
stands at _ (within t part is_part lying) = elim (errors-parts t) [
  | inl node ↦ absurd (none_there part (subst (λ (u : Tree). Contains (parts_of u) part) node.1 is_part))
  | inr parts ↦ subst (λ (ps : List Place). Contains ps at) (sym parts) (of_all at part (parts_of t) is_part (stands at part lying))
]
