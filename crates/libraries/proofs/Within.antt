-- The edges among libraries have both ends below the count.
use Rattle.std.proofs.Common.{◌≡◌, ℕ, ◌+◌, ◌<◌, Bool, true, false, ◌&&◌, List, [], ◌∷◌, ◌++◌, Option, Some, None, nat_lt, refl, arith}
use Rattle.std.specs.Prelude.{if◌then◌else◌}
use Rattle.std.proofs.lemmas.Bool.Decides.{nat_tests}
use Rattle.std.proofs.lemmas.List.Elements.{All-nil, All-append, All-from_recursion}
use Rattle.library_graph.specs.declared.edges.Edge.{Edge}
use Rattle.library_graph.specs.Paths.{AreWithin}
use Rattle.libraries.specs.declared.aims.Aim.{Aim}
use Rattle.libraries.specs.declared.heads.Head.{Head}
use Rattle.libraries.specs.Elements.{if_library}
use Rattle.libraries.specs.Graph.{edge_at, edge_to, edges_from, edges_in, leading_from, leads}
use Rattle.libraries.specs.Heads.{is_library_at}

IsWithin : (count : ℕ) → Edge → Type 0
IsWithin count e = (e.from < count) × (e.to < count)

none : (count : ℕ) → AreWithin [] count
unfolding IsWithin
none count = All-nil (IsWithin count)

both : (count : ℕ) (xs ys : List Edge) → AreWithin xs count → AreWithin ys count → AreWithin (xs ++ ys) count
unfolding IsWithin
both count xs ys = All-append (IsWithin count) xs ys

if_so : (count : ℕ) (b : Bool) (xs : List Edge) → AreWithin xs count → AreWithin (if b then xs else []) count
if_so count true xs within = within
if_so count false xs within = none count

if_both : (count : ℕ) (a b : Bool) (xs : List Edge) → (a ≡ true → AreWithin xs count) → AreWithin (if a && b then xs else []) count
if_both count true true xs within = within refl
if_both count true false xs within = none count
if_both count false b xs within = none count

one : (count : ℕ) (edge : Edge) (b : Bool) → edge.from < count → nat_lt edge.to count ≡ b → AreWithin (if b then edge ∷ [] else []) count
unfolding IsWithin
one count edge true below test = let to : edge.to < count = grind (arith, nat_tests) in All-from_recursion (IsWithin count) (edge ∷ []) ((below, to), tt)
one count edge false below test = none count

edge_within : (count from : ℕ) (to : Option ℕ) → from < count → AreWithin (edge_to count from to) count
edge_within count from None below = none count
edge_within count from (Some to) below = one count (record { from = from; to = to }) (nat_lt to count) below refl

aims_within : (heads : List Head) (count from : ℕ) (aims : List Aim) → from < count → AreWithin (edges_in heads count from aims) count
aims_within heads count from [] below = none count
aims_within heads count from (aim ∷ more) below =
    both count (edge_at heads count from aim) (edges_in heads count from more) (if_so count (leads aim.kind) (edge_to count from (if_library heads aim.target)) (edge_within count from (if_library heads aim.target) below)) (aims_within heads count from more below)

file_within : (heads : List Head) (count from : ℕ) (aims : List Aim) → AreWithin (leading_from heads count from aims) count
file_within heads count from aims =
    if_both count (nat_lt from count) (is_library_at heads from) (edge_to count from (Some 0) ++ edges_in heads count from aims) (λ test.
    (let below : from < count = grind (arith, nat_tests) in
    both count (edge_to count from (Some 0)) (edges_in heads count from aims) (edge_within count from (Some 0) below) (aims_within heads count from aims below)))

-- those of all files
pub edges_within : (heads : List Head) (count from : ℕ) (all : List (List Aim)) → AreWithin (edges_from heads count from all) count
edges_within heads count from [] = none count
edges_within heads count from (aims ∷ more) =
    both count (leading_from heads count from aims) (edges_from heads count (from + 1) more) (file_within heads count from aims) (edges_within heads count (from + 1) more)
