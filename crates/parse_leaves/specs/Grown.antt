-- Heights of lists that have grown by one.
use Rattle.std.proofs.Common.{◌≡◌, ℕ, ◌+◌, ◌≤◌, ◌++◌, List, [], ◌∷◌, sym, ap, ◌∙◌, arith}
use Rattle.dart_tree.specs.Tree.{Tree, trees_of}
use Rattle.dart_tree.specs.Heights.{higher, height, heights}
use Rattle.parse_leaves.specs.Sizes.{heights_behind, higher_within}

pub heights_grown : (h tall high : ℕ) (done new : List Tree) (t : Tree) → h ≡ heights (trees_of done) → tall ≡ height t → new ≡ done ++ t ∷ [] → high ≡ higher h tall → high ≡ heights (trees_of new)
heights_grown h tall high done new t a b e d =
    d ∙ ap (λ k. higher k tall) a ∙ ap (higher (heights (trees_of done))) b ∙ sym (heights_behind done t) ∙ ap (λ ts. heights (trees_of ts)) (sym e)

pub within_grown : (h tall high n : ℕ) → h ≤ n → tall ≤ n → high ≡ higher h tall → high ≤ n
within_grown h tall high n a b d = omega (arith, d, higher_within h tall n a b)

-- the height of a node over two others

pub node_grown : (h tall high a b now : ℕ) → h ≡ a → tall ≡ b → high ≡ higher h tall → now ≡ higher a b + 1 → high + 1 ≡ now
node_grown h tall high a b now e d c made = ap (λ k. k + 1) (c ∙ ap (λ k. higher k tall) e ∙ ap (higher a) d) ∙ sym made

pub node_within : (h tall high n room : ℕ) → h ≤ room → room ≡ n → tall ≤ n → high ≡ higher h tall → high + 1 ≤ n + 1
node_within h tall high n room a e b d = omega (arith, within_grown h tall high n (omega (arith, a, e)) b d)
