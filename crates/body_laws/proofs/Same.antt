-- Trees that stand where each other's tokens do.
use Rattle.std.proofs.Common.{◌≡◌, ◌++◌, true, Bool, List, [], ◌∷◌, Option, Some, None, map, refl, sym, ap, ◌∙◌}
use Rattle.std.specs.List.{flat_map}
use Rattle.dart_tree.specs.Nodes.{list_of}
use Rattle.interface_part.specs.declared.hidden.Hidden.{Hidden}
use Rattle.interface_part.specs.Hidden.{hidden, hidden_body}
use Rattle.dart_tree.specs.Tree.{Tree, trees_of, part_of}
use Rattle.dart_tree.specs.Heights.{height, heights, height_of_part}
use Rattle.dart_tree.specs.Places.{span_of}
use Rattle.dart_tokens.specs.declared.grouped_token.GroupedToken.{GroupedToken as Token}
use Rattle.grammar.specs.Tokens.{span_over}
use Rattle.grammar.specs.Types.{behind_token, listed_or_none}
use Rattle.grammar.specs.Expressions.{reads_on, is_incremented}
use Rattle.body_laws.specs.Bodies.{Moves, Twins, moved}
use Rattle.body_laws.proofs.Follow.{Spans, Stand, Both, Pair, Alls}

-- what may stand behind an expression, its height aside
abbrev pub ending : Tree → Bool × Bool
ending t = (reads_on t, is_incremented t)

-- two trees stand alike, have the same height, and end alike
pub record Same (m : Moves) (t u : Tree) : Type 0 where
  pub stands : Spans m (span_of t) (span_of u)
  pub high : height t ≡ height u
  pub last : ending t ≡ ending u

-- what was read stands alike
pub over : (m : Moves) (read other : List Token) → Stand m true read other → Spans m (span_over read) (span_over other)
over m [] [] s = absurd s
over m [] (u ∷ us) s = absurd s
over m (t ∷ ts) [] s = absurd s
over m (t ∷ ts) (u ∷ us) s = s

pub all_same : (m : Moves) (xs ys : List Tree) → Alls (Same m) xs ys → heights (trees_of xs) ≡ heights (trees_of ys)
all_same m [] [] p = refl
all_same m [] (y ∷ ys) p = absurd p
all_same m (x ∷ xs) [] p = absurd p
all_same m (x ∷ xs) (y ∷ ys) p = rw (p.0.high, all_same m xs ys p.1) refl

pub part_same : (m : Moves) (o p : Option Tree) → Both (Same m) o p → height_of_part (part_of o) ≡ height_of_part (part_of p)
part_same m None None b = refl
part_same m None (Some y) b = absurd b
part_same m (Some x) None b = absurd b
part_same m (Some x) (Some y) b = b.high

-- What is hidden.

pub record BodySame (m : Moves) (t u : Tree) : Type 0 where
  pub same : Same m t u
  pub hides : (b : Bool) → hidden_body b u ≡ map (moved m) (hidden_body b t)

pub hidden_moved : (m : Moves) (b : Bool) (t u : Tree) → Spans m (span_of t) (span_of u) → hidden b u ≡ map (moved m) (hidden b t)
hidden_moved m b t u s = λ i. record { span = record { start = s.0 i; end = s.1 i }; in_mixin = b } ∷ []

map_append : (f : Hidden → Hidden) (xs ys : List Hidden) → map f (xs ++ ys) ≡ map f xs ++ map f ys
map_append f [] ys = refl
map_append f (x ∷ xs) ys = ap (λ (zs : List Hidden). f x ∷ zs) (map_append f xs ys)

-- what trees hide, each by itself
abbrev pub Hides : (m : Moves) → (Tree → List Hidden) → Tree → Tree → Type 0
Hides m f t u = f u ≡ map (moved m) (f t)

pub all_hide : (m : Moves) (f : Tree → List Hidden) (xs ys : List Tree) → Alls (Hides m f) xs ys → flat_map f (list_of (trees_of ys)) ≡ map (moved m) (flat_map f (list_of (trees_of xs)))
all_hide m f [] [] p = refl
all_hide m f [] (y ∷ ys) p = absurd p
all_hide m f (x ∷ xs) [] p = absurd p
all_hide m f (x ∷ xs) (y ∷ ys) p =
    ap (λ (front : List Hidden). front ++ flat_map f (list_of (trees_of ys))) p.0 ∙ ap (λ (rest : List Hidden). map (moved m) (f x) ++ rest) (all_hide m f xs ys p.1)
    ∙ sym (map_append (moved m) (f x) (flat_map f (list_of (trees_of xs))))

-- Options and lists.

pub behind_related : {A : Type 0} (m : Moves) (R : A → A → Type 0) (o p : Option (Token × A)) → Both (Pair (Twins m) R) o p → Both R (behind_token o) (behind_token p)
behind_related m R None None b = tt
behind_related m R None (Some y) b = absurd b
behind_related m R (Some x) None b = absurd b
behind_related m R (Some x) (Some y) b = b.1

pub listed_related : (R : Tree → Tree → Type 0) (o p : Option (List Tree)) → Both (Alls R) o p → Alls R (listed_or_none o) (listed_or_none p)
listed_related R None None b = tt
listed_related R None (Some y) b = absurd b
listed_related R (Some x) None b = absurd b
listed_related R (Some x) (Some y) b = b

pub append_related : {A : Type 0} (R : A → A → Type 0) (xs ys vs ws : List A) → Alls R xs ys → Alls R vs ws → Alls R (xs ++ vs) (ys ++ ws)
append_related R [] [] vs ws p q = q
append_related R [] (y ∷ ys) vs ws p q = absurd p
append_related R (x ∷ xs) [] vs ws p q = absurd p
append_related R (x ∷ xs) (y ∷ ys) vs ws p q = (p.0, append_related R xs ys vs ws p.1 q)

pub behind_same : (m : Moves) (o p : Option (Token × Tree)) → Both (Pair (Twins m) (Same m)) o p → height_of_part (part_of (behind_token o)) ≡ height_of_part (part_of (behind_token p))
behind_same m o p b = part_same m (behind_token o) (behind_token p) (behind_related m (Same m) o p b)
