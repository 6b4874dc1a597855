-- Where the nodes of a tree stand.
use Rattle.std.specs.Prelude.{◌≡◌, ◌<◌, ◌≤◌, ℕ, zero, suc, List, [], ◌∷◌}
use Rattle.std.specs.List.{flat_map}
use Rattle.dart_tree.specs.Tree.{Tree}
use Rattle.dart_tree.specs.Nodes.{parts_of}
use Rattle.dart_tree.specs.Places.{place_of, span_of}
use Rattle.dart_tokens.specs.declared.grouped_token.GroupedToken.{GroupedToken as Token}
use Rattle.grammar.specs.Tokens.{span_over}
use Rattle.grammar.specs.Whole.{tokens_over}

-- the nodes so many levels below a node, in reading order: itself, its parts, their parts, and so on
abbrev pub nodes_at : (level : ℕ) → Tree → List Tree
nodes_at zero t = t ∷ []
nodes_at (suc level) t = flat_map (nodes_at level) (parts_of t)

-- the nodes stand between two offsets, one behind the other, and each has a code unit at least
abbrev pub InOrder : (from to : ℕ) → List Tree → Type 0
InOrder from to [] = from ≤ to
InOrder from to (t ∷ ts) = (from ≤ (span_of t).start) × ((span_of t).start < (span_of t).end) × InOrder (span_of t).end to ts

-- the parts of a node stand in its range, one behind the other
abbrev pub PartsInOrder : Tree → Type 0
PartsInOrder t = InOrder (span_of t).start (span_of t).end (parts_of t)

-- the node stands from the first to the last of the tokens that begin within it
abbrev pub StandsOnTokens : List Token → Tree → Type 0
StandsOnTokens tokens t = span_of t ≡ span_over (tokens_over tokens (place_of t))
