-- Whole trees: the lists of statements in them are read where they stand.
use Rattle.std.specs.Prelude.{ℕ, zero, suc, Bool, not, ◌&&◌, nat_lt, List, length, map}
use Rattle.std.specs.List.{filter}
use Rattle.readings.specs.Readings.{items_at}
use Rattle.dart_tree.specs.Tree.{Tree, Trees, trees_of, no_more}
use Rattle.dart_tree.specs.declared.places.Place.{Place}
use Rattle.unread_lists.specs.WithLists.{with_lists}
use Rattle.dart_tokens.specs.declared.grouped_token.GroupedToken.{GroupedToken as Token}
use Rattle.grammar.specs.Statements.{segment, error_of}
use Rattle.grammar.specs.Below.{below}
use Rattle.grammar.specs.Declarations.{unit_below}

-- the token begins within the place
abbrev pub begins_within : Place → Token → Bool
begins_within at t = not (nat_lt t.start at.span.start) && nat_lt t.start at.span.end

-- the tokens of a text that stand at a place
abbrev pub tokens_over : List Token → Place → List Token
tokens_over text at = filter (begins_within at) text

-- the statements of these tokens, where so many nodes may lie on a way down from each, with errors among them: lists in them aren't read yet
abbrev pub statements_below : ℕ → List Token → List Tree
statements_below room ts = items_at (length ts) (below room).statement segment error_of ts

-- the statements of the list at a place, those of the lists in them, and so on: lists lie at most so many deep in each other
unfoldable pub statements_at : (depth : ℕ) → (text : List Token) → (room : ℕ) → Place → Trees
statements_at zero text room at = no_more
statements_at (suc depth) text room at = trees_of (map (with_lists (statements_at depth text) room) (statements_below room (tokens_over text at)))

-- no way down has more nodes: 200 below the unit, and the unit itself
abbrev pub most_nodes : ℕ
most_nodes = 201

-- a tree with its lists of statements read, where so many nodes may lie on a way down
abbrev pub whole : (text : List Token) → (room : ℕ) → Tree → Tree
whole text room t = with_lists (statements_at most_nodes text) room t

-- The tree of a text. No node lies deeper than 200: the unit is at depth 0, its items are at 1, and members at 2.
abbrev pub unit_of : (in_core : Bool) → List Token → Tree
unit_of in_core ts = whole ts most_nodes (unit_below in_core (below 199) (below 198) ts)
