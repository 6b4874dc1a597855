-- Whole trees: how the parser reads their lists, and how high they are.
use Rattle.std.proofs.Common.{◌≡◌, ◌≤◌, ℕ, zero, suc, Bool, List, length, map, ap, arith}
use Rattle.readings.specs.Leading.{Each}
use Rattle.readings.specs.Lists.{each_map, each_implies}
use Rattle.readings.specs.Items.{same_items}
use Rattle.readings.specs.Values.{all_items_are}
use Rattle.readings.specs.Combinators.{parses_sole}
use Rattle.readings.specs.Descent.{all_items}
use Rattle.dart_tree.specs.Tree.{Tree, trees_of}
use Rattle.dart_tree.specs.Heights.{height, heights}
use Rattle.dart_tree.specs.declared.places.Place.{Place}
use Rattle.unread_lists.specs.WithLists.{with_lists}
use Rattle.unread_lists.specs.HeightLaws.{height-with_lists}
use Rattle.dart_tokens.specs.declared.grouped_token.GroupedToken.{GroupedToken as Token}
use Rattle.grammar.specs.Statements.{segment, error_of}
use Rattle.grammar.specs.Below.{below}
use Rattle.grammar.specs.Descents.{lower}
use Rattle.grammar.specs.Declarations.{unit_below}
use Rattle.grammar.specs.Whole.{statements_below, statements_at, tokens_over, most_nodes, whole, unit_of}
use Rattle.grammar.proofs.Agreement.{all_parse}
use Rattle.grammar.proofs.Depths.{Low, ls}
use Rattle.grammar.proofs.DepthLaws.{error_low, lows, unit_low}

pub statements_found : (room : ℕ) (ts : List Token) → statements_below room ts ≡ all_items ((lower room).statement) segment error_of ts
statements_found room ts = same_items segment error_of (parses_sole (all_parse room).statement) (length ts) ts

pub statements_read : (depth : ℕ) (text : List Token) (room : ℕ) (at : Place) →
    statements_at (suc depth) text room at ≡ trees_of (map (with_lists (statements_at depth text) room) (all_items ((lower room).statement) segment error_of (tokens_over text at)))
unfolding statements_at
statements_read depth text room at = ap (λ (ts : List Tree). trees_of (map (with_lists (statements_at depth text) room) ts)) (statements_found room (tokens_over text at))

statements_low : (room : ℕ) (ts : List Token) → Each (Low room) (statements_below room ts)
statements_low room ts = all_items_are segment error_of (error_low room) (lows room).statement ts

pub lists_low : (depth : ℕ) (text : List Token) (room : ℕ) (at : Place) → heights (statements_at depth text room at) ≤ room
unfolding statements_at
lists_low zero text room at = omega arith
lists_low (suc depth) text room at =
    let lists = statements_at depth text in
    ls {n = room} (map (with_lists lists room) (statements_below room (tokens_over text at)))
    (each_map (Low room) (with_lists lists room) (statements_below room (tokens_over text at))
    (each_implies (Low room) (λ t. Low room (with_lists lists room t)) (λ t h. height-with_lists lists (lists_low depth text) room t h) (statements_below room (tokens_over text at)) (statements_low room (tokens_over text at))))

pub whole_low : (text : List Token) (room : ℕ) (t : Tree) → height t ≤ room → height (whole text room t) ≤ room
whole_low text room t h = height-with_lists (statements_at most_nodes text) (lists_low most_nodes text) room t h

pub whole_unit_low : (in_core : Bool) (ts : List Token) → height (unit_of in_core ts) ≤ 201
whole_unit_low in_core ts = whole_low ts most_nodes (unit_below in_core (below 199) (below 198) ts) (unit_low 198 in_core (below 199) (below 198) (lows 199) (lows 198) ts)
