-- The tree of a text, with all its lists read, has no more nodes than its tokens pay for, and itself.
use Rattle.std.proofs.Common.{◌≡◌, ℕ, zero, suc, ◌+◌, ◌*◌, ◌≤◌, Bool, List, [], ◌∷◌, length, map, sym, subst, arith}
use Rattle.readings.specs.Descent.{all_items}
use Rattle.dart_tree.specs.Tree.{Tree, Trees, trees_of}
use Rattle.dart_tree.specs.Numbers.{nodes_in, nodes_in_all}
use Rattle.dart_tree.specs.declared.places.Place.{Place}
use Rattle.unread_lists.specs.WithLists.{with_lists}
use Rattle.dart_tokens.specs.declared.grouped_token.GroupedToken.{GroupedToken as Token}
use Rattle.grammar.specs.Statements.{segment, error_of}
use Rattle.grammar.specs.Descents.{lower}
use Rattle.grammar.specs.DeclarationDescents.{take_item, lower_unit}
use Rattle.grammar.specs.Whole.{statements_at, tokens_over, most_nodes, whole, unit_of}
use Rattle.node_counts.specs.Rising.{Rise, HoldGroups}
use Rattle.node_counts.proofs.Weights.{weight, Affords, tree_counted}
use Rattle.node_counts.proofs.Pays.{total, worth, all_items_total}
use Rattle.node_counts.proofs.Costs.{all_weight}
use Rattle.node_counts.proofs.StatementCosts.{affordable, error_pays}
use Rattle.node_counts.proofs.DeclarationCosts.{item_pays}
use Rattle.node_counts.proofs.Parts.{cost, text_sound, place_sound}

-- how the lists of a text are read
abbrev pub ReadSo : Type 0
ReadSo = (depth : ℕ) (text : List Token) (room : ℕ) (at : Place) → statements_at (suc depth) text room at ≡ trees_of (map (with_lists (statements_at depth text) room) (all_items ((lower room).statement) segment error_of (tokens_over text at)))

read_nodes : (c : Place → ℕ) (lists : ℕ → Place → Trees) → Affords c lists → (n : ℕ) (ts : List Tree) → nodes_in_all (trees_of (map (with_lists lists n) ts)) ≤ total (weight c) ts
read_nodes c lists h n [] = omega arith
read_nodes c lists h n (t ∷ ts) = omega (arith, tree_counted c lists h n t, read_nodes c lists h n ts)

statements_cost : (text : List Token) → Rise text → HoldGroups text → (room : ℕ) (at : Place) → total (weight (cost text)) (all_items ((lower room).statement) segment error_of (tokens_over text at)) ≤ cost text at
statements_cost text r h room at = all_items_total segment error_of (affordable (cost text) room).statement (error_pays (cost text)) (tokens_over text at) (place_sound text r h at)

step : (a b d : ℕ) → a ≤ b → b ≤ d → a ≤ d
step a b d h k = omega (arith, h, k)

lists_cost : ReadSo → (text : List Token) → Rise text → HoldGroups text → (depth : ℕ) → Affords (cost text) (statements_at depth text)
unfolding statements_at
lists_cost so text r h zero room at = omega arith
lists_cost so text r h (suc depth) room at =
    subst (λ (ts : Trees). nodes_in_all ts ≤ cost text at) (sym (so depth text room at))
    (step _ _ _ (read_nodes (cost text) (statements_at depth text) (lists_cost so text r h depth) room (all_items ((lower room).statement) segment error_of (tokens_over text at))) (statements_cost text r h room at))

worth_of : (ts : List Token) → worth ts ≤ 16 * length ts
worth_of [] = omega arith
worth_of (t ∷ ts) = omega (arith, worth_of ts)

unit_cost : (text : List Token) → Rise text → HoldGroups text → (in_core : Bool) → weight (cost text) (lower_unit in_core (lower 199) (lower 198) text) ≤ 1 + worth text
unit_cost text r h in_core =
    let c = cost text in
    let items = all_items (take_item in_core (lower 199) (lower 198)) segment error_of text in
    omega (arith, all_weight c items, all_items_total segment error_of (item_pays c in_core (lower 199) (lower 198) (affordable c 199) (affordable c 198)) (error_pays c) text (text_sound text r h))

pub unit_nodes : ReadSo → ((in_core : Bool) (tokens : List Token) → unit_of in_core tokens ≡ whole tokens most_nodes (lower_unit in_core (lower 199) (lower 198) tokens)) →
    (in_core : Bool) (tokens : List Token) → Rise tokens → HoldGroups tokens → nodes_in (unit_of in_core tokens) ≤ 16 * length tokens + 1
unit_nodes so is in_core tokens r h =
    subst (λ (t : Tree). nodes_in t ≤ 16 * length tokens + 1) (sym (is in_core tokens))
    (step _ _ _ (tree_counted (cost tokens) (statements_at most_nodes tokens) (lists_cost so tokens r h most_nodes) most_nodes (lower_unit in_core (lower 199) (lower 198) tokens))
    (omega (arith, unit_cost tokens r h in_core, worth_of tokens)))
