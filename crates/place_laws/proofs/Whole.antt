-- The tree of a text, with all its lists read, stands in order.
use Rattle.std.proofs.Common.{◌≡◌, ℕ, zero, suc, ◌-◌, Bool, List, [], ◌∷◌, map, refl, sym, subst, arith}
use Rattle.readings.specs.Descent.{all_items}
use Rattle.readings.specs.Leading.{Each}
use Rattle.readings.specs.Lists.{each_implies}
use Rattle.dart_tree.specs.Tree.{Tree, Trees, trees_of}
use Rattle.dart_tree.specs.Nodes.{list_of, parts_of}
use Rattle.dart_tree.specs.Places.{place_of}
use Rattle.dart_tree.specs.declared.places.Place.{Place}
use Rattle.unread_lists.specs.WithLists.{with_lists}
use Rattle.dart_tokens.specs.declared.grouped_token.GroupedToken.{GroupedToken as Token}
use Rattle.grammar.specs.Tokens.{place_over}
use Rattle.grammar.specs.Statements.{segment, error_of}
use Rattle.grammar.specs.Descents.{lower}
use Rattle.grammar.specs.DeclarationDescents.{take_item, lower_unit}
use Rattle.grammar.specs.Whole.{statements_at, tokens_over, most_nodes, whole, unit_of}
use Rattle.node_counts.specs.Rising.{Rise, HoldGroups}
use Rattle.place_laws.specs.Standing.{nodes_at, PartsInOrder, StandsOnTokens}
use Rattle.place_laws.proofs.Rows.{Placed, Stands, Row}
use Rattle.place_laws.proofs.TextParts.{Begin, reach, reach_from, begin_first, PartOf, part_whole, part_rise, part_exact}
use Rattle.place_laws.proofs.Lays.{Text, one, total, stands_on, node_at, all_items_row}
use Rattle.place_laws.proofs.Expressions.{all_read}
use Rattle.place_laws.proofs.Statements.{error_bare, ordered}
use Rattle.place_laws.proofs.Declarations.{item_laid}

-- how the lists of a text are read
abbrev pub ReadSo : Type 0
ReadSo = (depth : ℕ) (text : List Token) (room : ℕ) (at : Place) → statements_at (suc depth) text room at ≡ trees_of (map (with_lists (statements_at depth text) room) (all_items ((lower room).statement) segment error_of (tokens_over text at)))

mapped_read : (c : Text) (n : ℕ) (ts : List Tree) → list_of (trees_of (map (with_lists c.lists n) ts)) ≡ total (one c) ts n
mapped_read c n [] = refl
mapped_read c n (t ∷ ts) = rw (mapped_read c n ts) refl

-- the statements that are read on a part of a text
statements_row : (c : Text) (read : List Token) → PartOf c.tokens read → (from n : ℕ) → Begin from read →
    Row c.tokens from (reach from read) (list_of (trees_of (map (with_lists c.lists n) (all_items ((lower n).statement) segment error_of (tokens_over c.tokens (place_over read))))))
statements_row c read p from n b =
    subst (λ (us : List Token). Row c.tokens from (reach from read) (list_of (trees_of (map (with_lists c.lists n) (all_items ((lower n).statement) segment error_of us))))) (sym (part_exact c.tokens read c.rise p))
    (subst (λ (xs : List Tree). Row c.tokens from (reach from read) xs) (sym (mapped_read c n (all_items ((lower n).statement) segment error_of read)))
    (all_items_row c ((lower n).statement) segment error_of (error_bare c) (ordered c n).statement read p from n b))

lists_lie : ReadSo → (text : List Token) → Rise text → HoldGroups text → (depth : ℕ) (read : List Token) → PartOf text read → (from n : ℕ) → Begin from read → Row text from (reach from read) (list_of (statements_at depth text n (place_over read)))
unfolding statements_at
lists_lie so text r h zero read p from n b = reach_from from read (part_rise text read r p) b
lists_lie so text r h (suc depth) read p from n b =
    subst (λ (ts : Trees). Row text from (reach from read) (list_of ts)) (sym (so depth text n (place_over read)))
    (statements_row (record { tokens = text; lists = statements_at depth text; rise = r; hold = h; lie = lists_lie so text r h depth }) read p from n b)

-- a node over a whole text
whole_stands : (c : Text) (read : List Token) → PartOf c.tokens read → (t : Tree) → place_of t ≡ place_over read → ((from : ℕ) → Begin from read → Row c.tokens from (reach from read) (parts_of t)) → Stands c.tokens t
whole_stands c [] p t e parts =
    stands_on c [] p t e (subst (λ (at : Place). Row c.tokens at.span.start at.span.end (parts_of t)) (sym e) (parts 0 tt))
whole_stands c (r ∷ read) p t e parts =
    (node_at c r read p t e (parts r.start (begin_first r read (part_rise c.tokens (r ∷ read) c.rise p))) 0 (omega arith)).2

unit_stands : (c : Text) (in_core : Bool) (n : ℕ) → Stands c.tokens (with_lists c.lists n (lower_unit in_core (lower 199) (lower 198) c.tokens))
unit_stands c in_core n =
    let items = all_items (take_item in_core (lower 199) (lower 198)) segment error_of c.tokens in
    whole_stands c c.tokens (part_whole c.tokens) (with_lists c.lists n (lower_unit in_core (lower 199) (lower 198) c.tokens)) refl
    (λ from b.
    subst (λ (xs : List Tree). Row c.tokens from (reach from c.tokens) xs) (sym (all_read c (n - 1) items))
    (all_items_row c (take_item in_core (lower 199) (lower 198)) segment error_of (error_bare c) (item_laid c in_core (lower 199) (lower 198) (ordered c 199) (ordered c 198)) c.tokens (part_whole c.tokens) from (n - 1) b))

-- how the tree of a text is read
abbrev pub UnitSo : Type 0
UnitSo = (in_core : Bool) (tokens : List Token) → unit_of in_core tokens ≡ whole tokens most_nodes (lower_unit in_core (lower 199) (lower 198) tokens)

units_stand : ReadSo → UnitSo → (in_core : Bool) (tokens : List Token) → Rise tokens → HoldGroups tokens → Stands tokens (unit_of in_core tokens)
units_stand so is in_core tokens r h =
    subst (λ (t : Tree). Stands tokens t) (sym (is in_core tokens))
    (unit_stands (record { tokens = tokens; lists = statements_at most_nodes tokens; rise = r; hold = h; lie = lists_lie so tokens r h most_nodes }) in_core most_nodes)

pub units_on_tokens : ReadSo → UnitSo → (in_core : Bool) (tokens : List Token) → Rise tokens → HoldGroups tokens → (level : ℕ) → Each (StandsOnTokens tokens) (nodes_at level (unit_of in_core tokens))
units_on_tokens so is in_core tokens r h level =
    each_implies (Placed tokens) (StandsOnTokens tokens) (λ t p. p.tokens) (nodes_at level (unit_of in_core tokens)) (units_stand so is in_core tokens r h level)

pub units_in_order : ReadSo → UnitSo → (in_core : Bool) (tokens : List Token) → Rise tokens → HoldGroups tokens → (level : ℕ) → Each PartsInOrder (nodes_at level (unit_of in_core tokens))
units_in_order so is in_core tokens r h level =
    each_implies (Placed tokens) PartsInOrder (λ t p. p.parts) (nodes_at level (unit_of in_core tokens)) (units_stand so is in_core tokens r h level)
