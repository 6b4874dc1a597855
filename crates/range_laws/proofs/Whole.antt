-- The trees of two texts that agree, with all their lists read, are the same with ranges aside.
use Rattle.std.proofs.Common.{◌≡◌, ℕ, zero, suc, ◌-◌, Bool, List, [], ◌∷◌, map, take, drop, refl, ap, sym, ◌∙◌}
use Rattle.readings.specs.Descent.{all_items}
use Rattle.dart_tree.specs.Tree.{Tree, trees_of}
use Rattle.dart_tree.specs.Bare.{bare_of, bare_with, all_bare_with}
use Rattle.dart_tree.specs.declared.places.Place.{Place}
use Rattle.unread_lists.specs.WithLists.{with_lists}
use Rattle.dart_tokens.specs.declared.grouped_token.GroupedToken.{GroupedToken as Token}
use Rattle.grammar.specs.Tokens.{place_over}
use Rattle.grammar.specs.Statements.{segment, error_of}
use Rattle.grammar.specs.Descents.{lower}
use Rattle.grammar.specs.DeclarationDescents.{take_item, lower_unit}
use Rattle.grammar.specs.Whole.{statements_at, tokens_over, most_nodes, whole, unit_of}
use Rattle.node_counts.specs.Rising.{Rise}
use Rattle.range_laws.specs.Agreeing.{Agree, AdjoinAlike}
use Rattle.range_laws.proofs.Follow.{Matched, matched, Readers, Alike, alike_take, alike_drop, Alls, all_items_found}
use Rattle.range_laws.proofs.Tests.{same_segment}
use Rattle.range_laws.proofs.Same.{Same, all_same}
use Rattle.range_laws.proofs.Statements.{error_same, followed}
use Rattle.range_laws.proofs.Declarations.{item_follows}
use Rattle.range_laws.proofs.Places.{part_exact}

-- how the lists of a text are read
abbrev pub ReadSo : Type 0
ReadSo = (depth : ℕ) (text : List Token) (room : ℕ) (at : Place) → statements_at (suc depth) text room at ≡ trees_of (map (with_lists (statements_at depth text) room) (all_items ((lower room).statement) segment error_of (tokens_over text at)))

-- the lists of two texts, as they are read where they stand
abbrev readers : ℕ → (text other : List Token) → Readers
readers depth text other = record { one = statements_at depth text; other = statements_at depth other }

mapped_same : (r : Readers) (n : ℕ) (xs ys : List Tree) → Alls (Same r) xs ys → all_bare_with (λ word. word) (trees_of (map (with_lists r.one n) xs)) ≡ all_bare_with (λ word. word) (trees_of (map (with_lists r.other n) ys))
mapped_same r n [] [] p = refl
mapped_same r n [] (y ∷ ys) p = absurd p
mapped_same r n (x ∷ xs) [] p = absurd p
mapped_same r n (x ∷ xs) (y ∷ ys) p = rw (p.0.shown n, mapped_same r n xs ys p.1) refl

-- the statements of parts that are alike
items_same : (r : Readers) (n : ℕ) (part other : List Token) → Alike r part other →
    all_bare_with (λ word. word) (trees_of (map (with_lists r.one n) (all_items ((lower n).statement) segment error_of part))) ≡ all_bare_with (λ word. word) (trees_of (map (with_lists r.other n) (all_items ((lower n).statement) segment error_of other)))
items_same r n part other a =
    mapped_same r n (all_items ((lower n).statement) segment error_of part) (all_items ((lower n).statement) segment error_of other)
    (all_items_found segment error_of (followed r n).statement (same_segment r) (error_same r) part other a)

texts_alike : ReadSo → (text other : List Token) → Rise text → Rise other → Matched text other → (depth : ℕ) → Alike (readers depth text other) text other
unfolding statements_at
texts_alike so text other r s agree zero = record { agree = agree; parts = λ m k n. refl }
texts_alike so text other r s agree (suc depth) = record {
  agree = agree;
  parts = λ m k n.
      rw (so depth text n (place_over (take k (drop m text))), so depth other n (place_over (take k (drop m other))), part_exact m k text r, part_exact m k other s)
      (items_same (readers depth text other) n (take k (drop m text)) (take k (drop m other))
      (alike_take (readers depth text other) k (drop m text) (drop m other) (alike_drop (readers depth text other) m text other (texts_alike so text other r s agree depth))));
}

unit_same : (r : Readers) (in_core : Bool) (n : ℕ) (text other : List Token) → Alike r text other →
    bare_with (λ word. word) (with_lists r.one n (lower_unit in_core (lower 199) (lower 198) text)) ≡ bare_with (λ word. word) (with_lists r.other n (lower_unit in_core (lower 199) (lower 198) other))
unit_same r in_core n text other a =
    let items = all_same r (all_items (take_item in_core (lower 199) (lower 198)) segment error_of text) (all_items (take_item in_core (lower 199) (lower 198)) segment error_of other)
    (all_items_found segment error_of (item_follows r in_core (lower 199) (lower 198) (followed r 199) (followed r 198)) (same_segment r) (error_same r) text other a) in
    rw (items.shown (n - 1)) refl

pub units_same : ReadSo → ((in_core : Bool) (tokens : List Token) → unit_of in_core tokens ≡ whole tokens most_nodes (lower_unit in_core (lower 199) (lower 198) tokens)) →
    (in_core : Bool) (tokens others : List Token) → Rise tokens → Rise others → Agree tokens others → AdjoinAlike tokens others → bare_of (unit_of in_core tokens) ≡ bare_of (unit_of in_core others)
units_same so is in_core tokens others r s agree alike =
    ap bare_of (is in_core tokens) ∙ (unit_same (readers most_nodes tokens others) in_core most_nodes tokens others (texts_alike so tokens others r s (matched tokens others agree alike) most_nodes) ∙ sym (ap bare_of (is in_core others)))
