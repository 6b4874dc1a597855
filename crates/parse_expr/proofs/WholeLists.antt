-- A list of statements with the lists in them.
use Rattle.std.proofs.Common.{◌≡◌, ℕ, zero, suc, List, [], ◌∷◌, map, refl, sym, ap, ◌∙◌}
use Rattle.readings.specs.Descent.{all_items}
use Rattle.dart_tree.specs.Tree.{Tree, Trees, trees_of, more}
use Rattle.dart_tree.specs.declared.places.Place.{Place}
use Rattle.unread_lists.specs.WithLists.{with_lists, all_with_lists}
use Rattle.dart_tokens.specs.declared.grouped_token.GroupedToken.{GroupedToken as Token}
use Rattle.grammar.specs.Descents.{lower}
use Rattle.grammar.specs.Statements.{segment, error_of}
use Rattle.grammar.specs.Whole.{statements_at, tokens_over}

each_read : (lists : ℕ → Place → Trees) (n : ℕ) (ts : List Tree) → all_with_lists lists n (trees_of ts) ≡ trees_of (map (with_lists lists n) ts)
each_read lists n [] = refl
each_read lists n (t ∷ ts) = ap (more (with_lists lists n t)) (each_read lists n ts)

-- where no list may lie in another, none is read
pub none_at : (depth : ℕ) (text : List Token) (room : ℕ) (at : Place) (new : List Tree) → depth ≡ 0 → new ≡ [] → trees_of new ≡ statements_at depth text room at
unfolding statements_at
none_at depth text room at new e empty = ap trees_of empty ∙ ap (λ n. statements_at n text room at) (sym e)

-- the statements of the tokens at the place, each with the lists in it
pub some_at : (depth less : ℕ) (text over : List Token) (room : ℕ) (at : Place) (new : List Tree) → depth ≡ suc less → over ≡ tokens_over text at →
    statements_at (suc less) text room at ≡ trees_of (map (with_lists (statements_at less text) room) (all_items ((lower room).statement) segment error_of (tokens_over text at))) →
    trees_of new ≡ all_with_lists (statements_at less text) room (trees_of (all_items ((lower room).statement) segment error_of over)) → trees_of new ≡ statements_at depth text room at
some_at depth less text over room at new e here law read =
    read ∙ ap (λ (ts : List Token). all_with_lists (statements_at less text) room (trees_of (all_items ((lower room).statement) segment error_of ts))) here
    ∙ each_read (statements_at less text) room (all_items ((lower room).statement) segment error_of (tokens_over text at)) ∙ sym law ∙ ap (λ n. statements_at n text room at) (sym e)
