-- What is parsed at a place of a text.
use Rattle.std.proofs.Common.{◌≡◌, ℕ, ◌-◌, List, length, drop, Option, Some, None, sym, ap, ◌∙◌}
use Rattle.std.specs.Option.{option_map}
use Rattle.readings.specs.Descent.{Descent}
use Rattle.dart_tree.specs.Tree.{Tree}
use Rattle.unread_lists.specs.WithLists.{with_lists}
use Rattle.dart_tokens.specs.declared.grouped_token.GroupedToken.{GroupedToken as Token}
use Rattle.grammar.specs.declared.level.Setting.TheVariants as setting
use Rattle.grammar.specs.Descents.{Lower, lower, take_parameter_list}
use Rattle.grammar.specs.Whole.{statements_at, most_nodes}
use Rattle.parse_expr.specs.Calls.{room_at, whole_at, parsed}

moved : (reads : Lower → Descent Token Tree) (text ts : List Token) (at depth room : ℕ) → room ≡ room_at depth → ts ≡ drop at text → reads (lower (room_at depth)) (drop at text) ≡ reads (lower room) ts
moved reads text ts at depth room e d = ap (λ k. reads (lower k) (drop at text)) (sym e) ∙ ap (λ us. reads (lower room) us) (sym d)

-- the tree, once its lists are read, and the place behind it
found_at : (reads : Lower → Descent Token Tree) (text ts rest : List Token) (at depth room past : ℕ) (old new : Tree) → room ≡ room_at depth → ts ≡ drop at text → reads (lower room) ts ≡ Some (old, rest) →
    new ≡ with_lists (statements_at most_nodes text) room old → past ≡ length text - length rest → Some (new, past) ≡ parsed reads text at depth
found_at reads text ts rest at depth room past old new e d found read count =
    let whole : new ≡ with_lists (statements_at most_nodes text) (room_at depth) old = read ∙ ap (λ k. with_lists (statements_at most_nodes text) k old) e in
    ap (λ k. Some (new, k)) count ∙ ap (λ t. Some (t, length text - length rest)) whole ∙ sym (ap (option_map (whole_at text (room_at depth))) (moved reads text ts at depth room e d ∙ found))

-- nothing is there
missing_at : (reads : Lower → Descent Token Tree) (text ts : List Token) (at depth room : ℕ) → room ≡ room_at depth → ts ≡ drop at text → reads (lower room) ts ≡ None → None ≡ parsed reads text at depth
missing_at reads text ts at depth room e d none = sym (ap (option_map (whole_at text (room_at depth))) (moved reads text ts at depth room e d ∙ none))

-- a type

pub type_found : (text ts rest : List Token) (at depth room past : ℕ) (old new : Tree) → room ≡ room_at depth → ts ≡ drop at text → (lower room).written ts ≡ Some (old, rest) →
    new ≡ with_lists (statements_at most_nodes text) room old → past ≡ length text - length rest → Some (new, past) ≡ parsed (λ (l : Lower). l.written) text at depth
type_found text ts rest at depth room past old new = found_at (λ (l : Lower). l.written) text ts rest at depth room past old new

pub type_missing : (text ts : List Token) (at depth room : ℕ) → room ≡ room_at depth → ts ≡ drop at text → (lower room).written ts ≡ None → None ≡ parsed (λ (l : Lower). l.written) text at depth
type_missing text ts at depth room = missing_at (λ (l : Lower). l.written) text ts at depth room

-- an expression

pub expression_found : (text ts rest : List Token) (at depth room past : ℕ) (old new : Tree) → room ≡ room_at depth → ts ≡ drop at text → (lower room).expression setting.Plain ts ≡ Some (old, rest) →
    new ≡ with_lists (statements_at most_nodes text) room old → past ≡ length text - length rest → Some (new, past) ≡ parsed (λ (l : Lower). l.expression setting.Plain) text at depth
expression_found text ts rest at depth room past old new = found_at (λ (l : Lower). l.expression setting.Plain) text ts rest at depth room past old new

pub expression_missing : (text ts : List Token) (at depth room : ℕ) → room ≡ room_at depth → ts ≡ drop at text → (lower room).expression setting.Plain ts ≡ None → None ≡ parsed (λ (l : Lower). l.expression setting.Plain) text at depth
expression_missing text ts at depth room = missing_at (λ (l : Lower). l.expression setting.Plain) text ts at depth room

-- a statement

pub statement_found : (text ts rest : List Token) (at depth room past : ℕ) (old new : Tree) → room ≡ room_at depth → ts ≡ drop at text → (lower room).statement ts ≡ Some (old, rest) →
    new ≡ with_lists (statements_at most_nodes text) room old → past ≡ length text - length rest → Some (new, past) ≡ parsed (λ (l : Lower). l.statement) text at depth
statement_found text ts rest at depth room past old new = found_at (λ (l : Lower). l.statement) text ts rest at depth room past old new

pub statement_missing : (text ts : List Token) (at depth room : ℕ) → room ≡ room_at depth → ts ≡ drop at text → (lower room).statement ts ≡ None → None ≡ parsed (λ (l : Lower). l.statement) text at depth
statement_missing text ts at depth room = missing_at (λ (l : Lower). l.statement) text ts at depth room

-- a block

pub block_found : (text ts rest : List Token) (at depth room past : ℕ) (old new : Tree) → room ≡ room_at depth → ts ≡ drop at text → (lower room).block ts ≡ Some (old, rest) →
    new ≡ with_lists (statements_at most_nodes text) room old → past ≡ length text - length rest → Some (new, past) ≡ parsed (λ (l : Lower). l.block) text at depth
block_found text ts rest at depth room past old new = found_at (λ (l : Lower). l.block) text ts rest at depth room past old new

pub block_missing : (text ts : List Token) (at depth room : ℕ) → room ≡ room_at depth → ts ≡ drop at text → (lower room).block ts ≡ None → None ≡ parsed (λ (l : Lower). l.block) text at depth
block_missing text ts at depth room = missing_at (λ (l : Lower). l.block) text ts at depth room

-- parameters

pub parameters_found : (text ts rest : List Token) (at depth room past : ℕ) (old new : Tree) → room ≡ room_at depth → ts ≡ drop at text → take_parameter_list (lower room) ts ≡ Some (old, rest) →
    new ≡ with_lists (statements_at most_nodes text) room old → past ≡ length text - length rest → Some (new, past) ≡ parsed take_parameter_list text at depth
parameters_found text ts rest at depth room past old new = found_at take_parameter_list text ts rest at depth room past old new

pub parameters_missing : (text ts : List Token) (at depth room : ℕ) → room ≡ room_at depth → ts ≡ drop at text → take_parameter_list (lower room) ts ≡ None → None ≡ parsed take_parameter_list text at depth
parameters_missing text ts at depth room = missing_at take_parameter_list text ts at depth room
