-- What is parsed at a place of a text.
use Rattle.std.specs.Prelude.{ℕ, ◌-◌, suc, nat_lt, List, length, drop, Option, None, option_map, if◌then◌else◌}
use Rattle.readings.specs.Readings.{Reading}
use Rattle.readings.specs.Descent.{Descent}
use Rattle.dart_tree.specs.Tree.{Tree}
use Rattle.dart_tokens.specs.declared.grouped_token.GroupedToken.{GroupedToken as Token}
use Rattle.grammar.specs.Descents.{Lower, lower, take_parameter_list}
use Rattle.grammar.specs.Whole.{most_nodes, whole}

-- how many nodes may lie on a way down from a node at a depth, itself among them
abbrev pub room_at : (depth : ℕ) → ℕ
room_at depth = most_nodes - depth

-- a tree with its lists of statements read where they stand, and how many tokens of the text lie before what is left
abbrev pub whole_at : (text : List Token) → (room : ℕ) → Reading Token Tree → Tree × ℕ
whole_at text room x = (whole text room x.0, length text - length x.1)

-- what is found where so many tokens lie before it, with its root at a depth
abbrev pub parsed : (Lower → Descent Token Tree) → (text : List Token) → (at depth : ℕ) → Option (Tree × ℕ)
parsed reads text at depth = option_map (whole_at text (room_at depth)) (reads (lower (room_at depth)) (drop at text))

-- which parameters are found where so many tokens lie before them, of a node at a depth; there are none where that lies deeper than a tree goes
abbrev pub parsed_parameters : (text : List Token) → (at depth : ℕ) → Option (Tree × ℕ)
parsed_parameters text at depth = if nat_lt depth most_nodes then parsed take_parameter_list text at (suc depth) else None
