-- Items of a list of statements.
use Rattle.std.specs.Prelude.{suc, List, take, drop, Option, Some, None}
use Rattle.readings.specs.Readings.{Reading}
use Rattle.readings.specs.Descent.{Descent}
use Rattle.dart_tree.specs.Tree.{Tree}
use Rattle.dart_tokens.specs.declared.grouped_token.GroupedToken.{GroupedToken as Token}
use Rattle.grammar.specs.Statements.{segment, error_of}

-- what was found, or an error over the segment that comes next
abbrev pub item_found : List Token → Option (Reading Token Tree) → Reading Token Tree
item_found ts None = (error_of (take (suc (segment ts)) ts), drop (suc (segment ts)) ts)
item_found ts (Some x) = x

-- the item that comes next, and what is left behind it
abbrev pub item_of : Descent Token Tree → List Token → Reading Token Tree
item_of g ts = item_found ts (g ts)
