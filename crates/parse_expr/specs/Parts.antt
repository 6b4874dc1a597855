-- Parts of nodes, as the grammar reads them.
use Rattle.std.specs.Prelude.{ℕ, ◌-◌, List, length, drop}
use Rattle.readings.specs.Descent.{Descent}
use Rattle.dart_tree.specs.Tree.{Tree}
use Rattle.dart_tokens.specs.declared.grouped_token.GroupedToken.{GroupedToken as Token}
use Rattle.grammar.specs.declared.level.Level.{Level}
use Rattle.grammar.specs.Operators.{table}
use Rattle.grammar.specs.Descents.{Lower}
use Rattle.parse_leaves.specs.declared.type_leaves.TypePlace.{TypePlace}
use Rattle.parse_leaves.specs.declared.type_leaves.TypePlace.TheVariants as place
use Rattle.parse_expr.specs.declared.part.Part.{Part}
use Rattle.parse_expr.specs.declared.part.Part.TheVariants as part
use Rattle.parse_expr.specs.declared.part.Node.{Node}
use Rattle.parse_expr.specs.declared.part.Node.TheVariants as node

-- the way down by which a type is read where it stands
abbrev pub type_at : Lower → TypePlace → Descent Token Tree
type_at l place.Anywhere = l.written
type_at l (place.Tested m) = l.tested m
type_at l place.Named = l.named

-- the last so many levels of the table of operators
abbrev pub last_levels : ℕ → List Level
last_levels levels = drop (length table - levels) table

-- the way down by which a part is read
abbrev pub reads : Lower → Part → Descent Token Tree
reads l part.Written = l.written
reads l (part.Tested m) = l.tested m
reads l part.Constructed = l.constructed
reads l part.Named = l.named
reads l (part.Expression m) = l.expression m
reads l (part.Operand m levels) = l.operand m (last_levels levels)
reads l (part.Unary m) = l.unary m
reads l (part.Section m) = l.section m
reads l part.Simple = l.simple
reads l part.Block = l.block
reads l part.Statement = l.statement

-- the tree that was read
abbrev pub tree_of : Node → Tree
tree_of (node.Type t) = t
tree_of (node.Expr t) = t
tree_of (node.Block t) = t
tree_of (node.Stmt t) = t

-- what was read is a type, an expression, a block or a statement, as the part is
abbrev pub IsFormOf : Part → Node → Type 0
IsFormOf part.Written (node.Type t) = Unit {0}
IsFormOf (part.Tested m) (node.Type t) = Unit {0}
IsFormOf part.Constructed (node.Type t) = Unit {0}
IsFormOf part.Named (node.Type t) = Unit {0}
IsFormOf (part.Expression m) (node.Expr t) = Unit {0}
IsFormOf (part.Operand m levels) (node.Expr t) = Unit {0}
IsFormOf (part.Unary m) (node.Expr t) = Unit {0}
IsFormOf (part.Section m) (node.Expr t) = Unit {0}
IsFormOf part.Simple (node.Expr t) = Unit {0}
IsFormOf part.Block (node.Block t) = Unit {0}
IsFormOf part.Statement (node.Stmt t) = Unit {0}
IsFormOf p n = ⊥
