-- Where nodes lie.
use Rattle.std.specs.Prelude.{Contains}
use Rattle.dart_tree.specs.Tree.{Tree}
use Rattle.dart_tree.specs.Nodes.{parts_of}

-- a node lies in itself, and in every node in one of whose parts it lies
pub data LiesIn (node : Tree) : Tree → Type 0 where
  itself : LiesIn node node
  within : (tree part : Tree) → Contains (parts_of tree) part → LiesIn node part → LiesIn node tree
