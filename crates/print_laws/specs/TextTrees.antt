-- The trees of texts.
use Rattle.std.specs.Prelude.{ℕ, Bool, List}
use Rattle.dart_tree.specs.Tree.{Tree}
use Rattle.dart_tree.specs.Bare.{bare_of}
use Rattle.dart_scan.specs.Scanned.{tokens_of}
use Rattle.grammar.specs.Tokens.{grammar_tokens}
use Rattle.grammar.specs.Whole.{unit_of}

-- the tree of a text, with ranges and numbers aside; a text of `dart:core` may have bodies `native;`
abbrev pub bare_tree : (in_core : Bool) → (text : List ℕ) → Tree
bare_tree in_core text = bare_of (unit_of in_core (grammar_tokens (tokens_of text)))
