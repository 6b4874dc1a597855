-- The interface parts of texts.
use Rattle.std.specs.Prelude.{ℕ, Bool, List}
use Rattle.dart_tree.specs.Tree.{Tree}
use Rattle.dart_tree.specs.Numbers.{numbered}
use Rattle.dart_scan.specs.Scanned.{tokens_of, words_of}
use Rattle.grammar.specs.Tokens.{grammar_tokens}
use Rattle.grammar.specs.Whole.{unit_of}
use Rattle.interface_part.specs.declared.hidden.Hidden.{Hidden}
use Rattle.interface_part.specs.Hidden.{hidden_in}
use Rattle.interface_part.specs.Parts.{Part}
use Rattle.interface_part.specs.Interface.{parts_of}

-- the tree of a text, its nodes numbered in reading order; a text of `dart:core` may have bodies `native;`
abbrev pub tree_of : (in_core : Bool) → (text : List ℕ) → Tree
tree_of in_core text = numbered 0 (unit_of in_core (grammar_tokens (tokens_of text)))

-- the bodies and initializers that a text hides
abbrev pub hidden_of : (in_core : Bool) → (text : List ℕ) → List Hidden
hidden_of in_core text = hidden_in (tree_of in_core text)

-- the interface part of a text
abbrev pub interface_of_text : (in_core : Bool) → (text : List ℕ) → List Part
interface_of_text in_core text = parts_of (words_of text) (hidden_of in_core text) (tokens_of text)
