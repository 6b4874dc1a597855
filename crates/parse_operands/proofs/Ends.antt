-- Heights of what a string holds.
use Rattle.std.proofs.Common.{◌≡◌, ◌++◌, List, [], ◌∷◌, ap, ◌∙◌}
use Rattle.dart_tree.specs.Tree.{Tree, trees_of}
use Rattle.dart_tree.specs.Heights.{heights}
use Rattle.dart_tokens.specs.declared.grouped_token.GroupedToken.{GroupedToken as Token}
use Rattle.grammar.specs.Expressions.{string_text_of}
use Rattle.parse_leaves.specs.Sizes.{heights_ended}

-- the ends of a string hold nothing
pub heights_with_ends : (t u : Token) (parts all : List Tree) → all ≡ string_text_of t ∷ (parts ++ string_text_of u ∷ []) → heights (trees_of all) ≡ heights (trees_of parts)
heights_with_ends t u parts all e = ap (λ ts. heights (trees_of ts)) e ∙ heights_ended t u parts
