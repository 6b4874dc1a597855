-- The outline of a unit.
use Rattle.std.specs.Prelude.{ℕ, List}
use Rattle.dart_tree.specs.Tree.{Tree, Trees, no_more, unit}
use Rattle.directives.specs.declared.outline.Outline.{Outline}
use Rattle.directives.specs.Directives.{directives_in}
use Rattle.directives.specs.Order.{misplaced_in}
use Rattle.directives.specs.DeclaredNames.{declared_in}

-- that of items
abbrev pub outline_in : (words : List (List ℕ)) → Trees → Outline
outline_in words items = record { directives = directives_in words items; misplaced = misplaced_in items; declared = declared_in words items }

-- the directives of a unit with these words, where those stand that may not stand there, and what its top level declares
abbrev pub outline_of : (words : List (List ℕ)) → Tree → Outline
outline_of words (unit at items) = outline_in words items
outline_of words _ = outline_in words no_more
