-- What is known of a function that is built.
use Rattle.std.specs.Prelude.{◌≡◌, ℕ, true, List, Some}
use Rattle.dart_tree.specs.Tree.{Tree, Trees, block}
use Rattle.dart_tree.specs.declared.places.Place.{Place}
use Rattle.dart_tree.specs.declared.places.Span.{Span}
use Rattle.judgement.specs.declared.meaning.Meaning.{Meaning}
use Rattle.built_forms.specs.Forms.{are_statements, is_block}
use Rattle.built_forms.specs.Units.{built_main, meanings_in}

-- the body of the function `main`, if that is built, is a block of built forms
abbrev pub BodiesAreBuilt : Type 0
BodiesAreBuilt = (words : List (List ℕ)) (tree : Tree) (span : Span) (body : Tree) → built_main words tree ≡ Some (span, body) → is_block (meanings_in words tree) body ≡ true

-- a tree is a block of statements that are built, and of what derives nothing
pub record IsBuiltBlock (outside : List Meaning) (body : Tree) : Type 0 where
  pub at : Place
  pub statements : Trees
  pub body_is : body ≡ block at statements
  pub are_built : are_statements outside statements ≡ true

-- such is the body of the function `main`, if that is built
abbrev pub BodiesAreBlocks : Type 0
BodiesAreBlocks = (words : List (List ℕ)) (tree : Tree) (span : Span) (body : Tree) → built_main words tree ≡ Some (span, body) → IsBuiltBlock (meanings_in words tree) body
