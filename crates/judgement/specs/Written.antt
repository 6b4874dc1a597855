-- The locals that a tree writes.
use Rattle.std.specs.Prelude.{List, [], ◌∷◌, ◌++◌}
use Rattle.dart_tree.specs.Tree.{Tree, Trees, Part, no_more, more, absent, present, identifier, parenthesis, binary_expression, assignment, call, argument_list, argument, variable_list, variable, block, variable_statement, expression_statement, if_statement, while_statement}
use Rattle.flow_model.specs.declared.locals.LocalId.{LocalId}
use Rattle.judgement.specs.declared.meaning.Meaning.{Meaning}
use Rattle.judgement.specs.declared.meaning.Meaning.TheVariants.{Nothing, Local, Print, Class, Other}
use Rattle.judgement.specs.Surroundings.{Surroundings, meaning_of}
use Rattle.judgement.specs.DeclaredNames.{names_declared, names_in, within}

-- what an expression names, in parentheses too; expressions of other forms name nothing
abbrev pub named_by : Surroundings → Tree → Meaning
named_by s (identifier at word) = meaning_of s word
named_by s (parenthesis at inner) = named_by s inner
named_by s _ = Nothing

-- the local that a name means, as a list
abbrev pub local_meant : Meaning → List LocalId
local_meant (Local var) = var ∷ []
local_meant Nothing = []
local_meant Print = []
local_meant (Class class) = []
local_meant Other = []

abbrev mutual
  -- The locals that the assignments in a tree name, each by what its name means there. An initializer is no write. The forms that aren't listed write nothing, or aren't judged yet.
  pub written_in : Surroundings → Tree → List LocalId
  written_in s (parenthesis at inner) = written_in s inner
  written_in s (binary_expression at operator left right) = written_in s left ++ written_in s right
  written_in s (assignment at operator target value) = written_in s value ++ local_meant (named_by s target)
  written_in s (call at callee type_arguments arguments) = written_in s arguments
  written_in s (argument_list at arguments) = written_in_all s arguments
  written_in s (argument at name value) = written_in s value
  written_in s (variable_list at is_final declared variables) = written_in_all s variables
  written_in s (variable at name initializer) = written_in_part s initializer
  written_in s (block at statements) = written_in_all (within s (names_in statements)) statements
  written_in s (variable_statement at variables) = written_in s variables
  written_in s (expression_statement at value) = written_in_part s value
  written_in s (if_statement at condition then_branch else_branch) =
      written_in s condition ++ (written_in (within s (names_declared then_branch)) then_branch ++ written_in_branch s else_branch)
  written_in s (while_statement at condition body) = written_in s condition ++ written_in (within s (names_declared body)) body
  written_in s _ = []

  -- those that trees write, one after another
  pub written_in_all : Surroundings → Trees → List LocalId
  written_in_all s no_more = []
  written_in_all s (more first rest) = written_in s first ++ written_in_all s rest

  -- those that a part writes: none where it is left out
  pub written_in_part : Surroundings → Part → List LocalId
  written_in_part s absent = []
  written_in_part s (present tree) = written_in s tree

  -- those that a statement writes that is a branch, and so a scope
  pub written_in_branch : Surroundings → Part → List LocalId
  written_in_branch s absent = []
  written_in_branch s (present tree) = written_in (within s (names_declared tree)) tree
