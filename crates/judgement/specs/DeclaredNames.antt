-- Which names statements declare.
use Rattle.std.specs.Prelude.{List, [], ◌∷◌, ◌++◌, map}
use Rattle.std.specs.FinMap.{insert}
use Rattle.dart_tree.specs.Tree.{Tree, Trees, no_more, more, variable, variable_list, variable_statement}
use Rattle.dart_tree.specs.declared.names.Name.{Name}
use Rattle.flow_model.specs.declared.locals.LocalId.{LocalId}
use Rattle.judgement.specs.Surroundings.{Names, Surroundings}

-- the local that a name declares: it has the number of that name
abbrev pub local_of : Name → LocalId
local_of x = record { 0 = x.at.node.0 }

-- the name that a variable of a declaration declares
abbrev pub name_of_variable : Tree → List Name
name_of_variable (variable at name initializer) = name ∷ []
name_of_variable _ = []

-- those of variables that are declared together
abbrev pub names_of_variables : Trees → List Name
names_of_variables no_more = []
names_of_variables (more first rest) = name_of_variable first ++ names_of_variables rest

-- those of a list of variables
abbrev pub names_of_list : Tree → List Name
names_of_list (variable_list at is_final written variables) = names_of_variables variables
names_of_list _ = []

-- the names that a statement itself declares: what stands in it has scopes of its own
abbrev pub names_declared : Tree → List Name
names_declared (variable_statement at variables) = names_of_list variables
names_declared _ = []

-- those that the statements of a block declare, in their order
abbrev pub names_in : Trees → List Name
names_in no_more = []
names_in (more first rest) = names_declared first ++ names_in rest

-- What names mean where these are declared, and else what they meant before. Of a word that is declared twice, the first declaration.
abbrev pub names_within : Names → List Name → Names
names_within around [] = around
names_within around (x ∷ xs) = insert (names_within around xs) x.word (local_of x)

-- the surroundings in a scope that declares these names, from its beginning on
abbrev pub within : Surroundings → List Name → Surroundings
within s names = record s { names = names_within s.names names }

-- the locals of these names
abbrev pub locals_of : List Name → List LocalId
locals_of names = map local_of names
