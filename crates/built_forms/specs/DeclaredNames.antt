-- The names that the declarations and directives of a unit declare, by their words.
use Rattle.std.specs.Prelude.{ℕ, Bool, true, false, ◌||◌, List, [], ◌∷◌, ◌++◌}
use Rattle.dart_tree.specs.Tree.{Tree, Trees, Part, no_more, more, absent, present, getter, setter, plain_function, variable_list, variable, class_declaration, mixin_declaration, type_alias, function_declaration, variable_declaration, import_directive, part_directive, part_of_directive, part_of_library_directive, listed_name}

-- the name of a function
abbrev pub declared_by_function : Tree → List ℕ
declared_by_function (getter at result name body) = name.word ∷ []
declared_by_function (setter at result name parameters body) = name.word ∷ []
declared_by_function (plain_function at result name type_parameters parameters body) = name.word ∷ []
declared_by_function _ = []

-- the name of a variable
abbrev pub declared_by_variable : Tree → List ℕ
declared_by_variable (variable at name initializer) = name.word ∷ []
declared_by_variable _ = []

-- the names of variables, one after another
abbrev pub declared_by_all : Trees → List ℕ
declared_by_all no_more = []
declared_by_all (more first rest) = declared_by_variable first ++ declared_by_all rest

-- the names of variables that are declared together
abbrev pub declared_by_variables : Tree → List ℕ
declared_by_variables (variable_list at is_final written variables) = declared_by_all variables
declared_by_variables _ = []

-- a prefix, where one is written
abbrev pub declared_by_prefix : Part → List ℕ
declared_by_prefix absent = []
declared_by_prefix (present (listed_name at word)) = word ∷ []
declared_by_prefix (present _) = []

-- the names that a directive or a declaration declares; other directives and errors declare none
abbrev pub declared_by : Tree → List ℕ
declared_by (class_declaration at metadata is_abstract name type_parameters superclass mixins interfaces members) = name.word ∷ []
declared_by (mixin_declaration at metadata name type_parameters constraints interfaces members) = name.word ∷ []
declared_by (type_alias at metadata name written) = name.word ∷ []
declared_by (function_declaration at metadata function) = declared_by_function function
declared_by (variable_declaration at metadata variables) = declared_by_variables variables
declared_by (import_directive at uri prefix combinators) = declared_by_prefix prefix
declared_by _ = []

-- those of all items of a unit
abbrev pub declared_in : Trees → List ℕ
declared_in no_more = []
declared_in (more first rest) = declared_by first ++ declared_in rest

-- a directive that may bring names that others declare: an import, or one of the parts of a library
abbrev pub brings : Tree → Bool
brings (import_directive at uri prefix combinators) = true
brings (part_directive at uri) = true
brings (part_of_directive at uri) = true
brings (part_of_library_directive at names) = true
brings _ = false

-- one of the items is such a directive
abbrev pub brings_names : Trees → Bool
brings_names no_more = false
brings_names (more first rest) = brings first || brings_names rest
