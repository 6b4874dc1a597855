-- The names that the top level of a unit declares.
use Rattle.std.specs.Prelude.{ℕ, Bool, List, [], ◌∷◌, ◌++◌, if◌then◌else◌}
use Rattle.dart_tree.specs.Tree.{Tree, Trees, no_more, more, getter, setter, plain_function, variable_list, variable, class_declaration, mixin_declaration, type_alias, function_declaration, variable_declaration}
use Rattle.dart_tree.specs.declared.names.Name.{Name}
use Rattle.element_terms.specs.declared.declarations.DeclaredKind.{DeclaredKind}
use Rattle.element_terms.specs.declared.declarations.DeclaredKind.TheVariants.{Function, Getter, Setter, Variable, FinalVariable, Class, Mixin, Typedef}
use Rattle.directives.specs.declared.declared.DeclaredName.{DeclaredName}
use Rattle.directives.specs.Uris.{word_at}

-- a declaration of this kind with this name
abbrev pub named : (words : List (List ℕ)) → Name → DeclaredKind → DeclaredName
named words name kind = record { span = name.at.span; name = word_at words name.word; kind = kind }

-- what a function declares
abbrev pub declared_by_function : (words : List (List ℕ)) → Tree → List DeclaredName
declared_by_function words (getter at result name body) = named words name Getter ∷ []
declared_by_function words (setter at result name parameters body) = named words name Setter ∷ []
declared_by_function words (plain_function at result name type_parameters parameters body) = named words name Function ∷ []
declared_by_function words _ = []

-- the kind of variables
abbrev pub variable_kind : (is_final : Bool) → DeclaredKind
variable_kind is_final = if is_final then FinalVariable else Variable

-- what a variable declares
abbrev pub declared_by_variable : (words : List (List ℕ)) → DeclaredKind → Tree → List DeclaredName
declared_by_variable words kind (variable at name initializer) = named words name kind ∷ []
declared_by_variable words kind _ = []

-- what variables declare, one after another
abbrev pub declared_by_all : (words : List (List ℕ)) → DeclaredKind → Trees → List DeclaredName
declared_by_all words kind no_more = []
declared_by_all words kind (more first rest) = declared_by_variable words kind first ++ declared_by_all words kind rest

-- what variables declare that are declared together
abbrev pub declared_by_variables : (words : List (List ℕ)) → Tree → List DeclaredName
declared_by_variables words (variable_list at is_final written variables) = declared_by_all words (variable_kind is_final) variables
declared_by_variables words _ = []

-- what an item declares; directives and errors declare nothing
abbrev pub declared_by : (words : List (List ℕ)) → Tree → List DeclaredName
declared_by words (class_declaration at metadata is_abstract name type_parameters superclass mixins interfaces members) = named words name Class ∷ []
declared_by words (mixin_declaration at metadata name type_parameters constraints interfaces members) = named words name Mixin ∷ []
declared_by words (type_alias at metadata name written) = named words name Typedef ∷ []
declared_by words (function_declaration at metadata function) = declared_by_function words function
declared_by words (variable_declaration at metadata variables) = declared_by_variables words variables
declared_by words _ = []

-- what the items of a unit declare, in their order
abbrev pub declared_in : (words : List (List ℕ)) → Trees → List DeclaredName
declared_in words no_more = []
declared_in words (more first rest) = declared_by words first ++ declared_in words rest
