-- What of a unit no other library sees: the bodies of its functions, members and constructors, and the initializers of its variables with a written type.
use Rattle.std.specs.Prelude.{Bool, true, false, List, [], ◌∷◌}
use Rattle.std.specs.List.{flat_map}
use Rattle.dart_tree.specs.Tree.{Tree, present, empty_body, getter, setter, plain_function, variable_list, variable, constructor_declaration, factory_declaration, method_declaration, field_declaration, operator_declaration, class_declaration, mixin_declaration, function_declaration, variable_declaration, unit}
use Rattle.dart_tree.specs.Nodes.{list_of}
use Rattle.dart_tree.specs.Places.{span_of}
use Rattle.interface_part.specs.declared.hidden.Hidden.{Hidden}

-- a node that is hidden
abbrev pub hidden : (in_mixin : Bool) → Tree → List Hidden
hidden in_mixin t = record { span = span_of t; in_mixin = in_mixin } ∷ []

-- a body, unless it is `;` alone
abbrev pub hidden_body : (in_mixin : Bool) → Tree → List Hidden
hidden_body in_mixin (empty_body at) = []
hidden_body in_mixin body = hidden in_mixin body

-- what a function hides: its body
abbrev pub hidden_in_function : (in_mixin : Bool) → Tree → List Hidden
hidden_in_function in_mixin (getter at result name body) = hidden_body in_mixin body
hidden_in_function in_mixin (setter at result name parameters body) = hidden_body in_mixin body
hidden_in_function in_mixin (plain_function at result name type_parameters parameters body) = hidden_body in_mixin body
hidden_in_function in_mixin other = []

-- the initializer of a variable
abbrev pub hidden_in_variable : (in_mixin : Bool) → Tree → List Hidden
hidden_in_variable in_mixin (variable at name (present initializer)) = hidden in_mixin initializer
hidden_in_variable in_mixin other = []

-- what variables hide: their initializers, where their type is written
abbrev pub hidden_in_variables : (in_mixin : Bool) → Tree → List Hidden
hidden_in_variables in_mixin (variable_list at is_final (present written) variables) = flat_map (hidden_in_variable in_mixin) (list_of variables)
hidden_in_variables in_mixin other = []

-- what a member hides
abbrev pub hidden_in_member : (in_mixin : Bool) → Tree → List Hidden
hidden_in_member in_mixin (constructor_declaration at metadata name parameters initializers body) = hidden_body in_mixin body
hidden_in_member in_mixin (factory_declaration at metadata name parameters body) = hidden_body in_mixin body
hidden_in_member in_mixin (method_declaration at metadata is_static function) = hidden_in_function in_mixin function
hidden_in_member in_mixin (field_declaration at metadata is_static variables) = hidden_in_variables in_mixin variables
hidden_in_member in_mixin (operator_declaration at metadata result name parameters body) = hidden_body in_mixin body
hidden_in_member in_mixin other = []

-- what an item hides
abbrev pub hidden_in_item : Tree → List Hidden
hidden_in_item (class_declaration at metadata is_abstract name type_parameters superclass mixins interfaces members) = flat_map (hidden_in_member false) (list_of members)
hidden_in_item (mixin_declaration at metadata name type_parameters constraints interfaces members) = flat_map (hidden_in_member true) (list_of members)
hidden_in_item (function_declaration at metadata function) = hidden_in_function false function
hidden_in_item (variable_declaration at metadata variables) = hidden_in_variables false variables
hidden_in_item other = []

-- what a unit hides, in reading order
abbrev pub hidden_in : Tree → List Hidden
hidden_in (unit at items) = flat_map hidden_in_item (list_of items)
hidden_in other = []
