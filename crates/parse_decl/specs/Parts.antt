-- What the parser holds of a declaration before it is made.
use Rattle.grammar.specs.Declarations.{Declaration, of_class, of_mixin, of_type, of_function, of_variables}
use Rattle.parse_decl.specs.declared.parts.DeclarationForm.{DeclarationForm}
use Rattle.parse_decl.specs.declared.parts.DeclarationForm.TheVariants as read_declaration

abbrev pub declaration_form_of : DeclarationForm → Declaration
declaration_form_of (read_declaration.Class is_abstract name type_parameters superclass mixins interfaces members) =
    of_class is_abstract name type_parameters.items superclass mixins.items interfaces.items members.items
declaration_form_of (read_declaration.Mixin name type_parameters constraints interfaces members) =
    of_mixin name type_parameters.items constraints.items interfaces.items members.items
declaration_form_of (read_declaration.TypeAlias name written) = of_type name written
declaration_form_of (read_declaration.Function function) = of_function function
declaration_form_of (read_declaration.Variables variables) = of_variables variables
