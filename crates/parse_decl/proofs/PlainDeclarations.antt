-- A function or variables as a declaration of a library.
use Rattle.std.proofs.Common.{◌≡◌, Bool, false, List, Some, None, refl}
use Rattle.dart_tokens.specs.declared.grouped_token.GroupedToken.{GroupedToken as Token}
use Rattle.grammar.specs.Declarations.{Declaration, of_function, of_variables, declared_function_of, declared_variables_of}
use Rattle.grammar.specs.Descents.{Lower}
use Rattle.grammar.specs.DeclarationDescents.{take_body, take_plain_declaration}
use Rattle.parse_members.specs.declared.parts.FunctionOrVariables.{FunctionOrVariables}
use Rattle.parse_members.specs.Plain.{take_plain, plain_with, plain_found, plain_missing}

pub plain_declaration_found : (in_core : Bool) (l : Lower) (ts us : List Token) (x : FunctionOrVariables) (declaration : Declaration) → take_plain (take_body in_core false l) l ts ≡ Some (x, us) → declaration ≡ plain_with of_function of_variables x →
    take_plain_declaration in_core l ts ≡ Some (declaration, us)
unfolding take_plain_declaration
plain_declaration_found in_core l ts us x declaration e made =
    plain_found of_function of_variables declared_variables_of (λ variables semicolon. refl) (take_body in_core false l) l ts us x declaration e made

pub plain_declaration_missing : (in_core : Bool) (l : Lower) (ts : List Token) → take_plain (take_body in_core false l) l ts ≡ None → take_plain_declaration in_core l ts ≡ None
unfolding take_plain_declaration
plain_declaration_missing in_core l ts e = plain_missing declared_function_of declared_variables_of (take_body in_core false l) l ts e
