-- A function or variables as a member of a class.
use Rattle.std.proofs.Common.{◌≡◌, Bool, List, Some, None, refl}
use Rattle.dart_tokens.specs.declared.grouped_token.GroupedToken.{GroupedToken as Token}
use Rattle.grammar.specs.Declarations.{Member, method, fields, method_of, fields_of}
use Rattle.grammar.specs.Descents.{Lower}
use Rattle.grammar.specs.DeclarationDescents.{take_body, take_plain_member}
use Rattle.parse_members.specs.declared.parts.FunctionOrVariables.{FunctionOrVariables}
use Rattle.parse_members.specs.Plain.{take_plain, plain_with, plain_found, plain_missing}

pub plain_member_found : (in_core is_static without_body : Bool) (l : Lower) (ts us : List Token) (x : FunctionOrVariables) (member : Member) → take_plain (take_body in_core without_body l) l ts ≡ Some (x, us) → member ≡ plain_with (method is_static) (fields is_static) x →
    take_plain_member in_core is_static without_body l ts ≡ Some (member, us)
unfolding take_plain_member
plain_member_found in_core is_static without_body l ts us x member e made =
    plain_found (method is_static) (fields is_static) (fields_of is_static) (λ variables semicolon. refl) (take_body in_core without_body l) l ts us x member e made

pub plain_member_missing : (in_core is_static without_body : Bool) (l : Lower) (ts : List Token) → take_plain (take_body in_core without_body l) l ts ≡ None → take_plain_member in_core is_static without_body l ts ≡ None
unfolding take_plain_member
plain_member_missing in_core is_static without_body l ts e = plain_missing (method_of is_static) (fields_of is_static) (take_body in_core without_body l) l ts e
