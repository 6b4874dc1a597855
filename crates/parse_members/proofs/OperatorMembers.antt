-- An operator of a class, by what stands behind its type.
use Rattle.std.proofs.Common.{◌≡◌, Bool, true, false, List, [], ◌∷◌, Option, Some, None, refl, ap, ◌∙◌}
use Rattle.readings.specs.Readings.{Reading, made, behind}
use Rattle.readings.specs.Descent.{bind, or_else, take_token, ◌▸◌, ◌⊘◌}
use Rattle.dart_tokens.specs.declared.token.Kind.TheVariants as kind
use Rattle.dart_tree.specs.declared.operators.OperatorName.{OperatorName}
use Rattle.dart_tree.specs.Tree.{Tree}
use Rattle.dart_tokens.specs.declared.grouped_token.GroupedToken.{GroupedToken as Token}
use Rattle.grammar.specs.Tokens.{is, heads}
use Rattle.grammar.specs.Declarations.{Member, operator_member_of, operated_by}
use Rattle.grammar.specs.Descents.{Lower, take_parameter_list}
use Rattle.grammar.specs.DeclarationDescents.{take_body, take_operator, take_operator_member, take_static_member}
use Rattle.parse_members.specs.Behind.{take_named, take_operator_rest}

-- an operator with this type before its name
abbrev operated : Option Tree → Reading Token (OperatorName × (Tree × Tree)) → Reading Token Member
operated written x = (operated_by written x.0.0 x.0.1.0 x.0.1.1, x.1)

operated_behind : (written : Option Tree) (ts us : List Token) (o : Option (Reading Token (Token × (OperatorName × (Tree × Tree))))) →
    bind (bind o (λ y. Some (behind written y))) (λ x. Some (made (λ read c. operator_member_of c) ts x)) ≡ bind (bind o (λ y. Some (made (λ read b. b.1) us y))) (λ x. Some (operated written x))
operated_behind written ts us None = refl
operated_behind written ts us (Some y) = refl

operator_is : (in_core : Bool) (l : Lower) (ts us : List Token) (written : Option Tree) → take_named l ts ≡ Some (written, us) →
    take_operator_member in_core l ts ≡ bind (take_operator_rest in_core l us) (λ x. Some (operated written x))
unfolding take_operator_member take_operator_rest
operator_is in_core l ts us written e =
    rw e (operated_behind written ts us ((take_token (is kind.Operator) ▸ take_operator ▸ take_parameter_list l ▸ take_body in_core true l) us))

-- an operator behind the type
pub operator_found : (in_core : Bool) (l : Lower) (ts us : List Token) (written : Option Tree) (x : Reading Token (OperatorName × (Tree × Tree))) → take_named l ts ≡ Some (written, us) → take_operator_rest in_core l us ≡ Some x →
    (take_operator_member in_core l ⊘ take_static_member in_core l) ts ≡ Some (operated_by written x.0.0 x.0.1.0 x.0.1.1, x.1)
operator_found in_core l ts us written x e d =
    ap (λ o. or_else o (take_static_member in_core l ts)) (operator_is in_core l ts us written e ∙ ap (λ o. bind o (λ x. Some (operated written x))) d)

-- none behind the type
pub operator_missing : (in_core : Bool) (l : Lower) (ts us : List Token) (written : Option Tree) → take_named l ts ≡ Some (written, us) → take_operator_rest in_core l us ≡ None → (take_operator_member in_core l ⊘ take_static_member in_core l) ts ≡ take_static_member in_core l ts
operator_missing in_core l ts us written e d =
    ap (λ o. or_else o (take_static_member in_core l ts)) (operator_is in_core l ts us written e ∙ ap (λ o. bind o (λ x. Some (operated written x))) d)

no_operator : (in_core : Bool) (l : Lower) (us : List Token) → heads kind.Operator us ≡ false → take_operator_rest in_core l us ≡ None
unfolding take_operator_rest
no_operator in_core l [] e = refl
no_operator in_core l (u ∷ us) e = rw e refl

-- the word `operator` doesn't come next behind the type
pub operator_elsewhere : (in_core : Bool) (l : Lower) (ts us : List Token) (written : Option Tree) → take_named l ts ≡ Some (written, us) → heads kind.Operator us ≡ false → (take_operator_member in_core l ⊘ take_static_member in_core l) ts ≡ take_static_member in_core l ts
operator_elsewhere in_core l ts us written e d = operator_missing in_core l ts us written e (no_operator in_core l us d)
