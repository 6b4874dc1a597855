-- What stands behind the type in front of a name.
use Rattle.std.specs.Prelude.{Bool, true, Option}
use Rattle.readings.specs.Descent.{Descent, take_token, take_maybe, take_before, take_turn, ◌▸◌}
use Rattle.dart_tokens.specs.declared.token.Kind.TheVariants as kind
use Rattle.dart_tree.specs.declared.operators.OperatorName.{OperatorName}
use Rattle.dart_tree.specs.Tree.{Tree}
use Rattle.dart_tokens.specs.declared.grouped_token.GroupedToken.{GroupedToken as Token}
use Rattle.grammar.specs.Tokens.{is, heads_name}
use Rattle.grammar.specs.Descents.{Lower, take_parameter_list}
use Rattle.grammar.specs.DeclarationDescents.{take_body, take_operator}

-- the type in front of a name, if there is one
abbrev pub take_named : Lower → Descent Token (Option Tree)
take_named l = take_maybe (take_before heads_name l.named)

-- what an operator of a class has behind its result type: its name, its parameters and its body
unfoldable pub take_operator_rest : (in_core : Bool) → Lower → Descent Token (OperatorName × (Tree × Tree))
take_operator_rest in_core l = take_turn (λ x. x.1) (take_token (is kind.Operator) ▸ take_operator ▸ take_parameter_list l ▸ take_body in_core true l)
