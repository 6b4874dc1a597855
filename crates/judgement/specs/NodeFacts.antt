-- What the rules say of a node, as a value.
use Rattle.std.specs.Prelude.{Option, refl}
use Rattle.std.specs.Coded.{Coded, code_by, coded×, coded_option}
use Rattle.dart_tree.specs.declared.places.NodeId.{NodeId}
use Rattle.dart_tree.specs.contracts.places.NodeId as node_id
use Rattle.dart_types.specs.Ty.{Ty}
use Rattle.dart_types.specs.TyCode.{type_code}
use Rattle.flow_model.specs.Flow.{FlowModel, flow_code}
use Rattle.judgement.specs.declared.meaning.Meaning.{Meaning}
use Rattle.judgement.specs.contracts.meaning.Meaning as meaning

-- the static type of an expression, and none of a statement; what the node names, declares or writes; and what is known before the node, after it, where it is true and where it is false, which for a statement is what is known after it
pub record NodeFacts : Type 0 where
  pub node : NodeId
  pub ty : Option Ty
  pub element : Option Meaning
  pub before : FlowModel
  pub after : FlowModel
  pub when_true : FlowModel
  pub when_false : FlowModel

-- the parts of what is said of a node
abbrev pub NodeParts : Type 0
NodeParts = (NodeId × (Option Ty × Option Meaning)) × ((FlowModel × FlowModel) × (FlowModel × FlowModel))

-- how it is stored
abbrev pub node_code : Coded NodeFacts
node_code =
    code_by NodeParts
    (coded× (coded× node_id.the_row.coded (coded× (coded_option type_code) (coded_option meaning.the_row.coded))) (coded× (coded× flow_code flow_code) (coded× flow_code flow_code)))
    (λ n. ((n.node, (n.ty, n.element)), ((n.before, n.after), (n.when_true, n.when_false))))
    (λ p. record { node = p.0.0; ty = p.0.1.0; element = p.0.1.1; before = p.1.0.0; after = p.1.0.1; when_true = p.1.1.0; when_false = p.1.1.1 })
    (λ _. refl)
