-- What expressions and statements give, and how it is put together.
use Rattle.std.specs.Prelude.{Bool, not, ◌&&◌, ◌||◌, List, [], ◌∷◌, ◌++◌, filter, fold, map, nat_eq, if◌then◌else◌, Option, Some, None}
use Rattle.dart_tree.specs.declared.places.NodeId.{NodeId}
use Rattle.dart_tree.specs.declared.places.Place.{Place}
use Rattle.dart_tree.specs.declared.places.Span.{Span}
use Rattle.dart_types.specs.Ty.{Ty, invalid, never}
use Rattle.dart_types.specs.Same.{same_type}
use Rattle.dart_types.specs.Invalid.{holds_invalid}
use Rattle.dart_types.specs.SubTest.{sub}
use Rattle.dart_types.specs.Tables.{Table}
use Rattle.flow_model.specs.Flow.{FlowModel}
use Rattle.flow_model.specs.Join.{join_of}
use Rattle.flow_model.specs.Steps.{exit_of}
use Rattle.judgement.specs.declared.code.DiagnosticCode.{DiagnosticCode}
use Rattle.judgement.specs.declared.fault.Fault.{Fault}
use Rattle.judgement.specs.declared.meaning.Meaning.{Meaning}
use Rattle.judgement.specs.NodeFacts.{NodeFacts}

-- what an expression gives: its static type; what is known after it, where it is true and where it is false; its diagnostics; and what is said of its nodes
pub record Evaluation : Type 0 where
  pub ty : Ty
  pub after : FlowModel
  pub when_true : FlowModel
  pub when_false : FlowModel
  pub faults : List Fault
  pub nodes : List NodeFacts

-- a jump out of a statement: to the end of the target, or to its next turn, and what is known where it is made
pub record Jump : Type 0 where
  pub target : NodeId
  pub continues : Bool
  pub known : FlowModel

-- what a statement gives: what is known after it, the jumps out of it, the types of what it returns, its diagnostics, and what is said of its nodes
pub record Outcome : Type 0 where
  pub after : FlowModel
  pub jumps : List Jump
  pub returned : List Ty
  pub faults : List Fault
  pub nodes : List NodeFacts

-- Diagnostics.

-- one diagnostic, over a range of the text
abbrev pub fault_over : Span → DiagnosticCode → List Fault
fault_over span code = record { span = span; code = code } ∷ []

-- one diagnostic, over the range of a node
abbrev pub fault_at : Place → DiagnosticCode → List Fault
fault_at at code = fault_over at.span code

-- a value of the type s may stand where t is wanted: s is a subtype, or Invalid occurs in one of them, and no more is said
abbrev pub fits : Table → Ty → Ty → Bool
fits table s t = holds_invalid s || (holds_invalid t || sub table s t)

-- the diagnostic over a node of the type s where t is wanted
abbrev pub fit_faults : Table → DiagnosticCode → Place → Ty → Ty → List Fault
fit_faults table code at s t = if fits table s t then [] else fault_at at code

-- Expressions.

-- a type, and nothing more known than before
abbrev pub of_type : Ty → FlowModel → Evaluation
of_type ty m = record { ty = ty; after = m; when_true = m; when_false = m; faults = []; nodes = [] }

-- what has a diagnostic has the type Invalid
abbrev pub faulty : Span → DiagnosticCode → FlowModel → Evaluation
faulty span code m = record (of_type invalid m) { faults = fault_over span code }

-- behind an expression of type Never, and where it would be true or false, nothing is reached
abbrev pub exits_if_never : Evaluation → Evaluation
exits_if_never e =
    if same_type e.ty never then record e { after = exit_of e.after; when_true = exit_of e.when_true; when_false = exit_of e.when_false } else e

-- what is said of an expression, from what its name means, what is known before it, and what it gives
abbrev pub said_of_expression : NodeId → Option Meaning → FlowModel → Evaluation → NodeFacts
said_of_expression node element m e = record {
  node = node;
  ty = Some e.ty;
  element = element;
  before = m;
  after = e.after;
  when_true = e.when_true;
  when_false = e.when_false;
}

-- the same, where that is said of it too, behind what is said of the nodes in it
abbrev pub with_node : NodeId → Option Meaning → FlowModel → Evaluation → Evaluation
with_node node element m e = record e { nodes = e.nodes ++ said_of_expression node element m e ∷ [] }

-- what the node of an expression gives, from what its row gives
abbrev pub expression_row : Place → Option Meaning → FlowModel → Evaluation → Evaluation
expression_row at element m row = with_node at.node element m (exits_if_never row)

-- Statements.

-- no diagnostic, no jump: this is known after it
abbrev pub just : FlowModel → Outcome
just m = record { after = m; jumps = []; returned = []; faults = []; nodes = [] }

-- nothing but a diagnostic
abbrev pub complains : Span → DiagnosticCode → FlowModel → Outcome
complains span code m = record (just m) { faults = fault_over span code }

-- goes on from what an expression gives
abbrev pub value_then : Evaluation → (FlowModel → Outcome) → Outcome
value_then e next = record {
  after = (next e.after).after;
  jumps = (next e.after).jumps;
  returned = (next e.after).returned;
  faults = e.faults ++ (next e.after).faults;
  nodes = e.nodes ++ (next e.after).nodes;
}

-- what follows a statement that gives this, from where it may come: all but the model after is put together
abbrev pub and_also : Outcome → Outcome → Outcome
and_also first second = record {
  after = second.after;
  jumps = first.jumps ++ second.jumps;
  returned = first.returned ++ second.returned;
  faults = first.faults ++ second.faults;
  nodes = first.nodes ++ second.nodes;
}

-- goes on from what a statement gives
abbrev pub and_then : Outcome → (FlowModel → Outcome) → Outcome
and_then outcome next = and_also outcome (next outcome.after)

-- what is said of a statement, or of a variable that is declared, from what its name means and what is known before and after it
abbrev pub said_of_statement : NodeId → Option Meaning → (before after : FlowModel) → NodeFacts
said_of_statement node element before after = record {
  node = node;
  ty = None;
  element = element;
  before = before;
  after = after;
  when_true = after;
  when_false = after;
}

-- what the node of a statement gives, from what its row gives
abbrev pub statement_row : Place → Option Meaning → FlowModel → Outcome → Outcome
statement_row at element m row = record row { nodes = row.nodes ++ said_of_statement at.node element m row.after ∷ [] }

-- Jumps.

-- whether a jump goes to the end of a statement, or to its next turn
abbrev pub goes_to : NodeId → Bool → Jump → Bool
goes_to target continues jump = nat_eq jump.target.0 target.0 && (if continues then jump.continues else not jump.continues)

-- what is known where the jumps come together that go there, and a model
abbrev pub joined_with : NodeId → Bool → List Jump → FlowModel → FlowModel
joined_with target continues jumps m = fold join_of m (map (λ jump. jump.known) (filter (goes_to target continues) jumps))

-- the jumps that go elsewhere
abbrev pub jumps_beyond : NodeId → List Jump → List Jump
jumps_beyond target jumps = filter (λ jump. not (nat_eq jump.target.0 target.0)) jumps
