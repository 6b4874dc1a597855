-- What rows give, from what the judge holds.
use Rattle.std.specs.Prelude.{Option}
use Rattle.dart_tree.specs.declared.names.Name.{Name}
use Rattle.dart_tree.specs.declared.operators.BinaryOperator.{BinaryOperator}
use Rattle.dart_tree.specs.declared.places.Place.{Place}
use Rattle.dart_types.specs.Ty.{Ty}
use Rattle.flow_model.specs.Flow.{FlowModel, at_local, declare_of, facts_of}
use Rattle.flow_model.specs.Assign.{assign_facts}
use Rattle.flow_model.specs.declared.locals.LocalDecl.{LocalDecl}
use Rattle.flow_model.specs.declared.locals.LocalId.{LocalId}
use Rattle.judgement.specs.declared.meaning.Meaning.{Meaning}
use Rattle.judgement.specs.Given.{Evaluation, Outcome, said_of_expression}
use Rattle.judgement.specs.NodeFacts.{NodeFacts}
use Rattle.judgement.specs.ExpressionRows.{assigned_row, operated_row, write_row}
use Rattle.judgement.specs.StatementRows.{initialized_row}
use Rattle.judgement.specs.Surroundings.{Surroundings}
use Rattle.resolve.specs.Judged.{typed_of}
use Rattle.resolve.specs.declared.judge.Context.{Context}
use Rattle.resolve.specs.declared.judge.Typed.{Typed}

-- what is said of an expression, from what its name means and what is known before it
abbrev pub said_of : Typed → Option Meaning → FlowModel → NodeFacts
said_of typed element m = said_of_expression typed.at.node element m (typed_of typed)

-- an operator of a class between two sides
abbrev pub operated : Context → BinaryOperator → (left right : Typed) → Evaluation
operated context operator left right = operated_row context.rows.now.table operator right.at (typed_of left) (typed_of right)

-- a value is assigned to what the name means that stands there
abbrev pub put : Context → Meaning → Place → Typed → Evaluation
put context meaning target value = assigned_row context.rows.now.table meaning target value.at (typed_of value)

-- a value is written to the local, whose name stands there
abbrev pub written : Context → LocalId → Place → Typed → Evaluation
written context var target value = write_row context.rows.now.table target value.at var (facts_of value.after.value var) (typed_of value)

-- a local of the type comes into scope with a value
abbrev pub initialized : Surroundings → Name → Ty → Typed → Outcome
initialized s name ty value = initialized_row s name ty value.at value.ty value.after.value

-- what is known where it comes into scope with a value of this type
abbrev pub declared_with : Context → LocalDecl → Ty → FlowModel → FlowModel
declared_with context local value m = at_local (declare_of m local) local.var (assign_facts context.rows.now.table value)
