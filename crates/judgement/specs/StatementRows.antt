-- The table of statements: what each form gives, from the model before it. Each row says its rule in words.
use Rattle.std.specs.Prelude.{Bool, true, false, not, ◌&&◌, ◌||◌, nat_eq, List, ◌++◌, is_some, if◌then◌else◌}
use Rattle.std.specs.Option.{option_map_or}
use Rattle.std.specs.FinMap.{get}
use Rattle.dart_tree.specs.declared.names.Name.{Name}
use Rattle.dart_tree.specs.declared.places.NodeId.{NodeId}
use Rattle.dart_tree.specs.declared.places.Place.{Place}
use Rattle.dart_types.specs.Ty.{Ty, null}
use Rattle.dart_types.specs.SubTest.{sub}
use Rattle.dart_types.specs.Tables.{Table}
use Rattle.flow_model.specs.Flow.{FlowModel, facts_of, at_local, declare_of, end_of}
use Rattle.flow_model.specs.Assign.{assign_facts}
use Rattle.flow_model.specs.Join.{join_of}
use Rattle.flow_model.specs.Steps.{conservative_of}
use Rattle.flow_model.specs.declared.locals.LocalId.{LocalId}
use Rattle.flow_model.specs.declared.locals.LocalDecl.{LocalDecl}
use Rattle.judgement.specs.declared.code.DiagnosticCode.TheVariants.{ConditionNotBool, DuplicateDefinition, InvalidAssignment}
use Rattle.judgement.specs.Surroundings.{Surroundings}
use Rattle.judgement.specs.DeclaredNames.{local_of, locals_of, within}
use Rattle.judgement.specs.Given.{Evaluation, Outcome, fault_at, fit_faults, just, complains, value_then, and_then, and_also, joined_with, jumps_beyond}
use Rattle.judgement.specs.ExpressionRows.{bool}

-- Scopes.

-- A scope that declares these names: they mean their locals from its beginning on, and end with it.
abbrev pub scope_row : Surroundings → List Name → (body : Surroundings → FlowModel → Outcome) → FlowModel → Outcome
scope_row s names body m = and_then (body (within s names) m) (λ after. just (end_of after (locals_of names)))

-- Declarations.

-- A variable that admits null and has no initializer starts as null; any other has no value before it is assigned.
abbrev pub declared_local : Table → Ty → LocalId → (initialized : Bool) → LocalDecl
declared_local table ty var initialized =
    let null = sub table null ty && not initialized in
    record { var = var; ty = ty; assigned = null; unassigned = not null }

-- whether the word of a name means the local that the name declares
abbrev pub means_own : Surroundings → Name → Bool
means_own s name = option_map_or (λ var. nat_eq var.0 (local_of name).0) (get s.names name.word) false

-- whether the block has declared a name before: its word means another local there, or its own is in scope already
abbrev pub is_declared_before : Surroundings → Name → FlowModel → Bool
is_declared_before s name m = not (means_own s name) || is_some (facts_of m (local_of name))

-- A variable without initializer: the local comes into scope, unless the block has declared its name before.
abbrev pub declare_row : Surroundings → Name → Ty → FlowModel → Outcome
declare_row s name ty m =
    if is_declared_before s name m then complains name.at.span DuplicateDefinition m else just (declare_of m (declared_local s.table ty (local_of name) false))

-- what is known where a local comes into scope with a value of a type
abbrev pub with_value : Table → Ty → LocalId → Ty → FlowModel → FlowModel
with_value table ty var value m = at_local (declare_of m (declared_local table ty var true)) var (assign_facts table value)

-- what follows the initializer, which has this type and must fit: the local comes into scope with its value, unless the block has declared its name before
abbrev pub initialized_row : Surroundings → Name → Ty → Place → Ty → FlowModel → Outcome
initialized_row s name ty at value m =
    if is_declared_before s name m
    then record (just m) { faults = fit_faults s.table InvalidAssignment at value ty ++ fault_at name.at DuplicateDefinition }
    else record (just (with_value s.table ty (local_of name) value m)) { faults = fit_faults s.table InvalidAssignment at value ty }

-- A variable with an initializer, which stands at the place: its value is judged before the local comes into scope.
abbrev pub initialize_row : Surroundings → Name → Ty → Place → Evaluation → Outcome
initialize_row s name ty at value = value_then value (initialized_row s name ty at value.ty)

-- Branches and loops.

-- a condition, which stands at the place, must be a bool
abbrev pub as_condition : Table → Place → Evaluation → Evaluation
as_condition table at value = record value { faults = value.faults ++ fit_faults table ConditionNotBool at value.ty bool }

-- from what a condition gives, what is known after a statement aside: its diagnostics and its nodes
abbrev pub condition_then : Evaluation → Outcome → Outcome
condition_then value outcome = record outcome { faults = value.faults ++ outcome.faults; nodes = value.nodes ++ outcome.nodes }

-- A branch: one part from where the condition is true, the other, or nothing, from where it is false. After it is known what is known after both.
abbrev pub if_row : Evaluation → (then_branch else_branch : FlowModel → Outcome) → Outcome
if_row condition then_branch else_branch =
    let one = then_branch condition.when_true in
    let other = else_branch condition.when_false in
    condition_then condition (record (and_also one other) { after = join_of one.after other.after })

-- what is known at the head of a loop that writes these locals and captures those: each time it is come to, whatever the loop may have done before
abbrev pub loop_head : FlowModel → (written captured : List LocalId) → FlowModel
loop_head m written captured = conservative_of m written captured

-- A loop, from what its condition gives at its head: the body goes from where it is true, and the loop ends where it is false, or where the body leaves it.
abbrev pub while_row : NodeId → Evaluation → (body : FlowModel → Outcome) → Outcome
while_row loop condition body =
    let turn = body condition.when_true in
    condition_then condition (record turn { after = joined_with loop false turn.jumps condition.when_false; jumps = jumps_beyond loop turn.jumps })
