-- The table of expressions: what each form gives, from the model before it. Each row says its rule in words.
use Rattle.std.specs.Prelude.{ℕ, Bool, true, false, not, ◌&&◌, ◌||◌, List, [], ◌++◌, is_some, if◌then◌else◌, Option, Some, None}
use Rattle.std.specs.Option.{option_or}
use Rattle.dart_tree.specs.declared.places.Place.{Place}
use Rattle.dart_tree.specs.declared.places.Span.{Span}
use Rattle.dart_tree.specs.declared.operators.BinaryOperator.{BinaryOperator}
use Rattle.dart_tree.specs.declared.operators.BinaryOperatorKind.{BinaryOperatorKind}
use Rattle.dart_tree.specs.declared.operators.BinaryOperatorKind.TheVariants.{Add, Less, NotEqual}
use Rattle.dart_types.specs.Ty.{Ty, invalid, never, void, interface, nullable, no_more as no_types}
use Rattle.dart_types.specs.Heads.{object}
use Rattle.dart_types.specs.Same.{same_class, same_type}
use Rattle.dart_types.specs.Invalid.{holds_invalid}
use Rattle.dart_types.specs.SubTest.{sub}
use Rattle.dart_types.specs.Tables.{Table}
use Rattle.dart_types.specs.declared.ids.ClassId.{ClassId}
use Rattle.dart_types.specs.declared.ids.TheConstants.{BOOL, INT}
use Rattle.type_bounds.specs.NonNull.{non_null_of}
use Rattle.flow_model.specs.Flow.{FlowModel, facts_of, at_local, current_of, declared_in}
use Rattle.flow_model.specs.Assign.{assign_facts}
use Rattle.flow_model.specs.Promote.{non_null_facts}
use Rattle.flow_model.specs.Steps.{exit_of}
use Rattle.flow_model.specs.declared.locals.LocalId.{LocalId}
use Rattle.flow_model.specs.declared.locals.Facts.{Facts}
use Rattle.judgement.specs.declared.code.DiagnosticCode.TheVariants.{ArgumentType, IntegerLiteralOutOfRange, InvalidAssignment, ReferencedBeforeDeclaration, UnassignedRead, UncheckedNullableUse, UndefinedName, UndefinedOperator}
use Rattle.judgement.specs.declared.fault.Fault.{Fault}
use Rattle.judgement.specs.declared.meaning.Meaning.{Meaning}
use Rattle.judgement.specs.declared.operation.Operation.{Operation}
use Rattle.judgement.specs.declared.meaning.Meaning.TheVariants.{Nothing, Local, Print, Class, Other}
use Rattle.judgement.specs.Surroundings.{Surroundings, lexeme_of}
use Rattle.judgement.specs.Literals.{integer_of}
use Rattle.judgement.specs.Receivers.{member_type}
use Rattle.judgement.specs.Given.{Evaluation, fault_over, fault_at, fit_faults, of_type, faulty}

-- an expression that is still to be judged: what it gives where a type is wanted of it, or none, and this is known before it
abbrev pub Judged : Type 0
Judged = Option Ty → FlowModel → Evaluation

-- a class without type arguments, as a type
abbrev pub class_type : ClassId → Ty
class_type class = interface class no_types

-- the types of literals, of conditions and of operators
abbrev pub int : Ty
int = class_type INT

abbrev pub bool : Ty
bool = class_type BOOL

-- Literals and names.

-- An integer literal is an int, if its value is in range.
abbrev pub integer_row : Surroundings → Place → ℕ → FlowModel → Evaluation
integer_row s at word m = if is_some (integer_of (lexeme_of s word)) then of_type int m else faulty at.span IntegerLiteralOutOfRange m

-- `true` and `false` are of type bool, and are never the other: where they would be, nothing is reached.
abbrev pub boolean_row : Bool → FlowModel → Evaluation
boolean_row true m = record (of_type bool m) { when_false = exit_of m }
boolean_row false m = record (of_type bool m) { when_true = exit_of m }

-- a read of a local of which this is known: it is assigned, and has its current type
abbrev pub read_row : Place → Option Facts → FlowModel → Evaluation
read_row at None m = faulty at.span ReferencedBeforeDeclaration m
read_row at (Some local) m = if local.assigned then of_type (current_of local) m else faulty at.span UnassignedRead m

-- A name is read as the local that it means, which must be declared before and assigned. A class is no value.
abbrev pub name_row : Meaning → Place → FlowModel → Evaluation
name_row (Local var) at m = read_row at (facts_of m var) m
name_row Nothing at m = faulty at.span UndefinedName m
name_row (Class class) at m = faulty at.span UndefinedName m
name_row Print at m = of_type invalid m
name_row Other at m = of_type invalid m

-- Assignments.

-- the type that is wanted of a value that is assigned: that of the local
abbrev pub wanted_by : Meaning → FlowModel → Option Ty
wanted_by (Local var) m = declared_in m var
wanted_by Nothing m = None
wanted_by Print m = None
wanted_by (Class class) m = None
wanted_by Other m = None

-- a local of which this is known is written with the value, which must fit its type; a misfit is written all the same, and has the type Invalid
abbrev pub write_row : Table → Place → Place → LocalId → Option Facts → Evaluation → Evaluation
write_row table target at var None value = record value { ty = invalid; when_true = value.after; when_false = value.after; faults = value.faults ++ fault_at target ReferencedBeforeDeclaration }
write_row table target at var (Some local) value = record value {
  ty = if sub table value.ty local.ty then value.ty else invalid;
  after = at_local value.after var (assign_facts table value.ty);
  when_true = at_local value.after var (assign_facts table value.ty);
  when_false = at_local value.after var (assign_facts table value.ty);
  faults = value.faults ++ fit_faults table InvalidAssignment at value.ty local.ty;
}

-- An assignment judges its value, of which the local's type is wanted, and writes the local that the name means, which must be declared before. It has the type of the value.
abbrev pub assigned_row : Table → Meaning → Place → Place → Evaluation → Evaluation
assigned_row table (Local var) target at value = write_row table target at var (facts_of value.after var) value
assigned_row table Nothing target at value = record value { ty = invalid; when_true = value.after; when_false = value.after; faults = value.faults ++ fault_at target UndefinedName }
assigned_row table Print target at value = record value { ty = invalid; when_true = value.after; when_false = value.after }
assigned_row table (Class class) target at value = record value { ty = invalid; when_true = value.after; when_false = value.after }
assigned_row table Other target at value = record value { ty = invalid; when_true = value.after; when_false = value.after }

abbrev pub assignment_row : Table → Meaning → Place → Place → Judged → FlowModel → Evaluation
assignment_row table target over at value m = assigned_row table target over at (value (wanted_by target m) m)

-- Operators.

-- the operators of int that are judged so far: a body with any other isn't judged
abbrev pub int_operation : BinaryOperatorKind → Option Operation
int_operation Add = Some (record { parameter = int; result = int })
int_operation Less = Some (record { parameter = int; result = bool })
int_operation _ = None

-- the operator that a class has, and none of the other types
abbrev pub operation_in : Ty → BinaryOperatorKind → Option Operation
operation_in (interface class types) kind = if same_class class INT then int_operation kind else None
operation_in _ kind = None

-- the operator that a type has: a variable has those of its bound, and `X & U` those of U
abbrev pub operation_on : Table → Ty → BinaryOperatorKind → Option Operation
operation_on table ty kind = operation_in (member_type table ty) kind

-- the operator that is used of a value of this type: its own, and else that of the type without null
abbrev pub operation_of : Table → Ty → BinaryOperatorKind → Option Operation
operation_of table ty kind = option_or (operation_on table ty kind) (operation_on table (non_null_of table ty) kind)

-- whether no operator is looked for: of Never there is no value that could be used, and of Invalid no more is said
abbrev pub takes_any : Ty → Bool
takes_any ty = same_type ty never || holds_invalid ty

-- whether an operator may stand behind a value of a type: the type has it, or none is looked for
abbrev pub may_operate : Table → Ty → BinaryOperatorKind → Bool
may_operate table ty kind = is_some (operation_on table ty kind) || takes_any (member_type table ty)

-- Where an operator stands behind a value of this type: the type must have the operator. One that is no subtype of Object, but has it without null, may not be used unchecked; nor may Null, which is Never without null.
abbrev pub receiver_faults : Table → Span → Ty → BinaryOperatorKind → List Fault
receiver_faults table span ty kind =
    if may_operate table ty kind then []
    else (if not (sub table ty object) && may_operate table (non_null_of table ty) kind then fault_over span UncheckedNullableUse
    else fault_over span UndefinedOperator)

-- the type of an operator's result where its right side has this type: its own where that fits; what has no value gives none
abbrev pub result_type : Table → Ty → Option Operation → Ty → Ty
result_type table receiver None argument = if same_type (member_type table receiver) never then never else invalid
result_type table receiver (Some operation) argument = if sub table argument operation.parameter then operation.result else invalid

-- the right side of an operator must fit what it takes
abbrev pub argument_faults : Table → Place → Option Operation → Ty → List Fault
argument_faults table at None argument = []
argument_faults table at (Some operation) argument = fit_faults table ArgumentType at argument operation.parameter

-- An operator of a class, from what its sides give.
abbrev pub operated_row : Table → BinaryOperator → Place → Evaluation → Evaluation → Evaluation
operated_row table operator at left right = record {
  ty = result_type table left.ty (operation_of table left.ty operator.kind) right.ty;
  after = right.after;
  when_true = right.after;
  when_false = right.after;
  faults = left.faults ++ (right.faults ++ (receiver_faults table operator.span left.ty operator.kind ++ argument_faults table at (operation_of table left.ty operator.kind) right.ty));
  nodes = left.nodes ++ right.nodes;
}

-- the type that the right side of an operator is judged with
abbrev pub parameter_of : Option Operation → Option Ty
parameter_of None = None
parameter_of (Some operation) = Some operation.parameter

-- the left side is judged first, and then the right one, of which the operator wants its parameter's type
abbrev pub member_operator_row : Table → BinaryOperator → Place → Evaluation → Judged → Evaluation
member_operator_row table operator at left right =
    operated_row table operator at left (right (parameter_of (operation_of table left.ty operator.kind)) left.after)

-- what is known where a local isn't null: no more than before where there is none
abbrev pub where_not_null : Table → Option LocalId → FlowModel → FlowModel
where_not_null table None m = m
where_not_null table (Some var) m = at_local m var (non_null_facts table)

-- `!=` takes any operands and is of type bool. Where it compares a local with the literal `null` and is true, the local isn't null.
abbrev pub not_equal_row : Table → Option LocalId → Evaluation → Evaluation → Evaluation
not_equal_row table compared left right = record {
  ty = bool;
  after = right.after;
  when_true = where_not_null table compared right.after;
  when_false = right.after;
  faults = left.faults ++ right.faults;
  nodes = left.nodes ++ right.nodes;
}

-- An operator of a kind between two sides, from what the left one gives, the right one, which stands at the place, and the local that it compares with `null`.
abbrev pub kind_row : Table → BinaryOperator → BinaryOperatorKind → Place → Option LocalId → Evaluation → Judged → Evaluation
kind_row table operator NotEqual at compared left right = not_equal_row table compared left (right None left.after)
kind_row table operator _ at compared left right = member_operator_row table operator at left right

abbrev pub operator_row : Table → BinaryOperator → Place → Option LocalId → Evaluation → Judged → Evaluation
operator_row table operator at compared left right = kind_row table operator operator.kind at compared left right

-- Calls.

-- A call of `print` takes any value, and gives none; of one whose type holds Invalid no more is said.
abbrev pub print_row : Table → Place → Evaluation → Evaluation
print_row table at value = record value {
  ty = if holds_invalid value.ty then invalid else void;
  when_true = value.after;
  when_false = value.after;
  faults = value.faults ++ fit_faults table ArgumentType at value.ty (nullable object);
}
