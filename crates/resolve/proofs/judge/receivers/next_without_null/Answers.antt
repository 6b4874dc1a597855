use Rattle.std.proofs.Common.{refl, sym, ◌∙◌, ap}
use Rattle.dart_types.specs.Named.{named_of}
use Rattle.dart_types.specs.Node.{type_of}
use Rattle.dart_types.specs.Ty.{function, interface, invalid, never, nullable, promoted, types_of, void}
use Rattle.resolve.proofs.Receivers.{itself, null_itself, nullable_without, promoted_without}
use Rattle.resolve.proofs.judge.receivers.next_without_null.Goals as goal

pub returns-in-Nullable : goal.returns-in-Nullable
returns-in-Nullable c =
    nullable_without c.args.rows.now.table c.row_laws.ensures c.members_are_those_of_bounds.ensures c.non_null_laws.ensures.steps c.args.t.now c.deref.result.now
    (sym c.t.view_is ∙ ap type_of c.in-Nullable.is ∙ ap nullable (sym c.deref.ensures))

pub returns-in-Promoted : goal.returns-in-Promoted
returns-in-Promoted c =
    promoted_without c.args.rows.now.table c.row_laws.ensures c.members_are_those_of_bounds.ensures c.non_null_laws.ensures.steps c.args.t.now c.in-Promoted.var c.deref-in-Promoted.result.now
    (sym c.t.view_is ∙ ap type_of c.in-Promoted.is ∙ ap (promoted c.in-Promoted.var) (sym c.deref-in-Promoted.ensures))

pub returns-in-Null : goal.returns-in-Null
returns-in-Null c =
    null_itself c.args.rows.now.table c.row_laws.ensures c.members_are_those_of_bounds.ensures c.non_null_laws.ensures.steps c.args.t.now (sym c.t.view_is ∙ ap type_of c.in-Null.is)

pub returns-in-Invalid : goal.returns-in-Invalid
returns-in-Invalid c =
    itself c.args.rows.now.table c.row_laws.ensures c.members_are_those_of_bounds.ensures c.non_null_laws.ensures.steps c.args.t.now invalid (sym c.t.view_is ∙ ap type_of c.in-Invalid.is) refl

pub returns-in-Never : goal.returns-in-Never
returns-in-Never c =
    itself c.args.rows.now.table c.row_laws.ensures c.members_are_those_of_bounds.ensures c.non_null_laws.ensures.steps c.args.t.now never (sym c.t.view_is ∙ ap type_of c.in-Never.is) refl

pub returns-in-Void : goal.returns-in-Void
returns-in-Void c =
    itself c.args.rows.now.table c.row_laws.ensures c.members_are_those_of_bounds.ensures c.non_null_laws.ensures.steps c.args.t.now void (sym c.t.view_is ∙ ap type_of c.in-Void.is) refl

pub returns-in-Interface : goal.returns-in-Interface
returns-in-Interface c =
    itself c.args.rows.now.table c.row_laws.ensures c.members_are_those_of_bounds.ensures c.non_null_laws.ensures.steps c.args.t.now (interface c.in-Interface.class (types_of c.in-Interface.args.value))
    (sym c.t.view_is ∙ ap type_of c.in-Interface.is) refl

pub returns-in-Function : goal.returns-in-Function
returns-in-Function c =
    let f = c.in-Function.field-0.value in
    itself c.args.rows.now.table c.row_laws.ensures c.members_are_those_of_bounds.ensures c.non_null_laws.ensures.steps c.args.t.now (function (types_of f.required) (types_of f.optional) (named_of f.named) f.result)
    (sym c.t.view_is ∙ ap type_of c.in-Function.is) refl
