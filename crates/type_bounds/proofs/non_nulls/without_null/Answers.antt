use Rattle.std.proofs.Common.{sym, ◌∙◌, ap}
use Rattle.dart_types.specs.Ty.{nullable, promoted, types_of}
use Rattle.dart_types.specs.Named.{named_of}
use Rattle.dart_types.specs.Node.{type_of}
use Rattle.type_bounds.proofs.NonNulls.{null_is, nullable_is, promoted_is, invalid_stays, never_stays, void_stays, interface_stays, function_stays}
use Rattle.type_bounds.proofs.non_nulls.without_null.Goals as goal

pub returns-in-Null : goal.returns-in-Null
returns-in-Null c = null_is c.args.rows.now.table c.row_laws.ensures c.args.t.now (sym c.t.view_is ∙ ap type_of c.in-Null.is)

pub returns-in-Nullable : goal.returns-in-Nullable
returns-in-Nullable c =
    nullable_is c.args.rows.now.table c.row_laws.ensures c.args.t.now c.deref.result.now (sym c.t.view_is ∙ ap type_of c.in-Nullable.is ∙ ap nullable (sym c.deref.ensures))

pub returns-in-Promoted : goal.returns-in-Promoted
returns-in-Promoted c =
    promoted_is c.args.rows.now.table c.row_laws.ensures c.args.t.now c.in-Promoted.var c.deref-in-Promoted.result.now (sym c.t.view_is ∙ ap type_of c.in-Promoted.is ∙ ap (promoted c.in-Promoted.var) (sym c.deref-in-Promoted.ensures))

pub returns-in-Invalid : goal.returns-in-Invalid
returns-in-Invalid c = invalid_stays c.args.rows.now.table c.row_laws.ensures c.args.t.now (sym c.t.view_is ∙ ap type_of c.in-Invalid.is)

pub returns-in-Never : goal.returns-in-Never
returns-in-Never c = never_stays c.args.rows.now.table c.row_laws.ensures c.args.t.now (sym c.t.view_is ∙ ap type_of c.in-Never.is)

pub returns-in-Void : goal.returns-in-Void
returns-in-Void c = void_stays c.args.rows.now.table c.row_laws.ensures c.args.t.now (sym c.t.view_is ∙ ap type_of c.in-Void.is)

pub returns-in-Interface : goal.returns-in-Interface
returns-in-Interface c =
    interface_stays c.args.rows.now.table c.row_laws.ensures c.args.t.now c.in-Interface.class (types_of c.in-Interface.args.value) (sym c.t.view_is ∙ ap type_of c.in-Interface.is)

pub returns-in-Function : goal.returns-in-Function
returns-in-Function c =
    let f = c.in-Function.field-0.value in
    function_stays c.args.rows.now.table c.row_laws.ensures c.args.t.now (types_of f.required) (types_of f.optional) (named_of f.named) f.result (sym c.t.view_is ∙ ap type_of c.in-Function.is)
