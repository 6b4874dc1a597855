use Rattle.std.proofs.Common.{sym, ◌∙◌, ap}
use Rattle.dart_types.specs.Ty.{promoted, nullable}
use Rattle.dart_types.specs.Node.{type_of}
use Rattle.type_infer.proofs.WaySteps.{way_to_bound, way_to_nothing, way_to_promoted, way_to_bare}
use Rattle.type_infer.proofs.ways.first_way.Goals as goal

pub returns-in-None : goal.returns-in-None
returns-in-None c = way_to_nothing c.args.rows.now.table c.in-Var.var c.args.other.now c.args.side c.in-AtLeast.is (sym c.other.view_is ∙ ap type_of c.in-Var.is) (sym c.in-None.ensures)

pub returns-in-Some : goal.returns-in-Some
returns-in-Some c =
    way_to_bound c.args.rows.now.table c.row_laws.ensures c.in-Var.var c.in-Some.bound.now c.args.other.now c.args.side c.in-AtLeast.is (sym c.other.view_is ∙ ap type_of c.in-Var.is) (sym c.in-Some.ensures)

pub returns-in-Promoted : goal.returns-in-Promoted
returns-in-Promoted c =
    way_to_promoted c.args.rows.now.table c.row_laws.ensures c.in-Promoted.var c.deref.result.now c.args.other.now c.args.side c.in-AtLeast.is (sym c.other.view_is ∙ ap type_of c.in-Promoted.is ∙ ap (promoted c.in-Promoted.var) (sym c.deref.ensures))

pub returns-in-Nullable-node : goal.returns-in-Nullable-node
returns-in-Nullable-node c =
    way_to_bare c.args.rows.now.table c.row_laws.ensures c.deref-in-Nullable-node.result.now c.args.other.now c.args.side c.in-AtMost.is (sym c.other.view_is ∙ ap type_of c.in-Nullable-node.is ∙ ap nullable (sym c.deref-in-Nullable-node.ensures))
