use Rattle.std.proofs.Common.{sym, ◌∙◌, ap}
use Rattle.dart_types.specs.Node.{type_of}
use Rattle.dart_types.specs.Ty.{promoted}
use Rattle.resolve.proofs.Receivers.{promoted_members}
use Rattle.resolve.proofs.judge.receivers.next_with_members.Goals as goal

pub returns-in-Promoted : goal.returns-in-Promoted
returns-in-Promoted c =
    promoted_members c.args.rows.now.table c.row_laws.ensures c.members_are_those_of_bounds.ensures c.args.t.now c.in-Promoted.var c.deref.result.now
    (sym c.t.view_is ∙ ap type_of c.in-Promoted.is ∙ ap (promoted c.in-Promoted.var) (sym c.deref.ensures))
