use Rattle.std.proofs.Common.{sym, subst}
use Rattle.type_bounds.specs.Bounds.{Upper, Lower}
use Rattle.type_bounds.specs.BoundsOf.{upper_of, lower_of}
use Rattle.type_infer.specs.FormsSome.{FormsSome}
use Rattle.type_infer.specs.Solves.{bound_on}
use Rattle.type_infer.specs.declared.constraints.Side.{Side}
use Rattle.type_infer.proofs.FormedSome.{forms_some}
use Rattle.type_infer.proofs.solving.bound_of_two.Goals as goal

pub returns-in-AtLeast : goal.returns-in-AtLeast
returns-in-AtLeast c =
    let table = c.args.rows.now.table in
    let s = c.args.s.now in
    let t = c.args.t.now in
    subst (λ (side : Side). FormsSome (bound_on side table s t) c.upper.result) (sym c.in-AtLeast.is)
    (forms_some (Upper table s t) (upper_of table s t) (c.bound_table_laws.ensures.upper_holds s t) c.upper.result c.upper.ensures.forms)

pub returns-in-AtMost : goal.returns-in-AtMost
returns-in-AtMost c =
    let table = c.args.rows.now.table in
    let s = c.args.s.now in
    let t = c.args.t.now in
    subst (λ (side : Side). FormsSome (bound_on side table s t) c.lower.result) (sym c.in-AtMost.is)
    (forms_some (Lower table s t) (lower_of table s t) (c.bound_table_laws.ensures.lower_holds s t) c.lower.result c.lower.ensures.forms)
