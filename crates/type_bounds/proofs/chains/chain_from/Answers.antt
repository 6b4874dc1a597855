use Rattle.std.proofs.Common.{false, sym, ◌∙◌}
use Rattle.type_bounds.specs.Chains.{ends}
use Rattle.type_bounds.proofs.General.{refused}
use Rattle.type_bounds.proofs.ChainSteps.{next_falls, next_leads, whole_way, unmarked_step, marked_step}
use Rattle.type_bounds.proofs.chains.chain_from.Goals as goal

pub loop-bound-init : goal.loop-bound-init
loop-bound-init c = λ m end a. a

pub returns-then-is_subtype : goal.returns-then-is_subtype
returns-then-is_subtype c = whole_way c.args.rows.now.table c.args.other.now c.args.first.now c.loop-bound.last.now c.loop-bound.marked (c.loop-bound.invariant false c.loop-bound.last.now ends)

pub returns-then-is_subtype-2 : goal.returns-then-is_subtype-2
returns-then-is_subtype-2 c = whole_way c.args.rows.now.table c.args.other.now c.args.first.now c.loop-bound.last.now c.loop-bound.marked (c.loop-bound.invariant false c.loop-bound.last.now ends)

-- past a bound with a mark
pub loop-bound-smaller-else-is_subtype-2 : goal.loop-bound-smaller-else-is_subtype-2
loop-bound-smaller-else-is_subtype-2 c = next_falls c.args.rows.now.table c.row_laws.ensures c.loop-bound.last.now c.in-Some.bound.now c.bare-next.result.now c.in-Some.ensures c.bare-next.ensures

pub loop-bound-preserved-else-is_subtype-2 : goal.loop-bound-preserved-else-is_subtype-2
loop-bound-preserved-else-is_subtype-2 c =
    let table = c.args.rows.now.table in
    let marked = sym c.is_marked.ensures ∙ c.if-is_marked.true in
    λ m end a.
    marked_step table c.args.other.now c.args.first.now end c.loop-bound.marked m _ marked
    (c.loop-bound.invariant _ end
    (next_leads table c.args.other.now c.loop-bound.last.now c.in-Some.bound.now c.bare-next.result.now c.in-Some.ensures c.bare-next.ensures
    (refused c.is_subtype.ensures.rules c.if-is_subtype.false) (λ e. refused c.is_subtype-then-is_marked.ensures.rules c.if-is_subtype-2.false) m end a))

-- past one without
pub loop-bound-smaller : goal.loop-bound-smaller
loop-bound-smaller c = next_falls c.args.rows.now.table c.row_laws.ensures c.loop-bound.last.now c.in-Some.bound.now c.bare-next.result.now c.in-Some.ensures c.bare-next.ensures

pub loop-bound-preserved : goal.loop-bound-preserved
loop-bound-preserved c =
    let table = c.args.rows.now.table in
    let unmarked = sym c.is_marked.ensures ∙ c.if-is_marked.false in
    λ m end a.
    unmarked_step table c.args.other.now c.args.first.now end c.loop-bound.marked m _ unmarked
    (c.loop-bound.invariant _ end
    (next_leads table c.args.other.now c.loop-bound.last.now c.in-Some.bound.now c.bare-next.result.now c.in-Some.ensures c.bare-next.ensures
    (refused c.is_subtype.ensures.rules c.if-is_subtype.false) (λ e. cc) m end a))

pub returns : goal.returns
returns c = whole_way c.args.rows.now.table c.args.other.now c.args.first.now c.loop-bound.last.now c.loop-bound.marked (c.loop-bound.invariant false c.loop-bound.last.now ends)
