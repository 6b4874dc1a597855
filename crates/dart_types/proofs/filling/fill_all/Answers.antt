use Rattle.std.proofs.Common.{◌+◌, ◌≤◌, List, refl, sym, ◌∙◌, subst}
use Rattle.std.specs.Prelude.{All}
use Rattle.dart_types.specs.Tables.{Table}
use Rattle.dart_types.specs.Entries.{among, AreAmong}
use Rattle.dart_types.specs.Gathering.{AreKnownBelow}
use Rattle.dart_types.specs.Joined.{joined}
use Rattle.dart_types.specs.declared.entries.ClassEntry.{ClassEntry}
use Rattle.dart_types.proofs.Filled.{on_both, all_known, none_known}
use Rattle.dart_types.proofs.filling.fill_all.Goals as goal

pub loop-depth-init : goal.loop-depth-init
loop-depth-init c = (refl, none_known (among c.args.below.now.table c.args.entries.now.items c.args.vars.now) c.args.entries.now.items)

pub fill-requires-clause-among : goal.fill-requires-clause-among
fill-requires-clause-among c =
    subst (λ (t : Table). AreAmong c.args.below.now.table t) (sym c.loop-depth.invariant.0) c.requires

pub fill-requires-clause-known : goal.fill-requires-clause-known
fill-requires-clause-known c =
    subst (λ (t : Table). AreKnownBelow c.loop-depth.depth (joined c.args.below.now.table t) c.loop-depth.entries.items) (sym c.loop-depth.invariant.0) c.loop-depth.invariant.1

pub loop-depth-preserved : goal.loop-depth-preserved
loop-depth-preserved c = (
  c.in_ok-fill.ensures.rows ∙ c.loop-depth.invariant.0,
  subst (λ (t : Table). AreKnownBelow (c.loop-depth.depth + 1) (joined c.args.below.now.table t) c.fill.new.entries.items) c.loop-depth.invariant.0 c.in_ok-fill.ensures.ok,
)

-- no class is farther from Object than the farthest
pub returns-clause-ok : goal.returns-clause-ok
returns-clause-ok c =
    let below = c.args.below.now.table in
    let top = c.greatest_depth-top.result in
    let before = c.args.entries.now.items in
    let vars = c.args.vars.now in
    let greatest = subst (λ (es : List ClassEntry). All (λ (e : ClassEntry). e.row.depth ≤ top) es) c.deref.ensures.value c.greatest_depth-top.ensures in
    on_both c.fill-2.result c.fill-2.ensures.rows c.fill-2.ensures.ok (λ rows known.
    all_known (among below before vars) c.fill-2.new.entries.items before vars top (rows ∙ c.loop-depth.invariant.0) greatest
    (subst (λ (t : Table). AreKnownBelow (top + 1) (joined below t) c.fill-2.new.entries.items) c.loop-depth.invariant.0 known))
