use Rattle.std.proofs.Common.{◌+◌, arith, refl, sym, ◌∙◌, subst}
use Rattle.dart_types.specs.Tables.{Table}
use Rattle.dart_types.specs.Entries.{among, AreAmong}
use Rattle.dart_types.specs.Gathering.{AreKnownTo}
use Rattle.dart_types.specs.Joined.{joined}
use Rattle.dart_types.proofs.Filled.{none_passed, all_passed, as_long}
use Rattle.dart_types.proofs.filling.fill.Goals as goal

pub loop-i-init : goal.loop-i-init
loop-i-init c =
    (refl, none_passed c.args.below.now.table c.args.entries.now.items c.args.vars.now (among c.args.below.now.table c.args.entries.now.items c.args.vars.now) c.args.depth c.requires.known)

pub fill_at-requires-clause-among : goal.fill_at-requires-clause-among
fill_at-requires-clause-among c =
    subst (λ (t : Table). AreAmong c.args.below.now.table t) (sym c.loop-i.invariant.0) c.requires.among

pub fill_at-requires-clause-known : goal.fill_at-requires-clause-known
fill_at-requires-clause-known c =
    subst (λ (t : Table). AreKnownTo c.args.depth c.loop-i.i (joined c.args.below.now.table t) c.loop-i.entries.items) (sym c.loop-i.invariant.0) c.loop-i.invariant.1

pub loop-i-preserved : goal.loop-i-preserved
loop-i-preserved c = (
  c.in_ok-fill_at.ensures.rows ∙ c.loop-i.invariant.0,
  subst (λ (t : Table). AreKnownTo c.args.depth (c.loop-i.i + 1) (joined c.args.below.now.table t) c.fill_at.new.entries.items) c.loop-i.invariant.0 c.in_ok-fill_at.ensures.ok,
)

-- all classes of this depth were passed
pub returns-clause-ok : goal.returns-clause-ok
returns-clause-ok c =
    let entries = c.loop-i.entries.items in
    let vars = c.args.vars.now in
    all_passed c.args.below.now.table entries vars (among c.args.below.now.table c.args.entries.now.items vars) c.args.depth c.loop-i.i (omega (arith, as_long entries c.args.entries.now.items vars c.loop-i.invariant.0)) c.loop-i.invariant.1
