use Rattle.std.proofs.Common.{◌+◌, List, sym, subst}
use Rattle.std.specs.Prelude.{Contains}
use Rattle.dart_types.specs.Ty.{Ty}
use Rattle.dart_types.specs.Entries.{among}
use Rattle.dart_types.specs.Gathering.{Adds, IsGivenBy, IsGiven}
use Rattle.dart_types.proofs.Gathered.{First, adds_nothing, adds_both, adds_same, first_none, first_next, next_first, first_all, all_first}
use Rattle.dart_types.proofs.hierarchy.gather_supers.Goals as goal

pub gather_super-requires-clause-direct : goal.gather_super-requires-clause-direct
gather_super-requires-clause-direct c =
    subst (λ (vs : List Ty). Contains vs c.v-item.result) c.as_slice-v-items.ensures (c.loop-v.v-index, c.loop-v-test.true, sym c.v-item.is)

pub loop-v-init : goal.loop-v-init
loop-v-init c =
    let want = IsGivenBy (among c.args.below.now.table c.args.entries.now c.args.vars.now) in
    (adds_nothing (First want c.as_slice-v-items.result.now 0) c.args.list.now.items (first_none want c.as_slice-v-items.result.now), c.requires.in_order)

pub loop-v-preserved : goal.loop-v-preserved
loop-v-preserved c =
    let want = IsGivenBy (among c.args.below.now.table c.args.entries.now c.args.vars.now) in
    let vs = c.as_slice-v-items.result.now in
    let i = c.loop-v.v-index in
    let v = c.v-item.result in
    let one : Adds (want v) c.loop-v.list.items c.gather_super.new.list.items = c.in_ok-gather_super.ensures in (
      adds_both (First want vs i) (want v) (First want vs (i + 1)) c.args.list.now.items c.loop-v.list.items c.gather_super.new.list.items c.loop-v.invariant.0 one (first_next want vs i v c.loop-v-test.true c.v-item.is) (next_first want vs i v c.loop-v-test.true c.v-item.is),
      one.in_order c.loop-v.invariant.1,
    )

pub returns : goal.returns
returns c =
    let table = among c.args.below.now.table c.args.entries.now c.args.vars.now in
    let want = IsGivenBy table in
    let vs = c.as_slice-v-items.result.now in
    let i = c.loop-v.v-index in
    subst (λ (ws : List Ty). Adds (IsGiven table ws) c.args.list.now.items c.loop-v.list.items) c.as_slice-v-items.ensures
    (adds_same (First want vs i) (IsGiven table vs) c.args.list.now.items c.loop-v.list.items c.loop-v.invariant.0 (all_first want vs i c.loop-v-test.false) (first_all want vs i))
