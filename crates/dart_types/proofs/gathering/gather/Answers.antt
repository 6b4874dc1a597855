use Rattle.std.proofs.Common.{◌≡◌, ◌+◌, ◌≤◌}
use Rattle.dart_types.specs.Ty.{Ty}
use Rattle.dart_types.specs.Sizes.{size_of}
use Rattle.dart_types.specs.Superinterfaces.{interface_of}
use Rattle.dart_types.specs.Replacements.{replaced}
use Rattle.dart_types.specs.Gathering.{IsReplaced}
use Rattle.dart_types.specs.declared.superinterfaces.Superinterface.{Superinterface}
use Rattle.dart_types.specs.declared.refusal.TheConstants.{NODE_LIMIT}
use Rattle.dart_types.proofs.Gathered.{First, adds_nothing, adds_both, adds_same, first_none, first_next, next_first, first_all, all_first}
use Rattle.dart_types.proofs.gathering.gather.Goals as goal

pub loop-known-init : goal.loop-known-init
loop-known-init c =
    let want = λ (s : Superinterface) (t : Ty). (t ≡ replaced c.args.replacements.now (interface_of s)) × (size_of t ≤ NODE_LIMIT) in
    (adds_nothing (First want c.args.above.now 0) c.args.list.now.items (first_none want c.args.above.now), c.requires)

pub loop-known-preserved : goal.loop-known-preserved
loop-known-preserved c =
    let want = λ (s : Superinterface) (t : Ty). (t ≡ replaced c.args.replacements.now (interface_of s)) × (size_of t ≤ NODE_LIMIT) in
    let above = c.args.above.now in
    let i = c.loop-known.known-index in
    let x = c.known-item.result in
    let one = c.in_ok-put_one.ensures in (
      adds_both (First want above i) (want x) (First want above (i + 1)) c.args.list.now.items c.loop-known.list.items c.put_one.new.list.items c.loop-known.invariant.0 one (first_next want above i x c.loop-known-test.true c.known-item.is) (next_first want above i x c.loop-known-test.true c.known-item.is),
      one.in_order c.loop-known.invariant.1,
    )

pub returns : goal.returns
returns c =
    let want = λ (s : Superinterface) (t : Ty). (t ≡ replaced c.args.replacements.now (interface_of s)) × (size_of t ≤ NODE_LIMIT) in
    adds_same (First want c.args.above.now c.loop-known.known-index) (IsReplaced c.args.replacements.now c.args.above.now) c.args.list.now.items c.loop-known.list.items c.loop-known.invariant.0 (λ t r. all_first want c.args.above.now c.loop-known.known-index c.loop-known-test.false t (r.0, r.1, (r.2, r.3)))
    (λ t f. let a = first_all want c.args.above.now c.loop-known.known-index t f in (a.0, a.1, a.2.0, a.2.1))
