use Rattle.std.proofs.Common.{◌≡◌, ◌≤◌, ◌<◌, ◌+◌, List, length, take, get_or, refl, ap, sym, ◌∙◌, subst, arith}
use Rattle.std.proofs.lemmas.List.{take_all, get_or_default}
use Rattle.dart_types.specs.Replacements.{pairs_of}
use Rattle.dart_types.specs.declared.replacements.Replacement.{Replacement}
use Rattle.dart_types.proofs.Replacing.{replaced_params, pairs_of-next, settled_pairs, paired, at_paired, all_paired, get_or-paired}
use Rattle.dart_types.proofs.pairs.replacements_for.Goals as goal

pub loop-i-preserved : goal.loop-i-preserved
loop-i-preserved c =
    let ps = c.args.params.now in
    let ts = c.args.args.now in
    let i = c.loop-i.i in
    let p = c.in_ok-settled.field-0.var in
    let t = c.index-args-i.result in
    let within : i < length (paired ps ts) = at_paired ps ts i c.loop-i-test.true c.if-i-args.false in
    let h = c.in_ok-settled.ensures in
    let here : p ≡ get_or ps i p = h.0 ∙ get_or_default ps i _ p c.loop-i-test.true in
    subst (λ (rs : List Replacement). pairs_of rs ≡ settled_pairs (take (i + 1) (paired ps ts))) (sym c.in_ok-push.ensures.items)
    (pairs_of-next c.loop-i.formed.items (paired ps ts) i (p, t) c.in_ok-settled.field-0 within (get_or-paired ps ts i p t c.loop-i-test.true c.if-i-args.false here c.index-args-i.is) c.loop-i.invariant refl h.1)

pub returns : goal.returns
returns c = λ t.
    let ps = c.args.params.now in
    let ts = c.args.args.now in
    let all : length (paired ps ts) ≤ c.loop-i.i = omega (arith, (all_paired ps ts).0, c.loop-i-test.false) in
    replaced_params c.loop-i.formed.items ps ts (c.loop-i.invariant ∙ ap settled_pairs (take_all c.loop-i.i (paired ps ts) all)) t

-- no argument is left
pub returns-then-i-args : goal.returns-then-i-args
returns-then-i-args c = λ t.
    let ps = c.args.params.now in
    let ts = c.args.args.now in
    let all : length (paired ps ts) ≤ c.loop-i.i = omega (arith, (all_paired ps ts).1, c.if-i-args.true) in
    replaced_params c.loop-i.formed.items ps ts (c.loop-i.invariant ∙ ap settled_pairs (take_all c.loop-i.i (paired ps ts) all)) t
