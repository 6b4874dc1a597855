use Rattle.std.proofs.Common.{◌≡◌, ◌+◌, List, take, ap, sym, ◌∙◌, subst}
use Rattle.std.proofs.lemmas.List.{take_all}
use Rattle.dart_types.specs.Replacements.{pairs_of}
use Rattle.dart_types.specs.declared.replacements.Replacement.{Replacement}
use Rattle.dart_types.proofs.Replacing.{replaced_pairs, pairs_of-next, settled_pairs}
use Rattle.dart_types.proofs.pairs.replacements_of.Goals as goal

pub loop-pair-preserved : goal.loop-pair-preserved
loop-pair-preserved c =
    subst (λ (rs : List Replacement). pairs_of rs ≡ settled_pairs (take (c.loop-pair.pair-index + 1) c.args.with.now)) (sym c.in_ok-push.ensures.items)
    (pairs_of-next c.loop-pair.formed.items c.args.with.now c.loop-pair.pair-index c.pair-item.result c.in_ok-settled.field-0 c.loop-pair-test.true c.pair-item.is c.loop-pair.invariant c.in_ok-settled.ensures.0 c.in_ok-settled.ensures.1)

pub returns : goal.returns
returns c = λ t.
    replaced_pairs c.loop-pair.formed.items c.args.with.now (c.loop-pair.invariant ∙ ap settled_pairs (take_all c.loop-pair.pair-index c.args.with.now c.loop-pair-test.false)) t
