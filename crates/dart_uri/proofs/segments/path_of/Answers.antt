use Rattle.std.proofs.Common.{◌≡◌, ◌∙◌, sym, arith, refl, ◌==◌, length, true, false, rules}
use Rattle.std.proofs.lemmas.Result.{IfOk-weaker}
use Rattle.dart_uri.proofs.PathLemmas.{more_path, all_segments, no_segments, some_segments}
use Rattle.dart_uri.proofs.segments.path_of.Goals as goal

pub returns-then-is_empty : goal.returns-then-is_empty
returns-then-is_empty c =
    let none : (length c.args.segments.now == 0) ≡ true = search rules in
    IfOk-weaker c.new.result _ _ (λ path is. is ∙ no_segments c.args.segments.now none) c.new.ensures

pub loop-segment-preserved : goal.loop-segment-preserved
loop-segment-preserved c =
    more_path c.args.segments.now c.loop-segment.segment-index _ c.in_ok-add_segment.ensures c.loop-segment.invariant c.loop-segment-test.true refl

pub returns : goal.returns
returns c =
    let some : (length c.args.segments.now == 0) ≡ false = search rules in
    c.from_string.ensures ∙ (c.loop-segment.invariant ∙ (all_segments c.args.segments.now c.loop-segment.segment-index (omega (arith, c.loop-segment-test.false)) ∙ sym (some_segments c.args.segments.now some)))
