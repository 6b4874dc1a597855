use Rattle.std.proofs.Common.{◌≡◌, ◌+◌, ◌-◌, ◌≤◌, length, drop, option_map}
use Rattle.dart_scan.proofs.CommentLemmas.{end_of}
use Rattle.dart_scan.proofs.cut.comment.comment_size.Given as goal

abbrev pub invariant-loop-at : goal.invariant-loop-at
invariant-loop-at l = record {
  within : l.at ≤ length l.text;
  shallow : l.inner ≤ l.at;
  reached : end_of 0 l.text ≡ option_map (λ n. l.at + n) (end_of l.inner (drop l.at l.text));
}

abbrev pub decreases-loop-at : goal.decreases-loop-at
decreases-loop-at l = length l.text - l.at
