-- How many tokens come before the segment, and how many are in it.
use Rattle.std.proofs.Common.{◌≡◌, ◌+◌, ◌≤◌, length, ap, arith}
use Rattle.grammar.specs.Whole.{tokens_over}
use Rattle.dart_parse.specs.Faults.{begin_before}
use Rattle.dart_parse.proofs.Segments.{counted, within, told}
use Rattle.dart_parse.proofs.faults.fault_over.Goals as goal

pub segment_fault-requires-clause-within : goal.segment_fault-requires-clause-within
segment_fault-requires-clause-within c =
    let before : c.args.first ≡ begin_before c.args.at.span.start c.args.text.now =
    counted c.args.at.span.start c.args.text.now c.args.first c.requires.bound c.requires.before c.requires.behind in
    let over : length c.tokens_from-count.result.now ≡ length (tokens_over c.args.text.now c.args.at) = ap length c.tokens_from-count.ensures in
    omega (arith, before, over, within c.args.text.now c.args.at)

pub returns : goal.returns
returns c =
    let before : c.args.first ≡ begin_before c.args.at.span.start c.args.text.now =
    counted c.args.at.span.start c.args.text.now c.args.first c.requires.bound c.requires.before c.requires.behind in
    let over : length c.tokens_from-count.result.now ≡ length (tokens_over c.args.text.now c.args.at) = ap length c.tokens_from-count.ensures in
    told c.args.text.now c.args.at c.args.first (length c.tokens_from-count.result.now) c.segment_fault.result before over c.segment_fault.ensures
