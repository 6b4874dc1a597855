use Rattle.std.proofs.Common.{sym, ◌∙◌}
use Rattle.dart_types.proofs.Frames.{argument_past_end, argument_later}
use Rattle.dart_types.proofs.scopes.argument_for.Goals as goal

-- no argument is left
pub returns-then-i-args : goal.returns-then-i-args
returns-then-i-args c = sym (argument_past_end c.args.params.now c.args.args.now c.loop-i.i c.args.var c.if-i-args.true) ∙ c.loop-i.invariant

-- another parameter
pub loop-i-preserved : goal.loop-i-preserved
loop-i-preserved c =
    sym (argument_later c.args.params.now c.args.args.now c.loop-i.i c.args.var _ c.loop-i-test.true c.if-i-args.false (sym c.eq.ensures ∙ c.if-eq.false)) ∙ c.loop-i.invariant
