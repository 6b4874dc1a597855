use Rattle.dart_tree.specs.Tree.{trees_of}
use Rattle.judgement.specs.Judgement.{declare_all}
use Rattle.resolve.specs.Points.{known, surroundings}
use Rattle.resolve.proofs.Declarations.{next_declared}
use Rattle.resolve.proofs.judge.statements.declare_variables.Goals as goal

pub loop-variable-preserved : goal.loop-variable-preserved
loop-variable-preserved c =
    let s = surroundings c.args.point in
    next_declared c.args.found.now c.loop-variable.found c.declare_variable.new.found (declare_all s c.args.ty.now (trees_of c.args.variables.now) (known c.args.point)) s c.args.ty.now c.args.variables.now c.loop-variable.variable-index c.variable-item.result c.loop-variable.after.value c.in_ok-after-2.after.value
    c.loop-variable-test.true
    c.variable-item.is
    c.loop-variable.invariant
    c.in_ok-after-2.ensures
