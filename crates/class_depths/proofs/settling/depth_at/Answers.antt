use Rattle.std.proofs.Common.{rules, ◌≡◌, ◌∷◌, ◌++◌, ◌<◌, [], List, length, sym, ap, ◌∙◌, subst, arith, refl}
use Rattle.class_depths.specs.Marked.{mark_at}
use Rattle.class_depths.specs.Climbing.{Begins, Climbing, HasDepth, effort}
use Rattle.class_depths.specs.declared.marks.Mark.{Mark}
use Rattle.class_depths.specs.declared.marks.Step.{Step}
use Rattle.class_depths.proofs.Ways.{begun, ended}
use Rattle.class_depths.proofs.settling.depth_at.Goals as goal

pub begin-requires : goal.begin-requires
begin-requires c = omega (arith, c.requires.climbing.marked.size, c.requires.place)

pub loop-step-init : goal.loop-step-init
loop-step-init c =
    let none : c.new-path.result.items ≡ [] = search rules in
    let marks = c.args.marks.now.items in
    let b = subst (λ (ss : List Step). Begins (mark_at marks c.args.root) c.args.root marks c.begin.new.marks.items ss c.begin.new.path.items) none c.in_ok-begin.ensures in
    begun c.args.below.now.table c.args.declared.now marks c.begin.new.marks.items c.begin.new.path.items c.args.root (mark_at marks c.args.root) refl c.requires.place c.requires.climbing b

pub take_step-requires-clause-climbing : goal.take_step-requires-clause-climbing
take_step-requires-clause-climbing c =
    let popped : c.loop-step.path.items ≡ c.pop.new.self.items ++ c.in-Some.step ∷ [] = search rules in
    subst (λ (ss : List Step). Climbing c.args.below.now.table c.args.declared.now c.loop-step.marks.items ss) popped c.loop-step.invariant.0

pub loop-step-smaller : goal.loop-step-smaller
loop-step-smaller c =
    let popped : c.loop-step.path.items ≡ c.pop.new.self.items ++ c.in-Some.step ∷ [] = search rules in
    subst (λ (ss : List Step). effort c.take_step.new.marks.items c.take_step.new.path.items < effort c.loop-step.marks.items ss) (sym popped) c.in_ok-take_step.ensures.ok.falls

pub loop-step-preserved : goal.loop-step-preserved
loop-step-preserved c = (c.in_ok-take_step.ensures.ok.climbing, λ e. c.loop-step.invariant.1 (c.in_ok-take_step.ensures.ok.stays c.args.root e))

pub marked_depth-requires-clause-place : goal.marked_depth-requires-clause-place
marked_depth-requires-clause-place c =
    let seen : c.deref.result.now ≡ c.loop-step.marks.items = search rules in
    subst (λ (ms : List Mark). c.args.root < length ms) (sym seen) (omega (arith, c.loop-step.invariant.0.marked.size, c.requires.place))

pub marked_depth-requires-clause-settled : goal.marked_depth-requires-clause-settled
marked_depth-requires-clause-settled c =
    let seen : c.deref.result.now ≡ c.loop-step.marks.items = search rules in
    let none : c.loop-step.path.items ≡ [] = search rules in
    let end = subst (λ (ss : List Step). Climbing c.args.below.now.table c.args.declared.now c.loop-step.marks.items ss) none c.loop-step.invariant.0 in
    subst (λ (ms : List Mark). HasDepth ms c.args.root) (sym seen) (ended c.args.below.now.table c.args.declared.now c.loop-step.marks.items c.args.root end c.loop-step.invariant.1)

pub returns-clause-depth : goal.returns-clause-depth
returns-clause-depth c =
    let seen : c.deref.result.now ≡ c.loop-step.marks.items = search rules in
    c.loop-step.invariant.0.marked.settled c.args.root c.marked_depth.result (ap (λ (ms : List Mark). mark_at ms c.args.root) (sym seen) ∙ c.marked_depth.ensures)

pub returns-clause-climbing : goal.returns-clause-climbing
returns-clause-climbing c =
    let none : c.loop-step.path.items ≡ [] = search rules in
    subst (λ (ss : List Step). Climbing c.args.below.now.table c.args.declared.now c.loop-step.marks.items ss) none c.loop-step.invariant.0
