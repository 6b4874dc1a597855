use Rattle.std.proofs.Common.{rules, ◌≡◌, ◌∷◌, ◌++◌, [], List, set, sym, subst, arith}
use Rattle.std.proofs.lemmas.List.{get_or_default}
use Rattle.class_depths.specs.Marked.{AreMarked, no_class}
use Rattle.class_depths.specs.Over.{LiesOver}
use Rattle.class_depths.specs.Climbing.{LeadsTo, Steps, Turns}
use Rattle.class_depths.specs.declared.classes.DeclaredClass.{DeclaredClass}
use Rattle.class_depths.specs.declared.marks.Mark.{Mark}
use Rattle.class_depths.specs.declared.marks.Mark.TheVariants.{Open, Unseen}
use Rattle.class_depths.specs.declared.marks.Step.{Step}
use Rattle.class_depths.specs.declared.marks.Turn.{Turn}
use Rattle.class_depths.proofs.Ways.{last_within, last_partly, round, done_steps, on_steps}
use Rattle.class_depths.proofs.climbing.take_step.Goals as goal

pub go_on-requires-clause-marked : goal.go_on-requires-clause-marked
go_on-requires-clause-marked c =
    let seen : c.deref.result.now ≡ c.args.marks.now.items = search rules in
    subst (λ (ms : List Mark). AreMarked c.args.below.now.table c.args.declared.now ms) (sym seen) c.requires.climbing.marked

pub go_on-requires-clause-place : goal.go_on-requires-clause-place
go_on-requires-clause-place c = last_within c.args.below.now.table c.args.declared.now c.args.marks.now.items c.args.path.now.items c.args.step c.requires.climbing

pub go_on-requires-clause-partly : goal.go_on-requires-clause-partly
go_on-requires-clause-partly c = last_partly c.args.below.now.table c.args.declared.now c.args.marks.now.items c.args.path.now.items c.args.step c.requires.climbing

pub index_mut-requires : goal.index_mut-requires
index_mut-requires c =
    let within = last_within c.args.below.now.table c.args.declared.now c.args.marks.now.items c.args.path.now.items c.args.step c.requires.climbing in
    omega (arith, within, c.requires.climbing.marked.size)

pub returns-in-Done-clause-ok : goal.returns-in-Done-clause-ok
returns-in-Done-clause-ok c =
    let below = c.args.below.now.table in
    let declared = c.args.declared.now in
    let marks = c.args.marks.now.items in
    let turned = subst (λ (t : Turn). Turns below declared c.deref.result.now c.args.step t) c.in-Done.is c.in_ok-depth.ensures.ok in
    done_steps below declared marks c.args.path.now.items c.args.step c.requires.climbing c.in-Done.depth turned

pub returns-in_ok-lead_on-in-On-clause-ok : goal.returns-in_ok-lead_on-in-On-clause-ok
returns-in_ok-lead_on-in-On-clause-ok c =
    let below = c.args.below.now.table in
    let declared = c.args.declared.now in
    let marks = c.args.marks.now.items in
    let path = c.args.path.now.items in
    let s = c.args.step in
    let t = c.in-On.step in
    let p = c.in-On.place in
    let seen : c.deref.result.now ≡ marks = search rules in
    let turned = subst (λ (u : Turn). Turns below declared c.deref.result.now s u) c.in-On.is c.in_ok-depth.ensures.ok in
    let leads : LeadsTo declared marks s p Unseen = subst (λ (ms : List Mark). LeadsTo declared ms s p Unseen) seen turned.2 in
    let steps = on_steps below declared marks path s c.requires.climbing t p turned.0 turned.1 leads in
    subst (λ (ms : List Mark). Steps below declared marks ms (path ++ s ∷ []) c.lead_on.new.path.items) (sym c.in_ok-lead_on-in-On.ensures.marks)
    (subst (λ (ss : List Step). Steps below declared marks (set marks p Open) (path ++ s ∷ []) ss) (sym c.in_ok-lead_on-in-On.ensures.path) steps)

pub returns-in-Round-clause-err : goal.returns-in-Round-clause-err
returns-in-Round-clause-err c =
    let below = c.args.below.now.table in
    let declared = c.args.declared.now in
    let marks = c.args.marks.now.items in
    let s = c.args.step in
    let p = c.in-Round.place in
    let seen : c.deref.result.now ≡ marks = search rules in
    let turned = subst (λ (u : Turn). Turns below declared c.deref.result.now s u) c.in-Round.is c.in_ok-depth.ensures.ok in
    let leads : LeadsTo declared marks s p Open = subst (λ (ms : List Mark). LeadsTo declared ms s p Open) seen turned in
    let read = get_or_default declared p c.index-declared-place.result no_class leads.place in
    subst (λ (d : DeclaredClass). LiesOver declared d.id d.id) (sym read) (round below declared marks c.args.path.now.items s c.requires.climbing p leads)
