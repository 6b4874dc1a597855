use Rattle.std.proofs.Common.{◌≡◌, ◌<◌, List, length, set, take, get_or, add-one, sym, ap, ◌∙◌, subst, arith}
use Rattle.flow_model.specs.Join.{join_facts}
use Rattle.flow_model.specs.declared.locals.Facts.{Facts}
use Rattle.flow_model.proofs.Pairs.{length-so_far, first-there, changed-more, so_far-whole}
use Rattle.flow_model.proofs.join.join_locals.Goals as goal

-- the place is one of both
pub write_joined-requires-clause-in_range : goal.write_joined-requires-clause-in_range
write_joined-requires-clause-in_range c =
    let first : c.in_ok-joined.joined ≡ take (length c.args.b.now) c.args.a.now = c.in_ok-joined.ensures ∙ ap (λ n. take n c.args.a.now) c.len.ensures in
    let bound : c.len-i-end.result ≡ length (take (length c.args.b.now) c.args.a.now) = c.len-i-end.ensures ∙ ap length first in
    let within : c.loop-i.i < length (take (length c.args.b.now) c.args.a.now) = subst (λ n. c.loop-i.i < n) bound c.loop-i-test.true in
    subst (λ n. c.loop-i.i < n) (sym (ap length c.loop-i.invariant ∙ length-so_far join_facts c.args.a.now c.args.b.now c.loop-i.i (omega (arith, within)))) within

-- what the first path knows stands there
pub write_joined-requires-clause-first_stands : goal.write_joined-requires-clause-first_stands
write_joined-requires-clause-first_stands c =
    let first : c.in_ok-joined.joined ≡ take (length c.args.b.now) c.args.a.now = c.in_ok-joined.ensures ∙ ap (λ n. take n c.args.a.now) c.len.ensures in
    let bound : c.len-i-end.result ≡ length (take (length c.args.b.now) c.args.a.now) = c.len-i-end.ensures ∙ ap length first in
    let within : c.loop-i.i < length (take (length c.args.b.now) c.args.a.now) = subst (λ n. c.loop-i.i < n) bound c.loop-i-test.true in
    let l = c.facts-local.result.now in
    let m = c.facts-other.result.now in
    let is_l : l ≡ get_or c.args.a.now c.loop-i.i l = subst (λ (f : Facts). f ≡ get_or c.args.a.now c.loop-i.i f) (sym c.facts-local.ensures) c.at.ensures in
    let is_m : m ≡ get_or c.args.b.now c.loop-i.i m = subst (λ (f : Facts). f ≡ get_or c.args.b.now c.loop-i.i f) (sym c.facts-other.ensures) c.at-in-loop-i.ensures in
    first-there join_facts c.args.a.now c.args.b.now c.loop-i.i l m within is_l is_m
    ∙ ap (λ (ls : List Facts). get_or ls c.loop-i.i l) (sym c.loop-i.invariant)

-- one more local of both
pub loop-i-preserved : goal.loop-i-preserved
loop-i-preserved c =
    let first : c.in_ok-joined.joined ≡ take (length c.args.b.now) c.args.a.now = c.in_ok-joined.ensures ∙ ap (λ n. take n c.args.a.now) c.len.ensures in
    let bound : c.len-i-end.result ≡ length (take (length c.args.b.now) c.args.a.now) = c.len-i-end.ensures ∙ ap length first in
    let within : c.loop-i.i < length (take (length c.args.b.now) c.args.a.now) = subst (λ n. c.loop-i.i < n) bound c.loop-i-test.true in
    let l = c.facts-local.result.now in
    let m = c.facts-other.result.now in
    let is_l : l ≡ get_or c.args.a.now c.loop-i.i l = subst (λ (f : Facts). f ≡ get_or c.args.a.now c.loop-i.i f) (sym c.facts-local.ensures) c.at.ensures in
    let is_m : m ≡ get_or c.args.b.now c.loop-i.i m = subst (λ (f : Facts). f ≡ get_or c.args.b.now c.loop-i.i f) (sym c.facts-other.ensures) c.at-in-loop-i.ensures in
    let written : c.write_joined.new.joined ≡ set c.loop-i.joined c.loop-i.i (join_facts l m) = c.in_ok-write_joined.ensures in
    rw add-one
    (written
    ∙ ap (λ (ls : List Facts). set ls c.loop-i.i (join_facts l m)) c.loop-i.invariant
    ∙ changed-more join_facts c.args.a.now c.args.b.now c.loop-i.i l m within is_l is_m)

-- the shorter list is at its end
pub returns : goal.returns
returns c =
    let first : c.in_ok-joined.joined ≡ take (length c.args.b.now) c.args.a.now = c.in_ok-joined.ensures ∙ ap (λ n. take n c.args.a.now) c.len.ensures in
    let bound : c.len-i-end.result ≡ length (take (length c.args.b.now) c.args.a.now) = c.len-i-end.ensures ∙ ap length first in
    let end : c.loop-i.i ≡ length (take (length c.args.b.now) c.args.a.now) = omega (arith, c.loop-i-test.false, c.loop-i.auto.i-end, bound) in
    c.loop-i.invariant ∙ so_far-whole join_facts c.args.a.now c.args.b.now c.loop-i.i end
