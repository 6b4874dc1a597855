use Rattle.std.proofs.Common.{◌≡◌, ◌==◌, length, map, true, false, None, Some, rules}
use Rattle.dart_uri.specs.Segments.{after_segment}
use Rattle.dart_uri.proofs.PathLemmas.{no_text, some_text, stops, goes_on, no_more}
use Rattle.dart_uri.proofs.segments.walk.Goals as goal

pub returns-then-is_empty : goal.returns-then-is_empty
returns-then-is_empty c =
    let none : (length c.args.text.now == 0) ≡ true = search rules in
    no_text (map (λ s. s.now) c.args.path.now.items) c.args.text.now none

pub loop-rest-init : goal.loop-rest-init
loop-rest-init c =
    let some : (length c.args.text.now == 0) ≡ false = search rules in
    some_text (map (λ s. s.now) c.args.path.now.items) c.args.text.now c.without_last_slash.result.now some c.without_last_slash.ensures

pub returns-then-not-branch : goal.returns-then-not-branch
returns-then-not-branch c =
    let before = rw c.in-Some.is at c.loop-rest.invariant in
    let none : after_segment (map (λ s. s.now) c.loop-rest.path.items) c.first_piece.result.0.now ≡ None = search rules in
    stops _ (map (λ s. s.now) c.loop-rest.path.items) c.in-Some.text.now c.first_piece.result.0.now _ before c.first_piece.ensures.pieces none

pub loop-rest-preserved : goal.loop-rest-preserved
loop-rest-preserved c =
    let before = rw c.in-Some.is at c.loop-rest.invariant in
    let there : after_segment (map (λ s. s.now) c.loop-rest.path.items) c.first_piece.result.0.now ≡ Some (map (λ s. s.now) c.step.new.path.items) = search rules in
    goes_on _ (map (λ s. s.now) c.loop-rest.path.items) (map (λ s. s.now) c.step.new.path.items) c.in-Some.text.now c.first_piece.result.0.now _ before c.first_piece.ensures.pieces there

pub returns : goal.returns
returns c =
    let before = rw c.in_default.is at c.loop-rest.invariant in
    no_more _ (map (λ s. s.now) c.loop-rest.path.items) before
