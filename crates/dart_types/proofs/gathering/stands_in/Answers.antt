use Rattle.std.proofs.Common.{List, filter, refl, sym, ap, subst, arith}
use Rattle.std.specs.Prelude.{◌≢◌, Contains, All}
use Rattle.std.proofs.lemmas.List.Elements.{All-contains}
use Rattle.dart_types.specs.Same.{same_class}
use Rattle.dart_types.specs.declared.superinterfaces.Superinterface.{Superinterface}
use Rattle.dart_types.proofs.ClassSteps.{passed_contains}
use Rattle.dart_types.proofs.RowTests.{all_next, all_done}
use Rattle.dart_types.proofs.SameIds.{equal_from_same_class, same_class-refl}
use Rattle.dart_types.proofs.Steps.{yes, no, granted, refused}
use Rattle.dart_types.proofs.Gathered.{in_filtered, same_parts}
use Rattle.dart_types.proofs.gathering.stands_in.Goals as goal

-- one of the same class with the same arguments is the same
pub returns-then-is_same : goal.returns-then-is_same
returns-then-is_same c =
    let known = c.known-item.result in
    let among = in_filtered (λ (s : Superinterface). same_class s.class c.args.found.now.class) c.args.list.now known (subst (λ (ss : List Superinterface). Contains ss known) c.superinterfaces_of_class-known-items.ensures (c.loop-known.known-index, c.loop-known-test.true, sym c.known-item.is)) in
    yes (subst (λ (s : Superinterface). Contains c.args.list.now s)
    (same_parts known c.args.found.now (equal_from_same_class known.class c.args.found.now.class among.1) (granted c.is_same.ensures c.if-is_same.true))
    among.0)

pub loop-known-preserved : goal.loop-known-preserved
loop-known-preserved c =
    all_next (λ (known : Superinterface). known ≢ c.args.found.now) c.superinterfaces_of_class-known-items.result.now c.loop-known.known-index c.known-item.result c.loop-known-test.true c.known-item.is c.loop-known.invariant
    (λ e. refused c.is_same.ensures c.if-is_same.false (ap (λ (s : Superinterface). s.args) e))

-- and one that stands in the list is among those of its class
pub returns : goal.returns
returns c =
    let found = c.args.found.now in
    let of = λ (s : Superinterface). same_class s.class found.class in
    let differs = λ (known : Superinterface). known ≢ found in
    let passed : All differs (filter of c.args.list.now) =
    subst (λ (items : List Superinterface). All differs items) c.superinterfaces_of_class-known-items.ensures (all_done differs c.superinterfaces_of_class-known-items.result.now c.loop-known.known-index (omega arith) c.loop-known.invariant) in
    no (λ k. All-contains differs (filter of c.args.list.now) found passed (passed_contains of c.args.list.now found k (same_class-refl found.class)) refl)
