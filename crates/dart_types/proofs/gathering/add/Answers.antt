use Rattle.std.proofs.Common.{◌≡◌, List, subst, sym}
use Rattle.std.specs.Prelude.{Contains}
use Rattle.dart_types.specs.Superinterfaces.{interface_of}
use Rattle.dart_types.specs.Gathering.{Adds}
use Rattle.dart_types.specs.declared.superinterfaces.Superinterface.{Superinterface}
use Rattle.dart_types.proofs.Steps.{granted, refused}
use Rattle.dart_types.proofs.Gathered.{adds_known, adds_inserted, IsPlace}
use Rattle.dart_types.proofs.gathering.add.Goals as goal

pub returns-then-stands_in : goal.returns-then-stands_in
returns-then-stands_in c =
    adds_known c.args.list.now.items c.args.found (subst (λ (ss : List Superinterface). Contains ss c.args.found) c.deref.ensures.value (granted c.stands_in.ensures c.if-stands_in.true))

pub returns : goal.returns
returns c =
    let parts = subst (λ (ss : List Superinterface). IsPlace c.args.found ss c.end_of_class-at.result) c.deref-2.ensures.value (c.end_of_class-at.ensures.bound, c.end_of_class-at.ensures.parts) in
    subst (Adds (λ t. t ≡ interface_of c.args.found) c.args.list.now.items) (sym c.in_ok-insert.ensures.items)
    (adds_inserted c.args.list.now.items c.end_of_class-at.result c.args.found parts.0 parts.1.0 parts.1.1
    (λ k. refused c.stands_in.ensures c.if-stands_in.false (subst (λ (ss : List Superinterface). Contains ss c.args.found) (sym c.deref.ensures.value) k)))
