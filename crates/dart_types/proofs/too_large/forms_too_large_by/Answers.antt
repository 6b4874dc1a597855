use Rattle.std.proofs.Common.{List, sym, subst}
use Rattle.std.specs.Prelude.{All, Contains}
use Rattle.std.proofs.lemmas.List.Elements.{All-contains}
use Rattle.dart_types.specs.Ty.{Ty}
use Rattle.dart_types.specs.Gathering.{GivesTooLarge}
use Rattle.dart_types.proofs.RowTests.{all_next, all_done}
use Rattle.dart_types.proofs.Steps.{yes, no, granted, refused}
use Rattle.dart_types.proofs.too_large.forms_too_large_by.Goals as goal

pub loop-v-preserved : goal.loop-v-preserved
loop-v-preserved c =
    all_next (λ (v : Ty). GivesTooLarge c.args.rows.now.table v → ⊥) c.as_slice-v-items.result.now c.loop-v.v-index c.v-item.result c.loop-v-test.true c.v-item.is c.loop-v.invariant (refused c.in_ok-found.ensures c.if-found.false)

pub returns-then-found : goal.returns-then-found
returns-then-found c =
    yes (c.v-item.result, subst (λ (vs : List Ty). Contains vs c.v-item.result) c.as_slice-v-items.ensures (c.loop-v.v-index, c.loop-v-test.true, sym c.v-item.is), granted c.in_ok-found.ensures c.if-found.true)

pub returns : goal.returns
returns c =
    no (λ h. All-contains (λ (v : Ty). GivesTooLarge c.args.rows.now.table v → ⊥) c.args.row.now.supers h.0
    (subst (λ (vs : List Ty). All (λ (v : Ty). GivesTooLarge c.args.rows.now.table v → ⊥) vs) c.as_slice-v-items.ensures
    (all_done (λ (v : Ty). GivesTooLarge c.args.rows.now.table v → ⊥) c.as_slice-v-items.result.now c.loop-v.v-index c.loop-v-test.false c.loop-v.invariant)) h.1 h.2)
