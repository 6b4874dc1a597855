use Rattle.std.proofs.Common.{◌+◌, [], ◌∷◌, ◌++◌, refl, sym, ap, ◌∙◌}
use Rattle.std.proofs.lemmas.List.FromFn.{map-range_with_len_more}
use Rattle.dart_types.specs.Ty.{void}
use Rattle.elaborate.specs.Elaborated.{slot_type}
use Rattle.elaborate.proofs.slots.voids.Goals as goal

pub loop-k-preserved : goal.loop-k-preserved
loop-k-preserved c =
    c.in_ok-push.ensures.items ∙ ap (λ slots. slots ++ void ∷ []) c.loop-k.invariant ∙ sym (map-range_with_len_more (slot_type []) c.args._first c.loop-k._k (c.args._first + c.loop-k._k) refl)
