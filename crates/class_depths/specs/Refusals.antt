-- Refusals of one kind and another.
use Rattle.std.specs.Prelude.{◌≡◌}
use Rattle.class_depths.specs.declared.unsettled.Unsettled.{Unsettled}
use Rattle.class_depths.specs.declared.unsettled.Unsettled.TheVariants as of_depths
use Rattle.class_depths.specs.declared.unextended.Unextended.{Unextended}
use Rattle.class_depths.specs.declared.unextended.Unextended.TheVariants.{Cycle, Memory}

-- both say the same
abbrev pub same_refusal : Unsettled → Unextended → Type 0
same_refusal (of_depths.Cycle c) r = r ≡ Cycle c
same_refusal of_depths.Memory r = r ≡ Memory
