use Rattle.core_check.specs.NamedSlots.{named_is}
use Rattle.core_check.proofs.laws.parts_name_the_slots_of_a_shape.Goals as goal

pub returns : goal.returns
returns c = named_is
