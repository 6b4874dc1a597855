use Rattle.core_machine.proofs.Soundness.{row_is_doing, effect_is_good}
use Rattle.core_machine.proofs.machine.Machine.step.Goals as goal

-- the row doesn't go wrong
pub decide-requires-clause-doing : goal.decide-requires-clause-doing
decide-requires-clause-doing c = row_is_doing c.self.inside.program c.program.ensures.laws c.program.ensures.nothing_out c.program.ensures.well_formed c.program.ensures.accepted _ _ c.program.ensures.program c.self.invariant.first

-- what it does leaves a frame that fits
pub write-requires : goal.write-requires
write-requires c = (effect_is_good c.self.inside.program c.program.ensures.laws c.program.ensures.nothing_out c.program.ensures.well_formed c.program.ensures.accepted _ _ _ c.program.ensures.program c.self.invariant.first c.in-Write.ensures).0

pub invariant_of-self : goal.invariant_of-self
invariant_of-self c = record {
  first = rw c.write.ensures ((effect_is_good c.self.inside.program c.program.ensures.laws c.program.ensures.nothing_out c.program.ensures.well_formed c.program.ensures.accepted _ _ _ c.program.ensures.program c.self.invariant.first c.in-Write.ensures).1);
  others = c.self.invariant.others;
}

pub invariant_of-self-in-Go : goal.invariant_of-self-in-Go
invariant_of-self-in-Go c = record {
  first = rw c.go.ensures (effect_is_good c.self.inside.program c.program.ensures.laws c.program.ensures.nothing_out c.program.ensures.well_formed c.program.ensures.accepted _ _ _ c.program.ensures.program c.self.invariant.first c.in-Go.ensures);
  others = c.self.invariant.others;
}

pub invariant_of-self-in-Print : goal.invariant_of-self-in-Print
invariant_of-self-in-Print c = record {
  first = rw c.go-in-Print.ensures (effect_is_good c.self.inside.program c.program.ensures.laws c.program.ensures.nothing_out c.program.ensures.well_formed c.program.ensures.accepted _ _ _ c.program.ensures.program c.self.invariant.first c.in-Print.ensures);
  others = c.self.invariant.others;
}
