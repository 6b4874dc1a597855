use Rattle.readings.specs.Elements.{offers_elements, begun, loop_goes_on, loop_last, loop_stops}
use Rattle.readings.proofs.laws.element_laws.Goals as goal

pub returns : goal.returns
returns types c = record { elements = λ p comma far. offers_elements comma p.parses far; begins = begun; goes_on = loop_goes_on; last = loop_last; stops = loop_stops }
