use Rattle.std.proofs.Common.{◌≡◌, take, true}
use Rattle.std.specs.List.{list_all}
use Rattle.flow_model.specs.TypeTests.{is_in}
use Rattle.flow_model.proofs.join.are_in.Given as goal

abbrev pub invariant-loop-t : goal.invariant-loop-t
invariant-loop-t l = list_all (is_in l.list) (take l.t-index l.types) ≡ true
