use Rattle.std.proofs.Common.{take}
use Rattle.element_terms.specs.Combinators.{is_among}
use Rattle.element_terms.specs.PassTables.{Moves}
use Rattle.element_terms.proofs.pass_tables.move_listed.Given as goal

-- the names that were seen are moved
abbrev pub invariant-loop-name : goal.invariant-loop-name
invariant-loop-name l = Moves (is_among (take l.name-index l.names)) l.from l.to l.initial.stages l.stages
