use Rattle.std.proofs.Common.{take}
use Rattle.element_terms.specs.PassTables.{IsPassTable}
use Rattle.element_terms.proofs.pass_tables.pass_table.Given as goal

-- the table of the combinators that were seen
abbrev pub invariant-loop-combinator : goal.invariant-loop-combinator
invariant-loop-combinator l = IsPassTable (take l.combinator-index l.combinators) l.table.stages l.table.last
