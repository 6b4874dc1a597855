-- The parts in a row, with a clause or a `finally` among them or without one.
use Rattle.std.proofs.Common.{◌∙◌}
use Rattle.grammar.specs.Descents.{lower}
use Rattle.parse_statements.proofs.Clauses.{try_made, try_missed}
use Rattle.parse_statements.proofs.tries.try_statement.Goals as goal

pub returns-then-not-has_clause-clause-reading : goal.returns-then-not-has_clause-clause-reading
returns-then-not-has_clause-clause-reading g c =
    let read = rw c.in_ok-rest.ensures.ok_part at c.token.ensures in
    let has = rw c.deref.ensures.value at (c.has_clause.ensures c.in_ok-rest.field-0-0 c.in_ok-body.body) in
    try_missed (lower (g.B.Below.room c.args.below.now)) c.args.tokens.now c.in_ok-rest.rest.now c.in_ok-body.rest.now c.in_ok-handlers.rest.now c.in_ok-found.rest.now c.in_ok-rest.field-0-0 c.in_ok-body.body c.in_ok-handlers.handlers.items c.in_ok-found.found
    read c.in_ok-body.ensures.reading c.in_ok-handlers.ensures.reading c.in_ok-found.ensures.reading (has ∙ c.if-not-has_clause.true)

pub returns-clause-reading : goal.returns-clause-reading
returns-clause-reading g c =
    let read = rw c.in_ok-rest.ensures.ok_part at c.token.ensures in
    let has = rw c.deref.ensures.value at (c.has_clause.ensures c.in_ok-rest.field-0-0 c.in_ok-body.body) in
    rw (c.in_ok-node.ensures.ok, c.in_ok-parts.ensures.ok, c.place_over-at.ensures, c.block_behind.ensures)
    (try_made (lower (g.B.Below.room c.args.below.now)) c.args.tokens.now c.in_ok-rest.rest.now c.in_ok-body.rest.now c.in_ok-handlers.rest.now c.in_ok-found.rest.now c.in_ok-rest.field-0-0 c.in_ok-body.body c.in_ok-handlers.handlers.items c.in_ok-found.found
    read c.in_ok-body.ensures.reading c.in_ok-handlers.ensures.reading c.in_ok-found.ensures.reading (has ∙ c.if-not-has_clause.false))
