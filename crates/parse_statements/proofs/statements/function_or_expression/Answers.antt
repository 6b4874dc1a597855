-- A `(` or `<` behind the name leaves no variables.
use Rattle.std.proofs.Common.{◌≡◌, None}
use Rattle.grammar.specs.Descents.{lower, take_function_statement, take_variable_statement}
use Rattle.parse_statements.proofs.Once.{called_variables}
use Rattle.parse_statements.proofs.statements.function_or_expression.Goals as goal

pub returns-in-Err-NoReading-clause-reading : goal.returns-in-Err-NoReading-clause-reading
returns-in-Err-NoReading-clause-reading g c =
    let function : take_function_statement (lower (g.B.Below.room c.args.below.now)) c.args.start.now ≡ None = rw c.in-Err-NoReading.field-0-is at c.in-Err-NoReading.ensures.reading in
    let variables : take_variable_statement (lower (g.B.Below.room c.args.below.now)) c.args.start.now ≡ None = called_variables (lower (g.B.Below.room c.args.below.now)) c.args.start.now c.args.tokens.now c.args.written c.requires.plain c.requires.read c.requires.called in
    rw (function, variables) c.expression_statement.ensures.reading
