use Rattle.rule_laws.proofs.Jumps.{of_statement, of_statements}
use Rattle.rule_laws.proofs.laws.no_form_jumps.Goals as goal

pub returns : goal.returns
returns c = record { statement = of_statement; statements = of_statements }
