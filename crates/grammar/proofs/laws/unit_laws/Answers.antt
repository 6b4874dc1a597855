use Rattle.std.proofs.Common.{ap}
use Rattle.grammar.specs.Whole.{whole, most_nodes}
use Rattle.grammar.proofs.Agreement.{all_parse}
use Rattle.grammar.proofs.DeclarationsParse.{same_unit}
use Rattle.grammar.specs.Below.{below}
use Rattle.grammar.specs.Descents.{lower}
use Rattle.grammar.proofs.laws.unit_laws.Goals as goal

pub returns : goal.returns
returns c = record {
  units = λ in_core n m tokens. same_unit in_core (below n) (below m) (lower n) (lower m) (all_parse n) (all_parse m) tokens;
  whole = λ in_core tokens. ap (whole tokens most_nodes) (same_unit in_core (below 199) (below 198) (lower 199) (lower 198) (all_parse 199) (all_parse 198) tokens);
}
