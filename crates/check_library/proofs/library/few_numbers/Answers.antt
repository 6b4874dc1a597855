use Rattle.std.proofs.Common.{false, arith}
use Rattle.dart_scan.specs.Scanned.{tokens_of}
use Rattle.grammar.specs.Tokens.{grammar_tokens}
use Rattle.grammar.specs.Whole.{unit_of}
use Rattle.check_library.specs.Units.{unit_of_text}
use Rattle.check_library.proofs.library.few_numbers.Goals as goal

pub returns : goal.returns
unfolding unit_of_text
returns c = omega (arith, c.few_nodes.ensures, c.numbering_laws.ensures.as_many 0 (unit_of false (grammar_tokens (tokens_of c.args.text.now))))
