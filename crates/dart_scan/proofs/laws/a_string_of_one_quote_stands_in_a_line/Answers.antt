use Rattle.dart_scan.proofs.StringLaws.{in_one_line}
use Rattle.dart_scan.proofs.laws.a_string_of_one_quote_stands_in_a_line.Goals as goal

pub returns : goal.returns
returns c = in_one_line c.args._text.now
