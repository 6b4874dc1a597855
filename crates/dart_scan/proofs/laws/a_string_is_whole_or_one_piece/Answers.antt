use Rattle.dart_scan.specs.StringGrammar.{whole_is_read, whole_or_never}
use Rattle.dart_scan.proofs.laws.a_string_is_whole_or_one_piece.Goals as goal

pub returns : goal.returns
returns c = record { whole = whole_is_read c.args._text.now; otherwise = whole_or_never c.args._text.now }
