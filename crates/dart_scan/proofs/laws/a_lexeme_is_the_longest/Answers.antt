use Rattle.dart_scan.specs.LawLemmas.{word-longest, integer-longest, double-longest, mark-longest, mark-of-marks}
use Rattle.dart_scan.proofs.laws.a_lexeme_is_the_longest.Goals as goal

pub returns : goal.returns
returns c = record {
  word = word-longest c.args._text.now;
  integer = integer-longest c.args._text.now;
  double = double-longest c.args._text.now;
  mark = mark-longest c.args._text.now;
  marks = mark-of-marks c.args._text.now;
}
