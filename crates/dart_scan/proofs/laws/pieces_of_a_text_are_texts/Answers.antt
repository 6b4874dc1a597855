use Rattle.dart_scan.specs.Pieces.{pieces}
use Rattle.dart_scan.specs.StringTexts.{pieces-texts, texts-all}
use Rattle.dart_scan.proofs.laws.pieces_of_a_text_are_texts.Goals as goal

pub returns : goal.returns
returns c = λ utf8. texts-all (pieces c.args._text.now) (pieces-texts c.args._text.now utf8)
