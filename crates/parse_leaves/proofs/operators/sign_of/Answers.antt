use Rattle.std.proofs.Common.{sym}
use Rattle.parse_leaves.proofs.Signs.{no_sign}
use Rattle.parse_leaves.proofs.operators.sign_of.Goals as goal

pub returns-in_default : goal.returns-in_default
returns-in_default c =
    let d = c.in_default in
    sym (no_sign c.args.kind d.not-Star d.not-Slash d.not-TildeSlash d.not-Percent d.not-Plus d.not-Minus d.not-LessLess d.not-Ampersand d.not-Caret d.not-Bar d.not-Less d.not-LessEquals d.not-EqualsEquals d.not-BangEquals d.not-AmpersandAmpersand d.not-BarBar d.not-QuestionQuestion d.not-Equals d.not-StarEquals d.not-SlashEquals d.not-TildeSlashEquals d.not-PercentEquals d.not-PlusEquals d.not-MinusEquals d.not-LessLessEquals d.not-AmpersandEquals d.not-CaretEquals d.not-BarEquals d.not-QuestionQuestionEquals)
