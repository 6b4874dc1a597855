use Rattle.dart_scan.proofs.CommentLaws.{sound, comment-size}
use Rattle.dart_scan.proofs.laws.a_comment_is_as_its_grammar_says.Goals as goal

pub returns : goal.returns
returns c = record {
  sound = sound c.args._text.now;
  complete = λ h. comment-size h c.args._text.now;
}
