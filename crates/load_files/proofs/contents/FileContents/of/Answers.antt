use Rattle.std.proofs.Common.{Ok, Err}
use Rattle.dart_text.specs.declared.text.TextRefusal.TheVariants as text_refusal
use Rattle.load_files.proofs.Counting.{told_by}
use Rattle.load_files.proofs.contents.FileContents.of.Goals as goal

pub returns-in-Ok : goal.returns-in-Ok
returns-in-Ok c = told_by c.args.bytes.now (Ok c.in-Ok.text) c.in-Ok.ensures

pub returns-in-Err-NotUtf8 : goal.returns-in-Err-NotUtf8
returns-in-Err-NotUtf8 c = told_by c.args.bytes.now (Err text_refusal.NotUtf8) (rw c.in-Err-NotUtf8.field-0-is at c.in-Err-NotUtf8.ensures)

pub returns-in-Err-TooLong : goal.returns-in-Err-TooLong
returns-in-Err-TooLong c = told_by c.args.bytes.now (Err (text_refusal.TooLong c.in-Err-TooLong.field-0-0)) (rw c.in-Err-TooLong.field-0-is at c.in-Err-TooLong.ensures)
