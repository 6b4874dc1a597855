use Rattle.std.proofs.Common.{IfOk, subst}
use Rattle.proto_json.proofs.RequestLaws.{HasRisingFiles, answer-rises}
use Rattle.proto_json.proofs.laws.files_of_an_update_rise_by_path.Goals as goal

pub returns : goal.returns
returns c = λ id files is. subst (λ found. IfOk found (λ asked. HasRisingFiles asked.request)) is (answer-rises c.args._line.now)
