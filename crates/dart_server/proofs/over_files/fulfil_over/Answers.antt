use Rattle.load_files.specs.declared.refusal.LoadRefusal.TheVariants.{TooManyFiles, TooDeep, TooMuch}
use Rattle.dart_server.proofs.EndLemmas.{over_fault, over_limit, over_memory, over_table, table_may_end}
use Rattle.dart_server.proofs.over_files.fulfil_over.Goals as goal

pub returns-in-Ok-clause-output : goal.returns-in-Ok-clause-output
returns-in-Ok-clause-output g c =
    over_table c.args.task c.args.file.now c.args.folder.now c.args.packages.now _ _ _ c.in-Ok.found c.fulfil_in.result _ c.in-Ok.ensures.exact c.fulfil_in.ensures.writes c.status_after.ensures

pub returns-in-Err-FilesFault-clause-output : goal.returns-in-Err-FilesFault-clause-output
returns-in-Err-FilesFault-clause-output g c = over_fault c.args.task c.args.file.now c.args.folder.now c.args.packages.now _ _

pub returns-in-Err-Memory-clause-output : goal.returns-in-Err-Memory-clause-output
returns-in-Err-Memory-clause-output g c = over_memory c.args.task c.args.file.now c.args.folder.now c.args.packages.now _ _

pub returns-in-Err-TooManyFiles-clause-output : goal.returns-in-Err-TooManyFiles-clause-output
returns-in-Err-TooManyFiles-clause-output g c =
    over_limit c.args.task c.args.file.now c.args.folder.now c.args.packages.now _ _ _ (TooManyFiles c.in-Err-TooManyFiles.field-0-0) c.say.result _ (λ is. cc) (λ is. cc) (rw c.in-Err-TooManyFiles.field-0-is at c.in-Err-TooManyFiles.ensures.exact) c.say.ensures.writes c.status_after-in-Err-TooManyFiles.ensures

pub returns-in-Err-TooDeep-clause-output : goal.returns-in-Err-TooDeep-clause-output
returns-in-Err-TooDeep-clause-output g c =
    over_limit c.args.task c.args.file.now c.args.folder.now c.args.packages.now _ _ _ (TooDeep c.in-Err-TooDeep.field-0-0) c.say-in-Err-TooDeep.result _ (λ is. cc) (λ is. cc) (rw c.in-Err-TooDeep.field-0-is at c.in-Err-TooDeep.ensures.exact) c.say-in-Err-TooDeep.ensures.writes c.status_after-in-Err-TooDeep.ensures

pub returns-in-Err-TooMuch-clause-output : goal.returns-in-Err-TooMuch-clause-output
returns-in-Err-TooMuch-clause-output g c =
    over_limit c.args.task c.args.file.now c.args.folder.now c.args.packages.now _ _ _ (TooMuch c.in-Err-TooMuch.field-0-0) c.say-in-Err-TooMuch.result _ (λ is. cc) (λ is. cc) (rw c.in-Err-TooMuch.field-0-is at c.in-Err-TooMuch.ensures.exact) c.say-in-Err-TooMuch.ensures.writes c.status_after-in-Err-TooMuch.ensures

pub returns-in-Ok-clause-statuses : goal.returns-in-Ok-clause-statuses
returns-in-Ok-clause-statuses g c =
    table_may_end c.args.task c.args.file.now c.args.folder.now c.args.packages.now c.in-Ok.found _ _ c.fulfil_in.result _ c.fulfil_in.ensures.writes c.status_after.ensures
