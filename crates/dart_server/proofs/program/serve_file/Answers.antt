use Rattle.std.proofs.Common.{refl, rules}
use Rattle.dart_server.proofs.ServeLemmas.{unread_file}
use Rattle.dart_server.proofs.program.serve_file.Goals as goal

pub returns-in-Err-Failed-clause-output : goal.returns-in-Err-Failed-clause-output
returns-in-Err-Failed-clause-output g c =
    unread_file c.args.file.now (g.F.Files.told c.args.files.now) _ _ _ _ _ _ _ _ _ _ _ _ _
    (record { counts = search rules; unwritten = refl; not_short = refl })
    (record { untaken = refl; unlisted = c.packages_at.ensures.not_listed; read_once = c.packages_at.ensures.read_once })

pub returns-in-Err-Memory-clause-output : goal.returns-in-Err-Memory-clause-output
returns-in-Err-Memory-clause-output g c =
    unread_file c.args.file.now (g.F.Files.told c.args.files.now) _ _ _ _ _ _ _ _ _ _ _ _ _
    (record { counts = search rules; unwritten = refl; not_short = refl })
    (record { untaken = refl; unlisted = c.packages_at.ensures.not_listed; read_once = c.packages_at.ensures.read_once })
