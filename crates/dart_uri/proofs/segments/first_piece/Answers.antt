use Rattle.std.proofs.Common.{arith, Some, None}
use Rattle.std.proofs.lemmas.Str.Pattern.{split_once_first}
use Rattle.fault_io.specs.Paths.{slash}
use Rattle.dart_uri.proofs.TextLemmas.{split_first, split_none}
use Rattle.dart_uri.proofs.segments.first_piece.Goals as goal

pub returns-in-Some-clause-pieces : goal.returns-in-Some-clause-pieces
returns-in-Some-clause-pieces c =
    let parts = split_once_first slash c.args.text.now (Some (c.in-Some.piece, c.in-Some.rest)) c.in-Some.ensures.cases (omega arith) in
    rw (parts.1, parts.2) (split_first c.args.text.now parts.0)

pub returns-in-None-clause-pieces : goal.returns-in-None-clause-pieces
returns-in-None-clause-pieces c = split_none c.args.text.now (split_once_first slash c.args.text.now None c.in-None.ensures.cases (omega arith))
