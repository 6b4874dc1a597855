use Rattle.std.proofs.Common.{sym}
use Rattle.dart_types.proofs.NamesFound.{has_none, has_some}
use Rattle.dart_types.proofs.types.NamedTypes.has_name.Goals as goal

pub returns-in-None : goal.returns-in-None
returns-in-None c = sym (has_none c.args.self.now c.args.name.now (sym c.in-None.ensures.found))

pub returns-in-Some : goal.returns-in-Some
returns-in-Some c = sym (has_some c.args.self.now c.args.name.now c.in-Some.field-0.now (sym c.in-Some.ensures.found))
