use Rattle.std.proofs.Common.{◌≡◌, sym, ap, ◌∙◌, arith}
use Rattle.dart_scan.proofs.UnitLemmas.{ascii_units}
use Rattle.dart_scan.proofs.units.units_in.Goals as goal

pub returns-then-is_ascii-clause-count : goal.returns-then-is_ascii-clause-count
returns-then-is_ascii-clause-count c = omega (arith, ascii_units c.args.part.now (c.requires c.if-is_ascii.true))
