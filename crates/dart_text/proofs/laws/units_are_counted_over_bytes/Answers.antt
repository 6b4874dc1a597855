use Rattle.std.proofs.Common.{IsUtf8, subst}
use Rattle.dart_text.proofs.UnitLemmas.{units_counted}
use Rattle.dart_text.proofs.laws.units_are_counted_over_bytes.Goals as goal

pub returns : goal.returns
returns c = units_counted c.args.text.now (subst IsUtf8 c.as_str-text.ensures.same c.as_str-text.utf8)
