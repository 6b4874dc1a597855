use Rattle.std.proofs.Common.{IsUtf8, subst}
use Rattle.dart_text.proofs.UnitLemmas.{text_of-units_of}
use Rattle.dart_text.proofs.laws.units_spell_their_text.Goals as goal

pub returns : goal.returns
returns c = text_of-units_of c.args.text.now (subst IsUtf8 c.as_str-text.ensures.same c.as_str-text.utf8)
