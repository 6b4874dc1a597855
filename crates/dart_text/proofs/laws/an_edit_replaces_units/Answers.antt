use Rattle.std.proofs.Common.{IsUtf8, subst}
use Rattle.dart_text.proofs.LawLemmas.{units_of-edited}
use Rattle.dart_text.proofs.laws.an_edit_replaces_units.Goals as goal

pub returns : goal.returns
returns c =
    λ new.
    units_of-edited c.args.text.now c.args.with.now new c.args.offset c.args.length (subst IsUtf8 c.as_str-text.ensures.same c.as_str-text.utf8) c.utf8.with
