use Rattle.std.proofs.Common.{sym, ap, ◌∙◌}
use Rattle.dart_types.specs.Marks.{takes_mark}
use Rattle.dart_types.proofs.Replacing.{replaced_none, replaced_found}
use Rattle.dart_types.proofs.normal_sizes.var_takes_mark.Goals as goal

pub returns-in-None : goal.returns-in-None
returns-in-None c = ap takes_mark (sym (replaced_none c.args.replacements.now c.args.var c.in-None.ensures))

pub returns-in-Some : goal.returns-in-Some
returns-in-Some c =
    c.takes_mark.ensures ∙ ap takes_mark (sym (replaced_found c.args.replacements.now c.args.var c.in-Some.found.now c.in-Some.ensures))
