use Rattle.std.proofs.Common.{sym, ap, ◌∙◌}
use Rattle.dart_types.specs.Ty.{Ty}
use Rattle.dart_types.specs.Sizes.{size_of, held}
use Rattle.dart_types.proofs.Replacing.{replaced_none, replaced_found}
use Rattle.dart_types.proofs.normal_sizes.nodes_of_var.Goals as goal

pub returns-in-None : goal.returns-in-None
returns-in-None c = ap (λ (t : Ty). held (size_of t)) (sym (replaced_none c.args.replacements.now c.args.var c.in-None.ensures))

pub returns-in-Some : goal.returns-in-Some
returns-in-Some c =
    c.in-Some.found.now.counted ∙ ap (λ (t : Ty). held (size_of t)) (sym (replaced_found c.args.replacements.now c.args.var c.in-Some.found.now c.in-Some.ensures))
