use Rattle.std.proofs.Common.{ap, arith, ◌∙◌}
use Rattle.std.proofs.lemmas.List.{get_or_default}
use Rattle.class_depths.specs.Marked.{no_class}
use Rattle.class_depths.specs.declared.classes.DeclaredClass.{DeclaredClass}
use Rattle.class_depths.proofs.climbing.supers_at.Goals as goal

pub returns : goal.returns
returns c =
    c.as_slice.ensures ∙ ap (λ (d : DeclaredClass). d.supers) (get_or_default c.args.declared.now c.args.place c.index-declared-place.result no_class (omega arith))
