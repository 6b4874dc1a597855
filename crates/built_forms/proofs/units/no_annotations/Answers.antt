use Rattle.std.proofs.Common.{◌∙◌}
use Rattle.built_forms.proofs.Alone.{none_by_length}
use Rattle.built_forms.proofs.units.no_annotations.Goals as goal

pub returns : goal.returns
returns c = c.is_empty.ensures ∙ none_by_length c.args.annotations.now
