use Rattle.std.proofs.Common.{◌∙◌}
use Rattle.built_forms.proofs.Alone.{all_by_length}
use Rattle.built_forms.proofs.core_imports.no_combinators.Goals as goal

pub returns : goal.returns
returns c = c.is_empty.ensures ∙ all_by_length c.args.combinators.now
