use Rattle.std.proofs.Common.{◌∙◌, ap}
use Rattle.dart_types.specs.Ty.{Ty}
use Rattle.dart_types.specs.Sizes.{size_of, held}
use Rattle.dart_types.specs.Normal.{normal}
use Rattle.dart_types.proofs.Replacing.{replaced_nothing}
use Rattle.dart_types.proofs.TooLarge.{held_over}
use Rattle.dart_types.proofs.too_large.is_itself_too_large.Goals as goal

pub returns : goal.returns
returns c =
    held_over (size_of (normal c.args.v.now)) c.nodes_with.result (c.nodes_with.ensures ∙ ap (λ (t : Ty). held (size_of t)) (replaced_nothing c.args.v.now))
