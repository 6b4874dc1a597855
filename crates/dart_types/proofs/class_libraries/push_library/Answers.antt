use Rattle.std.proofs.Common.{◌∷◌, [], ◌++◌, List, ap, ◌∙◌}
use Rattle.dart_types.specs.declared.entries.ClassEntry.{ClassEntry}
use Rattle.dart_types.proofs.class_libraries.push_library.Goals as goal

pub returns : goal.returns
returns c =
    (record { lib = c.args.lib; entries = c.push.new.self }, c.in_ok-push-2.ensures.items, c.requires.of_lib, c.in_ok-push.ensures.items ∙ ap (λ (es : List ClassEntry). es ++ c.args.entry ∷ []) c.new-entries.ensures.items)
