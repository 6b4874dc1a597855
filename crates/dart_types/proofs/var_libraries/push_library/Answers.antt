use Rattle.std.proofs.Common.{◌∷◌, [], ◌++◌, List, ap, ◌∙◌}
use Rattle.dart_types.specs.declared.class_rows.VarRow.{VarRow}
use Rattle.dart_types.proofs.var_libraries.push_library.Goals as goal

pub returns : goal.returns
returns c =
    (record { lib = c.args.lib; rows = c.push.new.self }, c.in_ok-push-2.ensures.items, c.requires.of_lib, c.in_ok-push.ensures.items ∙ ap (λ (es : List VarRow). es ++ c.args.row ∷ []) c.new-rows.ensures.items)
