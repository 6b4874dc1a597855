use Rattle.std.proofs.Common.{◌≡◌, take, map}
use Rattle.dart_types.specs.Replacements.{replaced}
use Rattle.dart_types.proofs.Replacing.{replaced_param}
use Rattle.dart_types.proofs.types.+normal_form.Given as goal

-- the normal forms of the types so far
abbrev pub invariant-TypeList::form_with-loop-item : goal.invariant-TypeList::form_with-loop-item
invariant-TypeList::form_with-loop-item l = l.formed ≡ map (λ t. replaced l.replacements t) (take l.item-index l.item-items)

abbrev pub invariant-NamedTypes::form_with-loop-item : goal.invariant-NamedTypes::form_with-loop-item
invariant-NamedTypes::form_with-loop-item l = l.formed.items ≡ map (λ n. replaced_param l.replacements n) (take l.item-index l.item-items)
