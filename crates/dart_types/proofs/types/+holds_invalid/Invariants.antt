use Rattle.std.proofs.Common.{◌≡◌, drop}
use Rattle.dart_types.specs.Ty.{types_of}
use Rattle.dart_types.specs.Named.{named_of}
use Rattle.dart_types.specs.Invalid.{hold_invalid, hold_invalid_named}
use Rattle.dart_types.proofs.types.+holds_invalid.Given as goal

-- what is left decides
abbrev pub invariant-TypeList::hold_invalid-loop-item : goal.invariant-TypeList::hold_invalid-loop-item
invariant-TypeList::hold_invalid-loop-item l = hold_invalid (types_of (drop l.item-index l.item-items)) ≡ hold_invalid (types_of l.item-items)

abbrev pub invariant-NamedTypes::hold_invalid-loop-item : goal.invariant-NamedTypes::hold_invalid-loop-item
invariant-NamedTypes::hold_invalid-loop-item l = hold_invalid_named (named_of (drop l.item-index l.item-items)) ≡ hold_invalid_named (named_of l.item-items)
