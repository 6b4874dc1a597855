use Rattle.std.proofs.Common.{◌≡◌, filter, take}
use Rattle.dart_types.specs.Kept.{forms_too_large}
use Rattle.dart_types.proofs.too_large.too_large_among.Given as goal

abbrev pub invariant-loop-class : goal.invariant-loop-class
invariant-loop-class l = l.told.items ≡ filter (forms_too_large l.rows.table) (take l.class-index l.classes)
