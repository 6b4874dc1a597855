use Rattle.std.proofs.Common.{◌≡◌, take, length}
use Rattle.std.specs.List.{list_any}
use Rattle.namespaces.specs.declared.elements.Exported.{Exported}
use Rattle.namespaces.specs.Ambiguities.{clashes_with}
use Rattle.namespaces.specs.BroughtNames.{clashes}
use Rattle.namespaces.proofs.Clashing.{Told}
use Rattle.namespaces.proofs.ambiguities.ambiguous_exports.Given as goal

-- the exports so far are told of, and what they bring is known
abbrev pub invariant-loop-edge : goal.invariant-loop-edge
invariant-loop-edge l = record {
  size : length l.told.items ≡ l.edge-index;
  each : Told l.libraries l.all l.library l.told.items;
  tells : (p : Exported) → clashes l.before.names p ≡ list_any (clashes_with l.libraries l.all l.library p) (take l.edge-index l.library.exports);
}
