use Rattle.std.proofs.Common.{◌≡◌, ◌+◌, ◌≤◌, length, drop}
use Rattle.std.specs.List.{filter}
use Rattle.built_forms.specs.Units.{is_main}
use Rattle.built_forms.proofs.units.has_one_main.Given as goal

abbrev pub invariant-loop-word : goal.invariant-loop-word
invariant-loop-word l = record {
  counted : l.count + length (filter (is_main l.words) (drop l.word-index l.declared)) ≡ length (filter (is_main l.words) l.declared);
  small : l.count ≤ l.word-index;
}
