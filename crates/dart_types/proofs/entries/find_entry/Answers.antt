use Rattle.std.proofs.Common.{◌≡◌, ℕ, get_or, sym, ap, ◌∙◌, arith, Some, subst, true}
use Rattle.dart_types.specs.declared.entries.ClassEntry.{ClassEntry}
use Rattle.dart_types.specs.Same.{same_class}
use Rattle.dart_types.proofs.Searches.{found_anywhere}
use Rattle.dart_types.proofs.entries.find_entry.Goals as goal

abbrev lib : ClassEntry → ℕ
lib entry = entry.row.id.lib.0

abbrev index : ClassEntry → ℕ
index entry = entry.row.id.index

pub returns-then-eq : goal.returns-then-eq
returns-then-eq c =
    let here : same_class (get_or c.args.entries.now c.args.class.index c.index-entries-place.result).row.id c.args.class ≡ true = subst (λ (e : ClassEntry). same_class e.row.id c.args.class ≡ true) c.index-entries-place.is (sym c.eq.ensures ∙ c.if-eq.true) in
    ap (λ (e : ClassEntry). Some e) c.index-entries-place.is
    ∙ sym (found_anywhere lib index c.args.entries.now c.requires c.args.class.lib.0 c.args.class.index c.args.class.index c.index-entries-place.result (omega arith) here)
