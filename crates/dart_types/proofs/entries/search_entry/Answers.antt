use Rattle.std.proofs.Common.{◌≡◌, ℕ, get_or, sym, ap, ◌∙◌, arith, Some, subst, true, false}
use Rattle.dart_types.specs.declared.entries.ClassEntry.{ClassEntry}
use Rattle.dart_types.specs.Same.{same_class}
use Rattle.dart_types.proofs.Searches.{found, none_at_end, none_there}
use Rattle.dart_types.proofs.entries.search_entry.Goals as goal

abbrev lib : ClassEntry → ℕ
lib entry = entry.row.id.lib.0

abbrev index : ClassEntry → ℕ
index entry = entry.row.id.index

pub returns-then-at-entries : goal.returns-then-at-entries
returns-then-at-entries c =
    sym (none_at_end lib index c.args.entries.now c.requires c.args.class.lib.0 c.args.class.index c.place_of_class-at.result c.place_of_class-at.ensures.parts (omega arith))

pub returns-then-eq : goal.returns-then-eq
returns-then-eq c =
    let here : same_class (get_or c.args.entries.now c.place_of_class-at.result c.index-entries-at.result).row.id c.args.class ≡ true = subst (λ (e : ClassEntry). same_class e.row.id c.args.class ≡ true) c.index-entries-at.is (sym c.eq.ensures ∙ c.if-eq.true) in
    ap (λ (e : ClassEntry). Some e) c.index-entries-at.is
    ∙ sym (found lib index c.args.entries.now c.requires c.args.class.lib.0 c.args.class.index c.place_of_class-at.result c.place_of_class-at.ensures.parts c.index-entries-at.result (omega arith) here)

pub returns-else-eq : goal.returns-else-eq
returns-else-eq c =
    let other : same_class (get_or c.args.entries.now c.place_of_class-at.result c.index-entries-at.result).row.id c.args.class ≡ false = subst (λ (e : ClassEntry). same_class e.row.id c.args.class ≡ false) c.index-entries-at.is (sym c.eq.ensures ∙ c.if-eq.false) in
    sym (none_there lib index c.args.entries.now c.requires c.args.class.lib.0 c.args.class.index c.place_of_class-at.result c.place_of_class-at.ensures.parts c.index-entries-at.result (omega arith) other)
