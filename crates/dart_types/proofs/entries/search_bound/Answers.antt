use Rattle.std.proofs.Common.{◌≡◌, ℕ, get_or, sym, ap, ◌∙◌, arith, Some, subst, true, false}
use Rattle.std.specs.Option.{option_map}
use Rattle.dart_types.specs.declared.class_rows.VarRow.{VarRow}
use Rattle.dart_types.specs.Same.{same_var}
use Rattle.dart_types.proofs.Searches.{found, none_at_end, none_there}
use Rattle.dart_types.proofs.entries.search_bound.Goals as goal

abbrev lib : VarRow → ℕ
lib row = row.var.lib.0

abbrev index : VarRow → ℕ
index row = row.var.index

pub returns-then-at-rows : goal.returns-then-at-rows
returns-then-at-rows c =
    sym (ap (option_map (λ (row : VarRow). row.bound)) (none_at_end lib index c.args.rows.now c.requires c.args.var.lib.0 c.args.var.index c.place_of_var-at.result c.place_of_var-at.ensures.parts (omega arith)))

pub returns-then-eq : goal.returns-then-eq
returns-then-eq c =
    let here : same_var (get_or c.args.rows.now c.place_of_var-at.result c.index-rows-at.result).var c.args.var ≡ true = subst (λ (r : VarRow). same_var r.var c.args.var ≡ true) c.index-rows-at.is (sym c.eq.ensures ∙ c.if-eq.true) in
    ap (λ (r : VarRow). Some r.bound) c.index-rows-at.is
    ∙ sym (ap (option_map (λ (row : VarRow). row.bound)) (found lib index c.args.rows.now c.requires c.args.var.lib.0 c.args.var.index c.place_of_var-at.result c.place_of_var-at.ensures.parts c.index-rows-at.result (omega arith) here))

pub returns-else-eq : goal.returns-else-eq
returns-else-eq c =
    let other : same_var (get_or c.args.rows.now c.place_of_var-at.result c.index-rows-at.result).var c.args.var ≡ false = subst (λ (r : VarRow). same_var r.var c.args.var ≡ false) c.index-rows-at.is (sym c.eq.ensures ∙ c.if-eq.false) in
    sym (ap (option_map (λ (row : VarRow). row.bound)) (none_there lib index c.args.rows.now c.requires c.args.var.lib.0 c.args.var.index c.place_of_var-at.result c.place_of_var-at.ensures.parts c.index-rows-at.result (omega arith) other))
