use Rattle.std.proofs.Common.{◌≡◌, ℕ, get_or, sym, ap, ◌∙◌, arith, Some, subst, true}
use Rattle.std.specs.Option.{option_map}
use Rattle.dart_types.specs.declared.class_rows.VarRow.{VarRow}
use Rattle.dart_types.specs.Same.{same_var}
use Rattle.dart_types.proofs.Searches.{found_anywhere}
use Rattle.dart_types.proofs.entries.find_bound.Goals as goal

abbrev lib : VarRow → ℕ
lib row = row.var.lib.0

abbrev index : VarRow → ℕ
index row = row.var.index

pub returns-then-eq : goal.returns-then-eq
returns-then-eq c =
    let here : same_var (get_or c.args.rows.now c.args.var.index c.index-rows-place.result).var c.args.var ≡ true = subst (λ (r : VarRow). same_var r.var c.args.var ≡ true) c.index-rows-place.is (sym c.eq.ensures ∙ c.if-eq.true) in
    ap (λ (r : VarRow). Some r.bound) c.index-rows-place.is
    ∙ sym (ap (option_map (λ (row : VarRow). row.bound)) (found_anywhere lib index c.args.rows.now c.requires c.args.var.lib.0 c.args.var.index c.args.var.index c.index-rows-place.result (omega arith) here))
