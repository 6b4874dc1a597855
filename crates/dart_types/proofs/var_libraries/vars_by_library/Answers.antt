use Rattle.std.proofs.Common.{◌≡◌, ◌++◌, ◌∷◌, List, rules, true, sym, ap, ◌∙◌}
use Rattle.dart_types.specs.Libraries.{vars_in}
use Rattle.dart_types.specs.WellFormed.{var_before}
use Rattle.dart_types.specs.declared.class_rows.VarRow.{VarRow}
use Rattle.dart_types.specs.declared.var_libraries.LibraryVars.{LibraryVars}
use Rattle.dart_types.proofs.Groups.{appends_next}
use Rattle.dart_types.proofs.var_libraries.vars_by_library.Goals as goal

pub loop-row-preserved : goal.loop-row-preserved
loop-row-preserved c =
    let libraries = c.loop-row.libraries.items in
    let rest = c.next.new.self.rest.items in
    let turn : c.loop-row.row-iterator.rest.items ≡ c.in-Some.row ∷ rest = search rules in
    appends_next (λ (l : LibraryVars). l.lib.0) (λ (l : LibraryVars). l.rows.items) (λ (e : VarRow). e.var.lib.0) (λ (a b : VarRow). var_before a.var b.var ≡ true)
    c.args.rows.items rest libraries c.push_var.new.libraries.items c.in-Some.row
    (ap (λ (es : List VarRow). vars_in libraries ++ es) (sym turn) ∙ c.loop-row.invariant.0) c.requires c.loop-row.invariant.1 c.in_ok-push_var.ensures
