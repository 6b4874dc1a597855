use Rattle.std.proofs.Common.{◌≡◌, List, Some, None, nat_eq, true, sym, ◌∙◌, ap, subst}
use Rattle.std.specs.Prelude.{AllPairs, find}
use Rattle.std.specs.Option.{option_map}
use Rattle.dart_types.specs.Same.{same_var}
use Rattle.dart_types.specs.Tables.{bound_of}
use Rattle.dart_types.specs.FormedTable.{FormedTable}
use Rattle.dart_types.specs.Groups.{Rise}
use Rattle.dart_types.specs.WellFormed.{var_before}
use Rattle.dart_types.specs.declared.class_rows.VarRow.{VarRow}
use Rattle.dart_types.specs.declared.var_libraries.LibraryVars.{LibraryVars}
use Rattle.dart_types.proofs.Found.{no_var, vars_in_order_there, bound_in_library}
use Rattle.dart_types.proofs.rows.Rows.bound.Goals as goal

pub find_vars-requires : goal.find_vars-requires
find_vars-requires c = subst (λ (ls : List LibraryVars). Rise (λ (l : LibraryVars). l.lib.0) ls) (sym c.deref.ensures.value) c.self.invariant.vars_apart.rise

-- a type variable of a library that isn't there
pub returns-in-None : goal.returns-in-None
returns-in-None c =
    subst (λ (f : FormedTable). None ≡ bound_of f.table c.args.var) c.self.view_is
    (sym (no_var c.self.inside.classes.items c.self.inside.vars.items c.self.invariant c.self.inside.formed c.args.var
    (subst (λ (ls : List LibraryVars). None ≡ find (λ (l : LibraryVars). nat_eq l.lib.0 c.args.var.lib.0) ls) c.deref.ensures.value c.in-None.ensures)))

pub find_bound-requires : goal.find_bound-requires
find_bound-requires c =
    subst (λ (rs : List VarRow). AllPairs (λ (a b : VarRow). var_before a.var b.var ≡ true) rs) (sym c.deref-in-Some.ensures.value)
    (vars_in_order_there c.self.inside.classes.items c.self.inside.vars.items c.self.invariant c.self.inside.formed c.args.var c.in-Some.library.now
    (subst (λ (ls : List LibraryVars). Some c.in-Some.library.now ≡ find (λ (l : LibraryVars). nat_eq l.lib.0 c.args.var.lib.0) ls) c.deref.ensures.value c.in-Some.ensures))

-- a type variable of a library that is there
pub returns-in-Some : goal.returns-in-Some
returns-in-Some c =
    c.find_bound.ensures
    ∙ ap (λ (rs : List VarRow). option_map (λ (r : VarRow). r.bound) (find (λ (r : VarRow). same_var r.var c.args.var) rs)) c.deref-in-Some.ensures.value
    ∙ sym (bound_in_library c.self.inside.classes.items c.self.inside.vars.items c.self.invariant c.self.inside.formed c.args.var c.in-Some.library.now
    (subst (λ (ls : List LibraryVars). Some c.in-Some.library.now ≡ find (λ (l : LibraryVars). nat_eq l.lib.0 c.args.var.lib.0) ls) c.deref.ensures.value c.in-Some.ensures))
    ∙ ap (λ (f : FormedTable). bound_of f.table c.args.var) c.self.view_is
