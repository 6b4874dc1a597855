use Rattle.std.proofs.Common.{◌≡◌, List, Some, None, nat_eq, sym, subst}
use Rattle.std.specs.Prelude.{find}
use Rattle.dart_types.specs.FormedTable.{FormedTable}
use Rattle.dart_types.specs.Groups.{Rise}
use Rattle.dart_types.specs.Unions.{HasVarOf}
use Rattle.dart_types.specs.declared.var_libraries.LibraryVars.{LibraryVars}
use Rattle.dart_types.proofs.Found.{has_vars, has_no_vars}
use Rattle.dart_types.proofs.Steps.{yes, no}
use Rattle.dart_types.proofs.rows.Rows.has_vars_of.Goals as goal

pub find_vars-requires : goal.find_vars-requires
find_vars-requires c = subst (λ (ls : List LibraryVars). Rise (λ (l : LibraryVars). l.lib.0) ls) (sym c.deref.ensures.value) c.self.invariant.vars_apart.rise

pub returns-in-None : goal.returns-in-None
returns-in-None c =
    no (subst (λ (f : FormedTable). HasVarOf f.table c.args.lib → ⊥) c.self.view_is
    (has_no_vars c.self.inside.classes.items c.self.inside.vars.items c.self.invariant c.self.inside.formed c.args.lib
    (subst (λ (ls : List LibraryVars). None ≡ find (λ (l : LibraryVars). nat_eq l.lib.0 c.args.lib.0) ls) c.deref.ensures.value c.in-None.ensures)))

pub returns-in-Some : goal.returns-in-Some
returns-in-Some c =
    yes (subst (λ (f : FormedTable). HasVarOf f.table c.args.lib) c.self.view_is
    (has_vars c.self.inside.classes.items c.self.inside.vars.items c.self.invariant c.self.inside.formed c.args.lib c.in-Some.field-0.now
    (subst (λ (ls : List LibraryVars). Some c.in-Some.field-0.now ≡ find (λ (l : LibraryVars). nat_eq l.lib.0 c.args.lib.0) ls) c.deref.ensures.value c.in-Some.ensures)))
