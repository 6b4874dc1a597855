use Rattle.std.proofs.Common.{◌≡◌, List, ap, sym, ◌∙◌, subst}
use Rattle.dart_types.specs.Libraries.{table_in, AreKept}
use Rattle.dart_types.specs.declared.class_libraries.LibraryClasses.{LibraryClasses}
use Rattle.dart_types.specs.declared.var_libraries.LibraryVars.{LibraryVars}
use Rattle.dart_types.proofs.Filled.{same_formed}
use Rattle.dart_types.proofs.rows.Rows.copy.Goals as goal

-- the copies are the same libraries
pub invariant_of-result-2 : goal.invariant_of-result-2
invariant_of-result-2 c =
    subst (λ (ls : List LibraryClasses). AreKept ls c.in_ok-vars.vars.items) (sym (c.in_ok-classes.ensures ∙ c.deref.ensures.value))
    (subst (λ (vs : List LibraryVars). AreKept c.self.inside.classes.items vs) (sym (c.in_ok-vars.ensures ∙ c.deref-2.ensures.value)) c.self.invariant)

pub returns : goal.returns
returns c =
    let table : table_in c.in_ok-classes.classes.items c.in_ok-vars.vars.items ≡ table_in c.self.inside.classes.items c.self.inside.vars.items =
    ap (λ (ls : List LibraryClasses). table_in ls c.in_ok-vars.vars.items) (c.in_ok-classes.ensures ∙ c.deref.ensures.value)
    ∙ ap (λ (vs : List LibraryVars). table_in c.self.inside.classes.items vs) (c.in_ok-vars.ensures ∙ c.deref-2.ensures.value) in
    same_formed _ _ _ c.self.inside.formed table ∙ c.self.view_is
