use Rattle.std.proofs.Common.{List, sym, ◌∙◌, subst}
use Rattle.dart_types.specs.FormedTable.{FormedTable}
use Rattle.dart_types.specs.Groups.{PutsAll}
use Rattle.dart_types.specs.Libraries.{table_in}
use Rattle.dart_types.specs.Others.{AreOthers}
use Rattle.dart_types.specs.Unions.{IsUnion}
use Rattle.dart_types.specs.declared.class_libraries.LibraryClasses.{LibraryClasses}
use Rattle.dart_types.specs.declared.var_libraries.LibraryVars.{LibraryVars}
use Rattle.dart_types.proofs.Merged.{merged_formed, merged_kept, merged_union}
use Rattle.dart_types.proofs.rows.Rows.with_libraries.Goals as goal

-- the rows are well formed
pub invariant_of-result : goal.invariant_of-result
invariant_of-result c =
    let ks = c.self.inside.classes.items in
    let ws = c.self.inside.vars.items in
    let bs = c.args.classes.now in
    let xs = c.args.vars.now in
    let us = c.put_all_classes.new.libraries.items in
    let vs = c.put_all_vars.new.libraries.items in
    let others = subst (λ (f : FormedTable). AreOthers f.table bs xs) (sym c.self.view_is) c.requires in
    let cs = subst (λ (ls : List LibraryClasses). PutsAll (λ (l : LibraryClasses). l.lib.0) ls bs us) (c.in_ok-all_classes.ensures ∙ c.deref.ensures.value) c.in_ok-put_all_classes.ensures in
    let ds = subst (λ (ls : List LibraryVars). PutsAll (λ (l : LibraryVars). l.lib.0) ls xs vs) (c.in_ok-all_vars.ensures ∙ c.deref-2.ensures.value) c.in_ok-put_all_vars.ensures in
    (merged_formed ks ws c.self.invariant c.self.inside.formed bs xs others us vs cs ds, tt)

-- and beside each class stand its superinterfaces
pub invariant_of-result-2 : goal.invariant_of-result-2
invariant_of-result-2 c =
    let ks = c.self.inside.classes.items in
    let ws = c.self.inside.vars.items in
    let bs = c.args.classes.now in
    let xs = c.args.vars.now in
    let us = c.put_all_classes.new.libraries.items in
    let vs = c.put_all_vars.new.libraries.items in
    let others = subst (λ (f : FormedTable). AreOthers f.table bs xs) (sym c.self.view_is) c.requires in
    let cs = subst (λ (ls : List LibraryClasses). PutsAll (λ (l : LibraryClasses). l.lib.0) ls bs us) (c.in_ok-all_classes.ensures ∙ c.deref.ensures.value) c.in_ok-put_all_classes.ensures in
    let ds = subst (λ (ls : List LibraryVars). PutsAll (λ (l : LibraryVars). l.lib.0) ls xs vs) (c.in_ok-all_vars.ensures ∙ c.deref-2.ensures.value) c.in_ok-put_all_vars.ensures in
    merged_kept ks ws c.self.invariant c.self.inside.formed bs xs others us vs cs ds

-- they are those of both
pub returns : goal.returns
returns c =
    let ks = c.self.inside.classes.items in
    let ws = c.self.inside.vars.items in
    let bs = c.args.classes.now in
    let xs = c.args.vars.now in
    let us = c.put_all_classes.new.libraries.items in
    let vs = c.put_all_vars.new.libraries.items in
    let others = subst (λ (f : FormedTable). AreOthers f.table bs xs) (sym c.self.view_is) c.requires in
    let cs = subst (λ (ls : List LibraryClasses). PutsAll (λ (l : LibraryClasses). l.lib.0) ls bs us) (c.in_ok-all_classes.ensures ∙ c.deref.ensures.value) c.in_ok-put_all_classes.ensures in
    let ds = subst (λ (ls : List LibraryVars). PutsAll (λ (l : LibraryVars). l.lib.0) ls xs vs) (c.in_ok-all_vars.ensures ∙ c.deref-2.ensures.value) c.in_ok-put_all_vars.ensures in
    subst (λ (f : FormedTable). IsUnion f.table (table_in bs xs) (table_in us vs)) c.self.view_is
    (merged_union ks ws c.self.invariant c.self.inside.formed bs xs others us vs cs ds)
