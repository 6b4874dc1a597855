use Rattle.std.proofs.Common.{List, sym, subst}
use Rattle.dart_types.specs.FormedTable.{FormedTable}
use Rattle.dart_types.specs.Others.{AreOthers}
use Rattle.dart_types.specs.Unions.{AreViewsOfOne}
use Rattle.dart_types.specs.declared.class_libraries.LibraryClasses.{LibraryClasses}
use Rattle.dart_types.specs.declared.var_libraries.LibraryVars.{LibraryVars}
use Rattle.dart_types.proofs.Extended.{view_others}
use Rattle.dart_types.proofs.rows.Rows.union.Goals as goal

-- a view of the same table has its libraries alike
pub with_libraries-requires : goal.with_libraries-requires
with_libraries-requires c =
    let table = c.args.self.now.table in
    let bs = c.other.inside.classes.items in
    let xs = c.other.inside.vars.items in
    let views = subst (λ (f : FormedTable). AreViewsOfOne table f.table) (sym c.other.view_is) c.requires in
    subst (λ (ls : List LibraryClasses). AreOthers table ls c.deref-2.result.now) (sym c.deref.ensures.value)
    (subst (λ (vs : List LibraryVars). AreOthers table bs vs) (sym c.deref-2.ensures.value)
    (view_others table bs xs c.other.invariant c.other.inside.formed views))
