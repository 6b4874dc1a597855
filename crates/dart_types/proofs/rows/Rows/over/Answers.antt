use Rattle.std.proofs.Common.{◌≡◌, List, ap, sym, ◌∙◌, subst}
use Rattle.dart_types.specs.Tables.{Table}
use Rattle.dart_types.specs.Entries.{table_of, AreAmong, AreBeside}
use Rattle.dart_types.specs.Joined.{joined}
use Rattle.dart_types.specs.Libraries.{table_in}
use Rattle.dart_types.specs.Others.{AreOthers}
use Rattle.dart_types.specs.Unions.{IsUnion}
use Rattle.dart_types.specs.declared.class_rows.ClassRow.{ClassRow}
use Rattle.dart_types.specs.declared.class_rows.VarRow.{VarRow}
use Rattle.dart_types.specs.declared.class_libraries.LibraryClasses.{LibraryClasses}
use Rattle.dart_types.specs.declared.var_libraries.LibraryVars.{LibraryVars}
use Rattle.dart_types.proofs.Extended.{entries_among, entries_in_order, libraries_others, libraries_table, extended_view}
use Rattle.dart_types.proofs.rows.Rows.over.Goals as goal

-- the entries have the own rows
pub fill_all-requires : goal.fill_all-requires
fill_all-requires c =
    let below = c.args.below.now.table in
    let entries = c.in_ok-entries.entries.items in
    let vars = c.args.vars.items in
    let own : Table = record { classes = c.args.classes.items; vars = vars } in
    let rows : table_of entries vars ≡ own = ap (λ (rs : List ClassRow). record { classes = rs; vars = vars }) c.in_ok-entries.ensures in
    subst (λ (vs : List VarRow). AreAmong below (table_of entries vs)) (sym c.deref.ensures.value)
    (entries_among below own c.args.below.now.formed c.requires entries vars rows)

pub classes_by_library-requires : goal.classes_by_library-requires
classes_by_library-requires c =
    let below = c.args.below.now.table in
    let entries = c.in_ok-entries.entries.items in
    let filled = c.fill_all.new.entries.items in
    let vars = c.args.vars.items in
    let own : Table = record { classes = c.args.classes.items; vars = vars } in
    let rows : table_of entries vars ≡ own = ap (λ (rs : List ClassRow). record { classes = rs; vars = vars }) c.in_ok-entries.ensures in
    let same : table_of filled vars ≡ table_of entries vars = subst (λ (vs : List VarRow). table_of filled vs ≡ table_of entries vs) c.deref.ensures.value c.in_ok-fill_all.ensures.rows in
    entries_in_order below own c.args.below.now.formed c.requires filled vars (same ∙ rows)

-- own libraries may be put among those below
pub with_libraries-requires : goal.with_libraries-requires
with_libraries-requires c =
    let below = c.args.below.now.table in
    let entries = c.in_ok-entries.entries.items in
    let filled = c.fill_all.new.entries.items in
    let vars = c.args.vars.items in
    let own : Table = record { classes = c.args.classes.items; vars = vars } in
    let rows : table_of entries vars ≡ own = ap (λ (rs : List ClassRow). record { classes = rs; vars = vars }) c.in_ok-entries.ensures in
    let same : table_of filled vars ≡ table_of entries vars = subst (λ (vs : List VarRow). table_of filled vs ≡ table_of entries vs) c.deref.ensures.value c.in_ok-fill_all.ensures.rows in
    let lists : AreBeside (joined below (table_of filled vars)) filled =
    subst (λ (t : Table). AreBeside (joined below t) filled) (sym same)
    (subst (λ (vs : List VarRow). AreBeside (joined below (table_of entries vs)) filled) c.deref.ensures.value c.in_ok-fill_all.ensures.ok) in
    subst (λ (bs : List LibraryClasses). AreOthers below bs c.deref-3.result.now) (sym c.deref-2.ensures.value)
    (subst (λ (xs : List LibraryVars). AreOthers below c.in_ok-own_classes.own_classes.items xs) (sym c.deref-3.ensures.value)
    (libraries_others below own c.args.below.now.formed c.requires filled vars (same ∙ rows) c.in_ok-own_classes.own_classes.items c.in_ok-own_vars.own_vars.items c.in_ok-own_classes.ensures.same c.in_ok-own_vars.ensures.same
    c.in_ok-own_classes.ensures.apart c.in_ok-own_vars.ensures.apart lists))

-- the rows below are a view of all
pub returns-clause-view : goal.returns-clause-view
returns-clause-view c =
    let below = c.args.below.now.table in
    let entries = c.in_ok-entries.entries.items in
    let filled = c.fill_all.new.entries.items in
    let vars = c.args.vars.items in
    let own : Table = record { classes = c.args.classes.items; vars = vars } in
    let rows : table_of entries vars ≡ own = ap (λ (rs : List ClassRow). record { classes = rs; vars = vars }) c.in_ok-entries.ensures in
    let same : table_of filled vars ≡ table_of entries vars = subst (λ (vs : List VarRow). table_of filled vs ≡ table_of entries vs) c.deref.ensures.value c.in_ok-fill_all.ensures.rows in
    let table = libraries_table below own c.args.below.now.formed c.requires filled vars (same ∙ rows) c.in_ok-own_classes.own_classes.items c.in_ok-own_vars.own_vars.items c.in_ok-own_classes.ensures.same c.in_ok-own_vars.ensures.same in
    extended_view below own c.in_ok-rows.rows.table c.requires
    (subst (λ (t : Table). IsUnion below t c.in_ok-rows.rows.table) table
    (subst (λ (bs : List LibraryClasses). IsUnion below (table_in bs c.in_ok-own_vars.own_vars.items) c.in_ok-rows.rows.table) c.deref-2.ensures.value
    (subst (λ (xs : List LibraryVars). IsUnion below (table_in c.deref-2.result.now xs) c.in_ok-rows.rows.table) c.deref-3.ensures.value c.in_ok-rows.ensures)))
