use Rattle.std.proofs.Common.{◌≡◌, List, Some, ap, sym, ◌∙◌, subst, arith}
use Rattle.std.proofs.lemmas.List.{get_or_default}
use Rattle.dart_types.specs.Tables.{class_of}
use Rattle.dart_types.specs.Entries.{table_of, among}
use Rattle.dart_types.specs.Gathering.{AreKnownBelow}
use Rattle.dart_types.specs.Superinterfaces.{AreSuperinterfaces}
use Rattle.dart_types.specs.declared.entries.ClassEntry.{ClassEntry}
use Rattle.dart_types.proofs.Filled.{entry_row, less_known, same_table, passed_by, put_in}
use Rattle.dart_types.proofs.filling.fill_at.Goals as goal

pub returns-then-index-depth-clause-ok : goal.returns-then-index-depth-clause-ok
returns-then-index-depth-clause-ok c =
    let entries = c.args.entries.now.items in
    let vars = c.args.vars.now in
    let below = c.args.below.now.table in
    passed_by below entries vars (among below entries vars) c.args.depth c.args.i c.index.result.now c.requires.place (λ e. c.if-index-depth.true (ap (λ (x : ClassEntry). x.row.depth) c.index.ensures ∙ e)) c.requires.known

-- the row at the place is found by its id
pub superinterfaces_of-requires-clause-of_class : goal.superinterfaces_of-requires-clause-of_class
superinterfaces_of-requires-clause-of_class c =
    let entries = c.args.entries.now.items in
    let vars = c.args.vars.now in
    let entry = c.index-2.result.now in
    subst (λ (es : List ClassEntry). class_of (table_of es vars) entry.row.id ≡ Some entry.row) (sym c.deref.ensures.value)
    (subst (λ (e : ClassEntry). class_of (table_of entries vars) e.row.id ≡ Some e.row) (sym c.index-2.ensures)
    (entry_row c.args.below.now.table entries vars c.requires.among c.args.i entry c.requires.place))

-- what is less far from Object than this class is known
pub superinterfaces_of-requires-clause-known : goal.superinterfaces_of-requires-clause-known
superinterfaces_of-requires-clause-known c =
    let entries = c.args.entries.now.items in
    let vars = c.args.vars.now in
    let below = c.args.below.now.table in
    let same : c.index-2.result.now ≡ c.index.result.now =
    c.index-2.ensures ∙ get_or_default entries c.args.i c.index-2.result.now c.index.result.now c.requires.place ∙ sym c.index.ensures in
    let deep = ap (λ (e : ClassEntry). e.row.depth) same in
    subst (λ (es : List ClassEntry). AreKnownBelow c.index-2.result.now.row.depth (among below es vars) es) (sym c.deref.ensures.value)
    (less_known (among below entries vars) entries c.args.depth c.index-2.result.now.row.depth (omega (arith, deep, c.if-index-depth.false)) c.requires.known.below)

pub returns-clause-rows : goal.returns-clause-rows
returns-clause-rows c =
    let entry = c.index_mut.result.now in
    same_table c.args.below.now.table c.args.entries.now.items c.args.vars.now c.args.i entry (record { row = entry.row; superinterfaces = c.in_ok-list.list }) (ap (λ (x : ClassEntry). x.row) c.index_mut.ensures.value)

-- they are put beside the class at the place
pub returns-clause-ok : goal.returns-clause-ok
returns-clause-ok c =
    let entries = c.args.entries.now.items in
    let vars = c.args.vars.now in
    let below = c.args.below.now.table in
    let table = among below entries vars in
    let entry = c.index_mut.result.now in
    let list = c.in_ok-list.list in
    let same : c.index-2.result.now ≡ entry =
    c.index-2.ensures ∙ get_or_default entries c.args.i c.index-2.result.now entry c.requires.place ∙ sym c.index_mut.ensures.value in
    let beside : AreSuperinterfaces table entry.row.id list.items =
    subst (λ (es : List ClassEntry). AreSuperinterfaces (among below es vars) entry.row.id list.items) c.deref.ensures.value
    (subst (λ (e : ClassEntry). AreSuperinterfaces (among below c.deref.result.now vars) e.row.id list.items) same c.in_ok-list.ensures) in
    put_in below entries vars table c.args.depth c.args.i entry (record { row = entry.row; superinterfaces = list }) c.requires.place (ap (λ (x : ClassEntry). x.row) c.index_mut.ensures.value) beside c.requires.known
