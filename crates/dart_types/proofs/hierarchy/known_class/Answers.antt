use Rattle.std.proofs.Common.{◌≡◌, ◌<◌, List, Some, sym, subst, true}
use Rattle.std.proofs.lemmas.List.Elements.{All-contains}
use Rattle.dart_types.specs.Same.{same_class}
use Rattle.dart_types.specs.Tables.{class_of}
use Rattle.dart_types.specs.Entries.{table_of, among}
use Rattle.dart_types.specs.Superinterfaces.{AreSuperinterfaces}
use Rattle.dart_types.specs.declared.ids.ClassId.{ClassId}
use Rattle.dart_types.specs.declared.class_rows.ClassRow.{ClassRow}
use Rattle.dart_types.specs.declared.entries.ClassEntry.{ClassEntry}
use Rattle.dart_types.specs.declared.superinterfaces.Superinterface.{Superinterface}
use Rattle.dart_types.specs.WellFormed.{class_before}
use Rattle.dart_types.proofs.EntryLemmas.{AllPairs-map}
use Rattle.dart_types.proofs.Formed.{found_in}
use Rattle.dart_types.proofs.Filled.{row_of, Contains-map}
use Rattle.dart_types.proofs.Giving.{row_of_none}
use Rattle.dart_types.proofs.Joined.{own_found, below_wider, neither_found}
use Rattle.dart_types.proofs.SameIds.{equal_from_same_class}
use Rattle.dart_types.proofs.Wider.{list_wider}
use Rattle.dart_types.proofs.hierarchy.known_class.Goals as goal

-- the entries stand in the order of the rows
pub find_entry-requires : goal.find_entry-requires
find_entry-requires c =
    AllPairs-map row_of (λ (a b : ClassRow). class_before a.id b.id ≡ true) c.args.entries.now c.requires.among.in_order

-- an own class
pub returns-in-Some : goal.returns-in-Some
returns-in-Some c =
    let below = c.args.below.now.table in
    let own = table_of c.args.entries.now c.args._vars.now in
    let table = among below c.args.entries.now c.args._vars.now in
    let entry = c.in-Some.entry.now in
    let there = found_in (λ (e : ClassEntry). same_class e.row.id c.args.class) c.args.entries.now entry (sym c.in-Some.ensures) in
    let is = equal_from_same_class entry.row.id c.args.class there.1 in (
      subst (λ (d : ClassId). class_of table d ≡ Some entry.row) is (own_found below own c.requires.among.formed entry.row (Contains-map row_of c.args.entries.now entry there.0)),
      λ lt.
          subst (λ (l : List Superinterface). AreSuperinterfaces table c.args.class l) (sym c.deref.ensures.value)
          (subst (λ (d : ClassId). AreSuperinterfaces table d entry.superinterfaces.items) is
          (All-contains (λ (e : ClassEntry). e.row.depth < c.args._depth → AreSuperinterfaces table e.row.id e.superinterfaces.items) c.args.entries.now entry c.requires.known there.0 lt)),
    )

-- a class below
pub returns-in-Some-class : goal.returns-in-Some-class
returns-in-Some-class c =
    let below = c.args.below.now.table in
    let own = table_of c.args.entries.now c.args._vars.now in
    let table = among below c.args.entries.now c.args._vars.now in
    let wider = below_wider below own c.requires.among.formed in
    let row = c.in-Some-class.row.now in
    (wider.classes c.args.class row (sym c.in-Some-class.ensures), λ lt. list_wider below table wider c.args.below.now.formed c.args.class row c.superinterfaces.result.now (sym c.in-Some-class.ensures) c.superinterfaces.ensures)

-- a class without a row
pub returns-in-None : goal.returns-in-None
returns-in-None c =
    neither_found c.args.below.now.table (table_of c.args.entries.now c.args._vars.now) c.requires.among.formed c.args.class
    (row_of_none c.args.entries.now c.args._vars.now c.args.class c.in_default.ensures) (sym c.in-None.ensures)
