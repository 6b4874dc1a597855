use Rattle.std.proofs.Common.{List, subst}
use Rattle.dart_types.specs.Entries.{table_of, among}
use Rattle.dart_types.specs.Gathering.{Adds, IsGiven}
use Rattle.dart_types.specs.declared.superinterfaces.Superinterface.{Superinterface}
use Rattle.dart_types.proofs.Giving.{all_given}
use Rattle.dart_types.proofs.Joined.{class_there, own_found}
use Rattle.dart_types.proofs.hierarchy.superinterfaces_of.Goals as goal

-- the row of an own class is found among all
pub gather_supers-requires-clause-of_class : goal.gather_supers-requires-clause-of_class
gather_supers-requires-clause-of_class c =
    let own = table_of c.args.entries.now c.args.vars.now in
    own_found c.args.below.now.table own c.requires.among.formed c.args.row.now (class_there own c.args.row.now.id c.args.row.now c.requires.of_class).0

-- what the direct supertypes give are the superinterfaces
pub returns : goal.returns
returns c =
    let own = table_of c.args.entries.now c.args.vars.now in
    let table = among c.args.below.now.table c.args.entries.now c.args.vars.now in
    let row = c.args.row.now in
    let list = c.gather_supers.new.list.items in
    let found = own_found c.args.below.now.table own c.requires.among.formed row (class_there own row.id row c.requires.of_class).0 in
    all_given table c.requires.among.formed row found list (subst (λ (xs : List Superinterface). Adds (IsGiven table row.supers) xs list) c.new-list.ensures.items c.in_ok-gather_supers.ensures)
