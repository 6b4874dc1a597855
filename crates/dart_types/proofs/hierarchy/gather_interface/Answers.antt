use Rattle.std.proofs.Common.{◌≡◌, Option, refl, subst, arith}
use Rattle.dart_types.specs.Ty.{interface, types_of}
use Rattle.dart_types.specs.Tables.{depth_of}
use Rattle.dart_types.specs.Entries.{among}
use Rattle.dart_types.specs.Gathering.{IsPut, IsGivenBy}
use Rattle.dart_types.specs.Known.{IsKnown}
use Rattle.dart_types.specs.declared.hierarchy.Known.{Known}
use Rattle.dart_types.proofs.Formed.{super_depth}
use Rattle.dart_types.proofs.Gathered.{adds_both, adds_same, on_ok}
use Rattle.dart_types.proofs.Giving.{IsItself, gives_itself, itself_given, gives_split, gives_join}
use Rattle.dart_types.proofs.hierarchy.gather_interface.Goals as goal

pub returns-in-None : goal.returns-in-None
returns-in-None c =
    let table = among c.args.below.now.table c.args.entries.now c.args.vars.now in
    let ts = types_of c.args.args.now in
    adds_same (IsItself table c.args.class ts) (IsGivenBy table (interface c.args.class ts)) c.args.list.now.items c.put_one.new.list.items c.in_ok-put_one.ensures
    (λ t g. gives_itself table c.args.class ts (subst (λ (o : Option Known). IsKnown table c.args.class c.args.row.now.depth o) c.in-None.is c.known_class.ensures) t g)
    (λ t e. itself_given table c.args.class ts t e)

pub returns-in-Some : goal.returns-in-Some
returns-in-Some c =
    let table = among c.args.below.now.table c.args.entries.now c.args.vars.now in
    let ts = types_of c.args.args.now in
    let k = c.in-Some.known in
    let list = k.superinterfaces.now in
    let known_of = subst (λ (o : Option Known). IsKnown table c.args.class c.args.row.now.depth o) c.in-Some.is c.known_class.ensures in
    let above = known_of.0 in
    let falls = super_depth table c.requires.among.formed c.args.row.now.id c.args.row.now (interface c.args.class ts) c.requires.of_class c.requires.direct in
    let here : depth_of table c.args.row.now.id ≡ c.args.row.now.depth = rw c.requires.of_class refl in
    let up : depth_of table c.args.class ≡ k.row.now.depth = rw above refl in
    let known = known_of.1 (omega (arith, falls, here, up)) in
    on_ok c.gather_above.result c.gather_above.ensures (λ a. adds_both (IsItself table c.args.class ts) (IsPut k.row.now.params ts list) (IsGivenBy table (interface c.args.class ts)) c.args.list.now.items c.put_one.new.list.items c.gather_above.new.list.items c.in_ok-put_one.ensures a
    (gives_split table c.args.class ts k.row.now above list known) (gives_join table c.args.class ts k.row.now above list known))
