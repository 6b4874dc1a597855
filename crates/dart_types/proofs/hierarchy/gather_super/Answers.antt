use Rattle.std.proofs.Common.{sym, subst}
use Rattle.dart_types.specs.Ty.{Ty}
use Rattle.dart_types.specs.WellFormed.{IsSupertype}
use Rattle.dart_types.specs.Entries.{among}
use Rattle.dart_types.proofs.Formed.{formed_super}
use Rattle.dart_types.proofs.Giving.{must_be_interface}
use Rattle.dart_types.proofs.hierarchy.gather_super.Goals as goal

-- a direct supertype is an interface
pub unreachable-requires : goal.unreachable-requires
unreachable-requires c =
    let row = c.args.row.now in
    must_be_interface row.params c.v.inside.node
    (subst (λ (t : Ty). IsSupertype row.params t) (sym c.v.view_is) (formed_super (among c.args.below.now.table c.args.entries.now c.args.vars.now) c.requires.among.formed row.id row c.args.v.now c.requires.of_class c.requires.direct).0)
    c.in_default.not-Interface
