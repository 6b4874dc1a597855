use Rattle.std.proofs.Common.{ℕ, []}
use Rattle.dart_types.specs.declared.superinterfaces.Superinterface.{Superinterface}
use Rattle.dart_types.proofs.Searches.{from_before_to, of_id}
use Rattle.dart_types.proofs.superinterfaces.superinterfaces_of_class.Goals as goal

abbrev lib : Superinterface → ℕ
lib s = s.class.lib.0

abbrev index : Superinterface → ℕ
index s = s.class.index

pub slice_bounds-result-count : goal.slice_bounds-result-count
slice_bounds-result-count c =
    from_before_to lib index c.args.superinterfaces.now c.requires c.args.class.lib.0 c.args.class.index c.first_of_class-from.result c.end_of_class-to.result c.first_of_class-from.ensures.bound c.end_of_class-to.ensures.bound c.first_of_class-from.ensures.parts c.end_of_class-to.ensures.parts (record { class = c.args.class; args = [] })

pub slice_bounds-result-start : goal.slice_bounds-result-start
slice_bounds-result-start c =
    from_before_to lib index c.args.superinterfaces.now c.requires c.args.class.lib.0 c.args.class.index c.first_of_class-from.result c.end_of_class-to.result c.first_of_class-from.ensures.bound c.end_of_class-to.ensures.bound c.first_of_class-from.ensures.parts c.end_of_class-to.ensures.parts (record { class = c.args.class; args = [] })

-- the part between the two places
pub returns : goal.returns
returns c =
    of_id lib index c.args.superinterfaces.now c.requires c.args.class.lib.0 c.args.class.index c.first_of_class-from.result c.end_of_class-to.result c.first_of_class-from.ensures.bound c.end_of_class-to.ensures.bound c.first_of_class-from.ensures.parts c.end_of_class-to.ensures.parts
    (from_before_to lib index c.args.superinterfaces.now c.requires c.args.class.lib.0 c.args.class.index c.first_of_class-from.result c.end_of_class-to.result c.first_of_class-from.ensures.bound c.end_of_class-to.ensures.bound c.first_of_class-from.ensures.parts c.end_of_class-to.ensures.parts (record { class = c.args.class; args = [] }))
