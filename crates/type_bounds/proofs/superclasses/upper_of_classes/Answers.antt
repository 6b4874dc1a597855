use Rattle.std.proofs.Common.{◌≡◌, true, [], Some, refl}
use Rattle.std.proofs.lemmas.Result.{IfOk-weaker}
use Rattle.dart_types.specs.Ty.{Ty, invalid, interface, types_of}
use Rattle.dart_types.specs.Formed.{Forms}
use Rattle.dart_types.specs.Marks.{takes_mark}
use Rattle.dart_types.specs.Tables.{class_of}
use Rattle.dart_types.specs.declared.ids.TheConstants.{OBJECT}
use Rattle.dart_types.specs.declared.class_rows.ClassRow.{ClassRow}
use Rattle.type_bounds.specs.Above.{type_above}
use Rattle.type_bounds.specs.Bounds.{UpperApart, two_classes, unknown_class}
use Rattle.type_bounds.specs.PartsView.{IsPart, IsSomePart}
use Rattle.type_bounds.specs.declared.superclasses.Pair.{Pair}
use Rattle.type_bounds.proofs.Deepest.{is_deepest, some_alone}
use Rattle.type_bounds.proofs.Rooted.{not_object}
use Rattle.type_bounds.proofs.superclasses.upper_of_classes.Goals as goal

pub returns-in-None : goal.returns-in-None
returns-in-None c = (invalid, unknown_class c.requires.differ (λ left right. c.in-None.ensures left), c.invalid.ensures)

pub returns-in-None-above_class : goal.returns-in-None-above_class
returns-in-None-above_class c =
    (invalid, unknown_class c.requires.differ (λ left right. c.in-None-above_class.ensures right), c.invalid-in-None-above_class.ensures)

-- both classes are below Object, which is alone at its depth
pub unreachable-requires : goal.unreachable-requires
unreachable-requires c =
    let table = c.args.rows.now.table in
    let laws = c.row_laws.ensures in
    let bare : (row : ClassRow) → class_of table OBJECT ≡ Some row → row.params ≡ [] = λ row r. (laws.formed_class OBJECT row r).object_bare (laws.row_id OBJECT row r) in
    let p : Pair = record { rows = c.args.rows; left = c.in-Some.left; right = c.in-Some-above_class.right } in
    let l = c.in-Some.ensures in
    let r = c.in-Some-above_class.ensures in
    let ss = types_of c.args.args.now in
    let ts = types_of c.args.others.now in
    some_alone p laws c.args.class c.args.other c.args.args.now c.args.others.now l r bare
    (not_object table laws bare c.args.class ss l.row l.row_is l.counted (interface c.args.other ts) refl c.requires.apart.1)
    (not_object table laws bare c.args.other ts r.row r.row_is r.counted (interface c.args.class ss) refl c.requires.apart.0)
    c.in-None-deepest.ensures

pub returns : goal.returns
returns c =
    let p : Pair = record { rows = c.args.rows; left = c.in-Some.left; right = c.in-Some-above_class.right } in
    let u = type_above c.in-Some.left c.in-Some-deepest.deepest.now in
    let bound = two_classes c.requires.differ (is_deepest p c.row_laws.ensures c.args.class c.args.other c.args.args.now c.args.others.now c.in-Some.ensures c.in-Some-above_class.ensures c.in-Some-deepest.deepest.now c.in-Some-deepest.ensures) in
    IfOk-weaker c.part_of.result (λ part. (t : Ty) → Forms c.with_arguments.result t → takes_mark t ≡ true → IsPart part t) (IsSomePart (UpperApart c.args.rows.now.table (interface c.args.class (types_of c.args.args.now)) (interface c.args.other (types_of c.args.others.now))))
    (λ part h. (u, bound, h u c.with_arguments.ensures refl)) c.part_of.ensures
