use Rattle.std.proofs.Common.{◌≡◌, ◌<◌, ◌≤◌, true, false, List, Option, Some, Ok, Err, length, refl, sym, ◌∙◌, ap, subst, arith}
use Rattle.std.proofs.lemmas.List.{get_or_default}
use Rattle.dart_types.specs.Ty.{Ty, invalid, nullable, interface, types_of}
use Rattle.dart_types.specs.Named.{named_of}
use Rattle.dart_types.specs.Node.{type_of, function_type}
use Rattle.dart_types.specs.Forms.{params_of}
use Rattle.type_bounds.specs.Bounds.{is_bare}
use Rattle.dart_types.specs.Tables.{Table}
use Rattle.type_infer.specs.Above.{arguments_of, FormsAbove}
use Rattle.type_infer.specs.Finds.{Finds}
use Rattle.type_infer.specs.Matching.{is_on_side, is_class, is_function, gives_way_at_mark, Face, MatchAll}
use Rattle.type_infer.specs.Ways.{WayAtMark}
use Rattle.type_infer.specs.declared.constraints.Side.{Side}
use Rattle.type_infer.specs.Pairs.{Pair, pair, paired, paired_by_name}
use Rattle.type_infer.proofs.FindSteps.{finds_part, all_passed, passed_one, ended_one, refused_one, all_names_passed, passed_name, ended_name, refused_name, other_name}
use Rattle.type_infer.proofs.FindSteps as find
use Rattle.type_infer.proofs.MatchSteps.{finds_fixed, finds_faced, finds_way_at_mark, finds_no_way_at_mark, taken_at_mark, marked_at_mark, finds_at, bare_node, no_class, no_function, class_leaf, function_leaf, finds_leaf, finds_null, finds_both_marked, finds_bare, way_stands, finds_way, finds_no_way, finds_one_class, finds_above_other, finds_other_elsewhere, finds_other_refused, finds_above_formal, finds_formal_elsewhere, finds_formal_refused, at_positional, at_names, finds_other_signature, finds_no_params, finds_params_refused, finds_no_names, finds_names_refused, finds_result}
use Rattle.type_infer.proofs.Refusing.{at_refusal}
use Rattle.type_infer.specs.SideMeasure.{side_measure, pairs_measure}
use Rattle.type_infer.proofs.SideFalls.{way_least_at_mark, both_bare_fall, bare_falls, way_least, arguments_below, other_above_below, formal_above_below, params_below, names_below, result_below, place_below, name_below}
use Rattle.type_infer.proofs.matching.Matcher.+matching.Goals as goal

pub match_types-returns-then-not-holds_param : goal.match_types-returns-then-not-holds_param
match_types-returns-then-not-holds_param t c =
    let m = c.args.self.now in
    finds_fixed m.rows.now.table m.params.now c.args.side c.args.formal.now c.args.other.now c.args.found.now.items c.fits.result (sym c.holds_param.ensures ∙ c.if-not-holds_param.true) c.fits.ensures

pub match_types-returns : goal.match_types-returns
match_types-returns t c =
    let m = c.args.self.now in
    finds_faced m.rows.now.table m.params.now c.args.side c.args.formal.now c.args.other.now c.args.found.now.items c.face.new.found.items c.face.result (sym c.holds_param.ensures ∙ c.if-not-holds_param.false) c.face.ensures

pub face-returns-in-Promoted : goal.face-returns-in-Promoted
face-returns-in-Promoted t c =
    let m = c.args.self.now in
    finds_leaf m.rows.now.table m.params.now c.args.side c.args.formal.now c.args.other.now _ c.args.found.now.items c.fits.result (sym c.formal.view_is ∙ ap type_of c.in-Promoted.is) refl c.fits.ensures

-- a formal with `?`
pub face_marked-returns-in-None : goal.face_marked-returns-in-None
face_marked-returns-in-None t c =
    let m = c.args.self.now in
    finds_no_way_at_mark m.rows.now.table m.params.now c.args.bare.now c.args.other.now c.args.side c.args.found.now.items c.in-None.ensures

pub face_marked-face-requires : goal.face_marked-face-requires
face_marked-face-requires t c =
    let m = c.args.self.now in
    let is = sym c.last.view_is ∙ ap type_of c.in-Nullable.is ∙ ap nullable (sym c.deref.ensures) in
    let fall : side_measure m.rows.now.table c.args.side c.args.bare.now c.deref.result.now < side_measure m.rows.now.table c.args.side (nullable c.args.bare.now) c.in-Some.last.now =
    rw is (both_bare_fall m.rows.now.table c.row_laws.ensures c.args.side c.args.bare.now c.deref.result.now) in
    let least = way_least_at_mark m.rows.now.table c.row_laws.ensures c.args.side c.args.bare.now c.args.other.now c.in-Some.last.now c.in-Some.ensures in
    (omega (arith, fall, least, c.decreases), c.requires)

pub face_marked-face-requires-in_default : goal.face_marked-face-requires-in_default
face_marked-face-requires-in_default t c =
    let m = c.args.self.now in
    let least = way_least_at_mark m.rows.now.table c.row_laws.ensures c.args.side c.args.bare.now c.args.other.now c.in-Some.last.now c.in-Some.ensures in
    (omega (arith, bare_falls m.rows.now.table c.row_laws.ensures c.args.side c.args.bare.now c.in-Some.last.now, least, c.decreases), c.requires)

pub face_marked-returns-in-Null : goal.face_marked-returns-in-Null
face_marked-returns-in-Null t c =
    let m = c.args.self.now in
    let before = c.args.found.now.items in
    finds_way_at_mark m.rows.now.table m.params.now c.args.bare.now c.args.other.now c.args.side c.in-Some.last.now before before (Ok true) c.in-Some.ensures
    (finds_null m.rows.now.table m.params.now c.args.side c.args.bare.now c.in-Some.last.now before (sym c.last.view_is ∙ ap type_of c.in-Null.is))

pub face_marked-returns-in-Nullable : goal.face_marked-returns-in-Nullable
face_marked-returns-in-Nullable t c =
    let m = c.args.self.now in
    let before = c.args.found.now.items in
    let after = c.face.new.found.items in
    let is = sym c.last.view_is ∙ ap type_of c.in-Nullable.is ∙ ap nullable (sym c.deref.ensures) in
    let marked = marked_at_mark m.rows.now.table m.params.now c.args.bare.now c.args.other.now c.args.side c.deref.result.now (subst (λ (u : Ty). WayAtMark m.rows.now.table (gives_way_at_mark c.args.side c.args.bare.now) c.args.other.now (Some u)) is c.in-Some.ensures) in
    finds_way_at_mark m.rows.now.table m.params.now c.args.bare.now c.args.other.now c.args.side c.in-Some.last.now before after c.face.result c.in-Some.ensures
    (finds_both_marked m.rows.now.table m.params.now c.args.side c.args.bare.now c.in-Some.last.now c.deref.result.now before after c.face.result marked is c.face.ensures)

pub face_marked-returns-in_default : goal.face_marked-returns-in_default
face_marked-returns-in_default t c =
    let m = c.args.self.now in
    let before = c.args.found.now.items in
    let after = c.face-in_default.new.found.items in
    let bare = subst (λ (s : Ty). is_bare s ≡ true) c.last.view_is (bare_node c.last.inside.node c.in_default.not-Null c.in_default.not-Nullable) in
    let taken = taken_at_mark m.rows.now.table m.params.now c.args.bare.now c.args.other.now c.args.side c.in-Some.last.now c.in-Some.ensures bare in
    finds_way_at_mark m.rows.now.table m.params.now c.args.bare.now c.args.other.now c.args.side c.in-Some.last.now before after c.face-in_default.result c.in-Some.ensures
    (finds_bare m.rows.now.table m.params.now c.args.side c.args.bare.now c.in-Some.last.now before after c.face-in_default.result bare taken c.face-in_default.ensures)

-- a class or a function type, and what the other type gives way to
pub face_built-face_standing-requires : goal.face_built-face_standing-requires
face_built-face_standing-requires t c =
    let m = c.args.self.now in
    let least = way_least m.rows.now.table c.row_laws.ensures c.args.formal.now (Some c.in-Some.last.now) c.in-Some.ensures c.in-Some.last.now refl in
    (omega (arith, least, c.decreases), (c.requires, way_stands m.rows.now.table c.in-Some.ensures c.in-Some.last.now refl))

pub face_built-returns-in-None : goal.face_built-returns-in-None
face_built-returns-in-None t c =
    let m = c.args.self.now in
    finds_no_way m.rows.now.table m.params.now c.args.side c.args.formal.now c.args.other.now c.args.found.now.items c.requires c.in-None.ensures

pub face_built-returns-in-Some : goal.face_built-returns-in-Some
face_built-returns-in-Some t c =
    let m = c.args.self.now in
    finds_way m.rows.now.table m.params.now c.args.side c.args.formal.now c.args.other.now c.in-Some.last.now c.args.found.now.items c.face_standing.new.found.items c.face_standing.result c.requires c.in-Some.ensures c.face_standing.ensures

pub face_standing-returns-in_default-node : goal.face_standing-returns-in_default-node
face_standing-returns-in_default-node t c =
    let m = c.args.self.now in
    let other = subst (λ (s : Ty). is_function s ≡ false) c.other.view_is (no_function c.other.inside.node c.in_default-node.not-Function) in
    finds_leaf m.rows.now.table m.params.now c.args.side c.args.formal.now c.args.other.now _ c.args.found.now.items c.fits.result (sym c.formal.view_is ∙ ap type_of c.in-Function.is) (function_leaf c.args.side c.in-Function.function.value c.args.other.now c.requires.stands other) c.fits.ensures

-- classes
pub face_classes-returns-in_default : goal.face_classes-returns-in_default
face_classes-returns-in_default t c =
    let m = c.args.self.now in
    let other = subst (λ (s : Ty). is_class s ≡ false) c.other.view_is (no_class c.other.inside.node c.in_default.not-Interface) in
    finds_leaf m.rows.now.table m.params.now c.args.side c.args.formal.now c.args.other.now _ c.args.found.now.items c.fits.result c.requires.class (class_leaf c.args.side c.args.class (types_of c.args.args.now) c.args.other.now c.requires.stands other) c.fits.ensures

-- the sides are as deep by either name
same_measure : (table : Table) (side : Side) {t t' s s' : Ty} → t ≡ t' → s ≡ s' → side_measure table side t s ≡ side_measure table side t' s'
same_measure table side {t} {t'} {s} {s'} e f = ap (λ (u : Ty). side_measure table side u s) e ∙ ap (λ (u : Ty). side_measure table side t' u) f

pub face_classes-match_lists-requires : goal.face_classes-match_lists-requires
face_classes-match_lists-requires t c =
    let m = c.args.self.now in
    let ts = types_of c.args.args.now in
    let ss = types_of c.deref-others.result.now in
    let measured = same_measure m.rows.now.table c.args.side c.requires.class (sym c.other.view_is ∙ ap type_of c.in-Interface.is ∙ ap (λ (us : List Ty). interface c.in-Interface.other_class (types_of us)) (sym c.deref-others.ensures)) in
    let below = arguments_below m.rows.now.table c.row_laws.ensures c.args.side c.args.class c.in-Interface.other_class ts ss in
    let same : pairs_measure m.rows.now.table (paired c.args.side (types_of c.as_slice.result.now) (types_of c.as_slice-then-eq.result.now)) ≡ pairs_measure m.rows.now.table (paired c.args.side ts ss) = rw (c.as_slice.ensures, c.as_slice-then-eq.ensures) refl in
    (omega (arith, below, same, measured, c.decreases), tt)

pub face_classes-returns-then-eq : goal.face_classes-returns-then-eq
face_classes-returns-then-eq t c =
    let m = c.args.self.now in
    let ts = types_of c.args.args.now in
    let ss = types_of c.deref-others.result.now in
    let other_is = sym c.other.view_is ∙ ap type_of c.in-Interface.is ∙ ap (λ (us : List Ty). interface c.in-Interface.other_class (types_of us)) (sym c.deref-others.ensures) in
    let same : paired c.args.side (types_of c.as_slice.result.now) (types_of c.as_slice-then-eq.result.now) ≡ paired c.args.side ts ss = rw (c.as_slice.ensures, c.as_slice-then-eq.ensures) refl in
    finds_at m.rows.now.table m.params.now c.args.side c.args.formal.now c.args.other.now (interface c.args.class ts) (interface c.in-Interface.other_class ss) c.args.found.now.items c.match_lists.new.found.items c.match_lists.result c.requires.class other_is
    (finds_one_class m.rows.now.table m.params.now c.args.side c.args.class c.in-Interface.other_class ts ss c.args.found.now.items c.match_lists.new.found.items c.match_lists.result (sym c.eq.ensures ∙ c.if-eq.true)
    (subst (λ (ps : List Pair). Finds (MatchAll m.rows.now.table m.params.now ps) c.args.found.now.items c.match_lists.new.found.items c.match_lists.result) same c.match_lists.ensures))

pub face_classes-returns-in_err-form_above-in-AtLeast : goal.face_classes-returns-in_err-form_above-in-AtLeast
face_classes-returns-in_err-form_above-in-AtLeast t c =
    let m = c.args.self.now in
    let ts = types_of c.args.args.now in
    let ss = types_of c.deref-others.result.now in
    let other_is = sym c.other.view_is ∙ ap type_of c.in-Interface.is ∙ ap (λ (us : List Ty). interface c.in-Interface.other_class (types_of us)) (sym c.deref-others.ensures) in
    let before = c.args.found.now.items in
    let refused = c.in_err-form_above-in-AtLeast.field-0.0 in
    at_refusal (Finds (Face m.rows.now.table m.params.now c.args.side c.args.formal.now c.args.other.now) before before) c.from_residual.result refused c.from_residual.ensures.1
    (finds_at m.rows.now.table m.params.now c.args.side c.args.formal.now c.args.other.now (interface c.args.class ts) (interface c.in-Interface.other_class ss) before before (Err refused) c.requires.class other_is
    (finds_other_refused m.rows.now.table m.params.now c.args.side c.args.class c.in-Interface.other_class ts ss before before (sym c.eq.ensures ∙ c.if-eq.false) refused c.in-AtLeast.is c.in_err-form_above-in-AtLeast.ensures))

pub face_classes-returns-in_err-form_above-in-AtMost : goal.face_classes-returns-in_err-form_above-in-AtMost
face_classes-returns-in_err-form_above-in-AtMost t c =
    let m = c.args.self.now in
    let ts = types_of c.args.args.now in
    let ss = types_of c.deref-others.result.now in
    let other_is = sym c.other.view_is ∙ ap type_of c.in-Interface.is ∙ ap (λ (us : List Ty). interface c.in-Interface.other_class (types_of us)) (sym c.deref-others.ensures) in
    let before = c.args.found.now.items in
    let refused = c.in_err-form_above-in-AtMost.field-0.0 in
    at_refusal (Finds (Face m.rows.now.table m.params.now c.args.side c.args.formal.now c.args.other.now) before before) c.from_residual-in_err-form_above-in-AtMost.result refused c.from_residual-in_err-form_above-in-AtMost.ensures.1
    (finds_at m.rows.now.table m.params.now c.args.side c.args.formal.now c.args.other.now (interface c.args.class ts) (interface c.in-Interface.other_class ss) before before (Err refused) c.requires.class other_is
    (finds_formal_refused m.rows.now.table m.params.now c.args.side c.args.class c.in-Interface.other_class ts ss before before (sym c.eq.ensures ∙ c.if-eq.false) refused c.in-AtMost.is c.in_err-form_above-in-AtMost.ensures))

pub face_classes-returns-in-None : goal.face_classes-returns-in-None
face_classes-returns-in-None t c =
    let m = c.args.self.now in
    let ts = types_of c.args.args.now in
    let ss = types_of c.deref-others.result.now in
    let other_is = sym c.other.view_is ∙ ap type_of c.in-Interface.is ∙ ap (λ (us : List Ty). interface c.in-Interface.other_class (types_of us)) (sym c.deref-others.ensures) in
    let before = c.args.found.now.items in
    let so = c.fits-in-None.ensures ∙ ap (λ (u : Ty). is_on_side m.rows.now.table c.args.side u c.args.other.now) c.requires.class ∙ ap (λ (u : Ty). is_on_side m.rows.now.table c.args.side (interface c.args.class ts) u) other_is in
    finds_at m.rows.now.table m.params.now c.args.side c.args.formal.now c.args.other.now (interface c.args.class ts) (interface c.in-Interface.other_class ss) before before (Ok c.fits-in-None.result) c.requires.class other_is
    (finds_other_elsewhere m.rows.now.table m.params.now c.args.side c.args.class c.in-Interface.other_class ts ss before before (sym c.eq.ensures ∙ c.if-eq.false) c.fits-in-None.result c.in-AtLeast.is
    (subst (λ (o : Option Ty). FormsAbove m.rows.now.table c.in-Interface.other_class ss c.args.class (Ok o)) c.in-None.is c.in_ok-form_above-in-AtLeast.ensures) so)

pub face_classes-returns-in-None-2 : goal.face_classes-returns-in-None-2
face_classes-returns-in-None-2 t c =
    let m = c.args.self.now in
    let ts = types_of c.args.args.now in
    let ss = types_of c.deref-others.result.now in
    let other_is = sym c.other.view_is ∙ ap type_of c.in-Interface.is ∙ ap (λ (us : List Ty). interface c.in-Interface.other_class (types_of us)) (sym c.deref-others.ensures) in
    let before = c.args.found.now.items in
    let so = c.fits-in-None-2.ensures ∙ ap (λ (u : Ty). is_on_side m.rows.now.table c.args.side u c.args.other.now) c.requires.class ∙ ap (λ (u : Ty). is_on_side m.rows.now.table c.args.side (interface c.args.class ts) u) other_is in
    finds_at m.rows.now.table m.params.now c.args.side c.args.formal.now c.args.other.now (interface c.args.class ts) (interface c.in-Interface.other_class ss) before before (Ok c.fits-in-None-2.result) c.requires.class other_is
    (finds_formal_elsewhere m.rows.now.table m.params.now c.args.side c.args.class c.in-Interface.other_class ts ss before before (sym c.eq.ensures ∙ c.if-eq.false) c.fits-in-None-2.result c.in-AtMost.is
    (subst (λ (o : Option Ty). FormsAbove m.rows.now.table c.args.class ts c.in-Interface.other_class (Ok o)) c.in-None-2.is c.in_ok-form_above-in-AtMost.ensures) so)

pub face_classes-match_lists-requires-in-Some : goal.face_classes-match_lists-requires-in-Some
face_classes-match_lists-requires-in-Some t c =
    let m = c.args.self.now in
    let ts = types_of c.args.args.now in
    let ss = types_of c.deref-others.result.now in
    let measured = same_measure m.rows.now.table c.args.side c.requires.class (sym c.other.view_is ∙ ap type_of c.in-Interface.is ∙ ap (λ (us : List Ty). interface c.in-Interface.other_class (types_of us)) (sym c.deref-others.ensures)) in
    let above = subst (λ (o : Option Ty). FormsAbove m.rows.now.table c.in-Interface.other_class ss c.args.class (Ok o)) c.in-Some.is c.in_ok-form_above-in-AtLeast.ensures in
    let below : pairs_measure m.rows.now.table (paired c.args.side ts (arguments_of c.in-Some.above)) < side_measure m.rows.now.table c.args.side (interface c.args.class ts) (interface c.in-Interface.other_class ss) =
    rw c.in-AtLeast.is (other_above_below m.rows.now.table c.row_laws.ensures c.args.class c.in-Interface.other_class ts ss (arguments_of c.in-Some.above) above.1.above) in
    let same : pairs_measure m.rows.now.table (paired c.args.side (types_of c.as_slice-in-Some.result.now) (types_of c.arguments_of.result.now)) ≡ pairs_measure m.rows.now.table (paired c.args.side ts (arguments_of c.in-Some.above)) = rw (c.as_slice-in-Some.ensures, c.arguments_of.ensures) refl in
    (omega (arith, below, same, measured, c.decreases), tt)

pub face_classes-match_lists-requires-in-Some-2 : goal.face_classes-match_lists-requires-in-Some-2
face_classes-match_lists-requires-in-Some-2 t c =
    let m = c.args.self.now in
    let ts = types_of c.args.args.now in
    let ss = types_of c.deref-others.result.now in
    let measured = same_measure m.rows.now.table c.args.side c.requires.class (sym c.other.view_is ∙ ap type_of c.in-Interface.is ∙ ap (λ (us : List Ty). interface c.in-Interface.other_class (types_of us)) (sym c.deref-others.ensures)) in
    let above = subst (λ (o : Option Ty). FormsAbove m.rows.now.table c.args.class ts c.in-Interface.other_class (Ok o)) c.in-Some-2.is c.in_ok-form_above-in-AtMost.ensures in
    let below : pairs_measure m.rows.now.table (paired c.args.side (arguments_of c.in-Some-2.above) ss) < side_measure m.rows.now.table c.args.side (interface c.args.class ts) (interface c.in-Interface.other_class ss) =
    rw c.in-AtMost.is (formal_above_below m.rows.now.table c.row_laws.ensures c.args.class c.in-Interface.other_class ts ss (arguments_of c.in-Some-2.above) above.1.above) in
    let same : pairs_measure m.rows.now.table (paired c.args.side (types_of c.arguments_of-in-Some-2.result.now) (types_of c.as_slice-in-Some-2.result.now)) ≡ pairs_measure m.rows.now.table (paired c.args.side (arguments_of c.in-Some-2.above) ss) = rw (c.as_slice-in-Some-2.ensures, c.arguments_of-in-Some-2.ensures) refl in
    (omega (arith, below, same, measured, c.decreases), tt)

pub face_classes-returns-in-Some : goal.face_classes-returns-in-Some
face_classes-returns-in-Some t c =
    let m = c.args.self.now in
    let ts = types_of c.args.args.now in
    let ss = types_of c.deref-others.result.now in
    let other_is = sym c.other.view_is ∙ ap type_of c.in-Interface.is ∙ ap (λ (us : List Ty). interface c.in-Interface.other_class (types_of us)) (sym c.deref-others.ensures) in
    let above = subst (λ (o : Option Ty). FormsAbove m.rows.now.table c.in-Interface.other_class ss c.args.class (Ok o)) c.in-Some.is c.in_ok-form_above-in-AtLeast.ensures in
    let same : paired c.args.side (types_of c.as_slice-in-Some.result.now) (types_of c.arguments_of.result.now) ≡ paired c.args.side ts (arguments_of c.in-Some.above) = rw (c.as_slice-in-Some.ensures, c.arguments_of.ensures) refl in
    let before = c.args.found.now.items in
    let after = c.match_lists-in-Some.new.found.items in
    finds_at m.rows.now.table m.params.now c.args.side c.args.formal.now c.args.other.now (interface c.args.class ts) (interface c.in-Interface.other_class ss) before after c.match_lists-in-Some.result c.requires.class other_is
    (finds_above_other m.rows.now.table m.params.now c.args.side c.args.class c.in-Interface.other_class ts ss before after (sym c.eq.ensures ∙ c.if-eq.false) c.match_lists-in-Some.result c.in-Some.above c.in-AtLeast.is above
    (subst (λ (ps : List Pair). Finds (MatchAll m.rows.now.table m.params.now ps) before after c.match_lists-in-Some.result) same c.match_lists-in-Some.ensures))

pub face_classes-returns-in-Some-2 : goal.face_classes-returns-in-Some-2
face_classes-returns-in-Some-2 t c =
    let m = c.args.self.now in
    let ts = types_of c.args.args.now in
    let ss = types_of c.deref-others.result.now in
    let other_is = sym c.other.view_is ∙ ap type_of c.in-Interface.is ∙ ap (λ (us : List Ty). interface c.in-Interface.other_class (types_of us)) (sym c.deref-others.ensures) in
    let above = subst (λ (o : Option Ty). FormsAbove m.rows.now.table c.args.class ts c.in-Interface.other_class (Ok o)) c.in-Some-2.is c.in_ok-form_above-in-AtMost.ensures in
    let same : paired c.args.side (types_of c.arguments_of-in-Some-2.result.now) (types_of c.as_slice-in-Some-2.result.now) ≡ paired c.args.side (arguments_of c.in-Some-2.above) ss = rw (c.as_slice-in-Some-2.ensures, c.arguments_of-in-Some-2.ensures) refl in
    let before = c.args.found.now.items in
    let after = c.match_lists-in-Some-2.new.found.items in
    finds_at m.rows.now.table m.params.now c.args.side c.args.formal.now c.args.other.now (interface c.args.class ts) (interface c.in-Interface.other_class ss) before after c.match_lists-in-Some-2.result c.requires.class other_is
    (finds_above_formal m.rows.now.table m.params.now c.args.side c.args.class c.in-Interface.other_class ts ss before after (sym c.eq.ensures ∙ c.if-eq.false) c.match_lists-in-Some-2.result c.in-Some-2.above c.in-AtMost.is above
    (subst (λ (ps : List Pair). Finds (MatchAll m.rows.now.table m.params.now ps) before after c.match_lists-in-Some-2.result) same c.match_lists-in-Some-2.ensures))

-- parts
pub match_part-returns-then-is_open : goal.match_part-returns-then-is_open
match_part-returns-then-is_open t c =
    let m = c.args.self.now in
    find.finds_open m.rows.now.table m.params.now (pair c.args.side c.args.formal.now c.args.other.now) c.args.found.now.items (sym c.is_open.ensures ∙ c.if-is_open.true)

pub match_part-returns : goal.match_part-returns
match_part-returns t c =
    let m = c.args.self.now in
    finds_part m.rows.now.table m.params.now (pair c.args.side c.args.formal.now c.args.other.now) c.args.found.now.items c.match_types.new.found.items c.match_types.result (sym c.is_open.ensures ∙ c.if-is_open.false) c.match_types.ensures

-- lists
pub match_lists-match_part-requires : goal.match_lists-match_part-requires
match_lists-match_part-requires t c =
    let m = c.args.self.now in
    let xs = c.args.formals.now in
    let ys = c.args.others.now in
    let t = c.index-formals-i.result in
    let s = c.index-others-i.result in
    let below : side_measure m.rows.now.table c.args.side t s < pairs_measure m.rows.now.table (paired c.args.side (types_of xs) (types_of ys)) =
    rw (c.index-formals-i.is, c.index-others-i.is) (place_below m.rows.now.table c.args.side xs ys c.loop-i.i t s (omega arith) (omega arith)) in
    (omega (arith, below, c.decreases), tt)

pub match_lists-returns-in_err-match_part : goal.match_lists-returns-in_err-match_part
match_lists-returns-in_err-match_part t c =
    let m = c.args.self.now in
    let xs = c.args.formals.now in
    let ys = c.args.others.now in
    let before = c.args.found.now.items in
    let after = c.match_part.new.found.items in
    let refused = c.in_err-match_part.field-0.0 in
    at_refusal (Finds (MatchAll m.rows.now.table m.params.now (paired c.args.side (types_of xs) (types_of ys))) before after) c.from_residual.result refused c.from_residual.ensures.1
    (refused_one m.rows.now.table m.params.now c.args.side xs ys before c.loop-i.found.items c.loop-i.i c.index-formals-i.result c.index-others-i.result (omega arith) (omega arith) c.index-formals-i.is c.index-others-i.is c.loop-i.invariant after after refused c.in_err-match_part.ensures)

pub match_lists-returns-then-not-branch : goal.match_lists-returns-then-not-branch
match_lists-returns-then-not-branch t c =
    let m = c.args.self.now in
    ended_one m.rows.now.table m.params.now c.args.side c.args.formals.now c.args.others.now c.args.found.now.items c.loop-i.found.items c.loop-i.i c.index-formals-i.result c.index-others-i.result (omega arith) (omega arith) c.index-formals-i.is c.index-others-i.is c.loop-i.invariant c.match_part.new.found.items c.in_ok-match_part.field-0 c.in_ok-match_part.ensures c.if-not-branch.true

pub match_lists-loop-i-preserved : goal.match_lists-loop-i-preserved
match_lists-loop-i-preserved t c =
    let m = c.args.self.now in
    passed_one m.rows.now.table m.params.now c.args.side c.args.formals.now c.args.others.now c.args.found.now.items c.loop-i.found.items c.loop-i.i c.index-formals-i.result c.index-others-i.result (omega arith) (omega arith) c.index-formals-i.is c.index-others-i.is c.loop-i.invariant c.match_part.new.found.items c.in_ok-match_part.field-0 c.in_ok-match_part.ensures c.if-not-branch.false

pub match_lists-returns : goal.match_lists-returns
match_lists-returns t c =
    let m = c.args.self.now in
    all_passed m.rows.now.table m.params.now c.args.side c.args.formals.now c.args.others.now c.args.found.now.items c.loop-i.found.items c.loop-i.i c.loop-i.invariant (omega arith)

-- positional parameters
pub match_params-match_part-requires : goal.match_params-match_part-requires
match_params-match_part-requires t c =
    let m = c.args.self.now in
    let xs = params_of c.args.formal.now in
    let ys = params_of c.args.other.now in
    let t = c.param_at-param.result.now in
    let s = c.param_at-other_param.result.now in
    let below : side_measure m.rows.now.table c.args.side t s < pairs_measure m.rows.now.table (paired c.args.side (types_of xs) (types_of ys)) =
    rw (c.param_at-param.ensures, c.param_at-other_param.ensures) (place_below m.rows.now.table c.args.side xs ys c.loop-i.i invalid invalid (omega arith) (omega arith)) in
    (omega (arith, below, c.decreases), tt)

pub match_params-returns-in_err-match_part : goal.match_params-returns-in_err-match_part
match_params-returns-in_err-match_part t' c =
    let m = c.args.self.now in
    let xs = params_of c.args.formal.now in
    let ys = params_of c.args.other.now in
    let i = c.loop-i.i in
    let t = c.param_at-param.result.now in
    let s = c.param_at-other_param.result.now in
    let h : i < length xs = omega (arith, c.count_params.ensures) in
    let k : i < length ys = omega (arith, c.count_params-2.ensures) in
    let is = c.param_at-param.ensures ∙ get_or_default xs i invalid t h in
    let other_is = c.param_at-other_param.ensures ∙ get_or_default ys i invalid s k in
    let before = c.args.found.now.items in
    let now = c.loop-i.found.items in
    let after = c.match_part.new.found.items in
    let refused = c.in_err-match_part.field-0.0 in
    at_refusal (Finds (MatchAll m.rows.now.table m.params.now (paired c.args.side (types_of xs) (types_of ys))) before after) c.from_residual.result refused c.from_residual.ensures.1
    (refused_one m.rows.now.table m.params.now c.args.side xs ys before now i t s h k is other_is c.loop-i.invariant after after refused c.in_err-match_part.ensures)

pub match_params-returns-then-not-branch : goal.match_params-returns-then-not-branch
match_params-returns-then-not-branch t' c =
    let m = c.args.self.now in
    let xs = params_of c.args.formal.now in
    let ys = params_of c.args.other.now in
    let i = c.loop-i.i in
    let t = c.param_at-param.result.now in
    let s = c.param_at-other_param.result.now in
    let h : i < length xs = omega (arith, c.count_params.ensures) in
    let k : i < length ys = omega (arith, c.count_params-2.ensures) in
    let is = c.param_at-param.ensures ∙ get_or_default xs i invalid t h in
    let other_is = c.param_at-other_param.ensures ∙ get_or_default ys i invalid s k in
    let before = c.args.found.now.items in
    let now = c.loop-i.found.items in
    let after = c.match_part.new.found.items in
    ended_one m.rows.now.table m.params.now c.args.side xs ys before now i t s h k is other_is c.loop-i.invariant after c.in_ok-match_part.field-0 c.in_ok-match_part.ensures c.if-not-branch.true

pub match_params-loop-i-preserved : goal.match_params-loop-i-preserved
match_params-loop-i-preserved t' c =
    let m = c.args.self.now in
    let xs = params_of c.args.formal.now in
    let ys = params_of c.args.other.now in
    let i = c.loop-i.i in
    let t = c.param_at-param.result.now in
    let s = c.param_at-other_param.result.now in
    let h : i < length xs = omega (arith, c.count_params.ensures) in
    let k : i < length ys = omega (arith, c.count_params-2.ensures) in
    let is = c.param_at-param.ensures ∙ get_or_default xs i invalid t h in
    let other_is = c.param_at-other_param.ensures ∙ get_or_default ys i invalid s k in
    let before = c.args.found.now.items in
    let now = c.loop-i.found.items in
    let after = c.match_part.new.found.items in
    passed_one m.rows.now.table m.params.now c.args.side xs ys before now i t s h k is other_is c.loop-i.invariant after c.in_ok-match_part.field-0 c.in_ok-match_part.ensures c.if-not-branch.false

pub match_params-returns : goal.match_params-returns
match_params-returns t c =
    let m = c.args.self.now in
    all_passed m.rows.now.table m.params.now c.args.side (params_of c.args.formal.now) (params_of c.args.other.now) c.args.found.now.items c.loop-i.found.items c.loop-i.i c.loop-i.invariant (omega (arith, c.count_params.ensures, c.count_params-2.ensures))

-- named parameters
pub match_named-match_part-requires : goal.match_named-match_part-requires
match_named-match_part-requires t c =
    let m = c.args.self.now in
    let below = name_below m.rows.now.table c.args.side c.args.formals.now c.args.others.now c.loop-formal.formal-index c.formal-item.result c.in-Some.other.now c.loop-formal-test.true c.formal-item.is (sym c.in-Some.ensures.found) in
    (omega (arith, below, c.decreases), tt)

pub match_named-returns-in_err-match_part : goal.match_named-returns-in_err-match_part
match_named-returns-in_err-match_part t c =
    let m = c.args.self.now in
    let ns = c.args.formals.now in
    let ms = c.args.others.now in
    let i = c.loop-formal.formal-index in
    let n = c.formal-item.result in
    let before = c.args.found.now.items in
    let now = c.loop-formal.found.items in
    let after = c.match_part.new.found.items in
    let refused = c.in_err-match_part.field-0.0 in
    at_refusal (Finds (MatchAll m.rows.now.table m.params.now (paired_by_name c.args.side (named_of ns) (named_of ms))) before after) c.from_residual.result refused c.from_residual.ensures.1
    (refused_name m.rows.now.table m.params.now c.args.side ns ms before now i n c.loop-formal-test.true c.formal-item.is c.loop-formal.invariant (Some c.in-Some.other.now) (sym c.in-Some.ensures.found) after after refused c.in_err-match_part.ensures)

pub match_named-returns-then-not-branch : goal.match_named-returns-then-not-branch
match_named-returns-then-not-branch t c =
    let m = c.args.self.now in
    let ns = c.args.formals.now in
    let ms = c.args.others.now in
    let i = c.loop-formal.formal-index in
    let n = c.formal-item.result in
    let before = c.args.found.now.items in
    let now = c.loop-formal.found.items in
    let after = c.match_part.new.found.items in
    ended_name m.rows.now.table m.params.now c.args.side ns ms before now i n c.loop-formal-test.true c.formal-item.is c.loop-formal.invariant (Some c.in-Some.other.now) (sym c.in-Some.ensures.found) after c.in_ok-match_part.field-0 c.in_ok-match_part.ensures c.if-not-branch.true

pub match_named-loop-formal-preserved-in-None : goal.match_named-loop-formal-preserved-in-None
match_named-loop-formal-preserved-in-None t c =
    let m = c.args.self.now in
    let ns = c.args.formals.now in
    let ms = c.args.others.now in
    let i = c.loop-formal.formal-index in
    let n = c.formal-item.result in
    let before = c.args.found.now.items in
    let now = c.loop-formal.found.items in
    other_name m.rows.now.table m.params.now c.args.side ns ms before now i n c.loop-formal-test.true c.formal-item.is c.loop-formal.invariant (sym c.in-None.ensures.found)

pub match_named-loop-formal-preserved : goal.match_named-loop-formal-preserved
match_named-loop-formal-preserved t c =
    let m = c.args.self.now in
    let ns = c.args.formals.now in
    let ms = c.args.others.now in
    let i = c.loop-formal.formal-index in
    let n = c.formal-item.result in
    let before = c.args.found.now.items in
    let now = c.loop-formal.found.items in
    passed_name m.rows.now.table m.params.now c.args.side ns ms before now i n c.loop-formal-test.true c.formal-item.is c.loop-formal.invariant (Some c.in-Some.other.now) (sym c.in-Some.ensures.found) c.match_part.new.found.items c.in_ok-match_part.field-0 c.in_ok-match_part.ensures c.if-not-branch.false

pub match_named-returns : goal.match_named-returns
match_named-returns t c =
    let m = c.args.self.now in
    all_names_passed m.rows.now.table m.params.now c.args.side c.args.formals.now c.args.others.now c.args.found.now.items c.loop-formal.found.items c.loop-formal.formal-index c.loop-formal.invariant c.loop-formal-test.false

-- function types
pub face_functions-returns-then-not-signatures_fit : goal.face_functions-returns-then-not-signatures_fit
face_functions-returns-then-not-signatures_fit t c =
    let m = c.args.self.now in
    finds_other_signature m.rows.now.table m.params.now c.args.side c.args.formal.now c.args.other.now c.args.found.now.items c.signatures_fit.result c.signatures_fit.ensures c.if-not-signatures_fit.true

pub face_functions-match_params-requires : goal.face_functions-match_params-requires
face_functions-match_params-requires t c =
    let m = c.args.self.now in
    let below : pairs_measure m.rows.now.table (paired c.opposite-inner.result (types_of (params_of c.args.formal.now)) (types_of (params_of c.args.other.now))) ≤ side_measure m.rows.now.table c.args.side (function_type c.args.formal.now) (function_type c.args.other.now) =
    rw c.opposite-inner.ensures (params_below m.rows.now.table c.row_laws.ensures c.args.formal.now c.args.other.now c.args.side) in
    (omega (arith, below, c.decreases), tt)

pub face_functions-match_named-requires : goal.face_functions-match_named-requires
face_functions-match_named-requires t c =
    let m = c.args.self.now in
    let below : pairs_measure m.rows.now.table (paired_by_name c.opposite-inner.result (named_of c.as_slice-named.result.now) (named_of c.args.other.now.named)) ≤ side_measure m.rows.now.table c.args.side (function_type c.args.formal.now) (function_type c.args.other.now) =
    rw (c.opposite-inner.ensures, c.as_slice-named.ensures.same) (names_below m.rows.now.table c.row_laws.ensures c.args.formal.now c.args.other.now c.args.side) in
    (omega (arith, below, c.decreases), tt)

pub face_functions-match_part-requires : goal.face_functions-match_part-requires
face_functions-match_part-requires t c =
    let m = c.args.self.now in
    (omega (arith, result_below m.rows.now.table c.row_laws.ensures c.args.formal.now c.args.other.now c.args.side, c.decreases), tt)

pub face_functions-returns-in_err-match_params : goal.face_functions-returns-in_err-match_params
face_functions-returns-in_err-match_params t c =
    let m = c.args.self.now in
    let f = c.args.formal.now in
    let g = c.args.other.now in
    let before = c.args.found.now.items in
    let mid = c.match_params.new.found.items in
    let refused = c.in_err-match_params.field-0.0 in
    at_refusal (Finds (Face m.rows.now.table m.params.now c.args.side (function_type f) (function_type g)) before mid) c.from_residual.result refused c.from_residual.ensures.1
    (finds_params_refused m.rows.now.table m.params.now c.args.side f g before c.signatures_fit.result c.signatures_fit.ensures c.if-not-signatures_fit.false mid mid refused (at_positional m.rows.now.table m.params.now c.args.side f g before c.opposite-inner.result before mid (Err refused) c.opposite-inner.ensures c.in_err-match_params.ensures))

pub face_functions-returns-then-not-branch : goal.face_functions-returns-then-not-branch
face_functions-returns-then-not-branch t c =
    let m = c.args.self.now in
    let f = c.args.formal.now in
    let g = c.args.other.now in
    let before = c.args.found.now.items in
    let mid = c.match_params.new.found.items in
    finds_no_params m.rows.now.table m.params.now c.args.side f g before c.signatures_fit.result c.signatures_fit.ensures c.if-not-signatures_fit.false mid c.in_ok-match_params.field-0 (at_positional m.rows.now.table m.params.now c.args.side f g before c.opposite-inner.result before mid (Ok c.in_ok-match_params.field-0) c.opposite-inner.ensures c.in_ok-match_params.ensures) c.if-not-branch.true

pub face_functions-returns-in_err-match_named : goal.face_functions-returns-in_err-match_named
face_functions-returns-in_err-match_named t c =
    let m = c.args.self.now in
    let f = c.args.formal.now in
    let g = c.args.other.now in
    let before = c.args.found.now.items in
    let mid = c.match_params.new.found.items in
    let last = c.match_named.new.found.items in
    let refused = c.in_err-match_named.field-0.0 in
    at_refusal (Finds (Face m.rows.now.table m.params.now c.args.side (function_type f) (function_type g)) before last) c.from_residual-in_err-match_named.result refused c.from_residual-in_err-match_named.ensures.1
    (finds_names_refused m.rows.now.table m.params.now c.args.side f g before c.signatures_fit.result c.signatures_fit.ensures c.if-not-signatures_fit.false mid c.in_ok-match_params.field-0 (at_positional m.rows.now.table m.params.now c.args.side f g before c.opposite-inner.result before mid (Ok c.in_ok-match_params.field-0) c.opposite-inner.ensures c.in_ok-match_params.ensures) c.if-not-branch.false last last refused
    (at_names m.rows.now.table m.params.now c.args.side f g before c.opposite-inner.result c.as_slice-named.result.now c.args.other.now.named mid last (Err refused) c.opposite-inner.ensures c.as_slice-named.ensures.same refl c.in_err-match_named.ensures))

pub face_functions-returns-then-not-branch-2 : goal.face_functions-returns-then-not-branch-2
face_functions-returns-then-not-branch-2 t c =
    let m = c.args.self.now in
    let f = c.args.formal.now in
    let g = c.args.other.now in
    let before = c.args.found.now.items in
    let mid = c.match_params.new.found.items in
    let last = c.match_named.new.found.items in
    finds_no_names m.rows.now.table m.params.now c.args.side f g before c.signatures_fit.result c.signatures_fit.ensures c.if-not-signatures_fit.false mid c.in_ok-match_params.field-0 (at_positional m.rows.now.table m.params.now c.args.side f g before c.opposite-inner.result before mid (Ok c.in_ok-match_params.field-0) c.opposite-inner.ensures c.in_ok-match_params.ensures) c.if-not-branch.false last c.in_ok-match_named.field-0
    (at_names m.rows.now.table m.params.now c.args.side f g before c.opposite-inner.result c.as_slice-named.result.now c.args.other.now.named mid last (Ok c.in_ok-match_named.field-0) c.opposite-inner.ensures c.as_slice-named.ensures.same refl c.in_ok-match_named.ensures) c.if-not-branch-2.true

pub face_functions-returns : goal.face_functions-returns
face_functions-returns t c =
    let m = c.args.self.now in
    let f = c.args.formal.now in
    let g = c.args.other.now in
    let before = c.args.found.now.items in
    let mid = c.match_params.new.found.items in
    let last = c.match_named.new.found.items in
    finds_result m.rows.now.table m.params.now c.args.side f g before c.signatures_fit.result c.signatures_fit.ensures c.if-not-signatures_fit.false mid c.in_ok-match_params.field-0 (at_positional m.rows.now.table m.params.now c.args.side f g before c.opposite-inner.result before mid (Ok c.in_ok-match_params.field-0) c.opposite-inner.ensures c.in_ok-match_params.ensures) c.if-not-branch.false last c.match_part.new.found.items c.in_ok-match_named.field-0 c.match_part.result
    (at_names m.rows.now.table m.params.now c.args.side f g before c.opposite-inner.result c.as_slice-named.result.now c.args.other.now.named mid last (Ok c.in_ok-match_named.field-0) c.opposite-inner.ensures c.as_slice-named.ensures.same refl c.in_ok-match_named.ensures) c.if-not-branch-2.false c.match_part.ensures
