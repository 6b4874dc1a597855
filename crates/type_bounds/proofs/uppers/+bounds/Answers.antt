use Rattle.std.proofs.Common.{◌≡◌, ◌+◌, ◌<◌, true, false, length, drop, get_or, refl, sym, ◌∙◌, ap, subst, arith}
use Rattle.std.specs.Prelude.{◌&&◌, ◌||◌, bytes_eq}
use Rattle.std.proofs.lemmas.List.{get_or_default}
use Rattle.std.proofs.lemmas.Bool.{and_parts}
use Rattle.dart_types.specs.Ty.{invalid, never, interface, variable, no_more, more, no_named, more_named, types_of, join}
use Rattle.dart_types.specs.Heads.{object}
use Rattle.dart_types.specs.Named.{named_of}
use Rattle.dart_types.specs.Node.{type_of, function_type}
use Rattle.dart_types.specs.Measure.{weight_of}
use Rattle.dart_types.specs.declared.types.NamedType.{NamedType}
use Rattle.dart_types.specs.declared.ids.TheConstants.{FUNCTION}
use Rattle.dart_types.specs.Marks.{is_marked}
use Rattle.type_bounds.specs.Bounds.{Upper, UpperApart, upper_functions, Uppers, UpperNamed, Lower, left_below, right_below, lower_apart, LowerApart, marked_once, lower_functions, LowerParams, LowerNamed}
use Rattle.type_bounds.specs.Meetings.{ComesTo, IsWithin}
use Rattle.type_bounds.specs.KnownView.{AreBounds}
use Rattle.type_bounds.specs.PartsView.{IsSomePart}
use Rattle.type_bounds.specs.declared.meetings.End.{End}
use Rattle.type_bounds.specs.declared.meetings.End.TheVariants.{At, Var, Nowhere, Apart}
use Rattle.type_bounds.specs.NamedView.{join_named, AreSomeNamed}
use Rattle.type_bounds.proofs.General.{granted, refused}
use Rattle.type_bounds.proofs.BoundFalls.{arguments_fall, required_fall, optional_fall, named_fall, results_fall, marked_fall, type_weighs, param_weighs, name_weighs}
use Rattle.type_bounds.proofs.SomeParts.{some_type, some_interface, some_by, some_marked, some_marked_by, some_function, moved, moved_types, moved_named}
use Rattle.std.proofs.lemmas.List.Elements.{All-same}
use Rattle.std.specs.Prelude.{Contains, Option, MatchOption}
use Rattle.type_bounds.specs.KnownView.{known_bound}
use Rattle.type_bounds.specs.declared.parts.Part.{Part}
use Rattle.type_bounds.proofs.Knowns.{IsKnown, bound_found, bound_kept}
use Rattle.type_bounds.proofs.Rests.{completed, completed_named, one_more, one_more_named, uppers_end, lowers_end, lowers_end_right, uppers_step, lowers_step, upper_names_end, lower_names_end, upper_names_step, lower_names_step, other_names_step}
use Rattle.type_bounds.proofs.NamesBefore.{IsEachBefore, NamedSoFar, before_formed, before_later, before_with}
use Rattle.type_bounds.proofs.SignatureTests.{type_none, type_some, have_lower_counts, same_named_lists, same_length, names_at}
use Rattle.type_bounds.proofs.UpperSteps.{from_not, at_settled, at_settled_right, at_class_and_function, at_other_arguments, at_one_class, at_function_and_class, at_other_functions}
use Rattle.type_bounds.proofs.MeetingSteps.{comes_there}
use Rattle.type_bounds.proofs.LowerSteps.{either_holds, at_both_marks, at_no_function_left, at_no_function_right, at_lower_others}
use Rattle.type_bounds.proofs.uppers.+bounds.Goals.{upper_met-in-At+in_ok-part-in-At, upper_met-in-Var, upper_met-in-Nowhere, upper_met-in-Apart+in_ok-part-in-Apart, lower_named-in-Some+in_ok-part+in_ok-lowers, lower_named-in_default}
use Rattle.type_bounds.proofs.uppers.+bounds.Goals as goal

-- where two types meet
pub upper_met-upper_settled-requires : goal.upper_met-upper_settled-requires
upper_met-upper_settled-requires t c =
    let table = c.args.rows.now.table in
    let within = subst (λ (end : End). IsWithin table (weight_of table c.args.s.now + weight_of table c.args.t.now) end) c.in-Apart.is c.meet-meeting.ensures.0 in
    (omega (arith, within.3, c.decreases), (c.requires.known, (within.0, (within.1, within.2))))

pub upper_met-returns-clause-bound : goal.upper_met-returns-clause-bound
upper_met-returns-clause-bound t c =
    let table = c.args.rows.now.table in
    let end = c.meet-meeting.result.end in
    let part : IsSomePart (ComesTo table end) c.match-meeting.part = elim c.match-meeting.branch [
      | upper_met-in-At+in_ok-part-in-At w ↦ comes_there table end (At w.in-At.bound) c.match-meeting.part w.in_ok-part-in-At.part w.in-At.is w.part-is (w.in-At.bound.now, refl, w.in_ok-part-in-At.ensures)
      | upper_met-in-Var w ↦ comes_there table end (Var w.in-Var.var) c.match-meeting.part w.variable-part.result w.in-Var.is w.part-is (variable w.in-Var.var, refl, w.variable-part.ensures)
      | upper_met-in-Nowhere w ↦ comes_there table end Nowhere c.match-meeting.part w.invalid-part.result w.in-Nowhere.is w.part-is (invalid, refl, w.invalid-part.ensures)
      | upper_met-in-Apart+in_ok-part-in-Apart w ↦ comes_there table end (Apart w.in-Apart.left w.in-Apart.right) c.match-meeting.part w.in_ok-part-in-Apart.part w.in-Apart.is w.part-is w.in_ok-part-in-Apart.ensures.bound
    ]
    in some_marked_by (Upper table c.args.s.now c.args.t.now) c.with_mark.result (ComesTo table end) c.match-meeting.part c.meet-meeting.result.marked c.meet-meeting.ensures.1 part c.with_mark.ensures

pub upper_met-returns-clause-known : goal.upper_met-returns-clause-known
upper_met-returns-clause-known t c =
    let are = AreBounds c.args.rows.now.table in
    elim c.match-meeting.branch as (λ _. are c.match-meeting.known) [
      | upper_met-in-At+in_ok-part-in-At w ↦ subst are (sym w.known-is) c.requires.known
      | upper_met-in-Var w ↦ subst are (sym w.known-is) c.requires.known
      | upper_met-in-Nowhere w ↦ subst are (sym w.known-is) c.requires.known
      | upper_met-in-Apart+in_ok-part-in-Apart w ↦ subst are (sym w.known-is) w.in_ok-part-in-Apart.ensures.known
    ]

-- bounds that are kept
pub upper_once-returns-in-Some-clause-bound : goal.upper_once-returns-in-Some-clause-bound
upper_once-returns-in-Some-clause-bound t c =
    let items = c.args.known.now.bounds.items in
    let among = subst (λ (o : Option Part). MatchOption o (Unit {0}) (λ part. Contains items (known_bound c.args.s.now c.args.t.now part))) c.in-Some.is c.in_ok-found.ensures in
    bound_found c.args.rows.now.table c.args.s.now c.args.t.now c.in-Some.part items c.requires.known among

pub upper_once-returns-in_err-keep-clause-known : goal.upper_once-returns-in_err-keep-clause-known
upper_once-returns-in_err-keep-clause-known t c =
    All-same (IsKnown c.args.rows.now.table) c.keep.new.self.bounds.items c.upper_met.new.known.bounds.items c.in_err-keep.ensures.err c.in_ok-bound.ensures.known

pub upper_once-returns-clause-known : goal.upper_once-returns-clause-known
upper_once-returns-clause-known t c =
    bound_kept c.args.rows.now.table c.args.s.now c.args.t.now c.in_ok-bound.bound c.upper_met.new.known.bounds.items c.keep.new.self.bounds.items c.in_ok-keep.ensures.ok c.in_ok-bound.ensures.known c.in_ok-bound.ensures.bound

-- types that are no variables
pub upper_settled-returns-in_default-clause-bound : goal.upper_settled-returns-in_default-clause-bound
upper_settled-returns-in_default-clause-bound t c =
    (invalid, at_settled c.args.rows.now.table c.s.inside.node c.args.t.now c.s.view_is c.requires.apart c.requires.left c.requires.right c.in_default.not-Interface c.in_default.not-Function, c.invalid.ensures)

pub upper_of_class-returns-then-as_slice-clause-bound : goal.upper_of_class-returns-then-as_slice-clause-bound
upper_of_class-returns-then-as_slice-clause-bound t c = (
  invalid,
  at_other_arguments c.args.rows.now.table c.args.class c.in-Interface.other c.args.args.now c.in-Interface.others.value (sym c.t.view_is ∙ ap type_of c.in-Interface.is) (from_not c.if-ne.ensures)
      (λ e. c.if-as_slice.true (ap length c.as_slice.ensures ∙ e ∙ sym (ap length (c.as_slice-in-Interface.ensures ∙ c.deref-in-Interface.ensures)))),
  c.invalid.ensures,
)

pub upper_of_class-upper_all-requires : goal.upper_of_class-upper_all-requires
upper_of_class-upper_all-requires t c =
    let is : c.args.t.now ≡ interface c.in-Interface.other (types_of c.in-Interface.others.value) = sym c.t.view_is ∙ ap type_of c.in-Interface.is in
    let fall = arguments_fall c.args.rows.now.table c.args.class c.in-Interface.other c.args.args.now c.in-Interface.others.value c.as_slice-in-Interface-2.result.now c.as_slice-in-Interface-3.result.now is c.as_slice-in-Interface-2.ensures (c.as_slice-in-Interface-3.ensures ∙ c.deref-in-Interface-2.ensures) in
    let same : length c.as_slice-in-Interface-2.result.now ≡ length c.as_slice-in-Interface-3.result.now =
    ap length c.as_slice-in-Interface-2.ensures ∙ sym (ap length c.as_slice.ensures) ∙ c.if-as_slice.false ∙ ap length (c.as_slice-in-Interface.ensures ∙ c.deref-in-Interface.ensures) ∙ sym (ap length (c.as_slice-in-Interface-3.ensures ∙ c.deref-in-Interface-2.ensures))
    in
    (omega (arith, fall, c.decreases), (c.requires.known, same))

pub upper_of_class-returns-in-Function-clause-bound : goal.upper_of_class-returns-in-Function-clause-bound
upper_of_class-returns-in-Function-clause-bound t c =
    some_type (UpperApart c.args.rows.now.table (interface c.args.class (types_of c.args.args.now)) c.args.t.now) c.class.result object (at_class_and_function c.args.rows.now.table c.args.class (types_of c.args.args.now) c.in-Function.field-0.value (sym c.t.view_is ∙ ap type_of c.in-Function.is)) c.class.ensures

pub upper_of_class-returns-in_ok-uppers-in-Interface-clause-bound :
    goal.upper_of_class-returns-in_ok-uppers-in-Interface-clause-bound
upper_of_class-returns-in_ok-uppers-in-Interface-clause-bound t c =
    let uppers = c.in_ok-uppers-in-Interface.ensures.bound in
    some_interface (UpperApart c.args.rows.now.table (interface c.args.class (types_of c.args.args.now)) c.args.t.now) c.interface.result c.args.class c.in_ok-uppers-in-Interface.uppers (interface c.args.class uppers.0)
    (at_one_class c.args.rows.now.table c.args.class c.in-Interface.other c.args.args.now c.in-Interface.others.value (sym c.t.view_is ∙ ap type_of c.in-Interface.is) (from_not c.if-ne.ensures)
    (moved_types (Uppers c.args.rows.now.table) c.as_slice-in-Interface-2.ensures (c.as_slice-in-Interface-3.ensures ∙ c.deref-in-Interface-2.ensures) uppers.1))
    uppers.0 refl uppers.2 c.interface.ensures

pub upper_of_class-returns-in_default-clause-bound : goal.upper_of_class-returns-in_default-clause-bound
upper_of_class-returns-in_default-clause-bound t c =
    (invalid, at_settled_right c.args.rows.now.table (interface c.args.class (types_of c.args.args.now)) c.t.inside.node c.t.view_is c.requires.apart refl c.requires.right c.in_default.not-Interface c.in_default.not-Function, c.invalid-in_default.ensures)

pub upper_of_function-returns-then-not-have_upper-clause-bound :
    goal.upper_of_function-returns-then-not-have_upper-clause-bound
upper_of_function-returns-then-not-have_upper-clause-bound t c =
    let is : c.args.t.now ≡ function_type c.deref.result.now = sym c.t.view_is ∙ ap type_of c.in-Function.is ∙ ap function_type (sym c.deref.ensures) in
    some_type (UpperApart c.args.rows.now.table (function_type c.args.function.now) c.args.t.now) c.class.result (interface FUNCTION no_more) (at_other_functions c.args.rows.now.table c.args.function.now c.deref.result.now is (sym c.have_upper.ensures ∙ c.if-not-have_upper.true)) c.class.ensures

pub upper_of_function-returns-in-Interface-clause-bound : goal.upper_of_function-returns-in-Interface-clause-bound
upper_of_function-returns-in-Interface-clause-bound t c =
    some_type (UpperApart c.args.rows.now.table (function_type c.args.function.now) c.args.t.now) c.class-in-Interface.result object (at_function_and_class c.args.rows.now.table c.args.function.now c.in-Interface.class (types_of c.in-Interface.args.value) (sym c.t.view_is ∙ ap type_of c.in-Interface.is)) c.class-in-Interface.ensures

pub upper_of_function-returns-in_default-clause-bound : goal.upper_of_function-returns-in_default-clause-bound
upper_of_function-returns-in_default-clause-bound t c =
    (invalid, at_settled_right c.args.rows.now.table (function_type c.args.function.now) c.t.inside.node c.t.view_is c.requires.apart refl c.requires.right c.in_default.not-Interface c.in_default.not-Function, c.invalid.ensures)

-- two function types
pub upper_of_functions-lower_all-requires : goal.upper_of_functions-lower_all-requires
upper_of_functions-lower_all-requires t c =
    let fall = required_fall c.args.rows.now.table c.args.function.now c.args.other.now c.as_slice.result.now c.as_slice-2.result.now c.as_slice.ensures c.as_slice-2.ensures in
    (omega (arith, fall, c.decreases), c.requires.known)

pub upper_of_functions-lower_all-requires-2 : goal.upper_of_functions-lower_all-requires-2
upper_of_functions-lower_all-requires-2 t c =
    let fall = optional_fall c.args.rows.now.table c.args.function.now c.args.other.now c.as_slice-3.result.now c.as_slice-4.result.now c.as_slice-3.ensures c.as_slice-4.ensures in
    (omega (arith, fall, c.decreases), c.in_ok-required.ensures.known)

pub upper_of_functions-lower_named-requires : goal.upper_of_functions-lower_named-requires
upper_of_functions-lower_named-requires t c =
    let fall = named_fall c.args.rows.now.table c.args.function.now c.args.other.now c.as_slice-5.result.now c.args.other.now.named c.as_slice-5.ensures.same refl in
    (omega (arith, fall, c.decreases), (c.in_ok-optional.ensures.known, c.as_slice-5.ensures.in_order))

pub upper_of_functions-upper_part-requires : goal.upper_of_functions-upper_part-requires
upper_of_functions-upper_part-requires t c =
    let fall = results_fall c.args.rows.now.table c.args.function.now c.args.other.now in
    (omega (arith, fall, c.decreases), c.in_ok-named.ensures.known)

pub upper_of_functions-returns-clause-bound : goal.upper_of_functions-returns-clause-bound
upper_of_functions-returns-clause-bound t c =
    let table = c.args.rows.now.table in
    let f = c.args.function.now in
    let g = c.args.other.now in
    some_function (UpperApart table (function_type f) (function_type g)) c.function_part.result
    (LowerParams table (types_of c.as_slice.result.now) (types_of c.as_slice-2.result.now))
    (LowerParams table (types_of c.as_slice-3.result.now) (types_of c.as_slice-4.result.now))
    (LowerNamed table (named_of c.as_slice-5.result.now) (named_of g.named))
    (Upper table f.result g.result)
    c.in_ok-required.required c.in_ok-optional.optional c.in_ok-named.named c.in_ok-result.result
    (λ r o n e rs os ns a.
    upper_functions c.requires.has
    (moved_types (LowerParams table) c.as_slice.ensures c.as_slice-2.ensures rs)
    (moved_types (LowerParams table) c.as_slice-3.ensures c.as_slice-4.ensures os)
    (moved_named (LowerNamed table) c.as_slice-5.ensures.same refl ns)
    a)
    c.in_ok-required.ensures.bound c.in_ok-optional.ensures.bound c.in_ok-named.ensures.bound c.in_ok-result.ensures.bound c.function_part.ensures

-- lists of types
pub upper_all-upper_part-requires : goal.upper_all-upper_part-requires
upper_all-upper_part-requires t c =
    let a = type_weighs c.args.rows.now.table c.args.types.now c.loop-i.i c.index-types-i.result c.loop-i-test.true c.index-types-i.is in
    let b = type_weighs c.args.rows.now.table c.args.others.now c.loop-i.i c.index-others-i.result (omega arith) c.index-others-i.is in
    (omega (arith, a, b, c.decreases), c.loop-i.invariant.1)

pub upper_all-loop-i-preserved : goal.upper_all-loop-i-preserved
upper_all-loop-i-preserved t c =
    let table = c.args.rows.now.table in
    let so_far = c.loop-i.invariant.0 in
    let next = c.in_ok-part.ensures.bound in (
      (
        join so_far.0 (more next.0 no_more),
        one_more (Uppers table (types_of (drop c.loop-i.i c.args.types.now)) (types_of (drop c.loop-i.i c.args.others.now))) (Uppers table (types_of (drop (c.loop-i.i + 1) c.args.types.now)) (types_of (drop (c.loop-i.i + 1) c.args.others.now))) (Uppers table (types_of c.args.types.now) (types_of c.args.others.now)) so_far.0 next.0
            (uppers_step table c.args.types.now c.args.others.now c.loop-i.i c.index-types-i.result c.index-others-i.result next.0 c.loop-i-test.true (omega arith) c.index-types-i.is c.index-others-i.is next.1)
            so_far.1,
        c.in_ok-uppers.ensures so_far.0 next.0 so_far.2 next.2,
      ),
      c.in_ok-part.ensures.known,
    )

pub upper_all-returns-clause-bound : goal.upper_all-returns-clause-bound
upper_all-returns-clause-bound t c =
    let table = c.args.rows.now.table in
    let so_far = c.loop-i.invariant.0 in (
      so_far.0,
      completed (Uppers table (types_of (drop c.loop-i.i c.args.types.now)) (types_of (drop c.loop-i.i c.args.others.now))) (Uppers table (types_of c.args.types.now) (types_of c.args.others.now)) so_far.0
          (uppers_end table c.args.types.now c.args.others.now c.loop-i.i c.loop-i-test.false (omega arith))
          so_far.1,
      so_far.2,
    )

pub lower_all-lower_part-requires : goal.lower_all-lower_part-requires
lower_all-lower_part-requires t c =
    let a = type_weighs c.args.rows.now.table c.args.types.now c.loop-i.i c.index-types-i.result c.loop-i-test.true c.index-types-i.is in
    let b = type_weighs c.args.rows.now.table c.args.others.now c.loop-i.i c.index-others-i.result c.if-i-others.false c.index-others-i.is in
    (omega (arith, a, b, c.decreases), c.loop-i.invariant.1)

pub lower_all-returns-then-i-others-clause-bound : goal.lower_all-returns-then-i-others-clause-bound
lower_all-returns-then-i-others-clause-bound t c =
    let table = c.args.rows.now.table in
    let so_far = c.loop-i.invariant.0 in
    let here = get_or c.args.types.now c.loop-i.i invalid in (
      so_far.0,
      completed (LowerParams table (types_of (drop c.loop-i.i c.args.types.now)) (types_of (drop c.loop-i.i c.args.others.now))) (LowerParams table (types_of c.args.types.now) (types_of c.args.others.now)) so_far.0
          (lowers_end_right table c.args.types.now c.args.others.now c.loop-i.i here c.loop-i-test.true (get_or_default c.args.types.now c.loop-i.i invalid here c.loop-i-test.true) c.if-i-others.true)
          so_far.1,
      so_far.2,
    )

pub lower_all-loop-i-preserved : goal.lower_all-loop-i-preserved
lower_all-loop-i-preserved t c =
    let table = c.args.rows.now.table in
    let so_far = c.loop-i.invariant.0 in
    let next = c.in_ok-part.ensures.bound in (
      (
        join so_far.0 (more next.0 no_more),
        one_more (LowerParams table (types_of (drop c.loop-i.i c.args.types.now)) (types_of (drop c.loop-i.i c.args.others.now))) (LowerParams table (types_of (drop (c.loop-i.i + 1) c.args.types.now)) (types_of (drop (c.loop-i.i + 1) c.args.others.now))) (LowerParams table (types_of c.args.types.now) (types_of c.args.others.now)) so_far.0 next.0
            (lowers_step table c.args.types.now c.args.others.now c.loop-i.i c.index-types-i.result c.index-others-i.result next.0 c.loop-i-test.true c.if-i-others.false c.index-types-i.is c.index-others-i.is next.1)
            so_far.1,
        c.in_ok-lowers.ensures so_far.0 next.0 so_far.2 next.2,
      ),
      c.in_ok-part.ensures.known,
    )

pub lower_all-returns-clause-bound : goal.lower_all-returns-clause-bound
lower_all-returns-clause-bound t c =
    let table = c.args.rows.now.table in
    let so_far = c.loop-i.invariant.0 in (
      so_far.0,
      completed (LowerParams table (types_of (drop c.loop-i.i c.args.types.now)) (types_of (drop c.loop-i.i c.args.others.now))) (LowerParams table (types_of c.args.types.now) (types_of c.args.others.now)) so_far.0
          (lowers_end table c.args.types.now c.args.others.now c.loop-i.i c.loop-i-test.false)
          so_far.1,
      so_far.2,
    )

-- named parameters
pub upper_named-bounds-others-i : goal.upper_named-bounds-others-i
upper_named-bounds-others-i t c = let same = same_length c.args.named.now c.args.others.now c.requires.same in omega arith

pub upper_named-upper_part-requires : goal.upper_named-upper_part-requires
upper_named-upper_part-requires t c =
    let same = same_length c.args.named.now c.args.others.now c.requires.same in
    let a = param_weighs c.args.rows.now.table c.args.named.now c.loop-i.i c.index-named-i.result c.loop-i-test.true c.index-named-i.is in
    let b = param_weighs c.args.rows.now.table c.args.others.now c.loop-i.i c.index-others-i.result (omega arith) c.index-others-i.is in
    (omega (arith, a, b, c.decreases), c.loop-i.invariant.1)

pub upper_named-with-requires : goal.upper_named-with-requires
upper_named-with-requires t c =
    let so_far = c.loop-i.invariant.0 in
    let before = so_far.1.1 c.loop-i.i c.index-named-i.result (omega arith) c.loop-i-test.true in
    before_formed c.loop-i.uppers.formed so_far.0 c.index-named-i.result.name so_far.2.1 (subst (λ (n : NamedType). IsEachBefore so_far.0 n.name) (sym c.index-named-i.is) before)

pub upper_named-loop-i-preserved : goal.upper_named-loop-i-preserved
upper_named-loop-i-preserved t c =
    let table = c.args.rows.now.table in
    let own = c.index-named-i.result in
    let other = c.index-others-i.result in
    let so_far = c.loop-i.invariant.0 in
    let next = c.in_ok-part.ensures.bound in
    let same = same_length c.args.named.now c.args.others.now c.requires.same in
    let within : c.loop-i.i < length c.args.others.now = omega arith in
    let names : bytes_eq own.name other.name ≡ true =
    ap (λ (n : NamedType). bytes_eq n.name other.name) c.index-named-i.is
    ∙ ap (λ (n : NamedType). bytes_eq (get_or c.args.named.now c.loop-i.i own).name n.name) c.index-others-i.is
    ∙ names_at c.args.named.now c.args.others.now c.loop-i.i own other c.requires.same c.loop-i-test.true
    in (
      (
        join_named so_far.0 (more_named own.name (own.required && other.required) next.0 no_named),
        (
          one_more_named (UpperNamed table (named_of (drop c.loop-i.i c.args.named.now)) (named_of (drop c.loop-i.i c.args.others.now))) (UpperNamed table (named_of (drop (c.loop-i.i + 1) c.args.named.now)) (named_of (drop (c.loop-i.i + 1) c.args.others.now))) (UpperNamed table (named_of c.args.named.now) (named_of c.args.others.now)) so_far.0 own.name (own.required && other.required) next.0
              (upper_names_step table c.args.named.now c.args.others.now c.loop-i.i own c.loop-i-test.true c.index-named-i.is other next.0 within c.index-others-i.is names next.1)
              so_far.1.0,
          before_with so_far.0 c.args.named.now c.loop-i.i own (own.required && other.required) next.0 c.requires.in_order c.loop-i-test.true c.index-named-i.is so_far.1.1,
        ),
        c.in_ok-uppers.ensures so_far.0 next.0 so_far.2 next.2,
      ),
      c.in_ok-part.ensures.known,
    )

pub upper_named-returns-clause-bound : goal.upper_named-returns-clause-bound
upper_named-returns-clause-bound t c =
    let table = c.args.rows.now.table in
    let so_far = c.loop-i.invariant.0 in
    let same = same_length c.args.named.now c.args.others.now c.requires.same in (
      so_far.0,
      completed_named (UpperNamed table (named_of (drop c.loop-i.i c.args.named.now)) (named_of (drop c.loop-i.i c.args.others.now))) (UpperNamed table (named_of c.args.named.now) (named_of c.args.others.now)) so_far.0
          (upper_names_end table c.args.named.now c.args.others.now c.loop-i.i c.loop-i-test.false (omega arith))
          so_far.1.0,
      so_far.2,
    )

pub lower_named-lower_part-requires : goal.lower_named-lower_part-requires
lower_named-lower_part-requires t c =
    let a = param_weighs c.args.rows.now.table c.args.named.now c.loop-i.i c.index-named-i.result c.loop-i-test.true c.index-named-i.is in
    let b = name_weighs c.args.rows.now.table (named_of c.args.others.now) c.index-named-i.result.name c.in-Some.other.now.ty (type_some c.args.others.now c.index-named-i.result.name c.in-Some.other.now (sym c.in-Some.ensures.found)) in
    (omega (arith, a, b, c.decreases), c.loop-i.invariant.1)

pub lower_named-with-requires : goal.lower_named-with-requires
lower_named-with-requires t c =
    let so_far = c.loop-i.invariant.0 in
    let before = so_far.1.1 c.loop-i.i c.index-named-i.result (omega arith) c.loop-i-test.true in
    before_formed c.loop-i.lowers.formed so_far.0 c.index-named-i.result.name so_far.2.1 (subst (λ (n : NamedType). IsEachBefore so_far.0 n.name) (sym c.index-named-i.is) before)

pub lower_named-loop-i-preserved : goal.lower_named-loop-i-preserved
lower_named-loop-i-preserved t c =
    let table = c.args.rows.now.table in
    let own = c.index-named-i.result in
    let so_far = c.loop-i.invariant.0 in
    let so = NamedSoFar (LowerNamed table (named_of (drop (c.loop-i.i + 1) c.args.named.now)) (named_of c.args.others.now)) (LowerNamed table (named_of c.args.named.now) (named_of c.args.others.now)) c.args.named.now (c.loop-i.i + 1) in
    elim c.match-get.branch as (λ _. AreSomeNamed so c.match-get.lowers × AreBounds table c.match-get.known) [
      | lower_named-in-Some+in_ok-part+in_ok-lowers w ↦
          let next = w.in_ok-part.ensures.bound in
          let other = w.in-Some.other.now in
          let found = sym w.in-Some.ensures.found in
          let required = own.required || other.required in
          let flag = c.named_parameter_laws.ensures.found c.args.others.now own.name other w.in-Some.ensures.in_order found in (
            subst (AreSomeNamed so) (sym w.lowers-is) (
              join_named so_far.0 (more_named own.name required next.0 no_named),
              (
                one_more_named (LowerNamed table (named_of (drop c.loop-i.i c.args.named.now)) (named_of c.args.others.now)) (LowerNamed table (named_of (drop (c.loop-i.i + 1) c.args.named.now)) (named_of c.args.others.now)) (LowerNamed table (named_of c.args.named.now) (named_of c.args.others.now)) so_far.0 own.name required next.0
                    (lower_names_step table c.args.named.now c.args.named.now c.loop-i.i own c.loop-i-test.true c.index-named-i.is (named_of c.args.others.now) other.ty next.0 other.required (sym flag) (type_some c.args.others.now own.name other found) next.1)
                    so_far.1.0,
                before_with so_far.0 c.args.named.now c.loop-i.i own required next.0 c.requires.in_order c.loop-i-test.true c.index-named-i.is so_far.1.1,
              ),
              w.in_ok-lowers.ensures so_far.0 next.0 so_far.2 next.2,
            ),
            subst (AreBounds table) (sym w.known-is) w.in_ok-part.ensures.known,
          )
      | lower_named-in_default w ↦ (
        subst (AreSomeNamed so) (sym w.lowers-is) (
          so_far.0,
          (
            λ vs rest. so_far.1.0 vs (other_names_step table c.args.named.now c.args.named.now c.loop-i.i own c.loop-i-test.true c.index-named-i.is (named_of c.args.others.now) (type_none c.args.others.now own.name (sym w.in_default.ensures.found)) vs rest),
            before_later so_far.0 c.args.named.now c.loop-i.i so_far.1.1,
          ),
          so_far.2,
        ),
        subst (AreBounds table) (sym w.known-is) c.loop-i.invariant.1,
      )
    ]

pub lower_named-returns-clause-bound : goal.lower_named-returns-clause-bound
lower_named-returns-clause-bound t c =
    let table = c.args.rows.now.table in
    let so_far = c.loop-i.invariant.0 in (
      so_far.0,
      completed_named (LowerNamed table (named_of (drop c.loop-i.i c.args.named.now)) (named_of c.args.others.now)) (LowerNamed table (named_of c.args.named.now) (named_of c.args.others.now)) so_far.0
          (lower_names_end table c.args.named.now c.args.others.now c.loop-i.i (named_of c.args.others.now) c.loop-i-test.false)
          so_far.1.0,
      so_far.2,
    )

-- lower bounds, by subtyping first
pub lower_part-returns-then-is_subtype-clause-bound : goal.lower_part-returns-then-is_subtype-clause-bound
lower_part-returns-then-is_subtype-clause-bound t c =
    some_type (Lower c.args.rows.now.table c.args.s.now c.args.t.now) c.of.result c.args.s.now (left_below (granted c.is_subtype.ensures.rules c.if-is_subtype.true)) c.of.ensures

pub lower_part-returns-then-is_subtype-2-clause-bound : goal.lower_part-returns-then-is_subtype-2-clause-bound
lower_part-returns-then-is_subtype-2-clause-bound t c =
    some_type (Lower c.args.rows.now.table c.args.s.now c.args.t.now) c.of-then-is_subtype-2.result c.args.t.now
    (right_below (refused c.is_subtype.ensures.rules c.if-is_subtype.false) (granted c.is_subtype-2.ensures.rules c.if-is_subtype-2.true))
    c.of-then-is_subtype-2.ensures

pub lower_part-returns-clause-bound : goal.lower_part-returns-clause-bound
lower_part-returns-clause-bound t c =
    some_by (Lower c.args.rows.now.table c.args.s.now c.args.t.now) c.lower_apart.result (LowerApart c.args.rows.now.table c.args.s.now c.args.t.now)
    (λ u a. lower_apart (refused c.is_subtype.ensures.rules c.if-is_subtype.false, refused c.is_subtype-2.ensures.rules c.if-is_subtype-2.false) a)
    c.lower_apart.ensures.bound

-- types with `?`
pub lower_apart-lower_part-requires : goal.lower_apart-lower_part-requires
lower_apart-lower_part-requires t c =
    let marked : (is_marked c.args.s.now && is_marked c.args.t.now) ≡ true = let e = c.is_marked.ensures in let f = c.is_marked-2.ensures in let g = c.if-is_marked.true in cc in
    let fall = marked_fall c.args.rows.now.table c.args.s.now c.args.t.now (either_holds (is_marked c.args.s.now) (is_marked c.args.t.now) marked) in
    let e = ap (weight_of c.args.rows.now.table) c.bare.ensures in
    let f = ap (weight_of c.args.rows.now.table) c.bare-then-is_marked.ensures in
    (omega (arith, fall, e, f, c.decreases), c.requires.known)

pub lower_apart-returns-then-is_marked-clause-bound : goal.lower_apart-returns-then-is_marked-clause-bound
lower_apart-returns-then-is_marked-clause-bound t c =
    let marked : (is_marked c.args.s.now && is_marked c.args.t.now) ≡ true = let e = c.is_marked.ensures in let f = c.is_marked-2.ensures in let g = c.if-is_marked.true in cc in
    let both = and_parts (is_marked c.args.s.now) (is_marked c.args.t.now) marked in
    some_marked (LowerApart c.args.rows.now.table c.args.s.now c.args.t.now) c.nullable.result (Lower c.args.rows.now.table c.bare.result.now c.bare-then-is_marked.result.now) c.in_ok-lower_part.field-0
    (λ u a. at_both_marks c.args.rows.now.table c.args.s.now c.args.t.now u both.0 both.1 (moved (Lower c.args.rows.now.table) c.bare.ensures c.bare-then-is_marked.ensures a))
    c.in_ok-lower_part.ensures.bound
    c.nullable.ensures

pub lower_apart-lower_part-requires-then-is_marked-2 :
    goal.lower_apart-lower_part-requires-then-is_marked-2
lower_apart-lower_part-requires-then-is_marked-2 t c =
    let marked : (is_marked c.args.s.now || is_marked c.args.t.now) ≡ true = let e = c.is_marked-3.ensures in let f = c.is_marked-4.ensures in let g = c.if-is_marked-2.true in cc in
    let fall = marked_fall c.args.rows.now.table c.args.s.now c.args.t.now marked in
    let e = ap (weight_of c.args.rows.now.table) c.bare-then-is_marked-2.ensures in
    let f = ap (weight_of c.args.rows.now.table) c.bare-then-is_marked-2-2.ensures in
    (omega (arith, fall, e, f, c.decreases), c.requires.known)

pub lower_apart-returns-then-is_marked-2-clause-bound : goal.lower_apart-returns-then-is_marked-2-clause-bound
lower_apart-returns-then-is_marked-2-clause-bound t c =
    let marked : (is_marked c.args.s.now || is_marked c.args.t.now) ≡ true = let e = c.is_marked-3.ensures in let f = c.is_marked-4.ensures in let g = c.if-is_marked-2.true in cc in
    let once : (is_marked c.args.s.now && is_marked c.args.t.now) ≡ false = let e = c.is_marked.ensures in let f = c.is_marked-2.ensures in let g = c.if-is_marked.false in cc in
    some_by (LowerApart c.args.rows.now.table c.args.s.now c.args.t.now) c.lower_part-then-is_marked-2.result (Lower c.args.rows.now.table c.bare-then-is_marked-2.result.now c.bare-then-is_marked-2-2.result.now)
    (λ u a. marked_once once marked (moved (Lower c.args.rows.now.table) c.bare-then-is_marked-2.ensures c.bare-then-is_marked-2-2.ensures a))
    c.lower_part-then-is_marked-2.ensures.bound

pub lower_apart-returns-in_default-clause-bound : goal.lower_apart-returns-in_default-clause-bound
lower_apart-returns-in_default-clause-bound t c =
    let unmarked : (is_marked c.args.s.now || is_marked c.args.t.now) ≡ false = let e = c.is_marked-3.ensures in let f = c.is_marked-4.ensures in let g = c.if-is_marked-2.false in cc in
    (never, at_no_function_left c.args.rows.now.table c.s.inside.node c.args.t.now c.s.view_is c.in_default.not-Function unmarked, c.never.ensures)

-- function types
pub lower_of_function-returns-then-not-have_lower-clause-bound :
    goal.lower_of_function-returns-then-not-have_lower-clause-bound
lower_of_function-returns-then-not-have_lower-clause-bound t c =
    let is : c.args.t.now ≡ function_type c.deref.result.now = sym c.t.view_is ∙ ap type_of c.in-Function.is ∙ ap function_type (sym c.deref.ensures) in
    (never, at_lower_others c.args.rows.now.table c.args.function.now c.deref.result.now is (sym c.have_lower.ensures ∙ c.if-not-have_lower.true), c.never.ensures)

pub lower_of_function-returns-in_default-clause-bound : goal.lower_of_function-returns-in_default-clause-bound
lower_of_function-returns-in_default-clause-bound t c =
    (never, at_no_function_right c.args.rows.now.table c.args.function.now c.t.inside.node c.t.view_is c.in_default.not-Function c.requires.bare, c.never-in_default.ensures)

pub lower_of_functions-upper_all-requires : goal.lower_of_functions-upper_all-requires
lower_of_functions-upper_all-requires t c =
    let same = have_lower_counts c.args.function.now c.args.other.now c.requires.has in
    let fall = required_fall c.args.rows.now.table c.args.function.now c.args.other.now c.as_slice.result.now c.as_slice-2.result.now c.as_slice.ensures c.as_slice-2.ensures in
    (omega (arith, fall, c.decreases), (c.requires.known, ap length c.as_slice.ensures ∙ same.0 ∙ sym (ap length c.as_slice-2.ensures)))

pub lower_of_functions-upper_all-requires-2 : goal.lower_of_functions-upper_all-requires-2
lower_of_functions-upper_all-requires-2 t c =
    let same = have_lower_counts c.args.function.now c.args.other.now c.requires.has in
    let fall = optional_fall c.args.rows.now.table c.args.function.now c.args.other.now c.as_slice-3.result.now c.as_slice-4.result.now c.as_slice-3.ensures c.as_slice-4.ensures in
    (omega (arith, fall, c.decreases), (c.in_ok-required.ensures.known, ap length c.as_slice-3.ensures ∙ same.1 ∙ sym (ap length c.as_slice-4.ensures)))

pub lower_of_functions-upper_named-requires : goal.lower_of_functions-upper_named-requires
lower_of_functions-upper_named-requires t c =
    let same = have_lower_counts c.args.function.now c.args.other.now c.requires.has in
    let fall = named_fall c.args.rows.now.table c.args.function.now c.args.other.now c.as_slice-5.result.now c.as_slice-6.result.now c.as_slice-5.ensures.same c.as_slice-6.ensures.same in
    (omega (arith, fall, c.decreases), (c.in_ok-optional.ensures.known, (c.as_slice-5.ensures.in_order, same_named_lists c.as_slice-5.ensures.same c.as_slice-6.ensures.same same.2)))

pub lower_of_functions-lower_part-requires : goal.lower_of_functions-lower_part-requires
lower_of_functions-lower_part-requires t c =
    let fall = results_fall c.args.rows.now.table c.args.function.now c.args.other.now in
    (omega (arith, fall, c.decreases), c.in_ok-named.ensures.known)

pub lower_of_functions-returns-clause-bound : goal.lower_of_functions-returns-clause-bound
lower_of_functions-returns-clause-bound t c =
    let table = c.args.rows.now.table in
    let f = c.args.function.now in
    let g = c.args.other.now in
    some_function (LowerApart table (function_type f) (function_type g)) c.function_part.result
    (Uppers table (types_of c.as_slice.result.now) (types_of c.as_slice-2.result.now))
    (Uppers table (types_of c.as_slice-3.result.now) (types_of c.as_slice-4.result.now))
    (UpperNamed table (named_of c.as_slice-5.result.now) (named_of c.as_slice-6.result.now))
    (Lower table f.result g.result)
    c.in_ok-required.required c.in_ok-optional.optional c.in_ok-named.named c.in_ok-result.result
    (λ r o n e rs os ns a.
    lower_functions c.requires.has
    (moved_types (Uppers table) c.as_slice.ensures c.as_slice-2.ensures rs)
    (moved_types (Uppers table) c.as_slice-3.ensures c.as_slice-4.ensures os)
    (moved_named (UpperNamed table) c.as_slice-5.ensures.same c.as_slice-6.ensures.same ns)
    a)
    c.in_ok-required.ensures.bound c.in_ok-optional.ensures.bound c.in_ok-named.ensures.bound c.in_ok-result.ensures.bound c.function_part.ensures
