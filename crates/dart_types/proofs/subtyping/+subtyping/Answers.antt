use Rattle.std.proofs.Common.{◌≡◌, ℕ, ◌+◌, ◌<◌, ◌≤◌, true, List, length, drop, get_or, refl, sym, ap, ◌∙◌, subst, arith, inl, inr}
use Rattle.std.specs.Prelude.{◌⊎◌, Contains, filter}
use Rattle.std.specs.Option.{option_map}
use Rattle.std.proofs.lemmas.List.{get_or_default, length-append}
use Rattle.dart_types.specs.Ty.{Ty, Types, nullable, promoted, interface, invalid, types_of, count}
use Rattle.dart_types.specs.Named.{named_of, names_of, AreInOrder}
use Rattle.dart_types.specs.NamedSearch.{StandsFrom, IsNotFrom}
use Rattle.dart_types.specs.Same.{same_class}
use Rattle.dart_types.specs.Measure.{measure}
use Rattle.dart_types.specs.Substitution.{put, put_all, put_named, by_params}
use Rattle.dart_types.specs.Scopes.{Frames, in_scope, close_all}
use Rattle.dart_types.specs.Forms.{form_of, seen_type, params_of}
use Rattle.dart_types.specs.Targets.{or_nullable}
use Rattle.dart_types.specs.Sub.{Sub, Subs, SubParams, required_in, right_top, right_nullable}
use Rattle.dart_types.specs.declared.types.NamedType.{NamedType}
use Rattle.dart_types.specs.declared.scopes.Form.{Form}
use Rattle.dart_types.specs.declared.superinterfaces.Superinterface.{Superinterface}
use Rattle.dart_types.specs.declared.ids.ClassId.{ClassId}
use Rattle.dart_types.specs.declared.ids.VarId.{VarId}
use Rattle.dart_types.specs.declared.ids.TheConstants.{OBJECT, FUNCTION}
use Rattle.dart_types.proofs.SameIds.{equal_from_same_class, same_class-refl}
use Rattle.dart_types.proofs.ClassSteps.{frame_all, contains_passed, passed_contains, below_no_interface, below_object, by_arguments, other_count, entry_below, entry_falls, none_below}
use Rattle.dart_types.proofs.FunctionSteps.{required_in-put, more_required, name_required, other_params, other_names, by_result, class_above}
use Rattle.dart_types.proofs.subtyping.+subtyping.Goals.{is_function_below-then-eq, is_function_below-else-eq}
use Rattle.dart_types.proofs.Inversions.{promoted_parts}
use Rattle.dart_types.proofs.MeasureFalls.{right_bare_falls, right_promoted_falls}
use Rattle.dart_types.proofs.Steps.{yes, no, granted, refused, onto, back, fall_right_nullable, fall_nullable, fall_promoted_var, fall_promoted_type, target_least, void_nullable, once_nullable, both_promoted, never_below_promoted, null_below_promoted, invalid_below_promoted, void_below_promoted, plain_below_promoted, nullable_below_promoted, by_variable, by_type, below_top, never_below, void_below, invalid_below, null_below, nullable_refused, nullable_below, variable_below, type_below, plain_below, is_the_variable, no_bound, next_variable, next_nullable, bound_nullable, bound_decides, bound_less, less_deep, less_deep_nullable, variable_promoted, next_promoted, next_promoted_nullable, bound_promoted, bound_promoted_less, bare_promoted_less, rooted}
use Rattle.dart_types.proofs.Places.{subs_length, subs_at, subs_step, subs_end, params_at, params_step, params_end, none_there, some_there, joined, parted, required_place, optional_place, count-types_of}
use Rattle.dart_types.proofs.SeenFalls.{argument_falls, param_falls, name_falls, result_falls}
use Rattle.dart_types.proofs.NameSteps.{name_missing, name_within, name_refused, name_granted, names_passed, names_done}
use Rattle.dart_types.proofs.subtyping.+subtyping.Goals as goal

-- arguments, of as many as there are
pub are_arguments_below-returns-then-args-others : goal.are_arguments_below-returns-then-args-others
are_arguments_below-returns-then-args-others t c =
    let a = c.args.args.now in
    let b = c.args.others.now in
    no (λ p. c.if-args-others.true (subs_length c.args.rows.now.table (in_scope a.scope.now) (in_scope b.scope.now) a.types.now b.types.now p))

pub are_arguments_below-is_below-requires : goal.are_arguments_below-is_below-requires
are_arguments_below-is_below-requires t c =
    let a = c.args.args.now in
    let b = c.args.others.now in
    let fall = argument_falls c.args.rows.now.table c.args.rows.now.formed (in_scope a.scope.now) (in_scope b.scope.now) c.args._class a.types.now b.types.now c.loop-i.i c.loop-i-test.true (omega arith) (c.form.ensures ∙ c.at-arg.ensures) (c.form-in-loop-i.ensures ∙ c.at-other.ensures) in
    (omega (arith, fall, c.decreases), tt)

pub are_arguments_below-returns-then-not-is_below : goal.are_arguments_below-returns-then-not-is_below
are_arguments_below-returns-then-not-is_below t c =
    let a = c.args.args.now in
    let b = c.args.others.now in
    let table = c.args.rows.now.table in
    no (λ p.
    refused c.is_below.ensures c.if-not-is_below.true
    (onto table (c.form.ensures ∙ c.at-arg.ensures) (c.form-in-loop-i.ensures ∙ c.at-other.ensures)
    (subs_at table (in_scope a.scope.now) (in_scope b.scope.now) a.types.now b.types.now c.loop-i.i invalid invalid p c.loop-i-test.true)))

pub are_arguments_below-loop-i-preserved : goal.are_arguments_below-loop-i-preserved
are_arguments_below-loop-i-preserved t c = λ rest.
    let a = c.args.args.now in
    let b = c.args.others.now in
    let table = c.args.rows.now.table in
    c.loop-i.invariant
    (subs_step table (in_scope a.scope.now) (in_scope b.scope.now) a.types.now b.types.now c.loop-i.i invalid invalid c.loop-i-test.true (omega arith)
    (back table (c.form.ensures ∙ c.at-arg.ensures) (c.form-in-loop-i.ensures ∙ c.at-other.ensures) (granted c.is_below.ensures c.if-not-is_below.false))
    rest)

pub are_arguments_below-returns : goal.are_arguments_below-returns
are_arguments_below-returns t c =
    let a = c.args.args.now in
    let b = c.args.others.now in
    yes (c.loop-i.invariant (subs_end c.args.rows.now.table (in_scope a.scope.now) (in_scope b.scope.now) a.types.now b.types.now c.loop-i.i (omega arith) (omega arith)))

-- named parameters
pub are_named_below-returns-in-None : goal.are_named_below-returns-in-None
are_named_below-returns-in-None t c =
    let f = c.args.function.now in
    let g = c.args.other.now in
    let named = g.function.now.named in
    let own = f.function.now.named in
    let same = c.as_slice-named.ensures.same in
    let same_own = c.as_slice-own.ensures.same in
    let d = c.index-named-i.result in
    let order = subst (λ (ns : List NamedType). AreInOrder (names_of ns)) same c.as_slice-named.ensures.in_order in
    let own_order = subst (λ (ns : List NamedType). AreInOrder (names_of ns)) same_own c.as_slice-own.ensures.in_order in
    let lt = subst (λ (ns : List NamedType). c.loop-i.i < length ns) same c.loop-i-test.true in
    let none =
    subst (λ (ns : List NamedType). IsNotFrom (names_of own) c.loop-i.from (get_or ns c.loop-i.i d).name) same
    (subst (λ (ns : List NamedType). IsNotFrom (names_of ns) c.loop-i.from (get_or c.as_slice-named.result.now c.loop-i.i d).name) same_own c.in-None.ensures) in
    name_missing c.args.rows.now.table (in_scope f.scope.now) (in_scope g.scope.now) named own order own_order c.loop-i.from c.loop-i.i d lt c.loop-i.invariant.1 none

pub are_named_below-is_below-requires : goal.are_named_below-is_below-requires
are_named_below-is_below-requires t c =
    let f = c.args.function.now in
    let g = c.args.other.now in
    let named = g.function.now.named in
    let own = f.function.now.named in
    let same = c.as_slice-named.ensures.same in
    let same_own = c.as_slice-own.ensures.same in
    let d = c.index-named-i.result in
    let o = c.index-own-at.result in
    let order = subst (λ (ns : List NamedType). AreInOrder (names_of ns)) same c.as_slice-named.ensures.in_order in
    let own_order = subst (λ (ns : List NamedType). AreInOrder (names_of ns)) same_own c.as_slice-own.ensures.in_order in
    let lt : c.loop-i.i < length named = subst (λ (ns : List NamedType). c.loop-i.i < length ns) same c.loop-i-test.true in
    let stands : StandsFrom (names_of own) c.loop-i.from (get_or named c.loop-i.i d).name c.in-Some.at =
    subst (λ (ns : List NamedType). StandsFrom (names_of own) c.loop-i.from (get_or ns c.loop-i.i d).name c.in-Some.at) same
    (subst (λ (ns : List NamedType). StandsFrom (names_of ns) c.loop-i.from (get_or c.as_slice-named.result.now c.loop-i.i d).name c.in-Some.at) same_own c.in-Some.ensures) in
    let param : form_of c.form.result ≡ put (in_scope g.scope.now) (get_or named c.loop-i.i d).ty =
    c.form.ensures
    ∙ ap (λ (ns : List NamedType). put (in_scope g.scope.now) (get_or ns c.loop-i.i c.index-named-i-in-loop-i.result).ty) same
    ∙ ap (λ (n : NamedType). put (in_scope g.scope.now) n.ty) (get_or_default named c.loop-i.i c.index-named-i-in-loop-i.result d lt) in
    let own_param : form_of c.form-in-loop-i.result ≡ put (in_scope f.scope.now) (get_or own c.in-Some.at o).ty =
    c.form-in-loop-i.ensures
    ∙ ap (λ (ns : List NamedType). put (in_scope f.scope.now) (get_or ns c.in-Some.at o).ty) same_own in
    let table = c.args.rows.now.table in
    let within = name_within table (in_scope f.scope.now) (in_scope g.scope.now) named own order own_order c.loop-i.from c.loop-i.i d lt c.in-Some.at o stands in
    let fall = name_falls table c.args.rows.now.formed (in_scope f.scope.now) (in_scope g.scope.now) f.function.now g.function.now c.in-Some.at c.loop-i.i o d within lt own_param param in
    (omega (arith, fall, c.decreases), tt)

pub are_named_below-returns-then-not-is_below : goal.are_named_below-returns-then-not-is_below
are_named_below-returns-then-not-is_below t c =
    let f = c.args.function.now in
    let g = c.args.other.now in
    let named = g.function.now.named in
    let own = f.function.now.named in
    let same = c.as_slice-named.ensures.same in
    let same_own = c.as_slice-own.ensures.same in
    let d = c.index-named-i.result in
    let o = c.index-own-at.result in
    let order = subst (λ (ns : List NamedType). AreInOrder (names_of ns)) same c.as_slice-named.ensures.in_order in
    let own_order = subst (λ (ns : List NamedType). AreInOrder (names_of ns)) same_own c.as_slice-own.ensures.in_order in
    let lt : c.loop-i.i < length named = subst (λ (ns : List NamedType). c.loop-i.i < length ns) same c.loop-i-test.true in
    let stands : StandsFrom (names_of own) c.loop-i.from (get_or named c.loop-i.i d).name c.in-Some.at =
    subst (λ (ns : List NamedType). StandsFrom (names_of own) c.loop-i.from (get_or ns c.loop-i.i d).name c.in-Some.at) same
    (subst (λ (ns : List NamedType). StandsFrom (names_of ns) c.loop-i.from (get_or c.as_slice-named.result.now c.loop-i.i d).name c.in-Some.at) same_own c.in-Some.ensures) in
    let param : form_of c.form.result ≡ put (in_scope g.scope.now) (get_or named c.loop-i.i d).ty =
    c.form.ensures
    ∙ ap (λ (ns : List NamedType). put (in_scope g.scope.now) (get_or ns c.loop-i.i c.index-named-i-in-loop-i.result).ty) same
    ∙ ap (λ (n : NamedType). put (in_scope g.scope.now) n.ty) (get_or_default named c.loop-i.i c.index-named-i-in-loop-i.result d lt) in
    let own_param : form_of c.form-in-loop-i.result ≡ put (in_scope f.scope.now) (get_or own c.in-Some.at o).ty =
    c.form-in-loop-i.ensures
    ∙ ap (λ (ns : List NamedType). put (in_scope f.scope.now) (get_or ns c.in-Some.at o).ty) same_own in
    let table = c.args.rows.now.table in
    name_refused table (in_scope f.scope.now) (in_scope g.scope.now) named own order own_order c.loop-i.from c.loop-i.i d lt c.in-Some.at o stands
    (λ a. refused c.is_below.ensures c.if-not-is_below.true (onto table param own_param a))

pub are_named_below-loop-i-preserved : goal.are_named_below-loop-i-preserved
are_named_below-loop-i-preserved t c =
    let f = c.args.function.now in
    let g = c.args.other.now in
    let named = g.function.now.named in
    let own = f.function.now.named in
    let same = c.as_slice-named.ensures.same in
    let same_own = c.as_slice-own.ensures.same in
    let d = c.index-named-i.result in
    let o = c.index-own-at.result in
    let order = subst (λ (ns : List NamedType). AreInOrder (names_of ns)) same c.as_slice-named.ensures.in_order in
    let own_order = subst (λ (ns : List NamedType). AreInOrder (names_of ns)) same_own c.as_slice-own.ensures.in_order in
    let lt : c.loop-i.i < length named = subst (λ (ns : List NamedType). c.loop-i.i < length ns) same c.loop-i-test.true in
    let stands : StandsFrom (names_of own) c.loop-i.from (get_or named c.loop-i.i d).name c.in-Some.at =
    subst (λ (ns : List NamedType). StandsFrom (names_of own) c.loop-i.from (get_or ns c.loop-i.i d).name c.in-Some.at) same
    (subst (λ (ns : List NamedType). StandsFrom (names_of ns) c.loop-i.from (get_or c.as_slice-named.result.now c.loop-i.i d).name c.in-Some.at) same_own c.in-Some.ensures) in
    let param : form_of c.form.result ≡ put (in_scope g.scope.now) (get_or named c.loop-i.i d).ty =
    c.form.ensures
    ∙ ap (λ (ns : List NamedType). put (in_scope g.scope.now) (get_or ns c.loop-i.i c.index-named-i-in-loop-i.result).ty) same
    ∙ ap (λ (n : NamedType). put (in_scope g.scope.now) n.ty) (get_or_default named c.loop-i.i c.index-named-i-in-loop-i.result d lt) in
    let own_param : form_of c.form-in-loop-i.result ≡ put (in_scope f.scope.now) (get_or own c.in-Some.at o).ty =
    c.form-in-loop-i.ensures
    ∙ ap (λ (ns : List NamedType). put (in_scope f.scope.now) (get_or ns c.in-Some.at o).ty) same_own in
    let table = c.args.rows.now.table in
    let a = back table param own_param (granted c.is_below.ensures c.if-not-is_below.false) in
    let within = name_within table (in_scope f.scope.now) (in_scope g.scope.now) named own order own_order c.loop-i.from c.loop-i.i d lt c.in-Some.at o stands in (
      λ rest. name_granted table (in_scope f.scope.now) (in_scope g.scope.now) named own order own_order c.loop-i.from c.loop-i.i d lt c.in-Some.at o stands a c.loop-i.invariant.0 rest,
      names_passed table (in_scope f.scope.now) (in_scope g.scope.now) named own order own_order c.loop-i.from c.loop-i.i d lt c.in-Some.at o stands,
      omega (arith, within),
    )

pub are_named_below-returns : goal.are_named_below-returns
are_named_below-returns t c =
    let f = c.args.function.now in
    let g = c.args.other.now in
    let same = c.as_slice-named.ensures.same in
    let same_own = c.as_slice-own.ensures.same in
    let order = subst (λ (ns : List NamedType). AreInOrder (names_of ns)) same c.as_slice-named.ensures.in_order in
    let own_order = subst (λ (ns : List NamedType). AreInOrder (names_of ns)) same_own c.as_slice-own.ensures.in_order in
    let le : length g.function.now.named ≤ c.loop-i.i = omega (arith, ap (λ (ns : List NamedType). length ns) same) in
    names_done c.args.rows.now.table (in_scope f.scope.now) (in_scope g.scope.now) g.function.now.named f.function.now.named order own_order c.loop-i.i le c.loop-i.invariant.0

-- positional parameters
pub are_params_below-loop-i-init : goal.are_params_below-loop-i-init
are_params_below-loop-i-init t c = λ p.
    let f = c.args.function.now in
    let g = c.args.other.now in
    joined c.args.rows.now.table (in_scope g.scope.now) (in_scope f.scope.now) g.function.now.required g.function.now.optional f.function.now.required f.function.now.optional p

pub are_params_below-returns-in-None : goal.are_params_below-returns-in-None
are_params_below-returns-in-None t c =
    let f = c.args.function.now in
    let g = c.args.other.now in
    let σ = in_scope f.scope.now in
    let τ = in_scope g.scope.now in
    let own = params_of f.function.now in
    let others = params_of g.function.now in
    let table = c.args.rows.now.table in
    let i = c.loop-i.i in
    let lt : i < length g.function.now.required = subst (λ (ts : List Ty). i < length ts) c.as_slice-required.ensures c.loop-i-test.true in
    let within : i < length others = rw (length-append g.function.now.required g.function.now.optional) (omega (arith, lt)) in
    let past = none_there (put σ) own i (sym (ap (option_map seen_type) c.in-None.is) ∙ c.param.ensures) in
    no (λ p.
    let at = params_at table τ σ others own i invalid invalid (parted table τ σ g.function.now.required g.function.now.optional f.function.now.required f.function.now.optional p) within in
    absurd (omega (arith, at.0, past)))

pub are_params_below-is_below-requires : goal.are_params_below-is_below-requires
are_params_below-is_below-requires t c =
    let f = c.args.function.now in
    let g = c.args.other.now in
    let σ = in_scope f.scope.now in
    let τ = in_scope g.scope.now in
    let own = params_of f.function.now in
    let others = params_of g.function.now in
    let table = c.args.rows.now.table in
    let i = c.loop-i.i in
    let lt : i < length g.function.now.required = subst (λ (ts : List Ty). i < length ts) c.as_slice-required.ensures c.loop-i-test.true in
    let within : i < length others = rw (length-append g.function.now.required g.function.now.optional) (omega (arith, lt)) in
    let there = some_there (put σ) own i (seen_type c.in-Some.own) (sym (ap (option_map seen_type) c.in-Some.is) ∙ c.param.ensures) in
    let own_param : form_of c.form-in-loop-i.result ≡ put σ (get_or own i invalid) = c.form-in-loop-i.ensures ∙ there.1 in
    let param : form_of c.form.result ≡ put τ (get_or others i invalid) =
    c.form.ensures
    ∙ ap (put τ) c.index-required-i.is
    ∙ ap (λ (ts : List Ty). put τ (get_or ts i c.index-required-i.result)) c.as_slice-required.ensures
    ∙ required_place τ g.function.now.required g.function.now.optional i c.index-required-i.result lt in
    let fall = param_falls table c.args.rows.now.formed σ τ f.function.now g.function.now i i there.0 within own_param param in
    (omega (arith, fall, c.decreases), tt)

pub are_params_below-returns-then-not-is_below : goal.are_params_below-returns-then-not-is_below
are_params_below-returns-then-not-is_below t c =
    let f = c.args.function.now in
    let g = c.args.other.now in
    let σ = in_scope f.scope.now in
    let τ = in_scope g.scope.now in
    let own = params_of f.function.now in
    let others = params_of g.function.now in
    let table = c.args.rows.now.table in
    let i = c.loop-i.i in
    let lt : i < length g.function.now.required = subst (λ (ts : List Ty). i < length ts) c.as_slice-required.ensures c.loop-i-test.true in
    let within : i < length others = rw (length-append g.function.now.required g.function.now.optional) (omega (arith, lt)) in
    let there = some_there (put σ) own i (seen_type c.in-Some.own) (sym (ap (option_map seen_type) c.in-Some.is) ∙ c.param.ensures) in
    let own_param : form_of c.form-in-loop-i.result ≡ put σ (get_or own i invalid) = c.form-in-loop-i.ensures ∙ there.1 in
    let param : form_of c.form.result ≡ put τ (get_or others i invalid) =
    c.form.ensures
    ∙ ap (put τ) c.index-required-i.is
    ∙ ap (λ (ts : List Ty). put τ (get_or ts i c.index-required-i.result)) c.as_slice-required.ensures
    ∙ required_place τ g.function.now.required g.function.now.optional i c.index-required-i.result lt in
    no (λ p.
    let at = params_at table τ σ others own i invalid invalid (parted table τ σ g.function.now.required g.function.now.optional f.function.now.required f.function.now.optional p) within in
    refused c.is_below.ensures c.if-not-is_below.true (onto table param own_param at.1))

pub are_params_below-loop-i-preserved : goal.are_params_below-loop-i-preserved
are_params_below-loop-i-preserved t c = λ rest.
    let f = c.args.function.now in
    let g = c.args.other.now in
    let σ = in_scope f.scope.now in
    let τ = in_scope g.scope.now in
    let own = params_of f.function.now in
    let others = params_of g.function.now in
    let table = c.args.rows.now.table in
    let i = c.loop-i.i in
    let lt : i < length g.function.now.required = subst (λ (ts : List Ty). i < length ts) c.as_slice-required.ensures c.loop-i-test.true in
    let within : i < length others = rw (length-append g.function.now.required g.function.now.optional) (omega (arith, lt)) in
    let there = some_there (put σ) own i (seen_type c.in-Some.own) (sym (ap (option_map seen_type) c.in-Some.is) ∙ c.param.ensures) in
    let own_param : form_of c.form-in-loop-i.result ≡ put σ (get_or own i invalid) = c.form-in-loop-i.ensures ∙ there.1 in
    let param : form_of c.form.result ≡ put τ (get_or others i invalid) =
    c.form.ensures
    ∙ ap (put τ) c.index-required-i.is
    ∙ ap (λ (ts : List Ty). put τ (get_or ts i c.index-required-i.result)) c.as_slice-required.ensures
    ∙ required_place τ g.function.now.required g.function.now.optional i c.index-required-i.result lt in
    let a = back table param own_param (granted c.is_below.ensures c.if-not-is_below.false) in
    c.loop-i.invariant (params_step table τ σ others own i invalid invalid within there.0 a rest)

pub are_params_below-returns-in-None-param_after : goal.are_params_below-returns-in-None-param_after
are_params_below-returns-in-None-param_after t c =
    let f = c.args.function.now in
    let g = c.args.other.now in
    let σ = in_scope f.scope.now in
    let τ = in_scope g.scope.now in
    let own = params_of f.function.now in
    let others = params_of g.function.now in
    let table = c.args.rows.now.table in
    let i = c.loop-i-2.i in
    let n = length c.as_slice-required.result.now in
    let count : n ≡ length g.function.now.required = ap (λ (ts : List Ty). length ts) c.as_slice-required.ensures in
    let lt : i < length g.function.now.optional = subst (λ (ts : List Ty). i < length ts) c.as_slice-optional.ensures c.loop-i-2-test.true in
    let within : n + i < length others = rw (length-append g.function.now.required g.function.now.optional) (omega (arith, lt, count)) in
    let past = none_there (put σ) own (n + i) (sym (ap (option_map seen_type) c.in-None-param_after.is) ∙ c.param_after.ensures) in
    no (λ p.
    let at = params_at table τ σ others own (n + i) invalid invalid (parted table τ σ g.function.now.required g.function.now.optional f.function.now.required f.function.now.optional p) within in
    absurd (omega (arith, at.0, past)))

pub are_params_below-is_below-requires-in-loop-i-2 : goal.are_params_below-is_below-requires-in-loop-i-2
are_params_below-is_below-requires-in-loop-i-2 t c =
    let f = c.args.function.now in
    let g = c.args.other.now in
    let σ = in_scope f.scope.now in
    let τ = in_scope g.scope.now in
    let own = params_of f.function.now in
    let others = params_of g.function.now in
    let table = c.args.rows.now.table in
    let i = c.loop-i-2.i in
    let n = length c.as_slice-required.result.now in
    let count : n ≡ length g.function.now.required = ap (λ (ts : List Ty). length ts) c.as_slice-required.ensures in
    let lt : i < length g.function.now.optional = subst (λ (ts : List Ty). i < length ts) c.as_slice-optional.ensures c.loop-i-2-test.true in
    let within : n + i < length others = rw (length-append g.function.now.required g.function.now.optional) (omega (arith, lt, count)) in
    let there = some_there (put σ) own (n + i) (seen_type c.in-Some-param_after.own) (sym (ap (option_map seen_type) c.in-Some-param_after.is) ∙ c.param_after.ensures) in
    let own_param : form_of c.form-in-loop-i-2-2.result ≡ put σ (get_or own (n + i) invalid) = c.form-in-loop-i-2-2.ensures ∙ there.1 in
    let param : form_of c.form-in-loop-i-2.result ≡ put τ (get_or others (n + i) invalid) =
    c.form-in-loop-i-2.ensures
    ∙ ap (put τ) c.index-optional-i.is
    ∙ ap (λ (ts : List Ty). put τ (get_or ts i c.index-optional-i.result)) c.as_slice-optional.ensures
    ∙ optional_place τ g.function.now.required g.function.now.optional i c.index-optional-i.result lt
    ∙ ap (λ (k : ℕ). put τ (get_or others (k + i) invalid)) (sym count) in
    let fall = param_falls table c.args.rows.now.formed σ τ f.function.now g.function.now (n + i) (n + i) there.0 within own_param param in
    (omega (arith, fall, c.decreases), tt)

pub are_params_below-returns-then-not-is_below-2 : goal.are_params_below-returns-then-not-is_below-2
are_params_below-returns-then-not-is_below-2 t c =
    let f = c.args.function.now in
    let g = c.args.other.now in
    let σ = in_scope f.scope.now in
    let τ = in_scope g.scope.now in
    let own = params_of f.function.now in
    let others = params_of g.function.now in
    let table = c.args.rows.now.table in
    let i = c.loop-i-2.i in
    let n = length c.as_slice-required.result.now in
    let count : n ≡ length g.function.now.required = ap (λ (ts : List Ty). length ts) c.as_slice-required.ensures in
    let lt : i < length g.function.now.optional = subst (λ (ts : List Ty). i < length ts) c.as_slice-optional.ensures c.loop-i-2-test.true in
    let within : n + i < length others = rw (length-append g.function.now.required g.function.now.optional) (omega (arith, lt, count)) in
    let there = some_there (put σ) own (n + i) (seen_type c.in-Some-param_after.own) (sym (ap (option_map seen_type) c.in-Some-param_after.is) ∙ c.param_after.ensures) in
    let own_param : form_of c.form-in-loop-i-2-2.result ≡ put σ (get_or own (n + i) invalid) = c.form-in-loop-i-2-2.ensures ∙ there.1 in
    let param : form_of c.form-in-loop-i-2.result ≡ put τ (get_or others (n + i) invalid) =
    c.form-in-loop-i-2.ensures
    ∙ ap (put τ) c.index-optional-i.is
    ∙ ap (λ (ts : List Ty). put τ (get_or ts i c.index-optional-i.result)) c.as_slice-optional.ensures
    ∙ optional_place τ g.function.now.required g.function.now.optional i c.index-optional-i.result lt
    ∙ ap (λ (k : ℕ). put τ (get_or others (k + i) invalid)) (sym count) in
    no (λ p.
    let at = params_at table τ σ others own (n + i) invalid invalid (parted table τ σ g.function.now.required g.function.now.optional f.function.now.required f.function.now.optional p) within in
    refused c.is_below-in-loop-i-2.ensures c.if-not-is_below-2.true (onto table param own_param at.1))

pub are_params_below-loop-i-2-preserved : goal.are_params_below-loop-i-2-preserved
are_params_below-loop-i-2-preserved t c = λ rest.
    let f = c.args.function.now in
    let g = c.args.other.now in
    let σ = in_scope f.scope.now in
    let τ = in_scope g.scope.now in
    let own = params_of f.function.now in
    let others = params_of g.function.now in
    let table = c.args.rows.now.table in
    let i = c.loop-i-2.i in
    let n = length c.as_slice-required.result.now in
    let count : n ≡ length g.function.now.required = ap (λ (ts : List Ty). length ts) c.as_slice-required.ensures in
    let lt : i < length g.function.now.optional = subst (λ (ts : List Ty). i < length ts) c.as_slice-optional.ensures c.loop-i-2-test.true in
    let within : n + i < length others = rw (length-append g.function.now.required g.function.now.optional) (omega (arith, lt, count)) in
    let there = some_there (put σ) own (n + i) (seen_type c.in-Some-param_after.own) (sym (ap (option_map seen_type) c.in-Some-param_after.is) ∙ c.param_after.ensures) in
    let own_param : form_of c.form-in-loop-i-2-2.result ≡ put σ (get_or own (n + i) invalid) = c.form-in-loop-i-2-2.ensures ∙ there.1 in
    let param : form_of c.form-in-loop-i-2.result ≡ put τ (get_or others (n + i) invalid) =
    c.form-in-loop-i-2.ensures
    ∙ ap (put τ) c.index-optional-i.is
    ∙ ap (λ (ts : List Ty). put τ (get_or ts i c.index-optional-i.result)) c.as_slice-optional.ensures
    ∙ optional_place τ g.function.now.required g.function.now.optional i c.index-optional-i.result lt
    ∙ ap (λ (k : ℕ). put τ (get_or others (k + i) invalid)) (sym count) in
    let a = back table param own_param (granted c.is_below-in-loop-i-2.ensures c.if-not-is_below-2.false) in
    let next : n + (i + 1) ≡ n + i + 1 = omega arith in
    c.loop-i-2.invariant
    (params_step table τ σ others own (n + i) invalid invalid within there.0 a
    (subst (λ (k : ℕ). SubParams table (put_all τ (types_of (drop k others))) (put_all σ (types_of (drop k own)))) next rest))

pub are_params_below-returns : goal.are_params_below-returns
are_params_below-returns t c =
    let f = c.args.function.now in
    let g = c.args.other.now in
    let σ = in_scope f.scope.now in
    let τ = in_scope g.scope.now in
    let own = params_of f.function.now in
    let others = params_of g.function.now in
    let i = c.loop-i-2.i in
    let n = length c.as_slice-required.result.now in
    let count : n ≡ length g.function.now.required = ap (λ (ts : List Ty). length ts) c.as_slice-required.ensures in
    let le : length g.function.now.optional ≤ i = subst (λ (ts : List Ty). length ts ≤ i) c.as_slice-optional.ensures c.loop-i-2-test.false in
    let all : length others ≤ n + i = rw (length-append g.function.now.required g.function.now.optional) (omega (arith, le, count)) in
    yes (c.loop-i-2.invariant (params_end c.args.rows.now.table τ σ others own (n + i) (put_all σ (types_of (drop (n + i) own))) all))

-- a top type on the right
pub is_below-returns-in-Void : goal.is_below-returns-in-Void
is_below-returns-in-Void t c = yes (subst (λ (f : Form). Sub c.args.rows.now.table (form_of c.args.s.now) (form_of f)) (sym c.in-Void.is) (right_top refl))

-- a bare type on the right
pub is_below_bare-returns-then-is_top : goal.is_below_bare-returns-then-is_top
is_below_bare-returns-then-is_top t c = below_top c.args.rows.now.table c.args.rows.now.formed c.args.or_null (form_of c.args.t.now) c.requires (granted c.is_top.ensures c.if-is_top.true)

pub is_below_bare-returns-then-not-admits_null : goal.is_below_bare-returns-then-not-admits_null
is_below_bare-returns-then-not-admits_null t c =
    nullable_refused c.args.rows.now.table c.args.rows.now.formed c.args.or_null (form_of c.args.t.now) c.requires (λ e o. refused c.is_top.ensures c.if-is_top.false (e, o)) (ap form_of c.in-Nullable.is) (λ k. refused c.admits_null-in-Nullable.ensures c.if-not-admits_null.true k)

pub is_below_bare-is_below_bare-requires : goal.is_below_bare-is_below_bare-requires
is_below_bare-is_below_bare-requires t c =
    let fall = fall_nullable c.args.rows.now.table c.args.rows.now.formed (or_nullable c.args.or_null (form_of c.args.t.now)) (ap form_of c.in-Nullable.is) c.form.ensures in
    (omega (arith, fall, c.decreases), c.requires)

pub is_below_bare-is_var_below_bare-requires-in-Promoted : goal.is_below_bare-is_var_below_bare-requires-in-Promoted
is_below_bare-is_var_below_bare-requires-in-Promoted t c =
    let fall = fall_promoted_var c.args.rows.now.table c.args.rows.now.formed (or_nullable c.args.or_null (form_of c.args.t.now)) (ap form_of c.in-Promoted.is) in
    (omega (arith, fall, c.decreases), (c.requires, (λ e o. refused c.is_top.ensures c.if-is_top.false (e, o))))

pub is_below_bare-returns-then-is_var_below_bare : goal.is_below_bare-returns-then-is_var_below_bare
is_below_bare-returns-then-is_var_below_bare t c =
    variable_below c.args.rows.now.table c.args.rows.now.formed c.args.or_null (form_of c.args.t.now) c.requires (λ e o. refused c.is_top.ensures c.if-is_top.false (e, o)) (ap form_of c.in-Promoted.is) (granted c.is_var_below_bare-in-Promoted.ensures c.if-is_var_below_bare.true)

pub is_below_bare-is_below_bare-requires-in-Promoted : goal.is_below_bare-is_below_bare-requires-in-Promoted
is_below_bare-is_below_bare-requires-in-Promoted t c =
    let fall = fall_promoted_type c.args.rows.now.table c.args.rows.now.formed (or_nullable c.args.or_null (form_of c.args.t.now)) (ap form_of c.in-Promoted.is) c.form-in-Promoted.ensures in
    (omega (arith, fall, c.decreases), c.requires)

pub is_below_bare-is_interface_below-requires : goal.is_below_bare-is_interface_below-requires
is_below_bare-is_interface_below-requires t c =
    let least = target_least c.args.rows.now.table c.args.rows.now.formed c.args.or_null (form_of c.args.t.now) (ap form_of c.in-Interface.is) in
    (omega (arith, least, c.decreases), c.requires)

pub is_below_bare-is_function_below-requires : goal.is_below_bare-is_function_below-requires
is_below_bare-is_function_below-requires t c =
    let least = target_least c.args.rows.now.table c.args.rows.now.formed c.args.or_null (form_of c.args.t.now) (ap form_of c.in-Function.is) in
    (omega (arith, least, c.decreases), c.requires)

pub is_below_bare-returns-in-Never : goal.is_below_bare-returns-in-Never
is_below_bare-returns-in-Never t c = never_below c.args.rows.now.table c.args.rows.now.formed c.args.or_null (form_of c.args.t.now) c.requires (λ e o. refused c.is_top.ensures c.if-is_top.false (e, o)) (ap form_of c.in-Never.is)

pub is_below_bare-returns-in-Void : goal.is_below_bare-returns-in-Void
is_below_bare-returns-in-Void t c = void_below c.args.rows.now.table c.args.rows.now.formed c.args.or_null (form_of c.args.t.now) c.requires (λ e o. refused c.is_top.ensures c.if-is_top.false (e, o)) (ap form_of c.in-Void.is)

pub is_below_bare-returns-in-Invalid : goal.is_below_bare-returns-in-Invalid
is_below_bare-returns-in-Invalid t c = invalid_below c.args.rows.now.table c.args.rows.now.formed c.args.or_null (form_of c.args.t.now) c.requires (λ e o. refused c.is_top.ensures c.if-is_top.false (e, o)) (ap form_of c.in-Invalid.is) c.is_invalid_form.ensures

pub is_below_bare-returns-in-Null : goal.is_below_bare-returns-in-Null
is_below_bare-returns-in-Null t c = null_below c.args.rows.now.table c.args.rows.now.formed c.args.or_null (form_of c.args.t.now) c.requires (λ e o. refused c.is_top.ensures c.if-is_top.false (e, o)) (ap form_of c.in-Null.is) c.admits_null.ensures

pub is_below_bare-returns-else-not-admits_null : goal.is_below_bare-returns-else-not-admits_null
is_below_bare-returns-else-not-admits_null t c =
    nullable_below c.args.rows.now.table c.args.rows.now.formed c.args.or_null (form_of c.args.t.now) c.requires (λ e o. refused c.is_top.ensures c.if-is_top.false (e, o)) (ap form_of c.in-Nullable.is) c.form.ensures (granted c.admits_null-in-Nullable.ensures c.if-not-admits_null.false) c.is_below_bare.ensures

pub is_below_bare-returns-else-is_var_below_bare : goal.is_below_bare-returns-else-is_var_below_bare
is_below_bare-returns-else-is_var_below_bare t c =
    type_below c.args.rows.now.table c.args.rows.now.formed c.args.or_null (form_of c.args.t.now) c.requires (λ e o. refused c.is_top.ensures c.if-is_top.false (e, o)) (ap form_of c.in-Promoted.is) c.form-in-Promoted.ensures (λ a. refused c.is_var_below_bare-in-Promoted.ensures c.if-is_var_below_bare.false a) c.is_below_bare-in-Promoted.ensures

pub is_below_bare-returns-in-Interface : goal.is_below_bare-returns-in-Interface
is_below_bare-returns-in-Interface t c = plain_below c.args.rows.now.table c.args.rows.now.formed c.args.or_null (form_of c.args.t.now) c.requires (λ e o. refused c.is_top.ensures c.if-is_top.false (e, o)) (ap form_of c.in-Interface.is) refl c.is_interface_below.ensures

pub is_below_bare-returns-in-Function : goal.is_below_bare-returns-in-Function
is_below_bare-returns-in-Function t c = plain_below c.args.rows.now.table c.args.rows.now.formed c.args.or_null (form_of c.args.t.now) c.requires (λ e o. refused c.is_top.ensures c.if-is_top.false (e, o)) (ap form_of c.in-Function.is) refl c.is_function_below.ensures

-- a nullable type on the right
pub is_below_nullable-is_below_nullable-requires : goal.is_below_nullable-is_below_nullable-requires
is_below_nullable-is_below_nullable-requires t c =
    let fall = fall_right_nullable c.args.rows.now.table c.args.rows.now.formed (form_of c.args.s.now) (ap form_of c.in-Nullable.is) c.form-in-Nullable.ensures in
    (omega (arith, fall, c.decreases), tt)

pub is_below_nullable-returns-in-Void : goal.is_below_nullable-returns-in-Void
is_below_nullable-returns-in-Void t c = void_nullable c.args.rows.now.table c.args.rows.now.formed (ap form_of c.in-Void.is)

pub is_below_nullable-returns-in-Nullable : goal.is_below_nullable-returns-in-Nullable
is_below_nullable-returns-in-Nullable t c = once_nullable c.args.rows.now.table c.args.rows.now.formed (ap form_of c.in-Nullable.is) c.form-in-Nullable.ensures c.is_below_nullable.ensures

-- `(X & U)?` on the right
pub is_below_nullable_promoted-is_below_nullable_promoted-requires : goal.is_below_nullable_promoted-is_below_nullable_promoted-requires
is_below_nullable_promoted-is_below_nullable_promoted-requires t c =
    let fall = fall_nullable c.args.rows.now.table c.args.rows.now.formed (nullable (promoted c.args.var (form_of c.args.t.now))) (ap form_of c.in-Nullable.is) c.form.ensures in
    (omega (arith, fall, c.decreases), tt)

pub is_below_nullable_promoted-is_below_promoted-requires : goal.is_below_nullable_promoted-is_below_promoted-requires
is_below_nullable_promoted-is_below_promoted-requires t c =
    let fall = right_bare_falls c.args.rows.now.table c.args.rows.now.formed (form_of c.args.s.now) (promoted c.args.var (form_of c.args.t.now)) in
    (omega (arith, fall, c.decreases), tt)

pub is_below_nullable_promoted-returns-then-is_below_promoted : goal.is_below_nullable_promoted-returns-then-is_below_promoted
is_below_nullable_promoted-returns-then-is_below_promoted t c = yes (right_nullable (granted c.is_below_promoted.ensures c.if-is_below_promoted.true))

pub is_below_nullable_promoted-is_var_below_nullable_promoted-requires-in-Promoted : goal.is_below_nullable_promoted-is_var_below_nullable_promoted-requires-in-Promoted
is_below_nullable_promoted-is_var_below_nullable_promoted-requires-in-Promoted t c =
    let fall = fall_promoted_var c.args.rows.now.table c.args.rows.now.formed (nullable (promoted c.args.var (form_of c.args.t.now))) (ap form_of c.in-Promoted.is) in
    (omega (arith, fall, c.decreases), tt)

pub is_below_nullable_promoted-returns-then-is_var_below_nullable_promoted : goal.is_below_nullable_promoted-returns-then-is_var_below_nullable_promoted
is_below_nullable_promoted-returns-then-is_var_below_nullable_promoted t c =
    by_variable c.args.rows.now.table c.args.rows.now.formed c.args.var (form_of c.args.t.now) (ap form_of c.in-Promoted.is) (granted c.is_var_below_nullable_promoted-in-Promoted.ensures c.if-is_var_below_nullable_promoted.true)

pub is_below_nullable_promoted-is_below_nullable_promoted-requires-in-Promoted : goal.is_below_nullable_promoted-is_below_nullable_promoted-requires-in-Promoted
is_below_nullable_promoted-is_below_nullable_promoted-requires-in-Promoted t c =
    let fall = fall_promoted_type c.args.rows.now.table c.args.rows.now.formed (nullable (promoted c.args.var (form_of c.args.t.now))) (ap form_of c.in-Promoted.is) c.form-in-Promoted.ensures in
    (omega (arith, fall, c.decreases), tt)

pub is_below_nullable_promoted-returns-in-Never : goal.is_below_nullable_promoted-returns-in-Never
is_below_nullable_promoted-returns-in-Never t c = never_below_promoted c.args.rows.now.table c.args.rows.now.formed c.args.var (form_of c.args.t.now) (ap form_of c.in-Never.is)

pub is_below_nullable_promoted-returns-in-Null : goal.is_below_nullable_promoted-returns-in-Null
is_below_nullable_promoted-returns-in-Null t c = null_below_promoted c.args.rows.now.table c.args.rows.now.formed c.args.var (form_of c.args.t.now) (ap form_of c.in-Null.is)

pub is_below_nullable_promoted-returns-in-Invalid : goal.is_below_nullable_promoted-returns-in-Invalid
is_below_nullable_promoted-returns-in-Invalid t c = invalid_below_promoted c.args.rows.now.table c.args.rows.now.formed c.args.var (form_of c.args.t.now) (ap form_of c.in-Invalid.is)

pub is_below_nullable_promoted-returns-in-Void : goal.is_below_nullable_promoted-returns-in-Void
is_below_nullable_promoted-returns-in-Void t c = void_below_promoted c.args.rows.now.table c.args.rows.now.formed c.args.var (form_of c.args.t.now) (ap form_of c.in-Void.is)

pub is_below_nullable_promoted-returns-in-Interface : goal.is_below_nullable_promoted-returns-in-Interface
is_below_nullable_promoted-returns-in-Interface t c = plain_below_promoted c.args.rows.now.table c.args.rows.now.formed c.args.var (form_of c.args.t.now) (ap form_of c.in-Interface.is) refl

pub is_below_nullable_promoted-returns-in-Function : goal.is_below_nullable_promoted-returns-in-Function
is_below_nullable_promoted-returns-in-Function t c = plain_below_promoted c.args.rows.now.table c.args.rows.now.formed c.args.var (form_of c.args.t.now) (ap form_of c.in-Function.is) refl

pub is_below_nullable_promoted-returns-in-Nullable : goal.is_below_nullable_promoted-returns-in-Nullable
is_below_nullable_promoted-returns-in-Nullable t c = nullable_below_promoted c.args.rows.now.table c.args.rows.now.formed c.args.var (form_of c.args.t.now) (ap form_of c.in-Nullable.is) c.form.ensures c.is_below_nullable_promoted.ensures

pub is_below_nullable_promoted-returns-else-is_var_below_nullable_promoted : goal.is_below_nullable_promoted-returns-else-is_var_below_nullable_promoted
is_below_nullable_promoted-returns-else-is_var_below_nullable_promoted t c =
    by_type c.args.rows.now.table c.args.rows.now.formed c.args.var (form_of c.args.t.now) (ap form_of c.in-Promoted.is) c.form-in-Promoted.ensures
    (λ a. refused c.is_below_promoted.ensures c.if-is_below_promoted.false a)
    (λ a. refused c.is_var_below_nullable_promoted-in-Promoted.ensures c.if-is_var_below_nullable_promoted.false a)
    c.is_below_nullable_promoted-in-Promoted.ensures

-- a promoted variable on the right
pub is_below_promoted-is_below_bare-requires : goal.is_below_promoted-is_below_bare-requires
is_below_promoted-is_below_bare-requires t c =
    let fall = (right_promoted_falls c.args.rows.now.table c.args.rows.now.formed c.args.var (form_of c.args.s.now) (form_of c.args.t.now)).0 in
    (omega (arith, fall, c.decreases), refl)

pub is_below_promoted-returns-then-not-is_below_bare : goal.is_below_promoted-returns-then-not-is_below_bare
is_below_promoted-returns-then-not-is_below_bare t c =
    no (λ a. refused c.is_below_bare.ensures c.if-not-is_below_bare.true (promoted_parts c.args.rows.now.table a).0)

pub is_below_promoted-is_below-requires : goal.is_below_promoted-is_below-requires
is_below_promoted-is_below-requires t c =
    let fall = (right_promoted_falls c.args.rows.now.table c.args.rows.now.formed c.args.var (form_of c.args.s.now) (form_of c.args.t.now)).1 in
    (omega (arith, fall, c.decreases), tt)

pub is_below_promoted-returns : goal.is_below_promoted-returns
is_below_promoted-returns t c =
    both_promoted c.args.rows.now.table c.args.rows.now.formed (granted c.is_below_bare.ensures c.if-not-is_below_bare.false) c.is_below.ensures

-- `Object` or `Function` on the right
pub is_function_below-returns-then-eq-2 : goal.is_function_below-returns-then-eq-2
is_function_below-returns-then-eq-2 t c =
    let which : (same_class c.in-Interface.class OBJECT ≡ true) ⊎ (same_class c.in-Interface.class FUNCTION ≡ true) =
    elim c.if-eq.branch as (λ _. (same_class c.in-Interface.class OBJECT ≡ true) ⊎ (same_class c.in-Interface.class FUNCTION ≡ true)) [
      | is_function_below-then-eq w ↦ inl (sym c.eq.ensures ∙ w.if-eq.true)
      | is_function_below-else-eq w ↦ inr (sym w.eq-else-eq.ensures ∙ sym w.value-is ∙ c.if-eq-2.true)
    ] in
    class_above c.args.rows.now.table c.in-Interface.class c.in-Interface.args.scope.now c.in-Interface.args.types.now (ap form_of c.in-Interface.is) which c.is_empty.ensures

-- an interface on both sides
pub is_interface_below-returns-then-is_object_form : goal.is_interface_below-returns-then-is_object_form
is_interface_below-returns-then-is_object_form t c = below_object c.args.rows.now.table c.args.rows.now.formed refl (sym c.is_object_form.ensures ∙ c.if-is_object_form.true)

pub is_interface_below-returns-then-eq : goal.is_interface_below-returns-then-eq
is_interface_below-returns-then-eq t c =
    by_arguments c.args.rows.now.table c.args.rows.now.formed (ap form_of c.in-Interface.is) (equal_from_same_class c.args.class c.in-Interface.other (sym c.eq.ensures ∙ c.if-eq.true)) (sym c.is_object_form.ensures ∙ c.if-is_object_form.false) c.are_arguments_below.ensures

pub is_interface_below-returns-in_default : goal.is_interface_below-returns-in_default
is_interface_below-returns-in_default t c = below_no_interface c.args.rows.now.table c.args.rows.now.formed c.args.t.now c.requires c.in_default.not-Interface

-- a function type on both sides
pub is_signature_below-returns-then-required-as_slice : goal.is_signature_below-returns-then-required-as_slice
is_signature_below-returns-then-required-as_slice t c =
    let f = c.args.function.now in
    let g = c.args.other.now in
    let σ = in_scope f.scope.now in
    let τ = in_scope g.scope.now in
    let a = count-types_of σ f.function.now.required in
    let b = count-types_of τ g.function.now.required in
    let own : length c.as_slice-required.result.now ≡ length f.function.now.required = ap (λ (ts : List Ty). length ts) c.as_slice-required.ensures in
    let others : length c.as_slice.result.now ≡ length g.function.now.required = ap (λ (ts : List Ty). length ts) c.as_slice.ensures in
    more_required c.args.rows.now.table (omega (arith, a, b, own, others, c.if-required-as_slice.true))

pub is_signature_below-returns-then-not-requires_no_more : goal.is_signature_below-returns-then-not-requires_no_more
is_signature_below-returns-then-not-requires_no_more t c =
    let f = c.args.function.now in
    let g = c.args.other.now in
    let σ = in_scope f.scope.now in
    let τ = in_scope g.scope.now in
    let needed : c.requires_no_more.result ≡ required_in (put_named σ (named_of f.function.now.named)) (put_named τ (named_of g.function.now.named)) =
    c.requires_no_more.ensures
    ∙ ap (λ (ns : List NamedType). required_in (named_of ns) (named_of c.as_slice-3.result.now)) c.as_slice-2.ensures.same
    ∙ ap (λ (ns : List NamedType). required_in (named_of f.function.now.named) (named_of ns)) c.as_slice-3.ensures.same
    ∙ sym (required_in-put σ τ (named_of f.function.now.named) (named_of g.function.now.named)) in
    name_required c.args.rows.now.table (sym needed ∙ c.if-not-requires_no_more.true)

pub is_signature_below-returns-then-not-are_params_below : goal.is_signature_below-returns-then-not-are_params_below
is_signature_below-returns-then-not-are_params_below t c = other_params c.args.rows.now.table (λ p. refused c.are_params_below.ensures c.if-not-are_params_below.true p)

pub is_signature_below-returns-then-not-are_named_below : goal.is_signature_below-returns-then-not-are_named_below
is_signature_below-returns-then-not-are_named_below t c = other_names c.args.rows.now.table (λ p. refused c.are_named_below.ensures c.if-not-are_named_below.true p)

pub is_signature_below-is_below-requires : goal.is_signature_below-is_below-requires
is_signature_below-is_below-requires t c =
    let f = c.args.function.now in
    let g = c.args.other.now in
    let σ = in_scope f.scope.now in
    let τ = in_scope g.scope.now in
    let fall = result_falls c.args.rows.now.table c.args.rows.now.formed σ τ f.function.now g.function.now (c.form.ensures ∙ c.result.ensures) (c.form-2.ensures ∙ c.result-2.ensures) in
    (omega (arith, fall, c.decreases), tt)

pub is_signature_below-returns : goal.is_signature_below-returns
is_signature_below-returns t c =
    let f = c.args.function.now in
    let g = c.args.other.now in
    let σ = in_scope f.scope.now in
    let τ = in_scope g.scope.now in
    let needed : c.requires_no_more.result ≡ required_in (put_named σ (named_of f.function.now.named)) (put_named τ (named_of g.function.now.named)) =
    c.requires_no_more.ensures
    ∙ ap (λ (ns : List NamedType). required_in (named_of ns) (named_of c.as_slice-3.result.now)) c.as_slice-2.ensures.same
    ∙ ap (λ (ns : List NamedType). required_in (named_of f.function.now.named) (named_of ns)) c.as_slice-3.ensures.same
    ∙ sym (required_in-put σ τ (named_of f.function.now.named) (named_of g.function.now.named)) in
    let a = count-types_of σ f.function.now.required in
    let b = count-types_of τ g.function.now.required in
    let own : length c.as_slice-required.result.now ≡ length f.function.now.required = ap (λ (ts : List Ty). length ts) c.as_slice-required.ensures in
    let others : length c.as_slice.result.now ≡ length g.function.now.required = ap (λ (ts : List Ty). length ts) c.as_slice.ensures in
    by_result c.args.rows.now.table (omega (arith, a, b, own, others, c.if-required-as_slice.false))
    (granted c.are_params_below.ensures c.if-not-are_params_below.false)
    (granted c.are_named_below.ensures c.if-not-are_named_below.false)
    (sym needed ∙ c.if-not-requires_no_more.false)
    (c.form.ensures ∙ c.result.ensures) (c.form-2.ensures ∙ c.result-2.ensures) c.is_below.ensures

-- a superinterface of the left class
pub is_superinterface_below-returns-then-as_slice-args : goal.is_superinterface_below-returns-then-as_slice-args
is_superinterface_below-returns-then-as_slice-args t c =
    let table = c.args.rows.now.table in
    let wf = c.args.rows.now.formed in
    let outer = c.args.args.now.scope.now in
    let args = c.args.args.now.types.now in
    let ss = close_all outer (types_of args) in
    let ts = close_all c.args.other_args.now.scope.now (types_of c.args.other_args.now.types.now) in
    let row = c.in-Some.row.now in
    let counts = count-types_of (in_scope outer) args in
    other_count table wf c.args.class c.args.other ss ts c.requires.other_class c.requires.no_object row (sym c.in-Some.ensures)
    (λ k. c.if-as_slice-args.true (ap (λ (ps : List VarId). length ps) c.as_slice.ensures ∙ sym k ∙ counts))

pub is_superinterface_below-are_arguments_below-requires : goal.is_superinterface_below-are_arguments_below-requires
is_superinterface_below-are_arguments_below-requires t c =
    let table = c.args.rows.now.table in
    let wf = c.args.rows.now.formed in
    let outer = c.args.args.now.scope.now in
    let args = c.args.args.now.types.now in
    let ss = close_all outer (types_of args) in
    let ts = close_all c.args.other_args.now.scope.now (types_of c.args.other_args.now.types.now) in
    let row = c.in-Some.row.now in
    let k : count ss ≡ length row.params = count-types_of (in_scope outer) args ∙ sym c.if-as_slice-args.false ∙ ap (λ (ps : List VarId). length ps) c.as_slice.ensures in
    let list = c.superinterfaces-superinterfaces.result.now in
    let framed : (us : Types) → close_all c.frame-scope.result us ≡ put_all (by_params row.params ss) us =
    (λ us. ap (λ (fs : Frames). close_all fs us) c.frame-scope.ensures ∙ frame_all c.as_slice-2.result.now args outer us ∙ ap (λ (ps : List VarId). put_all (by_params ps ss) us) c.as_slice-2.ensures) in
    let item = c.superinterface-item.result in
    let among : Contains (filter (λ (s : Superinterface). same_class s.class c.args.other) list) item =
    subst (λ (l : List Superinterface). Contains l item) c.superinterfaces_of_class-superinterface-items.ensures (c.loop-superinterface.superinterface-index, c.loop-superinterface-test.true, sym c.superinterface-item.is) in
    let passed = contains_passed (λ (s : Superinterface). same_class s.class c.args.other) list item among in
    let is = equal_from_same_class item.class c.args.other passed.1 in
    let same : close_all c.frame-scope.result (types_of c.as_slice-in-loop-superinterface.result.now) ≡ put_all (by_params row.params ss) (types_of item.args) =
    framed (types_of c.as_slice-in-loop-superinterface.result.now) ∙ ap (λ (us : List Ty). put_all (by_params row.params ss) (types_of us)) c.as_slice-in-loop-superinterface.ensures in
    let fall = entry_falls table wf c.args.class c.args.other ss ts c.requires.other_class c.requires.no_object row (sym c.in-Some.ensures) k list c.superinterfaces-superinterfaces.ensures item passed.0 is in
    let seen = subst (λ (us : Types). measure table (interface c.args.other us) (interface c.args.other ts) < measure table (interface c.args.class ss) (interface c.args.other ts)) (sym same) fall in
    (omega (arith, seen, c.decreases), tt)

pub is_superinterface_below-returns-then-are_arguments_below : goal.is_superinterface_below-returns-then-are_arguments_below
is_superinterface_below-returns-then-are_arguments_below t c =
    let table = c.args.rows.now.table in
    let wf = c.args.rows.now.formed in
    let outer = c.args.args.now.scope.now in
    let args = c.args.args.now.types.now in
    let ss = close_all outer (types_of args) in
    let ts = close_all c.args.other_args.now.scope.now (types_of c.args.other_args.now.types.now) in
    let row = c.in-Some.row.now in
    let k : count ss ≡ length row.params = count-types_of (in_scope outer) args ∙ sym c.if-as_slice-args.false ∙ ap (λ (ps : List VarId). length ps) c.as_slice.ensures in
    let list = c.superinterfaces-superinterfaces.result.now in
    let framed : (us : Types) → close_all c.frame-scope.result us ≡ put_all (by_params row.params ss) us =
    (λ us. ap (λ (fs : Frames). close_all fs us) c.frame-scope.ensures ∙ frame_all c.as_slice-2.result.now args outer us ∙ ap (λ (ps : List VarId). put_all (by_params ps ss) us) c.as_slice-2.ensures) in
    let item = c.superinterface-item.result in
    let among : Contains (filter (λ (s : Superinterface). same_class s.class c.args.other) list) item =
    subst (λ (l : List Superinterface). Contains l item) c.superinterfaces_of_class-superinterface-items.ensures (c.loop-superinterface.superinterface-index, c.loop-superinterface-test.true, sym c.superinterface-item.is) in
    let passed = contains_passed (λ (s : Superinterface). same_class s.class c.args.other) list item among in
    let is = equal_from_same_class item.class c.args.other passed.1 in
    let same : close_all c.frame-scope.result (types_of c.as_slice-in-loop-superinterface.result.now) ≡ put_all (by_params row.params ss) (types_of item.args) =
    framed (types_of c.as_slice-in-loop-superinterface.result.now) ∙ ap (λ (us : List Ty). put_all (by_params row.params ss) (types_of us)) c.as_slice-in-loop-superinterface.ensures in
    entry_below table wf c.args.class c.args.other ss ts c.requires.other_class c.requires.no_object row (sym c.in-Some.ensures) k list c.superinterfaces-superinterfaces.ensures item passed.0 is
    (subst (λ (us : Types). Subs table us ts) same (granted c.are_arguments_below.ensures c.if-are_arguments_below.true))

pub is_superinterface_below-returns : goal.is_superinterface_below-returns
is_superinterface_below-returns t c =
    let table = c.args.rows.now.table in
    let wf = c.args.rows.now.formed in
    let outer = c.args.args.now.scope.now in
    let args = c.args.args.now.types.now in
    let ss = close_all outer (types_of args) in
    let ts = close_all c.args.other_args.now.scope.now (types_of c.args.other_args.now.types.now) in
    let row = c.in-Some.row.now in
    let k : count ss ≡ length row.params = count-types_of (in_scope outer) args ∙ sym c.if-as_slice-args.false ∙ ap (λ (ps : List VarId). length ps) c.as_slice.ensures in
    let list = c.superinterfaces-superinterfaces.result.now in
    let framed : (us : Types) → close_all c.frame-scope.result us ≡ put_all (by_params row.params ss) us =
    (λ us. ap (λ (fs : Frames). close_all fs us) c.frame-scope.ensures ∙ frame_all c.as_slice-2.result.now args outer us ∙ ap (λ (ps : List VarId). put_all (by_params ps ss) us) c.as_slice-2.ensures) in
    none_below table wf c.args.class c.args.other ss ts c.requires.other_class c.requires.no_object row (sym c.in-Some.ensures) k list c.superinterfaces-superinterfaces.ensures
    (λ s i is a.
    let passed = passed_contains (λ (s' : Superinterface). same_class s'.class c.args.other) list s i (subst (λ (d : ClassId). same_class d c.args.other ≡ true) (sym is) (same_class-refl c.args.other)) in
    let there = subst (λ (l : List Superinterface). Contains l s) (sym c.superinterfaces_of_class-superinterface-items.ensures) passed in
    c.loop-superinterface.invariant there.0 s (omega (arith, there.1, c.loop-superinterface-test.false))
    (subst (λ (s' : Superinterface). Subs table (close_all c.frame-scope.result (types_of s'.args)) ts) (sym there.2)
    (subst (λ (us : Types). Subs table us ts) (sym (framed (types_of s.args))) a)))

-- a variable on the left, and a bare type on the right
pub is_var_below_bare-returns-then-is_var_form : goal.is_var_below_bare-returns-then-is_var_form
is_var_below_bare-returns-then-is_var_form t c = is_the_variable c.args.rows.now.table c.args.rows.now.formed c.args.or_null (form_of c.args.t.now) c.requires.bare c.requires.no_top c.loop-left.invariant (granted c.is_var_form.ensures c.if-is_var_form.true)

pub is_var_below_bare-returns-in-None : goal.is_var_below_bare-returns-in-None
is_var_below_bare-returns-in-None t c =
    no_bound c.args.rows.now.table c.args.rows.now.formed c.args.or_null (form_of c.args.t.now) c.requires.bare c.requires.no_top c.loop-left.invariant (λ e. refused c.is_var_form.ensures c.if-is_var_form.false e) (sym c.in-None.ensures)

pub is_var_below_bare-loop-left-smaller-in-Plain : goal.is_var_below_bare-loop-left-smaller-in-Plain
is_var_below_bare-loop-left-smaller-in-Plain t c = less_deep c.args.rows.now.table c.args.rows.now.formed c.loop-left.left c.in-Plain.y (sym c.in-Some.ensures) c.in-Plain.ensures

pub is_var_below_bare-loop-left-preserved-in-Plain : goal.is_var_below_bare-loop-left-preserved-in-Plain
is_var_below_bare-loop-left-preserved-in-Plain t c =
    next_variable c.args.rows.now.table c.args.rows.now.formed c.args.or_null (form_of c.args.t.now) c.requires.bare c.requires.no_top c.loop-left.invariant (λ e. refused c.is_var_form.ensures c.if-is_var_form.false e) (sym c.in-Some.ensures) c.in-Plain.ensures

pub is_var_below_bare-returns-then-not-admits_null : goal.is_var_below_bare-returns-then-not-admits_null
is_var_below_bare-returns-then-not-admits_null t c =
    bound_nullable c.args.rows.now.table c.args.rows.now.formed c.args.or_null (form_of c.args.t.now) c.requires.bare c.requires.no_top c.loop-left.invariant (λ e. refused c.is_var_form.ensures c.if-is_var_form.false e) (sym c.in-Some.ensures) c.in-Nullable.ensures (λ k. refused c.admits_null.ensures c.if-not-admits_null.true k)

pub is_var_below_bare-loop-left-smaller : goal.is_var_below_bare-loop-left-smaller
is_var_below_bare-loop-left-smaller t c = less_deep_nullable c.args.rows.now.table c.args.rows.now.formed c.loop-left.left c.in-Nullable.y (sym c.in-Some.ensures) c.in-Nullable.ensures

pub is_var_below_bare-loop-left-preserved : goal.is_var_below_bare-loop-left-preserved
is_var_below_bare-loop-left-preserved t c =
    next_nullable c.args.rows.now.table c.args.rows.now.formed c.args.or_null (form_of c.args.t.now) c.requires.bare c.requires.no_top c.loop-left.invariant (λ e. refused c.is_var_form.ensures c.if-is_var_form.false e) (sym c.in-Some.ensures) c.in-Nullable.ensures (granted c.admits_null.ensures c.if-not-admits_null.false)

pub is_var_below_bare-is_below_bare-requires : goal.is_var_below_bare-is_below_bare-requires
is_var_below_bare-is_below_bare-requires t c =
    let fall = bound_less c.args.rows.now.table c.args.rows.now.formed c.args.or_null (form_of c.args.t.now) c.requires.bare c.requires.no_top c.loop-left.invariant (sym c.in-Some.ensures) (c.form.ensures ∙ rooted c.root-root.result c.root-root.ensures c.in-Some.bound.now) in
    (omega (arith, fall, c.decreases), c.requires.bare)

pub is_var_below_bare-returns-in-Other : goal.is_var_below_bare-returns-in-Other
is_var_below_bare-returns-in-Other t c =
    bound_decides c.args.rows.now.table c.args.rows.now.formed c.args.or_null (form_of c.args.t.now) c.requires.bare c.requires.no_top c.loop-left.invariant (λ e. refused c.is_var_form.ensures c.if-is_var_form.false e) (sym c.in-Some.ensures) (c.form.ensures ∙ rooted c.root-root.result c.root-root.ensures c.in-Some.bound.now) c.is_below_bare.ensures

-- a variable on the left, and `(X & U)?` on the right
pub is_var_below_nullable_promoted-is_below_promoted-requires : goal.is_var_below_nullable_promoted-is_below_promoted-requires
is_var_below_nullable_promoted-is_below_promoted-requires t c =
    let fall = bare_promoted_less c.args.rows.now.table c.args.rows.now.formed c.args.var (form_of c.args.t.now) c.loop-var.invariant in
    (omega (arith, fall, c.decreases), tt)

pub is_var_below_nullable_promoted-returns-then-is_below_promoted : goal.is_var_below_nullable_promoted-returns-then-is_below_promoted
is_var_below_nullable_promoted-returns-then-is_below_promoted t c = variable_promoted c.args.rows.now.table c.args.rows.now.formed c.args.var (form_of c.args.t.now) c.loop-var.invariant (granted c.is_below_promoted.ensures c.if-is_below_promoted.true)

pub is_var_below_nullable_promoted-loop-var-smaller-in-Plain : goal.is_var_below_nullable_promoted-loop-var-smaller-in-Plain
is_var_below_nullable_promoted-loop-var-smaller-in-Plain t c = less_deep c.args.rows.now.table c.args.rows.now.formed c.loop-var.left c.in-Plain.y (sym c.in-Some.ensures) c.in-Plain.ensures

pub is_var_below_nullable_promoted-loop-var-preserved-in-Plain : goal.is_var_below_nullable_promoted-loop-var-preserved-in-Plain
is_var_below_nullable_promoted-loop-var-preserved-in-Plain t c =
    next_promoted c.args.rows.now.table c.args.rows.now.formed c.args.var (form_of c.args.t.now) c.loop-var.invariant (λ a. refused c.is_below_promoted.ensures c.if-is_below_promoted.false a) (sym c.in-Some.ensures) c.in-Plain.ensures

pub is_var_below_nullable_promoted-loop-var-smaller : goal.is_var_below_nullable_promoted-loop-var-smaller
is_var_below_nullable_promoted-loop-var-smaller t c = less_deep_nullable c.args.rows.now.table c.args.rows.now.formed c.loop-var.left c.in-Nullable.y (sym c.in-Some.ensures) c.in-Nullable.ensures

pub is_var_below_nullable_promoted-loop-var-preserved : goal.is_var_below_nullable_promoted-loop-var-preserved
is_var_below_nullable_promoted-loop-var-preserved t c =
    next_promoted_nullable c.args.rows.now.table c.args.rows.now.formed c.args.var (form_of c.args.t.now) c.loop-var.invariant (λ a. refused c.is_below_promoted.ensures c.if-is_below_promoted.false a) (sym c.in-Some.ensures) c.in-Nullable.ensures

pub is_var_below_nullable_promoted-is_below_nullable_promoted-requires : goal.is_var_below_nullable_promoted-is_below_nullable_promoted-requires
is_var_below_nullable_promoted-is_below_nullable_promoted-requires t c =
    let fall = bound_promoted_less c.args.rows.now.table c.args.rows.now.formed c.args.var (form_of c.args.t.now) c.loop-var.invariant (sym c.in-Some.ensures) (c.form.ensures ∙ rooted c.root-root.result c.root-root.ensures c.in-Some.bound.now) in
    (omega (arith, fall, c.decreases), tt)

pub is_var_below_nullable_promoted-returns-in-Other : goal.is_var_below_nullable_promoted-returns-in-Other
is_var_below_nullable_promoted-returns-in-Other t c =
    bound_promoted c.args.rows.now.table c.args.rows.now.formed c.args.var (form_of c.args.t.now) c.loop-var.invariant (λ a. refused c.is_below_promoted.ensures c.if-is_below_promoted.false a) (sym c.in-Some.ensures) (c.form.ensures ∙ rooted c.root-root.result c.root-root.ensures c.in-Some.bound.now) c.is_below_nullable_promoted.ensures
