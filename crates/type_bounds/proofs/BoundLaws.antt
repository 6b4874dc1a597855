-- An upper bound without `Invalid` is a supertype of both types, and a lower one a subtype.
use Rattle.std.proofs.Common.{◌≡◌, ℕ, ◌+◌, Bool, true, List, refl, sym, ◌∙◌, ap, subst, arith}
use Rattle.std.specs.Prelude.{◌&&◌, ◌||◌, nat_eq, bytes_eq, not}
use Rattle.std.specs.Cmp.Lexicographic.{bytes_decides}
use Rattle.std.proofs.lemmas.Bool.{and_parts}
use Rattle.dart_types.specs.Ty.{Ty, Types, Named, invalid, never, void, null, interface, function, variable, promoted, nullable, no_more, more, more_named, count, join}
use Rattle.dart_types.specs.Named.{has_name}
use Rattle.dart_types.specs.Normal.{nullable_of}
use Rattle.dart_types.specs.Tables.{Table}
use Rattle.dart_types.specs.Sub.{Sub, Subs, SubParams, SubNamed, HasNamed, first, later, is_required, reflexivity, right_top, left_bottom, left_null, right_object, left_nullable, right_nullable, left_promoted_variable, left_promoted_type, left_variable_bound, interface_arguments, function_class, function_types, left_top, none_left, one_left, no_param, one_param, no_name, one_name}
use Rattle.dart_types.specs.declared.ids.ClassId.{ClassId}
use Rattle.dart_types.specs.declared.ids.VarId.{VarId}
use Rattle.dart_types.specs.Laws.{RowLaws}
use Rattle.type_bounds.specs.Signatures.{required_are_in, some_type, some_named, have_upper}
use Rattle.type_bounds.specs.Bounds.{bare_of, Upper, right_above, left_above, upper_apart, UpperApart, null_left, null_right, marked_either, promoted_twice, variable_left, promoted_left, variable_right, promoted_right, upper_functions, upper_of_others, function_and_class, class_and_function, one_class, two_classes, unbound_left, unbound_right, invalid_left, invalid_right, other_arguments, unknown_class, Uppers, no_upper, one_upper, UpperNamed, no_upper_name, upper_name, Lower, left_below, right_below, lower_apart, LowerApart, marked_both, marked_once, lower_functions, lower_of_others, nothing_below, LowerParams, left_ends, right_ends, one_lower, LowerNamed, no_lower_name, lower_name, other_name}
use Rattle.type_bounds.specs.Valid.{IsValid, AreValid, AreValidNamed}
use Rattle.type_bounds.proofs.General.{nat_from_test, equal_from_same_class, equal_from_same_var}
use Rattle.type_bounds.proofs.NamedBounds.{or_true, or_left, or_right, type_is_named, not_named, required_is_named, required_in_other, required_here, when_true}
use Rattle.type_bounds.proofs.Supers.{is_above}
use Rattle.type_bounds.proofs.ValidRows.{valid_unmarked}

module _ (table : Table) where
  -- a type and null are subtypes of the type with `?`
  pub marked_above : (t : Ty) → Sub table t (nullable_of t)
  marked_above invalid = right_nullable reflexivity
  marked_above never = left_bottom
  marked_above void = reflexivity
  marked_above null = reflexivity
  marked_above (interface c ts) = right_nullable reflexivity
  marked_above (function r o n e) = right_nullable reflexivity
  marked_above (variable x) = right_nullable reflexivity
  marked_above (promoted x t) = right_nullable reflexivity
  marked_above (nullable t) = reflexivity

  pub null_above : (t : Ty) → Sub table null (nullable_of t)
  null_above invalid = left_null
  null_above never = reflexivity
  null_above void = right_top refl
  null_above null = reflexivity
  null_above (interface c ts) = left_null
  null_above (function r o n e) = left_null
  null_above (variable x) = left_null
  null_above (promoted x t) = left_null
  null_above (nullable t) = left_null

  -- what is below Never is below every type
  below_never : {t : Ty} (u : Ty) → Sub table t never → Sub table t u
  below_never u reflexivity = left_bottom
  below_never u (right_top e) = cc
  below_never u left_bottom = left_bottom
  below_never u (right_object e p) = cc
  below_never u (left_nullable a b) = left_nullable (below_never u a) (below_never u b)
  below_never u (left_promoted_variable a) = left_promoted_variable (below_never u a)
  below_never u (left_promoted_type a) = left_promoted_type (below_never u a)
  below_never u (left_variable_bound b e a) = left_variable_bound b e (below_never u a)
  below_never u (function_class e) = cc
  below_never u (left_top a) = left_top (below_never u a)

  -- what is below a type is below the type with `?`
  below_marked : {s : Ty} (u : Ty) → Sub table s u → Sub table s (nullable_of u)
  below_marked invalid a = right_nullable a
  below_marked never a = below_never null a
  below_marked void a = a
  below_marked null a = a
  below_marked (interface c ts) a = right_nullable a
  below_marked (function r o n e) a = right_nullable a
  below_marked (variable x) a = right_nullable a
  below_marked (promoted x t) a = right_nullable a
  below_marked (nullable t) a = a

  -- a type is below the upper bound of its bare type with `?`
  marked_over : (s u : Ty) → Sub table (bare_of s) u → Sub table s (nullable_of u)
  marked_over invalid u a = below_marked u a
  marked_over never u a = below_marked u a
  marked_over void u a = below_marked u a
  marked_over null u a = below_marked u a
  marked_over (interface c ts) u a = below_marked u a
  marked_over (function r o n e) u a = below_marked u a
  marked_over (variable x) u a = below_marked u a
  marked_over (promoted x t) u a = below_marked u a
  marked_over (nullable t) u a = left_nullable (below_marked u a) (null_above u)

  -- a lower bound with `?`
  pub marked_below : (u s : Ty) → Sub table u s → Sub table (nullable_of u) (nullable s)
  marked_below invalid s a = left_nullable (right_nullable a) left_null
  marked_below never s a = left_null
  marked_below void s a = right_nullable a
  marked_below null s a = left_null
  marked_below (interface c ts) s a = left_nullable (right_nullable a) left_null
  marked_below (function r o n e) s a = left_nullable (right_nullable a) left_null
  marked_below (variable x) s a = left_nullable (right_nullable a) left_null
  marked_below (promoted x t) s a = left_nullable (right_nullable a) left_null
  marked_below (nullable t) s a = right_nullable a

  -- what is below a bare type is below the type
  bare_below : (s : Ty) {u : Ty} → Sub table u (bare_of s) → Sub table u s
  bare_below invalid a = a
  bare_below never a = a
  bare_below void a = a
  bare_below null a = a
  bare_below (interface c ts) a = a
  bare_below (function r o n e) a = a
  bare_below (variable x) a = a
  bare_below (promoted x t) a = a
  bare_below (nullable t) a = right_nullable a

  named_later : {n : List ℕ} {r : Bool} {t : Ty} {ts ss : Named} → SubNamed table ts ss → SubNamed table ts (more_named n r t ss)
  named_later no_name = no_name
  named_later (one_name s h a rest) = one_name s (later h) a (named_later rest)

  joined : {us ss vs ts : Types} → count us ≡ count ss → SubParams table us ss → SubParams table vs ts → SubParams table (join us vs) (join ss ts)
  joined {us = no_more} {ss = no_more} e no_param b = b
  joined {us = no_more} {ss = more s ss} e no_param b = absurd (omega (arith, e))
  joined e (one_param a rest) b = one_param a (joined (omega (arith, e)) rest b)

  params_from : {ss us : Types} → Subs table ss us → SubParams table ss us
  params_from none_left = no_param
  params_from (one_left a rest) = one_param a (params_from rest)

  count_subs : {ss us : Types} → Subs table ss us → count ss ≡ count us
  count_subs none_left = refl
  count_subs (one_left a rest) = ap (λ k. k + 1) (count_subs rest)

  count_lower : {ss ts us : Types} → LowerParams table ss ts us → count ss ≡ count ts → count us ≡ count ss
  count_lower left_ends e = refl
  count_lower right_ends e = absurd (omega (arith, e))
  count_lower (one_lower a rest) e = ap (λ k. k + 1) (count_lower rest (omega (arith, e)))

  -- what the first list requires is required with lower bounds
  lower_requires_left : {ns ms us : Named} → LowerNamed table ns ms us → required_are_in ns ms ≡ true → (m : List ℕ) → is_required ns m ≡ true → is_required us m ≡ true
  lower_requires_left no_lower_name h m k = cc
  lower_requires_left (lower_name {n = n} {r = r} {ns = ns} {ms = ms} {us = us} e a rest) h m k =
      or_true (bytes_eq n m && r) (is_required ns m) k
      (λ here. let parts = and_parts (bytes_eq n m) r here in required_here n m (r || is_required ms n) (is_required us m) parts.0 (or_left r (is_required ms n) parts.1))
      (λ behind. or_right (bytes_eq n m && (r || is_required ms n)) (is_required us m) (lower_requires_left rest (and_parts _ (required_are_in ns ms) h).1 m behind))
  lower_requires_left (other_name {n = n} {r = r} {ns = ns} {ms = ms} {us = us} e rest) h m k =
      or_true (bytes_eq n m && r) (is_required ns m) k
      (λ here. absurd (not_named ms n e (when_true r (and_parts (bytes_eq n m) r here).1 (and_parts _ (required_are_in ns ms) h).0)))
      (λ behind. lower_requires_left rest (and_parts _ (required_are_in ns ms) h).1 m behind)

  -- and so is what the second requires, where the first has the name
  lower_requires_right : {ns ms us : Named} → LowerNamed table ns ms us → (m : List ℕ) → is_required ms m ≡ true → has_name ns m ≡ true → is_required us m ≡ true
  lower_requires_right no_lower_name m k h = cc
  lower_requires_right (lower_name {n = n} {r = r} {ns = ns} {ms = ms} {us = us} e a rest) m k h =
      or_true (bytes_eq n m) (has_name ns m) h
      (λ here.
      let is : n ≡ m = (bytes_decides n m).0 here in
      required_here n m (r || is_required ms n) (is_required us m) here (or_right r (is_required ms n) (subst (λ (l : List ℕ). is_required ms l ≡ true) (sym is) k)))
      (λ behind. or_right (bytes_eq n m && (r || is_required ms n)) (is_required us m) (lower_requires_right rest m k behind))
  lower_requires_right (other_name {n = n} {ns = ns} {ms = ms} {us = us} e rest) m k h =
      or_true (bytes_eq n m) (has_name ns m) h
      (λ here.
      let is : n ≡ m = (bytes_decides n m).0 here in
      absurd (not_named ms n e (subst (λ (l : List ℕ). has_name ms l ≡ true) (sym is) (required_is_named ms m k))))
      (λ behind. lower_requires_right rest m k behind)

  -- what is required with upper bounds is required by both
  upper_requires : {ns ms us : Named} → UpperNamed table ns ms us → (m : List ℕ) → is_required us m ≡ true → (is_required ns m ≡ true) × (is_required ms m ≡ true)
  upper_requires no_upper_name m k = cc
  upper_requires (upper_name {n = n} {m = n'} {r = r} {q = q} {ns = ns} {ms = ms} {us = us} h a rest) m k =
      or_true (bytes_eq n m && (r && q)) (is_required us m) k
      (λ here.
      let parts = and_parts (bytes_eq n m) (r && q) here in
      let flags = and_parts r q parts.1 in
      (required_here n m r (is_required ns m) parts.0 flags.0, required_here n' m q (is_required ms m) (subst (λ (l : List ℕ). bytes_eq l m ≡ true) ((bytes_decides n n').0 h) parts.0) flags.1))
      (λ behind.
      let both = upper_requires rest m behind in
      (or_right (bytes_eq n m && r) (is_required ns m) both.0, or_right (bytes_eq n' m && q) (is_required ms m) both.1))

  -- what two signatures with an upper bound agree on
  upper_counts : (r o : Types) (n : Named) (r' o' : Types) (n' : Named) → have_upper r o n r' o' n' ≡ true → (count r ≡ count r') × ((required_are_in n n' ≡ true) × (required_are_in n' n ≡ true))
  upper_counts r o n r' o' n' h =
      let a = and_parts (nat_eq (count r) (count r') && (required_are_in n n' && required_are_in n' n)) (not ((some_type o && some_named n') || (some_type o' && some_named n))) h in
      let b = and_parts (nat_eq (count r) (count r')) (required_are_in n n' && required_are_in n' n) a.0 in
      (nat_from_test (count r) (count r') b.0, and_parts (required_are_in n n') (required_are_in n' n) b.1)

  module _ (laws : RowLaws table) where
    mutual
      pub upper_above : {s t u : Ty} → Upper table s t u → IsValid u → Sub table s u × Sub table t u
      upper_above (right_above a) v = (a, reflexivity)
      upper_above (left_above n a) v = (reflexivity, a)
      upper_above (upper_apart apart a) v = apart_above a v

      apart_above : {s t u : Ty} → UpperApart table s t u → IsValid u → Sub table s u × Sub table t u
      apart_above (null_left {t = t}) v = (null_above t, marked_above t)
      apart_above (null_right {s = s}) v = (marked_above s, null_above s)
      apart_above (marked_either {s = s} {t = t} {u = u} p q h a) v = let k = upper_above a (valid_unmarked u v) in (marked_over s u k.0, marked_over t u k.1)
      apart_above (promoted_twice {x = x} {y = y} h) v =
          (left_promoted_variable reflexivity, left_promoted_variable (subst (λ (k : VarId). Sub table (variable k) (variable x)) (equal_from_same_var x y h) reflexivity))
      apart_above (variable_left {b = b} h e a) v = let k = upper_above a v in (left_variable_bound b e k.0, k.1)
      apart_above (promoted_left h n a) v = let k = upper_above a v in (left_promoted_type k.0, k.1)
      apart_above (variable_right {b = b} h e a) v = let k = upper_above a v in (k.0, left_variable_bound b e k.1)
      apart_above (promoted_right h a) v = let k = upper_above a v in (k.0, left_promoted_type k.1)
      apart_above (upper_functions {r = r} {o = o} {r' = r'} {o' = o'} {n = n} {n' = n'} {n'' = n''} h rs os ns e) v =
          let k = upper_above e v.3 in
          let counts = upper_counts r o n r' o' n' h in
          let rp = lower_params rs v.0 in
          let op = lower_params os v.1 in
          let np = lower_named ns v.2 in
          let size = count_lower rs counts.0 in (
            function_types (omega (arith, size)) (joined size rp.0 op.0) np.0 (laws.types.required_from n n'' (lower_requires_left ns counts.1.0)) k.0,
            function_types (omega (arith, size, counts.0)) (joined (size ∙ counts.0) rp.1 op.1) np.1 (laws.types.required_from n' n'' (λ m q. lower_requires_right ns m q (required_in_other n' n m counts.1.1 q))) k.1,
          )
      apart_above (upper_of_others h) v = (function_class refl, function_class refl)
      apart_above function_and_class v = (right_object refl refl, right_object refl refl)
      apart_above class_and_function v = (right_object refl refl, right_object refl refl)
      apart_above (one_class {c = c} {d = d} {ts = ts} {us = us} h a) v =
          let k = uppers_above a v in
          (interface_arguments k.0, subst (λ (e : ClassId). Sub table (interface e ts) (interface c us)) (equal_from_same_class c d h) (interface_arguments k.1))
      apart_above (two_classes {c = c} {d = d} {ss = ss} {ts = ts} {u = u} h a) v = (is_above table laws c ss u a.common.0, is_above table laws d ts u a.common.1)
      apart_above (unbound_left h e) v = absurd v
      apart_above (unbound_right h e) v = absurd v
      apart_above (invalid_left h) v = absurd v
      apart_above (invalid_right h) v = absurd v
      apart_above (other_arguments h n) v = absurd v
      apart_above (unknown_class h n) v = absurd v

      uppers_above : {ss ts us : Types} → Uppers table ss ts us → AreValid us → Subs table ss us × Subs table ts us
      uppers_above no_upper v = (none_left, none_left)
      uppers_above (one_upper a rest) v = let k = upper_above a v.0 in let l = uppers_above rest v.1 in (one_left k.0 l.0, one_left k.1 l.1)

      upper_named : {ns ms us : Named} → UpperNamed table ns ms us → AreValidNamed us → SubNamed table ns us × SubNamed table ms us
      upper_named no_upper_name v = (no_name, no_name)
      upper_named (upper_name {n = n} {m = m} {r = r} {q = q} {u = u} {us = us} h a rest) v =
          let k = upper_above a v.0 in
          let l = upper_named rest v.1 in
          let is : n ≡ m = (bytes_decides n m).0 h in
          (one_name u first k.0 (named_later l.0), one_name u (subst (λ (k : List ℕ). HasNamed (more_named n (r && q) u us) k u) is first) k.1 (named_later l.1))

      pub lower_below : {s t u : Ty} → Lower table s t u → IsValid u → Sub table u s × Sub table u t
      lower_below (left_below a) v = (reflexivity, a)
      lower_below (right_below n a) v = (a, reflexivity)
      lower_below (lower_apart apart a) v = apart_below a v

      apart_below : {s t u : Ty} → LowerApart table s t u → IsValid u → Sub table u s × Sub table u t
      apart_below (marked_both {s = s} {t = t} {u = u} a) v = let k = lower_below a (valid_unmarked u v) in (marked_below u s k.0, marked_below u t k.1)
      apart_below (marked_once {s = s} {t = t} p q a) v = let k = lower_below a v in (bare_below s k.0, bare_below t k.1)
      apart_below (lower_functions {r = r} {o = o} {r' = r'} {o' = o'} {n = n} {n' = n'} {n'' = n''} h rs os ns e) v =
          let k = lower_below e v.3 in
          let rp = uppers_above rs v.0 in
          let op = uppers_above os v.1 in
          let np = upper_named ns v.2 in (
            function_types (omega (arith, count_subs rp.0)) (joined (count_subs rp.0) (params_from rp.0) (params_from op.0)) np.0 (laws.types.required_from n'' n (λ m q. (upper_requires ns m q).0)) k.0,
            function_types (omega (arith, count_subs rp.1)) (joined (count_subs rp.1) (params_from rp.1) (params_from op.1)) np.1 (laws.types.required_from n'' n' (λ m q. (upper_requires ns m q).1)) k.1,
          )
      apart_below (lower_of_others h) v = (left_bottom, left_bottom)
      apart_below (nothing_below p q) v = (left_bottom, left_bottom)

      lower_params : {ss ts us : Types} → LowerParams table ss ts us → AreValid us → SubParams table us ss × SubParams table us ts
      lower_params left_ends v = (no_param, no_param)
      lower_params right_ends v = (no_param, no_param)
      lower_params (one_lower a rest) v = let k = lower_below a v.0 in let l = lower_params rest v.1 in (one_param k.0 l.0, one_param k.1 l.1)

      lower_named : {ns ms us : Named} → LowerNamed table ns ms us → AreValidNamed us → SubNamed table us ns × SubNamed table us ms
      lower_named no_lower_name v = (no_name, no_name)
      lower_named (lower_name {n = n} {s = s} {t = t} {ms = ms} e a rest) v =
          let k = lower_below a v.0 in
          let l = lower_named rest v.1 in
          (one_name s first k.0 (named_later l.0), one_name t (type_is_named ms n t e) k.1 l.1)
      lower_named (other_name e rest) v = let l = lower_named rest v in (named_later l.0, l.1)
