-- The bounds that are computed are those that the rows of the tables derive.
use Rattle.std.proofs.Common.{◌≡◌, ℕ, zero, suc, ◌+◌, ◌<◌, ◌≤◌, Bool, true, false, Option, Some, None, refl, sym, subst, cond, arith}
use Rattle.std.specs.Prelude.{◌&&◌, ◌||◌, nat_eq, bytes_eq, unwrap_or}
use Rattle.std.specs.Option.{option_map_or}
use Rattle.std.proofs.lemmas.Bool.{and_parts}
use Rattle.dart_types.specs.Ty.{Ty, Types, Named, invalid, never, void, null, interface, function, variable, promoted, nullable, no_more, more, no_named, more_named, count}
use Rattle.dart_types.specs.Named.{type_named}
use Rattle.dart_types.specs.Marks.{is_marked}
use Rattle.dart_types.specs.Measure.{weight_of}
use Rattle.dart_types.specs.Normal.{nullable_of}
use Rattle.dart_types.specs.Same.{same_class}
use Rattle.dart_types.specs.Sub.{Sub, is_required, right_top, left_bottom}
use Rattle.dart_types.specs.SubTest.{sub, is_null}
use Rattle.dart_types.specs.Tables.{Table, bound_of}
use Rattle.dart_types.specs.declared.ids.ClassId.{ClassId}
use Rattle.dart_types.specs.declared.ids.TheConstants.{FUNCTION}
use Rattle.dart_types.specs.Laws.{RowLaws}
use Rattle.type_bounds.specs.Bounds.{AreApart, bare_of, is_bare, is_promoted_from, is_settled, Upper, right_above, left_above, upper_apart, UpperApart, marked_either, variable_left, promoted_left, variable_right, promoted_right, upper_functions, upper_of_others, function_and_class, class_and_function, one_class, two_classes, unbound_left, unbound_right, invalid_left, invalid_right, other_arguments, unknown_class, Uppers, no_upper, one_upper, UpperNamed, no_upper_name, upper_name, Lower, left_below, right_below, lower_apart, LowerApart, marked_once, lower_functions, lower_of_others, nothing_below, LowerParams, left_ends, right_ends, one_lower, LowerNamed, no_lower_name, lower_name, other_name}
use Rattle.type_bounds.specs.BoundsOf.{each_bound, each_name, common_names, upper_of_classes, upper_of_functions, upper_of_class, upper_of_function, upper_of_settled, upper_by_right, upper_by_left, upper_of_apart, upper_row, lower_of_functions, lower_of_function, lower_of_unmarked, lower_of_apart, lower_row, upper_within, lower_within, upper_of, lower_of}
use Rattle.type_bounds.specs.CommonOf.{deepest_of}
use Rattle.type_bounds.specs.Signatures.{have_upper, have_lower, same_names}
use Rattle.type_bounds.proofs.General.{nat_from_test, nat_eq-refl}
use Rattle.type_bounds.proofs.BoundFalls.{weights_of, named_weights_of, weights-same, named_weights-same, arguments_weigh, marked_fall, name_weighs}
use Rattle.type_bounds.proofs.DeepestOf.{deepest_sound, some_deepest}
use Rattle.type_bounds.proofs.LowerSteps.{at_both_marks}
use Rattle.type_bounds.proofs.MeetingSteps.{bare_by, first_false, second_false}
use Rattle.type_bounds.proofs.NonNulls.{some_weight, promoted_weighs, bound_weighs}
use Rattle.type_bounds.proofs.OneBound.{clash, one_upper_bound, one_lower_bound}
use Rattle.type_bounds.proofs.UpperSteps.{at_null_left, at_null_right, at_promoted_twice}

module _ (table : Table) (laws : RowLaws table) where
  -- a function type weighs more than its parts
  function_weighs : (r o : Types) (n : Named) (e : Ty) → weights_of table r + (weights_of table o + (named_weights_of table n + weight_of table e)) < weight_of table (function r o n e)
  unfolding weight_of
  function_weighs r o n e = omega (arith, weights-same table r, weights-same table o, named_weights-same table n)

  -- what the test of subtyping says
  not_sub : (s t : Ty) → sub table s t ≡ false → Sub table s t → ⊥
  not_sub s t e a = clash (sub table s t) (laws.sub_complete s t a) e

  -- one row from the bounds of types that weigh less than n
  module _ (up low : Ty → Ty → Ty) (n : ℕ) (is_upper : (a b : Ty) → weight_of table a + weight_of table b < n → Upper table a b (up a b)) (is_lower : (a b : Ty) → weight_of table a + weight_of table b < n → Lower table a b (low a b)) where
    uppers : (ss ts : Types) → count ss ≡ count ts → weights_of table ss + weights_of table ts < n → Uppers table ss ts (each_bound up ss ts)
    uppers no_more no_more e lt = no_upper
    uppers no_more (more t ts) e lt = absurd (omega (arith, e))
    uppers (more s ss) no_more e lt = absurd (omega (arith, e))
    uppers (more s ss) (more t ts) e lt = one_upper (is_upper s t (omega (arith, lt))) (uppers ss ts (omega (arith, e)) (omega (arith, lt)))

    lowers : (ss ts : Types) → weights_of table ss + weights_of table ts < n → LowerParams table ss ts (each_bound low ss ts)
    lowers no_more ts lt = left_ends
    lowers (more s ss) no_more lt = right_ends
    lowers (more s ss) (more t ts) lt = one_lower (is_lower s t (omega (arith, lt))) (lowers ss ts (omega (arith, lt)))

    upper_names : (ns ms : Named) → same_names ns ms ≡ true → named_weights_of table ns + named_weights_of table ms < n → UpperNamed table ns ms (each_name up ns ms)
    upper_names no_named no_named e lt = no_upper_name
    upper_names no_named (more_named m q t ms) e lt = cc
    upper_names (more_named l r s ns) no_named e lt = cc
    upper_names (more_named l r s ns) (more_named m q t ms) e lt =
        let both = and_parts (bytes_eq l m) (same_names ns ms) e in
        upper_name both.0 (is_upper s t (omega (arith, lt))) (upper_names ns ms both.1 (omega (arith, lt)))

    lower_names : (ns ms : Named) → named_weights_of table ns + named_weights_of table ms < n → LowerNamed table ns ms (common_names low ns ms)
    lower_names no_named ms lt = no_lower_name
    lower_names (more_named l r s ns) ms lt = at (type_named ms l) refl (lower_names ns ms (omega (arith, lt)))
      where
        at : (o : Option Ty) → type_named ms l ≡ o → LowerNamed table ns ms (common_names low ns ms) →
            LowerNamed table (more_named l r s ns) ms (option_map_or (λ t. more_named l (r || is_required ms l) (low s t) (common_names low ns ms)) o (common_names low ns ms))
        at None e rest = other_name e rest
        at (Some t) e rest = lower_name e (is_lower s t (omega (arith, lt, name_weighs table ms l t e))) rest

    -- classes
    of_classes : (c : ClassId) (ss : Types) (d : ClassId) (ts : Types) → weights_of table ss + weights_of table ts < n → AreApart table (interface c ss) (interface d ts) → UpperApart table (interface c ss) (interface d ts) (upper_of_classes table up low c ss d ts)
    of_classes c ss d ts lt apart = at (same_class c d) refl
      where
        counted : same_class c d ≡ true → (b : Bool) → nat_eq (count ss) (count ts) ≡ b → UpperApart table (interface c ss) (interface d ts) (cond b (interface c (each_bound up ss ts)) invalid)
        counted k true e = one_class k (uppers ss ts (nat_from_test (count ss) (count ts) e) lt)
        counted k false e =
            other_arguments k (λ same. clash (nat_eq (count ss) (count ts)) (subst (λ (m : ℕ). nat_eq (count ss) m ≡ true) same (nat_eq-refl (count ss))) e)

        deepest : same_class c d ≡ false → (o : Option Ty) → deepest_of table c ss d ts ≡ o → UpperApart table (interface c ss) (interface d ts) (unwrap_or o invalid)
        deepest k None e = unknown_class k (λ left right. some_deepest table laws c ss d ts left right apart e)
        deepest k (Some u) e = two_classes k (deepest_sound table laws c ss d ts u e)

        at : (b : Bool) → same_class c d ≡ b →
            UpperApart table (interface c ss) (interface d ts) (cond b (cond (nat_eq (count ss) (count ts)) (interface c (each_bound up ss ts)) invalid) (unwrap_or (deepest_of table c ss d ts) invalid))
        at true k = counted k (nat_eq (count ss) (count ts)) refl
        at false k = deepest k (deepest_of table c ss d ts) refl

    -- function types
    module _ (r o : Types) (l : Named) (e : Ty) (r' o' : Types) (l' : Named) (e' : Ty) where
      abbrev Lighter : Type 0
      Lighter = weight_of table (function r o l e) + weight_of table (function r' o' l' e') ≤ n

      upper_functions_of : Lighter → UpperApart table (function r o l e) (function r' o' l' e') (upper_of_functions table up low r o l e r' o' l' e')
      upper_functions_of le = at (have_upper r o l r' o' l') refl
        where
          at : (b : Bool) → have_upper r o l r' o' l' ≡ b → UpperApart table (function r o l e) (function r' o' l' e') (cond b (function (each_bound low r r') (each_bound low o o') (common_names low l l') (up e e')) (interface FUNCTION no_more))
          at true k =
              upper_functions k
              (lowers r r' (omega (arith, le, function_weighs r o l e, function_weighs r' o' l' e')))
              (lowers o o' (omega (arith, le, function_weighs r o l e, function_weighs r' o' l' e')))
              (lower_names l l' (omega (arith, le, function_weighs r o l e, function_weighs r' o' l' e')))
              (is_upper e e' (omega (arith, le, function_weighs r o l e, function_weighs r' o' l' e')))
          at false k = upper_of_others k

      lower_functions_of : Lighter → LowerApart table (function r o l e) (function r' o' l' e') (lower_of_functions table up low r o l e r' o' l' e')
      lower_functions_of le = at (have_lower r o l r' o' l') refl
        where
          at : (b : Bool) → have_lower r o l r' o' l' ≡ b → LowerApart table (function r o l e) (function r' o' l' e') (cond b (function (each_bound up r r') (each_bound up o o') (each_name up l l') (low e e')) never)
          at true k =
              let first = and_parts (nat_eq (count r) (count r')) (nat_eq (count o) (count o') && same_names l l') k in
              let second = and_parts (nat_eq (count o) (count o')) (same_names l l') first.1 in
              lower_functions k
              (uppers r r' (nat_from_test (count r) (count r') first.0) (omega (arith, le, function_weighs r o l e, function_weighs r' o' l' e')))
              (uppers o o' (nat_from_test (count o) (count o') second.0) (omega (arith, le, function_weighs r o l e, function_weighs r' o' l' e')))
              (upper_names l l' second.1 (omega (arith, le, function_weighs r o l e, function_weighs r' o' l' e')))
              (is_lower e e' (omega (arith, le, function_weighs r o l e, function_weighs r' o' l' e')))
          at false k = lower_of_others k

    -- types that are bare and no variables
    of_class : (c : ClassId) (ss : Types) (t : Ty) → is_settled t ≡ true → AreApart table (interface c ss) t → weight_of table (interface c ss) + weight_of table t ≤ n → UpperApart table (interface c ss) t (upper_of_class table up low c ss t)
    of_class c ss invalid h apart le = invalid_right refl
    of_class c ss never h apart le = absurd (apart.1 left_bottom)
    of_class c ss void h apart le = absurd (apart.0 (right_top refl))
    of_class c ss null h apart le = cc
    of_class c ss (interface d ts) h apart le = of_classes c ss d ts (omega (arith, le, arguments_weigh table c ss, arguments_weigh table d ts)) apart
    of_class c ss (function r o l e) h apart le = class_and_function
    of_class c ss (variable y) h apart le = cc
    of_class c ss (promoted y v) h apart le = cc
    of_class c ss (nullable t) h apart le = cc

    of_function : (r o : Types) (l : Named) (e t : Ty) → is_settled t ≡ true → AreApart table (function r o l e) t → weight_of table (function r o l e) + weight_of table t ≤ n → UpperApart table (function r o l e) t (upper_of_function table up low r o l e t)
    of_function r o l e invalid h apart le = invalid_right refl
    of_function r o l e never h apart le = absurd (apart.1 left_bottom)
    of_function r o l e void h apart le = absurd (apart.0 (right_top refl))
    of_function r o l e null h apart le = cc
    of_function r o l e (interface d ts) h apart le = function_and_class
    of_function r o l e (function r' o' l' e') h apart le = upper_functions_of r o l e r' o' l' e' le
    of_function r o l e (variable y) h apart le = cc
    of_function r o l e (promoted y v) h apart le = cc
    of_function r o l e (nullable t) h apart le = cc

    of_settled : (s t : Ty) → is_settled s ≡ true → is_settled t ≡ true → AreApart table s t → weight_of table s + weight_of table t ≤ n → UpperApart table s t (upper_of_settled table up low s t)
    of_settled invalid t h k apart le = invalid_left k
    of_settled never t h k apart le = absurd (apart.0 left_bottom)
    of_settled void t h k apart le = absurd (apart.1 (right_top refl))
    of_settled null t h k apart le = cc
    of_settled (interface c ss) t h k apart le = of_class c ss t k apart le
    of_settled (function r o l e) t h k apart le = of_function r o l e t k apart le
    of_settled (variable x) t h k apart le = cc
    of_settled (promoted x v) t h k apart le = cc
    of_settled (nullable s) t h k apart le = cc

    -- variables
    by_right : (s t : Ty) → is_settled s ≡ true → is_bare t ≡ true → AreApart table s t → weight_of table s + weight_of table t ≤ n → UpperApart table s t (upper_by_right table up low s t)
    by_right s invalid h k apart le = of_settled s invalid h refl apart le
    by_right s never h k apart le = of_settled s never h refl apart le
    by_right s void h k apart le = of_settled s void h refl apart le
    by_right s null h k apart le = cc
    by_right s (interface d ts) h k apart le = of_settled s (interface d ts) h refl apart le
    by_right s (function r o l e) h k apart le = of_settled s (function r o l e) h refl apart le
    by_right s (variable y) h k apart le = at (bound_of table y) refl
      where
        at : (o : Option Ty) → bound_of table y ≡ o → UpperApart table s (variable y) (option_map_or (up s) o invalid)
        at None e = unbound_right h e
        at (Some b) e = variable_right h e (is_upper s b (omega (arith, le, bound_weighs table laws y b e)))
    by_right s (promoted y v) h k apart le = promoted_right h (is_upper s v (omega (arith, le, promoted_weighs table y v)))
    by_right s (nullable t) h k apart le = cc

    by_left : (s t : Ty) → is_bare s ≡ true → is_bare t ≡ true → AreApart table s t → weight_of table s + weight_of table t ≤ n → UpperApart table s t (upper_by_left table up low s t)
    by_left invalid t h k apart le = by_right invalid t refl k apart le
    by_left never t h k apart le = by_right never t refl k apart le
    by_left void t h k apart le = by_right void t refl k apart le
    by_left null t h k apart le = cc
    by_left (interface c ss) t h k apart le = by_right (interface c ss) t refl k apart le
    by_left (function r o l e) t h k apart le = by_right (function r o l e) t refl k apart le
    by_left (variable x) t h k apart le = at (bound_of table x) refl
      where
        at : (o : Option Ty) → bound_of table x ≡ o → UpperApart table (variable x) t (option_map_or (λ b. up b t) o invalid)
        at None e = unbound_left k e
        at (Some b) e = variable_left k e (is_upper b t (omega (arith, le, bound_weighs table laws x b e)))
    by_left (promoted x v) t h k apart le = at (is_promoted_from x t) refl
      where
        at : (b : Bool) → is_promoted_from x t ≡ b → UpperApart table (promoted x v) t (cond b (variable x) (up v t))
        at true e = at_promoted_twice table t x v refl e
        at false e = promoted_left k e (is_upper v t (omega (arith, le, promoted_weighs table x v)))
    by_left (nullable s) t h k apart le = cc

    -- the rows of the table of upper bounds
    of_apart : (s t : Ty) → AreApart table s t → weight_of table s + weight_of table t ≤ n → UpperApart table s t (upper_of_apart table up low s t)
    of_apart s t apart le = at_left (is_null s) refl
      where
        marked : is_null s ≡ false → is_null t ≡ false → (b : Bool) → (is_marked s || is_marked t) ≡ b → UpperApart table s t (cond b (nullable_of (up (bare_of s) (bare_of t))) (upper_by_left table up low s t))
        marked h k true m = marked_either h k m (is_upper (bare_of s) (bare_of t) (omega (arith, le, marked_fall table s t m)))
        marked h k false m = by_left s t (bare_by s h (first_false (is_marked s) (is_marked t) m)) (bare_by t k (second_false (is_marked s) (is_marked t) m)) apart le

        at_right : is_null s ≡ false → (b : Bool) → is_null t ≡ b → UpperApart table s t (cond b (nullable_of s) (cond (is_marked s || is_marked t) (nullable_of (up (bare_of s) (bare_of t))) (upper_by_left table up low s t)))
        at_right h true k = at_null_right table s t k
        at_right h false k = marked h k (is_marked s || is_marked t) refl

        at_left : (b : Bool) → is_null s ≡ b → UpperApart table s t (cond b (nullable_of t) (cond (is_null t) (nullable_of s) (cond (is_marked s || is_marked t) (nullable_of (up (bare_of s) (bare_of t))) (upper_by_left table up low s t))))
        at_left true h = at_null_left table s t h
        at_left false h = at_right h (is_null t) refl

    upper_row_is : (s t : Ty) → weight_of table s + weight_of table t ≤ n → Upper table s t (upper_row table up low s t)
    upper_row_is s t le = at (sub table s t) refl
      where
        other : sub table s t ≡ false → (b : Bool) → sub table t s ≡ b → Upper table s t (cond b s (upper_of_apart table up low s t))
        other h true k = left_above (not_sub s t h) (laws.sub_sound t s k)
        other h false k = let apart : AreApart table s t = (not_sub s t h, not_sub t s k) in upper_apart apart (of_apart s t apart le)

        at : (b : Bool) → sub table s t ≡ b → Upper table s t (cond b t (cond (sub table t s) s (upper_of_apart table up low s t)))
        at true h = right_above (laws.sub_sound s t h)
        at false h = other h (sub table t s) refl

    -- the rows of the table of lower bounds
    lower_of_function_is : (r o : Types) (l : Named) (e t : Ty) → is_marked t ≡ false → weight_of table (function r o l e) + weight_of table t ≤ n → LowerApart table (function r o l e) t (lower_of_function table up low r o l e t)
    lower_of_function_is r o l e invalid h le = nothing_below refl refl
    lower_of_function_is r o l e never h le = nothing_below refl refl
    lower_of_function_is r o l e void h le = nothing_below refl refl
    lower_of_function_is r o l e null h le = nothing_below refl refl
    lower_of_function_is r o l e (interface d ts) h le = nothing_below refl refl
    lower_of_function_is r o l e (function r' o' l' e') h le = lower_functions_of r o l e r' o' l' e' le
    lower_of_function_is r o l e (variable y) h le = nothing_below refl refl
    lower_of_function_is r o l e (promoted y v) h le = nothing_below refl refl
    lower_of_function_is r o l e (nullable t) h le = cc

    lower_unmarked_is : (s t : Ty) → (is_marked s || is_marked t) ≡ false → weight_of table s + weight_of table t ≤ n → LowerApart table s t (lower_of_unmarked table up low s t)
    lower_unmarked_is invalid t h le = nothing_below h refl
    lower_unmarked_is never t h le = nothing_below h refl
    lower_unmarked_is void t h le = nothing_below h refl
    lower_unmarked_is null t h le = nothing_below h refl
    lower_unmarked_is (interface c ss) t h le = nothing_below h refl
    lower_unmarked_is (function r o l e) t h le = lower_of_function_is r o l e t h le
    lower_unmarked_is (variable x) t h le = nothing_below h refl
    lower_unmarked_is (promoted x v) t h le = nothing_below h refl
    lower_unmarked_is (nullable s) t h le = cc

    lower_apart_is : (s t : Ty) → weight_of table s + weight_of table t ≤ n → LowerApart table s t (lower_of_apart table up low s t)
    lower_apart_is s t le = at (is_marked s && is_marked t) refl
      where
        fall : (is_marked s || is_marked t) ≡ true → Lower table (bare_of s) (bare_of t) (low (bare_of s) (bare_of t))
        fall m = is_lower (bare_of s) (bare_of t) (omega (arith, le, marked_fall table s t m))

        either_of_both : (a b : Bool) → (a && b) ≡ true → (a || b) ≡ true
        either_of_both true b e = refl
        either_of_both false b e = cc

        once : (is_marked s && is_marked t) ≡ false → (b : Bool) → (is_marked s || is_marked t) ≡ b → LowerApart table s t (cond b (low (bare_of s) (bare_of t)) (lower_of_unmarked table up low s t))
        once h true m = marked_once h m (fall m)
        once h false m = lower_unmarked_is s t m le

        at : (b : Bool) → (is_marked s && is_marked t) ≡ b → LowerApart table s t (cond b (nullable_of (low (bare_of s) (bare_of t))) (cond (is_marked s || is_marked t) (low (bare_of s) (bare_of t)) (lower_of_unmarked table up low s t)))
        at true h =
            let both = and_parts (is_marked s) (is_marked t) h in
            at_both_marks table s t (low (bare_of s) (bare_of t)) both.0 both.1 (fall (either_of_both (is_marked s) (is_marked t) h))
        at false h = once h (is_marked s || is_marked t) refl

    lower_row_is : (s t : Ty) → weight_of table s + weight_of table t ≤ n → Lower table s t (lower_row table up low s t)
    lower_row_is s t le = at (sub table s t) refl
      where
        other : sub table s t ≡ false → (b : Bool) → sub table t s ≡ b → Lower table s t (cond b t (lower_of_apart table up low s t))
        other h true k = right_below (not_sub s t h) (laws.sub_sound t s k)
        other h false k = lower_apart (not_sub s t h, not_sub t s k) (lower_apart_is s t le)

        at : (b : Bool) → sub table s t ≡ b → Lower table s t (cond b s (cond (sub table t s) t (lower_of_apart table up low s t)))
        at true h = left_below (laws.sub_sound s t h)
        at false h = other h (sub table t s) refl

  -- as many rows as both types weigh are enough
  within : (n : ℕ) (s t : Ty) → weight_of table s + weight_of table t ≤ n → Upper table s t (upper_within table n s t) × Lower table s t (lower_within table n s t)
  within zero s t le = absurd (omega (arith, le, some_weight table s))
  within (suc n) s t le =
      let up = λ (a b : Ty) (lt : weight_of table a + weight_of table b < suc n). (within n a b (omega (arith, lt))).0 in
      let low = λ (a b : Ty) (lt : weight_of table a + weight_of table b < suc n). (within n a b (omega (arith, lt))).1 in
      (upper_row_is (upper_within table n) (lower_within table n) (suc n) up low s t le, lower_row_is (upper_within table n) (lower_within table n) (suc n) up low s t le)

  pub upper_holds : (s t : Ty) → Upper table s t (upper_of table s t)
  unfolding upper_of
  upper_holds s t = (within (weight_of table s + weight_of table t) s t (omega arith)).0

  pub lower_holds : (s t : Ty) → Lower table s t (lower_of table s t)
  unfolding lower_of
  lower_holds s t = (within (weight_of table s + weight_of table t) s t (omega arith)).1

  pub upper_is : {s t u : Ty} → Upper table s t u → u ≡ upper_of table s t
  upper_is {s} {t} a = one_upper_bound table a (upper_holds s t)

  pub lower_is : {s t u : Ty} → Lower table s t u → u ≡ lower_of table s t
  lower_is {s} {t} a = one_lower_bound table a (lower_holds s t)

  -- by one row from the bounds of other types
  pub upper_by_row : (s t : Ty) → upper_of table s t ≡ upper_row table (upper_of table) (lower_of table) s t
  upper_by_row s t =
      sym (upper_is (upper_row_is (upper_of table) (lower_of table) (weight_of table s + weight_of table t) (λ a b lt. upper_holds a b) (λ a b lt. lower_holds a b) s t (omega arith)))

  pub lower_by_row : (s t : Ty) → lower_of table s t ≡ lower_row table (upper_of table) (lower_of table) s t
  lower_by_row s t =
      sym (lower_is (lower_row_is (upper_of table) (lower_of table) (weight_of table s + weight_of table t) (λ a b lt. upper_holds a b) (λ a b lt. lower_holds a b) s t (omega arith)))

  -- more rows than that give the same
  pub upper_rows : (n : ℕ) (s t : Ty) → weight_of table s + weight_of table t ≤ n → upper_within table n s t ≡ upper_of table s t
  upper_rows n s t le = upper_is (within n s t le).0

  pub lower_rows : (n : ℕ) (s t : Ty) → weight_of table s + weight_of table t ≤ n → lower_within table n s t ≡ lower_of table s t
  lower_rows n s t le = lower_is (within n s t le).1
