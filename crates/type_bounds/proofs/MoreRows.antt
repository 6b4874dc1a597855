-- More rows change neither bounds nor types without others.
use Rattle.std.proofs.Common.{◌≡◌, ℕ, zero, suc, ◌<◌, ◌≤◌, Bool, true, false, Option, Some, None, refl, sym, ◌∙◌, ap, cond, arith}
use Rattle.std.specs.Prelude.{IsSome}
use Rattle.std.specs.Option.{option_map_or}
use Rattle.dart_types.specs.Ty.{Ty, Types, Named, invalid, never, void, null, interface, function, variable, promoted, nullable}
use Rattle.dart_types.specs.Heads.{object, is_object}
use Rattle.dart_types.specs.Normal.{nullable_of, normal}
use Rattle.dart_types.specs.Measure.{weight_of}
use Rattle.dart_types.specs.Sub.{Sub, reflexivity, right_top, left_bottom, right_object, left_nullable, left_promoted_variable, left_promoted_type, left_variable_bound, interface_arguments, super_interface, function_class, left_top}
use Rattle.dart_types.specs.SubTest.{sub}
use Rattle.dart_types.specs.Substitution.{put, by_params}
use Rattle.dart_types.specs.Tables.{Table, class_of, bound_of, head_depth}
use Rattle.dart_types.specs.WellFormed.{HasArguments, IsOver, AreOver, AreOverNamed}
use Rattle.dart_types.specs.declared.ids.ClassId.{ClassId}
use Rattle.dart_types.specs.declared.ids.VarId.{VarId}
use Rattle.dart_types.specs.declared.class_rows.ClassRow.{ClassRow}
use Rattle.dart_types.specs.Laws.{RowLaws, MoreRows}
use Rattle.type_bounds.specs.Bounds.{AreApart, Upper, right_above, left_above, upper_apart, UpperApart, null_left, null_right, marked_either, promoted_twice, variable_left, promoted_left, variable_right, promoted_right, upper_functions, upper_of_others, function_and_class, class_and_function, one_class, two_classes, unbound_left, unbound_right, invalid_left, invalid_right, other_arguments, unknown_class, Uppers, no_upper, one_upper, UpperNamed, no_upper_name, upper_name, Lower, left_below, right_below, lower_apart, LowerApart, marked_both, marked_once, lower_functions, lower_of_others, nothing_below, LowerParams, left_ends, right_ends, one_lower, LowerNamed, no_lower_name, lower_name, other_name}
use Rattle.type_bounds.specs.BoundsOf.{upper_of, lower_of}
use Rattle.type_bounds.specs.Common.{IsAbove, IsCommon, IsAlone, IsDeepest}
use Rattle.type_bounds.specs.Factor.{with_null, factor_of}
use Rattle.type_bounds.specs.NonNull.{variable_without_null, without_null, non_null_of}
use Rattle.type_bounds.proofs.BoundsHold.{upper_holds, lower_holds}
use Rattle.type_bounds.proofs.CommonLists.{row_with}
use Rattle.type_bounds.proofs.NamedBounds.{type_is_named}
use Rattle.type_bounds.proofs.NonNulls.{some_weight, bare_weighs, promoted_weighs, bound_weighs, non_null_step}
use Rattle.type_bounds.proofs.OneBound.{one_upper_bound, one_lower_bound}
use Rattle.type_bounds.proofs.OverRows.{over_bare, over_named, over_above}

same_answer : (a b : Bool) → (a ≡ true → b ≡ true) → (b ≡ true → a ≡ true) → a ≡ b
same_answer true b f g = sym (f refl)
same_answer false true f g = g refl
same_answer false false f g = refl

-- the depth that a row says
abbrev depth_in : Option ClassRow → ℕ
depth_in row = option_map_or (λ (r : ClassRow). r.depth) row 0

no_null_interface : (table : Table) {c : ClassId} {ss : Types} → Sub table null (interface c ss) → ⊥
no_null_interface table (right_top e) = cc
no_null_interface table (right_object e p) = cc

module _ (small large : Table) (more_rows : MoreRows small large) (laws : RowLaws small) (large_laws : RowLaws large) where
  up : {s t : Ty} → Sub small s t → Sub large s t
  up {s} {t} a = more_rows.sub_large s t a

  down : {s t : Ty} → IsOver small s → IsOver small t → Sub large s t → Sub small s t
  down {s} {t} o p a = more_rows.sub_small s t o p a

  row_up : (c : ClassId) (row : ClassRow) → class_of small c ≡ Some row → class_of large c ≡ Some row
  row_up = more_rows.classes

  bound_up : (x : VarId) (b : Ty) → bound_of small x ≡ Some b → bound_of large x ≡ Some b
  bound_up = more_rows.bounds

  bound_with : (x : VarId) → IsSome (bound_of small x) → (b : Ty) × (bound_of small x ≡ Some b)
  bound_with x h = at (bound_of small x) refl h
    where
      at : (o : Option Ty) → bound_of small x ≡ o → IsSome o → (b : Ty) × (bound_of small x ≡ Some b)
      at None e k = cc
      at (Some b) e k = (b, e)

  bound_is : (x : VarId) → IsSome (bound_of small x) → bound_of small x ≡ None → ⊥
  bound_is x h e = let b = bound_with x h in let k : Some b.0 ≡ None = sym b.1 ∙ e in cc

  -- a bound among the larger rows of a variable that has one among the smaller is that one
  bound_down : (x : VarId) (b : Ty) → IsSome (bound_of small x) → bound_of large x ≡ Some b → bound_of small x ≡ Some b
  bound_down x b h e =
      let own = bound_with x h in
      let same : Some own.0 ≡ Some b = sym (bound_up x own.0 own.1) ∙ e in
      own.1 ∙ same

  -- the test of subtyping gives the same
  pub same_sub : (s t : Ty) → IsOver small s → IsOver small t → sub small s t ≡ sub large s t
  same_sub s t o p =
      same_answer (sub small s t) (sub large s t) (λ h. large_laws.sub_complete s t (up (laws.sub_sound s t h))) (λ h. laws.sub_complete s t (down o p (large_laws.sub_sound s t h)))

  -- also below `Object`, whether it has a row or not
  object_down : {s : Ty} {c : ClassId} {ts : Types} → is_object (interface c ts) ≡ true → Sub large s (interface c ts) → IsOver small s → Sub small s (interface c ts)
  object_down h reflexivity o = reflexivity
  object_down h (right_top e) o = cc
  object_down h left_bottom o = left_bottom
  object_down h (right_object e p) o = right_object e p
  object_down h (left_nullable a b) o = absurd (no_null_interface large b)
  object_down h (left_promoted_variable a) o = left_promoted_variable (object_down h a o.0)
  object_down h (left_promoted_type a) o = left_promoted_type (object_down h a o.1)
  object_down h (left_variable_bound {x = x} b e a) o =
      let here = bound_down x b o e in
      left_variable_bound b here (object_down h a (laws.formed_bound x b here).1)
  object_down h (interface_arguments a) o = right_object h refl
  object_down h (super_interface row r n k a) o = right_object h refl
  object_down h (function_class e) o = right_object h refl
  object_down {c = c} {ts = ts} h (left_top a) o = absurd (no_null_interface large (large_laws.nullable_null object (interface c ts) a))

  same_object : (s : Ty) → IsOver small s → sub small s object ≡ sub large s object
  same_object s o =
      same_answer (sub small s object) (sub large s object)
      (λ h. large_laws.sub_complete s object (up (laws.sub_sound s object h)))
      (λ h. laws.sub_complete s object (object_down refl (large_laws.sub_sound s object h) o))

  -- superinterfaces of a class with arguments are the same
  pub above_large : {c : ClassId} {ts : Types} {u : Ty} → IsAbove small c ts u → IsAbove large c ts u
  above_large {c = c} a = record {
    row = a.row;
    row_is = row_up c a.row a.row_is;
    counted = a.counted;
    over = a.over;
    superinterface = more_rows.kept_large c a.over a.superinterface;
    is = a.is;
  }

  pub above_small : {c : ClassId} {ts : Types} {u : Ty} → HasArguments (class_of small c) ts → IsAbove large c ts u → IsAbove small c ts u
  above_small {c = c} {ts = ts} h a =
      let own = row_with small c ts h in
      let found : Some a.row ≡ Some own.0 = sym a.row_is ∙ row_up c own.0 own.1 in
      let same : a.row ≡ own.0 = cc in
      record {
        row = own.0;
        row_is = own.1;
        counted = own.2;
        over = a.over;
        superinterface = more_rows.kept_small c own.0 a.over own.1 a.superinterface;
        is = a.is ∙ ap (λ (row : ClassRow). normal (put (by_params row.params ts) a.over)) same;
      }

  -- and as far from Object
  same_depth : (u : Ty) → IsOver small u → head_depth small u ≡ head_depth large u
  same_depth invalid o = refl
  same_depth never o = refl
  same_depth void o = refl
  same_depth null o = refl
  same_depth (interface c ts) o = let own = row_with small c ts o.0 in ap depth_in own.1 ∙ sym (ap depth_in (row_up c own.0 own.1))
  same_depth (function r p n e) o = refl
  same_depth (variable x) o = refl
  same_depth (promoted x t) o = refl
  same_depth (nullable t) o = refl

  module _ (c : ClassId) (ss : Types) (d : ClassId) (ts : Types) (o : IsOver small (interface c ss)) (p : IsOver small (interface d ts)) where
    common_large : {u : Ty} → IsCommon small c ss d ts u → IsCommon large c ss d ts u
    common_large k = (above_large k.0, above_large k.1)

    common_small : {u : Ty} → IsCommon large c ss d ts u → IsCommon small c ss d ts u
    common_small k = (above_small o.0 k.0, above_small p.0 k.1)

    depth_of_common : (u : Ty) → IsCommon small c ss d ts u → head_depth small u ≡ head_depth large u
    depth_of_common u k = same_depth u (over_above small laws o.1 k.0)

    alone_large : (u : Ty) → IsCommon small c ss d ts u → IsAlone small c ss d ts u → IsAlone large c ss d ts u
    alone_large u k alone v l e = let m = common_small l in alone v m (depth_of_common v m ∙ e ∙ sym (depth_of_common u k))

    alone_small : (u : Ty) → IsCommon small c ss d ts u → IsAlone large c ss d ts u → IsAlone small c ss d ts u
    alone_small u k alone v m e = alone v (common_large m) (sym (depth_of_common v m) ∙ e ∙ depth_of_common u k)

    deepest_large : (u : Ty) → IsDeepest small c ss d ts u → IsDeepest large c ss d ts u
    deepest_large u h = record {
      common = common_large h.common;
      alone = alone_large u h.common h.alone;
      deepest = λ v l lt alone. let m = common_small l in h.deepest v m (omega (arith, lt, depth_of_common v m, depth_of_common u h.common)) (alone_small v m alone);
    }

  apart : (s t : Ty) → IsOver small s → IsOver small t → AreApart small s t → AreApart large s t
  apart s t o p n = ((λ a. n.0 (down o p a)), (λ a. n.1 (down p o a)))

  mutual
    -- a bound by the smaller rows is one by the larger
    pub upper_large : {s t u : Ty} → Upper small s t u → IsOver small s → IsOver small t → Upper large s t u
    upper_large (right_above a) o p = right_above (up a)
    upper_large (left_above n a) o p = left_above (λ b. n (down o p b)) (up a)
    upper_large (upper_apart {s = s} {t = t} n a) o p = upper_apart (apart s t o p n) (apart_large a o p)

    apart_large : {s t u : Ty} → UpperApart small s t u → IsOver small s → IsOver small t → UpperApart large s t u
    apart_large null_left o p = null_left
    apart_large null_right o p = null_right
    apart_large (marked_either {s = s} {t = t} k l h a) o p = marked_either k l h (upper_large a (over_bare small s o) (over_bare small t p))
    apart_large (promoted_twice h) o p = promoted_twice h
    apart_large (variable_left {x = x} {b = b} h e a) o p = variable_left h (bound_up x b e) (upper_large a (laws.formed_bound x b e).1 p)
    apart_large (promoted_left h n a) o p = promoted_left h n (upper_large a o.1 p)
    apart_large (variable_right {y = y} {b = b} h e a) o p = variable_right h (bound_up y b e) (upper_large a o (laws.formed_bound y b e).1)
    apart_large (promoted_right h a) o p = promoted_right h (upper_large a o p.1)
    apart_large (upper_functions h rs os ns e) o p =
        upper_functions h (lower_params_large rs o.0 p.0) (lower_params_large os o.1 p.1) (lower_named_large ns o.2 p.2) (upper_large e o.3 p.3)
    apart_large (upper_of_others h) o p = upper_of_others h
    apart_large function_and_class o p = function_and_class
    apart_large class_and_function o p = class_and_function
    apart_large (one_class h a) o p = one_class h (uppers_large a o.1 p.1)
    apart_large (two_classes {c = c} {d = d} {ss = ss} {ts = ts} {u = u} h a) o p = two_classes h (deepest_large c ss d ts o p u a)
    apart_large (unbound_left {x = x} h e) o p = absurd (bound_is x o e)
    apart_large (unbound_right {y = y} h e) o p = absurd (bound_is y p e)
    apart_large (invalid_left h) o p = invalid_left h
    apart_large (invalid_right h) o p = invalid_right h
    apart_large (other_arguments h n) o p = other_arguments h n
    apart_large (unknown_class h n) o p = absurd (n o.0 p.0)

    uppers_large : {ss ts us : Types} → Uppers small ss ts us → AreOver small ss → AreOver small ts → Uppers large ss ts us
    uppers_large no_upper o p = no_upper
    uppers_large (one_upper a rest) o p = one_upper (upper_large a o.0 p.0) (uppers_large rest o.1 p.1)

    upper_named_large : {ns ms us : Named} → UpperNamed small ns ms us → AreOverNamed small ns → AreOverNamed small ms → UpperNamed large ns ms us
    upper_named_large no_upper_name o p = no_upper_name
    upper_named_large (upper_name h a rest) o p = upper_name h (upper_large a o.0 p.0) (upper_named_large rest o.1 p.1)

    pub lower_large : {s t u : Ty} → Lower small s t u → IsOver small s → IsOver small t → Lower large s t u
    lower_large (left_below a) o p = left_below (up a)
    lower_large (right_below n a) o p = right_below (λ b. n (down o p b)) (up a)
    lower_large (lower_apart {s = s} {t = t} n a) o p = lower_apart (apart s t o p n) (lower_apart_large a o p)

    lower_apart_large : {s t u : Ty} → LowerApart small s t u → IsOver small s → IsOver small t → LowerApart large s t u
    lower_apart_large (marked_both a) o p = marked_both (lower_large a o p)
    lower_apart_large (marked_once {s = s} {t = t} k l a) o p = marked_once k l (lower_large a (over_bare small s o) (over_bare small t p))
    lower_apart_large (lower_functions h rs os ns e) o p =
        lower_functions h (uppers_large rs o.0 p.0) (uppers_large os o.1 p.1) (upper_named_large ns o.2 p.2) (lower_large e o.3 p.3)
    lower_apart_large (lower_of_others h) o p = lower_of_others h
    lower_apart_large (nothing_below k l) o p = nothing_below k l

    lower_params_large : {ss ts us : Types} → LowerParams small ss ts us → AreOver small ss → AreOver small ts → LowerParams large ss ts us
    lower_params_large left_ends o p = left_ends
    lower_params_large right_ends o p = right_ends
    lower_params_large (one_lower a rest) o p = one_lower (lower_large a o.0 p.0) (lower_params_large rest o.1 p.1)

    lower_named_large : {ns ms us : Named} → LowerNamed small ns ms us → AreOverNamed small ns → AreOverNamed small ms → LowerNamed large ns ms us
    lower_named_large no_lower_name o p = no_lower_name
    lower_named_large (lower_name {n = n} {t = t} {ms = ms} e a rest) o p =
        lower_name e (lower_large a o.0 (over_named small p (type_is_named ms n t e))) (lower_named_large rest o.1 p)
    lower_named_large (other_name e rest) o p = other_name e (lower_named_large rest o.1 p)

  pub same_upper : (s t : Ty) → IsOver small s → IsOver small t → upper_of small s t ≡ upper_of large s t
  same_upper s t o p = one_upper_bound large (upper_large (upper_holds small laws s t) o p) (upper_holds large large_laws s t)

  pub same_lower : (s t : Ty) → IsOver small s → IsOver small t → lower_of small s t ≡ lower_of large s t
  same_lower s t o p = one_lower_bound large (lower_large (lower_holds small laws s t) o p) (lower_holds large large_laws s t)

  -- one step without null from lighter types that are the same
  same_step : (t : Ty) → IsOver small t → ((u : Ty) → weight_of small u < weight_of small t → IsOver small u → non_null_of small u ≡ non_null_of large u) → without_null small (non_null_of small) t ≡ without_null large (non_null_of large) t
  same_step invalid o h = refl
  same_step never o h = refl
  same_step void o h = refl
  same_step null o h = refl
  same_step (interface c ts) o h = refl
  same_step (function r p n e) o h = refl
  same_step (variable x) o h =
      let own = bound_with x o in
      let b = own.0 in
      let over = (laws.formed_bound x b own.1).1 in
      ap (variable_without_null small (non_null_of small) x) own.1
      ∙ ap (λ (q : Bool). cond q (variable x) (promoted x (non_null_of small b))) (same_object b over)
      ∙ ap (λ (u : Ty). cond (sub large b object) (variable x) (promoted x u)) (h b (bound_weighs small laws x b own.1) over)
      ∙ sym (ap (variable_without_null large (non_null_of large) x) (bound_up x b own.1))
  same_step (promoted x u) o h = ap (promoted x) (h u (promoted_weighs small x u) o.1)
  same_step (nullable u) o h = h u (bare_weighs small u) o

  same_within : (n : ℕ) (t : Ty) → weight_of small t ≤ n → IsOver small t → non_null_of small t ≡ non_null_of large t
  same_within zero t le o = absurd (omega (arith, some_weight small t, le))
  same_within (suc n) t le o =
      non_null_step small laws t ∙ same_step t o (λ u lt p. same_within n u (omega (arith, lt, le)) p) ∙ sym (non_null_step large large_laws t)

  pub same_non_null : (t : Ty) → IsOver small t → non_null_of small t ≡ non_null_of large t
  same_non_null t o = same_within (weight_of small t) t (omega arith) o

  -- what is left of a type without another
  unless : (s t : Ty) (left : Ty) → IsOver small s → IsOver small t → cond (sub small s t) never left ≡ cond (sub large s t) never left
  unless s t left o p = ap (λ (q : Bool). cond q never left) (same_sub s t o p)

  pub same_factor : (s t : Ty) → IsOver small s → IsOver small t → factor_of small s t ≡ factor_of large s t
  same_factor invalid t o p = unless invalid t invalid o p
  same_factor never t o p = unless never t never o p
  same_factor void t o p = unless void t void o p
  same_factor null t o p = unless null t null o p
  same_factor (interface c ts) t o p = unless (interface c ts) t (interface c ts) o p
  same_factor (function r l n e) t o p = unless (function r l n e) t (function r l n e) o p
  same_factor (variable x) t o p = unless (variable x) t (variable x) o p
  same_factor (promoted x u) t o p = unless (promoted x u) t (promoted x u) o p
  same_factor (nullable r) t o p =
      let left = factor_of small r t in
      let with : with_null small t left ≡ with_null large t (factor_of large r t) =
      ap (λ (q : Bool). cond q left (nullable_of left)) (same_sub null t tt p) ∙ ap (λ (w : Ty). cond (sub large null t) w (nullable_of w)) (same_factor r t o p)
      in
      unless (nullable r) t (with_null small t left) o p ∙ ap (λ (w : Ty). cond (sub large (nullable r) t) never w) with
