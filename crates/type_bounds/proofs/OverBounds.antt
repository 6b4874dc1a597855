-- The bounds of types that are over rows are over them.
use Rattle.std.proofs.Common.{◌≡◌, ◌+◌, refl, ap}
use Rattle.dart_types.specs.Ty.{Ty, Types, Named, interface, no_more, count}
use Rattle.dart_types.specs.Tables.{Table, class_of}
use Rattle.dart_types.specs.WellFormed.{IsOver, AreOver, AreOverNamed}
use Rattle.dart_types.specs.declared.ids.TheConstants.{FUNCTION}
use Rattle.dart_types.specs.Laws.{RowLaws}
use Rattle.type_bounds.specs.Bounds.{Upper, right_above, left_above, upper_apart, UpperApart, null_left, null_right, marked_either, promoted_twice, variable_left, promoted_left, variable_right, promoted_right, upper_functions, upper_of_others, function_and_class, class_and_function, one_class, two_classes, unbound_left, unbound_right, invalid_left, invalid_right, other_arguments, unknown_class, Uppers, no_upper, one_upper, UpperNamed, no_upper_name, upper_name, Lower, left_below, right_below, lower_apart, LowerApart, marked_both, marked_once, lower_functions, lower_of_others, nothing_below, LowerParams, left_ends, right_ends, one_lower, LowerNamed, no_lower_name, lower_name, other_name}
use Rattle.type_bounds.proofs.NamedBounds.{type_is_named}
use Rattle.type_bounds.proofs.OverRows.{same_arguments, over_bare, over_marked, over_named, over_above, object_over}

module _ (table : Table) where
  -- upper bounds are as many as the types on the left
  count_left : {ss ts us : Types} → Uppers table ss ts us → count us ≡ count ss
  count_left no_upper = refl
  count_left (one_upper a rest) = ap (λ k. k + 1) (count_left rest)

  module _ (laws : RowLaws table) (f : IsOver table (interface FUNCTION no_more)) where
    mutual
      pub upper_over : {s t u : Ty} → Upper table s t u → IsOver table s → IsOver table t → IsOver table u
      upper_over (right_above a) o p = p
      upper_over (left_above n a) o p = o
      upper_over (upper_apart n a) o p = apart_over a o p

      apart_over : {s t u : Ty} → UpperApart table s t u → IsOver table s → IsOver table t → IsOver table u
      apart_over (null_left {t = t}) o p = over_marked table t p
      apart_over (null_right {s = s}) o p = over_marked table s o
      apart_over (marked_either {s = s} {t = t} {u = u} k l h a) o p = over_marked table u (upper_over a (over_bare table s o) (over_bare table t p))
      apart_over (promoted_twice h) o p = o.0
      apart_over (variable_left {x = x} {b = b} h e a) o p = upper_over a (laws.formed_bound x b e).1 p
      apart_over (promoted_left h n a) o p = upper_over a o.1 p
      apart_over (variable_right {y = y} {b = b} h e a) o p = upper_over a o (laws.formed_bound y b e).1
      apart_over (promoted_right h a) o p = upper_over a o p.1
      apart_over (upper_functions h rs os ns e) o p = (lower_params_over rs o.0 p.0, lower_params_over os o.1 p.1, lower_named_over ns o.2 p.2, upper_over e o.3 p.3)
      apart_over (upper_of_others h) o p = f
      apart_over function_and_class o p = object_over table laws f
      apart_over class_and_function o p = object_over table laws f
      apart_over (one_class {c = c} {ss = ss} {us = us} h a) o p = (same_arguments (class_of table c) us ss (count_left a) o.0, uppers_over a o.1 p.1)
      apart_over (two_classes h a) o p = over_above table laws o.1 a.common.0
      apart_over (unbound_left h e) o p = tt
      apart_over (unbound_right h e) o p = tt
      apart_over (invalid_left h) o p = tt
      apart_over (invalid_right h) o p = tt
      apart_over (other_arguments h n) o p = tt
      apart_over (unknown_class h n) o p = tt

      uppers_over : {ss ts us : Types} → Uppers table ss ts us → AreOver table ss → AreOver table ts → AreOver table us
      uppers_over no_upper o p = tt
      uppers_over (one_upper a rest) o p = (upper_over a o.0 p.0, uppers_over rest o.1 p.1)

      upper_named_over : {ns ms us : Named} → UpperNamed table ns ms us → AreOverNamed table ns → AreOverNamed table ms → AreOverNamed table us
      upper_named_over no_upper_name o p = tt
      upper_named_over (upper_name h a rest) o p = (upper_over a o.0 p.0, upper_named_over rest o.1 p.1)

      pub lower_over : {s t u : Ty} → Lower table s t u → IsOver table s → IsOver table t → IsOver table u
      lower_over (left_below a) o p = o
      lower_over (right_below n a) o p = p
      lower_over (lower_apart n a) o p = lower_apart_over a o p

      lower_apart_over : {s t u : Ty} → LowerApart table s t u → IsOver table s → IsOver table t → IsOver table u
      lower_apart_over (marked_both {u = u} a) o p = over_marked table u (lower_over a o p)
      lower_apart_over (marked_once {s = s} {t = t} k l a) o p = lower_over a (over_bare table s o) (over_bare table t p)
      lower_apart_over (lower_functions h rs os ns e) o p = (uppers_over rs o.0 p.0, uppers_over os o.1 p.1, upper_named_over ns o.2 p.2, lower_over e o.3 p.3)
      lower_apart_over (lower_of_others h) o p = tt
      lower_apart_over (nothing_below k l) o p = tt

      lower_params_over : {ss ts us : Types} → LowerParams table ss ts us → AreOver table ss → AreOver table ts → AreOver table us
      lower_params_over left_ends o p = tt
      lower_params_over right_ends o p = tt
      lower_params_over (one_lower a rest) o p = (lower_over a o.0 p.0, lower_params_over rest o.1 p.1)

      lower_named_over : {ns ms us : Named} → LowerNamed table ns ms us → AreOverNamed table ns → AreOverNamed table ms → AreOverNamed table us
      lower_named_over no_lower_name o p = tt
      lower_named_over (lower_name {n = n} {t = t} {ms = ms} e a rest) o p = (lower_over a o.0 (over_named table p (type_is_named ms n t e)), lower_named_over rest o.1 p)
      lower_named_over (other_name e rest) o p = lower_named_over rest o.1 p
