-- Over rows without `Invalid`, the bounds of types that are over them and hold no `Invalid` hold none.
use Rattle.std.proofs.Common.{◌≡◌, true, Option, Some, None, sym, ◌∙◌, subst}
use Rattle.dart_types.specs.Ty.{Ty, Types, Named, interface, variable, count}
use Rattle.dart_types.specs.Same.{same_class}
use Rattle.dart_types.specs.Tables.{Table, class_of, bound_of}
use Rattle.dart_types.specs.WellFormed.{HasArguments, IsOver, AreOver, AreOverNamed}
use Rattle.dart_types.specs.declared.ids.ClassId.{ClassId}
use Rattle.dart_types.specs.declared.ids.VarId.{VarId}
use Rattle.dart_types.specs.declared.class_rows.ClassRow.{ClassRow}
use Rattle.dart_types.specs.Laws.{RowLaws}
use Rattle.type_bounds.specs.Bounds.{bare_of, Upper, right_above, left_above, upper_apart, UpperApart, null_left, null_right, marked_either, promoted_twice, variable_left, promoted_left, variable_right, promoted_right, upper_functions, upper_of_others, function_and_class, class_and_function, one_class, two_classes, unbound_left, unbound_right, invalid_left, invalid_right, other_arguments, unknown_class, Uppers, no_upper, one_upper, UpperNamed, no_upper_name, upper_name, Lower, left_below, right_below, lower_apart, LowerApart, marked_both, marked_once, lower_functions, lower_of_others, nothing_below, LowerParams, left_ends, right_ends, one_lower, LowerNamed, no_lower_name, lower_name, other_name}
use Rattle.type_bounds.specs.Valid.{IsValid, AreValid, AreValidNamed, HasValidRows}
use Rattle.type_bounds.proofs.General.{equal_from_same_class}
use Rattle.type_bounds.proofs.NamedBounds.{type_is_named}
use Rattle.type_bounds.proofs.OverRows.{over_bare, over_named}
use Rattle.type_bounds.proofs.ValidRows.{valid_bare, valid_marked, valid_named, valid_bound, valid_above}

-- a type, types and named parameters that are over the rows and hold no `Invalid`
abbrev pub IsSound : Table → Ty → Type 0
IsSound table t = IsOver table t × IsValid t

abbrev pub AreSound : Table → Types → Type 0
AreSound table ts = AreOver table ts × AreValid ts

abbrev pub AreSoundNamed : Table → Named → Type 0
AreSoundNamed table ns = AreOverNamed table ns × AreValidNamed ns

-- a class has one number of parameters
one_count : (o : Option ClassRow) (ss ts : Types) → HasArguments o ss → HasArguments o ts → count ss ≡ count ts
one_count None ss ts h k = absurd h
one_count (Some row) ss ts h k = h ∙ sym k

module _ (table : Table) where
  -- a variable that is over rows has a bound
  bounded : {A : Type 0} (x : VarId) → IsOver table (variable x) → bound_of table x ≡ None → A
  bounded x o e = cc

  -- two types of one class that are over rows have as many arguments
  counted : (c d : ClassId) (ss ts : Types) → same_class c d ≡ true → IsOver table (interface c ss) → IsOver table (interface d ts) → count ss ≡ count ts
  counted c d ss ts h o p =
      one_count (class_of table d) ss ts (subst (λ (k : ClassId). HasArguments (class_of table k) ss) (equal_from_same_class c d h) o.0) p.0

  module _ (laws : RowLaws table) (rows : HasValidRows table) where
    sound_bare : (t : Ty) → IsSound table t → IsSound table (bare_of t)
    sound_bare t k = (over_bare table t k.0, valid_bare t k.1)

    sound_bound : (x : VarId) (b : Ty) → bound_of table x ≡ Some b → IsSound table b
    sound_bound x b e = ((laws.formed_bound x b e).1, valid_bound table rows x b e)

    mutual
      pub upper_valid : {s t u : Ty} → Upper table s t u → IsSound table s → IsSound table t → IsValid u
      upper_valid (right_above a) k l = l.1
      upper_valid (left_above n a) k l = k.1
      upper_valid (upper_apart n a) k l = apart_valid a k l

      apart_valid : {s t u : Ty} → UpperApart table s t u → IsSound table s → IsSound table t → IsValid u
      apart_valid (null_left {t = t}) k l = valid_marked t l.1
      apart_valid (null_right {s = s}) k l = valid_marked s k.1
      apart_valid (marked_either {s = s} {t = t} {u = u} p q h a) k l = valid_marked u (upper_valid a (sound_bare s k) (sound_bare t l))
      apart_valid (promoted_twice h) k l = tt
      apart_valid (variable_left {x = x} {b = b} h e a) k l = upper_valid a (sound_bound x b e) l
      apart_valid (promoted_left h n a) k l = upper_valid a (k.0.1, k.1) l
      apart_valid (variable_right {y = y} {b = b} h e a) k l = upper_valid a k (sound_bound y b e)
      apart_valid (promoted_right h a) k l = upper_valid a k (l.0.1, l.1)
      apart_valid (upper_functions h rs os ns e) k l =
          (lower_params_valid rs (k.0.0, k.1.0) (l.0.0, l.1.0), lower_params_valid os (k.0.1, k.1.1) (l.0.1, l.1.1), lower_named_valid ns (k.0.2, k.1.2) (l.0.2, l.1.2), upper_valid e (k.0.3, k.1.3) (l.0.3, l.1.3))
      apart_valid (upper_of_others h) k l = tt
      apart_valid function_and_class k l = tt
      apart_valid class_and_function k l = tt
      apart_valid (one_class h a) k l = uppers_valid a (k.0.1, k.1) (l.0.1, l.1)
      apart_valid (two_classes h a) k l = valid_above table rows k.1 a.common.0
      apart_valid (unbound_left {x = x} h e) k l = bounded x k.0 e
      apart_valid (unbound_right {y = y} h e) k l = bounded y l.0 e
      apart_valid (invalid_left h) k l = k.1
      apart_valid (invalid_right h) k l = l.1
      apart_valid (other_arguments {c = c} {d = d} {ss = ss} {ts = ts} h n) k l = absurd (n (counted c d ss ts h k.0 l.0))
      apart_valid (unknown_class h n) k l = absurd (n k.0.0 l.0.0)

      uppers_valid : {ss ts us : Types} → Uppers table ss ts us → AreSound table ss → AreSound table ts → AreValid us
      uppers_valid no_upper k l = tt
      uppers_valid (one_upper a rest) k l = (upper_valid a (k.0.0, k.1.0) (l.0.0, l.1.0), uppers_valid rest (k.0.1, k.1.1) (l.0.1, l.1.1))

      upper_named_valid : {ns ms us : Named} → UpperNamed table ns ms us → AreSoundNamed table ns → AreSoundNamed table ms → AreValidNamed us
      upper_named_valid no_upper_name k l = tt
      upper_named_valid (upper_name h a rest) k l = (upper_valid a (k.0.0, k.1.0) (l.0.0, l.1.0), upper_named_valid rest (k.0.1, k.1.1) (l.0.1, l.1.1))

      pub lower_valid : {s t u : Ty} → Lower table s t u → IsSound table s → IsSound table t → IsValid u
      lower_valid (left_below a) k l = k.1
      lower_valid (right_below n a) k l = l.1
      lower_valid (lower_apart n a) k l = lower_apart_valid a k l

      lower_apart_valid : {s t u : Ty} → LowerApart table s t u → IsSound table s → IsSound table t → IsValid u
      lower_apart_valid (marked_both {u = u} a) k l = valid_marked u (lower_valid a k l)
      lower_apart_valid (marked_once {s = s} {t = t} p q a) k l = lower_valid a (sound_bare s k) (sound_bare t l)
      lower_apart_valid (lower_functions h rs os ns e) k l =
          (uppers_valid rs (k.0.0, k.1.0) (l.0.0, l.1.0), uppers_valid os (k.0.1, k.1.1) (l.0.1, l.1.1), upper_named_valid ns (k.0.2, k.1.2) (l.0.2, l.1.2), lower_valid e (k.0.3, k.1.3) (l.0.3, l.1.3))
      lower_apart_valid (lower_of_others h) k l = tt
      lower_apart_valid (nothing_below p q) k l = tt

      lower_params_valid : {ss ts us : Types} → LowerParams table ss ts us → AreSound table ss → AreSound table ts → AreValid us
      lower_params_valid left_ends k l = tt
      lower_params_valid right_ends k l = tt
      lower_params_valid (one_lower a rest) k l = (lower_valid a (k.0.0, k.1.0) (l.0.0, l.1.0), lower_params_valid rest (k.0.1, k.1.1) (l.0.1, l.1.1))

      lower_named_valid : {ns ms us : Named} → LowerNamed table ns ms us → AreSoundNamed table ns → AreSoundNamed table ms → AreValidNamed us
      lower_named_valid no_lower_name k l = tt
      lower_named_valid (lower_name {n = n} {t = t} {ms = ms} e a rest) k l =
          let h = type_is_named ms n t e in
          (lower_valid a (k.0.0, k.1.0) (over_named table l.0 h, valid_named l.1 h), lower_named_valid rest (k.0.1, k.1.1) l)
      lower_named_valid (other_name e rest) k l = lower_named_valid rest (k.0.1, k.1.1) l
