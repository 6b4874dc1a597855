-- Two types have one upper bound and one lower bound at most.
use Rattle.std.proofs.Common.{◌≡◌, ℕ, zero, suc, ◌+◌, ◌<◌, Bool, true, false, Option, Some, None, refl, sym, ap, subst, arith, inl, inr}
use Rattle.std.specs.Prelude.{◌⊎◌, ◌||◌}
use Rattle.dart_types.specs.Ty.{Ty, Types, Named, invalid, never, void, null, interface, function, variable, promoted, nullable, count}
use Rattle.dart_types.specs.Normal.{nullable_of}
use Rattle.dart_types.specs.Same.{same_class, same_var}
use Rattle.dart_types.specs.Tables.{Table, class_of, bound_of, head_depth}
use Rattle.dart_types.specs.WellFormed.{HasArguments}
use Rattle.dart_types.specs.declared.ids.ClassId.{ClassId}
use Rattle.dart_types.specs.declared.ids.VarId.{VarId}
use Rattle.dart_types.specs.declared.class_rows.ClassRow.{ClassRow}
use Rattle.type_bounds.specs.Common.{IsAbove, IsDeepest}
use Rattle.dart_types.specs.Marks.{is_marked}
use Rattle.type_bounds.specs.Bounds.{is_bare, is_settled, Upper, right_above, left_above, upper_apart, UpperApart, null_left, null_right, marked_either, promoted_twice, variable_left, promoted_left, variable_right, promoted_right, upper_functions, upper_of_others, function_and_class, class_and_function, one_class, two_classes, unbound_left, unbound_right, invalid_left, invalid_right, other_arguments, unknown_class, Uppers, no_upper, one_upper, UpperNamed, no_upper_name, upper_name, Lower, left_below, right_below, lower_apart, LowerApart, marked_both, marked_once, lower_functions, lower_of_others, nothing_below, LowerParams, left_ends, right_ends, one_lower, LowerNamed, no_lower_name, lower_name, other_name}

pub clash : {A : Type 0} (b : Bool) → b ≡ true → b ≡ false → A
clash true p q = cc
clash false p q = cc

pub bare_unmarked : {A : Type 0} (t : Ty) → is_bare t ≡ true → is_marked t ≡ true → A
bare_unmarked invalid p q = cc
bare_unmarked never p q = cc
bare_unmarked void p q = cc
bare_unmarked null p q = cc
bare_unmarked (interface c ts) p q = cc
bare_unmarked (function r o n e) p q = cc
bare_unmarked (variable x) p q = cc
bare_unmarked (promoted x t) p q = cc
bare_unmarked (nullable t) p q = cc

pub settled_unmarked : {A : Type 0} (s : Ty) → is_settled s ≡ true → (is_marked s || false) ≡ true → A
settled_unmarked invalid p q = cc
settled_unmarked never p q = cc
settled_unmarked void p q = cc
settled_unmarked null p q = cc
settled_unmarked (interface c ts) p q = cc
settled_unmarked (function r o n e) p q = cc
settled_unmarked (variable x) p q = cc
settled_unmarked (promoted x t) p q = cc
settled_unmarked (nullable t) p q = cc

-- a settled type is bare
pub settled_bare : (t : Ty) → is_settled t ≡ true → is_bare t ≡ true
settled_bare invalid p = refl
settled_bare never p = refl
settled_bare void p = refl
settled_bare null p = cc
settled_bare (interface c ts) p = refl
settled_bare (function r o n e) p = refl
settled_bare (variable x) p = cc
settled_bare (promoted x t) p = cc
settled_bare (nullable t) p = cc

same_bound : (table : Table) (x : VarId) (b c : Ty) → bound_of table x ≡ Some b → bound_of table x ≡ Some c → b ≡ c
same_bound table x b c e f = cc

same_some : (o : Option Ty) (b c : Ty) → o ≡ Some b → o ≡ Some c → b ≡ c
same_some o b c e f = cc

some_none : {A : Type 0} (o : Option Ty) (b : Ty) → o ≡ Some b → o ≡ None → A
some_none o b e f = cc

compared : (m n : ℕ) → (m < n) ⊎ ((m ≡ n) ⊎ (n < m))
compared zero zero = inr (inl refl)
compared zero (suc n) = inl (omega arith)
compared (suc m) zero = inr (inr (omega arith))
compared (suc m) (suc n) = elim (compared m n) [
  | inl l ↦ inl (omega (arith, l))
  | inr k ↦ elim k [
    | inl e ↦ inr (inl (ap suc e))
    | inr l ↦ inr (inr (omega (arith, l)))
  ]
]

-- the deepest superinterface
one_deepest : (table : Table) (c : ClassId) (ss : Types) (d : ClassId) (ts : Types) (u v : Ty) → IsDeepest table c ss d ts u → IsDeepest table c ss d ts v → u ≡ v
one_deepest table c ss d ts u v a b = elim (compared (head_depth table u) (head_depth table v)) [
  | inl l ↦ absurd (a.deepest v b.common l b.alone)
  | inr k ↦ elim k [
    | inl e ↦ sym (a.alone v b.common (sym e))
    | inr l ↦ absurd (b.deepest u a.common l a.alone)
  ]
]

-- a class with a superinterface that has arguments put in has as many parameters as arguments
pub above_has_arguments : {table : Table} {c : ClassId} {ts : Types} {u : Ty} → IsAbove table c ts u → HasArguments (class_of table c) ts
above_has_arguments {ts = ts} a = subst (λ (o : Option ClassRow). HasArguments o ts) (sym a.row_is) a.counted

module _ (table : Table) where
  -- lists with upper bounds are as long
  pub count_uppers : {ss ts us : Types} → Uppers table ss ts us → count ss ≡ count ts
  count_uppers no_upper = refl
  count_uppers (one_upper a rest) = ap (λ k. k + 1) (count_uppers rest)

  mutual
    pub one_upper_bound : {s t u v : Ty} → Upper table s t u → Upper table s t v → u ≡ v
    one_upper_bound (right_above a) (right_above b) = refl
    one_upper_bound (right_above a) (left_above n b) = absurd (n a)
    one_upper_bound (right_above a) (upper_apart p b) = absurd (p.0 a)
    one_upper_bound (left_above n a) (right_above b) = absurd (n b)
    one_upper_bound (left_above n a) (left_above m b) = refl
    one_upper_bound (left_above n a) (upper_apart p b) = absurd (p.1 a)
    one_upper_bound (upper_apart p a) (right_above b) = absurd (p.0 b)
    one_upper_bound (upper_apart p a) (left_above n b) = absurd (p.1 b)
    one_upper_bound (upper_apart p a) (upper_apart q b) = one_upper_apart a b

    one_upper_apart : {s t u v : Ty} → UpperApart table s t u → UpperApart table s t v → u ≡ v
    one_upper_apart null_left null_left = refl
    one_upper_apart null_left null_right = refl
    one_upper_apart null_left (marked_either p q h b) = cc
    one_upper_apart null_left (variable_right h e b) = cc
    one_upper_apart null_left (promoted_right h b) = cc
    one_upper_apart null_left (unbound_right h e) = cc
    one_upper_apart null_left (invalid_right h) = cc
    one_upper_apart null_right null_left = refl
    one_upper_apart null_right null_right = refl
    one_upper_apart null_right (marked_either p q h b) = cc
    one_upper_apart null_right (variable_left h e b) = cc
    one_upper_apart null_right (promoted_left h n b) = cc
    one_upper_apart null_right (unbound_left h e) = cc
    one_upper_apart null_right (invalid_left h) = cc
    one_upper_apart (marked_either p q h a) null_left = cc
    one_upper_apart (marked_either p q h a) null_right = cc
    one_upper_apart (marked_either p q h a) (marked_either p' q' h' b) = ap nullable_of (one_upper_bound a b)
    one_upper_apart (marked_either p q h a) (promoted_twice k) = cc
    one_upper_apart (marked_either p q h a) (variable_left {t = t} k e b) = bare_unmarked t k h
    one_upper_apart (marked_either p q h a) (promoted_left {t = t} k n b) = bare_unmarked t k h
    one_upper_apart (marked_either p q h a) (variable_right {s = s} k e b) = settled_unmarked s k h
    one_upper_apart (marked_either p q h a) (promoted_right {s = s} k b) = settled_unmarked s k h
    one_upper_apart (marked_either p q h a) (upper_functions k rs os ns b) = cc
    one_upper_apart (marked_either p q h a) (upper_of_others k) = cc
    one_upper_apart (marked_either p q h a) function_and_class = cc
    one_upper_apart (marked_either p q h a) class_and_function = cc
    one_upper_apart (marked_either p q h a) (one_class k b) = cc
    one_upper_apart (marked_either p q h a) (two_classes k b) = cc
    one_upper_apart (marked_either p q h a) (unbound_left {t = t} k e) = bare_unmarked t k h
    one_upper_apart (marked_either p q h a) (unbound_right {s = s} k e) = settled_unmarked s k h
    one_upper_apart (marked_either p q h a) (invalid_left {t = t} k) = bare_unmarked t (settled_bare t k) h
    one_upper_apart (marked_either p q h a) (invalid_right {s = s} k) = settled_unmarked s k h
    one_upper_apart (marked_either p q h a) (other_arguments k n) = cc
    one_upper_apart (marked_either p q h a) (unknown_class k n) = cc
    one_upper_apart (promoted_twice k) (marked_either p q h b) = cc
    one_upper_apart (promoted_twice k) (promoted_twice l) = refl
    one_upper_apart (promoted_twice {x = x} {y = y} k) (promoted_left h n b) = clash (same_var x y) k n
    one_upper_apart (promoted_twice k) (promoted_right h b) = cc
    one_upper_apart (variable_left h e a) null_right = cc
    one_upper_apart (variable_left {t = t} h e a) (marked_either p q k b) = bare_unmarked t h k
    one_upper_apart (variable_left {x = x} {b = c} {t = t} h e a) (variable_left {b = d} {u = v} h' e' b) =
        one_upper_bound a (subst (λ (k : Ty). Upper table k t v) (same_bound table x d c e' e) b)
    one_upper_apart (variable_left h e a) (variable_right k e' b) = cc
    one_upper_apart (variable_left h e a) (promoted_right k b) = cc
    one_upper_apart (variable_left {x = x} {b = b} h e a) (unbound_left k e') = some_none (bound_of table x) b e e'
    one_upper_apart (variable_left h e a) (unbound_right k e') = cc
    one_upper_apart (variable_left h e a) (invalid_right k) = cc
    one_upper_apart (promoted_left h n a) null_right = cc
    one_upper_apart (promoted_left {t = t} h n a) (marked_either p q k b) = bare_unmarked t h k
    one_upper_apart (promoted_left h n a) (promoted_twice {x = x} {y = y} k) = clash (same_var x y) k n
    one_upper_apart (promoted_left h n a) (promoted_left h' n' b) = one_upper_bound a b
    one_upper_apart (promoted_left h n a) (variable_right k e b) = cc
    one_upper_apart (promoted_left h n a) (promoted_right k b) = cc
    one_upper_apart (promoted_left h n a) (unbound_right k e) = cc
    one_upper_apart (promoted_left h n a) (invalid_right k) = cc
    one_upper_apart (variable_right h e a) null_left = cc
    one_upper_apart (variable_right {s = s} h e a) (marked_either p q k b) = settled_unmarked s h k
    one_upper_apart (variable_right h e a) (variable_left k e' b) = cc
    one_upper_apart (variable_right h e a) (promoted_left k n b) = cc
    one_upper_apart (variable_right {y = y} {b = c} {s = s} h e a) (variable_right {b = d} {u = v} h' e' b) =
        one_upper_bound a (subst (λ (k : Ty). Upper table s k v) (same_bound table y d c e' e) b)
    one_upper_apart (variable_right h e a) (unbound_left k e') = cc
    one_upper_apart (variable_right {y = y} {b = b} h e a) (unbound_right k e') = some_none (bound_of table y) b e e'
    one_upper_apart (variable_right h e a) (invalid_left k) = cc
    one_upper_apart (promoted_right h a) null_left = cc
    one_upper_apart (promoted_right {s = s} h a) (marked_either p q k b) = settled_unmarked s h k
    one_upper_apart (promoted_right h a) (promoted_twice k) = cc
    one_upper_apart (promoted_right h a) (variable_left k e b) = cc
    one_upper_apart (promoted_right h a) (promoted_left k n b) = cc
    one_upper_apart (promoted_right h a) (promoted_right k b) = one_upper_bound a b
    one_upper_apart (promoted_right h a) (unbound_left k e) = cc
    one_upper_apart (promoted_right h a) (invalid_left k) = cc
    one_upper_apart (upper_functions k rs os ns a) (marked_either p q h b) = cc
    one_upper_apart (upper_functions k rs os ns a) (upper_functions k' rs' os' ns' b) =
        let r = one_lower_params rs rs' in
        let o = one_lower_params os os' in
        let n = one_lower_named ns ns' in
        let e = one_upper_bound a b in
        cc
    one_upper_apart (upper_functions k rs os ns a) (upper_of_others k') = cc
    one_upper_apart (upper_of_others k) (marked_either p q h b) = cc
    one_upper_apart (upper_of_others k) (upper_functions k' rs os ns b) = cc
    one_upper_apart (upper_of_others k) (upper_of_others k') = refl
    one_upper_apart function_and_class (marked_either p q h b) = cc
    one_upper_apart function_and_class function_and_class = refl
    one_upper_apart class_and_function (marked_either p q h b) = cc
    one_upper_apart class_and_function class_and_function = refl
    one_upper_apart (one_class l a) (marked_either p q h b) = cc
    one_upper_apart (one_class {c = c} l a) (one_class k b) = ap (interface c) (one_uppers a b)
    one_upper_apart (one_class {c = c} {d = d} l a) (two_classes k b) = clash (same_class c d) l k
    one_upper_apart (one_class l a) (other_arguments k n) = absurd (n (count_uppers a))
    one_upper_apart (one_class {c = c} {d = d} l a) (unknown_class k n) = clash (same_class c d) l k
    one_upper_apart (two_classes k a) (marked_either p q h b) = cc
    one_upper_apart (two_classes {c = c} {d = d} k a) (one_class l b) = clash (same_class c d) l k
    one_upper_apart (two_classes {c = c} {d = d} {ss = ss} {ts = ts} {u = u} k a) (two_classes {u = v} k' b) = one_deepest table c ss d ts u v a b
    one_upper_apart (two_classes {c = c} {d = d} k a) (other_arguments l n) = clash (same_class c d) l k
    one_upper_apart (two_classes k a) (unknown_class l n) = absurd (n (above_has_arguments a.common.0) (above_has_arguments a.common.1))
    one_upper_apart (unbound_left h e) null_right = cc
    one_upper_apart (unbound_left {t = t} h e) (marked_either p q k b) = bare_unmarked t h k
    one_upper_apart (unbound_left {x = x} h e) (variable_left {b = b} k e' a) = some_none (bound_of table x) b e' e
    one_upper_apart (unbound_left h e) (variable_right k e' b) = cc
    one_upper_apart (unbound_left h e) (promoted_right k b) = cc
    one_upper_apart (unbound_left h e) (unbound_left k e') = refl
    one_upper_apart (unbound_left h e) (unbound_right k e') = refl
    one_upper_apart (unbound_left h e) (invalid_right k) = refl
    one_upper_apart (unbound_right h e) null_left = cc
    one_upper_apart (unbound_right {s = s} h e) (marked_either p q k b) = settled_unmarked s h k
    one_upper_apart (unbound_right h e) (variable_left k e' b) = cc
    one_upper_apart (unbound_right h e) (promoted_left k n b) = cc
    one_upper_apart (unbound_right {y = y} h e) (variable_right {b = b} k e' a) = some_none (bound_of table y) b e' e
    one_upper_apart (unbound_right h e) (unbound_left k e') = refl
    one_upper_apart (unbound_right h e) (unbound_right k e') = refl
    one_upper_apart (unbound_right h e) (invalid_left k) = refl
    one_upper_apart (invalid_left h) null_right = cc
    one_upper_apart (invalid_left {t = t} h) (marked_either p q k b) = bare_unmarked t (settled_bare t h) k
    one_upper_apart (invalid_left h) (variable_right k e b) = cc
    one_upper_apart (invalid_left h) (promoted_right k b) = cc
    one_upper_apart (invalid_left h) (unbound_right k e) = refl
    one_upper_apart (invalid_left h) (invalid_left k) = refl
    one_upper_apart (invalid_left h) (invalid_right k) = refl
    one_upper_apart (invalid_right h) null_left = cc
    one_upper_apart (invalid_right {s = s} h) (marked_either p q k b) = settled_unmarked s h k
    one_upper_apart (invalid_right h) (variable_left k e b) = cc
    one_upper_apart (invalid_right h) (promoted_left k n b) = cc
    one_upper_apart (invalid_right h) (unbound_left k e) = refl
    one_upper_apart (invalid_right h) (invalid_left k) = refl
    one_upper_apart (invalid_right h) (invalid_right k) = refl
    one_upper_apart (other_arguments k n) (marked_either p q h b) = cc
    one_upper_apart (other_arguments k n) (one_class l b) = absurd (n (count_uppers b))
    one_upper_apart (other_arguments {c = c} {d = d} k n) (two_classes l b) = clash (same_class c d) k l
    one_upper_apart (other_arguments k n) (other_arguments l m) = refl
    one_upper_apart (other_arguments k n) (unknown_class l m) = refl
    one_upper_apart (unknown_class k n) (marked_either p q h b) = cc
    one_upper_apart (unknown_class {c = c} {d = d} k n) (one_class l b) = clash (same_class c d) l k
    one_upper_apart (unknown_class k n) (two_classes l b) = absurd (n (above_has_arguments b.common.0) (above_has_arguments b.common.1))
    one_upper_apart (unknown_class k n) (other_arguments l m) = refl
    one_upper_apart (unknown_class k n) (unknown_class l m) = refl

    one_uppers : {ss ts us vs : Types} → Uppers table ss ts us → Uppers table ss ts vs → us ≡ vs
    one_uppers no_upper no_upper = refl
    one_uppers (one_upper a rest) (one_upper b others) = let e = one_upper_bound a b in let f = one_uppers rest others in cc

    one_upper_named : {ns ms us vs : Named} → UpperNamed table ns ms us → UpperNamed table ns ms vs → us ≡ vs
    one_upper_named no_upper_name no_upper_name = refl
    one_upper_named (upper_name h a rest) (upper_name k b others) = let e = one_upper_bound a b in let f = one_upper_named rest others in cc

    pub one_lower_bound : {s t u v : Ty} → Lower table s t u → Lower table s t v → u ≡ v
    one_lower_bound (left_below a) (left_below b) = refl
    one_lower_bound (left_below a) (right_below n b) = absurd (n a)
    one_lower_bound (left_below a) (lower_apart p b) = absurd (p.0 a)
    one_lower_bound (right_below n a) (left_below b) = absurd (n b)
    one_lower_bound (right_below n a) (right_below m b) = refl
    one_lower_bound (right_below n a) (lower_apart p b) = absurd (p.1 a)
    one_lower_bound (lower_apart p a) (left_below b) = absurd (p.0 b)
    one_lower_bound (lower_apart p a) (right_below n b) = absurd (p.1 b)
    one_lower_bound (lower_apart p a) (lower_apart q b) = one_lower_apart a b

    one_lower_apart : {s t u v : Ty} → LowerApart table s t u → LowerApart table s t v → u ≡ v
    one_lower_apart (marked_both a) (marked_both b) = ap nullable_of (one_lower_bound a b)
    one_lower_apart (marked_both a) (marked_once p q b) = cc
    one_lower_apart (marked_both a) (nothing_below p q) = cc
    one_lower_apart (marked_once p q a) (marked_both b) = cc
    one_lower_apart (marked_once p q a) (marked_once p' q' b) = one_lower_bound a b
    one_lower_apart (marked_once p q a) (lower_functions k rs os ns b) = cc
    one_lower_apart (marked_once p q a) (lower_of_others k) = cc
    one_lower_apart (marked_once {s = s} {t = t} p q a) (nothing_below k l) = clash (is_marked s || is_marked t) q k
    one_lower_apart (lower_functions k rs os ns a) (marked_once p q b) = cc
    one_lower_apart (lower_functions k rs os ns a) (lower_functions k' rs' os' ns' b) =
        let r = one_uppers rs rs' in
        let o = one_uppers os os' in
        let n = one_upper_named ns ns' in
        let e = one_lower_bound a b in
        cc
    one_lower_apart (lower_functions k rs os ns a) (lower_of_others k') = cc
    one_lower_apart (lower_functions k rs os ns a) (nothing_below p q) = cc
    one_lower_apart (lower_of_others k) (marked_once p q b) = cc
    one_lower_apart (lower_of_others k) (lower_functions k' rs os ns b) = cc
    one_lower_apart (lower_of_others k) (lower_of_others k') = refl
    one_lower_apart (lower_of_others k) (nothing_below p q) = cc
    one_lower_apart (nothing_below k l) (marked_both b) = cc
    one_lower_apart (nothing_below {s = s} {t = t} k l) (marked_once p q b) = clash (is_marked s || is_marked t) q k
    one_lower_apart (nothing_below k l) (lower_functions k' rs os ns b) = cc
    one_lower_apart (nothing_below k l) (lower_of_others k') = cc
    one_lower_apart (nothing_below k l) (nothing_below k' l') = refl

    one_lower_params : {ss ts us vs : Types} → LowerParams table ss ts us → LowerParams table ss ts vs → us ≡ vs
    one_lower_params left_ends left_ends = refl
    one_lower_params right_ends right_ends = refl
    one_lower_params (one_lower a rest) (one_lower b others) = let e = one_lower_bound a b in let f = one_lower_params rest others in cc

    one_lower_named : {ns ms us vs : Named} → LowerNamed table ns ms us → LowerNamed table ns ms vs → us ≡ vs
    one_lower_named no_lower_name no_lower_name = refl
    one_lower_named (lower_name {n = n} {r = r} {s = s} {t = t} {ms = ms} e a rest) (lower_name {t = w} {u = v} e' b others) =
        let same : w ≡ t = same_some _ w t e' e in
        let f = one_lower_bound a (subst (λ (k : Ty). Lower table s k v) same b) in
        let g = one_lower_named rest others in
        cc
    one_lower_named (lower_name {t = t} e a rest) (other_name e' others) = some_none _ t e e'
    one_lower_named (other_name e rest) (lower_name {t = t} e' b others) = some_none _ t e' e
    one_lower_named (other_name e rest) (other_name e' others) = one_lower_named rest others
