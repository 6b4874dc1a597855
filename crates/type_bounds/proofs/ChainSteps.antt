-- What chains of variables say of upper bounds.
use Rattle.std.specs.declared.rc.Rc.{Rc}
use Rattle.std.proofs.Common.{Global, ◌≡◌, ◌<◌, ◌≤◌, Bool, true, false, refl, sym, ◌∙◌, ap, subst, arith, inl, inr}
use Rattle.std.specs.Prelude.{◌||◌, Some, ◌⊎◌}
use Rattle.dart_types.specs.Ty.{Ty, invalid, never, void, null, interface, function, variable, promoted, nullable}
use Rattle.dart_types.specs.Node.{type_of}
use Rattle.dart_types.specs.Normal.{nullable_of}
use Rattle.dart_types.specs.declared.ids.VarId.{VarId}
use Rattle.dart_types.specs.declared.types.DartType.{DartType}
use Rattle.dart_types.specs.declared.types.TypeNode.{TypeNode}
use Rattle.dart_types.specs.declared.types.TypeNode.TheVariants.{Invalid, Never, Void, Null, Interface, Function, Var, Promoted, Nullable}
use Rattle.dart_types.specs.Measure.{deepness_of, weight_of}
use Rattle.dart_types.specs.Sub.{Sub, left_variable_bound, right_nullable}
use Rattle.dart_types.specs.SubTest.{is_null}
use Rattle.dart_types.specs.Tables.{Table}
use Rattle.dart_types.specs.Marks.{is_marked}
use Rattle.dart_types.specs.Laws.{RowLaws}
use Rattle.type_bounds.specs.Bounds.{AreApart, is_bare, is_settled, bare_of, upper_apart, Upper, UpperApart, marked_either, variable_left, variable_right}
use Rattle.type_bounds.specs.Chains.{LeadsTo, ends, goes_on, goes_on_marked, IsNext, marked_by}
use Rattle.type_bounds.proofs.NonNulls.{bound_weighs, bare_weighs}

-- a bare type that is no variable is settled
pub settled_node : (n : TypeNode) {s : Ty} → type_of n ≡ s → ((x : VarId) → n ≡ Var x → ⊥) → ((x : VarId) (to : Rc DartType Global) → n ≡ Promoted x to → ⊥) → is_bare s ≡ true → is_settled s ≡ true
settled_node n e v p h = subst (λ (s : Ty). is_bare s ≡ true → is_settled s ≡ true) e (at n v p) h
  where
    at : (n : TypeNode) → ((x : VarId) → n ≡ Var x → ⊥) → ((x : VarId) (to : Rc DartType Global) → n ≡ Promoted x to → ⊥) → is_bare (type_of n) ≡ true → is_settled (type_of n) ≡ true
    at Invalid v p h = refl
    at Never v p h = refl
    at Void v p h = refl
    at Null v p h = cc
    at (Interface c ts) v p h = refl
    at (Function f) v p h = refl
    at (Var x) v p h = absurd (v x refl)
    at (Promoted x to) v p h = absurd (p x to refl)
    at (Nullable bare) v p h = cc

-- a bare type is what it is without a `?`, and not `Null`
bare_same : (t : Ty) → is_bare t ≡ true → (bare_of t ≡ t) × (is_null t ≡ false)
bare_same invalid h = (refl, refl)
bare_same never h = (refl, refl)
bare_same void h = (refl, refl)
bare_same null h = cc
bare_same (interface c ts) h = (refl, refl)
bare_same (function r o n e) h = (refl, refl)
bare_same (variable x) h = (refl, refl)
bare_same (promoted x t) h = (refl, refl)
bare_same (nullable t) h = cc

settled_bare : (t : Ty) → is_settled t ≡ true → is_bare t ≡ true
settled_bare invalid h = refl
settled_bare never h = refl
settled_bare void h = refl
settled_bare null h = cc
settled_bare (interface c ts) h = refl
settled_bare (function r o n e) h = refl
settled_bare (variable x) h = refl
settled_bare (promoted x t) h = refl
settled_bare (nullable t) h = cc

-- a second mark changes nothing
pub marked_twice : (m : Bool) (t : Ty) → nullable_of (marked_by m t) ≡ marked_by true t
marked_twice false t = refl
marked_twice true t = twice t
  where
    twice : (u : Ty) → nullable_of (nullable_of u) ≡ nullable_of u
    twice invalid = refl
    twice never = refl
    twice void = refl
    twice null = refl
    twice (interface c ts) = refl
    twice (function r o n e) = refl
    twice (variable x) = refl
    twice (promoted x t) = refl
    twice (nullable t) = refl

-- what is a variable without its `?` is that variable, with or without one
pub bare_variable : (b : Ty) (y : VarId) → bare_of b ≡ variable y → (b ≡ variable y) ⊎ (b ≡ nullable (variable y))
bare_variable invalid y e = cc
bare_variable never y e = cc
bare_variable void y e = cc
bare_variable null y e = cc
bare_variable (interface c ts) y e = cc
bare_variable (function r o n t) y e = cc
bare_variable (variable x) y e = inl e
bare_variable (promoted x t) y e = cc
bare_variable (nullable t) y e = inr (ap nullable e)

module _ (table : Table) where
  -- a step
  bare_deepness : (b : Ty) → deepness_of table (bare_of b) ≤ deepness_of table b
  unfolding deepness_of
  bare_deepness invalid = omega arith
  bare_deepness never = omega arith
  bare_deepness void = omega arith
  bare_deepness null = omega arith
  bare_deepness (interface c ts) = omega arith
  bare_deepness (function r o n e) = omega arith
  bare_deepness (variable x) = omega arith
  bare_deepness (promoted x t) = omega arith
  bare_deepness (nullable t) = omega arith

  pub next_falls : RowLaws table → (s bound next : Ty) → IsNext table s bound → next ≡ bare_of bound → deepness_of table next < deepness_of table s
  next_falls laws s bound next n is =
      let fall = laws.bound_deepness n.0 bound n.3 in
      let e = ap (deepness_of table) n.2 in
      let f = ap (deepness_of table) is in
      omega (arith, fall, bare_deepness bound, e, f)

  pub next_leads : (t s bound next : Ty) → IsNext table s bound → next ≡ bare_of bound → (Sub table t bound → ⊥) → (is_marked bound ≡ true → Sub table next t → ⊥) → (m : Bool) (end : Ty) → LeadsTo table t next m end → LeadsTo table t s (is_marked bound || m) end
  next_leads t s bound next n is not below m end a = subst (λ (u : Ty). LeadsTo table t u (is_marked bound || m) end) (sym n.2) (step n.4)
    where
      step : (bound ≡ variable n.1) ⊎ (bound ≡ nullable (variable n.1)) → LeadsTo table t (variable n.0) (is_marked bound || m) end
      step (inl e) =
          subst (λ (b : Ty). LeadsTo table t (variable n.0) (is_marked b || m) end) (sym e)
          (goes_on (n.3 ∙ ap Some e) (subst (λ (b : Ty). Sub table t b → ⊥) e not) (subst (λ (u : Ty). LeadsTo table t u m end) (is ∙ ap bare_of e) a))
      step (inr e) =
          subst (λ (b : Ty). LeadsTo table t (variable n.0) (is_marked b || m) end) (sym e)
          (goes_on_marked (n.3 ∙ ap Some e) (subst (λ (b : Ty). Sub table t b → ⊥) e not)
          (λ b. below (ap is_marked e) (subst (λ (u : Ty). Sub table u t) (sym (is ∙ ap bare_of e)) b))
          (subst (λ (u : Ty). LeadsTo table t u m end) (is ∙ ap bare_of e) a))

  -- how marks add up on the way
  pub whole_way : (t s last : Ty) (marked : Bool) → LeadsTo table t s (marked || false) last → LeadsTo table t s marked last
  whole_way t s last true a = a
  whole_way t s last false a = a

  pub unmarked_step : (t s end : Ty) (marked m b : Bool) → b ≡ false → LeadsTo table t s (marked || (b || m)) end → LeadsTo table t s (marked || m) end
  unmarked_step t s end marked m b e = subst (λ (c : Bool). LeadsTo table t s (marked || (c || m)) end → LeadsTo table t s (marked || m) end) (sym e) (λ a. a)

  pub marked_step : (t s end : Ty) (marked m b : Bool) → b ≡ true → LeadsTo table t s (marked || (b || m)) end → LeadsTo table t s true end
  marked_step t s end true m b e a = a
  marked_step t s end false m b e a = subst (λ (c : Bool). LeadsTo table t s (c || m) end) e a

  -- what a chain leads to is apart from t as its first type is, no heavier, and as bare
  pub last_apart : {t s last : Ty} {m : Bool} → LeadsTo table t s m last → AreApart table s t → AreApart table last t
  last_apart ends a = a
  last_apart (goes_on {y = y} e not rest) a = last_apart rest (λ b. a.0 (left_variable_bound (variable y) e b), not)
  last_apart (goes_on_marked e not below rest) a = last_apart rest (below, λ b. not (right_nullable b))

  pub last_no_heavier : RowLaws table → {t s last : Ty} {m : Bool} → LeadsTo table t s m last → weight_of table last ≤ weight_of table s
  last_no_heavier laws ends = omega arith
  last_no_heavier laws (goes_on {x = x} {y = y} e not rest) = omega (arith, last_no_heavier laws rest, bound_weighs table laws x (variable y) e)
  last_no_heavier laws (goes_on_marked {x = x} {y = y} e not below rest) =
      omega (arith, last_no_heavier laws rest, bare_weighs table (variable y), bound_weighs table laws x (nullable (variable y)) e)

  pub last_bare : {t s last : Ty} {m : Bool} → LeadsTo table t s m last → is_bare s ≡ true → is_bare last ≡ true
  last_bare ends h = h
  last_bare (goes_on e not rest) h = last_bare rest refl
  last_bare (goes_on_marked e not below rest) h = last_bare rest refl

  -- its upper bound with t, with `?` where the chain has a mark, is that of the first
  pub chain_left : {t s last u : Ty} {m : Bool} → LeadsTo table t s m last → AreApart table s t → is_bare t ≡ true → UpperApart table last t u → UpperApart table s t (marked_by m u)
  chain_left ends a h b = b
  chain_left {t} (goes_on {y = y} e not rest) a h b =
      let apart : AreApart table (variable y) t = (λ c. a.0 (left_variable_bound (variable y) e c), not) in
      variable_left h e (upper_apart apart (chain_left rest apart h b))
  chain_left {t} {u = u} (goes_on_marked {x = x} {y = y} {m = m} e not below rest) a h b =
      let same = bare_same t h in
      let over : AreApart table (nullable (variable y)) t = (λ c. a.0 (left_variable_bound (nullable (variable y)) e c), not) in
      let apart : AreApart table (variable y) t = (below, λ c. not (right_nullable c)) in
      let bare : Upper table (variable y) (bare_of t) (marked_by m u) = subst (λ (v : Ty). Upper table (variable y) v (marked_by m u)) (sym same.0) (upper_apart apart (chain_left rest apart h b)) in
      subst (λ (v : Ty). UpperApart table (variable x) t v) (marked_twice m u) (variable_left h e (upper_apart over (marked_either refl same.1 refl bare)))

  -- and so on the right
  swapped : {s t : Ty} → AreApart table s t → AreApart table t s
  swapped a = (a.1, a.0)

  pub last_apart_right : {s t last : Ty} {m : Bool} → LeadsTo table s t m last → AreApart table s t → AreApart table s last
  last_apart_right c a = swapped (last_apart c (swapped a))

  pub chain_right : {s t last u : Ty} {m : Bool} → LeadsTo table s t m last → AreApart table s t → is_settled s ≡ true → UpperApart table s last u → UpperApart table s t (marked_by m u)
  chain_right ends a h b = b
  chain_right {s} (goes_on {y = y} e not rest) a h b =
      let apart : AreApart table s (variable y) = (not, λ c. a.1 (left_variable_bound (variable y) e c)) in
      variable_right h e (upper_apart apart (chain_right rest apart h b))
  chain_right {s} {u = u} (goes_on_marked {x = x} {y = y} {m = m} e not below rest) a h b =
      let same = bare_same s (settled_bare s h) in
      let over : AreApart table s (nullable (variable y)) = (not, λ c. a.1 (left_variable_bound (nullable (variable y)) e c)) in
      let apart : AreApart table s (variable y) = (λ c. not (right_nullable c), below) in
      let bare : Upper table (bare_of s) (variable y) (marked_by m u) = subst (λ (v : Ty). Upper table v (variable y) (marked_by m u)) (sym same.0) (upper_apart apart (chain_right rest apart h b)) in
      let marked : (is_marked s || true) ≡ true = either_true (is_marked s) in
      subst (λ (v : Ty). UpperApart table s (variable x) v) (marked_twice m u) (variable_right h e (upper_apart over (marked_either same.1 refl marked bare)))
    where
      either_true : (b : Bool) → (b || true) ≡ true
      either_true true = refl
      either_true false = refl
