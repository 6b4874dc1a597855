-- The steps of the test of subtyping on forms of types: what each answer rests on, and that the measure falls.
use Rattle.std.proofs.Common.{◌≡◌, ◌<◌, ◌≤◌, Bool, true, false, IsTrue, [], Some, None, refl, sym, ◌∙◌, ap, subst, arith, inl, inr}
use Rattle.std.specs.Prelude.{◌↔◌, ◌⊎◌}
use Rattle.dart_types.specs.Ty.{Ty, Types, Named, invalid, never, void, null, interface, function, variable, promoted, nullable, no_more, more, no_named, more_named}
use Rattle.dart_types.specs.Heads.{is_object, is_plain}
use Rattle.dart_types.specs.Substitution.{put, put_all, put_named}
use Rattle.dart_types.specs.Scopes.{Frames, close}
use Rattle.dart_types.specs.Tables.{Table, bound_of}
use Rattle.dart_types.specs.Targets.{is_bare_target, or_nullable}
use Rattle.dart_types.specs.WellFormed.{IsWellFormed}
use Rattle.dart_types.specs.Measure.{measure, deepness_of}
use Rattle.dart_types.specs.Sub.{Sub, reflexivity, right_top, left_bottom, left_null, left_nullable, right_nullable, left_promoted_variable, left_promoted_type, right_promoted, left_variable_bound}
use Rattle.dart_types.specs.declared.ids.VarId.{VarId}
use Rattle.dart_types.proofs.MeasureBounds.{bound_deepness}
use Rattle.dart_types.proofs.MeasureFalls.{right_bare_falls, left_bare_falls, left_promoted_falls, bound_falls}
use Rattle.dart_types.proofs.Inversions.{promoted_parts, nullable_parts, null_target, target_null, into_target, invalid_target, var_target, promoted_target, var_nullable_promoted, promoted_nullable_promoted, invalid_nullable_promoted, nullable_twice, plain_target, plain_nullable_promoted, void_target, void_nullable_promoted}

-- an answer, and what it says
pub yes : {A : Type 0} → A → IsTrue true ↔ A
yes a = (λ _. a, λ _. refl)

pub no : {A : Type 0} → (A → ⊥) → IsTrue false ↔ A
no f = (λ h. cc, λ a. absurd (f a))

pub granted : {A : Type 0} {r : Bool} → IsTrue r ↔ A → r ≡ true → A
granted p e = p.0 e

pub refused : {A : Type 0} {r : Bool} → IsTrue r ↔ A → r ≡ false → A → ⊥
refused {r = r} p e a = let k : r ≡ true = p.1 a in cc

pub through : {A B : Type 0} {r : Bool} → (A → B) → (B → A) → IsTrue r ↔ A → IsTrue r ↔ B
through f g p = (λ h. f (p.0 h), λ b. p.1 (g b))

-- a type in a scope in which each variable stands for itself
mutual
  pub put_itself : (t : Ty) → put (λ x. variable x) t ≡ t
  put_itself invalid = refl
  put_itself never = refl
  put_itself void = refl
  put_itself null = refl
  put_itself (interface c ts) = ap (λ (us : Types). interface c us) (put_all_itself ts)
  put_itself (function r o n e) = let a = put_all_itself r in let b = put_all_itself o in let c = put_named_itself n in let d = put_itself e in cc
  put_itself (variable x) = refl
  put_itself (promoted x t) = ap (λ (u : Ty). promoted x u) (put_itself t)
  put_itself (nullable t) = ap (λ (u : Ty). nullable u) (put_itself t)

  pub put_all_itself : (ts : Types) → put_all (λ x. variable x) ts ≡ ts
  put_all_itself no_more = refl
  put_all_itself (more t ts) = let a = put_itself t in let b = put_all_itself ts in cc

  put_named_itself : (ns : Named) → put_named (λ x. variable x) ns ≡ ns
  put_named_itself no_named = refl
  put_named_itself (more_named n r t ts) = let a = put_itself t in let b = put_named_itself ts in cc

pub rooted : (frames : Frames) → frames ≡ [] → (t : Ty) → close frames t ≡ t
rooted frames e t = subst (λ (fs : Frames). close fs t ≡ t) (sym e) (put_itself t)

-- from types to their forms, and back
pub onto : (table : Table) {s t f g : Ty} → f ≡ s → g ≡ t → Sub table s t → Sub table f g
onto table {t = t} {f = f} e e' a = subst (λ (x : Ty). Sub table f x) (sym e') (subst (λ (x : Ty). Sub table x t) (sym e) a)

pub back : (table : Table) {s t f g : Ty} → f ≡ s → g ≡ t → Sub table f g → Sub table s t
back table {s = s} {g = g} e e' a = subst (λ (x : Ty). Sub table s x) e' (subst (λ (x : Ty). Sub table x g) e a)

module _ (table : Table) (wf : IsWellFormed table) where
  -- the measure falls to the forms of parts
  pub fall_right_nullable : (s : Ty) {t f u : Ty} → t ≡ nullable u → f ≡ u → measure table s (nullable f) < measure table s (nullable t)
  fall_right_nullable s {t} {f} {u} e g =
      subst (λ (x : Ty). measure table s (nullable f) < measure table s (nullable x)) (sym e)
      (subst (λ (x : Ty). measure table s (nullable x) < measure table s (nullable (nullable u))) (sym g) (right_bare_falls table wf s (nullable u)))

  pub fall_nullable : {s f u : Ty} (t : Ty) → s ≡ nullable u → f ≡ u → measure table f t < measure table s t
  fall_nullable {s} {f} {u} t e g =
      subst (λ (x : Ty). measure table f t < measure table x t) (sym e)
      (subst (λ (x : Ty). measure table x t < measure table (nullable u) t) (sym g) (left_bare_falls table wf u t))

  pub fall_promoted_var : {s u : Ty} {x : VarId} (t : Ty) → s ≡ promoted x u → measure table (variable x) t < measure table s t
  fall_promoted_var {u = u} {x = x} t e = subst (λ (y : Ty). measure table (variable x) t < measure table y t) (sym e) (left_promoted_falls table wf x u t).0

  pub fall_promoted_type : {s f u : Ty} {x : VarId} (t : Ty) → s ≡ promoted x u → f ≡ u → measure table f t < measure table s t
  fall_promoted_type {s} {f} {u} {x} t e g =
      subst (λ (y : Ty). measure table f t < measure table y t) (sym e)
      (subst (λ (y : Ty). measure table y t < measure table (promoted x u) t) (sym g) (left_promoted_falls table wf x u t).1)

  -- and isn't greater without `?` on the right
  pub target_least : (q : Bool) {s u : Ty} (t : Ty) → s ≡ u → measure table u t ≤ measure table s (or_nullable q t)
  target_least q {s} {u} t e = subst (λ (x : Ty). measure table x t ≤ measure table s (or_nullable q t)) e (at q)
    where
      at : (b : Bool) → measure table s t ≤ measure table s (or_nullable b t)
      at true = omega (arith, right_bare_falls table wf s t)
      at false = omega arith

  -- nullable types on the right
  pub void_nullable : {s t : Ty} → t ≡ void → IsTrue true ↔ Sub table s (nullable t)
  void_nullable {s} e = yes (subst (λ (x : Ty). Sub table s (nullable x)) (sym e) (right_nullable (right_top refl)))

  pub once_nullable : {s t f u : Ty} {r : Bool} → t ≡ nullable u → f ≡ u → IsTrue r ↔ Sub table s (nullable f) → IsTrue r ↔ Sub table s (nullable t)
  once_nullable {s} {t} {f} {u} e g p =
      through
      (λ a. subst (λ (x : Ty). Sub table s (nullable x)) (sym e) (right_nullable (subst (λ (x : Ty). Sub table s (nullable x)) g a)))
      (λ a. subst (λ (x : Ty). Sub table s (nullable x)) (sym g) (nullable_twice table wf (subst (λ (x : Ty). Sub table s (nullable x)) e a)))
      p

  -- promoted variables on the right
  pub both_promoted : {s t : Ty} {x : VarId} {r : Bool} → Sub table s (variable x) → IsTrue r ↔ Sub table s t → IsTrue r ↔ Sub table s (promoted x t)
  both_promoted a p = through (λ b. right_promoted a b) (λ b. (promoted_parts table b).1) p

  module _ (y : VarId) (w : Ty) where
    abbrev Target : Ty
    Target = nullable (promoted y w)

    pub never_below_promoted : {s : Ty} → s ≡ never → IsTrue true ↔ Sub table s Target
    never_below_promoted e = yes (subst (λ (x : Ty). Sub table x Target) (sym e) left_bottom)

    pub null_below_promoted : {s : Ty} → s ≡ null → IsTrue true ↔ Sub table s Target
    null_below_promoted e = yes (subst (λ (x : Ty). Sub table x Target) (sym e) left_null)

    pub invalid_below_promoted : {s : Ty} → s ≡ invalid → IsTrue false ↔ Sub table s Target
    invalid_below_promoted e = no (λ a. invalid_nullable_promoted table (subst (λ (x : Ty). Sub table x Target) e a))

    pub void_below_promoted : {s : Ty} → s ≡ void → IsTrue false ↔ Sub table s Target
    void_below_promoted e = no (λ a. void_nullable_promoted table wf (subst (λ (x : Ty). Sub table x Target) e a))

    pub plain_below_promoted : {s u : Ty} → s ≡ u → is_plain u ≡ true → IsTrue false ↔ Sub table s Target
    plain_below_promoted e k = no (λ a. plain_nullable_promoted table wf k (subst (λ (x : Ty). Sub table x Target) e a))

    pub nullable_below_promoted : {s f u : Ty} {r : Bool} → s ≡ nullable u → f ≡ u → IsTrue r ↔ Sub table f Target → IsTrue r ↔ Sub table s Target
    nullable_below_promoted e g p =
        through
        (λ a. subst (λ (x : Ty). Sub table x Target) (sym e) (left_nullable (subst (λ (x : Ty). Sub table x Target) g a) left_null))
        (λ a. subst (λ (x : Ty). Sub table x Target) (sym g) (nullable_parts table (subst (λ (x : Ty). Sub table x Target) e a)).0)
        p

    pub by_variable : {s u : Ty} {x : VarId} → s ≡ promoted x u → Sub table (variable x) Target → IsTrue true ↔ Sub table s Target
    by_variable e a = yes (subst (λ (x : Ty). Sub table x Target) (sym e) (left_promoted_variable a))

    pub by_type : {s f u : Ty} {x : VarId} {r : Bool} → s ≡ promoted x u → f ≡ u → (Sub table s (promoted y w) → ⊥) → (Sub table (variable x) Target → ⊥) → IsTrue r ↔ Sub table f Target → IsTrue r ↔ Sub table s Target
    by_type {s} {f} {u} {x} e g bare var p =
        through
        (λ a. subst (λ (z : Ty). Sub table z Target) (sym e) (left_promoted_type (subst (λ (z : Ty). Sub table z Target) g a)))
        (λ a. elim (promoted_nullable_promoted table (subst (λ (z : Ty). Sub table z Target) e a)) as (λ _. Sub table f Target) [
          | inl b ↦ absurd (bare (subst (λ (z : Ty). Sub table z (promoted y w)) (sym e) b))
          | inr b ↦ elim b as (λ _. Sub table f Target) [ inl c ↦ absurd (var c) | inr c ↦ subst (λ (z : Ty). Sub table z Target) (sym g) c ]
        ])
        p

  -- a bare type on the right, with `?` or without
  module _ (q : Bool) (t : Ty) (bare : is_bare_target t ≡ true) where
    abbrev Goal : Ty
    Goal = or_nullable q t

    pub below_top : {s : Ty} → (q ≡ true) × (is_object t ≡ true) → IsTrue true ↔ Sub table s Goal
    below_top {s} p = yes (at q p.0)
      where
        at : (b : Bool) → b ≡ true → Sub table s (or_nullable b t)
        at true e = right_top p.1
        at false e = cc

    module _ (no_top : q ≡ true → is_object t ≡ true → ⊥) where
      pub never_below : {s : Ty} → s ≡ never → IsTrue true ↔ Sub table s Goal
      never_below e = yes (subst (λ (x : Ty). Sub table x Goal) (sym e) left_bottom)

      pub void_below : {s : Ty} → s ≡ void → IsTrue false ↔ Sub table s Goal
      void_below e = no (λ a. void_target table wf q t bare no_top (subst (λ (x : Ty). Sub table x Goal) e a))

      pub invalid_below : {s : Ty} {r : Bool} → s ≡ invalid → IsTrue r ↔ (t ≡ invalid) → IsTrue r ↔ Sub table s Goal
      invalid_below e p =
          through
          (λ k. subst (λ (x : Ty). Sub table x Goal) (sym e) (into_target table q (subst (λ (x : Ty). Sub table invalid x) (sym k) reflexivity)))
          (λ a. invalid_target table q t bare no_top (subst (λ (x : Ty). Sub table x Goal) e a))
          p

      pub null_below : {s : Ty} {r : Bool} → s ≡ null → IsTrue r ↔ ((q ≡ true) ⊎ (t ≡ null)) → IsTrue r ↔ Sub table s Goal
      null_below e p =
          through
          (λ k. subst (λ (x : Ty). Sub table x Goal) (sym e) (target_null table q t k))
          (λ a. null_target table q t bare (subst (λ (x : Ty). Sub table x Goal) e a))
          p

      pub nullable_refused : {s u : Ty} → s ≡ nullable u → ((q ≡ true) ⊎ (t ≡ null) → ⊥) → IsTrue false ↔ Sub table s Goal
      nullable_refused e k = no (λ a. k (null_target table q t bare (nullable_parts table (subst (λ (x : Ty). Sub table x Goal) e a)).1))

      pub nullable_below : {s f u : Ty} {r : Bool} → s ≡ nullable u → f ≡ u → (q ≡ true) ⊎ (t ≡ null) → IsTrue r ↔ Sub table f Goal → IsTrue r ↔ Sub table s Goal
      nullable_below e g k p =
          through
          (λ a. subst (λ (x : Ty). Sub table x Goal) (sym e) (left_nullable (subst (λ (x : Ty). Sub table x Goal) g a) (target_null table q t k)))
          (λ a. subst (λ (x : Ty). Sub table x Goal) (sym g) (nullable_parts table (subst (λ (x : Ty). Sub table x Goal) e a)).0)
          p

      pub variable_below : {s u : Ty} {x : VarId} → s ≡ promoted x u → Sub table (variable x) Goal → IsTrue true ↔ Sub table s Goal
      variable_below e a = yes (subst (λ (z : Ty). Sub table z Goal) (sym e) (left_promoted_variable a))

      pub type_below : {s f u : Ty} {x : VarId} {r : Bool} → s ≡ promoted x u → f ≡ u → (Sub table (variable x) Goal → ⊥) → IsTrue r ↔ Sub table f Goal → IsTrue r ↔ Sub table s Goal
      type_below {s} {f} {u} {x} e g var p =
          through
          (λ a. subst (λ (z : Ty). Sub table z Goal) (sym e) (left_promoted_type (subst (λ (z : Ty). Sub table z Goal) g a)))
          (λ a. elim (promoted_target table q x u t bare no_top (subst (λ (z : Ty). Sub table z Goal) e a)) as (λ _. Sub table f Goal) [
            | inl b ↦ absurd (var b)
            | inr b ↦ subst (λ (z : Ty). Sub table z Goal) (sym g) b
          ])
          p

      pub plain_below : {s u : Ty} {r : Bool} → s ≡ u → is_plain u ≡ true → IsTrue r ↔ Sub table u t → IsTrue r ↔ Sub table s Goal
      plain_below e k p =
          through
          (λ a. subst (λ (x : Ty). Sub table x Goal) (sym e) (into_target table q a))
          (λ a. plain_target table wf q k (subst (λ (x : Ty). Sub table x Goal) e a))
          p

      -- a type variable on the left, step by step along its bounds
      abbrev Decides : VarId → VarId → Type 0
      Decides x y = (Sub table (variable y) Goal → Sub table (variable x) Goal) × (Sub table (variable x) Goal → Sub table (variable y) Goal) × (measure table (variable y) Goal ≤ measure table (variable x) Goal)

      pub is_the_variable : {x y : VarId} → Decides x y → t ≡ variable y → IsTrue true ↔ Sub table (variable x) Goal
      is_the_variable {x} {y} i e = yes (i.0 (into_target table q (subst (λ (z : Ty). Sub table (variable y) z) (sym e) reflexivity)))

      pub no_bound : {x y : VarId} → Decides x y → (t ≡ variable y → ⊥) → bound_of table y ≡ None → IsTrue false ↔ Sub table (variable x) Goal
      no_bound {x} {y} i other none =
          no (λ a. elim (var_target table q y t bare no_top (i.1 a)) [
            | inl e ↦ other e
            | inr p ↦ let k : None ≡ Some p.0 = sym none ∙ p.1 in cc
          ])

      past_variable : {y : VarId} {b : Ty} → (t ≡ variable y → ⊥) → bound_of table y ≡ Some b → Sub table (variable y) Goal → Sub table b Goal
      past_variable {y} {b} other e a =
          elim (var_target table q y t bare no_top a) as (λ _. Sub table b Goal) [
            | inl k ↦ absurd (other k)
            | inr p ↦ let same : p.0 ≡ b = (let k : Some p.0 ≡ Some b = sym p.1 ∙ e in cc) in subst (λ (z : Ty). Sub table z Goal) same p.2
          ]

      pub next_variable : {x y z : VarId} {b : Ty} → Decides x y → (t ≡ variable y → ⊥) → bound_of table y ≡ Some b → b ≡ variable z → Decides x z
      next_variable {x} {y} {z} {b} i other e is = (
        λ a. i.0 (left_variable_bound b e (subst (λ (k : Ty). Sub table k Goal) (sym is) a)),
        λ a. subst (λ (k : Ty). Sub table k Goal) is (past_variable other e (i.1 a)),
        let f : measure table b Goal < measure table (variable y) Goal = bound_falls table wf y b Goal e in
            let g : measure table (variable z) Goal < measure table (variable y) Goal = subst (λ (k : Ty). measure table k Goal < measure table (variable y) Goal) is f in
            omega (arith, g, i.2),
      )

      pub next_nullable : {x y z : VarId} {b : Ty} → Decides x y → (t ≡ variable y → ⊥) → bound_of table y ≡ Some b → b ≡ nullable (variable z) → (q ≡ true) ⊎ (t ≡ null) → Decides x z
      next_nullable {x} {y} {z} {b} i other e is k = (
        λ a. i.0 (left_variable_bound b e (subst (λ (l : Ty). Sub table l Goal) (sym is) (left_nullable a (target_null table q t k)))),
        λ a. (nullable_parts table (subst (λ (l : Ty). Sub table l Goal) is (past_variable other e (i.1 a)))).0,
        let f : measure table b Goal < measure table (variable y) Goal = bound_falls table wf y b Goal e in
            let g : measure table (nullable (variable z)) Goal < measure table (variable y) Goal = subst (λ (l : Ty). measure table l Goal < measure table (variable y) Goal) is f in
            let h : measure table (variable z) Goal < measure table (nullable (variable z)) Goal = left_bare_falls table wf (variable z) Goal in
            omega (arith, g, h, i.2),
      )

      pub bound_nullable : {x y z : VarId} {b : Ty} → Decides x y → (t ≡ variable y → ⊥) → bound_of table y ≡ Some b → b ≡ nullable (variable z) → ((q ≡ true) ⊎ (t ≡ null) → ⊥) → IsTrue false ↔ Sub table (variable x) Goal
      bound_nullable i other e is k = no (λ a. k (null_target table q t bare (nullable_parts table (subst (λ (l : Ty). Sub table l Goal) is (past_variable other e (i.1 a)))).1))

      pub bound_decides : {x y : VarId} {b f : Ty} {r : Bool} → Decides x y → (t ≡ variable y → ⊥) → bound_of table y ≡ Some b → f ≡ b → IsTrue r ↔ Sub table f Goal → IsTrue r ↔ Sub table (variable x) Goal
      bound_decides {x} {y} {b} {f} i other e g p =
          through
          (λ a. i.0 (left_variable_bound b e (subst (λ (l : Ty). Sub table l Goal) g a)))
          (λ a. subst (λ (l : Ty). Sub table l Goal) (sym g) (past_variable other e (i.1 a)))
          p

      pub bound_less : {x y : VarId} {b f : Ty} → Decides x y → bound_of table y ≡ Some b → f ≡ b → measure table f Goal < measure table (variable x) Goal
      bound_less {x} {y} {b} {f} i e g =
          let h : measure table b Goal < measure table (variable y) Goal = bound_falls table wf y b Goal e in
          subst (λ (l : Ty). measure table l Goal < measure table (variable x) Goal) (sym g) (omega (arith, h, i.2))

  -- a bound that is a variable is less deep
  pub less_deep : (y z : VarId) {b : Ty} → bound_of table y ≡ Some b → b ≡ variable z → deepness_of table (variable z) < deepness_of table (variable y)
  less_deep y z {b} e is = subst (λ (l : Ty). deepness_of table l < deepness_of table (variable y)) is (omega (arith, bound_deepness table wf y b e))

  deeper : (u : Ty) → deepness_of table u ≤ deepness_of table (nullable u)
  unfolding deepness_of
  deeper u = omega arith

  pub less_deep_nullable : (y z : VarId) {b : Ty} → bound_of table y ≡ Some b → b ≡ nullable (variable z) → deepness_of table (variable z) < deepness_of table (variable y)
  less_deep_nullable y z {b} e is =
      let h : deepness_of table (nullable (variable z)) < deepness_of table (variable y) = subst (λ (l : Ty). deepness_of table l < deepness_of table (variable y)) is (omega (arith, bound_deepness table wf y b e)) in
      omega (arith, h, deeper (variable z))

  -- a type variable on the left, and `(X & U)?` on the right
  module _ (y : VarId) (w : Ty) where
    abbrev Wanted : Ty
    Wanted = nullable (promoted y w)

    abbrev Leads : VarId → VarId → Type 0
    Leads x z = (Sub table (variable z) Wanted → Sub table (variable x) Wanted) × (Sub table (variable x) Wanted → Sub table (variable z) Wanted) × (measure table (variable z) Wanted ≤ measure table (variable x) Wanted)

    pub variable_promoted : {x z : VarId} → Leads x z → Sub table (variable z) (promoted y w) → IsTrue true ↔ Sub table (variable x) Wanted
    variable_promoted i a = yes (i.0 (right_nullable a))

    pub no_bound_promoted : {x z : VarId} → Leads x z → (Sub table (variable z) (promoted y w) → ⊥) → bound_of table z ≡ None → IsTrue false ↔ Sub table (variable x) Wanted
    no_bound_promoted i other none =
        no (λ a. elim (var_nullable_promoted table (i.1 a)) [
          | inl b ↦ other b
          | inr p ↦ let k : None ≡ Some p.0 = sym none ∙ p.1 in cc
        ])

    past_promoted : {z : VarId} {b : Ty} → (Sub table (variable z) (promoted y w) → ⊥) → bound_of table z ≡ Some b → Sub table (variable z) Wanted → Sub table b Wanted
    past_promoted {z} {b} other e a =
        elim (var_nullable_promoted table a) as (λ _. Sub table b Wanted) [
          | inl k ↦ absurd (other k)
          | inr p ↦ let same : p.0 ≡ b = (let k : Some p.0 ≡ Some b = sym p.1 ∙ e in cc) in subst (λ (l : Ty). Sub table l Wanted) same p.2
        ]

    pub next_promoted : {x z v : VarId} {b : Ty} → Leads x z → (Sub table (variable z) (promoted y w) → ⊥) → bound_of table z ≡ Some b → b ≡ variable v → Leads x v
    next_promoted {x} {z} {v} {b} i other e is = (
      λ a. i.0 (left_variable_bound b e (subst (λ (k : Ty). Sub table k Wanted) (sym is) a)),
      λ a. subst (λ (k : Ty). Sub table k Wanted) is (past_promoted other e (i.1 a)),
      let f : measure table b Wanted < measure table (variable z) Wanted = bound_falls table wf z b Wanted e in
          let g : measure table (variable v) Wanted < measure table (variable z) Wanted = subst (λ (k : Ty). measure table k Wanted < measure table (variable z) Wanted) is f in
          omega (arith, g, i.2),
    )

    pub next_promoted_nullable : {x z v : VarId} {b : Ty} → Leads x z → (Sub table (variable z) (promoted y w) → ⊥) → bound_of table z ≡ Some b → b ≡ nullable (variable v) → Leads x v
    next_promoted_nullable {x} {z} {v} {b} i other e is = (
      λ a. i.0 (left_variable_bound b e (subst (λ (l : Ty). Sub table l Wanted) (sym is) (left_nullable a left_null))),
      λ a. (nullable_parts table (subst (λ (l : Ty). Sub table l Wanted) is (past_promoted other e (i.1 a)))).0,
      let f : measure table b Wanted < measure table (variable z) Wanted = bound_falls table wf z b Wanted e in
          let g : measure table (nullable (variable v)) Wanted < measure table (variable z) Wanted = subst (λ (l : Ty). measure table l Wanted < measure table (variable z) Wanted) is f in
          let h : measure table (variable v) Wanted < measure table (nullable (variable v)) Wanted = left_bare_falls table wf (variable v) Wanted in
          omega (arith, g, h, i.2),
    )

    pub bound_promoted : {x z : VarId} {b f : Ty} {r : Bool} → Leads x z → (Sub table (variable z) (promoted y w) → ⊥) → bound_of table z ≡ Some b → f ≡ b → IsTrue r ↔ Sub table f Wanted → IsTrue r ↔ Sub table (variable x) Wanted
    bound_promoted {x} {z} {b} {f} i other e g p =
        through
        (λ a. i.0 (left_variable_bound b e (subst (λ (l : Ty). Sub table l Wanted) g a)))
        (λ a. subst (λ (l : Ty). Sub table l Wanted) (sym g) (past_promoted other e (i.1 a)))
        p

    pub bound_promoted_less : {x z : VarId} {b f : Ty} → Leads x z → bound_of table z ≡ Some b → f ≡ b → measure table f Wanted < measure table (variable x) Wanted
    bound_promoted_less {x} {z} {b} {f} i e g =
        let h : measure table b Wanted < measure table (variable z) Wanted = bound_falls table wf z b Wanted e in
        subst (λ (l : Ty). measure table l Wanted < measure table (variable x) Wanted) (sym g) (omega (arith, h, i.2))

    pub bare_promoted_less : {x z : VarId} → Leads x z → measure table (variable z) (promoted y w) < measure table (variable x) Wanted
    bare_promoted_less {x} {z} i =
        let h : measure table (variable z) (promoted y w) < measure table (variable z) Wanted = right_bare_falls table wf (variable z) (promoted y w) in
        omega (arith, h, i.2)
