-- The measure of s <: t falls from the two sides of a rule to those of its premises.
use Rattle.std.proofs.Common.{◌≡◌, ℕ, zero, suc, ◌+◌, ◌*◌, ◌<◌, ◌≤◌, max, Bool, true, false, List, [], ◌∷◌, length, get_or, Option, Some, None, refl, sym, ap, subst, cond, arith}
use Rattle.std.specs.Prelude.{◌||◌, Contains, unwrap_or}
use Rattle.std.specs.Option.{option_map_or}
use Rattle.dart_types.specs.Ty.{Ty, Types, invalid, never, void, null, interface, function, variable, promoted, nullable, no_more, more, count}
use Rattle.dart_types.specs.Same.{same_class, same_var}
use Rattle.dart_types.specs.Substitution.{put, put_all, argument_of, by_params}
use Rattle.dart_types.specs.Tables.{Table, class_of, bound_of, depth_of, head_depth}
use Rattle.dart_types.specs.WellFormed.{is_among, IsSimple, AreSimple, IsSupertype, IsEarlier, AreEarlier, IsWellFormed}
use Rattle.dart_types.specs.Measure.{VarMeasure, weight, weights, deep, deeps, heavy, heavies, of_bound, by_bounds, of_var, weight_of, deepness_of, heaviest_of, tallest_of, deepest_of, rank_of, step_of, ranks_of, measure}
use Rattle.dart_types.specs.declared.ids.ClassId.{ClassId}
use Rattle.dart_types.specs.declared.ids.VarId.{VarId}
use Rattle.dart_types.specs.declared.class_rows.ClassRow.{ClassRow}
use Rattle.dart_types.proofs.Supers.{super_simple}
use Rattle.dart_types.proofs.Formed.{found_in, formed_bound, formed_super, super_depth}
use Rattle.dart_types.proofs.MeasureBounds.{most_ge, bound_le, bound_deepness, weight_local, heavy_local}

mul_mono : (a b c : ℕ) → a ≤ b → a * c ≤ b * c
mul_mono a b zero h = omega arith
mul_mono a b (suc c) h = omega (arith, mul_mono a b c h)

-- a supertype holds no heavier function type than the arguments
heavy_argument : (w f : VarMeasure) (ps : List VarId) (ss : Types) (x : VarId) → is_among ps x ≡ true → count ss ≡ length ps → heavy w f (by_params ps ss x) ≤ heavies w f ss
heavy_argument w f [] ss x h k = cc
heavy_argument w f (p ∷ ps) no_more x h k = absurd (omega arith)
heavy_argument w f (p ∷ ps) (more s ss) x h k = at (same_var p x) h (λ g. heavy_argument w f ps ss x g (omega arith))
  where
    at : (b : Bool) → (b || is_among ps x) ≡ true → (is_among ps x ≡ true → heavy w f (by_params ps ss x) ≤ heavies w f ss) → heavy w f (unwrap_or (cond b (Some s) (argument_of ps ss x)) (variable x)) ≤ max (heavy w f s) (heavies w f ss)
    at true g go = omega arith
    at false g go = omega (arith, go g)

mutual
  heavy_put : (w f : VarMeasure) (ps : List VarId) (ss : Types) → count ss ≡ length ps → (t : Ty) → IsSimple ps t → heavy w f (put (by_params ps ss) t) ≤ heavies w f ss
  heavy_put w f ps ss k invalid i = omega arith
  heavy_put w f ps ss k never i = omega arith
  heavy_put w f ps ss k void i = omega arith
  heavy_put w f ps ss k null i = omega arith
  heavy_put w f ps ss k (interface c ts) i = heavies_put w f ps ss k ts i
  heavy_put w f ps ss k (function r o n e) i = absurd i
  heavy_put w f ps ss k (variable x) i = heavy_argument w f ps ss x i k
  heavy_put w f ps ss k (promoted x t) i = absurd i
  heavy_put w f ps ss k (nullable t) i = heavy_put w f ps ss k t i

  heavies_put : (w f : VarMeasure) (ps : List VarId) (ss : Types) → count ss ≡ length ps → (ts : Types) → AreSimple ps ts → heavies w f (put_all (by_params ps ss) ts) ≤ heavies w f ss
  heavies_put w f ps ss k no_more i = omega arith
  heavies_put w f ps ss k (more t ts) i = omega (arith, heavy_put w f ps ss k t i.0, heavies_put w f ps ss k ts i.1)

-- and is no deeper than itself and the arguments together
abbrev no_depth : VarMeasure
no_depth x = 0

deep_argument : (f : VarMeasure) (ps : List VarId) (ss : Types) (x : VarId) → is_among ps x ≡ true → count ss ≡ length ps → deep f (by_params ps ss x) ≤ deeps f ss
deep_argument f [] ss x h k = cc
deep_argument f (p ∷ ps) no_more x h k = absurd (omega arith)
deep_argument f (p ∷ ps) (more s ss) x h k = at (same_var p x) h (λ g. deep_argument f ps ss x g (omega arith))
  where
    at : (b : Bool) → (b || is_among ps x) ≡ true → (is_among ps x ≡ true → deep f (by_params ps ss x) ≤ deeps f ss) → deep f (unwrap_or (cond b (Some s) (argument_of ps ss x)) (variable x)) ≤ max (deep f s) (deeps f ss)
    at true g go = omega arith
    at false g go = omega (arith, go g)

mutual
  deep_put : (f : VarMeasure) (ps : List VarId) (ss : Types) → count ss ≡ length ps → (t : Ty) → IsSimple ps t → deep f (put (by_params ps ss) t) ≤ deep no_depth t + deeps f ss
  deep_put f ps ss k invalid i = omega arith
  deep_put f ps ss k never i = omega arith
  deep_put f ps ss k void i = omega arith
  deep_put f ps ss k null i = omega arith
  deep_put f ps ss k (interface c ts) i = omega (arith, deeps_put f ps ss k ts i)
  deep_put f ps ss k (function r o n e) i = absurd i
  deep_put f ps ss k (variable x) i = omega (arith, deep_argument f ps ss x i k)
  deep_put f ps ss k (promoted x t) i = absurd i
  deep_put f ps ss k (nullable t) i = omega (arith, deep_put f ps ss k t i)

  deeps_put : (f : VarMeasure) (ps : List VarId) (ss : Types) → count ss ≡ length ps → (ts : Types) → AreSimple ps ts → deeps f (put_all (by_params ps ss) ts) ≤ deeps no_depth ts + deeps f ss
  deeps_put f ps ss k no_more i = omega arith
  deeps_put f ps ss k (more t ts) i = omega (arith, deep_put f ps ss k t i.0, deeps_put f ps ss k ts i.1)

-- no type is deeper than it weighs
mutual
  deep_weight : (f g : VarMeasure) → ((x : VarId) → f x ≤ g x) → (t : Ty) → deep f t ≤ weight g t
  deep_weight f g h invalid = omega arith
  deep_weight f g h never = omega arith
  deep_weight f g h void = omega arith
  deep_weight f g h null = omega arith
  deep_weight f g h (interface c ts) = omega (arith, deeps_weights f g h ts)
  deep_weight f g h (function r o n e) = omega (arith, deep_weight f g h e)
  deep_weight f g h (variable x) = omega (arith, h x)
  deep_weight f g h (promoted x t) = omega (arith, h x, deep_weight f g h t)
  deep_weight f g h (nullable t) = omega (arith, deep_weight f g h t)

  deeps_weights : (f g : VarMeasure) → ((x : VarId) → f x ≤ g x) → (ts : Types) → deeps f ts ≤ weights g ts
  deeps_weights f g h no_more = omega arith
  deeps_weights f g h (more t ts) = omega (arith, deep_weight f g h t, deeps_weights f g h ts)

bound_deep_weight : (f g : VarMeasure) → ((x : VarId) → f x ≤ g x) → (o : Option Ty) → of_bound (deep f) o ≤ of_bound (weight g) o
bound_deep_weight f g h None = omega arith
bound_deep_weight f g h (Some b) = deep_weight f g h b

bounds_deep_weight : (table : Table) (n : ℕ) (x : VarId) → by_bounds deep table n x ≤ by_bounds weight table n x
bounds_deep_weight table zero x = omega arith
bounds_deep_weight table (suc n) x = bound_deep_weight (by_bounds deep table n) (by_bounds weight table n) (λ y. bounds_deep_weight table n y) (bound_of table x)

pub deepness_weight : (table : Table) (t : Ty) → deepness_of table t ≤ weight_of table t
unfolding deepness_of weight_of
deepness_weight table t = deep_weight (of_var deep table) (of_var weight table) (λ x. bounds_deep_weight table (suc x.index) x) t

-- and none holds a heavier function type than itself
mutual
  heavy_weight : (w f : VarMeasure) → ((x : VarId) → f x ≤ w x) → (t : Ty) → heavy w f t ≤ weight w t
  heavy_weight w f h invalid = omega arith
  heavy_weight w f h never = omega arith
  heavy_weight w f h void = omega arith
  heavy_weight w f h null = omega arith
  heavy_weight w f h (interface c ts) = omega (arith, heavies_weights w f h ts)
  heavy_weight w f h (function r o n e) = omega arith
  heavy_weight w f h (variable x) = omega (arith, h x)
  heavy_weight w f h (promoted x t) = omega (arith, h x, heavy_weight w f h t)
  heavy_weight w f h (nullable t) = omega (arith, heavy_weight w f h t)

  heavies_weights : (w f : VarMeasure) → ((x : VarId) → f x ≤ w x) → (ts : Types) → heavies w f ts ≤ weights w ts
  heavies_weights w f h no_more = omega arith
  heavies_weights w f h (more t ts) = omega (arith, heavy_weight w f h t, heavies_weights w f h ts)

mutual
  heavy_earlier : (w f : VarMeasure) (x : VarId) → ((y : VarId) → y.index < x.index → f y ≤ w y) → (t : Ty) → IsEarlier x t → heavy w f t ≤ weight w t
  heavy_earlier w f x h invalid i = omega arith
  heavy_earlier w f x h never i = omega arith
  heavy_earlier w f x h void i = omega arith
  heavy_earlier w f x h null i = omega arith
  heavy_earlier w f x h (interface c ts) i = omega (arith, heavies_earlier w f x h ts i)
  heavy_earlier w f x h (function r o n e) i = omega arith
  heavy_earlier w f x h (variable y) i = omega (arith, h y i.1)
  heavy_earlier w f x h (promoted y t) i = absurd i
  heavy_earlier w f x h (nullable t) i = omega (arith, heavy_earlier w f x h t i)

  heavies_earlier : (w f : VarMeasure) (x : VarId) → ((y : VarId) → y.index < x.index → f y ≤ w y) → (ts : Types) → AreEarlier x ts → heavies w f ts ≤ weights w ts
  heavies_earlier w f x h no_more i = omega arith
  heavies_earlier w f x h (more t ts) i = omega (arith, heavy_earlier w f x h t i.0, heavies_earlier w f x h ts i.1)

-- arithmetic
spread : (a b c : ℕ) → (a + b) * c ≡ a * c + b * c
spread a b zero = omega arith
spread a b (suc c) = omega (arith, spread a b c)

-- the first part doesn't rise, and the rest falls
less_same : (m m' b x x' : ℕ) → m' ≤ m → x' < x → m' * b + x' < m * b + x
less_same m m' b x x' h l = omega (arith, mul_mono m' m b h)

-- the first part falls, and the depth doesn't rise
less_next : (m m' n q x x' r r' : ℕ) → m' + 1 ≤ m → r' ≤ n → x' ≤ x → m' * (n * q + 1) + (x' + r' * q) < m * (n * q + 1) + (x + r * q)
less_next m m' n q x x' r r' h i j =
    let a : (m' + 1) * (n * q + 1) ≤ m * (n * q + 1) = mul_mono (m' + 1) m (n * q + 1) h in
    let b : (m' + 1) * (n * q + 1) ≡ m' * (n * q + 1) + 1 * (n * q + 1) = spread m' 1 (n * q + 1) in
    let c : r' * q ≤ n * q = mul_mono r' n q i in
    omega arith

more_times : (w b : ℕ) → w ≤ w * (b + 1)
more_times w zero = omega arith
more_times w (suc b) = omega (arith, more_times w b)

-- the first part falls by more than the depth can rise
less_swap : (m m' n q w x x' r r' : ℕ) → m' + (w + 1) ≤ m → r' ≤ n → x' ≤ w → m' * (n * q + 1) + (x' + r' * q) < m * (n * q + 1) + (x + r * q)
less_swap m m' n q w x x' r r' h i j =
    let a : (m' + (w + 1)) * (n * q + 1) ≤ m * (n * q + 1) = mul_mono (m' + (w + 1)) m (n * q + 1) h in
    let b : (m' + (w + 1)) * (n * q + 1) ≡ m' * (n * q + 1) + (w + 1) * (n * q + 1) = spread m' (w + 1) (n * q + 1) in
    let e : (w + 1) * (n * q + 1) ≡ w * (n * q + 1) + 1 * (n * q + 1) = spread w 1 (n * q + 1) in
    let f : w ≤ w * (n * q + 1) = more_times w (n * q) in
    let c : r' * q ≤ n * q = mul_mono r' n q i in
    omega arith

-- one rank less is worth one step
less_rank : (q x x' r r' : ℕ) → x' < x + q → r' + 1 ≤ r → x' + r' * q < x + r * q
less_rank q x x' r r' i j =
    let a : (r' + 1) * q ≤ r * q = mul_mono (r' + 1) r q j in
    let b : (r' + 1) * q ≡ r' * q + 1 * q = spread r' 1 q in
    omega arith

-- no class lies farther from Object than the farthest
tallest_ge : (rows : List ClassRow) (row : ClassRow) → Contains rows row → row.depth ≤ tallest_of rows
tallest_ge rows row c = at rows c.0 c.1 c.2
  where
    at : (us : List ClassRow) (j : ℕ) → j < length us → get_or us j row ≡ row → row.depth ≤ tallest_of us
    at [] j lt e = absurd (omega arith)
    at (u ∷ us) zero lt e = let a : u.depth ≡ row.depth = ap (λ (r : ClassRow). r.depth) e in omega arith
    at (u ∷ us) (suc j) lt e = omega (arith, at us j (omega arith) e)

depth_le : (table : Table) (c : ClassId) → depth_of table c ≤ tallest_of table.classes
depth_le table c = at (class_of table c) refl
  where
    at : (o : Option ClassRow) → class_of table c ≡ o → option_map_or (λ (row : ClassRow). row.depth) o 0 ≤ tallest_of table.classes
    at None e = omega arith
    at (Some row) e = tallest_ge table.classes row (found_in (λ (x : ClassRow). same_class x.id c) table.classes row e).0

pub rank_le : (table : Table) (t : Ty) → rank_of table t ≤ tallest_of table.classes
rank_le table invalid = omega arith
rank_le table never = omega arith
rank_le table void = omega arith
rank_le table null = omega arith
rank_le table (interface c ts) = depth_le table c
rank_le table (function r o n e) = omega arith
rank_le table (variable x) = omega arith
rank_le table (promoted x t) = omega arith
rank_le table (nullable t) = omega arith

-- no direct supertype is deeper than the deepest
deepest_ge : (rows : List ClassRow) (row : ClassRow) (v : Ty) → Contains rows row → Contains row.supers v → deep no_depth v ≤ deepest_of rows
deepest_ge rows row v c i = at rows c.0 c.1 c.2
  where
    at : (us : List ClassRow) (j : ℕ) → j < length us → get_or us j row ≡ row → deep no_depth v ≤ deepest_of us
    at [] j lt e = absurd (omega arith)
    at (u ∷ us) zero lt e =
        let a : Contains u.supers v = subst (λ (r : ClassRow). Contains r.supers v) (sym e) i in
        omega (arith, most_ge (deep no_depth) u.supers v a)
    at (u ∷ us) (suc j) lt e = omega (arith, at us j (omega arith) e)

module _ (table : Table) (wf : IsWellFormed table) where
  abbrev W : VarMeasure
  W x = of_var weight table x

  heavy_bound : (f : VarMeasure) (x : VarId) → ((y : VarId) → y.index < x.index → f y ≤ W y) → (o : Option Ty) → bound_of table x ≡ o → of_bound (heavy W f) o ≤ W x
  heavy_bound f x h None e = omega arith
  heavy_bound f x h (Some b) e = omega (arith, heavy_earlier W f x h b (formed_bound table wf x b e).0, bound_le table wf weight weight_local x b e)

  heavy_bounds : (n : ℕ) (x : VarId) → x.index < n → by_bounds (heavy W) table n x ≤ W x
  heavy_bounds zero x lt = absurd (omega arith)
  heavy_bounds (suc n) x lt = heavy_bound (by_bounds (heavy W) table n) x (λ y l. heavy_bounds n y (omega arith)) (bound_of table x) refl

  pub heaviest_weight : (t : Ty) → heaviest_of table t ≤ weight_of table t
  unfolding heaviest_of weight_of
  heaviest_weight t = heavy_weight W (of_var (heavy W) table) (λ x. heavy_bounds (suc x.index) x (omega arith)) t

  -- from one pair to another: the heaviest on the left and the weight on the right don't rise, and the left is less deep, of a type whose rank is the greatest
  pub falls_left : (s s' t : Ty) → heaviest_of table s' ≤ heaviest_of table s → deepness_of table s' + 1 ≤ deepness_of table s → rank_of table s ≡ tallest_of table.classes → measure table s' t < measure table s t
  unfolding measure ranks_of
  falls_left s s' t h i e =
      less_same (heaviest_of table s + weight_of table t) (heaviest_of table s' + weight_of table t) (tallest_of table.classes * step_of table + 1) (deepness_of table s + rank_of table s * step_of table) (deepness_of table s' + rank_of table s' * step_of table)
      (omega arith)
      (omega (arith, mul_mono (rank_of table s') (rank_of table s) (step_of table) (omega (arith, rank_le table s', e))))

  -- nothing rises
  pub not_above : (s s' t : Ty) → heaviest_of table s' ≤ heaviest_of table s → deepness_of table s' ≤ deepness_of table s → rank_of table s' ≡ rank_of table s → measure table s' t ≤ measure table s t
  unfolding measure
  not_above s s' t h i e =
      let same : rank_of table s' * step_of table ≡ rank_of table s * step_of table = ap (λ k. k * step_of table) e in
      omega (arith, mul_mono (heaviest_of table s' + weight_of table t) (heaviest_of table s + weight_of table t) (ranks_of table) (omega arith), i, same)

  -- both together fall, and the left isn't deeper
  pub falls_both : (s s' t t' : Ty) → heaviest_of table s' + weight_of table t' + 1 ≤ heaviest_of table s + weight_of table t → deepness_of table s' ≤ deepness_of table s → measure table s' t' < measure table s t
  unfolding measure ranks_of
  falls_both s s' t t' h i =
      less_next (heaviest_of table s + weight_of table t) (heaviest_of table s' + weight_of table t') (tallest_of table.classes) (step_of table) (deepness_of table s) (deepness_of table s') (rank_of table s) (rank_of table s') h (rank_le table s') i

  -- both together fall by the weight of the new left
  pub falls_swapped : (s s' t t' : Ty) → heaviest_of table s' + weight_of table t' + (weight_of table s' + 1) ≤ heaviest_of table s + weight_of table t → measure table s' t' < measure table s t
  unfolding measure ranks_of
  falls_swapped s s' t t' h =
      less_swap (heaviest_of table s + weight_of table t) (heaviest_of table s' + weight_of table t') (tallest_of table.classes) (step_of table) (weight_of table s') (deepness_of table s) (deepness_of table s') (rank_of table s) (rank_of table s') h (rank_le table s') (deepness_weight table s')

  -- a nullable type on the right
  pub right_bare_falls : (s t : Ty) → measure table s t < measure table s (nullable t)
  unfolding weight_of
  right_bare_falls s t = falls_both s s (nullable t) t (omega (arith, heavier)) (omega arith)
    where
      heavier : weight_of table t + 1 ≤ weight_of table (nullable t)
      heavier = omega arith

  -- a promoted variable on the right
  pub right_promoted_falls : (x : VarId) (s t : Ty) → (measure table s (variable x) < measure table s (promoted x t)) × (measure table s t < measure table s (promoted x t))
  unfolding weight_of
  right_promoted_falls x s t = (falls_both s s (promoted x t) (variable x) (omega (arith, heavier.0)) (omega arith), falls_both s s (promoted x t) t (omega (arith, heavier.1)) (omega arith))
    where
      heavier : (weight_of table (variable x) + 1 ≤ weight_of table (promoted x t)) × (weight_of table t + 1 ≤ weight_of table (promoted x t))
      heavier = (omega arith, omega arith)

  -- a nullable type on the left
  pub left_bare_falls : (s t : Ty) → measure table s t < measure table (nullable s) t
  unfolding heaviest_of deepness_of
  left_bare_falls s t = falls_left (nullable s) s t heavier deeper refl
    where
      heavier : heaviest_of table s ≤ heaviest_of table (nullable s)
      heavier = omega arith

      deeper : deepness_of table s + 1 ≤ deepness_of table (nullable s)
      deeper = omega arith

  -- a promoted variable on the left
  pub left_promoted_falls : (x : VarId) (s t : Ty) → (measure table (variable x) t < measure table (promoted x s) t) × (measure table s t < measure table (promoted x s) t)
  unfolding heaviest_of deepness_of
  left_promoted_falls x s t = (falls_left (promoted x s) (variable x) t heavier.0 deeper.0 refl, falls_left (promoted x s) s t heavier.1 deeper.1 refl)
    where
      heavier : (heaviest_of table (variable x) ≤ heaviest_of table (promoted x s)) × (heaviest_of table s ≤ heaviest_of table (promoted x s))
      heavier = (omega arith, omega arith)

      deeper : (deepness_of table (variable x) + 1 ≤ deepness_of table (promoted x s)) × (deepness_of table s + 1 ≤ deepness_of table (promoted x s))
      deeper = (omega arith, omega arith)

  -- a type variable on the left
  pub bound_falls : (x : VarId) (b t : Ty) → bound_of table x ≡ Some b → measure table b t < measure table (variable x) t
  unfolding heaviest_of
  bound_falls x b t e = falls_left (variable x) b t heavier (bound_deepness table wf x b e) refl
    where
      heavier : heaviest_of table b ≤ heaviest_of table (variable x)
      heavier = bound_le table wf (heavy W) (heavy_local W) x b e

  -- void on the left
  pub left_top_falls : (c : ClassId) (t : Ty) → measure table (nullable (interface c no_more)) t < measure table void t
  unfolding heaviest_of deepness_of
  left_top_falls c t = falls_left void (nullable (interface c no_more)) t heavier deeper refl
    where
      heavier : heaviest_of table (nullable (interface c no_more)) ≤ heaviest_of table void
      heavier = omega arith

      deeper : deepness_of table (nullable (interface c no_more)) + 1 ≤ deepness_of table void
      deeper = omega arith

  -- a direct supertype on the left
  pub super_falls : (c : ClassId) (ss : Types) (row : ClassRow) (v t : Ty) → class_of table c ≡ Some row → Contains row.supers v → count ss ≡ length row.params → measure table (put (by_params row.params ss) v) t < measure table (interface c ss) t
  unfolding measure heaviest_of deepness_of step_of
  super_falls c ss row v t r i k =
      less_same (heaviest_of table (interface c ss) + weight_of table t) (heaviest_of table (put (by_params row.params ss) v) + weight_of table t) (ranks_of table) (deepness_of table (interface c ss) + depth_of table c * step_of table) (deepness_of table (put (by_params row.params ss) v) + rank_of table (put (by_params row.params ss) v) * step_of table)
      (omega (arith, heavier))
      (less_rank (step_of table) (deepness_of table (interface c ss)) (deepness_of table (put (by_params row.params ss) v)) (depth_of table c) (rank_of table (put (by_params row.params ss) v)) deeper (higher v (formed_super table wf c row v r i).0 (super_depth table wf c row v r i)))
    where
      simple : IsSimple row.params v
      simple = super_simple row.params v (formed_super table wf c row v r i).0

      heavier : heaviest_of table (put (by_params row.params ss) v) ≤ heaviest_of table (interface c ss)
      heavier = heavy_put W (of_var (heavy W) table) row.params ss k v simple

      deeper : deepness_of table (put (by_params row.params ss) v) < deepness_of table (interface c ss) + step_of table
      deeper = omega (arith, deep_put (of_var deep table) row.params ss k v simple, deepest_ge table.classes row v (found_in (λ (x : ClassRow). same_class x.id c) table.classes row r).0 i)

      higher : (w : Ty) → IsSupertype row.params w → head_depth table w + 1 ≤ depth_of table c → rank_of table (put (by_params row.params ss) w) + 1 ≤ depth_of table c
      higher invalid a h = absurd a
      higher never a h = absurd a
      higher void a h = absurd a
      higher null a h = absurd a
      higher (interface d ts) a h = h
      higher (function f o n e) a h = absurd a
      higher (variable x) a h = absurd a
      higher (promoted x w) a h = absurd a
      higher (nullable w) a h = absurd a
