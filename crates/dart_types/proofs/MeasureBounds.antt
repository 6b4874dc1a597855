-- Measures of variables by their bounds.
use Rattle.std.proofs.Common.{◌≡◌, ℕ, zero, suc, ◌+◌, ◌<◌, ◌≤◌, List, [], ◌∷◌, length, get_or, Option, Some, None, refl, ap, arith}
use Rattle.std.specs.Prelude.{Contains}
use Rattle.dart_types.specs.Ty.{Ty, Types, Named, invalid, never, void, null, interface, function, variable, promoted, nullable, no_more, more, no_named, more_named}
use Rattle.dart_types.specs.Tables.{Table, bound_of}
use Rattle.dart_types.specs.WellFormed.{IsEarlier, AreEarlier, AreEarlierNamed, IsWellFormed}
use Rattle.dart_types.specs.Measure.{VarMeasure, weight, weights, weights_named, deep, deeps, heavy, heavies, of_bound, by_bounds, of_var, most_of, weight_of, deepness_of}
use Rattle.dart_types.specs.declared.ids.VarId.{VarId}
use Rattle.dart_types.proofs.Formed.{formed_bound}

-- both give the same to variables of lesser index
abbrev pub Agree : ℕ → VarMeasure → VarMeasure → Type 0
Agree n f g = (y : VarId) → y.index < n → f y ≡ g y

-- a measure of a type asks for its variables alone
abbrev pub IsLocal : (VarMeasure → Ty → ℕ) → Type 0
IsLocal m = (x : VarId) (f g : VarMeasure) → Agree x.index f g → (t : Ty) → IsEarlier x t → m f t ≡ m g t

mutual
  pub weight_local : IsLocal weight
  weight_local x f g h invalid i = refl
  weight_local x f g h never i = refl
  weight_local x f g h void i = refl
  weight_local x f g h null i = refl
  weight_local x f g h (interface c ts) i = ap (λ k. k + 1) (weights_local x f g h ts i)
  weight_local x f g h (function r o n e) i =
      let a = weights_local x f g h r i.0 in
      let b = weights_local x f g h o i.1 in
      let c = named_local x f g h n i.2 in
      let d = weight_local x f g h e i.3 in
      omega arith
  weight_local x f g h (variable y) i = ap (λ k. k + 1) (h y i.1)
  weight_local x f g h (promoted y t) i = absurd i
  weight_local x f g h (nullable t) i = ap (λ k. k + 2) (weight_local x f g h t i)

  weights_local : (x : VarId) (f g : VarMeasure) → Agree x.index f g → (ts : Types) → AreEarlier x ts → weights f ts ≡ weights g ts
  weights_local x f g h no_more i = refl
  weights_local x f g h (more t ts) i = let a = weight_local x f g h t i.0 in let b = weights_local x f g h ts i.1 in omega arith

  named_local : (x : VarId) (f g : VarMeasure) → Agree x.index f g → (ns : Named) → AreEarlierNamed x ns → weights_named f ns ≡ weights_named g ns
  named_local x f g h no_named i = refl
  named_local x f g h (more_named n r t ts) i = let a = weight_local x f g h t i.0 in let b = named_local x f g h ts i.1 in omega arith

mutual
  pub deep_local : IsLocal deep
  deep_local x f g h invalid i = refl
  deep_local x f g h never i = refl
  deep_local x f g h void i = refl
  deep_local x f g h null i = refl
  deep_local x f g h (interface c ts) i = ap (λ k. k + 1) (deeps_local x f g h ts i)
  deep_local x f g h (function r o n e) i = ap (λ k. k + 1) (deep_local x f g h e i.3)
  deep_local x f g h (variable y) i = ap (λ k. k + 1) (h y i.1)
  deep_local x f g h (promoted y t) i = absurd i
  deep_local x f g h (nullable t) i = ap (λ k. k + 2) (deep_local x f g h t i)

  deeps_local : (x : VarId) (f g : VarMeasure) → Agree x.index f g → (ts : Types) → AreEarlier x ts → deeps f ts ≡ deeps g ts
  deeps_local x f g h no_more i = refl
  deeps_local x f g h (more t ts) i = let a = deep_local x f g h t i.0 in let b = deeps_local x f g h ts i.1 in cc

mutual
  pub heavy_local : (w : VarMeasure) → IsLocal (heavy w)
  heavy_local w x f g h invalid i = refl
  heavy_local w x f g h never i = refl
  heavy_local w x f g h void i = refl
  heavy_local w x f g h null i = refl
  heavy_local w x f g h (interface c ts) i = heavies_local w x f g h ts i
  heavy_local w x f g h (function r o n e) i = refl
  heavy_local w x f g h (variable y) i = h y i.1
  heavy_local w x f g h (promoted y t) i = absurd i
  heavy_local w x f g h (nullable t) i = heavy_local w x f g h t i

  heavies_local : (w : VarMeasure) (x : VarId) (f g : VarMeasure) → Agree x.index f g → (ts : Types) → AreEarlier x ts → heavies w f ts ≡ heavies w g ts
  heavies_local w x f g h no_more i = refl
  heavies_local w x f g h (more t ts) i = let a = heavy_local w x f g h t i.0 in let b = heavies_local w x f g h ts i.1 in cc

-- none of a list measures more than the most
pub most_ge : (m : Ty → ℕ) (ts : List Ty) (t : Ty) → Contains ts t → m t ≤ most_of m ts
most_ge m ts t c = at ts c.0 c.1 c.2
  where
    at : (us : List Ty) (j : ℕ) → j < length us → get_or us j t ≡ t → m t ≤ most_of m us
    at [] j lt e = absurd (omega arith)
    at (u ∷ us) zero lt e = let a : m u ≡ m t = ap m e in omega arith
    at (u ∷ us) (suc j) lt e = omega (arith, at us j (omega arith) e)

module _ (table : Table) (wf : IsWellFormed table) where
  -- what a bound measures asks for variables of lesser index alone
  bound_local : (m : VarMeasure → Ty → ℕ) → IsLocal m → (f g : VarMeasure) (y : VarId) → Agree y.index f g → (o : Option Ty) → bound_of table y ≡ o → of_bound (m f) o ≡ of_bound (m g) o
  bound_local m loc f g y h None e = refl
  bound_local m loc f g y h (Some t) e = loc y f g h t (formed_bound table wf y t e).0

  -- a count of bounds that is greater than the index is enough
  enough : (m : VarMeasure → Ty → ℕ) → IsLocal m → (n k : ℕ) (y : VarId) → y.index < n → y.index < k → by_bounds m table n y ≡ by_bounds m table k y
  enough m loc zero k y a b = absurd (omega arith)
  enough m loc (suc n) zero y a b = absurd (omega arith)
  enough m loc (suc n) (suc k) y a b =
      bound_local m loc (by_bounds m table n) (by_bounds m table k) y (λ z lt. enough m loc n k z (omega arith) (omega arith)) (bound_of table y) refl

  -- a bound measures no more than its variable
  pub bound_le : (m : VarMeasure → Ty → ℕ) → IsLocal m → (x : VarId) (b : Ty) → bound_of table x ≡ Some b → m (of_var m table) b ≤ of_var m table x
  bound_le m loc x b e =
      let same : m (of_var m table) b ≡ m (by_bounds m table x.index) b = loc x (of_var m table) (by_bounds m table x.index) (λ y lt. enough m loc (suc y.index) x.index y (omega arith) lt) b (formed_bound table wf x b e).0 in
      let at : of_var m table x ≡ m (by_bounds m table x.index) b = ap (of_bound (m (by_bounds m table x.index))) e in
      omega arith

  -- and is less deep
  pub bound_deepness : (x : VarId) (b : Ty) → bound_of table x ≡ Some b → deepness_of table b + 1 ≤ deepness_of table (variable x)
  unfolding deepness_of
  bound_deepness x b e = omega (arith, bound_le deep deep_local x b e)

  -- and weighs less
  pub bound_weight : (x : VarId) (b : Ty) → bound_of table x ≡ Some b → weight_of table b + 1 ≤ weight_of table (variable x)
  unfolding weight_of
  bound_weight x b e = omega (arith, bound_le weight weight_local x b e)
