-- One more type behind others.
use Rattle.std.proofs.Common.{◌≡◌, ℕ, ◌+◌, ◌-◌, ◌^◌, ◌<◌, ◌≤◌, min, List, [], ◌∷◌, ◌++◌, Option, Some, None, refl, sym, ◌∙◌, ap, arith}
use Rattle.dart_types.specs.Ty.{Ty, Types, no_more, more, types_of, join}
use Rattle.dart_types.specs.Sizes.{size_of, sizes_of, held}
use Rattle.dart_types.specs.declared.refusal.TheConstants.{NODE_LIMIT}
use Rattle.type_bounds.specs.PartsView.{IsFormed, AreFormed}

pub sizes-with : (ts : Types) (t : Ty) → sizes_of (join ts (more t no_more)) ≡ sizes_of ts + size_of t
sizes-with no_more t = omega arith
sizes-with (more s ts) t = omega (arith, sizes-with ts t)

pub types_of-with : (xs : List Ty) (t : Ty) → types_of (xs ++ (t ∷ [])) ≡ join (types_of xs) (more t no_more)
types_of-with [] t = refl
types_of-with (x ∷ xs) t = ap (more x) (types_of-with xs t)

pub held_sum : (n a b x y z : ℕ) → n ≡ min (a + b) (2 ^ 64 - 1) → a ≡ held x → b ≡ held y → z ≡ x + y → n ≡ held z
held_sum n a b x y z e f g h = omega arith

-- the count of all
pub nodes-with : (n a b : ℕ) (ts : Types) (t : Ty) → n ≡ min (a + b) (2 ^ 64 - 1) → a ≡ held (sizes_of ts) → b ≡ held (size_of t) → n ≡ held (sizes_of (join ts (more t no_more)))
nodes-with n a b ts t e f g = held_sum n a b (sizes_of ts) (size_of t) (sizes_of (join ts (more t no_more))) e f g (sizes-with ts t)

-- they are too many where the first are, or the last alone, or both together
pub first_too_many : (o : Option (List Ty)) (ts : Types) (t : Ty) → o ≡ None → AreFormed o ts → NODE_LIMIT < sizes_of (join ts (more t no_more))
first_too_many None ts t e f = omega (arith, f, sizes-with ts t)
first_too_many (Some xs) ts t e f = cc

pub last_too_large : (o : Option Ty) (ts : Types) (t : Ty) → o ≡ None → IsFormed o t → NODE_LIMIT < sizes_of (join ts (more t no_more))
last_too_large None ts t e f = omega (arith, f, sizes-with ts t)
last_too_large (Some u) ts t e f = cc

pub held_over : (n k : ℕ) → n ≡ held k → NODE_LIMIT < n → NODE_LIMIT < k
held_over n k e lt = omega arith

pub held_under : (n k : ℕ) → n ≡ held k → n ≤ NODE_LIMIT → k ≤ NODE_LIMIT
held_under n k e le = omega arith

pub formed_types : (o : Option (List Ty)) (xs : List Ty) (ts : Types) → o ≡ Some xs → AreFormed o ts → types_of xs ≡ ts
formed_types None xs ts e f = cc
formed_types (Some ys) xs ts e f = let is : ys ≡ xs = cc in ap types_of (sym is) ∙ f.0

pub formed_type : (o : Option Ty) (u t : Ty) → o ≡ Some u → IsFormed o t → u ≡ t
formed_type None u t e f = cc
formed_type (Some v) u t e f = let is : v ≡ u = cc in sym is ∙ f.0

pub formed-with : (xs ys : List Ty) (u t : Ty) (ts : Types) → ys ≡ xs ++ (u ∷ []) → types_of xs ≡ ts → u ≡ t → types_of ys ≡ join ts (more t no_more)
formed-with xs ys u t ts e f g =
    ap types_of e ∙ (types_of-with xs u ∙ (ap (λ (vs : Types). join vs (more u no_more)) f ∙ ap (λ (v : Ty). join ts (more v no_more)) g))
