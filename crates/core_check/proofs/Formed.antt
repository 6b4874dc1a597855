-- What the tests of well-formed programs show.
use Rattle.std.proofs.Common.{◌≡◌, ℕ, ◌+◌, ◌<◌, List, length, Some, sym, ◌∙◌, subst, arith, inl, inr}
use Rattle.std.specs.Prelude.{slice_get}
use Rattle.std.proofs.lemmas.Bool.{cases_eq}
use Rattle.core_ir.specs.Program.{Function, Program}
use Rattle.core_ir.specs.declared.points.Point.{Point}
use Rattle.core_check.specs.Known.{function_at}
use Rattle.core_check.specs.Shapes.{TermShape, shape}
use Rattle.core_check.specs.WellFormed.{HasPointParts, IsPointOf}

same_some : {X : Type 0} (x y : X) → Some x ≡ Some y → x ≡ y
same_some x y e = cc

-- what holds of the items before a place and of the one there
pub one_further : {X : Type 0} (P : ℕ → X → Type 0) (xs : List X) (i : ℕ) (x : X) → slice_get xs i ≡ Some x → ((k : ℕ) (y : X) → k < i → slice_get xs k ≡ Some y → P k y) → P i x → (k : ℕ) (y : X) → k < i + 1 → slice_get xs k ≡ Some y → P k y
one_further P xs i x at before here k y below is = elim (cases_eq k i) [
  | inl same ↦
      (let there : slice_get xs i ≡ Some y = subst (λ n. slice_get xs n ≡ Some y) same is in
      let equal = same_some x y (sym at ∙ there) in
      subst (λ n. P n y) (sym same) (subst (P i) equal here))
  | inr apart ↦ before k y (omega arith) is
]

-- a point is well formed just where its function has its parts
pub point_parts : (p : Program) (k : ℕ) (point : Point) (g : Function) (s : TermShape) → point.function.0 < length p.functions → g ≡ function_at p point.function.0 → s ≡ shape point.term → (HasPointParts p k point g s → IsPointOf p k point) × (IsPointOf p k point → HasPointParts p k point g s)
point_parts p k point g s inside same of =
    subst (λ (h : Function). (HasPointParts p k point h s → IsPointOf p k point) × (IsPointOf p k point → HasPointParts p k point h s)) (sym same)
    (subst (λ (t : TermShape). (HasPointParts p k point (function_at p point.function.0) t → IsPointOf p k point) × (IsPointOf p k point → HasPointParts p k point (function_at p point.function.0) t)) (sym of) (
      λ parts. record { function_in = inside; listed_in = parts.listed_in; shape_in = parts.shape_in; moves_on = parts.moves_on },
      λ is. record { listed_in = is.listed_in; shape_in = is.shape_in; moves_on = is.moves_on },
    ))
