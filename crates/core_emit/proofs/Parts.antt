-- Parts one after another, and one behind them.
use Rattle.std.proofs.Common.{◌≡◌, ◌+◌, ◌*◌, ◌<◌, ◌≤◌, List, [], ◌∷◌, ◌++◌, length, refl, sym, ap, ◌∙◌, subst, arith}
use Rattle.core_ir.specs.declared.points.FunctionId.{FunctionId}
use Rattle.core_ir.specs.declared.points.Point.{Point}
use Rattle.core_ir.specs.declared.points.PointId.{PointId}
use Rattle.core_emit.specs.Code.{Code, in_order, height_of}
use Rattle.core_emit.specs.Emitted.{Made, made, emit, size_of}

-- the one behind is made first
pub emit-more : (id : FunctionId) (parts : List Code) (last : Code) (next : PointId) (old : List Point)
    → emit id (in_order (parts ++ last ∷ [])) next old ≡ emit id (in_order parts) (emit id last next old).entry (emit id last next old).points
emit-more id [] last next old = refl
emit-more id (part ∷ parts) last next old = ap (λ (after : Made). emit id part after.entry after.points) (emit-more id parts last next old)

-- it has the points that there are more
pub size-more : (parts : List Code) (last : Code) → size_of (in_order (parts ++ last ∷ [])) ≡ size_of (in_order parts) + size_of last
size-more [] last = omega arith
size-more (part ∷ parts) last = let rest = size-more parts last in omega arith

-- both are less deep than all together
pub height-more : (parts : List Code) (last : Code) → (height_of (in_order parts) ≤ height_of (in_order (parts ++ last ∷ []))) × (height_of last + 1 ≤ height_of (in_order (parts ++ last ∷ [])))
height-more [] last = (omega arith, omega arith)
height-more (part ∷ parts) last = let rest = height-more parts last in let kept = rest.0 in let fits = rest.1 in (omega arith, omega arith)

-- of parts that were to be made over points the last ones were: what is left goes on there
pub record IsLeft (id : FunctionId) (parts : List Code) (next : PointId) (old : List Point) (left : List Code) (entry : PointId) (points : List Point) : Type 0 where
  pub made : emit id (in_order left) entry points ≡ emit id (in_order parts) next old
  pub long : length points + size_of (in_order left) ≡ length old + size_of (in_order parts)
  pub less_deep : height_of (in_order left) ≤ height_of (in_order parts)

module _ (id : FunctionId) (parts : List Code) (next : PointId) (old : List Point) (left : List Code) (entry : PointId) (points : List Point) (is : IsLeft id parts next old left entry points) (rest : List Code) (part : Code) (last : left ≡ rest ++ part ∷ []) where
  -- the last part that is left is less deep, and there is room for its points
  pub last_falls : 2 * height_of part + 1 < 2 * height_of (in_order parts)
  last_falls =
      let both : height_of part + 1 ≤ height_of (in_order left) = subst (λ (ps : List Code). height_of part + 1 ≤ height_of (in_order ps)) (sym last) (height-more rest part).1 in
      let less = is.less_deep in
      omega arith

  pub last_fits : length points + size_of part ≤ length old + size_of (in_order parts)
  last_fits =
      let size : size_of (in_order left) ≡ size_of (in_order rest) + size_of part = ap (λ (ps : List Code). size_of (in_order ps)) last ∙ size-more rest part in
      let long = is.long in
      omega arith

  -- when it is made, the rest is left
  pub left_next : (entry' : PointId) (points' : List Point) → made points' entry' ≡ emit id part entry points → length points' ≡ length points + size_of part → IsLeft id parts next old rest entry' points'
  left_next entry' points' same more = record {
    made =
        ap (λ (m : Made). emit id (in_order rest) m.entry m.points) same
        ∙ (sym (emit-more id rest part entry points)
        ∙ (ap (λ (ps : List Code). emit id (in_order ps) entry points) (sym last)
        ∙ is.made));
    long =
        let size : size_of (in_order left) ≡ size_of (in_order rest) + size_of part = ap (λ (ps : List Code). size_of (in_order ps)) last ∙ size-more rest part in
        let long = is.long in
        omega arith;
    less_deep =
        let both : height_of (in_order rest) ≤ height_of (in_order left) = subst (λ (ps : List Code). height_of (in_order rest) ≤ height_of (in_order ps)) (sym last) (height-more rest part).0 in
        let less = is.less_deep in
        omega arith;
  }
