use Rattle.std.proofs.Common.{◌≡◌, ◌≤◌, List, refl, sym, ap, subst, arith}
use Rattle.dart_types.specs.Ty.{Ty, nullable}
use Rattle.dart_types.specs.Heads.{object}
use Rattle.dart_types.specs.Normal.{substituted}
use Rattle.dart_types.specs.Sizes.{size_of}
use Rattle.dart_types.specs.Sub.{Sub, right_top}
use Rattle.dart_types.specs.Tables.{Table}
use Rattle.dart_types.specs.declared.ids.VarId.{VarId}
use Rattle.dart_types.specs.declared.refusal.TheConstants.{NODE_LIMIT}
use Rattle.type_infer.specs.Inference.{bound_with, declared_bound}
use Rattle.type_infer.specs.Promotions.{unpromoted}
use Rattle.type_infer.proofs.bounds.within_bound.Goals as goal

-- all is within the bound `Object?`
all_within : (table : Table) (before : List (VarId × Ty)) (x : VarId) (t : Ty) → declared_bound table x ≡ nullable object → (size_of (bound_with table before x) ≤ NODE_LIMIT) × Sub table t (bound_with table before x)
all_within table before x t e =
    let is : nullable object ≡ bound_with table before x = ap (substituted before) (sym e) in
    subst (λ (b : Ty). (size_of b ≤ NODE_LIMIT) × Sub table t b) is (omega arith, right_top refl)

pub returns-then-is_unbounded : goal.returns-then-is_unbounded
returns-then-is_unbounded c =
    let within = all_within c.args.rows.now.table c.args.before.now c.args.param (unpromoted c.args.solved.now) (c.is_unbounded.ensures.0 c.if-is_unbounded.true) in
    (c.in_ok-read.ensures, within.0, within.1)
