-- No step promotes a captured local.
use Rattle.std.proofs.Common.{Bool, true, false, List, [], ◌∷◌, if◌then◌else◌, refl}
use Rattle.std.specs.Prelude.{◌||◌, All}
use Rattle.dart_types.specs.Ty.{Ty}
use Rattle.dart_types.specs.Tables.{Table}
use Rattle.flow_model.specs.Flow.{FlowModel, IsUnpromotedIfCaptured, PromotesNoCaptured, is_listed, at_local, current_of, declare_of, start_of, end_of}
use Rattle.flow_model.specs.TypeTests.{union_of}
use Rattle.flow_model.specs.Promote.{promoted_facts, tested_as, promote_facts, without_null_of, non_null_facts, below_current, append_facts}
use Rattle.flow_model.specs.Assign.{assign_facts}
use Rattle.flow_model.specs.Steps.{is_changed, conservative_facts, conservative_of}
use Rattle.flow_model.specs.Join.{join_facts, join_locals, join_of}
use Rattle.flow_model.specs.Restrict.{restrict_facts, restrict_of}
use Rattle.flow_model.specs.declared.locals.LocalId.{LocalId}
use Rattle.flow_model.specs.declared.locals.LocalDecl.{LocalDecl}
use Rattle.flow_model.specs.declared.locals.Facts.{Facts}
use Rattle.flow_model.proofs.Kept as kept

-- either of two facts that are so
unpromoted-if : (b : Bool) (l m : Facts) → IsUnpromotedIfCaptured l → IsUnpromotedIfCaptured m → IsUnpromotedIfCaptured (if b then l else m)
unpromoted-if true l m first second = first
unpromoted-if false l m first second = second

-- a write
unpromoted-assign : (table : Table) (written : Ty) (l : Facts) → IsUnpromotedIfCaptured l → IsUnpromotedIfCaptured (assign_facts table written l)
unpromoted-assign table written l before = λ captured. rw (before captured, captured) refl

-- a promotion
unpromoted-promoted : (types : List Ty) (l : Facts) → IsUnpromotedIfCaptured l → IsUnpromotedIfCaptured (promoted_facts types l)
unpromoted-promoted types l before = λ captured. rw (before captured, captured) refl

-- what code could change
unpromoted-conservative : (written captured : List LocalId) (l : Facts) → IsUnpromotedIfCaptured l → IsUnpromotedIfCaptured (conservative_facts written captured l)
unpromoted-conservative written captured l before =
    unpromoted-if (is_changed written captured l.var) (record l { chain = []; unassigned = false; captured = l.captured || is_listed captured l.var }) l (λ _. refl) before

-- two paths
unpromoted-join : (l m : Facts) → IsUnpromotedIfCaptured (join_facts l m)
unpromoted-join l m = λ captured. rw captured refl

-- a body and a block
unpromoted-restrict : (table : Table) (written captured : List LocalId) (l m : Facts) → IsUnpromotedIfCaptured (restrict_facts table written captured l m)
unpromoted-restrict table written captured l m = λ is. rw is refl

module _ (table : Table) (m : FlowModel) (var : LocalId) where
  -- a write of one local
  pub assign_keeps : (written : Ty) → PromotesNoCaptured m → PromotesNoCaptured (at_local m var (assign_facts table written))
  assign_keeps written =
      kept.at_local_keeps IsUnpromotedIfCaptured m var (assign_facts table written) (unpromoted-assign table written)

  -- a test of one local
  pub promote_keeps : (to : Ty) → PromotesNoCaptured m → PromotesNoCaptured (at_local m var (promote_facts table to))
  promote_keeps to =
      kept.at_local_keeps IsUnpromotedIfCaptured m var (promote_facts table to)
      (λ l before. unpromoted-promoted (tested_as table to (current_of l)) (record l { tested = union_of l.tested (to ∷ []) }) before)

  -- that one local isn't null
  pub non_null_keeps : PromotesNoCaptured m → PromotesNoCaptured (at_local m var (non_null_facts table))
  non_null_keeps =
      kept.at_local_keeps IsUnpromotedIfCaptured m var (non_null_facts table)
      (λ l before. unpromoted-promoted (without_null_of table (current_of l)) l before)

  -- that one local has a type
  pub append_keeps : (to : Ty) → PromotesNoCaptured m → PromotesNoCaptured (at_local m var (append_facts table to))
  append_keeps to =
      kept.at_local_keeps IsUnpromotedIfCaptured m var (append_facts table to)
      (λ l before. unpromoted-promoted (below_current table to (current_of l)) l before)

-- what code could change in the whole model
pub conservative_keeps : (m : FlowModel) (written captured : List LocalId) → PromotesNoCaptured m → PromotesNoCaptured (conservative_of m written captured)
conservative_keeps m written captured =
    kept.map_keeps IsUnpromotedIfCaptured (conservative_facts written captured) (unpromoted-conservative written captured) m.locals

-- a new local
pub declare_keeps : (m : FlowModel) (local : LocalDecl) → PromotesNoCaptured m → PromotesNoCaptured (declare_of m local)
declare_keeps = kept.declare_keeps IsUnpromotedIfCaptured (λ local captured. refl)

-- the start of a body
pub start_promotes_none : (vars : List LocalDecl) → PromotesNoCaptured (start_of vars)
start_promotes_none = kept.start_has IsUnpromotedIfCaptured (λ local captured. refl)

-- the end of a scope
pub end_keeps : (m : FlowModel) (vars : List LocalId) → PromotesNoCaptured m → PromotesNoCaptured (end_of m vars)
end_keeps = kept.end_keeps IsUnpromotedIfCaptured

-- where two paths meet
pub join_keeps : (a b : FlowModel) → PromotesNoCaptured a → PromotesNoCaptured b → PromotesNoCaptured (join_of a b)
join_keeps = kept.join_keeps IsUnpromotedIfCaptured (λ l m first second. unpromoted-join l m)

-- behind a body and a block
pub restrict_is_free : (table : Table) (a b : FlowModel) (written captured : List LocalId) → PromotesNoCaptured (restrict_of table a b written captured)
restrict_is_free table a b written captured =
    kept.paired_has IsUnpromotedIfCaptured (restrict_facts table written captured) (unpromoted-restrict table written captured) a.locals b.locals

-- where two reached paths meet
pub met_is_free : (ls ms : List Facts) → All IsUnpromotedIfCaptured (join_locals ls ms)
met_is_free = kept.paired_has IsUnpromotedIfCaptured join_facts unpromoted-join
