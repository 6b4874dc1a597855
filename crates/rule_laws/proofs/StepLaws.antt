-- What the steps go by: the laws of flow models, over the rows of a table that leave nothing out.
use Rattle.std.specs.Prelude.{◌≡◌, true, IsNone, List, [], ◌∷◌, ◌++◌}
use Rattle.dart_types.specs.Ty.{Ty}
use Rattle.dart_types.specs.Same.{same_type}
use Rattle.dart_types.specs.Tables.{Table}
use Rattle.flow_model.specs.Flow.{FlowModel, IsInOrder, PromotesNoCaptured, at_local, declare_of, end_of, facts_of}
use Rattle.flow_model.specs.Assign.{assign_facts}
use Rattle.flow_model.specs.Promote.{non_null_facts}
use Rattle.flow_model.specs.Steps.{conservative_of, exit_of}
use Rattle.flow_model.specs.Join.{HaveSameScope, join_of, scope_of}
use Rattle.flow_model.specs.Order.{Implies}
use Rattle.flow_model.specs.Chains.{HasDescendingChains}
use Rattle.flow_model.specs.declared.locals.LocalDecl.{LocalDecl}
use Rattle.flow_model.specs.declared.locals.LocalId.{LocalId}

-- which locals are in scope
pub record ScopeLaws (table : Table) : Type 0 where
  pub at_end : (m n : FlowModel) (vars : List LocalId) → HaveSameScope m n → HaveSameScope (end_of m vars) (end_of n vars)
  pub at_test : (m : FlowModel) (var : LocalId) → scope_of (at_local m var (non_null_facts table)) ≡ scope_of m
  pub at_write : (m : FlowModel) (var : LocalId) (written : Ty) → scope_of (at_local m var (assign_facts table written)) ≡ scope_of m
  pub at_loop : (m : FlowModel) (written captured : List LocalId) → scope_of (conservative_of m written captured) ≡ scope_of m
  pub at_join : (m n : FlowModel) → HaveSameScope m n → scope_of (join_of m n) ≡ scope_of m
  pub undone : (m : FlowModel) (local : LocalDecl) → IsInOrder m.locals → IsNone (facts_of m local.var) → end_of (declare_of m local) (local.var ∷ []) ≡ m

-- that each type that a local is promoted to is a subtype of the one before
pub record ChainLaws (table : Table) : Type 0 where
  pub at_declaration : (m : FlowModel) (local : LocalDecl) → HasDescendingChains table m → HasDescendingChains table (declare_of m local)
  pub at_end : (m : FlowModel) (vars : List LocalId) → HasDescendingChains table m → HasDescendingChains table (end_of m vars)
  pub at_test : (m : FlowModel) (var : LocalId) → HasDescendingChains table m → HasDescendingChains table (at_local m var (non_null_facts table))
  pub at_write : (m : FlowModel) (var : LocalId) (written : Ty) → HasDescendingChains table m → HasDescendingChains table (at_local m var (assign_facts table written))
  pub at_loop : (m : FlowModel) (written captured : List LocalId) → HasDescendingChains table m → HasDescendingChains table (conservative_of m written captured)
  pub at_join : (a b : FlowModel) → HasDescendingChains table a → HasDescendingChains table b → HasDescendingChains table (join_of a b)

-- which model says as much as which
pub record OrderLaws (table : Table) : Type 0 where
  pub reflexive : (a : FlowModel) → Implies a a
  pub transitive : (a b c : FlowModel) → Implies a b → Implies b c → Implies a c
  pub at_end : (a b : FlowModel) (vars : List LocalId) → Implies a b → Implies (end_of a vars) (end_of b vars)
  pub at_loop : (a b : FlowModel) (written captured : List LocalId) → Implies a b → Implies (conservative_of a written captured) (conservative_of b written captured)
  pub at_join : (a b k : FlowModel) → HaveSameScope a b → PromotesNoCaptured k → Implies a k → Implies b k → Implies (join_of a b) k
  pub at_test : (m : FlowModel) (var : LocalId) → Implies (at_local m var (non_null_facts table)) m
  pub at_write : (m : FlowModel) (var : LocalId) (written : Ty) → Implies (at_local m var (assign_facts table written)) (conservative_of m (var ∷ []) [])
  pub at_code : (m : FlowModel) (written captured : List LocalId) → Implies m (conservative_of m written captured)
  pub at_exit : (m k : FlowModel) → Implies (exit_of m) k
  pub added : (m : FlowModel) (written captured more_written more_captured : List LocalId) → conservative_of (conservative_of m written captured) more_written more_captured ≡ conservative_of m (written ++ more_written) (captured ++ more_captured)

-- all of them, and that the test of types holds at equal ones alone
pub record StepLaws (table : Table) : Type 0 where
  pub scopes : ScopeLaws table
  pub chains : ChainLaws table
  pub order : OrderLaws table
  pub same : (s t : Ty) → same_type s t ≡ true → s ≡ t
