-- What the proofs of this crate go by: a function with the sources of its code, and the laws of the crates below.
use Rattle.std.specs.Prelude.{◌≡◌, ◌≢◌, ℕ, true, nat_eq, List, [], All, if◌then◌else◌, Some}
use Rattle.std.specs.Option.{option_map}
use Rattle.dart_types.specs.FormedTable.{FormedTable}
use Rattle.dart_types.specs.Ty.{Ty}
use Rattle.dart_types.specs.Sub.{Sub}
use Rattle.dart_types.specs.Laws.{RowLaws}
use Rattle.dart_types.specs.Superinterfaces.{LeavesNothingOut}
use Rattle.flow_model.specs.Flow.{FlowModel, facts_of, at_local, declare_of, end_of, fresh_facts}
use Rattle.flow_model.specs.Assign.{assign_facts}
use Rattle.flow_model.specs.Join.{join_of, HaveSameScope}
use Rattle.flow_model.specs.Order.{Implies}
use Rattle.flow_model.specs.declared.locals.Facts.{Facts}
use Rattle.flow_model.specs.declared.locals.LocalDecl.{LocalDecl}
use Rattle.flow_model.specs.declared.locals.LocalId.{LocalId}
use Rattle.core_ir.specs.Program.{Function}
use Rattle.core_ir.specs.PointFacts.{put}
use Rattle.core_ir.specs.declared.facts.SlotFact.{SlotFact}
use Rattle.core_check.specs.Known.{known_in}
use Rattle.dart_tree.specs.Tree.{Tree, Trees, Part}
use Rattle.dart_tree.specs.declared.places.Place.{Place}
use Rattle.judgement.specs.declared.meaning.Meaning.{Meaning}
use Rattle.judgement.specs.Surroundings.{Names, Surroundings}
use Rattle.judgement.specs.DeclaredNames.{names_declared, names_in, within}
use Rattle.judgement.specs.Judgement.{run}
use Rattle.built_forms.specs.Forms.{are_statements, is_block}
use Rattle.rule_laws.specs.Plain.{HidesNothing}
use Rattle.rule_laws.specs.Steps.{BlockSteps, BranchSteps, ConditionSteps, LoopTurns, StatementSteps, ValueSteps}
use Rattle.elaborate.specs.Sources.{Sources}

-- the rows, the function, the sources of its code, and what words mean outside of it
pub record Setting : Type 0 where
  pub rows : FormedTable
  pub g : Function
  pub x : Sources
  pub outside : List Meaning

-- the surroundings of a form, by the locals in scope
abbrev pub around : Setting → Names → Surroundings
around c names = record { table = c.rows.table; words = c.x.words; outside = c.outside; names = names }

-- the laws of rows, of flow models and of facts
pub record Laws (c : Setting) : Type 0 where
  pub types : RowLaws c.rows.table
  pub out : LeavesNothingOut c.rows.table
  pub put_tells : (facts : List SlotFact) (fact : SlotFact) (i : ℕ) → known_in (put facts fact) i ≡ (if nat_eq fact.slot.0 i then fact.known else known_in facts i)
  pub changed : (m : FlowModel) (var : LocalId) (change : Facts → Facts) → ((l : Facts) → (change l).var.0 ≡ l.var.0) → facts_of (at_local m var change) var ≡ option_map change (facts_of m var)
  pub unchanged : (m : FlowModel) (var : LocalId) (change : Facts → Facts) → ((l : Facts) → (change l).var.0 ≡ l.var.0) → (other : LocalId) → other.0 ≢ var.0 → facts_of (at_local m var change) other ≡ facts_of m other
  pub declared : (m : FlowModel) (local : LocalDecl) → facts_of (declare_of m local) local.var ≡ Some (fresh_facts local)
  pub undeclared : (m : FlowModel) (local : LocalDecl) (other : LocalId) → other.0 ≢ local.var.0 → facts_of (declare_of m local) other ≡ facts_of m other
  pub written : (ty : Ty) (l : Facts) → All (λ (t : Ty). Sub c.rows.table ty t) (assign_facts c.rows.table ty l).chain
  pub reflexive : (a : FlowModel) → Implies a a
  pub first_joins : (a b : FlowModel) → HaveSameScope a b → Implies a (join_of a b)
  pub second_joins : (a b : FlowModel) → HaveSameScope a b → Implies b (join_of a b)
  pub ends : (m : FlowModel) (vars : List LocalId) → Implies m (end_of m vars)
  pub assigned : (m : FlowModel) (var : LocalId) (ty : Ty) → HaveSameScope (at_local m var (assign_facts c.rows.table ty)) m
  pub values : (names : Names) (tree : Tree) → ValueSteps (around c names) tree
  pub conditions : (names : Names) (tree : Tree) → ConditionSteps (around c names) tree
  pub statements : (names : Names) (tree : Tree) → StatementSteps (around c names) tree
  pub blocks : (names : Names) (tree : Tree) → BlockSteps (around c names) tree
  pub branches : (names : Names) (part : Part) → BranchSteps (around c names) part
  pub loops : (names : Names) (at : Place) (condition body : Tree) → LoopTurns (around c names) at condition body
  pub hides_block : (names : Names) (statements : Trees) → HidesNothing (around c names) → are_statements c.outside statements ≡ true → HidesNothing (within (around c names) (names_in statements))
  pub hides_branch : (names : Names) (tree : Tree) → HidesNothing (around c names) → is_block c.outside tree ≡ true → HidesNothing (within (around c names) (names_declared tree))
  pub jumps : (names : Names) (tree : Tree) (m : FlowModel) → (run (around c names) tree m).jumps ≡ []
