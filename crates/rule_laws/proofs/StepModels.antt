-- What each change of a flow model does to a step.
use Rattle.std.proofs.Common.{◌≡◌, Bool, true, false, List, [], ◌∷◌, ◌++◌, refl, sym, subst, ◌∙◌, inl, inr}
use Rattle.std.specs.Prelude.{◌||◌, IsNone}
use Rattle.std.proofs.lemmas.Bool.{or_cases}
use Rattle.std.proofs.lemmas.List.Folds.{list_any-append}
use Rattle.dart_types.specs.Ty.{Ty}
use Rattle.dart_types.specs.Tables.{Table}
use Rattle.flow_model.specs.Flow.{FlowModel, at_local, declare_of, end_of, facts_of, is_listed}
use Rattle.flow_model.specs.Assign.{assign_facts}
use Rattle.flow_model.specs.Promote.{non_null_facts}
use Rattle.flow_model.specs.Steps.{conservative_of, exit_of}
use Rattle.flow_model.specs.Join.{HaveSameScope, join_of}
use Rattle.flow_model.specs.Order.{Implies}
use Rattle.flow_model.specs.Chains.{HasDescendingChains}
use Rattle.flow_model.specs.declared.locals.LocalDecl.{LocalDecl}
use Rattle.flow_model.specs.declared.locals.LocalId.{LocalId}
use Rattle.rule_laws.specs.Plain.{IsPlain, IsPlainType}
use Rattle.rule_laws.specs.Steps.{IsStep}
use Rattle.rule_laws.proofs.PlainLocals.{ArePlain, declared_plain, ended_plain, forgotten_plain, joined_plain, non_null_plain, promotes_no_captured, write_plain}
use Rattle.rule_laws.proofs.StepLaws.{StepLaws}
use Rattle.rule_laws.proofs.StepLists.{conservative_alike, declared_order, end_of-append, end_of-at_local, end_of-conservative, end_of-none, ended_order, order_of_scope}

-- the locals of the first list are in the second
abbrev pub AreWithin : List LocalId → List LocalId → Type 0
AreWithin v w = (var : LocalId) → is_listed v var ≡ true → is_listed w var ≡ true

-- the second of two is enough
or_true : (a b : Bool) → b ≡ true → (a || b) ≡ true
or_true true b h = refl
or_true false b h = h

-- of lists of which one is in the other, both together are as much as the other
absorbed_at : (a b : Bool) → (a ≡ true → b ≡ true) → (a || b) ≡ b
absorbed_at true b h = sym (h refl)
absorbed_at false b h = refl

-- as lists
absorbed : (v w : List LocalId) → AreWithin v w → (var : LocalId) → is_listed (v ++ w) var ≡ is_listed w var
absorbed v w within var = list_any-append _ v w ∙ absorbed_at (is_listed v var) (is_listed w var) (within var)

-- what is in a list is in it with more behind it
pub within_left : (v w : List LocalId) → AreWithin v (v ++ w)
within_left v w var h = rw (list_any-append _ v w, h) refl

-- or before it
pub within_right : (v w : List LocalId) → AreWithin w (v ++ w)
within_right v w var h = rw (list_any-append _ v w) (or_true (is_listed v var) (is_listed w var) h)

-- of two lists that are in one, both together are
pub within_both : (u v w : List LocalId) → AreWithin u w → AreWithin v w → AreWithin (u ++ v) w
within_both u v w first second var h = elim (or_cases (is_listed u var) (is_listed v var) (sym (list_any-append _ u v) ∙ h)) [
  | inl is ↦ first var is
  | inr is ↦ second var is
]

-- what is in a list is in one that has that one in it
pub within_within : (u v w : List LocalId) → AreWithin u v → AreWithin v w → AreWithin u w
within_within u v w first second var h = second var (first var h)

module _ (table : Table) (laws : StepLaws table) where
  -- Plain models.

  -- a model of the scope of a plain one is in order
  plain_by_scope : (a m : FlowModel) → HaveSameScope a m → IsPlain table m → ArePlain a → HasDescendingChains table a → IsPlain table a
  plain_by_scope a m same plain all chains = record { in_order = order_of_scope a m same plain.in_order; plain = all; descending = chains }

  -- one with a new local
  pub declared_is_plain : (m : FlowModel) (local : LocalDecl) → IsPlainType local.ty → IsPlain table m → IsPlain table (declare_of m local)
  declared_is_plain m local of_type plain = record {
    in_order = declared_order m local plain.in_order;
    plain = declared_plain m local of_type plain.plain;
    descending = laws.chains.at_declaration m local plain.descending;
  }

  -- one with a written local
  pub written_is_plain : (m : FlowModel) (var : LocalId) (written : Ty) → IsPlain table m → IsPlain table (at_local m var (assign_facts table written))
  written_is_plain m var written plain =
      plain_by_scope (at_local m var (assign_facts table written)) m (laws.scopes.at_write m var written) plain (write_plain table laws.same m var written plain.plain) (laws.chains.at_write m var written plain.descending)

  -- one at the head of a loop
  pub head_is_plain : (m : FlowModel) (written : List LocalId) → IsPlain table m → IsPlain table (conservative_of m written [])
  head_is_plain m written plain =
      plain_by_scope (conservative_of m written []) m (laws.scopes.at_loop m written []) plain (forgotten_plain m written plain.plain) (laws.chains.at_loop m written [] plain.descending)

  -- one behind a scope
  ended_is_plain : (m : FlowModel) (vars : List LocalId) → IsPlain table m → IsPlain table (end_of m vars)
  ended_is_plain m vars plain = record {
    in_order = ended_order m vars plain.in_order;
    plain = ended_plain m vars plain.plain;
    descending = laws.chains.at_end m vars plain.descending;
  }

  -- Steps.

  -- nothing happens
  pub step_none : (m : FlowModel) (w : List LocalId) → IsPlain table m → IsStep table m m w
  step_none m w plain = record { same_scope = refl; plain = plain; says = laws.order.at_code m w [] }

  -- what follows isn't reached
  pub step_exit : (m a : FlowModel) (w : List LocalId) → IsStep table m a w → IsStep table m (exit_of a) w
  step_exit m a w step = record {
    same_scope = step.same_scope;
    plain = record { in_order = step.plain.in_order; plain = step.plain.plain; descending = step.plain.descending };
    says = laws.order.at_exit a (conservative_of m w []);
  }

  -- what writes more says less
  forgets_more : (m : FlowModel) (v w : List LocalId) → AreWithin v w → Implies (conservative_of m v []) (conservative_of m w [])
  forgets_more m v w within =
      let P : FlowModel → Type 0 = λ k. Implies (conservative_of m v []) k in
      subst P (laws.order.added m v [] w [] ∙ conservative_alike (v ++ w) w (absorbed v w within) m) (laws.order.at_code (conservative_of m v []) w [])

  -- what a loop may write is forgotten once
  pub forgets_once : (m : FlowModel) (w : List LocalId) → conservative_of (conservative_of m w []) w [] ≡ conservative_of m w []
  forgets_once m w = laws.order.added m w [] w [] ∙ conservative_alike (w ++ w) w (absorbed w w (λ var h. h)) m

  -- a step that writes some is one that writes more
  pub step_within : (m a : FlowModel) (v w : List LocalId) → AreWithin v w → IsStep table m a v → IsStep table m a w
  step_within m a v w within step = record {
    same_scope = step.same_scope;
    plain = step.plain;
    says = laws.order.transitive a (conservative_of m v []) (conservative_of m w []) step.says (forgets_more m v w within);
  }

  -- one step after another
  pub step_then : (m a b : FlowModel) (v w : List LocalId) → IsStep table m a v → IsStep table a b w → IsStep table m b (v ++ w)
  step_then m a b v w first second =
      let P : FlowModel → Type 0 = λ k. Implies (conservative_of a w []) k in
      record {
        same_scope = second.same_scope ∙ first.same_scope;
        plain = second.plain;
        says =
            laws.order.transitive b (conservative_of a w []) (conservative_of m (v ++ w) []) second.says
            (subst P (laws.order.added m v [] w []) (laws.order.at_loop a (conservative_of m v []) w [] first.says));
      }

  -- two paths meet
  pub step_join : (m a b : FlowModel) (w : List LocalId) → IsPlain table m → IsStep table m a w → IsStep table m b w → IsStep table m (join_of a b) w
  step_join m a b w plain first second =
      let same : HaveSameScope a b = first.same_scope ∙ sym second.same_scope in
      record {
        same_scope = laws.scopes.at_join a b same ∙ first.same_scope;
        plain = plain_by_scope (join_of a b) a (laws.scopes.at_join a b same) first.plain (joined_plain a b first.plain.plain second.plain.plain) (laws.chains.at_join a b first.plain.descending second.plain.descending);
        says = laws.order.at_join a b (conservative_of m w []) same (promotes_no_captured (conservative_of m w []) (forgotten_plain m w plain.plain)) first.says second.says;
      }

  -- a local isn't null
  pub step_test : (m a : FlowModel) (w : List LocalId) (var : LocalId) → IsStep table m a w → IsStep table m (at_local a var (non_null_facts table)) w
  step_test m a w var step =
      let tested = at_local a var (non_null_facts table) in
      record {
        same_scope = laws.scopes.at_test a var ∙ step.same_scope;
        plain = plain_by_scope tested a (laws.scopes.at_test a var) step.plain (non_null_plain table a var step.plain.plain) (laws.chains.at_test a var step.plain.descending);
        says = laws.order.transitive tested a (conservative_of m w []) (laws.order.at_test a var) step.says;
      }

  -- a local is written
  pub step_write : (m a : FlowModel) (w : List LocalId) (var : LocalId) (written : Ty) → IsStep table m a w → IsStep table m (at_local a var (assign_facts table written)) (w ++ var ∷ [])
  step_write m a w var written step =
      step_then m a (at_local a var (assign_facts table written)) w (var ∷ []) step (record {
        same_scope = laws.scopes.at_write a var written;
        plain = written_is_plain a var written step.plain;
        says = laws.order.at_write a var written;
      })

  -- a scope ends at both
  pub step_end : (m a : FlowModel) (w vars : List LocalId) → IsStep table m a w → IsStep table (end_of m vars) (end_of a vars) w
  step_end m a w vars step =
      let P : FlowModel → Type 0 = λ k. Implies (end_of a vars) k in
      record {
        same_scope = laws.scopes.at_end a m vars step.same_scope;
        plain = ended_is_plain a vars step.plain;
        says = subst P (end_of-conservative m w vars) (laws.order.at_end a (conservative_of m w []) vars step.says);
      }

  -- two statements, one after another, once what both declare is out of scope
  pub step_both : (m a b : FlowModel) (v w vars more : List LocalId) → IsStep table m (end_of a vars) v → IsStep table a (end_of b more) w → IsStep table m (end_of b (vars ++ more)) (v ++ w)
  step_both m a b v w vars more first second =
      let P : FlowModel → Type 0 = λ k. IsStep table m k (v ++ w) in
      subst P (end_of-append b vars more) (step_then m (end_of a vars) (end_of (end_of b more) vars) v w first (step_end a (end_of b more) w vars second))

  -- a statement that declares nothing
  pub step_alone : (m a : FlowModel) (w : List LocalId) → IsStep table m a w → IsStep table m (end_of a []) w
  step_alone m a w step = let P : FlowModel → Type 0 = λ k. IsStep table m k w in subst P (sym (end_of-none a)) step

  -- a scope that declares nothing
  pub step_closed : (m a : FlowModel) (w : List LocalId) → IsStep table m (end_of a []) w → IsStep table m a w
  step_closed m a w step = let P : FlowModel → Type 0 = λ k. IsStep table m k w in subst P (end_of-none a) step

  -- a local comes into scope
  pub step_declare : (m a : FlowModel) (w : List LocalId) (local : LocalDecl) → IsNone (facts_of a local.var) → IsStep table m a w → IsStep table m (end_of (declare_of a local) (local.var ∷ [])) w
  step_declare m a w local absent step =
      let P : FlowModel → Type 0 = λ k. IsStep table m k w in
      subst P (sym (laws.scopes.undone a local step.plain.in_order absent)) step

  -- with a value
  pub step_initialize : (m a : FlowModel) (w : List LocalId) (local : LocalDecl) (written : Ty) → IsNone (facts_of a local.var) → IsStep table m a w → IsStep table m (end_of (at_local (declare_of a local) local.var (assign_facts table written)) (local.var ∷ [])) w
  step_initialize m a w local written absent step =
      let P : FlowModel → Type 0 = λ k. IsStep table m k w in
      subst P (sym (end_of-at_local (declare_of a local) local.var (assign_facts table written) (λ l. refl))) (step_declare m a w local absent step)
