-- Which models imply which where two meet.
use Rattle.std.proofs.Common.{◌≡◌, Bool, true, false, nat_eq, map, List, [], ◌∷◌, if◌then◌else◌, Some, IsTrue, refl, sym, ap, subst, ◌∙◌}
use Rattle.std.specs.Prelude.{find}
use Rattle.std.proofs.lemmas.Bool.{and_parts}
use Rattle.dart_types.specs.Ty.{Ty}
use Rattle.dart_types.specs.Tables.{Table}
use Rattle.flow_model.specs.Flow.{FlowModel, is_of, facts_of, at_local, current_of, IsUnpromotedIfCaptured, PromotesNoCaptured}
use Rattle.flow_model.specs.Assign.{assign_facts}
use Rattle.flow_model.specs.Steps.{conservative_facts, conservative_of}
use Rattle.flow_model.specs.Join.{HaveSameScope, join_facts, join_locals, join_of}
use Rattle.flow_model.specs.Restrict.{restrict_facts, restrict_of}
use Rattle.flow_model.specs.Order.{SaysMore, Implies}
use Rattle.flow_model.specs.declared.locals.LocalId.{LocalId}
use Rattle.flow_model.specs.declared.locals.Facts.{Facts}
use Rattle.flow_model.proofs.Scopes.{with_locals}
use Rattle.flow_model.proofs.SameScope.{local_of, local-conservative}
use Rattle.flow_model.proofs.Pairs.{find-paired, paired_found}
use Rattle.flow_model.proofs.Found.{found_before, found-map, number_found, same_local, found_all}
use Rattle.flow_model.proofs.SaysMore.{and_true, write_says_more, conservative_keeps, first_says_more, second_says_more, join_says_more, restrict_says_more, restrict_keeps}
use Rattle.flow_model.proofs.Forgets.{written_alone}
use Rattle.flow_model.proofs.Captured.{met_is_free}
use Rattle.flow_model.proofs.Implied.{implies-refl, implies-trans, unreached_implies, mapped_implies, changes_imply, number_if}

-- the locals of two models of one scope that have a number have one declared type
same_types_at : (var : LocalId) (x y : Facts) (xs ys : List Facts) (l m : Facts) (b : Bool) → is_of var x ≡ b → is_of var y ≡ b → x.ty ≡ y.ty → (find (is_of var) xs ≡ Some l → find (is_of var) ys ≡ Some m → l.ty ≡ m.ty) → find (is_of var) (x ∷ xs) ≡ Some l → find (is_of var) (y ∷ ys) ≡ Some m → l.ty ≡ m.ty
same_types_at var x y xs ys l m true in_x in_y types more is_l is_m =
    let first : Some x ≡ Some l = rw in_x at is_l in
    let second : Some y ≡ Some m = rw in_y at is_m in
    let same_l : x ≡ l = cc in
    let same_m : y ≡ m = cc in
    ap (λ (f : Facts). f.ty) (sym same_l) ∙ (types ∙ ap (λ (f : Facts). f.ty) same_m)
same_types_at var x y xs ys l m false in_x in_y types more is_l is_m = more (rw in_x at is_l) (rw in_y at is_m)

-- along both lists
same_types : (var : LocalId) (xs ys : List Facts) → map local_of xs ≡ map local_of ys → (l m : Facts) → find (is_of var) xs ≡ Some l → find (is_of var) ys ≡ Some m → l.ty ≡ m.ty
same_types var [] ys same l m is_l is_m = cc
same_types var (x ∷ xs) [] same l m is_l is_m = cc
same_types var (x ∷ xs) (y ∷ ys) same l m is_l is_m =
    let first : local_of x ≡ local_of y = cc in
    let rest : map local_of xs ≡ map local_of ys = cc in
    let types : x.ty ≡ y.ty = ap (λ (local : LocalId × Ty). local.1) first in
    let in_y : is_of var y ≡ is_of var x = ap (λ (local : LocalId × Ty). nat_eq local.0.0 var.0) (sym first) in
    same_types_at var x y xs ys l m (is_of var x) refl in_y types (same_types var xs ys rest l m) is_l is_m

-- code that may change a local keeps its number
pub numbers_stay : (written captured : List LocalId) (l : Facts) → (conservative_facts written captured l).var.0 ≡ l.var.0
numbers_stay written captured l = ap (λ (local : LocalId × Ty). local.0.0) (local-conservative written captured l)

-- the model where two reached paths meet
abbrev pub met : FlowModel → FlowModel → FlowModel
met a b = with_locals true (join_locals a.locals b.locals)

-- a join of reached paths
join_is_met : (a b : FlowModel) → a.reachable ≡ true → b.reachable ≡ true → join_of a b ≡ met a b
join_is_met a b is_a is_b = rw (is_b, is_a) refl

-- a join of which the first path isn't reached
join_is_second : (a b : FlowModel) → a.reachable ≡ false → b.reachable ≡ true → join_of a b ≡ b
join_is_second a b is_a is_b = rw (is_b, is_a) refl

-- a join of which the second path isn't
join_is_first : (a b : FlowModel) → b.reachable ≡ false → join_of a b ≡ a
join_is_first a b is_b = rw is_b refl

-- a model implies one that is another
implies_is : (a b c : FlowModel) → c ≡ b → Implies a b → Implies a c
implies_is a b c same implies = let P : FlowModel → Type 0 = λ k. Implies a k in subst P (sym same) implies

-- a model that is another implies what that implies
is_implies : (a b c : FlowModel) → c ≡ a → Implies a b → Implies c b
is_implies a b c same implies = let P : FlowModel → Type 0 = λ k. Implies k b in subst P (sym same) implies

module _ (a b : FlowModel) (same : HaveSameScope a b) where
  -- both paths imply the model where they meet
  first_implies_met : Implies a (met a b)
  first_implies_met = record {
    reached = λ h. refl;
    locals = λ h v m is.
        let found = paired_found join_facts (λ x y. refl) v a.locals b.locals same m is in
        record {
          facts = found.one;
          known = found.one_is;
          says_more = subst (λ (n : Facts). SaysMore found.one n) found.made_is (first_says_more found.one found.other);
        };
  }

  -- the second
  second_implies_met : Implies b (met a b)
  second_implies_met = record {
    reached = λ h. refl;
    locals = λ h v m is.
        let found = paired_found join_facts (λ x y. refl) v a.locals b.locals same m is in
        let types = same_types v a.locals b.locals same found.one found.other found.one_is found.other_is in
        record {
          facts = found.other;
          known = found.other_is;
          says_more = subst (λ (n : Facts). SaysMore found.other n) found.made_is (second_says_more found.one found.other types);
        };
  }

  -- and it implies what both do
  met_implies : (k : FlowModel) → IsTrue a.reachable → IsTrue b.reachable → PromotesNoCaptured k → Implies a k → Implies b k → Implies (met a b) k
  met_implies k in_a in_b free first second = record {
    reached = λ h. first.reached in_a;
    locals = λ h v m is.
        let one = first.locals in_a v m is in
        let other = second.locals in_b v m is in
        record {
          facts = join_facts one.facts other.facts;
          known = find-paired join_facts (λ x y. refl) v a.locals b.locals same one.facts other.facts one.known other.known;
          says_more = join_says_more one.facts other.facts m (found_all IsUnpromotedIfCaptured k v m free is) one.says_more other.says_more;
        };
  }

  -- the step of the next lemma
  first_implies_join_at : (in_a in_b : Bool) → a.reachable ≡ in_a → b.reachable ≡ in_b → Implies a (join_of a b)
  first_implies_join_at in_a false is_a is_b = implies_is a a (join_of a b) (join_is_first a b is_b) (implies-refl a)
  first_implies_join_at false true is_a is_b = unreached_implies a (join_of a b) is_a
  first_implies_join_at true true is_a is_b =
      implies_is a (met a b) (join_of a b) (join_is_met a b is_a is_b) first_implies_met

  -- the first path implies the join
  pub first_implies_join : Implies a (join_of a b)
  first_implies_join = first_implies_join_at a.reachable b.reachable refl refl

  -- the step of the next lemma
  second_implies_join_at : (in_a in_b : Bool) → a.reachable ≡ in_a → b.reachable ≡ in_b → Implies b (join_of a b)
  second_implies_join_at in_a false is_a is_b = unreached_implies b (join_of a b) is_b
  second_implies_join_at false true is_a is_b =
      implies_is b b (join_of a b) (join_is_second a b is_a is_b) (implies-refl b)
  second_implies_join_at true true is_a is_b =
      implies_is b (met a b) (join_of a b) (join_is_met a b is_a is_b) second_implies_met

  -- and the second does
  pub second_implies_join : Implies b (join_of a b)
  second_implies_join = second_implies_join_at a.reachable b.reachable refl refl

  -- the step of the next lemma
  join_implies_at : (k : FlowModel) (in_a in_b : Bool) → a.reachable ≡ in_a → b.reachable ≡ in_b → PromotesNoCaptured k → Implies a k → Implies b k → Implies (join_of a b) k
  join_implies_at k in_a false is_a is_b free first second = is_implies a k (join_of a b) (join_is_first a b is_b) first
  join_implies_at k false true is_a is_b free first second =
      is_implies b k (join_of a b) (join_is_second a b is_a is_b) second
  join_implies_at k true true is_a is_b free first second =
      is_implies (met a b) k (join_of a b) (join_is_met a b is_a is_b) (met_implies k is_a is_b free first second)

  -- the join implies what both paths do
  pub join_implies : (k : FlowModel) → PromotesNoCaptured k → Implies a k → Implies b k → Implies (join_of a b) k
  join_implies k = join_implies_at k a.reachable b.reachable refl refl

module _ (table : Table) (written captured : List LocalId) where
  -- what is known behind both
  abbrev change : Facts → Facts → Facts
  change = restrict_facts table written captured

  module _ (a b : FlowModel) (same : HaveSameScope a b) where
    -- the model behind a body and a block implies what both do, around the block
    pub restrict_implies : (k : FlowModel) → PromotesNoCaptured k → Implies a k → Implies b (conservative_of k written captured) → Implies (restrict_of table a b written captured) (conservative_of k written captured)
    restrict_implies k free first second = record {
      reached = λ h. first.reached (and_parts a.reachable b.reachable h).0;
      locals = λ h v m is.
          let reached = and_parts a.reachable b.reachable h in
          let before = found_before (conservative_facts written captured) (facts_of k v) m (sym (found-map (conservative_facts written captured) (numbers_stay written captured) k.locals v) ∙ is) in
          let one = first.locals reached.0 v before.before before.is in
          let other = second.locals reached.1 v m is in
          let local = same_local (one.facts.var) (before.before.var) (number_found a v one.facts one.known ∙ sym (number_found k v before.before before.is)) in
          let says = restrict_says_more table written captured one.facts other.facts before.before local (found_all IsUnpromotedIfCaptured k v before.before free before.is) one.says_more (subst (λ (n : Facts). SaysMore other.facts n) (sym before.changed) other.says_more) in
          record {
            facts = change one.facts other.facts;
            known = find-paired change (λ x y. refl) v a.locals b.locals same one.facts other.facts one.known other.known;
            says_more = subst (λ (n : Facts). SaysMore (change one.facts other.facts) n) before.changed says;
          };
    }

    -- behind bodies that leave the same current types it keeps which model implies which
    pub restrict_keeps_order : (c d : FlowModel) → HaveSameScope c d → ((v : LocalId) (l m : Facts) → facts_of a v ≡ Some l → facts_of c v ≡ Some m → current_of l ≡ current_of m) → Implies a c → Implies b d → Implies (restrict_of table a b written captured) (restrict_of table c d written captured)
    restrict_keeps_order c d same_too currents first second = record {
      reached = λ h. let reached = and_parts a.reachable b.reachable h in and_true c.reachable d.reachable (first.reached reached.0) (second.reached reached.1);
      locals = λ h v m is.
          let reached = and_parts a.reachable b.reachable h in
          let found = paired_found change (λ x y. refl) v c.locals d.locals same_too m is in
          let one = first.locals reached.0 v found.one found.one_is in
          let other = second.locals reached.1 v found.other found.other_is in
          let local = same_local (one.facts.var) (found.one.var) (number_found a v one.facts one.known ∙ sym (number_found c v found.one found.one_is)) in
          let says = restrict_keeps table written captured one.facts other.facts found.one found.other local (currents v one.facts found.one one.known found.one_is) one.says_more other.says_more in
          record {
            facts = change one.facts other.facts;
            known = find-paired change (λ x y. refl) v a.locals b.locals same one.facts other.facts one.known other.known;
            says_more = subst (λ (n : Facts). SaysMore (change one.facts other.facts) n) found.made_is says;
          };
    }

-- code that may change locals, in both models
pub conservative_implies : (written captured : List LocalId) (a b : FlowModel) → Implies a b → Implies (conservative_of a written captured) (conservative_of b written captured)
conservative_implies written captured a b =
    let change = conservative_facts written captured in
    mapped_implies change change (numbers_stay written captured) (numbers_stay written captured) a b
    (λ v l m is_l is_m. conservative_keeps written captured l m (same_local (l.var) (m.var) (number_found a v l is_l ∙ sym (number_found b v m is_m))))

-- a write says more than what is left of a model around code that writes the local
pub assign_says_more : (table : Table) (written : Ty) (m : FlowModel) (var : LocalId) → Implies (at_local m var (assign_facts table written)) (conservative_of m (var ∷ []) [])
assign_says_more table written m var =
    let write = λ (l : Facts). if is_of var l then assign_facts table written l else l in
    changes_imply write (conservative_facts (var ∷ []) [])
    (λ l. number_if (assign_facts table written) (λ k. refl) (is_of var l) l)
    (numbers_stay (var ∷ []) [])
    m
    (λ l. rw (written_alone var l) (write_says_more table written l (is_of var l)))

module _ (a b : FlowModel) (same : HaveSameScope a b) (c d : FlowModel) (same_too : HaveSameScope c d) where
  -- a model where two reached paths meet promotes no captured local
  met_promotes_none : PromotesNoCaptured (met c d)
  met_promotes_none = met_is_free c.locals d.locals

  -- the step of the next lemma
  join_keeps_at : (in_a in_b : Bool) → a.reachable ≡ in_a → b.reachable ≡ in_b → Implies a c → Implies b d → Implies (join_of a b) (join_of c d)
  join_keeps_at in_a false is_a is_b first second =
      is_implies a (join_of c d) (join_of a b) (join_is_first a b is_b) (implies-trans a c (join_of c d) first (first_implies_join c d same_too))
  join_keeps_at false true is_a is_b first second =
      is_implies b (join_of c d) (join_of a b) (join_is_second a b is_a is_b) (implies-trans b d (join_of c d) second (second_implies_join c d same_too))
  join_keeps_at true true is_a is_b first second =
      let one : Implies a (met c d) = implies-trans a c (met c d) first (first_implies_met c d same_too) in
      let other : Implies b (met c d) = implies-trans b d (met c d) second (second_implies_met c d same_too) in
      is_implies (met a b) (join_of c d) (join_of a b) (join_is_met a b is_a is_b)
      (implies_is (met a b) (met c d) (join_of c d) (join_is_met c d (first.reached is_a) (second.reached is_b))
      (met_implies a b same (met c d) is_a is_b met_promotes_none one other))

  -- where both paths imply others, so does their join
  pub join_keeps_order : Implies a c → Implies b d → Implies (join_of a b) (join_of c d)
  join_keeps_order = join_keeps_at a.reachable b.reachable refl refl
