-- Which models imply which, by the facts of their locals.
use Rattle.std.proofs.Common.{◌≡◌, ◌≢◌, ℕ, arith, Bool, true, false, nat_eq, map, List, if◌then◌else◌, Some, None, IsTrue, refl, sym, ap, subst, ◌∙◌}
use Rattle.std.specs.Option.{option_map}
use Rattle.std.proofs.lemmas.Bool.Decides.{nat_tests}
use Rattle.flow_model.specs.Flow.{FlowModel, is_of, is_listed, facts_of, at_local, fresh_facts, declare_of, end_of}
use Rattle.flow_model.specs.Order.{SaysMore, Knows, Implies}
use Rattle.flow_model.specs.declared.locals.LocalId.{LocalId}
use Rattle.flow_model.specs.declared.locals.LocalDecl.{LocalDecl}
use Rattle.flow_model.specs.declared.locals.Facts.{Facts}
use Rattle.flow_model.proofs.Scopes.{with_locals, facts_of-declare_same, facts_of-declare_other}
use Rattle.flow_model.proofs.Found.{found_before, found-map, number_found, same_local, found_after_end, none_after_end}
use Rattle.flow_model.proofs.SaysMore.{says_as_much, says_more_still}

-- a model implies itself
pub implies-refl : (a : FlowModel) → Implies a a
implies-refl a = record {
  reached = λ h. h;
  locals = λ h var m is. record { facts = m; known = is; says_more = says_as_much m };
}

-- what a model knows of a local that another knows less of
knows-more : (a : FlowModel) (var : LocalId) (l m : Facts) → Knows a var l → SaysMore l m → Knows a var m
knows-more a var l m knows says = record {
  facts = knows.facts;
  known = knows.known;
  says_more = says_more_still knows.facts l m knows.says_more says;
}

-- and what a model implies that it implies
pub implies-trans : (a b c : FlowModel) → Implies a b → Implies b c → Implies a c
implies-trans a b c first second = record {
  reached = λ h. second.reached (first.reached h);
  locals = λ h var m is.
      let knows = second.locals (first.reached h) var m is in
      knows-more a var knows.facts m (first.locals h var knows.facts knows.known) knows.says_more;
}

-- a point that isn't reached implies every model
pub unreached_implies : (a b : FlowModel) → a.reachable ≡ false → Implies a b
unreached_implies a b not_reached = record {
  reached = λ h. let no : true ≡ false = sym h ∙ not_reached in cc;
  locals = λ h var m is. let no : true ≡ false = sym h ∙ not_reached in absurd (cc);
}

module _ (f g : Facts → Facts) (f_keeps : (l : Facts) → (f l).var.0 ≡ l.var.0) (g_keeps : (l : Facts) → (g l).var.0 ≡ l.var.0) where
  -- changes of the facts of each local, of which the one says more where the facts do
  pub mapped_implies : (a b : FlowModel) → ((v : LocalId) (l m : Facts) → facts_of a v ≡ Some l → facts_of b v ≡ Some m → SaysMore l m → SaysMore (f l) (g m)) → Implies a b → Implies (with_locals a.reachable (map f a.locals)) (with_locals b.reachable (map g b.locals))
  mapped_implies a b each implies = record {
    reached = implies.reached;
    locals = λ h v m is.
        let found = found_before g (facts_of b v) m (sym (found-map g g_keeps b.locals v) ∙ is) in
        let knows = implies.locals h v found.before found.is in
        let says = each v knows.facts found.before knows.known found.is knows.says_more in
        record {
          facts = f knows.facts;
          known = found-map f f_keeps a.locals v ∙ ap (option_map f) knows.known;
          says_more = subst (λ (n : Facts). SaysMore (f knows.facts) n) found.changed says;
        };
  }

  -- two changes of one model
  pub changes_imply : (a : FlowModel) → ((l : Facts) → SaysMore (f l) (g l)) → Implies (with_locals a.reachable (map f a.locals)) (with_locals a.reachable (map g a.locals))
  changes_imply a each = record {
    reached = λ h. h;
    locals = λ h v m is.
        let found = found_before g (facts_of a v) m (sym (found-map g g_keeps a.locals v) ∙ is) in
        record {
          facts = f found.before;
          known = found-map f f_keeps a.locals v ∙ ap (option_map f) found.is;
          says_more = subst (λ (n : Facts). SaysMore (f found.before) n) found.changed (each found.before);
        };
  }

module _ (f : Facts → Facts) (keeps : (l : Facts) → (f l).var.0 ≡ l.var.0) where
  -- a change that says more
  pub change_implies : (a : FlowModel) → ((l : Facts) → SaysMore (f l) l) → Implies (with_locals a.reachable (map f a.locals)) a
  change_implies a each = record {
    reached = λ h. h;
    locals = λ h v m is. record {
      facts = f m;
      known = found-map f keeps a.locals v ∙ ap (option_map f) is;
      says_more = each m;
    };
  }

  -- a change that says less
  pub implies_change : (a : FlowModel) → ((l : Facts) → SaysMore l (f l)) → Implies a (with_locals a.reachable (map f a.locals))
  implies_change a each = record {
    reached = λ h. h;
    locals = λ h v m is.
        let found = found_before f (facts_of a v) m (sym (found-map f keeps a.locals v) ∙ is) in
        record {
          facts = found.before;
          known = found.is;
          says_more = subst (λ (n : Facts). SaysMore found.before n) found.changed (each found.before);
        };
  }

-- a change of one local keeps the numbers
pub number_if : (f : Facts → Facts) (keeps : (l : Facts) → (f l).var.0 ≡ l.var.0) (b : Bool) (l : Facts) → (if b then f l else l).var.0 ≡ l.var.0
number_if f keeps true l = keeps l
number_if f keeps false l = refl

-- either of two facts says more
pub says_more_if : (b : Bool) (l m n : Facts) → SaysMore l n → SaysMore m n → SaysMore (if b then l else m) n
says_more_if true l m n first second = first
says_more_if false l m n first second = second

-- the step of the next lemma
at_local_says_at : (var : LocalId) (f g : Facts → Facts) (l m : Facts) (b : Bool) → is_of var l ≡ b → is_of var m ≡ b → (b ≡ true → SaysMore (f l) (g m)) → SaysMore l m → SaysMore (if is_of var l then f l else l) (if is_of var m then g m else m)
at_local_says_at var f g l m true in_l in_m each says = rw (in_l, in_m) (each refl)
at_local_says_at var f g l m false in_l in_m each says = rw (in_l, in_m) says

module _ (var : LocalId) (f g : Facts → Facts) (f_keeps : (l : Facts) → (f l).var.0 ≡ l.var.0) (g_keeps : (l : Facts) → (g l).var.0 ≡ l.var.0) where
  -- changes of one local, of which the one says more where the facts do
  pub at_local_implies : (a b : FlowModel) → ((l m : Facts) → facts_of a var ≡ Some l → facts_of b var ≡ Some m → SaysMore l m → SaysMore (f l) (g m)) → Implies a b → Implies (at_local a var f) (at_local b var g)
  at_local_implies a b each implies =
      mapped_implies (λ l. if is_of var l then f l else l) (λ l. if is_of var l then g l else l)
      (λ l. number_if f f_keeps (is_of var l) l) (λ l. number_if g g_keeps (is_of var l) l) a b
      (λ v l m is_l is_m says.
      let of_l = number_found a v l is_l in
      let of_m = number_found b v m is_m in
      let alike : is_of var m ≡ is_of var l = ap (λ (k : ℕ). nat_eq k var.0) (of_m ∙ sym of_l) in
      at_local_says_at var f g l m (is_of var l) refl alike
      (λ here.
      let number : l.var.0 ≡ var.0 = grind (arith, nat_tests) in
      let same = same_local v var (sym of_l ∙ number) in
      each l m (subst (λ (x : LocalId). facts_of a x ≡ Some l) same is_l) (subst (λ (x : LocalId). facts_of b x ≡ Some m) same is_m) says)
      says)
      implies

-- a change of one local that says more
pub at_local_says_more : (a : FlowModel) (var : LocalId) (f : Facts → Facts) → ((l : Facts) → (f l).var.0 ≡ l.var.0) → ((l : Facts) → SaysMore (f l) l) → Implies (at_local a var f) a
at_local_says_more a var f keeps each =
    change_implies (λ l. if is_of var l then f l else l) (λ l. number_if f keeps (is_of var l) l) a
    (λ l. says_more_if (is_of var l) (f l) l l (each l) (says_as_much l))

module _ (a b : FlowModel) (local : LocalDecl) (implies : Implies a b) (reached : IsTrue a.reachable) where
  -- the local that was declared is known as it was declared
  declared_is_known : (v : LocalId) (m : Facts) → v ≡ local.var → facts_of (declare_of b local) v ≡ Some m → Knows (declare_of a local) v m
  declared_is_known v m here is =
      let fresh : facts_of (declare_of b local) v ≡ Some (fresh_facts local) = ap (facts_of (declare_of b local)) here ∙ facts_of-declare_same b local in
      let same : Some (fresh_facts local) ≡ Some m = sym fresh ∙ is in
      let equal : fresh_facts local ≡ m = cc in
      record {
        facts = fresh_facts local;
        known = ap (facts_of (declare_of a local)) here ∙ facts_of-declare_same a local;
        says_more = subst (λ (n : Facts). SaysMore (fresh_facts local) n) equal (says_as_much (fresh_facts local));
      }

  -- and each other as before
  other_is_known : (v : LocalId) (m : Facts) → v.0 ≢ local.var.0 → facts_of (declare_of b local) v ≡ Some m → Knows (declare_of a local) v m
  other_is_known v m differs is =
      let knows = implies.locals reached v m (sym (facts_of-declare_other b local v differs) ∙ is) in
      record {
        facts = knows.facts;
        known = facts_of-declare_other a local v differs ∙ knows.known;
        says_more = knows.says_more;
      }

  -- the step of the next lemma
  known_after_declare_at : (v : LocalId) (m : Facts) (here : Bool) → nat_eq v.0 local.var.0 ≡ here → facts_of (declare_of b local) v ≡ Some m → Knows (declare_of a local) v m
  known_after_declare_at v m true e is =
      let same : v.0 ≡ local.var.0 = grind (arith, nat_tests) in
      declared_is_known v m (same_local v local.var same) is
  known_after_declare_at v m false e is =
      let differs : v.0 ≢ local.var.0 = grind (arith, nat_tests) in
      other_is_known v m differs is

  -- either
  known_after_declare : (v : LocalId) (m : Facts) → facts_of (declare_of b local) v ≡ Some m → Knows (declare_of a local) v m
  known_after_declare v m = known_after_declare_at v m (nat_eq v.0 local.var.0) refl

-- a local more in both
pub declare_implies : (a b : FlowModel) (local : LocalDecl) → Implies a b → Implies (declare_of a local) (declare_of b local)
declare_implies a b local implies = record {
  reached = implies.reached;
  locals = λ h. known_after_declare a b local implies h;
}

-- a local more, where it wasn't in scope
pub declare_says_more : (a : FlowModel) (local : LocalDecl) → facts_of a local.var ≡ None → Implies (declare_of a local) a
declare_says_more a local absent = record {
  reached = λ h. h;
  locals = λ h v m is.
      let differs : v.0 ≢ local.var.0 = λ same. (let none : facts_of a v ≡ None = ap (facts_of a) (same_local v local.var same) ∙ absent in let no : Some m ≡ None = sym is ∙ none in cc) in
      record { facts = m; known = facts_of-declare_other a local v differs ∙ is; says_more = says_as_much m };
}

-- the step of the next lemma
known_after_end_at : (a b : FlowModel) (vars : List LocalId) (v : LocalId) (m : Facts) (ends : Bool) → is_listed vars v ≡ ends → (facts_of b v ≡ Some m → Knows a v m) → facts_of (end_of b vars) v ≡ Some m → Knows (end_of a vars) v m
known_after_end_at a b vars v m true e more is =
    let no : None ≡ Some m = sym (none_after_end b vars v e) ∙ is in
    absurd (cc)
known_after_end_at a b vars v m false e more is =
    let knows = more (sym (found_after_end b vars v e) ∙ is) in
    record { facts = knows.facts; known = found_after_end a vars v e ∙ knows.known; says_more = knows.says_more }

-- fewer locals in both
pub end_implies : (a b : FlowModel) (vars : List LocalId) → Implies a b → Implies (end_of a vars) (end_of b vars)
end_implies a b vars implies = record {
  reached = implies.reached;
  locals = λ h v m. known_after_end_at a b vars v m (is_listed vars v) refl (implies.locals h v m);
}

-- the step of the next lemma
end_says_less_at : (a : FlowModel) (vars : List LocalId) (v : LocalId) (m : Facts) (ends : Bool) → is_listed vars v ≡ ends → facts_of (end_of a vars) v ≡ Some m → Knows a v m
end_says_less_at a vars v m true e is =
    let no : None ≡ Some m = sym (none_after_end a vars v e) ∙ is in
    absurd (cc)
end_says_less_at a vars v m false e is = record {
  facts = m;
  known = sym (found_after_end a vars v e) ∙ is;
  says_more = says_as_much m;
}

-- fewer locals
pub end_says_less : (a : FlowModel) (vars : List LocalId) → Implies a (end_of a vars)
end_says_less a vars = record {
  reached = λ h. h;
  locals = λ h v m. end_says_less_at a vars v m (is_listed vars v) refl;
}
