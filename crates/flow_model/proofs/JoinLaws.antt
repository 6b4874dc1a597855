-- What is known where two paths meet, by what is known on each.
use Rattle.std.proofs.Common.{◌≡◌, ℕ, zero, suc, ◌<◌, Bool, true, false, ◌&&◌, not, List, [], ◌∷◌, ◌++◌, length, get_or, if◌then◌else◌, IsTrue, refl, sym, ap, ◌∙◌, arith}
use Rattle.std.specs.Prelude.{◌||◌, All, filter}
use Rattle.std.proofs.lemmas.List.{append-nil}
use Rattle.std.proofs.lemmas.List.Elements.{All-head, All-tail}
use Rattle.dart_types.specs.Ty.{Ty}
use Rattle.dart_types.specs.Same.{same_type}
use Rattle.flow_model.specs.Flow.{FlowModel, IsUnpromotedIfCaptured, PromotesNoCaptured}
use Rattle.flow_model.specs.TypeTests.{is_in, common_of, union_of}
use Rattle.flow_model.specs.Join.{HaveSameScope, scope_of, join_facts, join_locals, join_of}
use Rattle.flow_model.specs.declared.locals.Facts.{Facts}
use Rattle.flow_model.proofs.SameTypes.{same_type-refl, equal_from_same_type}
use Rattle.flow_model.proofs.ListTests.{filter_all, filter_none}
use Rattle.flow_model.proofs.Scopes.{with_locals}
use Rattle.flow_model.proofs.SameScope.{length_from_scope}
use Rattle.flow_model.proofs.Pairs.{scope-paired}

-- the order of two tests is all the same
pub and-comm : (a b : Bool) → (a && b) ≡ (b && a)
and-comm true true = refl
and-comm true false = refl
and-comm false true = refl
and-comm false false = refl

-- whichever of two holds
pub or-comm : (a b : Bool) → (a || b) ≡ (b || a)
or-comm true true = refl
or-comm true false = refl
or-comm false true = refl
or-comm false false = refl

-- a test twice
and-self : (a : Bool) → (a && a) ≡ a
and-self true = refl
and-self false = refl

-- a choice twice
or-self : (a : Bool) → (a || a) ≡ a
or-self true = refl
or-self false = refl

-- a test that fails at the end
pub and-false : (a : Bool) → (a && false) ≡ false
and-false true = refl
and-false false = refl

-- a choice that holds at the end
or-true : (a : Bool) → (a || true) ≡ true
or-true true = refl
or-true false = refl

-- what holds beside a choice that fails
or-and-not : (a b : Bool) → (a || (b && not a)) ≡ (a || b)
or-and-not true b = refl
or-and-not false true = refl
or-and-not false false = refl

-- three choices
or-assoc : (a b c : Bool) → (a || (b || c)) ≡ ((a || b) || c)
or-assoc true b c = refl
or-assoc false b c = refl

module _ (p : Ty → Bool) (t : Ty) where
  -- the step of the next lemma
  is_in-filter_at : (s : Ty) (ss : List Ty) (same passes : Bool) → same_type t s ≡ same → p s ≡ passes → is_in (filter p ss) t ≡ (is_in ss t && p t) → is_in (filter p (s ∷ ss)) t ≡ (is_in (s ∷ ss) t && p t)
  is_in-filter_at s ss true true e h more =
      let passes : p t ≡ true = ap p (equal_from_same_type t s e) ∙ h in
      rw (h, e) (sym passes)
  is_in-filter_at s ss true false e h more =
      let fails : p t ≡ false = ap p (equal_from_same_type t s e) ∙ h in
      rw (h, e) (more ∙ (ap (λ b. is_in ss t && b) fails ∙ (and-false (is_in ss t) ∙ sym fails)))
  is_in-filter_at s ss false true e h more = rw (h, e) more
  is_in-filter_at s ss false false e h more = rw (h, e) more

  -- a type is among those of a list that pass where it is in the list and passes
  pub is_in-filter : (ss : List Ty) → is_in (filter p ss) t ≡ (is_in ss t && p t)
  is_in-filter [] = refl
  is_in-filter (s ∷ ss) = is_in-filter_at s ss (same_type t s) (p s) refl refl (is_in-filter ss)

-- a type is in two lists, one behind the other, where it is in one of them
pub is_in-append : (ss ts : List Ty) (t : Ty) → is_in (ss ++ ts) t ≡ (is_in ss t || is_in ts t)
is_in-append [] ts t = refl
is_in-append (s ∷ ss) ts t =
    ap (λ b. same_type t s || b) (is_in-append ss ts t) ∙ or-assoc (same_type t s) (is_in ss t) (is_in ts t)

-- and in their union
pub is_in-union : (ss ts : List Ty) (t : Ty) → is_in (union_of ss ts) t ≡ (is_in ss t || is_in ts t)
is_in-union ss ts t =
    let new = λ (s : Ty). not (is_in ss s) in
    is_in-append ss (filter new ts) t
    ∙ (ap (λ b. is_in ss t || b) (is_in-filter new t ts) ∙ or-and-not (is_in ss t) (is_in ts t))

-- so it is all the same which list is the first
pub is_in-union_comm : (ss ts : List Ty) (t : Ty) → is_in (union_of ss ts) t ≡ is_in (union_of ts ss) t
is_in-union_comm ss ts t =
    is_in-union ss ts t ∙ (or-comm (is_in ss t) (is_in ts t) ∙ sym (is_in-union ts ss t))

-- the step of the next lemma
is_in-join_at : (a b : Facts) (t : Ty) (captured : Bool) → is_in (if captured then [] else common_of a.chain b.chain) t ≡ (not captured && (is_in a.chain t && is_in b.chain t))
is_in-join_at a b t true = refl
is_in-join_at a b t false = is_in-filter (is_in b.chain) t a.chain

-- a local is promoted to what it is promoted to on both paths
pub is_in-join : (a b : Facts) (t : Ty) → is_in (join_facts a b).chain t ≡ (not (a.captured || b.captured) && (is_in a.chain t && is_in b.chain t))
is_in-join a b t = is_in-join_at a b t (a.captured || b.captured)

-- so it is all the same which path is the first
pub is_in-join_comm : (a b : Facts) (t : Ty) → is_in (join_facts a b).chain t ≡ is_in (join_facts b a).chain t
is_in-join_comm a b t =
    is_in-join a b t
    ∙ (ap (λ captured. not captured && (is_in a.chain t && is_in b.chain t)) (or-comm a.captured b.captured)
    ∙ (ap (λ both. not (b.captured || a.captured) && both) (and-comm (is_in a.chain t) (is_in b.chain t))
    ∙ sym (is_in-join b a t)))

-- each type of a list is in the list
is_in-at : (ts : List Ty) (j : ℕ) (d : Ty) → j < length ts → is_in ts (get_or ts j d) ≡ true
is_in-at [] j d within = absurd (omega arith)
is_in-at (t ∷ ts) zero d within = rw (same_type-refl t) refl
is_in-at (t ∷ ts) (suc j) d within = rw (is_in-at ts j d (omega arith)) (or-true _)

-- what a list has in common with itself
pub common_of-self : (ts : List Ty) → common_of ts ts ≡ ts
common_of-self ts = filter_all (is_in ts) ts (λ j d from to. is_in-at ts j d to)

-- a list has nothing beside itself
pub union_of-self : (ts : List Ty) → union_of ts ts ≡ ts
union_of-self ts =
    ap (λ (rest : List Ty). ts ++ rest) (filter_none (λ t. not (is_in ts t)) ts (λ j d from to. ap not (is_in-at ts j d to)))
    ∙ append-nil ts

-- the step of the next lemma
chain-self_at : (chain : List Ty) (captured : Bool) → (IsTrue captured → chain ≡ []) → (if captured then [] else common_of chain chain) ≡ chain
chain-self_at chain true free = sym (free refl)
chain-self_at chain false free = common_of-self chain

-- the facts of a local that isn't promoted where it is captured, joined with themselves
pub join_facts-self : (l : Facts) → IsUnpromotedIfCaptured l → join_facts l l ≡ l
join_facts-self l free =
    let chain : (if l.captured || l.captured then [] else common_of l.chain l.chain) ≡ l.chain = rw (or-self l.captured) (chain-self_at l.chain l.captured free) in
    let tested = union_of-self l.tested in
    let assigned = and-self l.assigned in
    let unassigned = and-self l.unassigned in
    let captured = or-self l.captured in
    rw (chain, tested, assigned, unassigned, captured) refl

-- the facts of such locals
join_locals-self : (ls : List Facts) → All IsUnpromotedIfCaptured ls → join_locals ls ls ≡ ls
join_locals-self [] free = refl
join_locals-self (l ∷ ls) free =
    rw (join_facts-self l (All-head IsUnpromotedIfCaptured l ls free)) (ap (λ (locals : List Facts). l ∷ locals) (join_locals-self ls (All-tail IsUnpromotedIfCaptured l ls free)))

-- the step of the next lemma
join_of-self_at : (m : FlowModel) (b : Bool) → m.reachable ≡ b → PromotesNoCaptured m → join_of m m ≡ m
join_of-self_at m true e free =
    rw e (ap (with_locals true) (join_locals-self m.locals free))
join_of-self_at m false e free = rw e refl

-- a model of such locals, joined with itself
pub join_of-self : (m : FlowModel) → PromotesNoCaptured m → join_of m m ≡ m
join_of-self m free = join_of-self_at m m.reachable refl free

-- the step of the next lemma
scope-join_of_at : (a b : FlowModel) (in_a in_b : Bool) → a.reachable ≡ in_a → b.reachable ≡ in_b → HaveSameScope a b → scope_of (join_of a b) ≡ scope_of a
scope-join_of_at a b in_a false is_a is_b same = rw is_b refl
scope-join_of_at a b false true is_a is_b same = rw (is_b, is_a) (sym same)
scope-join_of_at a b true true is_a is_b same =
    rw (is_b, is_a) (scope-paired join_facts (λ l m. refl) a.locals b.locals (length_from_scope a.locals b.locals same))

-- where two paths meet the scope is theirs
pub scope-join_of : (a b : FlowModel) → HaveSameScope a b → scope_of (join_of a b) ≡ scope_of a
scope-join_of a b same = scope-join_of_at a b a.reachable b.reachable refl refl same

-- the same facts of a local that isn't captured, on both paths
pub joined_alike : (l m : Facts) → l.captured ≡ false → l ≡ m → join_facts l m ≡ l
joined_alike l m free same =
    let never : l.captured ≡ true → l.chain ≡ [] = λ captured. cc in
    ap (join_facts l) (sym same) ∙ join_facts-self l never
