-- Where two paths meet in what is known on one of them.
use Rattle.std.proofs.Common.{◌≡◌, ℕ, suc, ◌<◌, Bool, true, false, ◌&&◌, not, List, [], ◌∷◌, ◌++◌, length, get_or, take, if◌then◌else◌, refl, sym, ap, ◌∙◌, arith}
use Rattle.std.specs.Prelude.{◌||◌, filter}
use Rattle.std.specs.List.{list_all}
use Rattle.std.proofs.Math.Seq.{take-suc}
use Rattle.std.proofs.lemmas.Bool.{and_parts}
use Rattle.std.proofs.lemmas.List.{append-nil, length-append}
use Rattle.dart_types.specs.Ty.{Ty}
use Rattle.flow_model.specs.Flow.{FlowModel}
use Rattle.flow_model.specs.TypeTests.{is_in, common_of, union_of}
use Rattle.flow_model.specs.Join.{join_facts, join_locals, join_of}
use Rattle.flow_model.specs.Meeting.{on_path, HaveSameFlags, JoinTo}
use Rattle.flow_model.specs.declared.join.Path.{Path}
use Rattle.flow_model.specs.declared.join.Path.TheVariants.{First, Second}
use Rattle.flow_model.specs.declared.locals.Facts.{Facts}
use Rattle.flow_model.proofs.ListTests.{filter_all, filter_none}
use Rattle.flow_model.proofs.JoinLaws.{common_of-self, union_of-self}
use Rattle.flow_model.proofs.Paged.{paged, paged-more}
use Rattle.flow_model.proofs.Scopes.{with_locals}

module _ {X : Type 0} (p : X → Bool) where
  -- of a list whose items all pass a test all are kept
  pub all_kept : (xs : List X) → list_all p xs ≡ true → filter p xs ≡ xs
  all_kept [] h = refl
  all_kept (x ∷ xs) h =
      let both = and_parts (p x) (list_all p xs) h in
      rw both.0 (ap (λ (ys : List X). x ∷ ys) (all_kept xs both.1))

  -- and none where those are kept that fail
  pub none_left : (xs : List X) → list_all p xs ≡ true → filter (λ x. not (p x)) xs ≡ []
  none_left [] h = refl
  none_left (x ∷ xs) h =
      let both = and_parts (p x) (list_all p xs) h in
      rw both.0 (none_left xs both.1)

-- a list has what another has
pub union_of-within : (ss ts : List Ty) → list_all (is_in ss) ts ≡ true → union_of ss ts ≡ ss
union_of-within ss ts h =
    ap (λ (rest : List Ty). ss ++ rest) (none_left (is_in ss) ts h) ∙ append-nil ss

-- what a list has beside none
pub union_of-nil : (ts : List Ty) → union_of [] ts ≡ ts
union_of-nil ts = filter_all (λ t. not (is_in [] t)) ts (λ j d from to. refl)

-- what is in no type
pub common_of-nil : (ss : List Ty) → common_of ss [] ≡ []
common_of-nil ss = filter_none (is_in []) ss (λ j d from to. refl)

-- the chain of a local that is captured on either path
pub chain_of_captured : (a b : Facts) → (a.captured || b.captured) ≡ true → a.chain ≡ [] → (join_facts a b).chain ≡ a.chain
chain_of_captured a b captured none = rw captured (sym none)

-- that of one that is captured on neither, where the second path promotes it to each type that the first does
pub chain_of_free : (a b : Facts) → (a.captured || b.captured) ≡ false → list_all (is_in b.chain) a.chain ≡ true → (join_facts a b).chain ≡ a.chain
chain_of_free a b free within = rw free (all_kept (is_in b.chain) a.chain within)

-- the step of the next lemma
chain_of_none_at : (chain : List Ty) (captured : Bool) → (if captured then [] else common_of chain []) ≡ []
chain_of_none_at chain true = refl
chain_of_none_at chain false = common_of-nil chain

-- the chain where the second path promotes the local to nothing
pub chain_of_none : (a b : Facts) → b.chain ≡ [] → (join_facts a b).chain ≡ b.chain
chain_of_none a b none =
    ap (λ (chain : List Ty). if a.captured || b.captured then [] else common_of a.chain chain) none
    ∙ (chain_of_none_at a.chain (a.captured || b.captured) ∙ sym none)

-- the chain where both promote it to the same
pub chain_of_same : (a b : Facts) → (a.captured || b.captured) ≡ false → a.chain ≡ b.chain → (join_facts a b).chain ≡ b.chain
chain_of_same a b free same = rw free (ap (λ (chain : List Ty). common_of chain b.chain) same ∙ common_of-self b.chain)

-- both know of a local what the first path knows
pub joined_to_first : (a b : Facts) → HaveSameFlags (join_facts a b) a → (join_facts a b).chain ≡ a.chain → list_all (is_in a.tested) b.tested ≡ true → join_facts a b ≡ a
joined_to_first a b flags same within =
    let chain : (if a.captured || b.captured then [] else common_of a.chain b.chain) ≡ a.chain = same in
    let tested : union_of a.tested b.tested ≡ a.tested = union_of-within a.tested b.tested within in
    let assigned : (a.assigned && b.assigned) ≡ a.assigned = flags.assigned in
    let unassigned : (a.unassigned && b.unassigned) ≡ a.unassigned = flags.unassigned in
    let captured : (a.captured || b.captured) ≡ a.captured = flags.captured in
    rw (chain, tested, assigned, unassigned, captured) refl

-- both know of a local what the second path knows
pub joined_to_second : (a b : Facts) → a.var ≡ b.var → a.ty ≡ b.ty → HaveSameFlags (join_facts a b) b → (join_facts a b).chain ≡ b.chain → union_of a.tested b.tested ≡ b.tested → join_facts a b ≡ b
joined_to_second a b var ty flags same tested =
    let chain : (if a.captured || b.captured then [] else common_of a.chain b.chain) ≡ b.chain = same in
    let assigned : (a.assigned && b.assigned) ≡ b.assigned = flags.assigned in
    let unassigned : (a.unassigned && b.unassigned) ≡ b.unassigned = flags.unassigned in
    let captured : (a.captured || b.captured) ≡ b.captured = flags.captured in
    rw (chain, tested, assigned, unassigned, captured, var, ty) refl

-- the types that a local was tested for where the first path tested for none, or both for the same
pub tested_of_none : (a b : Facts) → a.tested ≡ [] → union_of a.tested b.tested ≡ b.tested
tested_of_none a b none = ap (λ (tested : List Ty). union_of tested b.tested) none ∙ union_of-nil b.tested

pub tested_of_same : (a b : Facts) → a.tested ≡ b.tested → union_of a.tested b.tested ≡ b.tested
tested_of_same a b same = ap (λ (tested : List Ty). union_of tested b.tested) same ∙ union_of-self b.tested

-- locals of two paths one behind the other
joined_append : (ls ms js ks : List Facts) → length ls ≡ length ms → join_locals (ls ++ js) (ms ++ ks) ≡ join_locals ls ms ++ join_locals js ks
joined_append [] [] js ks same = refl
joined_append [] (m ∷ ms) js ks same = absurd (omega (arith, same))
joined_append (l ∷ ls) [] js ks same = absurd (omega (arith, same))
joined_append (l ∷ ls) (m ∷ ms) js ks same =
    ap (λ (rest : List Facts). join_facts l m ∷ rest) (joined_append ls ms js ks (omega (arith, same)))

-- those of one path
on_path-append : (path : Path) (ls ms js ks : List Facts) → on_path path ls ms ++ on_path path js ks ≡ on_path path (ls ++ js) (ms ++ ks)
on_path-append First ls ms js ks = refl
on_path-append Second ls ms js ks = refl

-- no locals of one path
on_path-nil : (path : Path) → ◌≡◌ {A = List Facts} [] (on_path {X = List Facts} path [] [])
on_path-nil First = refl
on_path-nil Second = refl

-- one local of one path
on_path-one : (path : Path) (l m : Facts) → on_path path l m ∷ [] ≡ on_path path (l ∷ []) (m ∷ [])
on_path-one First l m = refl
on_path-one Second l m = refl

module _ (path : Path) where
  -- no locals
  pub none_join : JoinTo path [] []
  none_join = record { as_many = refl; joined = on_path-nil path }

  -- one local
  one_joins : (l m : Facts) → join_facts l m ≡ on_path path l m → JoinTo path (l ∷ []) (m ∷ [])
  one_joins l m is = record {
    as_many = refl;
    joined = ap (λ (k : Facts). k ∷ []) is ∙ on_path-one path l m;
  }

  -- locals one behind the other
  pub both_join : (ls ms js ks : List Facts) → JoinTo path ls ms → JoinTo path js ks → JoinTo path (ls ++ js) (ms ++ ks)
  both_join ls ms js ks first second = record {
    as_many = grind (arith, length-append ls js, length-append ms ks, first.as_many, second.as_many);
    joined =
        joined_append ls ms js ks first.as_many
        ∙ ap (λ (is : List Facts). is ++ join_locals js ks) first.joined
        ∙ ap (λ (is : List Facts). on_path path ls ms ++ is) second.joined
        ∙ on_path-append path ls ms js ks;
  }

  -- one local more
  pub one_more_joins : (ls ms : List Facts) (i : ℕ) (l m : Facts) → i < length ls → i < length ms → l ≡ get_or ls i l → m ≡ get_or ms i m → join_facts l m ≡ on_path path l m → JoinTo path (take i ls) (take i ms) → JoinTo path (take (suc i) ls) (take (suc i) ms)
  one_more_joins ls ms i l m in_ls in_ms is_l is_m is so =
      let first : take (suc i) ls ≡ take i ls ++ l ∷ [] = take-suc ls i l in_ls ∙ ap (λ (k : Facts). take i ls ++ k ∷ []) (sym is_l) in
      let second : take (suc i) ms ≡ take i ms ++ m ∷ [] = take-suc ms i m in_ms ∙ ap (λ (k : Facts). take i ms ++ k ∷ []) (sym is_m) in
      rw (first, second) (both_join (take i ls) (take i ms) (l ∷ []) (m ∷ []) so (one_joins l m is))

  -- one page more
  pub one_more_page_joins : (ps qs : List (List Facts)) (i : ℕ) (p q : List Facts) → i < length ps → i < length qs → p ≡ get_or ps i p → q ≡ get_or qs i q → JoinTo path p q → JoinTo path (paged (take i ps)) (paged (take i qs)) → JoinTo path (paged (take (suc i) ps)) (paged (take (suc i) qs))
  one_more_page_joins ps qs i p q in_ps in_qs is_p is_q now so =
      rw (paged-more ps i p in_ps is_p, paged-more qs i q in_qs is_q) (both_join (paged (take i ps)) (paged (take i qs)) p q so now)

-- a path that isn't reached gives way to the first
pub first_alone : (path : Path) (a b : FlowModel) → b.reachable ≡ false → path ≡ First → join_of a b ≡ on_path path a b
first_alone First a b unreached is = rw unreached refl
first_alone Second a b unreached is = absurd cc

-- or to the second
pub second_alone : (path : Path) (a b : FlowModel) → a.reachable ≡ false → b.reachable ≡ true → path ≡ Second → join_of a b ≡ on_path path a b
second_alone First a b unreached reached is = absurd cc
second_alone Second a b unreached reached is = rw (reached, unreached) refl

-- the step of the next lemma
both_reach_at : (path : Path) (a b : FlowModel) → a.reachable ≡ true → b.reachable ≡ true → with_locals true (on_path path a.locals b.locals) ≡ on_path path a b
both_reach_at First a b first second = ap (λ (r : Bool). with_locals r a.locals) (sym first)
both_reach_at Second a b first second = ap (λ (r : Bool). with_locals r b.locals) (sym second)

-- both are reached
pub both_reach : (path : Path) (a b : FlowModel) → a.reachable ≡ true → b.reachable ≡ true → JoinTo path a.locals b.locals → join_of a b ≡ on_path path a b
both_reach path a b first second join =
    let met : join_of a b ≡ with_locals true (join_locals a.locals b.locals) = rw (second, first) refl in
    met ∙ ap (with_locals true) join.joined ∙ both_reach_at path a b first second
