-- Steps of the way up keep what holds on it, and leave less of it.
use Rattle.std.proofs.Common.{◌≡◌, ℕ, ◌+◌, ◌<◌, ◌≤◌, max, cond, inl, inr, List, [], ◌∷◌, ◌++◌, length, replicate, set, Contains, refl, sym, ap, ◌∙◌, subst, arith}
use Rattle.std.specs.Prelude.{zero, suc}
use Rattle.std.proofs.lemmas.Bool.{cases_eq}
use Rattle.std.proofs.lemmas.List.{get_or-set_same, get_or-set_other, length-set, length-replicate, length_push}
use Rattle.std.proofs.lemmas.List.Elements.{Contains-append_left, Contains-push, Contains-push_cases}
use Rattle.std.proofs.lemmas.List.Sums.{sum_by-set}
use Rattle.dart_types.specs.Tables.{Table}
use Rattle.class_depths.specs.Over.{IsDirectlyOver, LiesOver, direct, further}
use Rattle.class_depths.specs.Marked.{IsDepthAt, mark_at}
use Rattle.class_depths.specs.Climbing.{Begins, Climbing, HasDepth, IsPartly, LeadsTo, Steps, first_step, id_at, is_unseen, unseen}
use Rattle.class_depths.specs.declared.classes.DeclaredClass.{DeclaredClass}
use Rattle.class_depths.specs.declared.marks.Mark.{Mark}
use Rattle.class_depths.specs.declared.marks.Mark.TheVariants.{Unseen, Open, Settled}
use Rattle.class_depths.specs.declared.marks.Step.{Step}
use Rattle.class_depths.proofs.Pairs.{pairs_before, pairs_last, pairs_push}

-- an empty list has no element
no_element : {A : Type 0} {x : A} → Contains [] x → ⊥
no_element h = omega (arith, h.1)

-- one of two places, and its mark, where one mark is changed
module _ (marks : List Mark) (p : ℕ) (m : Mark) where
  -- what isn't come to afterwards wasn't before
  pub still_unseen : p < length marks → (m ≡ Unseen → ⊥) → (q : ℕ) → mark_at (set marks p m) q ≡ Unseen → mark_at marks q ≡ Unseen
  still_unseen within seen q e = elim (cases_eq q p) [
    | inl same ↦ absurd (seen (sym (get_or-set_same marks p m Unseen within) ∙ (ap (λ (k : ℕ). mark_at (set marks p m) k) (sym same) ∙ e)))
    | inr other ↦ sym (get_or-set_other marks p q m Unseen other) ∙ e
  ]

open_settled : {n : ℕ} → Open ≡ Settled n → ⊥
open_settled e = cc

settled_open : {n : ℕ} → Settled n ≡ Open → ⊥
settled_open e = cc

open_unseen : Open ≡ Unseen → ⊥
open_unseen e = cc

settled_unseen : {n : ℕ} → Settled n ≡ Unseen → ⊥
settled_unseen e = cc

same_settled : {m n : ℕ} → Settled m ≡ Settled n → m ≡ n
same_settled e = cc

unseen_settled : {n : ℕ} → Unseen ≡ Settled n → ⊥
unseen_settled e = cc

unseen_open : Unseen ≡ Open → ⊥
unseen_open e = cc

nothing_marked : (n p : ℕ) → mark_at (replicate n Unseen) p ≡ Unseen
nothing_marked zero p = refl
nothing_marked (suc n) zero = refl
nothing_marked (suc n) (suc p) = nothing_marked n p

module _ (below : Table) (declared : List DeclaredClass) where
  -- at the start
  pub start : (n : ℕ) → n ≡ length declared → Climbing below declared (replicate n Unseen) []
  start n size = record {
    marked = record {
      size = length-replicate n Unseen ∙ size;
      settled = λ p k e. absurd (unseen_settled (sym (nothing_marked n p) ∙ e));
    };
    on_the_way = λ p e. absurd (unseen_open (sym (nothing_marked n p) ∙ e));
    within = λ s i. absurd (no_element i);
    partly = λ s i. absurd (no_element i);
    over = λ i j d lt within. absurd (omega (arith, within));
  }

  -- nothing has been gone through at first
  first_partly : (p : ℕ) → IsPartly below declared (first_step p)
  first_partly p n h =
      let none : n ≡ max 0 n = omega arith in
      subst (λ (k : ℕ). IsDepthAt below declared p k) none h

  module _ (marks : List Mark) (path : List Step) (h : Climbing below declared marks path) (p : ℕ) (within : p < length declared) (free : mark_at marks p ≡ Unseen) (over : (s : Step) → Contains path s → LiesOver declared (id_at declared p) (id_at declared s.place)) where
    there : p < length marks
    there = omega (arith, h.marked.size, within)

    at_place : mark_at (set marks p Open) p ≡ Open
    at_place = get_or-set_same marks p Open Unseen there

    at_other : (q : ℕ) → (q ≡ p → ⊥) → mark_at (set marks p Open) q ≡ mark_at marks q
    at_other q other = get_or-set_other marks p q Open Unseen other

    at_same : (q : ℕ) → q ≡ p → mark_at (set marks p Open) q ≡ Open
    at_same q same = ap (λ (k : ℕ). mark_at (set marks p Open) k) same ∙ at_place

    -- a class is come to
    pub come : Climbing below declared (set marks p Open) (path ++ first_step p ∷ [])
    come = record {
      marked = record {
        size = length-set marks p Open ∙ h.marked.size;
        settled = λ q n e. elim (cases_eq q p) [
          | inl same ↦ absurd (open_settled (sym (at_same q same) ∙ e))
          | inr other ↦ h.marked.settled q n (sym (at_other q other) ∙ e)
        ];
      };
      on_the_way = λ q e. elim (cases_eq q p) [
        | inl same ↦ (first_step p, Contains-push path (first_step p), sym same)
        | inr other ↦ (let o = h.on_the_way q (sym (at_other q other) ∙ e) in (o.0, Contains-append_left path (first_step p ∷ []) o.0 o.1, o.2))
      ];
      within = λ s i. elim (Contains-push_cases path (first_step p) s i) [
        | inl earlier ↦ h.within s earlier
        | inr is ↦ subst (λ (t : Step). t.place < length declared) is within
      ];
      partly = λ s i. elim (Contains-push_cases path (first_step p) s i) [
        | inl earlier ↦ h.partly s earlier
        | inr is ↦ subst (λ (t : Step). IsPartly below declared t) is (first_partly p)
      ];
      over = pairs_push (λ (a b : Step). LiesOver declared (id_at declared b.place) (id_at declared a.place)) path (first_step p) h.over over;
    }

    -- and there is one less to come to
    pub one_less : unseen marks ≡ unseen (set marks p Open) + 1
    one_less =
        let f : Mark → ℕ = λ m. cond (is_unseen m) 1 0 in
        let one : f (mark_at marks p) ≡ 1 = ap f free in
        let changed = sum_by-set f marks p Open Unseen there in
        omega (arith, changed, one)

  module _ (marks : List Mark) (path : List Step) (s : Step) (h : Climbing below declared marks (path ++ s ∷ [])) where
    abbrev lies : Step → Step → Type 0
    lies a b = LiesOver declared (id_at declared b.place) (id_at declared a.place)

    pub last_within : s.place < length declared
    last_within = h.within s (Contains-push path s)

    pub last_partly : IsPartly below declared s
    last_partly = h.partly s (Contains-push path s)

    -- the last step is another of the same class
    pub again : (t : Step) → t.place ≡ s.place → IsPartly below declared t → Climbing below declared marks (path ++ t ∷ [])
    again t same partly = record {
      marked = h.marked;
      on_the_way = λ q e. (let o = h.on_the_way q e in elim (Contains-push_cases path s o.0 o.1) [
        | inl earlier ↦ (o.0, Contains-append_left path (t ∷ []) o.0 earlier, o.2)
        | inr is ↦ (t, Contains-push path t, same ∙ (ap (λ (x : Step). x.place) is ∙ o.2))
      ]);
      within = λ x i. elim (Contains-push_cases path t x i) [
        | inl earlier ↦ h.within x (Contains-append_left path (s ∷ []) x earlier)
        | inr is ↦ subst (λ (y : Step). y.place < length declared) is (subst (λ (k : ℕ). k < length declared) (sym same) last_within)
      ];
      partly = λ x i. elim (Contains-push_cases path t x i) [
        | inl earlier ↦ h.partly x (Contains-append_left path (s ∷ []) x earlier)
        | inr is ↦ subst (λ (y : Step). IsPartly below declared y) is partly
      ];
      over = pairs_push lies path t (pairs_before lies path s h.over) (λ a i. subst (λ (k : ℕ). LiesOver declared (id_at declared k) (id_at declared a.place)) (sym same) (pairs_last lies path s h.over a i));
    }

    -- a class that is directly over the last lies over all on the way
    pub over_all : (p : ℕ) → IsDirectlyOver declared (id_at declared p) (id_at declared s.place) → (a : Step) → Contains (path ++ s ∷ []) a → LiesOver declared (id_at declared p) (id_at declared a.place)
    over_all p o a i = elim (Contains-push_cases path s a i) [
      | inl earlier ↦ further (pairs_last lies path s h.over a earlier) o
      | inr is ↦ subst (λ (x : Step). LiesOver declared (id_at declared p) (id_at declared x.place)) is (direct o)
    ]

    -- one that is on the way lies over itself
    pub round : (p : ℕ) → LeadsTo declared marks s p Open → LiesOver declared (id_at declared p) (id_at declared p)
    round p l =
        let o = h.on_the_way p l.marked in
        subst (λ (k : ℕ). LiesOver declared (id_at declared p) (id_at declared k)) o.2 (over_all p l.over o.0 o.1)

    module _ (n : ℕ) (depth : IsDepthAt below declared s.place n) where
      here : s.place < length marks
      here = omega (arith, h.marked.size, last_within)

      done_same : (q : ℕ) → q ≡ s.place → mark_at (set marks s.place (Settled n)) q ≡ Settled n
      done_same q same = ap (λ (k : ℕ). mark_at (set marks s.place (Settled n)) k) same ∙ get_or-set_same marks s.place (Settled n) Unseen here

      done_other : (q : ℕ) → (q ≡ s.place → ⊥) → mark_at (set marks s.place (Settled n)) q ≡ mark_at marks q
      done_other q other = get_or-set_other marks s.place q (Settled n) Unseen other

      done : Climbing below declared (set marks s.place (Settled n)) path
      done = record {
        marked = record {
          size = length-set marks s.place (Settled n) ∙ h.marked.size;
          settled = λ q k e. elim (cases_eq q s.place) [
            | inl same ↦ (let is : n ≡ k = same_settled (sym (done_same q same) ∙ e) in
                subst (λ (x : ℕ). IsDepthAt below declared x k) (sym same) (subst (λ (x : ℕ). IsDepthAt below declared s.place x) is depth))
            | inr other ↦ h.marked.settled q k (sym (done_other q other) ∙ e)
          ];
        };
        on_the_way = λ q e. elim (cases_eq q s.place) [
          | inl same ↦ absurd (settled_open (sym (done_same q same) ∙ e))
          | inr other ↦ (let o = h.on_the_way q (sym (done_other q other) ∙ e) in elim (Contains-push_cases path s o.0 o.1) [
            | inl earlier ↦ (o.0, earlier, o.2)
            | inr is ↦ absurd (other (sym (ap (λ (x : Step). x.place) is ∙ o.2)))
          ])
        ];
        within = λ x i. h.within x (Contains-append_left path (s ∷ []) x i);
        partly = λ x i. h.partly x (Contains-append_left path (s ∷ []) x i);
        over = pairs_before lies path s h.over;
      }

      no_more : unseen (set marks s.place (Settled n)) ≤ unseen marks
      no_more =
          let f : Mark → ℕ = λ m. cond (is_unseen m) 1 0 in
          let changed = sum_by-set f marks s.place (Settled n) Unseen here in
          omega (arith, changed)

      -- the class of the last step is settled
      pub done_steps : Steps below declared marks (set marks s.place (Settled n)) (path ++ s ∷ []) path
      done_steps = record {
        climbing = done;
        falls = omega (arith, no_more, length_push path s);
        stays = still_unseen marks s.place (Settled n) here settled_unseen;
      }

    -- the way leads on to another class
    pub on_steps : (t : Step) (p : ℕ) → t.place ≡ s.place → IsPartly below declared t → LeadsTo declared marks s p Unseen → Steps below declared marks (set marks p Open) (path ++ s ∷ []) ((path ++ t ∷ []) ++ first_step p ∷ [])
    on_steps t p same partly l =
        let back = again t same partly in
        let over : (a : Step) → Contains (path ++ t ∷ []) a → LiesOver declared (id_at declared p) (id_at declared a.place) = λ a i. elim (Contains-push_cases path t a i) [
          | inl earlier ↦ over_all p l.over a (Contains-append_left path (s ∷ []) a earlier)
          | inr is ↦ subst (λ (x : Step). LiesOver declared (id_at declared p) (id_at declared x.place)) is (subst (λ (k : ℕ). LiesOver declared (id_at declared p) (id_at declared k)) (sym same) (direct l.over))
        ] in
        let there : p < length marks = omega (arith, h.marked.size, l.place) in
        let less = one_less marks (path ++ t ∷ []) back p l.place l.marked over in
        record {
          climbing = come marks (path ++ t ∷ []) back p l.place l.marked over;
          falls = omega (arith, less, length_push path s, length_push path t, length_push (path ++ t ∷ []) (first_step p));
          stays = still_unseen marks p Open there open_unseen;
        }

  -- a class that is to be settled was come to, and is on the way unless it is settled
  pub begun : (marks new : List Mark) (later : List Step) (p : ℕ) (m : Mark) → mark_at marks p ≡ m → p < length declared → Climbing below declared marks [] → Begins m p marks new [] later → Climbing below declared new later × (mark_at new p ≡ Unseen → ⊥)
  begun marks new later p Unseen is within h b =
      let there : p < length marks = omega (arith, h.marked.size, within) in
      let first = come marks [] h p within is (λ s i. absurd (no_element i)) in
      let open_ : mark_at (set marks p Open) p ≡ Open = get_or-set_same marks p Open Unseen there in (
        subst (λ (ms : List Mark). Climbing below declared ms later) (sym b.0) (subst (λ (ss : List Step). Climbing below declared (set marks p Open) ss) (sym b.1) first),
        λ e. open_unseen (sym open_ ∙ (ap (λ (ms : List Mark). mark_at ms p) (sym b.0) ∙ e)),
      )
  begun marks new later p Open is within h b = (
    subst (λ (ms : List Mark). Climbing below declared ms later) (sym b.0) (subst (λ (ss : List Step). Climbing below declared marks ss) (sym b.1) h),
    λ e. open_unseen (sym is ∙ (ap (λ (ms : List Mark). mark_at ms p) (sym b.0) ∙ e)),
  )
  begun marks new later p (Settled n) is within h b = (
    subst (λ (ms : List Mark). Climbing below declared ms later) (sym b.0) (subst (λ (ss : List Step). Climbing below declared marks ss) (sym b.1) h),
    λ e. settled_unseen (sym is ∙ (ap (λ (ms : List Mark). mark_at ms p) (sym b.0) ∙ e)),
  )

  -- at the end of the way it is settled
  pub ended : (marks : List Mark) (p : ℕ) → Climbing below declared marks [] → (mark_at marks p ≡ Unseen → ⊥) → HasDepth marks p
  ended marks p h seen = at (mark_at marks p) refl
    where
      at : (m : Mark) → mark_at marks p ≡ m → HasDepth marks p
      at Unseen is = absurd (seen is)
      at Open is = let o = h.on_the_way p is in absurd (no_element o.1)
      at (Settled n) is = (n, is)
