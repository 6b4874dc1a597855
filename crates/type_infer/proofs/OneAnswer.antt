-- The rules of inference derive one answer at most.
use Rattle.std.proofs.Common.{◌≡◌, ℕ, ◌<◌, ◌≤◌, List, [], ◌∷◌, ◌++◌, Result, Ok, Err, refl, sym, ap, subst, arith}
use Rattle.dart_types.specs.Ty.{Ty}
use Rattle.dart_types.specs.Normal.{substituted}
use Rattle.dart_types.specs.Sizes.{size_of, held}
use Rattle.dart_types.specs.Sub.{Sub}
use Rattle.dart_types.specs.Tables.{Table}
use Rattle.dart_types.specs.declared.ids.VarId.{VarId}
use Rattle.dart_types.specs.declared.refusal.TheConstants.{NODE_LIMIT}
use Rattle.type_bounds.specs.Bounds.{Upper, Lower}
use Rattle.type_bounds.specs.Laws.{BoundLaws}
use Rattle.type_infer.specs.Contexts.{Known, none_left, one_solved, one_open, large_here, large_behind_solved, large_behind_open, ContextOf, formed, large_context, large_solution, large_match}
use Rattle.type_infer.specs.Inference as by
use Rattle.type_infer.specs.Inference.{IsWithin, Gathered, bound_with, Argument, Arguments, Inferred}
use Rattle.type_infer.specs.Matching.{End, too_large}
use Rattle.type_infer.specs.Pairs.{Pair}
use Rattle.type_infer.specs.Promotions.{unpromoted}
use Rattle.type_infer.specs.Solutions.{Folded, no_other, one_other, over_limit, Solution, by_upper, by_lower, IsFree}
use Rattle.type_infer.specs.declared.constraints.Constraint.{Constraint}
use Rattle.type_infer.specs.declared.refusal.InferRefusal.{InferRefusal}
use Rattle.type_infer.specs.declared.refusal.InferRefusal.TheVariants.{TooLarge}
use Rattle.type_infer.proofs.OneMatch.{one_match}

-- an answer is no refusal
ok_err : {A T E : Type 0} {t : T} {e : E} → ◌≡◌ {A = Result T E} (Ok t) (Err e) → A
ok_err e = cc

of_ok : {T E : Type 0} {t s : T} → ◌≡◌ {A = Result T E} (Ok t) (Ok s) → t ≡ s
of_ok e = cc

of_err : {T E : Type 0} {e f : E} → ◌≡◌ {A = Result T E} (Err e) (Err f) → e ≡ f
of_err e = cc

-- a size isn't within the limit and over it
within_and_over : {A : Type 0} (n : ℕ) → n ≤ NODE_LIMIT → NODE_LIMIT < n → A
within_and_over n h k = absurd (omega (arith, h, k))

-- bounds of lists
module _ (bound : Ty → Ty → Ty → Type 0) (one : (t s u v : Ty) → bound t s u → bound t s v → u ≡ v) where
  one_fold : {t : Ty} {ss : List Ty} {a b : Result Ty ℕ} → Folded bound t ss a → Folded bound t ss b → a ≡ b
  one_fold (no_other h) (no_other k) = refl
  one_fold {t} (no_other h) (over_limit k) = within_and_over (size_of t) h k
  one_fold {t} (one_other {s = s} {u = u} {ss = ss} h p f) (one_other {u = v} {answer = b} k q g) = one_fold f (subst (λ (w : Ty). Folded bound w ss b) (one t s v u q p) g)
  one_fold {t} (one_other h p f) (over_limit k) = within_and_over (size_of t) h k
  one_fold {t} (over_limit h) (no_other k) = within_and_over (size_of t) k h
  one_fold {t} (over_limit h) (one_other k q g) = within_and_over (size_of t) k h
  one_fold (over_limit h) (over_limit k) = refl

module _ (table : Table) (laws : BoundLaws table) where
  module _ (cs : List Constraint) where
    nonempty : {A : Type 0} {t : Ty} {ts list : List Ty} → list ≡ t ∷ ts → list ≡ [] → A
    nonempty e f = cc

    same_fold : {bound : Ty → Ty → Ty → Type 0} {t s : Ty} {ts ss list : List Ty} {a : Result Ty ℕ} → list ≡ t ∷ ts → list ≡ s ∷ ss → Folded bound s ss a → Folded bound t ts a
    same_fold {bound} {t} {s} {ts} {ss} {list} {a} e f g =
        let h : s ≡ t = cc in
        let k : ss ≡ ts = cc in
        subst (λ (us : List Ty). Folded bound t us a) k (subst (λ (u : Ty). Folded bound u ss a) h g)

    -- a parameter that is constrained has one solution
    pub one_solution : {x : VarId} {a b : Result Ty ℕ} → Solution table cs x a → Solution table cs x b → a ≡ b
    one_solution (by_upper e f) (by_upper k g) = one_fold (Upper table) laws.one_upper f (same_fold e k g)
    one_solution (by_upper e f) (by_lower n k g) = nonempty e n
    one_solution (by_lower n e f) (by_upper k g) = nonempty k n
    one_solution (by_lower n e f) (by_lower m k g) = one_fold (Lower table) laws.one_lower f (same_fold e k g)

    free_unsolved : {A : Type 0} {x : VarId} {a : Result Ty ℕ} → IsFree cs x → Solution table cs x a → A
    free_unsolved p (by_upper e f) = nonempty e p.0
    free_unsolved p (by_lower n e f) = nonempty e p.1

    same_solution : {x : VarId} {t s : Ty} → Solution table cs x (Ok t) → Solution table cs x (Ok s) → t ≡ s
    same_solution a b = of_ok (one_solution a b)

    solved_large : {A : Type 0} {x : VarId} {t : Ty} {nodes : ℕ} → Solution table cs x (Ok t) → Solution table cs x (Err nodes) → A
    solved_large a b = ok_err (one_solution a b)

    same_nodes : {x : VarId} {m n : ℕ} → Solution table cs x (Err m) → Solution table cs x (Err n) → m ≡ n
    same_nodes a b = of_err (one_solution a b)

    module _ (before : List (VarId × Ty)) (x : VarId) where
      abbrev Bound : Ty
      Bound = bound_with table before x

      inside_outside : {A : Type 0} {t s : Ty} → t ≡ s → Sub table (unpromoted t) Bound → (Sub table (unpromoted s) Bound → ⊥) → A
      inside_outside e p n = absurd (n (subst (λ (u : Ty). Sub table (unpromoted u) Bound) e p))

      -- and one argument
      one_argument : {a b : Result Ty InferRefusal} → Argument table cs before x a → Argument table cs before x b → a ≡ b
      one_argument (by.solved s h p) (by.solved t k q) = ap (λ (u : Ty). Ok (unpromoted u)) (same_solution s t)
      one_argument (by.solved s h p) (by.outside t k n) = inside_outside (same_solution s t) p n
      one_argument (by.solved s h p) (by.large_solution t) = solved_large s t
      one_argument (by.solved s h p) (by.large_beside t k) = within_and_over (size_of Bound) h k
      one_argument (by.outside s h n) (by.solved t k q) = inside_outside (same_solution t s) q n
      one_argument (by.outside s h n) (by.outside t k m) = refl
      one_argument (by.outside s h n) (by.large_solution t) = solved_large s t
      one_argument (by.outside s h n) (by.large_beside t k) = within_and_over (size_of Bound) h k
      one_argument (by.large_solution s) (by.solved t k q) = solved_large t s
      one_argument (by.large_solution s) (by.outside t k n) = solved_large t s
      one_argument (by.large_solution s) (by.large_solution t) = ap (λ (n : ℕ). Err (TooLarge n)) (same_nodes s t)
      one_argument (by.large_solution s) (by.large_beside t k) = solved_large t s
      one_argument (by.large_beside s h) (by.solved t k q) = within_and_over (size_of Bound) k h
      one_argument (by.large_beside s h) (by.outside t k n) = within_and_over (size_of Bound) k h
      one_argument (by.large_beside s h) (by.large_solution t) = solved_large s t
      one_argument (by.large_beside s h) (by.large_beside t k) = refl
      one_argument (by.by_bound f d h) (by.by_bound g e k) = refl
      one_argument (by.by_bound f d h) (by.no_bound g e) = absurd (d e)
      one_argument (by.by_bound f d h) (by.large_bound g e k) = within_and_over (size_of Bound) h k
      one_argument (by.no_bound f d) (by.by_bound g e k) = absurd (e d)
      one_argument (by.no_bound f d) (by.no_bound g e) = refl
      one_argument (by.no_bound f d) (by.large_bound g e k) = absurd (e d)
      one_argument (by.large_bound f d h) (by.by_bound g e k) = within_and_over (size_of Bound) k h
      one_argument (by.large_bound f d h) (by.no_bound g e) = absurd (d e)
      one_argument (by.large_bound f d h) (by.large_bound g e k) = refl
      one_argument (by.solved s h p) (by.by_bound g e k) = free_unsolved g s
      one_argument (by.solved s h p) (by.no_bound g e) = free_unsolved g s
      one_argument (by.solved s h p) (by.large_bound g e k) = free_unsolved g s
      one_argument (by.outside s h n) (by.by_bound g e k) = free_unsolved g s
      one_argument (by.outside s h n) (by.no_bound g e) = free_unsolved g s
      one_argument (by.outside s h n) (by.large_bound g e k) = free_unsolved g s
      one_argument (by.large_solution s) (by.by_bound g e k) = free_unsolved g s
      one_argument (by.large_solution s) (by.no_bound g e) = free_unsolved g s
      one_argument (by.large_solution s) (by.large_bound g e k) = free_unsolved g s
      one_argument (by.large_beside s h) (by.by_bound g e k) = free_unsolved g s
      one_argument (by.large_beside s h) (by.no_bound g e) = free_unsolved g s
      one_argument (by.large_beside s h) (by.large_bound g e k) = free_unsolved g s
      one_argument (by.by_bound f d h) (by.solved t k q) = free_unsolved f t
      one_argument (by.by_bound f d h) (by.outside t k n) = free_unsolved f t
      one_argument (by.by_bound f d h) (by.large_solution t) = free_unsolved f t
      one_argument (by.by_bound f d h) (by.large_beside t k) = free_unsolved f t
      one_argument (by.no_bound f d) (by.solved t k q) = free_unsolved f t
      one_argument (by.no_bound f d) (by.outside t k n) = free_unsolved f t
      one_argument (by.no_bound f d) (by.large_solution t) = free_unsolved f t
      one_argument (by.no_bound f d) (by.large_beside t k) = free_unsolved f t
      one_argument (by.large_bound f d h) (by.solved t k q) = free_unsolved f t
      one_argument (by.large_bound f d h) (by.outside t k n) = free_unsolved f t
      one_argument (by.large_bound f d h) (by.large_solution t) = free_unsolved f t
      one_argument (by.large_bound f d h) (by.large_beside t k) = free_unsolved f t

    -- what is derived of the parameters behind one that has an argument
    behind : {before : List (VarId × Ty)} {x : VarId} {xs : List VarId} {t s : Ty} {b : Result (List Ty) InferRefusal} → Argument table cs before x (Ok t) → Argument table cs before x (Ok s) → Arguments table cs (before ++ (x, s) ∷ []) xs b → Arguments table cs (before ++ (x, t) ∷ []) xs b
    behind {before} {x} {xs} {t} {s} {b} p q rest = subst (λ (u : Ty). Arguments table cs (before ++ (x, u) ∷ []) xs b) (of_ok (one_argument before x q p)) rest

    given_refused : {A : Type 0} {before : List (VarId × Ty)} {x : VarId} {t : Ty} {why : InferRefusal} → Argument table cs before x (Ok t) → Argument table cs before x (Err why) → A
    given_refused {before = before} {x = x} p q = ok_err (one_argument before x p q)

    one_arguments : {before : List (VarId × Ty)} {xs : List VarId} {a b : Result (List Ty) InferRefusal} → Arguments table cs before xs a → Arguments table cs before xs b → a ≡ b
    one_arguments by.all_given by.all_given = refl
    one_arguments {before} (by.one_given {x = x} p rest) (by.one_given q others) =
        let e = of_ok (one_argument before x p q) in
        let f = of_ok (one_arguments rest (behind p q others)) in
        cc
    one_arguments (by.one_given p rest) (by.refused_later q others) = ok_err (one_arguments rest (behind p q others))
    one_arguments (by.one_given p rest) (by.refused_here q) = given_refused p q
    one_arguments (by.refused_later p rest) (by.one_given q others) = ok_err (sym (one_arguments rest (behind p q others)))
    one_arguments (by.refused_later p rest) (by.refused_later q others) = ap Err (of_err (one_arguments rest (behind p q others)))
    one_arguments (by.refused_later p rest) (by.refused_here q) = given_refused p q
    one_arguments (by.refused_here p) (by.one_given q others) = given_refused q p
    one_arguments (by.refused_here p) (by.refused_later q others) = given_refused q p
    one_arguments {before} (by.refused_here {x = x} p) (by.refused_here q) = ap Err (of_err (one_argument before x p q))

    -- what is known of the parameters in a context
    one_known : {xs : List VarId} {a b : Result (List (VarId × Ty)) ℕ} → Known table cs xs a → Known table cs xs b → a ≡ b
    one_known none_left none_left = refl
    one_known (one_solved s m) (one_solved t n) =
        let e = same_solution s t in
        let f = of_ok (one_known m n) in
        cc
    one_known (one_solved s m) (one_open f n) = free_unsolved f s
    one_known (one_solved s m) (large_here t) = solved_large s t
    one_known (one_solved s m) (large_behind_solved t n) = ok_err (one_known m n)
    one_known (one_solved s m) (large_behind_open f n) = free_unsolved f s
    one_known (one_open f m) (one_solved t n) = free_unsolved f t
    one_known (one_open f m) (one_open g n) = let e = of_ok (one_known m n) in cc
    one_known (one_open f m) (large_here t) = free_unsolved f t
    one_known (one_open f m) (large_behind_solved t n) = free_unsolved f t
    one_known (one_open f m) (large_behind_open g n) = ok_err (one_known m n)
    one_known (large_here s) (one_solved t n) = solved_large t s
    one_known (large_here s) (one_open f n) = free_unsolved f s
    one_known (large_here s) (large_here t) = ap Err (same_nodes s t)
    one_known (large_here s) (large_behind_solved t n) = solved_large t s
    one_known (large_here s) (large_behind_open f n) = free_unsolved f s
    one_known (large_behind_solved s m) (one_solved t n) = ok_err (sym (one_known m n))
    one_known (large_behind_solved s m) (one_open f n) = free_unsolved f s
    one_known (large_behind_solved s m) (large_here t) = solved_large s t
    one_known (large_behind_solved s m) (large_behind_solved t n) = one_known m n
    one_known (large_behind_solved s m) (large_behind_open f n) = free_unsolved f s
    one_known (large_behind_open f m) (one_solved t n) = free_unsolved f t
    one_known (large_behind_open f m) (one_open g n) = ok_err (sym (one_known m n))
    one_known (large_behind_open f m) (large_here t) = free_unsolved f t
    one_known (large_behind_open f m) (large_behind_solved t n) = free_unsolved f t
    one_known (large_behind_open f m) (large_behind_open g n) = one_known m n

  module _ (params : List VarId) where
    large_end : {A : Type 0} {end : End} {nodes : ℕ} → end ≡ too_large nodes → IsWithin end → A
    large_end e w = absurd (subst IsWithin e w)

    -- the constraints of all pairs
    one_gathering : {ps : List Pair} {a b : Result (List Constraint) ℕ} → Gathered table params ps a → Gathered table params ps b → a ≡ b
    one_gathering by.none_left by.none_left = refl
    one_gathering (by.one_pair m w rest) (by.one_pair n v others) =
        let e = (one_match table params m n).0 in
        let f = of_ok (one_gathering rest others) in
        cc
    one_gathering (by.one_pair m w rest) (by.large_later n v others) = ok_err (one_gathering rest others)
    one_gathering (by.one_pair m w rest) (by.large_here n) = large_end (one_match table params m n).1 w
    one_gathering (by.large_later m w rest) (by.one_pair n v others) = ok_err (sym (one_gathering rest others))
    one_gathering (by.large_later m w rest) (by.large_later n v others) = ap Err (of_err (one_gathering rest others))
    one_gathering (by.large_later m w rest) (by.large_here n) = large_end (one_match table params m n).1 w
    one_gathering (by.large_here m) (by.one_pair n v others) = large_end (one_match table params n m).1 v
    one_gathering (by.large_here m) (by.large_later n v others) = large_end (one_match table params n m).1 v
    one_gathering (by.large_here m) (by.large_here n) = let e = (one_match table params m n).1 in cc

    -- the arguments of a call
    pub one_inference : {ps : List Pair} {a b : Result (List Ty) InferRefusal} → Inferred table params ps a → Inferred table params ps b → a ≡ b
    one_inference (by.by_constraints {cs = cs} g p) (by.by_constraints {cs = ds} {answer = b} h q) =
        one_arguments cs p (subst (λ (es : List Constraint). Arguments table es [] params b) (of_ok (one_gathering h g)) q)
    one_inference (by.by_constraints g p) (by.large_match h) = ok_err (one_gathering g h)
    one_inference (by.large_match g) (by.by_constraints h q) = ok_err (one_gathering h g)
    one_inference (by.large_match g) (by.large_match h) = ap (λ (n : ℕ). Err (TooLarge n)) (of_err (one_gathering g h))

    -- the context of an argument
    -- of both derivations the same is known
    module _ {ps : List Pair} where
      same_known : {cs ds : List Constraint} {a b : Result (List (VarId × Ty)) ℕ} → Gathered table params ps (Ok cs) → Gathered table params ps (Ok ds) → Known table cs params a → Known table ds params b → a ≡ b
      same_known {cs} {ds} {a} {b} g h k l = one_known cs k (subst (λ (es : List Constraint). Known table es params b) (of_ok (one_gathering h g)) l)

      pub one_context : {formal : Ty} {a b : Result Ty ℕ} → ContextOf table params ps formal a → ContextOf table params ps formal b → a ≡ b
      one_context {formal} (formed g k h) (formed g' k' h') = ap (λ (known : List (VarId × Ty)). Ok (substituted known formal)) (of_ok (same_known g g' k k'))
      one_context {formal} (formed {known = known} g k h) (large_context {known = other} g' k' h') =
          within_and_over (size_of (substituted known formal)) h (subst (λ (ks : List (VarId × Ty)). NODE_LIMIT < size_of (substituted ks formal)) (of_ok (same_known g' g k' k)) h')
      one_context {formal} (formed g k h) (large_solution g' k') = ok_err (same_known g g' k k')
      one_context {formal} (formed g k h) (large_match g') = ok_err (one_gathering g g')
      one_context {formal} (large_context g k h) (formed {known = other} g' k' h') =
          within_and_over (size_of (substituted other formal)) h' (subst (λ (ks : List (VarId × Ty)). NODE_LIMIT < size_of (substituted ks formal)) (of_ok (same_known g g' k k')) h)
      one_context {formal} (large_context g k h) (large_context g' k' h') = ap (λ (known : List (VarId × Ty)). Err (held (size_of (substituted known formal)))) (of_ok (same_known g g' k k'))
      one_context {formal} (large_context g k h) (large_solution g' k') = ok_err (same_known g g' k k')
      one_context {formal} (large_context g k h) (large_match g') = ok_err (one_gathering g g')
      one_context (large_solution g k) (formed g' k' h') = ok_err (same_known g' g k' k)
      one_context (large_solution g k) (large_context g' k' h') = ok_err (same_known g' g k' k)
      one_context (large_solution g k) (large_solution g' k') = ap Err (of_err (same_known g g' k k'))
      one_context (large_solution g k) (large_match g') = ok_err (one_gathering g g')
      one_context (large_match g) (formed g' k' h') = ok_err (one_gathering g' g)
      one_context (large_match g) (large_context g' k' h') = ok_err (one_gathering g' g)
      one_context (large_match g) (large_solution g' k') = ok_err (one_gathering g' g)
      one_context (large_match g) (large_match g') = ap Err (of_err (one_gathering g g'))
