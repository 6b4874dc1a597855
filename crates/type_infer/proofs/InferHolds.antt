-- The arguments and contexts that are computed are those that the rules derive.
use Rattle.std.proofs.Common.{◌≡◌, ◌≢◌, ℕ, ◌≤◌, Bool, true, false, List, [], ◌∷◌, ◌++◌, Option, Some, None, Result, Ok, Err, refl, subst, cond}
use Rattle.std.specs.Prelude.{nat_le}
use Rattle.std.proofs.lemmas.Bool.{leb-true, leb-false}
use Rattle.dart_types.specs.Ty.{Ty, nullable}
use Rattle.dart_types.specs.Heads.{object}
use Rattle.dart_types.specs.Normal.{substituted}
use Rattle.dart_types.specs.Same.{same_type}
use Rattle.dart_types.specs.Sizes.{size_of, held}
use Rattle.dart_types.specs.SubTest.{sub}
use Rattle.dart_types.specs.Tables.{Table}
use Rattle.dart_types.specs.declared.ids.VarId.{VarId}
use Rattle.dart_types.specs.declared.refusal.TheConstants.{NODE_LIMIT}
use Rattle.type_bounds.specs.Bounds.{Upper, Lower}
use Rattle.type_bounds.specs.BoundsOf.{upper_of, lower_of}
use Rattle.type_bounds.specs.Laws.{BoundLaws}
use Rattle.type_infer.specs.Constraints.{types_on}
use Rattle.type_infer.specs.Contexts.{Known, ContextOf, formed, large_context, large_solution, large_match}
use Rattle.type_infer.specs.Contexts as known
use Rattle.type_infer.specs.Inference as by
use Rattle.type_infer.specs.Inference.{Gathered, bound_with, declared_bound, Argument, Arguments, Inferred}
use Rattle.type_infer.specs.InferenceOf.{within_limit, unless_large, all_constraints, gathered_of, folded_of, bound_of_types, or_else, solution_of, refused_large, within_bound_of, argument_by, unless_refused, arguments_by, inferred_by, known_by, known_of, context_by}
use Rattle.type_infer.specs.Matching.{End, matched, mismatched, too_large, Match}
use Rattle.type_infer.specs.MatchOf.{match_of}
use Rattle.type_infer.specs.Pairs.{Pair}
use Rattle.type_infer.specs.Promotions.{unpromoted}
use Rattle.type_infer.specs.Solutions.{Folded, no_other, one_other, over_limit, Solution, by_upper, by_lower, IsFree}
use Rattle.type_infer.specs.declared.constraints.Constraint.{Constraint}
use Rattle.type_infer.specs.declared.constraints.Side.TheVariants.{AtLeast, AtMost}
use Rattle.type_infer.specs.declared.refusal.InferRefusal.{InferRefusal}
use Rattle.type_infer.specs.declared.refusal.InferRefusal.TheVariants.{NoSolution, Unconstrained}
use Rattle.type_infer.proofs.General.{clash}
use Rattle.type_infer.proofs.MatchHolds.{match_is}
use Rattle.type_infer.proofs.OneAnswer.{one_inference, one_context}

-- bounds of lists
module _ (bound : Ty → Ty → Ty → Type 0) (f : Ty → Ty → Ty) (holds : (t s : Ty) → bound t s (f t s)) where
  folds : (t : Ty) (ss : List Ty) → Folded bound t ss (folded_of f t ss)
  folds t [] = at (nat_le (size_of t) NODE_LIMIT) refl
    where
      at : (b : Bool) → nat_le (size_of t) NODE_LIMIT ≡ b → Folded bound t [] (cond b (Ok t) (Err (held (size_of t))))
      at true e = no_other (leb-true (size_of t) NODE_LIMIT e)
      at false e = over_limit (leb-false (size_of t) NODE_LIMIT e)
  folds t (s ∷ ss) = at (nat_le (size_of t) NODE_LIMIT) refl (folds (f t s) ss)
    where
      at : (b : Bool) → nat_le (size_of t) NODE_LIMIT ≡ b → Folded bound (f t s) ss (folded_of f (f t s) ss) → Folded bound t (s ∷ ss) (unless_large (cond b (Ok t) (Err (held (size_of t)))) (λ _. folded_of f (f t s) ss))
      at true e rest = one_other (leb-true (size_of t) NODE_LIMIT e) (holds t s) rest
      at false e rest = over_limit (leb-false (size_of t) NODE_LIMIT e)

module _ (table : Table) (laws : BoundLaws table) where
  -- the constraints of pairs
  module _ (params : List VarId) where
    one_gathered : (p : Pair) (ps : List Pair) (cs : List Constraint) (end : End) → Match table params p.side p.formal p.other cs end → (r : Result (List Constraint) ℕ) → Gathered table params ps r → Gathered table params (p ∷ ps) (all_constraints cs end r)
    one_gathered p ps cs matched m (Ok ds) g = by.one_pair m tt g
    one_gathered p ps cs matched m (Err nodes) g = by.large_later m tt g
    one_gathered p ps cs mismatched m (Ok ds) g = by.one_pair m tt g
    one_gathered p ps cs mismatched m (Err nodes) g = by.large_later m tt g
    one_gathered p ps cs (too_large nodes) m r g = by.large_here m

    gathered_is : (ps : List Pair) → Gathered table params ps (gathered_of table params ps)
    gathered_is [] = by.none_left
    gathered_is (p ∷ ps) =
        one_gathered p ps (match_of table params p.side p.formal p.other).constraints (match_of table params p.side p.formal p.other).end
        (match_is table laws params p.side p.formal p.other) (gathered_of table params ps) (gathered_is ps)

  module _ (cs : List Constraint) where
    -- a solution, if something constrains the parameter
    abbrev IsSolution : VarId → Option (Result Ty ℕ) → Type 0
    IsSolution x None = IsFree cs x
    IsSolution x (Some answer) = Solution table cs x answer

    solution_is : (x : VarId) → IsSolution x (solution_of table cs x)
    solution_is x = at (types_on AtLeast x cs) refl
      where
        below : (least : List Ty) → types_on AtLeast x cs ≡ [] → (most : List Ty) → types_on AtMost x cs ≡ most → IsSolution x (bound_of_types (lower_of table) most)
        below least none [] e = (none, e)
        below least none (t ∷ ts) e = by_lower none e (folds (Lower table) (lower_of table) laws.lower_holds t ts)

        at : (least : List Ty) → types_on AtLeast x cs ≡ least → IsSolution x (or_else (bound_of_types (upper_of table) least) (bound_of_types (lower_of table) (types_on AtMost x cs)))
        at [] e = below [] e (types_on AtMost x cs) refl
        at (t ∷ ts) e = by_upper e (folds (Upper table) (upper_of table) laws.upper_holds t ts)

    -- an argument
    module _ (before : List (VarId × Ty)) (x : VarId) where
      abbrev Bound : Ty
      Bound = bound_with table before x

      solved_is : (t : Ty) → Solution table cs x (Ok t) → Argument table cs before x (refused_large (within_limit Bound) (λ bound. within_bound_of table x (unpromoted t) bound))
      solved_is t s = at (nat_le (size_of Bound) NODE_LIMIT) refl
        where
          held_there : size_of Bound ≤ NODE_LIMIT → (b : Bool) → sub table (unpromoted t) Bound ≡ b → Argument table cs before x (cond b (Ok (unpromoted t)) (Err (NoSolution x)))
          held_there le true e = by.solved s le (laws.rows.sub_sound (unpromoted t) Bound e)
          held_there le false e = by.outside s le (λ a. clash (sub table (unpromoted t) Bound) (laws.rows.sub_complete (unpromoted t) Bound a) e)

          at : (b : Bool) → nat_le (size_of Bound) NODE_LIMIT ≡ b → Argument table cs before x (refused_large (cond b (Ok Bound) (Err (held (size_of Bound)))) (λ bound. within_bound_of table x (unpromoted t) bound))
          at true e = held_there (leb-true (size_of Bound) NODE_LIMIT e) (sub table (unpromoted t) Bound) refl
          at false e = by.large_beside s (leb-false (size_of Bound) NODE_LIMIT e)

      bound_is : IsFree cs x → declared_bound table x ≢ nullable object → Argument table cs before x (refused_large (within_limit Bound) (λ bound. Ok bound))
      bound_is free other = at (nat_le (size_of Bound) NODE_LIMIT) refl
        where
          at : (b : Bool) → nat_le (size_of Bound) NODE_LIMIT ≡ b → Argument table cs before x (refused_large (cond b (Ok Bound) (Err (held (size_of Bound)))) (λ bound. Ok bound))
          at true e = by.by_bound free other (leb-true (size_of Bound) NODE_LIMIT e)
          at false e = by.large_bound free other (leb-false (size_of Bound) NODE_LIMIT e)

      free_is : IsFree cs x → Argument table cs before x (argument_by table before x None)
      free_is free = at (same_type (declared_bound table x) (nullable object)) refl
        where
          at : (b : Bool) → same_type (declared_bound table x) (nullable object) ≡ b → Argument table cs before x (cond b (Err (Unconstrained x)) (refused_large (within_limit Bound) (λ bound. Ok bound)))
          at true e = by.no_bound free (laws.rows.types.equal_from_same_type (declared_bound table x) (nullable object) e)
          at false e =
              bound_is free (λ same. clash (same_type (declared_bound table x) (nullable object)) (subst (λ (t : Ty). same_type (declared_bound table x) t ≡ true) same (laws.rows.types.same_type-refl (declared_bound table x))) e)

      answered : (o : Option (Result Ty ℕ)) → IsSolution x o → Argument table cs before x (argument_by table before x o)
      answered None free = free_is free
      answered (Some (Ok t)) s = solved_is t s
      answered (Some (Err nodes)) s = by.large_solution s

      argument_is : Argument table cs before x (argument_by table before x (solution_of table cs x))
      argument_is = answered (solution_of table cs x) (solution_is x)

    -- the arguments one after another
    one_argument : (before : List (VarId × Ty)) (x : VarId) (xs : List VarId) (a : Result Ty InferRefusal) → Argument table cs before x a → ((t : Ty) → Arguments table cs (before ++ (x, t) ∷ []) xs (arguments_by table cs (before ++ (x, t) ∷ []) xs)) → Arguments table cs before (x ∷ xs) (unless_refused a (λ t. unless_refused (arguments_by table cs (before ++ (x, t) ∷ []) xs) (λ ts. Ok (t ∷ ts))))
    one_argument before x xs (Err why) a rest = by.refused_here a
    one_argument before x xs (Ok t) a rest = at (arguments_by table cs (before ++ (x, t) ∷ []) xs) (rest t)
      where
        at : (r : Result (List Ty) InferRefusal) → Arguments table cs (before ++ (x, t) ∷ []) xs r → Arguments table cs before (x ∷ xs) (unless_refused r (λ ts. Ok (t ∷ ts)))
        at (Ok ts) given = by.one_given a given
        at (Err why) given = by.refused_later a given

    arguments_are : (before : List (VarId × Ty)) (xs : List VarId) → Arguments table cs before xs (arguments_by table cs before xs)
    arguments_are before [] = by.all_given
    arguments_are before (x ∷ xs) = one_argument before x xs (argument_by table before x (solution_of table cs x)) (argument_is before x) (λ t. arguments_are (before ++ (x, t) ∷ []) xs)

    -- what is known of parameters in a context
    with_known : (x : VarId) (xs : List VarId) (r : Result (List (VarId × Ty)) ℕ) → Known table cs xs r → (o : Option (Result Ty ℕ)) → IsSolution x o → Known table cs (x ∷ xs) (unless_large (known_by o) (λ t. unless_large r (λ pairs. Ok ((x, t) ∷ pairs))))
    with_known x xs (Ok pairs) k None free = known.one_open free k
    with_known x xs (Err nodes) k None free = known.large_behind_open free k
    with_known x xs (Ok pairs) k (Some (Ok t)) s = known.one_solved s k
    with_known x xs (Err nodes) k (Some (Ok t)) s = known.large_behind_solved s k
    with_known x xs r k (Some (Err nodes)) s = known.large_here s

    known_is : (xs : List VarId) → Known table cs xs (known_of table cs xs)
    known_is [] = known.none_left
    known_is (x ∷ xs) = with_known x xs (known_of table cs xs) (known_is xs) (solution_of table cs x) (solution_is x)

  module _ (params : List VarId) (pairs : List Pair) where
    -- the answers
    pub inferred_holds : Inferred table params pairs (inferred_by table params pairs)
    inferred_holds = at (gathered_of table params pairs) (gathered_is params pairs)
      where
        at : (r : Result (List Constraint) ℕ) → Gathered table params pairs r → Inferred table params pairs (refused_large r (λ cs. arguments_by table cs [] params))
        at (Ok cs) g = by.by_constraints g (arguments_are cs [] params)
        at (Err nodes) g = by.large_match g

    pub inferred_is : {a : Result (List Ty) InferRefusal} → Inferred table params pairs a → a ≡ inferred_by table params pairs
    inferred_is h = one_inference table laws params h inferred_holds

    context_within : (formal : Ty) (cs : List Constraint) (pairs_known : List (VarId × Ty)) → Gathered table params pairs (Ok cs) → Known table cs params (Ok pairs_known) → ContextOf table params pairs formal (within_limit (substituted pairs_known formal))
    context_within formal cs pairs_known g k = at (nat_le (size_of (substituted pairs_known formal)) NODE_LIMIT) refl
      where
        at : (b : Bool) → nat_le (size_of (substituted pairs_known formal)) NODE_LIMIT ≡ b → ContextOf table params pairs formal (cond b (Ok (substituted pairs_known formal)) (Err (held (size_of (substituted pairs_known formal)))))
        at true e = formed g k (leb-true (size_of (substituted pairs_known formal)) NODE_LIMIT e)
        at false e = large_context g k (leb-false (size_of (substituted pairs_known formal)) NODE_LIMIT e)

    context_known : (formal : Ty) (cs : List Constraint) → Gathered table params pairs (Ok cs) → (r : Result (List (VarId × Ty)) ℕ) → Known table cs params r → ContextOf table params pairs formal (unless_large r (λ ps. within_limit (substituted ps formal)))
    context_known formal cs g (Ok pairs_known) k = context_within formal cs pairs_known g k
    context_known formal cs g (Err nodes) k = large_solution g k

    pub context_holds : (formal : Ty) → ContextOf table params pairs formal (context_by table params pairs formal)
    context_holds formal = at (gathered_of table params pairs) (gathered_is params pairs)
      where
        at : (r : Result (List Constraint) ℕ) → Gathered table params pairs r → ContextOf table params pairs formal (unless_large r (λ cs. unless_large (known_of table cs params) (λ ps. within_limit (substituted ps formal))))
        at (Ok cs) g = context_known formal cs g (known_of table cs params) (known_is cs params)
        at (Err nodes) g = large_match g

    pub context_is : {formal : Ty} {a : Result Ty ℕ} → ContextOf table params pairs formal a → a ≡ context_by table params pairs formal
    context_is {formal} h = one_context table laws params h (context_holds formal)
