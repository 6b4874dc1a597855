-- The arguments for parameters, one after another.
use Rattle.std.proofs.Common.{◌≡◌, ℕ, ◌+◌, ◌<◌, List, [], ◌∷◌, ◌++◌, map, drop, length, get_or, Result, Ok, Err, sym, ◌∙◌, ap, subst, add-one, drop-cons, append_assoc}
use Rattle.std.proofs.lemmas.List.{append-nil, map-append}
use Rattle.dart_types.specs.Ty.{Ty}
use Rattle.dart_types.specs.Tables.{Table}
use Rattle.dart_types.specs.declared.ids.VarId.{VarId}
use Rattle.dart_types.specs.declared.refusal.TypeRefusal.{TypeRefusal}
use Rattle.dart_types.specs.declared.refusal.TypeRefusal.TheVariants as of_type
use Rattle.type_infer.specs.Pairs.{Pair}
use Rattle.type_infer.specs.Refusals.{same_refusal}
use Rattle.type_infer.specs.Solutions.{Solution, IsFree}
use Rattle.type_infer.specs.Solves.{Solves}
use Rattle.type_infer.specs.Inference.{Gathered, Argument, solved, outside, by_bound, no_bound, large_solution, large_beside, large_bound, Arguments, all_given, one_given, refused_later, refused_here, by_constraints, large_match, Inferred}
use Rattle.type_infer.specs.Gathers.{EndsGathering}
use Rattle.type_infer.specs.Gives.{Gives}
use Rattle.type_infer.specs.Bounded.{IsHeld, IsByBound}
use Rattle.type_infer.specs.declared.constraints.Constraint.{Constraint}
use Rattle.type_infer.specs.declared.refusal.InferRefusal.{InferRefusal}
use Rattle.type_infer.specs.declared.refusal.InferRefusal.TheVariants.{NoSolution, Unconstrained, TooLarge, Memory}

module _ (table : Table) (cs : List Constraint) (before : List (VarId × Ty)) (x : VarId) where
  -- a solution that is too large
  pub solution_refused : (why : TypeRefusal) (said : InferRefusal) → Solves table cs x (Err why) → same_refusal why said → Gives (Argument table cs before x) (Err said)
  solution_refused (of_type.TooLarge nodes) said h e = subst (λ (r : InferRefusal). Gives (Argument table cs before x) (Err r)) (sym e) (large_solution h)
  solution_refused of_type.Memory said h e = subst (λ (r : InferRefusal). Gives (Argument table cs before x) (Err r)) (sym e) tt

  -- a solution that was held against the bound
  pub solution_held : (s : Ty) → Solution table cs x (Ok s) → (answer : Result Ty InferRefusal) → IsHeld table before x s answer → Gives (Argument table cs before x) answer
  solution_held s so (Ok t) (e, le, below) = subst (λ (u : Ty). Argument table cs before x (Ok u)) (sym e) (solved so le below)
  solution_held s so (Err (NoSolution y)) (e, le, apart) = subst (λ (z : VarId). Argument table cs before x (Err (NoSolution z))) (sym e) (outside so le apart)
  solution_held s so (Err (Unconstrained y)) h = absurd h
  solution_held s so (Err (TooLarge nodes)) (lt, e) = subst (λ (n : ℕ). Argument table cs before x (Err (TooLarge n))) (sym e) (large_beside so lt)
  solution_held s so (Err Memory) h = tt

  -- no solution, so the bound was taken
  pub bound_taken : IsFree cs x → (answer : Result Ty InferRefusal) → IsByBound table before x answer → Gives (Argument table cs before x) answer
  bound_taken free (Ok t) (bounded, e, le) = subst (λ (u : Ty). Argument table cs before x (Ok u)) (sym e) (by_bound free bounded le)
  bound_taken free (Err (NoSolution y)) h = absurd h
  bound_taken free (Err (Unconstrained y)) (e, unbounded) = subst (λ (z : VarId). Argument table cs before x (Err (Unconstrained z))) (sym e) (no_bound free unbounded)
  bound_taken free (Err (TooLarge nodes)) (bounded, (lt, e)) = subst (λ (n : ℕ). Argument table cs before x (Err (TooLarge n))) (sym e) (large_bound free bounded lt)
  bound_taken free (Err Memory) h = tt

-- the types of pairs
abbrev pub types_in : List (VarId × Ty) → List Ty
types_in pairs = map (λ p. p.1) pairs

module _ (table : Table) (cs : List Constraint) where
  -- so far on the way through all parameters: those that are left, and the arguments given
  pub record IsGiving (all left : List VarId) (given : List (VarId × Ty)) : Type 0 where
    pub given_all : (ts : List Ty) → Arguments table cs given left (Ok ts) → Arguments table cs [] all (Ok (types_in given ++ ts))
    pub refused : (why : InferRefusal) → Arguments table cs given left (Err why) → Arguments table cs [] all (Err why)

  pub giving_begins : (all : List VarId) → IsGiving all all []
  giving_begins all = record { given_all = λ ts a. a; refused = λ why a. a }

  pub giving_goes_on : {all left : List VarId} {given : List (VarId × Ty)} (x : VarId) (t : Ty) → Argument table cs given x (Ok t) → IsGiving all (x ∷ left) given → IsGiving all left (given ++ (x, t) ∷ [])
  giving_goes_on {all} {left} {given} x t a way = record {
    given_all = λ ts rest.
        subst (λ (us : List Ty). Arguments table cs [] all (Ok us))
        (sym (append_assoc (types_in given) (t ∷ []) ts) ∙ ap (λ (us : List Ty). us ++ ts) (sym (map-append (λ (p : VarId × Ty). p.1) given ((x, t) ∷ []))))
        (way.given_all (t ∷ ts) (one_given a rest));
    refused = λ why rest. way.refused why (refused_later a rest);
  }

  pub giving_refused : {all left : List VarId} {given : List (VarId × Ty)} (x : VarId) (why : InferRefusal) → Gives (Argument table cs given x) (Err why) → IsGiving all (x ∷ left) given → Gives (Arguments table cs [] all) (Err why)
  giving_refused x (NoSolution y) a way = way.refused (NoSolution y) (refused_here a)
  giving_refused x (Unconstrained y) a way = way.refused (Unconstrained y) (refused_here a)
  giving_refused x (TooLarge nodes) a way = way.refused (TooLarge nodes) (refused_here a)
  giving_refused x Memory a way = tt

  pub giving_ends : {all left : List VarId} {given : List (VarId × Ty)} → left ≡ [] → IsGiving all left given → Arguments table cs [] all (Ok (types_in given))
  giving_ends {all} {left} {given} e way =
      subst (λ (us : List Ty). Arguments table cs [] all (Ok us)) (append-nil (types_in given))
      (way.given_all [] (subst (λ (xs : List VarId). Arguments table cs given xs (Ok [])) (sym e) all_given))

-- the parameters from one place on
pub next_param : (xs : List VarId) (i : ℕ) (d : VarId) → i < length xs → drop i xs ≡ get_or xs i d ∷ drop (i + 1) xs
next_param xs i d lt = drop-cons xs i d lt ∙ ap (λ (n : ℕ). get_or xs i d ∷ drop n xs) (sym (add-one i))

module _ (table : Table) (params : List VarId) (pairs : List Pair) where
  -- the arguments by all constraints
  pub inferred : {cs : List Constraint} → Gathered table params pairs (Ok cs) → (answer : Result (List Ty) InferRefusal) → Gives (Arguments table cs [] params) answer → Gives (Inferred table params pairs) answer
  inferred g (Ok ts) a = by_constraints g a
  inferred g (Err (NoSolution x)) a = by_constraints g a
  inferred g (Err (Unconstrained x)) a = by_constraints g a
  inferred g (Err (TooLarge nodes)) a = by_constraints g a
  inferred g (Err Memory) a = tt

  -- or a type that is too large on the way to them
  pub not_gathered : (why : TypeRefusal) (said : InferRefusal) → EndsGathering table params pairs why → same_refusal why said → Gives (Inferred table params pairs) (Err said)
  not_gathered (of_type.TooLarge nodes) said h e = subst (λ (r : InferRefusal). Gives (Inferred table params pairs) (Err r)) (sym e) (large_match h)
  not_gathered of_type.Memory said h e = subst (λ (r : InferRefusal). Gives (Inferred table params pairs) (Err r)) (sym e) tt
