-- What stands for the parameters in a context, one after another.
use Rattle.std.proofs.Common.{◌≡◌, ℕ, List, [], ◌∷◌, ◌++◌, Result, Ok, Err, sym, subst, append_assoc, inl, inr}
use Rattle.std.proofs.lemmas.List.{append-nil}
use Rattle.dart_types.specs.Ty.{Ty}
use Rattle.dart_types.specs.Formed.{Forms}
use Rattle.dart_types.specs.Normal.{substituted}
use Rattle.dart_types.specs.Tables.{Table}
use Rattle.dart_types.specs.declared.ids.VarId.{VarId}
use Rattle.dart_types.specs.declared.refusal.TypeRefusal.{TypeRefusal}
use Rattle.dart_types.specs.declared.refusal.TypeRefusal.TheVariants as of_type
use Rattle.type_infer.specs.Pairs.{Pair}
use Rattle.type_infer.specs.Refusals.{same_refusal}
use Rattle.type_infer.specs.Inference.{Gathered}
use Rattle.type_infer.specs.Gathers.{EndsGathering}
use Rattle.type_infer.specs.Contexts.{Known, none_left, one_solved, one_open, large_here, large_behind_solved, large_behind_open, ContextOf, formed, large_context, large_solution, large_match}
use Rattle.type_infer.specs.Knows.{EndsKnown, KnowsOne}
use Rattle.type_infer.specs.declared.constraints.Constraint.{Constraint}
use Rattle.type_infer.specs.declared.refusal.InferRefusal.{InferRefusal}
use Rattle.type_infer.specs.declared.refusal.InferRefusal.TheVariants.{NoSolution, Unconstrained, TooLarge, Memory}

-- what a call that forms a context answers: never that a parameter has no argument; only want of memory is free
abbrev pub FormsContext : Table → List VarId → List Pair → Ty → Result Ty InferRefusal → Type 0
FormsContext table params pairs formal (Ok context) = ContextOf table params pairs formal (Ok context)
FormsContext table params pairs formal (Err (NoSolution x)) = ⊥
FormsContext table params pairs formal (Err (Unconstrained x)) = ⊥
FormsContext table params pairs formal (Err (TooLarge nodes)) = ContextOf table params pairs formal (Err nodes)
FormsContext table params pairs formal (Err Memory) = Unit {0}

module _ (table : Table) (cs : List Constraint) where
  -- so far on the way through all parameters: those that are left, and what is known
  pub record IsLearning (all left : List VarId) (known : List (VarId × Ty)) : Type 0 where
    pub known_all : (ps : List (VarId × Ty)) → Known table cs left (Ok ps) → Known table cs all (Ok (known ++ ps))
    pub ended : (why : TypeRefusal) → EndsKnown table cs left why → EndsKnown table cs all why

  pub learning_begins : (all : List VarId) → IsLearning all all []
  learning_begins all = record { known_all = λ ps k. k; ended = λ why k. k }

  pub learning_goes_on : {all left : List VarId} {known : List (VarId × Ty)} (x : VarId) (t : Ty) → KnowsOne table cs x (Ok t) → IsLearning all (x ∷ left) known → IsLearning all left (known ++ (x, t) ∷ [])
  learning_goes_on {all} {left} {known} x t one way = record {
    known_all = λ ps k.
        subst (λ (qs : List (VarId × Ty)). Known table cs all (Ok qs)) (sym (append_assoc known ((x, t) ∷ []) ps))
        (way.known_all ((x, t) ∷ ps) (put_on one ps k));
    ended = λ why k. way.ended why (end_on one why k);
  }
    where
      put_on : KnowsOne table cs x (Ok t) → (ps : List (VarId × Ty)) → Known table cs left (Ok ps) → Known table cs (x ∷ left) (Ok ((x, t) ∷ ps))
      put_on (inl (s, so, e)) ps k = subst (λ (u : Ty). Known table cs (x ∷ left) (Ok ((x, u) ∷ ps))) (sym e) (one_solved so k)
      put_on (inr (free, e)) ps k = subst (λ (u : Ty). Known table cs (x ∷ left) (Ok ((x, u) ∷ ps))) (sym e) (one_open free k)

      end_on : KnowsOne table cs x (Ok t) → (why : TypeRefusal) → EndsKnown table cs left why → EndsKnown table cs (x ∷ left) why
      end_on (inl (s, so, e)) (of_type.TooLarge nodes) k = large_behind_solved so k
      end_on (inr (free, e)) (of_type.TooLarge nodes) k = large_behind_open free k
      end_on one of_type.Memory k = tt

  pub learning_refused : {all left : List VarId} {known : List (VarId × Ty)} (x : VarId) (why : TypeRefusal) → KnowsOne table cs x (Err why) → IsLearning all (x ∷ left) known → EndsKnown table cs all why
  learning_refused x (of_type.TooLarge nodes) so way = way.ended (of_type.TooLarge nodes) (large_here so)
  learning_refused x of_type.Memory so way = tt

  pub learning_ends : {all left : List VarId} {known : List (VarId × Ty)} → left ≡ [] → IsLearning all left known → Known table cs all (Ok known)
  learning_ends {all} {left} {known} e way =
      subst (λ (qs : List (VarId × Ty)). Known table cs all (Ok qs)) (append-nil known)
      (way.known_all [] (subst (λ (xs : List VarId). Known table cs xs (Ok [])) (sym e) none_left))

module _ (table : Table) (params : List VarId) (pairs : List Pair) (formal : Ty) where
  module _ {cs : List Constraint} (g : Gathered table params pairs (Ok cs)) where
    module _ {known : List (VarId × Ty)} (k : Known table cs params (Ok known)) where
      pub context_formed : (t : Ty) → Forms (Ok t) (substituted known formal) → ContextOf table params pairs formal (Ok t)
      context_formed t (e, le) = subst (λ (u : Ty). ContextOf table params pairs formal (Ok u)) (sym e) (formed g k le)

      pub context_refused : (why : TypeRefusal) (said : InferRefusal) → Forms (Err why) (substituted known formal) → same_refusal why said → FormsContext table params pairs formal (Err said)
      context_refused (of_type.TooLarge nodes) said (lt, n) e =
          subst (λ (r : InferRefusal). FormsContext table params pairs formal (Err r)) (sym e)
          (subst (λ (m : ℕ). ContextOf table params pairs formal (Err m)) (sym n) (large_context g k lt))
      context_refused of_type.Memory said h e = subst (λ (r : InferRefusal). FormsContext table params pairs formal (Err r)) (sym e) tt

    pub not_known : (why : TypeRefusal) (said : InferRefusal) → EndsKnown table cs params why → same_refusal why said → FormsContext table params pairs formal (Err said)
    not_known (of_type.TooLarge nodes) said h e = subst (λ (r : InferRefusal). FormsContext table params pairs formal (Err r)) (sym e) (large_solution g h)
    not_known of_type.Memory said h e = subst (λ (r : InferRefusal). FormsContext table params pairs formal (Err r)) (sym e) tt

  pub not_gathered : (why : TypeRefusal) (said : InferRefusal) → EndsGathering table params pairs why → same_refusal why said → FormsContext table params pairs formal (Err said)
  not_gathered (of_type.TooLarge nodes) said h e = subst (λ (r : InferRefusal). FormsContext table params pairs formal (Err r)) (sym e) (large_match h)
  not_gathered of_type.Memory said h e = subst (λ (r : InferRefusal). FormsContext table params pairs formal (Err r)) (sym e) tt
