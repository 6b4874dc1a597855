-- What calls answer is what is computed.
use Rattle.std.proofs.Common.{◌≡◌, ℕ, List, length, get_or, Option, Result, Ok, Err}
use Rattle.dart_types.specs.Ty.{Ty, invalid}
use Rattle.dart_types.specs.Tables.{Table}
use Rattle.dart_types.specs.declared.ids.VarId.{VarId}
use Rattle.type_bounds.specs.Laws.{BoundLaws}
use Rattle.type_infer.specs.Contexts.{ContextOf}
use Rattle.type_infer.specs.Gives.{Gives, Answers, AnswersContext}
use Rattle.type_infer.specs.Inference.{pairs_of, Inferred}
use Rattle.type_infer.specs.InferenceOf.{inferred_by, inferred_of, context_by, context_of_argument}
use Rattle.type_infer.specs.Pairs.{Pair}
use Rattle.type_infer.specs.declared.refusal.InferRefusal.{InferRefusal}
use Rattle.type_infer.specs.declared.refusal.InferRefusal.TheVariants.{NoSolution, Unconstrained, TooLarge, Memory}
use Rattle.type_infer.proofs.ContextSteps.{FormsContext}
use Rattle.type_infer.proofs.InferHolds.{inferred_holds, inferred_is, context_holds, context_is}

module _ (table : Table) (laws : BoundLaws table) (params : List VarId) where
  answered : (pairs : List Pair) (r : Result (List Ty) InferRefusal) → Gives (Inferred table params pairs) r → Answers r (inferred_by table params pairs)
  answered pairs (Ok ts) h = inferred_is table laws params pairs h
  answered pairs (Err (NoSolution x)) h = inferred_is table laws params pairs h
  answered pairs (Err (Unconstrained x)) h = inferred_is table laws params pairs h
  answered pairs (Err (TooLarge nodes)) h = inferred_is table laws params pairs h
  answered pairs (Err Memory) h = tt

  context_answered : (pairs : List Pair) (formal : Ty) (r : Result Ty InferRefusal) → FormsContext table params pairs formal r → AnswersContext r (context_by table params pairs formal)
  context_answered pairs formal (Ok t) h = context_is table laws params pairs h
  context_answered pairs formal (Err (NoSolution x)) h = h
  context_answered pairs formal (Err (Unconstrained x)) h = h
  context_answered pairs formal (Err (TooLarge nodes)) h = context_is table laws params pairs h
  context_answered pairs formal (Err Memory) h = tt

  module _ (returned : Ty) (context : Option Ty) (formals actuals : List Ty) where
    pub inferred_answer : (r : Result (List Ty) InferRefusal) → Gives (Inferred table params (pairs_of returned context formals actuals)) r → Answers r (inferred_of table params returned context formals actuals)
    unfolding inferred_of
    inferred_answer r h = answered (pairs_of returned context formals actuals) r h

    pub inferred_call : Inferred table params (pairs_of returned context formals actuals) (inferred_of table params returned context formals actuals)
    unfolding inferred_of
    inferred_call = inferred_holds table laws params (pairs_of returned context formals actuals)

    pub inferred_only : (a : Result (List Ty) InferRefusal) → Inferred table params (pairs_of returned context formals actuals) a → a ≡ inferred_of table params returned context formals actuals
    unfolding inferred_of
    inferred_only a h = inferred_is table laws params (pairs_of returned context formals actuals) h

    abbrev formal : Ty
    formal = get_or formals (length actuals) invalid

    pub context_answer : (r : Result Ty InferRefusal) → FormsContext table params (pairs_of returned context formals actuals) formal r → AnswersContext r (context_of_argument table params returned context formals actuals)
    unfolding context_of_argument
    context_answer r h = context_answered (pairs_of returned context formals actuals) formal r h

    pub context_call : ContextOf table params (pairs_of returned context formals actuals) formal (context_of_argument table params returned context formals actuals)
    unfolding context_of_argument
    context_call = context_holds table laws params (pairs_of returned context formals actuals) formal

    pub context_only : (a : Result Ty ℕ) → ContextOf table params (pairs_of returned context formals actuals) formal a → a ≡ context_of_argument table params returned context formals actuals
    unfolding context_of_argument
    context_only a h = context_is table laws params (pairs_of returned context formals actuals) h
