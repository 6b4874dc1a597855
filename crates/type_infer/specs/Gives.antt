-- What calls answer that give arguments or contexts.
use Rattle.std.specs.Prelude.{◌≡◌, ℕ, Result, Ok, Err}
use Rattle.dart_types.specs.Ty.{Ty}
use Rattle.type_infer.specs.declared.refusal.InferRefusal.{InferRefusal}
use Rattle.type_infer.specs.declared.refusal.InferRefusal.TheVariants.{NoSolution, Unconstrained, TooLarge, Memory}

-- the answer is so; only want of memory is free
abbrev pub Gives : {T : Type 0} → (Result T InferRefusal → Type 0) → Result T InferRefusal → Type 0
Gives so (Ok t) = so (Ok t)
Gives so (Err (NoSolution x)) = so (Err (NoSolution x))
Gives so (Err (Unconstrained x)) = so (Err (Unconstrained x))
Gives so (Err (TooLarge nodes)) = so (Err (TooLarge nodes))
Gives so (Err Memory) = Unit {0}

-- the answer is this one; only want of memory is free
abbrev pub Answers : {T : Type 0} → Result T InferRefusal → Result T InferRefusal → Type 0
Answers result wanted = Gives (λ answer. answer ≡ wanted) result

-- likewise the context that a call forms: it never answers that a parameter has no argument
abbrev pub AnswersContext : Result Ty InferRefusal → Result Ty ℕ → Type 0
AnswersContext (Ok t) wanted = Ok t ≡ wanted
AnswersContext (Err (NoSolution x)) wanted = ⊥
AnswersContext (Err (Unconstrained x)) wanted = ⊥
AnswersContext (Err (TooLarge nodes)) wanted = Err nodes ≡ wanted
AnswersContext (Err Memory) wanted = Unit {0}
