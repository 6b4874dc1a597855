-- The type arguments that a call leaves out, and the contexts of its arguments, as functions, for definitions that compute.
use Rattle.std.specs.Prelude.{ℕ, nat_le, List, [], ◌∷◌, ◌++◌, length, slice_index_or, Option, None, Some, Result, Ok, Err, if◌then◌else◌}
use Rattle.dart_types.specs.Ty.{Ty, invalid, variable, nullable}
use Rattle.dart_types.specs.Heads.{object}
use Rattle.dart_types.specs.Normal.{substituted}
use Rattle.dart_types.specs.Same.{same_type}
use Rattle.dart_types.specs.Sizes.{size_of, held}
use Rattle.dart_types.specs.SubTest.{sub}
use Rattle.dart_types.specs.Tables.{Table}
use Rattle.dart_types.specs.declared.ids.VarId.{VarId}
use Rattle.dart_types.specs.declared.refusal.TheConstants.{NODE_LIMIT}
use Rattle.type_bounds.specs.BoundsOf.{upper_of, lower_of}
use Rattle.type_infer.specs.Constraints.{types_on}
use Rattle.type_infer.specs.Inference.{pairs_of, declared_bound, bound_with}
use Rattle.type_infer.specs.Matching.{End, matched, mismatched, too_large}
use Rattle.type_infer.specs.MatchOf.{match_of}
use Rattle.type_infer.specs.Pairs.{Pair}
use Rattle.type_infer.specs.Promotions.{unpromoted}
use Rattle.type_infer.specs.declared.constraints.Constraint.{Constraint}
use Rattle.type_infer.specs.declared.constraints.Side.TheVariants.{AtLeast, AtMost}
use Rattle.type_infer.specs.declared.contexts.TheConstants.{OPEN_PARAMETER}
use Rattle.type_infer.specs.declared.refusal.InferRefusal.{InferRefusal}
use Rattle.type_infer.specs.declared.refusal.InferRefusal.TheVariants.{NoSolution, Unconstrained, TooLarge}

-- a type, or how many nodes it has where it has more than a type may have
abbrev pub within_limit : Ty → Result Ty ℕ
within_limit t = if nat_le (size_of t) NODE_LIMIT then Ok t else Err (held (size_of t))

-- what comes of the answer of a step, unless a type on the way is too large
abbrev pub unless_large : {T S : Type 0} → Result T ℕ → (T → Result S ℕ) → Result S ℕ
unless_large (Ok t) next = next t
unless_large (Err nodes) next = Err nodes

-- the constraints before, and then those behind
abbrev pub all_constraints : List Constraint → End → Result (List Constraint) ℕ → Result (List Constraint) ℕ
all_constraints cs matched rest = unless_large rest (λ ds. Ok (cs ++ ds))
all_constraints cs mismatched rest = unless_large rest (λ ds. Ok (cs ++ ds))
all_constraints cs (too_large nodes) rest = Err nodes

-- all constraints that the pairs set, whether they match or not
abbrev pub gathered_of : Table → List VarId → List Pair → Result (List Constraint) ℕ
gathered_of table params [] = Ok []
gathered_of table params (p ∷ ps) =
    all_constraints (match_of table params p.side p.formal p.other).constraints (match_of table params p.side p.formal p.other).end (gathered_of table params ps)

-- the bound of a type and those of a list, one after another
abbrev pub folded_of : (Ty → Ty → Ty) → Ty → List Ty → Result Ty ℕ
folded_of bound t [] = within_limit t
folded_of bound t (s ∷ ss) = unless_large (within_limit t) (λ _. folded_of bound (bound t s) ss)

-- the bound of the types of a list, if there are any
abbrev pub bound_of_types : (Ty → Ty → Ty) → List Ty → Option (Result Ty ℕ)
bound_of_types bound [] = None
bound_of_types bound (t ∷ ts) = Some (folded_of bound t ts)

-- the first answer, if there is one, else the second
abbrev pub or_else : Option (Result Ty ℕ) → Option (Result Ty ℕ) → Option (Result Ty ℕ)
or_else None other = other
or_else (Some answer) other = Some answer

-- a parameter is the upper bound of the types that it is at least, else the lower bound of those that it is at most; nothing tells it where there are none
abbrev pub solution_of : Table → List Constraint → VarId → Option (Result Ty ℕ)
solution_of table cs x = or_else (bound_of_types (upper_of table) (types_on AtLeast x cs)) (bound_of_types (lower_of table) (types_on AtMost x cs))

-- a refusal of a type that is too large
abbrev pub refused_large : {T S : Type 0} → Result T ℕ → (T → Result S InferRefusal) → Result S InferRefusal
refused_large (Ok t) next = next t
refused_large (Err nodes) next = Err (TooLarge nodes)

-- a type as the argument for a parameter, where it is within the bound
abbrev pub within_bound_of : Table → VarId → Ty → Ty → Result Ty InferRefusal
within_bound_of table x t bound = if sub table t bound then Ok t else Err (NoSolution x)

-- the argument for a parameter, where those before it have these: its solution, or its bound where nothing constrains it, unless that is `Object?`
abbrev pub argument_by : Table → List (VarId × Ty) → VarId → Option (Result Ty ℕ) → Result Ty InferRefusal
argument_by table before x None =
    if same_type (declared_bound table x) (nullable object) then Err (Unconstrained x) else refused_large (within_limit (bound_with table before x)) (λ bound. Ok bound)
argument_by table before x (Some solution) =
    refused_large solution (λ t. refused_large (within_limit (bound_with table before x)) (λ bound. within_bound_of table x (unpromoted t) bound))

-- what comes of an argument, unless it is refused
abbrev pub unless_refused : {T S : Type 0} → Result T InferRefusal → (T → Result S InferRefusal) → Result S InferRefusal
unless_refused (Ok t) next = next t
unless_refused (Err why) next = Err why

-- the arguments for the parameters that are left, one after another
abbrev pub arguments_by : Table → List Constraint → List (VarId × Ty) → List VarId → Result (List Ty) InferRefusal
arguments_by table cs before [] = Ok []
arguments_by table cs before (x ∷ xs) =
    unless_refused (argument_by table before x (solution_of table cs x)) (λ t. unless_refused (arguments_by table cs (before ++ (x, t) ∷ []) xs) (λ ts. Ok (t ∷ ts)))

-- the type arguments of a call by what is matched in it, or why it has none
abbrev pub inferred_by : Table → List VarId → List Pair → Result (List Ty) InferRefusal
inferred_by table params pairs = refused_large (gathered_of table params pairs) (λ cs. arguments_by table cs [] params)

-- the type arguments of a call with this result, in this context, if it has one, whose arguments have these types; or why it has none
unfoldable pub inferred_of : Table → List VarId → Ty → Option Ty → (formals actuals : List Ty) → Result (List Ty) InferRefusal
inferred_of table params returned context formals actuals = inferred_by table params (pairs_of returned context formals actuals)

-- what stands for a parameter in a context: its solution, with X in the place of each `X & U`, else the mark of an open parameter
abbrev pub known_by : Option (Result Ty ℕ) → Result Ty ℕ
known_by None = Ok (variable OPEN_PARAMETER)
known_by (Some solution) = unless_large solution (λ t. Ok (unpromoted t))

-- what stands for each parameter
abbrev pub known_of : Table → List Constraint → List VarId → Result (List (VarId × Ty)) ℕ
known_of table cs [] = Ok []
known_of table cs (x ∷ xs) = unless_large (known_by (solution_of table cs x)) (λ t. unless_large (known_of table cs xs) (λ pairs. Ok ((x, t) ∷ pairs)))

-- the formal of an argument with what is known of the parameters put in, where this is matched before it; or how many nodes a type on the way has that is too large
abbrev pub context_by : Table → List VarId → List Pair → Ty → Result Ty ℕ
context_by table params pairs formal =
    unless_large (gathered_of table params pairs) (λ cs. unless_large (known_of table cs params) (λ known. within_limit (substituted known formal)))

-- the context of the argument after those that are done, which have these types, in such a call
unfoldable pub context_of_argument : Table → List VarId → Ty → Option Ty → (formals done : List Ty) → Result Ty ℕ
context_of_argument table params returned context formals done =
    context_by table params (pairs_of returned context formals done) (slice_index_or formals (length done) invalid)
