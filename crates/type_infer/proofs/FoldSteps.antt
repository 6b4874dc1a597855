-- The bound of the types on one side of a parameter, one after another.
use Rattle.std.proofs.Common.{◌≡◌, ℕ, suc, ◌+◌, ◌<◌, ◌≤◌, Bool, true, false, ◌&&◌, List, [], ◌∷◌, drop, length, get_or, Option, Some, None, Result, Ok, Err, refl, sym, ◌∙◌, ap, subst, add-one, drop-cons}
use Rattle.std.specs.Prelude.{IfSome, if◌then◌else◌}
use Rattle.dart_types.specs.Ty.{Ty}
use Rattle.dart_types.specs.Same.{same_var}
use Rattle.dart_types.specs.Sizes.{size_of}
use Rattle.dart_types.specs.Tables.{Table}
use Rattle.dart_types.specs.declared.ids.VarId.{VarId}
use Rattle.dart_types.specs.declared.refusal.TypeRefusal.{TypeRefusal}
use Rattle.dart_types.specs.declared.refusal.TypeRefusal.TheVariants.{TooLarge, Memory}
use Rattle.dart_types.specs.declared.refusal.TheConstants.{NODE_LIMIT}
use Rattle.type_bounds.specs.Bounds.{Upper, Lower}
use Rattle.type_infer.specs.Constraints.{same_side, types_on}
use Rattle.type_infer.specs.Solutions.{Folded, no_other, one_other, over_limit, Solution, by_upper, by_lower}
use Rattle.type_infer.specs.Solves.{FoldsOn, Folds, FormsWith, Solves}
use Rattle.type_infer.specs.declared.constraints.Side.{Side}
use Rattle.type_infer.specs.declared.constraints.Side.TheVariants.{AtLeast, AtMost}
use Rattle.type_infer.specs.declared.constraints.Constraint.{Constraint}

-- the types of the constraints from one place on: with that of the constraint there, where it is one of them
module _ (side : Side) (x : VarId) (cs : List Constraint) (i : ℕ) (c : Constraint) (lt : i < length cs) (is : c ≡ get_or cs i c) where
  here : drop i cs ≡ c ∷ drop (i + 1) cs
  here = drop-cons cs i c lt ∙ ap (λ (d : Constraint). d ∷ drop (suc i) cs) (sym is) ∙ ap (λ (n : ℕ). c ∷ drop n cs) (sym (add-one i))

  pub taken : same_side c.side side ≡ true → same_var c.param x ≡ true → types_on side x (drop i cs) ≡ c.ty ∷ types_on side x (drop (i + 1) cs)
  taken a b =
      ap (types_on side x) here
      ∙ ap (λ (q : Bool). if q && same_var c.param x then c.ty ∷ types_on side x (drop (i + 1) cs) else types_on side x (drop (i + 1) cs)) a
      ∙ ap (λ (q : Bool). if q then c.ty ∷ types_on side x (drop (i + 1) cs) else types_on side x (drop (i + 1) cs)) b

  pub left_out : (same_side c.side side && same_var c.param x) ≡ false → types_on side x (drop i cs) ≡ types_on side x (drop (i + 1) cs)
  left_out a =
      ap (types_on side x) here
      ∙ ap (λ (q : Bool). if q then c.ty ∷ types_on side x (drop (i + 1) cs) else types_on side x (drop (i + 1) cs)) a

pub other_side : {a : Bool} (b : Bool) → a ≡ false → (a && b) ≡ false
other_side b e = ap (λ (q : Bool). q && b) e

pub other_param : (a : Bool) {b : Bool} → b ≡ false → (a && b) ≡ false
other_param true e = e
other_param false e = refl

-- the bound so far with those of the types that are left is formed, or a type on the way is too large
abbrev pub FoldsFrom : (Ty → Ty → Ty → Type 0) → Option Ty → List Ty → Result (Option Ty) TypeRefusal → Type 0
FoldsFrom bound None ss answer = Folds bound ss answer
FoldsFrom bound (Some t) ss answer = FoldsOn bound t ss answer

-- the bound so far isn't too large
abbrev pub IsSmall : Option Ty → Type 0
IsSmall so_far = IfSome so_far (λ t. size_of t ≤ NODE_LIMIT)

module _ (bound : Ty → Ty → Ty → Type 0) where
  -- one more type
  one_on : (s t u : Ty) (ss : List Ty) → size_of s ≤ NODE_LIMIT → bound s t u → (answer : Result (Option Ty) TypeRefusal) → FoldsOn bound u ss answer → FoldsOn bound s (t ∷ ss) answer
  one_on s t u ss le b (Ok None) h = h
  one_on s t u ss le b (Ok (Some v)) h = one_other le b h
  one_on s t u ss le b (Err (TooLarge nodes)) h = one_other le b h
  one_on s t u ss le b (Err Memory) h = tt

  -- so far on the way through all types: those that are left, and the bound so far
  pub record IsFolding (all left : List Ty) (so_far : Option Ty) : Type 0 where
    pub small : IsSmall so_far
    pub whole : (answer : Result (Option Ty) TypeRefusal) → FoldsFrom bound so_far left answer → Folds bound all answer

  pub folding_begins : (all : List Ty) → IsFolding all all None
  folding_begins all = record { small = tt; whole = λ answer h. h }

  next_type : (so_far : Option Ty) (t u : Ty) (ss : List Ty) → FormsWith bound so_far t (Ok u) → IsSmall so_far → (size_of u ≤ NODE_LIMIT) × ((answer : Result (Option Ty) TypeRefusal) → FoldsOn bound u ss answer → FoldsFrom bound so_far (t ∷ ss) answer)
  next_type None t u ss (e, le) small =
      (subst (λ (v : Ty). size_of v ≤ NODE_LIMIT) (sym e) le, λ answer h. subst (λ (v : Ty). FoldsOn bound v ss answer) e h)
  next_type (Some s) t u ss (b, le) small = (le, one_on s t u ss small b)

  pub folding_goes_on : {all ss : List Ty} {so_far : Option Ty} (t u : Ty) → FormsWith bound so_far t (Ok u) → IsFolding all (t ∷ ss) so_far → IsFolding all ss (Some u)
  folding_goes_on {ss = ss} {so_far = so_far} t u h way =
      let next = next_type so_far t u ss h way.small in
      record { small = next.0; whole = λ answer k. way.whole answer (next.1 answer k) }

  -- or a type that is too large
  too_large_type : (so_far : Option Ty) (t : Ty) (ss : List Ty) (why : TypeRefusal) → FormsWith bound so_far t (Err why) → IsSmall so_far → FoldsFrom bound so_far (t ∷ ss) (Err why)
  too_large_type None t ss (TooLarge nodes) (lt, e) small = subst (λ (n : ℕ). Folded bound t ss (Err n)) (sym e) (over_limit lt)
  too_large_type None t ss Memory h small = tt
  too_large_type (Some s) t ss (TooLarge nodes) (u, b, (lt, e)) small = subst (λ (n : ℕ). Folded bound s (t ∷ ss) (Err n)) (sym e) (one_other small b (over_limit lt))
  too_large_type (Some s) t ss Memory h small = tt

  pub folding_refused : {all ss : List Ty} {so_far : Option Ty} (t : Ty) (why : TypeRefusal) → FormsWith bound so_far t (Err why) → IsFolding all (t ∷ ss) so_far → Folds bound all (Err why)
  folding_refused {ss = ss} {so_far = so_far} t why h way = way.whole (Err why) (too_large_type so_far t ss why h way.small)

  -- no more types
  no_more_types : (so_far : Option Ty) → IsSmall so_far → FoldsFrom bound so_far [] (Ok so_far)
  no_more_types None small = tt
  no_more_types (Some t) small = no_other small

  pub folding_ends : {all left : List Ty} {so_far : Option Ty} → left ≡ [] → IsFolding all left so_far → Folds bound all (Ok so_far)
  folding_ends {so_far = so_far} e way = way.whole (Ok so_far) (subst (λ (ts : List Ty). FoldsFrom bound so_far ts (Ok so_far)) (sym e) (no_more_types so_far way.small))

  pub nothing_there : (ts : List Ty) → Folds bound ts (Ok None) → ts ≡ []
  nothing_there [] h = refl
  nothing_there (t ∷ ts) h = absurd h

module _ (table : Table) (cs : List Constraint) (x : VarId) where
  -- the bound of the types that the parameter is at least is its solution, if there is one
  least_is : (ts : List Ty) → types_on AtLeast x cs ≡ ts → (t : Ty) → Folds (Upper table) ts (Ok (Some t)) → Solution table cs x (Ok t)
  least_is [] e t h = absurd h
  least_is (s ∷ ss) e t h = by_upper e h

  pub least_solves : (t : Ty) → Folds (Upper table) (types_on AtLeast x cs) (Ok (Some t)) → Solution table cs x (Ok t)
  least_solves t h = least_is (types_on AtLeast x cs) refl t h

  least_large : (ts : List Ty) → types_on AtLeast x cs ≡ ts → (why : TypeRefusal) → Folds (Upper table) ts (Err why) → Solves table cs x (Err why)
  least_large [] e (TooLarge nodes) h = absurd h
  least_large [] e Memory h = tt
  least_large (s ∷ ss) e (TooLarge nodes) h = by_upper e h
  least_large (s ∷ ss) e Memory h = tt

  pub least_refused : (why : TypeRefusal) → Folds (Upper table) (types_on AtLeast x cs) (Err why) → Solves table cs x (Err why)
  least_refused why h = least_large (types_on AtLeast x cs) refl why h

  -- else the bound of those that it is at most
  most_is : (ts : List Ty) → types_on AtLeast x cs ≡ [] → types_on AtMost x cs ≡ ts → (answer : Result (Option Ty) TypeRefusal) → Folds (Lower table) ts answer → Solves table cs x answer
  most_is [] none e (Ok None) h = (none, e)
  most_is [] none e (Ok (Some t)) h = absurd h
  most_is [] none e (Err (TooLarge nodes)) h = absurd h
  most_is [] none e (Err Memory) h = tt
  most_is (s ∷ ss) none e (Ok None) h = absurd h
  most_is (s ∷ ss) none e (Ok (Some t)) h = by_lower none e h
  most_is (s ∷ ss) none e (Err (TooLarge nodes)) h = by_lower none e h
  most_is (s ∷ ss) none e (Err Memory) h = tt

  pub most_solves : Folds (Upper table) (types_on AtLeast x cs) (Ok None) → (answer : Result (Option Ty) TypeRefusal) → Folds (Lower table) (types_on AtMost x cs) answer → Solves table cs x answer
  most_solves none answer h = most_is (types_on AtMost x cs) (nothing_there (Upper table) (types_on AtLeast x cs) none) refl answer h
