-- Where two types meet that give way to others, as their upper bound is looked for.
use Rattle.std.specs.Prelude.{ℕ, ◌≡◌, ◌+◌, ◌<◌, ◌≤◌, true}
use Rattle.dart_types.specs.Ty.{Ty, invalid, variable}
use Rattle.dart_types.specs.Measure.{weight_of}
use Rattle.dart_types.specs.Tables.{Table}
use Rattle.type_bounds.specs.Bounds.{AreApart, Upper, UpperApart, is_settled}
use Rattle.type_bounds.specs.Chains.{marked_by}
use Rattle.type_bounds.specs.declared.meetings.End.{End}
use Rattle.type_bounds.specs.declared.meetings.End.TheVariants.{At, Var, Nowhere, Apart}
use Rattle.type_bounds.specs.declared.meetings.Meeting.{Meeting}
use Rattle.type_bounds.specs.declared.meetings.Next.{Next}
use Rattle.type_bounds.specs.declared.meetings.Next.TheVariants.{Ends, Pair}
use Rattle.type_bounds.specs.declared.meetings.Step.{Step}

-- the bound that an end stands for
abbrev pub ComesTo : Table → End → Ty → Type 0
ComesTo table (At t) u = u ≡ t.now
ComesTo table (Var x) u = u ≡ variable x
ComesTo table Nowhere u = u ≡ invalid
ComesTo table (Apart s t) u = UpperApart table s.now t.now u

-- two types whose parts are compared are apart and settled, and weigh so much at most
abbrev pub IsWithin : Table → ℕ → End → Type 0
IsWithin table weight (At t) = Unit {0}
IsWithin table weight (Var x) = Unit {0}
IsWithin table weight Nowhere = Unit {0}
IsWithin table weight (Apart s t) = AreApart table s.now t.now × (is_settled s.now ≡ true) × (is_settled t.now ≡ true) × (weight_of table s.now + weight_of table t.now ≤ weight)

-- a bound that the end stands for is so; two types that the way goes on with weigh less, and their bound is so
abbrev pub IsNext : Table → ℕ → (Ty → Type 0) → Next → Type 0
IsNext table weight so (Ends end) = IsWithin table weight end × ((u : Ty) → ComesTo table end u → so u)
IsNext table weight so (Pair s t) = (weight_of table s.now + weight_of table t.now < weight) × ((u : Ty) → Upper table s.now t.now u → so u)

-- likewise with `?` where the step has a mark
abbrev pub IsStep : Table → ℕ → (Ty → Type 0) → Step → Type 0
IsStep table weight so step = IsNext table weight (λ u. so (marked_by step.marked u)) step.next

-- and so where two types meet
abbrev pub Meets : Table → ℕ → (Ty → Type 0) → Meeting → Type 0
Meets table weight so meeting = IsWithin table weight meeting.end × ((u : Ty) → ComesTo table meeting.end u → so (marked_by meeting.marked u))
