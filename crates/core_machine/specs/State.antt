-- The states of a run, and where each step leads from one.
use Rattle.std.specs.Prelude.{ℕ, zero, suc, List, [], ◌++◌, Option, None, Some, slice_set, replicate, length, refl}
use Rattle.std.specs.Coded.{Coded, code_by, coded×, coded_ℕ, coded_list, coded_option}
use Rattle.core_ir.specs.Program.{Function, Program}
use Rattle.core_ir.specs.declared.points.FunctionId.{FunctionId}
use Rattle.core_ir.specs.contracts.points.FunctionId as function_id
use Rattle.core_ir.specs.declared.points.PointId.{PointId}
use Rattle.core_ir.specs.contracts.points.PointId as point
use Rattle.core_ir.specs.contracts.values.Value as value
use Rattle.core_check.specs.Known.{function_at, point_at}
use Rattle.core_machine.specs.declared.effect.RunEnd.{RunEnd}
use Rattle.core_machine.specs.declared.effect.RunEnd.TheVariants.{Done}
use Rattle.core_machine.specs.contracts.effect.RunEnd as run_end
use Rattle.core_machine.specs.declared.effect.Effect.{Effect}
use Rattle.core_machine.specs.declared.effect.Effect.TheVariants.{Write, Go, Print, Stop}
use Rattle.core_machine.specs.declared.machine.Turn.{Turn}
use Rattle.core_machine.specs.declared.machine.Turn.TheVariants.{Went as TurnWent, Done as TurnDone}
use Rattle.core_machine.specs.Values.{line_of}
use Rattle.core_machine.specs.Steps.{Kind, Row, Does, Fails, Slots, row}

-- a frame: its function, the point that it stands at, and what its slots hold
pub record FrameState : Type 0 where
  pub function : FunctionId
  pub point : PointId
  pub slots : Slots

-- a moment of a run: the frame that runs, those that wait for it, what was printed and not yet taken, and how the run ended, if it is over
pub record State : Type 0 where
  pub running : FrameState
  pub waiting : List FrameState
  pub output : List ℕ
  pub end : Option RunEnd

-- how a frame is stored
abbrev pub frame_code : Coded FrameState
frame_code =
    code_by (FunctionId × (PointId × Slots)) (coded× function_id.the_row.coded (coded× point.the_row.coded (coded_list (coded_option value.the_row.coded))))
    (λ f. (f.function, (f.point, f.slots)))
    (λ p. record { function = p.0; point = p.1.0; slots = p.1.1 })
    (λ _. refl)

-- the parts of a moment
abbrev pub StateParts : Type 0
StateParts = FrameState × (List FrameState × (List ℕ × Option RunEnd))

-- how a moment is stored
abbrev pub state_code : Coded State
state_code =
    code_by StateParts (coded× frame_code (coded× (coded_list frame_code) (coded× (coded_list coded_ℕ) (coded_option run_end.the_row.coded))))
    (λ s. (s.running, (s.waiting, (s.output, s.end))))
    (λ p. record { running = p.0; waiting = p.1.0; output = p.1.1.0; end = p.1.1.1 })
    (λ _. refl)

-- where a step leads
pub data Outcome : Type 0 where
  -- the run comes to a moment
  Reaches : State → Outcome
  -- the run goes wrong
  Wrong : Kind → Outcome

-- a frame at the entry of a function: no slot holds a value
abbrev pub entered : FunctionId → Function → FrameState
entered id g = record { function = id; point = g.entry; slots = replicate (length g.slots) None }

-- the function with which a run begins
abbrev pub main_of : Program → Function
main_of p = function_at p p.main.0

-- the first moment of a run
abbrev pub start : Program → State
start p = record { running = entered p.main (main_of p); waiting = []; output = []; end = None }

-- the row of the term that a frame stands at
abbrev pub row_at : Program → FrameState → Row
row_at p f = row p (function_at p f.function.0) f.slots (point_at p f.point.0).term

-- what an effect leaves
abbrev pub applied : State → Effect → State
applied s (Write to v next) = record s { running = record s.running { point = next; slots = slice_set s.running.slots to.0 v } }
applied s (Go next) = record s { running = record s.running { point = next } }
applied s (Print v next) = record s { running = record s.running { point = next }; output = s.output ++ line_of v }
applied s (Stop end) = record s { end = Some end }

-- where a row leads
abbrev pub after : State → Row → Outcome
after s (Does effect) = Reaches (applied s effect)
after s (Fails kind) = Wrong kind

-- where a run goes on that isn't over
abbrev pub unless_over : Option RunEnd → State → Outcome → Outcome
unless_over None s further = further
unless_over (Some end) s further = Reaches s

-- one step, by the row of the running frame; a run that is over stays as it is
abbrev pub step_of : Program → State → Outcome
step_of p s = unless_over s.end s (after s (row_at p s.running))

-- one step more, unless the run went wrong
abbrev pub go_on : Program → Outcome → Outcome
go_on p (Reaches s) = step_of p s
go_on p (Wrong kind) = Wrong kind

-- where n steps from the entry of `main` lead
abbrev pub run_of : Program → ℕ → Outcome
run_of p zero = Reaches (start p)
run_of p (suc n) = go_on p (run_of p n)

-- what a call of the machine's step tells of a moment
abbrev pub turn_of : Option RunEnd → Turn
turn_of None = TurnWent
turn_of (Some Done) = TurnDone

-- a moment before which something more was printed
abbrev pub preceded_by : List ℕ → State → State
preceded_by before s = record s { output = before ++ s.output }

-- the same for where a step leads
abbrev pub leads_preceded_by : List ℕ → Outcome → Outcome
leads_preceded_by before (Reaches s) = Reaches (preceded_by before s)
leads_preceded_by before (Wrong kind) = Wrong kind
