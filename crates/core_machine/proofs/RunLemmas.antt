-- Runs of any program: their ends, and what they print.
use Rattle.std.proofs.Common.{◌≡◌, ℕ, zero, suc, ◌+◌, add-zero, add-suc, List, append_assoc, None, Some, refl}
use Rattle.std.specs.Prelude.{Option, IsSome}
use Rattle.core_ir.specs.Program.{Program}
use Rattle.core_machine.specs.declared.effect.RunEnd.{RunEnd}
use Rattle.core_machine.specs.declared.effect.Effect.TheVariants.{Write, Go, Print, Stop}
use Rattle.core_machine.specs.Steps.{Row, Does, Fails}
use Rattle.core_machine.specs.State.{State, Outcome, Reaches, row_at, after, unless_over, step_of, run_of, preceded_by, leads_preceded_by}

-- a run that is over stays
stays : (end : Option RunEnd) (s : State) (further : Outcome) → IsSome end → unless_over end s further ≡ Reaches s
stays None s further over = absurd cc
stays (Some end) s further over = refl

pub step_stays : (p : Program) (t : State) → IsSome t.end → step_of p t ≡ Reaches t
step_stays p t over = stays t.end t (after t (row_at p t.running)) over

-- step by step
pub run_stays : (p : Program) (n more : ℕ) (s : State) → run_of p n ≡ Reaches s → IsSome s.end → run_of p (n + more) ≡ Reaches s
run_stays p n zero s comes over = rw add-zero comes
run_stays p n (suc more) s comes over = rw add-suc (rw (run_stays p n more s comes over) (step_stays p s over))

-- a row adds to what was printed before
after_preceded : (before : List ℕ) (s : State) (r : Row) → after (preceded_by before s) r ≡ leads_preceded_by before (after s r)
after_preceded before s (Does (Write to v next)) = refl
after_preceded before s (Does (Go next)) = refl
after_preceded before s (Does (Print v next)) = rw append_assoc refl
after_preceded before s (Does (Stop end)) = refl
after_preceded before s (Fails kind) = refl

-- so does a step
pub step_preceded : (p : Program) (before : List ℕ) (s : State) → step_of p (preceded_by before s) ≡ leads_preceded_by before (step_of p s)
step_preceded p before s = by s.end
  where
    by : (end : Option RunEnd) → unless_over end (preceded_by before s) (after (preceded_by before s) (row_at p s.running)) ≡ leads_preceded_by before (unless_over end s (after s (row_at p s.running)))
    by (Some end) = refl
    by None = after_preceded before s (row_at p s.running)
