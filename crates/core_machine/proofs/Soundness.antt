-- An accepted program never goes wrong.
use Rattle.std.proofs.Common.{◌≡◌, ℕ, zero, suc, ◌<◌, nat_eq, true, false, List, [], ◌∷◌, if◌then◌else◌, length, Some, None, All, arith, refl, sym, ap, ◌∙◌, subst}
use Rattle.std.specs.Prelude.{◌≢◌, Option, slice_index_or}
use Rattle.std.proofs.lemmas.List.{get_or-replicate, length-replicate}
use Rattle.std.proofs.lemmas.List.Elements.{All-cons, All-nil}
use Rattle.std.proofs.lemmas.Option.{slice_get-get_or}
use Rattle.dart_types.specs.Laws.{RowLaws}
use Rattle.dart_types.specs.Superinterfaces.{LeavesNothingOut}
use Rattle.core_ir.specs.Program.{Function, Program}
use Rattle.core_ir.specs.declared.facts.SlotFact.{SlotFact}
use Rattle.core_ir.specs.declared.values.Value.{Value}
use Rattle.core_check.specs.WellFormed.{IsWellFormed}
use Rattle.core_check.specs.Known.{no_function, function_at, function_of, facts_at, known_in, known_of}
use Rattle.core_check.specs.Accepted.{BeginsEmpty, IsEntry, IsAccepted}
use Rattle.core_machine.specs.declared.effect.RunEnd.{RunEnd}
use Rattle.core_machine.specs.declared.effect.Effect.{Effect}
use Rattle.core_machine.specs.declared.effect.Effect.TheVariants.{Write, Go, Print, Stop}
use Rattle.core_machine.specs.Steps.{Kind, Row, Does, Fails, IsDoing}
use Rattle.core_machine.specs.State.{FrameState, State, Outcome, Reaches, Wrong, entered, main_of, row_at, after, unless_over, step_of, go_on, run_of}
use Rattle.core_machine.specs.Sound.{FrameFits, FramesFit, ViewFits}
use Rattle.core_machine.proofs.RowLemmas.{IsGood, row_is_good}

-- a slot at the entry holds nothing
empty_at_entry : (p : Program) (i : ℕ) (v : Value) → i < length (main_of p).slots → slice_index_or (entered p.main (main_of p)).slots i None ≡ Some v → ⊥
empty_at_entry p i v here held = let none : slice_index_or (entered p.main (main_of p)).slots i None ≡ None = get_or-replicate (length (main_of p).slots) i None None here in cc

-- facts of an entry say of no slot that it has a value
unassigned_in : (g : Function) (listed : List SlotFact) (i : ℕ) → All (BeginsEmpty g) listed → (known_in listed i).assigned ≡ false
unassigned_in g [] i begins = refl
unassigned_in g (fact ∷ facts) i begins =
    elim (nat_eq fact.slot.0 i) as (λ b. (if b then fact.known else known_in facts i).assigned ≡ false) [
      | true ↦ (begins 0 fact (omega arith)).unassigned
      | false ↦ unassigned_in g facts i (λ k d lt. begins (suc k) d (omega arith))
    ]

-- a frame at the entry of `main` fits
pub entered_fits : (p : Program) → IsWellFormed p → IsAccepted p → FrameFits p (entered p.main (main_of p))
entered_fits p well accepted =
    let is_function = well.functions_in p.main.0 (main_of p) (slice_get-get_or p.functions p.main.0 no_function well.main_in) in
    let at = (main_of p).entry.0 in
    let same : function_of p at ≡ main_of p = ap (λ (n : ℕ). function_at p n) is_function.entry_own in
    let entry : IsEntry (function_of p at) (facts_at p at) = (accepted.each at is_function.entry_in).entry (ap (λ (g : Function). g.entry.0) same) in
    record {
      function_in = well.main_in;
      inside = is_function.entry_in;
      own = is_function.entry_own;
      reachable = entry.reachable;
      slots = record { wide = length-replicate (length (main_of p).slots) None; declared = λ i v here held. absurd (empty_at_entry p i v here held) };
      views = All-cons (ViewFits p (main_of p) (entered p.main (main_of p)).slots) (known_of (facts_at p at)) []
          (record { holds = λ i here assigned. absurd (let no = unassigned_in (function_of p at) (facts_at p at).listed i entry.begins in cc) })
          (All-nil (ViewFits p (main_of p) (entered p.main (main_of p)).slots));
    }

-- the frames of the first moment fit
pub start_fits : (p : Program) → IsWellFormed p → IsAccepted p → FramesFit p (entered p.main (main_of p)) []
start_fits p well accepted = record { first = entered_fits p well accepted; others = All-nil (FrameFits p) }

-- a row that is good doesn't go wrong
doing_from_good : (p : Program) (f : FrameState) (r : Row) → IsGood p f r → IsDoing r
doing_from_good p f (Does effect) good = tt
doing_from_good p f (Fails kind) good = good

module _ (p : Program) (laws : RowLaws p.rows.table) (out : LeavesNothingOut p.rows.table) (well : IsWellFormed p) (accepted : IsAccepted p) where
  -- the row of a frame that fits doesn't go wrong
  pub row_is_doing : (q : Program) (f : FrameState) → q ≡ p → FrameFits p f → IsDoing (row_at q f)
  row_is_doing q f same fits = subst (λ (r : Program). IsDoing (row_at r f)) (sym same) (doing_from_good p f (row_at p f) (row_is_good p laws out well accepted f fits))

  -- what the row of a frame that fits does is good
  pub effect_is_good : (q : Program) (f : FrameState) (e : Effect) → q ≡ p → FrameFits p f → row_at q f ≡ Does e → IsGood p f (Does e)
  effect_is_good q f e same fits does =
      subst (IsGood p f) (ap (λ (r : Program). row_at r f) (sym same) ∙ does) (row_is_good p laws out well accepted f fits)

  -- where a run comes its frames fit, and it never goes wrong
  abbrev IsSafe : Outcome → Type 0
  IsSafe (Reaches s) = FramesFit p s.running s.waiting
  IsSafe (Wrong kind) = ⊥

  safe_after : (s : State) (r : Row) → FramesFit p s.running s.waiting → IsGood p s.running r → IsSafe (after s r)
  safe_after s (Does (Write to v next)) fits good = record { first = good.1; others = fits.others }
  safe_after s (Does (Go next)) fits good = record { first = good; others = fits.others }
  safe_after s (Does (Print v next)) fits good = record { first = good; others = fits.others }
  safe_after s (Does (Stop end)) fits good = fits
  safe_after s (Fails kind) fits good = good

  safe_step : (s : State) → FramesFit p s.running s.waiting → IsSafe (step_of p s)
  safe_step s fits = over s.end
    where
      over : (end : Option RunEnd) → IsSafe (unless_over end s (after s (row_at p s.running)))
      over (Some end) = fits
      over None = safe_after s (row_at p s.running) fits (row_is_good p laws out well accepted s.running fits.first)

  safe_further : (o : Outcome) → IsSafe o → IsSafe (go_on p o)
  safe_further (Reaches s) safe = safe_step s safe
  safe_further (Wrong kind) safe = safe

  safe_run : (n : ℕ) → IsSafe (run_of p n)
  safe_run zero = start_fits p well accepted
  safe_run (suc n) = safe_further (run_of p n) (safe_run n)

  -- no number of steps goes wrong
  pub never_wrong : (n : ℕ) (kind : Kind) → run_of p n ≢ Wrong kind
  never_wrong n kind wrong = subst IsSafe wrong (safe_run n)
