-- Where a run stands, and what it prints from there.
use Rattle.std.proofs.Common.{◌≡◌, ◌≢◌, ℕ, zero, suc, ◌+◌, ◌-◌, ◌<◌, ◌≤◌, List, [], ◌++◌, Option, None, Some, IsSome, Result, Err, IsErr, length, take, refl, sym, ap, subst, ◌∙◌, append_assoc, add-zero, add-suc, add-one, arith}
use Rattle.std.proofs.lemmas.List.{append-nil}
use Rattle.fault_io.specs.Bytes.{and_then}
use Rattle.fault_io.specs.BytesLaws.{and_then-nil, and_then-and_then}
use Rattle.fault_io.specs.declared.traits.WriteRefusal.{WriteRefusal}
use Rattle.fault_io.specs.declared.traits.WriteRefusal.TheVariants.{Memory}
use Rattle.core_ir.specs.Program.{Program}
use Rattle.core_machine.specs.Steps.{Kind}
use Rattle.core_machine.specs.State.{State, Outcome, Reaches, Wrong, start, step_of, go_on, run_of, turn_of, preceded_by, leads_preceded_by}
use Rattle.core_machine.specs.declared.effect.RunEnd.{RunEnd}
use Rattle.core_machine.specs.declared.effect.RunEnd.TheVariants.{Done as Ended}
use Rattle.core_machine.specs.declared.machine.Turn.TheVariants.{Went, Done as TurnDone}
use Rattle.dart_server.specs.declared.status.Status.{Status}
use Rattle.dart_server.specs.declared.status.Status.TheVariants.{Done, StepsSpent}
use Rattle.dart_server.specs.Run.{PrintsBy, Prints, steps_spent_line}
use Rattle.dart_server.specs.Writes.{Says, Writes}
use Rattle.dart_server.proofs.WritesLemmas.{cut_kept, keep_kept, say_kept}

-- what was printed before changes no step
abbrev pub Adds : Program → Type 0
Adds p = (before : List ℕ) (s : State) → step_of p (preceded_by before s) ≡ leads_preceded_by before (step_of p s)

-- no number of steps goes wrong
abbrev pub IsSound : Program → Type 0
IsSound p = (n : ℕ) (kind : Kind) → run_of p n ≢ Wrong kind

-- a run that is over stays so
abbrev pub Stays : Program → Type 0
Stays p = (n more : ℕ) (s : State) → run_of p n ≡ Reaches s → IsSome s.end → run_of p (n + more) ≡ Reaches s

-- what a run printed goes on from something that was printed
abbrev Extends : Outcome → List ℕ → Type 0
Extends (Reaches s) printed = (rest : List ℕ) × (s.output ≡ printed ++ rest)
Extends (Wrong kind) printed = Unit {0}

-- so it does where a step leads that began with it
extends_lead : (before printed rest : List ℕ) → before ≡ printed ++ rest → (o : Outcome) → Extends (leads_preceded_by before o) printed
extends_lead before printed rest is (Reaches s) = (rest ++ s.output, ap (λ (xs : List ℕ). xs ++ s.output) is ∙ append_assoc printed rest s.output)
extends_lead before printed rest is (Wrong kind) = tt

-- the moment before which nothing was printed
abbrev emptied : State → State
emptied s = record s { output = [] }

-- a moment is that one behind what was printed
refilled : (s : State) → preceded_by s.output (emptied s) ≡ s
refilled s = ap (λ (xs : List ℕ). record s { output = xs }) (append-nil s.output)

extends_step : (p : Program) → Adds p → (printed : List ℕ) (o : Outcome) → Extends o printed → Extends (go_on p o) printed
extends_step p adds printed (Reaches s) extends =
    let leads : step_of p s ≡ leads_preceded_by s.output (step_of p (emptied s)) = ap (step_of p) (sym (refilled s)) ∙ adds s.output (emptied s) in
    subst (λ (o : Outcome). Extends o printed) (sym leads) (extends_lead s.output printed extends.0 extends.1 (step_of p (emptied s)))
extends_step p adds printed (Wrong kind) extends = extends

extends_run : (p : Program) → Adds p → (printed : List ℕ) (n more : ℕ) → Extends (run_of p n) printed → Extends (run_of p (n + more)) printed
extends_run p adds printed n zero extends = rw add-zero extends
extends_run p adds printed n (suc more) extends = rw add-suc (extends_step p adds printed (run_of p (n + more)) (extends_run p adds printed n more extends))

-- the whole output of a run, which goes on from what was printed
pub record Ahead (o : Outcome) (printed : List ℕ) : Type 0 where
  pub output : List ℕ
  pub status : Status
  pub prints : Prints o output status
  pub rest : List ℕ
  pub output_is : output ≡ printed ++ rest

-- by how the run ended that printed this
abbrev AheadBy : Option RunEnd → (printed written : List ℕ) → Type 0
AheadBy end printed written = (output : List ℕ) × (status : Status) × PrintsBy end printed output status × (rest : List ℕ) × (output ≡ written ++ rest)

ahead_by : (end : Option RunEnd) (printed written rest : List ℕ) → printed ≡ written ++ rest → AheadBy end printed written
ahead_by None printed written rest is =
    (printed ++ steps_spent_line, StepsSpent, (refl, refl), rest ++ steps_spent_line, ap (λ (xs : List ℕ). xs ++ steps_spent_line) is ∙ append_assoc written rest steps_spent_line)
ahead_by (Some Ended) printed written rest is = (printed, Done, (refl, refl), rest, is)

ahead_of : (o : Outcome) (printed : List ℕ) → ((kind : Kind) → o ≢ Wrong kind) → Extends o printed → Ahead o printed
ahead_of (Reaches s) printed sound extends =
    let by : AheadBy s.end s.output printed = ahead_by s.end s.output printed extends.0 extends.1 in
    record { output = by.0; status = by.1; prints = by.2; rest = by.3; output_is = by.4 }
ahead_of (Wrong kind) printed sound extends = absurd (sound kind refl)

-- a run of a program stands after k steps at a machine's moment, and isn't over: some of what it printed is written, some is kept, and the machine has none of it
pub record Stands (p : Program) (k : ℕ) (old now : Option (List ℕ)) (kept : List ℕ) (m : State) : Type 0 where
  pub written : List ℕ
  pub sink : now ≡ and_then old written
  pub taken : m.output ≡ []
  pub on : m.end ≡ None
  pub run : run_of p k ≡ Reaches (preceded_by (written ++ kept) m)

pub stands_at_start : (p q : Program) (old : Option (List ℕ)) (kept : List ℕ) (m : State) → m ≡ start p → kept ≡ [] → Stands p 0 old old kept m
stands_at_start p q old kept m is none = record {
  written = [];
  sink = sym (and_then-nil old);
  taken = ap (λ (s : State). s.output) is;
  on = ap (λ (s : State). s.end) is;
  run = ap (λ (s : State). Reaches s) (sym (ap (preceded_by kept) is ∙ ap (λ (xs : List ℕ). preceded_by xs (start p)) none));
}

-- the moment after a step, whose output was taken, behind what was printed
after_taken : (before more : List ℕ) (m : State) → m.output ≡ [] → preceded_by before (record m { output = more }) ≡ preceded_by (before ++ more) m
after_taken before more m taken =
    ap (λ (xs : List ℕ). record m { output = xs }) (sym (ap (λ (xs : List ℕ). (before ++ more) ++ xs) taken ∙ append-nil (before ++ more)))

-- one step on from where a run stands
one_step : (p : Program) → Adds p → (k : ℕ) (before : List ℕ) (m : State) (o : Outcome) → run_of p k ≡ Reaches (preceded_by before m) → step_of p m ≡ o → run_of p (k + 1) ≡ leads_preceded_by before o
one_step p adds k before m o stands step = rw add-one (ap (go_on p) stands ∙ adds before m ∙ ap (leads_preceded_by before) step)

-- a step after which the run goes on
pub stands_further : (p : Program) → Adds p → (k : ℕ) (old now : Option (List ℕ)) (kept kept' more : List ℕ) (m m' : State) → Stands p k old now kept m → kept' ≡ kept ++ more → step_of p m ≡ Reaches (record m' { output = more }) → m'.output ≡ [] → m'.end ≡ None → Stands p (k + 1) old now kept' m'
stands_further p adds k old now kept kept' more m m' stands adds_more step taken on = record {
  written = stands.written;
  sink = stands.sink;
  taken = taken;
  on = on;
  run = one_step p adds k (stands.written ++ kept) m _ stands.run step ∙ ap (λ (s : State). Reaches s) (after_taken (stands.written ++ kept) more m' taken ∙ ap (λ (xs : List ℕ). preceded_by xs m') (append_assoc stands.written kept more ∙ ap (λ (xs : List ℕ). stands.written ++ xs) (sym adds_more)));
}

-- a piece of what is kept is written
pub stands_written : (p : Program) (k : ℕ) (old now new : Option (List ℕ)) (kept kept' piece : List ℕ) (m : State) → Stands p k old now kept m → kept ≡ piece ++ kept' → new ≡ and_then now piece → Stands p k old new kept' m
stands_written p k old now new kept kept' piece m stands is adds = record {
  written = stands.written ++ piece;
  sink = adds ∙ ap (λ (told : Option (List ℕ)). and_then told piece) stands.sink ∙ and_then-and_then old stands.written piece;
  taken = stands.taken;
  on = stands.on;
  run = stands.run ∙ ap (λ (xs : List ℕ). Reaches (preceded_by xs m)) (ap (λ (xs : List ℕ). stands.written ++ xs) is ∙ sym (append_assoc stands.written piece kept'));
}

-- what the run prints in all goes on from what it printed where it stands
ahead : (p : Program) → Adds p → IsSound p → (k steps : ℕ) → k ≤ steps → (printed : List ℕ) (m : State) → run_of p k ≡ Reaches (preceded_by printed m) → Ahead (run_of p steps) printed
ahead p adds sound k steps within printed m stands =
    let more : k + (steps - k) ≡ steps = omega arith in
    let here : Extends (run_of p k) printed = subst (λ (o : Outcome). Extends o printed) (sym stands) (m.output, refl) in
    let there : Extends (run_of p (k + (steps - k))) printed = extends_run p adds printed k (steps - k) here in
    ahead_of (run_of p steps) printed (sound steps) (subst (λ (n : ℕ). Extends (run_of p n) printed) more there)

-- memory is wanting where a run stands
pub wanting_memory : (p : Program) → Adds p → IsSound p → (k steps : ℕ) → k ≤ steps → (old now : Option (List ℕ)) (kept : List ℕ) (m : State) (r : Result Status WriteRefusal) → Stands p k old now kept m → r ≡ Err Memory → Writes (Prints (run_of p steps)) old now r
wanting_memory p adds sound k steps within old now kept m r stands is =
    subst (Writes (Prints (run_of p steps)) old now) (sym is)
    (let on : Ahead (run_of p steps) (stands.written ++ kept) = ahead p adds sound k steps within (stands.written ++ kept) m stands.run in
    keep_kept (Prints (run_of p steps)) old now stands.written kept on.rest on.output on.status on.prints on.output_is stands.sink)

-- the sink refuses what is kept where a run stands
pub refused_piece : (p : Program) → Adds p → IsSound p → (k steps : ℕ) → k ≤ steps → (old now new : Option (List ℕ)) (kept : List ℕ) (m : State) (r : Result Status WriteRefusal) → IsErr r → Stands p k old now kept m → (n : ℕ) × (n < length kept) × (new ≡ and_then now (take n kept)) → Writes (Prints (run_of p steps)) old new r
refused_piece p adds sound k steps within old now new kept m r refuses stands cut =
    let on : Ahead (run_of p steps) (stands.written ++ kept) = ahead p adds sound k steps within (stands.written ++ kept) m stands.run in
    cut_kept (Prints (run_of p steps)) old now new stands.written kept on.rest on.output on.status r refuses on.prints on.output_is stands.sink cut

-- what a run printed that is over
printed_by_end : (o : Outcome) (s : State) (output : List ℕ) → o ≡ Reaches s → s.end ≡ Some Ended → s.output ≡ output → Prints o output Done
printed_by_end o s output is ended prints =
    subst (λ (q : Outcome). Prints q output Done) (sym is) (subst (λ (end : Option RunEnd). PrintsBy end s.output output Done) (sym ended) (sym prints, refl))

-- a step after which the run is over, and the last of its output is written
pub over : (p : Program) → Adds p → Stays p → (k steps : ℕ) → k < steps → (old now new : Option (List ℕ)) (kept kept' more : List ℕ) (m m' : State) (r : Result Status WriteRefusal) → Stands p k old now kept m → kept' ≡ kept ++ more → step_of p m ≡ Reaches (record m' { output = more }) → m'.end ≡ Some Ended → Writes (Says kept' Done) now new r → Writes (Prints (run_of p steps)) old new r
over p adds stays k steps within old now new kept kept' more m m' r stands adds_more step ended says =
    let last : State = preceded_by (stands.written ++ kept) (record m' { output = more }) in
    let here : run_of p (k + 1) ≡ Reaches last = one_step p adds k (stands.written ++ kept) m _ stands.run step in
    let rest : (k + 1) + (steps - (k + 1)) ≡ steps = omega arith in
    let there : run_of p steps ≡ Reaches last = subst (λ (n : ℕ). run_of p n ≡ Reaches last) rest (stays (k + 1) (steps - (k + 1)) last here (subst (λ (end : Option RunEnd). IsSome end) (sym ended) refl)) in
    let prints : (stands.written ++ kept) ++ more ≡ stands.written ++ kept' = append_assoc stands.written kept more ∙ ap (λ (xs : List ℕ). stands.written ++ xs) (sym adds_more) in
    say_kept (Prints (run_of p steps)) old now new stands.written kept' Done r (printed_by_end (run_of p steps) last (stands.written ++ kept') there ended prints) stands.sink says

-- what a run printed whose steps are spent
printed_when_spent : (o : Outcome) (before : List ℕ) (m : State) → o ≡ Reaches (preceded_by before m) → m.output ≡ [] → m.end ≡ None → Prints o (before ++ steps_spent_line) StepsSpent
printed_when_spent o before m is taken on =
    subst (λ (q : Outcome). Prints q (before ++ steps_spent_line) StepsSpent) (sym is)
    (subst (λ (end : Option RunEnd). PrintsBy end (before ++ m.output) (before ++ steps_spent_line) StepsSpent) (sym on)
    (ap (λ (xs : List ℕ). xs ++ steps_spent_line) (sym (ap (λ (xs : List ℕ). before ++ xs) taken ∙ append-nil before)), refl))

-- all steps are taken, and the last of the output is written
pub spent : (p : Program) (steps : ℕ) (old now new : Option (List ℕ)) (kept kept' : List ℕ) (m : State) (r : Result Status WriteRefusal) → Stands p steps old now kept m → kept' ≡ kept ++ steps_spent_line → Writes (Says kept' StepsSpent) now new r → Writes (Prints (run_of p steps)) old new r
spent p steps old now new kept kept' m r stands adds_line says =
    let prints : Prints (run_of p steps) (stands.written ++ kept') StepsSpent = subst (λ (xs : List ℕ). Prints (run_of p steps) xs StepsSpent) (append_assoc stands.written kept steps_spent_line ∙ ap (λ (xs : List ℕ). stands.written ++ xs) (sym adds_line)) (printed_when_spent (run_of p steps) (stands.written ++ kept) m stands.run stands.taken stands.on) in
    say_kept (Prints (run_of p steps)) old now new stands.written kept' StepsSpent r prints stands.sink says

-- how a run ended, by what its last step told
pub on_by_turn : (end : Option RunEnd) → Went ≡ turn_of end → end ≡ None
on_by_turn None is = refl
on_by_turn (Some Ended) is = absurd (cc is)

pub over_by_turn : (end : Option RunEnd) → TurnDone ≡ turn_of end → end ≡ Some Ended
over_by_turn None is = absurd (cc is)
over_by_turn (Some Ended) is = refl
