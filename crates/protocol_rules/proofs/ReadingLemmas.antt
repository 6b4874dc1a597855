-- What is read is a reading.
use Rattle.std.proofs.Common.{◌≡◌, ◌≢◌, ℕ, Bool, true, false, Option, Result, Ok, Err, IfOk, IfErr, ◌⊎◌, inl, inr, refl, sym}
use Rattle.std.proofs.lemmas.Bool.{false≢true}
use Rattle.std.specs.Option.{ForSome}
use Rattle.fault_io.specs.Faults.{Rose}
use Rattle.fault_io.specs.Stored.{Stored}
use Rattle.serve_loop.specs.Marks.{Tells}
use Rattle.load_files.specs.Causes.{PassesItsLimit}
use Rattle.load_files.specs.Loads.{Loads, ComesAnywhere, loaded}
use Rattle.load_files.specs.Tables.{Table}
use Rattle.load_files.specs.declared.refusal.LoadRefusal.{LoadRefusal}
use Rattle.load_files.specs.declared.refusal.LoadRefusal.TheVariants.{FilesFault, TooManyFiles, TooDeep, TooMuch, Memory}
use Rattle.load_files.specs.declared.roots.Roots.{Roots}
use Rattle.overlays.specs.Tables.{PathsAndTexts}
use Rattle.protocol_rules.specs.Limits.{kept_in, AreWithin}
use Rattle.protocol_rules.specs.Reading.{IsReading}

-- a refusal that doesn't come anywhere is the answer
is_answer : (refusal : LoadRefusal) (answer : Result Table LoadRefusal) → refusal ≢ FilesFault → refusal ≢ Memory → ComesAnywhere refusal ⊎ (answer ≡ Err refusal) → Err refusal ≡ answer
is_answer refusal answer no_fault no_memory (inl (inl is)) = absurd (no_fault is)
is_answer refusal answer no_fault no_memory (inl (inr is)) = absurd (no_memory is)
is_answer refusal answer no_fault no_memory (inr is) = sym is

module _ (told : Option Stored) (roots : Roots) (overlays : PathsAndTexts) (old new : ℕ) where
  -- a limit was met
  limit_met : (refusal : LoadRefusal) → refusal ≢ FilesFault → refusal ≢ Memory → ForSome told (λ stored. Loads (Err refusal) (loaded stored roots (kept_in overlays))) → PassesItsLimit refusal → IsReading told false roots overlays (Err refusal)
  limit_met refusal no_fault no_memory exact passed = record {
    failed = λ z. absurd (false≢true z);
    marked = λ is. absurd (no_fault cc);
    exact = λ _ stored is. is_answer refusal (loaded stored roots (kept_in overlays)) no_fault no_memory (exact stored is);
    within = tt;
    passed = passed;
    answered = λ is. no_memory cc;
  }

  pub reading_is : (r : Result Table LoadRefusal) → r ≢ Err Memory → ForSome told (λ stored. Loads r (loaded stored roots (kept_in overlays))) → (r ≡ Err FilesFault → Rose old new) → (r ≢ Err FilesFault → new ≡ old) → IfErr r PassesItsLimit → IfOk r (λ snapshot. AreWithin snapshot overlays) → (mark : Bool) × Tells true mark old new × IsReading told mark roots overlays r
  reading_is (Ok snapshot) answered exact rose stands passed within = (
    false,
    stands (λ is. cc),
    record {
      failed = λ z. absurd (false≢true z);
      marked = λ is. cc;
      exact = λ _ stored is. sym (exact stored is);
      within = within;
      passed = tt;
      answered = λ is. cc;
    },
  )
  reading_is (Err FilesFault) answered exact rose stands passed within = (
    true,
    (refl, rose refl),
    record {
      failed = λ _. refl;
      marked = λ _. refl;
      exact = λ no. absurd (no refl);
      within = tt;
      passed = passed;
      answered = λ is. cc;
    },
  )
  reading_is (Err (TooManyFiles count)) answered exact rose stands passed within = (false, stands (λ is. cc), limit_met (TooManyFiles count) (λ is. cc) (λ is. cc) exact passed)
  reading_is (Err (TooDeep depth)) answered exact rose stands passed within = (false, stands (λ is. cc), limit_met (TooDeep depth) (λ is. cc) (λ is. cc) exact passed)
  reading_is (Err (TooMuch bytes)) answered exact rose stands passed within = (false, stands (λ is. cc), limit_met (TooMuch bytes) (λ is. cc) (λ is. cc) exact passed)
  reading_is (Err Memory) answered exact rose stands passed within = absurd (answered refl)
