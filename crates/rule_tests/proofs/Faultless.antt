-- A checked text without diagnostics is one in which nothing is wrong.
use Rattle.std.proofs.Common.{◌≡◌, ℕ, suc, ◌==◌, true, false, List, [], ◌∷◌, length, refl, sym, subst, ◌∙◌}
use Rattle.std.proofs.Math.Dec.{eqb-suc-zero}
use Rattle.std.proofs.lemmas.Bool.{true≢false}
use Rattle.judgement.specs.declared.fault.Fault.{Fault}
use Rattle.check_library.specs.Diagnostics.{faults_in, diagnostics}
use Rattle.check_library.specs.Checked.{IsCheckOf, IsFaultless}
use Rattle.check_library.specs.declared.library.Checked.{Checked}

-- no faults are none
pub none_of_length : (faults : List Fault) → (length faults == 0) ≡ true → faults ≡ []
none_of_length [] none = refl
none_of_length (fault ∷ faults) none = let some : (suc (length faults) == 0) ≡ false = eqb-suc-zero (length faults) in absurd (true≢false (sym none ∙ some))

-- by the law on texts without diagnostics, of the bytes of the text
pub faultless : (text bytes : List ℕ) (checked : Checked) → bytes ≡ text → (diagnostics bytes ≡ [] → faults_in bytes ≡ []) → IsCheckOf text checked → checked.diagnostics ≡ [] → IsFaultless checked
faultless text bytes checked same law check none =
    let silent : diagnostics bytes ≡ [] = subst (λ (t : List ℕ). diagnostics t ≡ []) (sym same) (sym check.diagnostics ∙ none) in
    record { text = text; check = check; none = subst (λ (t : List ℕ). faults_in t ≡ []) same (law silent) }
