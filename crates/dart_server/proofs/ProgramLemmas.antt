-- Texts in which nothing is wrong, and their programs.
use Rattle.std.proofs.Common.{◌≡◌, ◌≢◌, ℕ, suc, ◌==◌, Bool, true, false, List, [], ◌∷◌, length, Option, Some, option_map, refl, sym, ap, subst, ◌∙◌}
use Rattle.std.proofs.Math.Dec.{eqb-suc-zero}
use Rattle.std.proofs.lemmas.Bool.{true≢false}
use Rattle.dart_tree.specs.Tree.{Tree}
use Rattle.dart_scan.specs.Scanned.{words_of}
use Rattle.dart_types.specs.FormedTable.{FormedTable}
use Rattle.judgement.specs.declared.fault.Fault.{Fault}
use Rattle.judgement.specs.declared.meaning.Meaning.{Meaning}
use Rattle.check_library.specs.Units.{body_of}
use Rattle.check_library.specs.Faultless.{none_found, main_of_check}
use Rattle.check_library.specs.Diagnostics.{faults_in, diagnostics}
use Rattle.check_library.specs.Checked.{IsCheckOf, IsFaultless, main_of_checked}
use Rattle.check_library.specs.declared.library.Checked.{Checked}
use Rattle.core_ir.specs.Program.{Program}
use Rattle.core_machine.specs.State.{run_of}
use Rattle.elaborate.specs.Elaborated.{elaborated}
use Rattle.dart_server.specs.declared.status.Status.{Status}
use Rattle.dart_server.specs.Run.{Prints, RunGives, UnbuiltGives, UnitGives}
use Rattle.dart_server.proofs.RunLemmas.{IsSound}

-- where nothing is reported, nothing is wrong
no_faults : (text : List ℕ) → diagnostics text ≡ [] → faults_in text ≡ []
unfolding diagnostics
no_faults text none = none_found (faults_in text) none

-- a list of no length, and one of some
pub none_of_length : {A : Type 0} (xs : List A) → (length xs == 0) ≡ true → xs ≡ []
none_of_length [] none = refl
none_of_length (x ∷ xs) none = let some : (suc (length xs) == 0) ≡ false = eqb-suc-zero (length xs) in absurd (true≢false (sym none ∙ some))

pub some_of_length : {A : Type 0} (xs : List A) → (length xs == 0) ≡ false → xs ≢ []
some_of_length [] some none = absurd (true≢false some)
some_of_length (x ∷ xs) some none = cc

-- a check without diagnostics is of a text in which nothing is wrong
pub faultless : (text : List ℕ) (checked : Checked) → IsCheckOf text checked → checked.diagnostics ≡ [] → IsFaultless checked
faultless text checked check none = record { text = text; check = check; none = no_faults text (sym check.diagnostics ∙ none) }

-- what is run of a text without diagnostics, by the text
pub given_by_unit : (text : List ℕ) (main : Bool) (steps : ℕ) (checked : Checked) (body : Option Tree) → IsCheckOf text checked → checked.diagnostics ≡ [] → option_map (λ main. main.1) (main_of_checked checked) ≡ body → (output : List ℕ) (status : Status) → UnitGives text steps body output status → RunGives text main steps (diagnostics text) output status
given_by_unit text main steps checked body check none is output status gives =
    let silent : diagnostics text ≡ [] = sym check.diagnostics ∙ none in
    let same : body_of text ≡ body = ap (option_map (λ main. main.1)) (sym (main_of_check text checked check)) ∙ is in
    let given : UnitGives text steps (body_of text) output status = subst (λ (found : Option Tree). UnitGives text steps found output status) (sym same) gives in
    subst (λ (faults : List Fault). RunGives text main steps faults output status) (sym silent) given

-- what is run of a text with diagnostics
pub given_by_unbuilt : (text : List ℕ) (main : Bool) (steps : ℕ) (faults : List Fault) → faults ≢ [] → (output : List ℕ) (status : Status) → UnbuiltGives main output status → RunGives text main steps faults output status
given_by_unbuilt text main steps [] some output status gives = absurd (some refl)
given_by_unbuilt text main steps (fault ∷ faults) some output status gives = gives

-- the core program of a body has the rows that the body was judged with
pub elaborated_rows : (rows : FormedTable) (words : List (List ℕ)) (outside : List Meaning) (body : Tree) → (elaborated rows words outside body).rows ≡ rows
unfolding elaborated
elaborated_rows rows words outside body = refl

-- what the core program of its body prints is what its function `main` gives
pub given_by_program : (text : List ℕ) (steps : ℕ) (checked : Checked) (body : Tree) (p : Program) → IsCheckOf text checked → p ≡ elaborated checked.rows checked.unit.words checked.forms.outside.items body → IsSound p → (output : List ℕ) (status : Status) → Prints (run_of p steps) output status → UnitGives text steps (Some body) output status
given_by_program text steps checked body p check is sound output status prints =
    let rows : p.rows ≡ checked.rows = ap (λ (q : Program). q.rows) is ∙ elaborated_rows checked.rows checked.unit.words checked.forms.outside.items body in
    record {
      program = p;
      rows_are = ap (λ (r : FormedTable). r.table) rows ∙ check.rows;
      program_is =
          is ∙ ap (λ (r : FormedTable). elaborated r checked.unit.words checked.forms.outside.items body) (sym rows)
          ∙ ap (λ (words : List (List ℕ)). elaborated p.rows words checked.forms.outside.items body) check.words
          ∙ ap (λ (outside : List Meaning). elaborated p.rows (words_of text) outside body) check.outside;
      prints = prints;
      sound = sound;
    }
