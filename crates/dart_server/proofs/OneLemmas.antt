-- What a check or a run of a library gives is one output and one status.
use Rattle.std.proofs.Common.{◌≡◌, ◌≢◌, ℕ, Bool, true, false, List, [], ◌∷◌, ◌++◌, Option, None, Some, Result, Ok, Err, slice_get, refl, sym, ap, subst, ◌∙◌}
use Rattle.std.proofs.lemmas.Bool.{true≢false}
use Rattle.fault_io.specs.Bytes.{and_then}
use Rattle.fault_io.specs.Stored.{Stored}
use Rattle.fault_io.specs.declared.traits.WriteRefusal.{WriteRefusal}
use Rattle.fault_io.specs.declared.traits.WriteRefusal.TheVariants as Cut
use Rattle.load_files.specs.Tables.{Table}
use Rattle.load_files.specs.declared.packages.Package.{Package}
use Rattle.load_files.specs.declared.refusal.LoadRefusal.{LoadRefusal}
use Rattle.load_files.specs.declared.refusal.LoadRefusal.TheVariants as refusal
use Rattle.dart_scan.specs.Scanned.{words_of}
use Rattle.dart_tree.specs.Tree.{Tree}
use Rattle.dart_types.specs.FormedProp.{IsWellFormed-prop}
use Rattle.dart_types.specs.FormedTable.{FormedTable}
use Rattle.dart_types.specs.Tables.{Table as Rows}
use Rattle.dart_types.specs.WellFormed.{IsWellFormed}
use Rattle.check_library.specs.Units.{body_of, outside_of}
use Rattle.check_files.specs.declared.findings.Finding.{Finding}
use Rattle.check_files.specs.Lines.{lines_of}
use Rattle.check_files.specs.Links.{heads_of, library_in}
use Rattle.check_files.specs.Reports.{table_elements}
use Rattle.check_files.specs.Settled.{findings_settled}
use Rattle.check_files.specs.Sources.{sources_of}
use Rattle.core_ir.specs.Program.{Program}
use Rattle.core_machine.specs.State.{Outcome, Reaches, Wrong, run_of}
use Rattle.core_machine.specs.declared.effect.RunEnd.{RunEnd}
use Rattle.core_machine.specs.declared.effect.RunEnd.TheVariants.{Done as Ended}
use Rattle.elaborate.specs.Elaborated.{elaborated}
use Rattle.dart_server.specs.declared.status.Status.{Status}
use Rattle.dart_server.specs.declared.status.Status.TheVariants.{Done, Errors, Refused, StepsSpent, FilesFault, Rejected}
use Rattle.dart_server.specs.declared.task.Task.{Task}
use Rattle.dart_server.specs.declared.task.Task.TheVariants.{Check, Run}
use Rattle.dart_server.specs.Libraries.{ClearGives, Ends, FilesGive, FoundGive, LibraryGives, LibraryOutput, OverPackages, PlaceGives, directives_in, folder_for, has_main, limit_line, no_library_line, packages_line, text_in}
use Rattle.dart_server.specs.Run.{Prints, PrintsBy, ProgramGives, RunGives, UnbuiltGives, UnitGives, no_main_line, not_built_line, steps_spent_line}
use Rattle.dart_server.specs.Settled.{leaves_open}
use Rattle.dart_server.specs.Writes.{IsEnd, IsWhole, Says, Writes, status_after}

-- what gives outputs and statuses gives one of each at most
abbrev pub IsOne : (List ℕ → Status → Type 0) → Type 0
IsOne gives = (output output' : List ℕ) (status status' : Status) → gives output status → gives output' status' → (output ≡ output') × (status ≡ status')

said_one : (text : List ℕ) (given : Status) → IsOne (Says text given)
said_one text given output output' status status' h h' = (h.0 ∙ sym h'.0, h.1 ∙ sym h'.1)

-- Runs.

printed_one : (end : Option RunEnd) (printed : List ℕ) → IsOne (PrintsBy end printed)
printed_one (Some Ended) printed = said_one printed Done
printed_one None printed = said_one (printed ++ steps_spent_line) StepsSpent

prints_one : (o : Outcome) → IsOne (Prints o)
prints_one (Reaches s) = printed_one s.end s.output
prints_one (Wrong kind) = λ output output' status status' h h'. absurd h

-- well-formed rows are the same where their tables are
abbrev formed : (rows : Rows) → IsWellFormed rows → FormedTable
formed rows well = record { table = rows; formed = well }

formed_same : (a b : FormedTable) → a.table ≡ b.table → a ≡ b
formed_same a b same =
    subst (λ (rows : Rows). (well : IsWellFormed rows) → formed a.table a.formed ≡ formed rows well) same (λ well. ap (formed a.table) (IsWellFormed-prop a.table a.formed well)) b.formed

program_same : (text : List ℕ) (body : Tree) (p q : Program) → p.rows.table ≡ q.rows.table → p ≡ elaborated p.rows (words_of text) (outside_of text) body → q ≡ elaborated q.rows (words_of text) (outside_of text) body → p ≡ q
program_same text body p q same h h' =
    h ∙ ap (λ (rows : FormedTable). elaborated rows (words_of text) (outside_of text) body) (formed_same p.rows q.rows same) ∙ sym h'

program_one : (text : List ℕ) (body : Tree) (steps : ℕ) → IsOne (ProgramGives text body steps)
program_one text body steps output output' status status' h h' =
    let same : h.program ≡ h'.program = program_same text body h.program h'.program (h.rows_are ∙ sym h'.rows_are) h.program_is h'.program_is in
    prints_one (run_of h'.program steps) output output' status status' (subst (λ (p : Program). Prints (run_of p steps) output status) same h.prints) h'.prints

unit_one : (text : List ℕ) (steps : ℕ) (body : Option Tree) → IsOne (UnitGives text steps body)
unit_one text steps None = said_one no_main_line Refused
unit_one text steps (Some body) = program_one text body steps

unbuilt_one : (main : Bool) → IsOne (UnbuiltGives main)
unbuilt_one true = said_one not_built_line Rejected
unbuilt_one false = said_one no_main_line Refused

run_one : {X : Type 0} (text : List ℕ) (main : Bool) (steps : ℕ) (unknown : List X) → IsOne (RunGives text main steps unknown)
run_one text main steps [] = unit_one text steps (body_of text)
run_one text main steps (one ∷ more) = unbuilt_one main

-- Libraries.

clear_one : {X : Type 0} (unknown : List X) (task : Task) (packages : List Package) (table : Table) (place : ℕ) → IsOne (ClearGives unknown task packages table place)
clear_one unknown Check packages table place = said_one [] Done
clear_one unknown (Run steps) packages table place = run_one (text_in table place) (has_main (slice_get (table_elements packages table) place)) steps unknown

found_one : (task : Task) (packages : List Package) (table : Table) (place : ℕ) (findings : List Finding) → IsOne (FoundGive task packages table place findings)
found_one task packages table place [] = clear_one (directives_in table place) task packages table place
found_one task packages table place (finding ∷ findings) = said_one (lines_of table (finding ∷ findings)) Errors

library_one : (task : Task) (packages : List Package) (table : Table) (place : ℕ) → IsOne (LibraryGives task packages table place)
library_one task packages table place output output' status status' h h' =
    let same : h.findings ≡ h'.findings = findings_settled packages table place h.findings h'.findings h.found h'.found in
    found_one task packages table place h'.findings output output' status status' (subst (λ (findings : List Finding). FoundGive task packages table place findings output status) same h.gives) h'.gives

place_one : (task : Task) (packages : List Package) (table : Table) (place : Option ℕ) → IsOne (PlaceGives task packages table place)
place_one task packages table None = said_one no_library_line Refused
place_one task packages table (Some place) = library_one task packages table place

files_one : (task : Task) (file folder : List ℕ) (packages : List Package) (answer : Result Table LoadRefusal) → IsOne (FilesGive task file folder packages answer)
files_one task file folder packages (Ok table) = place_one task packages table (library_in folder file table (heads_of packages (sources_of table)))
files_one task file folder packages (Err (refusal.TooManyFiles count)) = said_one limit_line Refused
files_one task file folder packages (Err (refusal.TooDeep depth)) = said_one limit_line Refused
files_one task file folder packages (Err (refusal.TooMuch bytes)) = said_one limit_line Refused
files_one task file folder packages (Err refusal.FilesFault) = λ output output' status status' h h'. absurd h
files_one task file folder packages (Err refusal.Memory) = λ output output' status status' h h'. absurd h

-- Ends.

-- where a status leaves nothing open, the output is whole
whole_at : (gives : List ℕ → Status → Type 0) (old new : Option (List ℕ)) (end : Result Status WriteRefusal) → leaves_open (status_after end) ≡ false → Writes gives old new end → IsWhole gives old new (status_after end)
whole_at gives old new (Ok status) closed writes = writes
whole_at gives old new (Err Cut.Failed) closed writes = absurd (true≢false closed)
whole_at gives old new (Err Cut.Memory) closed writes = absurd (true≢false closed)

-- a status that leaves nothing open is that of no fault of the store
no_fault : (status : Status) → leaves_open status ≡ false → status ≢ FilesFault
no_fault status closed is = true≢false (sym (ap leaves_open is) ∙ closed)

module _ (old new new' : Option (List ℕ)) (status status' : Status) (closed : leaves_open status ≡ false) (closed' : leaves_open status' ≡ false) where
  end_one : (gives : List ℕ → Status → Type 0) → IsOne gives → IsEnd gives old new status → IsEnd gives old new' status' → (new ≡ new') × (status ≡ status')
  end_one gives one h h' =
      let whole : IsWhole gives old new (status_after h.end) = whole_at gives old new h.end (sym (ap leaves_open h.status_is) ∙ closed) h.writes in
      let whole' : IsWhole gives old new' (status_after h'.end) = whole_at gives old new' h'.end (sym (ap leaves_open h'.status_is) ∙ closed') h'.writes in
      let same : (whole.output ≡ whole'.output) × (status_after h.end ≡ status_after h'.end) = one whole.output whole'.output (status_after h.end) (status_after h'.end) whole.given whole'.given in
      (whole.written ∙ ap (and_then old) same.0 ∙ sym whole'.written, h.status_is ∙ same.1 ∙ sym h'.status_is)

  files_end_one : (task : Task) (file folder : List ℕ) (packages : List Package) (answer answer' : Result Table LoadRefusal) → answer ≡ answer' → IsEnd (FilesGive task file folder packages answer) old new status → IsEnd (FilesGive task file folder packages answer') old new' status' → (new ≡ new') × (status ≡ status')
  files_end_one task file folder packages answer answer' same h h' =
      end_one (FilesGive task file folder packages answer') (files_one task file folder packages answer')
      (subst (λ (found : Result Table LoadRefusal). IsEnd (FilesGive task file folder packages found) old new status) same h) h'

  module _ (stored : Stored) (task : Task) (file : List ℕ) where
    over_one : (folder : List ℕ) (packages : List Package) → OverPackages task file folder packages (Some stored) old new status → OverPackages task file folder packages (Some stored) old new' status' → (new ≡ new') × (status ≡ status')
    over_one folder packages h h' =
        files_end_one task file folder packages h.answer h'.answer (h.answer_is stored refl ∙ sym (h'.answer_is stored refl)) (h.ends (no_fault status closed)) (h'.ends (no_fault status' closed'))

    ends_one : (folder : List ℕ) (listed : Option (List Package)) → Ends task file folder listed (Some stored) old new status → Ends task file folder listed (Some stored) old new' status' → (new ≡ new') × (status ≡ status')
    ends_one folder None h h' = end_one (Says packages_line Refused) (said_one packages_line Refused) (h.ends (no_fault status closed)) (h'.ends (no_fault status' closed'))
    ends_one folder (Some packages) h h' = over_one folder packages h h'

    -- a check and a run have one output and one status
    pub library_settled : (named packages : Option (List ℕ)) → LibraryOutput task file named packages (Some stored) old new status → LibraryOutput task file named packages (Some stored) old new' status' → (new ≡ new') × (status ≡ status')
    library_settled named packages h h' =
        let same : h.listed ≡ h'.listed = h.listed_are stored refl ∙ sym (h'.listed_are stored refl) in
        ends_one (folder_for file named) h'.listed (subst (λ (listed : Option (List Package)). Ends task file (folder_for file named) listed (Some stored) old new status) same h.ends) h'.ends
