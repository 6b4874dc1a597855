-- What is found among the files of a table, and what follows from it.
use Rattle.std.proofs.Common.{◌≡◌, ◌≢◌, ◌↔◌, ℕ, ◌<◌, Bool, List, [], ◌∷◌, Option, Result, length, refl, ap, subst, ◌∙◌}
use Rattle.std.proofs.lemmas.List.{length-map}
use Rattle.fault_io.specs.declared.traits.WriteRefusal.{WriteRefusal}
use Rattle.judgement.specs.declared.fault.Fault.{Fault}
use Rattle.element_terms.specs.declared.libraries.LibraryElement.{LibraryElement}
use Rattle.load_files.specs.Tables.{Table}
use Rattle.load_files.specs.declared.packages.Package.{Package}
use Rattle.libraries.specs.declared.aims.Aim.{Aim}
use Rattle.libraries.specs.declared.files.SourceFile.{SourceFile}
use Rattle.libraries.specs.declared.heads.Head.{Head}
use Rattle.namespaces.specs.Namespaces.{AreNamespaces}
use Rattle.libraries.specs.Aims.{aims_in}
use Rattle.libraries.specs.Files.{paths_of}
use Rattle.libraries.specs.Heads.{head_of}
use Rattle.check_library.specs.Diagnostics.{diagnostics}
use Rattle.check_files.specs.Clear.{LeavesDirectives, clear_leaves_directives}
use Rattle.check_files.specs.declared.findings.Finding.{Finding}
use Rattle.check_files.specs.declared.links.Linked.{Linked}
use Rattle.check_files.specs.Lines.{lines_of}
use Rattle.check_files.specs.Links.{AreLinked, aims_of, elements_of, heads_of, library_in}
use Rattle.check_files.specs.Reports.{AreFindings, AreFoundFrom, table_elements}
use Rattle.check_files.specs.Sources.{all_own_faults, sources_of}
use Rattle.dart_server.specs.declared.status.Status.{Status}
use Rattle.dart_server.specs.declared.status.Status.TheVariants.{Errors}
use Rattle.dart_server.specs.declared.task.Task.{Task}
use Rattle.dart_server.specs.declared.task.Task.TheVariants.{Check, Run}
use Rattle.dart_server.specs.Run.{RunGives}
use Rattle.dart_server.specs.Writes.{Says, Writes}
use Rattle.dart_server.specs.Libraries.{ClearGives, LibraryGives, PlaceGives, TableGives, directives_in, text_in}

-- what the libraries of files that were linked declare and export
pub elements_are : (packages : List Package) (table : Table) (linked : Linked) → AreLinked packages table linked → linked.elements.items ≡ table_elements packages table
elements_are packages table linked known =
    known.elements
    ∙ ap (λ (sources : List SourceFile). elements_of sources linked.heads.items linked.aims.items) known.sources
    ∙ ap (λ (heads : List Head). elements_of (sources_of table) heads linked.aims.items) known.heads
    ∙ ap (elements_of (sources_of table) (heads_of packages (sources_of table))) known.aims

-- what was found among linked files is what is found among those of the table
pub found_from : (packages : List Package) (table : Table) (linked : Linked) (place : ℕ) (findings : List Finding) → AreLinked packages table linked → AreFindings linked.sources.items linked.heads.items linked.aims.items linked.faults.items linked.elements.items linked.spaces.items place findings → AreFoundFrom packages table place findings
found_from packages table linked place findings known found =
    let elements = elements_are packages table linked known in
    let by_sources = subst (λ (sources : List SourceFile). AreFindings sources linked.heads.items linked.aims.items linked.faults.items linked.elements.items linked.spaces.items place findings) known.sources found in
    let by_heads = subst (λ (heads : List Head). AreFindings (sources_of table) heads linked.aims.items linked.faults.items linked.elements.items linked.spaces.items place findings) known.heads by_sources in
    let by_aims = subst (λ (all : List (List Aim)). AreFindings (sources_of table) (heads_of packages (sources_of table)) all linked.faults.items linked.elements.items linked.spaces.items place findings) known.aims by_heads in
    let by_faults = subst (λ (own : List (List Fault)). AreFindings (sources_of table) (heads_of packages (sources_of table)) (aims_of packages (sources_of table)) own linked.elements.items linked.spaces.items place findings) known.faults by_aims in
    record {
      spaces = linked.spaces.items;
      exported = subst (λ (all : List LibraryElement). AreNamespaces all linked.spaces.items) elements known.spaces;
      found = subst (λ (all : List LibraryElement). AreFindings (sources_of table) (heads_of packages (sources_of table)) (aims_of packages (sources_of table)) (all_own_faults table) all linked.spaces.items place findings) elements by_faults;
    }

-- a run goes by the directives of a file as by what the rules say of its text, where one is nothing exactly where the other is
run_by : {X Y : Type 0} (text : List ℕ) (main : Bool) (steps : ℕ) (said : List X) (unknown : List Y) → (said ≡ []) ↔ (unknown ≡ []) → (output : List ℕ) (status : Status) → RunGives text main steps said output status → RunGives text main steps unknown output status
run_by text main steps [] [] same output status gives = gives
run_by text main steps (one ∷ more) (other ∷ others) same output status gives = gives
run_by text main steps [] (other ∷ others) same output status gives = absurd (cc (same.0 refl))
run_by text main steps (one ∷ more) [] same output status gives = absurd (cc (same.1 refl))

clear_by : {X Y : Type 0} (task : Task) (packages : List Package) (table : Table) (place : ℕ) (said : List X) (unknown : List Y) → (said ≡ []) ↔ (unknown ≡ []) → (output : List ℕ) (status : Status) → ClearGives said task packages table place output status → ClearGives unknown task packages table place output status
clear_by Check packages table place said unknown same output status gives = gives
clear_by (Run steps) packages table place said unknown same output status gives = run_by (text_in table place) _ steps said unknown same output status gives

-- there are as many heads as files
heads_size : (packages : List Package) (table : Table) (linked : Linked) → AreLinked packages table linked → length linked.heads.items ≡ length (sources_of table)
heads_size packages table linked known =
    ap length known.heads ∙ length-map (aims_of packages (sources_of table)) head_of ∙ length-map (sources_of table) (aims_in packages (paths_of (sources_of table)))

-- where nothing is found
pub clear_given : (task : Task) (packages : List Package) (table : Table) (linked : Linked) (place : ℕ) (findings : List Finding) → AreLinked packages table linked → 0 < place → place < length linked.heads.items → AreFoundFrom packages table place findings → findings ≡ [] → (output : List ℕ) (status : Status) → ClearGives (diagnostics (text_in table place)) task packages table place output status → LibraryGives task packages table place output status
clear_given task packages table linked place findings known first within found none output status gives =
    let nothing : AreFoundFrom packages table place [] = subst (AreFoundFrom packages table place) none found in
    let stands : place < length (sources_of table) = subst (λ (n : ℕ). place < n) (heads_size packages table linked known) within in
    let left : LeavesDirectives (text_in table place) = clear_leaves_directives packages table place first stands nothing in
    record { findings = []; found = nothing; gives = clear_by task packages table place (diagnostics (text_in table place)) (directives_in table place) left.none output status gives }

-- where something is found
pub lines_given : (task : Task) (packages : List Package) (table : Table) (place : ℕ) (findings : List Finding) → AreFoundFrom packages table place findings → findings ≢ [] → (output : List ℕ) (status : Status) → Says (lines_of table findings) Errors output status → LibraryGives task packages table place output status
lines_given task packages table place [] found some output status says = absurd (some refl)
lines_given task packages table place (finding ∷ findings) found some output status says =
    record { findings = finding ∷ findings; found = found; gives = says }

-- what the library of a file gives among lent files, it gives among those of the table
pub table_given : (task : Task) (file folder : List ℕ) (packages : List Package) (lent table : Table) (linked : Linked) (heads : List Head) (place : Option ℕ) (old new : Option (List ℕ)) (r : Result Status WriteRefusal) → lent ≡ table → AreLinked packages lent linked → heads ≡ linked.heads.items → place ≡ library_in folder file lent heads → Writes (PlaceGives task packages lent place) old new r → Writes (TableGives task file folder packages table) old new r
table_given task file folder packages lent table linked heads place old new r same known heads_are place_is writes =
    subst (λ (files : Table). Writes (TableGives task file folder packages files) old new r) same
    (subst (λ (found : Option ℕ). Writes (PlaceGives task packages lent found) old new r) (place_is ∙ ap (library_in folder file lent) (heads_are ∙ known.heads)) writes)
