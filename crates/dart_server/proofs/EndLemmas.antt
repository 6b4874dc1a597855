-- The ends of a check and of a run.
use Rattle.std.proofs.Common.{◌≡◌, ◌≢◌, ℕ, ◌+◌, ◌<◌, ◌≤◌, Bool, true, false, List, [], ◌∷◌, length, count_by, Option, None, Some, Result, Ok, Err, inl, inr, refl, sym, ap, subst, ◌∙◌, arith}
use Rattle.std.specs.List.{filter}
use Rattle.std.specs.Option.{ForSome}
use Rattle.std.proofs.lemmas.List.{length-map}
use Rattle.std.proofs.lemmas.List.Sums.{length-filter}
use Rattle.fault_io.specs.Stored.{Stored, bytes_at}
use Rattle.fault_io.specs.declared.traits.WriteRefusal.{WriteRefusal}
use Rattle.fault_io.specs.declared.traits.WriteRefusal.TheVariants as Cut
use Rattle.load_files.specs.Counts.{IsWithinLimits}
use Rattle.load_files.specs.Loads.{Loads, loaded}
use Rattle.load_files.specs.Tables.{Table}
use Rattle.load_files.specs.declared.contents.FileContents.{FileContents}
use Rattle.load_files.specs.declared.packages.Package.{Package}
use Rattle.load_files.specs.declared.refusal.LoadRefusal.{LoadRefusal}
use Rattle.load_files.specs.declared.refusal.LoadRefusal.TheVariants as refusal
use Rattle.load_files.specs.declared.roots.Roots.{Roots}
use Rattle.dart_tree.specs.Tree.{Tree}
use Rattle.check_library.specs.Units.{body_of}
use Rattle.check_files.specs.Lent.{file_view, table_view}
use Rattle.check_files.specs.declared.lent.LentFile.{LentFile}
use Rattle.check_files.specs.declared.findings.Finding.{Finding}
use Rattle.check_files.specs.Links.{heads_of, library_in}
use Rattle.check_files.specs.Sources.{sources_of}
use Rattle.core_machine.specs.State.{Outcome, Reaches, Wrong, run_of}
use Rattle.core_machine.specs.declared.effect.RunEnd.{RunEnd}
use Rattle.core_machine.specs.declared.effect.RunEnd.TheVariants.{Done as Ended}
use Rattle.command_words.specs.declared.words.Command.{Command}
use Rattle.command_words.specs.declared.words.Command.TheVariants.{Serve, Check as CheckWords, Run as RunWords, Refused as NoCommand}
use Rattle.dart_server.specs.declared.status.Status.{Status}
use Rattle.dart_server.specs.declared.status.Status.TheVariants.{Done, Errors, Refused, Threw, Memory, StepsSpent, ReadFault, WriteFault, FilesFault, InputSpent, Rejected}
use Rattle.dart_server.specs.declared.task.Task.{Task}
use Rattle.dart_server.specs.declared.task.Task.TheVariants.{Check, Run}
use Rattle.dart_server.specs.Writes.{Writes, status_after}
use Rattle.dart_server.specs.Run.{PrintsBy, Prints, RunGives, UnbuiltGives, UnitGives}
use Rattle.dart_server.specs.Libraries.{ClearGives, Ends, FilesGive, FoundGive, LibraryOutput, MayEndIn, OverPackages, PlaceGives, Runs, TableGives, directives_in, folder_for, packages_for, roots_for}
use Rattle.dart_server.specs.Output.{MayEnd}

-- all pass a test that always passes
keeps_all : {A : Type 0} (xs : List A) → filter (λ (x : A). true) xs ≡ xs
keeps_all [] = refl
keeps_all (x ∷ xs) = ap (λ rest. x ∷ rest) (keeps_all xs)

-- the files of a snapshot within the limits are few
pub few_lent : (files : List LentFile) (table : Table) → IsWithinLimits [] table → table_view files ≡ table → length files + 1 < 4294967296
few_lent files table within same =
    let all : length files ≡ length table = sym (length-map files file_view) ∙ ap length same in
    let counted : length table ≡ count_by (λ (file : List ℕ × FileContents). true) table = sym (ap length (keeps_all table)) ∙ length-filter (λ (file : List ℕ × FileContents). true) table in
    let limit : 0 + count_by (λ (file : List ℕ × FileContents). true) table ≤ 10000 = within.paths in
    omega (arith, all, counted, limit)

-- the statuses of whole outputs
abbrev IsWholeStatus : Task → Status → Type 0
IsWholeStatus task Done = Unit {0}
IsWholeStatus task Errors = Unit {0}
IsWholeStatus task Refused = Unit {0}
IsWholeStatus task StepsSpent = Runs task
IsWholeStatus task Rejected = Runs task
IsWholeStatus task _ = ⊥

by_end : (steps : ℕ) (end : Option RunEnd) (printed output : List ℕ) (status : Status) → PrintsBy end printed output status → IsWholeStatus (Run steps) status
by_end steps (Some Ended) printed output status prints = subst (IsWholeStatus (Run steps)) (sym prints.1) tt
by_end steps None printed output status prints = subst (IsWholeStatus (Run steps)) (sym prints.1) tt

by_outcome : (steps : ℕ) (o : Outcome) (output : List ℕ) (status : Status) → Prints o output status → IsWholeStatus (Run steps) status
by_outcome steps (Reaches s) output status prints = by_end steps s.end s.output output status prints
by_outcome steps (Wrong kind) output status prints = absurd prints

by_unit : (text : List ℕ) (steps : ℕ) (body : Option Tree) (output : List ℕ) (status : Status) → UnitGives text steps body output status → IsWholeStatus (Run steps) status
by_unit text steps None output status gives = subst (IsWholeStatus (Run steps)) (sym gives.1) tt
by_unit text steps (Some body) output status gives = by_outcome steps (run_of gives.program steps) output status gives.prints

by_unbuilt : (steps : ℕ) (main : Bool) (output : List ℕ) (status : Status) → UnbuiltGives main output status → IsWholeStatus (Run steps) status
by_unbuilt steps true output status gives = subst (IsWholeStatus (Run steps)) (sym gives.1) tt
by_unbuilt steps false output status gives = subst (IsWholeStatus (Run steps)) (sym gives.1) tt

by_text : {X : Type 0} (text : List ℕ) (main : Bool) (steps : ℕ) (unknown : List X) (output : List ℕ) (status : Status) → RunGives text main steps unknown output status → IsWholeStatus (Run steps) status
by_text text main steps [] output status gives = by_unit text steps (body_of text) output status gives
by_text text main steps (one ∷ more) output status gives = by_unbuilt steps main output status gives

by_clear : {X : Type 0} (unknown : List X) (task : Task) (packages : List Package) (table : Table) (place : ℕ) (output : List ℕ) (status : Status) → ClearGives unknown task packages table place output status → IsWholeStatus task status
by_clear unknown Check packages table place output status gives = subst (IsWholeStatus Check) (sym gives.1) tt
by_clear unknown (Run steps) packages table place output status gives = by_text _ _ steps unknown output status gives

by_found : (task : Task) (packages : List Package) (table : Table) (place : ℕ) (findings : List Finding) (output : List ℕ) (status : Status) → FoundGive task packages table place findings output status → IsWholeStatus task status
by_found task packages table place [] output status gives = by_clear (directives_in table place) task packages table place output status gives
by_found task packages table place (finding ∷ findings) output status gives = subst (IsWholeStatus task) (sym gives.1) tt

by_place : (task : Task) (packages : List Package) (table : Table) (place : Option ℕ) (output : List ℕ) (status : Status) → PlaceGives task packages table place output status → IsWholeStatus task status
by_place task packages table None output status gives = subst (IsWholeStatus task) (sym gives.1) tt
by_place task packages table (Some place) output status gives = by_found task packages table place gives.findings output status gives.gives

by_answer : (task : Task) (file folder : List ℕ) (packages : List Package) (answer : Result Table LoadRefusal) (output : List ℕ) (status : Status) → FilesGive task file folder packages answer output status → IsWholeStatus task status
by_answer task file folder packages (Ok table) output status gives = by_place task packages table (library_in folder file table (heads_of packages (sources_of table))) output status gives
by_answer task file folder packages (Err (refusal.TooManyFiles count)) output status gives = subst (IsWholeStatus task) (sym gives.1) tt
by_answer task file folder packages (Err (refusal.TooDeep depth)) output status gives = subst (IsWholeStatus task) (sym gives.1) tt
by_answer task file folder packages (Err (refusal.TooMuch bytes)) output status gives = subst (IsWholeStatus task) (sym gives.1) tt
by_answer task file folder packages (Err refusal.FilesFault) output status gives = absurd gives
by_answer task file folder packages (Err refusal.Memory) output status gives = absurd gives

-- the statuses of a check and a run whose store didn't fail
abbrev IsEndStatus : Task → Status → Type 0
IsEndStatus task WriteFault = Unit {0}
IsEndStatus task Memory = Unit {0}
IsEndStatus task status = IsWholeStatus task status

whole_is_end : (task : Task) (status : Status) → IsWholeStatus task status → IsEndStatus task status
whole_is_end task Done whole = tt
whole_is_end task Errors whole = tt
whole_is_end task Refused whole = tt
whole_is_end task StepsSpent whole = whole
whole_is_end task Rejected whole = whole
whole_is_end task Threw whole = absurd whole
whole_is_end task Memory whole = absurd whole
whole_is_end task ReadFault whole = absurd whole
whole_is_end task WriteFault whole = absurd whole
whole_is_end task FilesFault whole = absurd whole
whole_is_end task InputSpent whole = absurd whole

end_status : (task : Task) (file folder : List ℕ) (packages : List Package) (answer : Result Table LoadRefusal) (old new : Option (List ℕ)) (r : Result Status WriteRefusal) → Writes (FilesGive task file folder packages answer) old new r → IsEndStatus task (status_after r)
end_status task file folder packages answer old new (Ok status) writes = whole_is_end task status (by_answer task file folder packages answer writes.output status writes.given)
end_status task file folder packages answer old new (Err Cut.Failed) writes = tt
end_status task file folder packages answer old new (Err Cut.Memory) writes = tt

end_may_be : (task : Task) (status : Status) → IsEndStatus task status → MayEndIn task status
end_may_be task Done ends = tt
end_may_be task Errors ends = tt
end_may_be task Refused ends = tt
end_may_be task Memory ends = tt
end_may_be task WriteFault ends = tt
end_may_be task StepsSpent ends = ends
end_may_be task Rejected ends = ends
end_may_be task Threw ends = absurd ends
end_may_be task ReadFault ends = absurd ends
end_may_be task FilesFault ends = absurd ends
end_may_be task InputSpent ends = absurd ends

-- a check and a run over files have the statuses that they may have
pub table_may_end : (task : Task) (file folder : List ℕ) (packages : List Package) (table : Table) (old new : Option (List ℕ)) (r : Result Status WriteRefusal) (status : Status) → Writes (TableGives task file folder packages table) old new r → status ≡ status_after r → MayEndIn task status
table_may_end task file folder packages table old new r status writes is =
    subst (MayEndIn task) (sym is) (end_may_be task (status_after r) (end_status task file folder packages (Ok table) old new r writes))

-- what is written is that of a library whose files come to this
pub over_packages : (task : Task) (file folder : List ℕ) (packages : List Package) (told : Option Stored) (old new : Option (List ℕ)) (answer : Result Table LoadRefusal) (r : Result Status WriteRefusal) (status : Status) → ForSome told (λ stored. answer ≡ loaded stored (roots_for folder packages) []) → Writes (FilesGive task file folder packages answer) old new r → status ≡ status_after r → OverPackages task file folder packages told old new status
over_packages task file folder packages told old new answer r status answer_is writes is = record {
  answer = answer;
  answer_is = answer_is;
  fails = λ fails. absurd (subst (IsEndStatus task) (sym is ∙ fails) (end_status task file folder packages answer old new r writes));
  ends = λ _. record { end = r; status_is = is; writes = writes };
}

-- the bytes that a store tells
abbrev pub told_bytes : Option Stored → List ℕ → Option (List ℕ)
told_bytes None file = None
told_bytes (Some files) file = bytes_at files file

pub told_bytes_are : (told : Option Stored) (file : List ℕ) → ForSome told (λ files. told_bytes told file ≡ bytes_at files file)
told_bytes_are told file files is = ap (λ (stored : Option Stored). told_bytes stored file) is

-- what the files of a store come to, or else nothing
abbrev pub told_answer : Option Stored → Roots → Result Table LoadRefusal
told_answer None roots = Ok []
told_answer (Some stored) roots = loaded stored roots []

pub told_answer_is : (told : Option Stored) (roots : Roots) → ForSome told (λ stored. told_answer told roots ≡ loaded stored roots [])
told_answer_is told roots stored is = ap (λ (given : Option Stored). told_answer given roots) is

-- a limit that was met is the answer
limit_is : (refused : LoadRefusal) (answer : Result Table LoadRefusal) → refused ≢ refusal.FilesFault → refused ≢ refusal.Memory → Loads (Err refused) answer → Err refused ≡ answer
limit_is refused answer no_fault no_memory (inl (inl is)) = absurd (no_fault is)
limit_is refused answer no_fault no_memory (inl (inr is)) = absurd (no_memory is)
limit_is refused answer no_fault no_memory (inr is) = sym is

-- what is written is that of files past a limit
pub over_limit : (task : Task) (file folder : List ℕ) (packages : List Package) (told : Option Stored) (old new : Option (List ℕ)) (refused : LoadRefusal) (r : Result Status WriteRefusal) (status : Status) → refused ≢ refusal.FilesFault → refused ≢ refusal.Memory → ForSome told (λ stored. Loads (Err refused) (loaded stored (roots_for folder packages) [])) → Writes (FilesGive task file folder packages (Err refused)) old new r → status ≡ status_after r → OverPackages task file folder packages told old new status
over_limit task file folder packages told old new refused r status no_fault no_memory exact writes is =
    over_packages task file folder packages told old new (Err refused) r status (λ stored told_is. limit_is refused (loaded stored (roots_for folder packages) []) no_fault no_memory (exact stored told_is)) writes is

-- that of files that were read
pub over_table : (task : Task) (file folder : List ℕ) (packages : List Package) (told : Option Stored) (old new : Option (List ℕ)) (table : Table) (r : Result Status WriteRefusal) (status : Status) → ForSome told (λ stored. Loads (Ok table) (loaded stored (roots_for folder packages) [])) → Writes (TableGives task file folder packages table) old new r → status ≡ status_after r → OverPackages task file folder packages told old new status
over_table task file folder packages told old new table r status exact writes is =
    over_packages task file folder packages told old new (Ok table) r status (λ stored told_is. sym (exact stored told_is)) writes is

-- the store failed
pub over_fault : (task : Task) (file folder : List ℕ) (packages : List Package) (told : Option Stored) (old : Option (List ℕ)) → OverPackages task file folder packages told old old FilesFault
over_fault task file folder packages told old = record {
  answer = told_answer told (roots_for folder packages);
  answer_is = told_answer_is told (roots_for folder packages);
  fails = λ _. refl;
  ends = λ other. absurd (other refl);
}

-- memory was wanting
pub over_memory : (task : Task) (file folder : List ℕ) (packages : List Package) (told : Option Stored) (old : Option (List ℕ)) → OverPackages task file folder packages told old old Memory
over_memory task file folder packages told old =
    over_packages task file folder packages told old old (told_answer told (roots_for folder packages)) (Err Cut.Memory) Memory (told_answer_is told (roots_for folder packages)) (inl refl) refl

-- the packages that a store tells, or else none
abbrev told_packages : Option Stored → Option (List ℕ) → Option (List Package)
told_packages None named = Some []
told_packages (Some stored) named = packages_for named stored

told_packages_are : (told : Option Stored) (named : Option (List ℕ)) → ForSome told (λ stored. told_packages told named ≡ packages_for named stored)
told_packages_are told named stored is = ap (λ (given : Option Stored). told_packages given named) is

ends_by_memory : (task : Task) (file folder : List ℕ) (listed : Option (List Package)) (told : Option Stored) (old : Option (List ℕ)) → Ends task file folder listed told old old Memory
ends_by_memory task file folder None told old = record { fails = λ _. refl; ends = λ _. record { end = Err Cut.Memory; status_is = refl; writes = inl refl } }
ends_by_memory task file folder (Some packages) told old = over_memory task file folder packages told old

ends_by_fault : (task : Task) (file folder : List ℕ) (listed : Option (List Package)) (told : Option Stored) (old : Option (List ℕ)) → Ends task file folder listed told old old FilesFault
ends_by_fault task file folder None told old = record { fails = λ _. refl; ends = λ other. absurd (other refl) }
ends_by_fault task file folder (Some packages) told old = over_fault task file folder packages told old

-- memory was wanting before anything was read, or for the packages file
pub memory_output : (task : Task) (file : List ℕ) (named packages : Option (List ℕ)) (told : Option Stored) (old : Option (List ℕ)) → LibraryOutput task file named packages told old old Memory
memory_output task file named packages told old = record {
  listed = told_packages told packages;
  listed_are = told_packages_are told packages;
  ends = ends_by_memory task file (folder_for file named) (told_packages told packages) told old;
}

-- the store failed in reading the packages file
pub fault_output : (task : Task) (file : List ℕ) (named packages : Option (List ℕ)) (told : Option Stored) (old : Option (List ℕ)) → LibraryOutput task file named packages told old old FilesFault
fault_output task file named packages told old = record {
  listed = told_packages told packages;
  listed_are = told_packages_are told packages;
  ends = ends_by_fault task file (folder_for file named) (told_packages told packages) told old;
}

-- any command may end by want of memory
pub memory_may_end : (command : Command) → MayEnd command Memory
memory_may_end (Serve None) = tt
memory_may_end (Serve (Some file)) = tt
memory_may_end (CheckWords file root packages) = tt
memory_may_end (RunWords file root packages steps) = tt
memory_may_end NoCommand = tt
