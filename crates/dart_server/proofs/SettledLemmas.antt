-- The output of the program is settled.
use Rattle.std.proofs.Common.{◌≡◌, ℕ, false, List, [], Option, None, Some, inl, inr, refl, sym, subst, ◌∙◌}
use Rattle.std.proofs.lemmas.Bool.{true≢false}
use Rattle.fault_io.specs.Bytes.{and_then}
use Rattle.fault_io.specs.Faults.{Rose, one_more}
use Rattle.fault_io.specs.Stored.{Stored, bytes_at}
use Rattle.load_files.specs.declared.packages.Package.{Package}
use Rattle.packages_file.specs.Stored.{packages_at}
use Rattle.command_words.specs.declared.words.Command.{Command}
use Rattle.command_words.specs.declared.words.Command.TheVariants.{Serve, Check, Run, Refused as NoCommand}
use Rattle.dart_server.specs.declared.task.Task.TheVariants as task
use Rattle.dart_server.specs.declared.status.Status.{Status}
use Rattle.dart_server.specs.declared.status.Status.TheVariants.{Done, Errors, Refused, Threw, Memory, StepsSpent, ReadFault, WriteFault, FilesFault, InputSpent, Rejected}
use Rattle.dart_server.specs.Libraries.{packages_for, packages_line}
use Rattle.dart_server.specs.Output.{CountsUnread, OverListed, RefusedBy, ServeFileOutput, Serves, usage_line}
use Rattle.dart_server.specs.Settled.{Gives, leaves_open}
use Rattle.dart_server.proofs.OneLemmas.{library_settled}
use Rattle.dart_server.proofs.ServedLemmas.{IsServed, all_served, served_one}

-- a refusal is written whole, where the status leaves nothing open
refused : (line : List ℕ) (status : Status) (old new : Option (List ℕ)) → leaves_open status ≡ false → RefusedBy line status old new → (new ≡ and_then old line) × (status ≡ Refused)
refused line Refused old new closed h = (h, refl)
refused line WriteFault old new closed h = absurd (true≢false closed)
refused line Memory old new closed h = absurd (true≢false closed)
refused line Done old new closed h = absurd h
refused line Errors old new closed h = absurd h
refused line Threw old new closed h = absurd h
refused line StepsSpent old new closed h = absurd h
refused line ReadFault old new closed h = absurd h
refused line FilesFault old new closed h = absurd h
refused line InputSpent old new closed h = absurd h
refused line Rejected old new closed h = absurd h

-- a packages file that can't be read leaves the output open
unread_is_open : (status : Status) (faults faults' : ℕ) → leaves_open status ≡ false → CountsUnread status faults faults' → ⊥
unread_is_open FilesFault faults faults' closed h = true≢false closed
unread_is_open Memory faults faults' closed h = true≢false closed
unread_is_open Done faults faults' closed h = h
unread_is_open Errors faults faults' closed h = h
unread_is_open Refused faults faults' closed h = h
unread_is_open Threw faults faults' closed h = h
unread_is_open StepsSpent faults faults' closed h = h
unread_is_open ReadFault faults faults' closed h = h
unread_is_open WriteFault faults faults' closed h = h
unread_is_open InputSpent faults faults' closed h = h
unread_is_open Rejected faults faults' closed h = h

-- what is served over the packages that a file lists, where it lists any
abbrev ListedServed : Option (List Package) → Stored → (input : List ℕ) → (old new : Option (List ℕ)) → Status → Type 0
ListedServed None stored input old new status = (new ≡ and_then old packages_line) × (status ≡ Refused)
ListedServed (Some packages) stored input old new status = IsServed packages stored input old new status

module _ (stored : Stored) (input : List ℕ) (old new left : Option (List ℕ)) (faults faults' lists lists' reads reads' shortages shortages' : ℕ) (status : Status) (closed : leaves_open status ≡ false) (none : Rose faults faults' → ⊥) where
  listed_served : (listed : Option (List Package)) → OverListed listed (Some stored) (Some input) old new left faults faults' lists lists' reads reads' shortages shortages' status → ListedServed listed stored input old new status
  listed_served None h = refused packages_line status old new closed h.0.written
  listed_served (Some packages) h = all_served packages stored input old new left faults faults' none lists lists' (one_more reads) reads' shortages shortages' status closed (h.1 input refl)

  file_served : (file : List ℕ) → ServeFileOutput file (Some stored) (Some input) old new left faults faults' lists lists' reads reads' shortages shortages' status → ListedServed (packages_at file (bytes_at stored file)) stored input old new status
  file_served file h = elim h.ends [
    | inl unread ↦ absurd (unread_is_open status faults faults' closed unread.0.counts)
    | inr over ↦ subst (λ (bytes : Option (List ℕ)). ListedServed (packages_at file bytes) stored input old new status) (h.bytes_are stored refl) (listed_served (packages_at file h.bytes) over)
  ]

  all_given : (packages : Option (List ℕ)) → Serves packages (Some stored) (Some input) old new left faults faults' lists lists' reads reads' shortages shortages' status → ListedServed (packages_for packages stored) stored input old new status
  all_given None h = all_served [] stored input old new left faults faults' none lists lists' reads reads' shortages shortages' status closed (h input refl)
  all_given (Some file) h = file_served file h

listed_one : (listed : Option (List Package)) (stored : Stored) (input : List ℕ) (old new new' : Option (List ℕ)) (status status' : Status) → ListedServed listed stored input old new status → ListedServed listed stored input old new' status' → (new ≡ new') × (status ≡ status')
listed_one None stored input old new new' status status' h h' = (h.0 ∙ sym h'.0, h.1 ∙ sym h'.1)
listed_one (Some packages) stored input old new new' status status' h h' = served_one packages stored input old new new' status status' h h'

-- under `serve`
served_given : (packages : Option (List ℕ)) (stored : Stored) (input : List ℕ) (old new : Option (List ℕ)) (status : Status) → Gives (Serve packages) stored input old new status → ListedServed (packages_for packages stored) stored input old new status
served_given packages stored input old new status h =
    all_given stored input old new h.left h.faults h.faults' h.lists h.lists' h.reads h.reads' h.shortages h.shortages' status h.closed (h.no_fault refl) packages (h.output.serves packages refl)

-- where nothing fails there is one output, and one status
pub output_settled : (command : Command) (stored : Stored) (input : List ℕ) (old new new' : Option (List ℕ)) (status status' : Status) → Gives command stored input old new status → Gives command stored input old new' status' → (new ≡ new') × (status ≡ status')
output_settled (Serve packages) stored input old new new' status status' h h' =
    listed_one (packages_for packages stored) stored input old new new' status status' (served_given packages stored input old new status h) (served_given packages stored input old new' status' h')
output_settled (Check file root packages) stored input old new new' status status' h h' =
    library_settled old new new' status status' h.closed h'.closed stored task.Check file root packages (h.output.checks file root packages refl) (h'.output.checks file root packages refl)
output_settled (Run file root packages steps) stored input old new new' status status' h h' =
    library_settled old new new' status status' h.closed h'.closed stored (task.Run steps) file root packages (h.output.runs file root packages steps refl) (h'.output.runs file root packages steps refl)
output_settled NoCommand stored input old new new' status status' h h' =
    let whole = refused usage_line status old new h.closed (h.output.refuses refl) in
    let whole' = refused usage_line status' old new' h'.closed (h'.output.refuses refl) in
    (whole.0 ∙ sym whole'.0, whole.1 ∙ sym whole'.1)
