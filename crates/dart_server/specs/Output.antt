-- The whole output of the program.
use Rattle.std.specs.Prelude.{◌≡◌, ◌≢◌, ◌⊎◌, ℕ, ◌<◌, List, [], ◌∷◌, ◌++◌, codes, length, take, Option, None, Some}
use Rattle.std.specs.Option.{ForSome}
use Rattle.fault_io.specs.Bytes.{and_then}
use Rattle.fault_io.specs.Faults.{Rose, one_more}
use Rattle.fault_io.specs.Stored.{Stored, bytes_at}
use Rattle.fault_io.specs.Lines.{input_lines}
use Rattle.load_files.specs.declared.packages.Package.{Package}
use Rattle.serve_loop.specs.Replies.{UseNothing}
use Rattle.serve_loop.specs.Served.{Served}
use Rattle.proto_json.specs.declared.request.TheConstants.{MAX_LINE}
use Rattle.serve_loop.specs.declared.end.ServeEnd.{ServeEnd}
use Rattle.serve_loop.specs.declared.end.ServeEnd.TheVariants as End
use Rattle.packages_file.specs.Stored.{packages_at}
use Rattle.protocol_rules.specs.Answers.{uses_store, MayAnswer}
use Rattle.protocol_rules.specs.State.{at_start}
use Rattle.command_words.specs.declared.words.Command.{Command}
use Rattle.command_words.specs.declared.words.Command.TheVariants.{Serve, Check, Run, Refused as NoCommand}
use Rattle.dart_server.specs.Libraries.{LibraryOutput, MayEndIn, packages_line}
use Rattle.dart_server.specs.declared.task.Task.TheVariants as task
use Rattle.dart_server.specs.declared.status.Status.{Status}
use Rattle.dart_server.specs.declared.status.Status.TheVariants.{Done, Errors, Refused, Threw, Memory, StepsSpent, ReadFault, WriteFault, FilesFault, InputSpent, Rejected}

-- what is written where the words are no command
abbrev pub usage_line : List ℕ
usage_line = codes "usage: dart_serve serve|check FILE|run FILE|make N [options]" ++ 10 ∷ []

-- 2^40 bytes: an input that has so many isn't read on
abbrev pub input_limit : ℕ
input_limit = 1099511627776

-- the status of an end of serving
abbrev pub status_for : ServeEnd → Status
status_for End.Done = Done
status_for End.InputSpent = InputSpent
status_for End.ReadFault = ReadFault
status_for End.WriteFault = WriteFault
status_for End.Memory = Memory
status_for End.SinkMemory = Memory

-- the sink's count of wants of memory rises exactly where serving ends by one: only there may a reply be cut at the status of want of memory, and else all replies are whole
abbrev pub CountsShortage : ServeEnd → (shortages shortages' : ℕ) → Type 0
CountsShortage End.SinkMemory shortages shortages' = Rose shortages shortages'
CountsShortage End.Done shortages shortages' = shortages' ≡ shortages
CountsShortage End.InputSpent shortages shortages' = shortages' ≡ shortages
CountsShortage End.ReadFault shortages shortages' = shortages' ≡ shortages
CountsShortage End.WriteFault shortages shortages' = shortages' ≡ shortages
CountsShortage End.Memory shortages shortages' = shortages' ≡ shortages

-- The lines are served over these packages: the replies to the lines of the input, each over the contents then current, as far as the end of serving says; where no line asks for the store it isn't called.
pub record ServeOutput (packages : List Package) (told : Option Stored) (input : List ℕ) (old new left : Option (List ℕ)) (faults faults' lists lists' reads reads' shortages shortages' : ℕ) (status : Status) : Type 0 where
  pub end : ServeEnd
  pub status_is : status ≡ status_for end
  pub counts : CountsShortage end shortages shortages'
  pub served : Served uses_store (MayAnswer told) MAX_LINE input_limit (at_start packages) input old new left faults faults' end
  pub quiet : UseNothing uses_store MAX_LINE (input_lines input_limit input) → (lists' ≡ lists) × (reads' ≡ reads)

-- a front of a line that isn't all of it
abbrev pub PartOf : (line : List ℕ) → (old new : Option (List ℕ)) → Type 0
PartOf line old new = (n : ℕ) × (n < length line) × (new ≡ and_then old (take n line))

-- what is written where something is refused by a line
abbrev pub RefusedBy : (line : List ℕ) → Status → (old new : Option (List ℕ)) → Type 0
RefusedBy line Refused old new = new ≡ and_then old line
RefusedBy line WriteFault old new = PartOf line old new
RefusedBy line Memory old new = PartOf line old new
RefusedBy line Done old new = ⊥
RefusedBy line Errors old new = ⊥
RefusedBy line Threw old new = ⊥
RefusedBy line StepsSpent old new = ⊥
RefusedBy line ReadFault old new = ⊥
RefusedBy line FilesFault old new = ⊥
RefusedBy line InputSpent old new = ⊥
RefusedBy line Rejected old new = ⊥

-- The statuses that the program may have: under `serve` those of its ends and, over a packages file, of one that is refused or can't be read, under `check` and `run` those of a check and a run, for other words that of the refusal, or of a sink that didn't take the usage line.
abbrev pub MayEnd : Command → Status → Type 0
MayEnd (Serve packages) Done = Unit {0}
MayEnd (Serve packages) Memory = Unit {0}
MayEnd (Serve packages) ReadFault = Unit {0}
MayEnd (Serve packages) WriteFault = Unit {0}
MayEnd (Serve packages) InputSpent = Unit {0}
MayEnd (Serve (Some file)) Refused = Unit {0}
MayEnd (Serve (Some file)) FilesFault = Unit {0}
MayEnd (Check file root packages) status = MayEndIn task.Check status
MayEnd (Run file root packages steps) status = MayEndIn (task.Run steps) status
MayEnd NoCommand Refused = Unit {0}
MayEnd NoCommand Memory = Unit {0}
MayEnd NoCommand WriteFault = Unit {0}
MayEnd _ _ = ⊥

-- the store's count of faults where the packages file couldn't be read: it rises exactly where the store failed, and else memory was wanting
abbrev pub CountsUnread : Status → (faults faults' : ℕ) → Type 0
CountsUnread FilesFault faults faults' = Rose faults faults'
CountsUnread Memory faults faults' = faults' ≡ faults
CountsUnread Done faults faults' = ⊥
CountsUnread Errors faults faults' = ⊥
CountsUnread Refused faults faults' = ⊥
CountsUnread Threw faults faults' = ⊥
CountsUnread StepsSpent faults faults' = ⊥
CountsUnread ReadFault faults faults' = ⊥
CountsUnread WriteFault faults faults' = ⊥
CountsUnread InputSpent faults faults' = ⊥
CountsUnread Rejected faults faults' = ⊥

-- Nothing is served: nothing of the input is taken, and the store was asked for the packages file alone.
pub record Unserved (from left : Option (List ℕ)) (lists lists' reads reads' : ℕ) : Type 0 where
  pub untaken : left ≡ from
  pub unlisted : lists' ≡ lists
  pub read_once : reads' ≡ one_more reads

-- The packages file couldn't be read: nothing is written.
pub record UnreadFile (old new : Option (List ℕ)) (faults faults' shortages shortages' : ℕ) (status : Status) : Type 0 where
  pub counts : CountsUnread status faults faults'
  pub unwritten : new ≡ old
  pub not_short : shortages' ≡ shortages

-- The packages file is refused: its line is written, which is cut at the status of want of memory exactly where the sink's count of it rises.
pub record RefusedFile (old new : Option (List ℕ)) (faults faults' shortages shortages' : ℕ) (status : Status) : Type 0 where
  pub written : RefusedBy packages_line status old new
  pub no_fault : faults' ≡ faults
  pub short : status ≡ Memory → Rose shortages shortages'
  pub not_short : status ≢ Memory → shortages' ≡ shortages

-- by the packages that the file lists: it is refused, or the lines are served over them, after the one read
abbrev pub OverListed : Option (List Package) → Option Stored → (from old new left : Option (List ℕ)) → (faults faults' lists lists' reads reads' shortages shortages' : ℕ) → Status → Type 0
OverListed None told from old new left faults faults' lists lists' reads reads' shortages shortages' status =
    RefusedFile old new faults faults' shortages shortages' status × Unserved from left lists lists' reads reads'
OverListed (Some packages) told from old new left faults faults' lists lists' reads reads' shortages shortages' status =
    MayEnd (Serve None) status × ForSome from (λ input. ServeOutput packages told input old new left faults faults' lists lists' (one_more reads) reads' shortages shortages' status)

-- Under `serve --packages FILE`: what is served over the packages of the bytes that the store gives for the file, unless it couldn't be read.
pub record ServeFileOutput (file : List ℕ) (told : Option Stored) (from old new left : Option (List ℕ)) (faults faults' lists lists' reads reads' shortages shortages' : ℕ) (status : Status) : Type 0 where
  pub bytes : Option (List ℕ)
  pub bytes_are : ForSome told (λ files. bytes ≡ bytes_at files file)
  pub ends : (UnreadFile old new faults faults' shortages shortages' status × Unserved from left lists lists' reads reads')
      ⊎ OverListed (packages_at file bytes) told from old new left faults faults' lists lists' reads reads' shortages shortages' status

-- Under `serve`, over no packages or over those of a file.
abbrev pub Serves : Option (List ℕ) → Option Stored → (from old new left : Option (List ℕ)) → (faults faults' lists lists' reads reads' shortages shortages' : ℕ) → Status → Type 0
Serves None told from old new left faults faults' lists lists' reads reads' shortages shortages' status =
    ForSome from (λ input. ServeOutput [] told input old new left faults faults' lists lists' reads reads' shortages shortages' status)
Serves (Some file) told from old new left faults faults' lists lists' reads reads' shortages shortages' status =
    ServeFileOutput file told from old new left faults faults' lists lists' reads reads' shortages shortages' status

-- Memory was wanting for the words: nothing was read, asked or written.
pub record Unstarted (from old new left : Option (List ℕ)) (faults faults' lists lists' reads reads' shortages shortages' : ℕ) (status : Status) : Type 0 where
  pub short : status ≡ Memory
  pub untaken : left ≡ from
  pub unwritten : new ≡ old
  pub no_fault : faults' ≡ faults
  pub unlisted : lists' ≡ lists
  pub unread : reads' ≡ reads
  pub not_short : shortages' ≡ shortages

-- What the program writes under a command, and its status: one field for each.
pub record Output (command : Command) (told : Option Stored) (from : Option (List ℕ)) (old new left : Option (List ℕ)) (faults faults' lists lists' reads reads' shortages shortages' : ℕ) (status : Status) : Type 0 where
  pub serves : (packages : Option (List ℕ)) → command ≡ Serve packages → Serves packages told from old new left faults faults' lists lists' reads reads' shortages shortages' status
  pub checks : (file : List ℕ) (root packages : Option (List ℕ)) → command ≡ Check file root packages → LibraryOutput task.Check file root packages told old new status
  pub runs : (file : List ℕ) (root packages : Option (List ℕ)) (steps : ℕ) → command ≡ Run file root packages steps → LibraryOutput (task.Run steps) file root packages told old new status
  pub refuses : command ≡ NoCommand → RefusedBy usage_line status old new
  pub unread : command ≡ NoCommand → reads' ≡ reads
