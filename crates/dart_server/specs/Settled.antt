-- What the program writes is settled.
use Rattle.std.specs.Prelude.{◌≡◌, ℕ, Bool, true, false, List, map, Option, Some}
use Rattle.fault_io.specs.Faults.{Rose}
use Rattle.fault_io.specs.Stored.{Stored}
use Rattle.serve_loop.specs.Replies.{Answered, AreGiven, lines_in, replies_in}
use Rattle.protocol_rules.specs.Answers.{MayAnswer}
use Rattle.protocol_rules.specs.State.{State}
use Rattle.command_words.specs.Words.{serves}
use Rattle.command_words.specs.declared.words.Command.{Command}
use Rattle.dart_server.specs.declared.status.Status.{Status}
use Rattle.dart_server.specs.declared.status.Status.TheVariants.{Done, Errors, Refused, Threw, Memory, StepsSpent, ReadFault, WriteFault, FilesFault, InputSpent, Rejected}
use Rattle.dart_server.specs.Output.{Output}

-- whether the store failed in each of these lines
abbrev pub marks_in : {State : Type 0} → List (Answered State) → List Bool
marks_in answered = map (λ a. a.mark) answered

-- over the files that a store tells, lines have one list of replies at most in a state, by which of them the store fails in
abbrev pub RepliesAreSettled : Type 0
RepliesAreSettled = (stored : Stored) (limit : ℕ) (state : State) (answered answered' : List (Answered State)) → AreGiven (MayAnswer (Some stored)) limit state answered → AreGiven (MayAnswer (Some stored)) limit state answered' → lines_in answered ≡ lines_in answered' → marks_in answered ≡ marks_in answered' → replies_in answered ≡ replies_in answered'

-- the statuses that rest on something that failed, and so leave it open what is written: memory was wanting, or the source, the sink or the store failed
abbrev pub leaves_open : Status → Bool
leaves_open Memory = true
leaves_open ReadFault = true
leaves_open WriteFault = true
leaves_open FilesFault = true
leaves_open Done = false
leaves_open Errors = false
leaves_open Refused = false
leaves_open Threw = false
leaves_open StepsSpent = false
leaves_open InputSpent = false
leaves_open Rejected = false

-- What the program writes under a command behind what was written before, and its status, over this input and the files that a store tells, where nothing fails: no such status comes, and under `serve` the store's count of faults neither rises nor stands at its last value, so no line is one in which it failed.
pub record Gives (command : Command) (stored : Stored) (input : List ℕ) (old new : Option (List ℕ)) (status : Status) : Type 0 where
  pub left : Option (List ℕ)
  pub faults : ℕ
  pub faults' : ℕ
  pub lists : ℕ
  pub lists' : ℕ
  pub reads : ℕ
  pub reads' : ℕ
  pub shortages : ℕ
  pub shortages' : ℕ
  pub output : Output command (Some stored) (Some input) old new left faults faults' lists lists' reads reads' shortages shortages' status
  pub closed : leaves_open status ≡ false
  pub no_fault : serves command ≡ true → Rose faults faults' → ⊥

-- where nothing fails there is one output at most, and one status
abbrev pub OutputIsSettled : Type 0
OutputIsSettled = (command : Command) (stored : Stored) (input : List ℕ) (old new new' : Option (List ℕ)) (status status' : Status) → Gives command stored input old new status → Gives command stored input old new' status' → (new ≡ new') × (status ≡ status')
