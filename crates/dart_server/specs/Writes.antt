-- What is written of an output, and the status behind it.
use Rattle.std.specs.Prelude.{◌≡◌, ◌⊎◌, ℕ, ◌<◌, List, length, take, Option, Result, Ok, Err}
use Rattle.fault_io.specs.Bytes.{and_then}
use Rattle.fault_io.specs.Faults.{Rose}
use Rattle.fault_io.specs.declared.traits.WriteRefusal.{WriteRefusal}
use Rattle.fault_io.specs.declared.traits.WriteRefusal.TheVariants as Cut
use Rattle.dart_server.specs.declared.status.Status.{Status}
use Rattle.dart_server.specs.declared.status.Status.TheVariants.{Memory, WriteFault}

-- the output is this text, and the status this one
abbrev pub Says : (text : List ℕ) → (given : Status) → (output : List ℕ) → Status → Type 0
Says text given output status = (output ≡ text) × (status ≡ given)

-- an output is written whole
pub record IsWhole (gives : List ℕ → Status → Type 0) (old new : Option (List ℕ)) (status : Status) : Type 0 where
  pub output : List ℕ
  pub given : gives output status
  pub written : new ≡ and_then old output

-- a front of an output is written
pub record IsFront (gives : List ℕ → Status → Type 0) (old new : Option (List ℕ)) : Type 0 where
  pub output : List ℕ
  pub status : Status
  pub given : gives output status
  pub size : ℕ
  pub written : new ≡ and_then old (take size output)

-- what is written: the whole output, or where the sink refuses a front of it that isn't all; where memory is wanting a front, or nothing
abbrev pub Writes : (gives : List ℕ → Status → Type 0) → (old new : Option (List ℕ)) → Result Status WriteRefusal → Type 0
Writes gives old new (Ok status) = IsWhole gives old new status
Writes gives old new (Err Cut.Failed) = (front : IsFront gives old new) × (front.size < length front.output)
Writes gives old new (Err Cut.Memory) = (new ≡ old) ⊎ IsFront gives old new

-- the sink's count of faults rises exactly where it fails
abbrev pub Counts : Result Status WriteRefusal → (faults faults' : ℕ) → Type 0
Counts (Ok status) faults faults' = faults' ≡ faults
Counts (Err Cut.Failed) faults faults' = Rose faults faults'
Counts (Err Cut.Memory) faults faults' = faults' ≡ faults

-- the status of an end
abbrev pub status_after : Result Status WriteRefusal → Status
status_after (Ok status) = status
status_after (Err Cut.Failed) = WriteFault
status_after (Err Cut.Memory) = Memory

-- what is written, and the status, where the end says it
pub record IsEnd (gives : List ℕ → Status → Type 0) (old new : Option (List ℕ)) (status : Status) : Type 0 where
  pub end : Result Status WriteRefusal
  pub status_is : status ≡ status_after end
  pub writes : Writes gives old new end
