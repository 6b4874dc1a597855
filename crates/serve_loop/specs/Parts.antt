-- What stands written of a reply that isn't written whole.
use Rattle.std.specs.Prelude.{◌≡◌, ℕ, ◌<◌, Bool, List, [], length, take, Option, unwrap_or}
use Rattle.fault_io.specs.Bytes.{and_then}
use Rattle.serve_loop.specs.Marks.{Tells, MayRise}
use Rattle.serve_loop.specs.declared.end.ServeEnd.{ServeEnd}
use Rattle.serve_loop.specs.declared.end.ServeEnd.TheVariants.{Done, InputSpent, ReadFault, WriteFault, Memory, SinkMemory}

-- `allowed` says whether the event may use the store of files, `gives` which replies and states after it are given by a mark; `old` and `new` are what was written before and after, `faults` and `faults'` count those of the store
module _ {State : Type 0} (allowed : Bool) (gives : Bool → Option (List ℕ) → State → Type 0) (old new : Option (List ℕ)) (faults faults' : ℕ) where
  -- the reply is written whole, and the state is the one after it
  pub record IsReplied (after : State) : Type 0 where
    pub mark : Bool
    pub tells : Tells allowed mark faults faults'
    pub reply : Option (List ℕ)
    pub given : gives mark reply after
    pub written : new ≡ and_then old (unwrap_or reply [])

  -- a proper part of the reply, from its front
  pub record IsPart : Type 0 where
    pub mark : Bool
    pub tells : Tells allowed mark faults faults'
    pub reply : Option (List ℕ)
    pub after : State
    pub given : gives mark reply after
    pub size : ℕ
    pub short : size < length (unwrap_or reply [])
    pub written : new ≡ and_then old (take size (unwrap_or reply []))

  -- nothing of the reply where it couldn't be formed, and a part of it where the sink refused the rest
  abbrev pub PartOfReply : ServeEnd → Type 0
  PartOfReply Memory = (new ≡ old) × MayRise allowed faults faults'
  PartOfReply WriteFault = IsPart
  PartOfReply SinkMemory = IsPart
  PartOfReply Done = ⊥
  PartOfReply InputSpent = ⊥
  PartOfReply ReadFault = ⊥
