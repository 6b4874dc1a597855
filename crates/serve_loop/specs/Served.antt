-- What serving wrote, at each end.
use Rattle.std.specs.Prelude.{◌≡◌, ℕ, ◌+◌, ◌<◌, ◌≤◌, Bool, false, List, [], ◌∷◌, ◌++◌, length, take, drop, Option, Some}
use Rattle.fault_io.specs.Bytes.{and_then}
use Rattle.fault_io.specs.Lines.{lines_of, input_lines}
use Rattle.fault_io.specs.declared.line.TheConstants.{PIECE}
use Rattle.serve_loop.specs.Event.{Event}
use Rattle.serve_loop.specs.Replies.{Answered, lines_in, text_of, bytes_of, replies_in, state_after, IsGiven, AreGiven}
use Rattle.serve_loop.specs.Marks.{MarksTell, MayRiseOnce}
use Rattle.serve_loop.specs.Turn.{AreFirst}
use Rattle.serve_loop.specs.declared.end.ServeEnd.{ServeEnd}
use Rattle.serve_loop.specs.declared.end.ServeEnd.TheVariants.{Done, InputSpent, ReadFault, WriteFault, Memory, SinkMemory}

-- `uses` and `gives` are the answerer's, `state` is its state at first; `old` and `new` are what was written before and after, `left` is what the source has left, `faults` and `faults'` count those of the store of files before and after
module _ {State : Type 0} (uses : Event → Bool) (gives : State → Event → Bool → Option (List ℕ) → State → Type 0) (line_limit input_limit : ℕ) (state : State) (input : List ℕ) (old new : Option (List ℕ)) (left : Option (List ℕ)) (faults faults' : ℕ) where
  -- exactly so many bytes were taken from the source, and no more than the limit
  pub record Takes (taken : ℕ) : Type 0 where
    pub left_is : left ≡ Some (drop taken input)
    pub fits : taken ≤ length input
    pub within : taken ≤ input_limit

  -- exactly the replies to all lines of the input
  pub record Whole : Type 0 where
    pub answered : List (Answered State)
    pub given : AreGiven gives line_limit state answered
    pub marks : MarksTell uses line_limit answered faults faults'
    pub lines : lines_in answered ≡ input_lines input_limit input
    pub written : new ≡ and_then old (replies_in answered)

  -- exactly the replies to the lines whose line feed was taken from the source
  pub record Taken : Type 0 where
    pub taken : ℕ
    pub takes : Takes taken
    pub answered : List (Answered State)
    pub given : AreGiven gives line_limit state answered
    pub marks : MarksTell uses line_limit answered faults faults'
    pub lines : lines_in answered ≡ lines_of false (take taken input)
    pub written : new ≡ and_then old (replies_in answered)

  -- the whole replies to some first lines of those whose line feed was taken from the source; the store may have failed further while the next was answered, if that may use it
  pub record First : Type 0 where
    pub taken : ℕ
    pub takes : Takes taken
    pub answered : List (Answered State)
    pub given : AreGiven gives line_limit state answered
    pub more : List (List ℕ)
    pub mid : ℕ
    pub marks : MarksTell uses line_limit answered faults mid
    pub last : MayRiseOnce uses line_limit more mid faults'
    pub lines : lines_in answered ++ more ≡ input_lines input_limit input
    pub first : AreFirst input (lines_in answered) taken
    pub written : new ≡ and_then old (replies_in answered)

  -- the whole replies to some first lines and a proper part of the next one; the input is taken no further than a piece past that line
  pub record Cut : Type 0 where
    pub answered : List (Answered State)
    pub given : AreGiven gives line_limit state answered
    pub cut : Answered State
    pub cut_given : IsGiven gives line_limit (state_after state answered) cut
    pub more : List (List ℕ)
    pub marks : MarksTell uses line_limit (answered ++ cut ∷ []) faults faults'
    pub lines : lines_in answered ++ cut.line ∷ more ≡ input_lines input_limit input
    pub part : ℕ
    pub short : part < length (bytes_of cut)
    pub written : new ≡ and_then old (replies_in answered ++ take part (bytes_of cut))
    pub taken : ℕ
    pub takes : Takes taken
    pub ahead : taken ≤ length (text_of (lines_in answered ++ cut.line ∷ [])) + PIECE

  -- what was written, by the end that serving came to; all of a shorter input is taken, and of a longer one as many bytes as the limit
  abbrev pub Served : ServeEnd → Type 0
  Served Done = Whole × (length input < input_limit) × (left ≡ Some [])
  Served InputSpent = Whole × Takes input_limit
  Served ReadFault = Taken
  Served Memory = First
  Served WriteFault = Cut
  Served SinkMemory = Cut
