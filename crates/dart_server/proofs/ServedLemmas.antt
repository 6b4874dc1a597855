-- What is served is settled where the store fails in no line.
use Rattle.std.proofs.Common.{◌≡◌, ℕ, zero, suc, ◌+◌, ◌<◌, ◌≤◌, Bool, true, false, if◌then◌else◌, List, [], ◌∷◌, ◌++◌, length, Option, Some, option_map, unwrap_or, ◌⊎◌, inl, inr, refl, sym, ap, subst, ◌∙◌, arith}
use Rattle.std.specs.Option.{option_map_or}
use Rattle.std.proofs.lemmas.Bool.{true≢false}
use Rattle.fault_io.specs.Bytes.{and_then}
use Rattle.fault_io.specs.Faults.{Rose}
use Rattle.fault_io.specs.Lines.{input_lines}
use Rattle.fault_io.specs.Stored.{Stored}
use Rattle.load_files.specs.declared.packages.Package.{Package}
use Rattle.proto_json.specs.declared.request.TheConstants.{MAX_LINE}
use Rattle.serve_loop.specs.Event.{Event, event_of_line}
use Rattle.serve_loop.specs.Marks.{MarksTell, count_marks}
use Rattle.serve_loop.specs.Replies.{Answered, AreGiven, lines_in, replies_in}
use Rattle.serve_loop.specs.Served.{Served, Whole}
use Rattle.serve_loop.specs.declared.end.ServeEnd.{ServeEnd}
use Rattle.serve_loop.specs.declared.end.ServeEnd.TheVariants as End
use Rattle.protocol_rules.specs.Answers.{MayAnswer, uses_store}
use Rattle.protocol_rules.specs.Settled.{turn-told}
use Rattle.protocol_rules.specs.State.{State, at_start}
use Rattle.protocol_rules.specs.Turns.{IsTurn, Turn, bytes_of}
use Rattle.dart_server.specs.Output.{ServeOutput, input_limit, status_for}
use Rattle.dart_server.specs.Settled.{leaves_open, marks_in}
use Rattle.dart_server.specs.declared.status.Status.{Status}
use Rattle.dart_server.specs.declared.status.Status.TheVariants.{Done, InputSpent}

-- Replies.

-- the first of a list and what stands behind it, where another list is the same
head_same : {X : Type 0} (x y : X) (xs ys : List X) → x ∷ xs ≡ y ∷ ys → x ≡ y
head_same x y xs ys same = cc

tail_same : {X : Type 0} (x y : X) (xs ys : List X) → x ∷ xs ≡ y ∷ ys → xs ≡ ys
tail_same x y xs ys same = cc

module _ (stored : Stored) where
  -- one event has one answer, by whether the store fails
  answer_settled : (s : State) (event event' : Event) (mark mark' : Bool) (reply reply' : Option (List ℕ)) (after after' : State) → event ≡ event' → mark ≡ mark' → MayAnswer (Some stored) s event mark reply after → MayAnswer (Some stored) s event' mark' reply' after' → (reply ≡ reply') × (after ≡ after')
  answer_settled s event event' mark mark' reply reply' after after' same_event same_mark h h' =
      let there : IsTurn (Some stored) mark s event h'.turn =
      subst (λ (e : Event). IsTurn (Some stored) mark s e h'.turn) (sym same_event) (subst (λ (m : Bool). IsTurn (Some stored) m s event' h'.turn) (sym same_mark) h'.is_turn) in
      let same : h.turn ≡ h'.turn = turn-told stored s mark event h.turn h'.turn h.is_turn there in (
        h.reply_is ∙ ap (option_map bytes_of) same ∙ sym h'.reply_is,
        h.after_is ∙ ap (λ (turn : Option Turn). option_map_or (λ t. t.after) turn s) same ∙ sym h'.after_is,
      )

  module _ (limit : ℕ) where
    -- lines have one list of replies, by which of them the store fails in
    pub replies_settled : (s : State) (xs ys : List (Answered State)) → AreGiven (MayAnswer (Some stored)) limit s xs → AreGiven (MayAnswer (Some stored)) limit s ys → lines_in xs ≡ lines_in ys → marks_in xs ≡ marks_in ys → replies_in xs ≡ replies_in ys
    replies_settled s [] [] h h' lines marks = refl
    replies_settled s [] (y ∷ ys) h h' lines marks = absurd (cc lines)
    replies_settled s (x ∷ xs) [] h h' lines marks = absurd (cc lines)
    replies_settled s (x ∷ xs) (y ∷ ys) h h' lines marks =
        let line : x.line ≡ y.line = head_same x.line y.line (lines_in xs) (lines_in ys) lines in
        let mark : x.mark ≡ y.mark = head_same x.mark y.mark (marks_in xs) (marks_in ys) marks in
        let one : (x.reply ≡ y.reply) × (x.after ≡ y.after) = answer_settled s (event_of_line limit x.line) (event_of_line limit y.line) x.mark y.mark x.reply y.reply x.after y.after (ap (event_of_line limit) line) mark h.0 h'.0 in
        let behind : replies_in xs ≡ replies_in ys =
        replies_settled y.after xs ys (subst (λ (s : State). AreGiven (MayAnswer (Some stored)) limit s xs) one.1 h.1) h'.1 (tail_same x.line y.line (lines_in xs) (lines_in ys) lines) (tail_same x.mark y.mark (marks_in xs) (marks_in ys) marks) in
        ap (λ (reply : Option (List ℕ)). unwrap_or reply [] ++ replies_in xs) one.0 ∙ ap (λ (rest : List ℕ). unwrap_or y.reply [] ++ rest) behind

-- Marks.

-- where the count of faults didn't rise no line is marked
none_marked : (uses : Event → Bool) (limit : ℕ) (answered : List (Answered State)) (old new count : ℕ) → count_marks answered ≡ count → MarksTell uses limit answered old new → (Rose old new → ⊥) → count ≡ 0
none_marked uses limit answered old new zero is tells none = refl
none_marked uses limit answered old new (suc count) is tells none =
    absurd (none (record { no_less = tells.no_less; rose = λ below. (let most = tells.most below in omega (arith, most, is)) }))

unmarked : (mark : Bool) (count : ℕ) → (if mark then 1 else 0) + count ≡ 0 → mark ≡ false
unmarked false count none = refl
unmarked true count none = absurd (omega (arith, none))

rest_unmarked : (mark : Bool) (count : ℕ) → (if mark then 1 else 0) + count ≡ 0 → count ≡ 0
rest_unmarked false count none = omega (arith, none)
rest_unmarked true count none = absurd (omega (arith, none))

-- as many lines without marks are marked alike
marks_same : (xs ys : List (Answered State)) → lines_in xs ≡ lines_in ys → count_marks xs ≡ 0 → count_marks ys ≡ 0 → marks_in xs ≡ marks_in ys
marks_same [] [] lines none none' = refl
marks_same [] (y ∷ ys) lines none none' = absurd (cc lines)
marks_same (x ∷ xs) [] lines none none' = absurd (cc lines)
marks_same (x ∷ xs) (y ∷ ys) lines none none' =
    let first : x.mark ≡ y.mark = unmarked x.mark (count_marks xs) none ∙ sym (unmarked y.mark (count_marks ys) none') in
    let behind : marks_in xs ≡ marks_in ys = marks_same xs ys (tail_same x.line y.line (lines_in xs) (lines_in ys) lines) (rest_unmarked x.mark (count_marks xs) none) (rest_unmarked y.mark (count_marks ys) none') in
    ap (λ (mark : Bool). mark ∷ marks_in xs) first ∙ ap (λ (marks : List Bool). y.mark ∷ marks) behind

-- Serving.

-- how long the input is, by the status
abbrev EndsBy : (input : List ℕ) → Status → Type 0
EndsBy input status = (status ≡ Done) × (length input < input_limit) ⊎ (status ≡ InputSpent) × (input_limit ≤ length input)

-- all lines of the input are served, and the store fails in none
pub record IsServed (packages : List Package) (stored : Stored) (input : List ℕ) (old new : Option (List ℕ)) (status : Status) : Type 0 where
  pub answered : List (Answered State)
  pub given : AreGiven (MayAnswer (Some stored)) MAX_LINE (at_start packages) answered
  pub lines : lines_in answered ≡ input_lines input_limit input
  pub none : count_marks answered ≡ 0
  pub written : new ≡ and_then old (replies_in answered)
  pub ends : EndsBy input status

ends_same : (input : List ℕ) (status status' : Status) → EndsBy input status → EndsBy input status' → status ≡ status'
ends_same input status status' (inl h) (inl h') = h.0 ∙ sym h'.0
ends_same input status status' (inl h) (inr h') = absurd (omega (arith, h.1, h'.1))
ends_same input status status' (inr h) (inl h') = absurd (omega (arith, h.1, h'.1))
ends_same input status status' (inr h) (inr h') = h.0 ∙ sym h'.0

-- what is served is one output, and the status is one
pub served_one : (packages : List Package) (stored : Stored) (input : List ℕ) (old new new' : Option (List ℕ)) (status status' : Status) → IsServed packages stored input old new status → IsServed packages stored input old new' status' → (new ≡ new') × (status ≡ status')
served_one packages stored input old new new' status status' h h' =
    let lines : lines_in h.answered ≡ lines_in h'.answered = h.lines ∙ sym h'.lines in
    let marks : marks_in h.answered ≡ marks_in h'.answered = marks_same h.answered h'.answered lines h.none h'.none in
    let replies : replies_in h.answered ≡ replies_in h'.answered = replies_settled stored MAX_LINE (at_start packages) h.answered h'.answered h.given h'.given lines marks in
    (h.written ∙ ap (and_then old) replies ∙ sym h'.written, ends_same input status status' h.ends h'.ends)

module _ (packages : List Package) (stored : Stored) (input : List ℕ) (old new left : Option (List ℕ)) (faults faults' : ℕ) (none : Rose faults faults' → ⊥) where
  whole_served : (status : Status) → Whole uses_store (MayAnswer (Some stored)) MAX_LINE input_limit (at_start packages) input old new left faults faults' → EndsBy input status → IsServed packages stored input old new status
  whole_served status whole ends = record {
    answered = whole.answered;
    given = whole.given;
    lines = whole.lines;
    none = none_marked uses_store MAX_LINE whole.answered faults faults' (count_marks whole.answered) refl whole.marks none;
    written = whole.written;
    ends = ends;
  }

  served_at : (end : ServeEnd) → leaves_open (status_for end) ≡ false → Served uses_store (MayAnswer (Some stored)) MAX_LINE input_limit (at_start packages) input old new left faults faults' end → IsServed packages stored input old new (status_for end)
  served_at End.Done closed h = whole_served Done h.0 (inl (refl, h.1))
  served_at End.InputSpent closed h = whole_served InputSpent h.0 (inr (refl, h.1.fits))
  served_at End.ReadFault closed h = absurd (true≢false closed)
  served_at End.WriteFault closed h = absurd (true≢false closed)
  served_at End.Memory closed h = absurd (true≢false closed)
  served_at End.SinkMemory closed h = absurd (true≢false closed)

  -- where a status leaves nothing open all lines are served
  pub all_served : (lists lists' reads reads' shortages shortages' : ℕ) (status : Status) → leaves_open status ≡ false → ServeOutput packages (Some stored) input old new left faults faults' lists lists' reads reads' shortages shortages' status → IsServed packages stored input old new status
  all_served lists lists' reads reads' shortages shortages' status closed h =
      subst (IsServed packages stored input old new) (sym h.status_is) (served_at h.end (sym (ap leaves_open h.status_is) ∙ closed) h.served)
