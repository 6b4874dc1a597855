use Rattle.std.proofs.Common.{◌≡◌, ℕ, ◌+◌, ◌<◌, ◌≤◌, Bool, true, false, List, [], ◌∷◌, ◌++◌, take, drop, Option, Some, refl, sym, ◌∙◌, ap, arith, append_assoc, inl, inr}
use Rattle.std.proofs.lemmas.List.{append-nil, drop_all, map_push}
use Rattle.fault_io.specs.Bytes.{and_then}
use Rattle.fault_io.specs.Lines.{input_lines}
use Rattle.fault_io.specs.Reading.{Reading}
use Rattle.fault_io.specs.BytesLaws.{and_then-and_then}
use Rattle.serve_loop.specs.Event.{Event, event_of_line, event_shown}
use Rattle.serve_loop.specs.Replies.{Answered, lines_in, bytes_of, replies_in, state_after, AreGiven, UseNothing}
use Rattle.serve_loop.specs.Turn.{Step, StopsAt}
use Rattle.serve_loop.specs.Parts.{IsReplied, IsPart, PartOfReply}
use Rattle.serve_loop.specs.Served.{Cut, Served}
use Rattle.serve_loop.proofs.Progress.{Progress}
use Rattle.serve_loop.proofs.TurnLemmas.{front_is}
use Rattle.serve_loop.specs.declared.end.ServeEnd.{ServeEnd}
use Rattle.serve_loop.specs.declared.end.ServeEnd.TheVariants.{Done, InputSpent, ReadFault, WriteFault, Memory, SinkMemory}
use Rattle.std.proofs.lemmas.Bool.{false≢true}
use Rattle.std.proofs.Math.Nat.{eq-or-lt_of_le}
use Rattle.fault_io.specs.Faults.{last_count}
use Rattle.serve_loop.specs.Marks.{AreAllowed, Tells, MayRise, MayRiseOnce, MarksTell, count_marks}

-- a count that doesn't fall, and stands where it may not rise, has some mark
pub may_rise : (allowed : Bool) (old new : ℕ) → old ≤ new → (allowed ≡ false → new ≡ old) → MayRise allowed old new
may_rise true old new no_less stands =
    elim (eq-or-lt_of_le no_less) [
      | inl same ↦ (false, sym same)
      | inr less ↦ (true, (refl, record { no_less = no_less; rose = λ _. less }))
    ]
may_rise false old new no_less stands = (false, stands refl)

-- where nothing was asked of the store for the line that comes next
pub may_rise_none : (uses : Event → Bool) (max : ℕ) (more : List (List ℕ)) (f : ℕ) → MayRiseOnce uses max more f f
may_rise_none uses max [] f = refl
may_rise_none uses max (line ∷ more) f = (false, refl)

module _ {State : Type 0} (uses : Event → Bool) (max : ℕ) where
  count_marks-push : (answered : List (Answered State)) (a : Answered State) → count_marks (answered ++ a ∷ []) ≡ count_marks answered + count_marks (a ∷ [])
  count_marks-push [] a = omega arith
  count_marks-push (b ∷ more) a = omega (arith, count_marks-push more a)

  allowed-push : (answered : List (Answered State)) (a : Answered State) → AreAllowed uses max answered → (a.mark ≡ true → uses (event_of_line max a.line) ≡ true) → AreAllowed uses max (answered ++ a ∷ [])
  allowed-push [] a all h = (h, tt)
  allowed-push (b ∷ more) a all h = (all.0, allowed-push more a all.1 h)

  marks-push_by : (answered : List (Answered State)) (line : List ℕ) (mark : Bool) (reply : Option (List ℕ)) (after : State) (f mid f' : ℕ) → MarksTell uses max answered f mid → Tells (uses (event_of_line max line)) mark mid f' → MarksTell uses max (answered ++ record { line = line; mark = mark; reply = reply; after = after } ∷ []) f f'
  marks-push_by answered line true reply after f mid f' m t =
      let a : Answered State = record { line = line; mark = true; reply = reply; after = after } in
      let k : count_marks (answered ++ a ∷ []) ≡ count_marks answered + 1 = omega (arith, count_marks-push answered a) in
      record {
        allowed = allowed-push answered a m.allowed (λ _. t.0);
        no_less = omega (arith, m.no_less, t.1.no_less);
        most = λ h. let below : mid < last_count = omega (arith, t.1.no_less, h) in omega (arith, k, t.1.rose h, m.most below);
        some = λ z. absurd (omega arith);
      }
  marks-push_by answered line false reply after f mid f' m t =
      let a : Answered State = record { line = line; mark = false; reply = reply; after = after } in
      let k : count_marks (answered ++ a ∷ []) ≡ count_marks answered = omega (arith, count_marks-push answered a) in
      record {
        allowed = allowed-push answered a m.allowed (λ e. absurd (false≢true e));
        no_less = omega (arith, m.no_less, t);
        most = λ h. let below : mid < last_count = omega (arith, t, h) in omega (arith, k, t, m.most below);
        some = λ z. t ∙ m.some (omega arith);
      }

  marks-push : (answered : List (Answered State)) (a : Answered State) (f mid f' : ℕ) → MarksTell uses max answered f mid → Tells (uses (event_of_line max a.line)) a.mark mid f' → MarksTell uses max (answered ++ a ∷ []) f f'
  marks-push answered a f mid f' m t = marks-push_by answered a.line a.mark a.reply a.after f mid f' m t

-- lines in front of others use nothing, where all of them do
use_nothing-front : (uses : Event → Bool) (max : ℕ) (front rest : List (List ℕ)) → UseNothing uses max (front ++ rest) → UseNothing uses max front
use_nothing-front uses max [] rest all = tt
use_nothing-front uses max (line ∷ front) rest all = (all.0, use_nothing-front uses max front rest all.1)

-- so does a line behind them
use_nothing-at : (uses : Event → Bool) (max : ℕ) (front : List (List ℕ)) (line : List ℕ) (rest : List (List ℕ)) → UseNothing uses max (front ++ line ∷ rest) → uses (event_of_line max line) ≡ false
use_nothing-at uses max [] line rest all = all.0
use_nothing-at uses max (other ∷ front) line rest all = use_nothing-at uses max front line rest all.1

module _ {State : Type 0} (uses : Event → Bool) (gives : State → Event → Bool → Option (List ℕ) → State → Type 0) (max : ℕ) where
  state_after-push : (s : State) (answered : List (Answered State)) (a : Answered State) → state_after s (answered ++ a ∷ []) ≡ a.after
  state_after-push s [] a = refl
  state_after-push s (b ∷ more) a = state_after-push b.after more a

  replies-push : (answered : List (Answered State)) (a : Answered State) → replies_in (answered ++ a ∷ []) ≡ replies_in answered ++ bytes_of a
  replies-push [] a = append-nil _
  replies-push (b ∷ more) a = ap (λ ys. bytes_of b ++ ys) (replies-push more a) ∙ sym (append_assoc (bytes_of b) _ _)

  given-push : (s : State) (answered : List (Answered State)) (a : Answered State) → AreGiven gives max s answered → gives (state_after s answered) (event_of_line max a.line) a.mark a.reply a.after → AreGiven gives max s (answered ++ a ∷ [])
  given-push s [] a all given = (given, tt)
  given-push s (b ∷ more) a all given = (all.0, given-push b.after more a all.1 given)

  module _ (budget : ℕ) (s : State) (input : List ℕ) (old now : Option (List ℕ)) (state : State) (r : Reading) (left : Option (List ℕ)) (f fnow n nnow k know : ℕ) (p : Progress uses gives max s input old now state r left f fnow n nnow k know) where
    -- no line more was read
    pub served_stop : (end : ServeEnd) (r' : Reading) (left' : Option (List ℕ)) → r'.budget ≡ budget → left' ≡ Some (drop r'.taken input) → StopsAt end input (lines_in p.answered) r'
        → Served uses gives max budget s input old now left' f fnow end
    served_stop Done r' left' b l h =
        rw (← b) (record { answered = p.answered; given = p.given; marks = p.marks; lines = h.0; written = p.written }, h.1, l ∙ ap (λ xs. Some xs) (drop_all r'.taken input h.2))
    served_stop InputSpent r' left' b l h =
        rw (← b) (record { answered = p.answered; given = p.given; marks = p.marks; lines = h.0; written = p.written }, record { left_is = l ∙ ap (λ n. Some (drop n input)) h.1; fits = omega (arith, h.1, h.2); within = omega arith })
    served_stop ReadFault r' left' b l h = record { taken = r'.taken; takes = record { left_is = l; fits = h.2; within = omega (arith, h.1, b) }; answered = p.answered; given = p.given; marks = p.marks; lines = h.0; written = p.written }
    served_stop Memory r' left' b l h =
        rw (← b) (record { taken = r'.taken; takes = record { left_is = l; fits = h.4; within = h.3 }; answered = p.answered; given = p.given; more = h.0; mid = fnow; marks = p.marks; last = may_rise_none uses max h.0 fnow; lines = h.1; first = h.2; written = p.written })
    served_stop WriteFault r' left' b l h = absurd h
    served_stop SinkMemory r' left' b l h = absurd h

    -- nothing was asked of the store so far, where no line uses it
    pub quiet_stop : r.budget ≡ budget → UseNothing uses max (input_lines budget input) → (nnow ≡ n) × (know ≡ k)
    quiet_stop b none =
        let front = front_is input (lines_in p.answered) r p.stands in
        p.quiet (use_nothing-front uses max (lines_in p.answered) front.0 (rw (front.1, b) none))

    module _ (too_long : Bool) (r' : Reading) (left' : Option (List ℕ)) (b : r'.budget ≡ budget) (l : left' ≡ Some (drop r'.taken input)) (t : Step input (lines_in p.answered) max too_long r') where
      given_is : (mark : Bool) (reply : Option (List ℕ)) (after : State) → gives state (event_shown r'.bytes too_long) mark reply after → gives (state_after s p.answered) (event_of_line max t.line) mark reply after
      given_is mark reply after h = rw (p.state_is, t.shown) at h

      tells_is : (mark : Bool) (f' : ℕ) → Tells (uses (event_shown r'.bytes too_long)) mark fnow f' → Tells (uses (event_of_line max t.line)) mark fnow f'
      tells_is mark f' h = rw t.shown at h

      served_cut : (new : Option (List ℕ)) (f' : ℕ) → IsPart (uses (event_shown r'.bytes too_long)) (gives state (event_shown r'.bytes too_long)) now new fnow f' → Cut uses gives max budget s input old new left' f f'
      served_cut new f' h =
          let a : Answered State = record { line = t.line; mark = h.mark; reply = h.reply; after = h.after } in
          record {
            answered = p.answered;
            given = p.given;
            cut = a;
            cut_given = given_is h.mark h.reply h.after h.given;
            more = t.more;
            marks = marks-push uses max p.answered a f fnow f' p.marks (tells_is h.mark f' h.tells);
            lines = t.next ∙ ap (λ n. input_lines n input) b;
            part = h.size;
            short = h.short;
            written = h.written ∙ ap (λ o. and_then o (take h.size (bytes_of a))) p.written ∙ and_then-and_then old _ _;
            taken = r'.taken;
            takes = record { left_is = l; fits = t.stands.fits; within = omega (arith, t.stands.within, b) };
            ahead = t.ahead;
          }

      -- a line was read, and its reply isn't written whole
      pub served_part : (end : ServeEnd) (new : Option (List ℕ)) (f' : ℕ) → PartOfReply (uses (event_shown r'.bytes too_long)) (gives state (event_shown r'.bytes too_long)) now new fnow f' end → Served uses gives max budget s input old new left' f f' end
      served_part Memory new f' h = record {
        taken = r'.taken;
        takes = record { left_is = l; fits = t.stands.fits; within = omega (arith, t.stands.within, b) };
        answered = p.answered;
        given = p.given;
        more = t.line ∷ t.more;
        mid = fnow;
        marks = p.marks;
        last = (h.1.0, tells_is h.1.0 f' h.1.1);
        lines = t.next ∙ ap (λ n. input_lines n input) b;
        first = t.first;
        written = h.0 ∙ p.written;
      }
      served_part WriteFault new f' h = served_cut new f' h
      served_part SinkMemory new f' h = served_cut new f' h
      served_part Done new f' h = absurd h
      served_part InputSpent new f' h = absurd h
      served_part ReadFault new f' h = absurd h

      -- nothing was asked of the store for this line either
      pub quiet_line : (nnew knew : ℕ) → (uses (event_shown r'.bytes too_long) ≡ false → (nnew ≡ nnow) × (knew ≡ know)) → UseNothing uses max (input_lines budget input) → (nnew ≡ n) × (knew ≡ k)
      quiet_line nnew knew unused none =
          let all : UseNothing uses max (lines_in p.answered ++ t.line ∷ t.more) = rw (t.next, b) none in
          let before = p.quiet (use_nothing-front uses max (lines_in p.answered) (t.line ∷ t.more) all) in
          let now = unused (ap uses t.shown ∙ use_nothing-at uses max (lines_in p.answered) t.line t.more all) in
          (now.0 ∙ before.0, now.1 ∙ before.1)

      -- a line was read, and answered
      pub progress_on : (new : Option (List ℕ)) (state' : State) (f' nnew knew : ℕ) → IsReplied (uses (event_shown r'.bytes too_long)) (gives state (event_shown r'.bytes too_long)) now new fnow f' state' → (uses (event_shown r'.bytes too_long) ≡ false → (nnew ≡ nnow) × (knew ≡ know))
          → Progress uses gives max s input old new state' r' left' f f' n nnew k knew
      progress_on new state' f' nnew knew h unused =
          let a : Answered State = record { line = t.line; mark = h.mark; reply = h.reply; after = state' } in
          let lines : lines_in (p.answered ++ a ∷ []) ≡ lines_in p.answered ++ t.line ∷ [] = map_push (λ (x : Answered State). x.line) p.answered a in
          record {
            answered = p.answered ++ a ∷ [];
            given = given-push s p.answered a p.given (given_is h.mark h.reply state' h.given);
            marks = marks-push uses max p.answered a f fnow f' p.marks (tells_is h.mark f' h.tells);
            quiet = λ none.
                let all : UseNothing uses max (lines_in p.answered ++ t.line ∷ []) = rw lines at none in
                let before = p.quiet (use_nothing-front uses max (lines_in p.answered) (t.line ∷ []) all) in
                let this = unused (ap uses t.shown ∙ use_nothing-at uses max (lines_in p.answered) t.line [] all) in
                (this.0 ∙ before.0, this.1 ∙ before.1);
            written = h.written ∙ ap (λ o. and_then o (bytes_of a)) p.written ∙ and_then-and_then old _ _ ∙ ap (λ ys. and_then old ys) (sym (replies-push p.answered a));
            state_is = sym (state_after-push s p.answered a);
            left_is = l;
            stands = rw lines t.stands;
          }

pub no_marks : {State : Type 0} (uses : Event → Bool) (max f : ℕ) → MarksTell {State = State} uses max [] f f
no_marks uses max f = record { allowed = tt; no_less = omega arith; most = λ _. omega arith; some = λ _. refl }
