use Rattle.std.proofs.Common.{◌≡◌, ℕ, ◌+◌, ◌-◌, ◌<◌, ◌≤◌, Bool, true, false, List, [], ◌∷◌, ◌++◌, length, take, drop, refl, sym, ◌∙◌, ap, arith, append_assoc, ltb, inl, inr}
use Rattle.std.proofs.lemmas.List.{append-nil, length-drop, append_cancel_right, length-append, length-take, take_all}
use Rattle.std.proofs.lemmas.Bool.{false≢true, ltb-true, ltb-false, le-leb, lt-leb}
use Rattle.std.proofs.lemmas.Bool.{cases_Bool}
use Rattle.fault_io.specs.NextLine.{ReadsNext}
use Rattle.fault_io.specs.declared.line.LineEnd.TheVariants.{Line, TooLong}
use Rattle.serve_loop.specs.Turn.{StopsAt}
use Rattle.serve_loop.specs.declared.end.ServeEnd.TheVariants.{Done, InputSpent as Spent, ReadFault, Memory}
use Rattle.fault_io.specs.Lines.{has_line_feed, lines_of, input_lines}
use Rattle.fault_io.specs.Reading.{Reading, unread, ends, IsFirstLine}
use Rattle.fault_io.specs.LineLaws.{lines_of-line, lines_of-open}
use Rattle.fault_io.specs.LineLaws.{unread_split}
use Rattle.serve_loop.specs.Event.{event_of_line, event_shown}
use Rattle.serve_loop.specs.Replies.{text_of}
use Rattle.serve_loop.specs.Turn.{Stands, AreFirst, Step}
use Rattle.fault_io.specs.declared.line.TheConstants.{PIECE}
use Rattle.serve_loop.proofs.TextLemmas.{text_of-push, AreLines-push, lines_of-text_of, take_further, ltb-sub, lines_of-whole, behind-part}

-- what a reading at a place of the input sees
module _ (input : List ℕ) (lines : List (List ℕ)) (r : Reading) (s : Stands input lines r) (o : r.at_end ≡ false) where
  pub ends_is : ends r (drop r.taken input) ≡ ltb (length input) r.budget
  ends_is = rw (length-drop r.taken input) (ltb-sub r.taken (length input) r.budget s.fits s.within)

  pub all_bytes : take r.budget input ≡ text_of lines ++ unread r (drop r.taken input)
  all_bytes = take_further input (text_of lines) r.kept r.taken r.budget s.within (s.before_end o).0

  pub all_lines : input_lines r.budget input ≡ lines ++ lines_of (ends r (drop r.taken input)) (unread r (drop r.taken input))
  all_lines =
      ap (λ e. lines_of e (take r.budget input)) (sym ends_is) ∙ ap (λ ys. lines_of (ends r (drop r.taken input)) ys) all_bytes
      ∙ lines_of-text_of _ lines _ (s.before_end o).1

  -- the lines that were read stand first, where the first line feed since stands behind a part
  pub first_are : (taken : ℕ) (part rest : List ℕ) → r.taken ≤ taken → has_line_feed part ≡ false → r.kept ++ take (taken - r.taken) (drop r.taken input) ≡ part ++ rest
      → length rest - 1 ≤ PIECE → AreFirst input lines taken
  first_are taken part rest t n e small =
      let a = take_further input (text_of lines) r.kept r.taken taken t (s.before_end o).0 in
      record {
        unanswered = lines_of false (part ++ rest);
        feeds = sym (ap (λ ys. lines_of false ys) (a ∙ ap (λ ys. text_of lines ++ ys) e) ∙ lines_of-text_of false lines (part ++ rest) (s.before_end o).1);
        ahead = omega (arith, behind-part part rest n, small);
      }

-- the lines that were read stand in front of all
pub front_is : (input : List ℕ) (lines : List (List ℕ)) (r : Reading) → Stands input lines r → (more : List (List ℕ)) × (lines ++ more ≡ input_lines r.budget input)
front_is input lines r s =
    elim (cases_Bool r.at_end) [
      | inl past ↦ ([], append-nil lines ∙ (s.past_end past).0)
      | inr o ↦ (lines_of (ends r (drop r.taken input)) (unread r (drop r.taken input)), sym (all_lines input lines r s o))
    ]

-- what a call that read from r to r' knows
pub record Moves (input : List ℕ) (r r' : Reading) : Type 0 where
  pub budget : r'.budget ≡ r.budget
  pub max : r'.max ≡ r.max
  pub taken : r.taken ≤ r'.taken
  pub within : r'.taken ≤ r'.budget
  pub fits : r'.taken - r.taken ≤ length (drop r.taken input)
  pub kept : length r'.kept ≤ PIECE

module _ (input : List ℕ) (lines : List (List ℕ)) (r r' : Reading) (s : Stands input lines r) (o : r.at_end ≡ false) (m : Moves input r r') where
  in_input : r'.taken ≤ length input
  in_input = omega (arith, s.fits, m.fits, m.taken, length-drop r.taken input)

  step : (too_long : Bool) (line : List ℕ) → event_shown r'.bytes too_long ≡ event_of_line r.max line
      → IsFirstLine (ends r (drop r.taken input)) (unread r (drop r.taken input)) line (unread r' (drop (r'.taken - r.taken) (drop r.taken input))) r'.at_end
      → Step input lines r.max too_long r'
  step too_long line shown (none, inl (q, p)) =
      let xs = drop r.taken input in
      let d = r'.taken - r.taken in
      let more = take (r'.budget - r'.taken) (drop d xs) in
      let u = unread_split r r' xs m.budget m.taken m.within in
      let p' : (r.kept ++ take d xs) ++ more ≡ (line ++ 10 ∷ r'.kept) ++ more = sym u ∙ p ∙ sym (append_assoc line (10 ∷ r'.kept) more) in
      let k : r.kept ++ take d xs ≡ line ++ 10 ∷ r'.kept = append_cancel_right _ _ more p' in
      let t : take r'.taken input ≡ text_of (lines ++ line ∷ []) ++ r'.kept =
      take_further input (text_of lines) r.kept r.taken r'.taken m.taken (s.before_end o).0 ∙ ap (λ ys. text_of lines ++ ys) k ∙ sym (text_of-push lines line r'.kept) in
      let n : length (take r'.taken input) ≡ length (text_of (lines ++ line ∷ [])) + length r'.kept = ap length t ∙ length-append _ _ in
      let full : length (take r'.taken input) ≡ r'.taken = length-take r'.taken input ∙ omega (arith, in_input) in
      record {
        line = line;
        more = lines_of (ends r xs) (unread r' (drop d xs));
        next = sym (all_lines input lines r s o ∙ ap (λ ys. lines ++ ys) (ap (λ ys. lines_of (ends r xs) ys) p ∙ lines_of-line (ends r xs) line _ none)) ∙ ap (λ n. input_lines n input) (sym m.budget);
        shown = shown;
        ahead = omega (arith, n, full, m.kept);
        first = first_are input lines r s o r'.taken line (10 ∷ r'.kept) m.taken none k (omega (arith, m.kept));
        stands = record {
          within = m.within;
          fits = in_input;
          before_end = λ _. (t, AreLines-push lines line (s.before_end o).1 none);
          past_end = λ a. absurd (false≢true (sym q ∙ a));
        };
      }
  step too_long line shown (none, inr (a, e, ne, p, q)) =
      let xs = drop r.taken input in
      let lt : length input < r.budget = ltb-true _ _ (sym (ends_is input lines r s o) ∙ e) in
      let gone : length input ≤ r'.taken =
      omega (arith, lt, in_input, m.budget, m.taken, ap length q, length-append r'.kept (take (r'.budget - r'.taken) (drop (r'.taken - r.taken) xs)), length-take (r'.budget - r'.taken) (drop (r'.taken - r.taken) xs), length-drop (r'.taken - r.taken) xs, length-drop r.taken input) in
      let rest : length xs ≤ r'.taken - r.taken = omega (arith, gone, length-drop r.taken input) in
      let room : length xs ≤ r.budget - r.taken = omega (arith, lt, length-drop r.taken input) in
      let same : r.kept ++ take (r'.taken - r.taken) xs ≡ line ++ [] =
      ap (λ ys. r.kept ++ ys) (take_all (r'.taken - r.taken) xs rest ∙ sym (take_all (r.budget - r.taken) xs room)) ∙ p ∙ sym (append-nil line) in
      let all : lines ++ line ∷ [] ≡ input_lines r.budget input =
      sym (all_lines input lines r s o ∙ ap (λ ys. lines ++ ys) (rw (e, p) (lines_of-whole line ne none))) in
      let b : input ≡ text_of lines ++ line = sym (take_all r.budget input (omega arith)) ∙ all_bytes input lines r s o ∙ ap (λ ys. text_of lines ++ ys) p in
      let n : length input ≡ length (text_of lines) + length line = ap length b ∙ length-append _ _ in
      let k : length (text_of (lines ++ line ∷ [])) ≡ length (text_of lines) + (length line + 1) =
      ap length (sym (append-nil (text_of (lines ++ line ∷ []))) ∙ text_of-push lines line []) ∙ omega (arith, length-append (text_of lines) (line ++ 10 ∷ []), length-append line (10 ∷ [])) in
      record {
        line = line;
        more = [];
        next = rw m.budget all;
        shown = shown;
        ahead = omega (arith, n, k, in_input);
        first = first_are input lines r s o r'.taken line [] m.taken none same (omega arith);
        stands = record {
          within = m.within;
          fits = in_input;
          before_end = λ z. absurd (false≢true (sym z ∙ a));
          past_end = λ _. rw m.budget (all, lt, gone);
        };
      }

  pub line_step : ReadsNext Line r r' (drop r.taken input) (drop (r'.taken - r.taken) (drop r.taken input)) → Step input lines r.max false r'
  line_step h =
      let short : length r'.bytes ≤ r.max = omega (arith, h.0, m.max) in
      step false r'.bytes (rw (le-leb _ _ short) refl) h.1

  pub long_step : ReadsNext TooLong r r' (drop r.taken input) (drop (r'.taken - r.taken) (drop r.taken input)) → Step input lines r.max true r'
  long_step h =
      let long : r.max < length h.0 = omega (arith, h.1, m.max) in
      step true h.0 (rw (lt-leb _ _ long) refl) h.3

module _ (input : List ℕ) (lines : List (List ℕ)) (r r' : Reading) (s : Stands input lines r) (b : r'.budget ≡ r.budget) where
  pub end_stop : r.taken ≤ r'.taken → (r.at_end ≡ false → (unread r (drop r.taken input) ≡ []) × (ends r (drop r.taken input) ≡ true)) → StopsAt Done input lines r'
  end_stop t h =
      elim (cases_Bool r.at_end) [
        | inl past ↦
            let k = s.past_end past in
            rw b (k.0, k.1, omega (arith, k.2, t))
        | inr o ↦
            let k = h o in
            let all : input_lines r.budget input ≡ lines = all_lines input lines r s o ∙ rw k.0 (append-nil lines) in
            let short : length input < r.budget = ltb-true _ _ (sym (ends_is input lines r s o) ∙ k.1) in
            let xs = drop r.taken input in
            let gone : length input ≤ r'.taken = omega (arith, short, t, ap length k.0, length-append r.kept (take (r.budget - r.taken) xs), length-take (r.budget - r.taken) xs, length-drop r.taken input) in
            rw b (sym all, short, gone)
      ]

  pub spent_stop : r.at_end ≡ false → r'.taken ≡ r'.budget → (has_line_feed (unread r (drop r.taken input)) ≡ false) × (ends r (drop r.taken input) ≡ false) → StopsAt Spent input lines r'
  spent_stop o spent k =
      let none : lines_of (ends r (drop r.taken input)) (unread r (drop r.taken input)) ≡ [] = rw k.1 (lines_of-open (unread r (drop r.taken input)) k.0) in
      let all : input_lines r.budget input ≡ lines = all_lines input lines r s o ∙ rw none (append-nil lines) in
      let long : r.budget ≤ length input = ltb-false _ _ (sym (ends_is input lines r s o) ∙ k.1) in
      (rw b (sym all), spent, omega (arith, spent, b, long))

  pub memory_stop : r.at_end ≡ false → r.taken ≤ r'.taken → r'.taken ≤ r'.budget → r'.taken - r.taken ≤ length (drop r.taken input) → length r'.kept ≤ PIECE
      → (part : List ℕ) → has_line_feed part ≡ false → r.kept ++ take (r'.taken - r.taken) (drop r.taken input) ≡ part ++ r'.kept → StopsAt Memory input lines r'
  memory_stop o t w f small part n e =
      let fits : r'.taken ≤ length input = omega (arith, f, t, s.fits, length-drop r.taken input) in
      (lines_of (ends r (drop r.taken input)) (unread r (drop r.taken input)), rw b (sym (all_lines input lines r s o)), first_are input lines r s o r'.taken part r'.kept t n e (omega (arith, small)), w, fits)

  pub fault_stop : r.at_end ≡ false → r.taken ≤ r'.taken → r'.taken ≤ r'.budget → r'.taken - r.taken ≤ length (drop r.taken input)
      → has_line_feed (r.kept ++ take (r'.taken - r.taken) (drop r.taken input)) ≡ false → StopsAt ReadFault input lines r'
  fault_stop o t w f n =
      let a = take_further input (text_of lines) r.kept r.taken r'.taken t (s.before_end o).0 in
      let all : lines_of false (take r'.taken input) ≡ lines =
      ap (λ ys. lines_of false ys) a ∙ lines_of-text_of false lines _ (s.before_end o).1 ∙ rw (lines_of-open _ n) (append-nil lines) in
      (sym all, w, omega (arith, f, t, s.fits, length-drop r.taken input))
