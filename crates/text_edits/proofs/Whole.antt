-- Where the braces of a body are edited, the texts are as an edit inside a body makes them.
use Rattle.std.proofs.Common.{◌≡◌, ℕ, ◌+◌, ◌-◌, ◌≤◌, ◌<◌, Bool, false, List, [], ◌∷◌, ◌++◌, length, map, refl, sym, ap, ◌∙◌, subst, arith}
use Rattle.std.specs.List.{All}
use Rattle.std.proofs.lemmas.List.Elements.{All-cons, All-nil}
use denote.Enum.Bare.{sameb}
use Rattle.readings.specs.Leading.{Each}
use Rattle.dart_tokens.specs.contracts.token.Kind as kinds
use Rattle.dart_tokens.specs.declared.token.Kind.{Kind}
use Rattle.dart_tokens.specs.declared.token.Kind.TheVariants as kind
use Rattle.dart_tokens.specs.declared.token.Token.{Token}
use Rattle.dart_scan.specs.Scanned.{tokens_of, words_of}
use Rattle.grammar.specs.Tokens.{grammar_tokens}
use Rattle.interface_part.specs.declared.hidden.Hidden.{Hidden}
use Rattle.interface_part.specs.Order.{RangesInOrder}
use Rattle.body_laws.specs.Bodies.{Moves, Alike, moved}
use Rattle.edit_laws.specs.Edits.{SameLexemes, AllSameHidden}
use Rattle.interface_texts.specs.TextParts.{hidden_of}
use Rattle.interface_texts.specs.EditedBodies.{EditedBody}
use Rattle.text_edits.specs.EditedBraces.{EditedBraces}
use Rattle.text_edits.specs.Twins.{TextTwins, AllTwins}
use Rattle.text_edits.proofs.Words.{once_of, have_words}
use Rattle.text_edits.proofs.Shifts.{InTurn, each_front, each_back, turn_back, EndsBy, BeginsFrom, ends_before, begins_behind, start_low, start_high, end_low, end_high, moves, twin_low, twin_brace, twin_high}
use Rattle.text_edits.proofs.Braces.{texts_alike}

-- Lists.

all_each : {A : Type 0} (P : A → Type 0) (xs : List A) → Each P xs → All P xs
all_each P [] h = All-nil P
all_each P (x ∷ xs) h = All-cons P x xs h.0 (all_each P xs h.1)

each_less : {A : Type 0} (P Q : A → Type 0) (xs : List A) → ((x : A) → P x → Q x) → Each P xs → Each Q xs
each_less P Q [] f h = tt
each_less P Q (x ∷ xs) f h = (f x h.0, each_less P Q xs f h.1)

each_last : {A : Type 0} (P : A → Type 0) (xs : List A) (y : A) → Each P xs → P y → Each P (xs ++ y ∷ [])
each_last P [] y h p = (p, tt)
each_last P (x ∷ xs) y h p = (h.0, each_last P xs y h.1 p)

last_apart : {A : Type 0} (xs : List A) (y : A) (ys : List A) → xs ++ (y ∷ ys) ≡ (xs ++ y ∷ []) ++ ys
last_apart {A = A} [] y ys = refl
last_apart {A = A} (x ∷ xs) y ys = ap (λ (zs : List A). x ∷ zs) (last_apart xs y ys)

-- What is hidden.

ranges_from : (from : ℕ) (above : List Hidden) (part : Hidden) (below : List Hidden) → RangesInOrder from (above ++ part ∷ below) → from ≤ part.span.start
ranges_from from [] part below r = r.0
ranges_from from (h ∷ hs) part below r = omega (arith, r.0, r.1, ranges_from h.span.end hs part below r.2)

ranges_above : (from : ℕ) (above : List Hidden) (part : Hidden) (below : List Hidden) → RangesInOrder from (above ++ part ∷ below) → Each (λ h. (h.span.start ≤ h.span.end) × (h.span.end ≤ part.span.start)) above
ranges_above from [] part below r = tt
ranges_above from (h ∷ hs) part below r = ((r.1, ranges_from h.span.end hs part below r.2), ranges_above h.span.end hs part below r.2)

ranges_below : (from : ℕ) (above : List Hidden) (part : Hidden) (below : List Hidden) → RangesInOrder from (above ++ part ∷ below) → RangesInOrder part.span.end below
ranges_below from [] part below r = r.2
ranges_below from (h ∷ hs) part below r = ranges_below h.span.end hs part below r.2

all_behind : (from : ℕ) (hs : List Hidden) → RangesInOrder from hs → Each (λ h. (from ≤ h.span.start) × (h.span.start ≤ h.span.end)) hs
all_behind from [] r = tt
all_behind from (h ∷ hs) r =
    ((r.0, r.1), each_less (λ k. (h.span.end ≤ k.span.start) × (k.span.start ≤ k.span.end)) (λ k. (from ≤ k.span.start) × (k.span.start ≤ k.span.end)) hs (λ k p. (omega (arith, r.0, r.1, p.0), p.1)) (all_behind h.span.end hs r.2))

-- The two texts.

module _ (in_core : Bool) (text other : List ℕ) (e : EditedBraces in_core text other) (in_order : RangesInOrder 0 (hidden_of in_core text)) (turn : InTurn (tokens_of text)) (turn_there : InTurn (tokens_of other)) where
  abbrev words : List (List ℕ)
  words = words_of text

  abbrev others : List (List ℕ)
  others = words_of other

  rise : InTurn (e.before ++ (e.left ∷ (e.inside ++ (e.right ∷ e.behind))))
  rise = subst InTurn e.tokens turn

  rise_there : InTurn (e.earlier ++ (e.left_there ∷ (e.instead ++ (e.right_there ∷ e.later))))
  rise_there = subst InTurn e.edited turn_there

  brace_on : InTurn (e.left ∷ (e.inside ++ (e.right ∷ e.behind)))
  brace_on = turn_back e.before (e.left ∷ (e.inside ++ (e.right ∷ e.behind))) rise

  brace_on_there : InTurn (e.left_there ∷ (e.instead ++ (e.right_there ∷ e.later)))
  brace_on_there = turn_back e.earlier (e.left_there ∷ (e.instead ++ (e.right_there ∷ e.later))) rise_there

  close_on : InTurn (e.right ∷ e.behind)
  close_on = turn_back e.inside (e.right ∷ e.behind) brace_on.1.1

  close_on_there : InTurn (e.right_there ∷ e.later)
  close_on_there = turn_back e.instead (e.right_there ∷ e.later) brace_on_there.1.1

  open_ends : e.left.end ≤ e.right.start
  open_ends = (each_back (λ u. e.left.end ≤ u.start) e.inside (e.right ∷ e.behind) brace_on.1.0).0

  opening_ends : e.left_there.end ≤ e.right_there.start
  opening_ends = (each_back (λ u. e.left_there.end ≤ u.start) e.instead (e.right_there ∷ e.later) brace_on_there.1.0).0

  begun : e.left.start ≡ e.left_there.start
  begun = omega (arith, e.opens.start)

  apart : e.left.start < e.right.start
  apart = omega (arith, brace_on.0, open_ends)

  apart_there : e.left.start < e.right_there.start
  apart_there = omega (arith, brace_on_there.0, opening_ends, begun)

  abbrev m : Moves
  m = moves e.left.start e.right.start e.right_there.start e.on e.back apart apart_there e.closes.start words others (once_of text) (once_of other)

  -- the tokens have words
  short : Each (λ t. t.word < length words) (e.before ++ (e.left ∷ (e.inside ++ (e.right ∷ e.behind))))
  short = subst (λ (ts : List Token). Each (λ t. t.word < length words) ts) e.tokens (have_words text)

  short_there : Each (λ t. t.word < length others) (e.earlier ++ (e.left_there ∷ (e.instead ++ (e.right_there ∷ e.later))))
  short_there = subst (λ (ts : List Token). Each (λ t. t.word < length others) ts) e.edited (have_words other)

  brace_short : Each (λ t. t.word < length words) (e.left ∷ (e.inside ++ (e.right ∷ e.behind)))
  brace_short = each_back (λ t. t.word < length words) e.before (e.left ∷ (e.inside ++ (e.right ∷ e.behind))) short

  brace_short_there : Each (λ t. t.word < length others) (e.left_there ∷ (e.instead ++ (e.right_there ∷ e.later)))
  brace_short_there = each_back (λ t. t.word < length others) e.earlier (e.left_there ∷ (e.instead ++ (e.right_there ∷ e.later))) short_there

  close_short : Each (λ t. t.word < length words) (e.right ∷ e.behind)
  close_short = each_back (λ t. t.word < length words) e.inside (e.right ∷ e.behind) brace_short.1

  close_short_there : Each (λ t. t.word < length others) (e.right_there ∷ e.later)
  close_short_there = each_back (λ t. t.word < length others) e.instead (e.right_there ∷ e.later) brace_short_there.1

  twins_before : (ts us : List Token) → Each (EndsBy e.left.start) ts → Each (λ t. t.word < length words) ts → Each (λ t. t.word < length others) us → SameLexemes words others 0 0 ts us → AllTwins m ts us
  twins_before [] [] o w v s = tt
  twins_before [] (u ∷ us) o w v s = absurd s
  twins_before (t ∷ ts) [] o w v s = absurd s
  twins_before (t ∷ ts) (u ∷ us) o w v s = (
    twin_low e.left.start e.right.start e.right_there.start e.on e.back apart apart_there e.closes.start words others (once_of text) (once_of other) t u o.0 s.0.kind (w.0, (v.0, s.0.letters)) (omega (arith, s.0.start)) (omega (arith, s.0.end)),
    twins_before ts us o.1 w.1 v.1 s.1,
  )

  twins_behind : (ts us : List Token) → Each (BeginsFrom e.right.start) ts → Each (λ t. t.word < length words) ts → Each (λ t. t.word < length others) us → SameLexemes words others e.on e.back ts us → AllTwins m ts us
  twins_behind [] [] o w v s = tt
  twins_behind [] (u ∷ us) o w v s = absurd s
  twins_behind (t ∷ ts) [] o w v s = absurd s
  twins_behind (t ∷ ts) (u ∷ us) o w v s = (
    twin_high e.left.start e.right.start e.right_there.start e.on e.back apart apart_there e.closes.start words others (once_of text) (once_of other) t u o.0 s.0.kind (w.0, (v.0, s.0.letters)) s.0.start s.0.end,
    twins_behind ts us o.1 w.1 v.1 s.1,
  )

  no_greater : (k : Kind) → k ≡ kind.OpenBrace → sameb kinds.the_type k kind.Greater ≡ false
  no_greater k h = rw h refl

  brace_twins : TextTwins m e.left e.left_there
  brace_twins =
      twin_brace e.left.start e.right.start e.right_there.start e.on e.back apart apart_there e.closes.start words others (once_of text) (once_of other) e.left e.left_there refl open_ends (no_greater e.left.kind e.brace) e.opens.kind
      (brace_short.0, (brace_short_there.0, e.opens.letters)) begun (omega (arith, e.opens.end))

  close_twins : TextTwins m e.right e.right_there
  close_twins =
      twin_high e.left.start e.right.start e.right_there.start e.on e.back apart apart_there e.closes.start words others (once_of text) (once_of other) e.right e.right_there (close_on.0, omega arith) e.closes.kind
      (close_short.0, (close_short_there.0, e.closes.letters)) e.closes.start e.closes.end

  behind_later : Each (BeginsFrom e.right.end) e.behind
  behind_later = begins_behind e.right.end e.behind close_on.1.0 close_on.1.1

  later_twins : AllTwins m e.behind e.later
  later_twins = twins_behind e.behind e.later (each_less (BeginsFrom e.right.end) (BeginsFrom e.right.start) e.behind (λ t b. (b.0, omega (arith, b.1, close_on.0))) behind_later) close_short.1 close_short_there.1 e.moves_on

  before_ends : Each (EndsBy e.left.start) e.before
  before_ends = ends_before e.before e.left (e.inside ++ (e.right ∷ e.behind)) rise

  before_twins : AllTwins m e.before e.earlier
  before_twins =
      twins_before e.before e.earlier before_ends (each_front (λ t. t.word < length words) e.before (e.left ∷ (e.inside ++ (e.right ∷ e.behind))) short)
      (each_front (λ t. t.word < length others) e.earlier (e.left_there ∷ (e.instead ++ (e.right_there ∷ e.later))) short_there) e.stays

  abbrev steps : ℕ
  steps = length e.before + (length e.behind + 1)

  alike : (n : ℕ) → n ≡ length e.before + (length e.behind + 1) → Alike m e.freedom n false (grammar_tokens (tokens_of text)) (grammar_tokens (tokens_of other))
  alike n is =
      subst (λ (ts : List Token). Alike m e.freedom n false (grammar_tokens ts) (grammar_tokens (tokens_of other))) (sym e.tokens)
      (subst (λ (us : List Token). Alike m e.freedom n false (grammar_tokens (e.before ++ (e.left ∷ (e.inside ++ (e.right ∷ e.behind))))) (grammar_tokens us)) (sym e.edited)
      (texts_alike m e.freedom e.left e.left_there e.right e.right_there e.inside e.instead e.behind e.later brace_twins close_twins later_twins e.brace e.before e.earlier n (omega (arith, is)) before_twins e.leads))

  -- what is hidden
  ordered : RangesInOrder 0 (e.above ++ e.part ∷ e.below)
  ordered = subst (RangesInOrder 0) e.ranges in_order

  above_ends : Each (λ h. (h.span.start ≤ h.span.end) × (h.span.end ≤ e.part.span.start)) e.above
  above_ends = ranges_above 0 e.above e.part e.below ordered

  below_begins : Each (λ h. (e.part.span.end ≤ h.span.start) × (h.span.start ≤ h.span.end)) e.below
  below_begins = all_behind e.part.span.end e.below (ranges_below 0 e.above e.part e.below ordered)

  span_same : (h : Hidden) (s t : ℕ) → s ≡ h.span.start → t ≡ h.span.end → (record { span = record { start = s; end = t }; in_mixin = h.in_mixin }) ≡ h
  span_same h s t a b = rw (a, b) refl

  fixed : (hs : List Hidden) → Each (λ h. (h.span.start ≤ h.span.end) × (h.span.end ≤ e.part.span.start)) hs → map (moved m) hs ≡ hs
  fixed [] b = refl
  fixed (h ∷ hs) b =
      let start : m.starts h.span.start ≡ h.span.start = start_low e.left.start e.right.start e.right_there.start e.on e.back apart apart_there e.closes.start h.span.start (omega (arith, b.0.0, b.0.1, e.begins)) in
      let end : m.ends h.span.end ≡ h.span.end = end_low e.left.start e.right.start e.right_there.start e.on e.back apart apart_there e.closes.start h.span.end (omega (arith, b.0.1, e.begins, apart)) in
      ap (λ (k : Hidden). k ∷ map (moved m) hs) (span_same h (m.starts h.span.start) (m.ends h.span.end) start end) ∙ ap (λ (ks : List Hidden). h ∷ ks) (fixed hs b.1)

  moved_on : (hs : List Hidden) → Each (λ h. (e.part.span.end ≤ h.span.start) × (h.span.start ≤ h.span.end)) hs → AllSameHidden e.on e.back hs (map (moved m) hs)
  moved_on [] b = tt
  moved_on (h ∷ hs) b =
      let start : m.starts h.span.start ≡ h.span.start + e.on - e.back = start_high e.left.start e.right.start e.right_there.start e.on e.back apart apart_there e.closes.start h.span.start (omega (arith, b.0.0, e.ends, close_on.0)) in
      let end : m.ends h.span.end ≡ h.span.end + e.on - e.back = end_high e.left.start e.right.start e.right_there.start e.on e.back apart apart_there e.closes.start h.span.end (omega (arith, b.0.0, b.0.1, e.ends, close_on.0)) in (
        record { in_mixin = refl; start = omega (arith, start, b.0.0, e.ends, close_on.0, e.closes.start); end = omega (arith, end, b.0.0, b.0.1, e.ends, close_on.0, e.closes.start) },
        moved_on hs b.1,
      )

  part_start : m.starts e.part.span.start ≡ e.left.start
  part_start = ap m.starts e.begins ∙ start_low e.left.start e.right.start e.right_there.start e.on e.back apart apart_there e.closes.start e.left.start (omega arith)

  part_end : m.ends e.part.span.end ≡ e.right_there.end
  part_end =
      let goes : m.ends e.right.end ≡ e.right.end + e.on - e.back = end_high e.left.start e.right.start e.right_there.start e.on e.back apart apart_there e.closes.start e.right.end close_on.0 in
      ap m.ends e.ends ∙ omega (arith, goes, e.closes.end)

  held : (left right : Token) (inside behind : List Token) (end : ℕ) → InTurn (left ∷ (inside ++ (right ∷ behind))) → left.end ≤ right.start → InTurn (right ∷ behind) → right.end ≡ end → All (λ t. t.start < end) (left ∷ (inside ++ right ∷ []))
  held left right inside behind end turn less on is =
      all_each (λ t. t.start < end) (left ∷ (inside ++ right ∷ [])) (
        omega (arith, turn.0, less, on.0, is),
        each_last (λ t. t.start < end) inside right (each_less (EndsBy right.start) (λ t. t.start < end) inside (λ t b. omega (arith, b.0, b.1, on.0, is)) (ends_before inside right behind turn.1.1)) (omega (arith, on.0, is)),
      )

  from_end : (end : ℕ) (right : Token) (behind : List Token) → InTurn (right ∷ behind) → right.end ≡ end → All (λ t. end ≤ t.start) behind
  from_end end right behind on is = all_each (λ t. end ≤ t.start) behind (each_less (λ t. right.end ≤ t.start) (λ t. end ≤ t.start) behind (λ t b. omega (arith, b, is)) on.1.0)

  pub edited_body : EditedBody in_core text other
  edited_body = record {
    before = e.before;
    first = e.left;
    inside = e.inside ++ e.right ∷ [];
    behind = e.behind;
    tokens = e.tokens ∙ ap (λ (ts : List Token). e.before ++ (e.left ∷ ts)) (last_apart e.inside e.right e.behind);
    earlier = e.earlier;
    begun = e.left_there;
    instead = e.instead ++ e.right_there ∷ [];
    later = e.later;
    edited = e.edited ∙ ap (λ (ts : List Token). e.earlier ++ (e.left_there ∷ ts)) (last_apart e.instead e.right_there e.later);
    above = e.above;
    part = e.part;
    below = e.below;
    ranges = e.ranges;
    moves = m;
    steps = steps;
    freedom = e.freedom;
    suits = e.suits;
    alike = alike steps refl;
    stays = e.stays;
    fixed = fixed e.above above_ends;
    begins = e.begins ∙ sym part_start;
    comes_first = all_each (λ t. t.start < e.part.span.start) e.before (each_less (EndsBy e.left.start) (λ t. t.start < e.part.span.start) e.before (λ t b. omega (arith, b.0, b.1, e.begins)) before_ends);
    hidden_first = all_each (λ h. h.span.start ≤ e.part.span.start) e.above (each_less _ (λ h. h.span.start ≤ e.part.span.start) e.above (λ h b. omega (arith, b.0, b.1)) above_ends);
    hides_first = all_each (λ h. h.span.end ≤ e.part.span.start) e.above (each_less _ (λ h. h.span.end ≤ e.part.span.start) e.above (λ h b. b.1) above_ends);
    old = record {
      begins = sym e.begins;
      within = held e.left e.right e.inside e.behind e.part.span.end brace_on open_ends close_on (sym e.ends);
      ends = from_end e.part.span.end e.right e.behind close_on (sym e.ends);
      marked = e.marked;
    };
    new = record {
      begins = sym (part_start ∙ begun);
      within = held e.left_there e.right_there e.instead e.later (m.ends e.part.span.end) brace_on_there opening_ends close_on_there (sym part_end);
      ends = from_end (m.ends e.part.span.end) e.right_there e.later close_on_there (sym part_end);
      marked = e.marked_there;
    };
    on = e.on;
    back = e.back;
    moves_on = e.moves_on;
    hides_on = moved_on e.below below_begins;
  }
