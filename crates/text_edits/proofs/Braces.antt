-- Texts that differ in the braces of a body are alike.
use Rattle.std.proofs.Common.{◌≡◌, ℕ, zero, suc, ◌+◌, ◌≤◌, ◌==◌, Bool, true, false, not, ◌&&◌, nat_lt, List, [], ◌∷◌, ◌++◌, Option, Some, length, take, drop, if◌then◌else◌, refl, sym, ap, ◌∙◌, subst, arith}
use Rattle.std.proofs.lemmas.Bool.Decides.{nat_tests}
use denote.Enum.Bare.{sameb}
use Rattle.dart_tokens.specs.declared.token.Kind.{Kind}
use Rattle.dart_tokens.specs.contracts.token.Kind as kinds
use Rattle.dart_tokens.specs.declared.token.Kind.TheVariants as kind
use Rattle.dart_tokens.specs.declared.token.Token.{Token as TextToken}
use Rattle.dart_tokens.specs.Groups.{Bracket, Round, Curly, opens, is_same}
use Rattle.dart_tokens.specs.declared.grouped_token.GroupedToken.{GroupedToken as Token}
use Rattle.dart_tokens.specs.Read.{past}
use Rattle.grammar.specs.Tokens.{is, last_end, grammar_tokens}
use Rattle.body_laws.specs.Bodies.{Moves, Freedom, is_free, opens_body, opens_group, Alike}
use Rattle.text_edits.specs.Brackets.{kinds_after, falls_below, freedom_within, all_may_stand, ends_group, is_body, may_differ, leads_to_body}
use Rattle.text_edits.specs.Twins.{TextTwins, AllTwins}
use Rattle.text_edits.proofs.Windows.{is_lost, behind, ends_at, read_by, read_in, window, level, level_behind, still_above, above_is, is_above, is_equal, below_found, Over, over_up, over_same, over_itself, over_after, drop_window, last_window}
use Rattle.text_edits.proofs.Read.{read_level}
use Rattle.text_edits.proofs.Levels.{both_left, both_right, by_twins, HeadTwins, alike_none, window_kind, behind_kind, ends_kind, Tails, behinds_twin, ends_twin, all_levels}

-- Nothing comes behind.

no_tails : (m : Moves) (f : Freedom) → Tails m f [] [] 0 (λ closed around. true)
no_tails m f = record {
  levels = λ n b around le may. alike_none m (freedom_within f around) n b;
  behinds = λ n b c g around bs le o p h round may. alike_none m (freedom_within f around) n b;
  heads = λ least around. tt;
  ends = λ e d least c around x h may. x;
  calm = λ b around h. refl;
}

nothing_behind : (ts : List TextToken) → ts ++ [] ≡ ts
nothing_behind [] = refl
nothing_behind (t ∷ ts) = ap (λ (us : List TextToken). t ∷ us) (nothing_behind ts)

-- Past the tokens of a group.

closing_below : (n least : ℕ) → (suc n == least) ≡ true → nat_lt n least ≡ true
closing_below n least e = grind (arith, nat_tests)

is_false : (b : Bool) → not b ≡ true → b ≡ false
is_false true e = absurd (cc)
is_false false e = refl

pass_behind : (least : ℕ) (bs : List Bracket) (inside : List TextToken) (right : TextToken) (rest : List TextToken) → ends_group least bs inside right.kind ≡ true → behind least bs (inside ++ (right ∷ rest)) ≡ Some rest
pass_behind least bs [] right rest h = let below : falls_below least right.kind bs ≡ true = closing_below (length (kinds_after right.kind bs)) least h in rw (below, h) refl
pass_behind least bs (t ∷ ts) right rest h =
    let stays : falls_below least t.kind bs ≡ false = is_false (falls_below least t.kind bs) (both_left (not (falls_below least t.kind bs)) _ h) in
    rw stays (pass_behind least (kinds_after t.kind bs) ts right rest (both_right (not (falls_below least t.kind bs)) _ h))

pass_ends : (e least : ℕ) (bs : List Bracket) (inside : List TextToken) (right : TextToken) (rest : List TextToken) → ends_group least bs inside right.kind ≡ true → ends_at e least bs (inside ++ (right ∷ rest)) ≡ right.end
pass_ends e least bs [] right rest h = let below : falls_below least right.kind bs ≡ true = closing_below (length (kinds_after right.kind bs)) least h in rw (below, h) refl
pass_ends e least bs (t ∷ ts) right rest h =
    by (falls_below least t.kind bs) (is_false (falls_below least t.kind bs) (both_left (not (falls_below least t.kind bs)) _ h)) (is_lost t.kind bs) refl
    (λ d. pass_ends d least (kinds_after t.kind bs) ts right rest (both_right (not (falls_below least t.kind bs)) _ h))
  where
    by : (b : Bool) → falls_below least t.kind bs ≡ false → (l : Bool) → is_lost t.kind bs ≡ l → ((d : ℕ) → ends_at d least (kinds_after t.kind bs) (ts ++ (right ∷ rest)) ≡ right.end) → ends_at e least bs (t ∷ (ts ++ (right ∷ rest))) ≡ right.end
    by b stays true l r = rw (stays, l) (r e)
    by b stays false l r = rw (stays, l) (r t.end)

-- what comes behind them in a group further out
pass_over : (around bs : List Bracket) (inside : List TextToken) (right : TextToken) (rest : List TextToken) (low : ℕ) → Over around bs → suc (length around) ≤ length bs → ends_group (suc (length around)) bs inside right.kind ≡ true → low ≤ length around →
    behind low bs (inside ++ (right ∷ rest)) ≡ behind low around rest
pass_over around bs [] right rest low o h e less =
    let len : length (kinds_after right.kind bs) ≡ length around = omega (arith, is_equal (suc (length (kinds_after right.kind bs))) (suc (length around)) e) in
    let same : kinds_after right.kind bs ≡ around = over_same around (kinds_after right.kind bs) (over_after around bs right.kind (omega (arith, h)) o) len in
    let above : falls_below low right.kind bs ≡ false = is_above (length (kinds_after right.kind bs)) low (omega (arith, len, less)) in
    rw above (ap (λ (cs : List Bracket). behind low cs rest) same)
pass_over around bs (t ∷ ts) right rest low o h e less =
    let stays : falls_below (suc (length around)) t.kind bs ≡ false = is_false (falls_below (suc (length around)) t.kind bs) (both_left (not (falls_below (suc (length around)) t.kind bs)) _ e) in
    let above : falls_below low t.kind bs ≡ false = still_above (length (kinds_after t.kind bs)) low (suc (length around)) stays (omega (arith, less)) in
    rw above
    (pass_over around (kinds_after t.kind bs) ts right rest low (over_after around bs t.kind (omega (arith, h)) o) (above_is (length (kinds_after t.kind bs)) (suc (length around)) stays) (both_right (not (falls_below (suc (length around)) t.kind bs)) _ e) less)

pass_ends_over : (e : ℕ) (around bs : List Bracket) (inside : List TextToken) (right : TextToken) (rest : List TextToken) (low : ℕ) → Over around bs → suc (length around) ≤ length bs → ends_group (suc (length around)) bs inside right.kind ≡ true → low ≤ length around →
    ends_at e low bs (inside ++ (right ∷ rest)) ≡ ends_at right.end low around rest
pass_ends_over e around bs [] right rest low o h g less =
    let len : length (kinds_after right.kind bs) ≡ length around = omega (arith, is_equal (suc (length (kinds_after right.kind bs))) (suc (length around)) g) in
    let same : kinds_after right.kind bs ≡ around = over_same around (kinds_after right.kind bs) (over_after around bs right.kind (omega (arith, h)) o) len in
    let above : falls_below low right.kind bs ≡ false = is_above (length (kinds_after right.kind bs)) low (omega (arith, len, less)) in
    let found : is_lost right.kind bs ≡ false = below_found right.kind bs (suc (length around)) h (closing_below (length (kinds_after right.kind bs)) (suc (length around)) g) in
    rw (above, found) (ap (λ (cs : List Bracket). ends_at right.end low cs rest) same)
pass_ends_over e around bs (t ∷ ts) right rest low o h g less =
    let stays : falls_below (suc (length around)) t.kind bs ≡ false = is_false (falls_below (suc (length around)) t.kind bs) (both_left (not (falls_below (suc (length around)) t.kind bs)) _ g) in
    let above : falls_below low t.kind bs ≡ false = still_above (length (kinds_after t.kind bs)) low (suc (length around)) stays (omega (arith, less)) in
    by above (is_lost t.kind bs) refl
    (λ d. pass_ends_over d around (kinds_after t.kind bs) ts right rest low (over_after around bs t.kind (omega (arith, h)) o) (above_is (length (kinds_after t.kind bs)) (suc (length around)) stays) (both_right (not (falls_below (suc (length around)) t.kind bs)) _ g) less)
  where
    by : falls_below low t.kind bs ≡ false → (l : Bool) → is_lost t.kind bs ≡ l → ((d : ℕ) → ends_at d low (kinds_after t.kind bs) (ts ++ (right ∷ rest)) ≡ ends_at right.end low around rest) →
        ends_at e low bs (t ∷ (ts ++ (right ∷ rest))) ≡ ends_at right.end low around rest
    by above true l r = rw (above, l) (r e)
    by above false l r = rw (above, l) (r t.end)

module _ (m : Moves) (f : Freedom) (left left_there right right_there : TextToken) (inside instead behind_it later : List TextToken) (open_twins : TextTwins m left left_there) (close_twins : TextTwins m right right_there)
    (later_twins : AllTwins m behind_it later) (brace : left.kind ≡ kind.OpenBrace) where
  -- what the test says
  record Fits (closed : Bool) (around : List Bracket) : Type 0 where
    is_closed : closed ≡ true
    is_free_here : is_free (freedom_within f around) ≡ true
    holds : is_body around inside right.kind ≡ true
    holds_too : is_body around instead right_there.kind ≡ true
    stand : all_may_stand f (λ closed around. true) true around behind_it ≡ true

  fits : (closed : Bool) (around : List Bracket) → may_differ f inside right.kind instead right_there.kind behind_it closed around ≡ true → Fits closed around
  fits closed around h =
      let one = both_right closed _ h in
      let two = both_right (is_free (freedom_within f around)) _ one in
      let three = both_right (is_body around inside right.kind) _ two in
      record {
        is_closed = both_left closed _ h;
        is_free_here = both_left (is_free (freedom_within f around)) _ one;
        holds = both_left (is_body around inside right.kind) _ two;
        holds_too = both_left (is_body around instead right_there.kind) _ three;
        stand = both_right (is_body around instead right_there.kind) _ three;
      }

  abbrev pub rest : List TextToken
  rest = inside ++ (right ∷ behind_it)

  abbrev pub other : List TextToken
  other = instead ++ (right_there ∷ later)

  other_brace : left_there.kind ≡ kind.OpenBrace
  other_brace = sym open_twins.kind ∙ brace

  braces_above : (around : List Bracket) → nat_lt (suc (length around)) (length around) ≡ false
  braces_above around = is_above (suc (length around)) (length around) (omega arith)

  over_braces : (around : List Bracket) → Over around (Curly ∷ around)
  over_braces around = over_up around around Curly (omega arith) (over_itself around)

  level_of : (around : List Bracket) (t : TextToken) (ts : List TextToken) → t.kind ≡ kind.OpenBrace → level around (t ∷ ts) ≡ read_by around (Some Curly) t ts ∷ window (length around) (Curly ∷ around) ts
  level_of around t ts e =
      window_kind kind.OpenBrace (length around) around t ts e ∙ rw (braces_above around) (ap (λ (o : Option Bracket). read_by around o t ts ∷ window (length around) (Curly ∷ around) ts) (ap opens e))

  plain_levels : (n : ℕ) (b : Bool) (around : List Bracket) → all_may_stand f (λ closed around. true) true around behind_it ≡ true → length behind_it ≤ n → Alike m (freedom_within f around) n b (level around behind_it) (level around later)
  plain_levels n b around stand le =
      subst (λ (ts : List TextToken). Alike m (freedom_within f around) n b (level around ts) (level around later)) (nothing_behind behind_it)
      (subst (λ (ts : List TextToken). Alike m (freedom_within f around) n b (level around (behind_it ++ [])) (level around ts)) (nothing_behind later)
      (all_levels m f [] [] 0 (λ closed around. true) (no_tails m f) n b around behind_it later later_twins (any_flag behind_it b around stand) (omega (arith, le))))
    where
      any_flag : (ts : List TextToken) (b : Bool) (around : List Bracket) → all_may_stand f (λ closed around. true) true around ts ≡ true → all_may_stand f (λ closed around. true) b around ts ≡ true
      any_flag [] b around h = refl
      any_flag (t ∷ ts) b around h = h

  braces_level : (n : ℕ) (around : List Bracket) → suc (length behind_it) ≤ suc n → Fits true around → Alike m (freedom_within f around) (suc n) true (level around (left ∷ rest)) (level around (left_there ∷ other))
  unfolding past
  braces_level n around le fit =
      let x : Token = read_by around (Some Curly) left rest in
      let y : Token = read_by around (Some Curly) left_there other in
      let one : List Token = window (length around) (Curly ∷ around) rest in
      let two : List Token = window (length around) (Curly ∷ around) other in
      let least : ℕ = suc (length around) in
      let last : last_end (y ∷ take (past y) two) ≡ m.ends (last_end (x ∷ take (past x) one)) =
      last_window (length around) least (Curly ∷ around) other y (omega arith) (omega arith) ∙ pass_ends left_there.end least (Curly ∷ around) instead right_there later fit.holds_too ∙ close_twins.end
      ∙ ap (λ (e : ℕ). m.ends e) (sym (last_window (length around) least (Curly ∷ around) rest x (omega arith) (omega arith) ∙ pass_ends left.end least (Curly ∷ around) inside right behind_it fit.holds)) in
      let dropped : drop (past x) one ≡ level around behind_it =
      drop_window around (Curly ∷ around) rest (over_braces around) (omega arith) ∙ ap (λ (o : Option (List TextToken)). level_behind around o) (pass_behind least (Curly ∷ around) inside right behind_it fit.holds) in
      let dropped_too : drop (past y) two ≡ level around later =
      drop_window around (Curly ∷ around) other (over_braces around) (omega arith) ∙ ap (λ (o : Option (List TextToken)). level_behind around o) (pass_behind least (Curly ∷ around) instead right_there later fit.holds_too) in
      let further : (b : Bool) → Alike m (freedom_within f around) n b (drop (past x) one) (drop (past y) two) =
      λ b. subst (λ (ws : List Token). Alike m (freedom_within f around) n b ws (drop (past y) two)) (sym dropped) (subst (λ (ws : List Token). Alike m (freedom_within f around) n b (level around behind_it) ws) (sym dropped_too) (plain_levels n b around fit.stand (omega (arith, le)))) in
      let body : opens_body (freedom_within f around) true x ≡ true = opened (is_free (freedom_within f around)) left.kind fit.is_free_here brace in
      let made : Alike m (freedom_within f around) (suc n) true (x ∷ one) (y ∷ two) = (
        by_twins m around (Some Curly) (Some Curly) left left_there rest other open_twins,
        last,
        λ g. absurd (no_greater left.kind brace g),
        further (is kind.OpenParenthesis x),
        λ c. absurd (never (opens_body (freedom_within f around) true x) body c),
        λ c. absurd (no_group left.kind brace c),
        λ p. no_function left.kind brace,
      ) in
      subst (λ (ws : List Token). Alike m (freedom_within f around) (suc n) true ws (level around (left_there ∷ other))) (sym (level_of around left rest brace))
      (subst (λ (ws : List Token). Alike m (freedom_within f around) (suc n) true (x ∷ one) ws) (sym (level_of around left_there other other_brace)) made)
    where
      never : (a : Bool) → a ≡ true → a ≡ false → ⊥
      never true e d = cc
      never false e d = cc

      opened : (free : Bool) (k : Kind) → free ≡ true → k ≡ kind.OpenBrace → (free && sameb kinds.the_type k kind.OpenBrace) ≡ true
      opened free k e d = rw (e, d) refl

      no_greater : (k : Kind) → k ≡ kind.OpenBrace → sameb kinds.the_type k kind.Greater ≡ true → ⊥
      no_greater k e g = let h : sameb kinds.the_type kind.OpenBrace kind.Greater ≡ true = ap (λ (j : Kind). sameb kinds.the_type j kind.Greater) (sym e) ∙ g in cc

      no_function : (k : Kind) → k ≡ kind.OpenBrace → sameb kinds.the_type k kind.Function ≡ false
      no_function k e = rw e refl

      any_group : Kind → Bool
      any_group k = opens_group (record { kind = k; is_closed = false; start = 0; end = 0; word = 0; width = 0 })

      no_group : (k : Kind) → k ≡ kind.OpenBrace → any_group k ≡ false → ⊥
      no_group k e g = let h : any_group kind.OpenBrace ≡ false = ap (λ (j : Kind). any_group j) (sym e) ∙ g in cc

  braces_tails : Tails m f (left ∷ rest) (left_there ∷ other) (suc (length behind_it)) (λ closed around. may_differ f inside right.kind instead right_there.kind behind_it closed around)
  braces_tails = record {
    levels = levels;
    behinds = behinds;
    heads = heads;
    ends = ends;
    calm = λ b around h. absurd (no_flag (fits false around h).is_closed);
  }
    where
      no_flag : false ≡ true → ⊥
      no_flag e = cc

      levels : (n : ℕ) (b : Bool) (around : List Bracket) → suc (length behind_it) ≤ n → may_differ f inside right.kind instead right_there.kind behind_it b around ≡ true →
          Alike m (freedom_within f around) n b (level around (left ∷ rest)) (level around (left_there ∷ other))
      levels zero b around le h = absurd (omega (arith, le))
      levels (suc n) true around le h = braces_level n around le (fits true around h)
      levels (suc n) false around le h = absurd (no_flag (fits false around h).is_closed)

      behinds : (n : ℕ) (b c : Bool) (g : Bracket) (around bs : List Bracket) → suc (length behind_it) ≤ n → Over around bs → Over (g ∷ around) bs → suc (length around) ≤ length bs → (is_same Round g ≡ true → b ≡ true) →
          may_differ f inside right.kind instead right_there.kind behind_it c bs ≡ true →
          Alike m (freedom_within f around) n b (level_behind around (behind (suc (length around)) bs (left ∷ rest))) (level_behind around (behind (suc (length around)) bs (left_there ∷ other)))
      behinds n b c g around bs le o p h round h' =
          let fit = fits c bs h' in
          let least : ℕ = suc (length around) in
          let stays : nat_lt (suc (length bs)) least ≡ false = is_above (suc (length bs)) least (omega (arith, h)) in
          let one : behind least bs (left ∷ rest) ≡ behind least bs (behind_it ++ []) =
          behind_kind kind.OpenBrace least bs left rest brace ∙ rw stays (pass_over bs (Curly ∷ bs) inside right behind_it least (over_braces bs) (omega arith) fit.holds h) ∙ ap (λ (ts : List TextToken). behind least bs ts) (sym (nothing_behind behind_it)) in
          let two : behind least bs (left_there ∷ other) ≡ behind least bs (later ++ []) =
          behind_kind kind.OpenBrace least bs left_there other other_brace ∙ rw stays (pass_over bs (Curly ∷ bs) instead right_there later least (over_braces bs) (omega arith) fit.holds_too h) ∙ ap (λ (ts : List TextToken). behind least bs ts) (sym (nothing_behind later)) in
          let further = behinds_twin m f [] [] 0 (λ closed around. true) (no_tails m f) n (all_levels m f [] [] 0 (λ closed around. true) (no_tails m f) n) b true g around bs behind_it later later_twins fit.stand (omega (arith, le)) o p h round in
          subst (λ (x : Option (List TextToken)). Alike m (freedom_within f around) n b (level_behind around x) (level_behind around (behind least bs (left_there ∷ other)))) (sym one)
          (subst (λ (x : Option (List TextToken)). Alike m (freedom_within f around) n b (level_behind around (behind least bs (behind_it ++ []))) (level_behind around x)) (sym two) further)

      heads : (least : ℕ) (around : List Bracket) → HeadTwins m (window least around (left ∷ rest)) (window least around (left_there ∷ other))
      heads least around =
          subst (λ (ws : List Token). HeadTwins m ws (window least around (left_there ∷ other))) (sym (window_kind kind.OpenBrace least around left rest brace))
          (subst (λ (ws : List Token). HeadTwins m (if nat_lt (suc (length around)) least then [] else read_in around left rest ∷ window least (Curly ∷ around) rest) ws) (sym (window_kind kind.OpenBrace least around left_there other other_brace))
          (by (nat_lt (suc (length around)) least)))
        where
          by : (b : Bool) → HeadTwins m (if b then [] else read_in around left rest ∷ window least (Curly ∷ around) rest) (if b then [] else read_in around left_there other ∷ window least (Curly ∷ around) other)
          by true = tt
          by false = by_twins m around (opens left.kind) (opens left_there.kind) left left_there rest other open_twins

      ends : (e d least : ℕ) (c : Bool) (around : List Bracket) → d ≡ m.ends e → least ≤ length around → may_differ f inside right.kind instead right_there.kind behind_it c around ≡ true →
          ends_at d least around (left_there ∷ other) ≡ m.ends (ends_at e least around (left ∷ rest))
      ends e d least c around x h h' =
          let fit = fits c around h' in
          let stays : nat_lt (suc (length around)) least ≡ false = is_above (suc (length around)) least (omega (arith, h)) in
          let one : ends_at e least around (left ∷ rest) ≡ ends_at right.end least around (behind_it ++ []) =
          ends_kind kind.OpenBrace e least around left rest brace ∙ rw stays (pass_ends_over left.end around (Curly ∷ around) inside right behind_it least (over_braces around) (omega arith) fit.holds h)
          ∙ ap (λ (ts : List TextToken). ends_at right.end least around ts) (sym (nothing_behind behind_it)) in
          let two : ends_at d least around (left_there ∷ other) ≡ ends_at right_there.end least around (later ++ []) =
          ends_kind kind.OpenBrace d least around left_there other other_brace ∙ rw stays (pass_ends_over left_there.end around (Curly ∷ around) instead right_there later least (over_braces around) (omega arith) fit.holds_too h)
          ∙ ap (λ (ts : List TextToken). ends_at right_there.end least around ts) (sym (nothing_behind later)) in
          two ∙ ends_twin m f [] [] 0 (λ closed around. true) (no_tails m f) right.end right_there.end least true around behind_it later later_twins close_twins.end h fit.stand ∙ ap (λ (n : ℕ). m.ends n) (sym one)

  -- the whole texts
  pub texts_alike : (before earlier : List TextToken) (n : ℕ) → length before + suc (length behind_it) ≤ n → AllTwins m before earlier → leads_to_body f inside right.kind instead right_there.kind behind_it before ≡ true →
      Alike m f n false (grammar_tokens (before ++ (left ∷ rest))) (grammar_tokens (earlier ++ (left_there ∷ other)))
  texts_alike before earlier n le a h =
      subst (λ (ws : List Token). Alike m f n false ws (grammar_tokens (earlier ++ (left_there ∷ other)))) (sym (read_level (before ++ (left ∷ rest))))
      (subst (λ (ws : List Token). Alike m f n false (level [] (before ++ (left ∷ rest))) ws) (sym (read_level (earlier ++ (left_there ∷ other))))
      (all_levels m f (left ∷ rest) (left_there ∷ other) (suc (length behind_it)) (λ closed around. may_differ f inside right.kind instead right_there.kind behind_it closed around) braces_tails n false [] before earlier a h le))
