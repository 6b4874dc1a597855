-- Groups of two texts are alike where their tokens are.
use Rattle.std.proofs.Common.{◌≡◌, ℕ, zero, suc, ◌+◌, ◌≤◌, ◌<◌, ◌==◌, Bool, true, false, not, ◌&&◌, ◌||◌, List, [], ◌∷◌, ◌++◌, Option, Some, None, is_some, unwrap_or, length, take, drop, if◌then◌else◌, refl, sym, ap, ◌∙◌, subst, arith, inl, inr}
use Rattle.std.specs.Option.{option_map_or}
use Rattle.std.proofs.lemmas.Bool.{cases_lt}
use denote.Enum.Bare.{sameb, same_true}
use Rattle.dart_tokens.specs.declared.token.Kind.{Kind}
use Rattle.dart_tokens.specs.contracts.token.Kind as kinds
use Rattle.dart_tokens.specs.declared.token.Kind.TheVariants as kind
use Rattle.dart_tokens.specs.declared.token.Token.{Token as TextToken}
use Rattle.dart_tokens.specs.Groups.{Bracket, Round, Square, Curly, Interpolation, opens, is_same}
use Rattle.dart_tokens.specs.declared.grouped_token.GroupedToken.{GroupedToken as Token}
use Rattle.dart_tokens.specs.Read.{past}
use Rattle.grammar.specs.Tokens.{is, ungrouped, last_end}
use Rattle.body_laws.specs.Bodies.{Moves, Twins, adjoins_next, Freedom, none, is_plain, in_braces, in_group, opens_body, Alike}
use Rattle.text_edits.specs.Brackets.{kinds_closed, kinds_after, falls_below, closes_parameters, freedom_within, may_stand, all_may_stand}
use Rattle.text_edits.specs.Twins.{TextTwins, AllTwins}
use Rattle.text_edits.proofs.Windows.{is_lost, behind, ends_at, read_by, read_in, window, level, level_behind, above_is, is_equal, lost_same, found_fewer, plain_same, opener_after, take_window, Over, over_up, over_same, over_itself, over_after, drop_window, last_window}

-- Truth.

pub both_left : (a b : Bool) → (a && b) ≡ true → a ≡ true
both_left true b e = refl
both_left false b e = e

pub both_right : (a b : Bool) → (a && b) ≡ true → b ≡ true
both_right true b e = e
both_right false b e = absurd (cc)

not_both : (a b : Bool) → not (a && b) ≡ true → a ≡ true → b ≡ false
not_both true true e h = absurd (cc)
not_both true false e h = refl
not_both false b e h = absurd (cc)

-- Kinds that open groups.

abbrev opens_any : Kind → Bool
opens_any k =
    sameb kinds.the_type k kind.OpenParenthesis || (sameb kinds.the_type k kind.OpenBracket || (sameb kinds.the_type k kind.QuestionBracket || (sameb kinds.the_type k kind.OpenBrace || sameb kinds.the_type k kind.InterpolationOpening)))

abbrev KnownOpening : Kind → Type 0
KnownOpening k =
    (sameb kinds.the_type k kind.OpenBrace ≡ option_map_or (λ b. is_same Curly b) (opens k) false) × ((sameb kinds.the_type k kind.OpenParenthesis ≡ option_map_or (λ b. is_same Round b) (opens k) false) × (opens_any k ≡ is_some (opens k)))

known_opening : (k : Kind) → KnownOpening k
known_opening kind.Identifier = (refl, (refl, refl))
known_opening _ = (refl, (refl, refl))

-- Tokens.

read_kind : (around : List Bracket) (t : TextToken) (ts : List TextToken) → (read_in around t ts).kind ≡ t.kind
read_kind around t ts = by (opens t.kind)
  where
    by : (o : Option Bracket) → (read_by around o t ts).kind ≡ t.kind
    by None = refl
    by (Some b) = refl

pub by_twins : (m : Moves) (around : List Bracket) (o p : Option Bracket) (t u : TextToken) (ts us : List TextToken) → TextTwins m t u → Twins m (read_by around o t ts) (read_by around p u us)
by_twins m around None None t u ts us w = record { kind = w.kind; word = w.word; start = w.start; end = w.end }
by_twins m around None (Some c) t u ts us w = record { kind = w.kind; word = w.word; start = w.start; end = w.end }
by_twins m around (Some b) None t u ts us w = record { kind = w.kind; word = w.word; start = w.start; end = w.end }
by_twins m around (Some b) (Some c) t u ts us w = record { kind = w.kind; word = w.word; start = w.start; end = w.end }

-- the first tokens are twins, or there are none
abbrev pub HeadTwins : Moves → List Token → List Token → Type 0
HeadTwins m [] [] = Unit {0}
HeadTwins m [] (u ∷ us) = ⊥
HeadTwins m (t ∷ ts) [] = ⊥
HeadTwins m (t ∷ ts) (u ∷ us) = Twins m t u

pub adjoin_alike : (m : Moves) (t u : TextToken) (x y : Token) (ts us : List Token) → TextTwins m t u → x.end ≡ t.end → y.end ≡ u.end → sameb kinds.the_type t.kind kind.Greater ≡ true → HeadTwins m ts us → adjoins_next x ts ≡ adjoins_next y us
adjoin_alike m t u x y [] [] w e d g h = refl
adjoin_alike m t u x y [] (v ∷ us) w e d g h = absurd h
adjoin_alike m t u x y (v ∷ ts) [] w e d g h = absurd h
adjoin_alike m t u x y (v ∷ ts) (z ∷ us) w e d g h =
    ap (λ (n : ℕ). n == v.start) e ∙ w.joins g v.start ∙ ap (λ (n : ℕ). n == m.starts v.start) (sym w.end ∙ sym d) ∙ ap (λ (n : ℕ). y.end == n) (sym h.start)

pub alike_none : (m : Moves) (f : Freedom) (n : ℕ) (b : Bool) → Alike m f n b [] []
alike_none m f zero b = tt
alike_none m f (suc n) b = tt

-- What is found from a kind.

abbrev window_by : Kind → (least : ℕ) → List Bracket → TextToken → List TextToken → List Token
window_by k least around u us = if falls_below least k around then [] else (if is_lost k around then window least (kinds_after k around) us else read_in around u us ∷ window least (kinds_after k around) us)

pub window_kind : (k : Kind) (least : ℕ) (around : List Bracket) (u : TextToken) (us : List TextToken) → u.kind ≡ k → window least around (u ∷ us) ≡ window_by k least around u us
window_kind k least around u us e = ap (λ (j : Kind). window_by j least around u us) e

abbrev behind_by : Kind → (least : ℕ) → List Bracket → List TextToken → Option (List TextToken)
behind_by k least around us = if falls_below least k around then (if suc (length (kinds_after k around)) == least then Some us else None) else behind least (kinds_after k around) us

pub behind_kind : (k : Kind) (least : ℕ) (around : List Bracket) (u : TextToken) (us : List TextToken) → u.kind ≡ k → behind least around (u ∷ us) ≡ behind_by k least around us
behind_kind k least around u us e = ap (λ (j : Kind). behind_by j least around us) e

abbrev ends_by : Kind → ℕ → (least : ℕ) → List Bracket → TextToken → List TextToken → ℕ
ends_by k e least around u us =
    if falls_below least k around then (if suc (length (kinds_after k around)) == least then u.end else e)
    else (if is_lost k around then ends_at e least (kinds_after k around) us else ends_at u.end least (kinds_after k around) us)

pub ends_kind : (k : Kind) (e least : ℕ) (around : List Bracket) (u : TextToken) (us : List TextToken) → u.kind ≡ k → ends_at e least around (u ∷ us) ≡ ends_by k e least around u us
ends_kind k e least around u us h = ap (λ (j : Kind). ends_by j e least around u us) h

-- A token that stands for itself, and one that opens a group.

plain_alike : (m : Moves) (f : Freedom) (n : ℕ) (b : Bool) (t u : TextToken) (ts us : List Token) → TextTwins m t u → HeadTwins m ts us → ((c : Bool) → Alike m f n c ts us) →
    (is_plain f ≡ true → sameb kinds.the_type t.kind kind.Function ≡ false) → Alike m f (suc n) b (ungrouped t ∷ ts) (ungrouped u ∷ us)
unfolding past
plain_alike m f n b t u ts us w h rest plain = (
  by_twins m [] None None t u [] [] w,
  w.end,
  λ g. adjoin_alike m t u (ungrouped t) (ungrouped u) ts us w refl refl g h,
  rest (is kind.OpenParenthesis (ungrouped t)),
  λ e. alike_none m (in_group f (ungrouped t)) n false,
  λ e. rest false,
  plain,
)

group_alike : (m : Moves) (f : Freedom) (n : ℕ) (b : Bool) (x y : Token) (t u : TextToken) (ts us : List Token) → x.kind ≡ t.kind → x.end ≡ t.end → y.end ≡ u.end → Twins m x y → TextTwins m t u → HeadTwins m ts us → is_some (opens t.kind) ≡ true →
    last_end (y ∷ take (past y) us) ≡ m.ends (last_end (x ∷ take (past x) ts)) → Alike m f n (sameb kinds.the_type t.kind kind.OpenParenthesis) (drop (past x) ts) (drop (past y) us) →
    (opens_body f b x ≡ false → Alike m (if sameb kinds.the_type t.kind kind.OpenBrace then in_braces f else none) n false (take x.width ts) (take y.width us)) → (is_plain f ≡ true → sameb kinds.the_type t.kind kind.Function ≡ false) →
    Alike m f (suc n) b (x ∷ ts) (y ∷ us)
group_alike m f n b x y t u ts us k e d tw w h o last further inside plain = (
  tw,
  last,
  λ g. adjoin_alike m t u x y ts us w e d (ap (λ (j : Kind). sameb kinds.the_type j kind.Greater) (sym k) ∙ g) h,
  subst (λ (j : Kind). Alike m f n (sameb kinds.the_type j kind.OpenParenthesis) (drop (past x) ts) (drop (past y) us)) (sym k) further,
  λ p. subst (λ (j : Kind). Alike m (if sameb kinds.the_type j kind.OpenBrace then in_braces f else none) n false (take x.width ts) (take y.width us)) (sym k) (inside p),
  λ g. absurd (never (is_some (opens t.kind)) o (sym ((known_opening t.kind).1.1) ∙ ap opens_any (sym k) ∙ g)),
  λ p. ap (λ (j : Kind). sameb kinds.the_type j kind.Function) k ∙ plain p,
)
  where
    never : (a : Bool) → a ≡ true → a ≡ false → ⊥
    never true e d = cc
    never false e d = cc

-- A bracket that closes a group alone is of its kind.

found_none : {A : Type 0} (o : Option A) (otherwise : A) → is_some o ≡ false → unwrap_or o otherwise ≡ otherwise
found_none None otherwise e = refl
found_none (Some x) otherwise e = absurd (cc)

not_closed : (b : Bracket) (around otherwise : List Bracket) → length around < length otherwise → length (unwrap_or (kinds_closed b around) otherwise) ≡ length around → ⊥
not_closed b around otherwise h e = by (is_some (kinds_closed b around)) refl
  where
    by : (s : Bool) → is_some (kinds_closed b around) ≡ s → ⊥
    by true s = omega (arith, found_fewer b around otherwise s, e)
    by false s = omega (arith, h, e, ap (λ (bs : List Bracket). length bs) (found_none (kinds_closed b around) otherwise s))

round_closed : (g : Bracket) (around bs otherwise : List Bracket) → Over (g ∷ around) bs → suc (length around) ≤ length bs → suc (length around) ≤ length otherwise → length (unwrap_or (kinds_closed Round bs) otherwise) ≡ length around → is_same Round g ≡ true
round_closed g around [] otherwise o h z e = absurd (omega (arith, h))
round_closed g around (c ∷ bs) otherwise o h z e = by (λ more len. round_closed g around bs otherwise o.1 more z len) (is_same Round c) refl (is_same Interpolation c) e
  where
    head : c ∷ bs ≡ g ∷ around → is_same Round c ≡ true → is_same Round g ≡ true
    head same r = let first : c ≡ g = cc in ap (λ (b : Bracket). is_same Round b) (sym first) ∙ r

    by : (suc (length around) ≤ length bs → length (unwrap_or (kinds_closed Round bs) otherwise) ≡ length around → is_same Round g ≡ true) → (found : Bool) → is_same Round c ≡ found → (border : Bool) →
        length (unwrap_or (if found then Some bs else (if border then None else kinds_closed Round bs)) otherwise) ≡ length around → is_same Round g ≡ true
    by r true f border len = head (o.0 (omega (arith, len))) f
    by r false f true len = absurd (omega (arith, z, len))
    by r false f false len = elim (cases_lt (length around) (length bs)) [
      | inl more ↦ (r (omega (arith, more)) len)
      | inr few ↦
          (
          let same : length bs ≡ length around = omega (arith, few, h) in
          absurd (not_closed Round bs otherwise (omega (arith, same, z)) (len ∙ sym same))
          )
    ]

-- What comes behind the tokens that are compared: its levels, what comes behind a group that ends there, its first token and its last.
pub record Tails (m : Moves) (f : Freedom) (rest other : List TextToken) (cost : ℕ) (may : Bool → List Bracket → Bool) : Type 0 where
  pub levels : (n : ℕ) (b : Bool) (around : List Bracket) → cost ≤ n → may b around ≡ true → Alike m (freedom_within f around) n b (level around rest) (level around other)
  pub behinds : (n : ℕ) (b c : Bool) (g : Bracket) (around bs : List Bracket) → cost ≤ n → Over around bs → Over (g ∷ around) bs → suc (length around) ≤ length bs → (is_same Round g ≡ true → b ≡ true) → may c bs ≡ true →
      Alike m (freedom_within f around) n b (level_behind around (behind (suc (length around)) bs rest)) (level_behind around (behind (suc (length around)) bs other))
  pub heads : (least : ℕ) (around : List Bracket) → HeadTwins m (window least around rest) (window least around other)
  pub ends : (e d least : ℕ) (c : Bool) (around : List Bracket) → d ≡ m.ends e → least ≤ length around → may c around ≡ true → ends_at d least around other ≡ m.ends (ends_at e least around rest)
  pub calm : (b : Bool) (around : List Bracket) → may false around ≡ true → may b around ≡ true

module _ (m : Moves) (f : Freedom) (rest other : List TextToken) (cost : ℕ) (may : Bool → List Bracket → Bool) (tails : Tails m f rest other cost may) where
  fit_calm : (b : Bool) (around : List Bracket) (ts : List TextToken) → all_may_stand f may false around ts ≡ true → all_may_stand f may b around ts ≡ true
  fit_calm b around [] h = tails.calm b around h
  fit_calm b around (t ∷ ts) h = h

  -- of the tokens behind one that closes no group alone
  fit_next : (b : Bool) (t : TextToken) (around bs : List Bracket) (ts : List TextToken) → kinds_after t.kind around ≡ bs → closes_parameters t.kind around ≡ false → all_may_stand f may (closes_parameters t.kind around) (kinds_after t.kind around) ts ≡ true →
      all_may_stand f may b bs ts ≡ true
  fit_next b t around bs ts e c h =
      fit_calm b bs ts (subst (λ (cs : List Bracket). all_may_stand f may false cs ts ≡ true) e (subst (λ (d : Bool). all_may_stand f may d (kinds_after t.kind around) ts ≡ true) c h))

  heads_twin : (least : ℕ) (around : List Bracket) (ts us : List TextToken) → AllTwins m ts us → HeadTwins m (window least around (ts ++ rest)) (window least around (us ++ other))
  heads_twin least around [] [] a = tails.heads least around
  heads_twin least around [] (u ∷ us) a = absurd a
  heads_twin least around (t ∷ ts) [] a = absurd a
  heads_twin least around (t ∷ ts) (u ∷ us) a =
      subst (λ (ws : List Token). HeadTwins m (window least around (t ∷ (ts ++ rest))) ws) (sym (window_kind t.kind least around u (us ++ other) (sym a.0.kind)))
      (by (falls_below least t.kind around) refl (is_lost t.kind around) refl (heads_twin least (kinds_after t.kind around) ts us a.1))
    where
      by : (e : Bool) → falls_below least t.kind around ≡ e → (l : Bool) → is_lost t.kind around ≡ l → HeadTwins m (window least (kinds_after t.kind around) (ts ++ rest)) (window least (kinds_after t.kind around) (us ++ other)) →
          HeadTwins m (window least around (t ∷ (ts ++ rest))) (window_by t.kind least around u (us ++ other))
      by true e l x r = rw e tt
      by false e true x r = rw (e, x) r
      by false e false x r = rw (e, x) (by_twins m around (opens t.kind) (opens u.kind) t u (ts ++ rest) (us ++ other) a.0)

  pub ends_twin : (e d least : ℕ) (c : Bool) (around : List Bracket) (ts us : List TextToken) → AllTwins m ts us → d ≡ m.ends e → least ≤ length around → all_may_stand f may c around ts ≡ true →
      ends_at d least around (us ++ other) ≡ m.ends (ends_at e least around (ts ++ rest))
  ends_twin e d least c around [] [] a x h fit = tails.ends e d least c around x h fit
  ends_twin e d least c around [] (u ∷ us) a x h fit = absurd a
  ends_twin e d least c around (t ∷ ts) [] a x h fit = absurd a
  ends_twin e d least c around (t ∷ ts) (u ∷ us) a x h fit =
      ends_kind t.kind d least around u (us ++ other) (sym a.0.kind)
      ∙ by (falls_below least t.kind around) refl (suc (length (kinds_after t.kind around)) == least) refl (is_lost t.kind around) refl
      (λ e d x more. ends_twin e d least (closes_parameters t.kind around) (kinds_after t.kind around) ts us a.1 x more (both_right (may_stand f t.kind around) _ fit))
    where
      by : (z : Bool) → falls_below least t.kind around ≡ z → (y : Bool) → (suc (length (kinds_after t.kind around)) == least) ≡ y → (l : Bool) → is_lost t.kind around ≡ l →
          ((e d : ℕ) → d ≡ m.ends e → least ≤ length (kinds_after t.kind around) → ends_at d least (kinds_after t.kind around) (us ++ other) ≡ m.ends (ends_at e least (kinds_after t.kind around) (ts ++ rest))) →
          ends_by t.kind d least around u (us ++ other) ≡ m.ends (ends_at e least around (t ∷ (ts ++ rest)))
      by true z true y l k r = rw (z, y) a.0.end
      by true z false y l k r = rw (z, y) x
      by false z y w true k r = rw (z, k) (r e d x (above_is (length (kinds_after t.kind around)) least z))
      by false z y w false k r = rw (z, k) (r t.end u.end a.0.end (above_is (length (kinds_after t.kind around)) least z))

  -- levels are alike for so many steps
  abbrev AlikeFor : ℕ → Type 0
  AlikeFor n =
      (b : Bool) (around : List Bracket) (ts us : List TextToken) → AllTwins m ts us → all_may_stand f may b around ts ≡ true → length ts + cost ≤ n →
      Alike m (freedom_within f around) n b (level around (ts ++ rest)) (level around (us ++ other))

  pub behinds_twin : (n : ℕ) → AlikeFor n → (b c : Bool) (g : Bracket) (around bs : List Bracket) (ts us : List TextToken) → AllTwins m ts us → all_may_stand f may c bs ts ≡ true → length ts + cost ≤ n →
      Over around bs → Over (g ∷ around) bs → suc (length around) ≤ length bs → (is_same Round g ≡ true → b ≡ true) →
      Alike m (freedom_within f around) n b (level_behind around (behind (suc (length around)) bs (ts ++ rest))) (level_behind around (behind (suc (length around)) bs (us ++ other)))
  behinds_twin n ih b c g around bs [] [] a fit le o p h round = tails.behinds n b c g around bs (omega (arith, le)) o p h round fit
  behinds_twin n ih b c g around bs [] (u ∷ us) a fit le o p h round = absurd a
  behinds_twin n ih b c g around bs (t ∷ ts) [] a fit le o p h round = absurd a
  behinds_twin n ih b c g around bs (t ∷ ts) (u ∷ us) a fit le o p h round =
      subst (λ (x : Option (List TextToken)). Alike m (freedom_within f around) n b (level_behind around (behind (suc (length around)) bs (t ∷ (ts ++ rest)))) (level_behind around x)) (sym (behind_kind t.kind (suc (length around)) bs u (us ++ other) (sym a.0.kind)))
      (by (falls_below (suc (length around)) t.kind bs) refl (suc (length (kinds_after t.kind bs)) == suc (length around)) refl
      (λ more. behinds_twin n ih b (closes_parameters t.kind bs) g around (kinds_after t.kind bs) ts us a.1 fit_rest (omega (arith, le)) (over_after around bs t.kind (omega (arith, h)) o) (over_after (g ∷ around) bs t.kind h p) more round))
    where
      fit_rest : all_may_stand f may (closes_parameters t.kind bs) (kinds_after t.kind bs) ts ≡ true
      fit_rest = both_right (may_stand f t.kind bs) _ fit

      after_round : length (kinds_after t.kind bs) ≡ length around → closes_parameters t.kind bs ≡ true → b ≡ true
      after_round len c =
          let same : t.kind ≡ kind.CloseParenthesis = same_true kinds.the_type tt t.kind kind.CloseParenthesis (both_right (falls_below (length bs) t.kind bs) _ c) in
          round (round_closed g around bs bs p h h (ap (λ (k : Kind). length (kinds_after k bs)) (sym same) ∙ len))

      by : (e : Bool) → falls_below (suc (length around)) t.kind bs ≡ e → (x : Bool) → (suc (length (kinds_after t.kind bs)) == suc (length around)) ≡ x →
          (suc (length around) ≤ length (kinds_after t.kind bs) →
          Alike m (freedom_within f around) n b (level_behind around (behind (suc (length around)) (kinds_after t.kind bs) (ts ++ rest))) (level_behind around (behind (suc (length around)) (kinds_after t.kind bs) (us ++ other)))) →
          Alike m (freedom_within f around) n b (level_behind around (behind (suc (length around)) bs (t ∷ (ts ++ rest)))) (level_behind around (behind_by t.kind (suc (length around)) bs (us ++ other)))
      by true e true x r =
          let len : length (kinds_after t.kind bs) ≡ length around = omega (arith, is_equal (suc (length (kinds_after t.kind bs))) (suc (length around)) x) in
          let same : kinds_after t.kind bs ≡ around = over_same around (kinds_after t.kind bs) (over_after around bs t.kind (omega (arith, h)) o) len in
          let fits : all_may_stand f may b around ts ≡ true = closing (closes_parameters t.kind bs) refl same len in
          rw (e, x) (ih b around ts us a.1 fits (omega (arith, le)))
        where
          closing : (c : Bool) → closes_parameters t.kind bs ≡ c → kinds_after t.kind bs ≡ around → length (kinds_after t.kind bs) ≡ length around → all_may_stand f may b around ts ≡ true
          closing false c same len = fit_next b t bs around ts same c fit_rest
          closing true c same len =
              let on : closes_parameters t.kind bs ≡ b = c ∙ sym (after_round len c) in
              subst (λ (cs : List Bracket). all_may_stand f may b cs ts ≡ true) same (subst (λ (d : Bool). all_may_stand f may d (kinds_after t.kind bs) ts ≡ true) on fit_rest)
      by true e false x r = rw (e, x) (alike_none m (freedom_within f around) n b)
      by false e x y r = rw e (r (above_is (length (kinds_after t.kind bs)) (suc (length around)) e))

  no_parameters : (t : TextToken) (around : List Bracket) → falls_below (length around) t.kind around ≡ false → closes_parameters t.kind around ≡ false
  no_parameters t around e = rw e refl

  step : (n : ℕ) → AlikeFor n → AlikeFor (suc n)
  unfolding past
  step n ih b around [] [] a fit le = tails.levels (suc n) b around (omega (arith, le)) fit
  step n ih b around [] (u ∷ us) a fit le = absurd a
  step n ih b around (t ∷ ts) [] a fit le = absurd a
  step n ih b around (t ∷ ts) (u ∷ us) a fit le =
      subst (λ (ws : List Token). Alike m (freedom_within f around) (suc n) b (level around (t ∷ (ts ++ rest))) ws) (sym (window_kind t.kind (length around) around u (us ++ other) (sym a.0.kind)))
      (by (falls_below (length around) t.kind around) refl (is_lost t.kind around) refl (opens t.kind) refl (λ fits. step n ih b around ts us a.1 fits (omega (arith, le))))
    where
      fit_rest : all_may_stand f may (closes_parameters t.kind around) (kinds_after t.kind around) ts ≡ true
      fit_rest = both_right (may_stand f t.kind around) _ fit

      plain : is_plain (freedom_within f around) ≡ true → sameb kinds.the_type t.kind kind.Function ≡ false
      plain p = not_both (is_plain (freedom_within f around)) _ (both_left (may_stand f t.kind around) _ fit) p

      opened : (g : Bracket) → opens t.kind ≡ Some g → falls_below (length around) t.kind around ≡ false →
          Alike m (freedom_within f around) (suc n) b (read_by around (Some g) t (ts ++ rest) ∷ window (length around) (g ∷ around) (ts ++ rest)) (read_by around (Some g) u (us ++ other) ∷ window (length around) (g ∷ around) (us ++ other))
      opened g o e =
          let x : Token = read_by around (Some g) t (ts ++ rest) in
          let y : Token = read_by around (Some g) u (us ++ other) in
          let one : List Token = window (length around) (g ∷ around) (ts ++ rest) in
          let two : List Token = window (length around) (g ∷ around) (us ++ other) in
          let after : kinds_after t.kind around ≡ g ∷ around = opener_after t.kind g around o in
          let fits : (c : Bool) → all_may_stand f may c (g ∷ around) ts ≡ true = λ c. fit_next c t around (g ∷ around) ts after (no_parameters t around e) fit_rest in
          let last : last_end (y ∷ take (past y) two) ≡ m.ends (last_end (x ∷ take (past x) one)) =
          last_window (length around) (suc (length around)) (g ∷ around) (us ++ other) y (omega arith) (omega arith)
          ∙ ends_twin t.end u.end (suc (length around)) false (g ∷ around) ts us a.1 a.0.end (omega arith) (fits false)
          ∙ ap (λ (e : ℕ). m.ends e) (sym (last_window (length around) (suc (length around)) (g ∷ around) (ts ++ rest) x (omega arith) (omega arith))) in
          let over : Over around (g ∷ around) = over_up around around g (omega arith) (over_itself around) in
          let is_round : sameb kinds.the_type t.kind kind.OpenParenthesis ≡ is_same Round g = (known_opening t.kind).1.0 ∙ ap (λ (p : Option Bracket). option_map_or (λ b. is_same Round b) p false) o in
          let is_brace : sameb kinds.the_type t.kind kind.OpenBrace ≡ is_same Curly g = (known_opening t.kind).0 ∙ ap (λ (p : Option Bracket). option_map_or (λ b. is_same Curly b) p false) o in
          let open_group = sameb kinds.the_type t.kind kind.OpenParenthesis in
          let tail = behinds_twin n ih open_group false g around (g ∷ around) ts us a.1 (fits false) (omega (arith, le)) over (over_itself (g ∷ around)) (omega arith) (λ r. is_round ∙ r) in
          let further : Alike m (freedom_within f around) n open_group (drop (past x) one) (drop (past y) two) =
          subst (λ (ws : List Token). Alike m (freedom_within f around) n open_group ws (drop (past y) two)) (sym (drop_window around (g ∷ around) (ts ++ rest) over (omega arith)))
          (subst (λ (ws : List Token). Alike m (freedom_within f around) n open_group (level_behind around (behind (suc (length around)) (g ∷ around) (ts ++ rest))) ws) (sym (drop_window around (g ∷ around) (us ++ other) over (omega arith))) tail) in
          let within = ih false (g ∷ around) ts us a.1 (fits false) (omega (arith, le)) in
          let inside : Alike m (if sameb kinds.the_type t.kind kind.OpenBrace then in_braces (freedom_within f around) else none) n false (take x.width one) (take y.width two) =
          subst (λ (h : Freedom). Alike m h n false (take x.width one) (take y.width two)) (braces g ∙ ap (λ (c : Bool). if c then in_braces (freedom_within f around) else none) (sym is_brace))
          (subst (λ (ws : List Token). Alike m (freedom_within f (g ∷ around)) n false ws (take y.width two)) (sym (take_window (length around) (suc (length around)) (g ∷ around) (ts ++ rest) (omega arith)))
          (subst (λ (ws : List Token). Alike m (freedom_within f (g ∷ around)) n false (level (g ∷ around) (ts ++ rest)) ws) (sym (take_window (length around) (suc (length around)) (g ∷ around) (us ++ other) (omega arith))) within)) in
          group_alike m (freedom_within f around) n b x y t u one two refl refl refl (by_twins m around (Some g) (Some g) t u (ts ++ rest) (us ++ other) a.0) a.0 (heads_twin (length around) (g ∷ around) ts us a.1) (ap (λ (p : Option Bracket). is_some p) o) last further
          (λ p. inside) plain
        where
          braces : (g : Bracket) → freedom_within f (g ∷ around) ≡ (if is_same Curly g then in_braces (freedom_within f around) else none)
          braces Round = refl
          braces Square = refl
          braces Curly = refl
          braces Interpolation = refl

      whole : (bs : List Bracket) (v w : Token) → falls_below (length around) t.kind around ≡ false → is_lost t.kind around ≡ false → kinds_after t.kind around ≡ bs → read_in around t (ts ++ rest) ≡ v → read_in around u (us ++ other) ≡ w →
          Alike m (freedom_within f around) (suc n) b (v ∷ window (length around) bs (ts ++ rest)) (w ∷ window (length around) bs (us ++ other)) →
          Alike m (freedom_within f around) (suc n) b (level around (t ∷ (ts ++ rest))) (window_by t.kind (length around) around u (us ++ other))
      whole bs v w e x same one two h =
          let left : level around (t ∷ (ts ++ rest)) ≡ v ∷ window (length around) bs (ts ++ rest) = rw (e, x) (ap (λ (z : Token). z ∷ window (length around) (kinds_after t.kind around) (ts ++ rest)) one ∙ ap (λ (cs : List Bracket). v ∷ window (length around) cs (ts ++ rest)) same) in
          let right : window_by t.kind (length around) around u (us ++ other) ≡ w ∷ window (length around) bs (us ++ other) = rw (e, x) (ap (λ (z : Token). z ∷ window (length around) (kinds_after t.kind around) (us ++ other)) two ∙ ap (λ (cs : List Bracket). w ∷ window (length around) cs (us ++ other)) same) in
          subst (λ (ws : List Token). Alike m (freedom_within f around) (suc n) b ws (window_by t.kind (length around) around u (us ++ other))) (sym left)
          (subst (λ (ws : List Token). Alike m (freedom_within f around) (suc n) b (v ∷ window (length around) bs (ts ++ rest)) ws) (sym right) h)

      by : (e : Bool) → falls_below (length around) t.kind around ≡ e → (l : Bool) → is_lost t.kind around ≡ l → (o : Option Bracket) → opens t.kind ≡ o →
          (all_may_stand f may b around ts ≡ true → Alike m (freedom_within f around) (suc n) b (level around (ts ++ rest)) (level around (us ++ other))) →
          Alike m (freedom_within f around) (suc n) b (level around (t ∷ (ts ++ rest))) (window_by t.kind (length around) around u (us ++ other))
      by true e l x o y r = rw e tt
      by false e true x o y r =
          let same : kinds_after t.kind around ≡ around = lost_same t.kind around x in
          rw (e, x) (subst (λ (bs : List Bracket). Alike m (freedom_within f around) (suc n) b (window (length around) bs (ts ++ rest)) (window (length around) bs (us ++ other))) (sym same) (r (fit_next b t around around ts same (no_parameters t around e) fit_rest)))
      by false e false x None y r =
          let same : kinds_after t.kind around ≡ around = plain_same t.kind around y x e in
          let second : opens u.kind ≡ None = ap opens (sym a.0.kind) ∙ y in
          let one : read_in around t (ts ++ rest) ≡ ungrouped t = ap (λ (p : Option Bracket). read_by around p t (ts ++ rest)) y in
          let two : read_in around u (us ++ other) ≡ ungrouped u = ap (λ (p : Option Bracket). read_by around p u (us ++ other)) second in
          let made : Alike m (freedom_within f around) (suc n) b (ungrouped t ∷ level around (ts ++ rest)) (ungrouped u ∷ level around (us ++ other)) =
          plain_alike m (freedom_within f around) n b t u (level around (ts ++ rest)) (level around (us ++ other)) a.0 (heads_twin (length around) around ts us a.1)
          (λ c. ih c around ts us a.1 (fit_next c t around around ts same (no_parameters t around e) fit_rest) (omega (arith, le))) plain in
          whole around (ungrouped t) (ungrouped u) e x same one two made
      by false e false x (Some g) y r =
          let same : kinds_after t.kind around ≡ g ∷ around = opener_after t.kind g around y in
          let second : opens u.kind ≡ Some g = ap opens (sym a.0.kind) ∙ y in
          whole (g ∷ around) (read_by around (Some g) t (ts ++ rest)) (read_by around (Some g) u (us ++ other)) e x same (ap (λ (p : Option Bracket). read_by around p t (ts ++ rest)) y) (ap (λ (p : Option Bracket). read_by around p u (us ++ other)) second) (opened g y e)

  pub all_levels : (n : ℕ) → AlikeFor n
  all_levels zero b around [] [] a fit le = tails.levels zero b around (omega (arith, le)) fit
  all_levels zero b around [] (u ∷ us) a fit le = absurd a
  all_levels zero b around (t ∷ ts) us a fit le = absurd (omega (arith, le))
  all_levels (suc n) b around ts us a fit le = step n (all_levels n) b around ts us a fit le
