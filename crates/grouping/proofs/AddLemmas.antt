-- One token more, as the code adds it.
use Rattle.std.proofs.Common.{◌≡◌, ℕ, ◌+◌, ◌<◌, List, [], ◌∷◌, ◌++◌, length, Some, None, true, false, is_some, sym, ap, subst, ◌∙◌, arith}
use Rattle.dart_tokens.specs.declared.token.Token.{Token}
use Rattle.dart_tokens.specs.declared.grouped_token.GroupedToken.{GroupedToken}
use Rattle.dart_tokens.specs.declared.tokens.UnopenedBracket.{UnopenedBracket}
use Rattle.dart_tokens.specs.Groups.{Bracket, Open, opens, closes, nearest, after_closing}
use Rattle.dart_tokens.specs.Stack.{is_closable}
use Rattle.dart_tokens.specs.Read.{all_tokens, ungrouped}
use Rattle.grouping.specs.SoFar.{closed_at, ended_at, IsSoFar}
use Rattle.grouping.proofs.StepLemmas.{plain_more, opened_more, closed_more, unopened_more}
use Rattle.grouping.proofs.WholeLemmas.{all_so_far, all_counted, IsWhole, whole}

-- One token more was added to what was found so far.
pub record IsAdded (before : List Token) (t : Token) (read : List GroupedToken) (unopened : List UnopenedBracket) (around : List Open) : Type 0 where
  pub all : all_tokens read unopened ≡ before ++ t ∷ []
  pub so_far : IsSoFar (all_tokens read unopened) read unopened around

added : (before : List Token) (t : Token) (read : List GroupedToken) (unopened : List UnopenedBracket) (around : List Open) → IsSoFar (before ++ t ∷ []) read unopened around → IsAdded before t read unopened around
added before t read unopened around so_far =
    let all : all_tokens read unopened ≡ before ++ t ∷ [] = all_so_far (before ++ t ∷ []) read unopened around so_far in
    record { all = all; so_far = subst (λ (ts : List Token). IsSoFar ts read unopened around) (sym all) so_far }

-- there are no more tokens read than tokens
pub few_read : (tokens : List Token) (read : List GroupedToken) (unopened : List UnopenedBracket) (most : ℕ) → all_tokens read unopened ≡ tokens → length tokens < most → length read < most
few_read tokens read unopened most all few =
    let same : length (all_tokens read unopened) ≡ length tokens = ap (λ (ts : List Token). length ts) all in
    let count : length (all_tokens read unopened) ≡ length read + length unopened = all_counted read unopened in
    omega (arith, same, count, few)

module _ (tokens : List Token) (t : Token) (read read' : List GroupedToken) (unopened unopened' : List UnopenedBracket) (around around' : List Open) (view : all_tokens read unopened ≡ tokens)
    (so_far : IsSoFar (all_tokens read unopened) read unopened around) where
  here : IsSoFar tokens read unopened around
  here = subst (λ (ts : List Token). IsSoFar ts read unopened around) view so_far

  -- a token that is no bracket
  pub plain_added : opens t.kind ≡ None → closes t.kind ≡ None → read' ≡ read ++ ungrouped t ∷ [] → IsAdded tokens t read' unopened around
  plain_added o c e =
      added tokens t read' unopened around (subst (λ (xs : List GroupedToken). IsSoFar (tokens ++ t ∷ []) xs unopened around) (sym e) (plain_more tokens t read unopened around o c here))

  -- one that opens a group
  pub opened_added : (bracket : Bracket) (place : ℕ) → opens t.kind ≡ Some bracket → place ≡ length read → read' ≡ read ++ ungrouped t ∷ [] →
      around' ≡ record { bracket = bracket; place = place } ∷ around → IsAdded tokens t read' unopened around'
  opened_added bracket place o n e a =
      let shown : IsSoFar (tokens ++ t ∷ []) (read ++ ungrouped t ∷ []) unopened (record { bracket = bracket; place = place } ∷ around)
      = subst (λ (k : ℕ). IsSoFar (tokens ++ t ∷ []) (read ++ ungrouped t ∷ []) unopened (record { bracket = bracket; place = k } ∷ around)) (sym n) (opened_more tokens t read unopened around bracket o here) in
      added tokens t read' unopened around'
      (subst (λ (xs : List GroupedToken). IsSoFar (tokens ++ t ∷ []) xs unopened around') (sym e)
      (subst (λ (os : List Open). IsSoFar (tokens ++ t ∷ []) (read ++ ungrouped t ∷ []) unopened os) (sym a) shown))

  -- one that closes a group
  pub closed_added : (bracket : Bracket) (place : ℕ) → opens t.kind ≡ None → closes t.kind ≡ Some bracket → is_closable bracket around ≡ true → place ≡ length read →
      read' ≡ closed_at place bracket around (read ++ ungrouped t ∷ []) → around' ≡ after_closing (Some bracket) around → IsAdded tokens t read' unopened around'
  closed_added bracket place o c can n e a =
      let shown : IsSoFar (tokens ++ t ∷ []) (closed_at place bracket around (read ++ ungrouped t ∷ [])) unopened (after_closing (Some bracket) around)
      = subst (λ (k : ℕ). IsSoFar (tokens ++ t ∷ []) (closed_at k bracket around (read ++ ungrouped t ∷ [])) unopened (after_closing (Some bracket) around)) (sym n)
      (closed_more tokens t read unopened around bracket o c can here) in
      added tokens t read' unopened around'
      (subst (λ (xs : List GroupedToken). IsSoFar (tokens ++ t ∷ []) xs unopened around') (sym e)
      (subst (λ (os : List Open). IsSoFar (tokens ++ t ∷ []) (closed_at place bracket around (read ++ ungrouped t ∷ [])) unopened os) (sym a) shown))

  -- one that would close a group, and closes none
  pub unopened_added : (bracket : Bracket) (place : ℕ) → opens t.kind ≡ None → closes t.kind ≡ Some bracket → is_some (nearest bracket around) ≡ false → place ≡ length read →
      unopened' ≡ unopened ++ record { before = place; token = t } ∷ [] → IsAdded tokens t read unopened' around
  unopened_added bracket place o c cannot n e =
      let shown : IsSoFar (tokens ++ t ∷ []) read (unopened ++ record { before = place; token = t } ∷ []) around
      = subst (λ (k : ℕ). IsSoFar (tokens ++ t ∷ []) read (unopened ++ record { before = k; token = t } ∷ []) around) (sym n) (unopened_more tokens t read unopened around bracket o c cannot here) in
      added tokens t read unopened' around (subst (λ (bs : List UnopenedBracket). IsSoFar (tokens ++ t ∷ []) read bs around) (sym e) shown)

-- what is found when all tokens have come, as the code makes it
pub whole_ended : (tokens : List Token) (read ended : List GroupedToken) (unopened : List UnopenedBracket) (around : List Open) (count : ℕ) → all_tokens read unopened ≡ tokens →
    IsSoFar (all_tokens read unopened) read unopened around → count ≡ length read → ended ≡ ended_at count around read → IsWhole tokens ended unopened
whole_ended tokens read ended unopened around count view so_far n e =
    subst (λ (xs : List GroupedToken). IsWhole tokens xs unopened) (sym (e ∙ ap (λ (k : ℕ). ended_at k around read) n))
    (whole tokens read unopened around (subst (λ (ts : List Token). IsSoFar ts read unopened around) view so_far))
