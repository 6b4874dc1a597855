-- All tokens together.
use Rattle.std.proofs.Common.{◌≡◌, ℕ, suc, ◌+◌, ◌-◌, ◌≤◌, min, Bool, true, false, List, [], ◌∷◌, ◌++◌, map, take, drop, length, if◌then◌else◌, is_some, refl, sym, ap, ◌∙◌, arith, length-append, length-take, length-drop}
use Rattle.std.proofs.lemmas.List.{append-nil, take-map, drop-map, length-map}
use Rattle.dart_tokens.specs.declared.token.Token.{Token}
use Rattle.dart_tokens.specs.declared.grouped_token.GroupedToken.{GroupedToken}
use Rattle.dart_tokens.specs.declared.tokens.UnopenedBracket.{UnopenedBracket}
use Rattle.dart_tokens.specs.Groups.{Bracket, Open, opens}
use Rattle.dart_tokens.specs.Read.{without_group, all_from, all_tokens, grammar_tokens, ungrouped}
use Rattle.grouping.specs.Ahead.{kinds_of, kinds_after, is_left_out, width_ahead, is_closed_ahead, sized, sized_token, read_ahead, unopened_ahead}
use Rattle.grouping.specs.SoFar.{sized_ahead, ended_at, IsSoFar}
use Rattle.grouping.proofs.SizeLemmas.{same_sized_ahead, ended_ahead}
use Rattle.grouping.proofs.ReadLemmas.{grammar_read}

-- so many tokens are read before the first of these brackets, or more
abbrev pub FirstFrom : ℕ → List UnopenedBracket → Type 0
FirstFrom n [] = Unit {0}
FirstFrom n (b ∷ bs) = n ≤ b.before

first_sooner : (n : ℕ) (bs : List UnopenedBracket) → FirstFrom (suc n) bs → FirstFrom n bs
first_sooner n [] f = tt
first_sooner n (b ∷ bs) f = omega (arith, f)

pub first_from : (n : ℕ) (around : List Bracket) (ts : List Token) → FirstFrom n (unopened_ahead n around ts)
first_from n around [] = tt
first_from n around (t ∷ ts) = by (is_left_out t.kind around) (first_from (suc n) (kinds_after t.kind around) ts)
  where
    by : (b : Bool) → FirstFrom (suc n) (unopened_ahead (suc n) (kinds_after t.kind around) ts) →
        FirstFrom n (if b then record { before = n; token = t } ∷ unopened_ahead n (kinds_after t.kind around) ts else unopened_ahead (suc n) (kinds_after t.kind around) ts)
    by true rest = omega arith
    by false rest = first_sooner n (unopened_ahead (suc n) (kinds_after t.kind around) ts) rest

read_first : (n : ℕ) (x : GroupedToken) (xs : List GroupedToken) (bs : List UnopenedBracket) → FirstFrom (suc n) bs → all_from n (x ∷ xs) bs ≡ without_group x ∷ all_from (suc n) xs bs
read_first n x xs [] f = refl
read_first n x xs (b ∷ bs) f = let d : b.before - n ≡ suc (b.before - suc n) = omega (arith, f) in rw d refl

bracket_first : (n : ℕ) (t : Token) (xs : List GroupedToken) (bs : List UnopenedBracket) → all_from n xs (record { before = n; token = t } ∷ bs) ≡ t ∷ all_from n xs bs
bracket_first n t xs bs = let d : n - n ≡ 0 = omega arith in rw d refl

same_token : (t : Token) (around : List Bracket) (ts : List Token) → without_group (sized_token t around ts) ≡ t
same_token t around ts = by (is_some (opens t.kind))
  where
    by : (b : Bool) →
        without_group
        (if b then sized (ungrouped t) (width_ahead (length around) (kinds_after t.kind around) ts) (is_closed_ahead (length around) (kinds_after t.kind around) ts) else ungrouped t)
        ≡ t
    by true = refl
    by false = refl

together : (n : ℕ) (around : List Bracket) (ts : List Token) → all_from n (read_ahead around ts) (unopened_ahead n around ts) ≡ ts
together n around [] = refl
together n around (t ∷ ts) = by (is_left_out t.kind around) (λ k. together k (kinds_after t.kind around) ts)
  where
    by : (b : Bool) → ((k : ℕ) → all_from k (read_ahead (kinds_after t.kind around) ts) (unopened_ahead k (kinds_after t.kind around) ts) ≡ ts) →
        all_from n (if b then read_ahead (kinds_after t.kind around) ts else sized_token t around ts ∷ read_ahead (kinds_after t.kind around) ts)
        (if b then record { before = n; token = t } ∷ unopened_ahead n (kinds_after t.kind around) ts else unopened_ahead (suc n) (kinds_after t.kind around) ts)
        ≡ t ∷ ts
    by true rest = bracket_first n t _ _ ∙ ap (λ (us : List Token). t ∷ us) (rest n)
    by false rest =
        read_first n (sized_token t around ts) _ _ (first_from (suc n) (kinds_after t.kind around) ts)
        ∙ ap (λ (us : List Token). without_group (sized_token t around ts) ∷ us) (rest (suc n)) ∙ ap (λ (u : Token). u ∷ ts) (same_token t around ts)

-- the groups of tokens don't matter
same_all : (n : ℕ) (xs ys : List GroupedToken) (bs : List UnopenedBracket) → map without_group xs ≡ map without_group ys → all_from n xs bs ≡ all_from n ys bs
same_all n xs ys [] e = e
same_all n xs ys (b ∷ bs) e =
    let k : ℕ = b.before - n in
    let first : map without_group (take k xs) ≡ map without_group (take k ys)
    = sym (take-map without_group k xs) ∙ ap (λ (us : List Token). take k us) e ∙ take-map without_group k ys in
    let others : map without_group (drop k xs) ≡ map without_group (drop k ys)
    = sym (drop-map without_group k xs) ∙ ap (λ (us : List Token). drop k us) e ∙ drop-map without_group k ys in
    rw (first, same_all b.before (drop k xs) (drop k ys) bs others) refl

-- what was found so far are the tokens so far
pub all_so_far : (tokens : List Token) (read : List GroupedToken) (unopened : List UnopenedBracket) (around : List Open) → IsSoFar tokens read unopened around → all_tokens read unopened ≡ tokens
all_so_far tokens read unopened around so_far =
    let sizes : List GroupedToken = sized_ahead (length read) (kinds_of around) [] around read in
    let nothing : tokens ++ [] ≡ tokens = append-nil tokens in
    let is_read : read_ahead [] tokens ≡ sizes = ap (λ (ts : List Token). read_ahead [] ts) (sym nothing) ∙ so_far.all_read [] ∙ append-nil sizes in
    let is_unopened : unopened_ahead 0 [] tokens ≡ unopened = ap (λ (ts : List Token). unopened_ahead 0 [] ts) (sym nothing) ∙ so_far.all_unopened [] ∙ append-nil unopened in
    same_all 0 read sizes unopened (sym (same_sized_ahead (length read) (kinds_of around) [] around read)) ∙ ap (λ (xs : List GroupedToken). all_tokens xs unopened) (sym is_read)
    ∙ ap (λ (bs : List UnopenedBracket). all_tokens (read_ahead [] tokens) bs) (sym is_unopened) ∙ together 0 [] tokens

-- there are as many as are read and as are not
all_count : (n : ℕ) (xs : List GroupedToken) (bs : List UnopenedBracket) → length (all_from n xs bs) ≡ length xs + length bs
all_count n xs [] = length-map xs without_group ∙ (let e : length xs ≡ length xs + 0 = omega arith in e)
all_count n xs (b ∷ bs) =
    let k : ℕ = b.before - n in
    let first : length (map without_group (take k xs)) ≡ min k (length xs) = length-map (take k xs) without_group ∙ length-take k xs in
    let others : length (drop k xs) ≡ length xs - k = length-drop k xs in
    let rest : length (all_from b.before (drop k xs) bs) ≡ length (drop k xs) + length bs = all_count b.before (drop k xs) bs in
    length-append (map without_group (take k xs)) (b.token ∷ all_from b.before (drop k xs) bs) ∙ omega (arith, first, others, rest)

pub all_counted : (read : List GroupedToken) (unopened : List UnopenedBracket) → length (all_tokens read unopened) ≡ length read + length unopened
all_counted read unopened = all_count 0 read unopened

-- What is found when all tokens have come.
pub record IsWhole (tokens : List Token) (read : List GroupedToken) (unopened : List UnopenedBracket) : Type 0 where
  pub read_is : read ≡ read_ahead [] tokens
  pub unopened_is : unopened ≡ unopened_ahead 0 [] tokens
  pub grammar : read ≡ grammar_tokens tokens
  pub all : all_tokens read unopened ≡ tokens

pub whole : (tokens : List Token) (read : List GroupedToken) (unopened : List UnopenedBracket) (around : List Open) → IsSoFar tokens read unopened around →
    IsWhole tokens (ended_at (length read) around read) unopened
whole tokens read unopened around so_far =
    let ended : sized_ahead (length read) (kinds_of around) [] around read ≡ ended_at (length read) around read = ended_ahead (length read) (kinds_of around) around read in
    let nothing : tokens ++ [] ≡ tokens = append-nil tokens in
    let is_read : read_ahead [] tokens ≡ ended_at (length read) around read
    = ap (λ (ts : List Token). read_ahead [] ts) (sym nothing) ∙ so_far.all_read [] ∙ append-nil _ ∙ ended in
    let is_unopened : unopened_ahead 0 [] tokens ≡ unopened = ap (λ (ts : List Token). unopened_ahead 0 [] ts) (sym nothing) ∙ so_far.all_unopened [] ∙ append-nil unopened in
    record {
      read_is = sym is_read;
      unopened_is = sym is_unopened;
      grammar = sym is_read ∙ sym (grammar_read tokens);
      all =
          ap (λ (xs : List GroupedToken). all_tokens xs unopened) (sym is_read) ∙ ap (λ (bs : List UnopenedBracket). all_tokens (read_ahead [] tokens) bs) (sym is_unopened)
          ∙ together 0 [] tokens;
    }
