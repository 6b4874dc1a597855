-- Lists of which the first part lies in pages of 32.
use Rattle.std.proofs.Common.{◌≡◌, ℕ, zero, suc, ◌+◌, ◌-◌, ◌*◌, ◌/◌, ◌%◌, ◌<◌, ◌≤◌, List, [], ◌∷◌, ◌++◌, length, get_or, set, take, refl, sym, ap, ◌∙◌, arith, All}
use Rattle.std.specs.Prelude.{min}
use Rattle.std.specs.List.{flat_map}
use Rattle.std.proofs.lemmas.Nat.{div-add-mod'}
use Rattle.std.proofs.lemmas.List.{get_or_append_left, get_or-append_right, length-append, append_assoc, append-nil, set-append_left, set-append_right}
use Rattle.std.proofs.lemmas.List.Elements.{All-head, All-tail}
use Rattle.std.proofs.Math.Seq.{take-append-add, take-suc}
use Rattle.std.proofs.lemmas.Grind.{flat_map-append}

module _ {X : Type 0} where
  -- a page is full
  abbrev pub IsFull : List X → Type 0
  IsFull page = length page ≡ 32

  -- what lies in pages
  abbrev pub paged : List (List X) → List X
  paged pages = flat_map (λ page. page) pages

  -- a list of length 0
  length-zero : (xs : List X) → length xs ≡ 0 → xs ≡ []
  length-zero [] none = refl
  length-zero (x ∷ xs) none = absurd (omega (arith, none))

  -- as many from the front, where the list has no more
  pub take_min : (i n : ℕ) (xs : List X) → i ≤ n → i ≤ length xs → min n (length xs) ≤ i → take i xs ≡ take n xs
  take_min zero zero xs le within most = refl
  take_min zero (suc n) [] le within most = refl
  take_min zero (suc n) (x ∷ xs) le within most = absurd (omega (arith, most))
  take_min (suc i) zero xs le within most = absurd (omega (arith, le))
  take_min (suc i) (suc n) [] le within most = absurd (omega (arith, within))
  take_min (suc i) (suc n) (x ∷ xs) le within most = ap (λ l. x ∷ l) (take_min i n xs (omega (arith, le)) (omega (arith, within)) (omega (arith, most)))

  -- one page more
  pub paged-more : (pages : List (List X)) (i : ℕ) (page : List X) → i < length pages → page ≡ get_or pages i page → paged (take (suc i) pages) ≡ paged (take i pages) ++ page
  paged-more pages i page within is =
      ap (λ (l : List (List X)). paged l) (take-suc pages i page within)
      ∙ flat_map-append (λ (p : List X). p) (take i pages) (get_or pages i page ∷ [])
      ∙ ap (λ (p : List X). paged (take i pages) ++ p) (append-nil (get_or pages i page) ∙ sym is)

  -- how much that is
  pub pages_length : (pages : List (List X)) → All IsFull pages → length (paged pages) ≡ length pages * 32
  pages_length [] all = refl
  pages_length (p ∷ ps) all =
      let head : length p ≡ 32 = All-head IsFull p ps all in
      let rest : length (paged ps) ≡ length ps * 32 = pages_length ps (All-tail IsFull p ps all) in
      let both : length (p ++ paged ps) ≡ length p + length (paged ps) = length-append p (paged ps) in
      omega arith

  -- with what lies behind
  pub all_length : (pages : List (List X)) (last : List X) → All IsFull pages → length (paged pages ++ last) ≡ length pages * 32 + length last
  all_length pages last all =
      let first : length (paged pages) ≡ length pages * 32 = pages_length pages all in
      let both : length (paged pages ++ last) ≡ length (paged pages) + length last = length-append (paged pages) last in
      omega arith

  -- what stands in a page
  pub in_page : (pages : List (List X)) (last : List X) (number rest : ℕ) (d : X) → All IsFull pages → rest < 32 → number < length pages → get_or (paged pages ++ last) (number * 32 + rest) d ≡ get_or (get_or pages number []) rest d
  in_page [] last number rest d all lt within = absurd (omega arith)
  in_page (p ∷ ps) last zero rest d all lt within =
      let head : length p ≡ 32 = All-head IsFull p ps all in
      let both : length (p ++ paged ps) ≡ length p + length (paged ps) = length-append p (paged ps) in
      let place : 0 * 32 + rest ≡ rest = omega arith in
      ap (λ k. get_or ((p ++ paged ps) ++ last) k d) place
      ∙ get_or_append_left (p ++ paged ps) last d rest (omega arith)
      ∙ get_or_append_left p (paged ps) d rest (omega arith)
  in_page (p ∷ ps) last (suc number) rest d all lt within =
      let head : length p ≡ 32 = All-head IsFull p ps all in
      let place : (suc number * 32 + rest) - 32 ≡ number * 32 + rest = omega arith in
      ap (λ l. get_or l (suc number * 32 + rest) d) (append_assoc p (paged ps) last)
      ∙ get_or-append_right p (paged ps ++ last) 32 (suc number * 32 + rest) d head (omega arith)
      ∙ ap (λ k. get_or (paged ps ++ last) k d) place
      ∙ in_page ps last number rest d (All-tail IsFull p ps all) lt (omega arith)

  -- what stands behind the pages
  pub behind_pages : (pages : List (List X)) (last : List X) (place : ℕ) (d : X) → All IsFull pages → length pages * 32 ≤ place → get_or (paged pages ++ last) place d ≡ get_or last (place - length pages * 32) d
  behind_pages pages last place d all le = get_or-append_right (paged pages) last (length pages * 32) place d (pages_length pages all) le

  -- a write in a page
  pub set_in_page : (pages : List (List X)) (last : List X) (number rest : ℕ) (x : X) → All IsFull pages → rest < 32 → number < length pages → set (paged pages ++ last) (number * 32 + rest) x ≡ paged (set pages number (set (get_or pages number []) rest x)) ++ last
  set_in_page [] last number rest x all lt within = absurd (omega arith)
  set_in_page (p ∷ ps) last zero rest x all lt within =
      let head : length p ≡ 32 = All-head IsFull p ps all in
      let both : length (p ++ paged ps) ≡ length p + length (paged ps) = length-append p (paged ps) in
      let place : 0 * 32 + rest ≡ rest = omega arith in
      ap (λ k. set ((p ++ paged ps) ++ last) k x) place
      ∙ set-append_left (p ++ paged ps) last rest x (omega arith)
      ∙ ap (λ l. l ++ last) (set-append_left p (paged ps) rest x (omega arith))
  set_in_page (p ∷ ps) last (suc number) rest x all lt within =
      let head : length p ≡ 32 = All-head IsFull p ps all in
      let place : (suc number * 32 + rest) - 32 ≡ number * 32 + rest = omega arith in
      ap (λ l. set l (suc number * 32 + rest) x) (append_assoc p (paged ps) last)
      ∙ set-append_right p (paged ps ++ last) 32 (suc number * 32 + rest) x head (omega arith)
      ∙ ap (λ k. p ++ set (paged ps ++ last) k x) place
      ∙ ap (λ l. p ++ l) (set_in_page ps last number rest x (All-tail IsFull p ps all) lt (omega arith))
      ∙ sym (append_assoc p (paged (set ps number (set (get_or ps number []) rest x))) last)

  -- a write behind the pages
  pub set_behind : (pages : List (List X)) (last : List X) (place : ℕ) (x : X) → All IsFull pages → length pages * 32 ≤ place → set (paged pages ++ last) place x ≡ paged pages ++ set last (place - length pages * 32) x
  set_behind pages last place x all le = set-append_right (paged pages) last (length pages * 32) place x (pages_length pages all) le

  -- without the last, of those behind
  pub take_behind : (first last : List X) → 0 < length last → first ++ take (length last - 1) last ≡ take (length (first ++ last) - 1) (first ++ last)
  take_behind first last some =
      let both : length (first ++ last) ≡ length first + length last = length-append first last in
      let place : length first + (length last - 1) ≡ length (first ++ last) - 1 = omega arith in
      sym (take-append-add first last (length last - 1)) ∙ ap (λ k. take k (first ++ last)) place

  -- without the last, where none are behind
  pub take_page : (pages : List (List X)) (k : ℕ) → All IsFull pages → length pages ≡ suc k → paged (take k pages) ++ take (length (get_or pages k []) - 1) (get_or pages k []) ≡ take (length (paged pages) - 1) (paged pages)
  take_page [] k all count = absurd (omega (arith, count))
  take_page (p ∷ []) zero all count = ap (λ l. take (length l - 1) l) (sym (append-nil p))
  take_page (p ∷ q ∷ ps) zero all count = absurd (omega (arith, count))
  take_page (p ∷ []) (suc k) all count = absurd (omega (arith, count))
  take_page (p ∷ q ∷ ps) (suc k) all count =
      let rest : All IsFull (q ∷ ps) = All-tail IsFull p (q ∷ ps) all in
      let many : length (paged (q ∷ ps)) ≡ length (q ∷ ps) * 32 = pages_length (q ∷ ps) rest in
      append_assoc p (paged (take k (q ∷ ps))) (take (length (get_or (q ∷ ps) k []) - 1) (get_or (q ∷ ps) k []))
      ∙ ap (λ l. p ++ l) (take_page (q ∷ ps) k rest (omega (arith, count)))
      ∙ take_behind p (paged (q ∷ ps)) (omega arith)

  -- of a list that is all of them
  module _ (pages : List (List X)) (last listed : List X) (all : All IsFull pages) (same : paged pages ++ last ≡ listed) where
    -- how long it is
    pub listed_length : (n m : ℕ) → n ≡ length pages → m ≡ length last → n * 32 + m ≡ length listed
    listed_length n m ns ms =
        let count : length (paged pages ++ last) ≡ length pages * 32 + length last = all_length pages last all in
        let here : length (paged pages ++ last) ≡ length listed = ap (λ (l : List X). length l) same in
        omega arith

    -- without the last, of those behind
    pub popped : 0 < length last → paged pages ++ take (length last - 1) last ≡ take (length listed - 1) listed
    popped some = take_behind (paged pages) last some ∙ ap (λ (l : List X). take (length l - 1) l) same

    -- and of the last page, where none are behind
    pub popped_page : (before : List (List X)) (page : List X) → length last ≡ 0 → 0 < length pages → before ≡ take (length pages - 1) pages → page ≡ get_or pages (length pages - 1) [] → paged before ++ take (length page - 1) page ≡ take (length listed - 1) listed
    popped_page before page none some befores is =
        let count : length pages ≡ suc (length pages - 1) = omega arith in
        let empty : last ≡ [] = length-zero last none in
        rw (befores, is)
        (take_page pages (length pages - 1) all count
        ∙ ap (λ (l : List X). take (length l - 1) l) (sym (append-nil (paged pages)) ∙ ap (λ (l : List X). paged pages ++ l) (sym empty) ∙ same))

    module _ (place : ℕ) where
      whole : place / 32 * 32 + place % 32 ≡ place
      whole = div-add-mod' place 32

      -- a place behind the pages
      past_pages : length pages ≤ place / 32 → length pages * 32 ≤ place
      past_pages le = omega (arith, whole)

      pub behind_within : (n : ℕ) → n ≡ length pages → length pages ≤ place / 32 → place < length listed → place - n * 32 < length last
      behind_within n ns le lt =
          let past : length pages * 32 ≤ place = past_pages le in
          let total : n * 32 + length last ≡ length listed = listed_length n (length last) ns refl in
          omega arith

      pub read_behind : (n : ℕ) (d : X) → n ≡ length pages → length pages ≤ place / 32 → get_or last (place - n * 32) d ≡ get_or listed place d
      read_behind n d ns le =
          ap (λ (k : ℕ). get_or last (place - k * 32) d) ns
          ∙ sym (behind_pages pages last place d all (past_pages le))
          ∙ ap (λ (l : List X). get_or l place d) same

      pub written_behind : (n : ℕ) (x : X) → n ≡ length pages → length pages ≤ place / 32 → paged pages ++ set last (place - n * 32) x ≡ set listed place x
      written_behind n x ns le =
          ap (λ (k : ℕ). paged pages ++ set last (place - k * 32) x) ns
          ∙ sym (set_behind pages last place x all (past_pages le))
          ∙ ap (λ (l : List X). set l place x) same

      -- a place in a page
      pub read_in_page : (d : X) → place / 32 < length pages → get_or (get_or pages (place / 32) []) (place % 32) d ≡ get_or listed place d
      read_in_page d lt =
          sym (in_page pages last (place / 32) (place % 32) d all (omega arith) lt)
          ∙ ap (λ k. get_or (paged pages ++ last) k d) whole
          ∙ ap (λ (l : List X). get_or l place d) same

      pub written_in_page : (x : X) → place / 32 < length pages → paged (set pages (place / 32) (set (get_or pages (place / 32) []) (place % 32) x)) ++ last ≡ set listed place x
      written_in_page x lt =
          sym (set_in_page pages last (place / 32) (place % 32) x all (omega arith) lt)
          ∙ ap (λ k. set (paged pages ++ last) k x) whole
          ∙ ap (λ (l : List X). set l place x) same
