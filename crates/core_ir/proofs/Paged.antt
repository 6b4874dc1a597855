-- Facts that lie in pages, each of which knows how many stand before it.
use Rattle.std.proofs.Common.{◌≡◌, ℕ, suc, ◌+◌, ◌-◌, ◌<◌, ◌≤◌, List, [], ◌∷◌, ◌++◌, length, get_or, drop, take, sym, ap, ◌∙◌, subst, arith, All, inl, inr}
use Rattle.std.specs.List.{flat_map}
use Rattle.std.proofs.Math.Seq.{get_or-append_seam, take-add, take-append_seam, take-suc}
use Rattle.std.proofs.lemmas.Bool.{cases_lt}
use Rattle.std.proofs.lemmas.Grind.{flat_map-append}
use Rattle.std.proofs.lemmas.List.{length-append, append_assoc, append-nil, get_or_append_left, take_all, take-append-le}
use Rattle.std.proofs.lemmas.List.Concat.{get_or-flat_map}
use Rattle.core_ir.specs.PointFacts.{AreCounted, AreInOrder}
use Rattle.core_ir.specs.declared.facts.SlotFact.{SlotFact}
use Rattle.core_ir.proofs.Puts.{put_order, put_last}

module _ (X : Type 0) (before : X → ℕ) (facts : X → List SlotFact) where
  -- how many facts lie in the pages up to one
  pub up_to : (pages : List X) (k : ℕ) (d : X) → k < length pages → length (flat_map facts (take (suc k) pages)) ≡ length (flat_map facts (take k pages)) + length (facts (get_or pages k d))
  up_to pages k d lt =
      ap (λ l. length (flat_map facts l)) (take-suc pages k d lt)
      ∙ ap (λ (l : List SlotFact). length l) (flat_map-append facts (take k pages) (get_or pages k d ∷ []))
      ∙ length-append (flat_map facts (take k pages)) (facts (get_or pages k d) ++ [])
      ∙ ap (λ l. length (flat_map facts (take k pages)) + length l) (append-nil (facts (get_or pages k d)))

  module _ (pages : List X) (counted : AreCounted before facts pages) (place k : ℕ) (within : k < length pages) where
    -- a place before the next page is in or before this one
    pub ends_before : (d : X) → place < length (flat_map facts pages) → (suc k < length pages → place < before (get_or pages (suc k) d)) → place < before (get_or pages k d) + length (facts (get_or pages k d))
    ends_before d lt next =
        let whole : length (flat_map facts (take (suc k) pages)) ≡ length (flat_map facts (take k pages)) + length (facts (get_or pages k d)) = up_to pages k d within in
        let here : before (get_or pages k d) ≡ length (flat_map facts (take k pages)) = counted k d within in
        elim (cases_lt (suc k) (length pages)) [
          | inl less ↦
              (let there : before (get_or pages (suc k) d) ≡ length (flat_map facts (take (suc k) pages)) = counted (suc k) d less in
              let first = next less in
              omega arith)
          | inr le ↦
              (let all : length (flat_map facts (take (suc k) pages)) ≡ length (flat_map facts pages) = ap (λ l. length (flat_map facts l)) (take_all (suc k) pages le) in
              omega arith)
        ]

    -- the fact at a place of a page
    pub in_page : (d : X) (none : SlotFact) → before (get_or pages k d) ≤ place → place < before (get_or pages k d) + length (facts (get_or pages k d))
        → get_or (flat_map facts pages) place none ≡ get_or (facts (get_or pages k d)) (place - before (get_or pages k d)) none
    in_page d none begins ends =
        let here : before (get_or pages k d) ≡ length (flat_map facts (take k pages)) = counted k d within in
        let whole : length (flat_map facts (take k pages)) + (place - before (get_or pages k d)) ≡ place = omega arith in
        ap (λ n. get_or (flat_map facts pages) n none) (sym whole)
        ∙ get_or-flat_map facts pages k (place - before (get_or pages k d)) d none within (omega arith)

  -- facts that end in a page, in a list of all of them
  pub listed_in_page : (pages seen : List X) (own listed : List SlotFact) (place k : ℕ) (page : X) (found : SlotFact) → AreCounted before facts pages → flat_map facts pages ++ own ≡ listed → seen ≡ pages → place < length (flat_map facts pages) → k < length seen
      → page ≡ get_or seen k page → before (get_or seen k page) ≤ place → place < before (get_or seen k page) + length (facts (get_or seen k page))
      → found ≡ get_or (facts page) (place - before page) found → found ≡ get_or listed place found
  listed_in_page pages seen own listed place k page found counted same is lt within at begins ends read =
      let here : get_or seen k page ≡ get_or pages k page = ap (λ (l : List X). get_or l k page) is in
      read
      ∙ ap (λ (q : X). get_or (facts q) (place - before q) found) (at ∙ here)
      ∙ sym
      (in_page pages counted place k (subst (λ (l : List X). k < length l) is within) page found
      (subst (λ (q : X). before q ≤ place) here begins)
      (subst (λ (q : X). place < before q + length (facts q)) here ends))
      ∙ sym (get_or_append_left (flat_map facts pages) own found place lt)
      ∙ ap (λ (l : List SlotFact). get_or l place found) same

  -- one page more
  pub pages_more : (pages : List X) (page : X) (listed : List SlotFact) (start end : ℕ) → start ≤ end → flat_map facts pages ≡ take start listed → facts page ≡ take (end - start) (drop start listed) → flat_map facts (pages ++ page ∷ []) ≡ take end listed
  pages_more pages page listed start end le same own =
      let whole : start + (end - start) ≡ end = omega arith in
      flat_map-append facts pages (page ∷ [])
      ∙ ap (λ l. l ++ (facts page ++ [])) same
      ∙ ap (λ l. take start listed ++ l) (append-nil (facts page) ∙ own)
      ∙ sym (take-add start (end - start) listed)
      ∙ ap (λ n. take n listed) whole

  pub counted_more : (pages : List X) (page : X) → AreCounted before facts pages → before page ≡ length (flat_map facts pages) → AreCounted before facts (pages ++ page ∷ [])
  counted_more pages page counted own k none lt =
      let count : length (pages ++ page ∷ []) ≡ length pages + 1 = length-append pages (page ∷ []) in
      elim (cases_lt k (length pages)) [
        | inl less ↦
            ap before (get_or_append_left pages (page ∷ []) none k less)
            ∙ counted k none less
            ∙ sym (ap (λ l. length (flat_map facts l)) (take-append-le k pages (page ∷ []) (omega arith)))
        | inr le ↦
            (let last : k ≡ length pages = omega arith in
            ap (λ n. before (get_or (pages ++ page ∷ []) n none)) last
            ∙ ap before (get_or-append_seam pages page [] none)
            ∙ own
            ∙ sym (ap (λ n. length (flat_map facts (take n (pages ++ page ∷ [])))) last ∙ ap (λ l. length (flat_map facts l)) (take-append_seam pages (page ∷ []))))
      ]

-- with one more at the end they stay in order
pub pushed_order : (first own pushed : List SlotFact) (fact : SlotFact) → AreInOrder (first ++ own) → All (λ f. f.slot.0 < fact.slot.0) (first ++ own) → pushed ≡ own ++ fact ∷ [] → AreInOrder (first ++ pushed)
pushed_order first own pushed fact order all is =
    subst AreInOrder (put_last (first ++ own) fact all ∙ append_assoc first own (fact ∷ []) ∙ ap (λ l. first ++ l) (sym is))
    (put_order (first ++ own) fact order)
