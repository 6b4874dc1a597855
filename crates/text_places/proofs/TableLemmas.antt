-- A table with one text more, and as it was.
use Rattle.std.proofs.Common.{◌≡◌, inl, inr, ℕ, ◌+◌, ◌<◌, arith, length-append, ◌≤◌, false, List, [], ◌∷◌, ◌++◌, length, Option, Some, None, IfSome, IfNone, bytes_eq, position, slice_get, refl, sym, ap, ◌∙◌, subst}
use Rattle.std.specs.List.{list_any}
use Rattle.std.specs.Cmp.Lexicographic.{bytes_decides}
use Rattle.std.proofs.lemmas.Bool.{cases_order}
use Rattle.std.proofs.lemmas.Option.{same_Some, slice_get_within}
use Rattle.text_places.specs.declared.text_index.TextIndex.{TextIndex}
use Rattle.text_places.specs.declared.slots.Slot.{Slot}
use Rattle.text_places.specs.Hashes.{hash_of, tag_of, first_of}
use Rattle.text_places.specs.Tables.{AreTaken, IsFoundAt, IsTable, kept_for}
use Rattle.text_places.proofs.TextLemmas.{apart_at, get_snoc, position_where_alone, position_where_none}

length_more : (texts : List (List ℕ)) (text : List ℕ) → length (texts ++ text ∷ []) ≡ length texts + 1
length_more texts text = omega (arith, length-append texts (text ∷ []))

taken_of_more : (slots : List Slot) (mask hash count steps : ℕ) → AreTaken slots mask hash count steps → AreTaken slots mask hash (count + 1) steps
taken_of_more slots mask hash count steps taken = λ step slot less is. let before = taken step slot less is in omega (arith, before)

-- what is found among so many is found among more
found_of_more : (index : TextIndex) (count : ℕ) (text : List ℕ) (place : ℕ) → IsFoundAt index count text place → IsFoundAt index (count + 1) text place
found_of_more index count text place found = elim found [
  | inl told ↦ inl (record { step = told.step; near = told.near; told = told.told; taken = taken_of_more index.slots.items index.mask (hash_of text) count told.step told.taken })
  | inr crowded ↦ inr (record { full = taken_of_more index.slots.items index.mask (hash_of text) count 8 crowded.full; kept = crowded.kept })
]

-- no slot before this one tells a text
abbrev pub NoneTells : TextIndex → List (List ℕ) → List ℕ → (steps : ℕ) → Type 0
NoneTells index texts text steps =
    (place step : ℕ) → step < steps → slice_get texts place ≡ Some text
    → slice_get index.slots.items (first_of (hash_of text) index.mask + step) ≡ Some (record { tag = tag_of (hash_of text); place = place }) → ⊥

module _ (texts : List (List ℕ)) (index : TextIndex) (table : IsTable texts index) (text : List ℕ) where
  -- a text that no slot before a free one tells stands nowhere
  pub nowhere_at_free : (step : ℕ) (slot : Slot) → step < 8 → NoneTells index texts text step
      → slice_get index.slots.items (first_of (hash_of text) index.mask + step) ≡ Some slot → length texts ≤ slot.place → (place : ℕ) → slice_get texts place ≡ Some text → ⊥
  nowhere_at_free step slot near none is free place here = elim (table.found place text here) [
    | inl told ↦ elim (cases_order told.step step) [
      | inl same ↦ (let one = same_Some slot _ (sym is ∙ subst (λ (n : ℕ). slice_get index.slots.items (first_of (hash_of text) index.mask + n) ≡ Some (record { tag = tag_of (hash_of text); place = place })) same told.told) in
          let p : slot.place ≡ place = ap (λ (s : Slot). s.place) one in
          let within = slice_get_within texts place text here in omega (arith, p, within, free))
      | inr (inl before) ↦ none place told.step before here told.told
      | inr (inr after) ↦ (let less = told.taken step slot after is in omega (arith, less, free))
    ]
    | inr crowded ↦ (let less = crowded.full step slot near is in omega (arith, less, free))
  ]

  -- a text that no slot tells is kept in the crowd, if it stands anywhere
  pub nowhere_at_end : NoneTells index texts text 8 → ((place : ℕ) → slice_get texts place ≡ Some text → kept_for text index.crowded ≡ Some place → ⊥) → (place : ℕ) → slice_get texts place ≡ Some text → ⊥
  nowhere_at_end none unkept place here = elim (table.found place text here) [
    | inl told ↦ none place told.step told.near here told.told
    | inr crowded ↦ unkept place here crowded.kept
  ]

  -- what the crowd tells is the position
  pub position_at_end : NoneTells index texts text 8 → (found : Option ℕ) → IfSome found (λ place. slice_get texts place ≡ Some text)
      → IfNone found ((place : ℕ) → slice_get texts place ≡ Some text → kept_for text index.crowded ≡ Some place → ⊥) → found ≡ position (bytes_eq text) texts
  position_at_end none (Some place) some unkept = sym (position_where_alone text texts place some (λ other is. table.once other place text is some))
  position_at_end none None some unkept = sym (position_where_none text texts (nowhere_at_end none unkept))

-- a text is put behind the others
module _ (texts : List (List ℕ)) (text : List ℕ) (old new : TextIndex) (table : IsTable texts old) (absent : list_any (bytes_eq text) texts ≡ false)
    (others : (other : List ℕ) (at : ℕ) → at < length texts → bytes_eq text other ≡ false → IsFoundAt old (length texts) other at → IsFoundAt new (length texts) other at) where
  found_before : (place : ℕ) (held : List ℕ) → slice_get texts place ≡ Some held → IsFoundAt new (length texts) held place
  found_before place held here = others held place (slice_get_within texts place held here) (apart_at text texts place held absent here) (table.found place held here)

  -- the index has it, and the texts not yet
  pub table_kept : IsTable texts new
  table_kept = record { once = table.once; found = found_before }

  not_before : (place : ℕ) → slice_get texts place ≡ Some text → ⊥
  not_before place here = let both = sym (apart_at text texts place text absent here) ∙ (bytes_decides text text).1 refl in cc both

  once_more : (one other : ℕ) (held : List ℕ) → slice_get (texts ++ text ∷ []) one ≡ Some held → slice_get (texts ++ text ∷ []) other ≡ Some held → one ≡ other
  once_more one other held here there = elim (get_snoc texts text held one here) [
    | inl before ↦ elim (get_snoc texts text held other there) [
      | inl also ↦ table.once one other held before also
      | inr last ↦ absurd (not_before one (before ∙ ap Some (sym last.1)))
    ]
    | inr last ↦ elim (get_snoc texts text held other there) [
      | inl before ↦ absurd (not_before other (before ∙ ap Some (sym last.1)))
      | inr also ↦ last.0 ∙ sym also.0
    ]
  ]

  -- both have it
  module _ (put : IsFoundAt new (length texts + 1) text (length texts)) where
    found_more : (place : ℕ) (held : List ℕ) → slice_get (texts ++ text ∷ []) place ≡ Some held → IsFoundAt new (length (texts ++ text ∷ [])) held place
    found_more place held here = subst (λ (n : ℕ). IsFoundAt new n held place) (sym (length_more texts text)) (elim (get_snoc texts text held place here) [
      | inl before ↦ found_of_more new (length texts) held place (found_before place held before)
      | inr last ↦ subst (λ (n : ℕ). IsFoundAt new (length texts + 1) held n) (sym last.0) (subst (λ (l : List ℕ). IsFoundAt new (length texts + 1) l (length texts)) last.1 put)
    ])

    pub table_more : IsTable (texts ++ text ∷ []) new
    table_more = record { once = once_more; found = found_more }
