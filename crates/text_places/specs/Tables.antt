-- Texts, each once, and how they are found.
use Rattle.std.specs.Prelude.{ℕ, ◌+◌, ◌≡◌, ◌<◌, ◌≤◌, List, ◌∷◌, [], ◌++◌, ◌⊎◌, Option, Some, bytes_eq, length, slice_get, if◌then◌else◌}
use Rattle.std.specs.Borrow.{Bor}
use Rattle.std.specs.Cmp.Lexicographic.{slice_cmp}
use Rattle.std.specs.Ordering.{nat_cmp}
use Rattle.std.specs.BTreeMap.{BTreeMap, get_by}
use Rattle.std.specs.List.{list_any}
use Rattle.text_places.specs.declared.slots.Slot.{Slot}
use Rattle.text_places.specs.declared.text_index.TextIndex.{TextIndex}
use Rattle.text_places.specs.Hashes.{hash_of, tag_of, first_of}

-- these texts and one more, unless it is among them
abbrev pub with_text : List (List ℕ) → List ℕ → List (List ℕ)
with_text texts text = if list_any (bytes_eq text) texts then texts else texts ++ text ∷ []

-- the place that is kept for a text that found no slot
abbrev pub kept_for : List ℕ → BTreeMap (Bor (List ℕ)) ℕ → Option ℕ
kept_for text crowded = get_by (λ (k : Bor (List ℕ)). slice_cmp nat_cmp text k.now) crowded

-- so many first slots of a hash each tell one of so many places
abbrev pub AreTaken : List Slot → (mask hash count steps : ℕ) → Type 0
AreTaken slots mask hash count steps =
    (step : ℕ) (slot : Slot) → step < steps → slice_get slots (first_of hash mask + step) ≡ Some slot → slot.place < count

-- the first slot of a hash that tells none of so many places, and stands here
pub record IsFree (slots : List Slot) (mask hash count here : ℕ) : Type 0 where
  pub step : ℕ
  pub near : step < 8
  pub is_here : here ≡ first_of hash mask + step
  pub slot : Slot
  pub told : slice_get slots here ≡ Some slot
  pub free : count ≤ slot.place
  pub taken : AreTaken slots mask hash count step

-- a slot of its hash tells the place of a text, and those before it are taken
pub record IsInSlots (slots : List Slot) (mask count : ℕ) (text : List ℕ) (place : ℕ) : Type 0 where
  pub step : ℕ
  pub near : step < 8
  pub told : slice_get slots (first_of (hash_of text) mask + step) ≡ Some (record { tag = tag_of (hash_of text); place = place })
  pub taken : AreTaken slots mask (hash_of text) count step

-- all slots of its hash are taken, and the place of a text is kept for it
pub record IsCrowded (index : TextIndex) (count : ℕ) (text : List ℕ) (place : ℕ) : Type 0 where
  pub full : AreTaken index.slots.items index.mask (hash_of text) count 8
  pub kept : kept_for text index.crowded ≡ Some place

-- the place of a text is found among so many
abbrev pub IsFoundAt : TextIndex → (count : ℕ) → List ℕ → (place : ℕ) → Type 0
IsFoundAt index count text place = IsInSlots index.slots.items index.mask count text place ⊎ IsCrowded index count text place

-- each text stands once, and its place is found
pub record IsTable (texts : List (List ℕ)) (index : TextIndex) : Type 0 where
  pub once : (one other : ℕ) (text : List ℕ) → slice_get texts one ≡ Some text → slice_get texts other ≡ Some text → one ≡ other
  pub found : (place : ℕ) (text : List ℕ) → slice_get texts place ≡ Some text → IsFoundAt index (length texts) text place
