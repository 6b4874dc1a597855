-- What slots tell, and what they tell once one of them is written.
use Rattle.std.proofs.Common.{◌≡◌, inl, inr, ℕ, zero, suc, ◌+◌, ◌<◌, List, [], ◌∷◌, Some, slice_get, slice_set, refl, sym, ap, ◌∙◌, subst, arith}
use Rattle.std.proofs.lemmas.Bool.{cases_eq}
use Rattle.std.proofs.lemmas.Option.{none-some, same_Some}
use Rattle.text_places.specs.declared.slots.Slot.{Slot}
use Rattle.text_places.specs.Hashes.{hash_of, tag_of, first_of}
use Rattle.text_places.specs.Tables.{AreTaken, IsFree, IsInSlots}

get_set_here : {X : Type 0} (xs : List X) (i : ℕ) (x y : X) → slice_get xs i ≡ Some x → slice_get (slice_set xs i y) i ≡ Some y
get_set_here [] i x y is = absurd (none-some x is)
get_set_here (first ∷ more) zero x y is = refl
get_set_here (first ∷ more) (suc i) x y is = get_set_here more i x y is

get_set_other : {X : Type 0} (xs : List X) (i k : ℕ) (y : X) → (k ≡ i → ⊥) → slice_get (slice_set xs i y) k ≡ slice_get xs k
get_set_other [] i k y other = refl
get_set_other (first ∷ more) zero zero y other = absurd (other refl)
get_set_other (first ∷ more) zero (suc k) y other = refl
get_set_other (first ∷ more) (suc i) zero y other = refl
get_set_other (first ∷ more) (suc i) (suc k) y other = get_set_other more i k y (λ same. other (ap suc same))

-- one slot more is taken
pub taken_more : (slots : List Slot) (mask hash count steps : ℕ) → AreTaken slots mask hash count steps → ((slot : Slot) → slice_get slots (first_of hash mask + steps) ≡ Some slot → slot.place < count) → AreTaken slots mask hash count (steps + 1)
taken_more slots mask hash count steps taken last = λ step slot less is. elim (cases_eq step steps) [
  | inl same ↦ last slot (subst (λ (n : ℕ). slice_get slots (first_of hash mask + n) ≡ Some slot) same is)
  | inr other ↦ taken step slot (omega (arith, less, other)) is
]

module _ (slots : List Slot) (mask : ℕ) (text : List ℕ) (count at : ℕ) (free : IsFree slots mask (hash_of text) count at) where
  -- slots that are taken stay as they are
  pub taken_still : (hash steps : ℕ) → AreTaken slots mask hash count steps → AreTaken (slice_set slots at (record { tag = tag_of (hash_of text); place = count })) mask hash count steps
  taken_still hash steps taken = λ step slot less is. elim (cases_eq (first_of hash mask + step) at) [
    | inl same ↦ (let old = taken step free.slot less (ap (slice_get slots) same ∙ free.told) in absurd (omega (arith, old, free.free)))
    | inr other ↦ taken step slot less (sym (get_set_other slots at (first_of hash mask + step) _ other) ∙ is)
  ]

  -- the slot that is written tells its text
  pub told_here : IsInSlots (slice_set slots at (record { tag = tag_of (hash_of text); place = count })) mask (count + 1) text count
  told_here = record {
    step = free.step;
    near = free.near;
    told = subst (λ (n : ℕ). slice_get (slice_set slots at (record { tag = tag_of (hash_of text); place = count })) n ≡ Some (record { tag = tag_of (hash_of text); place = count })) free.is_here (get_set_here slots at free.slot _ free.told);
    taken = λ step slot less is. let old = taken_still (hash_of text) free.step free.taken step slot less is in omega (arith, old);
  }

  -- the others tell what they told
  pub told_still : (other : List ℕ) (place : ℕ) → place < count → IsInSlots slots mask count other place → IsInSlots (slice_set slots at (record { tag = tag_of (hash_of text); place = count })) mask count other place
  told_still other place less told = record {
    step = told.step;
    near = told.near;
    told = get_set_other slots at _ _ (λ same. let slot = same_Some free.slot _ (sym free.told ∙ (ap (slice_get slots) (sym same) ∙ told.told)) in
        let p : free.slot.place ≡ place = ap (λ (s : Slot). s.place) slot in omega (arith, p, less, free.free)) ∙ told.told;
    taken = taken_still (hash_of other) told.step told.taken;
  }
