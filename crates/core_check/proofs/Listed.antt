-- What lists of facts and of changes say of a slot.
use Rattle.std.proofs.Common.{◌≡◌, ◌≢◌, ℕ, suc, ◌+◌, ◌<◌, List, ◌∷◌, length, get_or, drop, nat_eq, sym, ap, ◌∙◌, subst, drop-cons, add-one, arith, inl, inr}
use Rattle.std.proofs.lemmas.Bool.{cases_eq, cond-true, cond-false, eq-eqb, ne_eqb}
use Rattle.std.proofs.lemmas.List.{get_or_default}
use Rattle.core_ir.specs.PointFacts.{PointFacts}
use Rattle.core_ir.specs.Program.{Function, Program}
use Rattle.core_ir.specs.declared.facts.Known.{Known}
use Rattle.core_ir.specs.declared.facts.SlotFact.{SlotFact}
use Rattle.core_check.specs.Known.{known_in}
use Rattle.core_check.specs.Types.{changed, changes_to}
use Rattle.core_check.specs.declared.parts.Change.{Change}

-- the item at a place is the first from there on
pub first_from : {X : Type 0} (xs : List X) (i : ℕ) (x : X) → i < length xs → x ≡ get_or xs i x → drop i xs ≡ x ∷ drop (i + 1) xs
first_from xs i x lt is = drop-cons xs i x lt ∙ ap (λ y. y ∷ drop (suc i) xs) (sym is) ∙ ap (λ n. x ∷ drop n xs) (sym (add-one i))

-- what holds of the items before a place and of the one there
pub all_further : {X : Type 0} (P : X → Type 0) (xs : List X) (i : ℕ) (e : X) → i < length xs → ((k : ℕ) (d : X) → k < i → P (get_or xs k d)) → P (get_or xs i e) → (k : ℕ) (d : X) → k < i + 1 → P (get_or xs k d)
all_further P xs i e lt before here k d below = elim (cases_eq k i) [
  | inl same ↦ subst (λ n. P (get_or xs n d)) (sym same) (subst P (get_or_default xs i e d lt) here)
  | inr apart ↦ before k d (omega arith)
]

-- the first fact is of the slot, or it isn't
pub known_here : (xs : List SlotFact) (i slot : ℕ) (x : SlotFact) → i < length xs → x ≡ get_or xs i x → x.slot.0 ≡ slot → known_in (drop i xs) slot ≡ x.known
known_here xs i slot x lt is same =
    ap (λ l. known_in l slot) (first_from xs i x lt is) ∙ cond-true (nat_eq x.slot.0 slot) x.known (known_in (drop (i + 1) xs) slot) (eq-eqb x.slot.0 slot same)

pub known_past : (xs : List SlotFact) (i slot : ℕ) (x : SlotFact) → i < length xs → x ≡ get_or xs i x → x.slot.0 ≢ slot → known_in (drop i xs) slot ≡ known_in (drop (i + 1) xs) slot
known_past xs i slot x lt is apart =
    ap (λ l. known_in l slot) (first_from xs i x lt is) ∙ cond-false (nat_eq x.slot.0 slot) x.known (known_in (drop (i + 1) xs) slot) (ne_eqb x.slot.0 slot apart)

-- the first change is of the slot, or it isn't
module _ (p : Program) (g : Function) (f : PointFacts) (cs : List Change) (i slot : ℕ) (c : Change) (known : Known) (lt : i < length cs) (is : c ≡ get_or cs i c) where
  pub changes_here : c.slot.0 ≡ slot → changes_to p g f (drop i cs) slot known ≡ changes_to p g f (drop (i + 1) cs) slot (changed p g f c.how known)
  changes_here same =
      ap (λ l. changes_to p g f l slot known) (first_from cs i c lt is)
      ∙ ap (changes_to p g f (drop (i + 1) cs) slot) (cond-true (nat_eq c.slot.0 slot) (changed p g f c.how known) known (eq-eqb c.slot.0 slot same))

  pub changes_past : c.slot.0 ≢ slot → changes_to p g f (drop i cs) slot known ≡ changes_to p g f (drop (i + 1) cs) slot known
  changes_past apart =
      ap (λ l. changes_to p g f l slot known) (first_from cs i c lt is)
      ∙ ap (changes_to p g f (drop (i + 1) cs) slot) (cond-false (nat_eq c.slot.0 slot) (changed p g f c.how known) known (ne_eqb c.slot.0 slot apart))
