-- What facts with one more say of a slot.
use Rattle.std.proofs.Common.{◌≡◌, ◌≢◌, ℕ, ◌<◌, nat_eq, nat_lt, cond, List, [], ◌∷◌, sym, ap, ◌∙◌, arith, inl, inr}
use Rattle.std.proofs.lemmas.Bool.{cases_lt, cases_eq, cond-true, cond-false, lt-ltb, le-ltb, eq-eqb, ne_eqb}
use Rattle.core_ir.specs.PointFacts.{put}
use Rattle.core_ir.specs.declared.facts.SlotFact.{SlotFact}
use Rattle.core_ir.specs.declared.facts.Known.{Known}
use Rattle.core_check.specs.Known.{known_in}

-- what is known of a slot behind a first fact
first_is : (first : SlotFact) (rest : List SlotFact) (i : ℕ) → first.slot.0 ≡ i → known_in (first ∷ rest) i ≡ first.known
first_is first rest i same = cond-true (nat_eq first.slot.0 i) first.known (known_in rest i) (eq-eqb first.slot.0 i same)

first_past : (first : SlotFact) (rest : List SlotFact) (i : ℕ) → first.slot.0 ≢ i → known_in (first ∷ rest) i ≡ known_in rest i
first_past first rest i apart = cond-false (nat_eq first.slot.0 i) first.known (known_in rest i) (ne_eqb first.slot.0 i apart)

-- where the one more goes
goes_behind : (first : SlotFact) (rest : List SlotFact) (fact : SlotFact) → first.slot.0 < fact.slot.0 → put (first ∷ rest) fact ≡ first ∷ put rest fact
goes_behind first rest fact lt = cond-true (nat_lt first.slot.0 fact.slot.0) _ _ (lt-ltb first.slot.0 fact.slot.0 lt)

goes_over : (first : SlotFact) (rest : List SlotFact) (fact : SlotFact) → first.slot.0 ≡ fact.slot.0 → put (first ∷ rest) fact ≡ fact ∷ rest
goes_over first rest fact same =
    cond-false (nat_lt first.slot.0 fact.slot.0) _ _ (le-ltb first.slot.0 fact.slot.0 (omega arith))
    ∙ cond-true (nat_eq first.slot.0 fact.slot.0) _ _ (eq-eqb first.slot.0 fact.slot.0 same)

goes_before : (first : SlotFact) (rest : List SlotFact) (fact : SlotFact) → fact.slot.0 < first.slot.0 → put (first ∷ rest) fact ≡ fact ∷ first ∷ rest
goes_before first rest fact lt =
    cond-false (nat_lt first.slot.0 fact.slot.0) _ _ (le-ltb first.slot.0 fact.slot.0 (omega arith))
    ∙ cond-false (nat_eq first.slot.0 fact.slot.0) _ _ (ne_eqb first.slot.0 fact.slot.0 (λ e. absurd (omega arith)))

-- of its own slot they say what it says
put_here : (facts : List SlotFact) (fact : SlotFact) (i : ℕ) → fact.slot.0 ≡ i → known_in (put facts fact) i ≡ fact.known
put_here [] fact i same = first_is fact [] i same
put_here (first ∷ rest) fact i same = elim (cases_lt first.slot.0 fact.slot.0) [
  | inl lt ↦
      (ap (λ l. known_in l i) (goes_behind first rest fact lt)
      ∙ first_past first (put rest fact) i (λ e. absurd (omega arith))
      ∙ put_here rest fact i same)
  | inr le ↦
      elim (cases_eq first.slot.0 fact.slot.0) [
        | inl own ↦ ap (λ l. known_in l i) (goes_over first rest fact own) ∙ first_is fact rest i same
        | inr apart ↦ ap (λ l. known_in l i) (goes_before first rest fact (omega arith)) ∙ first_is fact (first ∷ rest) i same
      ]
]

-- of another slot what was said before
put_past : (facts : List SlotFact) (fact : SlotFact) (i : ℕ) → fact.slot.0 ≢ i → known_in (put facts fact) i ≡ known_in facts i
put_past [] fact i other = first_past fact [] i other
put_past (first ∷ rest) fact i other = elim (cases_lt first.slot.0 fact.slot.0) [
  | inl lt ↦
      (ap (λ l. known_in l i) (goes_behind first rest fact lt)
      ∙ ap (λ (k : Known). cond (nat_eq first.slot.0 i) first.known k) (put_past rest fact i other))
  | inr le ↦
      elim (cases_eq first.slot.0 fact.slot.0) [
        | inl own ↦
            (ap (λ l. known_in l i) (goes_over first rest fact own)
            ∙ first_past fact rest i other
            ∙ sym (first_past first rest i (λ e. other (sym own ∙ e))))
        | inr apart ↦ ap (λ l. known_in l i) (goes_before first rest fact (omega arith)) ∙ first_past fact (first ∷ rest) i other
      ]
]

pub known_put : (facts : List SlotFact) (fact : SlotFact) (i : ℕ) → known_in (put facts fact) i ≡ cond (nat_eq fact.slot.0 i) fact.known (known_in facts i)
known_put facts fact i = elim (cases_eq fact.slot.0 i) [
  | inl same ↦ put_here facts fact i same ∙ sym (cond-true (nat_eq fact.slot.0 i) fact.known (known_in facts i) (eq-eqb fact.slot.0 i same))
  | inr apart ↦ put_past facts fact i apart ∙ sym (cond-false (nat_eq fact.slot.0 i) fact.known (known_in facts i) (ne_eqb fact.slot.0 i apart))
]
