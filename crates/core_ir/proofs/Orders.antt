-- What the last of some facts in order says of them all.
use Rattle.std.proofs.Common.{◌≡◌, ℕ, ◌-◌, ◌<◌, nat_lt, List, length, get_or, sym, ap, ◌∙◌, subst, arith, IsTrue, All, inl, inr}
use Rattle.std.proofs.lemmas.Bool.{cases_lt}
use Rattle.std.proofs.lemmas.Bool.Decides.{nat_tests}
use Rattle.std.proofs.lemmas.List.{get_or_default}
use Rattle.core_ir.specs.PointFacts.{AreInOrder}
use Rattle.core_ir.specs.declared.facts.SlotFact.{SlotFact}

-- all slots come before a number just where the last does
pub all_before : (facts : List SlotFact) (last : SlotFact) (n : ℕ) → AreInOrder facts → length facts - 1 < length facts → last ≡ get_or facts (length facts - 1) last → (IsTrue (nat_lt last.slot.0 n) → All (λ f. f.slot.0 < n) facts) × (All (λ f. f.slot.0 < n) facts → IsTrue (nat_lt last.slot.0 n))
all_before facts last n order within read = (
  λ below k d here. elim (cases_lt k (length facts - 1)) [
    | inl before ↦
        (let pair = order k (length facts - 1) d before within in
        let same : get_or facts (length facts - 1) d ≡ last = get_or_default facts (length facts - 1) d last within ∙ sym read in
        let lower : (get_or facts k d).slot.0 < last.slot.0 = subst (λ (f : SlotFact). (get_or facts k d).slot.0 < f.slot.0) same pair in
        grind (arith, nat_tests))
    | inr behind ↦
        (let here_is : k ≡ length facts - 1 = omega arith in
        let same : get_or facts k d ≡ last = ap (λ (i : ℕ). get_or facts i d) here_is ∙ get_or_default facts (length facts - 1) d last within ∙ sym read in
        subst (λ (f : SlotFact). f.slot.0 < n) (sym same) (grind (arith, nat_tests)))
  ],
  λ all. let h : (get_or facts (length facts - 1) last).slot.0 < n = all (length facts - 1) last within in
      let lower : last.slot.0 < n = subst (λ (f : SlotFact). f.slot.0 < n) (sym read) h in
      grind (arith, nat_tests),
)
