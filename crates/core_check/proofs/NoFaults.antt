-- Where lists of faults are empty.
use Rattle.std.proofs.Common.{◌≡◌, ℕ, zero, suc, ◌<◌, Bool, true, false, not, ◌||◌, List, [], ◌∷◌, ◌++◌, if◌then◌else◌, arith, refl, sym, subst, IsTrue, ◌↔◌, All, below_more}
use Rattle.std.specs.Prelude.{flat_map}
use Rattle.dart_types.specs.Ty.{Ty}
use Rattle.dart_types.specs.SubTest.{sub}
use Rattle.dart_types.specs.Tables.{Table}
use Rattle.core_check.specs.Faults.{Fault, unless, unless_below, of_slots}

-- a condition holds just where it gives no fault
if_none : (b : Bool) (fault : Fault) → IsTrue b ↔ ((if b then [] else fault ∷ []) ≡ [])
if_none true fault = (λ h. refl, λ h. refl)
if_none false fault = (λ h. absurd cc, λ h. absurd cc)

pub unless_none : (b : Bool) → IsTrue b ↔ (unless b ≡ [])
unless_none b = if_none b _

pub below_none : (table : Table) (s t : Ty) → IsTrue (sub table s t) ↔ (unless_below table s t ≡ [])
below_none table s t = if_none (sub table s t) _

-- one condition implies another just where this gives no fault
pub implies_none : (a b : Bool) → (IsTrue a → IsTrue b) ↔ (unless (not a || b) ≡ [])
implies_none true true = (λ h. refl, λ h k. refl)
implies_none true false = (λ h. absurd (let k = h refl in cc), λ h. absurd cc)
implies_none false b = (λ h. refl, λ h k. absurd cc)

-- both parts of an empty list are empty
pub both_none : (xs ys : List Fault) → (xs ++ ys ≡ []) → (xs ≡ []) × (ys ≡ [])
both_none [] ys h = (refl, h)
both_none (x ∷ xs) ys h = absurd cc

pub append_none : (xs ys : List Fault) → xs ≡ [] → ys ≡ [] → xs ++ ys ≡ []
append_none xs ys e h = subst (λ (l : List Fault). l ++ ys ≡ []) (sym e) h

-- each of four parts of an empty list is empty
pub four_none : (a b c d : List Fault) → a ++ b ++ c ++ d ≡ [] → (a ≡ []) × (b ≡ []) × (c ≡ []) × (d ≡ [])
four_none a b c d h =
    let last = both_none (a ++ b ++ c) d h in
    let third = both_none (a ++ b) c last.0 in
    let front = both_none a b third.0 in
    (front.0, front.1, third.1, last.1)

pub none_four : (a b c d : List Fault) → a ≡ [] → b ≡ [] → c ≡ [] → d ≡ [] → a ++ b ++ c ++ d ≡ []
none_four a b c d first second third last =
    append_none (a ++ b ++ c) d (append_none (a ++ b) c (append_none a b first second) third) last

-- no item has faults where all together have none
pub each_none : {X : Type 0} (faults : X → List Fault) (xs : List X) → flat_map faults xs ≡ [] → All (λ x. faults x ≡ []) xs
each_none faults [] h k d lt = absurd (omega arith)
each_none faults (x ∷ xs) h zero d lt = (both_none (faults x) (flat_map faults xs) h).0
each_none faults (x ∷ xs) h (suc k) d lt = each_none faults xs (both_none (faults x) (flat_map faults xs) h).1 k d (omega arith)

pub all_none : {X : Type 0} (faults : X → List Fault) (xs : List X) → All (λ x. faults x ≡ []) xs → flat_map faults xs ≡ []
all_none faults [] h = refl
all_none faults (x ∷ xs) h = append_none (faults x) (flat_map faults xs) (h 0 x (omega arith)) (all_none faults xs (λ k d lt. h (suc k) d (omega arith)))

-- what holds of all, where it follows from what does
pub all_map : {X : Type 0} {P Q : X → Type 0} (xs : List X) → ((x : X) → P x → Q x) → All P xs → All Q xs
all_map xs f h k d lt = f _ (h k d lt)

-- no slot has faults where all together have none
pub slots_none : (n : ℕ) (faults : ℕ → List Fault) → of_slots n faults ≡ [] → (i : ℕ) → i < n → faults i ≡ []
slots_none zero faults h i lt = absurd (omega arith)
slots_none (suc n) faults h i lt =
    let both = both_none (of_slots n faults) (faults n) h in
    below_more (λ k. faults k ≡ []) n (slots_none n faults both.0) both.1 i (omega arith)

pub none_slots : (n : ℕ) (faults : ℕ → List Fault) → ((i : ℕ) → i < n → faults i ≡ []) → of_slots n faults ≡ []
none_slots zero faults h = refl
none_slots (suc n) faults h = append_none (of_slots n faults) (faults n) (none_slots n faults (λ i lt. h i (omega arith))) (h n (omega arith))
