-- Diagnostics put at their places, one after another.
use Rattle.std.proofs.Common.{◌≡◌, List, [], ◌∷◌, ◌++◌, refl, ap, subst, ◌∙◌, Contains, AllPairs, inl, inr}
use Rattle.std.proofs.lemmas.Map.Keys.{Less-from_sorted}
use Rattle.std.specs.List.Sorted.{IsStrictlySortedBy}
use Rattle.std.specs.Ordering.{ordering_then, is_eq, nat_cmp}
use Rattle.std.specs.declared.cmp.Ordering.{Ordering}
use Rattle.std.specs.declared.cmp.Ordering.TheVariants.{Less, Equal, Greater}
use Rattle.std.specs.BTreeSet.{insert_key}
use Rattle.std.specs.FinMap.{IsAntisymmetric, nat_cmp-IsAntisymmetric}
use Rattle.judgement.specs.declared.fault.Fault.{Fault}
use Rattle.judgement.specs.contracts.code.DiagnosticCode.{the_type}
use Rattle.judgement.specs.contracts.code.DiagnosticCodeOrd.TheImpl.Laws as codes
use Rattle.judgement.specs.contracts.fault.FaultOrd.TheImpl.Laws as laws
use denote.Enum.Bare.{same_true}
use Rattle.check_library.specs.Order.{span_cmp, code_cmp, fault_cmp, IsBefore, sorted_faults}
use Rattle.check_library.proofs.SortedKeys.{sorted-insert_key, contains-into_insert_key, contains-from_insert_key, contains_later, contains_first, contains_cases}

-- the diagnostics of a list put at their places among others, the last one first
abbrev pub put_all : List Fault → List Fault → List Fault
put_all [] sorted = sorted
put_all (fault ∷ faults) sorted = insert_key fault_cmp (put_all faults sorted) fault

-- the last one is put first
pub put_all-push : (faults : List Fault) (last : Fault) (sorted : List Fault) → put_all (faults ++ last ∷ []) sorted ≡ put_all faults (insert_key fault_cmp sorted last)
put_all-push [] last sorted = refl
put_all-push (fault ∷ faults) last sorted = ap (λ all. insert_key fault_cmp all fault) (put_all-push faults last sorted)

-- into an empty report it gives the report
pub put_all-none : (faults : List Fault) → put_all faults [] ≡ sorted_faults faults
put_all-none [] = refl
put_all-none (fault ∷ faults) = ap (λ all. insert_key fault_cmp all fault) (put_all-none faults)

-- a report is in order
sorted_faults_sorted : (faults : List Fault) → IsStrictlySortedBy fault_cmp (sorted_faults faults)
unfolding IsStrictlySortedBy
sorted_faults_sorted [] = tt
sorted_faults_sorted (fault ∷ faults) = sorted-insert_key laws.total-law fault (sorted_faults faults) (sorted_faults_sorted faults)

-- each diagnostic of a report stands before those behind it
pub rising : (faults : List Fault) → AllPairs IsBefore (sorted_faults faults)
rising faults i j d before inside = Less-from_sorted fault_cmp (sorted_faults faults) i j d (sorted_faults_sorted faults) before inside

-- what two orders, one after the other, say of a tie
tied_first : (r s : Ordering) → ordering_then r s ≡ Equal → r ≡ Equal
tied_first Less s e = cc e
tied_first Equal s e = refl
tied_first Greater s e = cc e

tied_second : (r s : Ordering) → ordering_then r s ≡ Equal → s ≡ Equal
tied_second Less s e = cc e
tied_second Equal s e = e
tied_second Greater s e = cc e

-- only equal codes tie
tied_codes : IsAntisymmetric code_cmp
tied_codes a b e = same_true the_type tt a b (codes.matches_eq-law a b ∙ ap is_eq e)

-- only equal diagnostics have one place in the order
tied : IsAntisymmetric fault_cmp
tied a b e =
    let places : span_cmp a.span b.span ≡ Equal = tied_first _ (code_cmp a.code b.code) e in
    let starts : a.span.start ≡ b.span.start = nat_cmp-IsAntisymmetric _ _ (tied_first _ (nat_cmp a.span.end b.span.end) places) in
    let ends : a.span.end ≡ b.span.end = nat_cmp-IsAntisymmetric _ _ (tied_second (nat_cmp a.span.start b.span.start) _ places) in
    let code : a.code ≡ b.code = tied_codes _ _ (tied_second (span_cmp a.span b.span) _ e) in
    λ i. record { span = record { start = starts i; end = ends i }; code = code i }

pub reported : (faults : List Fault) (fault : Fault) → Contains faults fault → Contains (sorted_faults faults) fault
reported [] q c = c
reported (fault ∷ faults) q c = contains-into_insert_key fault_cmp tied fault (sorted_faults faults) q (elim (contains_cases fault faults q c) [
  | inl is ↦ inl is
  | inr later ↦ inr (reported faults q later)
])

pub found : (faults : List Fault) (fault : Fault) → Contains (sorted_faults faults) fault → Contains faults fault
found [] q c = c
found (fault ∷ faults) q c = elim (contains-from_insert_key fault_cmp tied fault (sorted_faults faults) q c) [
  | inl is ↦ subst (Contains (fault ∷ faults)) is (contains_first fault faults)
  | inr there ↦ contains_later fault faults q (found faults q there)
]
