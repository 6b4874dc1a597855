-- The overlays as they count in the limits.
use Rattle.std.proofs.Common.{◌≡◌, ℕ, true, false, ◌||◌, List, [], ◌∷◌, map, length, Some, refl, sym, ap, ◌∙◌, arith}
use Rattle.std.specs.Prelude.{bytes_eq, is_some, if◌then◌else◌}
use Rattle.std.specs.Cmp.Lexicographic.{slice_cmp}
use Rattle.std.specs.List.{AllByRecursion}
use Rattle.std.specs.Ordering.{nat_cmp, is_eq, ordering_reverse}
use Rattle.std.specs.declared.cmp.Ordering.{Ordering}
use Rattle.std.specs.declared.cmp.Ordering.TheVariants.{Less, Equal, Greater}
use Rattle.std.proofs.lemmas.Cmp.{nat_list_cmp_total}
use Rattle.std.proofs.lemmas.Map.Keys.{sorted_head, sorted_tail}
use Rattle.std.proofs.lemmas.Map.Text.{is_eq-slice_cmp}
use Rattle.std.proofs.lemmas.List.Sums.{sum_by-cons}
use Rattle.load_files.specs.Kept.{is_kept, bytes_of, are_distinct}
use Rattle.load_files.specs.declared.kept.KeptFile.{KeptFile}
use Rattle.overlays.specs.Tables.{PathsAndTexts, IsInOrder, text_in}
use Rattle.protocol_rules.specs.Limits.{bytes_in, kept_in}

-- how two paths compare, the other way round
turned : (p q : List ℕ) (o : Ordering) → slice_cmp nat_cmp p q ≡ o → slice_cmp nat_cmp q p ≡ ordering_reverse o
turned p q o is = nat_list_cmp_total.antisymm q p ∙ ap ordering_reverse is

same_either_way : (o : Ordering) → is_eq (ordering_reverse o) ≡ is_eq o
same_either_way Less = refl
same_either_way Equal = refl
same_either_way Greater = refl

-- whether two paths are the same, the other way round
bytes_eq-turned : (p q : List ℕ) → bytes_eq p q ≡ bytes_eq q p
bytes_eq-turned p q = sym (is_eq-slice_cmp p q) ∙ sym (same_either_way (slice_cmp nat_cmp p q)) ∙ ap is_eq (sym (turned p q _ refl)) ∙ is_eq-slice_cmp q p

-- a path counts as kept exactly where it has a text
pub is_kept_in : (path : List ℕ) (overlays : PathsAndTexts) → is_kept path (kept_in overlays) ≡ is_some (text_in path overlays)
unfolding text_in
is_kept_in path [] = refl
is_kept_in path (e ∷ more) =
    rw (bytes_eq-turned e.0 path) (elim (bytes_eq path e.0) as (λ b. (b || is_kept path (kept_in more)) ≡ is_some (if b then Some e.1 else text_in path more)) [
      | true ↦ refl
      | false ↦ is_kept_in path more
    ])

-- a path that comes before all others isn't among them
absent_before : (path : List ℕ) (overlays : PathsAndTexts) → AllByRecursion (λ q. slice_cmp nat_cmp path q ≡ Less) (map (λ e. e.0) overlays) → is_kept path (kept_in overlays) ≡ false
absent_before path [] all = refl
absent_before path (e ∷ more) all =
    let other : bytes_eq e.0 path ≡ false = sym (is_eq-slice_cmp e.0 path) ∙ ap is_eq (turned path e.0 Less all.0) in
    rw other (absent_before path more all.1)

-- overlays in the order of their paths have distinct paths
pub are_distinct_in : (overlays : PathsAndTexts) → IsInOrder overlays → are_distinct (kept_in overlays) ≡ true
are_distinct_in [] order = refl
are_distinct_in (e ∷ more) order =
    rw (absent_before e.0 more (sorted_head (slice_cmp nat_cmp) e.0 (map (λ o. o.0) more) order))
    (are_distinct_in more (sorted_tail (slice_cmp nat_cmp) e.0 (map (λ o. o.0) more) order))

-- the overlays count with the bytes of their texts
pub bytes_kept : (overlays : PathsAndTexts) → bytes_of (kept_in overlays) ≡ bytes_in overlays
bytes_kept [] = refl
bytes_kept (e ∷ more) =
    let of_kept = sum_by-cons (λ (f : KeptFile). f.bytes) (record { path = e.0; bytes = length e.1 }) (kept_in more) in
    let of_texts = sum_by-cons (λ (o : List ℕ × List ℕ). length o.1) e more in
    omega (arith, of_kept, of_texts, bytes_kept more)
