-- Texts stay in the order of their paths.
use Rattle.std.proofs.Common.{◌≡◌, ℕ, Bool, true, false, List, [], ◌∷◌, map, refl, sym, ap, subst, cond, not}
use Rattle.std.specs.Prelude.{filter, bytes_eq}
use Rattle.std.specs.List.{AllByRecursion}
use Rattle.std.specs.List.Sorted.{IsStrictlySortedBy}
use Rattle.std.specs.Ordering.{match_ordering}
use Rattle.std.specs.declared.cmp.Ordering.TheVariants.{Less, Greater}
use Rattle.std.proofs.lemmas.List.Kept.{IsStrictlySortedBy-filter}
use Rattle.std.proofs.lemmas.Map.Keys.{sorted_head, sorted_tail}
use Rattle.overlays.specs.Tables.{PathsAndTexts, IsInOrder, put_text, drop_text}
use Rattle.overlays.proofs.Paths.{path_cmp, by_order, turned, chained, same_path}

-- the paths of texts
abbrev pub paths_of : PathsAndTexts → List (List ℕ)
paths_of table = map (λ e. e.0) table

-- each path comes behind p
abbrev pub AllBehind : List ℕ → List (List ℕ) → Type 0
AllBehind p paths = AllByRecursion (λ q. path_cmp p q ≡ Less) paths

-- what comes behind a path that comes behind p comes behind p
pub all_behind : (p q : List ℕ) → path_cmp p q ≡ Less → (paths : List (List ℕ)) → AllBehind q paths → AllBehind p paths
all_behind p q before [] all = tt
all_behind p q before (r ∷ paths) all = (chained p q r before all.0, all_behind p q before paths all.1)

-- a first path before all others is in order
first_in_order : (p : List ℕ) (paths : List (List ℕ)) → AllBehind p paths → IsStrictlySortedBy path_cmp paths → IsStrictlySortedBy path_cmp (p ∷ paths)
unfolding IsStrictlySortedBy
first_in_order p paths all order = (all, order)

-- no texts are in order
pub none_in_order : IsInOrder []
unfolding IsStrictlySortedBy
none_in_order = tt

-- a text that is put at a path behind p keeps all paths behind p
all_behind-put : (p path text : List ℕ) (table : PathsAndTexts) → path_cmp p path ≡ Less → AllBehind p (paths_of table) → AllBehind p (paths_of (put_text path text table))
unfolding put_text
all_behind-put p path text [] before all = (before, tt)
all_behind-put p path text (e ∷ more) before all =
    by_order path e.0 (λ o. AllBehind p (paths_of (match_ordering o ((path, text) ∷ e ∷ more) ((path, text) ∷ more) (e ∷ put_text path text more))))
    (λ _. (before, all)) (λ _. (before, all.1)) (λ _. (all.0, all_behind-put p path text more before all.1))

-- texts are in order after one is put at its path
pub order-put : (path text : List ℕ) (table : PathsAndTexts) → IsInOrder table → IsInOrder (put_text path text table)
unfolding put_text
order-put path text [] order = first_in_order path [] tt none_in_order
order-put path text (e ∷ more) order =
    let head = sorted_head path_cmp e.0 (paths_of more) order in
    let tail = sorted_tail path_cmp e.0 (paths_of more) order in
    by_order path e.0 (λ o. IsInOrder (match_ordering o ((path, text) ∷ e ∷ more) ((path, text) ∷ more) (e ∷ put_text path text more)))
    (λ less. first_in_order path (e.0 ∷ paths_of more) (less, all_behind path e.0 less (paths_of more) head) order)
    (λ equal. first_in_order path (paths_of more) (subst (λ p. AllBehind p (paths_of more)) (sym (same_path path e.0 equal)) head) tail)
    (λ greater. first_in_order e.0 (paths_of (put_text path text more)) (all_behind-put e.0 path text more (turned path e.0 Greater greater) head) (order-put path text more tail))

-- the paths of the kept texts are the kept paths
paths-filter : (p : List ℕ → Bool) (table : PathsAndTexts) → paths_of (filter (λ e. p e.0) table) ≡ filter p (paths_of table)
paths-filter p [] = refl
paths-filter p (e ∷ more) =
    elim (p e.0) as (λ b. paths_of (cond b (e ∷ filter (λ e. p e.0) more) (filter (λ e. p e.0) more)) ≡ cond b (e.0 ∷ filter p (paths_of more)) (filter p (paths_of more))) [
      | true ↦ ap (λ paths. e.0 ∷ paths) (paths-filter p more)
      | false ↦ paths-filter p more
    ]

-- texts are in order after one is dropped
pub order-drop : (path : List ℕ) (table : PathsAndTexts) → IsInOrder table → IsInOrder (drop_text path table)
unfolding drop_text
order-drop path table order =
    let others = λ (q : List ℕ). not (bytes_eq path q) in
    subst (IsStrictlySortedBy path_cmp) (sym (paths-filter others table)) (IsStrictlySortedBy-filter path_cmp others (paths_of table) order)
