-- What a binary search finds among texts in order, and what an edit at that place does.
use Rattle.std.proofs.Common.{◌≡◌, ℕ, zero, suc, ◌+◌, ◌<◌, not, List, [], ◌∷◌, length, get_or, set, Some, None, Result, Ok, Err, IfOk, IfErr, refl, sym, ap, subst, arith}
use Rattle.std.specs.Prelude.{filter, bytes_eq}
use Rattle.std.specs.List.{insert, remove}
use Rattle.std.specs.List.Sorted.{IsSearchInRange, IsBinarySearchResult, IsNonDecreasingBy}
use Rattle.std.specs.Ordering.{ordering_index, is_lt}
use Rattle.std.specs.declared.cmp.Ordering.TheVariants.{Less, Greater}
use Rattle.std.proofs.lemmas.Cmp.{nat_list_cmp_total}
use Rattle.std.proofs.lemmas.List.{length-map, get_or-map}
use Rattle.std.proofs.lemmas.List.Sorted.{searchable_from_sorted}
use Rattle.std.proofs.lemmas.Map.Keys.{Less-from_sorted, sorted_head, sorted_tail}
use Rattle.overlays.specs.Tables.{PathsAndTexts, IsInOrder, text_in, put_text, drop_text}
use Rattle.overlays.specs.Places.{StandsAt, WouldStandAt}
use Rattle.overlays.proofs.Paths.{path_cmp, turned, same_path, compares_equal, is_same, differs-below, differs-above}
use Rattle.overlays.proofs.Order.{paths_of, AllBehind}

-- of two places the earlier has the smaller path
rises : (table : PathsAndTexts) → IsInOrder table → (i j : ℕ) (d : List ℕ × List ℕ) → i < j → j < length table → path_cmp (get_or table i d).0 (get_or table j d).0 ≡ Less
rises table order i j d before within =
    let size = length-map table (λ (e : List ℕ × List ℕ). e.0) in
    let at = λ (k : ℕ) (k_within : k < length table). get_or-map (λ (e : List ℕ × List ℕ). e.0) table k d d.0 k_within in
    let less = Less-from_sorted path_cmp (paths_of table) i j d.0 order before (omega arith) in
    subst (λ q. path_cmp (get_or table i d).0 q ≡ Less) (at j within) (subst (λ p. path_cmp p (get_or (paths_of table) j d.0) ≡ Less) (at i (omega arith)) less)

-- the comparisons with a path rise along the texts, as a binary search asks
comparisons_rise : (table : PathsAndTexts) → IsInOrder table → (path : List ℕ) → IsNonDecreasingBy (λ e. ordering_index (path_cmp e.0 path)) table
comparisons_rise table order path =
    searchable_from_sorted nat_list_cmp_total (λ (e : List ℕ × List ℕ). e.0) table path
    (λ k d from to. ap is_lt (turned (get_or table k d).0 (get_or table (k + 1) d).0 Less (rises table order k (k + 1) d (omega arith) to)))

-- a binary search by paths ends where the path stands, or would stand
pub searched : (table : PathsAndTexts) → IsInOrder table → (path : List ℕ) (r : Result ℕ ℕ) → IsSearchInRange r (length table) → IsBinarySearchResult (λ e. path_cmp e.0 path) table r → record { found : IfOk r (StandsAt table path); absent : IfErr r (WouldStandAt table path) }
searched table order path (Ok at) in_range equal = record { found = record { in_range = in_range; is_it = λ d. same_path _ path (equal d) }; absent = tt }
searched table order path (Err at) in_range parted = record {
  found = tt;
  absent = record {
    in_range = in_range;
    smaller_before = λ j d before. (parted (comparisons_rise table order path)).0 j d (omega arith) before;
    greater_after = λ j d from to. (parted (comparisons_rise table order path)).1 j d from to;
  };
}

module _ (path : List ℕ) where
  -- the path stands behind the first text
  stands_in_tail : (e : List ℕ × List ℕ) (more : PathsAndTexts) (i : ℕ) → StandsAt (e ∷ more) path (suc i) → StandsAt more path i
  stands_in_tail e more i stands = record { in_range = omega (arith, stands.in_range); is_it = stands.is_it }

  first_is_smaller : (e : List ℕ × List ℕ) (more : PathsAndTexts) (i : ℕ) → IsInOrder (e ∷ more) → StandsAt (e ∷ more) path (suc i) → path_cmp path e.0 ≡ Greater
  first_is_smaller e more i order stands =
      turned e.0 path Less (subst (λ q. path_cmp e.0 q ≡ Less) (stands.is_it e) (rises (e ∷ more) order 0 (suc i) e (omega arith) stands.in_range))

  -- its text is the one there
  pub text_there : (table : PathsAndTexts) (i : ℕ) (d : List ℕ × List ℕ) → IsInOrder table → StandsAt table path i → text_in path table ≡ Some (get_or table i d).1
  unfolding text_in
  text_there [] i d order stands = absurd (omega (arith, stands.in_range))
  text_there (e ∷ more) zero d order stands = rw (is_same path e.0 (sym (stands.is_it d))) refl
  text_there (e ∷ more) (suc i) d order stands =
      rw (differs-above path e.0 (first_is_smaller e more i order stands))
      (text_there more i d (sorted_tail path_cmp e.0 (paths_of more) order) (stands_in_tail e more i stands))

  -- a text that is put at the path is written there
  pub put_there : (text : List ℕ) (table : PathsAndTexts) (i : ℕ) → IsInOrder table → StandsAt table path i → put_text path text table ≡ set table i (path, text)
  unfolding put_text
  put_there text [] i order stands = absurd (omega (arith, stands.in_range))
  put_there text (e ∷ more) zero order stands = rw (compares_equal path e.0 (sym (stands.is_it e))) refl
  put_there text (e ∷ more) (suc i) order stands =
      rw (first_is_smaller e more i order stands)
      (ap (λ (table : PathsAndTexts). e ∷ table) (put_there text more i (sorted_tail path_cmp e.0 (paths_of more) order) (stands_in_tail e more i stands)))

  -- texts behind the path aren't dropped with it
  kept_behind : (table : PathsAndTexts) → AllBehind path (paths_of table) → filter (λ e. not (bytes_eq path e.0)) table ≡ table
  kept_behind [] all = refl
  kept_behind (e ∷ more) all = rw (differs-below path e.0 all.0) (ap (λ (table : PathsAndTexts). e ∷ table) (kept_behind more all.1))

  -- without the text of the path, what stands there is removed
  filter_there : (table : PathsAndTexts) (i : ℕ) → IsInOrder table → StandsAt table path i → filter (λ e. not (bytes_eq path e.0)) table ≡ remove table i
  filter_there [] i order stands = absurd (omega (arith, stands.in_range))
  filter_there (e ∷ more) zero order stands =
      rw (is_same path e.0 (sym (stands.is_it e)))
      (kept_behind more (subst (λ p. AllBehind p (paths_of more)) (stands.is_it e) (sorted_head path_cmp e.0 (paths_of more) order)))
  filter_there (e ∷ more) (suc i) order stands =
      rw (differs-above path e.0 (first_is_smaller e more i order stands))
      (ap (λ (table : PathsAndTexts). e ∷ table) (filter_there more i (sorted_tail path_cmp e.0 (paths_of more) order) (stands_in_tail e more i stands)))

  pub drop_there : (table : PathsAndTexts) (i : ℕ) → IsInOrder table → StandsAt table path i → drop_text path table ≡ remove table i
  unfolding drop_text
  drop_there table i order stands = filter_there table i order stands

  -- a gap before the first text is one before those behind it
  gap_at_front : (e : List ℕ × List ℕ) (more : PathsAndTexts) → WouldStandAt (e ∷ more) path zero → WouldStandAt more path zero
  gap_at_front e more gap = record {
    in_range = omega arith;
    smaller_before = λ j d before. absurd (omega (arith, before));
    greater_after = λ j d from to. gap.greater_after (suc j) d (omega arith) (omega (arith, to));
  }

  -- a gap behind the first text stands in the tail
  gap_in_tail : (e : List ℕ × List ℕ) (more : PathsAndTexts) (i : ℕ) → WouldStandAt (e ∷ more) path (suc i) → WouldStandAt more path i
  gap_in_tail e more i gap = record {
    in_range = omega (arith, gap.in_range);
    smaller_before = λ j d before. gap.smaller_before (suc j) d (omega (arith, before));
    greater_after = λ j d from to. gap.greater_after (suc j) d (omega (arith, from)) (omega (arith, to));
  }

  -- the first text is behind a gap before it, and before any other gap
  first_is_behind : (e : List ℕ × List ℕ) (more : PathsAndTexts) → WouldStandAt (e ∷ more) path zero → path_cmp path e.0 ≡ Less
  first_is_behind e more gap = turned e.0 path Greater (gap.greater_after 0 e (omega arith) (omega arith))

  first_is_before : (e : List ℕ × List ℕ) (more : PathsAndTexts) (i : ℕ) → WouldStandAt (e ∷ more) path (suc i) → path_cmp path e.0 ≡ Greater
  first_is_before e more i gap = turned e.0 path Less (gap.smaller_before 0 e (omega arith))

  -- a path with a gap has no text
  pub text_absent : (table : PathsAndTexts) (i : ℕ) → WouldStandAt table path i → text_in path table ≡ None
  unfolding text_in
  text_absent [] i gap = refl
  text_absent (e ∷ more) zero gap = rw (differs-below path e.0 (first_is_behind e more gap)) (text_absent more zero (gap_at_front e more gap))
  text_absent (e ∷ more) (suc i) gap = rw (differs-above path e.0 (first_is_before e more i gap)) (text_absent more i (gap_in_tail e more i gap))

  -- a text that is put at the path goes into the gap
  pub put_absent : (text : List ℕ) (table : PathsAndTexts) (i : ℕ) → WouldStandAt table path i → put_text path text table ≡ insert table i (path, text)
  unfolding put_text
  put_absent text [] zero gap = refl
  put_absent text [] (suc i) gap = absurd (omega (arith, gap.in_range))
  put_absent text (e ∷ more) zero gap = rw (first_is_behind e more gap) refl
  put_absent text (e ∷ more) (suc i) gap =
      rw (first_is_before e more i gap)
      (ap (λ (table : PathsAndTexts). e ∷ table) (put_absent text more i (gap_in_tail e more i gap)))

  -- nothing is dropped
  filter_absent : (table : PathsAndTexts) (i : ℕ) → WouldStandAt table path i → filter (λ e. not (bytes_eq path e.0)) table ≡ table
  filter_absent [] i gap = refl
  filter_absent (e ∷ more) zero gap =
      rw (differs-below path e.0 (first_is_behind e more gap))
      (ap (λ (table : PathsAndTexts). e ∷ table) (filter_absent more zero (gap_at_front e more gap)))
  filter_absent (e ∷ more) (suc i) gap =
      rw (differs-above path e.0 (first_is_before e more i gap))
      (ap (λ (table : PathsAndTexts). e ∷ table) (filter_absent more i (gap_in_tail e more i gap)))

  pub drop_absent : (table : PathsAndTexts) (i : ℕ) → WouldStandAt table path i → drop_text path table ≡ table
  unfolding drop_text
  drop_absent table i gap = filter_absent table i gap
