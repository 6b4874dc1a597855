-- What a binary search finds among files in order, and what an insertion at that place does.
use Rattle.std.proofs.Common.{◌≡◌, ℕ, zero, suc, ◌+◌, ◌<◌, Bool, true, false, List, [], ◌∷◌, length, map, get_or, Some, None, Result, Ok, Err, IfOk, IfErr, refl, sym, ap, subst, arith, cond, T}
use Rattle.std.specs.Prelude.{◌&&◌, is_some}
use Rattle.std.specs.FinMap.Entries.{put, find, below_all, is_sorted-put}
use Rattle.std.specs.List.{insert, AllByRecursion}
use Rattle.std.specs.List.Sorted.{IsSearchInRange, IsBinarySearchResult, IsNonDecreasingBy, IsStrictlySortedBy}
use Rattle.std.specs.Ordering.{ordering_index, is_lt, is_eq}
use Rattle.std.specs.declared.cmp.Ordering.{Ordering}
use Rattle.std.specs.declared.cmp.Ordering.TheVariants.{Less, Equal, Greater}
use Rattle.std.proofs.lemmas.Cmp.{nat_list_cmp_total}
use Rattle.std.proofs.lemmas.List.{length-map, get_or-map}
use Rattle.std.proofs.lemmas.List.Sorted.{searchable_from_sorted}
use Rattle.std.proofs.lemmas.Map.Keys.{Less-from_sorted}
use Rattle.load_files.specs.Tables.{Table, IsInOrder, path_cmp, contents_at, with_contents}
use Rattle.load_files.specs.Places.{StandsAt, WouldStandAt}
use Rattle.load_files.specs.declared.contents.FileContents.{FileContents}
use Rattle.load_files.proofs.PathOrder.{turned, same_path, compares_equal}

-- the paths of files
abbrev pub paths_of : Table → List (List ℕ)
paths_of table = map (λ f. f.0) table

-- the parts of a test that both hold
pub front_holds : (a b : Bool) → T (a && b) → T a
front_holds true b h = tt
front_holds false b h = absurd h

pub back_holds : (a b : Bool) → T (a && b) → T b
back_holds true b h = h
back_holds false b h = absurd h

pub less_holds : (o : Ordering) → T (is_lt o) → o ≡ Less
less_holds Less h = refl
less_holds Equal h = absurd h
less_holds Greater h = absurd h

-- each path comes behind p
behind : (p : List ℕ) (table : Table) → T (below_all path_cmp p table) → AllByRecursion (λ q. path_cmp p q ≡ Less) (paths_of table)
behind p [] h = tt
behind p (f ∷ table) h = (less_holds _ (front_holds _ _ h), behind p table (back_holds _ _ h))

-- the test of the order says that the paths rise
rising : (table : Table) → IsInOrder table → IsStrictlySortedBy path_cmp (paths_of table)
unfolding IsStrictlySortedBy
rising [] order = tt
rising (f ∷ table) order = (behind f.0 table (front_holds _ _ order), rising table (back_holds _ _ order))

-- of two places the earlier has the smaller path
rises : (table : Table) → IsInOrder table → (i j : ℕ) (d : List ℕ × FileContents) → i < j → j < length table → path_cmp (get_or table i d).0 (get_or table j d).0 ≡ Less
rises table order i j d before within =
    let size = length-map table (λ (f : List ℕ × FileContents). f.0) in
    let at = λ (k : ℕ) (k_within : k < length table). get_or-map (λ (f : List ℕ × FileContents). f.0) table k d d.0 k_within in
    let less = Less-from_sorted path_cmp (paths_of table) i j d.0 (rising table order) before (omega arith) in
    subst (λ q. path_cmp (get_or table i d).0 q ≡ Less) (at j within) (subst (λ p. path_cmp p (get_or (paths_of table) j d.0) ≡ Less) (at i (omega arith)) less)

-- the comparisons with a path rise along the files, as a binary search asks
comparisons_rise : (table : Table) → IsInOrder table → (path : List ℕ) → IsNonDecreasingBy (λ f. ordering_index (path_cmp f.0 path)) table
comparisons_rise table order path =
    searchable_from_sorted nat_list_cmp_total (λ (f : List ℕ × FileContents). f.0) table path
    (λ k d from to. ap is_lt (turned (get_or table k d).0 (get_or table (k + 1) d).0 Less (rises table order k (k + 1) d (omega arith) to)))

-- a binary search by paths ends where the path stands, or would stand
pub searched : (table : Table) → IsInOrder table → (path : List ℕ) (r : Result ℕ ℕ) → IsSearchInRange r (length table) → IsBinarySearchResult (λ f. path_cmp f.0 path) table r → record { found : IfOk r (StandsAt table path); absent : IfErr r (WouldStandAt table path) }
searched table order path (Ok at) in_range equal = record { found = record { in_range = in_range; is_it = λ d. same_path _ path (equal d) }; absent = tt }
searched table order path (Err at) in_range parted = record {
  found = tt;
  absent = record {
    in_range = in_range;
    smaller_before = λ j d before. (parted (comparisons_rise table order path)).0 j d (omega arith) before;
    greater_after = λ j d from to. (parted (comparisons_rise table order path)).1 j d from to;
  };
}

module _ (path : List ℕ) where
  -- the path stands behind the first file
  pub stands_in_tail : (f : List ℕ × FileContents) (more : Table) (i : ℕ) → StandsAt (f ∷ more) path (suc i) → StandsAt more path i
  stands_in_tail f more i stands = record { in_range = omega (arith, stands.in_range); is_it = stands.is_it }

  first_is_smaller : (f : List ℕ × FileContents) (more : Table) (i : ℕ) → IsInOrder (f ∷ more) → StandsAt (f ∷ more) path (suc i) → path_cmp path f.0 ≡ Greater
  first_is_smaller f more i order stands =
      turned f.0 path Less (subst (λ q. path_cmp f.0 q ≡ Less) (stands.is_it f) (rises (f ∷ more) order 0 (suc i) f (omega arith) stands.in_range))

  -- what is found there is what stands there
  found_there : (table : Table) (i : ℕ) (d : List ℕ × FileContents) → IsInOrder table → StandsAt table path i → find path_cmp path table ≡ Some (get_or table i d).1
  found_there [] i d order stands = absurd (omega (arith, stands.in_range))
  found_there (f ∷ more) zero d order stands = rw (compares_equal path f.0 (sym (stands.is_it d))) refl
  found_there (f ∷ more) (suc i) d order stands =
      rw (first_is_smaller f more i order stands)
      (found_there more i d (back_holds _ _ order) (stands_in_tail f more i stands))

  pub contents_there : (table : Table) (i : ℕ) (d : List ℕ × FileContents) → IsInOrder table → StandsAt table path i → contents_at path table ≡ Some (get_or table i d).1
  unfolding contents_at
  contents_there table i d order stands = found_there table i d order stands

  -- a gap before the first file is one before those behind it
  gap_at_front : (f : List ℕ × FileContents) (more : Table) → WouldStandAt (f ∷ more) path zero → WouldStandAt more path zero
  gap_at_front f more gap = record {
    in_range = omega arith;
    smaller_before = λ j d before. absurd (omega (arith, before));
    greater_after = λ j d from to. gap.greater_after (suc j) d (omega arith) (omega (arith, to));
  }

  -- a gap behind the first file stands in the tail
  gap_in_tail : (f : List ℕ × FileContents) (more : Table) (i : ℕ) → WouldStandAt (f ∷ more) path (suc i) → WouldStandAt more path i
  gap_in_tail f more i gap = record {
    in_range = omega (arith, gap.in_range);
    smaller_before = λ j d before. gap.smaller_before (suc j) d (omega (arith, before));
    greater_after = λ j d from to. gap.greater_after (suc j) d (omega (arith, from)) (omega (arith, to));
  }

  -- the first file is behind a gap before it, and before any other gap
  first_is_behind : (f : List ℕ × FileContents) (more : Table) → WouldStandAt (f ∷ more) path zero → path_cmp path f.0 ≡ Less
  first_is_behind f more gap = turned f.0 path Greater (gap.greater_after 0 f (omega arith) (omega arith))

  first_is_before : (f : List ℕ × FileContents) (more : Table) (i : ℕ) → WouldStandAt (f ∷ more) path (suc i) → path_cmp path f.0 ≡ Greater
  first_is_before f more i gap = turned f.0 path Less (gap.smaller_before 0 f (omega arith))

  -- a path with a gap has no file
  found_absent : (table : Table) (i : ℕ) → WouldStandAt table path i → find path_cmp path table ≡ None
  found_absent [] i gap = refl
  found_absent (f ∷ more) zero gap = rw (first_is_behind f more gap) (found_absent more zero (gap_at_front f more gap))
  found_absent (f ∷ more) (suc i) gap = rw (first_is_before f more i gap) (found_absent more i (gap_in_tail f more i gap))

  pub contents_absent : (table : Table) (i : ℕ) → WouldStandAt table path i → contents_at path table ≡ None
  unfolding contents_at
  contents_absent table i gap = found_absent table i gap

  -- a file that is put at the path goes into the gap
  put_absent : (contents : FileContents) (table : Table) (i : ℕ) → WouldStandAt table path i → put path_cmp path contents table ≡ insert table i (path, contents)
  put_absent contents [] zero gap = refl
  put_absent contents [] (suc i) gap = absurd (omega (arith, gap.in_range))
  put_absent contents (f ∷ more) zero gap = rw (first_is_behind f more gap) refl
  put_absent contents (f ∷ more) (suc i) gap =
      rw (first_is_before f more i gap)
      (ap (λ (table : Table). f ∷ table) (put_absent contents more i (gap_in_tail f more i gap)))

  pub with_absent : (contents : FileContents) (table : Table) (i : ℕ) → WouldStandAt table path i → with_contents path contents table ≡ insert table i (path, contents)
  unfolding with_contents
  with_absent contents table i gap = put_absent contents table i gap

-- a path that stands somewhere has a file, whatever the order
pub some_there : (path : List ℕ) (table : Table) (i : ℕ) → StandsAt table path i → is_some (contents_at path table) ≡ true
unfolding contents_at
some_there path [] i stands = absurd (omega (arith, stands.in_range))
some_there path (f ∷ more) zero stands = rw (compares_equal path f.0 (sym (stands.is_it f))) refl
some_there path (f ∷ more) (suc i) stands =
    elim (is_eq (path_cmp path f.0)) as (λ b. is_some (cond b (Some f.1) (find path_cmp path more)) ≡ true) [
      | true ↦ refl
      | false ↦ some_there path more i (stands_in_tail path f more i stands)
    ]

-- files stay in order with one more
pub order-with : (path : List ℕ) (contents : FileContents) (table : Table) → IsInOrder table → IsInOrder (with_contents path contents table)
unfolding with_contents
order-with path contents table order = is_sorted-put path_cmp nat_list_cmp_total path contents table order
