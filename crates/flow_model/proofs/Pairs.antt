-- What is made of the locals of two models, paired by their places.
use Rattle.std.proofs.Common.{◌≡◌, ℕ, zero, suc, ◌+◌, ◌<◌, ◌≤◌, ◌-◌, Bool, true, false, nat_eq, map, List, [], ◌∷◌, ◌++◌, length, get_or, set, take, drop, drop-cons, length-take, get_or-take, Option, Some, refl, sym, ap, ◌∙◌, arith}
use Rattle.std.specs.Prelude.{min, zip, find}
use Rattle.std.proofs.lemmas.List.{append-nil, append_assoc, drop_all, get_or-append_right, length-append, length-drop, set-append_right}
use Rattle.dart_types.specs.Ty.{Ty}
use Rattle.flow_model.specs.Flow.{IsInOrder, is_of}
use Rattle.flow_model.specs.declared.locals.LocalId.{LocalId}
use Rattle.flow_model.specs.declared.locals.Facts.{Facts}
use Rattle.flow_model.proofs.SameScope.{local_of}

-- the facts that two facts of a local were found as
pub record BothFound (f : Facts → Facts → Facts) (first second : Option Facts) (made : Facts) : Type 0 where
  pub one : Facts
  pub other : Facts
  pub one_is : first ≡ Some one
  pub other_is : second ≡ Some other
  pub made_is : f one other ≡ made

module _ (f : Facts → Facts → Facts) where
  -- what is made of them
  abbrev pub paired : List Facts → List Facts → List Facts
  paired ls ms = map (λ pair. f pair.0 pair.1) (zip ls ms)

  -- the locals up to a place, and the one at it
  pub paired-more : (ls ms : List Facts) (i : ℕ) (l m : Facts) → i < length ls → i < length ms → l ≡ get_or ls i l → m ≡ get_or ms i m → paired (take (suc i) ls) (take (suc i) ms) ≡ paired (take i ls) (take i ms) ++ f l m ∷ []
  paired-more [] ms i l m in_ls in_ms is_l is_m = absurd (omega arith)
  paired-more (x ∷ xs) [] i l m in_ls in_ms is_l is_m = absurd (omega arith)
  paired-more (x ∷ xs) (y ∷ ys) zero l m in_ls in_ms is_l is_m = rw (is_l, is_m) refl
  paired-more (x ∷ xs) (y ∷ ys) (suc i) l m in_ls in_ms is_l is_m =
      ap (λ (js : List Facts). f x y ∷ js) (paired-more xs ys i l m (omega arith) (omega arith) is_l is_m)

  -- the locals up to where the shorter list ends are all of them
  pub paired-whole : (ls ms : List Facts) (i : ℕ) → i ≡ min (length ls) (length ms) → paired (take i ls) (take i ms) ≡ paired ls ms
  paired-whole [] ms zero end = refl
  paired-whole [] ms (suc i) end = refl
  paired-whole (l ∷ ls) [] zero end = refl
  paired-whole (l ∷ ls) [] (suc i) end = refl
  paired-whole (l ∷ ls) (m ∷ ms) zero end = absurd (omega (arith, end))
  paired-whole (l ∷ ls) (m ∷ ms) (suc i) end =
      ap (λ (js : List Facts). f l m ∷ js) (paired-whole ls ms i (omega (arith, end)))

  -- what is made of the locals up to a place, and then the first list's as far as both go
  abbrev pub so_far : List Facts → List Facts → ℕ → List Facts
  so_far ls ms i = paired (take i ls) (take i ms) ++ drop i (take (length ms) ls)

  -- how many are made
  length-paired : (ls ms : List Facts) (i : ℕ) → i ≤ length ls → i ≤ length ms → length (paired (take i ls) (take i ms)) ≡ i
  length-paired ls ms zero in_ls in_ms = refl
  length-paired [] ms (suc i) in_ls in_ms = absurd (omega arith)
  length-paired (x ∷ xs) [] (suc i) in_ls in_ms = absurd (omega arith)
  length-paired (x ∷ xs) (y ∷ ys) (suc i) in_ls in_ms = ap suc (length-paired xs ys i (omega arith) (omega arith))

  pub length-so_far : (ls ms : List Facts) (i : ℕ) → i ≤ length (take (length ms) ls) → length (so_far ls ms i) ≡ length (take (length ms) ls)
  length-so_far ls ms i le =
      let in_ls : i ≤ length ls = grind (arith, length-take, le) in
      let in_ms : i ≤ length ms = grind (arith, length-take, le) in
      let made : length (paired (take i ls) (take i ms)) ≡ i = length-paired ls ms i in_ls in_ms in
      let rest : length (drop i (take (length ms) ls)) ≡ length (take (length ms) ls) - i = length-drop i (take (length ms) ls) in
      let both : length (so_far ls ms i) ≡ length (paired (take i ls) (take i ms)) + length (drop i (take (length ms) ls)) = length-append (paired (take i ls) (take i ms)) (drop i (take (length ms) ls)) in
      omega (arith, made, rest, both, le)

  module _ (ls ms : List Facts) (i : ℕ) (l m : Facts) (within : i < length (take (length ms) ls)) (is_l : l ≡ get_or ls i l) (is_m : m ≡ get_or ms i m) where
    in_ls : i < length ls
    in_ls = grind (arith, length-take, within)

    in_ms : i < length ms
    in_ms = grind (arith, length-take, within)

    -- at the place still stands the first list's
    here : drop i (take (length ms) ls) ≡ l ∷ drop (suc i) (take (length ms) ls)
    here =
        drop-cons (take (length ms) ls) i l within
        ∙ ap (λ (k : Facts). k ∷ drop (suc i) (take (length ms) ls)) (get_or-take (length ms) ls i l in_ms ∙ sym is_l)

    -- one more
    more : paired (take i ls) (take i ms) ++ f l m ∷ drop (suc i) (take (length ms) ls) ≡ so_far ls ms (suc i)
    more =
        sym (append_assoc (paired (take i ls) (take i ms)) (f l m ∷ []) (drop (suc i) (take (length ms) ls)))
        ∙ ap (λ (js : List Facts). js ++ drop (suc i) (take (length ms) ls)) (sym (paired-more ls ms i l m in_ls in_ms is_l is_m))

    -- at the place stands the first list's
    pub first-there : l ≡ get_or (so_far ls ms i) i l
    first-there =
        let made = length-paired ls ms i (omega (arith, in_ls)) (omega (arith, in_ms)) in
        let first : i - i ≡ 0 = omega arith in
        sym (get_or-append_right (paired (take i ls) (take i ms)) (drop i (take (length ms) ls)) i i l made (omega arith)
        ∙ (ap (λ (k : ℕ). get_or (drop i (take (length ms) ls)) k l) first
        ∙ ap (λ (js : List Facts). get_or js 0 l) here))

    -- what is made of a local is written over it
    pub changed-more : set (so_far ls ms i) i (f l m) ≡ so_far ls ms (suc i)
    changed-more =
        let made = length-paired ls ms i (omega (arith, in_ls)) (omega (arith, in_ms)) in
        let first : i - i ≡ 0 = omega arith in
        set-append_right (paired (take i ls) (take i ms)) (drop i (take (length ms) ls)) i i (f l m) made (omega arith)
        ∙ (ap (λ (k : ℕ). paired (take i ls) (take i ms) ++ set (drop i (take (length ms) ls)) k (f l m)) first
        ∙ (ap (λ (js : List Facts). paired (take i ls) (take i ms) ++ set js 0 (f l m)) here ∙ more))

  -- at the end of the shorter list all are made
  pub so_far-whole : (ls ms : List Facts) (i : ℕ) → i ≡ length (take (length ms) ls) → so_far ls ms i ≡ paired ls ms
  so_far-whole ls ms i end =
      let shorter : i ≡ min (length ls) (length ms) = grind (arith, length-take, end) in
      ap (λ (js : List Facts). paired (take i ls) (take i ms) ++ js) (drop_all i (take (length ms) ls) (omega (arith, end)))
      ∙ (append-nil (paired (take i ls) (take i ms)) ∙ paired-whole ls ms i shorter)

  module _ (keeps : (l m : Facts) → local_of (f l m) ≡ local_of l) where
    -- what is made of a local is of that local
    number_kept : (l m : Facts) → (f l m).var.0 ≡ l.var.0
    number_kept l m = ap (λ (local : LocalId × Ty). local.0.0) (keeps l m)

    -- of lists of one length it is of the same locals
    pub scope-paired : (ls ms : List Facts) → length ls ≡ length ms → map local_of (paired ls ms) ≡ map local_of ls
    scope-paired [] ms same = refl
    scope-paired (l ∷ ls) [] same = absurd (omega arith)
    scope-paired (l ∷ ls) (m ∷ ms) same =
        rw (keeps l m) (ap (λ (locals : List (LocalId × Ty)). local_of l ∷ locals) (scope-paired ls ms (omega arith)))

    -- at each place that the locals of two models have, the first model has the same local
    paired_at : (ls ms : List Facts) (i : ℕ) (d : Facts) → i < length (paired ls ms) → (i < length ls) × ((get_or (paired ls ms) i d).var.0 ≡ (get_or ls i d).var.0)
    paired_at [] ms i d within = absurd (omega (arith, within))
    paired_at (l ∷ ls) [] i d within = absurd (omega (arith, within))
    paired_at (l ∷ ls) (m ∷ ms) zero d within = (omega arith, number_kept l m)
    paired_at (l ∷ ls) (m ∷ ms) (suc i) d within =
        let behind = paired_at ls ms i d (omega (arith, within)) in
        (omega (arith, behind.0), behind.1)

    -- so they stand in its order
    pub order-paired : (ls ms : List Facts) → IsInOrder ls → IsInOrder (paired ls ms)
    order-paired ls ms order i j d lt within =
        let lesser = paired_at ls ms i d (omega arith) in
        let greater = paired_at ls ms j d within in
        let below = order i j d lt greater.0 in
        rw (lesser.1, greater.1) below

    module _ (var : LocalId) where
      -- whether it is of a local
      is_of_kept : (l m : Facts) → is_of var (f l m) ≡ is_of var l
      is_of_kept l m = ap (λ (k : ℕ). nat_eq k var.0) (number_kept l m)

      -- the step of the next lemma
      find-paired_at : (x y : Facts) (xs ys : List Facts) (l m : Facts) (b : Bool) → is_of var x ≡ b → is_of var y ≡ b → (find (is_of var) xs ≡ Some l → find (is_of var) ys ≡ Some m → find (is_of var) (paired xs ys) ≡ Some (f l m)) → find (is_of var) (x ∷ xs) ≡ Some l → find (is_of var) (y ∷ ys) ≡ Some m → find (is_of var) (paired (x ∷ xs) (y ∷ ys)) ≡ Some (f l m)
      find-paired_at x y xs ys l m true in_x in_y more is_l is_m =
          let first : Some x ≡ Some l = rw in_x at is_l in
          let second : Some y ≡ Some m = rw in_y at is_m in
          let same_l : x ≡ l = cc in
          let same_m : y ≡ m = cc in
          let made : is_of var (f x y) ≡ true = is_of_kept x y ∙ in_x in
          rw made (ap (λ (g : Facts). Some (f g y)) same_l ∙ ap (λ (g : Facts). Some (f l g)) same_m)
      find-paired_at x y xs ys l m false in_x in_y more is_l is_m =
          let made : is_of var (f x y) ≡ false = is_of_kept x y ∙ in_x in
          rw made (more (rw in_x at is_l) (rw in_y at is_m))

      -- what is made of a local of both models
      pub find-paired : (xs ys : List Facts) → map local_of xs ≡ map local_of ys → (l m : Facts) → find (is_of var) xs ≡ Some l → find (is_of var) ys ≡ Some m → find (is_of var) (paired xs ys) ≡ Some (f l m)
      find-paired [] ys same l m is_l is_m = cc
      find-paired (x ∷ xs) [] same l m is_l is_m = cc
      find-paired (x ∷ xs) (y ∷ ys) same l m is_l is_m =
          let first : local_of x ≡ local_of y = cc in
          let rest : map local_of xs ≡ map local_of ys = cc in
          let in_y : is_of var y ≡ is_of var x = ap (λ (local : LocalId × Ty). nat_eq local.0.0 var.0) (sym first) in
          find-paired_at x y xs ys l m (is_of var x) refl in_y (find-paired xs ys rest l m) is_l is_m

      -- the step of the next lemma
      paired_found_at : (x y : Facts) (xs ys : List Facts) (made : Facts) (b : Bool) → is_of var x ≡ b → is_of var y ≡ b → (find (is_of var) (paired xs ys) ≡ Some made → BothFound f (find (is_of var) xs) (find (is_of var) ys) made) → find (is_of var) (paired (x ∷ xs) (y ∷ ys)) ≡ Some made → BothFound f (find (is_of var) (x ∷ xs)) (find (is_of var) (y ∷ ys)) made
      paired_found_at x y xs ys made true in_x in_y more is =
          let here : is_of var (f x y) ≡ true = is_of_kept x y ∙ in_x in
          let found : Some (f x y) ≡ Some made = rw here at is in
          let equal : f x y ≡ made = cc in
          rw (in_x, in_y) (record { one = x; other = y; one_is = refl; other_is = refl; made_is = equal })
      paired_found_at x y xs ys made false in_x in_y more is =
          let here : is_of var (f x y) ≡ false = is_of_kept x y ∙ in_x in
          rw (in_x, in_y) (more (rw here at is))

      -- and what it is made of
      pub paired_found : (xs ys : List Facts) → map local_of xs ≡ map local_of ys → (made : Facts) → find (is_of var) (paired xs ys) ≡ Some made → BothFound f (find (is_of var) xs) (find (is_of var) ys) made
      paired_found [] ys same made is = cc
      paired_found (x ∷ xs) [] same made is = cc
      paired_found (x ∷ xs) (y ∷ ys) same made is =
          let first : local_of x ≡ local_of y = cc in
          let rest : map local_of xs ≡ map local_of ys = cc in
          let in_y : is_of var y ≡ is_of var x = ap (λ (local : LocalId × Ty). nat_eq local.0.0 var.0) (sym first) in
          paired_found_at x y xs ys made (is_of var x) refl in_y (paired_found xs ys rest made) is
