-- What a test finds in a list, and what is kept or changed of the list by it, from the places at which it holds.
use Rattle.std.proofs.Common.{◌≡◌, ℕ, zero, suc, ◌<◌, ◌≤◌, Bool, true, false, ◌&&◌, List, [], ◌∷◌, ◌++◌, length, get_or, set, take, drop, map, if◌then◌else◌, Option, Some, None, refl, ap, ◌∙◌, arith, drop-cons}
use Rattle.std.specs.Prelude.{filter, find}
use Rattle.std.specs.List.{remove, AllWithin}
use Rattle.std.specs.Option.{option_map}

module _ {X : Type 0} (p : X → Bool) where
  -- the test answers b at each place from i on and below k
  abbrev pub Answers : Bool → List X → ℕ → ℕ → Type 0
  Answers b xs i k = AllWithin (λ x. p x ≡ b) xs i k

  -- in the tail each item is one place lower
  answers_tail : (b : Bool) (x : X) (xs : List X) (i k : ℕ) → Answers b (x ∷ xs) (suc i) (suc k) → Answers b xs i k
  answers_tail b x xs i k h j d from to = h (suc j) d (omega arith) (omega arith)

  -- the same where the whole front is meant
  answers_front : (b : Bool) (x : X) (xs : List X) (k : ℕ) → Answers b (x ∷ xs) 0 (suc k) → Answers b xs 0 k
  answers_front b x xs k h j d from to = h (suc j) d (omega arith) (omega arith)

  -- what fails everywhere isn't found
  pub find_none : (xs : List X) → Answers false xs 0 (length xs) → find p xs ≡ None
  find_none [] fails = refl
  find_none (x ∷ xs) fails =
      rw (fails 0 x (omega arith) (omega arith)) (find_none xs (answers_front false x xs (length xs) fails))

  -- the first item that passes is found
  pub find_at : (xs : List X) (i : ℕ) (d : X) → i < length xs → Answers false xs 0 i → p (get_or xs i d) ≡ true → find p xs ≡ Some (get_or xs i d)
  find_at [] i d within fails here = absurd (omega arith)
  find_at (x ∷ xs) zero d within fails here = rw here refl
  find_at (x ∷ xs) (suc i) d within fails here =
      rw (fails 0 x (omega arith) (omega arith)) (find_at xs i d (omega arith) (answers_front false x xs i fails) here)

  -- the item at a place is found from there on, or what is found behind it
  pub find-drop : (xs : List X) (i : ℕ) (x : X) → i < length xs → x ≡ get_or xs i x → find p (drop i xs) ≡ (if p x then Some x else find p (drop (suc i) xs))
  find-drop xs i x within is = rw (drop-cons xs i x, ← is) refl

  -- a list whose items all pass is kept
  pub filter_all : (xs : List X) → Answers true xs 0 (length xs) → filter p xs ≡ xs
  filter_all [] passes = refl
  filter_all (x ∷ xs) passes =
      rw (passes 0 x (omega arith) (omega arith)) (ap (λ (ys : List X). x ∷ ys) (filter_all xs (answers_front true x xs (length xs) passes)))

  -- of a list whose items all fail nothing is kept
  pub filter_none : (xs : List X) → Answers false xs 0 (length xs) → filter p xs ≡ []
  filter_none [] fails = refl
  filter_none (x ∷ xs) fails =
      rw (fails 0 x (omega arith) (omega arith)) (filter_none xs (answers_front false x xs (length xs) fails))

  -- where the items before a place pass and the others fail, those before it are kept
  pub filter_front : (xs : List X) (i : ℕ) → i ≤ length xs → Answers true xs 0 i → Answers false xs i (length xs) → filter p xs ≡ take i xs
  filter_front xs zero within passes fails = filter_none xs fails
  filter_front [] (suc i) within passes fails = absurd (omega arith)
  filter_front (x ∷ xs) (suc i) within passes fails =
      rw (passes 0 x (omega arith) (omega arith)) (ap (λ (ys : List X). x ∷ ys) (filter_front xs i (omega arith) (answers_front true x xs i passes) (answers_tail false x xs i (length xs) fails)))

  -- where the items before a place fail and the others pass, those from it on are kept
  pub filter_back : (xs : List X) (i : ℕ) → i ≤ length xs → Answers false xs 0 i → Answers true xs i (length xs) → filter p xs ≡ drop i xs
  filter_back xs zero within fails passes = filter_all xs passes
  filter_back [] (suc i) within fails passes = absurd (omega arith)
  filter_back (x ∷ xs) (suc i) within fails passes =
      rw (fails 0 x (omega arith) (omega arith)) (filter_back xs i (omega arith) (answers_front false x xs i fails) (answers_tail true x xs i (length xs) passes))

  -- where one item alone fails, all but it are kept
  pub filter_but : (xs : List X) (i : ℕ) (d : X) → i < length xs → Answers true xs 0 i → p (get_or xs i d) ≡ false → Answers true xs (suc i) (length xs) → filter p xs ≡ remove xs i
  filter_but [] i d within before here after = absurd (omega arith)
  filter_but (x ∷ xs) zero d within before here after =
      rw here (filter_all xs (answers_tail true x xs 0 (length xs) after))
  filter_but (x ∷ xs) (suc i) d within before here after =
      rw (before 0 x (omega arith) (omega arith)) (ap (λ (ys : List X). x ∷ ys) (filter_but xs i d (omega arith) (answers_front true x xs i before) here (answers_tail true x xs (suc i) (length xs) after)))

  -- a change of the items that pass changes nothing where all fail
  pub map_none : (f : X → X) (xs : List X) → Answers false xs 0 (length xs) → map (λ x. if p x then f x else x) xs ≡ xs
  map_none f [] fails = refl
  map_none f (x ∷ xs) fails =
      rw (fails 0 x (omega arith) (omega arith)) (ap (λ (ys : List X). x ∷ ys) (map_none f xs (answers_front false x xs (length xs) fails)))

  -- where one item alone passes, a change of those that pass is a write at its place
  pub map_at : (f : X → X) (xs : List X) (i : ℕ) (d : X) → i < length xs → Answers false xs 0 i → p (get_or xs i d) ≡ true → Answers false xs (suc i) (length xs) → map (λ x. if p x then f x else x) xs ≡ set xs i (f (get_or xs i d))
  map_at f [] i d within before here after = absurd (omega arith)
  map_at f (x ∷ xs) zero d within before here after =
      rw here (ap (λ (ys : List X). f x ∷ ys) (map_none f xs (answers_tail false x xs 0 (length xs) after)))
  map_at f (x ∷ xs) (suc i) d within before here after =
      rw (before 0 x (omega arith) (omega arith)) (ap (λ (ys : List X). x ∷ ys) (map_at f xs i d (omega arith) (answers_front false x xs i before) here (answers_tail false x xs (suc i) (length xs) after)))

-- two changes that are the same of each item
pub map-same : {X : Type 0} (f g : X → X) → ((x : X) → f x ≡ g x) → (xs : List X) → map f xs ≡ map g xs
map-same f g same [] = refl
map-same f g same (x ∷ xs) = rw (same x) (ap (λ ys. g x ∷ ys) (map-same f g same xs))

-- an item that passes the second test is kept or left by the first
filter-filter-at : {X : Type 0} (p q r : X → Bool) (x : X) (xs : List X) (a b : Bool) → p x ≡ a → q x ≡ b → r x ≡ (a && b) → filter q (filter p xs) ≡ filter r xs → filter q (filter p (x ∷ xs)) ≡ filter r (x ∷ xs)
filter-filter-at p q r x xs true true ep eq er more = rw (ep, eq, er) (ap (λ ys. x ∷ ys) more)
filter-filter-at p q r x xs true false ep eq er more = rw (ep, eq, er) more
filter-filter-at p q r x xs false b ep eq er more = rw (ep, er) more

-- two filters one after the other keep what passes both tests
pub filter-filter : {X : Type 0} (p q r : X → Bool) → ((x : X) → r x ≡ (p x && q x)) → (xs : List X) → filter q (filter p xs) ≡ filter r xs
filter-filter p q r both [] = refl
filter-filter p q r both (x ∷ xs) = filter-filter-at p q r x xs (p x) (q x) refl refl (both x) (filter-filter p q r both xs)

-- what is found in a list of which the back has nothing
pub find-append_left : {X : Type 0} (p : X → Bool) (xs ys : List X) → find p ys ≡ None → find p (xs ++ ys) ≡ find p xs
find-append_left p [] ys none = none
find-append_left p (x ∷ xs) ys none = ap (λ o. if p x then Some x else o) (find-append_left p xs ys none)

-- an item that fails in front of a list of which nothing is found
find_behind : {X : Type 0} (p : X → Bool) (x : X) (found : Option X) (b : Bool) → p x ≡ b → (if p x then Some x else found) ≡ None → (p x ≡ false) × (found ≡ None)
find_behind p x found true passes none = let h = rw passes at none in cc
find_behind p x found false fails none = (fails, rw fails at none)

-- what is found in a list of which the front has nothing
pub find-append_right : {X : Type 0} (p : X → Bool) (xs ys : List X) → find p xs ≡ None → find p (xs ++ ys) ≡ find p ys
find-append_right p [] ys none = refl
find-append_right p (x ∷ xs) ys none =
    let both = find_behind p x (find p xs) (p x) refl none in
    rw both.0 (find-append_right p xs ys both.1)

-- where nothing is found, the test fails everywhere
pub fails_from_none : {X : Type 0} (p : X → Bool) (xs : List X) → find p xs ≡ None → Answers p false xs 0 (length xs)
fails_from_none p [] none j d from to = absurd (omega arith)
fails_from_none p (x ∷ xs) none zero d from to = (find_behind p x (find p xs) (p x) refl none).0
fails_from_none p (x ∷ xs) none (suc j) d from to =
    fails_from_none p xs (find_behind p x (find p xs) (p x) refl none).1 j d (omega arith) (omega arith)

module _ {X : Type 0} (p q : X → Bool) where
  -- the step of the next lemma
  find-filter_kept_at : (x : X) (xs : List X) (a b : Bool) → p x ≡ a → q x ≡ b → (p x ≡ true → q x ≡ true) → find p (filter q xs) ≡ find p xs → find p (filter q (x ∷ xs)) ≡ find p (x ∷ xs)
  find-filter_kept_at x xs true true ep eq keeps more = rw (eq, ep) refl
  find-filter_kept_at x xs true false ep eq keeps more = let h = keeps ep in cc
  find-filter_kept_at x xs false true ep eq keeps more = rw (eq, ep) more
  find-filter_kept_at x xs false false ep eq keeps more = rw (eq, ep) more

  -- a filter that keeps all that the test finds
  pub find-filter_kept : ((x : X) → p x ≡ true → q x ≡ true) → (xs : List X) → find p (filter q xs) ≡ find p xs
  find-filter_kept keeps [] = refl
  find-filter_kept keeps (x ∷ xs) = find-filter_kept_at x xs (p x) (q x) refl refl (keeps x) (find-filter_kept keeps xs)

  -- the step of the next lemma
  find-filter_left_at : (x : X) (xs : List X) (a b : Bool) → p x ≡ a → q x ≡ b → (p x ≡ true → q x ≡ false) → find p (filter q xs) ≡ None → find p (filter q (x ∷ xs)) ≡ None
  find-filter_left_at x xs a false ep eq leaves more = rw eq more
  find-filter_left_at x xs true true ep eq leaves more = let h = leaves ep in cc
  find-filter_left_at x xs false true ep eq leaves more = rw (eq, ep) more

  -- a filter that leaves out all that the test finds
  pub find-filter_left : ((x : X) → p x ≡ true → q x ≡ false) → (xs : List X) → find p (filter q xs) ≡ None
  find-filter_left leaves [] = refl
  find-filter_left leaves (x ∷ xs) = find-filter_left_at x xs (p x) (q x) refl refl (leaves x) (find-filter_left leaves xs)

module _ {X : Type 0} (p : X → Bool) (f : X → X) where
  -- the step of the next lemma
  find-map_same_at : (x : X) (xs : List X) (b : Bool) → p x ≡ b → p (f x) ≡ p x → find p (map (λ y. if p y then f y else y) xs) ≡ option_map f (find p xs) → find p (map (λ y. if p y then f y else y) (x ∷ xs)) ≡ option_map f (find p (x ∷ xs))
  find-map_same_at x xs true e keeps more = let h : p (f x) ≡ true = keeps ∙ e in rw (e, h) refl
  find-map_same_at x xs false e keeps more = rw (e, e) more

  -- what the test finds after a change of what passes it
  pub find-map_same : ((x : X) → p (f x) ≡ p x) → (xs : List X) → find p (map (λ y. if p y then f y else y) xs) ≡ option_map f (find p xs)
  find-map_same keeps [] = refl
  find-map_same keeps (x ∷ xs) = find-map_same_at x xs (p x) refl (keeps x) (find-map_same keeps xs)

module _ {X : Type 0} (p q : X → Bool) (f : X → X) where
  -- the step of the next lemma
  find-map_other_at : (x : X) (xs : List X) (b : Bool) → p x ≡ b → (p x ≡ true → (q x ≡ false) × (q (f x) ≡ false)) → find q (map (λ y. if p y then f y else y) xs) ≡ find q xs → find q (map (λ y. if p y then f y else y) (x ∷ xs)) ≡ find q (x ∷ xs)
  find-map_other_at x xs true e apart more = let h = apart e in rw (e, h.0, h.1) more
  find-map_other_at x xs false e apart more = rw (e) (ap (λ o. if q x then Some x else o) more)

  -- what another test finds after that change
  pub find-map_other : ((x : X) → p x ≡ true → (q x ≡ false) × (q (f x) ≡ false)) → (xs : List X) → find q (map (λ y. if p y then f y else y) xs) ≡ find q xs
  find-map_other apart [] = refl
  find-map_other apart (x ∷ xs) = find-map_other_at x xs (p x) refl (apart x) (find-map_other apart xs)
