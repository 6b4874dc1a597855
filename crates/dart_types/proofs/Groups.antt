-- Rows in groups by library: what is looked up in them, and how they grow.
use Rattle.std.proofs.Common.{◌≡◌, ℕ, zero, suc, ◌+◌, ◌<◌, ◌≤◌, ◌++◌, Bool, true, false, List, [], ◌∷◌, length, take, get_or, nat_eq, nat_lt, Option, Some, None, refl, sym, ◌∙◌, ap, subst, cond, arith, inl, inr}
use Rattle.std.specs.Prelude.{◌⊎◌, AllPairs, Contains, find}
use Rattle.std.specs.List.{insert}
use Rattle.std.specs.List.Sorted.{IsPartitionedBy, IsPartitionPoint}
use Rattle.std.specs.Option.{option_or}
use Rattle.std.proofs.lemmas.Bool.Decides.{nat_tests}
use Rattle.std.proofs.lemmas.Bool.{cases_lt}
use Rattle.std.proofs.lemmas.List.{get_or_default, take_more}
use Rattle.std.proofs.lemmas.List.Elements.{Contains-append_left, Contains-append_right, Contains-append_cases}
use Rattle.std.proofs.lemmas.List.Folds.{find-append}
use Rattle.std.proofs.lemmas.List.Kept.{AllPairs-cons}
use Rattle.std.proofs.lemmas.List.Quantifiers.{all_pairs_push}
use Rattle.dart_types.specs.Groups.{all_of, Rise, AreApart, Appends, PutsIn, PutsAll}
use Rattle.dart_types.proofs.Formed.{found_in}
use Rattle.dart_types.proofs.Searches.{find_at, find_none, not_true}
use Rattle.dart_types.proofs.Gathered.{pairs_insert, inserted_in, kept_in, only_in}

-- an element of a list that begins with another is that one, or stands behind it
pub first_or_later : {X : Type 0} (x : X) (xs : List X) (y : X) → Contains (x ∷ xs) y → (x ≡ y) ⊎ Contains xs y
first_or_later x xs y (zero, lt, e) = inl e
first_or_later x xs y (suc k, lt, e) = inr (k, omega arith, e)

pub at_first : {X : Type 0} (x : X) (xs : List X) → Contains (x ∷ xs) x
at_first x xs = (0, omega arith, refl)

pub at_later : {X : Type 0} (x : X) (xs : List X) (y : X) → Contains xs y → Contains (x ∷ xs) y
at_later x xs y i = (suc i.0, omega (arith, i.1), i.2)

-- what holds between the first and each later one, and among these, holds among all
module _ {X : Type 0} (R : X → X → Type 0) where
  pub pairs_behind : (x : X) (xs : List X) → AllPairs R (x ∷ xs) → AllPairs R xs
  pairs_behind x xs h i j d lt within = h (suc i) (suc j) d (omega arith) (omega arith)

  pub pair_of : (xs : List X) (x y : X) → AllPairs R (x ∷ xs) → Contains xs y → R x y
  pair_of xs x y h i = subst (R x) i.2 (h 0 (suc i.0) y (omega arith) (omega (arith, i.1)))

  pub pairs_before : (x : X) (xs : List X) → ((y : X) → Contains xs y → R x y) → AllPairs R xs → AllPairs R (x ∷ xs)
  pairs_before x xs first rest = AllPairs-cons R x xs (λ k d lt. first (get_or xs k d) (k, lt, get_or_default xs k (get_or xs k d) d lt)) rest

  pub pairs_append : (xs ys : List X) → AllPairs R xs → AllPairs R ys → ((x y : X) → Contains xs x → Contains ys y → R x y) → AllPairs R (xs ++ ys)
  pairs_append [] ys h k across = k
  pairs_append (x ∷ xs) ys h k across =
      pairs_before x (xs ++ ys)
      (λ y i. elim (Contains-append_cases xs ys y i) as (λ _. R x y) [ inl l ↦ pair_of xs x y h l | inr r ↦ across x y (at_first x xs) r ])
      (pairs_append xs ys (pairs_behind x xs h) k (λ a b i j. across a b (at_later x xs a i) j))

  pub pairs_left : (xs ys : List X) → AllPairs R (xs ++ ys) → AllPairs R xs
  pairs_left [] ys h = λ i j d lt within. absurd (omega arith)
  pairs_left (x ∷ xs) ys h =
      pairs_before x xs (λ y i. pair_of (xs ++ ys) x y h (Contains-append_left xs ys y i)) (pairs_left xs ys (pairs_behind x (xs ++ ys) h))

  pub pairs_right : (xs ys : List X) → AllPairs R (xs ++ ys) → AllPairs R ys
  pairs_right [] ys h = h
  pairs_right (x ∷ xs) ys h = pairs_right xs ys (pairs_behind x (xs ++ ys) h)

  pub pairs_across : (xs ys : List X) (x y : X) → AllPairs R (xs ++ ys) → Contains xs x → Contains ys y → R x y
  pairs_across [] ys x y h i j = absurd (omega (arith, i.1))
  pairs_across (z ∷ xs) ys x y h i j =
      elim (first_or_later z xs x i) as (λ _. R x y) [
        | inl e ↦ subst (λ (w : X). R w y) e (pair_of (xs ++ ys) z y h (Contains-append_right xs ys y j))
        | inr l ↦ pairs_across xs ys x y (pairs_behind z (xs ++ ys) h) l j
      ]

pub together : {X : Type 0} (xs ys zs : List X) → (xs ++ ys) ++ zs ≡ xs ++ (ys ++ zs)
together [] ys zs = refl
together (x ∷ xs) ys zs = ap (λ ws. x ∷ ws) (together xs ys zs)

pub none_of : {X : Type 0} (xs : List X) → length xs ≡ 0 → xs ≡ []
none_of [] e = refl
none_of (x ∷ xs) e = absurd (omega (arith, e))

pub nat_is : (m n : ℕ) → nat_eq m n ≡ true → m ≡ n
nat_is m n h = grind (arith, nat_tests)

pub nat_not : (m n : ℕ) → nat_eq m n ≡ false → m ≡ n → ⊥
nat_not m n h e = let k : nat_eq m n ≡ true = grind (arith, nat_tests) in let b : true ≡ false = sym k ∙ h in cc

pub nat_same : (m n : ℕ) → m ≡ n → nat_eq m n ≡ true
nat_same m n e = grind (arith, nat_tests)

nat_other : (m n : ℕ) → (m ≡ n → ⊥) → nat_eq m n ≡ false
nat_other m n h = not_true (nat_eq m n) (λ k. h (nat_is m n k))

module _ {X : Type 0} (p : X → Bool) where
  -- where none of a list passes, none is found
  pub none_found : (xs : List X) → ((x : X) → Contains xs x → p x ≡ true → ⊥) → find p xs ≡ None
  none_found xs fails = find_none p xs (λ j d from to. not_true (p (get_or xs j d)) (λ h. fails (get_or xs j d) (j, to, get_or_default xs j (get_or xs j d) d to) h))

  -- where none is found, none passes
  pub missed : (xs : List X) (x : X) → Contains xs x → p x ≡ true → find p xs ≡ None → ⊥
  missed [] x i h none = absurd (omega (arith, i.1))
  missed (y ∷ ys) x i h none = at (p y) refl (λ l. missed ys x l h) none
    where
      at : (b : Bool) → p y ≡ b → (Contains ys x → find p ys ≡ None → ⊥) → cond b (Some y) (find p ys) ≡ None → ⊥
      at true e later f = cc
      at false e later f = elim (first_or_later y ys x i) as (λ _. ⊥) [ inl s ↦ let k : true ≡ false = sym (subst (λ (z : X). p z ≡ true) (sym s) h) ∙ e in cc | inr l ↦ later l f ]

  pub left_found : (xs ys : List X) → find p ys ≡ None → find p (xs ++ ys) ≡ find p xs
  left_found xs ys none = find-append p xs ys ∙ ap (option_or (find p xs)) none ∙ at (find p xs)
    where
      at : (o : Option X) → option_or o None ≡ o
      at None = refl
      at (Some x) = refl

  pub right_found : (xs ys : List X) → find p xs ≡ None → find p (xs ++ ys) ≡ find p ys
  right_found xs ys none = find-append p xs ys ∙ ap (λ (o : Option X). option_or o (find p ys)) none

module _ {G X : Type 0} (lib : G → ℕ) (rows : G → List X) (lib_of : X → ℕ) where
  -- a row of a group is one of all, and each of all is a row of a group
  pub in_all : (gs : List G) (g : G) (x : X) → Contains gs g → Contains (rows g) x → Contains (all_of rows gs) x
  in_all [] g x i j = absurd (omega (arith, i.1))
  in_all (h ∷ gs) g x i j =
      elim (first_or_later h gs g i) as (λ _. Contains (all_of rows (h ∷ gs)) x) [
        | inl e ↦ Contains-append_left (rows h) (all_of rows gs) x (subst (λ (k : G). Contains (rows k) x) (sym e) j)
        | inr l ↦ Contains-append_right (rows h) (all_of rows gs) x (in_all gs g x l j)
      ]

  pub of_group : (gs : List G) (x : X) → Contains (all_of rows gs) x → (g : G) × Contains gs g × Contains (rows g) x
  of_group [] x i = absurd (omega (arith, i.1))
  of_group (h ∷ gs) x i =
      elim (Contains-append_cases (rows h) (all_of rows gs) x i) as (λ _. (g : G) × Contains (h ∷ gs) g × Contains (rows g) x) [
        | inl l ↦ (h, at_first h gs, l)
        | inr r ↦ let k = of_group gs x r in (k.0, at_later h gs k.0 k.1, k.2)
      ]

  pub all_of-append : (gs hs : List G) → all_of rows (gs ++ hs) ≡ all_of rows gs ++ all_of rows hs
  all_of-append [] hs = refl
  all_of-append (g ∷ gs) hs = ap (λ (xs : List X). rows g ++ xs) (all_of-append gs hs) ∙ sym (together (rows g) (all_of rows gs) (all_of rows hs))

  -- of one library there is one group
  pub one_group : (gs : List G) → Rise lib gs → (g h : G) → Contains gs g → Contains gs h → lib g ≡ lib h → g ≡ h
  one_group [] rise g h i j e = absurd (omega (arith, i.1))
  one_group (k ∷ gs) rise g h i j e =
      elim (first_or_later k gs g i) as (λ _. g ≡ h) [
        | inl a ↦ elim (first_or_later k gs h j) as (λ _. g ≡ h) [
          | inl b ↦ sym a ∙ b
          | inr b ↦ let lt = pair_of (λ (x y : G). lib x < lib y) gs k h rise b in let f = ap lib a in absurd (omega (arith, lt, f, e))
        ]
        | inr a ↦ elim (first_or_later k gs h j) as (λ _. g ≡ h) [
          | inl b ↦ let lt = pair_of (λ (x y : G). lib x < lib y) gs k g rise a in let f = ap lib b in absurd (omega (arith, lt, f, e))
          | inr b ↦ one_group gs (pairs_behind (λ (x y : G). lib x < lib y) k gs rise) g h a b e
        ]
      ]

  module _ (p : X → Bool) (n : ℕ) (of_lib : (x : X) → p x ≡ true → lib_of x ≡ n) where
    -- a library without a group has no row
    pub none_in_all : (gs : List G) → ((g : G) (x : X) → Contains gs g → Contains (rows g) x → lib_of x ≡ lib g) → ((g : G) → Contains gs g → lib g ≡ n → ⊥) → find p (all_of rows gs) ≡ None
    none_in_all gs own other =
        none_found p (all_of rows gs) (λ x i h. let g = of_group gs x i in other g.0 g.1 (sym (own g.0 x g.1 g.2) ∙ of_lib x h))

    pub no_group : (gs : List G) → AreApart lib rows lib_of gs → None ≡ find (λ (g : G). nat_eq (lib g) n) gs → find p (all_of rows gs) ≡ None
    no_group gs apart none = none_in_all gs apart.own (λ g i e. missed (λ (h : G). nat_eq (lib h) n) gs g i (nat_same (lib g) n e) (sym none))

    -- a row is looked up in the group of its library
    pub in_group : (gs : List G) → AreApart lib rows lib_of gs → (g : G) → Some g ≡ find (λ (h : G). nat_eq (lib h) n) gs → find p (all_of rows gs) ≡ find p (rows g)
    in_group gs apart g found =
        let f = found_in (λ (h : G). nat_eq (lib h) n) gs g (sym found) in
        only gs apart.rise apart.own f.0 (nat_is (lib g) n f.1)
      where
        only : (hs : List G) → Rise lib hs → ((h : G) (x : X) → Contains hs h → Contains (rows h) x → lib_of x ≡ lib h) → Contains hs g → lib g ≡ n → find p (all_of rows hs) ≡ find p (rows g)
        only [] rise own i e = absurd (omega (arith, i.1))
        only (k ∷ hs) rise own i e =
            elim (first_or_later k hs g i) as (λ _. find p (rows k ++ all_of rows hs) ≡ find p (rows g)) [
              | inl same ↦
                  let rest : find p (all_of rows hs) ≡ None =
                  none_in_all hs (λ h x a b. own h x (at_later k hs h a) b) (λ h a f. let lt = pair_of (λ (x y : G). lib x < lib y) hs k h rise a in let s = ap lib same in absurd (omega (arith, lt, s, e, f))) in
                  left_found p (rows k) (all_of rows hs) rest ∙ ap (λ (x : G). find p (rows x)) same
              | inr l ↦
                  let lt = pair_of (λ (x y : G). lib x < lib y) hs k g rise l in
                  let first : find p (rows k) ≡ None =
                  none_found p (rows k) (λ x a h. let o = own k x (at_first k hs) a in let m = of_lib x h in absurd (omega (arith, o, m, e, lt))) in
                  right_found p (rows k) (all_of rows hs) first
                  ∙ only hs (pairs_behind (λ (x y : G). lib x < lib y) k hs rise) (λ h x a b. own h x (at_later k hs h a) b) l e
            ]

  module _ (before : X → X → Type 0) (rising : (x y : X) → lib_of x < lib_of y → before x y) where
    -- the rows of all groups are in order where those of each are
    pub all_in_order : (gs : List G) → Rise lib gs → ((g : G) (x : X) → Contains gs g → Contains (rows g) x → lib_of x ≡ lib g) → ((g : G) → Contains gs g → AllPairs before (rows g)) → AllPairs before (all_of rows gs)
    all_in_order [] rise own each = λ i j d lt within. absurd (omega arith)
    all_in_order (g ∷ gs) rise own each =
        pairs_append before (rows g) (all_of rows gs) (each g (at_first g gs))
        (all_in_order gs (pairs_behind (λ (x y : G). lib x < lib y) g gs rise) (λ h x a b. own h x (at_later g gs h a) b) (λ h a. each h (at_later g gs h a)))
        (λ x y a b.
        let h = of_group gs y b in
        let lt = pair_of (λ (x y : G). lib x < lib y) gs g h.0 rise h.1 in
        let l = own g x (at_first g gs) a in
        let m = own h.0 y (at_later g gs h.0 h.1) h.2 in
        rising x y (omega (arith, lt, l, m)))

  -- and those of each where those of all are
  pub group_in_order : (before : X → X → Type 0) (gs : List G) → AllPairs before (all_of rows gs) → (g : G) → Contains gs g → AllPairs before (rows g)
  group_in_order before [] order g i = absurd (omega (arith, i.1))
  group_in_order before (h ∷ gs) order g i =
      elim (first_or_later h gs g i) as (λ _. AllPairs before (rows g)) [
        | inl e ↦ subst (λ (k : G). AllPairs before (rows k)) e (pairs_left before (rows h) (all_of rows gs) order)
        | inr l ↦ group_in_order before gs (pairs_right before (rows h) (all_of rows gs) order) g l
      ]

  -- one more row at the end
  module _ (before : X → X → Type 0) (not_less : (x y : X) → before x y → lib_of x ≤ lib_of y) (x : X) where
    all_with : (init : List G) (g : G) → all_of rows (init ++ g ∷ []) ≡ all_of rows init ++ rows g
    all_with init g = all_of-append init (g ∷ []) ∙ ap (λ (xs : List X). all_of rows init ++ xs) (append_none (rows g))
      where
        append_none : (xs : List X) → xs ++ [] ≡ xs
        append_none [] = refl
        append_none (y ∷ ys) = ap (λ (zs : List X). y ∷ zs) (append_none ys)

    rise_with : (init : List G) (g : G) → Rise lib init → ((h : G) → Contains init h → lib h < lib g) → Rise lib (init ++ g ∷ [])
    rise_with init g rise below =
        all_pairs_push (λ (a b : G). lib a < lib b) init g rise (λ k d lt. below (get_or init k d) (k, lt, get_or_default init k (get_or init k d) d lt))

    last_or : (init : List G) (g h : G) → Contains (init ++ g ∷ []) h → Contains init h ⊎ (g ≡ h)
    last_or init g h i =
        elim (Contains-append_cases init (g ∷ []) h i) as (λ _. Contains init h ⊎ (g ≡ h)) [
          | inl l ↦ inl l
          | inr r ↦ elim (first_or_later g [] h r) as (λ _. Contains init h ⊎ (g ≡ h)) [ inl e ↦ inr e | inr n ↦ absurd (omega (arith, n.1)) ]
        ]

    -- in a group of its own
    pub appends_group : (old : List G) (g : G) → rows g ≡ x ∷ [] → lib g ≡ lib_of x → (AreApart lib rows lib_of old → AllPairs before (all_of rows old ++ x ∷ []) → (h : G) → Contains old h → lib h ≡ lib_of x → ⊥) → Appends lib rows lib_of before old x (old ++ g ∷ [])
    appends_group old g is own other = record {
      all = all_with old g ∙ ap (λ (xs : List X). all_of rows old ++ xs) is;
      apart = λ apart order. record {
        rise = rise_with old g apart.rise (λ h i. below apart order h i);
        filled = λ h i. elim (last_or old g h i) as (λ _. (y : X) × Contains (rows h) y) [
          | inl l ↦ apart.filled h l
          | inr e ↦ subst (λ (k : G). (y : X) × Contains (rows k) y) e (x, subst (λ (xs : List X). Contains xs x) (sym is) (at_first x []))
        ];
        own = λ h y i j. elim (last_or old g h i) as (λ _. lib_of y ≡ lib h) [
          | inl l ↦ apart.own h y l j
          | inr e ↦ let m = subst (λ (k : G). Contains (rows k) y) (sym e) j in
              elim (first_or_later x [] y (subst (λ (xs : List X). Contains xs y) is m)) as (λ _. lib_of y ≡ lib h) [
                | inl f ↦ ap lib_of (sym f) ∙ sym own ∙ ap lib e
                | inr n ↦ absurd (omega (arith, n.1))
              ]
        ];
      };
    }
      where
        below : AreApart lib rows lib_of old → AllPairs before (all_of rows old ++ x ∷ []) → (h : G) → Contains old h → lib h < lib g
        below apart order h i =
            let y = apart.filled h i in
            let b = not_less y.0 x (pairs_across before (all_of rows old) (x ∷ []) y.0 x order (in_all old h y.0 i y.1) (at_first x [])) in
            let o = apart.own h y.0 i y.1 in
            elim (cases_lt (lib h) (lib g)) as (λ _. lib h < lib g) [
              | inl lt ↦ lt
              | inr ge ↦ absurd (other apart order h i (let e : lib h ≡ lib_of x = omega (arith, b, o, ge, own) in e))
            ]

    -- as the first
    pub appends_first : (g : G) → rows g ≡ x ∷ [] → lib g ≡ lib_of x → Appends lib rows lib_of before [] x (g ∷ [])
    appends_first g is own = appends_group [] g is own (λ apart order h i e. absurd (omega (arith, i.1)))

    -- behind a last group that isn't of its library
    pub appends_new : (init : List G) (last g : G) → rows g ≡ x ∷ [] → lib g ≡ lib_of x → (lib last ≡ lib_of x → ⊥) → Appends lib rows lib_of before (init ++ last ∷ []) x ((init ++ last ∷ []) ++ g ∷ [])
    appends_new init last g is own other = appends_group (init ++ last ∷ []) g is own not_its
      where
        not_its : AreApart lib rows lib_of (init ++ last ∷ []) → AllPairs before (all_of rows (init ++ last ∷ []) ++ x ∷ []) → (h : G) → Contains (init ++ last ∷ []) h → lib h ≡ lib_of x → ⊥
        not_its apart order h i e =
            let there = Contains-append_right init (last ∷ []) last (at_first last []) in
            let y = apart.filled last there in
            let b = not_less y.0 x (pairs_across before (all_of rows (init ++ last ∷ [])) (x ∷ []) y.0 x order (in_all (init ++ last ∷ []) last y.0 there y.1) (at_first x [])) in
            let o = apart.own last y.0 there y.1 in
            elim (last_or init last h i) as (λ _. ⊥) [
              | inl l ↦ let lt = pairs_across (λ (a b : G). lib a < lib b) init (last ∷ []) h last apart.rise l (at_first last []) in absurd (omega (arith, lt, b, o, e))
              | inr same ↦ other (ap lib same ∙ e)
            ]

    -- in the last group, which is of its library
    pub appends_row : (init : List G) (last g : G) → rows g ≡ rows last ++ x ∷ [] → lib g ≡ lib last → lib last ≡ lib_of x → Appends lib rows lib_of before (init ++ last ∷ []) x (init ++ g ∷ [])
    appends_row init last g is same own = record {
      all = all_with init g ∙ ap (λ (xs : List X). all_of rows init ++ xs) is ∙ sym (together (all_of rows init) (rows last) (x ∷ [])) ∙ ap (λ (xs : List X). xs ++ x ∷ []) (sym (all_with init last));
      apart = λ apart order. record {
        rise = rise_with init g (pairs_left (λ (a b : G). lib a < lib b) init (last ∷ []) apart.rise)
            (λ h i. let lt = pairs_across (λ (a b : G). lib a < lib b) init (last ∷ []) h last apart.rise i (at_first last []) in omega (arith, lt, same));
        filled = λ h i. elim (last_or init g h i) as (λ _. (y : X) × Contains (rows h) y) [
          | inl l ↦ apart.filled h (Contains-append_left init (last ∷ []) h l)
          | inr e ↦ subst (λ (k : G). (y : X) × Contains (rows k) y) e (x, subst (λ (xs : List X). Contains xs x) (sym is) (Contains-append_right (rows last) (x ∷ []) x (at_first x [])))
        ];
        own = λ h y i j. elim (last_or init g h i) as (λ _. lib_of y ≡ lib h) [
          | inl l ↦ apart.own h y (Contains-append_left init (last ∷ []) h l) j
          | inr e ↦
              let m = subst (λ (xs : List X). Contains xs y) is (subst (λ (k : G). Contains (rows k) y) (sym e) j) in
              elim (Contains-append_cases (rows last) (x ∷ []) y m) as (λ _. lib_of y ≡ lib h) [
                | inl l ↦ apart.own last y (Contains-append_right init (last ∷ []) last (at_first last [])) l ∙ sym same ∙ ap lib e
                | inr r ↦ elim (first_or_later x [] y r) as (λ _. lib_of y ≡ lib h) [
                  | inl f ↦ ap lib_of (sym f) ∙ sym own ∙ sym same ∙ ap lib e
                  | inr n ↦ absurd (omega (arith, n.1))
                ]
              ]
        ];
      };
    }

-- one more of the rows that are left
pub appends_next : {G X : Type 0} (lib : G → ℕ) (rows : G → List X) (lib_of : X → ℕ) (before : X → X → Type 0) (every rest : List X) (old new : List G) (x : X) → all_of rows old ++ x ∷ rest ≡ every → AllPairs before every → AreApart lib rows lib_of old → Appends lib rows lib_of before old x new → (all_of rows new ++ rest ≡ every) × AreApart lib rows lib_of new
appends_next {G} {X} lib rows lib_of before every rest old new x is order apart one =
    let split : (all_of rows old ++ x ∷ []) ++ rest ≡ every = together (all_of rows old) (x ∷ []) rest ∙ is in
    (ap (λ (xs : List X). xs ++ rest) one.all ∙ split, one.apart apart (pairs_left before (all_of rows old ++ x ∷ []) rest (subst (λ (xs : List X). AllPairs before xs) (sym split) order)))

module _ {G : Type 0} (lib : G → ℕ) where
  -- the group that is looked for stands at the place, or none does
  module _ (gs : List G) (rise : Rise lib gs) (n : ℕ) where
    pub lib_partitioned : IsPartitionedBy (λ (g : G). nat_lt (lib g) n) gs
    lib_partitioned j k d le in_range h =
        elim (cases_lt j k) as (λ _. nat_lt (lib (get_or gs j d)) n ≡ true) [
          | inl lt ↦ let b = rise j k d lt in_range in grind (arith, nat_tests, b)
          | inr ge ↦ let e : k ≡ j = omega arith in subst (λ (m : ℕ). nat_lt (lib (get_or gs m d)) n ≡ true) e h
        ]

    module _ (at : ℕ) (parted : IsPartitionPoint (λ (g : G). nat_lt (lib g) n ≡ true) (λ (g : G). nat_lt (lib g) n ≡ false) gs at) where
      lower : (j : ℕ) (d : G) → j < at → lib (get_or gs j d) < n
      lower j d lt = let h = parted.0 j d (omega arith) lt in grind (arith, nat_tests, h)

      upper : (j : ℕ) (d : G) → at ≤ j → j < length gs → n ≤ lib (get_or gs j d)
      upper j d from to = let h = parted.1 j d from to in grind (arith, nat_tests, h)

      pub group_found : (d : G) → at < length gs → lib (get_or gs at d) ≡ n → find (λ (g : G). nat_eq (lib g) n) gs ≡ Some (get_or gs at d)
      group_found d within e =
          find_at (λ (g : G). nat_eq (lib g) n) gs at d within
          (λ j f from to. let lt = lower j f to in nat_other (lib (get_or gs j f)) n (λ k. absurd (omega (arith, lt, k))))
          (let k : nat_eq (lib (get_or gs at d)) n ≡ true = grind (arith, nat_tests) in k)

      -- each group behind the place is of a later library, where that at the place isn't of this one
      pub behind_later : (d : G) → at ≤ length gs → (at < length gs → lib (get_or gs at d) ≡ n → ⊥) → (j : ℕ) (f : G) → at ≤ j → j < length gs → n < lib (get_or gs j f)
      behind_later d le other j f from to =
          elim (cases_lt at j) as (λ _. n < lib (get_or gs j f)) [
            | inl lt ↦ let a = upper at f (omega arith) (omega arith) in let b = rise at j f lt to in omega (arith, a, b)
            | inr ge ↦
                let e : at ≡ j = omega arith in
                let here : lib (get_or gs at d) ≡ lib (get_or gs j f) = ap lib (get_or_default gs at d f (omega arith)) ∙ ap (λ (m : ℕ). lib (get_or gs m f)) e in
                let a = upper j f from to in
                elim (cases_lt n (lib (get_or gs j f))) as (λ _. n < lib (get_or gs j f)) [
                  | inl lt ↦ lt
                  | inr not_less ↦ absurd (other (omega arith) (here ∙ (let k : lib (get_or gs j f) ≡ n = omega (arith, a, not_less) in k)))
                ]
          ]

      pub group_none : (d : G) → at ≤ length gs → (at < length gs → lib (get_or gs at d) ≡ n → ⊥) → find (λ (g : G). nat_eq (lib g) n) gs ≡ None
      group_none d le other =
          find_none (λ (g : G). nat_eq (lib g) n) gs
          (λ j f from to. nat_other (lib (get_or gs j f)) n (λ e. elim (cases_lt j at) as (λ _. ⊥) [
            | inl lt ↦ let a = lower j f lt in absurd (omega (arith, a, e))
            | inr ge ↦ let a = behind_later d le other j f ge to in absurd (omega (arith, a, e))
          ]))

  -- a group that is put in its place
  pub puts_known : (gs : List G) (g : G) → Rise lib gs → (h : G) → Contains gs h → lib h ≡ lib g → PutsIn lib gs g gs
  puts_known gs g rise h i e = record { kept = λ k j. j; there = (h, i, e); no_other = λ k j. inl j; rise = rise }

  pub puts_new : (gs : List G) (g : G) (rise : Rise lib gs) (at : ℕ) → at ≤ length gs → IsPartitionPoint (λ (h : G). nat_lt (lib h) (lib g) ≡ true) (λ (h : G). nat_lt (lib h) (lib g) ≡ false) gs at → (at < length gs → lib (get_or gs at g) ≡ lib g → ⊥) → PutsIn lib gs g (insert gs at g)
  puts_new gs g rise at le parted other = record {
    kept = kept_in gs at g;
    there = (g, inserted_in gs at g, refl);
    no_other = only_in gs at g;
    rise =
        pairs_insert (λ (a b : G). lib a < lib b) gs at g le
        (λ j d from to. lower gs rise (lib g) at parted j d to)
        (λ j d from to. behind_later gs rise (lib g) at parted g le other j d from to) rise;
  }

  -- several that are put in their places, one after another
  pub puts_none : (gs others : List G) → Rise lib gs → PutsAll lib gs (take 0 others) gs
  puts_none gs others rise = record { kept = λ h i. i; there = λ g i. absurd (omega (arith, i.1)); no_other = λ h i. inl i; rise = rise }

  pub puts_next : (gs hs ks others : List G) (i : ℕ) (g : G) → i < length others → g ≡ get_or others i g → PutsAll lib gs (take i others) hs → PutsIn lib hs g ks → PutsAll lib gs (take (i + 1) others) ks
  puts_next gs hs ks others i g lt is all one = record {
    kept = λ h j. one.kept h (all.kept h j);
    there = λ h j. elim (of_next h j) as (λ _. (k : G) × Contains ks k × (lib k ≡ lib h)) [
      | inl a ↦ let t = all.there h a in (t.0, one.kept t.0 t.1, t.2)
      | inr e ↦ let t = one.there in (t.0, t.1, t.2 ∙ ap lib e)
    ];
    no_other = λ h j. elim (one.no_other h j) as (λ _. Contains gs h ⊎ Contains (take (i + 1) others) h) [
      | inl a ↦ elim (all.no_other h a) as (λ _. Contains gs h ⊎ Contains (take (i + 1) others) h) [ inl b ↦ inl b | inr b ↦ inr (still h b) ]
      | inr e ↦ inr (subst (λ (k : G). Contains (take (i + 1) others) k) e here)
    ];
    rise = one.rise;
  }
    where
      split : take (i + 1) others ≡ take i others ++ g ∷ []
      split = take_more others i g lt ∙ ap (λ (k : G). take i others ++ k ∷ []) (sym is)

      here : Contains (take (i + 1) others) g
      here = subst (λ (xs : List G). Contains xs g) (sym split) (Contains-append_right (take i others) (g ∷ []) g (at_first g []))

      still : (h : G) → Contains (take i others) h → Contains (take (i + 1) others) h
      still h j = subst (λ (xs : List G). Contains xs h) (sym split) (Contains-append_left (take i others) (g ∷ []) h j)

      of_next : (h : G) → Contains (take (i + 1) others) h → Contains (take i others) h ⊎ (g ≡ h)
      of_next h j =
          elim (Contains-append_cases (take i others) (g ∷ []) h (subst (λ (xs : List G). Contains xs h) split j)) as (λ _. Contains (take i others) h ⊎ (g ≡ h)) [
            | inl l ↦ inl l
            | inr r ↦ elim (first_or_later g [] h r) as (λ _. Contains (take i others) h ⊎ (g ≡ h)) [ inl e ↦ inr e | inr n ↦ absurd (omega (arith, n.1)) ]
          ]

-- groups among which others were put
module _ {G X : Type 0} (lib : G → ℕ) (rows : G → List X) (lib_of : X → ℕ) (ks bs us : List G) (puts : PutsAll lib ks bs us) (a : AreApart lib rows lib_of ks) (b : AreApart lib rows lib_of bs) where
  pub merged_apart : AreApart lib rows lib_of us
  merged_apart = record {
    rise = puts.rise;
    filled = λ g i. elim (puts.no_other g i) as (λ _. (x : X) × Contains (rows g) x) [ inl l ↦ a.filled g l | inr r ↦ b.filled g r ];
    own = λ g x i j. elim (puts.no_other g i) as (λ _. lib_of x ≡ lib g) [ inl l ↦ a.own g x l j | inr r ↦ b.own g x r j ];
  }

  pub merged_from : (x : X) → Contains (all_of rows us) x → Contains (all_of rows ks) x ⊎ Contains (all_of rows bs) x
  merged_from x i =
      let g = of_group lib rows lib_of us x i in
      elim (puts.no_other g.0 g.1) as (λ _. Contains (all_of rows ks) x ⊎ Contains (all_of rows bs) x) [
        | inl l ↦ inl (in_all lib rows lib_of ks g.0 x l g.2)
        | inr r ↦ inr (in_all lib rows lib_of bs g.0 x r g.2)
      ]

  pub merged_left : (x : X) → Contains (all_of rows ks) x → Contains (all_of rows us) x
  merged_left x i = let g = of_group lib rows lib_of ks x i in in_all lib rows lib_of us g.0 x (puts.kept g.0 g.1) g.2

  pub merged_right : (In : X → Type 0) → ((g h : G) (x : X) → Contains bs g → Contains (rows g) x → Contains ks h → lib h ≡ lib g → In x) → (x : X) → Contains (all_of rows bs) x → Contains (all_of rows us) x ⊎ In x
  merged_right In agree x i =
      let g = of_group lib rows lib_of bs x i in
      let h = puts.there g.0 g.1 in
      elim (puts.no_other h.0 h.1) as (λ _. Contains (all_of rows us) x ⊎ In x) [
        | inl l ↦ inr (agree g.0 h.0 x g.1 g.2 l h.2)
        | inr r ↦
            let same = one_group lib rows lib_of bs b.rise h.0 g.0 r g.1 h.2 in
            inl (in_all lib rows lib_of us h.0 x h.1 (subst (λ (k : G). Contains (rows k) x) (sym same) g.2))
      ]

  pub merged_order : (before : X → X → Type 0) → ((x y : X) → lib_of x < lib_of y → before x y) → AllPairs before (all_of rows ks) → AllPairs before (all_of rows bs) → AllPairs before (all_of rows us)
  merged_order before rising in_a in_b =
      all_in_order lib rows lib_of before rising us puts.rise merged_apart.own
      (λ g i. elim (puts.no_other g i) as (λ _. AllPairs before (rows g)) [
        | inl l ↦ group_in_order lib rows lib_of before ks in_a g l
        | inr r ↦ group_in_order lib rows lib_of before bs in_b g r
      ])

-- where the place is the end, the library has no group
pub group_none_at_end : {G : Type 0} (lib : G → ℕ) (gs : List G) → Rise lib gs → (n at : ℕ) → IsPartitionPoint (λ (g : G). nat_lt (lib g) n ≡ true) (λ (g : G). nat_lt (lib g) n ≡ false) gs at → length gs ≤ at → find (λ (g : G). nat_eq (lib g) n) gs ≡ None
group_none_at_end lib gs rise n at parted end =
    find_none (λ g. nat_eq (lib g) n) gs
    (λ j f from to. let lt = lower lib gs rise n at parted j f (omega arith) in nat_other (lib (get_or gs j f)) n (λ e. absurd (omega (arith, lt, e))))
