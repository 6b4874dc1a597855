-- Lists that grow, in the order of classes.
use Rattle.std.proofs.Common.{◌≡◌, ℕ, zero, suc, ◌+◌, ◌-◌, ◌<◌, ◌≤◌, Bool, true, false, List, [], ◌∷◌, length, take, drop, get_or, Option, None, Some, refl, sym, ◌∙◌, ap, subst, cond, arith, inl, inr}
use Rattle.std.specs.Prelude.{◌≢◌, AllPairs, ◌⊎◌, ◌&&◌, ◌||◌, nat_lt, nat_eq, Contains, All, Result, Ok, Err, OnOk}
use Rattle.std.proofs.lemmas.Bool.Decides.{nat_tests}
use Rattle.std.specs.List.{AllWithin, filter, insert}
use Rattle.std.specs.List.Sorted.{IsPartitionPoint}
use Rattle.std.proofs.lemmas.Bool.{cases_lt}
use Rattle.std.proofs.lemmas.List.{get_or_default, take-append-drop}
use Rattle.std.proofs.lemmas.List.Edits.{get_or-insert_at, get_or-insert_below, get_or-insert_above, length-insert}
use Rattle.std.proofs.lemmas.List.Elements.{Contains-append_left, Contains-append_right, Contains-append_cases}
use Rattle.dart_types.specs.Ty.{Ty}
use Rattle.dart_types.specs.Superinterfaces.{interface_of, AreOrdered}
use Rattle.dart_types.specs.WellFormed.{class_before}
use Rattle.dart_types.specs.Sizes.{size_of}
use Rattle.dart_types.specs.Gathering.{Adds, StandOnce, IsFormedWithin}
use Rattle.dart_types.specs.declared.ids.ClassId.{ClassId}
use Rattle.dart_types.specs.declared.superinterfaces.Superinterface.{Superinterface}
use Rattle.dart_types.specs.declared.refusal.TheConstants.{NODE_LIMIT}
use Rattle.dart_types.proofs.SameIds.{nat_eq-refl}
use Rattle.dart_types.proofs.Searches.{before_trans}

-- what holds of each element that is in a list holds of all
pub all_from : {X : Type 0} (P : X → Type 0) (xs : List X) → ((x : X) → Contains xs x → P x) → All P xs
all_from P xs h k d lt = h (get_or xs k d) (k, lt, get_or_default xs k (get_or xs k d) d lt)

-- what is left of a list by a test is in the list and passes
pub in_filtered : {X : Type 0} (p : X → Bool) (xs : List X) (x : X) → Contains (filter p xs) x → Contains xs x × (p x ≡ true)
in_filtered p [] x i = absurd (omega (arith, i.1))
in_filtered {X} p (y ∷ ys) x i = at (p y) refl i (in_filtered p ys x)
  where
    at : (b : Bool) → p y ≡ b → Contains (cond b (y ∷ filter p ys) (filter p ys)) x → (Contains (filter p ys) x → Contains ys x × (p x ≡ true)) → Contains (y ∷ ys) x × (p x ≡ true)
    at true is (zero, lt, e) later = ((0, omega arith, e), subst (λ (z : X). p z ≡ true) e is)
    at true is (suc k, lt, e) later = let r = later (k, omega arith, e) in ((suc r.0.0, omega (arith, r.0.1), r.0.2), r.1)
    at false is here later = let r = later here in ((suc r.0.0, omega (arith, r.0.1), r.0.2), r.1)

module _ {X : Type 0} (xs : List X) (at : ℕ) (x : X) where
  pub inserted_in : Contains (insert xs at x) x
  inserted_in = Contains-append_right (take at xs) (x ∷ drop at xs) x (0, omega arith, refl)

  pub kept_in : (y : X) → Contains xs y → Contains (insert xs at x) y
  kept_in y i =
      elim (Contains-append_cases (take at xs) (drop at xs) y (subst (λ (zs : List X). Contains zs y) (sym (take-append-drop at xs)) i)) as (λ _. Contains (insert xs at x) y) [
        | inl l ↦ Contains-append_left (take at xs) (x ∷ drop at xs) y l
        | inr r ↦ Contains-append_right (take at xs) (x ∷ drop at xs) y (suc r.0, omega (arith, r.1), r.2)
      ]

  pub only_in : (y : X) → Contains (insert xs at x) y → Contains xs y ⊎ (x ≡ y)
  only_in y i =
      elim (Contains-append_cases (take at xs) (x ∷ drop at xs) y i) as (λ _. Contains xs y ⊎ (x ≡ y)) [
        | inl l ↦ inl (subst (λ (zs : List X). Contains zs y) (take-append-drop at xs) (Contains-append_left (take at xs) (drop at xs) y l))
        | inr r ↦ behind r
      ]
    where
      behind : Contains (x ∷ drop at xs) y → Contains xs y ⊎ (x ≡ y)
      behind (zero, lt, e) = inr e
      behind (suc k, lt, e) =
          inl (subst (λ (zs : List X). Contains zs y) (take-append-drop at xs) (Contains-append_right (take at xs) (drop at xs) y (k, omega arith, e)))

-- no class comes before itself
not_before_itself : (a b : ℕ) → (nat_lt a a || (nat_eq a a && nat_lt b b)) ≡ true → ⊥
not_before_itself a b h =
    let k : nat_lt a a ≡ false = grind (arith, nat_tests) in
    let m : nat_lt b b ≡ false = grind (arith, nat_tests) in
    let e = nat_eq-refl a in
    let f : (nat_lt a a || (nat_eq a a && nat_lt b b)) ≡ false = rw (k, e, m) refl in
    let g : true ≡ false = sym h ∙ f in
    cc

-- of two classes only one comes before the other
class_asym : (c d : ClassId) → class_before c d ≡ true → class_before d c ≡ false
class_asym c d h = at (class_before d c) refl
  where
    at : (b : Bool) → class_before d c ≡ b → b ≡ false
    at true k = absurd (not_before_itself c.lib.0 c.index (before_trans c.lib.0 c.index d.lib.0 d.index c.lib.0 c.index h k))
    at false k = refl

-- what stands in a relation to all before its place, and those behind it to it, leaves the relation between all
pub pairs_insert : {X : Type 0} (R : X → X → Type 0) (xs : List X) (at : ℕ) (x : X) → at ≤ length xs → AllWithin (λ (s : X). R s x) xs 0 at → AllWithin (λ (s : X). R x s) xs at (length xs) → AllPairs R xs → AllPairs R (insert xs at x)
pairs_insert {X} R xs at x le low high all i j d lt within =
    let size = length-insert xs at x le in
    elim (cases_lt j at) as (λ _. R (get_or (insert xs at x) i d) (get_or (insert xs at x) j d)) [
      | inl below ↦
          let a = get_or-insert_below xs at x d i (omega arith) le in
          let b = get_or-insert_below xs at x d j below le in
          moved (sym a) (sym b) (all i j d lt (omega arith))
      | inr from ↦ elim (cases_lt at j) as (λ _. R (get_or (insert xs at x) i d) (get_or (insert xs at x) j d)) [
        | inl above ↦ beyond size (j - 1) (omega arith) above
        | inr here ↦
            let e : at ≡ j = omega arith in
            let a = get_or-insert_below xs at x d i (omega arith) le in
            let b : x ≡ get_or (insert xs at x) j d = subst (λ (k : ℕ). x ≡ get_or (insert xs at x) k d) e (sym (get_or-insert_at xs at x d le)) in
            moved (sym a) b (low i d (omega arith) (omega arith))
      ]
    ]
  where
    moved : {s t s' t' : X} → s ≡ s' → t ≡ t' → R s t → R s' t'
    moved {s} {t} {s'} {t'} e f h = subst (λ (y : X). R s' y) f (subst (λ (y : X). R y t) e h)

    behind : (k : ℕ) → j ≡ k + 1 → at ≤ k → get_or xs k d ≡ get_or (insert xs at x) j d
    behind k e above = subst (λ (m : ℕ). get_or xs k d ≡ get_or (insert xs at x) m d) (sym e) (sym (get_or-insert_above xs at x d k above le))

    beyond : length (insert xs at x) ≡ length xs + 1 → (k : ℕ) → j ≡ k + 1 → at < j → R (get_or (insert xs at x) i d) (get_or (insert xs at x) j d)
    beyond size k e above =
        let b = behind k e (omega arith) in
        elim (cases_lt i at) as (λ _. R (get_or (insert xs at x) i d) (get_or (insert xs at x) j d)) [
          | inl below ↦ moved (sym (get_or-insert_below xs at x d i below le)) b (all i k d (omega arith) (omega arith))
          | inr from ↦ elim (cases_lt at i) as (λ _. R (get_or (insert xs at x) i d) (get_or (insert xs at x) j d)) [
            | inl over ↦
                let f : i ≡ (i - 1) + 1 = omega arith in
                let a : get_or xs (i - 1) d ≡ get_or (insert xs at x) i d = subst (λ (m : ℕ). get_or xs (i - 1) d ≡ get_or (insert xs at x) m d) (sym f) (sym (get_or-insert_above xs at x d (i - 1) (omega arith) le)) in
                moved a b (all (i - 1) k d (omega arith) (omega arith))
            | inr here ↦
                let f : at ≡ i = omega arith in
                let a : x ≡ get_or (insert xs at x) i d = subst (λ (m : ℕ). x ≡ get_or (insert xs at x) m d) f (sym (get_or-insert_at xs at x d le)) in
                moved a b (high k d (omega arith) (omega arith))
          ]
        ]

-- what is put in behind all that don't come after it leaves the order
ordered_insert : (xs : List Superinterface) (at : ℕ) (x : Superinterface) → at ≤ length xs → AllWithin (λ (s : Superinterface). class_before x.class s.class ≡ false) xs 0 at → AllWithin (λ (s : Superinterface). class_before x.class s.class ≡ true) xs at (length xs) → AreOrdered xs → AreOrdered (insert xs at x)
ordered_insert xs at x le low high order =
    pairs_insert (λ (a b : Superinterface). class_before b.class a.class ≡ false) xs at x le low
    (λ k d from to. class_asym x.class (get_or xs k d).class (high k d from to)) order

-- and what doesn't stand there yet stands there once then
once_insert : (xs : List Superinterface) (at : ℕ) (x : Superinterface) → at ≤ length xs → (Contains xs x → ⊥) → StandOnce xs → StandOnce (insert xs at x)
once_insert xs at x le new once =
    pairs_insert (λ (a b : Superinterface). a ≢ b) xs at x le
    (λ k d from to e. new (k, omega (arith, to, le), get_or_default xs k x d (omega (arith, to, le)) ∙ e))
    (λ k d from to e. new (k, to, get_or_default xs k x d to ∙ sym e)) once

-- a superinterface that stands in the list needn't be put in
pub adds_known : (xs : List Superinterface) (x : Superinterface) → Contains xs x → Adds (λ t. t ≡ interface_of x) xs xs
adds_known xs x i = record {
  kept = λ s k. k;
  added = λ t e. (x, i, sym e);
  no_other = λ s k. inl k;
  in_order = λ o. o;
  once = λ o. o;
}

-- one that is put in is what is added
pub adds_inserted : (xs : List Superinterface) (at : ℕ) (x : Superinterface) → at ≤ length xs → AllWithin (λ (s : Superinterface). class_before x.class s.class ≡ false) xs 0 at → AllWithin (λ (s : Superinterface). class_before x.class s.class ≡ true) xs at (length xs) → (Contains xs x → ⊥) → Adds (λ t. t ≡ interface_of x) xs (insert xs at x)
adds_inserted xs at x le low high new = record {
  kept = kept_in xs at x;
  added = λ t e. (x, inserted_in xs at x, sym e);
  no_other = λ s i. elim (only_in xs at x s i) as (λ _. Contains xs s ⊎ (interface_of s ≡ interface_of x)) [ inl k ↦ inl k | inr e ↦ inr (ap interface_of (sym e)) ];
  in_order = λ order. ordered_insert xs at x le low high order;
  once = λ o. once_insert xs at x le new o;
}

-- nothing is added
pub adds_nothing : (P : Ty → Type 0) (xs : List Superinterface) → ((t : Ty) → P t → ⊥) → Adds P xs xs
adds_nothing P xs none = record {
  kept = λ s i. i;
  added = λ t h. absurd (none t h);
  no_other = λ s i. inl i;
  in_order = λ o. o;
  once = λ o. o;
}

-- what is added first and what is added then
pub adds_both : (P Q R : Ty → Type 0) (a b c : List Superinterface) → Adds P a b → Adds Q b c → ((t : Ty) → R t → P t ⊎ Q t) → ((t : Ty) → P t ⊎ Q t → R t) → Adds R a c
adds_both P Q R a b c f g split join = record {
  kept = λ s i. g.kept s (f.kept s i);
  added = λ t h. elim (split t h) as (λ _. (s : Superinterface) × Contains c s × (interface_of s ≡ t)) [ inl p ↦ let k = f.added t p in (k.0, g.kept k.0 k.1, k.2) | inr q ↦ g.added t q ];
  no_other = λ s i. elim (g.no_other s i) as (λ _. Contains a s ⊎ R (interface_of s)) [
    | inl k ↦ elim (f.no_other s k) as (λ _. Contains a s ⊎ R (interface_of s)) [ inl m ↦ inl m | inr p ↦ inr (join (interface_of s) (inl p)) ]
    | inr q ↦ inr (join (interface_of s) (inr q))
  ];
  in_order = λ o. g.in_order (f.in_order o);
  once = λ o. g.once (f.once o);
}

-- the same types said otherwise
pub adds_same : (P Q : Ty → Type 0) (a b : List Superinterface) → Adds P a b → ((t : Ty) → Q t → P t) → ((t : Ty) → P t → Q t) → Adds Q a b
adds_same P Q a b f to from = record {
  kept = f.kept;
  added = λ t h. f.added t (to t h);
  no_other = λ s i. elim (f.no_other s i) as (λ _. Contains a s ⊎ Q (interface_of s)) [ inl k ↦ inl k | inr p ↦ inr (from (interface_of s) p) ];
  in_order = f.in_order;
  once = f.once;
}

-- what the elements of a list want, and what the first of them do
abbrev pub Among : {X : Type 0} → (X → Ty → Type 0) → List X → Ty → Type 0
Among {X} f xs t = (x : X) × Contains xs x × f x t

abbrev pub First : {X : Type 0} → (X → Ty → Type 0) → List X → ℕ → Ty → Type 0
First {X} f xs i t = (x : X) × ((k : ℕ) × (k < i) × (k < length xs) × (get_or xs k x ≡ x)) × f x t

module _ {X : Type 0} (f : X → Ty → Type 0) (xs : List X) where
  pub first_none : (t : Ty) → First f xs 0 t → ⊥
  first_none t h = absurd (omega (arith, h.1.1))

  pub first_next : (i : ℕ) (x : X) → i < length xs → x ≡ get_or xs i x → (t : Ty) → First f xs (i + 1) t → First f xs i t ⊎ f x t
  first_next i x lt is t h =
      elim (cases_lt h.1.0 i) as (λ _. First f xs i t ⊎ f x t) [
        | inl below ↦ inl (h.0, (h.1.0, below, h.1.2, h.1.3), h.2)
        | inr from ↦
            let e : h.1.0 ≡ i = omega (arith, h.1.1) in
            let same : h.0 ≡ x = sym h.1.3 ∙ ap (λ (k : ℕ). get_or xs k h.0) e ∙ get_or_default xs i h.0 x lt ∙ sym is in
            inr (subst (λ (y : X). f y t) same h.2)
      ]

  pub next_first : (i : ℕ) (x : X) → i < length xs → x ≡ get_or xs i x → (t : Ty) → First f xs i t ⊎ f x t → First f xs (i + 1) t
  next_first i x lt is t (inl h) = (h.0, (h.1.0, omega (arith, h.1.1), h.1.2, h.1.3), h.2)
  next_first i x lt is t (inr h) = (x, (i, omega arith, lt, sym is), h)

  pub first_all : (i : ℕ) → (t : Ty) → First f xs i t → Among f xs t
  first_all i t h = (h.0, (h.1.0, h.1.2, h.1.3), h.2)

  pub all_first : (i : ℕ) → length xs ≤ i → (t : Ty) → Among f xs t → First f xs i t
  all_first i end t h = (h.0, (h.1.0, omega (arith, h.1.1), h.1.1, h.1.2), h.2)

-- a superinterface is its class and its arguments
pub same_parts : (s t : Superinterface) → s.class ≡ t.class → s.args ≡ t.args → s ≡ t
same_parts s t e f = λ k. record { class = e k; args = f k }

-- a place in a list before which no class comes after that of x, and behind which all do
abbrev pub IsPlace : Superinterface → List Superinterface → ℕ → Type 0
IsPlace x xs at =
    (at ≤ length xs) × IsPartitionPoint (λ (s : Superinterface). class_before x.class s.class ≡ false) (λ (s : Superinterface). class_before x.class s.class ≡ true) xs at

-- what a call ensures, said otherwise
pub on_ok : {T E : Type 0} {A B : Type 0} (r : Result T E) → OnOk r A → (A → B) → OnOk r B
on_ok (Ok v) a f = f a
on_ok (Err e) a f = tt

-- what is put into the list where it isn't too large
pub adds_within : (t : Ty) (o : Option Superinterface) (a b : List Superinterface) → IsFormedWithin t o → ((s : Superinterface) → o ≡ Some s → Adds (λ u. u ≡ interface_of s) a b) → (o ≡ None → a ≡ b) → Adds (λ u. (u ≡ t) × (size_of u ≤ NODE_LIMIT)) a b
adds_within t None a b large some none =
    subst (λ (xs : List Superinterface). Adds (λ u. (u ≡ t) × (size_of u ≤ NODE_LIMIT)) a xs) (none refl)
    (adds_nothing (λ u. (u ≡ t) × (size_of u ≤ NODE_LIMIT)) a (λ u h. let e : size_of u ≡ size_of t = ap size_of h.0 in absurd (omega (arith, e, large, h.1))))
adds_within t (Some s) a b formed some none =
    adds_same (λ u. u ≡ interface_of s) (λ u. (u ≡ t) × (size_of u ≤ NODE_LIMIT)) a b (some s refl)
    (λ u h. h.0 ∙ sym formed.0)
    (λ u e. let is = e ∙ formed.0 in (is, let k : size_of u ≡ size_of t = ap size_of is in omega (arith, k, formed.1)))
