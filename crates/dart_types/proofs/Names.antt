-- Named parameters in the order of their names, looked up by name.
use Rattle.std.proofs.Common.{◌≡◌, ℕ, zero, suc, ◌+◌, ◌<◌, ◌≤◌, Bool, true, false, List, [], ◌∷◌, length, drop, get_or, refl, sym, ◌∙◌, ap, subst, cond, arith, drop-cons, add-one, slice_index_or, inl, inr}
use Rattle.std.specs.Prelude.{◌&&◌, ◌||◌, bytes_eq, AllPairs}
use Rattle.std.specs.Cmp.Lexicographic.{bytes_decides}
use Rattle.std.proofs.Math.ListN.{length-map}
use Rattle.std.proofs.lemmas.Bool.{cases_lt}
use Rattle.std.proofs.lemmas.Cmp.{nat_list_cmp_total, tied_itself}
use Rattle.std.proofs.lemmas.List.{get_or-map, get_or_default}
use Rattle.dart_types.specs.Ty.{Ty}
use Rattle.dart_types.specs.Named.{named_of, names_of, IsNameBefore, AreInOrder}
use Rattle.dart_types.specs.NamedSearch.{StandsFrom, IsNotFrom}
use Rattle.dart_types.specs.Sub.{is_required, required_in, HasNamed, first, later}
use Rattle.dart_types.specs.Substitution.{put, put_named}
use Rattle.dart_types.specs.declared.types.NamedType.{NamedType}
use Rattle.dart_types.specs.declared.ids.VarId.{VarId}
use Rattle.dart_types.proofs.EntryLemmas.{AllPairs-map}

-- the names of two parameters in order
abbrev pub IsBefore : NamedType → NamedType → Type 0
IsBefore a b = IsNameBefore a.name b.name

-- a name that comes before another differs from it
pub name_apart : (m n : List ℕ) → IsNameBefore m n → m ≡ n → ⊥
name_apart m n h e =
    let k : IsNameBefore n n = subst (λ (l : List ℕ). IsNameBefore l n) e h in
    let t = tied_itself nat_list_cmp_total n in
    cc

pub name_trans : (l m n : List ℕ) → IsNameBefore l m → IsNameBefore m n → IsNameBefore l n
name_trans l m n h k = nat_list_cmp_total.trans l m n h k

pub other_bytes : (m n : List ℕ) → (m ≡ n → ⊥) → bytes_eq m n ≡ false
other_bytes m n h = at (bytes_eq m n) refl
  where
    at : (b : Bool) → bytes_eq m n ≡ b → bytes_eq m n ≡ false
    at true e = absurd (h ((bytes_decides m n).0 e))
    at false e = e

-- a name that no parameter has isn't required
pub not_required : (ns : List NamedType) (m : List ℕ) → ((k : ℕ) (d : NamedType) → k < length ns → (get_or ns k d).name ≡ m → ⊥) → is_required (named_of ns) m ≡ false
not_required [] m h = refl
not_required (n ∷ ns) m h =
    let e : bytes_eq n.name m ≡ false = other_bytes n.name m (h 0 n (omega arith)) in
    rw e (not_required ns m (λ k d lt same. h (suc k) d (omega arith) same))

-- of parameters in order the name at a place is required where that parameter is
required_there : (ns : List NamedType) → AllPairs IsBefore ns → (k : ℕ) (d : NamedType) → k < length ns → is_required (named_of ns) (get_or ns k d).name ≡ (get_or ns k d).required
required_there [] order k d lt = absurd (omega arith)
required_there (n ∷ ns) order zero d lt =
    let e : bytes_eq n.name n.name ≡ true = (bytes_decides n.name n.name).1 refl in
    let f : is_required (named_of ns) n.name ≡ false = not_required ns n.name (λ k c in_range same. name_apart n.name (get_or ns k c).name (order 0 (suc k) c (omega arith) (omega arith)) (sym same)) in
    rw (e, f) (or_false n.required)
  where
    or_false : (b : Bool) → (b || false) ≡ b
    or_false true = refl
    or_false false = refl
required_there (n ∷ ns) order (suc k) d lt =
    let e : bytes_eq n.name (get_or ns k d).name ≡ false = other_bytes n.name (get_or ns k d).name (name_apart n.name (get_or ns k d).name (order 0 (suc k) d (omega arith) (omega arith))) in
    rw e (required_there ns (λ i j c i_lt in_range. order (suc i) (suc j) c (omega arith) (omega arith)) k d (omega arith))

-- a parameter at a place is one of the list
pub has_at : (σ : VarId → Ty) (ns : List NamedType) (k : ℕ) (d : NamedType) → k < length ns → HasNamed (put_named σ (named_of ns)) (get_or ns k d).name (put σ (get_or ns k d).ty)
has_at σ [] k d lt = absurd (omega arith)
has_at σ (n ∷ ns) zero d lt = first
has_at σ (n ∷ ns) (suc k) d lt = later (has_at σ ns k d (omega arith))

-- and one of the list stands at a place
pub place_of : (σ : VarId → Ty) (ns : List NamedType) (m : List ℕ) (s : Ty) → HasNamed (put_named σ (named_of ns)) m s → (d : NamedType) → (k : ℕ) × (k < length ns) × ((get_or ns k d).name ≡ m) × (put σ (get_or ns k d).ty ≡ s)
place_of σ [] m s h d = elim h [ ]
place_of σ (n ∷ ns) m s first d = (0, omega arith, refl, refl)
place_of σ (n ∷ ns) m s (later h) d = let p = place_of σ ns m s h d in (suc p.0, omega (arith, p.1), p.2, p.3)

-- the names of the parameters before one place all come before those from another place on
abbrev pub AllBefore : List NamedType → ℕ → List NamedType → ℕ → Type 0
AllBefore others from named i = (j k : ℕ) (d : NamedType) → j < from → i ≤ k → k < length named → IsNameBefore (get_or others j d).name (get_or named k d).name

pub none_before : (others named : List NamedType) → AllBefore others 0 named 0
none_before others named j k d lt le in_range = absurd (omega arith)

pub before_later : (others : List NamedType) (from : ℕ) (named : List NamedType) (i : ℕ) → AllBefore others from named i → AllBefore others from named (i + 1)
before_later others from named i h j k d lt le in_range = h j k d lt (omega arith) in_range

module _ (named others : List NamedType) (order : AreInOrder (names_of named)) (other_order : AreInOrder (names_of others)) where
  pairs : AllPairs IsBefore named
  pairs = AllPairs-map (λ (n : NamedType). n.name) IsNameBefore named order

  other_pairs : AllPairs IsBefore others
  other_pairs = AllPairs-map (λ (n : NamedType). n.name) IsNameBefore others other_order

  -- the name of the place is that of the parameter there
  pub name_at : (at : ℕ) (d : NamedType) (m : List ℕ) → at < length others → slice_index_or (names_of others) at d.name ≡ m → (get_or others at d).name ≡ m
  name_at at d m lt e = sym (get_or-map (λ (n : NamedType). n.name) others at d d.name lt) ∙ e

  -- past a place where the name of a parameter stands, with the parameters behind it
  pub before_past : (from i at : ℕ) (d : NamedType) → i < length named → StandsFrom (names_of others) from (get_or named i d).name at → AllBefore others (at + 1) named (i + 1)
  before_past from i at d lt s j k e below le in_range =
      elim (cases_lt j at) as (λ _. IsNameBefore (get_or others j e).name (get_or named k e).name) [
        | inl less ↦ name_trans (get_or others j e).name (get_or others at e).name (get_or named k e).name (other_pairs j at e less within) here
        | inr more ↦
            let same : at ≡ j = omega arith in
            subst (λ (n : ℕ). IsNameBefore (get_or others n e).name (get_or named k e).name) same here
      ]
    where
      within : at < length others
      within = rw (← length-map others (λ (n : NamedType). n.name)) s.in_range

      here : IsNameBefore (get_or others at e).name (get_or named k e).name
      here =
          let a : (get_or others at e).name ≡ (get_or named i d).name = name_at at e (get_or named i d).name within (s.is_it e.name) in
          let b : IsNameBefore (get_or named i e).name (get_or named k e).name = pairs i k e (omega arith) in_range in
          subst (λ (l : List ℕ). IsNameBefore l (get_or named k e).name) (sym a)
          (subst (λ (n : NamedType). IsNameBefore n.name (get_or named k e).name) (get_or_default named i e d lt) b)

  -- a name that doesn't stand from there on isn't among the others
  pub nowhere : (from i : ℕ) (d : NamedType) → i < length named → AllBefore others from named i → IsNotFrom (names_of others) from (get_or named i d).name → (k : ℕ) (e : NamedType) → k < length others → (get_or others k e).name ≡ (get_or named i d).name → ⊥
  nowhere from i d lt before none k e in_range same =
      elim (cases_lt k from) [
        | inl less ↦
            let b : IsNameBefore (get_or others k e).name (get_or named i e).name = before k i e less (omega arith) lt in
            name_apart (get_or others k e).name (get_or named i e).name b (same ∙ ap (λ (n : NamedType). n.name) (get_or_default named i d e lt))
        | inr more ↦ none.nowhere k e.name more (rw (length-map others (λ (n : NamedType). n.name)) in_range) (get_or-map (λ (n : NamedType). n.name) others k e e.name in_range ∙ same)
      ]

  -- a name stands at one place alone
  pub same_place : (j k : ℕ) (d : NamedType) → j < length named → k < length named → (get_or named j d).name ≡ (get_or named k d).name → j ≡ k
  same_place j k d h l e =
      elim (cases_lt j k) as (λ _. j ≡ k) [
        | inl lt ↦ absurd (name_apart (get_or named j d).name (get_or named k d).name (pairs j k d lt l) e)
        | inr ge ↦ elim (cases_lt k j) as (λ _. j ≡ k) [
          | inl gt ↦ absurd (name_apart (get_or named k d).name (get_or named j d).name (pairs k j d gt h) (sym e))
          | inr le ↦ omega arith
        ]
      ]

  module _ (i : ℕ) (n : NamedType) (lt : i < length named) (is : n ≡ get_or named i n) where
    step : required_in (named_of (drop i named)) (named_of others) ≡ (cond n.required (is_required (named_of others) n.name) true && required_in (named_of (drop (i + 1) named)) (named_of others))
    step =
        let e : drop i named ≡ get_or named i n ∷ drop (suc i) named = drop-cons named i n lt in
        rw (add-one i, e, ← is) refl

    -- one that only the first list requires
    pub required_alone : n.required ≡ true → is_required (named_of others) n.name ≡ false → required_in (named_of (drop i named)) (named_of others) ≡ required_in (named_of named) (named_of others) → false ≡ required_in (named_of named) (named_of others)
    required_alone r e so =
        let head : cond n.required (is_required (named_of others) n.name) true ≡ false = rw (r, e) refl in
        ap (λ b. b && required_in (named_of (drop (i + 1) named)) (named_of others)) (sym head) ∙ sym step ∙ so

    -- one that the second list requires, or neither
    pub required_too : cond n.required (is_required (named_of others) n.name) true ≡ true → required_in (named_of (drop i named)) (named_of others) ≡ required_in (named_of named) (named_of others) → required_in (named_of (drop (i + 1) named)) (named_of others) ≡ required_in (named_of named) (named_of others)
    required_too e so = ap (λ b. b && required_in (named_of (drop (i + 1) named)) (named_of others)) (sym e) ∙ sym step ∙ so

    -- a name that isn't found isn't required
    pub not_among : (from : ℕ) → AllBefore others from named i → IsNotFrom (names_of others) from n.name → is_required (named_of others) n.name ≡ false
    not_among from before none =
        not_required others n.name
        (λ k d in_range same.
        nowhere from i n lt before (subst (λ (m : NamedType). IsNotFrom (names_of others) from m.name) is none) k d in_range (same ∙ ap (λ (m : NamedType). m.name) is))

    -- one that is found is required where that is
    pub found_required : (from at : ℕ) (o : NamedType) → StandsFrom (names_of others) from n.name at → o ≡ get_or others at o → is_required (named_of others) n.name ≡ o.required
    found_required from at o s here =
        let within : at < length others = rw (← length-map others (λ (m : NamedType). m.name)) s.in_range in
        ap (λ (m : List ℕ). is_required (named_of others) m) (sym (name_at at o n.name within (s.is_it o.name)))
        ∙ required_there others other_pairs at o within
        ∙ ap (λ (m : NamedType). m.required) (sym here)

    -- what was passed comes before what is left
    pub passed : (from at : ℕ) → StandsFrom (names_of others) from n.name at → AllBefore others (at + 1) named (i + 1)
    passed from at s = before_past from i at n lt (subst (λ (m : NamedType). StandsFrom (names_of others) from m.name at) is s)

-- a parameter of another name
pub other_at : (named : List NamedType) (at : ℕ) (n : NamedType) (m a b : List ℕ) → at < length named → n ≡ get_or named at n → a ≡ n.name → b ≡ m → bytes_eq a b ≡ false → (d : List ℕ) → slice_index_or (names_of named) at d ≡ m → ⊥
other_at named at n m a b lt is left right other d e =
    let here : n.name ≡ m = ap (λ (k : NamedType). k.name) is ∙ sym (get_or-map (λ (k : NamedType). k.name) named at n d lt) ∙ e in
    let t : bytes_eq a b ≡ true = (bytes_decides a b).1 (left ∙ here ∙ sym right) in
    cc

pub either : (r x : Bool) → x ≡ true → cond r x true ≡ true
either true x h = h
either false x h = refl
