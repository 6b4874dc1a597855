-- The parameter of a name, among parameters in the order of their names.
use Rattle.std.proofs.Common.{◌≡◌, ℕ, suc, ◌<◌, ◌≤◌, Bool, true, false, List, [], ◌∷◌, length, get_or, None, Some, refl, sym, ◌∙◌, ap, subst, cond, arith, inl, inr}
use Rattle.std.specs.Prelude.{◌≢◌, ◌&&◌, ◌||◌, bytes_eq, find, AllPairs}
use Rattle.std.specs.Ordering.{nat_cmp, is_lt, ordering_reverse, is_eq}
use Rattle.std.specs.declared.cmp.Ordering.{Ordering}
use Rattle.std.specs.declared.cmp.Ordering.TheVariants.{Less, Equal, Greater}
use Rattle.std.specs.Cmp.Lexicographic.{slice_cmp, texts_ties, bytes_decides}
use Rattle.std.specs.List.{AllWithin}
use Rattle.std.specs.List.Sorted.{IsPartitionedBy, IsPartitionPoint}
use Rattle.std.proofs.lemmas.Bool.{cases_lt}
use Rattle.std.proofs.lemmas.Cmp.{nat_list_cmp_total}
use Rattle.std.proofs.lemmas.List.{get_or_default}
use Rattle.dart_types.specs.Named.{IsNameBefore, AreInOrder, named_of, names_of, has_name}
use Rattle.dart_types.specs.Sub.{is_required}
use Rattle.dart_types.specs.declared.types.NamedType.{NamedType}
use Rattle.dart_types.proofs.EntryLemmas.{AllPairs-map}
use Rattle.dart_types.proofs.Names.{IsBefore, name_apart, name_trans, other_bytes, not_required}
use Rattle.dart_types.proofs.Searches.{find_none, find_at}

less_when : (o : Ordering) → is_lt o ≡ true → o ≡ Less
less_when Less h = refl
less_when Equal h = cc
less_when Greater h = cc

-- of two names of which the first neither comes before the other nor is it, the other comes before
other_before : (m n : List ℕ) → slice_cmp nat_cmp m n ≢ Less → bytes_eq m n ≡ false → IsNameBefore n m
other_before m n h k = at (slice_cmp nat_cmp m n) refl
  where
    at : (o : Ordering) → slice_cmp nat_cmp m n ≡ o → IsNameBefore n m
    at Less e = absurd (h e)
    at Equal e = let t : false ≡ true = sym k ∙ texts_ties m n ∙ ap is_eq e in cc
    at Greater e = nat_list_cmp_total.antisymm n m ∙ ap ordering_reverse e

module _ (ns : List NamedType) (order : AreInOrder (names_of ns)) (m : List ℕ) where
  abbrev pub comes_before : NamedType → Bool
  comes_before n = is_lt (slice_cmp nat_cmp n.name m)

  abbrev pub is_named : NamedType → Bool
  is_named n = bytes_eq n.name m

  pairs : AllPairs IsBefore ns
  pairs = AllPairs-map (λ (n : NamedType). n.name) IsNameBefore ns order

  -- where a name comes before another, so do those in front of it
  pub names_partitioned : IsPartitionedBy comes_before ns
  names_partitioned j k d le in_range h =
      elim (cases_lt j k) as (λ _. comes_before (get_or ns j d) ≡ true) [
        | inl lt ↦ ap is_lt (name_trans (get_or ns j d).name (get_or ns k d).name m (pairs j k d lt in_range) (less_when (slice_cmp nat_cmp (get_or ns k d).name m) h))
        | inr ge ↦ let e : k ≡ j = omega arith in subst (λ (i : ℕ). comes_before (get_or ns i d) ≡ true) e h
      ]

  pub before_place : (at : ℕ) → IsPartitionPoint (λ n. comes_before n ≡ true) (λ n. comes_before n ≡ false) ns at → IsPartitionPoint (λ n. IsNameBefore n.name m) (λ n. slice_cmp nat_cmp n.name m ≢ Less) ns at
  before_place at parted = (
    λ j d from to. less_when (slice_cmp nat_cmp (get_or ns j d).name m) (parted.0 j d from to),
    λ j d from to e. let t : true ≡ false = sym (ap is_lt e) ∙ parted.1 j d from to in cc,
  )

  module _ (at : ℕ) (parted : IsPartitionPoint (λ n. IsNameBefore n.name m) (λ n. slice_cmp nat_cmp n.name m ≢ Less) ns at) where
    -- what stands before the place has another name
    others_before : AllWithin (λ n. is_named n ≡ false) ns 0 at
    others_before j d from to = other_bytes (get_or ns j d).name m (name_apart (get_or ns j d).name m (parted.0 j d from to))

    -- the parameter of the name is found at the place
    pub name_found : (d : NamedType) → at < length ns → is_named (get_or ns at d) ≡ true → find is_named ns ≡ Some (get_or ns at d)
    name_found d within same = find_at is_named ns at d within others_before same

    -- where the place is the end, none has the name
    pub no_name_at_end : length ns ≤ at → find is_named ns ≡ None
    no_name_at_end end = find_none is_named ns (λ j d from to. others_before j d from (omega arith))

    -- where another name stands at the place, none has the name
    pub no_name_there : (d : NamedType) → at < length ns → is_named (get_or ns at d) ≡ false → find is_named ns ≡ None
    no_name_there d within other = find_none is_named ns at_each
      where
        behind : (j : ℕ) (e : NamedType) → at ≤ j → j < length ns → is_named (get_or ns at e) ≡ false → is_named (get_or ns j e) ≡ false
        behind j e le to no_match =
            let here : IsNameBefore m (get_or ns at e).name = other_before (get_or ns at e).name m (parted.1 at e (omega arith) within) no_match in
            elim (cases_lt at j) as (λ _. is_named (get_or ns j e) ≡ false) [
              | inl lt ↦ other_bytes (get_or ns j e).name m (λ same. name_apart m (get_or ns j e).name (name_trans m (get_or ns at e).name (get_or ns j e).name here (pairs at j e lt to)) (sym same))
              | inr ge ↦ let f : at ≡ j = omega arith in subst (λ (i : ℕ). is_named (get_or ns i e) ≡ false) f no_match
            ]

        at_each : AllWithin (λ n. is_named n ≡ false) ns 0 (length ns)
        at_each j e from to =
            elim (cases_lt j at) as (λ _. is_named (get_or ns j e) ≡ false) [
              | inl lt ↦ others_before j e from lt
              | inr ge ↦ behind j e ge to (subst (λ (n : NamedType). is_named n ≡ false) (get_or_default ns at d e within) other)
            ]

or_false : (b : Bool) → (b || false) ≡ b
or_false true = refl
or_false false = refl

required_where : (ns : List NamedType) → AllPairs IsBefore ns → (m : List ℕ) (n : NamedType) → find (λ k. bytes_eq k.name m) ns ≡ Some n → is_required (named_of ns) m ≡ n.required
required_where [] rising m n e = cc
required_where (k ∷ ns) rising m n e = at (bytes_eq k.name m) refl e (λ f. required_where ns (λ i j d lt within. rising (suc i) (suc j) d (omega arith) (omega arith)) m n f)
  where
    at : (b : Bool) → bytes_eq k.name m ≡ b → cond b (Some k) (find (λ l. bytes_eq l.name m) ns) ≡ Some n → (find (λ l. bytes_eq l.name m) ns ≡ Some n → is_required (named_of ns) m ≡ n.required) → ((b && k.required) || is_required (named_of ns) m) ≡ n.required
    at true is here go =
        let same : k ≡ n = cc in
        let name : k.name ≡ m = (bytes_decides k.name m).0 is in
        let others : is_required (named_of ns) m ≡ false = not_required ns m (λ j d within f. name_apart k.name (get_or ns j d).name (rising 0 (suc j) d (omega arith) (omega arith)) (name ∙ sym f)) in
        ap (λ (b : Bool). k.required || b) others ∙ or_false k.required ∙ ap (λ (l : NamedType). l.required) same
    at false is behind go = go behind

-- of parameters in order the one that is found tells whether its name is required
pub required_found : (ns : List NamedType) → AreInOrder (names_of ns) → (m : List ℕ) (n : NamedType) → find (λ k. bytes_eq k.name m) ns ≡ Some n → is_required (named_of ns) m ≡ n.required
required_found ns order m n e = required_where ns (AllPairs-map (λ (k : NamedType). k.name) IsNameBefore ns order) m n e

-- a name is in the list where a parameter is found
pub has_none : (ns : List NamedType) (m : List ℕ) → find (λ n. bytes_eq n.name m) ns ≡ None → has_name (named_of ns) m ≡ false
has_none [] m e = refl
has_none (n ∷ ns) m e = at (bytes_eq n.name m) e (λ k. has_none ns m k)
  where
    at : (b : Bool) → cond b (Some n) (find (λ n. bytes_eq n.name m) ns) ≡ None → (find (λ n. bytes_eq n.name m) ns ≡ None → has_name (named_of ns) m ≡ false) → (b || has_name (named_of ns) m) ≡ false
    at true f go = cc
    at false f go = go f

pub has_some : (ns : List NamedType) (m : List ℕ) (u : NamedType) → find (λ n. bytes_eq n.name m) ns ≡ Some u → has_name (named_of ns) m ≡ true
has_some [] m u e = cc
has_some (n ∷ ns) m u e = at (bytes_eq n.name m) e (λ k. has_some ns m u k)
  where
    at : (b : Bool) → cond b (Some n) (find (λ n. bytes_eq n.name m) ns) ≡ Some u → (find (λ n. bytes_eq n.name m) ns ≡ Some u → has_name (named_of ns) m ≡ true) → (b || has_name (named_of ns) m) ≡ true
    at true f go = refl
    at false f go = go f
