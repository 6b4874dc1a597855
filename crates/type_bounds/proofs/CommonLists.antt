-- The superinterfaces of a class with arguments that are computed are those that the rules have.
use Rattle.std.proofs.Common.{◌≡◌, ℕ, zero, suc, Bool, true, false, List, [], ◌∷◌, map, length, Option, Some, None, refl, sym, ap, subst, cond, arith, inl, inr}
use Rattle.std.specs.Prelude.{◌⊎◌, ◌&&◌, Contains, nat_eq}
use Rattle.std.specs.List.{list_all}
use Rattle.std.specs.Option.{option_map_or}
use Rattle.std.proofs.lemmas.Bool.{and_parts}
use Rattle.dart_types.specs.Ty.{Ty, Types, count}
use Rattle.dart_types.specs.Normal.{normal}
use Rattle.dart_types.specs.Substitution.{put, by_params}
use Rattle.dart_types.specs.Kept.{kept_of}
use Rattle.dart_types.specs.Tables.{Table, class_of}
use Rattle.dart_types.specs.WellFormed.{HasArguments}
use Rattle.dart_types.specs.declared.ids.ClassId.{ClassId}
use Rattle.dart_types.specs.declared.class_rows.ClassRow.{ClassRow}
use Rattle.dart_types.specs.Laws.{RowLaws}
use Rattle.type_bounds.specs.Common.{IsAbove}
use Rattle.type_bounds.specs.CommonOf.{above_of}
use Rattle.type_bounds.proofs.General.{nat_from_test, nat_eq-refl}

module _ {X : Type 0} where
  -- what is in a list is the first or behind it
  pub first_or_later : (x : X) (xs : List X) (y : X) → Contains (x ∷ xs) y → (x ≡ y) ⊎ Contains xs y
  first_or_later x xs y (zero, lt, e) = inl e
  first_or_later x xs y (suc k, lt, e) = inr (k, omega arith, e)

  pub is_first : (x : X) (xs : List X) → Contains (x ∷ xs) x
  is_first x xs = (0, omega arith, refl)

  pub is_later : (x : X) (xs : List X) (y : X) → Contains xs y → Contains (x ∷ xs) y
  is_later x xs y i = (suc i.0, omega (arith, i.1), i.2)

  -- a test of all elements
  pub all_pass : (p : X → Bool) (xs : List X) → list_all p xs ≡ true → (y : X) → Contains xs y → p y ≡ true
  all_pass p [] h y i = absurd (omega (arith, i.1))
  all_pass p (x ∷ xs) h y i =
      let both = and_parts (p x) (list_all p xs) h in
      elim (first_or_later x xs y i) as (λ _. p y ≡ true) [
        | inl e ↦ subst (λ (z : X). p z ≡ true) e both.0
        | inr j ↦ all_pass p xs both.1 y j
      ]

  pub pass_all : (p : X → Bool) (xs : List X) → ((y : X) → Contains xs y → p y ≡ true) → list_all p xs ≡ true
  pass_all p [] h = refl
  pass_all p (x ∷ xs) h = both (p x) (list_all p xs) (h x (is_first x xs)) (pass_all p xs (λ y i. h y (is_later x xs y i)))
    where
      both : (a b : Bool) → a ≡ true → b ≡ true → (a && b) ≡ true
      both true b d e = e
      both false b d e = cc

module _ {X Y : Type 0} where
  -- the images of the elements
  pub mapped : (f : X → Y) (xs : List X) (x : X) → Contains xs x → Contains (map f xs) (f x)
  mapped f [] x i = absurd (omega (arith, i.1))
  mapped f (z ∷ zs) x i = elim (first_or_later z zs x i) as (λ _. Contains (map f (z ∷ zs)) (f x)) [
    | inl e ↦ (0, omega arith, ap f e)
    | inr j ↦ is_later (f z) (map f zs) (f x) (mapped f zs x j)
  ]

  pub from_map : (f : X → Y) (xs : List X) (y : Y) → Contains (map f xs) y → (x : X) × Contains xs x × (f x ≡ y)
  from_map f [] y i = absurd (omega (arith, i.1))
  from_map f (z ∷ zs) y i = elim (first_or_later (f z) (map f zs) y i) as (λ _. (x : X) × Contains (z ∷ zs) x × (f x ≡ y)) [
    | inl e ↦ (z, is_first z zs, e)
    | inr j ↦ let r = from_map f zs y j in (r.0, is_later z zs r.0 r.1, r.2)
  ]

-- a class with as many arguments as its row has parameters
pub row_with : (table : Table) (c : ClassId) (ts : Types) → HasArguments (class_of table c) ts → (row : ClassRow) × (class_of table c ≡ Some row) × (count ts ≡ length row.params)
row_with table c ts h = at (class_of table c) refl h
  where
    at : (o : Option ClassRow) → class_of table c ≡ o → HasArguments o ts → (row : ClassRow) × (class_of table c ≡ Some row) × (count ts ≡ length row.params)
    at None e k = absurd k
    at (Some row) e k = (row, e, k)

module _ (table : Table) (laws : RowLaws table) where
  -- with arguments put in
  module _ (c : ClassId) (ts : Types) where
    abbrev Formed : ClassRow → List Ty
    Formed row = map (λ v. normal (put (by_params row.params ts) v)) (kept_of table c)

    pub above_sound : (u : Ty) → Contains (above_of table c ts) u → IsAbove table c ts u
    above_sound u i = at (class_of table c) refl i
      where
        counted : (row : ClassRow) → class_of table c ≡ Some row → (b : Bool) → nat_eq (count ts) (length row.params) ≡ b → Contains (cond b (Formed row) []) u → IsAbove table c ts u
        counted row e true k j =
            let m = from_map (λ v. normal (put (by_params row.params ts) v)) (kept_of table c) u j in
            record {
              row = row;
              row_is = e;
              counted = nat_from_test (count ts) (length row.params) k;
              over = m.0;
              superinterface = laws.kept_sound c m.0 m.1;
              is = sym m.2;
            }
        counted row e false k j = absurd (omega (arith, j.1))

        at : (o : Option ClassRow) → class_of table c ≡ o → Contains (option_map_or (λ row. cond (nat_eq (count ts) (length row.params)) (Formed row) []) o []) u → IsAbove table c ts u
        at None e j = absurd (omega (arith, j.1))
        at (Some row) e j = counted row e (nat_eq (count ts) (length row.params)) refl j

    pub above_complete : (u : Ty) → IsAbove table c ts u → Contains (above_of table c ts) u
    above_complete u a =
        let row = a.row in
        let here : Contains (Formed row) u =
        subst (λ (w : Ty). Contains (Formed row) w) (sym a.is)
        (mapped (λ v. normal (put (by_params row.params ts) v)) (kept_of table c) a.over (laws.kept_complete c a.over a.superinterface))
        in
        let k : nat_eq (count ts) (length row.params) ≡ true = subst (λ (n : ℕ). nat_eq (count ts) n ≡ true) a.counted (nat_eq-refl (count ts)) in
        subst (λ (o : Option ClassRow). Contains (option_map_or (λ r. cond (nat_eq (count ts) (length r.params)) (Formed r) []) o []) u) (sym a.row_is)
        (subst (λ (b : Bool). Contains (cond b (Formed row) []) u) (sym k) here)
