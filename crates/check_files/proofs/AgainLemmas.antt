-- What an iterator over what was read still has.
use Rattle.std.proofs.Common.{◌≡◌, ◌⊎◌, ◌↔◌, ℕ, zero, suc, ◌+◌, ◌<◌, List, [], ◌∷◌, ◌++◌, length, map, drop, get_or, Option, Some, None, inl, inr, refl, sym, ap, ◌∙◌, subst, arith}
use Rattle.std.specs.Prelude.{slice_get, option_map, option_to_list, IsSome}
use Rattle.std.proofs.lemmas.Bool.{false≢true}
use Rattle.judgement.specs.declared.fault.Fault.{Fault}
use Rattle.libraries.specs.declared.files.SourceFile.{SourceFile}
use Rattle.check_files.specs.Again.{AreOf}
use Rattle.check_files.specs.Lent.{file_view, table_view}
use Rattle.check_files.specs.Sources.{own_faults, source_of}
use Rattle.check_files.specs.declared.lent.LentFile.{LentFile}

-- the first of what is left behind so many, if there is one
first_left : {X : Type 0} (xs : List X) (i : ℕ) → ((drop i xs ≡ []) × (drop (suc i) xs ≡ []) × (slice_get xs i ≡ None)) ⊎ ((x : X) × (drop i xs ≡ x ∷ drop (suc i) xs) × (slice_get xs i ≡ Some x))
first_left [] zero = inl (refl, refl, refl)
first_left [] (suc i) = inl (refl, refl, refl)
first_left (x ∷ xs) zero = inr (x, refl, refl)
first_left (x ∷ xs) (suc i) = first_left xs i

module _ {X Y : Type 0} (f : X → Y) (xs : List X) where
  -- this is left of what was made of each
  pub record IsLeft (i : ℕ) (items : List Y) (count : ℕ) : Type 0 where
    pub items_are : items ≡ map f (drop i xs)
    pub count_is : count ≡ length items

  -- the next of it
  pub record IsNext (i : ℕ) (next : Option Y) (items : List Y) (count : ℕ) : Type 0 where
    pub next_is : next ≡ option_map f (slice_get xs i)
    pub left : IsLeft (suc i) items count

  -- where none is left there is no next
  none_next : (i : ℕ) (next : Option Y) (old new : List Y) (count count' : ℕ) → old ≡ [] → drop (suc i) xs ≡ [] → slice_get xs i ≡ None → count ≡ length old → old ≡ option_to_list next ++ new → count' + length (option_to_list next) ≡ count → IsNext i next new count'
  none_next i None old new count count' none after got counted is count_is =
      let empty : new ≡ [] = sym is ∙ none in
      record {
        next_is = rw got refl;
        left = record { items_are = rw after empty; count_is = rw (empty) (let e : length old ≡ 0 = ap length none in omega (arith, counted, count_is, e)) };
      }
  none_next i (Some y) old new count count' none after got counted is count_is = let bad : y ∷ new ≡ [] = sym is ∙ none in absurd (cc bad)

  -- else it is the first
  some_next : (i : ℕ) (next : Option Y) (x : X) (old new : List Y) (count count' : ℕ) → old ≡ f x ∷ map f (drop (suc i) xs) → slice_get xs i ≡ Some x → count ≡ length old → (IsSome next ↔ (0 < count)) → old ≡ option_to_list next ++ new → count' + length (option_to_list next) ≡ count → IsNext i next new count'
  some_next i None x old new count count' first got counted some is count_is =
      let long : length old ≡ suc (length (map f (drop (suc i) xs))) = ap length first in
      absurd (false≢true (some.1 (omega (arith, counted, long))))
  some_next i (Some y) x old new count count' first got counted some is count_is =
      let both : y ∷ new ≡ f x ∷ map f (drop (suc i) xs) = sym is ∙ first in
      let head : y ≡ f x = cc both in
      let tail : new ≡ map f (drop (suc i) xs) = cc both in
      record {
        next_is = rw (got, head) refl;
        left = record { items_are = tail; count_is = let long : length old ≡ suc (length new) = ap length is in omega (arith, counted, count_is, long) };
      }

  -- the next of what is left is what was made of the one at the place
  pub next_of : (i : ℕ) (next : Option Y) (old new : List Y) (count count' : ℕ) → IsLeft i old count → (IsSome next ↔ (0 < count)) → old ≡ option_to_list next ++ new → count' + length (option_to_list next) ≡ count → IsNext i next new count'
  next_of i next old new count count' left some is count_is = elim (first_left xs i) [
    | inl none ↦ none_next i next old new count count' (left.items_are ∙ ap (map f) none.0) none.1 none.2 left.count_is is count_is
    | inr first ↦ some_next i next first.0 old new count count' (left.items_are ∙ ap (map f) first.1) first.2 left.count_is some is count_is
  ]

  -- what is left behind the next one
  pub left_next : (i : ℕ) (next : Option Y) (items : List Y) (count : ℕ) → IsNext i next items count → IsLeft (i + 1) items count
  left_next i next items count h = let more : suc i ≡ i + 1 = omega arith in subst (λ (n : ℕ). IsLeft n items count) more h.left

-- what is made of elements in two steps stands where they do
get_made : {X Y Z : Type 0} (g : Y → Z) (f : X → Y) (xs : List X) (n : ℕ) (d : X) → n < length xs → option_map g (slice_get (map f xs) n) ≡ Some (g (f (get_or xs n d)))
get_made g f [] n d less = absurd (omega (arith, less))
get_made g f (x ∷ xs) zero d less = refl
get_made g f (x ∷ xs) (suc n) d less = get_made g f xs n d (omega (arith, less))

-- what the iterators give next was read of the old file at the place
pub of_old : (old : List LentFile) (n : ℕ) (file d : LentFile) (source : Option SourceFile) (own : Option (List Fault)) → n < length old → file ≡ get_or old n d → source ≡ option_map source_of (slice_get (table_view old) n) → own ≡ option_map (λ f. own_faults f.1) (slice_get (table_view old) n) → AreOf (file_view file) source own
of_old old n file d source own less is is_source is_own =
    rw (is, is_source ∙ get_made source_of file_view old n d less, is_own ∙ get_made (λ f. own_faults f.1) file_view old n d less) (record { source_is = refl; faults_are = refl })
