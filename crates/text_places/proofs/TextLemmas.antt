-- Where a text stands among others.
use Rattle.std.proofs.Common.{◌≡◌, inl, inr, ◌⊎◌, ℕ, ◌<◌, true, false, List, [], ◌∷◌, ◌++◌, length, get_or, Some, None, bytes_eq, slice_get, position, take, map, Bor, refl, sym, ap, ◌∙◌, zero, suc, arith}
use Rattle.std.specs.List.{position_or_len, list_any}
use Rattle.std.specs.Option.{option_map}
use Rattle.std.specs.Cmp.Lexicographic.{bytes_decides}
use Rattle.std.proofs.lemmas.Bool.{cases_Bool, cases_lt, cond-true, cond-false, lt-ltb, le-ltb}
use Rattle.std.proofs.lemmas.List.Sums.{position_or_len_is, fails_before_first}
use Rattle.std.proofs.lemmas.List.Folds.{list_any_at}
use Rattle.std.proofs.lemmas.List.Quantifiers.{position-Some}
use Rattle.std.proofs.lemmas.Map.Keys.{any_passes_from_place}
use Rattle.std.proofs.lemmas.Option.{slice_get-map, slice_get_within, slice_get-get_or, get_or_from_slice_get, none-some, same_Some}

module _ (text : List ℕ) where
  same : bytes_eq text text ≡ true
  same = (bytes_decides text text).1 refl

  other_at : (texts : List (List ℕ)) (k : ℕ) → k < length texts → (slice_get texts k ≡ Some text → ⊥) → bytes_eq text (get_or texts k text) ≡ false
  other_at texts k less nowhere = elim (cases_Bool (bytes_eq text (get_or texts k text))) [
    | inl is ↦ absurd (nowhere (slice_get-get_or texts k text less ∙ ap Some (sym ((bytes_decides text (get_or texts k text)).0 is))))
    | inr not ↦ not
  ]

  -- a text that stands nowhere
  module _ (texts : List (List ℕ)) (nowhere : (place : ℕ) → slice_get texts place ≡ Some text → ⊥) where
    pub length_where_none : position_or_len (bytes_eq text) texts ≡ length texts
    length_where_none = position_or_len_is (bytes_eq text) texts (length texts) text (omega arith) (λ k less. other_at texts k less (nowhere k)) (λ less. absurd (omega (arith, less)))

    pub position_where_none : position (bytes_eq text) texts ≡ None
    position_where_none = cond-false _ _ None (le-ltb (position_or_len (bytes_eq text) texts) (length texts) (omega (arith, length_where_none)))

  -- a text that stands at one place alone
  module _ (texts : List (List ℕ)) (place : ℕ) (here : slice_get texts place ≡ Some text) (alone : (other : ℕ) → slice_get texts other ≡ Some text → other ≡ place) where
    pub place_where_alone : position_or_len (bytes_eq text) texts ≡ place
    place_where_alone =
        let within = slice_get_within texts place text here in
        position_or_len_is (bytes_eq text) texts place text (omega (arith, within)) (λ k less. other_at texts k (omega (arith, less, within)) (λ is. let e = alone k is in omega (arith, e, less))) (λ _. ap (bytes_eq text) (get_or_from_slice_get texts place text text here) ∙ same)

    pub position_where_alone : position (bytes_eq text) texts ≡ Some place
    position_where_alone =
        let within = slice_get_within texts place text here in
        cond-true _ (Some (position_or_len (bytes_eq text) texts)) None (lt-ltb (position_or_len (bytes_eq text) texts) (length texts) (omega (arith, place_where_alone, within))) ∙ ap Some place_where_alone

  -- a text that isn't among these is none of them
  pub apart_at : (texts : List (List ℕ)) (place : ℕ) (held : List ℕ) → list_any (bytes_eq text) texts ≡ false → slice_get texts place ≡ Some held → bytes_eq text held ≡ false
  apart_at texts place held absent here = elim (cases_Bool (bytes_eq text held)) [
    | inl is ↦ (let both = sym absent ∙ any_passes_from_place (bytes_eq text) texts place held here is in cc both)
    | inr not ↦ not
  ]

  -- a text that stands nowhere is none of them
  pub none_any : (texts : List (List ℕ)) → ((place : ℕ) → slice_get texts place ≡ Some text → ⊥) → list_any (bytes_eq text) texts ≡ false
  none_any [] nowhere = refl
  none_any (first ∷ more) nowhere = elim (cases_Bool (bytes_eq text first)) [
    | inl is ↦ absurd (nowhere 0 (ap Some (sym ((bytes_decides text first).0 is))))
    | inr not ↦ rw not (none_any more (λ place. nowhere (suc place)))
  ]

  -- a text without a position stands nowhere
  pub nowhere_where_none : (texts : List (List ℕ)) → position (bytes_eq text) texts ≡ None → (place : ℕ) → slice_get texts place ≡ Some text → ⊥
  nowhere_where_none texts none place here = elim (cases_lt (position_or_len (bytes_eq text) texts) (length texts)) [
    | inl less ↦ none-some (position_or_len (bytes_eq text) texts) (sym none ∙ cond-true _ (Some (position_or_len (bytes_eq text) texts)) None (lt-ltb (position_or_len (bytes_eq text) texts) (length texts) less))
    | inr past ↦ (let within = slice_get_within texts place text here in
        let fails = fails_before_first (bytes_eq text) texts place text (omega (arith, within, past)) in
        let both = sym fails ∙ (ap (bytes_eq text) (get_or_from_slice_get texts place text text here) ∙ same) in cc both)
  ]

  -- a text with a position is among them
  pub any_where_some : (texts : List (List ℕ)) (place : ℕ) → position (bytes_eq text) texts ≡ Some place → list_any (bytes_eq text) texts ≡ true
  any_where_some texts place some = let at = position-Some (bytes_eq text) texts place text some in list_any_at (bytes_eq text) texts place text at.0 at.1

get_take : (i : ℕ) (texts : List (List ℕ)) (k : ℕ) (text : List ℕ) → slice_get (take i texts) k ≡ Some text → (k < i) × (slice_get texts k ≡ Some text)
get_take zero texts k text is = absurd (none-some text is)
get_take (suc i) [] k text is = absurd (none-some text is)
get_take (suc i) (first ∷ more) zero text is = (omega arith, is)
get_take (suc i) (first ∷ more) (suc k) text is = let below = get_take i more k text is in (omega (arith, below.0), below.1)

map_take : (i : ℕ) (lent : List (Bor (List ℕ))) → map (λ t. t.now) (take i lent) ≡ take i (map (λ t. t.now) lent)
map_take zero lent = refl
map_take (suc i) [] = refl
map_take (suc i) (first ∷ more) = ap (λ ts. first.now ∷ ts) (map_take i more)

-- where each text stands once, one isn't among those before it
pub new_in_front : (lent : List (Bor (List ℕ))) → ((one other : ℕ) (text : List ℕ) → slice_get (map (λ t. t.now) lent) one ≡ Some text → slice_get (map (λ t. t.now) lent) other ≡ Some text → one ≡ other)
    → (i : ℕ) (d : Bor (List ℕ)) → i < length lent → list_any (bytes_eq (get_or lent i d).now) (map (λ t. t.now) (take i lent)) ≡ false
new_in_front lent once i d less =
    let text : List ℕ = (get_or lent i d).now in
    let here : slice_get (map (λ t. t.now) lent) i ≡ Some text = slice_get-map _ lent i ∙ ap (option_map (λ t. t.now)) (slice_get-get_or lent i d less) in
    ap (list_any (bytes_eq text)) (map_take i lent) ∙ none_any text (take i (map (λ t. t.now) lent)) (λ place is. let before = get_take i (map (λ t. t.now) lent) place text is in
    let same_place = once place i text before.1 here in omega (arith, same_place, before.0))

-- what stands in a list with one text more
pub get_snoc : (texts : List (List ℕ)) (text held : List ℕ) (place : ℕ) → slice_get (texts ++ text ∷ []) place ≡ Some held → (slice_get texts place ≡ Some held) ⊎ ((place ≡ length texts) × (text ≡ held))
get_snoc [] text held zero is = inr (refl, same_Some text held is)
get_snoc [] text held (suc place) is = absurd (none-some held is)
get_snoc (first ∷ more) text held zero is = inl is
get_snoc (first ∷ more) text held (suc place) is = elim (get_snoc more text held place is) [
  | inl before ↦ inl before
  | inr last ↦ inr (ap suc last.0, last.1)
]

-- the bytes of texts with one more behind them
pub map_snoc : (lent : List (Bor (List ℕ))) (last : Bor (List ℕ)) → map (λ t. t.now) (lent ++ last ∷ []) ≡ map (λ t. t.now) lent ++ last.now ∷ []
map_snoc [] last = refl
map_snoc (first ∷ more) last = ap (λ ts. first.now ∷ ts) (map_snoc more last)
