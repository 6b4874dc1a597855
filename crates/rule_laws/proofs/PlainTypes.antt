-- The types of a plain local stay plain, whatever is tested or written.
use Rattle.std.proofs.Common.{◌≡◌, ℕ, zero, suc, Bool, true, false, ◌&&◌, not, List, [], ◌∷◌, map, if◌then◌else◌, Option, Some, refl, sym, subst, inl, inr}
use Rattle.std.specs.Prelude.{◌||◌, All, filter, find}
use Rattle.std.specs.List.{list_all}
use Rattle.std.proofs.lemmas.Bool.{or_cases, and_parts}
use Rattle.std.proofs.lemmas.List.Elements.{All-nil, All-cons, All-head, All-tail, All-append, All-filter, All-map, All-weaker}
use Rattle.dart_types.specs.Ty.{Ty, interface, nullable}
use Rattle.dart_types.specs.Measure.{weight_of}
use Rattle.dart_types.specs.Same.{same_type}
use Rattle.dart_types.specs.SubTest.{sub}
use Rattle.dart_types.specs.Tables.{Table}
use Rattle.type_bounds.specs.NonNull.{non_null_of, non_null_within}
use Rattle.flow_model.specs.TypeTests.{proper_sub, is_formed, is_in}
use Rattle.flow_model.specs.Flow.{last_or}
use Rattle.flow_model.specs.Assign.{interest_of, between_of, at_most_one, least_of, appended_of}
use Rattle.flow_model.specs.Promote.{without_null_of}
use Rattle.flow_model.specs.declared.locals.Facts.{Facts}
use Rattle.rule_laws.specs.Plain.{is_class, is_plain, IsPlainType, IsPlainLocal}

-- a class is plain
class_is_plain : (t : Ty) → is_class t ≡ true → is_plain t ≡ true
class_is_plain (interface c ts) h = h
class_is_plain _ h = cc

module _ (table : Table) where
  -- a class is itself without null
  class_within : (n : ℕ) (t : Ty) → is_class t ≡ true → non_null_within table n t ≡ t
  class_within zero t h = refl
  class_within (suc n) (interface c ts) h = refl
  class_within (suc n) _ h = cc

  -- a plain type is plain without null
  plain_within : (n : ℕ) (t : Ty) → is_plain t ≡ true → is_plain (non_null_within table n t) ≡ true
  plain_within zero t h = h
  plain_within (suc n) (interface c ts) h = h
  plain_within (suc n) (nullable u) h = rw (class_within n u h) (class_is_plain u h)
  plain_within (suc n) _ h = cc

  -- however many steps that takes
  pub plain_non_null : (t : Ty) → IsPlainType t → IsPlainType (non_null_of table t)
  unfolding non_null_of
  plain_non_null t h = plain_within (weight_of table t) t h

  -- so are the types of interest
  pub interest_plain : (l : Facts) → IsPlainLocal l → All IsPlainType (interest_of table l)
  interest_plain l plain =
      let types = l.ty ∷ l.tested in
      let own : All IsPlainType types = All-cons IsPlainType l.ty l.tested plain.declared plain.tested in
      All-append IsPlainType types (filter is_formed (map (non_null_of table) types)) own
      (All-filter is_formed IsPlainType (map (non_null_of table) types)
      (All-map IsPlainType (non_null_of table) types (All-weaker IsPlainType (λ t. IsPlainType (non_null_of table t)) plain_non_null types own)))

  -- none, or a type without null
  pub none_or_plain : (b : Bool) (t : Ty) → IsPlainType t → All IsPlainType (if b then [] else t ∷ [])
  none_or_plain true t h = All-nil IsPlainType
  none_or_plain false t h = All-cons IsPlainType t [] h (All-nil IsPlainType)

  -- what a local is promoted to that isn't null
  pub without_null_plain : (t : Ty) → IsPlainType t → All IsPlainType (without_null_of table t)
  without_null_plain t h = none_or_plain (same_type (non_null_of table t) t || not (is_formed (non_null_of table t))) (non_null_of table t) (plain_non_null t h)

-- the last of plain types
pub last_plain : (t : Ty) (ts : List Ty) → IsPlainType t → All IsPlainType ts → IsPlainType (last_or t ts)
last_plain t [] h all = h
last_plain t (u ∷ us) h all = last_plain u us (All-head IsPlainType u us all) (All-tail IsPlainType u us all)

-- the step of the next lemma
found_at : (b : Bool) (t : Ty) (found : Option Ty) → IsPlainType t → All IsPlainType (at_most_one found) → All IsPlainType (at_most_one (if b then Some t else found))
found_at true t found here more = All-cons IsPlainType t [] here (All-nil IsPlainType)
found_at false t found here more = more

-- what is found among plain types
found_plain : (p : Ty → Bool) (types : List Ty) → All IsPlainType types → All IsPlainType (at_most_one (find p types))
found_plain p [] all = All-nil IsPlainType
found_plain p (t ∷ ts) all =
    found_at (p t) t (find p ts) (All-head IsPlainType t ts all) (found_plain p ts (All-tail IsPlainType t ts all))

-- either of two lists
pub either_plain : (b : Bool) (ss ts : List Ty) → (b ≡ true → All IsPlainType ss) → All IsPlainType ts → All IsPlainType (if b then ss else ts)
either_plain true ss ts first second = first refl
either_plain false ss ts first second = second

module _ (table : Table) (same : (s t : Ty) → same_type s t ≡ true → s ≡ t) where
  -- what is among plain types is plain
  in_plain : (types : List Ty) (t : Ty) → is_in types t ≡ true → All IsPlainType types → IsPlainType t
  in_plain [] t h all = cc
  in_plain (u ∷ us) t h all = elim (or_cases (same_type t u) (is_in us t) h) [
    | inl is ↦ subst IsPlainType (sym (same t u is)) (All-head IsPlainType u us all)
    | inr more ↦ in_plain us t more (All-tail IsPlainType u us all)
  ]

  -- what a write promotes a plain local to
  pub appended_plain : (written current : Ty) (interest : List Ty) → All IsPlainType interest → All IsPlainType (appended_of table written current interest)
  appended_plain written current interest all =
      let between = between_of table written current interest in
      either_plain (is_in interest written && proper_sub table written current) (written ∷ []) (least_of table between)
      (λ h. All-cons IsPlainType written [] (in_plain interest written (and_parts (is_in interest written) (proper_sub table written current) h).0 all) (All-nil IsPlainType))
      (found_plain (λ t. list_all (sub table t) between) between (All-filter (λ t. sub table written t && proper_sub table t current) IsPlainType interest all))
