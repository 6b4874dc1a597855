-- Writes that promote a local to nothing.
use Rattle.std.proofs.Common.{◌≡◌, ℕ, zero, suc, Bool, true, false, ◌&&◌, not, List, [], ◌∷◌, ◌++◌, map, if◌then◌else◌, refl, ap, ◌∙◌}
use Rattle.std.specs.Prelude.{filter}
use Rattle.dart_types.specs.Ty.{Ty, Types, interface}
use Rattle.dart_types.specs.Measure.{weight_of}
use Rattle.dart_types.specs.SubTest.{sub}
use Rattle.dart_types.specs.Tables.{Table}
use Rattle.dart_types.specs.declared.ids.ClassId.{ClassId}
use Rattle.type_bounds.specs.NonNull.{non_null_of, non_null_within}
use Rattle.flow_model.specs.TypeTests.{proper_sub, is_formed, is_in}
use Rattle.flow_model.specs.Flow.{last_or}
use Rattle.flow_model.specs.Assign.{appended_of, between_of, chain_after, least_of}
use Rattle.flow_model.specs.declared.locals.Facts.{Facts}
use Rattle.flow_model.proofs.JoinLaws.{and-false}
use Rattle.flow_model.proofs.SameTypes.{same_type-refl}

-- the step of the next lemma
interface_within : (table : Table) (steps : ℕ) (c : ClassId) (ts : Types) → non_null_within table steps (interface c ts) ≡ interface c ts
interface_within table zero c ts = refl
interface_within table (suc steps) c ts = refl

-- an interface without null
pub non_null_of_interface : (table : Table) (c : ClassId) (ts : Types) → non_null_of table (interface c ts) ≡ interface c ts
unfolding non_null_of
non_null_of_interface table c ts = interface_within table (weight_of table (interface c ts)) c ts

-- of a list of which the first fails is kept what is kept of the others
kept_behind : {X : Type 0} (p : X → Bool) (x : X) (xs : List X) → p x ≡ false → filter p xs ≡ [] → filter p (x ∷ xs) ≡ []
kept_behind p x xs fails none = rw fails none

module _ (table : Table) (w : Ty) where
  -- a type is no proper subtype of itself
  improper : proper_sub table w w ≡ false
  improper = ap (λ (b : Bool). sub table w w && not b) (same_type-refl w) ∙ and-false (sub table w w)

  -- so it doesn't lie between itself and itself
  not_between : (sub table w w && proper_sub table w w) ≡ false
  not_between = ap (λ (b : Bool). sub table w w && b) improper ∙ and-false (sub table w w)

  -- the type itself, where it is formed
  formed_at : Bool → List Ty
  formed_at b = if b then w ∷ [] else []

  -- nor does it twice
  none_between : (b : Bool) → between_of table w w (w ∷ formed_at b) ≡ []
  unfolding formed_at
  none_between true =
      let p = λ (t : Ty). sub table w t && proper_sub table t w in
      kept_behind p w (w ∷ []) not_between (kept_behind p w [] not_between refl)
  none_between false =
      let p = λ (t : Ty). sub table w t && proper_sub table t w in
      kept_behind p w [] not_between refl

  -- where no other type is of interest than the current one, a write of a value of it promotes to nothing
  none_appended : appended_of table w w ((w ∷ []) ++ filter is_formed (w ∷ [])) ≡ []
  unfolding formed_at
  none_appended =
      let interest = (w ∷ []) ++ filter is_formed (w ∷ []) in
      ap (λ (b : Bool). if is_in interest w && b then w ∷ [] else least_of table (between_of table w w interest)) improper
      ∙ ap (λ (b : Bool). if b then w ∷ [] else least_of table (between_of table w w interest)) (and-false (is_in interest w))
      ∙ ap (least_of table) (none_between (is_formed w))

-- the chain after a write, by what is known of the local
chain_from : Table → Ty → Ty → List Ty → List Ty → Bool → List Ty
chain_from table w ty chain tested captured =
    let kept = filter (sub table w) chain in
    kept ++ (if captured then [] else appended_of table w (last_or ty kept) ((ty ∷ tested) ++ filter is_formed (map (non_null_of table) (ty ∷ tested))))

-- where the local has its declared type, which is its own type without null
unpromoted_at : (table : Table) (w : Ty) (captured : Bool) → non_null_of table w ≡ w → chain_from table w w [] [] captured ≡ []
unfolding chain_from
unpromoted_at table w true bare = refl
unpromoted_at table w false bare =
    ap (λ (n : Ty). appended_of table w w ((w ∷ []) ++ filter is_formed (n ∷ []))) bare ∙ none_appended table w

-- a write of a value of the declared type, beside which no other type is of interest
pub unpromoted : (table : Table) (l : Facts) (w : Ty) → l.chain ≡ [] → l.tested ≡ [] → non_null_of table l.ty ≡ l.ty → w ≡ l.ty → chain_after table w l ≡ []
unfolding chain_from
unpromoted table l w chain tested bare same =
    ap (λ (types : List Ty). chain_from table w l.ty types l.tested l.captured) chain
    ∙ ap (λ (types : List Ty). chain_from table w l.ty [] types l.captured) tested
    ∙ ap (λ (t : Ty). chain_from table t l.ty [] [] l.captured) same
    ∙ unpromoted_at table l.ty l.captured bare

-- a write of a captured local that isn't promoted
pub unpromoted_captured : (table : Table) (l : Facts) (w : Ty) → l.chain ≡ [] → l.captured ≡ true → chain_after table w l ≡ []
unfolding chain_from
unpromoted_captured table l w chain captured =
    ap (λ (types : List Ty). chain_from table w l.ty types l.tested l.captured) chain
    ∙ ap (λ (b : Bool). chain_from table w l.ty [] l.tested b) captured
