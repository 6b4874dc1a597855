-- What a write promotes to.
use Rattle.std.proofs.Common.{◌≡◌, Bool, true, false, ◌&&◌, List, [], ◌∷◌, if◌then◌else◌, refl}
use Rattle.std.specs.Prelude.{All, filter, find}
use Rattle.std.specs.List.{list_all}
use Rattle.std.proofs.lemmas.List.Elements.{All-nil, All-cons, All-tail, All-head, All-append, All-weaker, filter_passes}
use Rattle.std.proofs.lemmas.Bool.{and_parts}
use Rattle.flow_model.specs.declared.locals.Facts.{Facts}
use Rattle.dart_types.specs.Ty.{Ty}
use Rattle.flow_model.specs.Flow.{last_or}
use Rattle.dart_types.specs.Tables.{Table}
use Rattle.dart_types.specs.Sub.{Sub, reflexivity}
use Rattle.dart_types.specs.SubTest.{sub}
use Rattle.dart_types.specs.Laws.{RowLaws}
use Rattle.flow_model.specs.TypeTests.{is_in, proper_sub}
use Rattle.flow_model.specs.Assign.{between_of, at_most_one, least_of, appended_of, interest_of, chain_after}

-- the step of the next lemma
All-found_at : (P : Ty → Type 0) (p : Ty → Bool) (t : Ty) (types : List Ty) (b : Bool) → p t ≡ b → P t → All P (at_most_one (find p types)) → All P (at_most_one (find p (t ∷ types)))
All-found_at P p t types true e first more = rw e (All-cons P t [] first (All-nil P))
All-found_at P p t types false e first more = rw e more

-- what is found in a list is as all of the list are
pub All-found : (P : Ty → Type 0) (p : Ty → Bool) (types : List Ty) → All P types → All P (at_most_one (find p types))
All-found P p [] all = All-nil P
All-found P p (t ∷ types) all =
    All-found_at P p t types (p t) refl (All-head P t types all) (All-found P p types (All-tail P t types all))

module _ (table : Table) (laws : RowLaws table) (written : Ty) where
  -- the written type is a subtype of t
  abbrev Fits : Ty → Type 0
  Fits t = sub table written t ≡ true

  -- what a write appends fits, by whether it is the written type itself
  appended_fits_at : (current : Ty) (interest : List Ty) (b : Bool) → All Fits (if b then written ∷ [] else least_of table (between_of table written current interest))
  appended_fits_at current interest true = All-cons Fits written [] (laws.sub_complete written written reflexivity) (All-nil Fits)
  appended_fits_at current interest false =
      let between = between_of table written current interest in
      let passes = filter_passes (λ t. sub table written t && proper_sub table t current) interest in
      All-found Fits (λ t. list_all (sub table t) between) between
      (All-weaker (λ t. (sub table written t && proper_sub table t current) ≡ true) Fits (λ t h. (and_parts _ _ h).0) between passes)

  -- the end of a chain after a write, by whether the local is captured
  end_fits : (current : Ty) (interest : List Ty) (captured : Bool) → All Fits (if captured then [] else appended_of table written current interest)
  end_fits current interest true = All-nil Fits
  end_fits current interest false = appended_fits_at current interest (is_in interest written && proper_sub table written current)

  -- the written type is a subtype of each type that the local is promoted to afterwards
  pub chain_fits : (l : Facts) → All (λ t. Sub table written t) (chain_after table written l)
  chain_fits l =
      let kept = filter (sub table written) l.chain in
      All-weaker Fits (λ t. Sub table written t) (λ t h. laws.sub_sound written t h) (chain_after table written l)
      (All-append Fits kept _ (filter_passes (sub table written) l.chain) (end_fits (last_or l.ty kept) (interest_of table l) l.captured))
