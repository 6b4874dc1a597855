-- What code that may run any number of times does to what is known of a local.
use Rattle.std.proofs.Common.{◌≡◌, true, false, List, Option, Some, None, refl, ap, ◌∙◌}
use Rattle.std.specs.Option.{option_map}
use Rattle.dart_types.specs.Ty.{Ty}
use Rattle.flow_model.specs.Flow.{FlowModel, facts_of, current_of}
use Rattle.flow_model.specs.Steps.{is_changed, conservative_facts, conservative_of}
use Rattle.flow_model.specs.declared.locals.LocalId.{LocalId}
use Rattle.flow_model.specs.declared.locals.Facts.{Facts}
use Rattle.flow_model.proofs.Found.{found-map, number_found, same_local}
use Rattle.flow_model.proofs.ImpliedPairs.{numbers_stay}

module _ (m : FlowModel) (written captured : List LocalId) (var : LocalId) where
  -- what is known of a local around code that writes and captures these
  pub facts_of-conservative : facts_of (conservative_of m written captured) var ≡ option_map (conservative_facts written captured) (facts_of m var)
  facts_of-conservative =
      found-map (conservative_facts written captured) (numbers_stay written captured) m.locals var

  -- the facts that are known of the local are of the local
  changes_found : (l : Facts) → facts_of m var ≡ Some l → is_changed written captured l.var ≡ is_changed written captured var
  changes_found l is = ap (is_changed written captured) (same_local l.var var (number_found m var l is))

  -- a local that the code changes has its declared type
  current-forgotten : (l : Facts) → is_changed written captured l.var ≡ true → current_of (conservative_facts written captured l) ≡ l.ty
  current-forgotten l changed = rw changed refl

  -- what is known of one that it doesn't change stays
  conservative-kept : (l : Facts) → is_changed written captured l.var ≡ false → conservative_facts written captured l ≡ l
  conservative-kept l unchanged = rw unchanged refl

  -- a change of what is found, by what it does to the one local
  current_found : (found : Option Facts) → ((l : Facts) → found ≡ Some l → current_of (conservative_facts written captured l) ≡ l.ty) → option_map current_of (option_map (conservative_facts written captured) found) ≡ option_map (λ l. l.ty) found
  current_found None each = refl
  current_found (Some l) each = ap (λ (t : Ty). Some t) (each l refl)

  -- the same where it does nothing
  kept_found : (found : Option Facts) → ((l : Facts) → found ≡ Some l → conservative_facts written captured l ≡ l) → option_map (conservative_facts written captured) found ≡ found
  kept_found None each = refl
  kept_found (Some l) each = ap (λ (f : Facts). Some f) (each l refl)

  -- around code that changes the local it has its declared type
  pub conservative_forgets : is_changed written captured var ≡ true → option_map current_of (facts_of (conservative_of m written captured) var) ≡ option_map (λ l. l.ty) (facts_of m var)
  conservative_forgets changed =
      ap (option_map current_of) facts_of-conservative
      ∙ current_found (facts_of m var) (λ l is. current-forgotten l (changes_found l is ∙ changed))

  -- and around other code what is known of it stays
  pub conservative_keeps : is_changed written captured var ≡ false → facts_of (conservative_of m written captured) var ≡ facts_of m var
  conservative_keeps unchanged =
      facts_of-conservative ∙ kept_found (facts_of m var) (λ l is. conservative-kept l (changes_found l is ∙ unchanged))
