-- Flow models of bodies in which only plain types are written and no closure stands.
use Rattle.std.specs.Prelude.{◌≡◌, ℕ, Bool, true, false, Some, All, IsTrue}
use Rattle.std.specs.FinMap.{get}
use Rattle.dart_types.specs.Ty.{Ty, Types, null, interface, nullable, no_more, more}
use Rattle.dart_types.specs.Tables.{Table}
use Rattle.flow_model.specs.Flow.{FlowModel, IsInOrder}
use Rattle.flow_model.specs.Chains.{HasDescendingChains}
use Rattle.flow_model.specs.declared.locals.Facts.{Facts}
use Rattle.flow_model.specs.declared.locals.LocalId.{LocalId}
use Rattle.judgement.specs.Surroundings.{Surroundings}
use Rattle.built_forms.specs.Forms.{is_free}
use Rattle.built_forms.specs.Meanings.{meaning_at}

-- there are none
abbrev pub are_none : Types → Bool
are_none no_more = true
are_none (more t ts) = false

-- a class without type arguments
abbrev pub is_class : Ty → Bool
is_class (interface class types) = are_none types
is_class _ = false

-- that, with `?` behind it or without: the types of locals
abbrev pub is_plain : Ty → Bool
is_plain (nullable t) = is_class t
is_plain t = is_class t

-- that, or Null: the types of values
abbrev pub is_value_type : Ty → Bool
is_value_type null = true
is_value_type t = is_plain t

-- a type of a local
abbrev pub IsPlainType : Ty → Type 0
IsPlainType t = IsTrue (is_plain t)

-- all types of a local are plain, and no closure writes it
pub record IsPlainLocal (l : Facts) : Type 0 where
  pub declared : IsPlainType l.ty
  pub promoted : All IsPlainType l.chain
  pub tested : All IsPlainType l.tested
  pub own : l.captured ≡ false

-- the locals of a model stand in order and are plain, and each type that one is promoted to is a subtype of the one before
pub record IsPlain (table : Table) (m : FlowModel) : Type 0 where
  pub in_order : IsInOrder m.locals
  pub plain : All IsPlainLocal m.locals
  pub descending : HasDescendingChains table m

-- no local in scope hides what its name means outside of the body, as a type: there the name means nothing
abbrev pub HidesNothing : Surroundings → Type 0
HidesNothing s = (word : ℕ) (var : LocalId) → get s.names word ≡ Some var → is_free (meaning_at s.outside word) ≡ true
