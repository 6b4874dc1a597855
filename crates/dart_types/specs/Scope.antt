-- Substitution within the bounds of the variables in scope.
use Rattle.std.specs.Prelude.{◌≡◌, true, List, Some}
use Rattle.dart_types.specs.Ty.{Ty, Types, Named, invalid, never, void, null, interface, function, variable, promoted, nullable, no_more, more, no_named, more_named}
use Rattle.dart_types.specs.Substitution.{put}
use Rattle.dart_types.specs.Tables.{Table, bound_of}
use Rattle.dart_types.specs.WellFormed.{is_among}
use Rattle.dart_types.specs.Sub.{Sub}
use Rattle.dart_types.specs.declared.ids.VarId.{VarId}

module _ (scope : List VarId) (σ : VarId → Ty) where
  abbrev mutual
    -- the type holds variables in scope alone, and the X of each `X & U` in it stands for itself
    pub IsInScope : Ty → Type 0
    IsInScope invalid = Unit {0}
    IsInScope never = Unit {0}
    IsInScope void = Unit {0}
    IsInScope null = Unit {0}
    IsInScope (interface c ts) = AreInScope ts
    IsInScope (function r o n e) = AreInScope r × AreInScope o × AreInScopeNamed n × IsInScope e
    IsInScope (variable x) = is_among scope x ≡ true
    IsInScope (promoted x t) = (is_among scope x ≡ true) × (σ x ≡ variable x) × IsInScope t
    IsInScope (nullable t) = IsInScope t

    -- so it is with the types of a list
    pub AreInScope : Types → Type 0
    AreInScope no_more = Unit {0}
    AreInScope (more t ts) = IsInScope t × AreInScope ts

    -- so it is with the types of named parameters
    pub AreInScopeNamed : Named → Type 0
    AreInScopeNamed no_named = Unit {0}
    AreInScopeNamed (more_named n r t ts) = IsInScope t × AreInScopeNamed ts

  -- the bounds of the variables in scope are in scope, and what each variable stands for is within its bound
  pub record IsWithinBounds (table : Table) : Type 0 where
    pub closed : (x : VarId) (b : Ty) → is_among scope x ≡ true → bound_of table x ≡ Some b → IsInScope b
    pub within : (x : VarId) (b : Ty) → is_among scope x ≡ true → bound_of table x ≡ Some b → Sub table (σ x) (put σ b)
