-- Types without `Invalid`.
use Rattle.std.specs.Prelude.{All}
use Rattle.dart_types.specs.Ty.{Ty, Types, Named, invalid, never, void, null, interface, function, variable, promoted, nullable, no_more, more, no_named, more_named}
use Rattle.dart_types.specs.Tables.{Table}

abbrev mutual
  -- the type holds no `Invalid`
  pub IsValid : Ty → Type 0
  IsValid invalid = ⊥
  IsValid never = Unit {0}
  IsValid void = Unit {0}
  IsValid null = Unit {0}
  IsValid (interface c ts) = AreValid ts
  IsValid (function r o n e) = AreValid r × AreValid o × AreValidNamed n × IsValid e
  IsValid (variable x) = Unit {0}
  IsValid (promoted x t) = IsValid t
  IsValid (nullable t) = IsValid t

  -- no type of a list does
  pub AreValid : Types → Type 0
  AreValid no_more = Unit {0}
  AreValid (more t ts) = IsValid t × AreValid ts

  -- no type of named parameters does
  pub AreValidNamed : Named → Type 0
  AreValidNamed no_named = Unit {0}
  AreValidNamed (more_named n r t ts) = IsValid t × AreValidNamed ts

-- no bound and no supertype holds `Invalid`
pub record HasValidRows (table : Table) : Type 0 where
  pub bounds : All (λ row. IsValid row.bound) table.vars
  pub supertypes : All (λ row. All IsValid row.supers) table.classes
