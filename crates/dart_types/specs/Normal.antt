-- Normal forms: one way to write each type with `?`.
use Rattle.std.specs.Prelude.{List}
use Rattle.dart_types.specs.Ty.{Ty, Types, Named, invalid, never, void, null, interface, function, variable, promoted, nullable, no_more, more, no_named, more_named}
use Rattle.dart_types.specs.Substitution.{put, by_pairs}
use Rattle.dart_types.specs.declared.ids.VarId.{VarId}

-- the normal form of `T?`, of a T in normal form: `T??` is `T?`, `void?` is `void`, `Null?` and `Never?` are `Null`
abbrev pub nullable_of : Ty → Ty
nullable_of invalid = nullable invalid
nullable_of never = null
nullable_of void = void
nullable_of null = null
nullable_of (interface c ts) = nullable (interface c ts)
nullable_of (function r o n e) = nullable (function r o n e)
nullable_of (variable x) = nullable (variable x)
nullable_of (promoted x t) = nullable (promoted x t)
nullable_of (nullable t) = nullable t

abbrev mutual
  -- the normal form of a type: that of each part, and of each `?`
  pub normal : Ty → Ty
  normal invalid = invalid
  normal never = never
  normal void = void
  normal null = null
  normal (interface c ts) = interface c (normal_all ts)
  normal (function r o n e) = function (normal_all r) (normal_all o) (normal_named n) (normal e)
  normal (variable x) = variable x
  normal (promoted x t) = promoted x (normal t)
  normal (nullable t) = nullable_of (normal t)

  -- the normal forms of the types of a list
  pub normal_all : Types → Types
  normal_all no_more = no_more
  normal_all (more t ts) = more (normal t) (normal_all ts)

  -- the normal forms of the types of named parameters
  pub normal_named : Named → Named
  normal_named no_named = no_named
  normal_named (more_named n r t ts) = more_named n r (normal t) (normal_named ts)

-- the normal form of a type with the types of the pairs put in for their variables
abbrev pub substituted : List (VarId × Ty) → Ty → Ty
substituted pairs t = normal (put (by_pairs pairs) t)
