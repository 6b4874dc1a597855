-- Types in which `X & U` is read as X.
use Rattle.dart_types.specs.Ty.{Ty, Types, Named, invalid, never, void, null, interface, function, variable, promoted, nullable, no_more, more, no_named, more_named}

abbrev mutual
  -- the type with X in the place of each `X & U`
  pub unpromoted : Ty → Ty
  unpromoted invalid = invalid
  unpromoted never = never
  unpromoted void = void
  unpromoted null = null
  unpromoted (interface c ts) = interface c (unpromoted_all ts)
  unpromoted (function r o n e) = function (unpromoted_all r) (unpromoted_all o) (unpromoted_named n) (unpromoted e)
  unpromoted (variable x) = variable x
  unpromoted (promoted x t) = variable x
  unpromoted (nullable t) = nullable (unpromoted t)

  -- likewise the types of a list
  pub unpromoted_all : Types → Types
  unpromoted_all no_more = no_more
  unpromoted_all (more t ts) = more (unpromoted t) (unpromoted_all ts)

  -- likewise the types of named parameters
  pub unpromoted_named : Named → Named
  unpromoted_named no_named = no_named
  unpromoted_named (more_named n r t ts) = more_named n r (unpromoted t) (unpromoted_named ts)
