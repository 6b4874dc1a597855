-- The size of a type.
use Rattle.std.specs.Prelude.{ℕ, ◌+◌, ◌-◌, ◌^◌, min}
use Rattle.dart_types.specs.Ty.{Ty, Types, Named, invalid, never, void, null, interface, function, variable, promoted, nullable, no_more, more, no_named, more_named}

abbrev mutual
  -- how many types stand in a type, itself among them: its nodes
  pub size_of : Ty → ℕ
  size_of invalid = 1
  size_of never = 1
  size_of void = 1
  size_of null = 1
  size_of (interface c ts) = 1 + sizes_of ts
  size_of (function r o n e) = 1 + sizes_of r + sizes_of o + sizes_of_named n + size_of e
  size_of (variable x) = 1
  size_of (promoted x t) = 1 + size_of t
  size_of (nullable t) = 1 + size_of t

  -- the nodes of all types of a list
  pub sizes_of : Types → ℕ
  sizes_of no_more = 0
  sizes_of (more t ts) = size_of t + sizes_of ts

  -- the nodes of the types of all named parameters
  pub sizes_of_named : Named → ℕ
  sizes_of_named no_named = 0
  sizes_of_named (more_named n r t ts) = size_of t + sizes_of_named ts

-- a number as 64 bits hold it: the greatest that they hold where it is greater
abbrev pub held : ℕ → ℕ
held n = min n (2 ^ 64 - 1)
