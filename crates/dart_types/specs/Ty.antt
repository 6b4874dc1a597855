-- Types, as the rules of the language see them.
use Rattle.std.specs.Prelude.{ℕ, ◌+◌, max, List, [], ◌∷◌, Bool}
use Rattle.dart_types.specs.declared.ids.ClassId.{ClassId}
use Rattle.dart_types.specs.declared.ids.VarId.{VarId}

mutual
  -- a type
  pub data Ty : Type 0 where
    -- the type of an expression that a diagnostic leaves open
    invalid : Ty
    never : Ty
    void : Ty
    null : Ty
    -- a class with its type arguments
    interface : (class : ClassId) (args : Types) → Ty
    -- positional parameters that are required, then those that are optional, then the named ones, and the result
    function : (required : Types) (optional : Types) (named : Named) (result : Ty) → Ty
    variable : (var : VarId) → Ty
    -- X & U
    promoted : (var : VarId) (to : Ty) → Ty
    -- U?
    nullable : (bare : Ty) → Ty

  -- type arguments, or the types of positional parameters, in their order
  pub data Types : Type 0 where
    no_more : Types
    more : (first : Ty) (rest : Types) → Types

  -- named parameters, in their order
  pub data Named : Type 0 where
    no_named : Named
    more_named : (name : List ℕ) (required : Bool) (first : Ty) (rest : Named) → Named

-- the types of a list, in its order
abbrev pub types_of : List Ty → Types
types_of [] = no_more
types_of (t ∷ ts) = more t (types_of ts)

-- the list of the types, in their order
abbrev pub list_of : Types → List Ty
list_of no_more = []
list_of (more t ts) = t ∷ list_of ts

-- how many types there are
abbrev pub count : Types → ℕ
count no_more = 0
count (more t ts) = count ts + 1

-- the types of the first, then those of the second
abbrev pub join : Types → Types → Types
join no_more us = us
join (more t ts) us = more t (join ts us)

abbrev mutual
  -- the longest way down from a type to a part of a part of it, where a list of parts is a step too
  pub height_of : Ty → ℕ
  height_of invalid = 1
  height_of never = 1
  height_of void = 1
  height_of null = 1
  height_of (interface c ts) = heights_of ts + 1
  height_of (function r o n e) = max (heights_of r) (max (heights_of o) (max (heights_of_named n) (height_of e))) + 1
  height_of (variable x) = 1
  height_of (promoted x t) = height_of t + 1
  height_of (nullable t) = height_of t + 1

  -- of the types of a list
  pub heights_of : Types → ℕ
  heights_of no_more = 0
  heights_of (more t ts) = max (height_of t + 1) (heights_of ts)

  -- of the types of named parameters
  pub heights_of_named : Named → ℕ
  heights_of_named no_named = 0
  heights_of_named (more_named n r t ts) = max (height_of t + 1) (heights_of_named ts)
