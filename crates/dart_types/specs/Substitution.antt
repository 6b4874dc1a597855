-- Types put in for type variables.
use Rattle.std.specs.Prelude.{List, [], ◌∷◌, Option, Some, None, unwrap_or, if◌then◌else◌}
use Rattle.dart_types.specs.Ty.{Ty, Types, Named, invalid, never, void, null, interface, function, variable, promoted, nullable, no_more, more, no_named, more_named}
use Rattle.dart_types.specs.Same.{same_var}
use Rattle.dart_types.specs.declared.ids.VarId.{VarId}

abbrev mutual
  -- the type with each variable replaced by what it stands for; the X of an `X & U` stays as it is
  pub put : (VarId → Ty) → Ty → Ty
  put σ invalid = invalid
  put σ never = never
  put σ void = void
  put σ null = null
  put σ (interface c ts) = interface c (put_all σ ts)
  put σ (function r o n e) = function (put_all σ r) (put_all σ o) (put_named σ n) (put σ e)
  put σ (variable x) = σ x
  put σ (promoted x t) = promoted x (put σ t)
  put σ (nullable t) = nullable (put σ t)

  -- likewise in each type of a list
  pub put_all : (VarId → Ty) → Types → Types
  put_all σ no_more = no_more
  put_all σ (more t ts) = more (put σ t) (put_all σ ts)

  -- likewise in the type of each named parameter
  pub put_named : (VarId → Ty) → Named → Named
  put_named σ no_named = no_named
  put_named σ (more_named n r t ts) = more_named n r (put σ t) (put_named σ ts)

-- the argument at the place of a parameter, if the variable is a parameter and has one
abbrev pub argument_of : List VarId → Types → VarId → Option Ty
argument_of [] ts x = None
argument_of (p ∷ ps) no_more x = None
argument_of (p ∷ ps) (more t ts) x = if same_var p x then Some t else argument_of ps ts x

-- what a variable stands for where a class has these arguments: a parameter for its argument, any other for itself
abbrev pub by_params : List VarId → Types → VarId → Ty
by_params params args x = unwrap_or (argument_of params args x) (variable x)

-- what a variable stands for by a list of pairs: for the type of the first pair with that variable, else for itself
abbrev pub by_pairs : List (VarId × Ty) → VarId → Ty
by_pairs [] x = variable x
by_pairs (p ∷ ps) x = if same_var p.0 x then p.1 else by_pairs ps x
