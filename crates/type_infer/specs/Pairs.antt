-- Types that are matched with each other.
use Rattle.std.specs.Prelude.{Bool, true, ◌&&◌, nat_le, List, [], ◌∷◌, ◌++◌, Option, None, Some}
use Rattle.dart_types.specs.Ty.{Ty, Types, Named, no_more, more, no_named, more_named, count, join, types_of}
use Rattle.dart_types.specs.Named.{has_name, type_named, named_of}
use Rattle.dart_types.specs.Sub.{required_in}
use Rattle.dart_types.specs.declared.types.FunctionType.{FunctionType}
use Rattle.type_infer.specs.Constraints.{opposite}
use Rattle.type_infer.specs.declared.constraints.Side.{Side}
use Rattle.type_infer.specs.declared.constraints.Side.TheVariants.{AtLeast, AtMost}

-- A formal, in which type parameters stand, and another type. The formal is to be a supertype of the other, where it is at least that, or a subtype, where it is at most that.
pub record Pair : Type 0 where
  pub side : Side
  pub formal : Ty
  pub other : Ty

-- the pair of a formal and another type
abbrev pub pair : Side → Ty → Ty → Pair
pair side formal other = record { side = side; formal = formal; other = other }

-- the types at the same places of two lists, as far as both go
abbrev pub paired : Side → Types → Types → List Pair
paired side no_more ss = []
paired side (more t ts) no_more = []
paired side (more t ts) (more s ss) = pair side t s ∷ paired side ts ss

-- a formal with another type, if there is one
abbrev pub paired_with : Side → Ty → Option Ty → List Pair
paired_with side t None = []
paired_with side t (Some s) = pair side t s ∷ []

-- the types of the named parameters of the first list with those of the same names of the second, if it has them
abbrev pub paired_by_name : Side → Named → Named → List Pair
paired_by_name side no_named ms = []
paired_by_name side (more_named n r t ns) ms = paired_with side t (type_named ms n) ++ paired_by_name side ns ms

-- the parts of two function types: their parameters, of which those of the subtype are to be supertypes, then their results
abbrev pub parts_of : Side → (r o : Types) (n : Named) (e : Ty) (r' o' : Types) (n' : Named) (e' : Ty) → List Pair
parts_of side r o n e r' o' n' e' =
    paired (opposite side) (join r o) (join r' o') ++ (paired_by_name (opposite side) n n' ++ pair side e e' ∷ [])

-- each name of the first list is in the second
abbrev pub names_are_in : Named → Named → Bool
names_are_in no_named ms = true
names_are_in (more_named n r t ns) ms = has_name ms n && names_are_in ns ms

-- whether a function type can be a subtype of another as far as the numbers and the names of parameters tell: it requires no more positional ones and takes at least as many, has each named one, and requires none that the other doesn't require
abbrev pub takes_calls_of : (r o : Types) (n : Named) (r' o' : Types) (n' : Named) → Bool
takes_calls_of r o n r' o' n' = nat_le (count r) (count r') && (nat_le (count (join r' o')) (count (join r o)) && (names_are_in n' n && required_in n n'))

-- whether a formal and another function type can be subtypes as far as that tells
abbrev pub signatures_fit : Side → (r o : Types) (n : Named) (r' o' : Types) (n' : Named) → Bool
signatures_fit AtLeast r o n r' o' n' = takes_calls_of r' o' n' r o n
signatures_fit AtMost r o n r' o' n' = takes_calls_of r o n r' o' n'

-- so it is with two function types as the code keeps them
abbrev pub takes_calls_of_function : FunctionType → FunctionType → Bool
takes_calls_of_function f g = takes_calls_of (types_of f.required) (types_of f.optional) (named_of f.named) (types_of g.required) (types_of g.optional) (named_of g.named)

abbrev pub functions_fit : Side → FunctionType → FunctionType → Bool
functions_fit side f g = signatures_fit side (types_of f.required) (types_of f.optional) (named_of f.named) (types_of g.required) (types_of g.optional) (named_of g.named)
