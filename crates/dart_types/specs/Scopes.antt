-- Scopes: what the parameters of classes stand for, and the types that this makes of others.
use Rattle.std.specs.Prelude.{List, [], ◌∷◌, Option, None, Some}
use Rattle.std.specs.Coded.{Coded, coded×, coded_list}
use Rattle.dart_types.specs.Ty.{Ty, Types, Named, variable, types_of}
use Rattle.dart_types.specs.TyCode.{type_code}
use Rattle.dart_types.specs.IdCode.{var_code}
use Rattle.dart_types.specs.Substitution.{put, put_all, put_named, argument_of}
use Rattle.dart_types.specs.declared.ids.VarId.{VarId}

-- the parameters and arguments of one class after another, the innermost first; the arguments of each have the scope behind it
abbrev pub Frames : Type 0
Frames = List (List VarId × List Ty)

-- how scopes are stored
abbrev pub frames_code : Coded Frames
frames_code = coded_list (coded× (coded_list var_code) (coded_list type_code))

-- the argument that the innermost class gives a variable, if it is one of its parameters and has one
abbrev pub argument_in : Frames → VarId → Option Ty
argument_in [] x = None
argument_in (frame ∷ outer) x = argument_of frame.0 (types_of frame.1) x

-- the scope of the arguments of the innermost class
abbrev pub outer_of : Frames → Frames
outer_of [] = []
outer_of (frame ∷ outer) = outer

-- what a variable stands for, where the innermost class gives it an argument and the rest of the scope means this
abbrev pub stands_for : Option Ty → (VarId → Ty) → VarId → Ty
stands_for None σ x = variable x
stands_for (Some t) σ x = put σ t

-- what a variable stands for in a scope
abbrev pub in_scope : Frames → VarId → Ty
in_scope [] x = variable x
in_scope (frame ∷ outer) x = stands_for (argument_of frame.0 (types_of frame.1) x) (in_scope outer) x

-- what a type is in a scope
abbrev pub close : Frames → Ty → Ty
close frames t = put (in_scope frames) t

-- what types are in a scope
abbrev pub close_all : Frames → Types → Types
close_all frames ts = put_all (in_scope frames) ts

-- what named parameters are in a scope
abbrev pub close_named : Frames → Named → Named
close_named frames ns = put_named (in_scope frames) ns
