-- Constraints on type parameters: a parameter is to be a supertype of a type, or a subtype.
use Rattle.std.specs.Prelude.{Bool, true, false, ◌&&◌, List, [], ◌∷◌, if◌then◌else◌}
use Rattle.dart_types.specs.Ty.{Ty}
use Rattle.dart_types.specs.Same.{same_var}
use Rattle.dart_types.specs.declared.ids.VarId.{VarId}
use Rattle.type_infer.specs.declared.constraints.Side.{Side}
use Rattle.type_infer.specs.declared.constraints.Side.TheVariants.{AtLeast, AtMost}
use Rattle.type_infer.specs.declared.constraints.Constraint.{Constraint}

-- the other side
abbrev pub opposite : Side → Side
opposite AtLeast = AtMost
opposite AtMost = AtLeast

-- whether both are one side
abbrev pub same_side : Side → Side → Bool
same_side AtLeast AtLeast = true
same_side AtLeast AtMost = false
same_side AtMost AtLeast = false
same_side AtMost AtMost = true

-- the types of the constraints on a parameter that are of one side, in their order
abbrev pub types_on : Side → VarId → List Constraint → List Ty
types_on side x [] = []
types_on side x (c ∷ cs) = if same_side c.side side && same_var c.param x then c.ty ∷ types_on side x cs else types_on side x cs
