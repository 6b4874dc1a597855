-- What variables are replaced by, as the code keeps it.
use Rattle.std.specs.Prelude.{List, map}
use Rattle.dart_types.specs.Ty.{Ty, Types, Named}
use Rattle.dart_types.specs.Substitution.{put, put_all, put_named, by_pairs}
use Rattle.dart_types.specs.Normal.{normal, normal_all, normal_named}
use Rattle.dart_types.specs.declared.ids.VarId.{VarId}
use Rattle.dart_types.specs.declared.replacements.Replacement.{Replacement}

-- the pairs of variables and types
abbrev pub pairs_of : List Replacement → List (VarId × Ty)
pairs_of replacements = map (λ r. (r.var, r.ty)) replacements

-- the normal form of a type with the replacements put in
abbrev pub replaced : List Replacement → Ty → Ty
replaced replacements t = normal (put (by_pairs (pairs_of replacements)) t)

-- of the types of a list
abbrev pub replaced_all : List Replacement → Types → Types
replaced_all replacements ts = normal_all (put_all (by_pairs (pairs_of replacements)) ts)

-- of the types of named parameters
abbrev pub replaced_named : List Replacement → Named → Named
replaced_named replacements ns = normal_named (put_named (by_pairs (pairs_of replacements)) ns)
