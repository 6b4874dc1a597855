-- Whether two named parameters are the same.
use Rattle.std.specs.Prelude.{Bool, ◌&&◌, bytes_eq}
use Rattle.dart_types.specs.Same.{same_bool, same_type}
use Rattle.dart_types.specs.declared.types.NamedType.{NamedType}

-- whether two named parameters are the same
abbrev pub same_param : NamedType → NamedType → Bool
same_param m n = bytes_eq m.name n.name && same_bool m.required n.required && same_type m.ty n.ty
