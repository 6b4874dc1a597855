-- Classes that lie over others.
use Rattle.std.specs.Prelude.{◌≡◌, List, Option, Some, Contains, find}
use Rattle.dart_types.specs.Ty.{Types, interface}
use Rattle.dart_types.specs.Same.{same_class}
use Rattle.dart_types.specs.declared.ids.ClassId.{ClassId}
use Rattle.class_depths.specs.declared.classes.DeclaredClass.{DeclaredClass}

-- the class as it is declared, if it is
abbrev pub class_in : List DeclaredClass → ClassId → Option DeclaredClass
class_in declared c = find (λ d. same_class d.id c) declared

-- b is the class of a direct supertype of the declared class a
pub record IsDirectlyOver (declared : List DeclaredClass) (b a : ClassId) : Type 0 where
  pub declaration : DeclaredClass
  pub found : class_in declared a ≡ Some declaration
  pub args : Types
  pub supertype : Contains declaration.supers (interface b args)

-- b lies over the declared class a: by one such step, or by several
pub data LiesOver (declared : List DeclaredClass) : ClassId → ClassId → Type 0 where
  direct : {a b : ClassId} → IsDirectlyOver declared b a → LiesOver declared b a
  further : {a b c : ClassId} → LiesOver declared b a → IsDirectlyOver declared c b → LiesOver declared c a
