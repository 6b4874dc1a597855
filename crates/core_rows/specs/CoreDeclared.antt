-- The classes of `dart:core` that rules name, as they are declared: their rows without the depths.
use Rattle.std.specs.Prelude.{ℕ, List, [], ◌∷◌, map}
use Rattle.dart_types.specs.Ty.{Ty, interface, no_more}
use Rattle.dart_types.specs.declared.ids.ClassId.{ClassId}
use Rattle.class_depths.specs.Settled.{declared_of}
use Rattle.class_depths.specs.declared.classes.DeclaredClass.{DeclaredClass}
use Rattle.core_rows.specs.CoreTable.{core_var, map_row, division_row, first_rows, collection_rows, error_rows, core_classes}

-- a class without type parameters, whose one direct supertype is a class without arguments
abbrev pub plain_class : ClassId → (above : ClassId) → DeclaredClass
plain_class class above = record { id = class; params = []; supers = interface above no_more ∷ [] }

-- a class with one type parameter and one direct supertype
abbrev pub generic_class : ClassId → (param : ℕ) → (above : Ty) → DeclaredClass
generic_class class param above = record { id = class; params = core_var param ∷ []; supers = above ∷ [] }

-- Map
abbrev pub map_class : DeclaredClass
map_class = declared_of map_row

-- IntegerDivisionByZeroException
abbrev pub division_class : DeclaredClass
division_class = declared_of division_row

-- Object and the classes before Iterator
abbrev pub first_classes : List DeclaredClass
first_classes = map declared_of first_rows

-- the classes from Iterator to Map
abbrev pub collection_classes : List DeclaredClass
collection_classes = map declared_of collection_rows

-- the errors and exceptions
abbrev pub error_classes : List DeclaredClass
error_classes = map declared_of error_rows

-- all these classes
abbrev pub declared_classes : List DeclaredClass
declared_classes = map declared_of core_classes
