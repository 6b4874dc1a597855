-- The rows of the classes of `dart:core` that rules name, and of their type parameters.
use Rattle.std.specs.Prelude.{ℕ, List, [], ◌∷◌, ◌++◌}
use Rattle.dart_types.specs.Heads.{object}
use Rattle.dart_types.specs.Tables.{Table}
use Rattle.dart_types.specs.Ty.{Ty, interface, variable, nullable, no_more, more}
use Rattle.dart_types.specs.declared.class_rows.ClassRow.{ClassRow}
use Rattle.dart_types.specs.declared.class_rows.VarRow.{VarRow}
use Rattle.dart_types.specs.declared.ids.ClassId.{ClassId}
use Rattle.dart_types.specs.declared.ids.VarId.{VarId}
use Rattle.dart_types.specs.declared.ids.TheConstants.{CORE, OBJECT, NULL, BOOL, FUNCTION, STACK_TRACE, INT, STRING, ITERATOR, ITERABLE, LIST, MAP, ERROR, TYPE_ERROR, STACK_OVERFLOW_ERROR, ARGUMENT_ERROR, RANGE_ERROR, STATE_ERROR, EXCEPTION, INTEGER_DIVISION_BY_ZERO_EXCEPTION}

-- the type parameter at a place among those of `dart:core`
abbrev pub core_var : ℕ → VarId
core_var index = record { lib = CORE; index = index }

-- the row of a class without type parameters, whose one direct supertype is a class without arguments
abbrev pub plain_row : ClassId → (above : ClassId) → (depth : ℕ) → ClassRow
plain_row class above depth = record { id = class; params = []; supers = interface above no_more ∷ []; depth = depth }

-- the row of a class with one type parameter and one direct supertype
abbrev pub generic_row : ClassId → (param : ℕ) → (above : Ty) → (depth : ℕ) → ClassRow
generic_row class param above depth = record { id = class; params = core_var param ∷ []; supers = above ∷ []; depth = depth }

-- the row of Map
abbrev pub map_row : ClassRow
map_row = record { id = MAP; params = core_var 12 ∷ core_var 13 ∷ []; supers = object ∷ []; depth = 1 }

-- the row of IntegerDivisionByZeroException
abbrev pub division_row : ClassRow
division_row = record { id = INTEGER_DIVISION_BY_ZERO_EXCEPTION; params = []; supers = object ∷ interface EXCEPTION no_more ∷ []; depth = 2 }

-- the rows of Object and of the classes before Iterator
abbrev pub first_rows : List ClassRow
first_rows =
    record { id = OBJECT; params = []; supers = []; depth = 0 } ∷ plain_row NULL OBJECT 1 ∷ plain_row BOOL OBJECT 1 ∷ plain_row FUNCTION OBJECT 1 ∷ plain_row STACK_TRACE OBJECT 1 ∷ plain_row INT OBJECT 1 ∷ plain_row STRING OBJECT 1 ∷ []

-- the rows of the classes from Iterator to Map
abbrev pub collection_rows : List ClassRow
collection_rows =
    generic_row ITERATOR 0 object 1 ∷ generic_row ITERABLE 1 object 1 ∷ generic_row LIST 10 (interface ITERABLE (more (variable (core_var 10)) no_more)) 2 ∷ map_row ∷ []

-- the rows of the errors and exceptions
abbrev pub error_rows : List ClassRow
error_rows =
    plain_row ERROR OBJECT 1 ∷ plain_row TYPE_ERROR ERROR 2 ∷ plain_row STACK_OVERFLOW_ERROR ERROR 2 ∷ plain_row ARGUMENT_ERROR ERROR 2 ∷ plain_row RANGE_ERROR ARGUMENT_ERROR 3 ∷ plain_row STATE_ERROR ERROR 2 ∷ plain_row EXCEPTION OBJECT 1 ∷ division_row ∷ []

-- the rows of the classes, in the order of the text of `dart:core`
abbrev pub core_classes : List ClassRow
core_classes = (first_rows ++ collection_rows) ++ error_rows

-- the row of a type parameter without a written bound
abbrev pub free_row : (index : ℕ) → VarRow
free_row index = record { var = core_var index; bound = nullable object }

-- the rows of their type parameters: those of Iterator, Iterable and List, and the two of Map
abbrev pub core_vars : List VarRow
core_vars = free_row 0 ∷ free_row 1 ∷ free_row 10 ∷ free_row 12 ∷ free_row 13 ∷ []

-- the rows of `dart:core`
abbrev pub core_table : Table
core_table = record { classes = core_classes; vars = core_vars }
