-- Rows put among others, in the order of their ids.
use Rattle.std.specs.Prelude.{Bool, List, [], ◌∷◌, if◌then◌else◌}
use Rattle.dart_types.specs.Tables.{Table}
use Rattle.dart_types.specs.WellFormed.{class_before, var_before}
use Rattle.dart_types.specs.declared.class_rows.ClassRow.{ClassRow}
use Rattle.dart_types.specs.declared.class_rows.VarRow.{VarRow}

-- an element in its place: before the first that doesn't come before it
abbrev pub put_row : {X : Type 0} → (X → X → Bool) → X → List X → List X
put_row before x [] = x ∷ []
put_row before x (y ∷ ys) = if before y x then y ∷ put_row before x ys else x ∷ y ∷ ys

-- each of a list in its place
abbrev pub put_rows : {X : Type 0} → (X → X → Bool) → List X → List X → List X
put_rows before [] ys = ys
put_rows before (x ∷ xs) ys = put_row before x (put_rows before xs ys)

-- own rows among those below
abbrev pub joined : Table → Table → Table
joined below own = record {
  classes = put_rows (λ (a b : ClassRow). class_before a.id b.id) own.classes below.classes;
  vars = put_rows (λ (a b : VarRow). var_before a.var b.var) own.vars below.vars;
}
