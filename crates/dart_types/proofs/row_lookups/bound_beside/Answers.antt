use Rattle.std.proofs.Common.{◌≡◌, Option, Some, None, refl, sym, ◌∙◌, ap}
use Rattle.std.specs.Prelude.{find}
use Rattle.std.specs.Option.{option_map, option_or}
use Rattle.std.proofs.lemmas.List.Folds.{find-append}
use Rattle.dart_types.specs.Same.{same_var}
use Rattle.dart_types.specs.declared.class_rows.VarRow.{VarRow}
use Rattle.dart_types.proofs.row_lookups.bound_beside.Goals as goal

first_mapped : {X Y : Type 0} (f : X → Y) (o o' : Option X) (y : Y) → Some y ≡ option_map f o → Some y ≡ option_map f (option_or o o')
first_mapped f None o' y e = cc
first_mapped f (Some x) o' y e = e

second_mapped : {X Y : Type 0} (f : X → Y) (o o' : Option X) → None ≡ option_map f o → option_map f (option_or o o') ≡ option_map f o'
second_mapped f None o' e = refl
second_mapped f (Some x) o' e = cc

-- the bound of an own type variable
pub returns-in-Some : goal.returns-in-Some
returns-in-Some c =
    let p = λ (row : VarRow). same_var row.var c.args.var in
    let xs = c.args.vars.now in
    let ys = c.args.below.now.table.vars in
    first_mapped (λ (row : VarRow). row.bound) (find p xs) (find p ys) c.in-Some.bound.now c.in-Some.ensures ∙ ap (option_map (λ (row : VarRow). row.bound)) (sym (find-append p xs ys))

-- else of one below
pub returns-in-None : goal.returns-in-None
returns-in-None c =
    let p = λ (row : VarRow). same_var row.var c.args.var in
    let xs = c.args.vars.now in
    let ys = c.args.below.now.table.vars in
    c.bound.ensures ∙ sym (ap (option_map (λ (row : VarRow). row.bound)) (find-append p xs ys) ∙ second_mapped (λ (row : VarRow). row.bound) (find p xs) (find p ys) c.in-None.ensures)
