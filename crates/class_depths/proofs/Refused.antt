-- Refusals that are handed on, and the ids of declared classes.
use Rattle.std.proofs.Common.{◌≡◌, List, [], ◌∷◌, map, Result, Ok, Err, refl, ap}
use Rattle.std.specs.Result.{IsErrAnd}
use Rattle.dart_types.specs.declared.ids.ClassId.{ClassId}
use Rattle.dart_types.specs.declared.class_rows.ClassRow.{ClassRow}
use Rattle.class_depths.specs.Settled.{declared_of}
use Rattle.class_depths.specs.Refusals.{same_refusal}
use Rattle.class_depths.specs.declared.classes.DeclaredClass.{DeclaredClass}
use Rattle.class_depths.specs.declared.unsettled.Unsettled.{Unsettled}
use Rattle.class_depths.specs.declared.unsettled.Unsettled.TheVariants as of_depths
use Rattle.class_depths.specs.declared.unextended.Unextended.{Unextended}
use Rattle.class_depths.specs.declared.unextended.Unextended.TheVariants.{Cycle}

-- one that names a class handed on one that names it
pub named : {T : Type 0} (e : Unsettled) (r : Result T Unextended) (c : ClassId) → IsErrAnd r (λ d. same_refusal e d) → r ≡ Err (Cycle c) → e ≡ of_depths.Cycle c
named e (Ok t) c h is = absurd h
named (of_depths.Cycle d) (Err u) c h is = cc
named of_depths.Memory (Err u) c h is = cc

-- the classes of rows are those that are declared
pub same_ids : (rows : List ClassRow) → map (λ (class : DeclaredClass). class.id) (map declared_of rows) ≡ map (λ (row : ClassRow). row.id) rows
same_ids [] = refl
same_ids (row ∷ rows) = ap (λ (ids : List ClassId). row.id ∷ ids) (same_ids rows)
