-- No class of `dart:core` forms a superinterface that is too large, and its subtypes.
use Rattle.std.proofs.Common.{◌≡◌, Bool, true, false, not, List, [], ◌∷◌, Option, Some, None, refl, if◌then◌else◌}
use Rattle.std.specs.Prelude.{All, find}
use Rattle.std.specs.Option.{option_map_or}
use Rattle.std.specs.List.{list_any}
use Rattle.std.proofs.lemmas.List.Elements.{All-from_recursion, All-head, All-tail}
use Rattle.dart_types.specs.Heads.{object}
use Rattle.dart_types.specs.Kept.{inherited_by, is_within_limit, kept_within, forms_too_large}
use Rattle.dart_types.specs.Same.{same_class}
use Rattle.dart_types.specs.SubTest.{sub}
use Rattle.dart_types.specs.Tables.{Table}
use Rattle.dart_types.specs.Ty.{interface, no_more}
use Rattle.dart_types.specs.declared.class_rows.ClassRow.{ClassRow}
use Rattle.dart_types.specs.declared.ids.ClassId.{ClassId}
use Rattle.dart_types.specs.declared.ids.TheConstants.{INT, BOOL}
use Rattle.core_rows.specs.CoreTable.{core_classes, core_table}

-- the test of a class's row, if it has one, in the table
abbrev too_large_by : Table → Option ClassRow → Bool
too_large_by table found =
    list_any (λ v. not (is_within_limit v)) (option_map_or (λ (row : ClassRow). inherited_by table (kept_within table (option_map_or (λ (r : ClassRow). r.depth) found 0)) row.supers) found [])

module _ (test : Option ClassRow → Bool) (c : ClassId) where
  chosen : (b : Bool) (row : ClassRow) (rest : Option ClassRow) → test (Some row) ≡ false → test rest ≡ false → test (if b then Some row else rest) ≡ false
  chosen true row rest h k = h
  chosen false row rest h k = k

  -- what fails on no row and on each row fails on the one that is found
  fails : (rows : List ClassRow) → test None ≡ false → All (λ (row : ClassRow). test (Some row) ≡ false) rows → test (find (λ (row : ClassRow). same_class row.id c) rows) ≡ false
  fails [] none h = none
  fails (row ∷ rows) none h =
      chosen (same_class row.id c) row (find (λ (r : ClassRow). same_class r.id c) rows) (All-head (λ (r : ClassRow). test (Some r) ≡ false) row rows h)
      (fails rows none (All-tail (λ (r : ClassRow). test (Some r) ≡ false) row rows h))

rows_are_small : All (λ (row : ClassRow). too_large_by core_table (Some row) ≡ false) core_classes
rows_are_small =
    All-from_recursion (λ (row : ClassRow). too_large_by core_table (Some row) ≡ false) core_classes
    (refl, (refl, (refl, (refl, (refl, (refl, (refl, (refl, (refl, (refl, (refl, (refl, (refl, (refl, (refl, (refl, (refl, (refl, (refl, tt)))))))))))))))))))

pub none_too_large : (c : ClassId) → forms_too_large core_table c ≡ false
unfolding forms_too_large
none_too_large c = fails (too_large_by core_table) c core_classes refl rows_are_small

pub integers_apart : sub core_table (interface INT no_more) (interface BOOL no_more) ≡ false
unfolding sub
integers_apart = refl

pub truths_apart : sub core_table (interface BOOL no_more) (interface INT no_more) ≡ false
unfolding sub
truths_apart = refl

pub integers_below : sub core_table (interface INT no_more) object ≡ true
unfolding sub
integers_below = refl

pub truths_below : sub core_table (interface BOOL no_more) object ≡ true
unfolding sub
truths_below = refl
