-- No depths fit where a class lies over itself.
use Rattle.std.proofs.Common.{◌≡◌, zero, suc, ◌<◌, List, [], ◌∷◌, Contains, Option, sym, ap, subst, arith}
use Rattle.std.specs.Option.{option_map_or}
use Rattle.std.proofs.lemmas.List.Elements.{All-contains}
use Rattle.dart_types.specs.Ty.{Ty, interface}
use Rattle.dart_types.specs.Tables.{Table, depth_of, head_depth, depth_above}
use Rattle.dart_types.specs.declared.ids.ClassId.{ClassId}
use Rattle.dart_types.specs.declared.class_rows.ClassRow.{ClassRow}
use Rattle.dart_types.specs.declared.class_rows.VarRow.{VarRow}
use Rattle.class_depths.specs.Over.{IsDirectlyOver, LiesOver, direct, further}
use Rattle.class_depths.specs.Settled.{over, AreSettled}
use Rattle.class_depths.specs.declared.classes.DeclaredClass.{DeclaredClass}
use Rattle.class_depths.proofs.Finding.{found_row}

-- the longest way over a list is longer than that over each of its types
above_each : (table : Table) (vs : List Ty) (v : Ty) → Contains vs v → head_depth table v < depth_above table vs
above_each table [] v i = absurd (omega (arith, i.1))
above_each table (w ∷ ws) v (zero, lt, is) = subst (λ (x : Ty). head_depth table x < depth_above table (w ∷ ws)) is (omega arith)
above_each table (w ∷ ws) v (suc k, lt, is) = let rest = above_each table ws v (k, omega (arith, lt), is) in omega (arith, rest)

module _ (below : Table) (vars : List VarRow) (declared : List DeclaredClass) (rows : List ClassRow) (fits : AreSettled below vars declared rows) where
  abbrev table : Table
  table = over below vars rows

  -- a class that is directly over another is less deep
  falls : {a b : ClassId} → IsDirectlyOver declared b a → depth_of table b < depth_of table a
  falls {a} {b} o =
      let f = found_row below vars declared rows fits.same a o.declaration o.found in
      let here : depth_of table a ≡ f.0.depth = ap (λ (r : Option ClassRow). option_map_or (λ (row : ClassRow). row.depth) r 0) f.1 in
      let deep : f.0.depth ≡ depth_above table f.0.supers = All-contains (λ (row : ClassRow). row.depth ≡ depth_above table row.supers) rows f.0 fits.depths f.3 in
      let supers : Contains f.0.supers (interface b o.args) = subst (λ (d : DeclaredClass). Contains d.supers (interface b o.args)) (sym f.2) o.supertype in
      let less = above_each table f.0.supers (interface b o.args) supers in
      omega (arith, here, deep, less)

  all_fall : {a b : ClassId} → LiesOver declared b a → depth_of table b < depth_of table a
  all_fall (direct o) = falls o
  all_fall (further l o) = let more = all_fall l in let one = falls o in omega (arith, more, one)

  pub never_over_itself : (c : ClassId) → LiesOver declared c c → ⊥
  never_over_itself c l = let less = all_fall l in omega (arith, less)
