-- What the direct supertypes of a class give it are its superinterfaces.
use Rattle.std.proofs.Common.{◌≡◌, Some, refl, sym, ◌∙◌, ap, subst}
use Rattle.std.specs.Prelude.{Contains}
use Rattle.dart_types.specs.Ty.{Ty, Types, invalid, never, void, null, interface, function, variable, promoted, nullable}
use Rattle.dart_types.specs.Substitution.{put, put_all, by_params}
use Rattle.dart_types.specs.Tables.{Table, class_of}
use Rattle.dart_types.specs.WellFormed.{IsWellFormed}
use Rattle.dart_types.specs.Superinterfaces.{IsSuperinterface, direct, further}
use Rattle.dart_types.specs.declared.ids.ClassId.{ClassId}
use Rattle.dart_types.specs.declared.class_rows.ClassRow.{ClassRow}
use Rattle.dart_types.proofs.Supers.{super_simple, counted, superinterface_simple}
use Rattle.dart_types.proofs.Formed.{formed_super}
use Rattle.dart_types.proofs.Substitutes.{put-by_params}

same_class_of : {c d : ClassId} {ss ts : Types} → interface c ss ≡ interface d ts → c ≡ d
same_class_of e = cc

same_args_of : {c d : ClassId} {ss ts : Types} → interface c ss ≡ interface d ts → ss ≡ ts
same_args_of e = cc

-- what lies over a direct supertype: itself, and the superinterfaces of its class with the arguments put in
pub data LiesOver (table : Table) : Ty → Ty → Type 0 where
  itself : {v : Ty} → LiesOver table v v
  beyond : {d : ClassId} {ts : Types} {row : ClassRow} {u : Ty} → class_of table d ≡ Some row → IsSuperinterface table d u → LiesOver table (interface d ts) (put (by_params row.params ts) u)

module _ (table : Table) (wf : IsWellFormed table) where
  -- one of the direct supertypes gives the type
  abbrev IsFrom : ClassRow → Ty → Type 0
  IsFrom row w = (v : Ty) × Contains row.supers v × LiesOver table v w

  -- what a superinterface of a supertype's class has as direct supertype is given too
  module _ (row : ClassRow) (e : ClassId) (es : Types) (above : ClassRow) (r : class_of table e ≡ Some above) (i : Contains row.supers (interface e es)) (d : ClassId) (ts : Types) (further_row : ClassRow) (r' : class_of table d ≡ Some further_row) (w : Ty) (i' : Contains further_row.supers w) where
    step_on : (u : Ty) → IsSuperinterface table e u → put (by_params above.params es) u ≡ interface d ts → IsFrom row (put (by_params further_row.params ts) w)
    step_on invalid h is = absurd (superinterface_simple table wf h above r)
    step_on never h is = absurd (superinterface_simple table wf h above r)
    step_on void h is = absurd (superinterface_simple table wf h above r)
    step_on null h is = absurd (superinterface_simple table wf h above r)
    step_on (interface f fs) h is =
        let σ = by_params above.params es in
        let class : d ≡ f = sym (same_class_of is) in
        let row_of : class_of table f ≡ Some further_row = subst (λ (x : ClassId). class_of table x ≡ Some further_row) class r' in
        let once : put (by_params further_row.params (put_all σ fs)) w ≡ put σ (put (by_params further_row.params fs) w) =
        put-by_params σ further_row.params fs (counted table wf h further_row row_of) w (super_simple further_row.params w (formed_super table wf f further_row w row_of i').0)
        in
        let same : put σ (put (by_params further_row.params fs) w) ≡ put (by_params further_row.params ts) w =
        sym once ∙ ap (λ (xs : Types). put (by_params further_row.params xs) w) (same_args_of is)
        in
        (interface e es, i, subst (LiesOver table (interface e es)) same (beyond r (further h row_of i')))
    step_on (function g o n x) h is = absurd (superinterface_simple table wf h above r)
    step_on (variable x) h is = absurd (superinterface_simple table wf h above r)
    step_on (promoted x t) h is = absurd (superinterface_simple table wf h above r)
    step_on (nullable t) h is = absurd (superinterface_simple table wf h above r)

  -- so it is with what any type that is given has as direct supertype
  step_from : (row : ClassRow) (d : ClassId) (ts : Types) (further_row : ClassRow) → class_of table d ≡ Some further_row → (w : Ty) → Contains further_row.supers w → {v x : Ty} → Contains row.supers v → LiesOver table v x → x ≡ interface d ts → IsFrom row (put (by_params further_row.params ts) w)
  step_from row d ts further_row r w i' {v} j itself is =
      (interface d ts, subst (Contains row.supers) is j, beyond r (direct r i'))
  step_from row d ts further_row r w i' j (beyond {d = e} {ts = es} {row = above} {u = u} r' h) is =
      step_on row e es above r' j d ts further_row r w i' u h is

  same_row : (c : ClassId) (row row' : ClassRow) → class_of table c ≡ Some row → class_of table c ≡ Some row' → row ≡ row'
  same_row c row row' e f = cc

  -- each superinterface is given by a direct supertype
  pub given : {c : ClassId} {w : Ty} (row : ClassRow) → class_of table c ≡ Some row → IsSuperinterface table c w → IsFrom row w
  given {c} {w} row r (direct {row = row'} r' i) =
      (w, subst (λ (k : ClassRow). Contains k.supers w) (same_row c row' row r' r) i, itself)
  given row r (further {d = d} {ts = ts} {row = row'} {v = v} h r' i) =
      let before = given row r h in
      step_from row d ts row' r' v i before.1 before.2 refl
