-- The way up from a class to a superinterface, in one step.
use Rattle.std.proofs.Common.{◌≡◌, ◌<◌, length, Some, sym, ◌∙◌, subst, arith}
use Rattle.dart_types.specs.Ty.{Ty, Types, invalid, never, void, null, interface, function, variable, promoted, nullable, count}
use Rattle.dart_types.specs.Normal.{normal}
use Rattle.dart_types.specs.Substitution.{put, put_all, by_params}
use Rattle.dart_types.specs.Tables.{Table, class_of}
use Rattle.dart_types.specs.WellFormed.{IsSupertype, IsWellFormed}
use Rattle.dart_types.specs.Measure.{measure}
use Rattle.dart_types.specs.Superinterfaces.{IsSuperinterface, direct, further, Keeps, LeavesNothingOut}
use Rattle.dart_types.specs.Sub.{Sub, super_interface}
use Rattle.dart_types.specs.declared.ids.ClassId.{ClassId}
use Rattle.dart_types.specs.declared.class_rows.ClassRow.{ClassRow}
use Rattle.dart_types.proofs.Formed.{formed_super}
use Rattle.dart_types.proofs.Supers.{super_simple, counted, superinterface_simple, inherited}
use Rattle.dart_types.proofs.Keeping.{super_kept}
use Rattle.dart_types.proofs.NormalForms.{settle_below}
use Rattle.dart_types.proofs.Transitive.{subs_same, climb}
use Rattle.dart_types.proofs.Substitutes.{count-put_all, put-by_params}
use Rattle.dart_types.proofs.MeasureFalls.{super_falls}

module _ (table : Table) (wf : IsWellFormed table) where
  module _ (c : ClassId) (ss : Types) (row : ClassRow) (r : class_of table c ≡ Some row) (k : count ss ≡ length row.params) where
    the_row : (row' : ClassRow) → class_of table c ≡ Some row' → row' ≡ row
    the_row row' r' = let e : Some row' ≡ Some row = sym r' ∙ r in cc

    -- a class with arguments is below each superinterface that it keeps, with the arguments put in
    up_to : (v : Ty) → IsSupertype row.params v → Keeps table c v → Sub table (interface c ss) (put (by_params row.params ss) v)
    up_to invalid i h = absurd i
    up_to never i h = absurd i
    up_to void i h = absurd i
    up_to null i h = absurd i
    up_to (interface d us) i h = super_interface row r k h (subs_same table wf (put_all (by_params row.params ss) us))
    up_to (function f o n e) i h = absurd i
    up_to (variable x) i h = absurd i
    up_to (promoted x t) i h = absurd i
    up_to (nullable t) i h = absurd i

    pub climb_to : (v : Ty) → Keeps table c v → Sub table (interface c ss) (put (by_params row.params ss) v)
    climb_to v h = up_to v (superinterface_simple table wf (inherited table wf h.0) row r) h

    -- and below its normal form
    normal_up_to : (v : Ty) → IsSupertype row.params v → Keeps table c v → Sub table (interface c ss) (normal (put (by_params row.params ss) v))
    normal_up_to invalid i h = absurd i
    normal_up_to never i h = absurd i
    normal_up_to void i h = absurd i
    normal_up_to null i h = absurd i
    normal_up_to (interface d us) i h = super_interface row r k h (settle_below table wf (put_all (by_params row.params ss) us))
    normal_up_to (function f o n e) i h = absurd i
    normal_up_to (variable x) i h = absurd i
    normal_up_to (promoted x t) i h = absurd i
    normal_up_to (nullable t) i h = absurd i

    pub climb_to_normal : (v : Ty) → Keeps table c v → Sub table (interface c ss) (normal (put (by_params row.params ss) v))
    climb_to_normal v h = normal_up_to v (superinterface_simple table wf (inherited table wf h.0) row r) h

    -- where nothing is left out, what is above a superinterface with the arguments put in is above the class with these arguments
    module _ (nothing : LeavesNothingOut table) where
      up_from : (v t : Ty) → IsSupertype row.params v → Keeps table c v → Sub table (put (by_params row.params ss) v) t → Sub table (interface c ss) t
      up_from invalid t i h a = absurd i
      up_from never t i h a = absurd i
      up_from void t i h a = absurd i
      up_from null t i h a = absurd i
      up_from (interface d us) t i h a = climb table wf nothing row r k h a
      up_from (function f o n e) t i h a = absurd i
      up_from (variable x) t i h a = absurd i
      up_from (promoted x u) t i h a = absurd i
      up_from (nullable u) t i h a = absurd i

      pub climb_up : (v t : Ty) → IsSuperinterface table c v → Sub table (put (by_params row.params ss) v) t → Sub table (interface c ss) t
      climb_up v t h a = up_from v t (superinterface_simple table wf h row r) (super_kept table wf nothing h) a

    -- the measure falls on the way up
    pub climb_falls : {v : Ty} (t : Ty) → IsSuperinterface table c v → measure table (put (by_params row.params ss) v) t < measure table (interface c ss) t
    climb_falls {v} t (direct {row = row'} r' i) =
        let is : row' ≡ row = the_row row' r' in
        let k' : count ss ≡ length row'.params = subst (λ (x : ClassRow). count ss ≡ length x.params) (sym is) k in
        subst (λ (x : ClassRow). measure table (put (by_params x.params ss) v) t < measure table (interface c ss) t) is (super_falls table wf c ss row' v t r' i k')
    climb_falls t (further {d = d} {ts = ts} {row = row'} {v = w} h r' i) =
        let σ = by_params row.params ss in
        let same = put-by_params σ row'.params ts (counted table wf h row' r') w (super_simple row'.params w (formed_super table wf d row' w r' i).0) in
        let step : measure table (put (by_params row'.params (put_all σ ts)) w) t < measure table (interface d (put_all σ ts)) t = super_falls table wf d (put_all σ ts) row' w t r' i (count-put_all σ ts ∙ counted table wf h row' r') in
        let up : measure table (interface d (put_all σ ts)) t < measure table (interface c ss) t = climb_falls t h in
        subst (λ (x : Ty). measure table x t < measure table (interface c ss) t) same (omega (arith, step, up))
