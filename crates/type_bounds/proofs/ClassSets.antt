-- Sets of classes without parameters that hold the classes of all direct supertypes of theirs.
use Rattle.std.proofs.Common.{◌≡◌, true, Some, refl, sym, subst, inl, inr}
use Rattle.std.specs.Prelude.{◌⊎◌, Contains}
use Rattle.dart_types.specs.Ty.{Ty, Types, invalid, never, void, null, interface, function, variable, promoted, nullable, no_more, more}
use Rattle.dart_types.specs.Heads.{is_object, is_top}
use Rattle.dart_types.specs.Normal.{normal}
use Rattle.dart_types.specs.Substitution.{put, put_all, by_params}
use Rattle.dart_types.specs.Tables.{Table, class_of}
use Rattle.dart_types.specs.Sub.{Sub, Subs, reflexivity, right_top, left_bottom, left_null, right_object, left_nullable, right_nullable, left_promoted_variable, left_promoted_type, right_promoted, left_variable_bound, interface_arguments, super_interface, function_class, function_types, left_top, none_left, one_left}
use Rattle.dart_types.specs.Superinterfaces.{Inherits, supertype, handed_on, Keeps}
use Rattle.dart_types.specs.declared.ids.ClassId.{ClassId}
use Rattle.dart_types.specs.declared.ids.VarId.{VarId}
use Rattle.dart_types.specs.declared.ids.TheConstants.{OBJECT}
use Rattle.dart_types.specs.declared.class_rows.ClassRow.{ClassRow}
use Rattle.type_bounds.specs.Common.{IsAbove}
use Rattle.type_bounds.proofs.General.{class_of_object}

-- the type is a class of the set
abbrev pub IsIn : (ClassId → Type 0) → Ty → Type 0
IsIn among invalid = ⊥
IsIn among never = ⊥
IsIn among void = ⊥
IsIn among null = ⊥
IsIn among (interface c ts) = among c × (ts ≡ no_more)
IsIn among (function r o n e) = ⊥
IsIn among (variable x) = ⊥
IsIn among (promoted x t) = ⊥
IsIn among (nullable t) = ⊥

-- the type is none that lies above a class of the set: a class that isn't in it, or a type that is no class and has no `?`
abbrev pub IsOut : (ClassId → Type 0) → Ty → Type 0
IsOut among invalid = Unit {0}
IsOut among never = Unit {0}
IsOut among void = ⊥
IsOut among null = Unit {0}
IsOut among (interface c ts) = among c → ⊥
IsOut among (function r o n e) = Unit {0}
IsOut among (variable x) = Unit {0}
IsOut among (promoted x t) = ⊥
IsOut among (nullable t) = ⊥

module _ (among : ClassId → Type 0) where
  -- what holds of each class of the set without arguments holds of each type that is in it
  pub each_in : (P : Ty → Type 0) → ((c : ClassId) → among c → P (interface c no_more)) → (t : Ty) → IsIn among t → P t
  each_in P f invalid h = absurd h
  each_in P f never h = absurd h
  each_in P f void h = absurd h
  each_in P f null h = absurd h
  each_in P f (interface c ts) h = subst (λ (us : Types). P (interface c us)) (sym h.1) (f c h.0)
  each_in P f (function r o n e) h = absurd h
  each_in P f (variable x) h = absurd h
  each_in P f (promoted x t) h = absurd h
  each_in P f (nullable t) h = absurd h

  in_and_out : (t : Ty) → IsIn among t → IsOut among t → ⊥
  in_and_out invalid h o = absurd h
  in_and_out never h o = absurd h
  in_and_out void h o = absurd h
  in_and_out null h o = absurd h
  in_and_out (interface c ts) h o = o h.0
  in_and_out (function r p n e) h o = absurd h
  in_and_out (variable x) h o = absurd h
  in_and_out (promoted x t) h o = absurd h
  in_and_out (nullable t) h o = absurd h

  top_and_out : (t : Ty) → is_top t ≡ true → IsOut among t → ⊥
  top_and_out invalid e o = cc
  top_and_out never e o = cc
  top_and_out void e o = o
  top_and_out null e o = cc
  top_and_out (interface c ts) e o = cc
  top_and_out (function r p n k) e o = cc
  top_and_out (variable x) e o = cc
  top_and_out (promoted x t) e o = cc
  top_and_out (nullable t) e o = o

  object_and_out : among OBJECT → (t : Ty) → is_object t ≡ true → IsOut among t → ⊥
  object_and_out root invalid e o = cc
  object_and_out root never e o = cc
  object_and_out root void e o = cc
  object_and_out root null e o = cc
  object_and_out root (interface c ts) e o = o (subst among (sym (class_of_object c ts e)) root)
  object_and_out root (function r p n k) e o = cc
  object_and_out root (variable x) e o = cc
  object_and_out root (promoted x t) e o = cc
  object_and_out root (nullable t) e o = cc

  pub put_in : (σ : VarId → Ty) (t : Ty) → IsIn among t → IsIn among (put σ t)
  put_in σ = each_in (λ (t : Ty). IsIn among (put σ t)) (λ c h. (h, refl))

  normal_in : (t : Ty) → IsIn among t → IsIn among (normal t)
  normal_in = each_in (λ (t : Ty). IsIn among (normal t)) (λ c h. (h, refl))

  module _ (table : Table) (root : among OBJECT) (closed : (c : ClassId) (row : ClassRow) (v : Ty) → among c → class_of table c ≡ Some row → Contains row.supers v → IsIn among v) where
    -- what a class of the set inherits is in it
    inherited_in : {c : ClassId} {v : Ty} → among c → Inherits table c v → IsIn among v
    inherited_in {c = c} {v = v} m (supertype row r i) = closed c row v m r i
    inherited_in {c = c} m (handed_on {d = d} {ts = ts} {v = v} row above r i r' h small) =
        put_in (by_params above.params ts) v (inherited_in (closed c row (interface d ts) m r i).0 h)

    -- a class of the set is a subtype of no type that is out of it
    pub not_below : {s t : Ty} → Sub table s t → IsIn among s → IsOut among t → ⊥
    not_below {s = s} reflexivity h o = in_and_out s h o
    not_below {t = t} (right_top e) h o = top_and_out t e o
    not_below left_bottom h o = absurd h
    not_below left_null h o = absurd h
    not_below {t = t} (right_object e p) h o = object_and_out root t e o
    not_below (left_nullable a b) h o = absurd h
    not_below (right_nullable a) h o = absurd o
    not_below (left_promoted_variable a) h o = absurd h
    not_below (left_promoted_type a) h o = absurd h
    not_below (right_promoted a b) h o = absurd o
    not_below (left_variable_bound b e a) h o = absurd h
    not_below (interface_arguments a) h o = o h.0
    not_below (super_interface row r n k a) h o = o (inherited_in h.0 k.0).0
    not_below (function_class e) h o = absurd h
    not_below (function_types le ps ns q a) h o = absurd h
    not_below (left_top a) h o = absurd h

    -- the superinterfaces of a class are in the set where the direct supertypes are
    module _ (c : ClassId) (ss : Types) (first : (row : ClassRow) (v : Ty) → class_of table c ≡ Some row → Contains row.supers v → IsIn among v) where
      pub super_in : {v : Ty} → Inherits table c v → IsIn among v
      super_in {v = v} (supertype row r i) = first row v r i
      super_in (handed_on {d = d} {ts = ts} {v = v} row above r i r' h small) =
          put_in (by_params above.params ts) v (inherited_in (first row (interface d ts) r i).0 h)

      pub above_in : {u : Ty} → IsAbove table c ss u → IsIn among u
      above_in a = subst (IsIn among) (sym a.is) (normal_in (put (by_params a.row.params ss) a.over) (put_in (by_params a.row.params ss) a.over (super_in a.superinterface.0)))

-- an interface is a subtype of another that isn't `Object` by its arguments, or by a superinterface that its class keeps
pub interface_below : (table : Table) {c d : ClassId} {ss ts : Types} → Sub table (interface c ss) (interface d ts) → (d ≡ OBJECT) ⊎ (((c ≡ d) × Subs table ss ts) ⊎ ((row : ClassRow) × (class_of table c ≡ Some row) × (us : Types) × Keeps table c (interface d us) × Subs table (put_all (by_params row.params ss) us) ts))
interface_below table {ss = ss} reflexivity = inr (inl (refl, same ss))
  where
    same : (us : Types) → Subs table us us
    same no_more = none_left
    same (more u us) = one_left reflexivity (same us)
interface_below table (right_top e) = cc
interface_below table {d = d} {ts = ts} (right_object e p) = inl (class_of_object d ts e)
interface_below table (interface_arguments a) = inr (inl (refl, a))
interface_below table (super_interface {us = us} row r n k a) = inr (inr (row, r, us, k, a))
