-- The steps of the test of subtyping from one class to another.
use Rattle.std.proofs.Common.{◌≡◌, ◌<◌, ◌≤◌, Bool, true, false, IsTrue, List, Some, None, [], ◌∷◌, length, cond, refl, sym, ◌∙◌, ap, subst, arith, inl, inr}
use Rattle.std.specs.Prelude.{◌≢◌, ◌↔◌, ◌⊎◌, Contains, unwrap_or}
use Rattle.dart_types.specs.Ty.{Ty, Types, Named, invalid, never, void, null, interface, function, variable, promoted, nullable, no_more, more, no_named, more_named, types_of, count}
use Rattle.dart_types.specs.Same.{same_var}
use Rattle.dart_types.specs.Heads.{is_object, is_plain}
use Rattle.dart_types.specs.Substitution.{put, put_all, put_named, argument_of, by_params}
use Rattle.dart_types.specs.Scopes.{in_scope, stands_for, close_all, Frames}
use Rattle.dart_types.specs.Normal.{normal, normal_all}
use Rattle.dart_types.specs.Tables.{Table, class_of}
use Rattle.dart_types.specs.Targets.{is_bare_target}
use Rattle.dart_types.specs.WellFormed.{IsSupertype, IsWellFormed}
use Rattle.dart_types.specs.Measure.{measure, weight, deep, heavy, of_var, heaviest_of, deepness_of}
use Rattle.dart_types.specs.Superinterfaces.{IsSuperinterface, Keeps, AreSuperinterfaces, interface_of}
use Rattle.dart_types.specs.Sub.{Sub, Subs, reflexivity, right_top, right_object, right_nullable, right_promoted, interface_arguments, super_interface}
use Rattle.dart_types.specs.Forms.{form_of}
use Rattle.dart_types.specs.declared.ids.ClassId.{ClassId}
use Rattle.dart_types.specs.declared.ids.VarId.{VarId}
use Rattle.dart_types.specs.declared.class_rows.ClassRow.{ClassRow}
use Rattle.dart_types.specs.declared.superinterfaces.Superinterface.{Superinterface}
use Rattle.dart_types.specs.declared.scopes.SeenList.{SeenList}
use Rattle.dart_types.specs.declared.scopes.Form.{Form}
use Rattle.dart_types.specs.declared.scopes.Form.TheVariants.{Invalid, Never, Void, Null, Interface, Function, Var, Promoted, Nullable}
use Rattle.dart_types.proofs.Supers.{superinterface_simple, not_itself, inherited}
pub use Rattle.dart_types.proofs.Lists.{contains_passed, passed_contains}
use Rattle.dart_types.proofs.Transitive.{subs_same, all_moved}
use Rattle.dart_types.proofs.NormalPut.{all_to_normal, all_from_normal, deep_normal, heavy_normal}
use Rattle.dart_types.proofs.MeasureFalls.{not_above}
use Rattle.dart_types.proofs.Inversions.{bare_not_top}
use Rattle.dart_types.proofs.Climb.{climb_falls}
use Rattle.dart_types.proofs.Steps.{yes, no, through}

-- types are the same under what stands for each variable alike
mutual
  put_alike : (σ τ : VarId → Ty) → ((x : VarId) → σ x ≡ τ x) → (t : Ty) → put σ t ≡ put τ t
  put_alike σ τ h invalid = refl
  put_alike σ τ h never = refl
  put_alike σ τ h void = refl
  put_alike σ τ h null = refl
  put_alike σ τ h (interface c ts) = ap (λ (us : Types). interface c us) (put_all_alike σ τ h ts)
  put_alike σ τ h (function r o n e) = let a = put_all_alike σ τ h r in let b = put_all_alike σ τ h o in let c = put_named_alike σ τ h n in let d = put_alike σ τ h e in cc
  put_alike σ τ h (variable x) = h x
  put_alike σ τ h (promoted x t) = ap (λ (u : Ty). promoted x u) (put_alike σ τ h t)
  put_alike σ τ h (nullable t) = ap (λ (u : Ty). nullable u) (put_alike σ τ h t)

  put_all_alike : (σ τ : VarId → Ty) → ((x : VarId) → σ x ≡ τ x) → (ts : Types) → put_all σ ts ≡ put_all τ ts
  put_all_alike σ τ h no_more = refl
  put_all_alike σ τ h (more t ts) = let a = put_alike σ τ h t in let b = put_all_alike σ τ h ts in cc

  put_named_alike : (σ τ : VarId → Ty) → ((x : VarId) → σ x ≡ τ x) → (ns : Named) → put_named σ ns ≡ put_named τ ns
  put_named_alike σ τ h no_named = refl
  put_named_alike σ τ h (more_named n r t ts) = let a = put_alike σ τ h t in let b = put_named_alike σ τ h ts in cc

frame_var : (outer : Frames) (ps : List VarId) (args : Types) (x : VarId) → stands_for (argument_of ps args x) (in_scope outer) x ≡ unwrap_or (argument_of ps (put_all (in_scope outer) args) x) (variable x)
frame_var outer [] args x = refl
frame_var outer (p ∷ ps) no_more x = refl
frame_var outer (p ∷ ps) (more t ts) x = at (same_var p x) (frame_var outer ps ts x)
  where
    at : (b : Bool) → stands_for (argument_of ps ts x) (in_scope outer) x ≡ unwrap_or (argument_of ps (put_all (in_scope outer) ts) x) (variable x) → stands_for (cond b (Some t) (argument_of ps ts x)) (in_scope outer) x ≡ unwrap_or (cond b (Some (put (in_scope outer) t)) (argument_of ps (put_all (in_scope outer) ts) x)) (variable x)
    at true e = refl
    at false e = e

-- a type seen in the scope of a class is it with the arguments put in, as they are seen
pub frame_all : (ps : List VarId) (args : List Ty) (outer : Frames) (ts : Types) → close_all ((ps, args) ∷ outer) ts ≡ put_all (by_params ps (close_all outer (types_of args))) ts
frame_all ps args outer ts = put_all_alike (in_scope ((ps, args) ∷ outer)) (by_params ps (close_all outer (types_of args))) (λ x. frame_var outer ps (types_of args) x) ts

module _ (table : Table) (wf : IsWellFormed table) where
  -- what lies above an interface is one, or no bare type
  object_form : (t : Ty) → is_object t ≡ true → (d : ClassId) × (ts : Types) × (t ≡ interface d ts)
  object_form invalid o = cc
  object_form never o = cc
  object_form void o = cc
  object_form null o = cc
  object_form (interface c ts) o = (c, ts, refl)
  object_form (function r o' n e) o = cc
  object_form (variable x) o = cc
  object_form (promoted x t) o = cc
  object_form (nullable t) o = cc

  interface_above : {c : ClassId} {ss : Types} {t : Ty} → Sub table (interface c ss) t → is_bare_target t ≡ true → (d : ClassId) × (ts : Types) × (t ≡ interface d ts)
  interface_above {c} {ss} reflexivity h = (c, ss, refl)
  interface_above {t = t} (right_top e) h = absurd (bare_not_top t h e)
  interface_above {t = t} (right_object e p) h = object_form t e
  interface_above (right_nullable a) h = cc
  interface_above (right_promoted a b) h = cc
  interface_above {c} (interface_arguments {ts = ts} a) h = (c, ts, refl)
  interface_above (super_interface {d = d} {ts = ts} row r n k a) h = (d, ts, refl)

  interface_form : (f : Form) {d : ClassId} {ts : Types} → form_of f ≡ interface d ts → ((class : ClassId) (args : SeenList) → f ≡ Interface class args → ⊥) → ⊥
  interface_form Invalid e h = cc
  interface_form Never e h = cc
  interface_form Void e h = cc
  interface_form Null e h = cc
  interface_form (Interface class args) e h = h class args refl
  interface_form (Function g) e h = cc
  interface_form (Var x) e h = cc
  interface_form (Promoted x u) e h = cc
  interface_form (Nullable u) e h = cc

  pub below_no_interface : {c : ClassId} {ss : Types} (f : Form) → is_bare_target (form_of f) ≡ true → ((class : ClassId) (args : SeenList) → f ≡ Interface class args → ⊥) → IsTrue false ↔ Sub table (interface c ss) (form_of f)
  below_no_interface f bare h = no (λ a. let k = interface_above a bare in interface_form f k.2 h)

  -- `Object` on the right
  pub below_object : {s t : Ty} → is_plain s ≡ true → is_object t ≡ true → IsTrue true ↔ Sub table s t
  below_object p o = yes (right_object o p)

  -- an interface is a subtype of another by its arguments, by a superinterface, or as that is `Object`
  abbrev Down : (c d : ClassId) (ss ts : Types) → Type 0
  Down c d ss ts = (row : ClassRow) × (class_of table c ≡ Some row) × (count ss ≡ length row.params) × (vs : Types) × Keeps table c (interface d vs) × Subs table (put_all (by_params row.params ss) vs) ts

  climb_down : {c d : ClassId} {ss ts : Types} → Sub table (interface c ss) (interface d ts) → (is_object (interface d ts) ≡ true) ⊎ (((c ≡ d) × Subs table ss ts) ⊎ Down c d ss ts)
  climb_down {ss = ss} reflexivity = inr (inl (refl, subs_same table wf ss))
  climb_down (right_top x) = cc
  climb_down (right_object x p) = inl x
  climb_down (interface_arguments a) = inr (inl (refl, a))
  climb_down (super_interface {us = us} row r n k a) = inr (inr (row, r, n, us, k, a))

  -- one class on both sides
  pub by_arguments : {c d : ClassId} {ss ts : Types} {t : Ty} {r : Bool} → t ≡ interface d ts → c ≡ d → is_object t ≡ false → IsTrue r ↔ Subs table ss ts → IsTrue r ↔ Sub table (interface c ss) t
  by_arguments {c} {d} {ss} {ts} {t} e same plain p =
      through
      (λ a. subst (λ (u : Ty). Sub table (interface c ss) u) (sym e) (subst (λ (k : ClassId). Sub table (interface c ss) (interface k ts)) same (interface_arguments a)))
      (λ a. back (climb_down (subst (λ (u : Ty). Sub table (interface c ss) u) e a)))
      p
    where
      back : (is_object (interface d ts) ≡ true) ⊎ (((c ≡ d) × Subs table ss ts) ⊎ Down c d ss ts) → Subs table ss ts
      back (inl o) = let k : is_object t ≡ true = subst (λ (u : Ty). is_object u ≡ true) (sym e) o in cc
      back (inr (inl q)) = q.1
      back (inr (inr q)) = absurd (not_itself table wf (subst (λ (k : ClassId). IsSuperinterface table c (interface k q.3)) (sym same) (inherited table wf q.4.0)))

  pub arguments_less : {c d : ClassId} (ss : Types) {ts : Types} {t : Ty} → t ≡ interface d ts → c ≡ d → measure table (interface c ss) (interface c ts) ≤ measure table (interface c ss) t
  arguments_less {c} {d} ss {ts} {t} e same =
      subst (λ (u : Ty). measure table (interface c ss) (interface c ts) ≤ measure table (interface c ss) u) (sym e)
      (subst (λ (k : ClassId). measure table (interface c ss) (interface c ts) ≤ measure table (interface c ss) (interface k ts)) same (omega arith))

  -- the normal form of a supertype, with others put in, measures no more
  normal_least : (τ : VarId → Ty) (vars : List VarId) (v : Ty) → IsSupertype vars v → (t : Ty) → measure table (put τ (normal v)) t ≤ measure table (put τ v) t
  unfolding heaviest_of deepness_of
  normal_least τ vars invalid i t = absurd i
  normal_least τ vars never i t = absurd i
  normal_least τ vars void i t = absurd i
  normal_least τ vars null i t = absurd i
  normal_least τ vars (interface f vs) i t =
      not_above table wf (put τ (interface f vs)) (put τ (interface f (normal_all vs))) t
      (heavy_normal τ (of_var (heavy (of_var weight table)) table) (of_var weight table) vars (interface f vs) i)
      (deep_normal τ (of_var deep table) vars (interface f vs) i)
      refl
  normal_least τ vars (function f o n e) i t = absurd i
  normal_least τ vars (variable x) i t = absurd i
  normal_least τ vars (promoted x u) i t = absurd i
  normal_least τ vars (nullable u) i t = absurd i

  -- another class on the right
  module _ (c d : ClassId) (ss ts : Types) (other : c ≢ d) (plain : is_object (interface d ts) ≡ false) where
    down : Sub table (interface c ss) (interface d ts) → Down c d ss ts
    down a = at (climb_down a)
      where
        at : (is_object (interface d ts) ≡ true) ⊎ (((c ≡ d) × Subs table ss ts) ⊎ Down c d ss ts) → Down c d ss ts
        at (inl o) = cc
        at (inr (inl q)) = absurd (other q.0)
        at (inr (inr q)) = q

    pub no_row : class_of table c ≡ None → IsTrue false ↔ Sub table (interface c ss) (interface d ts)
    no_row none = no (λ a. let q = down a in let k : None ≡ Some q.0 = sym none ∙ q.1 in cc)

    module _ (row : ClassRow) (r : class_of table c ≡ Some row) where
      the_row : (p : ClassRow) → class_of table c ≡ Some p → p ≡ row
      the_row p e = let k : Some p ≡ Some row = sym e ∙ r in cc

      pub other_count : (count ss ≡ length row.params → ⊥) → IsTrue false ↔ Sub table (interface c ss) (interface d ts)
      other_count h = no (λ a. let q = down a in h (q.2 ∙ ap (λ (p : ClassRow). length p.params) (the_row q.0 q.1)))

      module _ (k : count ss ≡ length row.params) (list : List Superinterface) (are : AreSuperinterfaces table c list) where
        abbrev σ : VarId → Ty
        σ = by_params row.params ss

        -- an entry of the class on the right
        entry_form : (s : Superinterface) → s.class ≡ d → (v : Ty) → IsSupertype row.params v → Keeps table c v → interface_of s ≡ normal v → (vs : Types) × Keeps table c (interface d vs) × (types_of s.args ≡ normal_all vs)
        entry_form s is invalid i h e = absurd i
        entry_form s is never i h e = absurd i
        entry_form s is void i h e = absurd i
        entry_form s is null i h e = absurd i
        entry_form s is (interface f vs) i h e =
            let same : s.class ≡ f = cc in
            let args : types_of s.args ≡ normal_all vs = cc in
            (vs, subst (λ (g : ClassId). Keeps table c (interface g vs)) (sym same ∙ is) h, args)
        entry_form s is (function g o n x) i h e = absurd i
        entry_form s is (variable x) i h e = absurd i
        entry_form s is (promoted x u) i h e = absurd i
        entry_form s is (nullable u) i h e = absurd i

        over_params : {v : Ty} → Keeps table c v → IsSupertype row.params v
        over_params h = superinterface_simple table wf (inherited table wf h.0) row r

        entry : (s : Superinterface) → Contains list s → s.class ≡ d → (vs : Types) × Keeps table c (interface d vs) × (types_of s.args ≡ normal_all vs)
        entry s i is = let q = are.no_other s i in entry_form s is q.0 (over_params q.1) q.1 q.2

        pub entry_below : (s : Superinterface) → Contains list s → s.class ≡ d → Subs table (put_all σ (types_of s.args)) ts → IsTrue true ↔ Sub table (interface c ss) (interface d ts)
        entry_below s i is a =
            let q = entry s i is in
            let b : Subs table (put_all σ (normal_all q.0)) ts = subst (λ (us : Types). Subs table (put_all σ us) ts) q.2 a in
            yes (super_interface row r k q.1 (all_moved table wf (all_to_normal table wf σ row.params q.0 (over_params q.1)) b))

        pub entry_falls : (s : Superinterface) → Contains list s → s.class ≡ d → measure table (interface d (put_all σ (types_of s.args))) (interface d ts) < measure table (interface c ss) (interface d ts)
        entry_falls s i is =
            let q = entry s i is in
            let up = climb_falls table wf c ss row r k (interface d ts) (inherited table wf q.1.0) in
            let less = normal_least σ row.params (interface d q.0) (over_params q.1) (interface d ts) in
            subst (λ (us : Types). measure table (interface d (put_all σ us)) (interface d ts) < measure table (interface c ss) (interface d ts)) (sym q.2) (omega (arith, up, less))

        pub none_below : ((s : Superinterface) → Contains list s → s.class ≡ d → Subs table (put_all σ (types_of s.args)) ts → ⊥) → IsTrue false ↔ Sub table (interface c ss) (interface d ts)
        none_below h = no (λ a. at (down a))
          where
            at : Down c d ss ts → ⊥
            at q =
                let e = are.every (interface d q.3) q.4 in
                let is : e.0.class ≡ d = (let l : interface e.0.class (types_of e.0.args) ≡ interface d (normal_all q.3) = e.2 in cc) in
                let args : types_of e.0.args ≡ normal_all q.3 = (let l : interface e.0.class (types_of e.0.args) ≡ interface d (normal_all q.3) = e.2 in cc) in
                let b : Subs table (put_all σ q.3) ts = subst (λ (p : ClassRow). Subs table (put_all (by_params p.params ss) q.3) ts) (the_row q.0 q.1) q.5 in
                h e.0 e.1 is (subst (λ (us : Types). Subs table (put_all σ us) ts) (sym args) (all_moved table wf (all_from_normal table wf σ row.params q.3 (over_params q.4)) b))
