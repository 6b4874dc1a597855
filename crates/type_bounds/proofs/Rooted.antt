-- Every class but Object keeps Object, which alone is at depth 0.
use Rattle.std.proofs.Common.{◌≡◌, ℕ, zero, suc, ◌+◌, ◌≤◌, Bool, true, false, List, [], ◌∷◌, length, Option, Some, None, refl, sym, ◌∙◌, ap, subst, arith}
use Rattle.std.specs.Prelude.{Contains}
use Rattle.dart_types.specs.Ty.{Ty, Types, invalid, never, void, null, interface, function, variable, promoted, nullable, no_more, more, count}
use Rattle.dart_types.specs.Same.{same_class}
use Rattle.dart_types.specs.Heads.{object, is_plain}
use Rattle.dart_types.specs.Normal.{normal}
use Rattle.dart_types.specs.Substitution.{put, by_params}
use Rattle.dart_types.specs.Sizes.{size_of}
use Rattle.dart_types.specs.Superinterfaces.{IsSuperinterface, direct, further, supertype, handed_on, Keeps}
use Rattle.dart_types.specs.Tables.{Table, class_of, depth_of, depth_above, head_depth}
use Rattle.dart_types.specs.WellFormed.{IsSupertype, HasArguments, IsOver}
use Rattle.dart_types.specs.Sub.{Sub, right_object}
use Rattle.dart_types.specs.declared.ids.ClassId.{ClassId}
use Rattle.dart_types.specs.declared.ids.VarId.{VarId}
use Rattle.dart_types.specs.declared.ids.TheConstants.{OBJECT}
use Rattle.dart_types.specs.declared.refusal.TheConstants.{NODE_LIMIT}
use Rattle.dart_types.specs.declared.class_rows.ClassRow.{ClassRow}
use Rattle.dart_types.specs.Laws.{RowLaws}
use Rattle.type_bounds.specs.Common.{IsAbove}
use Rattle.type_bounds.proofs.General.{equal_from_same_class, same_class-refl}

-- the type is an interface of a class that has a row
abbrev pub HasRow : Table → Ty → Type 0
HasRow table invalid = ⊥
HasRow table never = ⊥
HasRow table void = ⊥
HasRow table null = ⊥
HasRow table (interface c ts) = (row : ClassRow) × (class_of table c ≡ Some row)
HasRow table (function r o n e) = ⊥
HasRow table (variable x) = ⊥
HasRow table (promoted x t) = ⊥
HasRow table (nullable t) = ⊥

no_types : (ts : Types) → count ts ≡ 0 → ts ≡ no_more
no_types no_more e = refl
no_types (more t ts) e = absurd (omega arith)

no_supers : (table : Table) (vs : List Ty) → depth_above table vs ≡ 0 → vs ≡ []
no_supers table [] e = refl
no_supers table (v ∷ vs) e = absurd (omega arith)

same_or_other : {A : Type 0} (c d : ClassId) → (c ≡ d → A) → ((c ≡ d → ⊥) → A) → A
same_or_other {A} c d same other = at (same_class c d) refl
  where
    clash : same_class c d ≡ false → c ≡ d → ⊥
    clash e is = let k : same_class c d ≡ true = subst (λ (x : ClassId). same_class c x ≡ true) is (same_class-refl c) in let f : true ≡ false = sym k ∙ e in cc

    at : (b : Bool) → same_class c d ≡ b → A
    at true e = same (equal_from_same_class c d e)
    at false e = other (clash e)

module _ (table : Table) (laws : RowLaws table) where
  over_row : (v : Ty) (ps : List VarId) → IsSupertype ps v → IsOver table v → HasRow table v
  over_row invalid ps i o = absurd i
  over_row never ps i o = absurd i
  over_row void ps i o = absurd i
  over_row null ps i o = absurd i
  over_row (interface c ts) ps i o = found (class_of table c) refl o.0
    where
      found : (row : Option ClassRow) → class_of table c ≡ row → HasArguments row ts → (row : ClassRow) × (class_of table c ≡ Some row)
      found None e h = absurd h
      found (Some row) e h = (row, e)
  over_row (function r o' n e) ps i o = absurd i
  over_row (variable x) ps i o = absurd i
  over_row (promoted x t) ps i o = absurd i
  over_row (nullable t) ps i o = absurd i

  put_row : (σ : VarId → Ty) (v : Ty) → HasRow table v → HasRow table (put σ v)
  put_row σ invalid h = absurd h
  put_row σ never h = absurd h
  put_row σ void h = absurd h
  put_row σ null h = absurd h
  put_row σ (interface c ts) h = h
  put_row σ (function r o n e) h = absurd h
  put_row σ (variable x) h = absurd h
  put_row σ (promoted x t) h = absurd h
  put_row σ (nullable t) h = absurd h

  -- a superinterface is of a class that has a row
  superinterface_row : {c : ClassId} {v : Ty} → IsSuperinterface table c v → HasRow table v
  superinterface_row {c} (direct {row = row} {v = v} r i) = let f = laws.formed_super c row v r i in over_row v row.params f.0 f.1
  superinterface_row (further {d = d} {ts = ts} {row = row} {v = v} h r i) =
      let f = laws.formed_super d row v r i in
      put_row (by_params row.params ts) v (over_row v row.params f.0 f.1)

  row_depth : (c : ClassId) (row : ClassRow) → class_of table c ≡ Some row → depth_of table c ≡ row.depth
  row_depth c row r = rw r refl

  -- a class at depth 0 is Object, and has no supertype
  at_root : (c : ClassId) (row : ClassRow) → class_of table c ≡ Some row → depth_of table c ≡ 0 → c ≡ OBJECT
  at_root c row r root =
      let f = laws.formed_class c row r in
      let e : depth_above table row.supers ≡ 0 = sym f.depth ∙ (sym (row_depth c row r) ∙ root) in
      let none = no_supers table row.supers e in
      same_or_other c OBJECT (λ is. is) (λ other. absurd (f.rooted (λ is. other (sym (laws.row_id c row r) ∙ is)) none))

  pub root_depth : (row : ClassRow) → class_of table OBJECT ≡ Some row → depth_of table OBJECT ≡ 0
  root_depth row r =
      let f = laws.formed_class OBJECT row r in
      let none : row.supers ≡ [] = f.object_alone (laws.row_id OBJECT row r) in
      row_depth OBJECT row r ∙ (f.depth ∙ ap (depth_above table) none)

  some_super : (vs : List Ty) → (vs ≡ [] → ⊥) → (v : Ty) × Contains vs v
  some_super [] h = absurd (h refl)
  some_super (v ∷ vs) h = (v, (0, omega arith, refl))

  -- where Object has no parameters, every other class keeps it, and it is alone at depth 0
  module _ (bare : (row : ClassRow) → class_of table OBJECT ≡ Some row → row.params ≡ []) where
    bare_arguments : {c : ClassId} {us : Types} → IsSuperinterface table c (interface OBJECT us) → (row : ClassRow) → class_of table OBJECT ≡ Some row → us ≡ no_more
    bare_arguments {c = c} {us = us} h row r = no_types us (laws.superinterface_counted c OBJECT us row r h ∙ ap length (bare row r))

    -- the class keeps Object, which has a row
    abbrev Reaches : ClassId → Type 0
    Reaches c = Keeps table c object × HasRow table object

    object_small : size_of (normal object) ≤ NODE_LIMIT
    object_small = omega arith

    -- it does where Object is a supertype of it, or where a supertype does
    by_root : (c : ClassId) (row : ClassRow) → class_of table c ≡ Some row → (ts : Types) → Contains row.supers (interface OBJECT ts) → HasRow table (interface OBJECT ts) → Reaches c
    by_root c row r ts i w =
        let none : ts ≡ no_more = bare_arguments (direct {row = row} r i) w.0 w.1 in
        ((supertype row r (subst (λ (us : Types). Contains row.supers (interface OBJECT us)) none i), object_small), w)

    by_super : (n : ℕ) → ((d : ClassId) (row : ClassRow) → class_of table d ≡ Some row → (d ≡ OBJECT → ⊥) → depth_of table d ≤ n → Reaches d) → (c : ClassId) (row : ClassRow) → class_of table c ≡ Some row → depth_of table c ≤ n + 1 → (v : Ty) → Contains row.supers v → IsSupertype row.params v → IsOver table v → Reaches c
    by_super n go c row r le invalid i s o = absurd s
    by_super n go c row r le never i s o = absurd s
    by_super n go c row r le void i s o = absurd s
    by_super n go c row r le null i s o = absurd s
    by_super n go c row r le (interface d ts) i s o =
        let w : HasRow table (interface d ts) = over_row (interface d ts) row.params s o in
        let up : depth_of table d + 1 ≤ depth_of table c = laws.super_depth c row (interface d ts) r i in
        same_or_other d OBJECT
        (λ is. by_root c row r ts (subst (λ (x : ClassId). Contains row.supers (interface x ts)) is i) (subst (λ (x : ClassId). HasRow table (interface x ts)) is w))
        (λ other.
        let h : Reaches d = go d w.0 w.1 other (omega (arith, up, le)) in
        ((handed_on {v = object} row w.0 r i w.1 h.0.0 h.0.1, object_small), h.1))
    by_super n go c row r le (function f o' m e) i s o = absurd s
    by_super n go c row r le (variable x) i s o = absurd s
    by_super n go c row r le (promoted x t) i s o = absurd s
    by_super n go c row r le (nullable t) i s o = absurd s

    reaches_within : (n : ℕ) (c : ClassId) (row : ClassRow) → class_of table c ≡ Some row → (c ≡ OBJECT → ⊥) → depth_of table c ≤ n → Reaches c
    reaches_within zero c row r other le = absurd (other (at_root c row r (omega (arith, le))))
    reaches_within (suc n) c row r other le =
        let f = laws.formed_class c row r in
        let v = some_super row.supers (f.rooted (λ is. other (sym (laws.row_id c row r) ∙ is))) in
        let g = laws.formed_super c row v.0 r v.1 in
        by_super n (reaches_within n) c row r (omega (arith, le)) v.0 v.1 g.0 g.1

    pub reaches : (c : ClassId) (row : ClassRow) → class_of table c ≡ Some row → (c ≡ OBJECT → ⊥) → Reaches c
    reaches c row r other = reaches_within (depth_of table c) c row r other (omega arith)

    pub object_above : (c : ClassId) (ss : Types) (row : ClassRow) → class_of table c ≡ Some row → count ss ≡ length row.params → (c ≡ OBJECT → ⊥) → IsAbove table c ss object
    object_above c ss row r k other = record {
      row = row;
      row_is = r;
      counted = k;
      over = object;
      superinterface = (reaches c row r other).0;
      is = refl;
    }

    alone : {c : ClassId} (σ : VarId → Ty) (v : Ty) → IsSuperinterface table c v → HasRow table v → head_depth table (normal (put σ v)) ≡ 0 → normal (put σ v) ≡ object
    alone σ invalid h w e = absurd w
    alone σ never h w e = absurd w
    alone σ void h w e = absurd w
    alone σ null h w e = absurd w
    alone {c} σ (interface d us) h w e =
        let is : d ≡ OBJECT = at_root d w.0 w.1 e in
        let r : class_of table OBJECT ≡ Some w.0 = subst (λ (x : ClassId). class_of table x ≡ Some w.0) is w.1 in
        let none : us ≡ no_more = bare_arguments (subst (λ (x : ClassId). IsSuperinterface table c (interface x us)) is h) w.0 r in
        ap (λ (x : ClassId). normal (put σ (interface x us))) is ∙ ap (λ (ts : Types). normal (put σ (interface OBJECT ts))) none
    alone σ (function r o n e') h w e = absurd w
    alone σ (variable x) h w e = absurd w
    alone σ (promoted x t) h w e = absurd w
    alone σ (nullable t) h w e = absurd w

    pub object_alone : (c : ClassId) (ss : Types) (v : Ty) → IsAbove table c ss v → head_depth table v ≡ 0 → v ≡ object
    object_alone c ss v a e =
        let h = laws.inherited c a.over a.superinterface.0 in
        a.is ∙ alone (by_params a.row.params ss) a.over h (superinterface_row h) (sym (ap (head_depth table) a.is) ∙ e)

    -- what isn't above a class is no Object
    pub not_object : (c : ClassId) (ss : Types) (row : ClassRow) → class_of table c ≡ Some row → count ss ≡ length row.params → (s : Ty) → is_plain s ≡ true → (Sub table s (interface c ss) → ⊥) → c ≡ OBJECT → ⊥
    not_object c ss row r k s plain apart is =
        let none : ss ≡ no_more = no_types ss (k ∙ ap length (bare row (subst (λ (x : ClassId). class_of table x ≡ Some row) is r))) in
        let below : Sub table s (interface OBJECT no_more) = right_object refl plain in
        apart (subst (λ (x : ClassId). Sub table s (interface x ss)) (sym is) (subst (λ (us : Types). Sub table s (interface OBJECT us)) (sym none) below))
