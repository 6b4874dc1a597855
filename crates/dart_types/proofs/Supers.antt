-- Superinterfaces: interfaces over the parameters of the class that has them, with as many arguments as their class has parameters.
use Rattle.std.proofs.Common.{◌≡◌, ◌+◌, ◌≤◌, Bool, true, false, List, length, Option, Some, [], ◌∷◌, cond, refl, ◌∙◌, subst, arith}
use Rattle.std.specs.Prelude.{◌||◌, unwrap_or}
use Rattle.dart_types.specs.Ty.{Ty, Types, invalid, never, void, null, interface, function, variable, promoted, nullable, no_more, more, count}
use Rattle.dart_types.specs.Same.{same_var}
use Rattle.dart_types.specs.Heads.{object}
use Rattle.dart_types.specs.Substitution.{put, put_all, argument_of, by_params}
use Rattle.dart_types.specs.Tables.{Table, class_of, depth_of, head_depth}
use Rattle.dart_types.specs.WellFormed.{is_among, IsSimple, AreSimple, IsSupertype, HasArguments, IsOver, IsWellFormed}
use Rattle.dart_types.specs.Superinterfaces.{IsSuperinterface, direct, further, Inherits, supertype, handed_on}
use Rattle.dart_types.specs.declared.ids.ClassId.{ClassId}
use Rattle.dart_types.specs.declared.ids.VarId.{VarId}
use Rattle.dart_types.specs.declared.ids.TheConstants.{OBJECT, FUNCTION}
use Rattle.dart_types.specs.declared.class_rows.ClassRow.{ClassRow}
use Rattle.dart_types.proofs.Formed.{formed_super, super_depth, object_has_none, function_has_object}
use Rattle.dart_types.proofs.Substitutes.{count-put_all, put-by_params}

pub super_simple : (params : List VarId) (v : Ty) → IsSupertype params v → IsSimple params v
super_simple params invalid i = absurd i
super_simple params never i = absurd i
super_simple params void i = absurd i
super_simple params null i = absurd i
super_simple params (interface c ts) i = i
super_simple params (function r o n e) i = absurd i
super_simple params (variable x) i = absurd i
super_simple params (promoted x t) i = absurd i
super_simple params (nullable t) i = absurd i

-- an interface has as many arguments as its class has parameters
abbrev pub IsCounted : Table → Ty → Type 0
IsCounted table invalid = Unit {0}
IsCounted table never = Unit {0}
IsCounted table void = Unit {0}
IsCounted table null = Unit {0}
IsCounted table (interface c ts) = (row : ClassRow) → class_of table c ≡ Some row → count ts ≡ length row.params
IsCounted table (function r o n e) = Unit {0}
IsCounted table (variable x) = Unit {0}
IsCounted table (promoted x t) = Unit {0}
IsCounted table (nullable t) = Unit {0}

-- a parameter stands for a type over other variables, where the arguments are over these
argument_simple : (vars ps : List VarId) (ss : Types) (x : VarId) → is_among ps x ≡ true → count ss ≡ length ps → AreSimple vars ss → IsSimple vars (by_params ps ss x)
argument_simple vars [] ss x h k f = cc
argument_simple vars (p ∷ ps) no_more x h k f = absurd (omega arith)
argument_simple vars (p ∷ ps) (more s ss) x h k f = at (same_var p x) h (λ g. argument_simple vars ps ss x g (omega arith) f.1)
  where
    at : (b : Bool) → (b || is_among ps x) ≡ true → (is_among ps x ≡ true → IsSimple vars (by_params ps ss x)) → IsSimple vars (unwrap_or (cond b (Some s) (argument_of ps ss x)) (variable x))
    at true g go = f.0
    at false g go = go g

mutual
  put_simple : (vars ps : List VarId) (ss : Types) → count ss ≡ length ps → AreSimple vars ss → (v : Ty) → IsSimple ps v → IsSimple vars (put (by_params ps ss) v)
  put_simple vars ps ss k f invalid i = tt
  put_simple vars ps ss k f never i = tt
  put_simple vars ps ss k f void i = tt
  put_simple vars ps ss k f null i = tt
  put_simple vars ps ss k f (interface c ts) i = put_all_simple vars ps ss k f ts i
  put_simple vars ps ss k f (function r o n e) i = absurd i
  put_simple vars ps ss k f (variable x) i = argument_simple vars ps ss x i k f
  put_simple vars ps ss k f (promoted x t) i = absurd i
  put_simple vars ps ss k f (nullable t) i = put_simple vars ps ss k f t i

  put_all_simple : (vars ps : List VarId) (ss : Types) → count ss ≡ length ps → AreSimple vars ss → (vs : Types) → AreSimple ps vs → AreSimple vars (put_all (by_params ps ss) vs)
  put_all_simple vars ps ss k f no_more i = tt
  put_all_simple vars ps ss k f (more v vs) i = (put_simple vars ps ss k f v i.0, put_all_simple vars ps ss k f vs i.1)

module _ (table : Table) (wf : IsWellFormed table) where
  over_counted : (v : Ty) → IsOver table v → IsCounted table v
  over_counted invalid o = tt
  over_counted never o = tt
  over_counted void o = tt
  over_counted null o = tt
  over_counted (interface c ts) o = λ row r. subst (λ (k : Option ClassRow). HasArguments k ts) r o.0
  over_counted (function r o' n e) o = tt
  over_counted (variable x) o = tt
  over_counted (promoted x t) o = tt
  over_counted (nullable t) o = tt

  put_counted : (ps : List VarId) (σ : VarId → Ty) (v : Ty) → IsSupertype ps v → IsCounted table v → IsCounted table (put σ v)
  put_counted ps σ invalid i o = absurd i
  put_counted ps σ never i o = absurd i
  put_counted ps σ void i o = absurd i
  put_counted ps σ null i o = absurd i
  put_counted ps σ (interface c ts) i o = λ row r. count-put_all σ ts ∙ o row r
  put_counted ps σ (function f o' n e) i o = absurd i
  put_counted ps σ (variable x) i o = absurd i
  put_counted ps σ (promoted x t) i o = absurd i
  put_counted ps σ (nullable t) i o = absurd i

  put_supertype : (vars ps : List VarId) (ss : Types) → count ss ≡ length ps → AreSimple vars ss → (v : Ty) → IsSupertype ps v → IsSupertype vars (put (by_params ps ss) v)
  put_supertype vars ps ss k f invalid i = absurd i
  put_supertype vars ps ss k f never i = absurd i
  put_supertype vars ps ss k f void i = absurd i
  put_supertype vars ps ss k f null i = absurd i
  put_supertype vars ps ss k f (interface c ts) i = put_all_simple vars ps ss k f ts i
  put_supertype vars ps ss k f (function r o n e) i = absurd i
  put_supertype vars ps ss k f (variable x) i = absurd i
  put_supertype vars ps ss k f (promoted x t) i = absurd i
  put_supertype vars ps ss k f (nullable t) i = absurd i

  -- a superinterface has as many arguments as its class has parameters
  pub counted : {c : ClassId} {v : Ty} → IsSuperinterface table c v → IsCounted table v
  counted {c} (direct {row = row} {v = v} r i) = over_counted v (formed_super table wf c row v r i).1
  counted (further {d = d} {ts = ts} {row = row} {v = v} h r i) =
      put_counted row.params (by_params row.params ts) v (formed_super table wf d row v r i).0 (over_counted v (formed_super table wf d row v r i).1)

  same_row : (c : ClassId) (row row' : ClassRow) → class_of table c ≡ Some row → class_of table c ≡ Some row' → row ≡ row'
  same_row c row row' e f = cc

  -- and is an interface over the parameters of the class that has it
  pub superinterface_simple : {c : ClassId} {v : Ty} → IsSuperinterface table c v → (row : ClassRow) → class_of table c ≡ Some row → IsSupertype row.params v
  superinterface_simple {c} (direct {row = row'} {v = v} r' i) row r =
      let is : row' ≡ row = same_row _ row' row r' r in
      subst (λ (k : ClassRow). IsSupertype k.params v) is (formed_super table wf c row' v r' i).0
  superinterface_simple (further {d = d} {ts = ts} {row = row'} {v = v} h r' i) row r =
      put_supertype row.params row'.params ts (counted h row' r') (superinterface_simple h row r) v (formed_super table wf d row' v r' i).0

  -- a superinterface of a superinterface is one, with the arguments put in
  pub superinterface_trans : {c d : ClassId} {ts : Types} {w : Ty} → IsSuperinterface table c (interface d ts) → (row : ClassRow) → class_of table d ≡ Some row → IsSuperinterface table d w → IsSuperinterface table c (put (by_params row.params ts) w)
  superinterface_trans {c} {d} {ts} h row r (direct {row = row'} {v = v} r' i) =
      let is : row' ≡ row = same_row _ row' row r' r in
      subst (λ (k : ClassRow). IsSuperinterface table c (put (by_params k.params ts) v)) is (further h r' i)
  superinterface_trans {c} {d} {ts} h row r (further {d = e} {ts = us} {row = row'} {v = v} h' r' i) =
      subst (λ (k : Ty). IsSuperinterface table c k)
      (put-by_params (by_params row.params ts) row'.params us (counted h' row' r') v (super_simple row'.params v (formed_super table wf e row' v r' i).0))
      (further (superinterface_trans h row r h') r' i)

  -- the way up
  put_depth : (params : List VarId) (σ : VarId → Ty) (v : Ty) → IsSupertype params v → head_depth table (put σ v) ≡ head_depth table v
  put_depth params σ invalid i = absurd i
  put_depth params σ never i = absurd i
  put_depth params σ void i = absurd i
  put_depth params σ null i = absurd i
  put_depth params σ (interface c ts) i = refl
  put_depth params σ (function r o n e) i = absurd i
  put_depth params σ (variable x) i = absurd i
  put_depth params σ (promoted x t) i = absurd i
  put_depth params σ (nullable t) i = absurd i

  -- a superinterface is less far from Object
  pub superinterface_depth : {c : ClassId} {v : Ty} → IsSuperinterface table c v → head_depth table v + 1 ≤ depth_of table c
  superinterface_depth {c} (direct {row = row} {v = v} r i) = super_depth table wf c row v r i
  superinterface_depth (further {d = d} {ts = ts} {row = row} {v = v} h r i) =
      let same = put_depth row.params (by_params row.params ts) v (formed_super table wf d row v r i).0 in
      omega (arith, same, super_depth table wf d row v r i, superinterface_depth h)

  pub not_itself : {c : ClassId} {ts : Types} → IsSuperinterface table c (interface c ts) → ⊥
  not_itself h = absurd (omega (arith, superinterface_depth h))

  -- what a class inherits is a superinterface of it
  pub inherited : {c : ClassId} {v : Ty} → Inherits table c v → IsSuperinterface table c v
  inherited (supertype row r i) = direct r i
  inherited (handed_on row above r i r' h small) = superinterface_trans (direct r i) above r' (inherited h)

  -- Object inherits nothing, and Function has Object alone
  pub object_inherits : {c : ClassId} {v : Ty} {A : Type 0} → c ≡ OBJECT → Inherits table c v → A
  object_inherits {c} {v} e (supertype row r i) = absurd (object_has_none table wf c row v r e i)
  object_inherits {c} e (handed_on {d = d} {ts = ts} row above r i r' h small) = absurd (object_has_none table wf c row (interface d ts) r e i)

  pub function_inherits : {c : ClassId} {v : Ty} → c ≡ FUNCTION → Inherits table c v → v ≡ object
  function_inherits {c} {v} e (supertype row r i) = function_has_object table wf c row v r e i
  function_inherits {c} e (handed_on {d = d} {ts = ts} row above r i r' h small) =
      let is : interface d ts ≡ object = function_has_object table wf c row (interface d ts) r e i in
      let root : d ≡ OBJECT = cc in
      object_inherits root h
