-- Types without `Invalid`: their parts, types put in for variables, and normal forms.
use Rattle.std.proofs.Common.{◌≡◌, ℕ, Bool, true, false, List, [], ◌∷◌, Some, cond, sym, subst}
use Rattle.std.specs.Prelude.{Contains, All, find, unwrap_or}
use Rattle.std.proofs.lemmas.List.Elements.{All-contains}
use Rattle.dart_types.specs.Ty.{Ty, Types, Named, invalid, never, void, null, interface, function, variable, promoted, nullable, no_more, more, no_named, more_named}
use Rattle.dart_types.specs.Normal.{nullable_of, normal, normal_all, normal_named}
use Rattle.dart_types.specs.Same.{same_class, same_var}
use Rattle.dart_types.specs.Substitution.{put, put_all, put_named, argument_of, by_params}
use Rattle.dart_types.specs.Sub.{HasNamed, first, later}
use Rattle.dart_types.specs.Superinterfaces.{Inherits, supertype, handed_on}
use Rattle.dart_types.specs.Tables.{Table, class_of, bound_of}
use Rattle.dart_types.specs.declared.ids.ClassId.{ClassId}
use Rattle.dart_types.specs.declared.ids.VarId.{VarId}
use Rattle.dart_types.specs.declared.class_rows.ClassRow.{ClassRow}
use Rattle.dart_types.specs.declared.class_rows.VarRow.{VarRow}
use Rattle.type_bounds.specs.Bounds.{bare_of}
use Rattle.type_bounds.specs.Common.{IsAbove}
use Rattle.type_bounds.specs.Valid.{IsValid, AreValid, AreValidNamed, HasValidRows}
use Rattle.type_bounds.proofs.General.{found_in, from_mapped}

pub valid_bare : (t : Ty) → IsValid t → IsValid (bare_of t)
valid_bare invalid v = v
valid_bare never v = v
valid_bare void v = v
valid_bare null v = v
valid_bare (interface c ts) v = v
valid_bare (function r o n e) v = v
valid_bare (variable x) v = v
valid_bare (promoted x t) v = v
valid_bare (nullable t) v = v

pub valid_marked : (t : Ty) → IsValid t → IsValid (nullable_of t)
valid_marked invalid v = v
valid_marked never v = v
valid_marked void v = v
valid_marked null v = v
valid_marked (interface c ts) v = v
valid_marked (function r o n e) v = v
valid_marked (variable x) v = v
valid_marked (promoted x t) v = v
valid_marked (nullable t) v = v

-- a type that has no `Invalid` after a `?` is put on it had none before
pub valid_unmarked : (t : Ty) → IsValid (nullable_of t) → IsValid t
valid_unmarked invalid v = v
valid_unmarked never v = v
valid_unmarked void v = v
valid_unmarked null v = v
valid_unmarked (interface c ts) v = v
valid_unmarked (function r o n e) v = v
valid_unmarked (variable x) v = v
valid_unmarked (promoted x t) v = v
valid_unmarked (nullable t) v = v

pub valid_named : {ns : Named} {m : List ℕ} {t : Ty} → AreValidNamed ns → HasNamed ns m t → IsValid t
valid_named v first = v.0
valid_named v (later h) = valid_named v.1 h

mutual
  valid_normal : (t : Ty) → IsValid t → IsValid (normal t)
  valid_normal invalid v = v
  valid_normal never v = v
  valid_normal void v = v
  valid_normal null v = v
  valid_normal (interface c ts) v = valid_normal_all ts v
  valid_normal (function r o n e) v = (valid_normal_all r v.0, valid_normal_all o v.1, valid_normal_named n v.2, valid_normal e v.3)
  valid_normal (variable x) v = v
  valid_normal (promoted x t) v = valid_normal t v
  valid_normal (nullable t) v = valid_marked (normal t) (valid_normal t v)

  valid_normal_all : (ts : Types) → AreValid ts → AreValid (normal_all ts)
  valid_normal_all no_more v = v
  valid_normal_all (more t ts) v = (valid_normal t v.0, valid_normal_all ts v.1)

  valid_normal_named : (ns : Named) → AreValidNamed ns → AreValidNamed (normal_named ns)
  valid_normal_named no_named v = v
  valid_normal_named (more_named n r t ts) v = (valid_normal t v.0, valid_normal_named ts v.1)

-- a parameter stands for an argument, and each other variable for itself
valid_argument : (ps : List VarId) (ss : Types) (x : VarId) → AreValid ss → IsValid (by_params ps ss x)
valid_argument [] ss x f = tt
valid_argument (p ∷ ps) no_more x f = tt
valid_argument (p ∷ ps) (more s ss) x f = at (same_var p x) (valid_argument ps ss x f.1)
  where
    at : (b : Bool) → IsValid (by_params ps ss x) → IsValid (unwrap_or (cond b (Some s) (argument_of ps ss x)) (variable x))
    at true v = f.0
    at false v = v

module _ (ps : List VarId) (ss : Types) (f : AreValid ss) where
  mutual
    valid_put : (t : Ty) → IsValid t → IsValid (put (by_params ps ss) t)
    valid_put invalid v = v
    valid_put never v = v
    valid_put void v = v
    valid_put null v = v
    valid_put (interface c ts) v = valid_put_all ts v
    valid_put (function r o n e) v = (valid_put_all r v.0, valid_put_all o v.1, valid_put_named n v.2, valid_put e v.3)
    valid_put (variable x) v = valid_argument ps ss x f
    valid_put (promoted x t) v = valid_put t v
    valid_put (nullable t) v = valid_put t v

    valid_put_all : (ts : Types) → AreValid ts → AreValid (put_all (by_params ps ss) ts)
    valid_put_all no_more v = v
    valid_put_all (more t ts) v = (valid_put t v.0, valid_put_all ts v.1)

    valid_put_named : (ns : Named) → AreValidNamed ns → AreValidNamed (put_named (by_params ps ss) ns)
    valid_put_named no_named v = v
    valid_put_named (more_named n r t ts) v = (valid_put t v.0, valid_put_named ts v.1)

module _ (table : Table) (rows : HasValidRows table) where
  -- where rows hold no `Invalid`, a bound holds none
  pub valid_bound : (x : VarId) (b : Ty) → bound_of table x ≡ Some b → IsValid b
  valid_bound x b e =
      let m = from_mapped (λ (row : VarRow). row.bound) (find (λ (row : VarRow). same_var row.var x) table.vars) b e in
      let g = found_in (λ (row : VarRow). same_var row.var x) table.vars m.0 m.1 in
      subst IsValid m.2 (All-contains (λ (row : VarRow). IsValid row.bound) table.vars m.0 rows.bounds g.0)

  -- nor does a superinterface
  valid_direct : (c : ClassId) (row : ClassRow) (v : Ty) → class_of table c ≡ Some row → Contains row.supers v → IsValid v
  valid_direct c row v r i =
      let g = found_in (λ (k : ClassRow). same_class k.id c) table.classes row r in
      All-contains IsValid row.supers v (All-contains (λ (k : ClassRow). All IsValid k.supers) table.classes row rows.supertypes g.0) i

  valid_super : {c : ClassId} {v : Ty} → Inherits table c v → IsValid v
  valid_super {c = c} (supertype {v = v} row r i) = valid_direct c row v r i
  valid_super {c = c} (handed_on {d = d} {ts = ts} {v = v} row above r i r' h small) = valid_put above.params ts (valid_direct c row (interface d ts) r i) v (valid_super h)

  -- nor one with arguments put in that hold none
  pub valid_above : {c : ClassId} {ts : Types} {u : Ty} → AreValid ts → IsAbove table c ts u → IsValid u
  valid_above {ts = ts} f a = subst IsValid (sym a.is) (valid_normal (put (by_params a.row.params ts) a.over) (valid_put a.row.params ts f a.over (valid_super a.superinterface.0)))
