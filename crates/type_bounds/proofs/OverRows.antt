-- Types that are over rows: their parts, types put in for variables, and normal forms.
use Rattle.std.proofs.Common.{◌≡◌, ℕ, Bool, true, false, List, [], ◌∷◌, Option, Some, None, cond, refl, sym, ◌∙◌, subst, arith}
use Rattle.std.specs.Prelude.{Contains, unwrap_or}
use Rattle.dart_types.specs.Ty.{Ty, Types, Named, invalid, never, void, null, interface, function, variable, promoted, nullable, no_more, more, no_named, more_named, count}
use Rattle.dart_types.specs.Heads.{object}
use Rattle.dart_types.specs.Normal.{nullable_of, normal, normal_all, normal_named}
use Rattle.dart_types.specs.Same.{same_var}
use Rattle.dart_types.specs.Substitution.{put, put_all, put_named, argument_of, by_params}
use Rattle.dart_types.specs.Sub.{HasNamed, first, later}
use Rattle.dart_types.specs.Superinterfaces.{IsSuperinterface, direct, further}
use Rattle.dart_types.specs.Tables.{Table, class_of}
use Rattle.dart_types.specs.WellFormed.{HasArguments, IsOver, AreOver, AreOverNamed}
use Rattle.dart_types.specs.declared.ids.ClassId.{ClassId}
use Rattle.dart_types.specs.declared.ids.VarId.{VarId}
use Rattle.dart_types.specs.declared.ids.TheConstants.{FUNCTION}
use Rattle.dart_types.specs.declared.class_rows.ClassRow.{ClassRow}
use Rattle.dart_types.specs.Laws.{RowLaws}
use Rattle.type_bounds.specs.Bounds.{bare_of}
use Rattle.type_bounds.specs.Common.{IsAbove}
use Rattle.type_bounds.proofs.General.{count-normal_all, count-put_all}

-- a class that has as many parameters as one list has arguments has as many as another that is as long
pub same_arguments : (o : Option ClassRow) (ss ts : Types) → count ss ≡ count ts → HasArguments o ts → HasArguments o ss
same_arguments None ss ts e h = h
same_arguments (Some row) ss ts e h = e ∙ h

module _ (table : Table) where
  pub over_bare : (t : Ty) → IsOver table t → IsOver table (bare_of t)
  over_bare invalid o = o
  over_bare never o = o
  over_bare void o = o
  over_bare null o = o
  over_bare (interface c ts) o = o
  over_bare (function r p n e) o = o
  over_bare (variable x) o = o
  over_bare (promoted x t) o = o
  over_bare (nullable t) o = o

  pub over_marked : (t : Ty) → IsOver table t → IsOver table (nullable_of t)
  over_marked invalid o = o
  over_marked never o = o
  over_marked void o = o
  over_marked null o = o
  over_marked (interface c ts) o = o
  over_marked (function r p n e) o = o
  over_marked (variable x) o = o
  over_marked (promoted x t) o = o
  over_marked (nullable t) o = o

  pub over_named : {ns : Named} {m : List ℕ} {t : Ty} → AreOverNamed table ns → HasNamed ns m t → IsOver table t
  over_named o first = o.0
  over_named o (later h) = over_named o.1 h

  mutual
    pub over_normal : (t : Ty) → IsOver table t → IsOver table (normal t)
    over_normal invalid o = o
    over_normal never o = o
    over_normal void o = o
    over_normal null o = o
    over_normal (interface c ts) o = (same_arguments (class_of table c) (normal_all ts) ts (count-normal_all ts) o.0, over_normal_all ts o.1)
    over_normal (function r p n e) o = (over_normal_all r o.0, over_normal_all p o.1, over_normal_named n o.2, over_normal e o.3)
    over_normal (variable x) o = o
    over_normal (promoted x t) o = (o.0, over_normal t o.1)
    over_normal (nullable t) o = over_marked (normal t) (over_normal t o)

    over_normal_all : (ts : Types) → AreOver table ts → AreOver table (normal_all ts)
    over_normal_all no_more o = o
    over_normal_all (more t ts) o = (over_normal t o.0, over_normal_all ts o.1)

    over_normal_named : (ns : Named) → AreOverNamed table ns → AreOverNamed table (normal_named ns)
    over_normal_named no_named o = o
    over_normal_named (more_named n r t ts) o = (over_normal t o.0, over_normal_named ts o.1)

  -- a parameter stands for an argument, and each other variable for itself
  over_argument : (ps : List VarId) (ss : Types) (x : VarId) → AreOver table ss → IsOver table (variable x) → IsOver table (by_params ps ss x)
  over_argument [] ss x f o = o
  over_argument (p ∷ ps) no_more x f o = o
  over_argument (p ∷ ps) (more s ss) x f o = at (same_var p x) (over_argument ps ss x f.1 o)
    where
      at : (b : Bool) → IsOver table (by_params ps ss x) → IsOver table (unwrap_or (cond b (Some s) (argument_of ps ss x)) (variable x))
      at true o = f.0
      at false o = o

  module _ (σ : VarId → Ty) (f : (x : VarId) → IsOver table (variable x) → IsOver table (σ x)) where
    mutual
      pub over_put : (t : Ty) → IsOver table t → IsOver table (put σ t)
      over_put invalid o = o
      over_put never o = o
      over_put void o = o
      over_put null o = o
      over_put (interface c ts) o = (same_arguments (class_of table c) (put_all σ ts) ts (count-put_all σ ts) o.0, over_put_all ts o.1)
      over_put (function r p n e) o = (over_put_all r o.0, over_put_all p o.1, over_put_named n o.2, over_put e o.3)
      over_put (variable x) o = f x o
      over_put (promoted x t) o = (o.0, over_put t o.1)
      over_put (nullable t) o = over_put t o

      over_put_all : (ts : Types) → AreOver table ts → AreOver table (put_all σ ts)
      over_put_all no_more o = o
      over_put_all (more t ts) o = (over_put t o.0, over_put_all ts o.1)

      over_put_named : (ns : Named) → AreOverNamed table ns → AreOverNamed table (put_named σ ns)
      over_put_named no_named o = o
      over_put_named (more_named n r t ts) o = (over_put t o.0, over_put_named ts o.1)

  module _ (laws : RowLaws table) where
    over_super : {c : ClassId} {v : Ty} → IsSuperinterface table c v → IsOver table v
    over_super {c = c} (direct {row = row} {v = v} r i) = (laws.formed_super c row v r i).1
    over_super (further {d = d} {ts = ts} {row = row} {v = v} h r i) = over_put (by_params row.params ts) (λ x o. over_argument row.params ts x (over_super h).1 o) v (laws.formed_super d row v r i).1

    -- a superinterface of a class with arguments that are over rows is over them
    pub over_above : {c : ClassId} {ts : Types} {u : Ty} → AreOver table ts → IsAbove table c ts u → IsOver table u
    over_above {c = c} {ts = ts} f a =
        let σ = by_params a.row.params ts in
        subst (IsOver table) (sym a.is) (over_normal (put σ a.over) (over_put σ (λ x o. over_argument a.row.params ts x f o) a.over (over_super (laws.inherited c a.over a.superinterface.0))))

    -- where rows have `Function` without parameters, they have `Object` so too
    pub object_over : IsOver table (interface FUNCTION no_more) → IsOver table object
    object_over o = at (class_of table FUNCTION) refl o.0
      where
        at : (o : Option ClassRow) → class_of table FUNCTION ≡ o → HasArguments o no_more → IsOver table object
        at None r h = absurd h
        at (Some row) r h =
            let one : row.supers ≡ object ∷ [] = (laws.formed_class FUNCTION row r).function_alone (laws.row_id FUNCTION row r) in
            let i : Contains row.supers object = subst (λ (vs : List Ty). Contains vs object) (sym one) (0, omega arith, refl) in
            (laws.formed_super FUNCTION row object r i).1
