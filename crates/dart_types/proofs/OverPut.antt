-- Types over rows stay over them where types over rows are put in for their variables.
use Rattle.std.proofs.Common.{◌≡◌, Bool, true, false, List, [], ◌∷◌, Option, Some, None, cond, ◌∙◌}
use Rattle.std.specs.Prelude.{unwrap_or}
use Rattle.dart_types.specs.Ty.{Ty, Types, Named, invalid, never, void, null, interface, function, variable, promoted, nullable, no_more, more, no_named, more_named, count}
use Rattle.dart_types.specs.Same.{same_var}
use Rattle.dart_types.specs.Substitution.{put, put_all, put_named, argument_of, by_params}
use Rattle.dart_types.specs.Tables.{Table, class_of}
use Rattle.dart_types.specs.WellFormed.{HasArguments, IsOver, AreOver, AreOverNamed}
use Rattle.dart_types.specs.declared.ids.VarId.{VarId}
use Rattle.dart_types.specs.declared.class_rows.ClassRow.{ClassRow}
use Rattle.dart_types.proofs.Substitutes.{count-put_all}

-- a class that has as many parameters as one list has arguments has as many as another that is as long
pub same_arguments : (o : Option ClassRow) (ss ts : Types) → count ss ≡ count ts → HasArguments o ts → HasArguments o ss
same_arguments None ss ts e h = h
same_arguments (Some row) ss ts e h = e ∙ h

module _ (table : Table) where
  -- a parameter stands for an argument, and each other variable for itself
  over_argument : (ps : List VarId) (ss : Types) (x : VarId) → AreOver table ss → IsOver table (variable x) → IsOver table (by_params ps ss x)
  over_argument [] ss x f o = o
  over_argument (p ∷ ps) no_more x f o = o
  over_argument (p ∷ ps) (more s ss) x f o = at (same_var p x) (over_argument ps ss x f.1 o)
    where
      at : (b : Bool) → IsOver table (by_params ps ss x) → IsOver table (unwrap_or (cond b (Some s) (argument_of ps ss x)) (variable x))
      at true o = f.0
      at false o = o

  module _ (ps : List VarId) (ss : Types) (f : AreOver table ss) where
    mutual
      pub over_put : (t : Ty) → IsOver table t → IsOver table (put (by_params ps ss) t)
      over_put invalid o = o
      over_put never o = o
      over_put void o = o
      over_put null o = o
      over_put (interface c ts) o = (same_arguments (class_of table c) (put_all (by_params ps ss) ts) ts (count-put_all (by_params ps ss) ts) o.0, over_put_all ts o.1)
      over_put (function r p n e) o = (over_put_all r o.0, over_put_all p o.1, over_put_named n o.2, over_put e o.3)
      over_put (variable x) o = over_argument ps ss x f o
      over_put (promoted x t) o = (o.0, over_put t o.1)
      over_put (nullable t) o = over_put t o

      over_put_all : (ts : Types) → AreOver table ts → AreOver table (put_all (by_params ps ss) ts)
      over_put_all no_more o = o
      over_put_all (more t ts) o = (over_put t o.0, over_put_all ts o.1)

      over_put_named : (ns : Named) → AreOverNamed table ns → AreOverNamed table (put_named (by_params ps ss) ns)
      over_put_named no_named o = o
      over_put_named (more_named n r t ts) o = (over_put t o.0, over_put_named ts o.1)
