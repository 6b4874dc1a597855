-- The measure of s <: t falls to the pairs of parts that the rules on arguments, parameters and results ask for.
use Rattle.std.proofs.Common.{◌≡◌, ℕ, ◌+◌, ◌*◌, ◌<◌, ◌≤◌, List, arith}
use Rattle.dart_types.specs.Ty.{Ty, Types, Named, interface, function, no_more, more, join}
use Rattle.dart_types.specs.Tables.{Table}
use Rattle.dart_types.specs.WellFormed.{IsWellFormed}
use Rattle.dart_types.specs.Measure.{VarMeasure, weight, weights, weights_named, deep, deeps, heavy, heavies, of_var, weight_of, deepness_of, heaviest_of, measure}
pub use Rattle.dart_types.specs.Parts.{HasType, at_first, at_later}
use Rattle.dart_types.specs.Sub.{HasNamed, first, later}
use Rattle.dart_types.specs.declared.ids.ClassId.{ClassId}
use Rattle.dart_types.proofs.MeasureFalls.{heaviest_weight, falls_both, falls_swapped}

-- a part measures no more than the whole
weight_in : (f : VarMeasure) {ts : Types} {t : Ty} → HasType ts t → weight f t ≤ weights f ts
weight_in f at_first = omega arith
weight_in f (at_later h) = omega (arith, weight_in f h)

deep_in : (f : VarMeasure) {ts : Types} {t : Ty} → HasType ts t → deep f t ≤ deeps f ts
deep_in f at_first = omega arith
deep_in f (at_later h) = omega (arith, deep_in f h)

heavy_in : (w f : VarMeasure) {ts : Types} {t : Ty} → HasType ts t → heavy w f t ≤ heavies w f ts
heavy_in w f at_first = omega arith
heavy_in w f (at_later h) = omega (arith, heavy_in w f h)

weight_named : (f : VarMeasure) {ns : Named} {m : List ℕ} {t : Ty} → HasNamed ns m t → weight f t ≤ weights_named f ns
weight_named f first = omega arith
weight_named f (later h) = omega (arith, weight_named f h)

weights-join : (f : VarMeasure) (ts us : Types) → weights f (join ts us) ≡ weights f ts + weights f us
weights-join f no_more us = omega arith
weights-join f (more t ts) us = omega (arith, weights-join f ts us)

module _ (table : Table) (wf : IsWellFormed table) where
  -- arguments of interfaces
  pub arguments_fall : (c d : ClassId) (ss ts : Types) {s t : Ty} → HasType ss s → HasType ts t → measure table s t < measure table (interface c ss) (interface d ts)
  unfolding heaviest_of weight_of deepness_of
  arguments_fall c d ss ts {s} {t} h k = falls_both table wf (interface c ss) s (interface d ts) t (omega (arith, heavier, lighter)) deeper
    where
      heavier : heaviest_of table s ≤ heaviest_of table (interface c ss)
      heavier = heavy_in (of_var weight table) (of_var (heavy (of_var weight table)) table) h

      lighter : weight_of table t + 1 ≤ weight_of table (interface d ts)
      lighter = omega (arith, weight_in (of_var weight table) k)

      deeper : deepness_of table s ≤ deepness_of table (interface c ss)
      deeper = omega (arith, deep_in (of_var deep table) h)

  -- a function type is its own heaviest
  function_heaviest : (r o : Types) (n : Named) (e : Ty) → heaviest_of table (function r o n e) ≡ weight_of table (function r o n e)
  unfolding heaviest_of weight_of
  function_heaviest r o n e = omega arith

  -- parts of two function types, which change sides
  swapped_fall : (r o r' o' : Types) (n n' : Named) (e e' s t : Ty) → 2 * weight_of table s + 1 ≤ weight_of table (function r o n e) → 2 * weight_of table t + 1 ≤ weight_of table (function r' o' n' e') → measure table t s < measure table (function r o n e) (function r' o' n' e')
  swapped_fall r o r' o' n n' e e' s t h k =
      falls_swapped table wf (function r o n e) t (function r' o' n' e') s (omega (arith, h, k, function_heaviest r o n e, heaviest_weight table wf t))

  param_weight : (r o : Types) (n : Named) (e : Ty) {s : Ty} → HasType (join r o) s → 2 * weight_of table s + 1 ≤ weight_of table (function r o n e)
  unfolding weight_of
  param_weight r o n e h = omega (arith, weight_in (of_var weight table) h, weights-join (of_var weight table) r o)

  name_weight : (r o : Types) (n : Named) (e : Ty) {m : List ℕ} {s : Ty} → HasNamed n m s → 2 * weight_of table s + 1 ≤ weight_of table (function r o n e)
  unfolding weight_of
  name_weight r o n e h = omega (arith, weight_named (of_var weight table) h)

  -- positional parameters of function types
  pub params_fall : (r o r' o' : Types) (n n' : Named) (e e' : Ty) {s t : Ty} → HasType (join r o) s → HasType (join r' o') t → measure table t s < measure table (function r o n e) (function r' o' n' e')
  params_fall r o r' o' n n' e e' {s} {t} h k = swapped_fall r o r' o' n n' e e' s t (param_weight r o n e h) (param_weight r' o' n' e' k)

  -- named parameters of function types
  pub names_fall : (r o r' o' : Types) (n n' : Named) (e e' : Ty) {l m : List ℕ} {s t : Ty} → HasNamed n l s → HasNamed n' m t → measure table t s < measure table (function r o n e) (function r' o' n' e')
  names_fall r o r' o' n n' e e' {s = s} {t = t} h k = swapped_fall r o r' o' n n' e e' s t (name_weight r o n e h) (name_weight r' o' n' e' k)

  -- results of function types
  pub results_fall : (r o r' o' : Types) (n n' : Named) (e e' : Ty) → measure table e e' < measure table (function r o n e) (function r' o' n' e')
  unfolding weight_of deepness_of
  results_fall r o r' o' n n' e e' = falls_both table wf (function r o n e) e (function r' o' n' e') e' (omega (arith, heaviest_weight table wf e, function_heaviest r o n e, lighter, right_lighter)) deeper
    where
      lighter : weight_of table e + 1 ≤ weight_of table (function r o n e)
      lighter = omega arith

      right_lighter : weight_of table e' + 1 ≤ weight_of table (function r' o' n' e')
      right_lighter = omega arith

      deeper : deepness_of table e ≤ deepness_of table (function r o n e)
      deeper = omega arith
