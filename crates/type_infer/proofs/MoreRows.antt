-- More rows change no answer of inference.
use Rattle.std.proofs.Common.{◌≡◌, ℕ, ◌+◌, Bool, true, false, List, [], ◌∷◌, ◌++◌, Option, Some, None, Result, Ok, Err, refl, sym, ◌∙◌, ap, subst, cond}
use Rattle.std.specs.Prelude.{◌≤◌, ◌<◌, ◌&&◌, All, IfSome, IsSome, bytes_eq, unwrap_or}
use Rattle.std.proofs.lemmas.List.Elements.{All-head, All-tail}
use Rattle.dart_types.specs.Ty.{Ty, Types, Named, invalid, never, void, null, interface, function, variable, promoted, nullable, no_more, more, no_named, more_named, count, join, types_of}
use Rattle.dart_types.specs.Heads.{object}
use Rattle.dart_types.specs.Named.{type_named}
use Rattle.dart_types.specs.Normal.{substituted}
use Rattle.dart_types.specs.Same.{same_var}
use Rattle.dart_types.specs.Sizes.{size_of, held}
use Rattle.dart_types.specs.Substitution.{put, by_pairs}
use Rattle.dart_types.specs.Sub.{Sub}
use Rattle.dart_types.specs.Tables.{Table, class_of, bound_of}
use Rattle.dart_types.specs.WellFormed.{HasArguments, IsOver, AreOver, AreOverNamed}
use Rattle.dart_types.specs.declared.class_rows.ClassRow.{ClassRow}
use Rattle.dart_types.specs.declared.ids.ClassId.{ClassId}
use Rattle.dart_types.specs.declared.ids.TheConstants.{FUNCTION}
use Rattle.dart_types.specs.declared.ids.VarId.{VarId}
use Rattle.dart_types.specs.declared.refusal.TheConstants.{NODE_LIMIT}
use Rattle.type_bounds.specs.Bounds.{Upper, Lower}
use Rattle.type_bounds.specs.Laws.{BoundLaws, MoreBounds}
use Rattle.type_infer.specs.Above.{IsOnlyAbove}
use Rattle.type_infer.specs.Constraints.{types_on, same_side, opposite}
use Rattle.type_infer.specs.Contexts.{Known, none_left, one_solved, one_open, large_here, large_behind_solved, large_behind_open, ContextOf, formed, large_context, large_solution, large_match}
use Rattle.type_infer.specs.Inference as by
use Rattle.type_infer.specs.Inference.{Gathered, declared_bound, bound_with, context_pair, pairs_of, Argument, Arguments, all_given, one_given, refused_later, refused_here, Inferred}
use Rattle.type_infer.specs.InferenceOf.{inferred_of, context_of_argument}
use Rattle.type_infer.specs.Matching.{End, ended, is_on_side, Match, fixed, faced, Face, MatchAll, constrained, open_there, null_at_mark, marked_both, marked_formal, marked_subtype, marked_other, bound_of_other, unbound_other, promoted_other, one_class, other_climbs, formal_climbs, other_too_large, formal_too_large, other_elsewhere, formal_elsewhere, functions, other_signature, leaf, all_matched, open_part, part_matched, part_ended}
use Rattle.type_infer.specs.Pairs.{Pair, pair, paired, paired_with, paired_by_name, parts_of}
use Rattle.type_infer.specs.Promotions.{unpromoted, unpromoted_all, unpromoted_named}
use Rattle.type_infer.specs.Solutions.{Folded, no_other, one_other, over_limit, Solution, by_upper, by_lower}
use Rattle.type_infer.specs.declared.constraints.Constraint.{Constraint}
use Rattle.type_infer.specs.declared.constraints.Side.{Side}
use Rattle.type_infer.specs.declared.constraints.Side.TheVariants.{AtLeast, AtMost}
use Rattle.type_infer.specs.declared.refusal.InferRefusal.{InferRefusal}
use Rattle.type_infer.specs.declared.refusal.InferRefusal.TheVariants.{TooLarge}
use Rattle.type_infer.proofs.Answered.{inferred_call, inferred_only, context_call, context_only}

-- a class has as many arguments as before
count_unpromoted : (ts : Types) → count (unpromoted_all ts) ≡ count ts
count_unpromoted no_more = refl
count_unpromoted (more t ts) = ap (λ k. k + 1) (count_unpromoted ts)

same_arguments : (o : Option ClassRow) (ss ts : Types) → count ss ≡ count ts → HasArguments o ts → HasArguments o ss
same_arguments None ss ts e h = h
same_arguments (Some row) ss ts e h = e ∙ h

module _ (table : Table) where
  -- the types of pairs, of constraints and of lists are over the rows
  abbrev pub ArePairsOver : List Pair → Type 0
  ArePairsOver [] = Unit {0}
  ArePairsOver (p ∷ ps) = (IsOver table p.formal × IsOver table p.other) × ArePairsOver ps

  abbrev pub AreConstraintsOver : List Constraint → Type 0
  AreConstraintsOver [] = Unit {0}
  AreConstraintsOver (c ∷ cs) = IsOver table c.ty × AreConstraintsOver cs

  abbrev pub AreListOver : List Ty → Type 0
  AreListOver [] = Unit {0}
  AreListOver (t ∷ ts) = IsOver table t × AreListOver ts

  abbrev pub AreGivenOver : List (VarId × Ty) → Type 0
  AreGivenOver [] = Unit {0}
  AreGivenOver (p ∷ ps) = IsOver table p.1 × AreGivenOver ps

  abbrev HaveRows : List VarId → Type 0
  HaveRows [] = Unit {0}
  HaveRows (x ∷ xs) = IsSome (bound_of table x) × HaveRows xs

  abbrev IsTypeOver : Result Ty ℕ → Type 0
  IsTypeOver (Ok t) = IsOver table t
  IsTypeOver (Err nodes) = Unit {0}

  abbrev AreSetOver : Result (List Constraint) ℕ → Type 0
  AreSetOver (Ok cs) = AreConstraintsOver cs
  AreSetOver (Err nodes) = Unit {0}

  abbrev IsArgumentOver : Result Ty InferRefusal → Type 0
  IsArgumentOver (Ok t) = IsOver table t
  IsArgumentOver (Err why) = Unit {0}

  abbrev IsOptionOver : Option Ty → Type 0
  IsOptionOver None = Unit {0}
  IsOptionOver (Some t) = IsOver table t

  pairs_join : (ps qs : List Pair) → ArePairsOver ps → ArePairsOver qs → ArePairsOver (ps ++ qs)
  pairs_join [] qs o p = p
  pairs_join (x ∷ ps) qs o p = (o.0, pairs_join ps qs o.1 p)

  constraints_join : (cs ds : List Constraint) → AreConstraintsOver cs → AreConstraintsOver ds → AreConstraintsOver (cs ++ ds)
  constraints_join [] ds o p = p
  constraints_join (c ∷ cs) ds o p = (o.0, constraints_join cs ds o.1 p)

  given_join : (ps : List (VarId × Ty)) (x : VarId) (t : Ty) → AreGivenOver ps → IsOver table t → AreGivenOver (ps ++ (x, t) ∷ [])
  given_join [] x t o p = (p, tt)
  given_join (q ∷ ps) x t o p = (o.0, given_join ps x t o.1 p)

  over_join : (ss ts : Types) → AreOver table ss → AreOver table ts → AreOver table (join ss ts)
  over_join no_more ts o p = p
  over_join (more s ss) ts o p = (o.0, over_join ss ts o.1 p)

  types_over : (ts : List Ty) → AreListOver ts → AreOver table (types_of ts)
  types_over [] o = tt
  types_over (t ∷ ts) o = (o.0, types_over ts o.1)

  paired_over : (side : Side) (ts ss : Types) → AreOver table ts → AreOver table ss → ArePairsOver (paired side ts ss)
  paired_over side no_more ss o p = tt
  paired_over side (more t ts) no_more o p = tt
  paired_over side (more t ts) (more s ss) o p = ((o.0, p.0), paired_over side ts ss o.1 p.1)

  named_over : (ms : Named) (n : List ℕ) → AreOverNamed table ms → IsOptionOver (type_named ms n)
  named_over no_named n o = tt
  named_over (more_named m r t ms) n o = at (bytes_eq m n) (named_over ms n o.1)
    where
      at : (b : Bool) → IsOptionOver (type_named ms n) → IsOptionOver (cond b (Some t) (type_named ms n))
      at true rest = o.0
      at false rest = rest

  with_over : (side : Side) (t : Ty) (s : Option Ty) → IsOver table t → IsOptionOver s → ArePairsOver (paired_with side t s)
  with_over side t None o p = tt
  with_over side t (Some s) o p = ((o, p), tt)

  by_name_over : (side : Side) (ns ms : Named) → AreOverNamed table ns → AreOverNamed table ms → ArePairsOver (paired_by_name side ns ms)
  by_name_over side no_named ms o p = tt
  by_name_over side (more_named n r t ns) ms o p =
      pairs_join (paired_with side t (type_named ms n)) (paired_by_name side ns ms) (with_over side t (type_named ms n) o.0 (named_over ms n p)) (by_name_over side ns ms o.1 p)

  parts_over : (side : Side) (r o : Types) (n : Named) (e : Ty) (r' o' : Types) (n' : Named) (e' : Ty) → IsOver table (function r o n e) → IsOver table (function r' o' n' e') → ArePairsOver (parts_of side r o n e r' o' n' e')
  parts_over side r o n e r' o' n' e' f g =
      pairs_join (paired (opposite side) (join r o) (join r' o')) (paired_by_name (opposite side) n n' ++ pair side e e' ∷ [])
      (paired_over (opposite side) (join r o) (join r' o') (over_join r o f.0 f.1) (over_join r' o' g.0 g.1))
      (pairs_join (paired_by_name (opposite side) n n') (pair side e e' ∷ []) (by_name_over (opposite side) n n' f.2 g.2) ((f.3, g.3), tt))

  on_side_over : (side : Side) (x : VarId) (cs : List Constraint) → AreConstraintsOver cs → AreListOver (types_on side x cs)
  on_side_over side x [] o = tt
  on_side_over side x (c ∷ cs) o = at (same_side c.side side && same_var c.param x) (on_side_over side x cs o.1)
    where
      at : (b : Bool) → AreListOver (types_on side x cs) → AreListOver (cond b (c.ty ∷ types_on side x cs) (types_on side x cs))
      at true rest = (o.0, rest)
      at false rest = rest

  -- so are types without promotions, in normal form, and with types put in
  mutual
    over_unpromoted : (t : Ty) → IsOver table t → IsOver table (unpromoted t)
    over_unpromoted invalid o = o
    over_unpromoted never o = o
    over_unpromoted void o = o
    over_unpromoted null o = o
    over_unpromoted (interface c ts) o = (same_arguments (class_of table c) (unpromoted_all ts) ts (count_unpromoted ts) o.0, over_unpromoted_all ts o.1)
    over_unpromoted (function r p n e) o = (over_unpromoted_all r o.0, over_unpromoted_all p o.1, over_unpromoted_named n o.2, over_unpromoted e o.3)
    over_unpromoted (variable x) o = o
    over_unpromoted (promoted x t) o = o.0
    over_unpromoted (nullable t) o = over_unpromoted t o

    over_unpromoted_all : (ts : Types) → AreOver table ts → AreOver table (unpromoted_all ts)
    over_unpromoted_all no_more o = o
    over_unpromoted_all (more t ts) o = (over_unpromoted t o.0, over_unpromoted_all ts o.1)

    over_unpromoted_named : (ns : Named) → AreOverNamed table ns → AreOverNamed table (unpromoted_named ns)
    over_unpromoted_named no_named o = o
    over_unpromoted_named (more_named n r t ts) o = (over_unpromoted t o.0, over_unpromoted_named ts o.1)

  given_over : (ps : List (VarId × Ty)) (x : VarId) → AreGivenOver ps → IsSome (bound_of table x) → IsOver table (by_pairs ps x)
  given_over [] x g o = o
  given_over (p ∷ ps) x g o = at (same_var p.0 x) (given_over ps x g.1 o)
    where
      at : (b : Bool) → IsOver table (by_pairs ps x) → IsOver table (cond b p.1 (by_pairs ps x))
      at true rest = g.0
      at false rest = rest

module _ (small large : Table) (wider : MoreBounds small large) (laws : BoundLaws small) (large_laws : BoundLaws large) where
  -- the test on a side gives the same
  same_on_side : (side : Side) (t s : Ty) → IsOver small t → IsOver small s → is_on_side small side t s ≡ is_on_side large side t s
  same_on_side AtLeast t s o p = wider.same_sub s t p o
  same_on_side AtMost t s o p = wider.same_sub t s o p

  -- the only superinterface of a class is the same
  only_large : {c d : ClassId} {ts us : Types} → IsOver small (interface c ts) → IsOnlyAbove small c ts d us → IsOnlyAbove large c ts d us
  only_large {c} {d} {ts} {us} o h = record {
    above = wider.above_large c ts (interface d us) h.above;
    only = λ vs a. h.only vs (wider.above_small c ts (interface d vs) o.0 a);
  }

  only_small : {c d : ClassId} {ts us : Types} → IsOver small (interface c ts) → IsOnlyAbove large c ts d us → IsOnlyAbove small c ts d us
  only_small {c} {d} {ts} {us} o h = record {
    above = wider.above_small c ts (interface d us) o.0 h.above;
    only = λ vs a. h.only vs (wider.above_large c ts (interface d vs) a);
  }

  only_over : {c d : ClassId} {ts us : Types} → IsOver small (interface c ts) → IsOnlyAbove small c ts d us → AreOver small us
  only_over {c} {d} {ts} {us} o h = (wider.above_over c ts (interface d us) o.1 h.above).1

  has_bound : {A : Type 0} (x : VarId) → IsSome (bound_of small x) → bound_of small x ≡ None → A
  has_bound x h e = at (bound_of small x) e h
    where
      at : {A : Type 0} (o : Option Ty) → o ≡ None → IsSome o → A
      at None e k = cc
      at (Some b) e k = cc

  module _ (params : List VarId) where
    abbrev Found : Side → Ty → Ty → List Constraint → End → Type 0
    Found side t s cs end = Match large params side t s cs end × AreConstraintsOver small cs

    abbrev Faced : Side → Ty → Ty → List Constraint → End → Type 0
    Faced side t s cs end = Face large params side t s cs end × AreConstraintsOver small cs

    mutual
      -- what a formal and another type set by the smaller rows they set by the larger ones
      match_large : {side : Side} {t s : Ty} {cs : List Constraint} {end : End} → Match small params side t s cs end → IsOver small t → IsOver small s → Found side t s cs end
      match_large (fixed {side = side} {t = t} {s = s} h) o p =
          (subst (λ (b : Bool). Match large params side t s [] (ended b)) (sym (same_on_side side t s o p)) (fixed h), tt)
      match_large (faced h f) o p = let k = face_large f o p in (faced h k.0, k.1)

      face_large : {side : Side} {t s : Ty} {cs : List Constraint} {end : End} → Face small params side t s cs end → IsOver small t → IsOver small s → Faced side t s cs end
      face_large (constrained e) o p = (constrained e, (p, tt))
      face_large (open_there e) o p = (open_there e, tt)
      face_large null_at_mark o p = (null_at_mark, tt)
      face_large (marked_both e f) o p = let k = face_large f o p in (marked_both e k.0, k.1)
      face_large (marked_formal d e f) o p = let k = face_large f o p in (marked_formal d e k.0, k.1)
      face_large (marked_subtype e f) o p = let k = face_large f o p in (marked_subtype e k.0, k.1)
      face_large (marked_other e f) o p = let k = face_large f o p in (marked_other e k.0, k.1)
      face_large (bound_of_other {y = y} {b = b} d e f) o p =
          let k = face_large f o (laws.rows.formed_bound y b e).1 in
          (bound_of_other d (wider.rows.bounds y b e) k.0, k.1)
      face_large (unbound_other {y = y} d e) o p = has_bound y p e
      face_large (promoted_other d f) o p = let k = face_large f o p.1 in (promoted_other d k.0, k.1)
      face_large (one_class {side = side} {ts = ts} {ss = ss} e m) o p = let k = all_large m (paired_over small side ts ss o.1 p.1) in (one_class e k.0, k.1)
      face_large (other_climbs {ts = ts} {us = us} e a l m) o p =
          let k = all_large m (paired_over small AtLeast ts us o.1 (only_over p a)) in
          (other_climbs e (only_large p a) l k.0, k.1)
      face_large (formal_climbs {ss = ss} {us = us} e a l m) o p =
          let k = all_large m (paired_over small AtMost us ss (only_over o a) p.1) in
          (formal_climbs e (only_large o a) l k.0, k.1)
      face_large (other_too_large e a l) o p = (other_too_large e (only_large p a) l, tt)
      face_large (formal_too_large e a l) o p = (formal_too_large e (only_large o a) l, tt)
      face_large (other_elsewhere {c = c} {d = d} {ts = ts} {ss = ss} e n) o p =
          (subst (λ (b : Bool). Face large params AtLeast (interface c ts) (interface d ss) [] (ended b)) (sym (same_on_side AtLeast (interface c ts) (interface d ss) o p)) (other_elsewhere e (λ us a. n us (only_small p a))), tt)
      face_large (formal_elsewhere {c = c} {d = d} {ts = ts} {ss = ss} e n) o p =
          (subst (λ (b : Bool). Face large params AtMost (interface c ts) (interface d ss) [] (ended b)) (sym (same_on_side AtMost (interface c ts) (interface d ss) o p)) (formal_elsewhere e (λ us a. n us (only_small o a))), tt)
      face_large (functions {side = side} {r = r} {o = q} {r' = r'} {o' = q'} {n = n} {n' = n'} {e = e} {e' = e'} h m) o p =
          let k = all_large m (parts_over small side r q n e r' q' n' e' o p) in
          (functions h k.0, k.1)
      face_large (other_signature h) o p = (other_signature h, tt)
      face_large (leaf {side = side} {t = t} {s = s} h) o p =
          (subst (λ (b : Bool). Face large params side t s [] (ended b)) (sym (same_on_side side t s o p)) (leaf h), tt)

      all_large : {ps : List Pair} {cs : List Constraint} {end : End} → MatchAll small params ps cs end → ArePairsOver small ps → MatchAll large params ps cs end × AreConstraintsOver small cs
      all_large all_matched o = (all_matched, tt)
      all_large (open_part e m) o = let k = all_large m o.1 in (open_part e k.0, k.1)
      all_large (part_matched {cs = cs} {ds = ds} e m rest) o =
          let k = match_large m o.0.0 o.0.1 in
          let l = all_large rest o.1 in
          (part_matched e k.0 l.0, constraints_join small cs ds k.1 l.1)
      all_large (part_ended e n m) o = let k = match_large m o.0.0 o.0.1 in (part_ended e n k.0, k.1)

    gathered_large : {ps : List Pair} {a : Result (List Constraint) ℕ} → Gathered small params ps a → ArePairsOver small ps → Gathered large params ps a × AreSetOver small a
    gathered_large by.none_left o = (by.none_left, tt)
    gathered_large (by.one_pair {cs = cs} {ds = ds} m w rest) o =
        let k = match_large m o.0.0 o.0.1 in
        let l = gathered_large rest o.1 in
        (by.one_pair k.0 w l.0, constraints_join small cs ds k.1 l.1)
    gathered_large (by.large_later m w rest) o = let k = match_large m o.0.0 o.0.1 in let l = gathered_large rest o.1 in (by.large_later k.0 w l.0, tt)
    gathered_large (by.large_here m) o = let k = match_large m o.0.0 o.0.1 in (by.large_here k.0, tt)

  -- the bound of a list is the same, where that of two types is
  module _ (bound other : Ty → Ty → Ty → Type 0) (step : (s t u : Ty) → IsOver small s → IsOver small t → bound s t u → other s t u × IsOver small u) where
    fold_large : {t : Ty} {ss : List Ty} {a : Result Ty ℕ} → Folded bound t ss a → IsOver small t → AreListOver small ss → Folded other t ss a × IsTypeOver small a
    fold_large (no_other l) o p = (no_other l, o)
    fold_large (one_other {t = t} {s = s} {u = u} l b f) o p =
        let k = step t s u o p.0 b in
        let rest = fold_large f k.1 p.1 in
        (one_other l k.0 rest.0, rest.1)
    fold_large (over_limit l) o p = (over_limit l, tt)

  module _ (f : IsOver small (interface FUNCTION no_more)) (cs : List Constraint) (c : AreConstraintsOver small cs) where
    solution_large : {x : VarId} {a : Result Ty ℕ} → Solution small cs x a → Solution large cs x a × IsTypeOver small a
    solution_large {x} (by_upper {t = t} {ts = ts} e h) =
        let o : AreListOver small (t ∷ ts) = subst (AreListOver small) e (on_side_over small AtLeast x cs c) in
        let k = fold_large (Upper small) (Upper large) (λ s u v p q a. (wider.upper_large s u v p q a, wider.upper_over f s u v p q a)) h o.0 o.1 in
        (by_upper e k.0, k.1)
    solution_large {x} (by_lower {t = t} {ts = ts} n e h) =
        let o : AreListOver small (t ∷ ts) = subst (AreListOver small) e (on_side_over small AtMost x cs c) in
        let k = fold_large (Lower small) (Lower large) (λ s u v p q a. (wider.lower_large s u v p q a, wider.lower_over f s u v p q a)) h o.0 o.1 in
        (by_lower n e k.0, k.1)

    -- the bound of a parameter that has a row
    module _ (before : List (VarId × Ty)) (g : AreGivenOver small before) (x : VarId) (h : IsSome (bound_of small x)) where
      bound_found : (b : Ty) × (bound_of small x ≡ Some b)
      bound_found = at (bound_of small x) refl h
        where
          at : (o : Option Ty) → bound_of small x ≡ o → IsSome o → (b : Ty) × (bound_of small x ≡ Some b)
          at None e k = cc
          at (Some b) e k = (b, e)

      same_declared : declared_bound small x ≡ declared_bound large x
      same_declared =
          let b = bound_found in
          ap (λ (o : Option Ty). unwrap_or o (nullable object)) (b.1 ∙ sym (wider.rows.bounds x b.0 b.1))

      same_bound : bound_with small before x ≡ bound_with large before x
      same_bound = ap (substituted before) same_declared

      declared_over : IsOver small (declared_bound small x)
      declared_over =
          let b = bound_found in
          subst (λ (o : Option Ty). IsOver small (unwrap_or o (nullable object))) (sym b.1) (laws.rows.formed_bound x b.0 b.1).1

      bound_over : IsOver small (bound_with small before x)
      bound_over =
          wider.normal_over (put (by_pairs before) (declared_bound small x))
          (wider.put_over (by_pairs before) (λ y o. given_over small before y g o) (declared_bound small x) declared_over)

      abbrev SameLimit : Ty → Type 0
      SameLimit b = size_of b ≤ NODE_LIMIT

      argument_large : {a : Result Ty InferRefusal} → Argument small cs before x a → Argument large cs before x a × IsArgumentOver small a
      argument_large (by.solved {t = t} s l a) =
          let k = solution_large s in
          let u = over_unpromoted small t k.1 in
          let b = wider.rows.sub_large (unpromoted t) (bound_with small before x) a in
          (by.solved k.0 (subst SameLimit same_bound l) (subst (Sub large (unpromoted t)) same_bound b), u)
      argument_large (by.outside {t = t} s l n) =
          let k = solution_large s in
          let u = over_unpromoted small t k.1 in
          (by.outside k.0 (subst SameLimit same_bound l) (λ a. n (wider.rows.sub_small (unpromoted t) (bound_with small before x) u bound_over (subst (Sub large (unpromoted t)) (sym same_bound) a))), tt)
      argument_large (by.by_bound e n l) =
          (subst (λ (b : Ty). Argument large cs before x (Ok b)) (sym same_bound) (by.by_bound e (λ q. n (same_declared ∙ q)) (subst SameLimit same_bound l)), bound_over)
      argument_large (by.no_bound e q) = (by.no_bound e (sym same_declared ∙ q), tt)
      argument_large (by.large_solution s) = (by.large_solution (solution_large s).0, tt)
      argument_large (by.large_beside s l) =
          (subst (λ (b : Ty). Argument large cs before x (Err (TooLarge (held (size_of b))))) (sym same_bound) (by.large_beside (solution_large s).0 (subst (λ (b : Ty). NODE_LIMIT < size_of b) same_bound l)), tt)
      argument_large (by.large_bound e n l) =
          (subst (λ (b : Ty). Argument large cs before x (Err (TooLarge (held (size_of b))))) (sym same_bound) (by.large_bound e (λ q. n (same_declared ∙ q)) (subst (λ (b : Ty). NODE_LIMIT < size_of b) same_bound l)), tt)

    arguments_large : {before : List (VarId × Ty)} {xs : List VarId} {a : Result (List Ty) InferRefusal} → Arguments small cs before xs a → AreGivenOver small before → HaveRows small xs → Arguments large cs before xs a
    arguments_large all_given g h = all_given
    arguments_large (one_given {before = before} {x = x} {t = t} a rest) g h =
        let k = argument_large before g x h.0 a in
        one_given k.0 (arguments_large rest (given_join small before x t g k.1) h.1)
    arguments_large (refused_later {before = before} {x = x} {t = t} a rest) g h =
        let k = argument_large before g x h.0 a in
        refused_later k.0 (arguments_large rest (given_join small before x t g k.1) h.1)
    arguments_large (refused_here {before = before} {x = x} a) g h = refused_here (argument_large before g x h.0 a).0

    known_large : {xs : List VarId} {a : Result (List (VarId × Ty)) ℕ} → Known small cs xs a → Known large cs xs a
    known_large none_left = none_left
    known_large (one_solved s k) = one_solved (solution_large s).0 (known_large k)
    known_large (one_open e k) = one_open e (known_large k)
    known_large (large_here s) = large_here (solution_large s).0
    known_large (large_behind_solved s k) = large_behind_solved (solution_large s).0 (known_large k)
    known_large (large_behind_open e k) = large_behind_open e (known_large k)

  module _ (f : IsOver small (interface FUNCTION no_more)) (params : List VarId) (rows : HaveRows small params) (pairs : List Pair) (o : ArePairsOver small pairs) where
    inferred_large : {a : Result (List Ty) InferRefusal} → Inferred small params pairs a → Inferred large params pairs a
    inferred_large (by.by_constraints {cs = cs} g r) = let k = gathered_large params g o in by.by_constraints k.0 (arguments_large f cs k.1 r tt rows)
    inferred_large (by.large_match g) = by.large_match (gathered_large params g o).0

    context_large : {formal : Ty} {a : Result Ty ℕ} → ContextOf small params pairs formal a → ContextOf large params pairs formal a
    context_large (formed {cs = cs} g k l) = let h = gathered_large params g o in formed h.0 (known_large f cs h.1 k) l
    context_large (large_context {cs = cs} g k l) = let h = gathered_large params g o in large_context h.0 (known_large f cs h.1 k) l
    context_large (large_solution {cs = cs} g k) = let h = gathered_large params g o in large_solution h.0 (known_large f cs h.1 k)
    context_large (large_match g) = large_match (gathered_large params g o).0

  list_over : (ts : List Ty) → All (IsOver small) ts → AreListOver small ts
  list_over [] o = tt
  list_over (t ∷ ts) o = (All-head (IsOver small) t ts o, list_over ts (All-tail (IsOver small) t ts o))

  have_rows : (xs : List VarId) → All (λ (x : VarId). IsOver small (variable x)) xs → HaveRows small xs
  have_rows [] h = tt
  have_rows (x ∷ xs) h = (All-head (λ (y : VarId). IsOver small (variable y)) x xs h, have_rows xs (All-tail (λ (y : VarId). IsOver small (variable y)) x xs h))

  module _ (returned : Ty) (context : Option Ty) (formals actuals : List Ty) (r : IsOver small returned) (k : IfSome context (IsOver small)) (fs : All (IsOver small) formals) (gs : All (IsOver small) actuals) where
    context_over : (c : Option Ty) → IfSome c (IsOver small) → ArePairsOver small (context_pair returned c)
    context_over None h = tt
    context_over (Some t) h = ((r, h), tt)

    call_over : ArePairsOver small (pairs_of returned context formals actuals)
    call_over =
        pairs_join small (context_pair returned context) (paired AtLeast (types_of formals) (types_of actuals)) (context_over context k)
        (paired_over small AtLeast (types_of formals) (types_of actuals) (types_over small formals (list_over formals fs)) (types_over small actuals (list_over actuals gs)))

    module _ (f : IsOver small (interface FUNCTION no_more)) (params : List VarId) (rows : All (λ (x : VarId). IsOver small (variable x)) params) where
      pub same_inferred : inferred_of small params returned context formals actuals ≡ inferred_of large params returned context formals actuals
      same_inferred =
          inferred_only large large_laws params returned context formals actuals (inferred_of small params returned context formals actuals)
          (inferred_large f params (have_rows params rows) (pairs_of returned context formals actuals) call_over (inferred_call small laws params returned context formals actuals))

      pub same_context : context_of_argument small params returned context formals actuals ≡ context_of_argument large params returned context formals actuals
      same_context =
          context_only large large_laws params returned context formals actuals (context_of_argument small params returned context formals actuals)
          (context_large f params (have_rows params rows) (pairs_of returned context formals actuals) call_over (context_call small laws params returned context formals actuals))
