-- Subtyping is transitive.
use Rattle.std.proofs.Common.{◌≡◌, ℕ, ◌+◌, ◌≤◌, Bool, true, false, List, [], ◌∷◌, length, refl, ◌∙◌, ap, subst, cond, arith, Some}
use Rattle.std.specs.Prelude.{unwrap_or}
use Rattle.dart_types.specs.Ty.{Ty, Types, Named, invalid, never, void, null, interface, function, variable, promoted, nullable, no_more, more, no_named, more_named, count, join}
use Rattle.dart_types.specs.Same.{same_var}
use Rattle.dart_types.specs.Substitution.{put, put_all, argument_of, by_params}
use Rattle.dart_types.specs.Tables.{Table, class_of}
use Rattle.dart_types.specs.Superinterfaces.{Keeps, LeavesNothingOut}
use Rattle.dart_types.specs.WellFormed.{IsSimple, AreSimple, IsWellFormed}
use Rattle.dart_types.specs.Sub.{Sub, Subs, SubParams, SubNamed, HasNamed, first, later, required_in, reflexivity, right_top, left_bottom, left_null, right_object, left_nullable, right_nullable, left_promoted_variable, left_promoted_type, right_promoted, left_variable_bound, interface_arguments, super_interface, function_class, function_types, left_top, none_left, one_left, no_param, one_param, no_name, one_name}
use Rattle.dart_types.specs.declared.ids.ClassId.{ClassId}
use Rattle.dart_types.specs.declared.ids.VarId.{VarId}
use Rattle.dart_types.specs.declared.class_rows.ClassRow.{ClassRow}
use Rattle.dart_types.proofs.Supers.{counted, superinterface_simple, superinterface_trans, inherited}
use Rattle.dart_types.proofs.Keeping.{super_kept}
use Rattle.dart_types.proofs.Substitutes.{put_all-by_params}
use Rattle.dart_types.proofs.NamedParams.{required_trans}
use Rattle.dart_types.proofs.Above.{nullable_bare, nullable_null, plain_then, above_top, above_function}

mutual
  -- t with some parts, at places where they are covariant, replaced by what is below them
  pub data Moves (table : Table) : Ty → Ty → Type 0 where
    keep : {s : Ty} → Moves table s s
    step : {s t : Ty} → Sub table s t → ((u : Ty) → Sub table t u → Sub table s u) → Moves table s t
    in_nullable : {s t : Ty} → Moves table s t → Moves table (nullable s) (nullable t)
    in_interface : {c : ClassId} {ss ts : Types} → MovesAll table ss ts → Moves table (interface c ss) (interface c ts)

  pub data MovesAll (table : Table) : Types → Types → Type 0 where
    no_moves : MovesAll table no_more no_more
    one_move : {s t : Ty} {ss ts : Types} → Moves table s t → MovesAll table ss ts → MovesAll table (more s ss) (more t ts)

module _ (table : Table) where
  abbrev pub Trans : Ty → Type 0
  Trans t = (s u : Ty) → Sub table s t → Sub table t u → Sub table s u

  abbrev pub TransAll : Types → Type 0
  TransAll no_more = Unit {0}
  TransAll (more t ts) = Trans t × TransAll ts

  abbrev pub TransNamed : Named → Type 0
  TransNamed no_named = Unit {0}
  TransNamed (more_named m r t ts) = Trans t × TransNamed ts

  -- what is known of a type's parts
  abbrev pub Parts : Ty → Type 0
  Parts invalid = Unit {0}
  Parts never = Unit {0}
  Parts void = Unit {0}
  Parts null = Unit {0}
  Parts (interface c ts) = TransAll ts
  Parts (function r o n e) = TransAll r × TransAll o × TransNamed n × Trans e
  Parts (variable x) = Unit {0}
  Parts (promoted x e) = Trans (variable x) × Trans e
  Parts (nullable e) = Trans e

  mutual
    moves_sub : {s t : Ty} → Moves table s t → Sub table s t
    moves_sub keep = reflexivity
    moves_sub (step a go) = a
    moves_sub (in_nullable m) = left_nullable (right_nullable (moves_sub m)) left_null
    moves_sub (in_interface ms) = interface_arguments (all_moves_sub ms)

    all_moves_sub : {ss ts : Types} → MovesAll table ss ts → Subs table ss ts
    all_moves_sub no_moves = none_left
    all_moves_sub (one_move m ms) = one_left (moves_sub m) (all_moves_sub ms)

  count_moves : {ss ts : Types} → MovesAll table ss ts → count ss ≡ count ts
  count_moves no_moves = refl
  count_moves (one_move m ms) = ap (λ k. k + 1) (count_moves ms)

  -- a parameter moves as its argument does
  arg_moves : (ps : List VarId) {ss ts : Types} (x : VarId) → MovesAll table ss ts → Moves table (by_params ps ss x) (by_params ps ts x)
  arg_moves [] x ms = keep
  arg_moves (p ∷ ps) x no_moves = keep
  arg_moves (p ∷ ps) {ss} {ts} x (one_move {s = s} {t = t} {ss = ss'} {ts = ts'} m ms) = at (same_var p x) (arg_moves ps x ms)
    where
      at : (b : Bool) → Moves table (by_params ps ss' x) (by_params ps ts' x) → Moves table (unwrap_or (cond b (Some s) (argument_of ps ss' x)) (variable x)) (unwrap_or (cond b (Some t) (argument_of ps ts' x)) (variable x))
      at true behind = m
      at false behind = behind

  -- so does a type over them
  mutual
    put_moves : (σ τ : VarId → Ty) → ((x : VarId) → Moves table (σ x) (τ x)) → (vars : List VarId) (v : Ty) → IsSimple vars v → Moves table (put σ v) (put τ v)
    put_moves σ τ ms vars invalid i = keep
    put_moves σ τ ms vars never i = keep
    put_moves σ τ ms vars void i = keep
    put_moves σ τ ms vars null i = keep
    put_moves σ τ ms vars (interface c es) i = in_interface (put_all_moves σ τ ms vars es i)
    put_moves σ τ ms vars (function r o n e) i = absurd i
    put_moves σ τ ms vars (variable x) i = ms x
    put_moves σ τ ms vars (promoted x e) i = absurd i
    put_moves σ τ ms vars (nullable e) i = in_nullable (put_moves σ τ ms vars e i)

    put_all_moves : (σ τ : VarId → Ty) → ((x : VarId) → Moves table (σ x) (τ x)) → (vars : List VarId) (vs : Types) → AreSimple vars vs → MovesAll table (put_all σ vs) (put_all τ vs)
    put_all_moves σ τ ms vars no_more i = no_moves
    put_all_moves σ τ ms vars (more v vs) i = one_move (put_moves σ τ ms vars v i.0) (put_all_moves σ τ ms vars vs i.1)

  steps : {ss ts : Types} → Subs table ss ts → TransAll ts → MovesAll table ss ts
  steps none_left all = no_moves
  steps (one_left {s = s} a rest) all = one_move (step a (λ u q. all.0 s u a q)) (steps rest all.1)

  all_trans : {ss ts us : Types} → Subs table ss ts → TransAll ts → Subs table ts us → Subs table ss us
  all_trans none_left all q = q
  all_trans (one_left a rest) all (one_left b others) = one_left (all.0 _ _ a b) (all_trans rest all.1 others)

  params_trans : {us ts ss : Types} → SubParams table us ts → TransAll ts → SubParams table ts ss → SubParams table us ss
  params_trans no_param all q = no_param
  params_trans (one_param a rest) all (one_param b others) = one_param (all.0 _ _ a b) (params_trans rest all.1 others)

  join_trans : (ts us : Types) → TransAll ts → TransAll us → TransAll (join ts us)
  join_trans no_more us a b = b
  join_trans (more t ts) us a b = (a.0, join_trans ts us a.1 b)

  module _ (wf : IsWellFormed table) where
    mutual
      pub moved : {s t u : Ty} → Moves table s t → Sub table t u → Sub table s u
      moved keep q = q
      moved (step a go) q = go _ q
      moved (in_nullable m) reflexivity = moves_sub (in_nullable m)
      moved (in_nullable m) (right_top e) = right_top e
      moved (in_nullable m) (right_object e p) = cc
      moved (in_nullable m) (left_nullable a b) = left_nullable (moved m a) b
      moved (in_nullable m) (right_nullable a) = right_nullable (moved (in_nullable m) a)
      moved (in_nullable m) (right_promoted a b) = right_promoted (moved (in_nullable m) a) (moved (in_nullable m) b)
      moved (in_interface ms) reflexivity = moves_sub (in_interface ms)
      moved (in_interface ms) (right_top e) = right_top e
      moved (in_interface ms) (right_object e p) = right_object e refl
      moved (in_interface ms) (right_nullable a) = right_nullable (moved (in_interface ms) a)
      moved (in_interface ms) (right_promoted a b) = right_promoted (moved (in_interface ms) a) (moved (in_interface ms) b)
      moved (in_interface ms) (interface_arguments b) = interface_arguments (all_moved ms b)
      moved (in_interface {c = c} {ss = ss} {ts = ts} ms) (super_interface {us = us} row r n k a) =
          super_interface row r (count_moves ms ∙ n) k
          (all_moved (put_all_moves (by_params row.params ss) (by_params row.params ts) (λ x. arg_moves row.params x ms) row.params us (superinterface_simple table wf (inherited table wf k.0) row r)) a)

      pub all_moved : {ss ts us : Types} → MovesAll table ss ts → Subs table ts us → Subs table ss us
      all_moved no_moves q = q
      all_moved (one_move m ms) (one_left b rest) = one_left (moved m b) (all_moved ms rest)

    after_promoted : {x : VarId} {s w u : Ty} → Sub table s (variable x) → Sub table s w → Trans (variable x) × Trans w → Sub table (promoted x w) u → Sub table s u
    after_promoted a b go reflexivity = right_promoted a b
    after_promoted a b go (right_top e) = right_top e
    after_promoted a b go (right_object e p) = cc
    after_promoted a b go (right_nullable q) = right_nullable (after_promoted a b go q)
    after_promoted a b go (left_promoted_variable q) = go.0 _ _ a q
    after_promoted a b go (left_promoted_type q) = go.1 _ _ b q
    after_promoted a b go (right_promoted q r) = right_promoted (after_promoted a b go q) (after_promoted a b go r)

    named_find : {ts ss : Named} {m : List ℕ} {t : Ty} → SubNamed table ts ss → TransNamed ts → HasNamed ts m t → (u : Ty) → Sub table u t → (s : Ty) × HasNamed ss m s × Sub table u s
    named_find no_name all h u q = elim h [ ]
    named_find (one_name s i a rest) all first u q = (s, i, all.0 u s q a)
    named_find (one_name s i a rest) all (later h) u q = named_find rest all.1 h u q

    named_trans : {us ts ss : Named} → SubNamed table us ts → TransNamed ts → SubNamed table ts ss → SubNamed table us ss
    named_trans no_name all p = no_name
    named_trans (one_name {t = u} t i b rest) all p =
        let at = named_find p all i u b in
        one_name at.0 at.1 at.2 (named_trans rest all p)

    after_function : {r o r' o' : Types} {n n' : Named} {e e' u : Ty} → count r ≤ count r' → SubParams table (join r' o') (join r o) → SubNamed table n' n → required_in n n' ≡ true → Sub table e e' → Parts (function r' o' n' e') → Sub table (function r' o' n' e') u → Sub table (function r o n e) u
    after_function le ps ns rs a all reflexivity = function_types le ps ns rs a
    after_function le ps ns rs a all (right_top k) = right_top k
    after_function le ps ns rs a all (right_object k p) = right_object k refl
    after_function le ps ns rs a all (right_nullable q) = right_nullable (after_function le ps ns rs a all q)
    after_function le ps ns rs a all (right_promoted q q') = right_promoted (after_function le ps ns rs a all q) (after_function le ps ns rs a all q')
    after_function le ps ns rs a all (function_class k) = function_class k
    after_function {r} {o} {r'} {o'} {n} {n'} le ps ns rs a all (function_types {n' = n''} le' ps' ns' rs' a') =
        function_types (omega arith) (params_trans ps' (join_trans r' o' all.0 all.1) ps) (named_trans ns' all.2 ns) (required_trans n n' n'' rs rs') (all.3 _ _ a a')

    pub subs_same : (ss : Types) → Subs table ss ss
    subs_same no_more = none_left
    subs_same (more s ss) = one_left reflexivity (subs_same ss)

    -- where nothing is left out
    module _ (nothing : LeavesNothingOut table) where
      -- what is above a superinterface with the arguments put in is above the class with these arguments
      climb_from : {c d : ClassId} {ss us vs : Types} {u : Ty} → (row : ClassRow) → class_of table c ≡ Some row → count ss ≡ length row.params → Keeps table c (interface d us) → vs ≡ put_all (by_params row.params ss) us → Sub table (interface d vs) u → Sub table (interface c ss) u
      climb_from {vs = vs} row r n k e reflexivity = super_interface row r n k (subst (λ (xs : Types). Subs table xs vs) e (subs_same vs))
      climb_from row r n k e (right_top t) = right_top t
      climb_from row r n k e (right_object t p) = right_object t refl
      climb_from row r n k e (right_nullable a) = right_nullable (climb_from row r n k e a)
      climb_from row r n k e (right_promoted a b) = right_promoted (climb_from row r n k e a) (climb_from row r n k e b)
      climb_from row r n k e (interface_arguments {ts = ts} a) = super_interface row r n k (subst (λ (xs : Types). Subs table xs ts) e a)
      climb_from {ss = ss} {us = us} row r n k e (super_interface {us = ws} {ts = ts} row' r' n' k' a) =
          let low = inherited table wf k.0 in
          let high = inherited table wf k'.0 in
          let once = put_all-by_params (by_params row.params ss) row'.params us (counted table wf low row' r') ws (superinterface_simple table wf high row' r') in
          super_interface row r n (super_kept table wf nothing (superinterface_trans table wf low row' r' high))
          (subst (λ (xs : Types). Subs table xs ts) (ap (λ (ys : Types). put_all (by_params row'.params ys) ws) e ∙ once) a)

      pub climb : {c d : ClassId} {ss us : Types} {u : Ty} → (row : ClassRow) → class_of table c ≡ Some row → count ss ≡ length row.params → Keeps table c (interface d us) → Sub table (interface d (put_all (by_params row.params ss) us)) u → Sub table (interface c ss) u
      climb row r n k a = climb_from row r n k refl a

      left : {s t u : Ty} → Sub table s t → Parts t → Sub table t u → Sub table s u
      left reflexivity parts q = q
      left {s} (right_top e) parts q = above_top table wf q e s
      left left_bottom parts q = left_bottom
      left left_null parts q = nullable_null table q
      left {s} (right_object e p) parts q = plain_then table wf q e s p
      left (left_nullable a b) parts q = left_nullable (left a parts q) (left b parts q)
      left (right_nullable a) parts q = parts _ _ a (nullable_bare table q)
      left (left_promoted_variable a) parts q = left_promoted_variable (left a parts q)
      left (left_promoted_type a) parts q = left_promoted_type (left a parts q)
      left (right_promoted a b) parts q = after_promoted a b parts q
      left (left_variable_bound b e a) parts q = left_variable_bound b e (left a parts q)
      left (interface_arguments a) parts q = moved (in_interface (steps a parts)) q
      left (super_interface row r n k a) parts q = climb row r n k (moved (in_interface (steps a parts)) q)
      left (function_class {r = f} {o = o} {n = n} {e = e} k) parts q = above_function table wf q k f o n e
      left (function_types le ps ns rs a) parts q = after_function le ps ns rs a parts q
      left (left_top a) parts q = left_top (left a parts q)

      mutual
        pub trans : (t : Ty) → Trans t
        trans invalid s u p q = left p tt q
        trans never s u p q = left p tt q
        trans void s u p q = left p tt q
        trans null s u p q = left p tt q
        trans (interface c ts) s u p q = left p (trans_all ts) q
        trans (function r o n e) s u p q = left p (trans_all r, trans_all o, trans_named n, trans e) q
        trans (variable x) s u p q = left p tt q
        trans (promoted x e) s u p q = left p ((λ s' u' p' q'. left p' tt q'), trans e) q
        trans (nullable e) s u p q = left p (trans e) q

        trans_all : (ts : Types) → TransAll ts
        trans_all no_more = tt
        trans_all (more t ts) = (trans t, trans_all ts)

        trans_named : (ts : Named) → TransNamed ts
        trans_named no_named = tt
        trans_named (more_named m r t ts) = (trans t, trans_named ts)
