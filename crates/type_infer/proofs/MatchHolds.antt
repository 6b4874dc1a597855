-- What matching sets as it is computed is what its rules derive.
use Rattle.std.proofs.Common.{◌≡◌, ℕ, zero, suc, ◌<◌, ◌≤◌, Bool, true, false, not, List, [], ◌∷◌, ◌++◌, Option, Some, None, refl, sym, ◌∙◌, ap, subst, cond, arith, inl, inr}
use Rattle.std.specs.Prelude.{◌&&◌, ◌||◌, nat_le, filter, Contains}
use Rattle.std.specs.List.{list_all}
use Rattle.std.specs.Option.{option_map_or}
use Rattle.std.proofs.lemmas.Bool.{leb-true, leb-false}
use Rattle.dart_types.specs.Ty.{Ty, Types, Named, invalid, never, void, null, interface, function, variable, promoted, nullable, join}
use Rattle.dart_types.specs.Heads.{is_plain}
use Rattle.dart_types.specs.Same.{same_class, same_type}
use Rattle.dart_types.specs.Sizes.{size_of, held}
use Rattle.dart_types.specs.Tables.{Table, bound_of}
use Rattle.dart_types.specs.declared.ids.ClassId.{ClassId}
use Rattle.dart_types.specs.declared.ids.VarId.{VarId}
use Rattle.dart_types.specs.declared.refusal.TheConstants.{NODE_LIMIT}
use Rattle.type_bounds.specs.Common.{IsAbove}
use Rattle.type_bounds.specs.CommonOf.{above_of}
use Rattle.type_bounds.specs.Laws.{BoundLaws}
use Rattle.type_infer.specs.Above.{IsOnlyAbove, arguments_of}
use Rattle.type_infer.specs.AboveOf.{is_of_class, only_arguments, only_above}
use Rattle.type_infer.specs.Holding.{holds_param}
use Rattle.type_infer.specs.Matching.{End, matched, mismatched, too_large, ended, is_on_side, is_built, is_as_it_stands, Match, fixed, faced, Face, MatchAll, constrained, open_there, null_at_mark, marked_both, marked_formal, marked_subtype, marked_other, bound_of_other, unbound_other, promoted_other, one_class, other_climbs, formal_climbs, other_too_large, formal_too_large, other_elsewhere, formal_elsewhere, functions, other_signature, leaf, all_matched, open_part, part_matched, part_ended}
use Rattle.type_infer.specs.MatchOf.{Found, sets_nothing, sets_then, match_by, match_all_by, constrains, gives_way, face_of_marked, as_they_stand, face_of_above, face_of_other_class, face_of_classes, face_of_class, face_of_functions, face_of_function, face_row, face_within, match_of}
use Rattle.type_infer.specs.Open.{is_open}
use Rattle.type_infer.specs.Pairs.{Pair, pair, paired, paired_by_name, parts_of, signatures_fit}
use Rattle.type_infer.specs.SideMeasure.{side_measure, pairs_measure}
use Rattle.type_infer.specs.declared.constraints.Constraint.{Constraint}
use Rattle.type_infer.specs.declared.constraints.Side.{Side}
use Rattle.type_infer.specs.declared.constraints.Side.TheVariants.{AtLeast, AtMost}
use Rattle.type_infer.proofs.General.{contains_passed, passed_contains, first_or_later, is_first, is_later, all_pass, pass_all, clash, equal_from_same_class, same_class-refl}
use Rattle.type_infer.proofs.SideFalls.{paired_below, named_below, pairs_append, both_bare_fall, bare_falls, arguments_below, other_above_below, formal_above_below}

and_true : (b : Bool) → b ≡ true → (b && true) ≡ true
and_true true h = refl
and_true false h = cc

not_false : (b : Bool) → b ≡ false → (false || not b) ≡ true
not_false true h = cc
not_false false h = refl

-- a type of the class is it with its arguments
class_form : (d : ClassId) (u : Ty) → is_of_class d u ≡ true → u ≡ interface d (arguments_of u)
class_form d invalid h = cc
class_form d never h = cc
class_form d void h = cc
class_form d null h = cc
class_form d (interface c ts) h = ap (λ (k : ClassId). interface k ts) (equal_from_same_class c d h)
class_form d (function r o n e) h = cc
class_form d (variable x) h = cc
class_form d (promoted x t) h = cc
class_form d (nullable t) h = cc

-- a class or a function type is built
plain_built : (t : Ty) → is_plain t ≡ true → is_built t ≡ true
plain_built invalid h = cc
plain_built never h = cc
plain_built void h = cc
plain_built null h = cc
plain_built (interface c ts) h = refl
plain_built (function r o n e) h = refl
plain_built (variable x) h = cc
plain_built (promoted x t) h = cc
plain_built (nullable t) h = cc

module _ (table : Table) (laws : BoundLaws table) where
  -- the only superinterface that is of a class
  module _ (c : ClassId) (ts : Types) (d : ClassId) where
    abbrev Answer : Option Types → Type 0
    Answer None = (us : Types) → IsOnlyAbove table c ts d us → ⊥
    Answer (Some us) = IsOnlyAbove table c ts d us

    abbrev AreAbove : List Ty → Type 0
    AreAbove list = (u : Ty) → Contains list u → IsAbove table c ts u × (u ≡ interface d (arguments_of u))

    abbrev HasEach : List Ty → Type 0
    HasEach list = (us : Types) → IsAbove table c ts (interface d us) → Contains list (interface d us)

    only_here : (u : Ty) (us : List Ty) → AreAbove (u ∷ us) → HasEach (u ∷ us) → (b : Bool) → list_all (same_type u) us ≡ b → Answer (cond b (Some (arguments_of u)) None)
    only_here u us are each true h =
        let first = are u (is_first u us) in
        record {
          above = subst (IsAbove table c ts) first.1 first.0;
          only = λ vs a. elim (first_or_later u us (interface d vs) (each vs a)) as (λ _. vs ≡ arguments_of u) [
            | inl e ↦ sym (ap arguments_of e)
            | inr i ↦ sym (ap arguments_of (laws.rows.types.equal_from_same_type u (interface d vs) (all_pass (same_type u) us h (interface d vs) i)))
          ];
        }
    only_here u us are each false h = λ vs a.
        let one : (v : Ty) → Contains (u ∷ us) v → v ≡ interface d vs =
        λ v i. let k = are v i in k.1 ∙ ap (interface d) (a.only (arguments_of v) (subst (IsAbove table c ts) k.1 k.0))
        in
        let all : list_all (same_type u) us ≡ true =
        pass_all (same_type u) us (λ v i. subst (λ (w : Ty). same_type u w ≡ true) (one u (is_first u us) ∙ sym (one v (is_later u us v i))) (laws.rows.types.same_type-refl u))
        in
        clash (list_all (same_type u) us) all h

    only_is : (list : List Ty) → AreAbove list → HasEach list → Answer (only_arguments list)
    only_is [] are each = λ us a. let i = each us a.above in absurd (omega (arith, i.1))
    only_is (u ∷ us) are each = only_here u us are each (list_all (same_type u) us) refl

    only_above_is : Answer (only_above table c ts d)
    only_above_is =
        only_is (filter (is_of_class d) (above_of table c ts))
        (λ u i. let h = contains_passed (is_of_class d) (above_of table c ts) u i in (laws.above_sound c ts u h.0, class_form d u h.1))
        (λ us a. passed_contains (is_of_class d) (above_of table c ts) (interface d us) (laws.above_complete c ts (interface d us) a) (same_class-refl d))

  abbrev M : Side → Ty → Ty → ℕ
  M side t s = side_measure table side t s

  -- the parts of two function types
  parts_below : (side : Side) (r o : Types) (n : Named) (e : Ty) (r' o' : Types) (n' : Named) (e' : Ty) → pairs_measure table (parts_of side r o n e r' o' n' e') ≤ M side (function r o n e) (function r' o' n' e')
  parts_below AtLeast r o n e r' o' n' e' =
      let whole = M AtLeast (function r o n e) (function r' o' n' e') in
      let params = paired_below table AtMost (join r o) (join r' o') whole (λ t s a b. laws.rows.measures.parameters r' o' r o n' n e' e _ _ b a) in
      let names = named_below table AtMost n n' whole (λ l m t s a b. laws.rows.measures.named r' o' r o n' n e' e _ _ _ _ b a) in
      let result = laws.rows.measures.results r' o' r o n' n e' e in
      omega (arith, params, names, result, pairs_append table (paired AtMost (join r o) (join r' o')) (paired_by_name AtMost n n' ++ pair AtLeast e e' ∷ []), pairs_append table (paired_by_name AtMost n n') (pair AtLeast e e' ∷ []))
  parts_below AtMost r o n e r' o' n' e' =
      let whole = M AtMost (function r o n e) (function r' o' n' e') in
      let params = paired_below table AtLeast (join r o) (join r' o') whole (λ t s a b. laws.rows.measures.parameters r o r' o' n n' e e' _ _ a b) in
      let names = named_below table AtLeast n n' whole (λ l m t s a b. laws.rows.measures.named r o r' o' n n' e e' _ _ _ _ a b) in
      let result = laws.rows.measures.results r o r' o' n n' e e' in
      omega (arith, params, names, result, pairs_append table (paired AtLeast (join r o) (join r' o')) (paired_by_name AtLeast n n' ++ pair AtMost e e' ∷ []), pairs_append table (paired_by_name AtLeast n n') (pair AtMost e e' ∷ []))

  module _ (params : List VarId) where
    abbrev Faces : Side → Ty → Ty → Found → Type 0
    Faces side t s f = Face table params side t s f.constraints f.end

    abbrev Matches : Side → Ty → Ty → Found → Type 0
    Matches side t s f = Match table params side t s f.constraints f.end

    abbrev AllMatch : List Pair → Found → Type 0
    AllMatch ps f = MatchAll table params ps f.constraints f.end

    -- one rule from what holds of types that measure less than n
    module _ (face : Side → Ty → Ty → Found) (n : ℕ) (holds : (side : Side) (t s : Ty) → holds_param params t ≡ true → M side t s < n → Faces side t s (face side t s)) where
      match_holds : (side : Side) (t s : Ty) → M side t s < n → Matches side t s (match_by table params face side t s)
      match_holds side t s lt = at (holds_param params t) refl
        where
          at : (b : Bool) → holds_param params t ≡ b → Matches side t s (cond b (face side t s) (sets_nothing (ended (is_on_side table side t s))))
          at true h = faced h (holds side t s h lt)
          at false h = fixed h

      one_part : (p : Pair) (ps : List Pair) (cs : List Constraint) (end : End) (rest : Found) → is_open p.other ≡ false → Match table params p.side p.formal p.other cs end → AllMatch ps rest → AllMatch (p ∷ ps) (sets_then cs end rest)
      one_part p ps cs matched rest o m more = part_matched o m more
      one_part p ps cs mismatched rest o m more = part_ended o (λ e. cc) m
      one_part p ps cs (too_large nodes) rest o m more = part_ended o (λ e. cc) m

      all_hold : (ps : List Pair) → pairs_measure table ps ≤ n → AllMatch ps (match_all_by table params face ps)
      all_hold [] le = all_matched
      all_hold (p ∷ ps) le =
          at (match_by table params face p.side p.formal p.other) (match_all_by table params face ps) (is_open p.other) refl (match_holds p.side p.formal p.other (omega (arith, le))) (all_hold ps (omega (arith, le)))
        where
          at : (f rest : Found) (b : Bool) → is_open p.other ≡ b → Matches p.side p.formal p.other f → AllMatch ps rest → AllMatch (p ∷ ps) (cond b rest (sets_then f.constraints f.end rest))
          at f rest true o m more = open_part o more
          at f rest false o m more = one_part p ps f.constraints f.end rest o m more

      -- a parameter
      constrains_hold : (side : Side) (x : VarId) (s : Ty) → Faces side (variable x) s (constrains table params face side x s)
      constrains_hold side x s = at (is_open s) refl
        where
          at : (b : Bool) → is_open s ≡ b → Faces side (variable x) s (cond b (sets_nothing matched) (record { constraints = record { param = x; side = side; ty = s } ∷ []; end = matched }))
          at true o = open_there o
          at false o = constrained o

      -- what gives way
      to_bound : (t : Ty) (y : VarId) → holds_param params t ≡ true → is_built t ≡ true → M AtLeast t (variable y) ≤ n → Faces AtLeast t (variable y) (option_map_or (face AtLeast t) (bound_of table y) (sets_nothing mismatched))
      to_bound t y h b le = at (bound_of table y) refl
        where
          at : (o : Option Ty) → bound_of table y ≡ o → Faces AtLeast t (variable y) (option_map_or (face AtLeast t) o (sets_nothing mismatched))
          at None e = unbound_other b e
          at (Some u) e = bound_of_other b e (holds AtLeast t u h (omega (arith, le, laws.rows.measures.bounds y u t e)))

      to_promoted : (t : Ty) (y : VarId) (u : Ty) → holds_param params t ≡ true → is_built t ≡ true → M AtLeast t (promoted y u) ≤ n → Faces AtLeast t (promoted y u) (face AtLeast t u)
      to_promoted t y u h b le = promoted_other b (holds AtLeast t u h (omega (arith, le, (laws.rows.measures.left_promoted y u t).1)))

      gives_way_holds : (side : Side) (t s : Ty) (f : Found) → holds_param params t ≡ true → is_plain t ≡ true → M side t s ≤ n → (is_as_it_stands side s ≡ true → Faces side t s f) → Faces side t s (gives_way table params face side t s f)
      gives_way_holds side t invalid f h b le go = go refl
      gives_way_holds side t never f h b le go = go refl
      gives_way_holds side t void f h b le go = go refl
      gives_way_holds side t null f h b le go = go refl
      gives_way_holds side t (interface d ss) f h b le go = go refl
      gives_way_holds side t (function r o l e) f h b le go = go refl
      gives_way_holds AtLeast t (variable y) f h b le go = to_bound t y h (plain_built t b) le
      gives_way_holds AtMost t (variable y) f h b le go = go refl
      gives_way_holds AtLeast t (promoted y u) f h b le go = to_promoted t y u h (plain_built t b) le
      gives_way_holds AtMost t (promoted y u) f h b le go = go refl
      gives_way_holds AtLeast t (nullable u) f h b le go = go refl
      gives_way_holds AtMost t (nullable u) f h b le go = marked_other b (holds AtMost t u h (omega (arith, le, laws.rows.measures.right_nullable t u)))

      -- a formal with `?`
      module _ (side : Side) (t : Ty) (h : holds_param params t ≡ true) where
        bare_formal : (s : Ty) → M side (nullable t) s ≤ n → Faces side t s (face side t s)
        bare_formal s le = holds side t s h (omega (arith, le, bare_falls table laws.rows side t s))

      marked_holds : (side : Side) (t s : Ty) → holds_param params t ≡ true → M side (nullable t) s ≤ n → Faces side (nullable t) s (face_of_marked table params face side t s)
      marked_holds side t invalid h le = marked_formal refl refl (bare_formal side t h invalid le)
      marked_holds side t never h le = marked_formal refl refl (bare_formal side t h never le)
      marked_holds side t void h le = marked_formal refl refl (bare_formal side t h void le)
      marked_holds side t null h le = null_at_mark
      marked_holds side t (interface d ss) h le = marked_formal refl refl (bare_formal side t h (interface d ss) le)
      marked_holds side t (function r o l e) h le = marked_formal refl refl (bare_formal side t h (function r o l e) le)
      marked_holds AtLeast t (variable y) h le = at (is_plain t) refl
        where
          at : (b : Bool) → is_plain t ≡ b → Faces AtLeast (nullable t) (variable y) (cond b (option_map_or (face AtLeast (nullable t)) (bound_of table y) (sets_nothing mismatched)) (face AtLeast t (variable y)))
          at true b = to_bound (nullable t) y h b le
          at false b = marked_formal refl (not_false (is_plain t) b) (bare_formal AtLeast t h (variable y) le)
      marked_holds AtMost t (variable y) h le = marked_formal refl refl (bare_formal AtMost t h (variable y) le)
      marked_holds AtLeast t (promoted y u) h le = at (is_plain t) refl
        where
          at : (b : Bool) → is_plain t ≡ b → Faces AtLeast (nullable t) (promoted y u) (cond b (face AtLeast (nullable t) u) (face AtLeast t (promoted y u)))
          at true b = to_promoted (nullable t) y u h b le
          at false b = marked_formal refl (not_false (is_plain t) b) (bare_formal AtLeast t h (promoted y u) le)
      marked_holds AtMost t (promoted y u) h le = marked_formal refl refl (bare_formal AtMost t h (promoted y u) le)
      marked_holds AtLeast t (nullable u) h le = at (is_plain t) refl
        where
          at : (b : Bool) → is_plain t ≡ b → Faces AtLeast (nullable t) (nullable u) (cond b (face AtLeast (nullable t) u) (face AtLeast t u))
          at true b = marked_subtype b (holds AtLeast (nullable t) u h (omega (arith, le, laws.rows.measures.left_nullable u (nullable t))))
          at false b = marked_both b (holds AtLeast t u h (omega (arith, le, both_bare_fall table laws.rows AtLeast t u)))
      marked_holds AtMost t (nullable u) h le = marked_both refl (holds AtMost t u h (omega (arith, le, both_bare_fall table laws.rows AtMost t u)))

      -- classes
      other_above : (c : ClassId) (ts : Types) (d : ClassId) (ss : Types) → same_class c d ≡ false → M AtLeast (interface c ts) (interface d ss) ≤ n → Faces AtLeast (interface c ts) (interface d ss) (face_of_other_class table params face AtLeast c ts d ss)
      other_above c ts d ss k le = at (only_above table d ss c) (only_above_is d ss c)
        where
          within : (us : Types) → IsOnlyAbove table d ss c us → (b : Bool) → nat_le (size_of (interface c us)) NODE_LIMIT ≡ b →
              Faces AtLeast (interface c ts) (interface d ss) (cond b (match_all_by table params face (paired AtLeast ts us)) (sets_nothing (too_large (held (size_of (interface c us))))))
          within us a true e = other_climbs k a (leb-true (size_of (interface c us)) NODE_LIMIT e) (all_hold (paired AtLeast ts us) (omega (arith, le, other_above_below table laws.rows c d ts ss us a.above)))
          within us a false e = other_too_large k a (leb-false (size_of (interface c us)) NODE_LIMIT e)

          at : (o : Option Types) → Answer d ss c o → Faces AtLeast (interface c ts) (interface d ss) (face_of_above table params face c (paired AtLeast ts) (as_they_stand table params face AtLeast (interface c ts) (interface d ss)) o)
          at None none = other_elsewhere k none
          at (Some us) a = within us a (nat_le (size_of (interface c us)) NODE_LIMIT) refl

      formal_above : (c : ClassId) (ts : Types) (d : ClassId) (ss : Types) → same_class c d ≡ false → M AtMost (interface c ts) (interface d ss) ≤ n → Faces AtMost (interface c ts) (interface d ss) (face_of_other_class table params face AtMost c ts d ss)
      formal_above c ts d ss k le = at (only_above table c ts d) (only_above_is c ts d)
        where
          within : (us : Types) → IsOnlyAbove table c ts d us → (b : Bool) → nat_le (size_of (interface d us)) NODE_LIMIT ≡ b →
              Faces AtMost (interface c ts) (interface d ss) (cond b (match_all_by table params face (paired AtMost us ss)) (sets_nothing (too_large (held (size_of (interface d us))))))
          within us a true e = formal_climbs k a (leb-true (size_of (interface d us)) NODE_LIMIT e) (all_hold (paired AtMost us ss) (omega (arith, le, formal_above_below table laws.rows c d ts ss us a.above)))
          within us a false e = formal_too_large k a (leb-false (size_of (interface d us)) NODE_LIMIT e)

          at : (o : Option Types) → Answer c ts d o → Faces AtMost (interface c ts) (interface d ss) (face_of_above table params face d (λ us. paired AtMost us ss) (as_they_stand table params face AtMost (interface c ts) (interface d ss)) o)
          at None none = formal_elsewhere k none
          at (Some us) a = within us a (nat_le (size_of (interface d us)) NODE_LIMIT) refl

      other_classes : (side : Side) (c : ClassId) (ts : Types) (d : ClassId) (ss : Types) → same_class c d ≡ false → M side (interface c ts) (interface d ss) ≤ n → Faces side (interface c ts) (interface d ss) (face_of_other_class table params face side c ts d ss)
      other_classes AtLeast c ts d ss k le = other_above c ts d ss k le
      other_classes AtMost c ts d ss k le = formal_above c ts d ss k le

      classes_hold : (side : Side) (c : ClassId) (ts : Types) (d : ClassId) (ss : Types) → M side (interface c ts) (interface d ss) ≤ n → Faces side (interface c ts) (interface d ss) (face_of_classes table params face side c ts d ss)
      classes_hold side c ts d ss le = at (same_class c d) refl
        where
          at : (b : Bool) → same_class c d ≡ b → Faces side (interface c ts) (interface d ss) (cond b (match_all_by table params face (paired side ts ss)) (face_of_other_class table params face side c ts d ss))
          at true k = one_class k (all_hold (paired side ts ss) (omega (arith, le, arguments_below table laws.rows side c d ts ss)))
          at false k = other_classes side c ts d ss k le

      class_holds : (side : Side) (c : ClassId) (ts : Types) (s : Ty) → M side (interface c ts) s ≤ n → is_as_it_stands side s ≡ true → Faces side (interface c ts) s (face_of_class table params face side c ts s)
      class_holds side c ts invalid le k = leaf (and_true (is_as_it_stands side invalid) k)
      class_holds side c ts never le k = leaf (and_true (is_as_it_stands side never) k)
      class_holds side c ts void le k = leaf (and_true (is_as_it_stands side void) k)
      class_holds side c ts null le k = leaf (and_true (is_as_it_stands side null) k)
      class_holds side c ts (interface d ss) le k = classes_hold side c ts d ss le
      class_holds side c ts (function r o l e) le k = leaf (and_true (is_as_it_stands side (function r o l e)) k)
      class_holds side c ts (variable y) le k = leaf (and_true (is_as_it_stands side (variable y)) k)
      class_holds side c ts (promoted y u) le k = leaf (and_true (is_as_it_stands side (promoted y u)) k)
      class_holds side c ts (nullable u) le k = leaf (and_true (is_as_it_stands side (nullable u)) k)

      -- function types
      functions_hold : (side : Side) (r o : Types) (l : Named) (e : Ty) (r' o' : Types) (l' : Named) (e' : Ty) → M side (function r o l e) (function r' o' l' e') ≤ n → Faces side (function r o l e) (function r' o' l' e') (face_of_functions table params face side r o l e r' o' l' e')
      functions_hold side r o l e r' o' l' e' le = at (signatures_fit side r o l r' o' l') refl
        where
          at : (b : Bool) → signatures_fit side r o l r' o' l' ≡ b → Faces side (function r o l e) (function r' o' l' e') (cond b (match_all_by table params face (parts_of side r o l e r' o' l' e')) (sets_nothing mismatched))
          at true k = functions k (all_hold (parts_of side r o l e r' o' l' e') (omega (arith, le, parts_below side r o l e r' o' l' e')))
          at false k = other_signature k

      function_holds : (side : Side) (r o : Types) (l : Named) (e s : Ty) → M side (function r o l e) s ≤ n → is_as_it_stands side s ≡ true → Faces side (function r o l e) s (face_of_function table params face side r o l e s)
      function_holds side r o l e invalid le k = leaf (and_true (is_as_it_stands side invalid) k)
      function_holds side r o l e never le k = leaf (and_true (is_as_it_stands side never) k)
      function_holds side r o l e void le k = leaf (and_true (is_as_it_stands side void) k)
      function_holds side r o l e null le k = leaf (and_true (is_as_it_stands side null) k)
      function_holds side r o l e (interface d ss) le k = leaf (and_true (is_as_it_stands side (interface d ss)) k)
      function_holds side r o l e (function r' o' l' e') le k = functions_hold side r o l e r' o' l' e' le
      function_holds side r o l e (variable y) le k = leaf (and_true (is_as_it_stands side (variable y)) k)
      function_holds side r o l e (promoted y u) le k = leaf (and_true (is_as_it_stands side (promoted y u)) k)
      function_holds side r o l e (nullable u) le k = leaf (and_true (is_as_it_stands side (nullable u)) k)

      -- each form of a formal
      row_holds : (side : Side) (t s : Ty) → holds_param params t ≡ true → M side t s ≤ n → Faces side t s (face_row table params face side t s)
      row_holds side invalid s h le = cc
      row_holds side never s h le = cc
      row_holds side void s h le = cc
      row_holds side null s h le = cc
      row_holds side (interface c ts) s h le = gives_way_holds side (interface c ts) s (face_of_class table params face side c ts s) h refl le (class_holds side c ts s le)
      row_holds side (function r o l e) s h le = gives_way_holds side (function r o l e) s (face_of_function table params face side r o l e s) h refl le (function_holds side r o l e s le)
      row_holds side (variable x) s h le = constrains_hold side x s
      row_holds side (promoted x t) s h le = leaf refl
      row_holds side (nullable t) s h le = marked_holds side t s h le

    -- as many rules as the measure are enough
    within : (n : ℕ) (side : Side) (t s : Ty) → holds_param params t ≡ true → M side t s < n → Faces side t s (face_within table params n side t s)
    within zero side t s h lt = absurd (omega (arith, lt))
    within (suc n) side t s h lt = row_holds (face_within table params n) n (within n) side t s h (omega (arith, lt))

    pub match_is : (side : Side) (t s : Ty) → Match table params side t s (match_of table params side t s).constraints (match_of table params side t s).end
    unfolding match_of
    match_is side t s =
        match_holds (face_within table params (suc (M side t s))) (suc (M side t s)) (within (suc (M side t s))) side t s (omega arith)
