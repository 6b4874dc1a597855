-- The measure of a formal and another type falls to those that they are matched by.
use Rattle.std.proofs.Common.{◌≡◌, ℕ, zero, suc, ◌+◌, ◌<◌, ◌≤◌, ◌++◌, max, Bool, true, false, List, [], ◌∷◌, length, get_or, cond, Option, Some, None, refl, sym, ◌∙◌, ap, subst, arith}
use Rattle.std.specs.Prelude.{bytes_eq, find}
use Rattle.std.specs.Option.{option_map}
use Rattle.std.specs.Cmp.Lexicographic.{bytes_decides}
use Rattle.dart_types.specs.Ty.{Ty, Types, Named, invalid, never, void, null, interface, function, variable, promoted, nullable, no_more, more, no_named, more_named, types_of, join}
use Rattle.dart_types.specs.Named.{named_of, type_named}
use Rattle.dart_types.specs.Heads.{is_plain}
use Rattle.dart_types.specs.Node.{function_type}
use Rattle.dart_types.specs.Forms.{params_of}
use Rattle.dart_types.specs.Normal.{nullable_of, normal, normal_all, normal_named}
use Rattle.dart_types.specs.Substitution.{put, by_params}
use Rattle.dart_types.specs.Tables.{Table}
use Rattle.dart_types.specs.WellFormed.{IsSupertype}
use Rattle.dart_types.specs.Measure.{VarMeasure, weight, weights, weights_named, deep, deeps, heavy, heavies, of_var, heaviest_of, deepness_of, measure}
use Rattle.dart_types.specs.Sub.{HasNamed, first, later}
use Rattle.dart_types.specs.declared.ids.ClassId.{ClassId}
use Rattle.dart_types.specs.declared.ids.VarId.{VarId}
use Rattle.dart_types.specs.declared.types.FunctionType.{FunctionType}
use Rattle.dart_types.specs.declared.types.NamedType.{NamedType}
use Rattle.dart_types.specs.Parts.{HasType, at_first, at_later}
use Rattle.dart_types.specs.Laws.{RowLaws}
use Rattle.type_bounds.specs.Common.{IsAbove}
use Rattle.type_infer.specs.Constraints.{opposite}
use Rattle.type_infer.specs.Pairs.{Pair, paired, paired_with, paired_by_name}
use Rattle.type_infer.specs.Matching.{gives_way_at_mark}
use Rattle.type_infer.specs.Ways.{WayAtMark, kept, to_none, to_last, past_mark, GivesWay, stands, to_bound, to_nothing, to_promoted, to_bare}
use Rattle.type_infer.specs.declared.constraints.Side.{Side}
use Rattle.type_infer.specs.declared.constraints.Side.TheVariants.{AtLeast, AtMost}
use Rattle.type_infer.proofs.NameTests.{join-types_of}
use Rattle.type_infer.specs.SideMeasure.{side_measure, pairs_measure}

-- a normal form measures no more than its type
weight_nullable : (f : VarMeasure) (u : Ty) → weight f (nullable_of u) ≤ weight f u + 2
weight_nullable f invalid = omega arith
weight_nullable f never = omega arith
weight_nullable f void = omega arith
weight_nullable f null = omega arith
weight_nullable f (interface c ts) = omega arith
weight_nullable f (function r o n e) = omega arith
weight_nullable f (variable x) = omega arith
weight_nullable f (promoted x t) = omega arith
weight_nullable f (nullable t) = omega arith

mutual
  weight_normal : (f : VarMeasure) (t : Ty) → weight f (normal t) ≤ weight f t
  weight_normal f invalid = omega arith
  weight_normal f never = omega arith
  weight_normal f void = omega arith
  weight_normal f null = omega arith
  weight_normal f (interface c ts) = omega (arith, weights_normal f ts)
  weight_normal f (function r o n e) = omega (arith, weights_normal f r, weights_normal f o, named_normal f n, weight_normal f e)
  weight_normal f (variable x) = omega arith
  weight_normal f (promoted x t) = omega (arith, weight_normal f t)
  weight_normal f (nullable t) = omega (arith, weight_normal f t, weight_nullable f (normal t))

  weights_normal : (f : VarMeasure) (ts : Types) → weights f (normal_all ts) ≤ weights f ts
  weights_normal f no_more = omega arith
  weights_normal f (more t ts) = omega (arith, weight_normal f t, weights_normal f ts)

  named_normal : (f : VarMeasure) (ns : Named) → weights_named f (normal_named ns) ≤ weights_named f ns
  named_normal f no_named = omega arith
  named_normal f (more_named n r t ts) = omega (arith, weight_normal f t, named_normal f ts)

deep_nullable : (f : VarMeasure) (u : Ty) → deep f (nullable_of u) ≤ deep f u + 2
deep_nullable f invalid = omega arith
deep_nullable f never = omega arith
deep_nullable f void = omega arith
deep_nullable f null = omega arith
deep_nullable f (interface c ts) = omega arith
deep_nullable f (function r o n e) = omega arith
deep_nullable f (variable x) = omega arith
deep_nullable f (promoted x t) = omega arith
deep_nullable f (nullable t) = omega arith

mutual
  deep_normal : (f : VarMeasure) (t : Ty) → deep f (normal t) ≤ deep f t
  deep_normal f invalid = omega arith
  deep_normal f never = omega arith
  deep_normal f void = omega arith
  deep_normal f null = omega arith
  deep_normal f (interface c ts) = omega (arith, deeps_normal f ts)
  deep_normal f (function r o n e) = omega (arith, deep_normal f e)
  deep_normal f (variable x) = omega arith
  deep_normal f (promoted x t) = omega (arith, deep_normal f t)
  deep_normal f (nullable t) = omega (arith, deep_normal f t, deep_nullable f (normal t))

  deeps_normal : (f : VarMeasure) (ts : Types) → deeps f (normal_all ts) ≤ deeps f ts
  deeps_normal f no_more = omega arith
  deeps_normal f (more t ts) = omega (arith, deep_normal f t, deeps_normal f ts)

heavy_nullable : (w f : VarMeasure) (u : Ty) → heavy w f (nullable_of u) ≤ heavy w f u
heavy_nullable w f invalid = omega arith
heavy_nullable w f never = omega arith
heavy_nullable w f void = omega arith
heavy_nullable w f null = omega arith
heavy_nullable w f (interface c ts) = omega arith
heavy_nullable w f (function r o n e) = omega arith
heavy_nullable w f (variable x) = omega arith
heavy_nullable w f (promoted x t) = omega arith
heavy_nullable w f (nullable t) = omega arith

mutual
  heavy_normal : (w f : VarMeasure) (t : Ty) → heavy w f (normal t) ≤ heavy w f t
  heavy_normal w f invalid = omega arith
  heavy_normal w f never = omega arith
  heavy_normal w f void = omega arith
  heavy_normal w f null = omega arith
  heavy_normal w f (interface c ts) = heavies_normal w f ts
  heavy_normal w f (function r o n e) = weight_normal w (function r o n e)
  heavy_normal w f (variable x) = omega arith
  heavy_normal w f (promoted x t) = omega (arith, heavy_normal w f t)
  heavy_normal w f (nullable t) = omega (arith, heavy_normal w f t, heavy_nullable w f (normal t))

  heavies_normal : (w f : VarMeasure) (ts : Types) → heavies w f (normal_all ts) ≤ heavies w f ts
  heavies_normal w f no_more = omega arith
  heavies_normal w f (more t ts) = omega (arith, heavy_normal w f t, heavies_normal w f ts)

-- a type that is found by its name is one of the list
named_type : (ms : Named) (m : List ℕ) (s : Ty) → type_named ms m ≡ Some s → HasNamed ms m s
named_type no_named m s e = cc
named_type (more_named n r u ts) m s e = at (bytes_eq n m) refl e (named_type ts m s)
  where
    at : (b : Bool) → bytes_eq n m ≡ b → cond b (Some u) (type_named ts m) ≡ Some s → (type_named ts m ≡ Some s → HasNamed ts m s) → HasNamed (more_named n r u ts) m s
    at true k f go =
        let name : n ≡ m = (bytes_decides n m).0 k in
        let is : u ≡ s = cc in
        subst (λ (l : List ℕ). HasNamed (more_named n r u ts) l s) name (subst (λ (v : Ty). HasNamed (more_named n r u ts) n v) is first)
    at false k f go = later (go f)

module _ (table : Table) where
  abbrev M : Side → Ty → Ty → ℕ
  M side t s = side_measure table side t s

  abbrev Ms : List Pair → ℕ
  Ms ps = pairs_measure table ps

  -- pairs that all measure less than a number
  pub paired_below : (side : Side) (ts ss : Types) (n : ℕ) → ((t s : Ty) → HasType ts t → HasType ss s → M side t s < n) → Ms (paired side ts ss) ≤ n
  paired_below side no_more ss n h = omega arith
  paired_below side (more t ts) no_more n h = omega arith
  paired_below side (more t ts) (more s ss) n h = omega (arith, h t s at_first at_first, paired_below side ts ss n (λ u v a b. h u v (at_later a) (at_later b)))

  pub named_below : (side : Side) (ns ms : Named) (n : ℕ) → ((l m : List ℕ) (t s : Ty) → HasNamed ns l t → HasNamed ms m s → M side t s < n) → Ms (paired_by_name side ns ms) ≤ n
  named_below side no_named ms n h = omega arith
  named_below side (more_named l r t ns) ms n h = at (type_named ms l) refl (named_below side ns ms n (λ k m u v a b. h k m u v (later a) b))
    where
      at : (o : Option Ty) → type_named ms l ≡ o → Ms (paired_by_name side ns ms) ≤ n → Ms (paired_with side t o ++ paired_by_name side ns ms) ≤ n
      at None e le = le
      at (Some s) e le = omega (arith, h l l t s first (named_type ms l s e), le)

  -- a pair at a place measures less than all
  pub place_below : (side : Side) (xs ys : List Ty) (i : ℕ) (d e : Ty) → i < length xs → i < length ys → M side (get_or xs i d) (get_or ys i e) < Ms (paired side (types_of xs) (types_of ys))
  place_below side [] ys i d e h k = absurd (omega arith)
  place_below side (x ∷ xs) [] i d e h k = absurd (omega arith)
  place_below side (x ∷ xs) (y ∷ ys) zero d e h k = omega arith
  place_below side (x ∷ xs) (y ∷ ys) (suc i) d e h k = omega (arith, place_below side xs ys i d e (omega arith) (omega arith))

  pub pairs_append : (ps qs : List Pair) → Ms (ps ++ qs) ≡ max (Ms ps) (Ms qs)
  pairs_append [] qs = omega arith
  pairs_append (p ∷ ps) qs = omega (arith, pairs_append ps qs)

  -- a type that is found by its name, where the code finds it
  pub found_named : (ms : List NamedType) (m : List ℕ) (s : Option NamedType) → find (λ (n : NamedType). bytes_eq n.name m) ms ≡ s → type_named (named_of ms) m ≡ option_map (λ (n : NamedType). n.ty) s
  found_named [] m s e = ap (option_map (λ (n : NamedType). n.ty)) e
  found_named (n ∷ ns) m s e = at (bytes_eq n.name m) e (λ f. found_named ns m s f)
    where
      at : (b : Bool) → cond b (Some n) (find (λ (k : NamedType). bytes_eq k.name m) ns) ≡ s → (find (λ (k : NamedType). bytes_eq k.name m) ns ≡ s → type_named (named_of ns) m ≡ option_map (λ (k : NamedType). k.ty) s) → cond b (Some n.ty) (type_named (named_of ns) m) ≡ option_map (λ (k : NamedType). k.ty) s
      at true f go = ap (option_map (λ (k : NamedType). k.ty)) f
      at false f go = go f

  pub name_below : (side : Side) (ns ms : List NamedType) (i : ℕ) (n m : NamedType) → i < length ns → n ≡ get_or ns i n → find (λ (k : NamedType). bytes_eq k.name n.name) ms ≡ Some m → M side n.ty m.ty < Ms (paired_by_name side (named_of ns) (named_of ms))
  name_below side [] ms i n m lt is e = absurd (omega arith)
  name_below side (k ∷ ns) ms zero n m lt is e =
      let f : type_named (named_of ms) k.name ≡ Some m.ty = ap (λ (x : NamedType). type_named (named_of ms) x.name) (sym is) ∙ found_named ms n.name (Some m) e in
      let l : M side k.ty m.ty < Ms (paired_with side k.ty (type_named (named_of ms) k.name) ++ paired_by_name side (named_of ns) (named_of ms)) = rw f (omega arith) in
      subst (λ (x : NamedType). M side x.ty m.ty < Ms (paired_by_name side (named_of (k ∷ ns)) (named_of ms))) (sym is) l
  name_below side (k ∷ ns) ms (suc i) n m lt is e =
      omega (arith, name_below side ns ms i n m (omega arith) is e, pairs_append (paired_with side k.ty (type_named (named_of ms) k.name)) (paired_by_name side (named_of ns) (named_of ms)))

  module _ (laws : RowLaws table) where
    -- a `?` of the formal
    pub both_bare_fall : (side : Side) (t s : Ty) → M side t s < M side (nullable t) (nullable s)
    both_bare_fall AtLeast t s = omega (arith, laws.measures.left_nullable s (nullable t), laws.measures.right_nullable s t)
    both_bare_fall AtMost t s = omega (arith, laws.measures.left_nullable t (nullable s), laws.measures.right_nullable t s)

    pub bare_falls : (side : Side) (t s : Ty) → M side t s < M side (nullable t) s
    bare_falls AtLeast t s = laws.measures.right_nullable s t
    bare_falls AtMost t s = laws.measures.left_nullable t s

    -- what a type gives way to
    pub way_least : {side : Side} {s : Ty} (t : Ty) (last : Option Ty) → GivesWay table side s last → (u : Ty) → last ≡ Some u → M side t u ≤ M side t s
    way_least {side} {s} t last (stands k) u e = let is : s ≡ u = cc in subst (λ (v : Ty). M side t v ≤ M side t s) is (omega arith)
    way_least t last (to_bound {y = y} {b = b} k g) u e = omega (arith, way_least t last g u e, laws.measures.bounds y b t k)
    way_least t last (to_nothing k) u e = cc
    way_least t last (to_promoted {y = y} {u = v} g) u e = omega (arith, way_least t last g u e, (laws.measures.left_promoted y v t).1)
    way_least t last (to_bare {s = v} g) u e = omega (arith, way_least t last g u e, laws.measures.right_nullable t v)

    mark_least : {s : Ty} (t : Ty) {last : Option Ty} → WayAtMark table true s last → (u : Ty) → last ≡ Some u → M AtLeast t u ≤ M AtLeast t s
    mark_least t (to_none g) u e = cc
    mark_least t (to_last {last = v} g k) u e = way_least t (Some v) g u e
    mark_least t (past_mark {u = v} g w) u e = omega (arith, mark_least t w u e, laws.measures.left_nullable v t, way_least t (Some (nullable v)) g (nullable v) refl)

    kept_least : (side : Side) (t s u : Ty) → WayAtMark table false s (Some u) → M side t u ≤ M side t s
    kept_least side t s u kept = omega arith

    pub way_least_at_mark : (side : Side) (t s u : Ty) → WayAtMark table (gives_way_at_mark side t) s (Some u) → M side (nullable t) u ≤ M side (nullable t) s
    way_least_at_mark AtLeast t s u w = at (is_plain t) w
      where
        at : (k : Bool) → WayAtMark table k s (Some u) → M AtLeast (nullable t) u ≤ M AtLeast (nullable t) s
        at true g = mark_least (nullable t) g u refl
        at false g = kept_least AtLeast (nullable t) s u g
    way_least_at_mark AtMost t s u w = kept_least AtMost (nullable t) s u w

    -- arguments of one class
    pub arguments_below : (side : Side) (c d : ClassId) (ts ss : Types) → Ms (paired side ts ss) ≤ M side (interface c ts) (interface d ss)
    arguments_below AtLeast c d ts ss = paired_below AtLeast ts ss (M AtLeast (interface c ts) (interface d ss)) (λ t s a b. laws.measures.arguments d c ss ts _ _ b a)
    arguments_below AtMost c d ts ss = paired_below AtMost ts ss (M AtMost (interface c ts) (interface d ss)) (λ t s a b. laws.measures.arguments c d ts ss _ _ a b)

    -- a superinterface
    normal_least : (vars : List VarId) (v : Ty) (σ : VarId → Ty) → IsSupertype vars v → (t : Ty) → measure table (normal (put σ v)) t ≤ measure table (put σ v) t
    unfolding heaviest_of deepness_of
    normal_least vars invalid σ i t = absurd i
    normal_least vars never σ i t = absurd i
    normal_least vars void σ i t = absurd i
    normal_least vars null σ i t = absurd i
    normal_least vars (interface f vs) σ i t =
        laws.measures.no_rise (put σ (interface f vs)) (normal (put σ (interface f vs))) t
        (heavy_normal (of_var weight table) (of_var (heavy (of_var weight table)) table) (put σ (interface f vs)))
        (deep_normal (of_var deep table) (put σ (interface f vs)))
        refl
    normal_least vars (function f o n e) σ i t = absurd i
    normal_least vars (variable x) σ i t = absurd i
    normal_least vars (promoted x u) σ i t = absurd i
    normal_least vars (nullable u) σ i t = absurd i

    above_falls : (c : ClassId) (ts : Types) (u t : Ty) → IsAbove table c ts u → measure table u t < measure table (interface c ts) t
    above_falls c ts u t a =
        let σ = by_params a.row.params ts in
        let above = laws.inherited c a.over a.superinterface.0 in
        let climbs = laws.measures.superinterfaces c ts a.row a.over t a.row_is a.counted above in
        let least = normal_least a.row.params a.over σ (laws.superinterface_simple c a.row a.over a.row_is above) t in
        subst (λ (v : Ty). measure table v t < measure table (interface c ts) t) (sym a.is) (omega (arith, climbs, least))

    pub other_above_below : (c d : ClassId) (ts ss us : Types) → IsAbove table d ss (interface c us) → Ms (paired AtLeast ts us) < M AtLeast (interface c ts) (interface d ss)
    other_above_below c d ts ss us a = omega (arith, arguments_below AtLeast c c ts us, above_falls d ss (interface c us) (interface c ts) a)

    pub formal_above_below : (c d : ClassId) (ts ss us : Types) → IsAbove table c ts (interface d us) → Ms (paired AtMost us ss) < M AtMost (interface c ts) (interface d ss)
    formal_above_below c d ts ss us a = omega (arith, arguments_below AtMost d d us ss, above_falls c ts (interface d us) (interface d ss) a)

    -- parts of function types
    module _ (f g : FunctionType) where
      abbrev Whole : Side → ℕ
      Whole side = M side (function_type f) (function_type g)

      has_param : (h : FunctionType) (t : Ty) → HasType (types_of (params_of h)) t → HasType (join (types_of h.required) (types_of h.optional)) t
      has_param h t a = subst (λ (ts : Types). HasType ts t) (sym (join-types_of h.required h.optional)) a

      pub params_below : (side : Side) → Ms (paired (opposite side) (types_of (params_of f)) (types_of (params_of g))) ≤ Whole side
      params_below AtLeast =
          paired_below AtMost (types_of (params_of f)) (types_of (params_of g)) (Whole AtLeast)
          (λ t s a b. laws.measures.parameters (types_of g.required) (types_of g.optional) (types_of f.required) (types_of f.optional) (named_of g.named) (named_of f.named) g.result f.result _ _ (has_param g s b) (has_param f t a))
      params_below AtMost =
          paired_below AtLeast (types_of (params_of f)) (types_of (params_of g)) (Whole AtMost)
          (λ t s a b. laws.measures.parameters (types_of f.required) (types_of f.optional) (types_of g.required) (types_of g.optional) (named_of f.named) (named_of g.named) f.result g.result _ _ (has_param f t a) (has_param g s b))

      pub names_below : (side : Side) → Ms (paired_by_name (opposite side) (named_of f.named) (named_of g.named)) ≤ Whole side
      names_below AtLeast =
          named_below AtMost (named_of f.named) (named_of g.named) (Whole AtLeast)
          (λ l m t s a b. laws.measures.named (types_of g.required) (types_of g.optional) (types_of f.required) (types_of f.optional) (named_of g.named) (named_of f.named) g.result f.result _ _ _ _ b a)
      names_below AtMost =
          named_below AtLeast (named_of f.named) (named_of g.named) (Whole AtMost)
          (λ l m t s a b. laws.measures.named (types_of f.required) (types_of f.optional) (types_of g.required) (types_of g.optional) (named_of f.named) (named_of g.named) f.result g.result _ _ _ _ a b)

      pub result_below : (side : Side) → M side f.result g.result < Whole side
      result_below AtLeast = laws.measures.results (types_of g.required) (types_of g.optional) (types_of f.required) (types_of f.optional) (named_of g.named) (named_of f.named) g.result f.result
      result_below AtMost = laws.measures.results (types_of f.required) (types_of f.optional) (types_of g.required) (types_of g.optional) (named_of f.named) (named_of g.named) f.result g.result
