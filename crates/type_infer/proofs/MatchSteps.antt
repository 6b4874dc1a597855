-- The rules of matching, as the code takes them.
use Rattle.std.specs.declared.rc.Rc.{Rc}
use Rattle.std.proofs.Common.{◌≡◌, ℕ, ◌++◌, Global, Bool, true, false, List, [], ◌∷◌, Option, Some, None, Result, Ok, Err, refl, sym, ◌∙◌, subst}
use Rattle.std.specs.Prelude.{◌≢◌, ◌||◌, not}
use Rattle.dart_types.specs.Ty.{Ty, Types, invalid, never, void, null, interface, function, variable, promoted, nullable, types_of, join}
use Rattle.dart_types.specs.Named.{named_of}
use Rattle.dart_types.specs.Node.{type_of, function_type}
use Rattle.dart_types.specs.Forms.{params_of}
use Rattle.dart_types.specs.Same.{same_class}
use Rattle.dart_types.specs.Tables.{Table}
use Rattle.dart_types.specs.Heads.{is_plain}
use Rattle.dart_types.specs.Marks.{is_marked}
use Rattle.dart_types.specs.declared.ids.ClassId.{ClassId}
use Rattle.dart_types.specs.declared.ids.VarId.{VarId}
use Rattle.dart_types.specs.declared.types.DartType.{DartType}
use Rattle.dart_types.specs.declared.types.FunctionType.{FunctionType}
use Rattle.dart_types.specs.declared.types.NamedType.{NamedType}
use Rattle.dart_types.specs.declared.types.TypeList.{TypeList}
use Rattle.dart_types.specs.declared.types.TypeNode.{TypeNode}
use Rattle.dart_types.specs.declared.types.TypeNode.TheVariants.{Invalid, Never, Void, Null, Interface, Function, Var, Promoted, Nullable}
use Rattle.dart_types.specs.declared.refusal.TypeRefusal.{TypeRefusal}
use Rattle.dart_types.specs.declared.refusal.TypeRefusal.TheVariants.{TooLarge, Memory}
use Rattle.type_bounds.specs.Bounds.{is_bare}
use Rattle.type_infer.specs.Above.{arguments_of, FormsAbove}
use Rattle.type_infer.specs.Constraints.{opposite}
use Rattle.type_infer.specs.Finds.{Finds}
use Rattle.type_infer.specs.Matching.{End, mismatched, too_large, ended, is_on_side, is_built, is_as_it_stands, gives_way_at_mark, is_class, is_function, is_leaf, Match, fixed, faced, Face, MatchAll, constrained, open_there, null_at_mark, marked_both, marked_formal, marked_subtype, marked_other, bound_of_other, unbound_other, promoted_other, one_class, other_climbs, formal_climbs, other_too_large, formal_too_large, other_elsewhere, formal_elsewhere, functions, other_signature, leaf}
use Rattle.type_infer.specs.Holding.{holds_param}
use Rattle.type_infer.specs.Open.{is_open}
use Rattle.type_infer.specs.Pairs.{Pair, pair, paired, paired_by_name, signatures_fit}
use Rattle.type_infer.specs.Ways.{WayAtMark, kept, to_none, to_last, past_mark, GivesWay, stands, to_bound, to_nothing, to_promoted, to_bare}
use Rattle.type_infer.specs.declared.constraints.Constraint.{Constraint}
use Rattle.type_infer.specs.declared.constraints.Side.{Side}
use Rattle.type_infer.specs.declared.constraints.Side.TheVariants.{AtLeast, AtMost}
use Rattle.type_infer.proofs.FindSteps.{finds_by, finds_nothing, finds_no_fit, finds_then, finds_end, finds_refusal}
use Rattle.type_infer.proofs.NameTests.{join-types_of}

-- forms of types, by what they are not
pub bare_node : (n : TypeNode) → n ≢ Null → ((u : Rc DartType Global) → n ≢ Nullable u) → is_bare (type_of n) ≡ true
bare_node Invalid h k = refl
bare_node Never h k = refl
bare_node Void h k = refl
bare_node Null h k = absurd (h refl)
bare_node (Interface c ts) h k = refl
bare_node (Function f) h k = refl
bare_node (Var x) h k = refl
bare_node (Promoted x u) h k = refl
bare_node (Nullable u) h k = absurd (k u refl)

pub no_class : (n : TypeNode) → ((c : ClassId) (ts : Rc TypeList Global) → n ≢ Interface c ts) → is_class (type_of n) ≡ false
no_class Invalid h = refl
no_class Never h = refl
no_class Void h = refl
no_class Null h = refl
no_class (Interface c ts) h = absurd (h c ts refl)
no_class (Function f) h = refl
no_class (Var x) h = refl
no_class (Promoted x u) h = refl
no_class (Nullable u) h = refl

pub no_function : (n : TypeNode) → ((f : Rc FunctionType Global) → n ≢ Function f) → is_function (type_of n) ≡ false
no_function Invalid h = refl
no_function Never h = refl
no_function Void h = refl
no_function Null h = refl
no_function (Interface c ts) h = refl
no_function (Function f) h = absurd (h f refl)
no_function (Var x) h = refl
no_function (Promoted x u) h = refl
no_function (Nullable u) h = refl

-- a class faces no class, and a function type no function type
pub class_leaf : (side : Side) (c : ClassId) (ts : Types) (s : Ty) → is_as_it_stands side s ≡ true → is_class s ≡ false → is_leaf side (interface c ts) s ≡ true
class_leaf side c ts s h k = rw (h, k) refl

pub function_leaf : (side : Side) (f : FunctionType) (s : Ty) → is_as_it_stands side s ≡ true → is_function s ≡ false → is_leaf side (function_type f) s ≡ true
function_leaf side f s h k = rw (h, k) refl

module _ (table : Table) (params : List VarId) (side : Side) where
  abbrev Fit : Ty → Ty → List Constraint → End → Type 0
  Fit t s = Face table params side t s

  -- types that fit where the one is a subtype of the other
  pub finds_ended : (so : List Constraint → End → Type 0) (t s : Ty) (before : List Constraint) (b : Bool) → b ≡ is_on_side table side t s → so [] (ended (is_on_side table side t s)) → Finds so before before (Ok b)
  finds_ended so t s before true e m = finds_nothing so before (subst (λ (x : Bool). so [] (ended x)) (sym e) m)
  finds_ended so t s before false e m = finds_no_fit so before (subst (λ (x : Bool). so [] (ended x)) (sym e) m)

  -- a leaf
  pub finds_leaf : (t s u : Ty) (before : List Constraint) (b : Bool) → t ≡ u → is_leaf side u s ≡ true → b ≡ is_on_side table side t s → Finds (Fit t s) before before (Ok b)
  finds_leaf t s u before b is l e = finds_ended (Fit t s) t s before b e (leaf (subst (λ (v : Ty). is_leaf side v s ≡ true) (sym is) l))

  -- types that are others by name
  pub finds_at : (t s t' s' : Ty) (before after : List Constraint) (r : Result Bool TypeRefusal) → t ≡ t' → s ≡ s' → Finds (Fit t' s') before after r → Finds (Fit t s) before after r
  finds_at t s t' s' before after r e k f = subst (λ (u : Ty). Finds (Fit u s) before after r) (sym e) (subst (λ (u : Ty). Finds (Fit t' u) before after r) (sym k) f)

  -- a formal in which no parameter stands, and any other
  pub finds_fixed : (t s : Ty) (before : List Constraint) (b : Bool) → holds_param params t ≡ false → b ≡ is_on_side table side t s → Finds (Match table params side t s) before before (Ok b)
  finds_fixed t s before b h e = finds_ended (Match table params side t s) t s before b e (fixed h)

  pub finds_faced : (t s : Ty) (before after : List Constraint) (r : Result Bool TypeRefusal) → holds_param params t ≡ true → Finds (Fit t s) before after r → Finds (Match table params side t s) before after r
  finds_faced t s before after r h f = finds_by (Fit t s) (Match table params side t s) before after r (λ cs end m. faced h m) f

  -- a parameter
  pub finds_open : (x : VarId) (s : Ty) (before : List Constraint) → is_open s ≡ true → Finds (Fit (variable x) s) before before (Ok true)
  finds_open x s before o = finds_nothing (Fit (variable x) s) before (open_there o)

  pub finds_constraint : (x : VarId) (s copied : Ty) (before after : List Constraint) → is_open s ≡ false → copied ≡ s → after ≡ before ++ record { param = x; side = side; ty = copied } ∷ [] → Finds (Fit (variable x) s) before after (Ok true)
  finds_constraint x s copied before after o same e = subst (λ (u : Ty). Finds (Fit (variable x) u) before after (Ok true)) same found
    where
      found : Finds (Fit (variable x) copied) before after (Ok true)
      found = (record { param = x; side = side; ty = copied } ∷ [], constrained (subst (λ (u : Ty). is_open u ≡ false) (sym same) o), e)

  -- a formal with `?`
  pub finds_null : (t s : Ty) (before : List Constraint) → s ≡ null → Finds (Fit (nullable t) s) before before (Ok true)
  finds_null t s before is = subst (λ (u : Ty). Finds (Fit (nullable t) u) before before (Ok true)) (sym is) (finds_nothing (Fit (nullable t) null) before null_at_mark)

  pub finds_both_marked : (t s u : Ty) (before after : List Constraint) (r : Result Bool TypeRefusal) → gives_way_at_mark side t ≡ false → s ≡ nullable u → Finds (Fit t u) before after r → Finds (Fit (nullable t) s) before after r
  finds_both_marked t s u before after r k is f = subst (λ (v : Ty). Finds (Fit (nullable t) v) before after r) (sym is) (finds_by (Fit t u) (Fit (nullable t) (nullable u)) before after r (λ cs end m. marked_both k m) f)

  pub finds_bare : (t s : Ty) (before after : List Constraint) (r : Result Bool TypeRefusal) → is_bare s ≡ true → (is_as_it_stands side s || not (is_plain t)) ≡ true → Finds (Fit t s) before after r → Finds (Fit (nullable t) s) before after r
  finds_bare t s before after r b k f = finds_by (Fit t s) (Fit (nullable t) s) before after r (λ cs end m. marked_formal b k m) f

-- what a type gives way to
way_fits : (table : Table) (params : List VarId) (t : Ty) → is_built t ≡ true → {side : Side} {s : Ty} {last : Option Ty} → (side ≡ AtMost → is_plain t ≡ true) → GivesWay table side s last → (u : Ty) → last ≡ Some u → (cs : List Constraint) (end : End) → Face table params side t u cs end → Face table params side t s cs end
way_fits table params t b {side} {s} p (stands k) u e cs end m = let is : u ≡ s = cc in subst (λ (v : Ty). Face table params side t v cs end) is m
way_fits table params t b p (to_bound k g) u e cs end m = bound_of_other b k (way_fits table params t b p g u e cs end m)
way_fits table params t b p (to_nothing k) u e cs end m = cc
way_fits table params t b p (to_promoted g) u e cs end m = promoted_other b (way_fits table params t b p g u e cs end m)
way_fits table params t b p (to_bare g) u e cs end m = marked_other (p refl) (way_fits table params t b p g u e cs end m)

way_ends : (table : Table) (params : List VarId) (t : Ty) → is_built t ≡ true → {side : Side} {s : Ty} {last : Option Ty} → (side ≡ AtMost → is_plain t ≡ true) → GivesWay table side s last → last ≡ None → Face table params side t s [] mismatched
way_ends table params t b p (stands k) e = cc
way_ends table params t b p (to_bound k g) e = bound_of_other b k (way_ends table params t b p g e)
way_ends table params t b p (to_nothing k) e = unbound_other b k
way_ends table params t b p (to_promoted g) e = promoted_other b (way_ends table params t b p g e)
way_ends table params t b p (to_bare g) e = marked_other (p refl) (way_ends table params t b p g e)

-- a supertype without `?` stands
bare_stands : (u : Ty) → is_bare u ≡ true → is_as_it_stands AtMost u ≡ true
bare_stands invalid b = refl
bare_stands never b = refl
bare_stands void b = refl
bare_stands null b = refl
bare_stands (interface c ts) b = refl
bare_stands (function r o n e) b = refl
bare_stands (variable x) b = refl
bare_stands (promoted x t) b = refl
bare_stands (nullable t) b = cc

plain_built : (t : Ty) → is_plain t ≡ true → is_built t ≡ true
plain_built invalid h = cc
plain_built never h = cc
plain_built void h = cc
plain_built null h = cc
plain_built (interface c ts) h = refl
plain_built (function r o n e) h = refl
plain_built (variable x) h = cc
plain_built (promoted x t) h = cc
plain_built (nullable t) h = cc

pub way_stands : (table : Table) {side : Side} {s : Ty} {last : Option Ty} → GivesWay table side s last → (u : Ty) → last ≡ Some u → is_as_it_stands side u ≡ true
way_stands table {side} {s} (stands k) u e = let is : s ≡ u = cc in subst (λ (v : Ty). is_as_it_stands side v ≡ true) is k
way_stands table (to_bound k g) u e = way_stands table g u e
way_stands table (to_nothing k) u e = cc
way_stands table (to_promoted g) u e = way_stands table g u e
way_stands table (to_bare g) u e = way_stands table g u e

module _ (table : Table) (params : List VarId) where
  abbrev All : List Pair → List Constraint → End → Type 0
  All ps = MatchAll table params ps

  pub finds_way : (side : Side) (t s u : Ty) (before after : List Constraint) (r : Result Bool TypeRefusal) → is_plain t ≡ true → GivesWay table side s (Some u) → Finds (Face table params side t u) before after r → Finds (Face table params side t s) before after r
  finds_way side t s u before after r h g f = finds_by (Face table params side t u) (Face table params side t s) before after r (way_fits table params t (plain_built t h) (λ e. h) g u refl) f

  pub finds_no_way : (side : Side) (t s : Ty) (before : List Constraint) → is_plain t ≡ true → GivesWay table side s None → Finds (Face table params side t s) before before (Ok false)
  finds_no_way side t s before h g = finds_no_fit (Face table params side t s) before (way_ends table params t (plain_built t h) (λ e. h) g refl)

  -- what another type gives way to where the formal keeps its `?`
  module _ (t s : Ty) where
    abbrev Marked : Side → Ty → List Constraint → End → Type 0
    Marked side = Face table params side (nullable t)

    mark_fits : is_plain t ≡ true → {x : Ty} {last : Option Ty} → WayAtMark table true x last → (u : Ty) → last ≡ Some u → (cs : List Constraint) (end : End) → Marked AtLeast u cs end → Marked AtLeast x cs end
    mark_fits h (to_none g) u e cs end m = cc
    mark_fits h (to_last g k) u e cs end m = way_fits table params (nullable t) h (λ i. cc) g u e cs end m
    mark_fits h (past_mark {u = v} g w) u e cs end m = way_fits table params (nullable t) h (λ i. cc) g (nullable v) refl cs end (marked_subtype h (mark_fits h w u e cs end m))

    mark_ends : is_plain t ≡ true → {x : Ty} {last : Option Ty} → WayAtMark table true x last → last ≡ None → Marked AtLeast x [] mismatched
    mark_ends h (to_none g) e = way_ends table params (nullable t) h (λ i. cc) g refl
    mark_ends h (to_last g k) e = cc
    mark_ends h (past_mark {u = v} g w) e = way_fits table params (nullable t) h (λ i. cc) g (nullable v) refl [] mismatched (marked_subtype h (mark_ends h w e))

    mark_stands : {x : Ty} {last : Option Ty} → WayAtMark table true x last → (u : Ty) → last ≡ Some u → (is_as_it_stands AtLeast u ≡ true) × (is_marked u ≡ false)
    mark_stands (to_none g) u e = cc
    mark_stands (to_last {last = v} g k) u e = let is : v ≡ u = cc in (way_stands table g u e, subst (λ (w : Ty). is_marked w ≡ false) is k)
    mark_stands (past_mark g w) u e = mark_stands w u e

    kept_same : (u : Ty) → WayAtMark table false s (Some u) → s ≡ u
    kept_same u kept = refl

    pub finds_way_at_mark : (side : Side) (u : Ty) (before after : List Constraint) (r : Result Bool TypeRefusal) → WayAtMark table (gives_way_at_mark side t) s (Some u) → Finds (Marked side u) before after r → Finds (Marked side s) before after r
    finds_way_at_mark AtLeast u before after r w f = at (is_plain t) refl w
      where
        at : (k : Bool) → is_plain t ≡ k → WayAtMark table k s (Some u) → Finds (Marked AtLeast s) before after r
        at true h g = finds_by (Marked AtLeast u) (Marked AtLeast s) before after r (mark_fits h g u refl) f
        at false h g = subst (λ (v : Ty). Finds (Marked AtLeast v) before after r) (sym (kept_same u g)) f
    finds_way_at_mark AtMost u before after r w f = subst (λ (v : Ty). Finds (Marked AtMost v) before after r) (sym (kept_same u w)) f

    none_kept : WayAtMark table false s None → ⊥
    none_kept w = elim w [ ]

    pub finds_no_way_at_mark : (side : Side) (before : List Constraint) → WayAtMark table (gives_way_at_mark side t) s None → Finds (Marked side s) before before (Ok false)
    finds_no_way_at_mark AtLeast before w = at (is_plain t) refl w
      where
        at : (k : Bool) → is_plain t ≡ k → WayAtMark table k s None → Finds (Marked AtLeast s) before before (Ok false)
        at true h g = finds_no_fit (Marked AtLeast s) before (mark_ends h g refl)
        at false h g = absurd (none_kept g)
    finds_no_way_at_mark AtMost before w = absurd (none_kept w)

    -- what is faced then is taken as it stands, or the formal is no class and no function type
    pub taken_at_mark : (side : Side) (u : Ty) → WayAtMark table (gives_way_at_mark side t) s (Some u) → is_bare u ≡ true → (is_as_it_stands side u || not (is_plain t)) ≡ true
    taken_at_mark AtLeast u w b = at (is_plain t) w
      where
        at : (k : Bool) → WayAtMark table k s (Some u) → (is_as_it_stands AtLeast u || not k) ≡ true
        at true g = rw ((mark_stands g u refl).0) refl
        at false g = either (is_as_it_stands AtLeast u)
          where
            either : (k : Bool) → (k || true) ≡ true
            either true = refl
            either false = refl
    taken_at_mark AtMost u w b = rw (bare_stands u b) refl

    -- and where it has a `?`, the formal is none
    pub marked_at_mark : (side : Side) (u : Ty) → WayAtMark table (gives_way_at_mark side t) s (Some (nullable u)) → gives_way_at_mark side t ≡ false
    marked_at_mark AtLeast u w = at (is_plain t) w
      where
        at : (k : Bool) → WayAtMark table k s (Some (nullable u)) → k ≡ false
        at true g = let m = (mark_stands g (nullable u) refl).1 in cc
        at false g = refl
    marked_at_mark AtMost u w = refl

  -- classes
  module _ (side : Side) (c d : ClassId) (ts ss : Types) (before after : List Constraint) where
    abbrev Classes : List Constraint → End → Type 0
    Classes = Face table params side (interface c ts) (interface d ss)

    pub finds_one_class : (r : Result Bool TypeRefusal) → same_class c d ≡ true → Finds (All (paired side ts ss)) before after r → Finds Classes before after r
    finds_one_class r e f = finds_by (All (paired side ts ss)) Classes before after r (λ cs end m. one_class e m) f

    module _ (other : same_class c d ≡ false) where
      -- at least
      pub finds_above_other : (r : Result Bool TypeRefusal) (above : Ty) → side ≡ AtLeast → FormsAbove table d ss c (Ok (Some above)) → Finds (All (paired side ts (arguments_of above))) before after r → Finds Classes before after r
      finds_above_other r above is a f =
          finds_by (All (paired side ts (arguments_of above))) Classes before after r
          (λ cs end m. subst (λ (k : Side). Face table params k (interface c ts) (interface d ss) cs end) (sym is) (other_climbs other a.1 a.2 (subst (λ (k : Side). All (paired k ts (arguments_of above)) cs end) is m))) f

      pub finds_other_elsewhere : (b : Bool) → side ≡ AtLeast → FormsAbove table d ss c (Ok None) → b ≡ is_on_side table side (interface c ts) (interface d ss) → Finds Classes before before (Ok b)
      finds_other_elsewhere b is a e =
          finds_ended table params side Classes (interface c ts) (interface d ss) before b e
          (subst (λ (k : Side). Face table params k (interface c ts) (interface d ss) [] (ended (is_on_side table k (interface c ts) (interface d ss)))) (sym is) (other_elsewhere other a))

      pub finds_other_refused : (e : TypeRefusal) → side ≡ AtLeast → FormsAbove table d ss c (Err e) → Finds Classes before after (Err e)
      finds_other_refused (TooLarge nodes) is a =
          ([], subst (λ (k : Side). Face table params k (interface c ts) (interface d ss) [] (too_large nodes)) (sym is) (subst (λ (n : ℕ). Face table params AtLeast (interface c ts) (interface d ss) [] (too_large n)) (sym a.3) (other_too_large other a.1 a.2)))
      finds_other_refused Memory is a = tt

      -- at most
      pub finds_above_formal : (r : Result Bool TypeRefusal) (above : Ty) → side ≡ AtMost → FormsAbove table c ts d (Ok (Some above)) → Finds (All (paired side (arguments_of above) ss)) before after r → Finds Classes before after r
      finds_above_formal r above is a f =
          finds_by (All (paired side (arguments_of above) ss)) Classes before after r
          (λ cs end m. subst (λ (k : Side). Face table params k (interface c ts) (interface d ss) cs end) (sym is) (formal_climbs other a.1 a.2 (subst (λ (k : Side). All (paired k (arguments_of above) ss) cs end) is m))) f

      pub finds_formal_elsewhere : (b : Bool) → side ≡ AtMost → FormsAbove table c ts d (Ok None) → b ≡ is_on_side table side (interface c ts) (interface d ss) → Finds Classes before before (Ok b)
      finds_formal_elsewhere b is a e =
          finds_ended table params side Classes (interface c ts) (interface d ss) before b e
          (subst (λ (k : Side). Face table params k (interface c ts) (interface d ss) [] (ended (is_on_side table k (interface c ts) (interface d ss)))) (sym is) (formal_elsewhere other a))

      pub finds_formal_refused : (e : TypeRefusal) → side ≡ AtMost → FormsAbove table c ts d (Err e) → Finds Classes before after (Err e)
      finds_formal_refused (TooLarge nodes) is a =
          ([], subst (λ (k : Side). Face table params k (interface c ts) (interface d ss) [] (too_large nodes)) (sym is) (subst (λ (n : ℕ). Face table params AtMost (interface c ts) (interface d ss) [] (too_large n)) (sym a.3) (formal_too_large other a.1 a.2)))
      finds_formal_refused Memory is a = tt

  -- function types
  module _ (side : Side) (f g : FunctionType) (before : List Constraint) where
    abbrev Functions : List Constraint → End → Type 0
    Functions = Face table params side (function_type f) (function_type g)

    abbrev pub FitsSo : Bool
    FitsSo = signatures_fit side (types_of f.required) (types_of f.optional) (named_of f.named) (types_of g.required) (types_of g.optional) (named_of g.named)

    abbrev pub Positional : List Pair
    Positional = paired (opposite side) (types_of (params_of f)) (types_of (params_of g))

    abbrev pub Names : List Pair
    Names = paired_by_name (opposite side) (named_of f.named) (named_of g.named)

    abbrev pub Results : List Pair
    Results = pair side f.result g.result ∷ []

    pub at_positional : (k : Side) (from to : List Constraint) (r : Result Bool TypeRefusal) → k ≡ opposite side → Finds (All (paired k (types_of (params_of f)) (types_of (params_of g)))) from to r → Finds (All Positional) from to r
    at_positional k from to r e found = subst (λ (l : Side). Finds (All (paired l (types_of (params_of f)) (types_of (params_of g)))) from to r) e found

    pub at_names : (k : Side) (ns ms : List NamedType) (from to : List Constraint) (r : Result Bool TypeRefusal) → k ≡ opposite side → ns ≡ f.named → ms ≡ g.named → Finds (All (paired_by_name k (named_of ns) (named_of ms))) from to r → Finds (All Names) from to r
    at_names k ns ms from to r e n m found =
        let same : paired_by_name k (named_of ns) (named_of ms) ≡ Names = rw (e, n, m) refl in
        subst (λ (ps : List Pair). Finds (All ps) from to r) same found

    pub finds_other_signature : (fit : Bool) → fit ≡ FitsSo → fit ≡ false → Finds Functions before before (Ok false)
    finds_other_signature fit is e = finds_no_fit Functions before (other_signature (sym is ∙ e))

    finds_parts : FitsSo ≡ true → (after : List Constraint) (r : Result Bool TypeRefusal) → Finds (All (Positional ++ (Names ++ Results))) before after r → Finds Functions before after r
    finds_parts e after r found =
        let same : Positional ≡ paired (opposite side) (join (types_of f.required) (types_of f.optional)) (join (types_of g.required) (types_of g.optional)) = rw (join-types_of f.required f.optional, join-types_of g.required g.optional) refl in
        finds_by (All (Positional ++ (Names ++ Results))) Functions before after r (λ cs end m. functions e (subst (λ (ps : List Pair). All (ps ++ (Names ++ Results)) cs end) same m)) found

    module _ (fit : Bool) (is : fit ≡ FitsSo) (so : fit ≡ true) where
      e : FitsSo ≡ true
      e = sym is ∙ so

      pub finds_no_params : (after : List Constraint) (b : Bool) → Finds (All Positional) before after (Ok b) → b ≡ false → Finds Functions before after (Ok false)
      finds_no_params after b p k = finds_parts e after (Ok false) (finds_end table params Positional (Names ++ Results) before after b p k)

      pub finds_params_refused : (mid after : List Constraint) (x : TypeRefusal) → Finds (All Positional) before mid (Err x) → Finds Functions before after (Err x)
      finds_params_refused mid after x p = finds_parts e after (Err x) (finds_refusal table params Positional (Names ++ Results) before mid after x p)

      module _ (mid : List Constraint) (b : Bool) (positional : Finds (All Positional) before mid (Ok b)) (passed : b ≡ true) where
        finds_rest : (after : List Constraint) (r : Result Bool TypeRefusal) → Finds (All (Names ++ Results)) mid after r → Finds Functions before after r
        finds_rest after r found = finds_parts e after r (finds_then table params Positional (Names ++ Results) before mid after b r positional passed found)

        pub finds_no_names : (after : List Constraint) (k : Bool) → Finds (All Names) mid after (Ok k) → k ≡ false → Finds Functions before after (Ok false)
        finds_no_names after k p l = finds_rest after (Ok false) (finds_end table params Names Results mid after k p l)

        pub finds_names_refused : (last after : List Constraint) (x : TypeRefusal) → Finds (All Names) mid last (Err x) → Finds Functions before after (Err x)
        finds_names_refused last after x p = finds_rest after (Err x) (finds_refusal table params Names Results mid last after x p)

        pub finds_result : (last after : List Constraint) (k : Bool) (r : Result Bool TypeRefusal) → Finds (All Names) mid last (Ok k) → k ≡ true → Finds (All Results) last after r → Finds Functions before after r
        finds_result last after k r p l found = finds_rest after r (finds_then table params Names Results mid last after k r p l found)
