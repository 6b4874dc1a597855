-- Types weigh more than the parts that their bounds ask for.
use Rattle.std.proofs.Common.{◌≡◌, ℕ, zero, suc, ◌+◌, ◌*◌, ◌<◌, ◌≤◌, Bool, true, false, List, [], ◌∷◌, length, get_or, Some, refl, ap, subst, cond, arith}
use Rattle.std.specs.Prelude.{◌||◌, bytes_eq}
use Rattle.dart_types.specs.Ty.{Ty, Types, Named, invalid, never, void, null, interface, function, variable, promoted, nullable, no_more, more, no_named, more_named, types_of}
use Rattle.dart_types.specs.Named.{named_of, type_named}
use Rattle.dart_types.specs.Node.{function_type}
use Rattle.dart_types.specs.Tables.{Table}
use Rattle.dart_types.specs.Measure.{weight, weights, weights_named, of_var, weight_of}
use Rattle.dart_types.specs.declared.ids.ClassId.{ClassId}
use Rattle.dart_types.specs.declared.types.FunctionType.{FunctionType}
use Rattle.dart_types.specs.declared.types.NamedType.{NamedType}
use Rattle.dart_types.specs.Marks.{is_marked}
use Rattle.type_bounds.specs.Bounds.{bare_of}
use Rattle.type_bounds.proofs.NonNulls.{bare_weighs}

-- the weight of the types of a list
abbrev pub weights_of : Table → Types → ℕ
weights_of table no_more = 0
weights_of table (more t ts) = weight_of table t + weights_of table ts

-- the weight of the types of named parameters
abbrev pub named_weights_of : Table → Named → ℕ
named_weights_of table no_named = 0
named_weights_of table (more_named n r t ts) = weight_of table t + named_weights_of table ts

module _ (table : Table) where
  -- the weight of a list is that of its types
  pub weights-same : (ts : Types) → weights (of_var weight table) ts ≡ weights_of table ts
  unfolding weight_of
  weights-same no_more = refl
  weights-same (more t ts) = omega (arith, weights-same ts)

  pub named_weights-same : (ns : Named) → weights_named (of_var weight table) ns ≡ named_weights_of table ns
  unfolding weight_of
  named_weights-same no_named = refl
  named_weights-same (more_named n r t ns) = omega (arith, named_weights-same ns)

  -- a class weighs more than its arguments
  pub arguments_weigh : (c : ClassId) (ts : Types) → weights_of table ts < weight_of table (interface c ts)
  unfolding weight_of
  arguments_weigh c ts = omega (arith, weights-same ts)

  pub arguments_fall : (c d : ClassId) (ss ts xs ys : List Ty) {t : Ty} → t ≡ interface d (types_of ts) → xs ≡ ss → ys ≡ ts → weights_of table (types_of xs) + weights_of table (types_of ys) + 1 < weight_of table (interface c (types_of ss)) + weight_of table t
  arguments_fall c d ss ts xs ys is e f =
      omega (arith, arguments_weigh c (types_of ss), arguments_weigh d (types_of ts), ap (λ (us : List Ty). weights_of table (types_of us)) e, ap (λ (us : List Ty). weights_of table (types_of us)) f, ap (weight_of table) is)

  -- a function type weighs more than two times its parts
  parts_weigh : (f : FunctionType) → 2 * (weights_of table (types_of f.required) + (weights_of table (types_of f.optional) + (named_weights_of table (named_of f.named) + weight_of table f.result))) < weight_of table (function_type f)
  unfolding weight_of
  parts_weigh f = omega (arith, weights-same (types_of f.required), weights-same (types_of f.optional), named_weights-same (named_of f.named))

  module _ (f g : FunctionType) where
    abbrev Both : ℕ
    Both = weight_of table (function_type f) + weight_of table (function_type g)

    pub required_fall : (xs ys : List Ty) → xs ≡ f.required → ys ≡ g.required → weights_of table (types_of xs) + weights_of table (types_of ys) + 1 < Both
    required_fall xs ys d e = omega (arith, parts_weigh f, parts_weigh g, ap (λ (us : List Ty). weights_of table (types_of us)) d, ap (λ (us : List Ty). weights_of table (types_of us)) e)

    pub optional_fall : (xs ys : List Ty) → xs ≡ f.optional → ys ≡ g.optional → weights_of table (types_of xs) + weights_of table (types_of ys) + 1 < Both
    optional_fall xs ys d e = omega (arith, parts_weigh f, parts_weigh g, ap (λ (us : List Ty). weights_of table (types_of us)) d, ap (λ (us : List Ty). weights_of table (types_of us)) e)

    pub named_fall : (ns ms : List NamedType) → ns ≡ f.named → ms ≡ g.named → named_weights_of table (named_of ns) + named_weights_of table (named_of ms) + 1 < Both
    named_fall ns ms d e = omega (arith, parts_weigh f, parts_weigh g, ap (λ (us : List NamedType). named_weights_of table (named_of us)) d, ap (λ (us : List NamedType). named_weights_of table (named_of us)) e)

    pub results_fall : weight_of table f.result + weight_of table g.result + 1 < Both
    results_fall = omega (arith, parts_weigh f, parts_weigh g)

  -- a type weighs more than without its `?`
  marked_weighs : (t : Ty) → is_marked t ≡ true → weight_of table (bare_of t) < weight_of table t
  marked_weighs invalid h = cc
  marked_weighs never h = cc
  marked_weighs void h = cc
  marked_weighs null h = cc
  marked_weighs (interface c ts) h = cc
  marked_weighs (function r o n e) h = cc
  marked_weighs (variable x) h = cc
  marked_weighs (promoted x t) h = cc
  marked_weighs (nullable t) h = bare_weighs table t

  bare_no_heavier : (t : Ty) → weight_of table (bare_of t) ≤ weight_of table t
  bare_no_heavier invalid = omega arith
  bare_no_heavier never = omega arith
  bare_no_heavier void = omega arith
  bare_no_heavier null = omega arith
  bare_no_heavier (interface c ts) = omega arith
  bare_no_heavier (function r o n e) = omega arith
  bare_no_heavier (variable x) = omega arith
  bare_no_heavier (promoted x t) = omega arith
  bare_no_heavier (nullable t) = omega (arith, bare_weighs table t)

  pub marked_fall : (s t : Ty) → (is_marked s || is_marked t) ≡ true → weight_of table (bare_of s) + weight_of table (bare_of t) < weight_of table s + weight_of table t
  marked_fall s t h = at (is_marked s) refl h
    where
      at : (b : Bool) → is_marked s ≡ b → (b || is_marked t) ≡ true → weight_of table (bare_of s) + weight_of table (bare_of t) < weight_of table s + weight_of table t
      at true e k = omega (arith, marked_weighs s e, bare_no_heavier t)
      at false e k = omega (arith, bare_no_heavier s, marked_weighs t k)

  -- a list weighs no less than the type at a place
  at_place : (xs : List Ty) (i : ℕ) (d : Ty) → i < length xs → weight_of table (get_or xs i d) ≤ weights_of table (types_of xs)
  at_place [] i d lt = absurd (omega arith)
  at_place (x ∷ xs) zero d lt = omega arith
  at_place (x ∷ xs) (suc i) d lt = omega (arith, at_place xs i d (omega arith))

  named_at_place : (ns : List NamedType) (i : ℕ) (d : NamedType) → i < length ns → weight_of table (get_or ns i d).ty ≤ named_weights_of table (named_of ns)
  named_at_place [] i d lt = absurd (omega arith)
  named_at_place (n ∷ ns) zero d lt = omega arith
  named_at_place (n ∷ ns) (suc i) d lt = omega (arith, named_at_place ns i d (omega arith))

  pub type_weighs : (xs : List Ty) (i : ℕ) (x : Ty) → i < length xs → x ≡ get_or xs i x → weight_of table x ≤ weights_of table (types_of xs)
  type_weighs xs i x lt is = omega (arith, at_place xs i x lt, ap (weight_of table) is)

  pub param_weighs : (ns : List NamedType) (i : ℕ) (n : NamedType) → i < length ns → n ≡ get_or ns i n → weight_of table n.ty ≤ named_weights_of table (named_of ns)
  param_weighs ns i n lt is = omega (arith, named_at_place ns i n lt, ap (λ (m : NamedType). weight_of table m.ty) is)

  -- nor less than the type of a name
  pub name_weighs : (ns : Named) (m : List ℕ) (t : Ty) → type_named ns m ≡ Some t → weight_of table t ≤ named_weights_of table ns
  name_weighs no_named m t e = cc
  name_weighs (more_named n r u ns) m t e = at (bytes_eq n m) e (λ k. name_weighs ns m t k)
    where
      at : (b : Bool) → cond b (Some u) (type_named ns m) ≡ Some t → (type_named ns m ≡ Some t → weight_of table t ≤ named_weights_of table ns) → weight_of table t ≤ weight_of table u + named_weights_of table ns
      at true k go = let is : u ≡ t = cc in subst (λ (v : Ty). weight_of table v ≤ weight_of table u + named_weights_of table ns) is (omega arith)
      at false k go = omega (arith, go k)
