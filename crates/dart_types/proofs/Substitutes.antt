-- What is put in for variables, one substitution after another, and what rules read of it.
use Rattle.std.proofs.Common.{◌≡◌, ℕ, ◌+◌, Bool, true, false, List, [], ◌∷◌, length, Some, refl, ap, cond, arith}
use Rattle.std.specs.Prelude.{◌&&◌, ◌||◌, bytes_eq, unwrap_or}
use Rattle.dart_types.specs.Ty.{Ty, Types, Named, invalid, never, void, null, interface, function, variable, promoted, nullable, no_more, more, no_named, more_named, count, join}
use Rattle.dart_types.specs.Same.{same_var}
use Rattle.dart_types.specs.Heads.{is_object, is_function_class, is_top, is_plain}
use Rattle.dart_types.specs.Substitution.{put, put_all, put_named, argument_of, by_params}
use Rattle.dart_types.specs.WellFormed.{is_among, IsSimple, AreSimple}
use Rattle.dart_types.specs.Sub.{HasNamed, first, later, is_required, required_in}
use Rattle.dart_types.specs.declared.ids.VarId.{VarId}

pub count-put_all : (σ : VarId → Ty) (ts : Types) → count (put_all σ ts) ≡ count ts
count-put_all σ no_more = refl
count-put_all σ (more t ts) = ap (λ k. k + 1) (count-put_all σ ts)

pub put_all-join : (σ : VarId → Ty) (ts us : Types) → put_all σ (join ts us) ≡ join (put_all σ ts) (put_all σ us)
put_all-join σ no_more us = refl
put_all-join σ (more t ts) us = ap (more (put σ t)) (put_all-join σ ts us)

-- a parameter that has an argument stands for that with σ put in, where the arguments have σ put in
pub by_params-put_all : (σ : VarId → Ty) (ps : List VarId) (ss : Types) (x : VarId) → is_among ps x ≡ true → count ss ≡ length ps → by_params ps (put_all σ ss) x ≡ put σ (by_params ps ss x)
by_params-put_all σ [] ss x h k = cc
by_params-put_all σ (p ∷ ps) no_more x h k = absurd (omega arith)
by_params-put_all σ (p ∷ ps) (more s ss) x h k = at (same_var p x) h (λ g. by_params-put_all σ ps ss x g (omega arith))
  where
    at : (b : Bool) → (b || is_among ps x) ≡ true → (is_among ps x ≡ true → by_params ps (put_all σ ss) x ≡ put σ (by_params ps ss x)) → unwrap_or (cond b (Some (put σ s)) (argument_of ps (put_all σ ss) x)) (variable x) ≡ put σ (unwrap_or (cond b (Some s) (argument_of ps ss x)) (variable x))
    at true g go = refl
    at false g go = go g

-- so it is with each type over the parameters
mutual
  pub put-by_params : (σ : VarId → Ty) (ps : List VarId) (ss : Types) → count ss ≡ length ps → (v : Ty) → IsSimple ps v → put (by_params ps (put_all σ ss)) v ≡ put σ (put (by_params ps ss) v)
  put-by_params σ ps ss k invalid i = refl
  put-by_params σ ps ss k never i = refl
  put-by_params σ ps ss k void i = refl
  put-by_params σ ps ss k null i = refl
  put-by_params σ ps ss k (interface c ts) i = ap (interface c) (put_all-by_params σ ps ss k ts i)
  put-by_params σ ps ss k (function r o n e) i = absurd i
  put-by_params σ ps ss k (variable x) i = by_params-put_all σ ps ss x i k
  put-by_params σ ps ss k (promoted x t) i = absurd i
  put-by_params σ ps ss k (nullable t) i = ap nullable (put-by_params σ ps ss k t i)

  pub put_all-by_params : (σ : VarId → Ty) (ps : List VarId) (ss : Types) → count ss ≡ length ps → (vs : Types) → AreSimple ps vs → put_all (by_params ps (put_all σ ss)) vs ≡ put_all σ (put_all (by_params ps ss) vs)
  put_all-by_params σ ps ss k no_more i = refl
  put_all-by_params σ ps ss k (more v vs) i =
      let a = put-by_params σ ps ss k v i.0 in
      let b = put_all-by_params σ ps ss k vs i.1 in
      cc

-- the forms that rules ask for stay
pub object_put : (σ : VarId → Ty) (t : Ty) → is_object t ≡ true → is_object (put σ t) ≡ true
object_put σ invalid h = cc
object_put σ never h = cc
object_put σ void h = cc
object_put σ null h = cc
object_put σ (interface c no_more) h = h
object_put σ (interface c (more t ts)) h = cc
object_put σ (function r o n e) h = cc
object_put σ (variable x) h = cc
object_put σ (promoted x t) h = cc
object_put σ (nullable t) h = cc

pub function_class_put : (σ : VarId → Ty) (t : Ty) → is_function_class t ≡ true → is_function_class (put σ t) ≡ true
function_class_put σ invalid h = cc
function_class_put σ never h = cc
function_class_put σ void h = cc
function_class_put σ null h = cc
function_class_put σ (interface c no_more) h = h
function_class_put σ (interface c (more t ts)) h = cc
function_class_put σ (function r o n e) h = cc
function_class_put σ (variable x) h = cc
function_class_put σ (promoted x t) h = cc
function_class_put σ (nullable t) h = cc

pub top_put : (σ : VarId → Ty) (t : Ty) → is_top t ≡ true → is_top (put σ t) ≡ true
top_put σ invalid h = cc
top_put σ never h = cc
top_put σ void h = h
top_put σ null h = cc
top_put σ (interface c ts) h = cc
top_put σ (function r o n e) h = cc
top_put σ (variable x) h = cc
top_put σ (promoted x t) h = cc
top_put σ (nullable t) h = object_put σ t h

pub plain_put : (σ : VarId → Ty) (t : Ty) → is_plain t ≡ true → is_plain (put σ t) ≡ true
plain_put σ invalid h = cc
plain_put σ never h = cc
plain_put σ void h = cc
plain_put σ null h = cc
plain_put σ (interface c ts) h = refl
plain_put σ (function r o n e) h = refl
plain_put σ (variable x) h = cc
plain_put σ (promoted x t) h = cc
plain_put σ (nullable t) h = cc

-- names, and what is required of them, stay
pub has_put : (σ : VarId → Ty) {ns : Named} {m : List ℕ} {t : Ty} → HasNamed ns m t → HasNamed (put_named σ ns) m (put σ t)
has_put σ first = first
has_put σ (later h) = later (has_put σ h)

pub is_required-put_named : (σ : VarId → Ty) (ns : Named) (m : List ℕ) → is_required (put_named σ ns) m ≡ is_required ns m
is_required-put_named σ no_named m = refl
is_required-put_named σ (more_named n r t ts) m = ap (λ (b : Bool). (bytes_eq n m && r) || b) (is_required-put_named σ ts m)

pub required_in-put_named : (σ : VarId → Ty) (ns ms : Named) → required_in (put_named σ ns) (put_named σ ms) ≡ required_in ns ms
required_in-put_named σ no_named ms = refl
required_in-put_named σ (more_named n r t ts) ms =
    let a = is_required-put_named σ ms n in
    let b = required_in-put_named σ ts ms in
    cc
