-- A type and its normal form.
use Rattle.std.proofs.Common.{◌≡◌, ◌+◌, ℕ, Bool, List, refl, sym, ◌∙◌, ap, subst, arith}
use Rattle.std.specs.Prelude.{◌&&◌, ◌||◌, bytes_eq}
use Rattle.dart_types.specs.Ty.{Ty, Types, Named, invalid, never, void, null, interface, function, variable, promoted, nullable, no_more, more, no_named, more_named, count, join}
use Rattle.dart_types.specs.Normal.{nullable_of, normal, normal_all, normal_named}
use Rattle.dart_types.specs.Tables.{Table}
use Rattle.dart_types.specs.WellFormed.{IsWellFormed}
use Rattle.dart_types.specs.Sub.{Sub, Subs, SubParams, SubNamed, HasNamed, first, later, is_required, reflexivity, right_top, left_bottom, left_null, right_object, left_nullable, right_nullable, left_promoted_variable, left_promoted_type, right_promoted, left_variable_bound, interface_arguments, function_class, function_types, left_top, none_left, one_left, no_param, one_param, no_name, one_name}
use Rattle.dart_types.specs.declared.ids.VarId.{VarId}
use Rattle.dart_types.proofs.NamedParams.{required_from}

-- what `?` makes of a normal form is one
settled_nullable : (t : Ty) → normal t ≡ t → normal (nullable_of t) ≡ nullable_of t
settled_nullable invalid e = refl
settled_nullable never e = refl
settled_nullable void e = refl
settled_nullable null e = refl
settled_nullable (interface c ts) e = ap nullable_of e
settled_nullable (function r o n t) e = ap nullable_of e
settled_nullable (variable x) e = refl
settled_nullable (promoted x t) e = ap nullable_of e
settled_nullable (nullable t) e = e

-- a normal form is its own
mutual
  pub normal-normal : (t : Ty) → normal (normal t) ≡ normal t
  normal-normal invalid = refl
  normal-normal never = refl
  normal-normal void = refl
  normal-normal null = refl
  normal-normal (interface c ts) = ap (interface c) (normal_all-normal_all ts)
  normal-normal (function r o n e) =
      let a = normal_all-normal_all r in
      let b = normal_all-normal_all o in
      let c = normal_named-normal_named n in
      let d = normal-normal e in
      cc
  normal-normal (variable x) = refl
  normal-normal (promoted x t) = ap (promoted x) (normal-normal t)
  normal-normal (nullable t) = settled_nullable (normal t) (normal-normal t)

  normal_all-normal_all : (ts : Types) → normal_all (normal_all ts) ≡ normal_all ts
  normal_all-normal_all no_more = refl
  normal_all-normal_all (more t ts) = let a = normal-normal t in let b = normal_all-normal_all ts in cc

  normal_named-normal_named : (ns : Named) → normal_named (normal_named ns) ≡ normal_named ns
  normal_named-normal_named no_named = refl
  normal_named-normal_named (more_named n r t ts) = let a = normal-normal t in let b = normal_named-normal_named ts in cc

pub count-normal_all : (ts : Types) → count (normal_all ts) ≡ count ts
count-normal_all no_more = refl
count-normal_all (more t ts) = ap (λ k. k + 1) (count-normal_all ts)

normal_all-join : (ts us : Types) → join (normal_all ts) (normal_all us) ≡ normal_all (join ts us)
normal_all-join no_more us = refl
normal_all-join (more t ts) us = ap (more (normal t)) (normal_all-join ts us)

is_required-normal_named : (ns : Named) (m : List ℕ) → is_required (normal_named ns) m ≡ is_required ns m
is_required-normal_named no_named m = refl
is_required-normal_named (more_named n r t ts) m = ap (λ (b : Bool). (bytes_eq n m && r) || b) (is_required-normal_named ts m)

has_normal : {ns : Named} {m : List ℕ} {t : Ty} → HasNamed ns m t → HasNamed (normal_named ns) m (normal t)
has_normal first = first
has_normal (later h) = later (has_normal h)

module _ (table : Table) (wf : IsWellFormed table) where
  -- what Never is above, every type is above
  never_any : {t : Ty} (u : Ty) → Sub table t never → Sub table t u
  never_any u reflexivity = left_bottom
  never_any u (right_top e) = cc
  never_any u left_bottom = left_bottom
  never_any u (right_object e p) = cc
  never_any u (left_nullable a b) = left_nullable (never_any u a) (never_any u b)
  never_any u (left_promoted_variable a) = left_promoted_variable (never_any u a)
  never_any u (left_promoted_type a) = left_promoted_type (never_any u a)
  never_any u (left_variable_bound b e a) = left_variable_bound b e (never_any u a)
  never_any u (function_class e) = cc
  never_any u (left_top a) = left_top (never_any u a)

  -- `T?` is below the normal form of `U?` where T is below U, which is in normal form, and above it where T is above U
  nullable_below : {t : Ty} (u : Ty) → Sub table t u → Sub table (nullable t) (nullable_of u)
  nullable_below invalid a = left_nullable (right_nullable a) left_null
  nullable_below never a = left_nullable (never_any null a) reflexivity
  nullable_below void a = right_top refl
  nullable_below null a = left_nullable a reflexivity
  nullable_below (interface c ts) a = left_nullable (right_nullable a) left_null
  nullable_below (function r o n e) a = left_nullable (right_nullable a) left_null
  nullable_below (variable x) a = left_nullable (right_nullable a) left_null
  nullable_below (promoted x u) a = left_nullable (right_nullable a) left_null
  nullable_below (nullable u) a = left_nullable a left_null

  nullable_above : {t : Ty} (u : Ty) → Sub table u t → Sub table (nullable_of u) (nullable t)
  nullable_above invalid a = left_nullable (right_nullable a) left_null
  nullable_above never a = left_null
  nullable_above void a = right_nullable a
  nullable_above null a = left_null
  nullable_above (interface c ts) a = left_nullable (right_nullable a) left_null
  nullable_above (function r o n e) a = left_nullable (right_nullable a) left_null
  nullable_above (variable x) a = left_nullable (right_nullable a) left_null
  nullable_above (promoted x u) a = left_nullable (right_nullable a) left_null
  nullable_above (nullable u) a = right_nullable a

  under_promoted : {x : VarId} {s t : Ty} → Sub table s t → Sub table (promoted x s) (promoted x t)
  under_promoted a = right_promoted (left_promoted_variable reflexivity) (left_promoted_type a)

  -- a type and its normal form are subtypes of each other
  abbrev Settles : Ty → Type 0
  Settles t = Sub table t (normal t) × Sub table (normal t) t

  abbrev AllSettle : Types → Type 0
  AllSettle no_more = Unit {0}
  AllSettle (more t ts) = Settles t × AllSettle ts

  abbrev NamedSettle : Named → Type 0
  NamedSettle no_named = Unit {0}
  NamedSettle (more_named n r t ts) = Settles t × NamedSettle ts

  all_below : (ts : Types) → AllSettle ts → Subs table ts (normal_all ts)
  all_below no_more h = none_left
  all_below (more t ts) h = one_left h.0.0 (all_below ts h.1)

  all_above : (ts : Types) → AllSettle ts → Subs table (normal_all ts) ts
  all_above no_more h = none_left
  all_above (more t ts) h = one_left h.0.1 (all_above ts h.1)

  settle_join : (ts us : Types) → AllSettle ts → AllSettle us → AllSettle (join ts us)
  settle_join no_more us h k = k
  settle_join (more t ts) us h k = (h.0, settle_join ts us h.1 k)

  params_below : (ts : Types) → AllSettle ts → SubParams table ts (normal_all ts)
  params_below no_more h = no_param
  params_below (more t ts) h = one_param h.0.0 (params_below ts h.1)

  params_above : (ts : Types) → AllSettle ts → SubParams table (normal_all ts) ts
  params_above no_more h = no_param
  params_above (more t ts) h = one_param h.0.1 (params_above ts h.1)

  -- each of some named parameters of a list is above one of the normal form of the list
  named_below : (ns all : Named) → NamedSettle ns → ((m : List ℕ) (t : Ty) → HasNamed ns m t → HasNamed all m t) → SubNamed table ns (normal_named all)
  named_below no_named all h among = no_name
  named_below (more_named n r t ts) all h among = one_name (normal t) (has_normal (among n t first)) h.0.0 (named_below ts all h.1 (λ m u k. among m u (later k)))

  named_above : (ns all : Named) → NamedSettle ns → ((m : List ℕ) (t : Ty) → HasNamed ns m t → HasNamed all m t) → SubNamed table (normal_named ns) all
  named_above no_named all h among = no_name
  named_above (more_named n r t ts) all h among = one_name t (among n t first) h.0.1 (named_above ts all h.1 (λ m u k. among m u (later k)))

  function_below : (r o : Types) (n : Named) (e : Ty) → AllSettle r → AllSettle o → NamedSettle n → Settles e → Sub table (function r o n e) (normal (function r o n e))
  function_below r o n e a b c d =
      function_types (omega (arith, count-normal_all r))
      (subst (λ (ts : Types). SubParams table ts (join r o)) (sym (normal_all-join r o)) (params_above (join r o) (settle_join r o a b)))
      (named_above n n c (λ m t k. k))
      (required_from n (normal_named n) (λ m h. is_required-normal_named n m ∙ h))
      d.0

  function_above : (r o : Types) (n : Named) (e : Ty) → AllSettle r → AllSettle o → NamedSettle n → Settles e → Sub table (normal (function r o n e)) (function r o n e)
  function_above r o n e a b c d =
      function_types (omega (arith, count-normal_all r))
      (subst (λ (ts : Types). SubParams table (join r o) ts) (sym (normal_all-join r o)) (params_below (join r o) (settle_join r o a b)))
      (named_below n n c (λ m t k. k))
      (required_from (normal_named n) n (λ m h. sym (is_required-normal_named n m) ∙ h))
      d.1

  mutual
    pub settles : (t : Ty) → Settles t
    settles invalid = (reflexivity, reflexivity)
    settles never = (reflexivity, reflexivity)
    settles void = (reflexivity, reflexivity)
    settles null = (reflexivity, reflexivity)
    settles (interface c ts) = (interface_arguments (all_below ts (all_settle ts)), interface_arguments (all_above ts (all_settle ts)))
    settles (function r o n e) = (
      function_below r o n e (all_settle r) (all_settle o) (named_settle n) (settles e),
      function_above r o n e (all_settle r) (all_settle o) (named_settle n) (settles e),
    )
    settles (variable x) = (reflexivity, reflexivity)
    settles (promoted x t) = (under_promoted (settles t).0, under_promoted (settles t).1)
    settles (nullable t) = (nullable_below (normal t) (settles t).0, nullable_above (normal t) (settles t).1)

    all_settle : (ts : Types) → AllSettle ts
    all_settle no_more = tt
    all_settle (more t ts) = (settles t, all_settle ts)

    named_settle : (ns : Named) → NamedSettle ns
    named_settle no_named = tt
    named_settle (more_named n r t ts) = (settles t, named_settle ts)

  -- types are subtypes of their normal forms, pair by pair
  pub settle_below : (ts : Types) → Subs table ts (normal_all ts)
  settle_below ts = all_below ts (all_settle ts)
