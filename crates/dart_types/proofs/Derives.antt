-- The test of subtyping that computes holds just where the rules have a derivation.
use Rattle.std.proofs.Common.{◌≡◌, ℕ, zero, suc, ◌+◌, ◌<◌, ◌≤◌, Bool, true, false, List, length, Option, Some, None, nat_eq, nat_le, refl, sym, ap, subst, arith, inl, inr}
use Rattle.std.specs.Prelude.{◌&&◌, ◌||◌, ◌⊎◌, bytes_eq}
use Rattle.std.specs.List.{list_any}
use Rattle.std.specs.Option.{option_map_or}
use Rattle.std.specs.Cmp.Lexicographic.{bytes_decides}
use Rattle.std.proofs.lemmas.Bool.Decides.{nat_tests}
use Rattle.dart_types.specs.Ty.{Ty, Types, Named, invalid, never, void, null, interface, function, variable, promoted, nullable, no_more, more, no_named, more_named, count, join}
use Rattle.dart_types.specs.Same.{same_class, same_type}
use Rattle.dart_types.specs.Heads.{object, is_object, is_function_class, is_top, is_plain}
use Rattle.dart_types.specs.Substitution.{put_all, by_params}
use Rattle.dart_types.specs.Tables.{Table, class_of, bound_of, depth_of}
use Rattle.dart_types.specs.Superinterfaces.{Keeps}
use Rattle.dart_types.specs.Kept.{kept_of}
use Rattle.dart_types.specs.WellFormed.{IsWellFormed}
use Rattle.dart_types.specs.Measure.{measure, heaviest_of, deepness_of}
use Rattle.dart_types.specs.Sub.{Sub, Subs, SubParams, SubNamed, HasNamed, first, later, required_in, reflexivity, right_top, left_bottom, left_null, right_object, left_nullable, right_nullable, left_promoted_variable, left_promoted_type, right_promoted, left_variable_bound, interface_arguments, super_interface, function_class, function_types, left_top, none_left, one_left, no_param, one_param, no_name, one_name}
use Rattle.dart_types.specs.SubTest.{pairwise, params_fit, name_fits, named_fit, by_arguments, is_super_below, by_superinterfaces, by_signature, by_left, is_null, by_right, derives, sub}
use Rattle.dart_types.specs.declared.ids.ClassId.{ClassId}
use Rattle.dart_types.specs.declared.ids.TheConstants.{OBJECT}
use Rattle.dart_types.specs.declared.class_rows.ClassRow.{ClassRow}
use Rattle.dart_types.proofs.SameIds.{both_true, nat_from_test, le_from_test, le_test, equal_from_same_class, same_class-refl}
use Rattle.dart_types.proofs.Lists.{either_true, any_there, there_any}
use Rattle.dart_types.proofs.Supers.{inherited}
use Rattle.dart_types.proofs.KeptOf.{kept_sound, kept_found}
use Rattle.dart_types.proofs.Climb.{climb_falls}
use Rattle.dart_types.proofs.SameType.{same_type-refl, equal_from_same_type}
use Rattle.dart_types.proofs.MeasureFalls.{falls_left, right_bare_falls, right_promoted_falls, left_bare_falls, left_promoted_falls, bound_falls, left_top_falls}
use Rattle.dart_types.proofs.MeasureParts.{HasType, at_first, at_later, arguments_fall, params_fall, names_fall, results_fall}

left_true : (a b : Bool) → a ≡ true → (a || b) ≡ true
left_true true b h = refl
left_true false b h = cc

right_true : (a b : Bool) → b ≡ true → (a || b) ≡ true
right_true true b h = refl
right_true false b h = h

and_true : (a b : Bool) → a ≡ true → b ≡ true → (a && b) ≡ true
and_true a b p q = rw (p, q) refl

pub nat_test : (m n : ℕ) → m ≡ n → nat_eq m n ≡ true
nat_test m n h = grind (arith, nat_tests)

-- what holds of a test that tells of subtypes
module _ (table : Table) (below : Ty → Ty → Bool) (sound : (s t : Ty) → below s t ≡ true → Sub table s t) where
  pairwise_sound : (ss ts : Types) → pairwise below ss ts ≡ true → Subs table ss ts
  pairwise_sound no_more no_more h = none_left
  pairwise_sound no_more (more t ts) h = cc
  pairwise_sound (more s ss) no_more h = cc
  pairwise_sound (more s ss) (more t ts) h = let b = both_true (below s t) (pairwise below ss ts) h in one_left (sound s t b.0) (pairwise_sound ss ts b.1)

  params_sound : (ts ss : Types) → params_fit below ts ss ≡ true → SubParams table ts ss
  params_sound no_more ss h = no_param
  params_sound (more t ts) no_more h = cc
  params_sound (more t ts) (more s ss) h = let b = both_true (below t s) (params_fit below ts ss) h in one_param (sound t s b.0) (params_sound ts ss b.1)

  name_sound : (m : List ℕ) (t : Ty) (ss : Named) → name_fits below m t ss ≡ true → (s : Ty) × HasNamed ss m s × Sub table t s
  name_sound m t no_named h = cc
  name_sound m t (more_named n r s ss) h = at (either_true (bytes_eq n m && below t s) (name_fits below m t ss) h) (λ k. name_sound m t ss k)
    where
      at : ((bytes_eq n m && below t s) ≡ true) ⊎ (name_fits below m t ss ≡ true) → (name_fits below m t ss ≡ true → (s' : Ty) × HasNamed ss m s' × Sub table t s') → (s' : Ty) × HasNamed (more_named n r s ss) m s' × Sub table t s'
      at (inl k) go =
          let b = both_true (bytes_eq n m) (below t s) k in
          (s, subst (λ (l : List ℕ). HasNamed (more_named n r s ss) l s) ((bytes_decides n m).0 b.0) first, sound t s b.1)
      at (inr k) go = let q = go k in (q.0, later q.1, q.2)

  named_sound : (ts ss : Named) → named_fit below ts ss ≡ true → SubNamed table ts ss
  named_sound no_named ss h = no_name
  named_sound (more_named m r t ts) ss h =
      let b = both_true (name_fits below m t ss) (named_fit below ts ss) h in
      let q = name_sound m t ss b.0 in
      one_name q.0 q.1 q.2 (named_sound ts ss b.1)

  arguments_from : (d : ClassId) (us : Types) (t : Ty) → by_arguments below d us t ≡ true → (ts : Types) × (t ≡ interface d ts) × Subs table us ts
  arguments_from d us invalid h = cc
  arguments_from d us never h = cc
  arguments_from d us void h = cc
  arguments_from d us null h = cc
  arguments_from d us (interface e ts) h =
      let b = both_true (same_class d e) (pairwise below us ts) h in
      (ts, ap (λ (k : ClassId). interface k ts) (sym (equal_from_same_class d e b.0)), pairwise_sound us ts b.1)
  arguments_from d us (function r o n e) h = cc
  arguments_from d us (variable x) h = cc
  arguments_from d us (promoted x t) h = cc
  arguments_from d us (nullable t) h = cc

  arguments_sound : (c : ClassId) (ss : Types) (t : Ty) → by_arguments below c ss t ≡ true → Sub table (interface c ss) t
  arguments_sound c ss t h =
      let q = arguments_from c ss t h in
      subst (λ (u : Ty). Sub table (interface c ss) u) (sym q.1) (interface_arguments q.2)

  super_sound : (c : ClassId) (ss : Types) (row : ClassRow) → class_of table c ≡ Some row → count ss ≡ length row.params → (t v : Ty) → Keeps table c v → is_super_below below row.params ss t v ≡ true → Sub table (interface c ss) t
  super_sound c ss row r n t invalid k h = cc
  super_sound c ss row r n t never k h = cc
  super_sound c ss row r n t void k h = cc
  super_sound c ss row r n t null k h = cc
  super_sound c ss row r n t (interface d us) k h =
      let q = arguments_from d (put_all (by_params row.params ss) us) t h in
      subst (λ (u : Ty). Sub table (interface c ss) u) (sym q.1) (super_interface row r n k q.2)
  super_sound c ss row r n t (function f o m e) k h = cc
  super_sound c ss row r n t (variable x) k h = cc
  super_sound c ss row r n t (promoted x u) k h = cc
  super_sound c ss row r n t (nullable u) k h = cc

  superinterfaces_sound : (c : ClassId) (ss : Types) (t : Ty) → by_superinterfaces table below c ss t ≡ true → Sub table (interface c ss) t
  superinterfaces_sound c ss t h = at (class_of table c) refl h
    where
      at : (o : Option ClassRow) → class_of table c ≡ o → option_map_or (λ row. nat_eq (count ss) (length row.params) && list_any (is_super_below below row.params ss t) (kept_of table c)) o false ≡ true → Sub table (interface c ss) t
      at None e k = cc
      at (Some row) e k =
          let b = both_true (nat_eq (count ss) (length row.params)) (list_any (is_super_below below row.params ss t) (kept_of table c)) k in
          let q = any_there (is_super_below below row.params ss t) (kept_of table c) b.1 in
          super_sound c ss row e (nat_from_test (count ss) (length row.params) b.0) t q.0 (kept_sound table (depth_of table c + 1) c q.0 q.1) q.2

  signature_sound : (r o : Types) (n : Named) (e t : Ty) → by_signature below r o n e t ≡ true → Sub table (function r o n e) t
  signature_sound r o n e invalid h = cc
  signature_sound r o n e never h = cc
  signature_sound r o n e void h = cc
  signature_sound r o n e null h = cc
  signature_sound r o n e (interface c ts) h = cc
  signature_sound r o n e (function r' o' n' e') h =
      let a = both_true (nat_le (count r) (count r') && params_fit below (join r' o') (join r o) && named_fit below n' n && required_in n n') (below e e') h in
      let b = both_true (nat_le (count r) (count r') && params_fit below (join r' o') (join r o) && named_fit below n' n) (required_in n n') a.0 in
      let c = both_true (nat_le (count r) (count r') && params_fit below (join r' o') (join r o)) (named_fit below n' n) b.0 in
      let d = both_true (nat_le (count r) (count r')) (params_fit below (join r' o') (join r o)) c.0 in
      function_types (le_from_test (count r) (count r') d.0) (params_sound (join r' o') (join r o) d.1) (named_sound n' n c.1) b.1 (sound e e' a.1)
  signature_sound r o n e (variable x) h = cc
  signature_sound r o n e (promoted x t) h = cc
  signature_sound r o n e (nullable t) h = cc

  left_sound : (s t : Ty) → by_left table below s t ≡ true → Sub table s t
  left_sound invalid t h = cc
  left_sound never t h = left_bottom
  left_sound void t h = left_top (sound (nullable object) t h)
  left_sound null t h = cc
  left_sound (interface c ss) t h =
      elim (either_true (is_object t || by_arguments below c ss t) (by_superinterfaces table below c ss t) h) as (λ _. Sub table (interface c ss) t) [
        | inl k ↦ elim (either_true (is_object t) (by_arguments below c ss t) k) as (λ _. Sub table (interface c ss) t) [
          | inl o ↦ right_object o refl
          | inr a ↦ arguments_sound c ss t a
        ]
        | inr k ↦ superinterfaces_sound c ss t k
      ]
  left_sound (function r o n e) t h =
      elim (either_true (is_object t || is_function_class t) (by_signature below r o n e t) h) as (λ _. Sub table (function r o n e) t) [
        | inl k ↦ elim (either_true (is_object t) (is_function_class t) k) as (λ _. Sub table (function r o n e) t) [
          | inl q ↦ right_object q refl
          | inr f ↦ function_class f
        ]
        | inr k ↦ signature_sound r o n e t k
      ]
  left_sound (variable x) t h = at (bound_of table x) refl h
    where
      at : (o : Option Ty) → bound_of table x ≡ o → option_map_or (λ b. below b t) o false ≡ true → Sub table (variable x) t
      at None e k = cc
      at (Some b) e k = left_variable_bound b e (sound b t k)
  left_sound (promoted x u) t h =
      elim (either_true (below (variable x) t) (below u t) h) as (λ _. Sub table (promoted x u) t) [
        | inl k ↦ left_promoted_variable (sound (variable x) t k)
        | inr k ↦ left_promoted_type (sound u t k)
      ]
  left_sound (nullable u) t h = let b = both_true (below u t) (below null t) h in left_nullable (sound u t b.0) (sound null t b.1)

  is_null_sound : (s : Ty) → is_null s ≡ true → s ≡ null
  is_null_sound invalid h = cc
  is_null_sound never h = cc
  is_null_sound void h = cc
  is_null_sound null h = refl
  is_null_sound (interface c ts) h = cc
  is_null_sound (function r o n e) h = cc
  is_null_sound (variable x) h = cc
  is_null_sound (promoted x t) h = cc
  is_null_sound (nullable t) h = cc

  right_sound : (s t : Ty) → by_right below s t ≡ true → Sub table s t
  right_sound s invalid h = cc
  right_sound s never h = cc
  right_sound s void h = right_top refl
  right_sound s null h = cc
  right_sound s (interface c ts) h = cc
  right_sound s (function r o n e) h = cc
  right_sound s (variable x) h = cc
  right_sound s (promoted x u) h = let b = both_true (below s (variable x)) (below s u) h in right_promoted (sound s (variable x) b.0) (sound s u b.1)
  right_sound s (nullable u) h =
      elim (either_true (is_object u || is_null s) (below s u) h) as (λ _. Sub table s (nullable u)) [
        | inl k ↦ elim (either_true (is_object u) (is_null s) k) as (λ _. Sub table s (nullable u)) [
          | inl o ↦ right_top o
          | inr n ↦ subst (λ (v : Ty). Sub table v (nullable u)) (sym (is_null_sound s n)) left_null
        ]
        | inr k ↦ right_nullable (sound s u k)
      ]

-- what the test grants has a derivation
pub derives_sound : (table : Table) (n : ℕ) (s t : Ty) → derives table n s t ≡ true → Sub table s t
derives_sound table zero s t h = cc
derives_sound table (suc n) s t h =
    elim (either_true (same_type s t || by_left table (derives table n) s t) (by_right (derives table n) s t) h) as (λ _. Sub table s t) [
      | inl k ↦ elim (either_true (same_type s t) (by_left table (derives table n) s t) k) as (λ _. Sub table s t) [
        | inl e ↦ subst (λ (v : Ty). Sub table s v) (equal_from_same_type s t e) reflexivity
        | inr l ↦ left_sound table (derives table n) (λ s' t' g. derives_sound table n s' t' g) s t l
      ]
      | inr k ↦ right_sound table (derives table n) (λ s' t' g. derives_sound table n s' t' g) s t k
    ]

-- a test that grants the premises of each rule grants what the rule gives
module _ (table : Table) (wf : IsWellFormed table) (below : Ty → Ty → Bool) where
  abbrev Granted : Ty → Ty → Type 0
  Granted s t = (same_type s t || by_left table below s t || by_right below s t) ≡ true

  from_same : (s t : Ty) → same_type s t ≡ true → Granted s t
  from_same s t h = left_true (same_type s t || by_left table below s t) (by_right below s t) (left_true (same_type s t) (by_left table below s t) h)

  from_left : (s t : Ty) → by_left table below s t ≡ true → Granted s t
  from_left s t h = left_true (same_type s t || by_left table below s t) (by_right below s t) (right_true (same_type s t) (by_left table below s t) h)

  from_right : (s t : Ty) → by_right below s t ≡ true → Granted s t
  from_right s t h = right_true (same_type s t || by_left table below s t) (by_right below s t) h

  top_granted : (s t : Ty) → is_top t ≡ true → by_right below s t ≡ true
  top_granted s invalid h = cc
  top_granted s never h = cc
  top_granted s void h = refl
  top_granted s null h = cc
  top_granted s (interface c ts) h = cc
  top_granted s (function r o n e) h = cc
  top_granted s (variable x) h = cc
  top_granted s (promoted x u) h = cc
  top_granted s (nullable u) h = left_true (is_object u || is_null s) (below s u) (left_true (is_object u) (is_null s) h)

  object_granted : (s t : Ty) → is_object t ≡ true → is_plain s ≡ true → by_left table below s t ≡ true
  object_granted invalid t h p = cc
  object_granted never t h p = cc
  object_granted void t h p = cc
  object_granted null t h p = cc
  object_granted (interface c ss) t h p =
      left_true (is_object t || by_arguments below c ss t) (by_superinterfaces table below c ss t) (left_true (is_object t) (by_arguments below c ss t) h)
  object_granted (function r o n e) t h p =
      left_true (is_object t || is_function_class t) (by_signature below r o n e t) (left_true (is_object t) (is_function_class t) h)
  object_granted (variable x) t h p = cc
  object_granted (promoted x u) t h p = cc
  object_granted (nullable u) t h p = cc

  -- premises that are granted one by one are granted as a list
  pairwise_granted : (ss ts : Types) → Subs table ss ts → ((s t : Ty) → HasType ss s → HasType ts t → Sub table s t → below s t ≡ true) → pairwise below ss ts ≡ true
  pairwise_granted no_more no_more none_left go = refl
  pairwise_granted no_more (more t ts) a go = elim a [ ]
  pairwise_granted (more s ss) no_more a go = elim a [ ]
  pairwise_granted (more s ss) (more t ts) (one_left a rest) go =
      and_true (below s t) (pairwise below ss ts) (go s t at_first at_first a) (pairwise_granted ss ts rest (λ s' t' h k b. go s' t' (at_later h) (at_later k) b))

  params_granted : (ts ss : Types) → SubParams table ts ss → ((t s : Ty) → HasType ts t → HasType ss s → Sub table t s → below t s ≡ true) → params_fit below ts ss ≡ true
  params_granted no_more ss a go = refl
  params_granted (more t ts) no_more a go = elim a [ ]
  params_granted (more t ts) (more s ss) (one_param a rest) go =
      and_true (below t s) (params_fit below ts ss) (go t s at_first at_first a) (params_granted ts ss rest (λ t' s' h k b. go t' s' (at_later h) (at_later k) b))

  name_granted : (m : List ℕ) (t : Ty) (ss : Named) (s : Ty) → HasNamed ss m s → below t s ≡ true → name_fits below m t ss ≡ true
  name_granted m t no_named s' k h = elim k [ ]
  name_granted m t (more_named n r s ss) s' first h =
      left_true (bytes_eq n m && below t s) (name_fits below m t ss) (and_true (bytes_eq n m) (below t s) ((bytes_decides n m).1 refl) h)
  name_granted m t (more_named n r s ss) s' (later k) h =
      right_true (bytes_eq n m && below t s) (name_fits below m t ss) (name_granted m t ss s' k h)

  named_granted : (ts ss : Named) → SubNamed table ts ss → ((l m : List ℕ) (t s : Ty) → HasNamed ts l t → HasNamed ss m s → Sub table t s → below t s ≡ true) → named_fit below ts ss ≡ true
  named_granted no_named ss a go = refl
  named_granted (more_named m r t ts) ss (one_name s has a rest) go =
      and_true (name_fits below m t ss) (named_fit below ts ss) (name_granted m t ss s has (go m m t s first has a)) (named_granted ts ss rest (λ l' m' t' s' h k b. go l' m' t' s' (later h) k b))

  -- Null, where a nullable type was
  null_falls : (u t : Ty) → measure table null t < measure table (nullable u) t
  unfolding heaviest_of deepness_of
  null_falls u t = falls_left table wf (nullable u) null t heavier deeper refl
    where
      heavier : heaviest_of table null ≤ heaviest_of table (nullable u)
      heavier = omega arith

      deeper : deepness_of table null + 1 ≤ deepness_of table (nullable u)
      deeper = omega arith

  granted : {s t : Ty} → Sub table s t → ((s' t' : Ty) → Sub table s' t' → measure table s' t' < measure table s t → below s' t' ≡ true) → Granted s t
  granted {s} reflexivity go = from_same s s (same_type-refl s)
  granted {s} {t} (right_top x) go = from_right s t (top_granted s t x)
  granted {t = t} left_bottom go = from_left never t refl
  granted (left_null {u = u}) go =
      from_right null (nullable u) (left_true (is_object u || true) (below null u) (right_true (is_object u) true refl))
  granted {s} {t} (right_object x p) go = from_left s t (object_granted s t x p)
  granted {t = t} (left_nullable {u = u} a b) go =
      from_left (nullable u) t (and_true (below u t) (below null t) (go u t a (left_bare_falls table wf u t)) (go null t b (null_falls u t)))
  granted {s} (right_nullable {u = u} a) go =
      from_right s (nullable u) (right_true (is_object u || is_null s) (below s u) (go s u a (right_bare_falls table wf s u)))
  granted {t = t} (left_promoted_variable {x = x} {u = u} a) go =
      from_left (promoted x u) t (left_true (below (variable x) t) (below u t) (go (variable x) t a (left_promoted_falls table wf x u t).0))
  granted {t = t} (left_promoted_type {x = x} {u = u} a) go =
      from_left (promoted x u) t (right_true (below (variable x) t) (below u t) (go u t a (left_promoted_falls table wf x u t).1))
  granted {s} (right_promoted {x = x} {u = u} a b) go =
      let falls = right_promoted_falls table wf x s u in
      from_right s (promoted x u) (and_true (below s (variable x)) (below s u) (go s (variable x) a falls.0) (go s u b falls.1))
  granted {t = t} (left_variable_bound {x = x} b e a) go =
      from_left (variable x) t (subst (λ (o : Option Ty). option_map_or (λ b'. below b' t) o false ≡ true) (sym e) (go b t a (bound_falls table wf x b t e)))
  granted (interface_arguments {c = c} {ss = ss} {ts = ts} a) go =
      let t = interface c ts in
      from_left (interface c ss) t
      (left_true (is_object t || by_arguments below c ss t) (by_superinterfaces table below c ss t)
      (right_true (is_object t) (by_arguments below c ss t)
      (and_true (same_class c c) (pairwise below ss ts) (same_class-refl c)
      (pairwise_granted ss ts a (λ s' t' h k b. go s' t' b (arguments_fall table wf c c ss ts h k))))))
  granted (super_interface {c = c} {d = d} {ss = ss} {us = us} {ts = ts} row e n k a) go =
      let t = interface d ts in
      let vs = put_all (by_params row.params ss) us in
      let up = climb_falls table wf c ss row e n (interface d ts) (inherited table wf k.0) in
      let all = pairwise_granted vs ts a (λ s' t' h i b. go s' t' b (omega (arith, arguments_fall table wf d d vs ts h i, up))) in
      let one = and_true (same_class d d) (pairwise below vs ts) (same_class-refl d) all in
      from_left (interface c ss) t
      (right_true (is_object t || by_arguments below c ss t) (by_superinterfaces table below c ss t)
      (subst (λ (o : Option ClassRow). option_map_or (λ row'. nat_eq (count ss) (length row'.params) && list_any (is_super_below below row'.params ss t) (kept_of table c)) o false ≡ true) (sym e)
      (and_true (nat_eq (count ss) (length row.params)) (list_any (is_super_below below row.params ss t) (kept_of table c)) (nat_test (count ss) (length row.params) n)
      (there_any (is_super_below below row.params ss t) (kept_of table c) (interface d us) (kept_found table wf c (interface d us) k) one))))
  granted {t = t} (function_class {r = r} {o = o} {n = n} {e = e} x) go =
      from_left (function r o n e) t
      (left_true (is_object t || is_function_class t) (by_signature below r o n e t) (right_true (is_object t) (is_function_class t) x))
  granted (function_types {r = r} {o = o} {r' = r'} {o' = o'} {n = n} {n' = n'} {e = e} {e' = e'} le ps ns q a) go =
      let s = function r o n e in
      let t = function r' o' n' e' in
      let params = params_granted (join r' o') (join r o) ps (λ t' s' h k b. go t' s' b (params_fall table wf r o r' o' n n' e e' k h)) in
      let names = named_granted n' n ns (λ l m t' s' h k b. go t' s' b (names_fall table wf r o r' o' n n' e e' k h)) in
      from_left s t
      (right_true (is_object t || is_function_class t) (by_signature below r o n e t)
      (and_true (nat_le (count r) (count r') && params_fit below (join r' o') (join r o) && named_fit below n' n && required_in n n') (below e e')
      (and_true (nat_le (count r) (count r') && params_fit below (join r' o') (join r o) && named_fit below n' n) (required_in n n')
      (and_true (nat_le (count r) (count r') && params_fit below (join r' o') (join r o)) (named_fit below n' n)
      (and_true (nat_le (count r) (count r')) (params_fit below (join r' o') (join r o)) (le_test (count r) (count r') le) params)
      names)
      q)
      (go e e' a (results_fall table wf r o r' o' n n' e e'))))
  granted {t = t} (left_top a) go = from_left void t (go (nullable object) t a (left_top_falls table wf OBJECT t))

-- what has a derivation is granted: the measure is high enough
pub derives_complete : (table : Table) → IsWellFormed table → (n : ℕ) (s t : Ty) → Sub table s t → measure table s t < n → derives table n s t ≡ true
derives_complete table wf zero s t a lt = absurd (omega (arith, lt))
derives_complete table wf (suc n) s t a lt =
    granted table wf (derives table n) a (λ s' t' b fall. derives_complete table wf n s' t' b (omega (arith, fall, lt)))

-- the test is true exactly where the rules have a derivation
pub sub_sound : (table : Table) (s t : Ty) → sub table s t ≡ true → Sub table s t
unfolding sub
sub_sound table s t h = derives_sound table (suc (measure table s t)) s t h

pub sub_complete : (table : Table) → IsWellFormed table → (s t : Ty) → Sub table s t → sub table s t ≡ true
unfolding sub
sub_complete table wf s t a = derives_complete table wf (suc (measure table s t)) s t a (omega arith)

-- what decides the rules is the test
pub is_sub : (table : Table) → IsWellFormed table → (s t : Ty) (b : Bool) → (b ≡ true → Sub table s t) → (Sub table s t → b ≡ true) → b ≡ sub table s t
is_sub table wf s t true to from = sym (sub_complete table wf s t (to refl))
is_sub table wf s t false to from = at (sub table s t) refl
  where
    at : (c : Bool) → sub table s t ≡ c → false ≡ c
    at true e = from (sub_sound table s t e)
    at false e = refl
