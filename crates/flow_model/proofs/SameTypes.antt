-- The test of types holds just at equal types.
use Rattle.std.proofs.Common.{◌≡◌, Bool, true, false, refl, sym, ap, arith}
use Rattle.std.specs.Prelude.{◌&&◌, ℕ, nat_eq, bytes_eq}
use Rattle.std.specs.Cmp.Lexicographic.{bytes_decides}
use Rattle.std.proofs.lemmas.Bool.{and_parts}
use Rattle.std.proofs.lemmas.Bool.Decides.{nat_tests}
use Rattle.dart_types.specs.Ty.{Ty, Types, Named, invalid, never, void, null, interface, function, variable, promoted, nullable, no_more, more, no_named, more_named}
use Rattle.dart_types.specs.Same.{same_class, same_var, same_bool, same_type, same_types, same_named}
use Rattle.dart_types.specs.declared.ids.ClassId.{ClassId}
use Rattle.dart_types.specs.declared.ids.VarId.{VarId}

nat_from_test : (m n : ℕ) → nat_eq m n ≡ true → m ≡ n
nat_from_test m n h = grind (arith, nat_tests)

nat_eq-refl : (n : ℕ) → nat_eq n n ≡ true
nat_eq-refl n = grind (arith, nat_tests)

equal_from_same_class : (c d : ClassId) → same_class c d ≡ true → c ≡ d
equal_from_same_class c d h =
    let b = and_parts (nat_eq c.lib.0 d.lib.0) (nat_eq c.index d.index) h in
    let l : c.lib.0 ≡ d.lib.0 = nat_from_test _ _ b.0 in
    let i : c.index ≡ d.index = nat_from_test _ _ b.1 in
    λ k. record { lib = record { 0 = l k }; index = i k }

same_class-refl : (c : ClassId) → same_class c c ≡ true
same_class-refl c = rw (nat_eq-refl, nat_eq-refl) refl

equal_from_same_var : (x y : VarId) → same_var x y ≡ true → x ≡ y
equal_from_same_var x y h =
    let b = and_parts (nat_eq x.lib.0 y.lib.0) (nat_eq x.index y.index) h in
    let l : x.lib.0 ≡ y.lib.0 = nat_from_test _ _ b.0 in
    let i : x.index ≡ y.index = nat_from_test _ _ b.1 in
    λ k. record { lib = record { 0 = l k }; index = i k }

same_var-refl : (x : VarId) → same_var x x ≡ true
same_var-refl x = rw (nat_eq-refl, nat_eq-refl) refl

same_bool-refl : (a : Bool) → same_bool a a ≡ true
same_bool-refl true = refl
same_bool-refl false = refl

equal_from_same_bool : (a b : Bool) → same_bool a b ≡ true → a ≡ b
equal_from_same_bool true b h = sym h
equal_from_same_bool false true h = h
equal_from_same_bool false false h = refl

mutual
  pub same_type-refl : (t : Ty) → same_type t t ≡ true
  same_type-refl invalid = refl
  same_type-refl never = refl
  same_type-refl void = refl
  same_type-refl null = refl
  same_type-refl (interface c ts) = rw (same_class-refl c, same_types-refl ts) refl
  same_type-refl (function r o n e) = rw (same_types-refl r, same_types-refl o, same_named-refl n, same_type-refl e) refl
  same_type-refl (variable x) = same_var-refl x
  same_type-refl (promoted x t) = rw (same_var-refl x, same_type-refl t) refl
  same_type-refl (nullable t) = same_type-refl t

  same_types-refl : (ts : Types) → same_types ts ts ≡ true
  same_types-refl no_more = refl
  same_types-refl (more t ts) = rw (same_type-refl t, same_types-refl ts) refl

  same_named-refl : (ns : Named) → same_named ns ns ≡ true
  same_named-refl no_named = refl
  same_named-refl (more_named n r t ts) = rw ((bytes_decides n n).1 refl, same_bool-refl r, same_type-refl t, same_named-refl ts) refl

mutual
  pub equal_from_same_type : (s t : Ty) → same_type s t ≡ true → s ≡ t
  equal_from_same_type invalid invalid h = refl
  equal_from_same_type never never h = refl
  equal_from_same_type void void h = refl
  equal_from_same_type null null h = refl
  equal_from_same_type (interface c ss) (interface d ts) h =
      let b = and_parts (same_class c d) (same_types ss ts) h in
      let i = equal_from_same_class c d b.0 in
      let j = equal_from_same_types ss ts b.1 in
      cc
  equal_from_same_type (function r o n e) (function r' o' n' e') h =
      let b = and_parts (same_types r r' && same_types o o' && same_named n n') (same_type e e') h in
      let d = and_parts (same_types r r' && same_types o o') (same_named n n') b.0 in
      let f = and_parts (same_types r r') (same_types o o') d.0 in
      let i = equal_from_same_types r r' f.0 in
      let j = equal_from_same_types o o' f.1 in
      let k = equal_from_same_named n n' d.1 in
      let l = equal_from_same_type e e' b.1 in
      cc
  equal_from_same_type (variable x) (variable y) h = ap variable (equal_from_same_var x y h)
  equal_from_same_type (promoted x s) (promoted y t) h =
      let b = and_parts (same_var x y) (same_type s t) h in
      let i = equal_from_same_var x y b.0 in
      let j = equal_from_same_type s t b.1 in
      cc
  equal_from_same_type (nullable s) (nullable t) h = ap nullable (equal_from_same_type s t h)
  equal_from_same_type _ _ h = cc

  equal_from_same_types : (ss ts : Types) → same_types ss ts ≡ true → ss ≡ ts
  equal_from_same_types no_more no_more h = refl
  equal_from_same_types no_more (more t ts) h = cc
  equal_from_same_types (more s ss) no_more h = cc
  equal_from_same_types (more s ss) (more t ts) h =
      let b = and_parts (same_type s t) (same_types ss ts) h in
      let i = equal_from_same_type s t b.0 in
      let j = equal_from_same_types ss ts b.1 in
      cc

  equal_from_same_named : (ms ns : Named) → same_named ms ns ≡ true → ms ≡ ns
  equal_from_same_named no_named no_named h = refl
  equal_from_same_named no_named (more_named n r t ts) h = cc
  equal_from_same_named (more_named m q s ss) no_named h = cc
  equal_from_same_named (more_named m q s ss) (more_named n r t ts) h =
      let b = and_parts (bytes_eq m n && same_bool q r && same_type s t) (same_named ss ts) h in
      let d = and_parts (bytes_eq m n && same_bool q r) (same_type s t) b.0 in
      let f = and_parts (bytes_eq m n) (same_bool q r) d.0 in
      let i : m ≡ n = (bytes_decides m n).0 f.0 in
      let j = equal_from_same_bool q r f.1 in
      let k = equal_from_same_type s t d.1 in
      let l = equal_from_same_named ss ts b.1 in
      cc
