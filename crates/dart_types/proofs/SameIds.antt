-- The tests of ids hold just at equal ids.
use Rattle.std.proofs.Common.{◌≡◌, ◌≤◌, ℕ, Bool, true, false, nat_eq, nat_le, refl, arith}
use Rattle.std.specs.Prelude.{◌&&◌}
use Rattle.std.proofs.lemmas.Bool.Decides.{nat_tests}
use Rattle.dart_types.specs.Same.{same_class, same_var}
use Rattle.dart_types.specs.declared.ids.ClassId.{ClassId}
use Rattle.dart_types.specs.declared.ids.VarId.{VarId}

-- two tests that both hold
pub both_true : (a b : Bool) → (a && b) ≡ true → (a ≡ true) × (b ≡ true)
both_true true b h = (refl, h)
both_true false b h = cc

pub nat_from_test : (m n : ℕ) → nat_eq m n ≡ true → m ≡ n
nat_from_test m n h = grind (arith, nat_tests)

pub nat_eq-refl : (n : ℕ) → nat_eq n n ≡ true
nat_eq-refl n = grind (arith, nat_tests)

pub le_from_test : (m n : ℕ) → nat_le m n ≡ true → m ≤ n
le_from_test m n h = grind (arith, nat_tests)

pub le_test : (m n : ℕ) → m ≤ n → nat_le m n ≡ true
le_test m n h = grind (arith, nat_tests)

pub equal_from_same_class : (c d : ClassId) → same_class c d ≡ true → c ≡ d
equal_from_same_class c d h =
    let b = both_true (nat_eq c.lib.0 d.lib.0) (nat_eq c.index d.index) h in
    let l : c.lib.0 ≡ d.lib.0 = nat_from_test _ _ b.0 in
    let i : c.index ≡ d.index = nat_from_test _ _ b.1 in
    λ k. record { lib = record { 0 = l k }; index = i k }

pub same_class-refl : (c : ClassId) → same_class c c ≡ true
same_class-refl c = rw (nat_eq-refl, nat_eq-refl) refl

pub equal_from_same_var : (x y : VarId) → same_var x y ≡ true → x ≡ y
equal_from_same_var x y h =
    let b = both_true (nat_eq x.lib.0 y.lib.0) (nat_eq x.index y.index) h in
    let l : x.lib.0 ≡ y.lib.0 = nat_from_test _ _ b.0 in
    let i : x.index ≡ y.index = nat_from_test _ _ b.1 in
    λ k. record { lib = record { 0 = l k }; index = i k }

pub same_var-refl : (x : VarId) → same_var x x ≡ true
same_var-refl x = rw (nat_eq-refl, nat_eq-refl) refl
