-- How ids are stored.
use Rattle.std.specs.Prelude.{ℕ, refl}
use Rattle.std.specs.Coded.{Coded, code_by, coded×, coded_ℕ}
use Rattle.dart_types.specs.declared.ids.VarId.{VarId}

-- a type variable is stored as its two numbers
abbrev pub var_code : Coded VarId
var_code =
    code_by (ℕ × ℕ) (coded× coded_ℕ coded_ℕ) (λ x. (x.lib.0, x.index)) (λ p. record { lib = record { 0 = p.0 }; index = p.1 }) (λ _. refl)
