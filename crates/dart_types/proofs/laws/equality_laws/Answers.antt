use Rattle.std.proofs.Common.{◌≡◌, true, subst}
use Rattle.dart_types.specs.Ty.{Ty, Types, Named}
use Rattle.dart_types.specs.Same.{same_class, same_var, same_type, same_types, same_named}
use Rattle.dart_types.specs.declared.ids.ClassId.{ClassId}
use Rattle.dart_types.specs.declared.ids.VarId.{VarId}
use Rattle.dart_types.proofs.SameIds.{equal_from_same_class, same_class-refl, equal_from_same_var, same_var-refl}
use Rattle.dart_types.proofs.SameType.{same_type-refl, same_types-refl, same_named-refl, equal_from_same_type, equal_from_same_types, equal_from_same_named}
use Rattle.dart_types.proofs.laws.equality_laws.Goals as goal

pub returns : goal.returns
returns c = record {
  classes = λ a b. (equal_from_same_class a b, λ e. subst (λ (k : ClassId). same_class a k ≡ true) e (same_class-refl a));
  vars = λ x y. (equal_from_same_var x y, λ e. subst (λ (k : VarId). same_var x k ≡ true) e (same_var-refl x));
  types = λ s t. (equal_from_same_type s t, λ e. subst (λ (k : Ty). same_type s k ≡ true) e (same_type-refl s));
  lists = λ ss ts. (equal_from_same_types ss ts, λ e. subst (λ (k : Types). same_types ss k ≡ true) e (same_types-refl ss));
  named = λ ms ns. (equal_from_same_named ms ns, λ e. subst (λ (k : Named). same_named ms k ≡ true) e (same_named-refl ms));
}
