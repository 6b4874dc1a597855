use Rattle.std.proofs.Common.{◌∙◌, sym, ap}
use Rattle.dart_types.specs.Ty.{types_of}
use Rattle.dart_types.specs.Same.{same_types}
use Rattle.dart_types.proofs.SameType.{same_types-refl, equal_from_same_types}
use Rattle.dart_types.proofs.SameLists.{equal_from_types_of}
use Rattle.dart_types.proofs.types.TypeList.is_same.Goals as goal

-- the test of the parts holds just at equal lists
pub returns : goal.returns
returns c = (
  (λ holds. equal_from_types_of _ _ (equal_from_same_types _ _ (sym c.has_types_of.ensures ∙ holds))),
  (λ equal. c.has_types_of.ensures ∙ (ap (λ ts. same_types (types_of c.args.self.now) (types_of ts)) (sym equal) ∙ same_types-refl (types_of c.args.self.now))),
)
