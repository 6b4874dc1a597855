use Rattle.std.proofs.Common.{◌≡◌, List, true, length, nat_eq, ap, sym, ◌∙◌}
use Rattle.dart_types.specs.Ty.{Ty, interface, no_more, types_of}
use Rattle.dart_types.specs.Node.{type_of}
use Rattle.dart_types.specs.Same.{same_class}
use Rattle.dart_types.specs.declared.ids.ClassId.{ClassId}
use Rattle.dart_types.specs.declared.ids.TheConstants.{OBJECT}
use Rattle.dart_types.proofs.SameIds.{equal_from_same_class}
use Rattle.dart_types.proofs.RowTests.{is_empty, none_are_empty}
use Rattle.dart_types.proofs.types.DartType.is_object.Goals as goal

-- the class is `Object`, so its arguments decide
pub returns-then-eq : goal.returns-then-eq
returns-then-eq c =
    let class = c.in-Interface.class in
    let args = c.in-Interface.args in
    let is : interface class (types_of args.value) ≡ c.args.self.now = ap type_of (sym c.in-Interface.is) ∙ c.self.view_is in
    let same : same_class class OBJECT ≡ true = sym c.eq.ensures ∙ c.if-eq.true in
    let root : class ≡ OBJECT = equal_from_same_class class OBJECT same in
    let test : c.is_empty.result ≡ nat_eq (length args.value) 0 = c.is_empty.ensures ∙ ap (λ (ts : List Ty). nat_eq (length ts) 0) (c.as_slice.ensures ∙ c.deref.ensures) in (
      λ h. sym is ∙ ap (λ (d : ClassId). interface d (types_of args.value)) root ∙ ap (λ (ts : List Ty). interface OBJECT (types_of ts)) (is_empty args.value (sym test ∙ h)),
      λ h.
          let e : interface class (types_of args.value) ≡ interface OBJECT no_more = is ∙ h in
          let k : types_of args.value ≡ no_more = cc in
          test ∙ none_are_empty args.value k,
    )
