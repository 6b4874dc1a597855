use Rattle.std.proofs.Common.{◌≡◌, List, IsTrue, ap, sym, ◌∙◌, subst}
use Rattle.std.specs.Prelude.{◌↔◌}
use Rattle.dart_types.specs.Ty.{Ty, interface, types_of}
use Rattle.dart_types.specs.Node.{type_of}
use Rattle.dart_types.specs.WellFormed.{IsSupertype}
use Rattle.dart_types.proofs.RowTests.{simple_from, simple_to}
use Rattle.dart_types.proofs.Steps.{through}
use Rattle.dart_types.proofs.types.DartType.is_supertype.Goals as goal

pub returns-in-Interface : goal.returns-in-Interface
returns-in-Interface c =
    let args = c.deref.result.now in
    let is : interface c.in-Interface.class (types_of args) ≡ c.args.self.now = ap (λ (us : List Ty). interface c.in-Interface.class (types_of us)) c.deref.ensures ∙ ap type_of (sym c.in-Interface.is) ∙ c.self.view_is in
    subst (λ (t : Ty). IsTrue c.are_simple.result ↔ IsSupertype c.args.params.now t) is (through (simple_from c.args.params.now args) (simple_to c.args.params.now args) c.are_simple.ensures)
