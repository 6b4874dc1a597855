use Rattle.dart_types.specs.Sub.{reflexivity, left_nullable}
use Rattle.dart_types.proofs.Above.{nullable_bare, nullable_null}
use Rattle.dart_types.proofs.Climb.{climb_to, climb_up}
use Rattle.dart_types.proofs.Transitive.{trans}
use Rattle.dart_types.proofs.laws.subtype_laws.Goals as goal

pub returns : goal.returns
returns c =
    let table = c.args._rows.now.table in
    let wf = c.args._rows.now.formed in
    record {
      reflexive = λ t. reflexivity;
      nullable = λ s t. ((λ a. (nullable_bare table a, nullable_null table a)), (λ p. left_nullable p.0 p.1));
      kept = λ k ss row v r n h. climb_to table wf k ss row r n v h;
      transitive = λ nothing s t u. trans table wf nothing t s u;
      superinterfaces = λ nothing k ss row v t r n h a. climb_up table wf k ss row r n nothing v t h a;
    }
