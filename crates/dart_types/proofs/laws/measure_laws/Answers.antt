use Rattle.dart_types.proofs.Climb.{climb_falls}
use Rattle.dart_types.proofs.MeasureFalls.{not_above, left_bare_falls, right_bare_falls, left_promoted_falls, right_promoted_falls, bound_falls}
use Rattle.dart_types.proofs.MeasureParts.{arguments_fall, params_fall, names_fall, results_fall}
use Rattle.dart_types.proofs.laws.measure_laws.Goals as goal

pub returns : goal.returns
returns c =
    let table = c.args._rows.now.table in
    let wf = c.args._rows.now.formed in
    record {
      left_nullable = left_bare_falls table wf;
      right_nullable = right_bare_falls table wf;
      left_promoted = left_promoted_falls table wf;
      right_promoted = right_promoted_falls table wf;
      bounds = bound_falls table wf;
      superinterfaces = λ k ss row v t r n h. climb_falls table wf k ss row r n t h;
      arguments = λ k d ss ts s t h i. arguments_fall table wf k d ss ts h i;
      parameters = λ r o r' o' n n' e e' s t h i. params_fall table wf r o r' o' n n' e e' h i;
      named = λ r o r' o' n n' e e' l m s t h i. names_fall table wf r o r' o' n n' e e' h i;
      results = results_fall table wf;
      no_rise = not_above table wf;
    }
