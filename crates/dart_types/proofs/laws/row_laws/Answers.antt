use Rattle.dart_types.proofs.Above.{nullable_null}
use Rattle.std.specs.Prelude.{◌+◌}
use Rattle.dart_types.specs.Tables.{depth_of}
use Rattle.dart_types.proofs.Climb.{climb_to, climb_to_normal, climb_up, climb_falls}
use Rattle.dart_types.proofs.Derives.{sub_sound, sub_complete}
use Rattle.dart_types.proofs.Formed.{row_id, formed_class, formed_super, super_depth, declared_var, formed_bound}
use Rattle.dart_types.proofs.Keeping.{super_kept}
use Rattle.dart_types.proofs.KeptOf.{kept_sound, kept_found}
use Rattle.dart_types.proofs.MeasureBounds.{bound_weight, bound_deepness}
use Rattle.dart_types.proofs.MeasureFalls.{not_above, left_bare_falls, right_bare_falls, left_promoted_falls, bound_falls}
use Rattle.dart_types.proofs.MeasureParts.{arguments_fall, params_fall, names_fall, results_fall}
use Rattle.dart_types.proofs.NamedParams.{required_from}
use Rattle.dart_types.proofs.NormalForms.{settles}
use Rattle.dart_types.proofs.NormalPut.{normal-put-normal}
use Rattle.dart_types.proofs.SameType.{same_type-refl, equal_from_same_type}
use Rattle.dart_types.proofs.Supers.{counted, superinterface_simple, superinterface_trans, inherited}
use Rattle.dart_types.proofs.Transitive.{trans}
use Rattle.dart_types.proofs.laws.row_laws.Goals as goal

pub returns : goal.returns
returns c =
    let table = c.args._rows.now.table in
    let wf = c.args._rows.now.formed in
    record {
      formed = wf;
      types = record {
        equal_from_same_type = equal_from_same_type;
        same_type-refl = same_type-refl;
        required_from = required_from;
        normal-put-normal = normal-put-normal;
      };
      measures = record {
        left_nullable = left_bare_falls table wf;
        right_nullable = right_bare_falls table wf;
        left_promoted = left_promoted_falls table wf;
        bounds = bound_falls table wf;
        superinterfaces = λ k ss row v t r n h. climb_falls table wf k ss row r n t h;
        arguments = λ k d ss ts s t h i. arguments_fall table wf k d ss ts h i;
        parameters = λ r o r' o' n n' e e' s t h i. params_fall table wf r o r' o' n n' e e' h i;
        named = λ r o r' o' n n' e e' l m s t h i. names_fall table wf r o r' o' n n' e e' h i;
        results = results_fall table wf;
        no_rise = not_above table wf;
      };
      row_id = row_id table wf;
      formed_class = formed_class table wf;
      formed_super = formed_super table wf;
      super_depth = super_depth table wf;
      declared_var = declared_var table wf;
      formed_bound = formed_bound table wf;
      bound_weight = bound_weight table wf;
      bound_deepness = bound_deepness table wf;
      superinterface_simple = λ k row v r h. superinterface_simple table wf h row r;
      superinterface_counted = λ k d ts row r h. counted table wf h row r;
      superinterface_further = λ k d ts row v r h i. superinterface_trans table wf h row r i;
      inherited = λ k v h. inherited table wf h;
      all_kept = λ nothing k v h. super_kept table wf nothing h;
      kept_sound = λ k v. kept_sound table (depth_of table k + 1) k v;
      kept_complete = kept_found table wf;
      kept_below = λ k ss row v r n h. climb_to table wf k ss row r n v h;
      kept_normal_below = λ k ss row v r n h. climb_to_normal table wf k ss row r n v h;
      sub_transitive = λ nothing s t u. trans table wf nothing t s u;
      above_superinterface = λ nothing k ss row v t r n h a. climb_up table wf k ss row r n nothing v t h a;
      below_normal = λ t. (settles table wf t).0;
      normal_below = λ t. (settles table wf t).1;
      nullable_null = λ s t a. nullable_null table a;
      sub_sound = sub_sound table;
      sub_complete = sub_complete table wf;
    }
