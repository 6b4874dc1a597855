use Rattle.dart_types.specs.Measure.{weight_of}
use Rattle.type_bounds.proofs.non_nulls.+form_non_null.Given as goal

abbrev pub decreases-form_non_null : goal.decreases-form_non_null
decreases-form_non_null l = weight_of l.rows.now.table l.t.now
