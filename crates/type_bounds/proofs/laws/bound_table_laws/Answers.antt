use Rattle.type_bounds.proofs.BoundsHold.{upper_holds, lower_holds}
use Rattle.type_bounds.proofs.CommonLists.{above_sound, above_complete}
use Rattle.type_bounds.proofs.NonNulls.{non_null_below}
use Rattle.type_bounds.proofs.OneBound.{one_upper_bound, one_lower_bound}
use Rattle.type_bounds.proofs.laws.bound_table_laws.Goals as goal

pub returns : goal.returns
returns c =
    let table = c.args._rows.now.table in
    let laws = c.row_laws.ensures in
    record {
      rows = laws;
      upper_holds = upper_holds table laws;
      lower_holds = lower_holds table laws;
      one_upper = λ s t u v a b. one_upper_bound table a b;
      one_lower = λ s t u v a b. one_lower_bound table a b;
      above_sound = above_sound table laws;
      above_complete = above_complete table laws;
      non_null_below = non_null_below table;
    }
