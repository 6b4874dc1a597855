use Rattle.type_bounds.proofs.MoreRows.{same_upper, same_lower, same_non_null, same_factor}
use Rattle.type_bounds.proofs.laws.more_rows_laws.Goals as goal

pub returns : goal.returns
returns c =
    let small = c.args._small.now.table in
    let large = c.args._large.now.table in
    let more_rows = c.wider_rows_laws.ensures in
    let laws = c.row_laws.ensures in
    let large_laws = c.row_laws-2.ensures in
    record {
      upper = same_upper small large more_rows laws large_laws;
      lower = same_lower small large more_rows laws large_laws;
      non_null = same_non_null small large more_rows laws large_laws;
      factor = same_factor small large more_rows laws large_laws;
    }
