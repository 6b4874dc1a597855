use Rattle.type_bounds.proofs.MoreRows.{same_sub, above_large, above_small, upper_large, lower_large}
use Rattle.type_bounds.proofs.OverBounds.{upper_over, lower_over}
use Rattle.type_bounds.proofs.OverRows.{over_above, over_normal, over_put}
use Rattle.type_bounds.proofs.laws.wider_bounds_laws.Goals as goal

pub returns : goal.returns
returns c =
    let small = c.args._small.now.table in
    let large = c.args._large.now.table in
    let more_rows = c.wider_rows_laws.ensures in
    let laws = c.row_laws.ensures in
    let large_laws = c.row_laws-2.ensures in
    record {
      rows = more_rows;
      same_sub = same_sub small large more_rows laws large_laws;
      above_large = λ k ts u a. above_large small large more_rows laws large_laws a;
      above_small = λ k ts u h a. above_small small large more_rows laws large_laws h a;
      above_over = λ k ts u o a. over_above small laws o a;
      upper_large = λ s t u o p a. upper_large small large more_rows laws large_laws a o p;
      lower_large = λ s t u o p a. lower_large small large more_rows laws large_laws a o p;
      upper_over = λ f s t u o p a. upper_over small laws f a o p;
      lower_over = λ f s t u o p a. lower_over small laws f a o p;
      normal_over = over_normal small;
      put_over = over_put small;
    }
