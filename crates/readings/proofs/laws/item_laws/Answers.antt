use Rattle.readings.specs.Items.{sole_braced, loop_goes, loop_skips, loop_ends}
use Rattle.readings.specs.Commits.{offers_within_items}
use Rattle.readings.proofs.laws.item_laws.Goals as goal

pub returns : goal.returns
returns types c = record {
  group = λ opens width past segment error p. sole_braced opens width past segment error p.parses;
  part = λ size segment error p. offers_within_items size segment error p.parses;
  goes = loop_goes;
  skips = loop_skips;
  ends = loop_ends;
}
