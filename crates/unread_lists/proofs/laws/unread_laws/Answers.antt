use Rattle.unread_lists.specs.HeightLaws.{height-with_lists}
use Rattle.unread_lists.specs.KeptLaws.{place_of-with_lists, with_lists-kept}
use Rattle.unread_lists.proofs.laws.unread_laws.Goals as goal

pub returns : goal.returns
returns c = record {
  fits = height-with_lists;
  place = place_of-with_lists;
  kept = with_lists-kept;
}
