use Rattle.tree_numbers.specs.NumberLaws.{nodes_in-numbered, numbered-numbered}
use Rattle.tree_numbers.specs.PlaceLaws.{numbers_of-numbered, spans_of-numbered, place_of-first, length-places_of}
use Rattle.tree_numbers.proofs.numbering.numbering_laws.Goals as goal

pub returns : goal.returns
returns c = record {
  in_order = numbers_of-numbered;
  ranges = spans_of-numbered;
  before = place_of-first;
  counted = length-places_of;
  as_many = nodes_in-numbered;
  anew = numbered-numbered;
}
