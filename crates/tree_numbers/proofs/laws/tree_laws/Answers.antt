use Rattle.tree_numbers.specs.HeightLaws.{height-parts}
use Rattle.tree_numbers.specs.TreeLaws.{height-numbered, bare-numbered, height-bare}
use Rattle.tree_numbers.proofs.laws.tree_laws.Goals as goal

pub returns : goal.returns
returns c = record {
  parts = height-parts;
  numbers = height-numbered;
  bare = bare-numbered;
  words = height-bare;
}
