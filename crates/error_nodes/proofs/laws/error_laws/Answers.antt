use Rattle.std.proofs.Common.{◌≡◌, true, false, inl, inr, ap, flat_map}
use Rattle.dart_tree.specs.Tree.{Tree}
use Rattle.dart_tree.specs.Nodes.{is_error, parts_of}
use Rattle.error_nodes.specs.Errors.{errors_of}
use Rattle.error_nodes.proofs.Parts.{errors-parts}
use Rattle.error_nodes.proofs.Lying.{lies, stands}
use Rattle.error_nodes.proofs.laws.error_laws.Goals as goal

-- a node that is no error node has the errors of its parts
parts_alone : (t : Tree) → is_error t ≡ false → errors_of t ≡ flat_map errors_of (parts_of t)
parts_alone t other = elim (errors-parts t) [
  | inl node ↦ let is : is_error t ≡ true = ap is_error node.1 in absurd (cc)
  | inr parts ↦ parts
]

pub returns : goal.returns
returns c = record {
  places = λ t at. (lies at t, stands at t);
  parts = parts_alone;
}
