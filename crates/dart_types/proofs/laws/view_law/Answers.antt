use Rattle.dart_types.proofs.laws.view_law.Goals as goal

-- the rows themselves are the table
pub returns : goal.returns
returns c = record {
  whole = c.args._rows.now.table;
  left = c.requires;
  right = record { within = record { classes = λ row i. i; vars = λ row i. i }; classes = λ row i h. i; vars = λ row i h. i };
}
