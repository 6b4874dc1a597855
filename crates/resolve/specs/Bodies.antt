-- What a body gives.
use Rattle.std.specs.Prelude.{ℕ, List, []}
use Rattle.dart_tree.specs.Tree.{Tree, block, trees_of}
use Rattle.dart_tree.specs.declared.places.Place.{Place}
use Rattle.dart_types.specs.Tables.{Table}
use Rattle.flow_model.specs.Flow.{start_of}
use Rattle.judgement.specs.declared.meaning.Meaning.{Meaning}
use Rattle.judgement.specs.Given.{Outcome}
use Rattle.judgement.specs.Judgement.{run}
use Rattle.judgement.specs.Surroundings.{of_body}

-- with these classes, lexemes and meanings: the block of these statements, where no local is in scope
abbrev pub run_body : Table → (words : List (List ℕ)) → (outside : List Meaning) → Place → List Tree → Outcome
run_body table words outside at statements = run (of_body table words outside) (block at (trees_of statements)) (start_of [])
